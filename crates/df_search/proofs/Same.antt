-- Lines that are added to a log leave all else as it was.
use Rattle.std.proofs.Common.{◌≡◌, ℕ, List, map, length, Vec, refl, sym, ap, ◌∙◌, subst}
use Rattle.std.specs.declared.alloc.Global.{Global}
use Rattle.df_form.specs.Node.{Node}
use Rattle.df_clause.specs.declared.clause.GroundClause as declared
use Rattle.df_closure.specs.Closure.{ground_of}
use Rattle.df_logbuild.specs.declared.derivation.Derivation.{Derivation}
use Rattle.df_trail.specs.declared.trail.Trail.{Trail}
use Rattle.df_trail.specs.Trail.{branch_of}
use Rattle.df_branch.specs.Place.{IsPlace}
use Rattle.df_search.specs.declared.searching.State.{State}
use Rattle.df_search.specs.Searching.{IsSame, IsPlaced}

pub same_not : (state : State) → IsSame state state
same_not state = record { set = refl; clauses = refl; places = refl; nodes = refl; trail = refl }

pub same_log : (old : State) (derivation : Derivation) → derivation.nodes ≡ old.derivation.nodes → IsSame old (record old { derivation = derivation })
same_log old derivation nodes = record { set = refl; clauses = refl; places = refl; nodes = nodes; trail = refl }

pub same_then : (old middle new : State) → IsSame old middle → IsSame middle new → IsSame old new
same_then old middle new one two = record { set = two.set ∙ one.set; clauses = two.clauses ∙ one.clauses; places = two.places ∙ one.places; nodes = two.nodes ∙ one.nodes; trail = two.trail ∙ one.trail }

pub placed_same : (old new : State) → IsSame old new → IsPlaced old → IsPlaced new
placed_same old new same is = record {
  place =
      subst (λ (set : List Node). IsPlace set (map ground_of new.clauses.items) new.derivation.nodes (branch_of new.trail)) (sym same.set)
      (subst (λ (clauses : Vec declared.GroundClause Global). IsPlace old.set (map ground_of clauses.items) new.derivation.nodes (branch_of new.trail)) (sym same.clauses)
      (subst (λ (nodes : List Node). IsPlace old.set (map ground_of old.clauses.items) nodes (branch_of new.trail)) (sym same.nodes)
      (subst (λ (trail : Trail). IsPlace old.set (map ground_of old.clauses.items) old.derivation.nodes (branch_of trail)) (sym same.trail) is.place)));
  places = ap (λ (places : Vec ℕ Global). length places.items) same.places ∙ is.places ∙ ap (λ (clauses : Vec declared.GroundClause Global). length clauses.items) (sym same.clauses);
}
