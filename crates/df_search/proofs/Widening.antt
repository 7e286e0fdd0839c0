-- What is found beside fewer rounds of instances.
use Rattle.std.proofs.Common.{◌≡◌, ℕ, ℤ, ◌+◌, ◌-◌, ◌≤◌, false, List, map, refl, sym, ◌∙◌, subst, arith, true≢false}
use Rattle.df_form.specs.declared.log.Lit.{Lit}
use Rattle.df_form.specs.Node.{Node}
use Rattle.df_form.specs.Sequent.{Sequent}
use Rattle.df_closure.specs.Closure.{GroundClause}
use Rattle.df_trig.specs.Instances.{with_round, instances, AreTooMany}
use Rattle.df_trig.proofs.Settled.{settled}
use Rattle.df_branch.specs.Evidence.{IsGroundIn}
use Rattle.df_search.specs.declared.found.Found.{Found}
use Rattle.df_search.specs.declared.found.Found.TheVariants as found
use Rattle.df_search.specs.declared.found.What.TheVariants as whats
use Rattle.df_search.specs.Found.{HasModel, AreSpent, IsStop, IsTooWide, HasManyRows, Finds, is_model}

module _ (s : Sequent) (own rounds : ℕ) (le : own ≤ rounds) where
  -- ---- evidence but a model is beside any number of rounds within those that may be

  abbrev set_within : (nodes : List Node) (clauses : List GroundClause) → IsGroundIn s own nodes clauses → IsGroundIn s rounds nodes clauses
  set_within nodes clauses g = record {
    set = g.set;
    own = g.own;
    within = omega (arith, le, g.within);
    is_of = g.is_of;
    more = g.more;
    clauses_are = g.clauses_are;
    of_equalities = g.of_equalities;
    equalities = g.equalities;
    table = g.table;
    begins = g.begins;
  }

  abbrev stop_within : (nodes : List Node) (clauses : List GroundClause) (closed : List (List Lit)) (branch : List Lit) → IsStop s own nodes clauses closed branch → IsStop s rounds nodes clauses closed branch
  stop_within nodes clauses closed branch stop = record {
    of_sequent = set_within nodes clauses stop.of_sequent;
    are_closed = stop.are_closed;
    excluded = stop.excluded;
    is_branch = stop.is_branch;
  }

  spent_within : (steps : ℕ) (branches : List (List Lit)) → AreSpent s steps own branches → AreSpent s steps rounds branches
  spent_within steps branches h = record {
    nodes = h.nodes;
    clauses = h.clauses;
    of_sequent = set_within h.nodes h.clauses h.of_sequent;
    closed = h.closed;
    count = h.count;
  }

  wide_within : (closed : List (List Lit)) (branch : List Lit) → IsTooWide s own closed branch → IsTooWide s rounds closed branch
  wide_within closed branch h = record {
    nodes = h.nodes;
    clauses = h.clauses;
    stop = stop_within h.nodes h.clauses closed branch h.stop;
    wide = h.wide;
    consistent = h.consistent;
  }

  rows_within : (closed : List (List Lit)) (branch : List Lit) (count : ℕ) → HasManyRows s own closed branch count → HasManyRows s rounds closed branch count
  rows_within closed branch count h = record {
    nodes = h.nodes;
    clauses = h.clauses;
    stop = stop_within h.nodes h.clauses closed branch h.stop;
    many = h.many;
    consistent = h.consistent;
  }

  many_within : AreTooMany s own → AreTooMany s rounds
  many_within h = record { round = h.round; within = omega (arith, le, h.within); many = h.many }

  pub other_within : (steps : ℕ) (found : Found) → is_model found ≡ false → Finds s steps own found → Finds s steps rounds found
  other_within steps (found.Proved accepted log) other finds = finds
  other_within steps (found.Modelled table) other finds = absurd (true≢false other)
  other_within steps (found.Spent branches) other finds = spent_within steps (map (λ branch. branch.items) branches.items) finds
  other_within steps (found.Wide closed branch) other finds = wide_within (map (λ one. one.items) closed.items) branch.items finds
  other_within steps (found.Many (whats.Instances count)) other finds = (finds.0, many_within finds.1)
  other_within steps (found.Many (whats.Rows count closed branch)) other finds = rows_within (map (λ one. one.items) closed.items) branch.items count finds

  -- ---- where a further round adds nothing, a model is one beside all further rounds

  module _ (nothing : with_round s (instances s own) ≡ instances s own) where
    same_set : instances s rounds ≡ instances s own
    same_set =
        let all : rounds ≡ rounds - own + own = omega (arith, le) in
        settled s own nothing (rounds - own) rounds all

    model_within : (table : List ℤ) → HasModel s own table → HasModel s rounds table
    model_within table h = record { set = h.set; is_of = record { set = h.is_of.set ∙ sym same_set; table = h.is_of.table }; model = h.model }

    pub settled_within : (steps : ℕ) (found : Found) → Finds s steps own found → Finds s steps rounds found
    settled_within steps (found.Proved accepted log) finds = finds
    settled_within steps (found.Modelled table) finds = model_within table finds
    settled_within steps (found.Spent branches) finds = other_within steps (found.Spent branches) refl finds
    settled_within steps (found.Wide closed branch) finds = other_within steps (found.Wide closed branch) refl finds
    settled_within steps (found.Many what) finds = other_within steps (found.Many what) refl finds

-- beside as many rounds as there may be
pub at_most : (s : Sequent) (own rounds : ℕ) → own ≡ rounds → (steps : ℕ) (found : Found) → Finds s steps own found → Finds s steps rounds found
at_most s own rounds e steps found finds = subst (λ (r : ℕ). Finds s steps r found) e finds
