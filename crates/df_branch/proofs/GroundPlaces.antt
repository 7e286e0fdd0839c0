-- The ground set of a sequent, with no branch yet, is a place of a search.
use Rattle.std.proofs.Common.{false, [], length, refl, arith}
use Rattle.std.proofs.lemmas.List.{take_all}
use Rattle.df_lemmas.proofs.Truths.{true_is_not_false}
use Rattle.df_form.specs.Sequent.{Sequent, IsSequent}
use Rattle.df_clause.specs.declared.ground.Ground.{Ground}
use Rattle.df_clause.specs.GroundView.{IsGround}
use Rattle.df_closure.specs.Full.{IsConsistent}
use Rattle.df_branch.specs.Place.{IsPlace}
use Rattle.df_branch.proofs.GroundMeanings.{have_meanings}

none_consistent : IsConsistent []
none_consistent l here there = absurd (true_is_not_false false here refl)

pub ground_place : (s : Sequent) (g : Ground) → IsSequent s → IsGround s g → IsPlace g.nodes g.clauses g.nodes []
ground_place s g valid is = record {
  table = is.table;
  begins = take_all (length g.nodes) g.nodes (omega arith);
  formulas = refl;
  consistent = none_consistent;
  clause_formulas = is.literals;
  meanings = have_meanings s g is;
}
