-- What a theory answers to the literals that it holds.
use Rattle.std.specs.Prelude.{List, Contains, map}
use Rattle.df_form.specs.declared.log.Lit.{Lit}
use Rattle.df_form.specs.Node.{Node}
use Rattle.df_form.specs.Clause.{negation}
use Rattle.df_rules.specs.Congruence.{IsCongruence}
use Rattle.df_cong.specs.declared.answer.Reason.{Reason}
use Rattle.df_cong.specs.declared.answer.Answer.{Answer}
use Rattle.df_cong.specs.declared.answer.Answer.TheVariants as answers
use Rattle.df_classes.specs.Equal.{IsContradicted}

-- A line of congruence has just the negations of some held literals in its clause.
pub record IsReason (nodes : List Node) (held : List Lit) (reason : Reason) : Type 0 where
  pub line : IsCongruence nodes (map negation reason.literals.items) reason.pairs.items
  pub from_held : (l : Lit) → Contains reason.literals.items l → Contains held l

-- It is quiet only where the least congruence of the held equalities contradicts no held literal.
abbrev pub IsAnswer : List Node → List Lit → Answer → Type 0
IsAnswer nodes held answers.Quiet = IsContradicted nodes (map negation held) → ⊥
IsAnswer nodes held (answers.Conflict reason) = IsReason nodes held reason
