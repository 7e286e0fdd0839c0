-- What held literals come to.
use Rattle.std.proofs.Common.{◌≡◌, ℕ, zero, suc, true, false, List, [], ◌∷◌, ◌++◌, map, take, Contains, Result, Ok, Err, OnOk, OnErr, refl, sym, ap, ◌∙◌, subst}
use Rattle.std.proofs.lemmas.Bool.{and_parts, and_from}
use Rattle.df_form.specs.declared.log.Lit.{Lit}
use Rattle.df_form.specs.Node.{Node}
use Rattle.df_form.specs.Sorting.{is_formula}
use Rattle.df_form.specs.Clause.{negation, are_literals}
use Rattle.df_rules.specs.Congruence.{IsCongruence}
use Rattle.df_cong.specs.declared.answer.Reason.{Reason}
use Rattle.df_classes.specs.declared.holding.Holding.{Holding}
use Rattle.df_classes.specs.Equal.{IsContradicted}
use Rattle.df_cong.specs.Theory.{IsReason}
use Rattle.df_classes.specs.HoldingView.{IsHolding}
use Rattle.df_classes.specs.PartitionView.{state_of}
use Rattle.df_classes.specs.mirror.State.{label_of}
use Rattle.df_classes.specs.mirror.Clash.{clash, AreNumbers}
use Rattle.df_classes.proofs.Clashes.{line_there, quiet}

module _ (nodes : List Node) (numbers : List ℕ) (h : Holding) (is : IsHolding nodes h.held.items h.levels.items h.partition) where
  pub is_reason : are_literals nodes h.held.items ≡ true → true ≡ clash nodes (label_of (state_of h.partition)) numbers h.held.items → (reason : Reason) → reason.literals.items ≡ h.held.items → reason.pairs.items ≡ h.partition.pairs.items → IsReason nodes h.held.items reason
  is_reason literals e reason literals_are pairs_are = record {
    line =
        subst (λ (ls : List Lit). IsCongruence nodes (map negation ls) reason.pairs.items) (sym literals_are)
        (subst (IsCongruence nodes (map negation h.held.items)) (sym pairs_are) (line_there nodes h.held.items h.partition.pairs.items (state_of h.partition) numbers is.stands literals (sym e)));
    from_held = λ l there. subst (λ (ls : List Lit). Contains ls l) literals_are there;
  }

  pub is_quiet : AreNumbers nodes numbers → false ≡ clash nodes (label_of (state_of h.partition)) numbers h.held.items → IsContradicted nodes (map negation h.held.items) → ⊥
  is_quiet are e = quiet nodes h.held.items h.partition.pairs.items (state_of h.partition) numbers is.stands are (sym e)

-- literals are of formulas
pub literals_more : (nodes : List Node) (held : List Lit) (l : Lit) → are_literals nodes held ≡ true → is_formula nodes l.node ≡ true → are_literals nodes (held ++ l ∷ []) ≡ true
literals_more nodes [] l e f = and_from (is_formula nodes l.node) true f refl
literals_more nodes (m ∷ others) l e f =
    let parts = and_parts (is_formula nodes m.node) (are_literals nodes others) e in and_from (is_formula nodes m.node) (are_literals nodes (others ++ l ∷ [])) parts.0 (literals_more nodes others l parts.1 f)

pub literals_fewer : (nodes : List Node) (held : List Lit) (count : ℕ) → are_literals nodes held ≡ true → are_literals nodes (take count held) ≡ true
literals_fewer nodes held zero e = refl
literals_fewer nodes [] (suc count) e = refl
literals_fewer nodes (m ∷ others) (suc count) e =
    let parts = and_parts (is_formula nodes m.node) (are_literals nodes others) e in and_from (is_formula nodes m.node) (are_literals nodes (take count others)) parts.0 (literals_fewer nodes others count parts.1)

-- after an answer
pub literals_after : {A E : Type 0} (nodes : List Node) (old new : List Lit) (l : Lit) (r : Result A E) → are_literals nodes old ≡ true → is_formula nodes l.node ≡ true → OnOk r (new ≡ old ++ l ∷ []) → OnErr r (new ≡ old) → are_literals nodes new ≡ true
literals_after nodes old new l (Ok x) e f holds err = ap (are_literals nodes) holds ∙ literals_more nodes old l e f
literals_after nodes old new l (Err x) e f holds err = ap (are_literals nodes) err ∙ e
