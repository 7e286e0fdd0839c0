-- Ledgers over tables that grow.
use Rattle.df_nledger.proofs.Words.{◌≡◌, ℕ, suc, List, [], ◌∷◌, ◌++◌, length, Option, Result, Ok, Err, OnOk, refl, sym, ap, ◌∙◌, arith, AllByRecursion, append-nil, length-append, Node, Term, Truths, terms_of, disjunction, Grows, sort_of_term, trees_at, path_in, IsTerm, path_same, one_said, said_in, AreSaid, HasPath, IsLedger, Ledger, saying, with_fresh}
use Rattle.df_npass.specs.Rules as rules
use Rattle.df_nledger.specs.declared.said.Said.{Said}
use Rattle.df_nledger.proofs.Growing.{said_same, said_more}
use Rattle.df_nledger.proofs.Places.{path_is}

abbrev pub ledger : List rules.Said → ℕ → Option Term → Ledger
ledger all fresh path = record { said = all; fresh = fresh; path = path }

-- in a table that has grown a ledger says what it said
pub ledger_same : (before now : List Node) (all : List Said) (frees : List ℕ) (path : Option ℕ) → Grows before now → AreSaid before all → HasPath before path
    → ledger (said_in now all) (length frees) (path_in now path) ≡ ledger (said_in before all) (length frees) (path_in before path)
ledger_same before now all frees path grows are is =
    ap (λ (ss : List rules.Said). ledger ss (length frees) (path_in now path)) (said_same before now grows all are)
    ∙ ap (λ (p : Option Term). ledger (said_in before all) (length frees) p) (path_same before now path grows (path_is before path is))

-- and where one thing more is said, that too
pub ledger_more : (before now : List Node) (all : List Said) (frees : List ℕ) (path : Option ℕ) (one : Said) (tree : rules.Said) → Grows before now → AreSaid before all → HasPath before path
    → one_said now one ≡ tree
    → ledger (said_in now (all ++ one ∷ [])) (length frees) (path_in now path) ≡ ledger (said_in before all ++ tree ∷ []) (length frees) (path_in before path)
ledger_more before now all frees path one tree grows are is e =
    ap (λ (ss : List rules.Said). ledger ss (length frees) (path_in now path)) (said_more before now grows all one are ∙ ap (λ (s : rules.Said). said_in before all ++ s ∷ []) e)
    ∙ ap (λ (p : Option Term). ledger (said_in before all ++ tree ∷ []) (length frees) p) (path_same before now path grows (path_is before path is))

module _ (before now : List Node) (all : List Said) (frees : List ℕ) (path : Option ℕ) (grows : Grows before now) (is : IsLedger before path all) where
  pub ledger_keeps : ledger (said_in now all) (length frees) (path_in now path) ≡ ledger (said_in before all) (length frees) (path_in before path)
  ledger_keeps = ledger_same before now all frees path grows is.are_said is.path_is

  pub ledger_says : (after : List Said) (one : Said) (tree : rules.Said) → after ≡ all ++ one ∷ [] → one_said now one ≡ tree
      → ledger (said_in now after) (length frees) (path_in now path) ≡ saying (tree ∷ []) (ledger (said_in before all) (length frees) (path_in before path))
  ledger_says after one tree e same =
      ap (λ (z : List Said). ledger (said_in now z) (length frees) (path_in now path)) e ∙ ledger_more before now all frees path one tree grows is.are_said is.path_is same

  -- the next free term
  pub ledger_frees : (more : List ℕ) (n : ℕ) → more ≡ frees ++ n ∷ []
      → ledger (said_in now all) (length more) (path_in now path) ≡ with_fresh [] (suc (length frees)) (ledger (said_in before all) (length frees) (path_in before path))
  ledger_frees more n e =
      let long : length more ≡ suc (length frees) = omega (arith, ap (λ (ns : List ℕ). length ns) e, length-append frees (n ∷ [])) in
      let kept = ledger_keeps in
      (λ i. record { said = (kept i).said; fresh = long i; path = (kept i).path }) ∙ (λ i. record { said = sym (append-nil (said_in before all)) i; fresh = suc (length frees); path = path_in before path })

pub on_ok : {A E P : Type 0} (r : Result A E) → P → OnOk r P
on_ok (Ok x) p = p
on_ok (Err e) p = tt

pub on_ok_then : {A E P Q : Type 0} (r : Result A E) → OnOk r P → (P → Q) → OnOk r Q
on_ok_then (Ok x) p f = f p
on_ok_then (Err e) p f = tt

-- one of several formulas is a formula
pub disjunction_is : (nodes : List Node) (ns : List ℕ) → AllByRecursion (IsTerm Truths nodes) ns → sort_of_term (disjunction (terms_of (trees_at nodes ns))) ≡ Truths
disjunction_is nodes [] all = refl
disjunction_is nodes (n ∷ []) all = all.0.sort_is
disjunction_is nodes (n ∷ m ∷ ns) all = refl
