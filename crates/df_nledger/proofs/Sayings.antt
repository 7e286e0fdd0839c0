-- Ledgers in which one thing is said after another.
use Rattle.df_nledger.proofs.Words.{◌≡◌, ◌<◌, ℕ, zero, suc, List, [], ◌∷◌, ◌++◌, length, get_or, sym, ap, ◌∙◌, subst, append_assoc, arith, None, refl, AllByRecursion, append-nil, map-append, Ledger, saying, Said, Owed, Way, assert_all, assert_measure, DeclaredCondition, AreConditions, conditions_in, Adds, Measure, Node, Condition, under, on_path, conditions_of, conditions_of_measure}
use Rattle.df_meaning.specs.declared.kind.Kind.TheVariants as kinds

pub say_none : (l : Ledger) → saying [] l ≡ l
say_none l = λ i. record { said = append-nil l.said i; fresh = l.fresh; path = l.path }

pub say_both : (first second : List Said) (l : Ledger) → saying second (saying first l) ≡ saying (first ++ second) l
say_both first second l = λ i. record { said = append_assoc l.said first second i; fresh = l.fresh; path = l.path }

-- one thing after the other, and then the rest
pub say_next : (old here next : Ledger) (whole said rest : List Said) → saying (said ++ rest) here ≡ saying whole old → next ≡ saying said here → saying rest next ≡ saying whole old
say_next old here next whole said rest so step = ap (saying rest) step ∙ say_both said rest here ∙ so

pub say_last : (old here : Ledger) (whole : List Said) → saying [] here ≡ saying whole old → here ≡ saying whole old
say_last old here whole so = sym (say_none here) ∙ so

-- the place stays
pub same_path : (old here : Ledger) (whole rest : List Said) → saying rest here ≡ saying whole old → here.path ≡ old.path
same_path old here whole rest so = ap (λ (l : Ledger). l.path) so

-- an element of a list, all of which are so
pub at_index : {A : Type 0} (P : A → Type 0) (xs : List A) (i : ℕ) (x : A) → AllByRecursion P xs → i < length xs → x ≡ get_or xs i x → P x
at_index P [] i x all lt e = absurd (omega arith)
at_index P (y ∷ xs) zero x all lt e = subst P (sym e) all.0
at_index P (y ∷ xs) (suc k) x all lt e = at_index P xs k x all.1 (omega arith) e

-- what is read beside a list of conditions
abbrev pub no_condition : DeclaredCondition
no_condition = record { pos = record { line = 0; col = 0 }; kind = kinds.Assert; formula = 0 }

module _ (nodes : List Node) (asked : List Condition) (before after seen : List DeclaredCondition) (adds : Adds nodes asked before after) (none : before ≡ []) (same : seen ≡ after) where
  all_seen : seen ≡ adds.more
  all_seen = same ∙ adds.is ∙ ap (λ (cs : List DeclaredCondition). cs ++ adds.more) none

  pub asked_are : AreConditions nodes seen
  asked_are = subst (AreConditions nodes) (sym all_seen) adds.are

  pub asked_same : conditions_in nodes seen ≡ asked
  asked_same = ap (conditions_in nodes) all_seen ∙ adds.conditions_are

-- where all runs come, what is asked is asked
pub under_none : (asked : List Condition) → under None asked ≡ asked
under_none [] = refl
under_none (c ∷ asked) = ap (λ (cs : List Condition). c ∷ cs) (under_none asked)

-- what the members of a measure ask for, one member after another
pub measure_said : (way : Way) (measures : List Measure) → assert_all way.path (conditions_of_measure way.env measures) ≡ assert_measure way measures
measure_said way [] = refl
measure_said way (m ∷ measures) =
    map-append (λ (c : Condition). Owed c.pos c.kind (on_path way.path c.formula)) (conditions_of way.env m.value) (conditions_of_measure way.env measures)
    ∙ ap (λ (said : List Said). assert_all way.path (conditions_of way.env m.value) ++ said) (measure_said way measures)
