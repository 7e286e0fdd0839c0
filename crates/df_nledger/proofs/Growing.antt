-- Tables that grow keep what ledgers say.
use Rattle.df_nledger.proofs.Words.{◌≡◌, ℕ, Bool, true, false, cond, List, [], ◌∷◌, ◌++◌, Option, refl, sym, ap, ◌∙◌, subst, map-append, all_joined, Node, Term, Truths, on_path, Grows, tree_at, IsTerm, Stands, term_stays, is_term, tree_stays, path_term, measured_in, AreMembers, DeclaredMeasured, formula_in, one_said, said_in, AreSaid, IsLedger}
use Rattle.df_npass.specs.Rules as rules
use Rattle.df_nledger.specs.declared.said.Said.{Said}
use Rattle.df_nledger.specs.declared.said.Said.TheVariants as said
use Rattle.df_nledger.proofs.Places.{has_path_stays}
use Rattle.df_nmeas.proofs.Pairs.{members_stay, members_same}

module _ (before now : List Node) (grows : Grows before now) where
  one_same : (one : Said) → IsTerm Truths before (formula_in one) → one_said now one ≡ one_said before one
  one_same (said.Known formula) is = ap rules.Known (tree_stays Truths before now formula grows is)
  one_same (said.Owed at kind formula) is = ap (rules.Owed at kind) (tree_stays Truths before now formula grows is)

  pub said_same : (all : List Said) → AreSaid before all → said_in now all ≡ said_in before all
  said_same [] are = refl
  said_same (one ∷ others) are = ap (λ (s : rules.Said). s ∷ said_in now others) (one_same one are.0) ∙ ap (λ (ss : List rules.Said). one_said before one ∷ ss) (said_same others are.1)

  pub said_stay : (all : List Said) → AreSaid before all → AreSaid now all
  said_stay [] are = tt
  said_stay (one ∷ others) are = (term_stays Truths before now (formula_in one) grows are.0, said_stay others are.1)

  -- and one thing more is said
  pub said_more : (all : List Said) (one : Said) → AreSaid before all → said_in now (all ++ one ∷ []) ≡ said_in before all ++ one_said now one ∷ []
  said_more all one are = map-append (one_said now) all (one ∷ []) ∙ ap (λ (ss : List rules.Said). ss ++ one_said now one ∷ []) (said_same all are)

  pub are_said_more : (all : List Said) (one : Said) → AreSaid before all → IsTerm Truths now (formula_in one) → AreSaid now (all ++ one ∷ [])
  are_said_more all one are is = all_joined (λ (s : Said). IsTerm Truths now (formula_in s)) all (one ∷ []) (said_stay all are) (is, tt)

  -- a ledger stays one
  pub ledger_stays : (path : Option ℕ) (all : List Said) → IsLedger before path all → IsLedger now path all
  ledger_stays path all is = record { path_is = has_path_stays before now path grows is.path_is; are_said = said_stay all is.are_said }

  pub ledger_grows : (path : Option ℕ) (all : List Said) (one : Said) → IsLedger before path all → IsTerm Truths now (formula_in one) → IsLedger now path (all ++ one ∷ [])
  ledger_grows path all one is formula = record { path_is = has_path_stays before now path grows is.path_is; are_said = are_said_more all one is.are_said formula }

  -- whether or not there is room for what is said
  pub ledger_either : (path : Option ℕ) (all after : List Said) (one : Said) (b : Bool) → after ≡ cond b (all ++ one ∷ []) all → IsLedger before path all → IsTerm Truths now (formula_in one) → IsLedger now path after
  ledger_either path all after one true e is formula = subst (IsLedger now path) (sym e) (ledger_grows path all one is formula)
  ledger_either path all after one false e is formula = subst (IsLedger now path) (sym e) (ledger_stays path all is)

  pub measured_stay : (all : List DeclaredMeasured) → AreMembers before all → AreMembers now all
  measured_stay all are = members_stay before now all grows are

  pub measured_same : (all : List DeclaredMeasured) → AreMembers before all → measured_in now all ≡ measured_in before all
  measured_same all are = members_same before now all grows are

-- a formula on a path is one
pub on_path_term : (before now : List Node) (path : Option Term) (formula n : ℕ) → IsTerm Truths before formula → Stands now (on_path path (tree_at before formula)) n → IsTerm Truths now n
on_path_term before now path formula n is stands = is_term now Truths (on_path path (tree_at before formula)) n stands (path_term path (tree_at before formula) is.sort_is)
