-- Where passing stands once its ledger has gone on.
use Rattle.df_nflow.proofs.Words.{◌≡◌, ℕ, List, sym, ap, ◌∙◌, subst, Grows, AreLocals, Said, ledger_of, way_of, with_fresh, DeclaredLedger, standing_of, Standing, also, IsPassed}
use Rattle.df_nledger.specs.Ledger.{saying}
use Rattle.df_nflow.specs.declared.passed.Passed.{Passed as DeclaredPassed}
use Rattle.df_nflow.proofs.Waiting.{passed_stays}
use Rattle.df_nflow.proofs.Terms.{locals_are}
use Rattle.df_nflow.proofs.Standings.{standing, also_fresh, standing_also, standing_keeps, standing_with}

module _ (s : DeclaredPassed) (l : DeclaredLedger) (grows : Grows s.ledger.nodes l.nodes) where
  pub is_passed : IsPassed l.nodes s.types.items s.terms.items s.entry.items s.trail.items s.breaks.items s.returns.items
  is_passed = passed_stays s.ledger.nodes l.nodes grows s.types.items s.terms.items s.entry.items s.trail.items s.breaks.items s.returns.items s.is_passed

  abbrev pub gone_on : Standing
  gone_on = standing l s.types.items s.terms.items s.entry.items s.trail.items s.breaks.items s.returns.items

  pub says : (said : List Said) → ledger_of l ≡ saying said (ledger_of s.ledger) → gone_on ≡ also said (standing_of s)
  says said e = standing_also s.ledger l s.types.items s.terms.items s.entry.items s.trail.items s.breaks.items s.returns.items grows s.is_passed said e

  pub keeps : ledger_of l ≡ ledger_of s.ledger → gone_on ≡ standing_of s
  keeps e = standing_keeps s.ledger l s.types.items s.terms.items s.entry.items s.trail.items s.breaks.items s.returns.items grows s.is_passed e

  -- its locals have terms
  pub locals : (terms : List ℕ) → terms ≡ s.terms.items → AreLocals l.nodes s.types.items terms
  locals terms e = subst (AreLocals l.nodes s.types.items) (sym e) (locals_are l.nodes s.types.items s.terms.items is_passed.have_terms)

  -- and the way stays
  pub way_stays : (terms : List ℕ) (said : List Said) → terms ≡ s.terms.items → ledger_of l ≡ saying said (ledger_of s.ledger) → way_of l terms ≡ (standing_of s).way
  way_stays terms said e step = ap (way_of l) e ∙ ap (λ (a : Standing). a.way) (says said step)

  pub gives : (said : List Said) (fresh : ℕ) → ledger_of l ≡ with_fresh said fresh (ledger_of s.ledger) → gone_on ≡ also_fresh said fresh (standing_of s)
  gives said fresh e = standing_with s.ledger l s.types.items s.terms.items s.entry.items s.trail.items s.breaks.items s.returns.items grows s.is_passed said fresh e
