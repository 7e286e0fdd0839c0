use Rattle.df_nflow.proofs.Words.{◌<◌, length, refl, sym, ap, ◌∙◌, subst, arith, tree_at, standing_of, IsKept}
use Rattle.df_nflow.proofs.Terms.{tree_of, kept_at}
use Rattle.df_nflow.proofs.Trailing.{last_kept, stepped, ahead_back, ahead_kept}
use Rattle.df_nflow.proofs.passed.Passed.step_back.Goals as goal

pub returns-in_ok-push-in-Some-clause-standing : goal.returns-in_ok-push-in-Some-clause-standing
returns-in_ok-push-in-Some-clause-standing c =
    let s = c.args.self.now in
    let k = c.in-Some.kept in
    let last = last_kept s.ledger.nodes s.terms.items c.pop.new.self.items k s.trail.items c.in-Some.ensures.items s.types.items s.is_passed.are_kept in
    let within : k.local < length s.terms.items = omega (arith, last.within, s.is_passed.have_terms.many) in
    stepped s.ledger.nodes s.terms.items c.pop.new.self.items k s.trail.items c.in-Some.ensures.items (standing_of s) refl refl within

pub returns-in_ok-push-in-Some-clause-ahead : goal.returns-in_ok-push-in-Some-clause-ahead
returns-in_ok-push-in-Some-clause-ahead c =
    let s = c.args.self.now in
    let k = c.in-Some.kept in
    let nodes = s.ledger.nodes in
    let last = last_kept nodes s.terms.items c.pop.new.self.items k s.trail.items c.in-Some.ensures.items s.types.items s.is_passed.are_kept in
    let within : k.local < length s.terms.items = omega (arith, last.within, s.is_passed.have_terms.many) in
    ahead_back nodes c.args.ahead.now.items c.push.new.self.items (record { local = k.local; term = c.index.result.now }) c.in_ok-push-in-Some.ensures.items s.terms.items k.term within
    (ap (tree_at nodes) c.index.ensures ∙ tree_of nodes s.terms.items k.local c.index.result.now within)

pub returns-in_ok-push-in-Some-clause-are_ahead : goal.returns-in_ok-push-in-Some-clause-are_ahead
returns-in_ok-push-in-Some-clause-are_ahead c =
    let s = c.args.self.now in
    let k = c.in-Some.kept in
    let nodes = s.ledger.nodes in
    let last = last_kept nodes s.terms.items c.pop.new.self.items k s.trail.items c.in-Some.ensures.items s.types.items s.is_passed.are_kept in
    ahead_kept nodes c.args.ahead.now.items c.push.new.self.items (record { local = k.local; term = c.index.result.now }) c.in_ok-push-in-Some.ensures.items s.types.items c.requires
    (subst (IsKept nodes s.types.items k.local) (sym c.index.ensures) (kept_at nodes s.types.items s.terms.items k.local c.index.result.now s.is_passed.have_terms last.within))
