use Rattle.df_nflow.proofs.Words.{◌≡◌, ℕ, List, ◌∙◌, sym, subst, call_of, program_of, measured_in, IsCall, ledger_of, way_of, with_fresh, standing_of, Standing, Moves, setting_of, pass_call, saying}
use Rattle.df_nflow.proofs.Terms.{locals_are}
use Rattle.df_nflow.proofs.Passing.{gives, is_passed}
use Rattle.df_nflow.proofs.Standings.{moves_with}
use Rattle.df_nflow.proofs.passed.Passed.call.Goals as goal

pub invariant_of-self : goal.invariant_of-self
invariant_of-self c = record { is_passed = is_passed c.args.self.now c.call.new.self c.call.ensures.grows }

pub call-requires-clause-call : goal.call-requires-clause-call
call-requires-clause-call c =
    let s = c.args.self.now in
    subst (λ (ns : List ℕ). IsCall s.ledger.nodes (program_of c.args.setting.now.program.now) ns (call_of c.args.call.now)) (sym c.deref-2.ensures.value)
    (record { types = s.types.items; typed = c.requires; locals = locals_are s.ledger.nodes s.types.items s.terms.items s.is_passed.have_terms })

pub returns-clause-moves : goal.returns-clause-moves
returns-clause-moves c =
    let s = c.args.self.now in
    let fresh = (standing_of s).fresh in
    let d = c.deref.ensures.value in
    let e = c.deref-2.ensures.value in
    let one = pass_call (setting_of c.args.setting.now (standing_of s).entry) (call_of c.args.call.now) (standing_of s).way fresh in
    let same : pass_call (setting_of c.args.setting.now (measured_in s.ledger.nodes c.deref.result.now)) (call_of c.args.call.now) (way_of s.ledger c.deref-2.result.now) fresh ≡ one =
    (λ i. pass_call (setting_of c.args.setting.now (measured_in s.ledger.nodes (d i))) (call_of c.args.call.now) (way_of s.ledger (e i)) fresh) in
    let gave = gives s c.call.new.self c.call.ensures.grows one.said one.fresh (c.in_ok-call.ensures.given.ledger ∙ (λ i. with_fresh (same i).said (same i).fresh (ledger_of s.ledger))) in
    subst (λ (a : Standing). Moves (standing_of s) (saying one.said one.fresh (standing_of s).way) a) (sym gave) (moves_with (standing_of s) one.said one.fresh)
