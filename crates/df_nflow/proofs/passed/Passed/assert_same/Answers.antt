use Rattle.df_nflow.proofs.Words.{◌<◌, length, ap, ◌∙◌, arith, slice_get_within, tree_at, grows_then, equal_in, standing_of, ledger_keeps, on_ok_then, assert}
use Rattle.df_meaning.specs.declared.kind.Kind.TheVariants as kinds
use Rattle.df_nledger.specs.Ledger.{saying}
use Rattle.df_nflow.proofs.Changes.{type_at}
use Rattle.df_nflow.proofs.Standings.{standing_also}
use Rattle.df_nflow.proofs.Terms.{tree_of}
use Rattle.df_nflow.proofs.Waiting.{passed_stays}
use Rattle.df_nflow.proofs.Passing.{is_passed}
use Rattle.df_nledger.proofs.Growing.{ledger_stays}
use Rattle.df_nflow.proofs.passed.Passed.assert_same.Goals as goal

pub invariant_of-self : goal.invariant_of-self
invariant_of-self c = let s = c.args.self.now in (ledger_stays s.ledger.nodes c.equal_in.new.nodes c.equal_in.ensures.grows s.ledger.path s.ledger.said.items s.ledger.is_ledger, tt)

pub invariant_of-self-in-Break-1 : goal.invariant_of-self-in-Break-1
invariant_of-self-in-Break-1 c = let s = c.args.self.now in record { is_passed = passed_stays s.ledger.nodes c.equal_in.new.nodes c.equal_in.ensures.grows s.types.items s.terms.items s.entry.items s.trail.items s.breaks.items s.returns.items s.is_passed }

pub invariant_of-self-2 : goal.invariant_of-self-2
invariant_of-self-2 c = record { is_passed = is_passed c.args.self.now c.assert.new.self (grows_then _ _ _ c.equal_in.ensures.grows c.assert.ensures.grows) }

pub returns-clause-same : goal.returns-clause-same
returns-clause-same c =
    let s = c.args.self.now in
    let target = c.args.target.now in
    let nodes = s.ledger.nodes in
    let way = (standing_of s).way in
    let typed : target.local < length s.types.items = slice_get_within s.types.items target.local target.ty (type_at s.types.items target.local target.ty c.requires.local) in
    let within : target.local < length s.terms.items = omega (arith, typed, s.is_passed.have_terms.many) in
    let last = ap (tree_at nodes) c.index-last.ensures ∙ tree_of nodes s.terms.items target.local c.index-last.result.now within in
    let kept = ledger_keeps s.ledger.nodes c.equal_in.new.nodes s.ledger.said.items s.ledger.frees.items s.ledger.path c.equal_in.ensures.grows s.ledger.is_ledger in
    let tree = c.in_ok-equal.ensures.stands.tree_is ∙ ap (equal_in target.ty (tree_at nodes c.args.term)) last in
    on_ok_then c.assert.result c.assert.ensures.ledger (λ then. standing_also s.ledger c.assert.new.self s.types.items s.terms.items s.entry.items s.trail.items s.breaks.items s.returns.items (grows_then s.ledger.nodes c.equal_in.new.nodes c.assert.new.self.nodes c.equal_in.ensures.grows c.assert.ensures.grows) s.is_passed (assert way.path target.pos kinds.Distinct (equal_in target.ty (tree_at nodes c.args.term) (way.env target.local))) (then ∙ (λ i. saying (assert (kept i).path target.pos kinds.Distinct (tree i)) (kept i))))

-- ---- on every way out

pub returns-clause-grows : goal.returns-clause-grows
returns-clause-grows c = grows_then _ _ _ c.equal_in.ensures.grows c.assert.ensures.grows
