use Rattle.std.proofs.Common.{◌≡◌, ◌&&◌, true, false, List, length, ap, sym, subst, ◌∙◌, arith}
use Rattle.df_vm_store.specs.declared.equal.Pair.{Pair}
use Rattle.df_vm_store.specs.Meaning.{meanings}
use Rattle.df_vm_store.specs.Equal.{is_same_pair, are_same_pairs, fall, work}
use Rattle.df_vm_store.proofs.Same.{no_pairs, none_left, pushed_pair, found_differ, deferred_pair}
use Rattle.df_vm_store.proofs.Falling.{first_falls, with_first, work_more}
use Rattle.df_vm_store.proofs.equal.compare_all.Goals as goal

pub defer-requires-clause-falls : goal.defer-requires-clause-falls
defer-requires-clause-falls c = first_falls (length c.args.cells.now) c.clear.new.self.items c.args.first c.clear.ensures.items c.requires.left c.requires.right

pub loop-pair-init : goal.loop-pair-init
loop-pair-init c =
    let vs = meanings c.args.cells.now in
    record {
      same =
          ap (are_same_pairs vs) c.defer.ensures.items ∙ deferred_pair vs c.clear.new.self.items c.args.first
          ∙ ap (λ (us : List Pair). are_same_pairs vs us && is_same_pair vs c.args.first) c.clear.ensures.items ∙ ap (λ b. b && is_same_pair vs c.args.first) (no_pairs vs);
      falls = with_first (length c.args.cells.now) c.clear.new.self.items c.defer.new.pending.items c.args.first c.clear.ensures.items c.defer.ensures.items c.requires.left c.requires.right;
      room = c.defer.ensures.room ∙ c.clear.ensures.capacity;
    }

pub compare-requires-clause-falls : goal.compare-requires-clause-falls
compare-requires-clause-falls c = subst (λ us. fall (length c.args.cells.now) (length c.args.cells.now) us ≡ true) c.in-Some.ensures.items c.loop-pair.invariant.falls

pub returns-then-not-compare-clause-same : goal.returns-then-not-compare-clause-same
returns-then-not-compare-clause-same c =
    let vs = meanings c.args.cells.now in
    let apart : is_same_pair vs c.in-Some.pair ≡ false = rw c.if-not-compare.true at c.compare.ensures.compares in
    found_differ _ _ _ _ c.loop-pair.invariant.same (ap (are_same_pairs vs) c.in-Some.ensures.items ∙ pushed_pair vs c.pop.new.self.items c.in-Some.pair) apart

pub loop-pair-smaller : goal.loop-pair-smaller
loop-pair-smaller c =
    let vs = meanings c.args.cells.now in
    omega (arith, c.compare.ensures.less, work_more vs c.pop.new.self.items c.in-Some.pair, ap (work vs) c.in-Some.ensures.items)

pub loop-pair-preserved : goal.loop-pair-preserved
loop-pair-preserved c =
    let vs = meanings c.args.cells.now in
    let new : are_same_pairs vs c.compare.new.pending.items ≡ (are_same_pairs vs c.pop.new.self.items && is_same_pair vs c.in-Some.pair) = rw c.if-not-compare.false at c.compare.ensures.compares in
    record {
      same = new ∙ sym (ap (are_same_pairs vs) c.in-Some.ensures.items ∙ pushed_pair vs c.pop.new.self.items c.in-Some.pair) ∙ c.loop-pair.invariant.same;
      falls = c.compare.ensures.falls;
      room = c.compare.ensures.room ∙ c.pop.ensures.capacity ∙ c.loop-pair.invariant.room;
    }

pub returns-clause-same : goal.returns-clause-same
returns-clause-same c =
    sym (none_left (meanings c.args.cells.now) c.loop-pair.pending.items (omega (arith, c.loop-pair.pending.ok.0, c.loop-pair.pending.ok.1, c.in_default.ensures.cases.0))) ∙ c.loop-pair.invariant.same
