use Rattle.df_nowed.proofs.Words.{arith, take, ◌∙◌, slice_get_within}
use Rattle.df_nowed.proofs.Fronts.{owed_front}
use Rattle.df_nowed.proofs.Cutting.{count_is, sequent_is, numbered_is, obligation_is}
use Rattle.df_nowed.proofs.obligation.MethodObligations.sequent.Goals as goal

pub front-requires-clause-small : goal.front-requires-clause-small
front-requires-clause-small c =
    let counts = c.args.self.now.counts in
    let there = slice_get_within c.args.self.now.known c.args.obligation.now.place c.args.obligation.now.goal c.requires.2 in
    omega (arith, counts.ok.0, counts.ok.1, counts.small, c.args.self.now.are_counts.long, there)

pub invariant_of-result : goal.invariant_of-result
invariant_of-result c =
    let here = c.args.self.now in
    let one = c.args.obligation.now in
    let count = count_is here.nodes here.known here.counts.items one c.front.result c.index.result.now here.are_counts c.requires c.front.ensures c.index.ensures in
    let cut = c.cut.ensures ∙ (λ i. take (count i) (c.in_ok-nodes.ensures i)) in
    let front = owed_front here.nodes here.known here.counts.items one c.front.result here.are_counts c.requires c.front.ensures in
    record {
      is_sequent = sequent_is here.nodes c.cut.new.self (take one.hypothesis_count here.known) c.in_ok-front.field-0 one.goal _ here.are_counts.table cut c.in_ok-front.ensures front _;
      is_numbered = numbered_is here.nodes c.cut.new.self (take one.hypothesis_count here.known) c.in_ok-front.field-0 one.goal _ here.are_counts.table cut c.in_ok-front.ensures front;
    }

pub returns-clause-owed : goal.returns-clause-owed
returns-clause-owed c =
    let here = c.args.self.now in
    let one = c.args.obligation.now in
    let count = count_is here.nodes here.known here.counts.items one c.front.result c.index.result.now here.are_counts c.requires c.front.ensures c.index.ensures in
    let cut = c.cut.ensures ∙ (λ i. take (count i) (c.in_ok-nodes.ensures i)) in
    let front = owed_front here.nodes here.known here.counts.items one c.front.result here.are_counts c.requires c.front.ensures in
    obligation_is here.nodes c.cut.new.self (take one.hypothesis_count here.known) c.in_ok-front.field-0 one.goal _ here.are_counts.table cut c.in_ok-front.ensures front here.declaration one.pos one.kind
