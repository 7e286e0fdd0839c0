use Rattle.std.proofs.Common.{◌≡◌, ◌<◌, ◌+◌, ℕ, List, true, sym, ap, subst, ◌∙◌, arith, length, take, slice_get}
use Rattle.df_form.specs.Node.{Node, node_of}
use Rattle.df_form.specs.Made.{made}
use Rattle.df_form.specs.Sorting.{is_well_sorted}
use Rattle.df_form.proofs.Tables.{copied-next, copied-whole}
use Rattle.df_form.proofs.arena.add_rest.Goals as goal

pub add-requires : goal.add-requires
add-requires g c =
    let nodes : List Node = g.B.NodeTable.nodes c.args.nodes.now in
    let copy : List Node = g.A.NodeTable.nodes c.loop-node.copy in
    let node : Node = node_of c.in-Some.node.now in
    let front : take c.len.result nodes ≡ copy = ap (λ (k : ℕ). take k nodes) c.len.ensures.len ∙ sym c.loop-node.invariant in
    let sorted : is_well_sorted copy node ≡ true = subst (λ (table : List Node). is_well_sorted table node ≡ true) front c.in-Some.ensures.sorted in
    subst (λ (parts : List ℕ). is_well_sorted copy (record { op = node.op; parts = parts }) ≡ true) (sym c.as_slice.ensures.value) sorted

pub loop-node-smaller : goal.loop-node-smaller
loop-node-smaller g c =
    let nodes : List Node = g.B.NodeTable.nodes c.args.nodes.now in
    let copy : List Node = g.A.NodeTable.nodes c.loop-node.copy in
    let after : List Node = g.A.NodeTable.nodes c.add.new.self in
    let node : Node = node_of c.in-Some.node.now in
    let at = ap (slice_get nodes) (sym c.len.ensures.len) ∙ sym c.in-Some.ensures.node in
    let made_is = (λ i. made copy (record { op = node.op; parts = sym c.as_slice.ensures.value i })) ∙ c.in_ok-add.ensures.made in
    let step : (after ≡ take (length after) nodes) × (length after ≡ length copy + 1) × (length copy < length nodes) = copied-next nodes copy after node c.in_ok-add.field-0 c.len-nodes.ensures.table c.loop-node.invariant at made_is in
    omega (arith, step.1, step.2)

pub loop-node-preserved : goal.loop-node-preserved
loop-node-preserved g c =
    let nodes : List Node = g.B.NodeTable.nodes c.args.nodes.now in
    let copy : List Node = g.A.NodeTable.nodes c.loop-node.copy in
    let after : List Node = g.A.NodeTable.nodes c.add.new.self in
    let node : Node = node_of c.in-Some.node.now in
    let at = ap (slice_get nodes) (sym c.len.ensures.len) ∙ sym c.in-Some.ensures.node in
    let made_is = (λ i. made copy (record { op = node.op; parts = sym c.as_slice.ensures.value i })) ∙ c.in_ok-add.ensures.made in
    (copied-next nodes copy after node c.in_ok-add.field-0 c.len-nodes.ensures.table c.loop-node.invariant at made_is).0

pub returns : goal.returns
returns g c =
    let nodes : List Node = g.B.NodeTable.nodes c.args.nodes.now in
    let copy : List Node = g.A.NodeTable.nodes c.loop-node.copy in
    copied-whole nodes copy c.loop-node.invariant (ap (slice_get nodes) (sym c.len.ensures.len) ∙ sym c.in_default.ensures.node)
