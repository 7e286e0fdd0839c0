use Rattle.std.proofs.Common.{◌≡◌, ◌∙◌, ℕ, ℤ, sym, ap, slice_get, map, length, List, [], ◌∷◌, ◌++◌, Option, rules}
use Rattle.std.proofs.lemmas.Int.{to_z-of_z}
use Rattle.df_form.specs.declared.node.Op.{Op}
use Rattle.df_form.specs.Node.{Node, node_of}
use Rattle.df_table.specs.TableModel.{number_at}
use Rattle.df_model.specs.TableNumbers.{Basis, basis_of, narrow_by, first_factor}
use Rattle.df_model.proofs.FrontTables.{number_some, tabulated_none, tabulated_more, tabulated_wide, tabulated_all}
use Rattle.df_model.proofs.tabulation.numbers_of_nodes.Goals as goal

abbrev next : Basis → List Node → Op → List ℕ → List ℤ → Option ℤ
next basis nodes op parts table = narrow_by basis (length table) (first_factor nodes parts) op (map (number_at table) parts)

-- the next number by the table
found : (basis : Basis) (nodes : List Node) (op : Op) (parts : List ℕ) (seen table : List ℤ) (result : Option ℤ) → seen ≡ table → result ≡ next basis nodes op parts seen → next basis nodes op parts table ≡ result
found basis nodes op parts seen table result same is = ap (next basis nodes op parts) (sym same) ∙ sym is

pub loop-node-init : goal.loop-node-init
loop-node-init c = tabulated_none (basis_of c.args.numbers.now c.args.labels.now c.args.facts.now) c.args.nodes.now c.in_ok-table.table.items c.in_ok-table.ensures.items

pub loop-node-preserved : goal.loop-node-preserved
loop-node-preserved c =
    let basis = basis_of c.args.numbers.now c.args.labels.now c.args.facts.now in
    let nodes = c.args.nodes.now in
    let table = c.loop-node.table in
    let node = c.in-Some.node.now in
    let here = ap (slice_get nodes) (sym (c.len-in-loop-node.ensures ∙ table.ok.0)) ∙ sym c.in-Some.ensures.node in
    let number = found basis nodes node.op node.parts.items c.deref.result.now table.items c.next_number.result c.deref.ensures.value c.next_number.ensures in
    let pushed : c.push.new.self.items ≡ table.items ++ c.in-Some-next_number.number ∷ [] = search (rules, to_z-of_z) in
    tabulated_more basis nodes (record { sorted = c.len.ensures.table.sorted }) table.items (node_of node) c.loop-node.invariant here c.in-Some-next_number.number c.push.new.self.items
    (number_some basis (length table.items) (first_factor nodes node.parts.items) node.op (map (number_at table.items) node.parts.items) c.in-Some-next_number.number (number ∙ c.in-Some-next_number.is)) pushed

pub returns-in-None : goal.returns-in-None
returns-in-None c =
    let basis = basis_of c.args.numbers.now c.args.labels.now c.args.facts.now in
    let nodes = c.args.nodes.now in
    let table = c.loop-node.table in
    let node = c.in-Some.node.now in
    let here = ap (slice_get nodes) (sym (c.len-in-loop-node.ensures ∙ table.ok.0)) ∙ sym c.in-Some.ensures.node in
    let number = found basis nodes node.op node.parts.items c.deref.result.now table.items c.next_number.result c.deref.ensures.value c.next_number.ensures in
    tabulated_wide basis nodes (record { sorted = c.len.ensures.table.sorted }) table.items (node_of node) c.loop-node.invariant here (number ∙ c.in-None.is)

pub returns : goal.returns
returns c =
    let basis = basis_of c.args.numbers.now c.args.labels.now c.args.facts.now in
    let nodes = c.args.nodes.now in
    let table = c.loop-node.table in
    let past = ap (slice_get nodes) (sym (c.len-in-loop-node.ensures ∙ table.ok.0)) ∙ sym c.in_default.ensures.node in
    tabulated_all basis nodes (record { sorted = c.len.ensures.table.sorted }) table.items c.loop-node.invariant past
