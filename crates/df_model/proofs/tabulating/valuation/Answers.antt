use Rattle.std.proofs.Common.{◌≡◌, ◌∙◌, ℕ, ℤ, sym, ap, refl, slice_get, map, length, List, [], ◌∷◌, ◌++◌, Option, rules}
use Rattle.std.proofs.lemmas.Int.{to_z-of_z}
use Rattle.df_form.specs.World.{world_of}
use Rattle.df_form.specs.World.{World, world_of}
use Rattle.df_form.specs.declared.node.Op.{Op}
use Rattle.df_form.specs.Node.{node_of}
use Rattle.df_form.specs.Clause.{yes}
use Rattle.df_rules.specs.declared.known.Known.{Known}
use Rattle.df_rules.specs.Known.{knows}
use Rattle.df_table.specs.TableModel.{number_at}
use Rattle.df_model.specs.Valuation.{assignment_by}
use Rattle.df_model.specs.Numbers.{narrow_by, free_by}
use Rattle.df_model.proofs.Tables.{tabled_none, tabled_more, tabled_wide, tabled_all}
use Rattle.df_model.proofs.tabulating.valuation.Goals as goal

pub loop-node-init : goal.loop-node-init
loop-node-init c = tabled_none (world_of c.args.world) (assignment_by c.args.nodes.now c.args.numbers.now c.args.known.now) c.args.nodes.now c.in_ok-table.table.items c.in_ok-table.ensures.items

abbrev next : World → List ℤ → Known → Op → List ℕ → List ℤ → Option ℤ
next world numbers known op parts table = narrow_by world (λ free. free_by (number_at numbers (length table)) (knows known (yes (length table))) free.sort) op (map (number_at table) parts)

-- the next number by the table
found : (world : World) (numbers : List ℤ) (known : Known) (op : Op) (parts : List ℕ) (seen table : List ℤ) (result : Option ℤ) → seen ≡ table → result ≡ next world numbers known op parts seen → next world numbers known op parts table ≡ result
found world numbers known op parts seen table result same is = ap (next world numbers known op parts) (sym same) ∙ sym is

pub loop-node-preserved : goal.loop-node-preserved
loop-node-preserved c =
    let table = c.loop-node.table in
    let node = c.in-Some.node.now in
    let here = ap (slice_get c.args.nodes.now) (sym (c.len-in-loop-node.ensures ∙ table.ok.0)) ∙ sym c.in-Some.ensures.node in
    let number = found (world_of c.args.world) c.args.numbers.now c.args.known.now node.op node.parts.items c.deref.result.now table.items c.next_number.result c.deref.ensures.value c.next_number.ensures in
    let pushed : c.push.new.self.items ≡ table.items ++ c.in-Some-next_number.number ∷ [] = search (rules, to_z-of_z) in
    tabled_more (world_of c.args.world) (number_at c.args.numbers.now) (λ n. knows c.args.known.now (yes n)) c.args.nodes.now table.items (length table.items) (node_of node)
    c.len.ensures.table c.loop-node.invariant refl here c.in-Some-next_number.number c.push.new.self.items (number ∙ c.in-Some-next_number.is) pushed

pub returns-in-None : goal.returns-in-None
returns-in-None c =
    let table = c.loop-node.table in
    let node = c.in-Some.node.now in
    let here = ap (slice_get c.args.nodes.now) (sym (c.len-in-loop-node.ensures ∙ table.ok.0)) ∙ sym c.in-Some.ensures.node in
    let number = found (world_of c.args.world) c.args.numbers.now c.args.known.now node.op node.parts.items c.deref.result.now table.items c.next_number.result c.deref.ensures.value c.next_number.ensures in
    tabled_wide (world_of c.args.world) (number_at c.args.numbers.now) (λ n. knows c.args.known.now (yes n)) c.args.nodes.now table.items (length table.items) (node_of node)
    c.len.ensures.table c.loop-node.invariant refl here (number ∙ c.in-None.is)

pub returns : goal.returns
returns c =
    let table = c.loop-node.table in
    let past = ap (slice_get c.args.nodes.now) (sym (c.len-in-loop-node.ensures ∙ table.ok.0)) ∙ sym c.in_default.ensures.node in
    λ depth. c.new.ensures ∙ tabled_all (world_of c.args.world) (assignment_by c.args.nodes.now c.args.numbers.now c.args.known.now) c.args.nodes.now table.items c.loop-node.invariant past depth
