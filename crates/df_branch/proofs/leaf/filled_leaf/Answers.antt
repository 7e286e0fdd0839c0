use Rattle.std.proofs.Common.{ℤ, List, length, subst, rules}
use Rattle.std.proofs.lemmas.Int.{to_z-of_z}
use Rattle.df_level.specs.Levels.{level_rows}
use Rattle.df_back.specs.declared.answer.Back.TheVariants as answers
use Rattle.df_model.specs.TableNumbers.{basis_of}
use Rattle.df_model.specs.Tabulation.{TellsTabulation}
use Rattle.df_branch.proofs.FilledLeaves.{told, wide_value, between_at}
use Rattle.df_branch.proofs.Modelling.{modelled, wide_node, apart}
use Rattle.df_branch.proofs.leaf.filled_leaf.Goals as goal

pub returns-in-Table : goal.returns-in-Table
returns-in-Table c = λ clauses branch p.
    let point = told c.len.result (length c.args.nodes.now) (level_rows c.args.levels.now.first) c.deref.result.now c.args.levels.now.variables.items c.deref-2.result.now c.args.levels.now.others.items c.in_ok-numbers.field-0 (answers.Point c.in-Point.numbers) c.len.ensures.len c.deref.ensures.value c.deref-2.ensures.value c.in-Point.is c.in_ok-numbers.ensures in
    let numbers = c.in-Point.numbers.items in
    let says = subst (TellsTabulation (basis_of numbers c.args.labels.now c.args.facts.now) c.args.set.now) c.in-Table.is (subst (λ (found : List ℤ). TellsTabulation (basis_of found c.args.labels.now c.args.facts.now) c.args.set.now c.in_ok-table-in-Point.field-0) c.deref-in-Point.ensures.value c.in_ok-table-in-Point.ensures) in
    modelled c.args.set.now clauses c.args.nodes.now branch c.args.levels.now c.args.labels.now c.args.facts.now p numbers point c.in-Table.table says.0 says.1

pub returns-in-Wide-2 : goal.returns-in-Wide-2
returns-in-Wide-2 c = λ clauses branch p.
    let point = told c.len.result (length c.args.nodes.now) (level_rows c.args.levels.now.first) c.deref.result.now c.args.levels.now.variables.items c.deref-2.result.now c.args.levels.now.others.items c.in_ok-numbers.field-0 (answers.Point c.in-Point.numbers) c.len.ensures.len c.deref.ensures.value c.deref-2.ensures.value c.in-Point.is c.in_ok-numbers.ensures in
    let numbers = c.in-Point.numbers.items in
    let says = subst (TellsTabulation (basis_of numbers c.args.labels.now c.args.facts.now) c.args.set.now) c.in-Wide-2.is (subst (λ (found : List ℤ). TellsTabulation (basis_of found c.args.labels.now c.args.facts.now) c.args.set.now c.in_ok-table-in-Point.field-0) c.deref-in-Point.ensures.value c.in_ok-table-in-Point.ensures) in
    wide_node c.args.set.now clauses c.args.nodes.now branch c.args.levels.now c.args.labels.now c.args.facts.now p numbers point c.requires.within says

pub returns-in-Point : goal.returns-in-Point
returns-in-Point c = λ clauses branch p.
    let point = told c.len.result (length c.args.nodes.now) (level_rows c.args.levels.now.first) c.deref.result.now c.args.levels.now.variables.items c.deref-2.result.now c.args.levels.now.others.items c.in_ok-numbers.field-0 (answers.Point c.in-Point.numbers) c.len.ensures.len c.deref.ensures.value c.deref-2.ensures.value c.in-Point.is c.in_ok-numbers.ensures in
    let numbers = c.in-Point.numbers.items in
    let says = subst (TellsTabulation (basis_of numbers c.args.labels.now c.args.facts.now) c.args.set.now) c.in-Apart.is (subst (λ (found : List ℤ). TellsTabulation (basis_of found c.args.labels.now c.args.facts.now) c.args.set.now c.in_ok-table-in-Point.field-0) c.deref-in-Point.ensures.value c.in_ok-table-in-Point.ensures) in
    apart c.args.set.now clauses c.args.nodes.now branch c.args.levels.now c.args.labels.now c.args.facts.now p numbers point says.0 c.in-Apart.left c.in-Apart.right says.1 says.2

pub returns-in-Between : goal.returns-in-Between
returns-in-Between c = λ clauses branch p.
    let gap = told c.len.result (length c.args.nodes.now) (level_rows c.args.levels.now.first) c.deref.result.now c.args.levels.now.variables.items c.deref-2.result.now c.args.levels.now.others.items c.in_ok-numbers.field-0 _ c.len.ensures.len c.deref.ensures.value c.deref-2.ensures.value c.in-Between.is c.in_ok-numbers.ensures in
    between_at c.args.set.now clauses c.args.nodes.now branch c.args.levels.now c.args.labels.now c.args.facts.now p c.requires.within c.in-Between.node c.in-Between.bound _ gap (search (rules, to_z-of_z))

pub returns : goal.returns
returns c = λ clauses branch p.
    wide_value c.args.set.now clauses c.args.nodes.now branch c.args.levels.now c.args.labels.now c.args.facts.now p c.requires.within (told c.len.result (length c.args.nodes.now) (level_rows c.args.levels.now.first) c.deref.result.now c.args.levels.now.variables.items c.deref-2.result.now c.args.levels.now.others.items c.in_ok-numbers.field-0 answers.Wide c.len.ensures.len c.deref.ensures.value c.deref-2.ensures.value c.in-Wide.is c.in_ok-numbers.ensures)
