-- Assignments by the nodes of free terms, and the numbers of all nodes.
use Rattle.std.specs.Prelude.{◌≡◌, ℕ, ℤ, pos, Bool, true, false, refl, List, [], map, Option}
use Rattle.std.specs.Option.{option_map_or}
use Rattle.df_form.specs.World.{World}
use Rattle.df_meaning.specs.Value.{Value, Truth, Character, Number, Text}
use Rattle.df_form.specs.declared.node.Sort.{Sort}
use Rattle.df_form.specs.declared.node.Sort.TheVariants as sorts
use Rattle.df_form.specs.declared.node.Free.{Free}
use Rattle.df_form.specs.declared.node.Op.TheVariants as ops
use Rattle.df_form.specs.Node.{Node, number_of}
use Rattle.df_form.specs.Truth.{Assignment, has_sort, code_in, code_below, values}
use Rattle.df_form.specs.Clause.{yes}
use Rattle.df_rules.specs.declared.known.Known.{Known}
use Rattle.df_rules.specs.Known.{knows}
use Rattle.df_row.specs.Row.{fits}
use Rattle.df_table.specs.TableModel.{number_at}
pub use Rattle.df_model.specs.TableNumbers.{number_of_truth}
use Rattle.df_model.specs.declared.outcome.Valuation.{Valuation}
use Rattle.df_model.specs.declared.outcome.Valuation.TheVariants as answers

abbrev pub number_of_value : Value → ℤ
number_of_value (Number z) = z
number_of_value (Truth b) = number_of_truth b
number_of_value (Character c) = pos c
number_of_value (Text characters) = pos 0

-- the number or the truth that stands at a node, or the character of the number; 0 or false where there is no node
abbrev pub value_by : (ℕ → ℤ) → (ℕ → Bool) → Sort → Option ℕ → Value
value_by numbers truths sorts.Number place = Number (option_map_or numbers place (pos 0))
value_by numbers truths sorts.Truth place = Truth (option_map_or truths place false)
value_by numbers truths sorts.Character place = Character (code_in (option_map_or numbers place (pos 0)))

abbrev pub place_of : List Node → Free → Option ℕ
place_of nodes free = number_of nodes (record { op = ops.Free free; parts = [] })

pub sorted_by : (numbers : ℕ → ℤ) (truths : ℕ → Bool) (sort : Sort) (place : Option ℕ) → has_sort sort (value_by numbers truths sort place) ≡ true
sorted_by numbers truths sorts.Number place = refl
sorted_by numbers truths sorts.Truth place = refl
sorted_by numbers truths sorts.Character place = code_below (option_map_or numbers place (pos 0))

-- Free terms by their nodes: a number has the number of its node, a truth that of its node, a character the
-- number of its node as its code; one that has no node is 0, or false.
abbrev pub assignment_of : List Node → (ℕ → ℤ) → (ℕ → Bool) → Assignment
assignment_of nodes numbers truths = record {
  value = λ free. value_by numbers truths free.sort (place_of nodes free);
  sorted = λ free. sorted_by numbers truths free.sort (place_of nodes free);
}

-- the numbers of all nodes
abbrev pub numbers_of_nodes : ℕ → World → Assignment → List Node → List ℤ
numbers_of_nodes depth world assignment nodes = map number_of_value (values depth world assignment nodes)

-- the free terms of nodes by numbers, which are 0 past their end, and by what is known to be true
abbrev pub assignment_by : List Node → List ℤ → Known → Assignment
assignment_by nodes numbers known = assignment_of nodes (number_at numbers) (λ n. knows known (yes n))

-- the number of a node is past 128 bits
pub record IsWide (world : World) (assignment : Assignment) (nodes : List Node) : Type 0 where
  pub node : ℕ
  pub wide : (depth : ℕ) → fits (number_at (numbers_of_nodes depth world assignment nodes) node) ≡ false

-- the numbers of all nodes in a table, or that one of them is wide
abbrev pub Tabulates : World → Assignment → List Node → Valuation → Type 0
Tabulates world assignment nodes (answers.Table table) = (depth : ℕ) → table ≡ numbers_of_nodes depth world assignment nodes
Tabulates world assignment nodes answers.Wide = IsWide world assignment nodes
