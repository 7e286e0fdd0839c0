-- Tables from numbers, labels and known literals: where they are congruent, and where not.
use Rattle.std.specs.Prelude.{◌≡◌, ℕ, ◌<◌, ◌≤◌, ◌==◌, ℤ, true, false, List, ◌∷◌, length, slice_get, Option, None, Some, if◌then◌else◌, Vec}
use Rattle.std.specs.declared.alloc.Global.{Global}
use Rattle.std.specs.List.{AllZip}
use Rattle.df_form.specs.declared.log.Pair.{Pair}
use Rattle.df_form.specs.Node.{Node}
use Rattle.df_row.specs.Row.{fits}
use Rattle.df_table.specs.TableModel.{number_at, Agree}
use Rattle.df_table.specs.Disagreement.{Disagree}
use Rattle.df_classes.specs.Labels.{HaveOneLabel}
use Rattle.df_model.specs.TableNumbers.{Basis, is_summed, first_factor, number_in}
use Rattle.df_model.specs.declared.tabulation.Tabulation.{Tabulation}
use Rattle.df_model.specs.declared.tabulation.Tabulation.TheVariants as answers

-- the table has the numbers of the first nodes
pub record IsTabulated (basis : Basis) (nodes : List Node) (table : List ℤ) : Type 0 where
  pub short : length table ≤ length nodes
  pub numbers : (n : ℕ) (node : Node) → n < length table → slice_get nodes n ≡ Some node → number_at table n ≡ number_in basis nodes table n node

-- of all nodes
pub record IsWholeTable (basis : Basis) (nodes : List Node) (table : List ℤ) : Type 0 where
  pub tabulated : IsTabulated basis nodes table
  pub covers : length table ≡ length nodes

-- the number of the next node, a sum or a constant multiple, is past 128 bits
pub record IsWideTable (basis : Basis) (nodes : List Node) : Type 0 where
  pub table : List ℤ
  pub tabulated : IsTabulated basis nodes table
  pub node : Node
  pub next : slice_get nodes (length table) ≡ Some node
  pub summed : is_summed (first_factor nodes node.parts) node.op ≡ true
  pub wide : fits (number_in basis nodes table (length table) node) ≡ false

-- Two nodes of one operation disagree. The terms are two arguments of theirs at one place that have two labels; or they are
-- these nodes, where all arguments have one label.
pub data IsApart (nodes : List Node) (label : ℕ → ℕ) (table : List ℤ) : ℕ → ℕ → Type 0 where
  of_parts : {m n left right : ℕ} (place : ℕ) (d : Disagree nodes table m n) → slice_get d.first.parts place ≡ Some left → slice_get d.second.parts place ≡ Some right → (HaveOneLabel label left right → ⊥) → IsApart nodes label table left right
  of_terms : {m n : ℕ} (d : Disagree nodes table m n) → AllZip (HaveOneLabel label) d.first.parts d.second.parts → IsApart nodes label table m n

-- the table of all nodes, or that the number of one is past 128 bits
abbrev pub TellsTable : Basis → List Node → Option (Vec ℤ Global) → Type 0
TellsTable basis nodes (Some table) = IsWholeTable basis nodes table.items
TellsTable basis nodes None = IsWideTable basis nodes

-- the first two elements at one place that have two labels
abbrev pub unlike : (ℕ → ℕ) → List ℕ → List ℕ → Option Pair
unlike label (x ∷ xs) (y ∷ ys) = if label x == label y then unlike label xs ys else Some (record { left = x; right = y })
unlike label xs ys = None

abbrev pub TellsTabulation : Basis → List Node → Tabulation → Type 0
TellsTabulation basis nodes (answers.Table table) = IsWholeTable basis nodes table × ((m n : ℕ) → Agree nodes table m n)
TellsTabulation basis nodes answers.Wide = IsWideTable basis nodes
TellsTabulation basis nodes (answers.Apart left right) = (table : List ℤ) × IsWholeTable basis nodes table × IsApart nodes basis.label table left right
