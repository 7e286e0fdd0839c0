-- Obligations of the code, as trees.
use Rattle.std.specs.Prelude.{ℕ, List, map, take, slice_index}
use Rattle.std.specs.List.{flat_map}
use Rattle.df_form.specs.Node.{Node}
use Rattle.df_nenc.specs.Tree.{tree_at, trees_at}
use Rattle.df_npass.specs.Methods.{Obligation}
use Rattle.df_nowed.specs.declared.obligation.Obligation as declared_obligation
use Rattle.df_nowed.specs.declared.obligation.MethodObligations as declared_method
use Rattle.df_nowed.specs.declared.obligation.Obligations as declared

-- under so many of the formulas that its declaration knows
abbrev pub obligation_in : ℕ → List Node → List ℕ → declared_obligation.Obligation → Obligation
obligation_in number nodes known o = record {
  declaration = number;
  pos = o.pos;
  kind = o.kind;
  hypotheses = trees_at nodes (take o.hypothesis_count known);
  goal = tree_at nodes o.goal;
}

-- with the goal that stands at its place
abbrev pub with_goal : List ℕ → declared_obligation.Obligation → declared_obligation.Obligation
with_goal known o = record { pos = o.pos; kind = o.kind; hypothesis_count = o.hypothesis_count; goal = slice_index known o.place; place = o.place }

abbrev pub obligations_in : declared_method.MethodObligations → List Obligation
obligations_in m = map (obligation_in m.declaration m.nodes m.known) m.obligations.items

abbrev pub obligations_of : declared.Obligations → List Obligation
obligations_of os = flat_map obligations_in os.methods.items

-- those of one method, by the number of its declaration
pub record Grouped : Type 0 where
  pub declaration : ℕ
  pub obligations : List Obligation

abbrev pub grouped_in : declared_method.MethodObligations → Grouped
grouped_in m = record { declaration = m.declaration; obligations = obligations_in m }

abbrev pub methods_of : declared.Obligations → List Grouped
methods_of os = map grouped_in os.methods.items
