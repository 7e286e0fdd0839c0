-- Locals that are declared with values.
use Rattle.std.proofs.Common.{◌≡◌, Bool, List, ◌++◌, Option, Result, Ok, Err, refl, ap, ◌∙◌}
use Rattle.std.specs.List.{flat_map}
use Rattle.std.specs.Result.{OnOk}
use Rattle.df_lang.specs.declared.ty.Ty.{Ty}
use Rattle.df_ntree.specs.declared.file.Local as declared_local
use Rattle.df_ntree.specs.Expr.{Expr}
use Rattle.df_ntyping.specs.Environment.{Inferred, Environment, declare_variables}
use Rattle.df_ntyping.specs.LocalTypes.{names_in, used, inferred_all, over, types_of_values}
use Rattle.df_ninfer.specs.Marks.{marked, inferred_all_by}
use Rattle.df_ninfer.proofs.Marking.{has_values, all_inferred, by_table}
use Rattle.df_ninfer.proofs.Inferring.{variables_over}
use Rattle.df_ninfer.proofs.Looping.{declared_behind}

-- the values do not see the locals
pub var_done : (env one two : Environment) (locals : List declared_local.Local) (values : List Expr) (given items : List (Option Ty)) (has : Bool) → one ≡ marked env (flat_map names_in values) → given ≡ items → items ≡ types_of_values env values → has ≡ has_values values
    → two ≡ declared_behind one locals has given → two ≡ over (declare_variables env locals) (used env values ++ inferred_all env locals values (types_of_values env values))
var_done env one two locals values given items has first same types some made =
    let mark = marked env (flat_map names_in values) in
    let known = used env values in
    made ∙ ap (λ (e : Environment). declared_behind e locals has given) first
    ∙ ap (λ (e : Environment). over e (known ++ inferred_all_by mark locals has given)) (variables_over env known locals)
    ∙ ap (λ (all : List Inferred). over (declare_variables env locals) (known ++ all))
    (by_table mark env locals has given refl ∙ (λ i. inferred_all_by env locals (some i) ((same ∙ types) i)) ∙ all_inferred env locals values (types_of_values env values))

pub var_done_if : {X E : Type 0} (result : Result X E) (env one two : Environment) (locals : List declared_local.Local) (values : List Expr) (given items : List (Option Ty)) (has : Bool) → one ≡ marked env (flat_map names_in values) → given ≡ items → items ≡ types_of_values env values → has ≡ has_values values
    → OnOk result (two ≡ declared_behind one locals has given) → OnOk result (two ≡ over (declare_variables env locals) (used env values ++ inferred_all env locals values (types_of_values env values)))
var_done_if (Ok x) env one two locals values given items has first same types some made = var_done env one two locals values given items has first same types some made
var_done_if (Err e) env one two locals values given items has first same types some made = tt
