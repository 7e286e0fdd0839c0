-- The walk over assigned, declared and returned values.
use Rattle.std.proofs.Common.{◌≡◌, ℕ, suc, ◌+◌, ◌<◌, ◌≤◌, Bool, true, false, not, List, [], ◌∷◌, ◌++◌, length, map, Option, Some, None, refl, sym, ap, subst, arith}
use Rattle.std.specs.List.{AllByRecursion, flat_map}
use Rattle.std.proofs.lemmas.List.{length-map}
use Rattle.df_base.specs.declared.pos.Pos.{Pos}
use Rattle.df_lang.specs.declared.ty.Ty.{Ty}
use Rattle.df_lang.specs.Stmt as typed
use Rattle.df_ntree.specs.Expr.{Expr}
use Rattle.df_ntree.specs.ExprSpelling.{IsExpr}
use Rattle.df_ntree.specs.FileSpelling.{spell_values}
use Rattle.df_ntyping.specs.Environment.{Local, Environment, local_type}
use Rattle.df_ntyping.specs.ExprNodes.{occurrence}
use Rattle.df_ntyping.specs.StatementNodes.{widths, sources_nodes, update_nodes}
use Rattle.df_ntyping.specs.Node as nodes
use Rattle.df_ntyping.specs.Node.{Occurrence}
use Rattle.df_ntyping.specs.Rule.{Rule, Typing, Assigned, Returned}
use Rattle.df_ntyping.specs.Breaks.{breaks}
use Rattle.df_ntyping.specs.LocalTypes.{names_in, are_enough, types_of_locals}
use Rattle.df_ntyping.specs.SideElaboration.{AreReturned}
use Rattle.df_ntyping.specs.StatementElaboration.{MayUpdate}
use Rattle.df_ntyping.proofs.AllNodes.{only}
use Rattle.df_ntyping.proofs.ElaboratedSides.{IsReady}
use Rattle.df_ntyping.proofs.FaultlessNodes.{TableKnown}
use Rattle.df_ntyping.proofs.FirstFault.{Silent, NoNames}
use Rattle.df_ntyping.proofs.SoundNodes as kinds
use Rattle.df_ntyping.proofs.SoundNodes.{sound}
use Rattle.df_ntyping.proofs.StatementOrder.{some_values_width}
use Rattle.df_ntyping.proofs.Verdict.{HaveTypes}
use Rattle.df_ntstmt.specs.declared.places.Place.{Place}
use Rattle.df_ntstmt.specs.mirror.Sides.{types_of_places, target_from, update_in, may_update_in, returned_places}
use Rattle.df_ntstmt.proofs.Judging.{met_typing, Judged, judged_map, judged_none, silent_sound}
use Rattle.df_ntstmt.proofs.SourcesTold.{AreRead}
use Rattle.df_ntstmt.proofs.PlacesTold.{AreKnown, IsUpdate, IsCounting, update_told}

-- ---- updates of declared and of assigned places

types_count : (places : List Place) → length (types_of_places places) ≡ length places
types_count places = length-map places (λ (place : Place). place.ty)

assignment_only : (env : Environment) (count : ℕ) (values : List Expr) (pos : Option Pos) (rule : Rule) → breaks env (nodes.Assignment count values pos) rule ≡ true → rule ≡ Typing Assigned
assignment_only env count values pos (Typing Assigned) h = refl
assignment_only env count values pos rule h = absurd cc

return_only : (env : Environment) (values : List Expr) (pos : Pos) (rule : Rule) → breaks env (nodes.Return values pos) rule ≡ true → rule ≡ Typing Returned
return_only env values pos (Typing Returned) h = refl
return_only env values pos rule h = absurd cc

assignment_counts : (env : Environment) (start after : ℕ) (places : List Place) (values : List Expr) (pos : Pos) → IsCounting env places values Assigned pos (occurrence env (nodes.Assignment (length (types_of_places places)) values (Some pos)) start after)
assignment_counts env start after places values pos = record {
  own = refl;
  breaks_it = λ p. met_typing (occurrence env (nodes.Assignment (length (types_of_places places)) values (Some pos)) start after) Assigned pos (rw (types_count places, p) refl) (assignment_only env (length (types_of_places places)) values (Some pos)) refl;
  silent = λ p n. silent_sound (occurrence env (nodes.Assignment (length (types_of_places places)) values (Some pos)) start after ∷ []) (only (sound (kinds.assignment env (length (types_of_places places)) values (Some pos) (rw (types_count places) p)))) n;
}

enough_results : (env : Environment) (places : List Place) (values : List Expr) (b : Bool) → length places ≡ length env.results → are_enough env (length places) values ≡ b → are_enough env (length env.results) values ≡ b
enough_results env places values b e p = subst (λ (count : ℕ). are_enough env count values ≡ b) e p

-- all results, or none
return_counts : (env : Environment) (start after : ℕ) (places : List Place) (value : Expr) (values : List Expr) (pos : Pos) → length places ≡ length env.results → IsCounting env places (value ∷ values) Returned pos (occurrence env (nodes.Return (value ∷ values) pos) start after)
return_counts env start after places value values pos e = record {
  own = refl;
  breaks_it = λ p. met_typing (occurrence env (nodes.Return (value ∷ values) pos) start after) Returned pos (ap not (enough_results env places (value ∷ values) false e p)) (return_only env (value ∷ values) pos) refl;
  silent = λ p n. silent_sound (occurrence env (nodes.Return (value ∷ values) pos) start after ∷ []) (only (sound (kinds.returned env (value ∷ values) pos (enough_results env places (value ∷ values) true e p)))) n;
}

abbrev pub IsMay : Environment → List Place → List Expr → Option typed.Update → Type 0
IsMay env places values update = TableKnown env.table → AreKnown places → MayUpdate env (map target_from places) values update

some_update : (env : Environment) (places : List Place) (value : Expr) (values : List Expr) (update : typed.Update) → IsUpdate env places (value ∷ values) update → IsMay env places (value ∷ values) (Some update)
some_update env places value values update h t k = let (sources, are, is) = h t k in (sources, are, ap (λ (u : typed.Update). Some u) is)

pub assigned_told : (env : Environment) (start sign after : ℕ) (pos : Pos) (places : List Place) (value : Expr) (values : List Expr) → AllByRecursion IsExpr (value ∷ values) → AreRead (value ∷ values) → HaveTypes env (flat_map names_in (value ∷ values))
    → NoNames (update_nodes env start sign after (Some pos) (types_of_places places) (value ∷ values)) → suc sign + widths (value ∷ values) < after
    → Judged (update_nodes env start sign after (Some pos) (types_of_places places) (value ∷ values)) (IsUpdate env places (value ∷ values)) (update_in env Assigned pos places (value ∷ values))
assigned_told env start sign after pos places value values x r t n p =
    update_told env (suc sign) places (value ∷ values) Assigned pos (occurrence env (nodes.Assignment (length (types_of_places places)) (value ∷ values) (Some pos)) start after) (assignment_counts env start after places (value ∷ values) pos) x r t n p

pub may_told : (env : Environment) (start sign after : ℕ) (pos : Pos) (places : List Place) (values : List Expr) → AllByRecursion IsExpr values → AreRead values → HaveTypes env (flat_map names_in values)
    → NoNames (update_nodes env start sign after (Some pos) (types_of_places places) values) → sign + length (spell_values values) + 1 ≤ after
    → Judged (update_nodes env start sign after (Some pos) (types_of_places places) values) (IsMay env places values) (may_update_in env Assigned pos places values)
may_told env start sign after pos places [] x r t n p = judged_none (IsMay env places []) None (λ known_table k. refl)
may_told env start sign after pos places (value ∷ values) x r t n p =
    judged_map (update_nodes env start sign after (Some pos) (types_of_places places) (value ∷ values)) (IsUpdate env places (value ∷ values)) (IsMay env places (value ∷ values)) (update_in env Assigned pos places (value ∷ values)) (λ (update : typed.Update). Some update)
    (assigned_told env start sign after pos places value values x r t n (omega (arith, some_values_width value values))) (λ update h. some_update env places value values update h)

-- ---- results

pub returned_types : (env : Environment) (pos : Pos) (results : List Local) → types_of_places (returned_places env pos results) ≡ types_of_locals env results
returned_types env pos [] = refl
returned_types env pos (result ∷ others) = ap (λ (rest : List (Option Ty)). local_type env result.number ∷ rest) (returned_types env pos others)

returned_count : (env : Environment) (pos : Pos) (results : List Local) → length (returned_places env pos results) ≡ length results
returned_count env pos results = length-map results (λ (result : Local). record { local = result.number; name = result.name; pos = pos; ty = local_type env result.number })

pub returned_made : (env : Environment) (pos : Pos) (results : List Local) → IsReady env → AllByRecursion (λ (result : Local). result.number < env.next) results → AreReturned env pos results (map target_from (returned_places env pos results))
returned_made env pos [] ready h = refl
returned_made env pos (result ∷ others) ready h =
    let below : result.number < env.next = h.0 in
    let room = ready.room in
    first (ready.typed_locals result.number (omega arith)) (returned_made env pos others ready h.1) where
      first : (ty : Ty) × (local_type env result.number ≡ Some ty) → AreReturned env pos others (map target_from (returned_places env pos others)) → AreReturned env pos (result ∷ others) (map target_from (returned_places env pos (result ∷ others)))
      first (ty, is) rest = (ty, map target_from (returned_places env pos others), is, rest, rw is refl)

quiet_return : (env : Environment) (start after : ℕ) (pos : Pos) → NoNames (occurrence env (nodes.Return [] pos) start after ∷ []) → Silent (occurrence env (nodes.Return [] pos) start after ∷ [])
quiet_return env start after pos n = silent_sound (occurrence env (nodes.Return [] pos) start after ∷ []) (only (sound (kinds.returned env [] pos refl))) n

pub return_told : (env : Environment) (start after : ℕ) (pos : Pos) (values : List Expr) → AllByRecursion IsExpr values → AreRead values → HaveTypes env (flat_map names_in values)
    → NoNames (sources_nodes env (suc start) (types_of_locals env env.results) values ++ occurrence env (nodes.Return values pos) start after ∷ []) → suc start + widths values < after
    → Judged (sources_nodes env (suc start) (types_of_locals env env.results) values ++ occurrence env (nodes.Return values pos) start after ∷ []) (IsMay env (returned_places env pos env.results) values)
    (may_update_in env Returned pos (returned_places env pos env.results) values)
return_told env start after pos [] x r t n p = (quiet_return env start after pos n, λ known_table k. refl)
return_told env start after pos (value ∷ values) x r t n p =
    let places = returned_places env pos env.results in
    let one = occurrence env (nodes.Return (value ∷ values) pos) start after in
    subst (λ (tys : List (Option Ty)). Judged (sources_nodes env (suc start) tys (value ∷ values) ++ one ∷ []) (IsMay env places (value ∷ values)) (may_update_in env Returned pos places (value ∷ values))) (returned_types env pos env.results)
    (judged_map (sources_nodes env (suc start) (types_of_places places) (value ∷ values) ++ one ∷ []) (IsUpdate env places (value ∷ values)) (IsMay env places (value ∷ values)) (update_in env Returned pos places (value ∷ values)) (λ (update : typed.Update). Some update)
    (update_told env (suc start) places (value ∷ values) Returned pos one (return_counts env start after places value values pos (returned_count env pos env.results)) x r t
    (subst (λ (tys : List (Option Ty)). NoNames (sources_nodes env (suc start) tys (value ∷ values) ++ one ∷ [])) (sym (returned_types env pos env.results)) n) p)
    (λ update h. some_update env places value values update h))
