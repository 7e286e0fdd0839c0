-- The walk over declared locals.
use Rattle.std.proofs.Common.{◌≡◌, ℕ, suc, ◌+◌, ◌≤◌, Bool, true, false, List, [], ◌∷◌, ◌++◌, length, map, Option, Some, None, Ok, refl, ap, subst, arith}
use Rattle.std.specs.Prelude.{slice_get}
use Rattle.df_lang.specs.declared.ty.Ty.{Ty}
use Rattle.df_lang.specs.Stmt as typed
use Rattle.df_ntree.specs.declared.tree.Ident.{Ident}
use Rattle.df_ntree.specs.declared.expr.TreeType.{TreeType}
use Rattle.df_ntree.specs.declared.file.Local as declared_local
use Rattle.df_ntree.specs.Expr.{Expr}
use Rattle.df_ntree.specs.FileSpelling.{spell_local}
use Rattle.df_ntyping.specs.Environment.{Environment, Variable_role, declare, local_type, names_of}
use Rattle.df_ntyping.specs.LocalTypes.{types_of_locals}
use Rattle.df_ntyping.specs.ExprNodes.{token_at, type_nodes}
use Rattle.df_ntyping.specs.StatementNodes.{untyped_nodes, typed_nodes, variable_nodes, local_widths}
use Rattle.df_ntyping.specs.Node as nodes
use Rattle.df_ntyping.specs.Node.{Occurrence}
use Rattle.df_ntyping.specs.Rule.{Rule, Typing, Uninferred, Assigned}
use Rattle.df_ntyping.specs.Breaks.{breaks}
use Rattle.df_ntyping.specs.StatementElaboration.{AreVariables, as_target}
use Rattle.df_ntyping.specs.rules.Names.{is_unfixed}
use Rattle.df_ntyping.proofs.AllNodes.{only}
use Rattle.df_ntyping.proofs.DeclaredLocals.{declared_from}
use Rattle.df_ntyping.proofs.ElaboratedSides.{IsReady}
use Rattle.df_ntyping.proofs.FirstFault.{Silent, NoNames, silent_none, named_left, named_right}
use Rattle.df_ntyping.proofs.Found.{AllBeyond, beyond_none, beyond_both, beyond_segment}
use Rattle.df_ntyping.proofs.Order.{Segment, no_nodes}
use Rattle.df_ntyping.proofs.ExprOrder.{token_alone, type_order}
use Rattle.df_ntyping.proofs.PartOrder.{variable_order}
use Rattle.df_ntyping.proofs.SoundNodes as kinds
use Rattle.df_ntyping.proofs.SoundNodes.{sound}
use Rattle.df_ntyping.proofs.SoundStatements.{type_sound}
use Rattle.df_ntstmt.specs.declared.places.Place.{Place}
use Rattle.df_ntstmt.specs.mirror.Steps.{and_then, broken, unless, or_int, typed_in}
use Rattle.df_ntstmt.specs.mirror.Steps as steps
use Rattle.df_ntstmt.specs.mirror.Sides.{types_of_places, target_from, is_settled, is_unfixed_at, variable_place, variables_in, variable_from}
use Rattle.df_ntstmt.proofs.Judging.{first_rule, Judged, judged_behind, judged_then, judged_map, judged_grouped, judged_none, silent_sound}

-- ---- declared locals

abbrev pub untyped_at : Environment → ℕ → Ident → Occurrence
untyped_at env start ident = token_at env (nodes.Untyped env.next ident) start

untyped_only : (env : Environment) (number : ℕ) (ident : Ident) (rule : Rule) → breaks env (nodes.Untyped number ident) rule ≡ true → rule ≡ Uninferred
untyped_only env number ident Uninferred h = refl
untyped_only env number ident (Typing Assigned) h = absurd cc
untyped_only env number ident rule h = absurd cc

settled_told : (env : Environment) (start : ℕ) (local : declared_local.Local) (values : List Expr) (ty : Option TreeType) → local.ty ≡ ty → NoNames (untyped_nodes env start local values)
    → Judged (untyped_nodes env start local values) (λ (held : Unit {0}). Unit {0}) (unless (is_settled ty values (is_unfixed_at env env.next)) (steps.uninferred local.name))
settled_told env start local values (Some ty) p n = rw p (silent_none, tt)
settled_told env start local (value ∷ values) None p n = rw p (silent_none, tt)
settled_told env start local [] None p n = rw p (by_unfixed (is_unfixed_at env env.next) refl (rw p at n)) where
  one : Occurrence
  one = untyped_at env start local.name

  by_unfixed : (b : Bool) → is_unfixed_at env env.next ≡ b → NoNames (one ∷ []) → Judged (one ∷ []) (λ (held : Unit {0}). Unit {0}) (unless (is_settled None [] b) (steps.uninferred local.name))
  by_unfixed true q m = record { fault = record { at = one; rule = Uninferred }; first = first_rule one Uninferred q refl (untyped_only env env.next local.name); tells = record { code = refl; pos = refl; detail = refl } }
  by_unfixed false q m = (silent_sound (one ∷ []) (only (sound (kinds.untyped env env.next local.name q))) m, tt)

-- the places of locals from a number on
abbrev pub AreDeclared : Environment → ℕ → List declared_local.Local → List Place → Type 0
AreDeclared env number locals places =
    (types_of_places places ≡ types_of_locals env (declared_from number locals)) × (IsReady env → number + length locals ≤ length env.types → AreVariables env number locals (map variable_from places))

untyped_order : (env : Environment) (start : ℕ) (local : declared_local.Local) (values : List Expr) (ty : Option TreeType) → local.ty ≡ ty → Segment start start (suc start) (untyped_nodes env start local values)
untyped_order env start local values (Some ty) p = rw p (no_nodes start start (suc start))
untyped_order env start local (value ∷ values) None p = rw p (no_nodes start start (suc start))
untyped_order env start local [] None p = rw p (token_alone env (nodes.Untyped env.next local.name) start)

typed_silent : (env : Environment) (start : ℕ) (ty : Option TreeType) → NoNames (typed_nodes env start ty) → Silent (typed_nodes env start ty)
typed_silent env start None n = silent_none
typed_silent env start (Some ty) n = silent_sound (type_nodes env start ty) (type_sound env start ty) n

typed_beyond : (env : Environment) (start : ℕ) (ty : Option TreeType) → AllBeyond start (suc start) (typed_nodes env (start + 2) ty)
typed_beyond env start None = beyond_none start (suc start)
typed_beyond env start (Some ty) = beyond_segment start (suc start) (start + 2) (start + 2) (suc (start + 2)) (type_nodes env (start + 2) ty) (type_order env (start + 2) ty) (omega arith)

more_declared : (base : Environment) (number : ℕ) (local : declared_local.Local) (others : List declared_local.Local) (rest : List Place) → AreDeclared base (suc number) others rest → AreDeclared base number (local ∷ others) (variable_place base number local.name ∷ rest)
more_declared base number local others rest h = (ap (λ (xs : List (Option Ty)). local_type base number ∷ xs) h.0, λ ready room. first ready room (ready.typed_locals number (omega arith))) where
  first : IsReady base → number + length (local ∷ others) ≤ length base.types → (ty : Ty) × (local_type base number ≡ Some ty)
      → AreVariables base number (local ∷ others) (map variable_from (variable_place base number local.name ∷ rest))
  first ready room (ty, is) = (ty, map variable_from rest, is, h.1 ready (omega arith), rw is refl)

pub variables_told : (base one : Environment) (number start : ℕ) (values : List Expr) (locals : List declared_local.Local) → one.types ≡ base.types → one.next ≡ number → NoNames (variable_nodes one start values locals)
    → Judged (variable_nodes one start values locals) (AreDeclared base number locals) (variables_in base number values locals)
variables_told base one number start values [] e p n = judged_none (AreDeclared base number []) [] (refl, λ ready room. refl)
variables_told base one number start values (local ∷ others) e p n =
    let new = token_at one (nodes.NewName (names_of one.inner) local.name) start in
    let untyped = untyped_nodes one start local values in
    let written = typed_nodes one (start + 2) local.ty in
    let later = start + length (spell_local local) + 1 in
    let next_env = declare one Variable_role local.name.name in
    let behind = variable_nodes next_env later values others in
    let inside = named_right (new ∷ []) ((untyped ++ written) ++ behind) n in
    let parts = named_left (untyped ++ written) behind inside in
    let unfixed : is_unfixed_at one one.next ≡ is_unfixed_at base number = λ i. is_unfixed (slice_get (e i) (p i)) in
    let answer = variables_in base number values (local ∷ others) in
    judged_behind (new ∷ []) ((untyped ++ written) ++ behind) (AreDeclared base number (local ∷ others)) answer
    (silent_sound (new ∷ []) (only (sound (kinds.new_name one (names_of one.inner) local.name))) (named_left (new ∷ []) ((untyped ++ written) ++ behind) n))
    (judged_grouped untyped written behind (AreDeclared base number (local ∷ others)) answer
    (judged_then start start (suc start) untyped (written ++ behind) (λ (held : Unit {0}). Unit {0}) (AreDeclared base number (local ∷ others)) (unless (is_settled local.ty values (is_unfixed_at base number)) (steps.uninferred local.name))
    (λ (held : Unit {0}). and_then (variables_in base (suc number) values others) (λ (rest : List Place). Ok (variable_place base number local.name ∷ rest)))
    (untyped_order one start local values local.ty refl)
    (beyond_both start (suc start) written behind (typed_beyond one start local.ty)
    (beyond_segment start (suc start) later later (later + local_widths others) behind (variable_order next_env later values others) (omega arith)))
    (subst (λ (b : Bool). Judged untyped (λ (held : Unit {0}). Unit {0}) (unless (is_settled local.ty values b) (steps.uninferred local.name))) unfixed (settled_told one start local values local.ty refl (named_left untyped written parts)))
    (λ held h.
    judged_behind written behind (AreDeclared base number (local ∷ others)) (and_then (variables_in base (suc number) values others) (λ (rest : List Place). Ok (variable_place base number local.name ∷ rest)))
    (typed_silent one (start + 2) local.ty (named_right untyped written parts))
    (judged_map behind (AreDeclared base (suc number) others) (AreDeclared base number (local ∷ others)) (variables_in base (suc number) values others) (λ (rest : List Place). variable_place base number local.name ∷ rest)
    (variables_told base next_env (suc number) later values others e (ap suc p) (named_right (untyped ++ written) behind inside)) (λ rest k. more_declared base number local others rest k)))))

-- declared locals are the targets of their values
pub targets_declared : (places : List Place) → map as_target (map variable_from places) ≡ map target_from places
targets_declared [] = refl
targets_declared (place ∷ others) = ap (λ (rest : List typed.Target). target_from place ∷ rest) (targets_declared others)
