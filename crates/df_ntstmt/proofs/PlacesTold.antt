-- The walk over left sides, and values that go to places.
use Rattle.std.proofs.Common.{◌≡◌, ℕ, ◌+◌, ◌<◌, Bool, true, false, List, [], ◌∷◌, ◌++◌, length, map, Option, Some, None, Ok, Err, refl, sym, subst, ◌∙◌, inl, arith}
use Rattle.std.specs.Prelude.{if◌then◌else◌}
use Rattle.std.specs.List.{AllByRecursion, flat_map}
use Rattle.std.proofs.lemmas.List.{length-map}
use Rattle.df_base.specs.declared.pos.Pos.{Pos}
use Rattle.df_lang.specs.Stmt as typed
use Rattle.df_ntree.specs.declared.tree.Ident.{Ident}
use Rattle.df_ntree.specs.Expr.{Expr, Number, Character, Truth, Name, Parentheses, Call, Unary, Cast, Operations, Leading}
use Rattle.df_ntree.specs.ExprSpelling.{spell, IsExpr}
use Rattle.df_ntree.specs.FileSpelling.{IsPrimary}
use Rattle.df_ntyping.specs.Literals.{AreInRange}
use Rattle.df_ntyping.specs.Environment.{Local, Environment, local_type}
use Rattle.df_ntyping.specs.Meaning.{Meaning, TheLocal, TheMethod, meaning_of}
use Rattle.df_ntyping.specs.Places.{beginning_of}
use Rattle.df_ntyping.specs.ExprNodes.{width, token_at, expr_nodes}
use Rattle.df_ntyping.specs.StatementNodes.{place_nodes, all_places, widths, sources_nodes}
use Rattle.df_ntyping.specs.Node as nodes
use Rattle.df_ntyping.specs.Node.{Occurrence}
use Rattle.df_ntyping.specs.Rule.{TypingRule, Assigned}
use Rattle.df_ntyping.specs.LocalTypes.{names_in, used_inside, are_enough, place_type, place_types}
use Rattle.df_ntyping.specs.SideElaboration.{IsTarget, AreTargets, AreSources, types_of_targets, keeps_its_value}
use Rattle.df_ntyping.specs.rules.Assignments.{is_place}
use Rattle.df_ntyping.specs.Wanted as wanteds
use Rattle.df_ntyping.specs.mirror.Parts.{or_start}
use Rattle.df_ntyping.proofs.AllNodes.{only}
use Rattle.df_ntyping.proofs.ElaboratedSides.{IsReady, local_there}
use Rattle.df_ntyping.proofs.FaultlessNodes.{TableKnown}
use Rattle.df_ntyping.proofs.FirstFault.{Silent, NoNames, silent_both, named_left, named_right}
use Rattle.df_ntyping.proofs.Found.{beyond_one, beyond_segment}
use Rattle.df_ntyping.proofs.KnownTypes.{known}
use Rattle.df_ntyping.proofs.SideOrder.{place_order, all_places_order, sources_order}
use Rattle.df_ntyping.proofs.SoundNodes as kinds
use Rattle.df_ntyping.proofs.SoundNodes.{sound}
use Rattle.df_ntyping.proofs.Standing.{begins_there}
use Rattle.df_ntyping.proofs.Verdict.{HaveTypes, types_left, types_right}
use Rattle.df_ntstmt.specs.declared.places.Place.{Place}
use Rattle.df_ntstmt.specs.mirror.Steps.{and_then, broken, unless, typed_in}
use Rattle.df_ntstmt.specs.mirror.Sides.{sources_in, types_of_places, target_from, update_in, place_meant, unnamed_place_in, place_in, places_in}
use Rattle.df_ntstmt.proofs.Judging.{Met, met_typing, met_later, Judged, judged_then, judged_map, judged_none, silent_sound}
use Rattle.df_ntstmt.proofs.ExprsTold.{IsTyped, expr_told}
use Rattle.df_ntstmt.proofs.SourcesTold.{AreRead, AreRight, sources_told}
use Rattle.df_ntstmt.proofs.Aspects.{judged_refused, place_only, place_at, place_beside}

-- ---- left sides

-- its type is that of the left side, and it is the target where all locals have types
abbrev pub IsOnLeft : Environment → Expr → Place → Type 0
IsOnLeft env e place = (place.ty ≡ place_type env e) × (IsReady env → IsTarget env e (target_from place))

named_place_told : (env : Environment) (start : ℕ) (ident : Ident) → NoNames (place_nodes env start (Name ident)) → Judged (place_nodes env start (Name ident)) (IsOnLeft env (Name ident)) (place_in env (Name ident))
named_place_told env start ident n = by_meaning (meaning_of env ident.name) refl where
  used : Occurrence
  used = token_at env (nodes.UsedName ident) start

  one : Occurrence
  one = token_at env (nodes.Place (Name ident)) start

  quiet : Silent (used ∷ [])
  quiet = silent_sound (used ∷ []) (only (sound (kinds.used_name env ident))) (named_left (used ∷ []) (one ∷ []) n)

  no_place : is_place env (Name ident) ≡ false → Met (used ∷ one ∷ []) (broken Assigned ident.pos)
  no_place p = met_later (used ∷ []) (one ∷ []) (broken Assigned ident.pos) quiet (met_typing one Assigned ident.pos (rw p refl) (place_only env (Name ident)) refl)

  by_role : (local : Local) → meaning_of env ident.name ≡ Some (TheLocal local) → (b : Bool) → keeps_its_value local.role ≡ b
      → Judged (used ∷ one ∷ []) (IsOnLeft env (Name ident)) (if b then Err (broken Assigned ident.pos) else Ok (record { local = local.number; name = ident.name; pos = ident.pos; ty = local_type env local.number }))
  by_role local p true q = no_place (rw (p, q) refl)
  by_role local p false q =
      let assigned : is_place env (Name ident) ≡ true = rw (p, q) refl in
      (silent_both (used ∷ []) (one ∷ []) quiet (silent_sound (one ∷ []) (only (sound (kinds.place env (Name ident) assigned))) (named_right (used ∷ []) (one ∷ []) n)), (rw p refl, λ ready. target ready)) where
        target : IsReady env → IsTarget env (Name ident) (target_from (record { local = local.number; name = ident.name; pos = ident.pos; ty = local_type env local.number }))
        target ready = let (ty, is) = local_there env ident.name local ready p in (local, ty, p, q, is, rw is refl)

  by_meaning : (m : Option Meaning) → meaning_of env ident.name ≡ m → Judged (used ∷ one ∷ []) (IsOnLeft env (Name ident)) (place_meant env m ident)
  by_meaning (Some (TheLocal local)) p = by_role local p (keeps_its_value local.role) refl
  by_meaning (Some (TheMethod id signature)) p = no_place (rw p refl)
  by_meaning None p = no_place (rw p refl)

unnamed_place_told : (env : Environment) (start : ℕ) (e : Expr) → IsPrimary e → AreInRange (spell e) → HaveTypes env (names_in e) → ((ident : Ident) → e ≡ Name ident → ⊥) → is_place env e ≡ false → NoNames (expr_nodes env start e ++ place_at env start e ∷ [])
    → Judged (expr_nodes env start e ++ place_at env start e ∷ []) (IsOnLeft env e) (unnamed_place_in env e)
unnamed_place_told env start e g r t unlike p n =
    judged_refused (expr_nodes env start e) (place_at env start e) (IsTyped env wanteds.Nothing e) (IsOnLeft env e) (typed_in env wanteds.Nothing e) (broken Assigned (or_start (beginning_of e))) (place_beside env start e g unlike)
    (expr_told env start wanteds.Nothing e g.0 r t (named_left (expr_nodes env start e) _ n))
    (met_typing (place_at env start e) Assigned (or_start (beginning_of e)) (rw p refl) (place_only env e) (begins_there e g.0))

place_told : (env : Environment) (start : ℕ) (e : Expr) → IsPrimary e → AreInRange (spell e) → HaveTypes env (used_inside e) → NoNames (place_nodes env start e) → Judged (place_nodes env start e) (IsOnLeft env e) (place_in env e)
place_told env start (Name ident) g r t n = named_place_told env start ident n
place_told env start (Number literal) g r t n = unnamed_place_told env start (Number literal) g r t (λ ident p. cc) refl n
place_told env start (Character code at) g r t n = unnamed_place_told env start (Character code at) g r t (λ ident p. cc) refl n
place_told env start (Truth b at) g r t n = unnamed_place_told env start (Truth b at) g r t (λ ident p. cc) refl n
place_told env start (Parentheses at inner) g r t n = unnamed_place_told env start (Parentheses at inner) g r t (λ ident p. cc) refl n
place_told env start (Call callee arguments) g r t n = unnamed_place_told env start (Call callee arguments) g r t (λ ident p. cc) refl n
place_told env start (Unary operator at operand) g r t n = unnamed_place_told env start (Unary operator at operand) g r t (λ ident p. cc) refl n
place_told env start (Cast operand all) g r t n = unnamed_place_told env start (Cast operand all) g r t (λ ident p. cc) refl n
place_told env start (Operations first rest) g r t n = unnamed_place_told env start (Operations first rest) g r t (λ ident p. cc) refl n
place_told env start (Leading operations) g r t n = unnamed_place_told env start (Leading operations) g r t (λ ident p. cc) refl n

abbrev pub AreOnLeft : Environment → List Expr → List Place → Type 0
AreOnLeft env es places = (types_of_places places ≡ place_types env es) × (IsReady env → AreTargets env es (map target_from places))

more_on_left : (env : Environment) (e : Expr) (others : List Expr) (one : Place) (rest : List Place) → IsOnLeft env e one → AreOnLeft env others rest → AreOnLeft env (e ∷ others) (one ∷ rest)
more_on_left env e others one rest h k = (λ i. h.0 i ∷ k.0 i, λ ready. (target_from one, map target_from rest, h.1 ready, k.1 ready, refl))

pub places_told : (env : Environment) (start : ℕ) (es : List Expr) → AllByRecursion IsPrimary es → AreRead es → HaveTypes env (flat_map used_inside es) → NoNames (all_places env start es) → Judged (all_places env start es) (AreOnLeft env es) (places_in env es)
places_told env start [] g r t n = judged_none (AreOnLeft env []) [] (refl, λ ready. refl)
places_told env start (e ∷ others) g r t n =
    let here = place_nodes env start e in
    let behind = all_places env (start + width e + 1) others in
    judged_then start start (start + width e) here behind (IsOnLeft env e) (AreOnLeft env (e ∷ others)) (place_in env e) (λ (one : Place). and_then (places_in env others) (λ (rest : List Place). Ok (one ∷ rest)))
    (place_order env start e g.0.0)
    (beyond_segment start (start + width e) (start + width e + 1) (start + width e + 1) (start + width e + 1 + widths others) behind (all_places_order env (start + width e + 1) others g.1) (omega arith))
    (place_told env start e g.0 r.0 (types_left env (used_inside e) (flat_map used_inside others) t) (named_left here behind n))
    (λ one h.
    judged_map behind (AreOnLeft env others) (AreOnLeft env (e ∷ others)) (places_in env others) (λ (rest : List Place). one ∷ rest)
    (places_told env (start + width e + 1) others g.1 r.1 (types_right env (used_inside e) (flat_map used_inside others) t) (named_right here behind n)) (λ rest k. more_on_left env e others one rest h k))

-- ---- values go to places

-- all types of places are known
abbrev pub AreKnown : List Place → Type 0
AreKnown places = types_of_places places ≡ known (types_of_targets (map target_from places))

targets_count : (places : List Place) → length (types_of_targets (map target_from places)) ≡ length places
targets_count places = length-map (map target_from places) (λ (target : typed.Target). target.ty) ∙ length-map places target_from

abbrev pub IsUpdate : Environment → List Place → List Expr → typed.Update → Type 0
IsUpdate env places values update =
    TableKnown env.table → AreKnown places → (sources : List typed.Source) × AreSources env (types_of_targets (map target_from places)) values sources × (update ≡ record { targets = map target_from places; sources = sources })

-- the node that is broken where there are not as many values as places
pub record IsCounting (env : Environment) (places : List Place) (values : List Expr) (rule : TypingRule) (pos : Pos) (one : Occurrence) : Type 0 where
  pub own : one.env ≡ env
  pub breaks_it : are_enough env (length places) values ≡ false → Met (one ∷ []) (broken rule pos)
  pub silent : are_enough env (length places) values ≡ true → NoNames (one ∷ []) → Silent (one ∷ [])

enough_told : (env : Environment) (places : List Place) (values : List Expr) (rule : TypingRule) (pos : Pos) (one : Occurrence) (sources : List typed.Source) → IsCounting env places values rule pos one → NoNames (one ∷ []) → AreRight env (types_of_places places) values sources
    → Judged (one ∷ []) (IsUpdate env places values) (and_then (unless (are_enough env (length places) values) (broken rule pos)) (λ (held : Unit {0}). Ok (record { targets = map target_from places; sources = sources })))
enough_told env places values rule pos one sources c n h = by_enough (are_enough env (length places) values) refl where
  made : are_enough env (length places) values ≡ true → IsUpdate env places values (record { targets = map target_from places; sources = sources })
  made p t k = (sources, h t (types_of_targets (map target_from places)) k (subst (λ (m : ℕ). are_enough env m values ≡ true) (sym (targets_count places)) p), refl)

  by_enough : (b : Bool) → are_enough env (length places) values ≡ b
      → Judged (one ∷ []) (IsUpdate env places values) (and_then (unless b (broken rule pos)) (λ (held : Unit {0}). Ok (record { targets = map target_from places; sources = sources })))
  by_enough true p = (c.silent p n, made p)
  by_enough false p = c.breaks_it p

pub update_told : (env : Environment) (start : ℕ) (places : List Place) (values : List Expr) (rule : TypingRule) (pos : Pos) (one : Occurrence) → IsCounting env places values rule pos one → AllByRecursion IsExpr values → AreRead values → HaveTypes env (flat_map names_in values)
    → NoNames (sources_nodes env start (types_of_places places) values ++ one ∷ []) → start + widths values < one.after
    → Judged (sources_nodes env start (types_of_places places) values ++ one ∷ []) (IsUpdate env places values) (update_in env rule pos places values)
update_told env start places values rule pos one c x r t n p =
    let all = sources_nodes env start (types_of_places places) values in
    judged_then start start (start + widths values) all (one ∷ []) (AreRight env (types_of_places places) values) (IsUpdate env places values) (sources_in env (types_of_places places) values)
    (λ (sources : List typed.Source). and_then (unless (are_enough env (length places) values) (broken rule pos)) (λ (held : Unit {0}). Ok (record { targets = map target_from places; sources = sources })))
    (sources_order env start (types_of_places places) values x) (beyond_one start (start + widths values) one (inl p))
    (sources_told env start (types_of_places places) values x r t (named_left all (one ∷ []) n)) (λ sources h. enough_told env places values rule pos one sources c (named_right all (one ∷ []) n) h)
