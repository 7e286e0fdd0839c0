-- A walk through statements that break nothing: where types were fixed they are known, in the environment of the walk and
-- in that of the whole method.
use Rattle.std.proofs.Common.{◌≡◌, ℕ, suc, ◌+◌, ◌<◌, true, List, [], ◌∷◌, ◌++◌, length, map, Option, Some, None, refl, sym, ap, ◌∙◌, arith}
use Rattle.std.specs.Prelude.{Contains, slice_get, is_some, ◌==◌}
use Rattle.std.specs.List.{AllByRecursion, list_all, flat_map}
use Rattle.std.proofs.lemmas.Bool.{and_parts, eqb-true}
use Rattle.std.proofs.lemmas.Option.{same_Some}
use Rattle.std.proofs.lemmas.List.Elements.{Contains-append_left, Contains-append_right}
use Rattle.df_lemmas.proofs.Lists.{get_below}
use Rattle.df_lang.specs.declared.ty.Ty.{Ty}
use Rattle.df_ntree.specs.Expr.{Expr, Call, Arguments}
use Rattle.df_ntree.specs.ExprSpelling.{IsExpr}
use Rattle.df_ntyping.specs.Table.{Signature}
use Rattle.df_ntyping.specs.Environment.{Local, Inferred, Open, Used, Fixed, Environment, fixed_type, local_type}
use Rattle.df_ntyping.specs.Meaning.{Meaning, TheLocal, TheMethod, Means, meaning_of, called_signature}
use Rattle.df_ntyping.specs.ExprTypes.{type_of_meaning, type_in}
use Rattle.df_ntyping.specs.LocalTypes.{names_in, used_names, types_of_value, next_type, types_of_values, values_of, is_count, are_enough, results_of_call}
use Rattle.df_ntyping.specs.Rule.{Typing, Calls}
use Rattle.df_ntyping.specs.ExprNodes.{width, first_place, other_places, places_of, callee_nodes, expr_nodes, argument_nodes, call_nodes}
use Rattle.df_ntyping.specs.StatementNodes.{source_nodes, sources_apart, sources_nodes}
use Rattle.df_ntyping.specs.Laws.{HasTypes}
use Rattle.df_ntyping.proofs.Types.{one_type}
use Rattle.df_ntyping.proofs.KnownTypes.{known, known_count}
use Rattle.df_ntyping.proofs.KeptTypes.{Kept, names_kept}
use Rattle.df_ntyping.proofs.ScopedLocals.{IsScoped, found_in_scope}
use Rattle.df_ntyping.proofs.WholeTypes.{AreWhole, whole_at, marked, used_is_not_open}
use Rattle.df_ntyping.proofs.LikeEnvironments.{AreLike, same_meaning, same_called, HaveOneType, type_same}
use Rattle.df_ntyping.proofs.AllNodes.{head, left, right}
use Rattle.df_ntyping.proofs.FaultlessNodes.{AllFaultless, typed_there, holds_of, some_there, TableKnown, signature_known}

-- so many locals have a type that is fixed, known or not
pub record AreFixed (types : List Inferred) (count : ℕ) : Type 0 where
  pub fixed : (k : ℕ) → k < count → (x : Option Ty) × (slice_get types k ≡ Some (Fixed x))

-- the environment of the walk, and that of the whole
pub record Walks (one whole : Environment) : Type 0 where
  pub table : TableKnown whole.table
  pub like : AreLike one whole
  pub size : length one.types ≡ whole.next
  pub known_types : AreWhole one.types
  pub scoped : IsScoped 0 whole
  pub ahead : AreFixed whole.types whole.next

-- ---- names that are used have types

fixed_is_not_used : (x : Option Ty) → Used ≡ Fixed x → ⊥
fixed_is_not_used x p = let q : 1 ≡ 0 = ap is_used p in omega (arith, q) where
  is_used : Inferred → ℕ
  is_used Used = 1
  is_used other = 0

pub used_typed : (one whole : Environment) (names : List ℕ) → Walks one whole → Kept (used_names one names one.types) whole.types → (name : ℕ) (local : Local) → Contains names name → Means whole name (TheLocal local)
    → (ty : Ty) × (local_type one local.number ≡ Some ty) × (local_type whole local.number ≡ Some ty)
used_typed one whole names w kept name local c means =
    let below = (found_in_scope 0 whole name local w.scoped means).below in
    let (inferred, p) = get_below one.types local.number (omega (arith, w.size)) in
    let (x, q) = w.ahead.fixed local.number below in
    by_kind inferred p x q where
      there : (one_kind : Inferred) → slice_get one.types local.number ≡ Some one_kind → (one_kind ≡ Open → ⊥) → slice_get whole.types local.number ≡ Some one_kind
      there one_kind p n = kept.keeps local.number one_kind ((names_kept one names one.types).keeps local.number one_kind p n) n

      by_kind : (inferred : Inferred) → slice_get one.types local.number ≡ Some inferred → (x : Option Ty) → slice_get whole.types local.number ≡ Some (Fixed x)
          → (ty : Ty) × (local_type one local.number ≡ Some ty) × (local_type whole local.number ≡ Some ty)
      by_kind Open p x q =
          let used_there = kept.keeps local.number Used (marked one names one.types name local c (same_meaning one whole name w.like ∙ means) p) used_is_not_open in
          absurd (fixed_is_not_used x (same_Some Used (Fixed x) (sym used_there ∙ q)))
      by_kind Used p x q = absurd (fixed_is_not_used x (same_Some Used (Fixed x) (sym (there Used p used_is_not_open) ∙ q)))
      by_kind (Fixed None) p x q = absurd (whole_at one.types local.number (Fixed None) w.known_types p)
      by_kind (Fixed (Some ty)) p x q = (ty, ap fixed_type p, ap fixed_type (there (Fixed (Some ty)) p (λ e. cc)))

-- names of an expression are among these
abbrev pub AreAmong : List ℕ → List ℕ → Type 0
AreAmong some names = (name : ℕ) → Contains some name → Contains names name

pub among_left : (xs ys : List ℕ) → AreAmong xs (xs ++ ys)
among_left xs ys name c = Contains-append_left xs ys name c

pub among_right : (xs ys : List ℕ) → AreAmong ys (xs ++ ys)
among_right xs ys name c = Contains-append_right xs ys name c

pub has_types : (one whole : Environment) (names : List ℕ) (e : Expr) → Walks one whole → Kept (used_names one names one.types) whole.types → AreAmong (names_in e) names → HasTypes whole e
has_types one whole names e w kept among name local c means =
    let (ty, p, q) = used_typed one whole names w kept name local (among name c) means in (ty, q)

one_types : (one whole : Environment) (names : List ℕ) (e : Expr) → Walks one whole → Kept (used_names one names one.types) whole.types → AreAmong (names_in e) names → HaveOneType one whole (names_in e)
one_types one whole names e w kept among name c = by_meaning (meaning_of whole name) refl where
  by_meaning : (m : Option Meaning) → meaning_of whole name ≡ m → type_of_meaning one (meaning_of one name) ≡ type_of_meaning whole (meaning_of whole name)
  by_meaning (Some (TheLocal local)) p =
      let (ty, q, r) = used_typed one whole names w kept name local (among name c) p in
      rw (same_meaning one whole name w.like, p) (q ∙ sym r)
  by_meaning (Some (TheMethod id signature)) p = rw (same_meaning one whole name w.like, p) refl
  by_meaning None p = rw (same_meaning one whole name w.like, p) refl

-- ---- values

pub expr_type : (one whole : Environment) (names : List ℕ) (start : ℕ) (e : Expr) → Walks one whole → Kept (used_names one names one.types) whole.types → AreAmong (names_in e) names → IsExpr e → AllFaultless (expr_nodes whole start e)
    → (ty : Ty) × (type_in one None e ≡ Some ty)
expr_type one whole names start e w kept among g h =
    let (ty, t, k) = typed_there whole None start e g (has_types one whole names e w kept among) h in
    (ty, type_same one whole None e w.like (one_types one whole names e w kept among) ∙ one_type whole None e ty t g k)

-- the node of a call that is a whole right side
called_there : (env : Environment) (start : ℕ) (callee : Expr) (arguments : Arguments) → AllFaultless (call_nodes env start callee arguments) → is_some (called_signature env callee) ≡ true
called_there env start callee arguments h =
    let last = right (callee_nodes env start callee (expr_nodes env start callee) ++ argument_nodes env (start + width callee + 1) (places_of (called_signature env callee)) arguments) _ h in
    holds_of (is_some (called_signature env callee)) (λ b. (head last).holds (Typing Calls) b)

pub signature_there : (env : Environment) (start : ℕ) (callee : Expr) (arguments : Arguments) → AllFaultless (call_nodes env start callee arguments) → (signature : Signature) × (called_signature env callee ≡ Some signature)
signature_there env start callee arguments h = some_there (called_signature env callee) (called_there env start callee arguments h)

-- the values of a right side have these types
pub record HasTypesOf (one whole : Environment) (e : Expr) : Type 0 where
  pub tys : List Ty
  pub types : types_of_value one e ≡ known tys
  pub counted : values_of whole e ≡ Some (length tys)

call_value : (one whole : Environment) (start : ℕ) (callee : Expr) (arguments : Arguments) → Walks one whole → AllFaultless (call_nodes whole start callee arguments) → HasTypesOf one whole (Call callee arguments)
call_value one whole start callee arguments w h =
    let (signature, p) = signature_there whole start callee arguments h in
    let k = signature_known whole callee signature w.table p in
    record {
      tys = k.result_types;
      types = rw (same_called one whole callee w.like ∙ p, results_of_call) (k.results);
      counted = rw (p, k.results) (ap (λ (n : ℕ). Some n) (known_count k.result_types));
    }

other_value : (one whole : Environment) (e : Expr) (ty : Ty) → types_of_value one e ≡ type_in one None e ∷ [] → values_of whole e ≡ Some 1 → type_in one None e ≡ Some ty → HasTypesOf one whole e
other_value one whole e ty p q r = record { tys = ty ∷ []; types = p ∙ ap (λ (x : Option Ty). x ∷ []) r; counted = q }

value_typed : (one whole : Environment) (names : List ℕ) (start : ℕ) (places : List (Option Ty)) (e : Expr) → Walks one whole → Kept (used_names one names one.types) whole.types → AreAmong (names_in e) names → IsExpr e
    → AllFaultless (source_nodes whole start places e) → HasTypesOf one whole e
value_typed one whole names start places (Call callee arguments) w kept among g h = call_value one whole start callee arguments w (left (call_nodes whole start callee arguments) _ h)
value_typed one whole names start places e w kept among g h =
    let (ty, p) = expr_type one whole names start e w kept among g (left (expr_nodes whole start e) _ h) in
    other_value one whole e ty refl refl p

-- ---- all values

pub record HaveTypesOf (one : Environment) (values : List Expr) (count : ℕ) : Type 0 where
  pub tys : List Ty
  pub types : types_of_values one values ≡ known tys
  pub counted : length tys ≡ count

first_of : (tys : List Ty) → (length tys == 1) ≡ true → (ty : Ty) × (next_type (known tys) ≡ Some ty)
first_of [] p = absurd cc
first_of (ty ∷ others) p = (ty, refl)

apart_typed : (one whole : Environment) (names : List ℕ) (start : ℕ) (places : List (Option Ty)) (values : List Expr) → Walks one whole → Kept (used_names one names one.types) whole.types → AreAmong (flat_map names_in values) names
    → AllByRecursion IsExpr values → AllFaultless (sources_apart whole start places values) → list_all (λ (value : Expr). is_count 1 (values_of whole value)) values ≡ true
    → (tys : List Ty) × (map (λ (value : Expr). next_type (types_of_value one value)) values ≡ known tys) × (length tys ≡ length values)
apart_typed one whole names start places [] w kept among g h p = ([], refl, refl)
apart_typed one whole names start places (value ∷ others) w kept among g h p =
    let first = source_nodes whole start (first_place places ∷ []) value in
    let parts = and_parts (is_count 1 (values_of whole value)) (list_all (λ (x : Expr). is_count 1 (values_of whole x)) others) p in
    let v = value_typed one whole names start (first_place places ∷ []) value w kept (λ name c. among name (Contains-append_left (names_in value) (flat_map names_in others) name c)) g.0 (left first _ h) in
    let (tys, q, r) = apart_typed one whole names (start + width value + 1) (other_places places) others w kept (λ name c. among name (Contains-append_right (names_in value) (flat_map names_in others) name c)) g.1 (right first _ h) parts.1 in
    let one_value : (length v.tys == 1) ≡ true = rw (v.counted) at parts.0 in
    let (ty, s) = first_of v.tys one_value in
    (ty ∷ tys, rw (v.types, s, q) refl, ap suc r)

pub values_typed : (one whole : Environment) (names : List ℕ) (start : ℕ) (places : List (Option Ty)) (number : ℕ) (values : List Expr) → Walks one whole → Kept (used_names one names one.types) whole.types → AreAmong (flat_map names_in values) names
    → AllByRecursion IsExpr values → AllFaultless (sources_nodes whole start places values) → are_enough whole number values ≡ true → HaveTypesOf one values number
values_typed one whole names start places number [] w kept among g h p = record { tys = []; types = refl; counted = eqb-true 0 number (and_parts (0 == number) true p).0 }
values_typed one whole names start places number (value ∷ []) w kept among g h p =
    let v = value_typed one whole names start places value w kept (λ name c. among name (Contains-append_left (names_in value) [] name c)) g.0 h in
    let counted : (length v.tys == number) ≡ true = rw (v.counted) at p in
    record { tys = v.tys; types = v.types; counted = eqb-true (length v.tys) number counted }
values_typed one whole names start places number (value ∷ other ∷ others) w kept among g h p =
    let parts = and_parts (length (value ∷ other ∷ others) == number) (list_all (λ (x : Expr). is_count 1 (values_of whole x)) (value ∷ other ∷ others)) p in
    let (tys, q, r) = apart_typed one whole names start places (value ∷ other ∷ others) w kept among g h parts.1 in
    record { tys = tys; types = q; counted = r ∙ eqb-true (length (value ∷ other ∷ others)) number parts.0 }
