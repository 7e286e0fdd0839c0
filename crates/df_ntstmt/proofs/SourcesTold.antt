-- The walk over right sides.
use Rattle.std.proofs.Common.{◌≡◌, ℕ, ◌+◌, Bool, true, ◌==◌, List, [], ◌∷◌, length, Option, Some, Ok, Err, refl, sym, ap, subst, ◌∙◌, arith}
use Rattle.std.specs.List.{AllByRecursion, list_all}
use Rattle.std.proofs.lemmas.Bool.{and_parts, eqb-true}
use Rattle.df_lang.specs.declared.ty.Ty.{Ty}
use Rattle.df_lang.specs.Expr as typed_expr
use Rattle.df_lang.specs.Stmt as typed
use Rattle.df_ntree.specs.Expr.{Expr, Number, Character, Truth, Name, Parentheses, Call, Unary, Cast, Operations, Leading}
use Rattle.df_ntree.specs.ExprSpelling.{spell, IsExpr}
use Rattle.df_ntyping.specs.Literals.{AreInRange}
use Rattle.df_ntyping.specs.Environment.{Environment}
use Rattle.df_ntyping.specs.ExprNodes.{width, value_nodes, first_place, other_places}
use Rattle.df_ntyping.specs.StatementNodes.{source_nodes, sources_apart, sources_nodes, widths}
use Rattle.df_ntyping.specs.LocalTypes.{names_in, values_of, is_count, are_enough}
use Rattle.std.specs.List.{flat_map}
use Rattle.df_ntyping.specs.ExprElaboration.{ElaboratesAt}
use Rattle.df_ntyping.specs.SideElaboration.{IsSource, AreApart, AreSources}
use Rattle.df_ntyping.specs.mirror.Parts.{Typed}
use Rattle.df_ntyping.proofs.FaultlessNodes.{TableKnown}
use Rattle.df_ntyping.proofs.FirstFault.{NoNames, named_left, named_right}
use Rattle.df_ntyping.proofs.Found.{beyond_segment}
use Rattle.df_ntyping.proofs.KnownTypes.{known}
use Rattle.df_ntyping.proofs.SideOrder.{source_order, apart_order}
use Rattle.df_ntyping.proofs.Verdict.{HaveTypes, types_left, types_right}
use Rattle.df_ntexpr.specs.Replies.{Reply}
use Rattle.df_ntstmt.specs.mirror.Steps.{and_then, typed_in, wanted_at}
use Rattle.df_ntstmt.specs.mirror.Sides.{value_source_in, source_in, apart_in, sources_in}
use Rattle.df_ntstmt.proofs.Judging.{Judged, judged_then, judged_map, judged_none}
use Rattle.df_ntstmt.proofs.ExprsTold.{IsAt, value_told}
use Rattle.df_ntstmt.proofs.CallSourcesTold.{IsRight, regrouped, made_right, call_source_told}

-- ---- a value as a right side

-- one value goes to one place
abbrev pub IsValue : Environment → List (Option Ty) → Expr → typed.Source → Type 0
IsValue env places e source = (ty : Ty) → places ≡ Some ty ∷ [] → (value : typed_expr.Expr) × ElaboratesAt env ty e value × (source ≡ typed.Single ty value)

single_made : (env : Environment) (places : List (Option Ty)) (e : Expr) (t : Typed) → IsAt env (first_place places) e t → IsValue env places e (typed.Single t.ty t.expr)
single_made env places e t h ty p = let (same, k) = h ty (ap first_place p) in (t.expr, k, ap (λ (u : Ty). typed.Single u t.expr) same)

value_source_told : (env : Environment) (start : ℕ) (places : List (Option Ty)) (e : Expr) → IsExpr e → AreInRange (spell e) → HaveTypes env (names_in e) → NoNames (value_nodes env start (first_place places) e)
    → Judged (value_nodes env start (first_place places) e) (IsValue env places e) (value_source_in env places e)
value_source_told env start places e x r t n =
    judged_map (value_nodes env start (first_place places) e) (IsAt env (first_place places) e) (IsValue env places e) (typed_in env (wanted_at (first_place places)) e) (λ (one : Typed). typed.Single one.ty one.expr)
    (value_told env start (first_place places) e x r t n) (λ one h. single_made env places e one h)

-- of what is no call
pub record IsNoCall (env : Environment) (e : Expr) : Type 0 where
  pub counts : values_of env e ≡ Some 1
  pub source : (ty : Ty) (value : typed_expr.Expr) → ElaboratesAt env ty e value → IsSource env (ty ∷ []) e (typed.Single ty value)

single_place : (tys : List Ty) → (1 == length tys) ≡ true → (ty : Ty) × (tys ≡ ty ∷ [])
single_place [] p = absurd cc
single_place (ty ∷ []) p = (ty, refl)
single_place (ty ∷ other ∷ tys) p = absurd (let q : 1 ≡ length (ty ∷ other ∷ tys) = eqb-true 1 (length (ty ∷ other ∷ tys)) p in omega (arith, q))

value_right : (env : Environment) (places : List (Option Ty)) (e : Expr) (source : typed.Source) → IsNoCall env e → IsValue env places e source → IsRight env places e source
value_right env places e source own h t tys p counts =
    let one : (1 == length tys) ≡ true = subst (λ (n : Option ℕ). is_count (length tys) n ≡ true) own.counts counts in
    let (ty, same) = single_place tys one in
    let (value, k, is) = h ty (p ∙ ap known same) in
    subst (λ (all : List Ty). IsSource env all e source) (sym same) (subst (λ (s : typed.Source). IsSource env (ty ∷ []) e s) (sym is) (own.source ty value k))

other_source_told : (env : Environment) (start : ℕ) (places : List (Option Ty)) (e : Expr) → IsNoCall env e → IsExpr e → AreInRange (spell e) → HaveTypes env (names_in e) → NoNames (value_nodes env start (first_place places) e)
    → Judged (value_nodes env start (first_place places) e) (IsRight env places e) (value_source_in env places e)
other_source_told env start places e own x r t n = by_answer (value_source_in env places e) (value_source_told env start places e x r t n) where
  by_answer : (answer : Reply typed.Source) → Judged (value_nodes env start (first_place places) e) (IsValue env places e) answer → Judged (value_nodes env start (first_place places) e) (IsRight env places e) answer
  by_answer (Ok source) j = (j.0, value_right env places e source own j.1)
  by_answer (Err refusal) j = j

pub source_told : (env : Environment) (start : ℕ) (places : List (Option Ty)) (e : Expr) → IsExpr e → AreInRange (spell e) → HaveTypes env (names_in e) → NoNames (source_nodes env start places e)
    → Judged (source_nodes env start places e) (IsRight env places e) (source_in env places e)
source_told env start places (Call callee arguments) x r t n =
    made_right env start places callee arguments (call_source_told env start places callee arguments x r t (subst NoNames (regrouped env start places callee arguments) n))
source_told env start places (Number literal) x r t n = other_source_told env start places (Number literal) (record { counts = refl; source = λ ty value k. (value, k, refl) }) x r t n
source_told env start places (Character code at) x r t n = other_source_told env start places (Character code at) (record { counts = refl; source = λ ty value k. (value, k, refl) }) x r t n
source_told env start places (Truth b at) x r t n = other_source_told env start places (Truth b at) (record { counts = refl; source = λ ty value k. (value, k, refl) }) x r t n
source_told env start places (Name ident) x r t n = other_source_told env start places (Name ident) (record { counts = refl; source = λ ty value k. (value, k, refl) }) x r t n
source_told env start places (Parentheses at inner) x r t n = other_source_told env start places (Parentheses at inner) (record { counts = refl; source = λ ty value k. (value, k, refl) }) x r t n
source_told env start places (Unary operator at operand) x r t n = other_source_told env start places (Unary operator at operand) (record { counts = refl; source = λ ty value k. (value, k, refl) }) x r t n
source_told env start places (Cast operand all) x r t n = other_source_told env start places (Cast operand all) (record { counts = refl; source = λ ty value k. (value, k, refl) }) x r t n
source_told env start places (Operations first rest) x r t n = other_source_told env start places (Operations first rest) (record { counts = refl; source = λ ty value k. (value, k, refl) }) x r t n
source_told env start places (Leading operations) x r t n = other_source_told env start places (Leading operations) (record { counts = refl; source = λ ty value k. (value, k, refl) }) x r t n

-- ---- all right sides

abbrev give_one : Environment → List Expr → Bool
give_one env values = list_all (λ (value : Expr). is_count 1 (values_of env value)) values

-- each goes to its own place
abbrev pub AreApartOf : Environment → List (Option Ty) → List Expr → List typed.Source → Type 0
AreApartOf env places values sources = TableKnown env.table → (tys : List Ty) → places ≡ known tys → length values ≡ length tys → give_one env values ≡ true → AreApart env tys values sources

first_apart : (env : Environment) (places : List (Option Ty)) (e : Expr) (others : List Expr) (one : typed.Source) (rest : List typed.Source) → IsRight env (first_place places ∷ []) e one → AreApartOf env (other_places places) others rest
    → AreApartOf env places (e ∷ others) (one ∷ rest)
first_apart env places e others one rest h k t [] p size counts = absurd (omega (arith, size))
first_apart env places e others one rest h k t (ty ∷ tys) p size counts =
    let parts = and_parts (is_count 1 (values_of env e)) (give_one env others) counts in
    let place : first_place places ∷ [] ≡ known (ty ∷ []) = ap (λ (ps : List (Option Ty)). first_place ps ∷ []) p in
    (one, rest, h t (ty ∷ []) place parts.0, k t tys (ap other_places p) (omega (arith, size)) parts.1, refl)

none_apart : (env : Environment) (places : List (Option Ty)) → AreApartOf env places [] []
none_apart env places t [] p size counts = refl
none_apart env places t (ty ∷ tys) p size counts = absurd (omega (arith, size))

-- values are in the range of tokens, one by one
abbrev pub AreRead : List Expr → Type 0
AreRead values = AllByRecursion (λ (e : Expr). AreInRange (spell e)) values

pub apart_told : (env : Environment) (start : ℕ) (places : List (Option Ty)) (values : List Expr) → AllByRecursion IsExpr values → AreRead values → HaveTypes env (flat_map names_in values) → NoNames (sources_apart env start places values)
    → Judged (sources_apart env start places values) (AreApartOf env places values) (apart_in env places values)
apart_told env start places [] x r t n = judged_none (AreApartOf env places []) [] (none_apart env places)
apart_told env start places (e ∷ others) x r t n =
    let here = source_nodes env start (first_place places ∷ []) e in
    let behind = sources_apart env (start + width e + 1) (other_places places) others in
    judged_then start start (start + width e) here behind (IsRight env (first_place places ∷ []) e) (AreApartOf env places (e ∷ others)) (source_in env (first_place places ∷ []) e)
    (λ (one : typed.Source). and_then (apart_in env (other_places places) others) (λ (rest : List typed.Source). Ok (one ∷ rest)))
    (source_order env start (first_place places ∷ []) e x.0)
    (beyond_segment start (start + width e) (start + width e + 1) (start + width e + 1) (start + width e + 1 + widths others) behind (apart_order env (start + width e + 1) (other_places places) others x.1) (omega arith))
    (source_told env start (first_place places ∷ []) e x.0 r.0 (types_left env (names_in e) (flat_map names_in others) t) (named_left here behind n))
    (λ one h.
    judged_map behind (AreApartOf env (other_places places) others) (AreApartOf env places (e ∷ others)) (apart_in env (other_places places) others) (λ (rest : List typed.Source). one ∷ rest)
    (apart_told env (start + width e + 1) (other_places places) others x.1 r.1 (types_right env (names_in e) (flat_map names_in others) t) (named_right here behind n))
    (λ rest k. first_apart env places e others one rest h k))

-- where there are as many values as places
abbrev pub AreRight : Environment → List (Option Ty) → List Expr → List typed.Source → Type 0
AreRight env places values sources = TableKnown env.table → (tys : List Ty) → places ≡ known tys → are_enough env (length tys) values ≡ true → AreSources env tys values sources

apart_right : (env : Environment) (places : List (Option Ty)) (e other : Expr) (others : List Expr) (sources : List typed.Source) → AreApartOf env places (e ∷ other ∷ others) sources → AreRight env places (e ∷ other ∷ others) sources
apart_right env places e other others sources h t tys p enough =
    let parts = and_parts (length (e ∷ other ∷ others) == length tys) (give_one env (e ∷ other ∷ others)) enough in
    h t tys p (eqb-true (length (e ∷ other ∷ others)) (length tys) parts.0) parts.1

pub sources_told : (env : Environment) (start : ℕ) (places : List (Option Ty)) (values : List Expr) → AllByRecursion IsExpr values → AreRead values → HaveTypes env (flat_map names_in values) → NoNames (sources_nodes env start places values)
    → Judged (sources_nodes env start places values) (AreRight env places values) (sources_in env places values)
sources_told env start places [] x r t n = by_answer (apart_told env start places [] x r t n) where
  by_answer : Judged [] (AreApartOf env places []) (Ok []) → Judged [] (AreRight env places []) (Ok [])
  by_answer j = (j.0, λ known_table tys p enough. let parts = and_parts (0 == length tys) true enough in j.1 known_table tys p (eqb-true 0 (length tys) parts.0) refl)
sources_told env start places (e ∷ []) x r t n =
    judged_map (source_nodes env start places e) (IsRight env places e) (AreRight env places (e ∷ [])) (source_in env places e) (λ (one : typed.Source). one ∷ [])
    (source_told env start places e x.0 r.0 (types_left env (names_in e) [] t) n) (λ one h known_table tys p enough. (one, h known_table tys p enough, refl))
sources_told env start places (e ∷ other ∷ others) x r t n = by_answer (apart_in env places (e ∷ other ∷ others)) (apart_told env start places (e ∷ other ∷ others) x r t n) where
  by_answer : (answer : Reply (List typed.Source)) → Judged (sources_apart env start places (e ∷ other ∷ others)) (AreApartOf env places (e ∷ other ∷ others)) answer → Judged (sources_apart env start places (e ∷ other ∷ others)) (AreRight env places (e ∷ other ∷ others)) answer
  by_answer (Ok sources) j = (j.0, apart_right env places e other others sources j.1)
  by_answer (Err refusal) j = j
