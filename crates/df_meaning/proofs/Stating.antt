-- Well-typed statements keep values of the types of locals.
use Rattle.std.proofs.Common.{◌≡◌, ℕ, zero, suc, ◌==◌, Bool, true, false, ◌&&◌, ◌⊎◌, inl, inr, List, [], ◌∷◌, ◌++◌, map, length, nat_le, slice_get, Option, Some, None, refl, sym, ap, subst, ◌∙◌, append_assoc, append-nil, arith}
use Rattle.std.proofs.lemmas.Bool.{eq-eqb, ne_eqb}
use Rattle.std.specs.Option.{option_map_or}
use Rattle.std.specs.List.{list_all, flat_map}
use Rattle.df_base.specs.declared.pos.Pos.{Pos}
use Rattle.df_lang.specs.declared.ty.Ty.{Ty}
use Rattle.df_lang.specs.declared.ty.Ty.TheVariants as types
use Rattle.df_lang.specs.Expr.{Expr}
use Rattle.df_lang.specs.Stmt.{Operand, Target, Call, Conversion, Source, Single, Results, Update, Variable, Clause, Stmt, Block, Var, Assign, CallOf, If, While, Break, Return, Assert, Print, Stmts, done, next, Branches, no_branch, branch}
use Rattle.df_lang.specs.Program.{Method, Program, method_at, types_of}
use Rattle.df_lang.specs.Newtype.{same_type}
use Rattle.df_lang.specs.Typing.{are_same_types, is_type, converts, is_expr, are_exprs, are_clauses, Setting, is_call, are_results, is_source, source_types, is_target, is_update, may_update, are_numbered, variable_numbers, variable_types, locals_after, locals_after_all, locals_after_branches, gives_results, is_return, is_measured, is_stmt, are_stmts, are_branches}
use Rattle.df_meaning.specs.declared.kind.Kind.{Kind}
use Rattle.df_meaning.specs.declared.kind.Kind.TheVariants as kinds
use Rattle.df_meaning.specs.Value.{truth_of}
use Rattle.df_meaning.specs.Value as values
use Rattle.df_meaning.specs.Types.{has_type, have_types}
use Rattle.df_meaning.specs.Outcome.{Outcome, Gives, Wrong}
use Rattle.df_meaning.specs.State.{Locals, Store, State, set_local, value_at, with_local, without_local, with_store, printed}
use Rattle.df_meaning.specs.Meaning.{Meaning, Flow, Returned, Loop, state_of}
use Rattle.df_meaning.specs.Meaning as flows
use Rattle.df_meaning.specs.Evaluation.{converted, evaluate}
use Rattle.df_meaning.specs.Execution.{Values, Taken, goes, then_next, evaluate_all, check_all, convert_all, execute_call, execute_source, execute_sources, is_distinct, give_all, execute_update, execute_optional, declare_all, evaluate_operand, print_all, go_on, execute, execute_all, execute_branches}
use Rattle.df_meaning.specs.Typed.{AreTyped}
use Rattle.df_meaning.proofs.Cases.{IfGives, after_gives, after_any, given, choice, both, three, four, joined}
use Rattle.df_meaning.proofs.Types.{same_type_equal, same_typed}
use Rattle.df_meaning.proofs.Typing.{Is, evaluate_typed, converted_typed}

-- ---- locals

-- the types of locals by number, among those of the whole method
pub record Within (locals all : List Ty) : Type 0 where
  pub at : (n : ℕ) (ty : Ty) → slice_get locals n ≡ Some ty → slice_get all n ≡ Some ty

get_front : (locals others : List Ty) (n : ℕ) (ty : Ty) → slice_get locals n ≡ Some ty → slice_get (locals ++ others) n ≡ Some ty
get_front [] others n ty e = cc
get_front (t ∷ ts) others zero ty e = e
get_front (t ∷ ts) others (suc n) ty e = get_front ts others n ty e

pub within_front : (locals others all : List Ty) → Within (locals ++ others) all → Within locals all
within_front locals others all h = record { at = λ n ty e. h.at n ty (get_front locals others n ty e) }

pub set_same : (f : Locals) (n : ℕ) (o : Option values.Value) → set_local f n o n ≡ o
set_same f n o = rw (eq-eqb n n refl) refl

pub set_other : (f : Locals) (n k : ℕ) (o : Option values.Value) → (k ≡ n → ⊥) → set_local f n o k ≡ f k
set_other f n k o h = rw (ne_eqb k n h) refl

pub is_or_not : (k n : ℕ) → (k ≡ n) ⊎ (k ≡ n → ⊥)
is_or_not zero zero = inl refl
is_or_not zero (suc n) = inr (λ e. omega (arith, e))
is_or_not (suc k) zero = inr (λ e. omega (arith, e))
is_or_not (suc k) (suc n) = elim (is_or_not k n) [ inl e ↦ inl (ap suc e) | inr h ↦ inr (λ e. h (omega (arith, e))) ]

-- a local of the type takes a value of it
pub set_typed : (p : Program) (all : List Ty) (s : State) (local : ℕ) (ty : Ty) (value : values.Value) → AreTyped p all s → slice_get all local ≡ Some ty → has_type p ty value ≡ true
    → AreTyped p all (with_local s local value)
set_typed p all s local ty value typed there is = record { at = λ n t v e f. by_place n t v e f (is_or_not n local) }
  where
    by_place : (n : ℕ) (t : Ty) (v : values.Value) → slice_get all n ≡ Some t → value_at (with_local s local value) n ≡ Some v → (n ≡ local) ⊎ (n ≡ local → ⊥) → has_type p t v ≡ true
    by_place n t v e f (inl same) =
        let a : set_local s.locals local (Some value) n ≡ Some value = subst (λ (k : ℕ). set_local s.locals local (Some value) k ≡ Some value) (sym same) (set_same s.locals local (Some value)) in
        let b : slice_get all n ≡ Some ty = subst (λ (k : ℕ). slice_get all k ≡ Some ty) (sym same) there in
        let c : Some value ≡ Some v = sym a ∙ f in
        let d : Some ty ≡ Some t = sym b ∙ e in
        let x : value ≡ v = cc in
        let y : ty ≡ t = cc in
        subst (λ (u : Ty). has_type p u v ≡ true) y (subst (λ (w : values.Value). has_type p ty w ≡ true) x is)
    by_place n t v e f (inr other) = typed.at n t v e (sym (set_other s.locals local n (Some value) other) ∙ f)

-- a local without a value has none of another type
pub unset_typed : (p : Program) (all : List Ty) (s : State) (local : ℕ) → AreTyped p all s → AreTyped p all (without_local s local)
unset_typed p all s local typed = record { at = λ n t v e f. by_place n t v e f (is_or_not n local) }
  where
    by_place : (n : ℕ) (t : Ty) (v : values.Value) → slice_get all n ≡ Some t → value_at (without_local s local) n ≡ Some v → (n ≡ local) ⊎ (n ≡ local → ⊥) → has_type p t v ≡ true
    by_place n t v e f (inl same) =
        let a : set_local s.locals local None n ≡ None = subst (λ (k : ℕ). set_local s.locals local None k ≡ None) (sym same) (set_same s.locals local None) in
        let c : None ≡ Some v = sym a ∙ f in cc
    by_place n t v e f (inr other) = typed.at n t v e (sym (set_other s.locals local n None other) ∙ f)

-- the store has no part in it
pub store_typed : (p : Program) (all : List Ty) (s : State) (store : Store) → AreTyped p all s → AreTyped p all (with_store s store)
store_typed p all s store typed = record { at = λ n t v e f. typed.at n t v e f }

-- ---- lists of types and values

pub same_types_have : (p : Program) (as_types bs : List Ty) (vs : List values.Value) → are_same_types as_types bs ≡ true → have_types p as_types vs ≡ true → have_types p bs vs ≡ true
same_types_have p [] [] vs e h = h
same_types_have p [] (b ∷ bs) vs e h = cc
same_types_have p (a ∷ as_types) [] vs e h = cc
same_types_have p (a ∷ as_types) (b ∷ bs) [] e h = cc
same_types_have p (a ∷ as_types) (b ∷ bs) (v ∷ vs) e h =
    let e = both (same_type a b) (are_same_types as_types bs) e in
    let h = both (has_type p a v) (have_types p as_types vs) h in
    joined _ _ (same_typed p a b v e.0 h.0) (same_types_have p as_types bs vs e.1 h.1)

pub append_have : (p : Program) (as_types bs : List Ty) (vs ws : List values.Value) → have_types p as_types vs ≡ true → have_types p bs ws ≡ true → have_types p (as_types ++ bs) (vs ++ ws) ≡ true
append_have p [] bs [] ws h k = k
append_have p [] bs (v ∷ vs) ws h k = cc
append_have p (a ∷ as_types) bs [] ws h k = cc
append_have p (a ∷ as_types) bs (v ∷ vs) ws h k =
    let h = both (has_type p a v) (have_types p as_types vs) h in
    joined _ _ h.0 (append_have p as_types bs vs ws h.1 k)

-- ---- what calls give, and turns of loops

-- where a statement of a method stands
abbrev pub here : Meaning → List Ty → Method → Bool → Setting
here m locals own in_loop = record { program = m.program; method = own; locals = locals; in_loop = in_loop }

abbrev pub FlowTyped : Meaning → List Ty → Flow → Type 0
FlowTyped m all flow = AreTyped m.program all (state_of flow)

-- a loop whose body is well typed, with types among those of all
pub record IsLoopTyped (m : Meaning) (all : List Ty) (loop : Loop) : Type 0 where
  pub locals : List Ty
  pub own : Method
  pub body : are_stmts (here m locals own true) loop.body ≡ true
  pub within : Within (locals_after_all locals loop.body) all

-- calls give values of the types of their results, and turns keep the types of locals
pub record IsMeaningTyped (m : Meaning) : Type 0 where
  pub call : (at : Pos) (callee : ℕ) (method : Method) (arguments : List values.Value) (store : Store) → method_at m.program callee ≡ Some method → have_types m.program (types_of method.parameters) arguments ≡ true
      → IfGives (λ (r : Returned). have_types m.program (types_of method.results) r.values ≡ true) (m.call at callee arguments store)
  pub turns : (all : List Ty) (loop : Loop) (s : State) → IsLoopTyped m all loop → AreTyped m.program all s → IfGives (FlowTyped m all) (m.turns loop s)

-- ---- parts of statements

pub within_typed : (p : Program) (locals all : List Ty) (s : State) → Within locals all → AreTyped p all s → AreTyped p locals s
within_typed p locals all s h typed = record { at = λ n ty v e f. typed.at n ty v (h.at n ty e) f }

pub all_typed : (m : Meaning) (locals : List Ty) (s : State) → AreTyped m.program locals s → (tys : List Ty) (es : List Expr) → are_exprs m.program locals tys es ≡ true
    → IfGives (λ (vs : List values.Value). have_types m.program tys vs ≡ true) (evaluate_all m s es)
all_typed m locals s typed [] [] is = refl
all_typed m locals s typed [] (e ∷ es) is = cc
all_typed m locals s typed (ty ∷ tys) [] is = cc
all_typed m locals s typed (ty ∷ tys) (e ∷ es) is =
    let is = both (is_expr m.program locals ty e) (are_exprs m.program locals tys es) is in
    after_gives (Is m.program ty) (λ (vs : List values.Value). have_types m.program (ty ∷ tys) vs ≡ true) (evaluate m s e) _ (evaluate_typed m locals s typed e ty is.0) (λ v h.
    after_gives (λ (vs : List values.Value). have_types m.program tys vs ≡ true) (λ (vs : List values.Value). have_types m.program (ty ∷ tys) vs ≡ true) (evaluate_all m s es) _ (all_typed m locals s typed tys es is.1) (λ vs k.
    joined (has_type m.program ty v) (have_types m.program tys vs) h k))

-- clauses leave the state
pub checked_same : (m : Meaning) (s : State) (kind : Kind) (clauses : List Clause) → IfGives (λ (t : State). t ≡ s) (check_all m s kind clauses)
checked_same m s kind [] = refl
checked_same m s kind (clause ∷ others) =
    after_any (λ (t : State). t ≡ s) (evaluate m s clause.condition) _ (λ v. choice (IfGives (λ (t : State). t ≡ s)) (truth_of v) _ (Wrong clause.pos kind) (checked_same m s kind others) tt)

-- values of the types, and a state of typed locals
abbrev pub ValuesTyped : Meaning → List Ty → List Ty → Values → Type 0
ValuesTyped m all tys given = (have_types m.program tys given.values ≡ true) × AreTyped m.program all given.state

pub call_typed : (m : Meaning) → IsMeaningTyped m → (locals all : List Ty) (own : Method) (in_loop : Bool) (s : State) → Within locals all → AreTyped m.program all s → (call : Call) (o : Option Method) → method_at m.program call.callee ≡ o
    → option_map_or (λ (method : Method). are_exprs m.program locals (types_of method.parameters) call.arguments) o false ≡ true
    → (tys : List Ty) → option_map_or (λ (method : Method). are_same_types tys (types_of method.results)) o false ≡ true
    → IfGives (λ (g : Values). (option_map_or (λ (method : Method). have_types m.program (types_of method.results) g.values) o false ≡ true) × AreTyped m.program all g.state) (execute_call m s call)
call_typed m h locals all own in_loop s within typed call None there is tys same = cc
call_typed m h locals all own in_loop s within typed call (Some method) there is tys same =
    after_gives (λ (vs : List values.Value). have_types m.program (types_of method.parameters) vs ≡ true) (λ (g : Values). (have_types m.program (types_of method.results) g.values ≡ true) × AreTyped m.program all g.state)
    (evaluate_all m s call.arguments) _ (all_typed m locals s (within_typed m.program locals all s within typed) (types_of method.parameters) call.arguments is) (λ vs k.
    after_gives (λ (r : Returned). have_types m.program (types_of method.results) r.values ≡ true) (λ (g : Values). (have_types m.program (types_of method.results) g.values ≡ true) × AreTyped m.program all g.state)
    (m.call call.pos call.callee vs s.store) _ (h.call call.pos call.callee method vs s.store there k) (λ r l.
    (l, store_typed m.program all s r.store typed)))

conversions_typed : (m : Meaning) (at : Pos) (cs : List Conversion) (tys : List Ty) (vs : List values.Value) → are_same_types (map (λ (c : Conversion). c.source) cs) tys ≡ true
    → list_all (λ (c : Conversion). is_type m.program c.target && converts c.source c.target) cs ≡ true → have_types m.program tys vs ≡ true
    → IfGives (λ (ws : List values.Value). have_types m.program (map (λ (c : Conversion). c.target) cs) ws ≡ true) (convert_all m at cs vs)
conversions_typed m at [] tys vs same are h = refl
conversions_typed m at (c ∷ cs) [] vs same are h = cc
conversions_typed m at (c ∷ cs) (ty ∷ tys) [] same are h = cc
conversions_typed m at (c ∷ cs) (ty ∷ tys) (v ∷ vs) same are h =
    let same = both (same_type c.source ty) (are_same_types (map (λ (x : Conversion). x.source) cs) tys) same in
    let are = both (is_type m.program c.target && converts c.source c.target) (list_all (λ (x : Conversion). is_type m.program x.target && converts x.source x.target) cs) are in
    let one = both (is_type m.program c.target) (converts c.source c.target) are.0 in
    let h = both (has_type m.program ty v) (have_types m.program tys vs) h in
    after_gives (Is m.program c.target) (λ (ws : List values.Value). have_types m.program (map (λ (x : Conversion). x.target) (c ∷ cs)) ws ≡ true) (converted m.program c.source c.target at v) _
    (converted_typed m.program c.source c.target at v one.1 (subst (λ (t : Ty). has_type m.program t v ≡ true) (sym (same_type_equal c.source ty same.0)) h.0)) (λ w k.
    after_gives (λ (ws : List values.Value). have_types m.program (map (λ (x : Conversion). x.target) cs) ws ≡ true) (λ (ws : List values.Value). have_types m.program (map (λ (x : Conversion). x.target) (c ∷ cs)) ws ≡ true) (convert_all m at cs vs) _
    (conversions_typed m at cs tys vs same.1 are.1 h.1) (λ ws l. joined (has_type m.program c.target w) _ k l))

pub source_typed : (m : Meaning) → IsMeaningTyped m → (locals all : List Ty) (own : Method) (in_loop : Bool) (s : State) → Within locals all → AreTyped m.program all s → (source : Source) → is_source (here m locals own in_loop) source ≡ true
    → IfGives (ValuesTyped m all (source_types source)) (execute_source m s source)
source_typed m h locals all own in_loop s within typed (Single ty value) is =
    let is = both (is_type m.program ty) (is_expr m.program locals ty value) is in
    after_gives (Is m.program ty) (ValuesTyped m all (ty ∷ [])) (evaluate m s value) _ (evaluate_typed m locals s (within_typed m.program locals all s within typed) value ty is.1) (λ v k.
    (joined (has_type m.program ty v) true k refl, typed))
source_typed m h locals all own in_loop s within typed (Results call cs) is =
    let is = both (is_call (here m locals own in_loop) call) (are_results m.program call cs) is in
    let are = both (option_map_or (λ (method : Method). are_same_types (map (λ (c : Conversion). c.source) cs) (types_of method.results)) (method_at m.program call.callee) false)
    (list_all (λ (c : Conversion). is_type m.program c.target && converts c.source c.target) cs) is.1 in
    by_callee (method_at m.program call.callee) refl is.0 are.0 are.1
  where
    by_callee : (o : Option Method) → method_at m.program call.callee ≡ o
        → option_map_or (λ (method : Method). are_exprs m.program locals (types_of method.parameters) call.arguments) o false ≡ true
        → option_map_or (λ (method : Method). are_same_types (map (λ (c : Conversion). c.source) cs) (types_of method.results)) o false ≡ true
        → list_all (λ (c : Conversion). is_type m.program c.target && converts c.source c.target) cs ≡ true
        → IfGives (ValuesTyped m all (source_types (Results call cs))) (execute_source m s (Results call cs))
    by_callee None there is_called same are = cc
    by_callee (Some method) there is_called same are =
        after_gives (λ (g : Values). (have_types m.program (types_of method.results) g.values ≡ true) × AreTyped m.program all g.state) (ValuesTyped m all (source_types (Results call cs))) (execute_call m s call) _
        (call_typed m h locals all own in_loop s within typed call (Some method) there is_called (map (λ (c : Conversion). c.source) cs) same) (λ g k.
        after_gives (λ (ws : List values.Value). have_types m.program (map (λ (c : Conversion). c.target) cs) ws ≡ true) (ValuesTyped m all (source_types (Results call cs))) (convert_all m call.pos cs g.values) _
        (conversions_typed m call.pos cs (types_of method.results) g.values same are k.0) (λ ws l. (l, k.1)))

pub sources_typed : (m : Meaning) → IsMeaningTyped m → (locals all : List Ty) (own : Method) (in_loop : Bool) (s : State) → Within locals all → AreTyped m.program all s → (sources : List Source)
    → list_all (is_source (here m locals own in_loop)) sources ≡ true → IfGives (ValuesTyped m all (flat_map source_types sources)) (execute_sources m s sources)
sources_typed m h locals all own in_loop s within typed [] are = (refl, typed)
sources_typed m h locals all own in_loop s within typed (source ∷ others) are =
    let are = both (is_source (here m locals own in_loop) source) (list_all (is_source (here m locals own in_loop)) others) are in
    after_gives (ValuesTyped m all (source_types source)) (ValuesTyped m all (flat_map source_types (source ∷ others))) (execute_source m s source) _ (source_typed m h locals all own in_loop s within typed source are.0) (λ g k.
    after_gives (ValuesTyped m all (flat_map source_types others)) (ValuesTyped m all (flat_map source_types (source ∷ others))) (execute_sources m g.state others) _
    (sources_typed m h locals all own in_loop g.state within k.1 others are.1) (λ n l.
    (append_have m.program (source_types source) (flat_map source_types others) g.values n.values k.0 l.0, l.1)))

-- the local of a target has its type
pub target_there : (m : Meaning) (locals all : List Ty) (own : Method) (in_loop : Bool) → Within locals all → (t : Target) → is_target (here m locals own in_loop) t ≡ true → slice_get all t.local ≡ Some t.ty
target_there m locals all own in_loop within t is =
    by_type (slice_get locals t.local) refl (both (nat_le (length own.parameters) t.local) (option_map_or (same_type t.ty) (slice_get locals t.local) false) is).1
  where
    by_type : (o : Option Ty) → slice_get locals t.local ≡ o → option_map_or (same_type t.ty) o false ≡ true → slice_get all t.local ≡ Some t.ty
    by_type None there same = cc
    by_type (Some ty) there same = within.at t.local t.ty (there ∙ ap Some (sym (same_type_equal t.ty ty same)))

given_typed : (m : Meaning) (locals all : List Ty) (own : Method) (in_loop : Bool) → Within locals all → (targets : List Target) (vs : List values.Value) (s : State) (earlier : List Taken) → AreTyped m.program all s
    → list_all (is_target (here m locals own in_loop)) targets ≡ true → have_types m.program (map (λ (t : Target). t.ty) targets) vs ≡ true → IfGives (AreTyped m.program all) (give_all s earlier targets vs)
given_typed m locals all own in_loop within [] vs s earlier typed are have = typed
given_typed m locals all own in_loop within (t ∷ ts) [] s earlier typed are have = cc
given_typed m locals all own in_loop within (t ∷ ts) (v ∷ vs) s earlier typed are have =
    let are = both (is_target (here m locals own in_loop) t) (list_all (is_target (here m locals own in_loop)) ts) are in
    let have = both (has_type m.program t.ty v) (have_types m.program (map (λ (x : Target). x.ty) ts) vs) have in
    choice (IfGives (AreTyped m.program all)) (is_distinct earlier t.local v) (Wrong t.pos kinds.Distinct) _ tt
    (given_typed m locals all own in_loop within ts vs (with_local s t.local v) (record { local = t.local; value = v } ∷ earlier)
    (set_typed m.program all s t.local t.ty v typed (target_there m locals all own in_loop within t are.0) have.0) are.1 have.1)

pub update_typed : (m : Meaning) → IsMeaningTyped m → (locals all : List Ty) (own : Method) (in_loop : Bool) (s : State) → Within locals all → AreTyped m.program all s → (update : Update) → is_update (here m locals own in_loop) update ≡ true
    → IfGives (AreTyped m.program all) (execute_update m s update)
update_typed m h locals all own in_loop s within typed update is =
    let is = three (list_all (is_target (here m locals own in_loop)) update.targets) (list_all (is_source (here m locals own in_loop)) update.sources)
    (are_same_types (flat_map source_types update.sources) (map (λ (t : Target). t.ty) update.targets)) is in
    after_gives (ValuesTyped m all (flat_map source_types update.sources)) (AreTyped m.program all) (execute_sources m s update.sources) _ (sources_typed m h locals all own in_loop s within typed update.sources is.1) (λ g k.
    given_typed m locals all own in_loop within update.targets g.values g.state [] k.1 is.0 (same_types_have m.program (flat_map source_types update.sources) (map (λ (t : Target). t.ty) update.targets) g.values is.2 k.0))

pub optional_typed : (m : Meaning) → IsMeaningTyped m → (locals all : List Ty) (own : Method) (in_loop : Bool) (s : State) → Within locals all → AreTyped m.program all s → (update : Option Update) → may_update (here m locals own in_loop) update ≡ true
    → IfGives (AreTyped m.program all) (execute_optional m s update)
optional_typed m h locals all own in_loop s within typed None is = typed
optional_typed m h locals all own in_loop s within typed (Some update) is = update_typed m h locals all own in_loop s within typed update is

pub declared_typed : (p : Program) (all : List Ty) (variables : List Variable) (s : State) → AreTyped p all s → AreTyped p all (declare_all s variables)
declared_typed p all [] s typed = typed
declared_typed p all (variable ∷ others) s typed = declared_typed p all others (without_local s variable.local) (unset_typed p all s variable.local typed)

pub printed_typed : (m : Meaning) (all : List Ty) (operands : List Operand) (s : State) → AreTyped m.program all s → IfGives (AreTyped m.program all) (print_all m s operands)
printed_typed m all [] s typed = typed
printed_typed m all (operand ∷ others) s typed = after_any (AreTyped m.program all) (evaluate_operand m s operand) _ (λ v. printed_typed m all others (printed s v) (store_typed m.program all s _ typed))

next_typed : (m : Meaning) (all : List Ty) (o : Outcome State) → IfGives (AreTyped m.program all) o → IfGives (FlowTyped m all) (go_on o)
next_typed m all o h = after_gives (AreTyped m.program all) (FlowTyped m all) o _ h (λ t k. k)

-- ---- the types of locals grow

mutual
  pub locals_grow : (locals : List Ty) (stmt : Stmt) → (others : List Ty) × (locals_after locals stmt ≡ locals ++ others)
  locals_grow locals (Block at body) = all_locals_grow locals body
  locals_grow locals (Var at variables update) = (variable_types variables, refl)
  locals_grow locals (Assign at update) = ([], sym (append-nil locals))
  locals_grow locals (CallOf call) = ([], sym (append-nil locals))
  locals_grow locals (If branches otherwise) =
      let a = branch_locals_grow locals branches in
      let b = all_locals_grow (locals_after_branches locals branches) otherwise in
      (a.0 ++ b.0, b.1 ∙ ap (λ (x : List Ty). x ++ b.0) a.1 ∙ append_assoc locals a.0 b.0)
  locals_grow locals (While at guard invariants decreases body) = all_locals_grow locals body
  locals_grow locals (Break at) = ([], sym (append-nil locals))
  locals_grow locals (Return at update) = ([], sym (append-nil locals))
  locals_grow locals (Assert at condition) = ([], sym (append-nil locals))
  locals_grow locals (Print at operands) = ([], sym (append-nil locals))

  pub all_locals_grow : (locals : List Ty) (all : Stmts) → (others : List Ty) × (locals_after_all locals all ≡ locals ++ others)
  all_locals_grow locals done = ([], sym (append-nil locals))
  all_locals_grow locals (next stmt rest) =
      let a = locals_grow locals stmt in
      let b = all_locals_grow (locals_after locals stmt) rest in
      (a.0 ++ b.0, b.1 ∙ ap (λ (x : List Ty). x ++ b.0) a.1 ∙ append_assoc locals a.0 b.0)

  pub branch_locals_grow : (locals : List Ty) (branches : Branches) → (others : List Ty) × (locals_after_branches locals branches ≡ locals ++ others)
  branch_locals_grow locals no_branch = ([], sym (append-nil locals))
  branch_locals_grow locals (branch at guard body rest) =
      let a = all_locals_grow locals body in
      let b = branch_locals_grow (locals_after_all locals body) rest in
      (a.0 ++ b.0, b.1 ∙ ap (λ (x : List Ty). x ++ b.0) a.1 ∙ append_assoc locals a.0 b.0)

-- the locals before a statement are among those behind it
pub before : (locals all : List Ty) (stmt : Stmt) → Within (locals_after locals stmt) all → Within locals all
before locals all stmt h = let g = locals_grow locals stmt in within_front locals g.0 all (subst (λ (x : List Ty). Within x all) g.1 h)

pub before_all : (locals all : List Ty) (stmts : Stmts) → Within (locals_after_all locals stmts) all → Within locals all
before_all locals all stmts h = let g = all_locals_grow locals stmts in within_front locals g.0 all (subst (λ (x : List Ty). Within x all) g.1 h)

pub before_branches : (locals all : List Ty) (branches : Branches) → Within (locals_after_branches locals branches) all → Within locals all
before_branches locals all branches h = let g = branch_locals_grow locals branches in within_front locals g.0 all (subst (λ (x : List Ty). Within x all) g.1 h)

pub then_typed : (m : Meaning) (all : List Ty) (o : Outcome Flow) (go : State → Outcome Flow) → IfGives (FlowTyped m all) o → ((t : State) → AreTyped m.program all t → IfGives (FlowTyped m all) (go t))
    → IfGives (FlowTyped m all) (then_next o go)
then_typed m all o go h f = after_gives (FlowTyped m all) (FlowTyped m all) o (goes go) h by_flow
  where
    by_flow : (flow : Flow) → FlowTyped m all flow → IfGives (FlowTyped m all) (goes go flow)
    by_flow (flows.Next s) typed = f s typed
    by_flow (flows.Return s) typed = typed
    by_flow (flows.Break s) typed = typed

same_number : (n : ℕ) → (n == n) ≡ true
same_number n = eq-eqb n n refl

pub same_self : (ty : Ty) → same_type ty ty ≡ true
same_self (types.Newtype a) = same_number a
same_self types.Int = refl
same_self types.Nat = refl
same_self types.Bool = refl
same_self types.Char = refl

pub same_lists : (tys : List Ty) → are_same_types tys tys ≡ true
same_lists [] = refl
same_lists (ty ∷ tys) = joined (same_type ty ty) (are_same_types tys tys) (same_self ty) (same_lists tys)

pub return_updates : (m : Meaning) (locals : List Ty) (own : Method) (in_loop : Bool) (update : Option Update) → is_return (here m locals own in_loop) update ≡ true → may_update (here m locals own in_loop) update ≡ true
return_updates m locals own in_loop None is = refl
return_updates m locals own in_loop (Some update) is = (both (is_update (here m locals own in_loop) update) (gives_results (here m locals own in_loop) update) is).0

mutual
  pub execute_typed : (m : Meaning) → IsMeaningTyped m → (stmt : Stmt) (locals all : List Ty) (own : Method) (in_loop : Bool) (s : State) → Within (locals_after locals stmt) all → AreTyped m.program all s
      → is_stmt (here m locals own in_loop) stmt ≡ true → IfGives (FlowTyped m all) (execute m s stmt)
  execute_typed m h (Block at body) locals all own in_loop s within typed is = stmts_typed m h body locals all own in_loop s within typed is
  execute_typed m h (Var at variables update) locals all own in_loop s within typed is =
      let is = three (are_numbered (length locals) (variable_numbers variables)) (list_all (is_type m.program) (variable_types variables)) (may_update (here m (locals ++ variable_types variables) own in_loop) update) is in
      next_typed m all _ (optional_typed m h (locals ++ variable_types variables) all own in_loop (declare_all s variables) within (declared_typed m.program all variables s typed) update is.2)
  execute_typed m h (Assign at update) locals all own in_loop s within typed is = next_typed m all _ (update_typed m h locals all own in_loop s within typed update is)
  execute_typed m h (CallOf call) locals all own in_loop s within typed is = by_callee (method_at m.program call.callee) refl is
    where
      by_callee : (o : Option Method) → method_at m.program call.callee ≡ o → option_map_or (λ (method : Method). are_exprs m.program locals (types_of method.parameters) call.arguments) o false ≡ true
          → IfGives (FlowTyped m all) (execute m s (CallOf call))
      by_callee None there is_called = cc
      by_callee (Some method) there is_called =
          after_gives (λ (g : Values). (have_types m.program (types_of method.results) g.values ≡ true) × AreTyped m.program all g.state) (FlowTyped m all) (execute_call m s call) _
          (call_typed m h locals all own in_loop s within typed call (Some method) there is_called (types_of method.results) (same_lists (types_of method.results))) (λ g k. k.1)
  execute_typed m h (If branches otherwise) locals all own in_loop s within typed is =
      let is = both (are_branches (here m locals own in_loop) branches) (are_stmts (here m (locals_after_branches locals branches) own in_loop) otherwise) is in
      branches_typed m h branches locals all own in_loop s (before_all (locals_after_branches locals branches) all otherwise within) typed is.0 _
      (stmts_typed m h otherwise (locals_after_branches locals branches) all own in_loop s within typed is.1)
  execute_typed m h (While at guard invariants decreases body) locals all own in_loop s within typed is =
      let is = four (is_expr m.program locals types.Bool guard) (are_clauses m.program locals invariants) (is_measured (here m locals own in_loop) guard decreases) (are_stmts (here m locals own true) body) is in
      after_gives (λ (t : State). t ≡ s) (FlowTyped m all) (check_all m s kinds.Entry invariants) _ (checked_same m s kinds.Entry invariants) (λ t e.
      h.turns all (record { pos = at; guard = guard; invariants = invariants; decreases = decreases; body = body }) t (record { locals = locals; own = own; body = is.3; within = within })
      (subst (λ (u : State). AreTyped m.program all u) (sym e) typed))
  execute_typed m h (Break at) locals all own in_loop s within typed is = typed
  execute_typed m h (Return at update) locals all own in_loop s within typed is =
      after_gives (AreTyped m.program all) (FlowTyped m all) (execute_optional m s update) _ (optional_typed m h locals all own in_loop s within typed update (return_updates m locals own in_loop update is)) (λ t k. k)
  execute_typed m h (Assert at condition) locals all own in_loop s within typed is =
      after_any (FlowTyped m all) (evaluate m s condition) _ (λ v. choice (IfGives (FlowTyped m all)) (truth_of v) (Gives (flows.Next s)) (Wrong at kinds.Assert) typed tt)
  execute_typed m h (Print at operands) locals all own in_loop s within typed is = next_typed m all _ (printed_typed m all operands s typed)

  pub stmts_typed : (m : Meaning) → IsMeaningTyped m → (stmts : Stmts) (locals all : List Ty) (own : Method) (in_loop : Bool) (s : State) → Within (locals_after_all locals stmts) all → AreTyped m.program all s
      → are_stmts (here m locals own in_loop) stmts ≡ true → IfGives (FlowTyped m all) (execute_all m s stmts)
  stmts_typed m h done locals all own in_loop s within typed is = typed
  stmts_typed m h (next stmt others) locals all own in_loop s within typed is =
      let is = both (is_stmt (here m locals own in_loop) stmt) (are_stmts (here m (locals_after locals stmt) own in_loop) others) is in
      then_typed m all (execute m s stmt) _ (execute_typed m h stmt locals all own in_loop s (before_all (locals_after locals stmt) all others within) typed is.0) (λ t k.
      stmts_typed m h others (locals_after locals stmt) all own in_loop t within k is.1)

  branches_typed : (m : Meaning) → IsMeaningTyped m → (branches : Branches) (locals all : List Ty) (own : Method) (in_loop : Bool) (s : State) → Within (locals_after_branches locals branches) all → AreTyped m.program all s
      → are_branches (here m locals own in_loop) branches ≡ true → (o : Outcome Flow) → IfGives (FlowTyped m all) o → IfGives (FlowTyped m all) (execute_branches m s branches o)
  branches_typed m h no_branch locals all own in_loop s within typed is o e = e
  branches_typed m h (branch at guard body rest) locals all own in_loop s within typed is o e =
      let is = three (is_expr m.program locals types.Bool guard) (are_stmts (here m locals own in_loop) body) (are_branches (here m (locals_after_all locals body) own in_loop) rest) is in
      after_any (FlowTyped m all) (evaluate m s guard) _ (λ v. choice (IfGives (FlowTyped m all)) (truth_of v) (execute_all m s body) (execute_branches m s rest o)
      (stmts_typed m h body locals all own in_loop s (before_branches (locals_after_all locals body) all rest within) typed is.1)
      (branches_typed m h rest (locals_after_all locals body) all own in_loop s within typed is.2 o e))
