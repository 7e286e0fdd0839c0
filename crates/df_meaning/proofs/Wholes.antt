-- Whole runs of well-typed programs have values of their types.
use Rattle.std.proofs.Common.{◌≡◌, ℕ, zero, suc, ◌+◌, true, false, ◌&&◌, List, [], ◌∷◌, ◌++◌, length, slice_get, Option, Some, None, refl, sym, ap, subst, ◌∙◌, arith}
use Rattle.std.specs.Option.{option_map_or, option_and_then}
use Rattle.std.specs.List.{list_all}
use Rattle.df_base.specs.declared.pos.Pos.{Pos}
use Rattle.df_lang.specs.declared.ty.Ty.{Ty}
use Rattle.df_lang.specs.Stmt.{Clause}
use Rattle.df_lang.specs.Program.{Param, Method, Decl, NewtypeDecl, MethodDecl, Program, as_method, method_at, types_of}
use Rattle.df_lang.specs.Marks.{has_no_ghost}
use Rattle.df_lang.specs.Typing.{is_type, are_clauses, are_measures, is_method, is_decl, is_well_typed, are_stmts, locals_after_all}
use Rattle.df_meaning.specs.declared.kind.Kind.TheVariants as kinds
use Rattle.df_meaning.specs.Value.{truth_of}
use Rattle.df_meaning.specs.Value as values
use Rattle.df_meaning.specs.Types.{has_type, have_types}
use Rattle.df_meaning.specs.Outcome.{Outcome, Gives, Wrong, TooDeep, NoChoice, Dismissed, after}
use Rattle.df_meaning.specs.State.{Store, State, begin, value_at}
use Rattle.df_meaning.specs.Meaning.{Meaning, Flow, Returned, Loop, state_of}
use Rattle.df_meaning.specs.Meaning as flows
use Rattle.df_meaning.specs.Evaluation.{evaluate}
use Rattle.df_meaning.specs.Execution.{check_all, execute_all}
use Rattle.df_meaning.specs.Whole.{check_call, values_from, results_of, end_of, run_body, run_method, behind_turn, turn_by, turns_with, call_by, by_depth, whole}
use Rattle.df_meaning.specs.Typed.{AreTyped}
use Rattle.df_meaning.proofs.Cases.{IfGives, after_gives, after_any, choice, both, joined}
use Rattle.df_meaning.proofs.Stating.{Within, within_front, FlowTyped, IsLoopTyped, IsMeaningTyped, checked_same, stmts_typed, all_locals_grow}

-- ---- methods of a program

found_all : (p : Program) (decls : List Decl) (id : ℕ) (method : Method) → list_all (is_decl p) decls ≡ true → option_and_then as_method (slice_get decls id) ≡ Some method → is_method p method ≡ true
found_all p [] id method are e = cc
found_all p (d ∷ ds) zero method are e = let are = both (is_decl p d) (list_all (is_decl p) ds) are in by_decl d are.0 e
  where
    by_decl : (d : Decl) → is_decl p d ≡ true → as_method d ≡ Some method → is_method p method ≡ true
    by_decl (NewtypeDecl newtype) is e = cc
    by_decl (MethodDecl m) is e = let same : m ≡ method = cc in subst (λ (x : Method). is_method p x ≡ true) same (both (is_method p m) (has_no_ghost m) is).0
found_all p (d ∷ ds) (suc id) method are e = found_all p ds id method (both (is_decl p d) (list_all (is_decl p) ds) are).1 e

pub method_typed : (p : Program) (id : ℕ) (method : Method) → is_well_typed p ≡ true → method_at p id ≡ Some method → is_method p method ≡ true
method_typed p id method are e = found_all p p.decls id method are e

-- ---- the beginning and the end of a method

-- the arguments are the first locals
pub begins_typed : (p : Program) (tys : List Ty) (vs : List values.Value) (n : ℕ) (ty : Ty) (v : values.Value) → have_types p tys vs ≡ true → slice_get tys n ≡ Some ty → slice_get vs n ≡ Some v → has_type p ty v ≡ true
begins_typed p [] vs n ty v have e f = cc
begins_typed p (t ∷ ts) [] n ty v have e f = cc
begins_typed p (t ∷ ts) (w ∷ ws) zero ty v have e f =
    let have = both (has_type p t w) (have_types p ts ws) have in
    let a : t ≡ ty = cc in
    let b : w ≡ v = cc in
    subst (λ (x : Ty). has_type p x v ≡ true) a (subst (λ (x : values.Value). has_type p t x ≡ true) b have.0)
begins_typed p (t ∷ ts) (w ∷ ws) (suc n) ty v have e f = begins_typed p ts ws n ty v (both (has_type p t w) (have_types p ts ws) have).1 e f

-- past them no local has a value
none_past : (p : Program) (tys : List Ty) (vs : List values.Value) (n : ℕ) (v : values.Value) → have_types p tys vs ≡ true → slice_get tys n ≡ None → slice_get vs n ≡ Some v → ⊥
none_past p [] [] n v have e f = cc
none_past p [] (w ∷ ws) n v have e f = cc
none_past p (t ∷ ts) [] n v have e f = cc
none_past p (t ∷ ts) (w ∷ ws) zero v have e f = cc
none_past p (t ∷ ts) (w ∷ ws) (suc n) v have e f = none_past p ts ws n v (both (has_type p t w) (have_types p ts ws) have).1 e f

pub begin_typed : (p : Program) (parameters all : List Ty) (arguments : List values.Value) (store : Store) → Within parameters all → have_types p parameters arguments ≡ true → AreTyped p all (begin arguments store)
begin_typed p parameters all arguments store within have = record { at = λ n ty v e f. by_parameter n ty v e f (slice_get parameters n) refl }
  where
    by_parameter : (n : ℕ) (ty : Ty) (v : values.Value) → slice_get all n ≡ Some ty → value_at (begin arguments store) n ≡ Some v → (o : Option Ty) → slice_get parameters n ≡ o → has_type p ty v ≡ true
    by_parameter n ty v e f None there = absurd (none_past p parameters arguments n v have there f)
    by_parameter n ty v e f (Some t) there =
        let same : Some t ≡ Some ty = sym (within.at n t there) ∙ e in
        let is : t ≡ ty = cc in
        begins_typed p parameters arguments n ty v have (there ∙ ap Some is) f

pub values_typed : (p : Program) (all tys : List Ty) (s : State) (from : ℕ) → AreTyped p all s → ((n : ℕ) (ty : Ty) → slice_get tys n ≡ Some ty → slice_get all (from + n) ≡ Some ty)
    → IfGives (λ (vs : List values.Value). have_types p tys vs ≡ true) (values_from s from (length tys))
values_typed p all [] s from typed there = refl
values_typed p all (t ∷ ts) s from typed there =
    by_value (value_at s from) refl (values_typed p all ts s (suc from) typed (λ n ty f. subst (λ (k : ℕ). slice_get all k ≡ Some ty) (omega arith) (there (suc n) ty f)))
  where
    by_value : (o : Option values.Value) → value_at s from ≡ o → IfGives (λ (vs : List values.Value). have_types p ts vs ≡ true) (values_from s (suc from) (length ts))
        → IfGives (λ (vs : List values.Value). have_types p (t ∷ ts) vs ≡ true) (option_map_or (λ v. after (values_from s (suc from) (length ts)) (λ vs. Gives (v ∷ vs))) o Dismissed)
    by_value None e h = tt
    by_value (Some v) e h =
        let first : slice_get all from ≡ Some t = subst (λ (k : ℕ). slice_get all k ≡ Some t) (omega arith) (there 0 t refl) in
        after_gives (λ (vs : List values.Value). have_types p ts vs ≡ true) (λ (vs : List values.Value). have_types p (t ∷ ts) vs ≡ true) (values_from s (suc from) (length ts)) _ h (λ vs k.
        joined (has_type p t v) (have_types p ts vs) (typed.at from t v first e) k)

get_behind_suc : (x : Ty) (xs : List Ty) (n : ℕ) (ty : Ty) → slice_get xs n ≡ Some ty → slice_get (x ∷ xs) (suc n) ≡ Some ty
get_behind_suc x xs n ty e = e

pub get_behind : (xs ys : List Ty) (n : ℕ) (ty : Ty) → slice_get ys n ≡ Some ty → slice_get (xs ++ ys) (length xs + n) ≡ Some ty
get_behind [] ys n ty e = let same : n ≡ 0 + n = omega arith in subst (λ (k : ℕ). slice_get ys k ≡ Some ty) same e
get_behind (x ∷ xs) ys n ty e =
    let same : suc (length xs + n) ≡ suc (length xs) + n = omega arith in
    subst (λ (k : ℕ). slice_get (x ∷ (xs ++ ys)) k ≡ Some ty) same (get_behind_suc x (xs ++ ys) (length xs + n) ty (get_behind xs ys n ty e))

pub types_length : (params : List Param) → length (types_of params) ≡ length params
types_length [] = refl
types_length (p ∷ ps) = ap suc (types_length ps)

-- ---- a method's run

pub owed_same : (m : Meaning) (s : State) (at : Pos) (clauses : List Clause) → IfGives (λ (t : State). t ≡ s) (check_call m s at clauses)
owed_same m s at [] = refl
owed_same m s at (clause ∷ others) =
    after_any (λ (t : State). t ≡ s) (evaluate m s clause.condition) _ (λ v. choice (IfGives (λ (t : State). t ≡ s)) (truth_of v) _ (Wrong at kinds.Requires) (owed_same m s at others) tt)

-- the types of all locals of a method
abbrev pub all_types : Method → List Ty
all_types method = locals_after_all (types_of method.parameters ++ types_of method.results) method.body

pub body_typed : (p : Program) (method : Method) → is_method p method ≡ true
    → are_stmts (record { program = p; method = method; locals = types_of method.parameters ++ types_of method.results; in_loop = false }) method.body ≡ true
body_typed p method is =
    let parameters = types_of method.parameters in
    let all = parameters ++ types_of method.results in
    (both (list_all (is_type p) all && are_clauses p parameters method.preconditions && are_clauses p all method.postconditions && are_measures p parameters method.decreases)
    (are_stmts (record { program = p; method = method; locals = all; in_loop = false }) method.body) is).1

pub both_within : (method : Method) → Within (types_of method.parameters ++ types_of method.results) (all_types method)
both_within method =
    let g = all_locals_grow (types_of method.parameters ++ types_of method.results) method.body in
    within_front (types_of method.parameters ++ types_of method.results) g.0 (all_types method) (record { at = λ n ty e. subst (λ (x : List Ty). slice_get x n ≡ Some ty) (sym g.1) e })

pub end_typed : (m : Meaning) (all : List Ty) (flow : Flow) → FlowTyped m all flow → IfGives (AreTyped m.program all) (end_of flow)
end_typed m all (flows.Next s) h = h
end_typed m all (flows.Return s) h = h
end_typed m all (flows.Break s) h = tt

same_state : (m : Meaning) (all : List Ty) (t : State) (o : Outcome State) → IfGives (λ (u : State). u ≡ t) o → AreTyped m.program all t → IfGives (AreTyped m.program all) o
same_state m all t (Gives u) e typed = subst (λ (x : State). AreTyped m.program all x) (sym e) typed
same_state m all t (Wrong at kind) e typed = tt
same_state m all t TooDeep e typed = tt
same_state m all t NoChoice e typed = tt
same_state m all t Dismissed e typed = tt

pub run_typed : (m : Meaning) → IsMeaningTyped m → (method : Method) → is_method m.program method ≡ true → (s : State) → AreTyped m.program (all_types method) s → IfGives (AreTyped m.program (all_types method)) (run_body m method s)
run_typed m h method is s typed =
    let all = all_types method in
    after_gives (FlowTyped m all) (AreTyped m.program all) (execute_all m s method.body) _
    (stmts_typed m h method.body (types_of method.parameters ++ types_of method.results) all method false s (record { at = λ n ty e. e }) typed (body_typed m.program method is)) (λ flow k.
    after_gives (AreTyped m.program all) (AreTyped m.program all) (end_of flow) _ (end_typed m all flow k) (λ t l.
    same_state m all t (check_all m t kinds.Ensures method.postconditions) (checked_same m t kinds.Ensures method.postconditions) l))

pub returned_typed : (m : Meaning) → IsMeaningTyped m → (at : Pos) (method : Method) (arguments : List values.Value) (store : Store) → is_method m.program method ≡ true → have_types m.program (types_of method.parameters) arguments ≡ true
    → IfGives (λ (r : Returned). have_types m.program (types_of method.results) r.values ≡ true) (run_method m at method arguments store)
returned_typed m h at method arguments store is have =
    let all = all_types method in
    let R = λ (r : Returned). have_types m.program (types_of method.results) r.values ≡ true in
    let within = both_within method in
    let first = within_front (types_of method.parameters) (types_of method.results) all within in
    after_gives (λ (t : State). t ≡ begin arguments store) R (check_call m (begin arguments store) at method.preconditions) _ (owed_same m (begin arguments store) at method.preconditions) (λ s e.
    after_gives (AreTyped m.program all) R (run_body m method s) _
    (run_typed m h method is s (subst (λ (x : State). AreTyped m.program all x) (sym e) (begin_typed m.program (types_of method.parameters) all arguments store first have))) (λ t l.
    after_gives (λ (vs : List values.Value). have_types m.program (types_of method.results) vs ≡ true) R (results_of method t) _
    (subst (λ (k : ℕ). IfGives (λ (vs : List values.Value). have_types m.program (types_of method.results) vs ≡ true) (values_from t (length method.parameters) k)) (types_length method.results)
    (subst (λ (k : ℕ). IfGives (λ (vs : List values.Value). have_types m.program (types_of method.results) vs ≡ true) (values_from t k (length (types_of method.results)))) (types_length method.parameters)
    (values_typed m.program all (types_of method.results) t (length (types_of method.parameters)) l (λ n ty f. within.at _ ty (get_behind (types_of method.parameters) (types_of method.results) n ty f))))) (λ vs k. k)))

-- ---- loops

behind_typed : (m : Meaning) → IsMeaningTyped m → (all : List Ty) (loop : Loop) → IsLoopTyped m all loop → (flow : Flow) → FlowTyped m all flow → IfGives (FlowTyped m all) (behind_turn m loop flow)
behind_typed m h all loop is (flows.Next t) typed =
    after_gives (λ (u : State). u ≡ t) (FlowTyped m all) (check_all m t kinds.Turn loop.invariants) _ (checked_same m t kinds.Turn loop.invariants) (λ u e.
    h.turns all loop u is (subst (λ (x : State). AreTyped m.program all x) (sym e) typed))
behind_typed m h all loop is (flows.Return t) typed = typed
behind_typed m h all loop is (flows.Break t) typed = typed

pub turn_typed : (m : Meaning) → IsMeaningTyped m → (all : List Ty) (loop : Loop) (s : State) → IsLoopTyped m all loop → AreTyped m.program all s → IfGives (FlowTyped m all) (turn_by m loop s)
turn_typed m h all loop s is typed =
    after_gives (FlowTyped m all) (FlowTyped m all) (execute_all m s loop.body) _ (stmts_typed m h loop.body is.locals all is.own true s is.within typed is.body) (λ flow k. behind_typed m h all loop is flow k)

pub guard_typed : (m : Meaning) (all : List Ty) (o : Outcome values.Value) (s : State) (turn : Outcome Flow) → AreTyped m.program all s → IfGives (FlowTyped m all) turn → IfGives (FlowTyped m all) (turns_with o s turn)
guard_typed m all o s turn typed h = after_any (FlowTyped m all) o _ (λ v. choice (IfGives (FlowTyped m all)) (truth_of v) turn (Gives (flows.Next s)) h typed)

-- ---- whole runs

pub program_of_depth : (call : Meaning → Pos → ℕ → List values.Value → Store → Outcome Returned) (turn : Meaning → Loop → State → Outcome Flow) (program : Program) (depth : ℕ) → (by_depth call turn program depth).program ≡ program
program_of_depth call turn program zero = refl
program_of_depth call turn program (suc depth) = refl

pub program_of_whole : (program : Program) (depth : ℕ) → (whole program depth).program ≡ program
program_of_whole program depth = program_of_depth call_by turn_by program depth

-- typed over one meaning is typed over another of the same program
pub moved : (m n : Meaning) → m.program ≡ n.program → (all : List Ty) (o : Outcome Flow) → IfGives (FlowTyped m all) o → IfGives (FlowTyped n all) o
moved m n e all (Gives flow) h = subst (λ (p : Program). AreTyped p all (state_of flow)) e h
moved m n e all (Wrong at kind) h = tt
moved m n e all TooDeep h = tt
moved m n e all NoChoice h = tt
moved m n e all Dismissed h = tt

-- calls over a well-typed program
pub found_typed : (program : Program) (m : Meaning) → m.program ≡ program → IsMeaningTyped m → is_well_typed program ≡ true → (at : Pos) (callee : ℕ) (method : Method) (arguments : List values.Value) (store : Store)
    → method_at program callee ≡ Some method → have_types program (types_of method.parameters) arguments ≡ true → IfGives (λ (r : Returned). have_types program (types_of method.results) r.values ≡ true) (call_by m at callee arguments store)
found_typed program m e h well at callee method arguments store there have =
    let over : IfGives (λ (r : Returned). have_types m.program (types_of method.results) r.values ≡ true) (run_method m at method arguments store) =
    returned_typed m h at method arguments store (subst (λ (p : Program). is_method p method ≡ true) (sym e) (method_typed program callee method well there))
    (subst (λ (p : Program). have_types p (types_of method.parameters) arguments ≡ true) (sym e) have) in
    let here_too : IfGives (λ (r : Returned). have_types program (types_of method.results) r.values ≡ true) (run_method m at method arguments store) =
    subst (λ (p : Program). IfGives (λ (r : Returned). have_types p (types_of method.results) r.values ≡ true) (run_method m at method arguments store)) e over in
    subst (λ (o : Option Method). IfGives (λ (r : Returned). have_types program (types_of method.results) r.values ≡ true) (option_map_or (λ x. run_method m at x arguments store) o Dismissed))
    (sym (subst (λ (p : Program). method_at p callee ≡ Some method) (sym e) there)) here_too

-- a loop that is typed over one meaning is typed over another of the same program
pub loop_moved : (m n : Meaning) → m.program ≡ n.program → (all : List Ty) (loop : Loop) → IsLoopTyped m all loop → IsLoopTyped n all loop
loop_moved m n e all loop is = record {
  locals = is.locals;
  own = is.own;
  body = subst (λ (p : Program). are_stmts (record { program = p; method = is.own; locals = is.locals; in_loop = true }) loop.body ≡ true) e is.body;
  within = is.within;
}

-- calls and turns by depth that are typed over what is
pub by_depth_typed : (call : Meaning → Pos → ℕ → List values.Value → Store → Outcome Returned) (turn : Meaning → Loop → State → Outcome Flow) (program : Program)
    → ((m : Meaning) → m.program ≡ program → IsMeaningTyped m → (at : Pos) (callee : ℕ) (method : Method) (arguments : List values.Value) (store : Store) → method_at program callee ≡ Some method
    → have_types program (types_of method.parameters) arguments ≡ true → IfGives (λ (r : Returned). have_types program (types_of method.results) r.values ≡ true) (call m at callee arguments store))
    → ((m : Meaning) → IsMeaningTyped m → (all : List Ty) (loop : Loop) (s : State) → IsLoopTyped m all loop → AreTyped m.program all s → IfGives (FlowTyped m all) (turn m loop s))
    → (depth : ℕ) → IsMeaningTyped (by_depth call turn program depth)
by_depth_typed call turn program calls turns zero = record {
  call = λ at callee method arguments store there have. tt;
  turns = λ all loop s is typed. guard_typed (by_depth call turn program zero) all _ s TooDeep typed tt;
}
by_depth_typed call turn program calls turns (suc depth) =
    let m : Meaning = by_depth call turn program depth in
    let h = by_depth_typed call turn program calls turns depth in
    let e = program_of_depth call turn program depth in
    record {
      call = λ at callee method arguments store there have. calls m e h at callee method arguments store there have;
      turns = λ all loop s is typed. guard_typed (by_depth call turn program (suc depth)) all _ s (turn m loop s) typed
          (moved m (by_depth call turn program (suc depth)) e all (turn m loop s)
          (turns m h all loop s (loop_moved (by_depth call turn program (suc depth)) m (sym e) all loop is) (subst (λ (p : Program). AreTyped p all s) (sym e) typed)));
    }

pub wholes_typed : (program : Program) → is_well_typed program ≡ true → (depth : ℕ) → IsMeaningTyped (whole program depth)
wholes_typed program well depth = by_depth_typed call_by turn_by program (λ m e h. found_typed program m e h well) turn_typed depth
