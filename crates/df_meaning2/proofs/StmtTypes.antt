-- Statements keep the types of locals.
use Rattle.std.proofs.Common.{◌≡◌, ℕ, pos, Bool, true, false, not, ◌&&◌, ◌||◌, ◌==◌, if◌then◌else◌, List, [], ◌∷◌, ◌++◌, filter, map, length, Option, None, Some, unwrap_or, refl, sym, ap, ◌∙◌, subst}
use Rattle.std.specs.Option.{option_map_or}
use Rattle.std.specs.List.{AllByRecursion, list_all, flat_map}
use Rattle.std.proofs.lemmas.Bool.{eqb-true, and_parts, and_from}
use Rattle.df_base.specs.declared.pos.Pos.{Pos}
use Rattle.df_types.specs.declared.kind.Kind.TheVariants as kinds
use Rattle.df_types.specs.Ty.{Ty, Boolean, AnyObject, Class, Array, Tys, same_type, same_type_list, instance_of, instances_of}
use Rattle.df_types.specs.Op.{Op}
use Rattle.df_types.specs.Expr.{Expr}
use Rattle.df_types.specs.Stmt.{Demand, Typed, Target, Nowhere, LocalAt, FieldAt, ElementAt, Source, Single, Results, NewArray, Update, Range, Stmt, Declare, Assign, Choose, Branch, While, Break, Return, Check, Prove, Print, Publish, Ghost, Stmts, done, next, Branches, no_branch, branch}
use Rattle.df_types.specs.Program.{Program, Head, Method, method_at, types_of}
use Rattle.df_types.specs.Rows.{operands, result, allowed, is_conversion}
use Rattle.df_types.specs.Aims.{known_behind}
use Rattle.df_types.specs.Measures.{is_local}
use Rattle.df_types.specs.ExprTyping.{Scope, is_at, parameters_at, results_at, are_types_for, is_expr, are_exprs}
use Rattle.df_types.specs.StmtTyping.{type_of_local, declaring, Setting, behind, behind_all, source_types, is_conversion_of, are_conversions, is_source, is_parameter, is_target, target_type, are_targets, is_update, is_return, are_results, range_types, is_publishing, are_ranges, is_stmt, are_stmts, are_branches, are_demands, may_be_typed, bound_by}
use Rattle.df_types.proofs.SameTypes.{same_type_equal}
use Rattle.df_meaning2.specs.Value.{Value, values_of, same, is_among, truth_of, number_of, nat_of}
use Rattle.df_meaning2.specs.Heap.{is_there, may_change, slots_at}
use Rattle.df_meaning2.specs.Outcome.{Outcome, Gives, Wrong, TooDeep, NoChoice, Dismissed, after, Each}
use Rattle.df_meaning2.specs.Types.{is_of, have_types}
use Rattle.df_meaning2.specs.Answer.{count, is_index, answer}
use Rattle.df_meaning2.specs.Printing.{text_of}
use Rattle.df_meaning2.specs.State.{State, with_local, with_bound, with_text}
use Rattle.df_meaning2.specs.Meaning.{Meaning, view_of, evaluate, evaluate_range, of_type, check, check_all, as_kind, assume_all}
use Rattle.df_meaning2.specs.Execution.{Flow, Next, Returned, Broken, state_of, Actions, assigned_at, assigned_at_all, assigned_by, assigned_by_all, assigned_in, convert_all, first_elements, execute_source, execute_sources, Place, NoPlace, LocalPlace, SlotPlace, Placed, slot_place, place_of, places_of, put, same_place, if_equal, put_all, execute_update, execute_optional, some_meet, meet, execute_choice, declare_all, print_all, values_in, execute_publish, where_true, goes, dropped, conditions, execute, execute_all, execute_branches, loop_of}
use Rattle.df_meaning2.specs.Typed.{IsOf, AreOf, Agrees, IsTyped, FlowIsTyped, IsWithin, KeepsLocals, AreGiven, IsPicked, IsLocalOf, ActsTyped}
use Rattle.df_meaning2.proofs.Equality.{same_equal}
use Rattle.df_meaning2.proofs.Alls.{all_append}
use Rattle.df_meaning2.proofs.RowTypes.{first_is, others_are, row_is}
use Rattle.df_meaning2.proofs.ExprTypes.{after_each, any_after, choice_each, answered_each, types_twice, typed, all_typed}

-- ---- what stays

pub kept_self : (s : State) → KeepsLocals s s
kept_self s = record { types = refl; locals = refl; bound = refl }

pub kept_then : (s t u : State) → KeepsLocals s t → KeepsLocals t u → KeepsLocals s u
kept_then s t u h k = record { types = k.types ∙ h.types; locals = k.locals ∙ h.locals; bound = k.bound ∙ h.bound }

pub kept_on : (s t : State) (o : Outcome State) → KeepsLocals s t → Each (KeepsLocals t) o → Each (KeepsLocals s) o
kept_on s t o h k = each_from (KeepsLocals t) (KeepsLocals s) o (λ u l. kept_then s t u h l) k
  where
    each_from : {A : Type 0} (P Q : A → Type 0) (o : Outcome A) → ((a : A) → P a → Q a) → Each P o → Each Q o
    each_from P Q (Gives a) f h = f a h
    each_from P Q (Wrong at kind) f h = tt
    each_from P Q TooDeep f h = tt
    each_from P Q NoChoice f h = tt
    each_from P Q Dismissed f h = tt

-- checks give the state that they are given
pub checks_keep : (P : State → Type 0) (m : Meaning) (s : State) (ds : List Demand) → P s → Each P (check_all m s ds)
checks_keep P m s [] h = h
checks_keep P m s (d ∷ ds) h = after_each P P (check m s d) _ (any_after P (evaluate m s d.condition) _ (λ v. choice_each P (truth_of v) _ _ h tt)) (λ t k. checks_keep P m t ds k)

pub assumed_keeps : (P : State → Type 0) (m : Meaning) (s : State) (es : List Expr) → P s → Each P (assume_all m s es)
assumed_keeps P m s [] h = h
assumed_keeps P m s (e ∷ es) h = any_after P (evaluate m s e) _ (λ v. choice_each P (truth_of v) _ _ (assumed_keeps P m s es h) tt)

prints_keep : (m : Meaning) (s : State) (xs : List Typed) → Each (KeepsLocals s) (print_all m s xs)
prints_keep m s [] = kept_self s
prints_keep m s (x ∷ xs) = any_after (KeepsLocals s) (evaluate m s x.value) _ (λ v.
    let t = with_text s (text_of m.program (instance_of s.types x.ty) v) in
    kept_on s t _ (record { types = refl; locals = refl; bound = refl }) (prints_keep m t xs))

-- ---- values and their types

some_same : {A : Type 0} (a b : A) → Some a ≡ Some b → a ≡ b
some_same a b e = ap (λ o. unwrap_or o a) e

at_some : (o : Option Ty) (t : Ty) → is_at o t ≡ true → o ≡ Some t
at_some None t h = cc
at_some (Some u) t h = ap Some (sym (same_type_equal t u h))

same_list_equal : (ts us : List Ty) → same_type_list ts us ≡ true → ts ≡ us
same_list_equal [] [] h = refl
same_list_equal [] (u ∷ us) h = cc
same_list_equal (t ∷ ts) [] h = cc
same_list_equal (t ∷ ts) (u ∷ us) h = let hs = and_parts (same_type t u) (same_type_list ts us) h in ap (λ x. x ∷ ts) (same_type_equal t u hs.0) ∙ ap (λ x. u ∷ x) (same_list_equal ts us hs.1)

among_filtered : (test : Value → Bool) (v : Value) (us : List Value) → is_among v (filter test us) ≡ true → test v ≡ true
among_filtered test v [] h = cc
among_filtered test v (u ∷ us) h = by_test (test u) refl h (among_filtered test v us)
  where
    by_same : (b : Bool) (rest : Bool) → same v u ≡ b → test u ≡ true → (rest ≡ true → test v ≡ true) → (b || rest) ≡ true → test v ≡ true
    by_same true rest e k go h = subst (λ x. test x ≡ true) (sym (same_equal v u e)) k
    by_same false rest e k go h = go h

    by_test : (b : Bool) → test u ≡ b → is_among v (if b then u ∷ filter test us else filter test us) ≡ true → (is_among v (filter test us) ≡ true → test v ≡ true) → test v ≡ true
    by_test true e h go = by_same (same v u) (is_among v (filter test us)) refl e go h
    by_test false e h go = go h

module _ (p : Program) (w : Tys) where
  pub more_are : (t : Ty) (ts : List Ty) (v : Value) (vs : List Value) → IsOf p w t v → AreOf p w ts vs → AreOf p w (t ∷ ts) (v ∷ vs)
  more_are t ts v vs h k = record { by = and_from _ _ h.by k.by }

  one_is : (t : Ty) (v : Value) → IsOf p w t v → AreOf p w (t ∷ []) (v ∷ [])
  one_is t v h = more_are t [] v [] h (record { by = refl })

  append_are : (ts us : List Ty) (vs ws : List Value) → AreOf p w ts vs → AreOf p w us ws → AreOf p w (ts ++ us) (vs ++ ws)
  append_are [] us [] ws h k = k
  append_are [] us (v ∷ vs) ws h k = cc h.by
  append_are (t ∷ ts) us [] ws h k = cc h.by
  append_are (t ∷ ts) us (v ∷ vs) ws h k = more_are t (ts ++ us) v (vs ++ ws) (first_is p w t ts (v ∷ vs) h) (append_are ts us vs ws (others_are p w t ts (v ∷ vs) h) k)

-- ---- states of a declaration

module _ (p : Program) (w : Tys) (head : Head) where
  pub kept_typed : (bound : List Ty) (s t : State) → KeepsLocals s t → IsTyped p w head bound s → IsTyped p w head bound t
  kept_typed bound s t k h = record {
    types_are = k.types ∙ h.types_are;
    locals = λ n u v e f. h.locals n u v e (ap (λ l. l n) (sym k.locals) ∙ f);
    bound_are = subst (λ x. AreOf p w bound x) (sym k.bound) h.bound_are;
  }

  pub agrees_of : (g : Scope) (s : State) → IsWithin head g → IsTyped p w head g.bound s → Agrees p g s
  agrees_of g s k h = record {
    locals = λ n t v e f. subst (λ x. IsOf p x t v) (sym h.types_are) (h.locals n t v (k.locals n t e) f);
    bound = subst (λ x. AreOf p x g.bound s.bound) (sym h.types_are) h.bound_are;
  }

  put_typed : (bound : List Ty) (s : State) (n : ℕ) (o : Option Value) → ((t : Ty) (v : Value) → type_of_local head n ≡ Some t → o ≡ Some v → IsOf p w t v)
      → IsTyped p w head bound s → IsTyped p w head bound (with_local s n o)
  put_typed bound s n o k h = record { types_are = h.types_are; locals = λ m t v e f. by_test m (m == n) refl t v e f; bound_are = h.bound_are }
    where
      by_test : (m : ℕ) (b : Bool) → (m == n) ≡ b → (t : Ty) (v : Value) → type_of_local head m ≡ Some t → (if b then o else s.locals m) ≡ Some v → IsOf p w t v
      by_test m true same t v e f = k t v (ap (type_of_local head) (sym (eqb-true m n same)) ∙ e) f
      by_test m false same t v e f = h.locals m t v e f

  pub some_typed : (bound : List Ty) (s : State) (n : ℕ) (t : Ty) (v : Value) → type_of_local head n ≡ Some t → IsOf p w t v → IsTyped p w head bound s → IsTyped p w head bound (with_local s n (Some v))
  some_typed bound s n t v e k h = put_typed bound s n (Some v) (λ u x f g. subst (λ y. IsOf p w u y) (some_same v x g) (subst (λ y. IsOf p w y v) (some_same t u (sym e ∙ f)) k)) h

  none_is : (n : ℕ) (t : Ty) (v : Value) → type_of_local head n ≡ Some t → None ≡ Some v → IsOf p w t v
  none_is n t v e f = cc

  declared_typed : (bound : List Ty) (s : State) (ns : List ℕ) → IsTyped p w head bound s → IsTyped p w head bound (declare_all s ns)
  declared_typed bound s [] h = h
  declared_typed bound s (n ∷ ns) h = declared_typed bound (with_local s n None) ns (put_typed bound s n None (none_is n) h)

  -- ---- places

  abbrev TakesAt : Ty → Place → Type 0
  TakesAt t NoPlace = Unit {0}
  TakesAt t (LocalPlace n) = type_of_local head n ≡ Some t
  TakesAt t (SlotPlace v n) = Unit {0}

  record Takes (t : Ty) (x : Placed) : Type 0 where
    by : TakesAt t x.place

  abbrev TakeEach : List Ty → List Placed → Type 0
  TakeEach [] [] = Unit {0}
  TakeEach [] (x ∷ xs) = ⊥
  TakeEach (t ∷ ts) [] = ⊥
  TakeEach (t ∷ ts) (x ∷ xs) = Takes t x × TakeEach ts xs

  record AreTaking (ts : List Ty) (xs : List Placed) : Type 0 where
    by : TakeEach ts xs

  place_put : (bound : List Ty) (s : State) (t : Ty) (q : Place) (v : Value) → TakesAt t q → IsOf p w t v → IsTyped p w head bound s → IsTyped p w head bound (put s q v)
  place_put bound s t NoPlace v k l h = h
  place_put bound s t (LocalPlace n) v k l h = some_typed bound s n t v k l h
  place_put bound s t (SlotPlace x n) v k l h = record { types_are = h.types_are; locals = h.locals; bound_are = h.bound_are }

  equal_each : (bound : List Ty) (x : Placed) (v : Value) (earlier : List (Place × Value)) (o : Outcome State) → Each (IsTyped p w head bound) o → Each (IsTyped p w head bound) (if_equal x v earlier o)
  equal_each bound x v [] o h = h
  equal_each bound x v (one ∷ earlier) o h =
      choice_each (IsTyped p w head bound) (same_place one.0 x.place) _ _ (choice_each (IsTyped p w head bound) (same one.1 v) _ _ (equal_each bound x v earlier o h) tt) (equal_each bound x v earlier o h)

  puts_typed : (bound : List Ty) (s : State) (earlier : List (Place × Value)) (ts : List Ty) (xs : List Placed) (vs : List Value)
      → AreTaking ts xs → AreOf p w ts vs → IsTyped p w head bound s → Each (IsTyped p w head bound) (put_all s earlier xs vs)
  puts_typed bound s earlier [] [] vs k l h = h
  puts_typed bound s earlier [] (x ∷ xs) vs k l h = absurd k.by
  puts_typed bound s earlier (t ∷ ts) [] vs k l h = absurd k.by
  puts_typed bound s earlier (t ∷ ts) (x ∷ xs) [] k l h = h
  puts_typed bound s earlier (t ∷ ts) (x ∷ xs) (v ∷ vs) k l h =
      equal_each bound x v earlier _ (puts_typed bound (put s x.place v) ((x.place, v) ∷ earlier) ts xs vs (record { by = k.by.1 }) (others_are p w t ts (v ∷ vs) l)
      (place_put bound s t x.place v k.by.0.by (first_is p w t ts (v ∷ vs) l) h))

  -- ---- what is there behind a statement

  abbrev pub here : Scope → Bool → Setting
  here g in_loop = record { program = p; head = head; scope = g; in_loop = in_loop }

  abbrev having : Scope → (ℕ → Option Ty) → Scope
  having g locals = record { type_parameters = g.type_parameters; locals = locals; bound = g.bound }

  -- locals may be more, and all else is as before
  pub record Behind (g : Scope) (in_loop : Bool) (k : Setting) : Type 0 where
    pub locals : ℕ → Option Ty
    pub same : k ≡ here (having g locals) in_loop
    pub within : IsWithin head (having g locals)

  record Declaring (g k : Scope) : Type 0 where
    locals : ℕ → Option Ty
    same : k ≡ having g locals
    within : IsWithin head (having g locals)

  declared_within : (ns : List ℕ) (g : Scope) → IsWithin head g → Declaring g (declaring head g ns)
  declared_within [] g h = record { locals = g.locals; same = refl; within = record { locals = h.locals } }
  declared_within (n ∷ ns) g h =
      let more = declared_within ns (having g (λ k. if k == n then type_of_local head k else g.locals k)) (record { locals = λ m t e. by_test m (m == n) t e }) in
      record { locals = more.locals; same = more.same; within = record { locals = more.within.locals } }
    where
      by_test : (m : ℕ) (b : Bool) (t : Ty) → (if b then type_of_local head m else g.locals m) ≡ Some t → type_of_local head m ≡ Some t
      by_test m true t e = e
      by_test m false t e = h.locals m t e

  stays_within : (g : Scope) (in_loop : Bool) → IsWithin head g → Behind g in_loop (here g in_loop)
  stays_within g in_loop h = record { locals = g.locals; same = refl; within = record { locals = h.locals } }

  mutual
    pub behind_within : (stmt : Stmt) (g : Scope) (in_loop : Bool) → IsWithin head g → Behind g in_loop (behind (here g in_loop) stmt)
    behind_within (Declare locals) g in_loop h = let more = declared_within locals g h in record { locals = more.locals; same = ap (λ x. here x in_loop) more.same; within = more.within }
    behind_within (Assign update) g in_loop h = stays_within g in_loop h
    behind_within (Choose site at targets ranges condition) g in_loop h = stays_within g in_loop h
    behind_within (Branch branches otherwise) g in_loop h = stays_within g in_loop h
    behind_within (While site at guard invariants decreases body) g in_loop h = stays_within g in_loop h
    behind_within (Break at) g in_loop h = stays_within g in_loop h
    behind_within (Return at update) g in_loop h = stays_within g in_loop h
    behind_within (Check demand) g in_loop h = stays_within g in_loop h
    behind_within (Prove site at aim body) g in_loop h = stays_within g in_loop h
    behind_within (Print at operands) g in_loop h = stays_within g in_loop h
    behind_within (Publish site at class fields this) g in_loop h = stays_within g in_loop h
    behind_within (Ghost body) g in_loop h = all_behind_within body g in_loop h

    all_behind_within : (stmts : Stmts) (g : Scope) (in_loop : Bool) → IsWithin head g → Behind g in_loop (behind_all (here g in_loop) stmts)
    all_behind_within done g in_loop h = stays_within g in_loop h
    all_behind_within (next stmt others) g in_loop h =
        let first = behind_within stmt g in_loop h in
        let more = all_behind_within others (having g first.locals) in_loop first.within in
        record { locals = more.locals; same = ap (λ x. behind_all x others) first.same ∙ more.same; within = more.within }

  others_stmts : (stmt : Stmt) (others : Stmts) (g : Scope) (in_loop : Bool) (b : Behind g in_loop (behind (here g in_loop) stmt)) → are_stmts (behind (here g in_loop) stmt) others ≡ true
      → are_stmts (here (having g b.locals) in_loop) others ≡ true
  others_stmts stmt others g in_loop b is = subst (λ x. are_stmts x others ≡ true) b.same is

  -- ---- the locals that a loop assigns

  local_target : (g : Scope) (in_loop : Bool) (local : ℕ) (t : Ty) (rest : Bool) → IsWithin head g → (is_at (g.locals local) t && rest) ≡ true → type_of_local head local ≡ Some t
  local_target g in_loop local t rest h is = h.locals local t (at_some (g.locals local) t (and_parts (is_at (g.locals local) t) rest is).0)

  target_assigned : (g : Scope) (in_loop : Bool) (target : Target) → IsWithin head g → is_target (here g in_loop) target ≡ true → AllByRecursion (IsLocalOf head) (assigned_at target)
  target_assigned g in_loop (Nowhere ty) h is = tt
  target_assigned g in_loop (LocalAt local name at ty) h is = (record { typed = local_target g in_loop local ty _ h is }, tt)
  target_assigned g in_loop (FieldAt object class field at ty) h is = tt
  target_assigned g in_loop (ElementAt array index at ty) h is = tt

  targets_assigned : (g : Scope) (in_loop : Bool) (ts : List Ty) (targets : List Target) → IsWithin head g → are_targets (here g in_loop) ts targets ≡ true → AllByRecursion (IsLocalOf head) (assigned_at_all targets)
  targets_assigned g in_loop ts [] h is = tt
  targets_assigned g in_loop [] (target ∷ targets) h is = cc
  targets_assigned g in_loop (t ∷ ts) (target ∷ targets) h is =
      let same = and_parts (same_type t (target_type target)) (is_target (here g in_loop) target && are_targets (here g in_loop) ts targets) is in
      let are = and_parts (is_target (here g in_loop) target) (are_targets (here g in_loop) ts targets) same.1 in
      all_append (IsLocalOf head) (assigned_at target) (assigned_at_all targets) (target_assigned g in_loop target h are.0) (targets_assigned g in_loop ts targets h are.1)

  published_type : (g : Scope) (in_loop : Bool) (class : ℕ) (fields : List ℕ) (this : ℕ) → IsWithin head g → is_publishing (here g in_loop) class fields this ≡ true → type_of_local head this ≡ Some (Class false class)
  published_type g in_loop class fields this h is =
      let a = and_parts _ _ is in
      let b = and_parts _ _ a.1 in
      let c = and_parts (is_local head.receiver this) _ b.1 in
      let d = and_parts (not (is_parameter head this)) (is_at (g.locals this) (Class false class)) c.1 in
      h.locals this (Class false class) (at_some (g.locals this) (Class false class) d.1)

  mutual
    stmt_assigned : (stmt : Stmt) (g : Scope) (in_loop : Bool) → IsWithin head g → is_stmt (here g in_loop) stmt ≡ true → AllByRecursion (IsLocalOf head) (assigned_by stmt)
    stmt_assigned (Declare locals) g in_loop h is = tt
    stmt_assigned (Assign update) g in_loop h is = targets_assigned g in_loop (flat_map source_types update.sources) update.targets h (and_parts _ (are_targets (here g in_loop) (flat_map source_types update.sources) update.targets) is).1
    stmt_assigned (Choose site at targets ranges condition) g in_loop h is =
        let a = and_parts (are_ranges p g ranges) _ is in
        targets_assigned g in_loop (range_types ranges) targets h (and_parts (is_expr p (bound_by g ranges) Boolean condition) (are_targets (here g in_loop) (range_types ranges) targets) a.1).1
    stmt_assigned (Branch branches otherwise) g in_loop h is =
        let a = and_parts (are_branches (here g in_loop) branches) (are_stmts (here g in_loop) otherwise) is in
        all_append (IsLocalOf head) (assigned_in branches) (assigned_by_all otherwise) (branches_assigned branches g in_loop h a.0) (stmts_assigned otherwise g in_loop h a.1)
    stmt_assigned (While site at guard invariants decreases body) g in_loop h is =
        let a = and_parts (is_expr p g Boolean guard) _ is in
        let b = and_parts (are_demands p g invariants) _ a.1 in
        let c = and_parts (may_be_typed p g decreases) (are_stmts (here g true) body) b.1 in
        stmts_assigned body g true h c.1
    stmt_assigned (Break at) g in_loop h is = tt
    stmt_assigned (Return at update) g in_loop h is = tt
    stmt_assigned (Check demand) g in_loop h is = tt
    stmt_assigned (Prove site at aim body) g in_loop h is = tt
    stmt_assigned (Print at operands) g in_loop h is = tt
    stmt_assigned (Publish site at class fields this) g in_loop h is = (record { typed = published_type g in_loop class fields this h is }, tt)
    stmt_assigned (Ghost body) g in_loop h is = stmts_assigned body g in_loop h is

    pub stmts_assigned : (stmts : Stmts) (g : Scope) (in_loop : Bool) → IsWithin head g → are_stmts (here g in_loop) stmts ≡ true → AllByRecursion (IsLocalOf head) (assigned_by_all stmts)
    stmts_assigned done g in_loop h is = tt
    stmts_assigned (next stmt others) g in_loop h is =
        let are = and_parts (is_stmt (here g in_loop) stmt) (are_stmts (behind (here g in_loop) stmt) others) is in
        let b = behind_within stmt g in_loop h in
        all_append (IsLocalOf head) (assigned_by stmt) (assigned_by_all others) (stmt_assigned stmt g in_loop h are.0) (stmts_assigned others (having g b.locals) in_loop b.within (others_stmts stmt others g in_loop b are.1))

    branches_assigned : (branches : Branches) (g : Scope) (in_loop : Bool) → IsWithin head g → are_branches (here g in_loop) branches ≡ true → AllByRecursion (IsLocalOf head) (assigned_in branches)
    branches_assigned no_branch g in_loop h is = tt
    branches_assigned (branch guard body rest) g in_loop h is =
        let a = and_parts (is_expr p g Boolean guard) (are_stmts (here g in_loop) body && are_branches (here g in_loop) rest) is in
        let b = and_parts (are_stmts (here g in_loop) body) (are_branches (here g in_loop) rest) a.1 in
        all_append (IsLocalOf head) (assigned_by_all body) (assigned_in rest) (stmts_assigned body g in_loop h b.0) (branches_assigned rest g in_loop h b.1)

-- ---- over actions that keep types

module _ (m : Actions) (acts : ActsTyped m) (w : Tys) (head : Head) where
  abbrev p : Program
  p = m.meaning.program

  abbrev Good : List Ty → State → Type 0
  Good bound s = IsTyped p w head bound s

  abbrev Flows : List Ty → Flow → Type 0
  Flows bound flow = FlowIsTyped p w head bound flow

  value_typed : (g : Scope) (s : State) (t : Ty) (e : Expr) → IsWithin head g → Good g.bound s → is_expr p g t e ≡ true → Each (IsOf p w t) (evaluate m.meaning s e)
  value_typed g s t e k h is = subst (λ x. Each (IsOf p x t) (evaluate m.meaning s e)) h.types_are (typed m.meaning acts.functions e g s t (agrees_of p w head g s k h) is)

  converted : (s : State) (at : Pos) (ts : List Ty) (ops : List Op) (vs : List Value) → are_conversions p ts ops ≡ true → AreOf p s.types ts vs → Each (AreOf p s.types (map result ops)) (convert_all m.meaning s at ops vs)
  converted s at [] [] vs is k = record { by = refl }
  converted s at [] (op ∷ ops) vs is k = cc
  converted s at (t ∷ ts) [] vs is k = cc
  converted s at (t ∷ ts) (op ∷ ops) [] is k = cc k.by
  converted s at (t ∷ ts) (op ∷ ops) (v ∷ vs) is k =
      let are = and_parts (is_conversion_of p t op) (are_conversions p ts ops) is in
      let one = and_parts (is_conversion op) (same_type_list (operands p op) (t ∷ []) && allowed p op) are.0 in
      let row = and_parts (same_type_list (operands p op) (t ∷ [])) (allowed p op) one.1 in
      after_each (IsOf p s.types (result op)) (AreOf p s.types (map result (op ∷ ops))) _ _
      (answered_each (IsOf p s.types (result op)) at (answer (view_of m.meaning s) op (v ∷ [])) (row_is (view_of m.meaning s) op (v ∷ []) row.1
      (subst (λ x. AreOf p s.types x (v ∷ [])) (sym (same_list_equal (operands p op) (t ∷ []) row.0)) (one_is p s.types t v (first_is p s.types t ts (v ∷ vs) k))))) (λ x l.
      after_each (AreOf p s.types (map result ops)) (AreOf p s.types (map result (op ∷ ops))) (convert_all m.meaning s at ops vs) _ (converted s at ts ops vs are.1 (others_are p s.types t ts (v ∷ vs) k)) (λ xs ls.
      more_are p s.types (result op) (map result ops) x xs l ls))

  source_typed : (g : Scope) (s : State) (source : Source) → IsWithin head g → Good g.bound s → is_source p g source ≡ true → Each (AreGiven p w (source_types source) s) (execute_source m s source)
  source_typed g s (Single ty value) k h is = after_each (IsOf p w ty) (AreGiven p w (ty ∷ []) s) _ _ (value_typed g s ty value k h is) (λ v l. record { values = one_is p w ty v l; state = kept_self s })
  source_typed g s (Results call conversions) k h is = by_method (method_at p call.callee) refl is
    where
      by_method : (o : Option Method) → method_at p call.callee ≡ o
          → option_map_or (λ (x : Method). are_types_for p g x.head call.types && (are_exprs p g (parameters_at x.head call.types) call.arguments && are_conversions p (results_at x.head call.types) conversions)) o false ≡ true
          → Each (AreGiven p w (map result conversions) s) (execute_source m s (Results call conversions))
      by_method None e is = cc
      by_method (Some x) e is =
          let known = and_parts (are_types_for p g x.head call.types) _ is in
          let are = and_parts (are_exprs p g (parameters_at x.head call.types) call.arguments) (are_conversions p (results_at x.head call.types) conversions) known.1 in
          after_each (AreOf p s.types (parameters_at x.head call.types)) (AreGiven p w (map result conversions) s) _ _
          (all_typed m.meaning acts.functions call.arguments g s (parameters_at x.head call.types) (agrees_of p w head g s k h) are.0) (λ vs l.
          after_each (AreGiven p (instances_of s.types call.types) (types_of x.head.results) s) (AreGiven p w (map result conversions) s) _ _
          (acts.call call x vs s e (record { by = subst (λ us. have_types p us (values_of vs) ≡ true) (types_twice s.types call.types x.head.parameters) l.by })) (λ given n.
          after_each (AreOf p given.state.types (map result conversions)) (AreGiven p w (map result conversions) s) _ _
          (converted given.state call.pos (results_at x.head call.types) conversions given.values are.1 (subst (λ y. AreOf p y (results_at x.head call.types) given.values) (sym n.state.types)
          (record { by = subst (λ us. have_types p us (values_of given.values) ≡ true) (sym (types_twice s.types call.types x.head.results)) n.values.by }))) (λ ws r.
          record { values = subst (λ y. AreOf p y (map result conversions) ws) (n.state.types ∙ h.types_are) r; state = n.state })))
  source_typed g s (NewArray site element at size elements) k h is =
      any_after (AreGiven p w (Array false element ∷ []) s) (evaluate m.meaning s size) _ (λ n.
      any_after (AreGiven p w (Array false element ∷ []) s) (first_elements m s site element at (number_of n) elements) _ (λ vs.
      after_each (IsOf p s.types (AnyObject false)) (AreGiven p w (Array false element ∷ []) s) (m.new site s) _ (acts.new site s) (λ v l.
      record { values = one_is p w (Array false element) v (record { by = l.by }); state = record { types = refl; locals = refl; bound = refl } })))

  sources_typed : (g : Scope) (s : State) (sources : List Source) → IsWithin head g → Good g.bound s → list_all (is_source p g) sources ≡ true → Each (AreGiven p w (flat_map source_types sources) s) (execute_sources m s sources)
  sources_typed g s [] k h is = record { values = record { by = refl }; state = kept_self s }
  sources_typed g s (source ∷ others) k h is =
      let are = and_parts (is_source p g source) (list_all (is_source p g) others) is in
      after_each (AreGiven p w (source_types source) s) (AreGiven p w (source_types source ++ flat_map source_types others) s) _ _ (source_typed g s source k h are.0) (λ given l.
      after_each (AreGiven p w (flat_map source_types others) given.state) (AreGiven p w (source_types source ++ flat_map source_types others) s) _ _
      (sources_typed g given.state others k (kept_typed p w head g.bound s given.state l.state h) are.1) (λ more r.
      record { values = append_are p w (source_types source) (flat_map source_types others) given.values more.values l.values r.values; state = kept_then s given.state more.state l.state r.state }))

  slot_takes : (s : State) (at : Pos) (t u : Ty) (v : Value) (n : _) → Each (Takes p w head u) (slot_place s at t v n)
  slot_takes s at t u v n = choice_each (Takes p w head u) (is_there s.store.heap t v) _ _ (choice_each (Takes p w head u) (is_index n (count (slots_at s.store.heap v))) _ _ (choice_each (Takes p w head u) (may_change s.changeable s.entry v (nat_of n)) _ _ (record { by = tt }) tt) tt) tt

  place_takes : (g : Scope) (in_loop : Bool) (s : State) (outer : Pos) (target : Target) → IsWithin head g → is_target (here p w head g in_loop) target ≡ true → Each (Takes p w head (target_type target)) (place_of m.meaning s outer target)
  place_takes g in_loop s outer (Nowhere ty) k is = record { by = tt }
  place_takes g in_loop s outer (LocalAt local name at ty) k is = record { by = local_target p w head g in_loop local ty _ k is }
  place_takes g in_loop s outer (FieldAt object class field at ty) k is = any_after (Takes p w head ty) (evaluate m.meaning s object) _ (λ v. slot_takes s at (Class false class) ty v (pos field))
  place_takes g in_loop s outer (ElementAt array index at ty) k is =
      any_after (Takes p w head ty) (evaluate m.meaning s array) _ (λ v. any_after (Takes p w head ty) (evaluate m.meaning s index) _ (λ n. slot_takes s at (Array false (instance_of s.types ty)) ty v (number_of n)))

  places_take : (g : Scope) (in_loop : Bool) (s : State) (ts : List Ty) (targets : List Target) → IsWithin head g → are_targets (here p w head g in_loop) ts targets ≡ true → Each (AreTaking p w head ts) (places_of m.meaning s targets)
  places_take g in_loop s [] [] k is = record { by = tt }
  places_take g in_loop s [] (target ∷ targets) k is = cc
  places_take g in_loop s (t ∷ ts) [] k is = cc
  places_take g in_loop s (t ∷ ts) (target ∷ targets) k is =
      let same = and_parts (same_type t (target_type target)) (is_target (here p w head g in_loop) target && are_targets (here p w head g in_loop) ts targets) is in
      let are = and_parts (is_target (here p w head g in_loop) target) (are_targets (here p w head g in_loop) ts targets) same.1 in
      after_each (Takes p w head (target_type target)) (AreTaking p w head (t ∷ ts)) _ _ (place_takes g in_loop s (record { line = 0; col = 0 }) target k are.0) (λ x l.
      after_each (AreTaking p w head ts) (AreTaking p w head (t ∷ ts)) (places_of m.meaning s targets) _ (places_take g in_loop s ts targets k are.1) (λ xs r.
      record { by = (subst (λ u. Takes p w head u x) (sym (same_type_equal t (target_type target) same.0)) l, r.by) }))

  update_typed : (g : Scope) (in_loop : Bool) (s : State) (update : Update) → IsWithin head g → Good g.bound s → is_update (here p w head g in_loop) update ≡ true → Each (Good g.bound) (execute_update m s update)
  update_typed g in_loop s update k h is =
      let ts = flat_map source_types update.sources in
      let are = and_parts (list_all (is_source p g) update.sources) (are_targets (here p w head g in_loop) ts update.targets) is in
      after_each (AreGiven p w ts s) (Good g.bound) _ _ (sources_typed g s update.sources k h are.0) (λ given l.
      after_each (AreTaking p w head ts) (Good g.bound) _ _ (places_take g in_loop given.state ts update.targets k are.1) (λ places r.
      puts_typed p w head g.bound given.state [] ts places given.values r l.values (kept_typed p w head g.bound s given.state l.state h)))

  return_typed : (g : Scope) (in_loop : Bool) (s : State) (update : Option Update) → IsWithin head g → Good g.bound s → is_return (here p w head g in_loop) update ≡ true → Each (Good g.bound) (execute_optional m s update)
  return_typed g in_loop s None k h is = h
  return_typed g in_loop s (Some update) k h is = update_typed g in_loop s update k h (and_parts (is_update (here p w head g in_loop) update) (are_results head.results update.targets) is).0

  -- ---- choices

  meets_typed : (ranges : List Range) (s : State) (condition : Expr) (vs : List Value) → s.types ≡ w → meet m.meaning s ranges condition vs ≡ Gives true → AreOf p w (range_types ranges) vs
  meets_typed [] s condition [] e is = record { by = refl }
  meets_typed [] s condition (v ∷ vs) e is = cc
  meets_typed (r ∷ rs) s condition [] e is = cc
  meets_typed (r ∷ rs) s condition (v ∷ vs) e is = by_range (evaluate_range m.meaning s r.extent) is (meets_typed rs (with_bound s v) condition vs e)
    where
      by_among : (b : Bool) (us : List Value) → is_among v (of_type m.meaning s r.variable.ty us) ≡ b → (if b then meet m.meaning (with_bound s v) rs condition vs else Gives false) ≡ Gives true
          → (meet m.meaning (with_bound s v) rs condition vs ≡ Gives true → AreOf p w (range_types rs) vs) → AreOf p w (range_types (r ∷ rs)) (v ∷ vs)
      by_among true us a is go = more_are p w r.variable.ty (range_types rs) v vs (subst (λ x. IsOf p x r.variable.ty v) e (record { by = among_filtered (is_of p s.types r.variable.ty) v us a })) (go is)
      by_among false us a is go = cc

      by_range : (o : Outcome (List Value)) → after (after o (λ us. Gives (of_type m.meaning s r.variable.ty us))) (λ items. if is_among v items then meet m.meaning (with_bound s v) rs condition vs else Gives false) ≡ Gives true
          → (meet m.meaning (with_bound s v) rs condition vs ≡ Gives true → AreOf p w (range_types rs) vs) → AreOf p w (range_types (r ∷ rs)) (v ∷ vs)
      by_range (Gives us) is go = by_among (is_among v (of_type m.meaning s r.variable.ty us)) us refl is go
      by_range (Wrong at kind) is go = cc
      by_range TooDeep is go = cc
      by_range NoChoice is go = cc
      by_range Dismissed is go = cc

  choice_typed : (g : Scope) (in_loop : Bool) (s : State) (site : ℕ) (at : Pos) (targets : List Target) (ranges : List Range) (condition : Expr) → IsWithin head g → Good g.bound s
      → are_targets (here p w head g in_loop) (range_types ranges) targets ≡ true → Each (Good g.bound) (execute_choice m s site at targets ranges condition)
  choice_typed g in_loop s site at targets ranges condition k h is = any_after (Good g.bound) (evaluate m.meaning s (some_meet site at ranges condition)) _ (λ some.
      choice_each (Good g.bound) (truth_of some) _ _
      (after_each (IsPicked (meet m.meaning s ranges condition) s) (Good g.bound) _ _ (acts.pick site (length ranges) (meet m.meaning s ranges condition) s) (λ given l.
      after_each (AreTaking p w head (range_types ranges)) (Good g.bound) _ _ (places_take g in_loop given.state (range_types ranges) targets k is) (λ places r.
      puts_typed p w head g.bound given.state [] (range_types ranges) places given.values r (meets_typed ranges s condition given.values h.types_are l.fitting) (kept_typed p w head g.bound s given.state l.state h)))) tt)

  -- ---- other statements

  publish_typed : (g : Scope) (in_loop : Bool) (s : State) (site class : ℕ) (fields : List ℕ) (this : ℕ) → IsWithin head g → Good g.bound s → is_publishing (here p w head g in_loop) class fields this ≡ true
      → Each (Good g.bound) (execute_publish m s site class fields this)
  publish_typed g in_loop s site class fields this k h is =
      any_after (Good g.bound) (values_in fields s.locals) _ (λ slots.
      after_each (IsOf p s.types (AnyObject false)) (Good g.bound) (m.new site s) _ (acts.new site s) (λ v l.
      some_typed p w head g.bound _ this (Class false class) v (published_type p w head g in_loop class fields this k is) (record { by = l.by }) (record { types_are = h.types_are; locals = h.locals; bound_are = h.bound_are })))

  where_keeps : (given : Option Expr) (go : State → Outcome State) → ((t : State) → Each (KeepsLocals t) (go t)) → (t : State) → Each (KeepsLocals t) (where_true m.meaning given go t)
  where_keeps None go e t = e t
  where_keeps (Some given) go e t = any_after (KeepsLocals t) (evaluate m.meaning t given) _ (λ v. choice_each (KeepsLocals t) (truth_of v) _ _ (e t) (kept_self t))

  claims_keep : (t : State) (body : Outcome Flow) (claims : List Demand) → Each (KeepsLocals t) (after body (λ flow. check_all m.meaning (dropped t (state_of flow)) claims))
  claims_keep t body claims = any_after (KeepsLocals t) body _ (λ flow. checks_keep (KeepsLocals t) m.meaning (dropped t (state_of flow)) claims (record { types = refl; locals = refl; bound = refl }))

  goes_typed : (bound : List Ty) (go : State → Outcome Flow) → ((t : State) → Good bound t → Each (Flows bound) (go t)) → (flow : Flow) → Flows bound flow → Each (Flows bound) (goes go flow)
  goes_typed bound go e (Next t) k = e t k.state
  goes_typed bound go e (Returned t) k = record { state = k.state }
  goes_typed bound go e (Broken t) k = record { state = k.state }

  next_typed : (bound : List Ty) (o : Outcome State) → Each (Good bound) o → Each (Flows bound) (after o (λ t. Gives (Next t)))
  next_typed bound o k = after_each (Good bound) (Flows bound) o _ k (λ t l. record { state = l })

  kept_next : (bound : List Ty) (s : State) (o : Outcome State) → Good bound s → Each (KeepsLocals s) o → Each (Flows bound) (after o (λ t. Gives (Next t)))
  kept_next bound s o h k = after_each (KeepsLocals s) (Flows bound) o _ k (λ t l. record { state = kept_typed p w head bound s t l h })

  mutual
    pub stmt_typed : (stmt : Stmt) (g : Scope) (in_loop : Bool) (s : State) → IsWithin head g → Good g.bound s → is_stmt (here p w head g in_loop) stmt ≡ true → Each (Flows g.bound) (execute m s stmt)
    stmt_typed (Declare locals) g in_loop s k h is = record { state = declared_typed p w head g.bound s locals h }
    stmt_typed (Assign update) g in_loop s k h is = next_typed g.bound _ (update_typed g in_loop s update k h is)
    stmt_typed (Choose site at targets ranges condition) g in_loop s k h is =
        let a = and_parts (are_ranges p g ranges) _ is in
        next_typed g.bound _ (choice_typed g in_loop s site at targets ranges condition k h (and_parts (is_expr p (bound_by g ranges) Boolean condition) (are_targets (here p w head g in_loop) (range_types ranges) targets) a.1).1)
    stmt_typed (Branch branches otherwise) g in_loop s k h is =
        let a = and_parts (are_branches (here p w head g in_loop) branches) (are_stmts (here p w head g in_loop) otherwise) is in
        branches_typed branches g in_loop s _ k h a.0 (stmts_typed otherwise g in_loop s k h a.1)
    stmt_typed (While site at guard invariants decreases body) g in_loop s k h is =
        let a = and_parts (is_expr p g Boolean guard) _ is in
        let b = and_parts (are_demands p g invariants) _ a.1 in
        let c = and_parts (may_be_typed p g decreases) (are_stmts (here p w head g true) body) b.1 in
        after_each (Good g.bound) (Flows g.bound) (check_all m.meaning s (map (as_kind kinds.Entry) invariants)) _ (checks_keep (Good g.bound) m.meaning s (map (as_kind kinds.Entry) invariants) h) (λ u l.
        acts.loop w (here p w head g in_loop) (While site at guard invariants decreases body) (loop_of m site at guard invariants decreases body) u refl k is (record {
          assigned = stmts_assigned p w head body g true k c.1;
          check = λ kind t j. checks_keep (Good g.bound) m.meaning t (map (as_kind kind) invariants) j;
          assume = λ t j. assumed_keeps (Good g.bound) m.meaning t (conditions invariants) j;
          body = λ t j. stmts_typed body g true t k j c.1;
        }) l)
    stmt_typed (Break at) g in_loop s k h is = record { state = h }
    stmt_typed (Return at update) g in_loop s k h is = after_each (Good g.bound) (Flows g.bound) (execute_optional m s update) _ (return_typed g in_loop s update k h is) (λ t l. record { state = l })
    stmt_typed (Check demand) g in_loop s k h is = next_typed g.bound _ (any_after (Good g.bound) (evaluate m.meaning s demand.condition) _ (λ v. choice_each (Good g.bound) (truth_of v) _ _ h tt))
    stmt_typed (Prove site at aim body) g in_loop s k h is = kept_next g.bound s _ h (acts.prove site _ _ _
        (where_keeps aim.given _ (λ t. claims_keep t (execute_all m t body) aim.claims)) (λ t. assumed_keeps (KeepsLocals t) m.meaning t (known_behind site at aim) (kept_self t)) s)
    stmt_typed (Print at operands) g in_loop s k h is = kept_next g.bound s _ h (prints_keep m.meaning s operands)
    stmt_typed (Publish site at class fields this) g in_loop s k h is = next_typed g.bound _ (publish_typed g in_loop s site class fields this k h is)
    stmt_typed (Ghost body) g in_loop s k h is = stmts_typed body g in_loop s k h is

    pub stmts_typed : (stmts : Stmts) (g : Scope) (in_loop : Bool) (s : State) → IsWithin head g → Good g.bound s → are_stmts (here p w head g in_loop) stmts ≡ true → Each (Flows g.bound) (execute_all m s stmts)
    stmts_typed done g in_loop s k h is = record { state = h }
    stmts_typed (next stmt others) g in_loop s k h is =
        let are = and_parts (is_stmt (here p w head g in_loop) stmt) (are_stmts (behind (here p w head g in_loop) stmt) others) is in
        let b = behind_within p w head stmt g in_loop k in
        after_each (Flows g.bound) (Flows g.bound) (execute m s stmt) _ (stmt_typed stmt g in_loop s k h are.0)
        (goes_typed g.bound (λ t. execute_all m t others) (λ t j. stmts_typed others (having p w head g b.locals) in_loop t b.within j (others_stmts p w head stmt others g in_loop b are.1)))

    branches_typed : (branches : Branches) (g : Scope) (in_loop : Bool) (s : State) (o : Outcome Flow) → IsWithin head g → Good g.bound s → are_branches (here p w head g in_loop) branches ≡ true → Each (Flows g.bound) o
        → Each (Flows g.bound) (execute_branches m s branches o)
    branches_typed no_branch g in_loop s o k h is l = l
    branches_typed (branch guard body rest) g in_loop s o k h is l =
        let a = and_parts (is_expr p g Boolean guard) (are_stmts (here p w head g in_loop) body && are_branches (here p w head g in_loop) rest) is in
        let b = and_parts (are_stmts (here p w head g in_loop) body) (are_branches (here p w head g in_loop) rest) a.1 in
        any_after (Flows g.bound) (evaluate m.meaning s guard) _ (λ v. choice_each (Flows g.bound) (truth_of v) _ _ (stmts_typed body g in_loop s k h b.0) (branches_typed rest g in_loop s o k h b.1 l))

pub any_stmt_typed : (m : Actions) → ActsTyped m → (w : Tys) (g : Setting) (s : State) (stmt : Stmt) → g.program ≡ m.meaning.program → IsWithin g.head g.scope → IsTyped m.meaning.program w g.head g.scope.bound s
    → is_stmt g stmt ≡ true → Each (FlowIsTyped m.meaning.program w g.head g.scope.bound) (execute m s stmt)
any_stmt_typed m acts w g s stmt same k h is =
    stmt_typed m acts w g.head stmt g.scope g.in_loop s k h (subst (λ (p : Program). is_stmt (record { program = p; head = g.head; scope = g.scope; in_loop = g.in_loop }) stmt ≡ true) same is)
