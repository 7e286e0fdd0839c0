-- Which locals statements declare, and which have values behind them; where a method returns, its parameters and results.
use Rattle.df_npass.proofs.Words.{◌≡◌, inl, inr, ◌<◌, ◌≤◌, ◌+◌, ℕ, suc, ◌==◌, Bool, true, false, List, [], ◌∷◌, ◌++◌, length, refl, ap, ◌∙◌, arith, length-append, le_refl, le_trans, sym, eqb-true, ne_eqb, or_cases, or_from, length-map, list_any, list_all, Ty, Variable, Stmt, Block, Var, If, While, Stmts, done, next, Branches, no_branch, branch, Method, Program, is_type, is_expr, are_clauses, is_measured, may_update, are_numbered, variable_numbers, variable_types, locals_after, locals_after_all, locals_after_branches, is_stmt, are_stmts, are_branches, both, three, four, joined, place, grows, declared_by, declared_by_all, declared_by_branches, list_all-append, list_any-append, Option, None, Some, subst, ltb-true, cases_lt, Pos, Target, Update, Param, types_of, Use, Assigned, Unreached, Reached, has_value, mark, assign, assign_all, unassigned, results_from, results_at, parted, use_has, first_locals, choice}
use Rattle.df_lang.specs.declared.ty.Ty.TheVariants as types

abbrev pub is_declared : List ℕ → ℕ → Bool
is_declared declared k = list_any (λ (n : ℕ). n == k) declared

-- numbers from one on
numbered_past : (from k : ℕ) (variables : List Variable) → are_numbered from (variable_numbers variables) ≡ true → k < from → is_declared (variable_numbers variables) k ≡ false
numbered_past from k [] are less = refl
numbered_past from k (v ∷ vs) are less =
    let are = both (v.local == from) (are_numbered (suc from) (variable_numbers vs)) are in
    let same = eqb-true v.local from are.0 in
    or_from (v.local == k) (is_declared (variable_numbers vs) k) (ne_eqb v.local k (λ e. omega (arith, e, same, less))) (numbered_past (suc from) k vs are.1 (omega (arith, less)))

numbered_within : (from k : ℕ) (variables : List Variable) → are_numbered from (variable_numbers variables) ≡ true → is_declared (variable_numbers variables) k ≡ true → k < from + length variables
numbered_within from k [] are h = cc
numbered_within from k (v ∷ vs) are h =
    let are = both (v.local == from) (are_numbered (suc from) (variable_numbers vs)) are in
    let same = eqb-true v.local from are.0 in
    elim (or_cases (v.local == k) (is_declared (variable_numbers vs) k) h) [
      | inl e ↦ (let is = eqb-true v.local k e in omega (arith, is, same))
      | inr r ↦ (let less = numbered_within (suc from) k vs are.1 r in omega (arith, less))
    ]

-- What is declared is none of the locals before, and stands among those behind; and these are of types of the program
-- where those are.
pub record Declares (program : Program) (k : ℕ) (before behind : List Ty) (declared : List ℕ) : Type 0 where
  pub grows : length before ≤ length behind
  pub past : k < length before → is_declared declared k ≡ false
  pub there : is_declared declared k ≡ true → k < length behind
  pub typed : list_all (is_type program) before ≡ true → list_all (is_type program) behind ≡ true

module _ (program : Program) (own : Method) (k : ℕ) where
  nothing : (locals : List Ty) → Declares program k locals locals []
  nothing locals = record { grows = le_refl (length locals); past = λ less. refl; there = λ e. cc; typed = λ h. h }

  in_order : (a b c : List Ty) (xs ys : List ℕ) → Declares program k a b xs → Declares program k b c ys → Declares program k a c (xs ++ ys)
  in_order a b c xs ys h g =
      let le = h.grows in
      let further = g.grows in
      record {
        grows = le_trans le further;
        past = λ less. list_any-append (λ (n : ℕ). n == k) xs ys ∙ or_from (is_declared xs k) (is_declared ys k) (h.past less) (g.past (omega (arith, less, le)));
        there = λ e. elim (or_cases (is_declared xs k) (is_declared ys k) (sym (list_any-append (λ (n : ℕ). n == k) xs ys) ∙ e)) [ inl x ↦ (let less = h.there x in omega (arith, less, further)) | inr y ↦ g.there y ];
        typed = λ t. g.typed (h.typed t);
      }

  mutual
    pub stmt_declares : (stmt : Stmt) (locals : List Ty) (in_loop : Bool) → is_stmt (place program locals own in_loop) stmt ≡ true → Declares program k locals (locals_after locals stmt) (declared_by stmt)
    stmt_declares (Block at body) locals in_loop is = all_declare body locals in_loop is
    stmt_declares (Var at variables update) locals in_loop is =
        let is = three (are_numbered (length locals) (variable_numbers variables)) (list_all (is_type program) (variable_types variables)) (may_update (place program (locals ++ variable_types variables) own in_loop) update) is in
        let long : length (locals ++ variable_types variables) ≡ length locals + length variables = length-append locals (variable_types variables) ∙ ap (λ x. length locals + x) (length-map variables (λ (v : Variable). v.ty)) in
        record {
          grows = omega (arith, long);
          past = numbered_past (length locals) k variables is.0;
          there = λ h. (let less = numbered_within (length locals) k variables is.0 h in omega (arith, less, long));
          typed = λ h. list_all-append (is_type program) locals (variable_types variables) ∙ joined (list_all (is_type program) locals) (list_all (is_type program) (variable_types variables)) h is.1;
        }
    stmt_declares (If branches otherwise) locals in_loop is =
        let between = locals_after_branches locals branches in
        let is = both (are_branches (place program locals own in_loop) branches) (are_stmts (place program between own in_loop) otherwise) is in
        in_order locals between (locals_after_all between otherwise) (declared_by_branches branches) (declared_by_all otherwise) (branches_declare branches locals in_loop is.0) (all_declare otherwise between in_loop is.1)
    stmt_declares (While at guard invariants decreases body) locals in_loop is =
        all_declare body locals true (four (is_expr program locals types.Bool guard) (are_clauses program locals invariants) (is_measured (place program locals own in_loop) guard decreases) (are_stmts (place program locals own true) body) is).3
    stmt_declares stmt locals in_loop is = nothing locals

    pub all_declare : (stmts : Stmts) (locals : List Ty) (in_loop : Bool) → are_stmts (place program locals own in_loop) stmts ≡ true → Declares program k locals (locals_after_all locals stmts) (declared_by_all stmts)
    all_declare done locals in_loop is = nothing locals
    all_declare (next stmt others) locals in_loop is =
        let between = locals_after locals stmt in
        let is = both (is_stmt (place program locals own in_loop) stmt) (are_stmts (place program between own in_loop) others) is in
        in_order locals between (locals_after_all between others) (declared_by stmt) (declared_by_all others) (stmt_declares stmt locals in_loop is.0) (all_declare others between in_loop is.1)

    pub branches_declare : (branches : Branches) (locals : List Ty) (in_loop : Bool) → are_branches (place program locals own in_loop) branches ≡ true → Declares program k locals (locals_after_branches locals branches) (declared_by_branches branches)
    branches_declare no_branch locals in_loop is = nothing locals
    branches_declare (branch at guard body rest) locals in_loop is =
        let between = locals_after_all locals body in
        let is = three (is_expr program locals types.Bool guard) (are_stmts (place program locals own in_loop) body) (are_branches (place program between own in_loop) rest) is in
        in_order locals between (locals_after_branches between rest) (declared_by_all body) (declared_by_branches rest) (all_declare body locals in_loop is.1) (branches_declare rest between in_loop is.2)

mark_keeps : (a : Assigned) (local k : ℕ) → has_value a k ≡ true → has_value (mark true a local) k ≡ true
mark_keeps Unreached local k h = refl
mark_keeps (Reached set) local k h = choice (λ (b : Bool). b ≡ true) (k == local) true (set k) refl h

assign_keeps : (targets : List Target) (a : Assigned) (k : ℕ) → has_value a k ≡ true → has_value (assign a targets) k ≡ true
assign_keeps [] a k h = h
assign_keeps (t ∷ ts) a k h = assign_keeps ts (mark true a t.local) k (mark_keeps a t.local k h)

pub update_keeps : (update : Option Update) (a : Assigned) (k : ℕ) → has_value a k ≡ true → has_value (assign_all a update) k ≡ true
update_keeps None a k h = h
update_keeps (Some update) a k h = assign_keeps update.targets a k h

numbered_have : (at : Pos) (a : Assigned) (from : ℕ) (params : List Param) → unassigned a (results_from at from params) ≡ [] → (k : ℕ) → from ≤ k → k < from + length params → has_value a k ≡ true
numbered_have at a from [] e k more less = absurd (omega (arith, more, less))
numbered_have at a from (param ∷ params) e k more less =
    let used : Use = record { local = from; name = param.declared.name; pos = at } in
    elim (cases_lt k (suc from)) [
      | inl l ↦ (let same : from ≡ k = omega (arith, l, more) in subst (λ (x : ℕ). has_value a x ≡ true) same (use_has a used (results_from at (suc from) params) e))
      | inr l ↦ numbered_have at a (suc from) params (parted a (used ∷ []) (results_from at (suc from) params) e).1 k l (omega (arith, less))
    ]

-- where a method returns, parameters and results have values
module _ (own : Method) where
  abbrev pub few : ℕ
  few = length own.parameters

  abbrev pub back : Assigned
  back = first_locals (length (types_of own.parameters ++ types_of own.results))

  abbrev pub HasParameters : Assigned → Type 0
  HasParameters before = (k : ℕ) → k < few → has_value before k ≡ true

  long : length (types_of own.parameters ++ types_of own.results) ≡ few + length own.results
  long = length-append (types_of own.parameters) (types_of own.results) ∙ (ap (λ (x : ℕ). x + length (types_of own.results)) (length-map own.parameters (λ (param : Param). param.ty)) ∙ ap (λ (x : ℕ). few + x) (length-map own.results (λ (param : Param). param.ty)))

  pub back_has : (at : Pos) (a : Assigned) → HasParameters a → unassigned a (results_at own at) ≡ [] → (k : ℕ) → has_value back k ≡ true → has_value a k ≡ true
  back_has at a parameters results k h = elim (cases_lt k few) [
    | inl less ↦ parameters k less
    | inr more ↦ numbered_have at a few own.results results k more (let less = ltb-true k (length (types_of own.parameters ++ types_of own.results)) h in omega (arith, less, long))
  ]
