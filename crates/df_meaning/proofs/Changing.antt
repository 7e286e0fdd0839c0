-- Which locals a well-typed statement changes: none of the parameters, each with its type.
use Rattle.std.proofs.Common.{◌≡◌, ◌≤◌, ℕ, suc, ◌+◌, ◌==◌, nat_le, Bool, true, false, ◌||◌, List, [], ◌∷◌, ◌++◌, map, length, slice_get, Option, Some, None, refl, sym, ap, subst, ◌∙◌, append_assoc, length-append, arith}
use Rattle.std.proofs.lemmas.Bool.{eq-eqb, eqb-true, le-leb}
use Rattle.std.specs.Option.{option_map_or}
use Rattle.std.specs.List.{list_all, flat_map}
use Rattle.df_lang.specs.declared.ty.Ty.{Ty}
use Rattle.df_lang.specs.declared.ty.Ty.TheVariants as types
use Rattle.df_lang.specs.Stmt.{Target, Update, Variable, Stmt, Block, Var, Assign, CallOf, If, While, Break, Return, Assert, Print, Stmts, done, next, Branches, no_branch, branch}
use Rattle.df_lang.specs.Program.{Method}
use Rattle.df_lang.specs.Newtype.{same_type}
use Rattle.df_lang.specs.Typing.{are_same_types, is_type, is_expr, are_clauses, is_source, source_types, is_target, may_update, are_numbered, variable_numbers, variable_types, locals_after, locals_after_all, locals_after_branches, is_measured, is_stmt, are_stmts, are_branches}
use Rattle.df_meaning.specs.Meaning.{Meaning}
use Rattle.df_meaning.specs.Modular.{Changed, changed_by_update, changed_by_variables, changed_by, changed_by_all, changed_by_branches}
use Rattle.df_meaning.specs.Agreement.{is_changed}
use Rattle.df_meaning.proofs.Cases.{both, three, four, joined}
use Rattle.df_meaning.proofs.Stating.{Within, here, same_self, target_there, return_updates, locals_grow, all_locals_grow, branch_locals_grow, before_all, before_branches}
use Rattle.df_meaning.proofs.Kept.{update_within, stmt_within, all_within, branches_within}

-- ---- lists of changed locals

or_right : (a b : Bool) → b ≡ true → (a || b) ≡ true
or_right true b e = refl
or_right false b e = e

or_more : (a b c : Bool) → (a || b) ≡ true → (b ≡ true → c ≡ true) → (a || c) ≡ true
or_more true b c e h = refl
or_more false b c e h = h e

in_front : (cs ds : List Changed) (n : ℕ) → is_changed cs n ≡ true → is_changed (cs ++ ds) n ≡ true
in_front [] ds n e = cc
in_front (c ∷ cs) ds n e = or_more (c.local == n) (is_changed cs n) (is_changed (cs ++ ds) n) e (in_front cs ds n)

behind : (cs ds : List Changed) (n : ℕ) → is_changed ds n ≡ true → is_changed (cs ++ ds) n ≡ true
behind [] ds n e = e
behind (c ∷ cs) ds n e = or_right (c.local == n) (is_changed (cs ++ ds) n) (behind cs ds n e)

-- each has its type
abbrev pub are_there : List Ty → List Changed → Bool
are_there all changed = list_all (λ (c : Changed). option_map_or (same_type c.ty) (slice_get all c.local) false) changed

joined_there : (all : List Ty) (cs ds : List Changed) → are_there all cs ≡ true → are_there all ds ≡ true → are_there all (cs ++ ds) ≡ true
joined_there all [] ds h k = k
joined_there all (c ∷ cs) ds h k =
    let h = both (option_map_or (same_type c.ty) (slice_get all c.local) false) (are_there all cs) h in
    joined _ (are_there all (cs ++ ds)) h.0 (joined_there all cs ds h.1 k)

there : (all : List Ty) (local : ℕ) (ty : Ty) → slice_get all local ≡ Some ty → option_map_or (same_type ty) (slice_get all local) false ≡ true
there all local ty e = subst (λ (o : Option Ty). option_map_or (same_type ty) o false ≡ true) (sym e) (same_self ty)

-- ---- what is changed lies within what may change

-- a `return` may change all
abbrev pub anything : ℕ → Bool
anything n = true

all_anything : (ts : List Target) → list_all (λ (t : Target). anything t.local) ts ≡ true
all_anything [] = refl
all_anything (t ∷ ts) = all_anything ts

abbrev Includes : (ℕ → Bool) → List Changed → Type 0
Includes may changed = (n : ℕ) → is_changed changed n ≡ true → may n ≡ true

first_changed : (n : ℕ) (cs : List Changed) → ((n == n) || is_changed cs n) ≡ true
first_changed n cs = ap (λ b. b || is_changed cs n) (eq-eqb n n refl)

targets_included : (may : ℕ → Bool) (ts : List Target) → Includes may (map (λ (t : Target). record { local = t.local; ty = t.ty }) ts) → list_all (λ (t : Target). may t.local) ts ≡ true
targets_included may [] h = refl
targets_included may (t ∷ ts) h =
    joined (may t.local) _ (h t.local (first_changed t.local _)) (targets_included may ts (λ n e. h n (or_right (t.local == n) _ e)))

variables_included : (may : ℕ → Bool) (vs : List Variable) → Includes may (changed_by_variables vs) → list_all (λ (v : Variable). may v.local) vs ≡ true
variables_included may [] h = refl
variables_included may (v ∷ vs) h =
    joined (may v.local) _ (h v.local (first_changed v.local _)) (variables_included may vs (λ n e. h n (or_right (v.local == n) _ e)))

update_included : (may : ℕ → Bool) (update : Option Update) → Includes may (changed_by_update update) → update_within may update ≡ true
update_included may None h = refl
update_included may (Some update) h = targets_included may update.targets h

returns_anything : (update : Option Update) → update_within anything update ≡ true
returns_anything None = refl
returns_anything (Some update) = all_anything update.targets

mutual
  pub stmt_included : (may : ℕ → Bool) (stmt : Stmt) → Includes may (changed_by stmt) → stmt_within may anything stmt ≡ true
  stmt_included may (Block at body) h = all_included may body h
  stmt_included may (Var at variables update) h =
      joined _ _ (variables_included may variables (λ n e. h n (in_front (changed_by_variables variables) (changed_by_update update) n e)))
      (update_included may update (λ n e. h n (behind (changed_by_variables variables) (changed_by_update update) n e)))
  stmt_included may (Assign at update) h = update_included may (Some update) h
  stmt_included may (CallOf call) h = refl
  stmt_included may (If branches otherwise) h =
      joined _ _ (branches_included may branches (λ n e. h n (in_front (changed_by_branches branches) (changed_by_all otherwise) n e)))
      (all_included may otherwise (λ n e. h n (behind (changed_by_branches branches) (changed_by_all otherwise) n e)))
  stmt_included may (While at guard invariants decreases body) h = all_included may body h
  stmt_included may (Break at) h = refl
  stmt_included may (Return at update) h = returns_anything update
  stmt_included may (Assert at condition) h = refl
  stmt_included may (Print at operands) h = refl

  pub all_included : (may : ℕ → Bool) (stmts : Stmts) → Includes may (changed_by_all stmts) → all_within may anything stmts ≡ true
  all_included may done h = refl
  all_included may (next stmt others) h =
      joined _ _ (stmt_included may stmt (λ n e. h n (in_front (changed_by stmt) (changed_by_all others) n e))) (all_included may others (λ n e. h n (behind (changed_by stmt) (changed_by_all others) n e)))

  branches_included : (may : ℕ → Bool) (branches : Branches) → Includes may (changed_by_branches branches) → branches_within may anything branches ≡ true
  branches_included may no_branch h = refl
  branches_included may (branch at guard body rest) h =
      joined _ _ (all_included may body (λ n e. h n (in_front (changed_by_all body) (changed_by_branches rest) n e)))
      (branches_included may rest (λ n e. h n (behind (changed_by_all body) (changed_by_branches rest) n e)))

-- what a loop's body changes it may change
pub body_included : (body : Stmts) → all_within (is_changed (changed_by_all body)) anything body ≡ true
body_included body = all_included (is_changed (changed_by_all body)) body (λ n e. e)

-- ---- no parameter is changed

-- numbers from one on
abbrev pub from_on : ℕ → ℕ → Bool
from_on k n = nat_le k n

variables_past : (k from : ℕ) (vs : List Variable) → k ≤ from → are_numbered from (variable_numbers vs) ≡ true → list_all (λ (v : Variable). from_on k v.local) vs ≡ true
variables_past k from [] le are = refl
variables_past k from (v ∷ vs) le are =
    let are = both (v.local == from) (are_numbered (suc from) (variable_numbers vs)) are in
    let same : v.local ≡ from = eqb-true v.local from are.0 in
    joined (from_on k v.local) _ (le-leb k v.local (omega arith)) (variables_past k (suc from) vs (omega arith) are.1)

-- ---- each has its type

get_at : (front : List Ty) (ty : Ty) (rest : List Ty) → slice_get (front ++ ty ∷ rest) (length front) ≡ Some ty
get_at [] ty rest = refl
get_at (t ∷ ts) ty rest = get_at ts ty rest

variables_there : (all front : List Ty) (vs : List Variable) → are_numbered (length front) (variable_numbers vs) ≡ true → Within (front ++ variable_types vs) all → are_there all (changed_by_variables vs) ≡ true
variables_there all front [] are within = refl
variables_there all front (v ∷ vs) are within =
    let are = both (v.local == length front) (are_numbered (suc (length front)) (variable_numbers vs)) are in
    let same : v.local ≡ length front = eqb-true v.local (length front) are.0 in
    let at_end : slice_get all v.local ≡ Some v.ty = within.at v.local v.ty (subst (λ (k : ℕ). slice_get (front ++ v.ty ∷ variable_types vs) k ≡ Some v.ty) (sym same) (get_at front v.ty (variable_types vs))) in
    let long : suc (length front) ≡ length (front ++ v.ty ∷ []) = let e : length (front ++ v.ty ∷ []) ≡ length front + 1 = length-append front (v.ty ∷ []) in omega arith in
    joined _ (are_there all (changed_by_variables vs)) (there all v.local v.ty at_end)
    (variables_there all (front ++ v.ty ∷ []) vs (subst (λ (k : ℕ). are_numbered k (variable_numbers vs) ≡ true) long are.1)
    (subst (λ (tys : List Ty). Within tys all) (sym (append_assoc front (v.ty ∷ []) (variable_types vs))) within))

module _ (m : Meaning) (own : Method) where
  abbrev size : ℕ
  size = length own.parameters

  targets_past : (locals : List Ty) (in_loop : Bool) (ts : List Target) → list_all (is_target (here m locals own in_loop)) ts ≡ true → list_all (λ (t : Target). from_on size t.local) ts ≡ true
  targets_past locals in_loop [] are = refl
  targets_past locals in_loop (t ∷ ts) are =
      let are = both (is_target (here m locals own in_loop) t) (list_all (is_target (here m locals own in_loop)) ts) are in
      joined (from_on size t.local) _ (both (nat_le size t.local) (option_map_or (same_type t.ty) (slice_get locals t.local) false) are.0).0 (targets_past locals in_loop ts are.1)

  update_past : (locals : List Ty) (in_loop : Bool) (update : Option Update) → may_update (here m locals own in_loop) update ≡ true → update_within (from_on size) update ≡ true
  update_past locals in_loop None is = refl
  update_past locals in_loop (Some update) is =
      targets_past locals in_loop update.targets (three (list_all (is_target (here m locals own in_loop)) update.targets) (list_all (is_source (here m locals own in_loop)) update.sources)
      (are_same_types (flat_map source_types update.sources) (map (λ (t : Target). t.ty) update.targets)) is).0

  longer : (locals others all : List Ty) → all ≡ locals ++ others → size ≤ length locals → size ≤ length all
  longer locals others all e le = let long : length all ≡ length locals + length others = ap length e ∙ length-append locals others in omega arith

  mutual
    pub stmt_past : (stmt : Stmt) (locals : List Ty) (in_loop : Bool) → size ≤ length locals → is_stmt (here m locals own in_loop) stmt ≡ true → stmt_within (from_on size) (from_on size) stmt ≡ true
    stmt_past (Block at body) locals in_loop le is = all_past body locals in_loop le is
    stmt_past (Var at variables update) locals in_loop le is =
        let is = three (are_numbered (length locals) (variable_numbers variables)) (list_all (is_type m.program) (variable_types variables)) (may_update (here m (locals ++ variable_types variables) own in_loop) update) is in
        joined _ _ (variables_past size (length locals) variables le is.0) (update_past (locals ++ variable_types variables) in_loop update is.2)
    stmt_past (Assign at update) locals in_loop le is = update_past locals in_loop (Some update) is
    stmt_past (CallOf call) locals in_loop le is = refl
    stmt_past (If branches otherwise) locals in_loop le is =
        let is = both (are_branches (here m locals own in_loop) branches) (are_stmts (here m (locals_after_branches locals branches) own in_loop) otherwise) is in
        let g = branch_locals_grow locals branches in
        joined _ _ (branches_past branches locals in_loop le is.0) (all_past otherwise (locals_after_branches locals branches) in_loop (longer locals g.0 (locals_after_branches locals branches) g.1 le) is.1)
    stmt_past (While at guard invariants decreases body) locals in_loop le is =
        all_past body locals true le (four (is_expr m.program locals types.Bool guard) (are_clauses m.program locals invariants) (is_measured (here m locals own in_loop) guard decreases) (are_stmts (here m locals own true) body) is).3
    stmt_past (Break at) locals in_loop le is = refl
    stmt_past (Return at update) locals in_loop le is = update_past locals in_loop update (return_updates m locals own in_loop update is)
    stmt_past (Assert at condition) locals in_loop le is = refl
    stmt_past (Print at operands) locals in_loop le is = refl

    pub all_past : (stmts : Stmts) (locals : List Ty) (in_loop : Bool) → size ≤ length locals → are_stmts (here m locals own in_loop) stmts ≡ true → all_within (from_on size) (from_on size) stmts ≡ true
    all_past done locals in_loop le is = refl
    all_past (next stmt others) locals in_loop le is =
        let is = both (is_stmt (here m locals own in_loop) stmt) (are_stmts (here m (locals_after locals stmt) own in_loop) others) is in
        let g = locals_grow locals stmt in
        joined _ _ (stmt_past stmt locals in_loop le is.0) (all_past others (locals_after locals stmt) in_loop (longer locals g.0 (locals_after locals stmt) g.1 le) is.1)

    branches_past : (branches : Branches) (locals : List Ty) (in_loop : Bool) → size ≤ length locals → are_branches (here m locals own in_loop) branches ≡ true → branches_within (from_on size) (from_on size) branches ≡ true
    branches_past no_branch locals in_loop le is = refl
    branches_past (branch at guard body rest) locals in_loop le is =
        let is = three (is_expr m.program locals types.Bool guard) (are_stmts (here m locals own in_loop) body) (are_branches (here m (locals_after_all locals body) own in_loop) rest) is in
        let g = all_locals_grow locals body in
        joined _ _ (all_past body locals in_loop le is.1) (branches_past rest (locals_after_all locals body) in_loop (longer locals g.0 (locals_after_all locals body) g.1 le) is.2)

  targets_there : (locals all : List Ty) (in_loop : Bool) → Within locals all → (ts : List Target) → list_all (is_target (here m locals own in_loop)) ts ≡ true
      → are_there all (map (λ (t : Target). record { local = t.local; ty = t.ty }) ts) ≡ true
  targets_there locals all in_loop within [] are = refl
  targets_there locals all in_loop within (t ∷ ts) are =
      let are = both (is_target (here m locals own in_loop) t) (list_all (is_target (here m locals own in_loop)) ts) are in
      joined _ _ (there all t.local t.ty (target_there m locals all own in_loop within t are.0)) (targets_there locals all in_loop within ts are.1)

  update_there : (locals all : List Ty) (in_loop : Bool) → Within locals all → (update : Option Update) → may_update (here m locals own in_loop) update ≡ true → are_there all (changed_by_update update) ≡ true
  update_there locals all in_loop within None is = refl
  update_there locals all in_loop within (Some update) is =
      targets_there locals all in_loop within update.targets (three (list_all (is_target (here m locals own in_loop)) update.targets) (list_all (is_source (here m locals own in_loop)) update.sources)
      (are_same_types (flat_map source_types update.sources) (map (λ (t : Target). t.ty) update.targets)) is).0

  mutual
    pub stmt_there : (stmt : Stmt) (locals all : List Ty) (in_loop : Bool) → Within (locals_after locals stmt) all → is_stmt (here m locals own in_loop) stmt ≡ true → are_there all (changed_by stmt) ≡ true
    stmt_there (Block at body) locals all in_loop within is = all_there body locals all in_loop within is
    stmt_there (Var at variables update) locals all in_loop within is =
        let is = three (are_numbered (length locals) (variable_numbers variables)) (list_all (is_type m.program) (variable_types variables)) (may_update (here m (locals ++ variable_types variables) own in_loop) update) is in
        joined_there all (changed_by_variables variables) (changed_by_update update) (variables_there all locals variables is.0 within) (update_there (locals ++ variable_types variables) all in_loop within update is.2)
    stmt_there (Assign at update) locals all in_loop within is = update_there locals all in_loop within (Some update) is
    stmt_there (CallOf call) locals all in_loop within is = refl
    stmt_there (If branches otherwise) locals all in_loop within is =
        let is = both (are_branches (here m locals own in_loop) branches) (are_stmts (here m (locals_after_branches locals branches) own in_loop) otherwise) is in
        joined_there all (changed_by_branches branches) (changed_by_all otherwise)
        (branches_there branches locals all in_loop (before_all (locals_after_branches locals branches) all otherwise within) is.0) (all_there otherwise (locals_after_branches locals branches) all in_loop within is.1)
    stmt_there (While at guard invariants decreases body) locals all in_loop within is =
        all_there body locals all true within (four (is_expr m.program locals types.Bool guard) (are_clauses m.program locals invariants) (is_measured (here m locals own in_loop) guard decreases) (are_stmts (here m locals own true) body) is).3
    stmt_there (Break at) locals all in_loop within is = refl
    stmt_there (Return at update) locals all in_loop within is = refl
    stmt_there (Assert at condition) locals all in_loop within is = refl
    stmt_there (Print at operands) locals all in_loop within is = refl

    pub all_there : (stmts : Stmts) (locals all : List Ty) (in_loop : Bool) → Within (locals_after_all locals stmts) all → are_stmts (here m locals own in_loop) stmts ≡ true → are_there all (changed_by_all stmts) ≡ true
    all_there done locals all in_loop within is = refl
    all_there (next stmt others) locals all in_loop within is =
        let is = both (is_stmt (here m locals own in_loop) stmt) (are_stmts (here m (locals_after locals stmt) own in_loop) others) is in
        joined_there all (changed_by stmt) (changed_by_all others) (stmt_there stmt locals all in_loop (before_all (locals_after locals stmt) all others within) is.0)
        (all_there others (locals_after locals stmt) all in_loop within is.1)

    branches_there : (branches : Branches) (locals all : List Ty) (in_loop : Bool) → Within (locals_after_branches locals branches) all → are_branches (here m locals own in_loop) branches ≡ true → are_there all (changed_by_branches branches) ≡ true
    branches_there no_branch locals all in_loop within is = refl
    branches_there (branch at guard body rest) locals all in_loop within is =
        let is = three (is_expr m.program locals types.Bool guard) (are_stmts (here m locals own in_loop) body) (are_branches (here m (locals_after_all locals body) own in_loop) rest) is in
        joined_there all (changed_by_all body) (changed_by_branches rest) (all_there body locals all in_loop (before_branches (locals_after_all locals body) all rest within) is.1)
        (branches_there rest (locals_after_all locals body) all in_loop within is.2)
