-- What is told of parts of statements and declarations is told of the whole.
use Rattle.std.proofs.Common.{◌≡◌, ℕ, ◌+◌, ◌<◌, List, [], ◌∷◌, ◌++◌, map, length, get_or, drop, Result, refl, sym, ap, subst, ◌∙◌, append_assoc, Option, Some, Ok, Err, Bool, true}
use Rattle.std.specs.List.{flat_map}
use Rattle.std.proofs.lemmas.List.{drop_more, get_or_default, map_push}
use Rattle.df_base.specs.declared.refusal.Refusal.{Refusal}
use Rattle.df_base.specs.declared.refusal.Stop.{Stop}
use Rattle.df_lang.specs.declared.ty.Ty.{Ty}
use Rattle.df_ntree.specs.declared.file.Local.{Local}
use Rattle.df_ntree.specs.declared.file.Parameter.{Parameter}
use Rattle.df_ntree.specs.declared.file.Statement as declared_statement
use Rattle.df_ntree.specs.declared.file.Branch as declared_branch
use Rattle.df_ntree.specs.File.{Statement, Var, If, Branch, Branches, Otherwise, MethodDeclaration, statement_of, statements_of, branch_of, branches_of}
use Rattle.df_nnames.specs.Scope.{Scope, enter, declare, no_locals}
use Rattle.df_nnames.specs.Globals.{Globals}
use Rattle.df_nnames.specs.Faults.{expr_faults, new_faults, type_faults, written_faults, local_faults, with_locals, scope_after, statement_faults, statements_faults, branches_faults, otherwise_faults, with_parameters, parameter_faults, contract_faults, method_faults}
use Rattle.df_nnames.specs.Listing.{type_meant, types_meant}
use Rattle.df_ntyping.specs.Table.{results_of}
use Rattle.df_nnames.specs.Telling.{IsTold, Tells}
use Rattle.df_nnames.proofs.Telling.{told_both, told_third, tells_right, tells_last, goes_on, stops_at}

module _ (g : Globals) (scope : Scope) (first : Branch) (others : Branches) (last : Otherwise) where
  abbrev pub if_of : Statement
  if_of = If first.pos first.guard first.body.pos first.body.statements others last

  pub first_told : (stop : Stop) → IsTold stop (expr_faults g scope first.guard ++ statements_faults g (enter scope) first.body.statements) → IsTold stop (statement_faults g scope if_of)
  first_told stop h = told_both stop (expr_faults g scope first.guard) (statements_faults g (enter scope) first.body.statements) (branches_faults g scope others ++ otherwise_faults g scope last) h

  pub others_told : (stop : Stop) (after : Scope) → expr_faults g scope first.guard ++ statements_faults g (enter scope) first.body.statements ≡ [] → after ≡ scope
      → IsTold stop (branches_faults g after others) → IsTold stop (statement_faults g scope if_of)
  others_told stop after none same h =
      told_third stop (expr_faults g scope first.guard) (statements_faults g (enter scope) first.body.statements) (branches_faults g scope others) (otherwise_faults g scope last) none
      (subst (λ (s : Scope). IsTold stop (branches_faults g s others)) same h)

  pub last_tells : {A : Type 0} (r : Result A Stop) (after later : Scope) → expr_faults g scope first.guard ++ statements_faults g (enter scope) first.body.statements ≡ [] → after ≡ scope
      → branches_faults g after others ≡ [] → later ≡ after → Tells r (otherwise_faults g later last) → Tells r (statement_faults g scope if_of)
  last_tells r after later none same also again h =
      tells_last r (expr_faults g scope first.guard) (statements_faults g (enter scope) first.body.statements) (branches_faults g scope others) (otherwise_faults g scope last) none
      (subst (λ (s : Scope). branches_faults g s others ≡ []) same also) (subst (λ (s : Scope). Tells r (otherwise_faults g s last)) (again ∙ same) h)

pub parameter_told : (g : Globals) (stop : Stop) (all : List Parameter) (i : ℕ) (before scope : Scope) (d : Parameter) → i < length all
    → IsTold stop (new_faults scope (get_or all i d).name ++ type_faults g (get_or all i d).ty) → parameter_faults g scope (drop i all) ≡ parameter_faults g before all → IsTold stop (parameter_faults g before all)
parameter_told g stop all i before scope d lt h so_far =
    stops_at (parameter_faults g) (λ s p. new_faults s p.name ++ type_faults g p.ty) (λ s p. declare s p.name.name)
    (λ s p others. sym (append_assoc (new_faults s p.name) (type_faults g p.ty) (parameter_faults g (declare s p.name.name) others))) (λ s. refl) all (parameter_faults g before all) stop i scope (get_or all i d) lt
    (get_or_default all i d (get_or all i d) lt) h so_far

-- ---- rows of parameters

parameter_one : (g : Globals) (s : Scope) (p : Parameter) (others : List Parameter)
    → parameter_faults g s (p ∷ others) ≡ (new_faults s p.name ++ type_faults g p.ty) ++ parameter_faults g (declare s p.name.name) others
parameter_one g s p others = sym (append_assoc (new_faults s p.name) (type_faults g p.ty) (parameter_faults g (declare s p.name.name) others))

pub parameter_more : (g : Globals) (all : List Parameter) (i : ℕ) (scope next : Scope) (d : Parameter) (total : List Refusal) → i < length all
    → new_faults scope (get_or all i d).name ++ type_faults g (get_or all i d).ty ≡ [] → next ≡ declare scope (get_or all i d).name.name
    → parameter_faults g scope (drop i all) ≡ total → parameter_faults g next (drop (i + 1) all) ≡ total
parameter_more g all i scope next d total lt clear steps so_far =
    goes_on (parameter_faults g) (λ s p. new_faults s p.name ++ type_faults g p.ty) (λ s p. declare s p.name.name) (parameter_one g) (λ s. refl) all total i scope next (get_or all i d) lt
    (get_or_default all i d (get_or all i d) lt) clear steps so_far

pub scope_more : (all : List Parameter) (i : ℕ) (scope next total : Scope) (d : Parameter) → i < length all → next ≡ declare scope (get_or all i d).name.name
    → with_parameters scope (drop i all) ≡ total → with_parameters next (drop (i + 1) all) ≡ total
scope_more all i scope next total d lt steps so_far =
    ap (λ (s : Scope). with_parameters s (drop (i + 1) all)) steps ∙ sym (ap (with_parameters scope) (drop_more all i d lt)) ∙ so_far

pub types_more : (g : Globals) (all : List Parameter) (i : ℕ) (made new : List Ty) (ty : Ty) (d : Parameter) (total : List (Option Ty)) → i < length all → type_meant g (get_or all i d).ty ≡ Some ty → new ≡ made ++ ty ∷ []
    → map Some made ++ types_meant g (drop i all) ≡ total → map Some new ++ types_meant g (drop (i + 1) all) ≡ total
types_more g all i made new ty d total lt meant pushed so_far =
    ap (λ (l : List (Option Ty)). l ++ types_meant g (drop (i + 1) all)) (ap (map Some) pushed ∙ map_push Some made ty)
    ∙ append_assoc (map Some made) (Some ty ∷ []) (types_meant g (drop (i + 1) all))
    ∙ ap (λ (o : Option Ty). map Some made ++ (o ∷ types_meant g (drop (i + 1) all))) (sym meant)
    ∙ sym (ap (λ (ps : List Parameter). map Some made ++ types_meant g ps) (drop_more all i d lt))
    ∙ so_far

pub signature_told : (g : Globals) (m : MethodDeclaration) (stop : Stop) (before both : Scope) → before ≡ no_locals → both ≡ no_locals
    → IsTold stop (parameter_faults g before m.parameters ++ parameter_faults g (with_parameters both m.parameters) (results_of m)) → IsTold stop (method_faults g m)
signature_told g m stop before both new also h =
    let start = with_parameters no_locals m.parameters in
    told_both stop (parameter_faults g no_locals m.parameters) (parameter_faults g start (results_of m))
    (flat_map (contract_faults g start (with_parameters start (results_of m))) m.clauses ++ statements_faults g (enter (with_parameters start (results_of m))) m.body.statements)
    (subst (λ (s : Scope). IsTold stop (parameter_faults g s m.parameters ++ parameter_faults g start (results_of m))) new
    (subst (λ (s : Scope). IsTold stop (parameter_faults g before m.parameters ++ parameter_faults g (with_parameters s m.parameters) (results_of m))) also h))

behaviour_tells : {A : Type 0} (g : Globals) (m : MethodDeclaration) (r : Result A Stop) (before both parameters all : Scope) → before ≡ no_locals → both ≡ no_locals
    → parameter_faults g before m.parameters ++ parameter_faults g (with_parameters both m.parameters) (results_of m) ≡ []
    → parameters ≡ with_parameters before m.parameters → all ≡ with_parameters (with_parameters both m.parameters) (results_of m)
    → Tells r (flat_map (contract_faults g parameters all) m.clauses ++ statements_faults g (enter all) m.body.statements) → Tells r (method_faults g m)
behaviour_tells {A} g m r before both parameters all new also none is are h =
    let start = with_parameters no_locals m.parameters in
    let first : parameters ≡ start = is ∙ ap (λ (s : Scope). with_parameters s m.parameters) new in
    let second : all ≡ with_parameters start (results_of m) = are ∙ ap (λ (s : Scope). with_parameters (with_parameters s m.parameters) (results_of m)) also in
    let clear = subst (λ (s : Scope). parameter_faults g s m.parameters ++ parameter_faults g start (results_of m) ≡ []) new
    (subst (λ (s : Scope). parameter_faults g before m.parameters ++ parameter_faults g (with_parameters s m.parameters) (results_of m) ≡ []) also none) in
    let told = subst (λ (s : Scope). Tells r (flat_map (contract_faults g start s) m.clauses ++ statements_faults g (enter s) m.body.statements)) second
    (subst (λ (s : Scope). Tells r (flat_map (contract_faults g s all) m.clauses ++ statements_faults g (enter all) m.body.statements)) first h) in
    subst (Tells r) (append_assoc (parameter_faults g no_locals m.parameters) (parameter_faults g start (results_of m)) _)
    (tells_right r (parameter_faults g no_locals m.parameters ++ parameter_faults g start (results_of m)) _ clear told)

pub behaviour_told : (g : Globals) (m : MethodDeclaration) (stop : Stop) (before both parameters all : Scope) → before ≡ no_locals → both ≡ no_locals
    → parameter_faults g before m.parameters ++ parameter_faults g (with_parameters both m.parameters) (results_of m) ≡ []
    → parameters ≡ with_parameters before m.parameters → all ≡ with_parameters (with_parameters both m.parameters) (results_of m)
    → IsTold stop (flat_map (contract_faults g parameters all) m.clauses ++ statements_faults g (enter all) m.body.statements) → IsTold stop (method_faults g m)
behaviour_told g m stop before both parameters all new also none is are h = behaviour_tells {A = Bool} g m (Err stop) before both parameters all new also none is are h

pub behaviour_clear : (g : Globals) (m : MethodDeclaration) (before both parameters all : Scope) → before ≡ no_locals → both ≡ no_locals
    → parameter_faults g before m.parameters ++ parameter_faults g (with_parameters both m.parameters) (results_of m) ≡ []
    → parameters ≡ with_parameters before m.parameters → all ≡ with_parameters (with_parameters both m.parameters) (results_of m)
    → flat_map (contract_faults g parameters all) m.clauses ++ statements_faults g (enter all) m.body.statements ≡ [] → method_faults g m ≡ []
behaviour_clear g m before both parameters all new also none is are h = behaviour_tells {A = Bool} g m (Ok true) before both parameters all new also none is are h

pub local_told : (g : Globals) (stop : Stop) (all : List Local) (i : ℕ) (before scope : Scope) (d : Local) → i < length all
    → IsTold stop (new_faults scope (get_or all i d).name ++ written_faults g (get_or all i d).ty) → local_faults g scope (drop i all) ≡ local_faults g before all → IsTold stop (local_faults g before all)
local_told g stop all i before scope d lt h so_far =
    stops_at (local_faults g) (λ s x. new_faults s x.name ++ written_faults g x.ty) (λ s x. declare s x.name.name)
    (λ s x others. sym (append_assoc (new_faults s x.name) (written_faults g x.ty) (local_faults g (declare s x.name.name) others))) (λ s. refl) all (local_faults g before all) stop i scope (get_or all i d) lt
    (get_or_default all i d (get_or all i d) lt) h so_far

-- ---- rows of statements and of branches

with_locals_outer : (scope : Scope) (all : List Local) → (with_locals scope all).outer ≡ scope.outer
with_locals_outer scope [] = refl
with_locals_outer scope (x ∷ others) = with_locals_outer (declare scope x.name.name) others

pub after_outer : (scope : Scope) (s : Statement) → (scope_after scope s).outer ≡ scope.outer
after_outer scope (Var pos locals values) = with_locals_outer scope locals
after_outer scope s = refl

pub statements_more : (g : Globals) (all : List declared_statement.Statement) (i : ℕ) (scope next : Scope) (x : declared_statement.Statement) (total : List Refusal) → i < length all → x ≡ get_or all i x
    → statement_faults g scope (statement_of x) ≡ [] → next ≡ scope_after scope (statement_of x) → statements_faults g scope (statements_of (map statement_of (drop i all))) ≡ total
    → statements_faults g next (statements_of (map statement_of (drop (i + 1) all))) ≡ total
statements_more g all i scope next x total lt is clear steps so_far =
    goes_on (λ (s : Scope) (xs : List declared_statement.Statement). statements_faults g s (statements_of (map statement_of xs))) (λ (s : Scope) (y : declared_statement.Statement). statement_faults g s (statement_of y))
    (λ (s : Scope) (y : declared_statement.Statement). scope_after s (statement_of y)) (λ s y ys. refl) (λ s. refl) all total i scope next x lt is clear steps so_far

pub branches_told : (g : Globals) (stop : Stop) (all : List declared_branch.Branch) (i : ℕ) (scope before : Scope) (x : declared_branch.Branch) (total : List Refusal) → i < length all → x ≡ get_or all i x → scope ≡ before
    → IsTold stop (expr_faults g scope (branch_of x).guard ++ statements_faults g (enter scope) (branch_of x).body.statements) → branches_faults g before (branches_of (map branch_of (drop i all))) ≡ total → IsTold stop total
branches_told g stop all i scope before x total lt is same h so_far =
    stops_at (λ (s : Scope) (xs : List declared_branch.Branch). branches_faults g s (branches_of (map branch_of xs)))
    (λ (s : Scope) (y : declared_branch.Branch). expr_faults g s (branch_of y).guard ++ statements_faults g (enter s) (branch_of y).body.statements) (λ (s : Scope) (y : declared_branch.Branch). s)
    (λ s y ys. sym (append_assoc (expr_faults g s (branch_of y).guard) (statements_faults g (enter s) (branch_of y).body.statements) (branches_faults g s (branches_of (map branch_of ys))))) (λ s. refl) all total stop i before x lt is
    (subst (λ (s : Scope). IsTold stop (expr_faults g s (branch_of x).guard ++ statements_faults g (enter s) (branch_of x).body.statements)) same h) so_far
