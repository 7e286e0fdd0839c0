-- What is found is the first broken rule.
use Rattle.std.proofs.Common.{◌≡◌, ◌⊎◌, inl, inr, ℕ, Bool, true, false, not, ◌&&◌, if◌then◌else◌, List, [], ◌∷◌, ◌++◌, Option, None, Some, refl, sym, ap, ◌∙◌, fold, slice_get, zero, suc, subst}
use Rattle.std.specs.Option.{option_and_then}
use Rattle.std.specs.List.{flat_map}
use Rattle.df_base.specs.declared.pos.Pos.{Pos}
use Rattle.df_lang.specs.declared.ty.Ty.{Ty}
use Rattle.df_lang.specs.declared.ty.Ty.TheVariants as types
use Rattle.df_lang.specs.declared.expr.Arrow.TheVariants as arrows
use Rattle.df_lang.specs.Expr.{Expr, Number, Truth, Character, Local, Negate, Not, Sum, Product, Junction, Implies, Iff, Chain, As, Convert, Addends, no_addend, addend, Factors, no_factor, factor, Members, no_member, member, Links, no_link, link}
use Rattle.df_lang.specs.Stmt.{Operand, Text, Value, Call, Source, Single, Results, Update, Variable, Stmt, Block, Var, Assign, CallOf, If, While, Break, Return, Assert, Print, Stmts, done, next, Branches, no_branch, branch}
use Rattle.df_lang.specs.Program.{Param, Method, Decl, NewtypeDecl, MethodDecl, Program, as_method}
use Rattle.df_lang.specs.Newtype.{is_unbounded}
use Rattle.df_lang.specs.Native.{NativeRule, Places, Integers, Forms, Breach, if_int, if_int_elsewhere, if_nat, breaches, breaches_of_addends, breaches_of_factors, breaches_of_members, breaches_of_turned, breaches_of_links, breaches_of_printed, breaches_of_call, breaches_of_source, breaches_of_update, breaches_of_place, breaches_of_variables, breaches_of_params, breaches_in, breaches_in_all, breaches_in_branches, breaches_in_method, IsNative}
use Rattle.df_nerase.specs.First.{number_of, breaches_of_decl, breaches_in_program, IsFirst, BrokenIsNotNative, NativeOrBroken}
use Rattle.df_nerase.specs.mirror.Finding.{or_broken, find_int, find_int_elsewhere, find_nat, find, find_in_addends, find_in_factors, find_in_members, find_in_turned, find_in_links, find_in_operand, find_in_argument, find_in_call, find_in_source, find_in_update, find_at_place, find_in_variable, find_in_param, find_in, find_in_all, find_in_branches, find_in_method, find_in_decl}

-- what was found before, or else the first of a list
abbrev pub first_of : Option Breach → List Breach → Option Breach
first_of found [] = found
first_of None (breach ∷ others) = Some breach
first_of (Some found) (breach ∷ others) = Some found

some_stays : (found : Breach) (bs : List Breach) → Some found ≡ first_of (Some found) bs
some_stays found [] = refl
some_stays found (b ∷ bs) = refl

pub first_append : (found : Option Breach) (front others : List Breach) → first_of (first_of found front) others ≡ first_of found (front ++ others)
first_append found [] others = refl
first_append None (b ∷ bs) others = sym (some_stays b others)
first_append (Some a) (b ∷ bs) others = sym (some_stays a others)

-- one found behind another
behind : (found mid last : Option Breach) (front others : List Breach) → mid ≡ first_of found front → last ≡ first_of mid others → last ≡ first_of found (front ++ others)
behind found mid last front others h k = k ∙ ap (λ (o : Option Breach). first_of o others) h ∙ first_append found front others

-- and one more
behind_both : (found mid late last : Option Breach) (front others rest : List Breach) → mid ≡ first_of found front → late ≡ first_of mid others → last ≡ first_of late rest → last ≡ first_of found (front ++ others ++ rest)
behind_both found mid late last front others rest h k l = behind found late last (front ++ others) rest (behind found mid late front others h k) l

broken_first : (found : Option Breach) (rule : NativeRule) (pos : Pos) → or_broken found rule pos ≡ first_of found (record { rule = rule; pos = pos } ∷ [])
broken_first None rule pos = refl
broken_first (Some b) rule pos = refl

int_first : (found : Option Breach) (ty : Ty) (pos : Pos) → find_int found ty pos ≡ first_of found (if_int ty pos)
int_first found types.Int pos = broken_first found Integers pos
int_first found (types.Newtype id) pos = refl
int_first found types.Nat pos = refl
int_first found types.Bool pos = refl
int_first found types.Char pos = refl

elsewhere_first : (found : Option Breach) (is_operand : Bool) (ty : Ty) (pos : Pos) → find_int_elsewhere found is_operand ty pos ≡ first_of found (if_int_elsewhere is_operand ty pos)
elsewhere_first found true ty pos = refl
elsewhere_first found false ty pos = int_first found ty pos

nat_first : (found : Option Breach) (ty : Ty) (pos : Pos) → find_nat found ty pos ≡ first_of found (if_nat ty pos)
nat_first found types.Nat pos = broken_first found Forms pos
nat_first found (types.Newtype id) pos = refl
nat_first found types.Int pos = refl
nat_first found types.Bool pos = refl
nat_first found types.Char pos = refl

mutual
  find_first : (e : Expr) (found : Option Breach) (is_operand : Bool) → find found is_operand e ≡ first_of found (breaches is_operand e)
  find_first (Number ty value pos) found is_operand = elsewhere_first found is_operand ty pos
  find_first (Truth value pos) found is_operand = refl
  find_first (Character code pos) found is_operand = refl
  find_first (Local local name pos) found is_operand = refl
  find_first (Negate ty pos operand) found is_operand = behind found _ _ (breaches false operand) _ (find_first operand found false) (int_first _ ty pos)
  find_first (Not pos operand) found is_operand = find_first operand found false
  find_first (Sum ty first rest) found is_operand = behind found _ _ (breaches false first) _ (find_first first found false) (addends_first rest _ ty)
  find_first (Product ty first rest) found is_operand = behind found _ _ (breaches false first) _ (find_first first found false) (factors_first rest _ ty)
  find_first (Junction junction first rest) found is_operand = behind found _ _ (breaches false first) _ (find_first first found false) (members_first rest _)
  find_first (Implies arrows.Implies first rest) found is_operand = behind found _ _ (breaches false first) _ (find_first first found false) (members_first rest _)
  find_first (Implies arrows.Explies first rest) found is_operand = behind found _ _ (breaches_of_turned rest) _ (turned_first rest found) (find_first first _ false)
  find_first (Iff first rest) found is_operand = behind found _ _ (breaches false first) _ (find_first first found false) (members_first rest _)
  find_first (Chain ty first rest) found is_operand = behind found _ _ (breaches true first) _ (find_first first found true) (links_first rest _)
  find_first (As source target pos operand) found is_operand =
      behind_both found _ _ _ (breaches true operand) (if_int_elsewhere is_operand target pos) (if_nat target pos) (find_first operand found true) (elsewhere_first _ is_operand target pos) (nat_first _ target pos)
  find_first (Convert source target pos operand) found is_operand = find_first operand found is_operand

  addends_first : (rest : Addends) (found : Option Breach) (ty : Ty) → find_in_addends found ty rest ≡ first_of found (breaches_of_addends ty rest)
  addends_first no_addend found ty = refl
  addends_first (addend operator pos operand rest) found ty =
      behind_both found _ _ _ (breaches false operand) (if_int ty pos) (breaches_of_addends ty rest) (find_first operand found false) (int_first _ ty pos) (addends_first rest _ ty)

  factors_first : (rest : Factors) (found : Option Breach) (ty : Ty) → find_in_factors found ty rest ≡ first_of found (breaches_of_factors ty rest)
  factors_first no_factor found ty = refl
  factors_first (factor operator pos operand rest) found ty =
      behind_both found _ _ _ (breaches false operand) (if_int ty pos) (breaches_of_factors ty rest) (find_first operand found false) (int_first _ ty pos) (factors_first rest _ ty)

  members_first : (rest : Members) (found : Option Breach) → find_in_members found rest ≡ first_of found (breaches_of_members rest)
  members_first no_member found = refl
  members_first (member pos operand rest) found = behind found _ _ (breaches false operand) _ (find_first operand found false) (members_first rest _)

  turned_first : (rest : Members) (found : Option Breach) → find_in_turned found rest ≡ first_of found (breaches_of_turned rest)
  turned_first no_member found = refl
  turned_first (member pos operand rest) found = behind found _ _ (breaches_of_turned rest) _ (turned_first rest found) (find_first operand _ false)

  links_first : (rest : Links) (found : Option Breach) → find_in_links found rest ≡ first_of found (breaches_of_links rest)
  links_first no_link found = refl
  links_first (link comparison pos operand rest) found = behind found _ _ (breaches true operand) _ (find_first operand found true) (links_first rest _)

-- and so through a list
fold_first : {A : Type 0} (find_one : Option Breach → A → Option Breach) (broken : A → List Breach) → ((found : Option Breach) (a : A) → find_one found a ≡ first_of found (broken a))
    → (as_list : List A) (found : Option Breach) → fold find_one found as_list ≡ first_of found (flat_map broken as_list)
fold_first find_one broken h [] found = refl
fold_first find_one broken h (a ∷ others) found = behind found _ _ (broken a) _ (h found a) (fold_first find_one broken h others _)

operand_first : (found : Option Breach) (operand : Operand) → find_in_operand found operand ≡ first_of found (breaches_of_printed operand)
operand_first found (Text characters) = refl
operand_first found (Value ty value) = find_first value found false

call_first : (found : Option Breach) (call : Call) → find_in_call found call ≡ first_of found (breaches_of_call call)
call_first found call = fold_first find_in_argument (breaches false) (λ o e. find_first e o false) call.arguments found

source_first : (found : Option Breach) (source : Source) → find_in_source found source ≡ first_of found (breaches_of_source source)
source_first found (Single ty value) = find_first value found false
source_first found (Results call results) = call_first found call

update_first : (found : Option Breach) (update : Option Update) → find_in_update found update ≡ first_of found (breaches_of_update update)
update_first found None = refl
update_first found (Some update) = fold_first find_in_source breaches_of_source source_first update.sources found

place_first : (found : Option Breach) (is_ghost : Bool) (ty : Ty) (pos : Pos) → find_at_place found is_ghost ty pos ≡ first_of found (breaches_of_place is_ghost ty pos)
place_first found is_ghost ty pos = by_test (not is_ghost && is_unbounded ty)
  where
    by_test : (b : Bool) → (if b then or_broken found Places pos else found) ≡ first_of found (if b then record { rule = Places; pos = pos } ∷ [] else [])
    by_test true = broken_first found Places pos
    by_test false = refl

variable_first : (found : Option Breach) (variable : Variable) → find_in_variable found variable ≡ first_of found (breaches_of_place variable.is_ghost variable.ty variable.pos)
variable_first found variable = place_first found variable.is_ghost variable.ty variable.pos

param_first : (found : Option Breach) (param : Param) → find_in_param found param ≡ first_of found (breaches_of_place param.is_ghost param.ty param.declared.pos)
param_first found param = place_first found param.is_ghost param.ty param.declared.pos

mutual
  stmt_first : (stmt : Stmt) (found : Option Breach) → find_in found stmt ≡ first_of found (breaches_in stmt)
  stmt_first (Block pos body) found = stmts_first body found
  stmt_first (Var pos variables update) found =
      behind found _ _ (breaches_of_variables variables) _ (fold_first find_in_variable (λ (variable : Variable). breaches_of_place variable.is_ghost variable.ty variable.pos) variable_first variables found) (update_first _ update)
  stmt_first (Assign pos update) found = update_first found (Some update)
  stmt_first (CallOf call) found = call_first found call
  stmt_first (If branches otherwise) found = behind found _ _ (breaches_in_branches branches) _ (branches_first branches found) (stmts_first otherwise _)
  stmt_first (While pos guard invariants decreases body) found = behind found _ _ (breaches false guard) _ (find_first guard found false) (stmts_first body _)
  stmt_first (Break pos) found = refl
  stmt_first (Return pos update) found = update_first found update
  stmt_first (Assert pos condition) found = refl
  stmt_first (Print pos operands) found = fold_first find_in_operand breaches_of_printed operand_first operands found

  stmts_first : (stmts : Stmts) (found : Option Breach) → find_in_all found stmts ≡ first_of found (breaches_in_all stmts)
  stmts_first done found = refl
  stmts_first (next stmt others) found = behind found _ _ (breaches_in stmt) _ (stmt_first stmt found) (stmts_first others _)

  branches_first : (branches : Branches) (found : Option Breach) → find_in_branches found branches ≡ first_of found (breaches_in_branches branches)
  branches_first no_branch found = refl
  branches_first (branch pos guard body rest) found =
      behind_both found _ _ _ (breaches false guard) (breaches_in_all body) (breaches_in_branches rest) (find_first guard found false) (stmts_first body _) (branches_first rest _)

params_first : (params : List Param) (found : Option Breach) → fold find_in_param found params ≡ first_of found (breaches_of_params params)
params_first params found = fold_first find_in_param (λ (param : Param). breaches_of_place param.is_ghost param.ty param.declared.pos) param_first params found

method_first : (found : Option Breach) (m : Method) → find_in_method found m ≡ first_of found (breaches_in_method m)
method_first found m =
    behind_both found _ _ _ (breaches_of_params m.parameters) (breaches_of_params m.results) (breaches_in_all m.body) (params_first m.parameters found) (params_first m.results _) (stmts_first m.body _)

decl_first : (found : Option Breach) (decl : Decl) → find_in_decl found decl ≡ first_of found (breaches_of_decl decl)
decl_first found (NewtypeDecl newtype) = refl
decl_first found (MethodDecl method) = method_first found method

-- what is found in a program
pub program_first : (program : Program) → fold find_in_decl None program.decls ≡ first_of None (breaches_in_program program)
program_first program = fold_first find_in_decl breaches_of_decl decl_first program.decls None

-- ---- Where none is found, and where one is.

empty_of_none : (bs : List Breach) → None ≡ first_of None bs → bs ≡ []
empty_of_none [] e = refl
empty_of_none (b ∷ bs) e = cc

append_empty : (front others : List Breach) → front ++ others ≡ [] → (front ≡ []) × (others ≡ [])
append_empty [] others e = (refl, e)
append_empty (b ∷ bs) others e = cc

native_among : (decls : List Decl) (number : ℕ) (method : Method) → flat_map breaches_of_decl decls ≡ [] → option_and_then as_method (slice_get decls number) ≡ Some method → breaches_in_method method ≡ []
native_among [] number method e there = cc
native_among (NewtypeDecl newtype ∷ others) zero method e there = cc
native_among (MethodDecl m ∷ others) zero method e there =
    let same : m ≡ method = cc in subst (λ (x : Method). breaches_in_method x ≡ []) same (append_empty (breaches_in_method m) (flat_map breaches_of_decl others) e).0
native_among (decl ∷ others) (suc number) method e there = native_among others number method (append_empty (breaches_of_decl decl) (flat_map breaches_of_decl others) e).1 there

pub none_is_native : (program : Program) → fold find_in_decl None program.decls ≡ None → IsNative program
none_is_native program e number method there = native_among program.decls number method (empty_of_none (breaches_in_program program) (sym e ∙ program_first program)) there

rest_of : (bs : List Breach) (b : Breach) → Some b ≡ first_of None bs → (others : List Breach) × (bs ≡ b ∷ others)
rest_of [] b e = cc
rest_of (x ∷ xs) b e = let same : b ≡ x = cc in (xs, ap (λ (y : Breach). y ∷ xs) (sym same))

pub first_is_told : (program : Program) (broken : NativeRule) (pos : Pos) → fold find_in_decl None program.decls ≡ Some (record { rule = broken; pos = pos }) → IsFirst program pos (number_of broken)
first_is_told program broken pos e =
    let rest = rest_of (breaches_in_program program) (record { rule = broken; pos = pos }) (sym e ∙ program_first program) in
    record { broken = broken; number = refl; others = rest.0; first = rest.1 }

-- ---- A program keeps the rules, or one is told, and not both.

none_more : (front others : List Breach) → front ≡ [] → others ≡ [] → front ++ others ≡ []
none_more [] others e h = h
none_more (b ∷ bs) others e h = cc

none_among : (decls : List Decl) → ((number : ℕ) (method : Method) → option_and_then as_method (slice_get decls number) ≡ Some method → breaches_in_method method ≡ []) → flat_map breaches_of_decl decls ≡ []
none_among [] native = refl
none_among (NewtypeDecl newtype ∷ others) native = none_among others (λ number method there. native (suc number) method there)
none_among (MethodDecl m ∷ others) native =
    none_more (breaches_in_method m) (flat_map breaches_of_decl others) (native zero m refl) (none_among others (λ number method there. native (suc number) method there))

pub broken_is_not_native : BrokenIsNotNative
broken_is_not_native program pos rule first native =
    let none : breaches_in_program program ≡ [] = none_among program.decls native in
    let some : (record { rule = first.broken; pos = pos } ∷ first.others) ≡ [] = sym first.first ∙ none in absurd cc

pub native_or_broken : NativeOrBroken
native_or_broken program = by_found (fold find_in_decl None program.decls) refl
  where
    by_found : (o : Option Breach) → fold find_in_decl None program.decls ≡ o → IsNative program ⊎ ((pos : Pos) × (rule : ℕ) × IsFirst program pos rule)
    by_found None e = inl (none_is_native program e)
    by_found (Some breach) e = inr (breach.pos, number_of breach.rule, first_is_told program breach.rule breach.pos e)

-- what is first is found
pub first_is_found : (program : Program) (pos : Pos) (rule : ℕ) (first : IsFirst program pos rule) → fold find_in_decl None program.decls ≡ Some (record { rule = first.broken; pos = pos })
first_is_found program pos rule first = program_first program ∙ ap (first_of None) first.first

none_is_some : (b : Breach) → None ≡ Some b → ⊥
none_is_some b e = cc

pub nothing_told : (program : Program) (pos : Pos) (rule : ℕ) → fold find_in_decl None program.decls ≡ None → IsFirst program pos rule → ⊥
nothing_told program pos rule e first = none_is_some (record { rule = first.broken; pos = pos }) (sym e ∙ first_is_found program pos rule first)

-- what is found is what is first
pub told_is : (program : Program) (b : Breach) (pos : Pos) (rule : ℕ) → IsFirst program pos rule → Some b ≡ fold find_in_decl None program.decls → (b.pos ≡ pos) × (number_of b.rule ≡ rule)
told_is program b pos rule first e =
    let found : Some b ≡ Some (record { rule = first.broken; pos = pos }) = e ∙ first_is_found program pos rule first in
    let same : b ≡ record { rule = first.broken; pos = pos } = cc in
    (ap (λ (x : Breach). x.pos) same, ap (λ (x : Breach). number_of x.rule) same ∙ sym first.number)
