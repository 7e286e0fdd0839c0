-- What the rules of names tell of the nodes of an expression, in the order of the text.
use Rattle.std.proofs.Common.{◌≡◌, ℕ, suc, ◌+◌, Bool, true, false, ◌||◌, nat_eq, List, [], ◌∷◌, ◌++◌, map, Option, Some, None, is_some, refl, sym, ap, ◌∙◌, append_assoc}
use Rattle.std.specs.Prelude.{◌==◌, if◌then◌else◌}
use Rattle.std.specs.List.{flat_map}
use Rattle.std.proofs.lemmas.List.{append-nil, map-append}
use Rattle.df_base.specs.declared.pos.Pos.{Pos}
use Rattle.df_base.specs.declared.refusal.Refusal.{Refusal}
use Rattle.df_lang.specs.declared.ty.Ty.{Ty}
use Rattle.df_lang.specs.declared.ty.Ty.TheVariants as types
use Rattle.df_ntree.specs.declared.tree.Ident.{Ident}
use Rattle.df_ntree.specs.declared.expr.UnaryOperator.TheVariants as unary
use Rattle.df_ntree.specs.declared.expr.Group.{Group}
use Rattle.df_ntree.specs.declared.expr.Group.TheVariants as groups
use Rattle.df_ntree.specs.declared.expr.TreeType.{TreeType}
use Rattle.df_ntree.specs.declared.expr.TreeType.TheVariants as trees
use Rattle.df_ntree.specs.Expr.{Expr, Number, Character, Truth, Name, Parentheses, Call, Unary, Cast, Operations, Leading, Members, end, more, Arguments, no_more, argument}
use Rattle.df_ntree.specs.ExprSpelling.{first_group}
use Rattle.df_ntyping.specs.Table.{NamedMethod, newtype_of, method_of, type_of}
use Rattle.df_ntyping.specs.Environment.{Local, Environment, locals_of, names_of}
use Rattle.df_ntyping.specs.Meaning.{TheLocal, last_local, method_meaning, meaning_of, called_signature}
use Rattle.df_ntyping.specs.Places.{beginning_of}
use Rattle.df_ntyping.specs.ExprTypes.{type_in, wanted_first, wanted_behind}
use Rattle.df_ntyping.specs.ExprNodes.{width, occurrence, type_nodes, cast_nodes, left_of_next, right_of_last, chain_nodes, places_of, first_place, other_places, count, callee_nodes, expr_nodes, run_nodes, argument_nodes, call_nodes}
use Rattle.df_ntyping.specs.Node as nodes
use Rattle.df_ntyping.specs.Node.{Node, Occurrence}
use Rattle.df_ntyping.specs.rules.Names.{is_among}
use Rattle.df_nnames.specs.Scope.{Scope, all_locals}
use Rattle.df_nnames.specs.Globals.{Globals, globals_of}
use Rattle.df_nnames.specs.Faults.{unknown, twice, else_told, told_if, name_faults, type_faults, expr_faults, member_faults, argument_faults}
use Rattle.df_nnames.proofs.Entries.{equal_either}

-- what is told of one node, with names that are declared or without
abbrev pub told_at : Bool → Environment → Node → List Refusal
told_at with_new env (nodes.NewName before ident) = if with_new then told_if (is_among before ident.name) (twice ident) else []
told_at with_new env (nodes.UsedName ident) = else_told (is_some (meaning_of env ident.name)) (unknown ident)
told_at with_new env (nodes.UsedType ident) = else_told (is_some (newtype_of env.table.newtypes ident.name)) (unknown ident)
told_at with_new env node = []

abbrev pub told : Bool → List Occurrence → List Refusal
told with_new all = flat_map (λ (one : Occurrence). told_at with_new one.env one.node) all

abbrev pub scope_of : Environment → Scope
scope_of env = record { outer = names_of env.outer; inner = names_of env.inner }

-- ---- lists

pub told_append : (b : Bool) (xs ys : List Occurrence) → told b (xs ++ ys) ≡ told b xs ++ told b ys
told_append b [] ys = refl
told_append b (x ∷ xs) ys = ap (λ (all : List Refusal). told_at b x.env x.node ++ all) (told_append b xs ys) ∙ sym (append_assoc (told_at b x.env x.node) (told b xs) (told b ys))

-- a node of which nothing is told
pub told_ended : (b : Bool) (xs : List Occurrence) (one : Occurrence) → told_at b one.env one.node ≡ [] → told b (xs ++ one ∷ []) ≡ told b xs
told_ended b xs one none = told_append b xs (one ∷ []) ∙ ap (λ (all : List Refusal). told b xs ++ (all ++ [])) none ∙ append-nil (told b xs)

pub told_middle : (b : Bool) (xs : List Occurrence) (one : Occurrence) (ys : List Occurrence) → told_at b one.env one.node ≡ [] → told b (xs ++ one ∷ ys) ≡ told b xs ++ told b ys
told_middle b xs one ys none = told_append b xs (one ∷ ys) ∙ ap (λ (all : List Refusal). told b xs ++ (all ++ told b ys)) none

pub both : (a b c d : List Refusal) → a ≡ c → b ≡ d → a ++ b ≡ c ++ d
both a b c d e f = λ i. e i ++ f i

-- three parts, and four
pub told_three : (b : Bool) (xs ys zs : List Occurrence) (first second third : List Refusal) → told b xs ≡ first → told b ys ≡ second → told b zs ≡ third → told b (xs ++ ys ++ zs) ≡ first ++ (second ++ third)
told_three b xs ys zs first second third p q r = told_append b (xs ++ ys) zs ∙ both _ _ _ _ (told_append b xs ys ∙ both _ _ _ _ p q) r ∙ append_assoc first second third

pub told_four : (b : Bool) (ws xs ys zs : List Occurrence) (first second third fourth : List Refusal) → told b ws ≡ first → told b xs ≡ second → told b ys ≡ third → told b zs ≡ fourth
    → told b (ws ++ xs ++ ys ++ zs) ≡ first ++ (second ++ (third ++ fourth))
told_four b ws xs ys zs first second third fourth p q r s =
    told_append b (ws ++ xs ++ ys) zs ∙ both _ _ _ _ (told_three b ws xs ys first second third p q r) s ∙ append_assoc first (second ++ third) fourth
    ∙ ap (λ (all : List Refusal). first ++ all) (append_assoc second third fourth)

-- ---- names

or_true : (b : Bool) → (b || true) ≡ true
or_true true = refl
or_true false = refl

last_is_some : (locals : List Local) (name : ℕ) → is_some (last_local locals name) ≡ is_among (names_of locals) name
last_is_some [] name = refl
last_is_some (local ∷ others) name = by (last_local others name) refl (last_is_some others name) where
  one : (b : Bool) → is_some (if b then Some local else None) ≡ (b || false)
  one true = refl
  one false = refl

  by : (o : Option Local) → last_local others name ≡ o → is_some (last_local others name) ≡ is_among (names_of others) name → is_some (last_local (local ∷ others) name) ≡ (nat_eq name local.name || is_among (names_of others) name)
  by (Some later) p ih =
      let there : is_among (names_of others) name ≡ true = sym ih ∙ ap (λ (o : Option Local). is_some o) p in
      rw p (rw there (sym (or_true (nat_eq name local.name))))
  by None p ih =
      let there : is_among (names_of others) name ≡ false = sym ih ∙ ap (λ (o : Option Local). is_some o) p in
      rw p (rw (there, equal_either local.name name) (one (nat_eq name local.name)))

method_is_some : (m : Option NamedMethod) → is_some (method_meaning m) ≡ is_some m
method_is_some None = refl
method_is_some (Some method) = refl

meaning_is_some : (env : Environment) (name : ℕ) → is_some (meaning_of env name) ≡ (is_among (all_locals (scope_of env)) name || is_some (method_of env.table.methods name))
meaning_is_some env name =
    by (last_local (locals_of env) name) ∙ ap (λ (b : Bool). b || is_some (method_of env.table.methods name)) (last_is_some (locals_of env) name ∙ ap (λ (names : List ℕ). is_among names name) (map-append (λ (local : Local). local.name) env.outer env.inner))
  where
    by : (o : Option Local)
        → is_some (elim o [
          | Some local ↦ Some (TheLocal local)
          | None ↦ method_meaning (method_of env.table.methods name)
        ])
        ≡ (is_some o || is_some (method_of env.table.methods name))
    by (Some local) = refl
    by None = method_is_some (method_of env.table.methods name)

name_same : (env : Environment) (ident : Ident) → else_told (is_some (meaning_of env ident.name)) (unknown ident) ++ [] ≡ name_faults (globals_of env.table) (scope_of env) ident
name_same env ident = append-nil _ ∙ ap (λ (b : Bool). else_told b (unknown ident)) (meaning_is_some env ident.name)

-- ---- types

pub type_same : (b : Bool) (env : Environment) (start : ℕ) (ty : TreeType) → told b (type_nodes env start ty) ≡ type_faults (globals_of env.table) ty
type_same b env start (trees.Basic basic pos) = refl
type_same b env start (trees.Named ident) = append-nil _

cast_same : (b : Bool) (env : Environment) (start : ℕ) (pos : Option Pos) (word : ℕ) (source : Option Ty) (all : List TreeType) → told b (cast_nodes env start pos word source all) ≡ flat_map (type_faults (globals_of env.table)) all
cast_same b env start pos word source [] = refl
cast_same b env start pos word source (ty ∷ others) =
    let target = type_of env.table.newtypes ty in
    told_middle b (type_nodes env (suc word) ty) (occurrence env (nodes.Conversion source target pos) start (word + 2)) (cast_nodes env start pos (word + 2) target others) refl
    ∙ both _ _ _ _ (type_same b env (suc word) ty) (cast_same b env start pos (word + 2) target others)

-- ---- expressions

chain_none : (b : Bool) (env : Environment) (group : Option Group) (start after : ℕ) (members : Members) → told b (chain_nodes env group start after members) ≡ []
chain_none b env (Some groups.Comparison) start after members = refl
chain_none b env group start after members = refl

callee_same : (b : Bool) (env : Environment) (start : ℕ) (callee : Expr) → told b (expr_nodes env start callee) ≡ expr_faults (globals_of env.table) (scope_of env) callee
    → told b (callee_nodes env start callee (expr_nodes env start callee)) ≡ expr_faults (globals_of env.table) (scope_of env) callee
callee_same b env start (Name ident) h = name_same env ident
callee_same b env start callee h = h

-- two parts, and a whole of which nothing is told
pub told_whole : (b : Bool) (xs ys : List Occurrence) (one : Occurrence) (first second : List Refusal) → told_at b one.env one.node ≡ [] → told b xs ≡ first → told b ys ≡ second → told b (xs ++ ys ++ one ∷ []) ≡ first ++ second
told_whole b xs ys one first second none h k = told_ended b (xs ++ ys) one none ∙ told_append b xs ys ∙ both _ _ _ _ h k

mutual
  pub expr_same : (b : Bool) (env : Environment) (start : ℕ) (e : Expr) → told b (expr_nodes env start e) ≡ expr_faults (globals_of env.table) (scope_of env) e
  expr_same b env start (Number literal) = refl
  expr_same b env start (Character code pos) = refl
  expr_same b env start (Truth value pos) = refl
  expr_same b env start (Name ident) = name_same env ident
  expr_same b env start (Parentheses pos inner) = expr_same b env (suc start) inner
  expr_same b env start (Call callee arguments) =
      let at = start + width callee + 1 in
      let places = places_of (called_signature env callee) in
      told_whole b (callee_nodes env start callee (expr_nodes env start callee)) (argument_nodes env at places arguments)
      (occurrence env (nodes.Call false callee (count arguments)) start (start + width (Call callee arguments))) _ _ refl (callee_same b env start callee (expr_same b env start callee)) (arguments_same b env at places arguments)
  expr_same b env start (Unary unary.Negate pos operand) =
      told_ended b (expr_nodes env (suc start) operand) (occurrence env (nodes.Minus (type_in env None operand) pos) start (start + 1 + width operand)) refl ∙ expr_same b env (suc start) operand
  expr_same b env start (Unary unary.Not pos operand) =
      told_ended b (expr_nodes env (suc start) operand) (occurrence env (nodes.Negation (type_in env None operand) pos) start (start + 1 + width operand)) refl ∙ expr_same b env (suc start) operand
  expr_same b env start (Cast operand all) =
      told_append b (expr_nodes env start operand) (cast_nodes env start (beginning_of operand) (start + width operand) (type_in env None operand) all)
      ∙ both _ _ _ _ (expr_same b env start operand) (cast_same b env start (beginning_of operand) (start + width operand) (type_in env None operand) all)
  expr_same b env start (Operations first rest) =
      let group = first_group rest in
      let wanted = wanted_first env None first rest in
      let after = start + width (Operations first rest) in
      let runs = run_nodes env group start (start + width first) (wanted_behind env wanted first) (type_in env wanted first) after rest in
      told_append b (expr_nodes env start first ++ runs) (chain_nodes env group start after rest)
      ∙ both _ _ _ [] (told_append b (expr_nodes env start first) runs ∙ both _ _ _ _ (expr_same b env start first) (run_same b env group start (start + width first) (wanted_behind env wanted first) (type_in env wanted first) after rest))
      (chain_none b env group start after rest)
      ∙ append-nil _
  expr_same b env start (Leading operations) = run_same b env (first_group operations) start start None (Some types.Bool) (start + width (Leading operations)) operations

  run_same : (b : Bool) (env : Environment) (group : Option Group) (start sign : ℕ) (wanted left : Option Ty) (after : ℕ) (rest : Members) → told b (run_nodes env group start sign wanted left after rest) ≡ member_faults (globals_of env.table) (scope_of env) rest
  run_same b env group start sign wanted left after end = refl
  run_same b env (Some groups.Implication) start sign wanted left after (more operator pos operand rest) =
      let right = type_in env None operand in
      told_whole b (expr_nodes env (suc sign) operand) (run_nodes env (Some groups.Implication) (suc sign) (sign + 1 + width operand) None right after rest)
      (occurrence env (nodes.Sign left operator pos (right_of_last rest right)) start after) _ _ refl (expr_same b env (suc sign) operand)
      (run_same b env (Some groups.Implication) (suc sign) (sign + 1 + width operand) None right after rest)
  run_same b env group start sign wanted left after (more operator pos operand rest) =
      let right = type_in env wanted operand in
      let at = sign + 1 + width operand in
      told_middle b (expr_nodes env (suc sign) operand) (occurrence env (nodes.Sign left operator pos right) start at) (run_nodes env group start at (wanted_behind env wanted operand) (left_of_next group left right) after rest) refl
      ∙ both _ _ _ _ (expr_same b env (suc sign) operand) (run_same b env group start at (wanted_behind env wanted operand) (left_of_next group left right) after rest)

  arguments_same : (b : Bool) (env : Environment) (start : ℕ) (places : List (Option Ty)) (all : Arguments) → told b (argument_nodes env start places all) ≡ argument_faults (globals_of env.table) (scope_of env) all
  arguments_same b env start places no_more = refl
  arguments_same b env start places (argument e rest) =
      let at = start + width e + 1 in
      told_middle b (expr_nodes env start e) (occurrence env (nodes.Value (first_place places) e) start (start + width e)) (argument_nodes env at (other_places places) rest) refl
      ∙ both _ _ _ _ (expr_same b env start e) (arguments_same b env at (other_places places) rest)

pub whole_call_same : (b : Bool) (env : Environment) (start : ℕ) (callee : Expr) (arguments : Arguments) → told b (call_nodes env start callee arguments) ≡ expr_faults (globals_of env.table) (scope_of env) (Call callee arguments)
whole_call_same b env start callee arguments =
    let at = start + width callee + 1 in
    let places = places_of (called_signature env callee) in
    told_whole b (callee_nodes env start callee (expr_nodes env start callee)) (argument_nodes env at places arguments) (occurrence env (nodes.Call true callee (count arguments)) start (start + width (Call callee arguments))) _ _ refl
    (callee_same b env start callee (expr_same b env start callee)) (arguments_same b env at places arguments)
