-- The walk over calls, left and right sides: their typed forms, or how the first rule is told that they break. What private
-- contracts cite.
use Rattle.std.specs.Prelude.{ℕ, suc, Bool, true, false, ◌==◌, List, [], ◌∷◌, map, length, slice_get, Option, Some, None, Ok, Err, if◌then◌else◌}
use Rattle.df_base.specs.declared.pos.Pos.{Pos}
use Rattle.df_lang.specs.declared.ty.Ty.{Ty}
use Rattle.df_lang.specs.Expr as typed_expr
use Rattle.df_lang.specs.Stmt as typed
use Rattle.df_ntree.specs.declared.tree.Ident.{Ident}
use Rattle.df_ntree.specs.declared.expr.TreeType.{TreeType}
use Rattle.df_ntree.specs.declared.file.Local as declared_local
use Rattle.df_ntree.specs.Expr.{Expr, Name, Call, Arguments, no_more, argument}
use Rattle.df_ntyping.specs.Types.{fits_or_narrows, if_known}
use Rattle.df_ntyping.specs.Table.{Signature}
use Rattle.df_ntyping.specs.Environment.{Local, Environment, local_type}
use Rattle.df_ntyping.specs.Meaning.{Meaning, TheLocal, meaning_of, as_method, called_signature}
use Rattle.df_ntyping.specs.Places.{beginning_of}
use Rattle.df_ntyping.specs.LocalTypes.{are_enough, results_of_call}
use Rattle.df_ntyping.specs.ExprNodes.{places_of, first_place, other_places, count}
use Rattle.df_ntyping.specs.rules.Values.{are_given}
use Rattle.df_ntyping.specs.rules.Names.{is_unfixed}
use Rattle.df_ntyping.specs.SideElaboration.{keeps_its_value}
use Rattle.df_ntyping.specs.Rule.{TypingRule}
use Rattle.df_ntyping.specs.Rule as rules
use Rattle.df_ntyping.specs.Wanted as wanteds
use Rattle.df_ntyping.specs.mirror.Parts.{Typed, or_start}
use Rattle.df_ntexpr.specs.Replies.{Reply}
use Rattle.df_ntstmt.specs.declared.places.Place.{Place}
use Rattle.df_ntstmt.specs.mirror.Steps.{and_then, broken, unless, or_int, typed_in, wanted_at}
use Rattle.df_ntstmt.specs.mirror.Steps as steps

-- ---- calls

-- each argument at its place
abbrev pub arguments_in : Environment → List (Option Ty) → Arguments → Reply (List typed_expr.Expr)
arguments_in env places no_more = Ok []
arguments_in env places (argument e rest) =
    and_then (typed_in env (wanted_at (first_place places)) e) (λ (one : Typed).
    and_then (arguments_in env (other_places places) rest) (λ (others : List typed_expr.Expr). Ok (one.expr ∷ others)))

-- What the call breaks as a whole, with so many arguments: its results go to their places, then it has an argument for each
-- parameter, then it is one of a method.
abbrev pub called_with : Bool → Option (ℕ × Signature) → Pos → ℕ → Reply ℕ
called_with false callee pos arguments = Err (broken rules.Given pos)
called_with true None pos arguments = Err (broken rules.Calls pos)
called_with true (Some (id, signature)) pos arguments = if length signature.parameters == arguments then Ok id else Err (broken rules.ArgumentCount pos)

abbrev pub call_from : Ident → List typed_expr.Expr → ℕ → typed.Call
call_from ident all id = record { callee = id; name = ident.name; pos = ident.pos; arguments = all }

-- what is no name is that of no method
abbrev pub unnamed_call_in : Environment → Expr → Arguments → Reply typed.Call
unnamed_call_in env callee arguments =
    and_then (typed_in env wanteds.Nothing callee) (λ (t : Typed).
    and_then (arguments_in env [] arguments) (λ (all : List typed_expr.Expr). Err (broken rules.Calls (or_start (beginning_of callee)))))

-- a call whose results go to their places or not
abbrev pub call_in : Environment → Bool → Expr → Arguments → Reply typed.Call
call_in env goes (Name ident) arguments =
    and_then (arguments_in env (places_of (called_signature env (Name ident))) arguments) (λ (all : List typed_expr.Expr).
    and_then (called_with goes (as_method (meaning_of env ident.name)) ident.pos (count arguments)) (λ (id : ℕ). Ok (call_from ident all id)))
call_in env goes callee arguments = unnamed_call_in env callee arguments

-- ---- right sides

-- results of these types go to places of those, one after another
abbrev pub conversions : List (Option Ty) → List (Option Ty) → List typed.Conversion
conversions (place ∷ places) (result ∷ results) = record { source = or_int result; target = or_int place } ∷ conversions places results
conversions places results = []

-- a result of a type goes to a place of another
abbrev pub is_given : Option Ty → Option Ty → Bool
is_given place result = if_known fits_or_narrows result place

abbrev pub value_source_in : Environment → List (Option Ty) → Expr → Reply typed.Source
value_source_in env places e = and_then (typed_in env (wanted_at (first_place places)) e) (λ (t : Typed). Ok (typed.Single t.ty t.expr))

abbrev pub source_in : Environment → List (Option Ty) → Expr → Reply typed.Source
source_in env places (Call callee arguments) =
    and_then (call_in env (are_given places (results_of_call env callee)) callee arguments) (λ (call : typed.Call). Ok (typed.Results call (conversions places (results_of_call env callee))))
source_in env places e = value_source_in env places e

abbrev pub apart_in : Environment → List (Option Ty) → List Expr → Reply (List typed.Source)
apart_in env places [] = Ok []
apart_in env places (e ∷ others) =
    and_then (source_in env (first_place places ∷ []) e) (λ (one : typed.Source).
    and_then (apart_in env (other_places places) others) (λ (rest : List typed.Source). Ok (one ∷ rest)))

-- one right side gives all values, of several each gives one
abbrev pub sources_in : Environment → List (Option Ty) → List Expr → Reply (List typed.Source)
sources_in env places (e ∷ []) = and_then (source_in env places e) (λ (one : typed.Source). Ok (one ∷ []))
sources_in env places values = apart_in env places values

-- ---- places

abbrev pub types_of_places : List Place → List (Option Ty)
types_of_places places = map (λ (place : Place). place.ty) places

abbrev pub target_from : Place → typed.Target
target_from place = record { local = place.local; name = place.name; pos = place.pos; ty = or_int place.ty }

-- there are as many values as places, else this rule is broken
abbrev pub update_in : Environment → TypingRule → Pos → List Place → List Expr → Reply typed.Update
update_in env rule pos places values =
    and_then (sources_in env (types_of_places places) values) (λ (sources : List typed.Source).
    and_then (unless (are_enough env (length places) values) (broken rule pos)) (λ (held : Unit {0}). Ok (record { targets = map target_from places; sources = sources })))

-- without values there is no update
abbrev pub may_update_in : Environment → TypingRule → Pos → List Place → List Expr → Reply (Option typed.Update)
may_update_in env rule pos places [] = Ok None
may_update_in env rule pos places values = and_then (update_in env rule pos places values) (λ (update : typed.Update). Ok (Some update))

-- ---- left sides

abbrev pub place_meant : Environment → Option Meaning → Ident → Reply Place
place_meant env (Some (TheLocal local)) ident =
    if keeps_its_value local.role then Err (broken rules.Assigned ident.pos)
    else Ok (record { local = local.number; name = ident.name; pos = ident.pos; ty = local_type env local.number })
place_meant env meaning ident = Err (broken rules.Assigned ident.pos)

-- what is no name is no place
abbrev pub unnamed_place_in : Environment → Expr → Reply Place
unnamed_place_in env e = and_then (typed_in env wanteds.Nothing e) (λ (t : Typed). Err (broken rules.Assigned (or_start (beginning_of e))))

abbrev pub place_in : Environment → Expr → Reply Place
place_in env (Name ident) = place_meant env (meaning_of env ident.name) ident
place_in env e = unnamed_place_in env e

abbrev pub places_in : Environment → List Expr → Reply (List Place)
places_in env [] = Ok []
places_in env (e ∷ others) =
    and_then (place_in env e) (λ (one : Place). and_then (places_in env others) (λ (rest : List Place). Ok (one ∷ rest)))

-- the results, as what a `return` at a position gives
abbrev pub returned_places : Environment → Pos → List Local → List Place
returned_places env pos results = map (λ (result : Local). record { local = result.number; name = result.name; pos = pos; ty = local_type env result.number }) results

-- ---- declared locals

-- a type, a value or an assignment fixes the type
abbrev pub is_settled : Option TreeType → List Expr → Bool → Bool
is_settled (Some ty) values unfixed = true
is_settled None (value ∷ values) unfixed = true
is_settled None [] true = false
is_settled None [] false = true

abbrev pub variable_place : Environment → ℕ → Ident → Place
variable_place env number ident = record { local = number; name = ident.name; pos = ident.pos; ty = local_type env number }

abbrev pub is_unfixed_at : Environment → ℕ → Bool
is_unfixed_at env number = is_unfixed (slice_get env.types number)

-- the locals from this number on
abbrev pub variables_in : Environment → ℕ → List Expr → List declared_local.Local → Reply (List Place)
variables_in env number values [] = Ok []
variables_in env number values (local ∷ others) =
    and_then (unless (is_settled local.ty values (is_unfixed_at env number)) (steps.uninferred local.name)) (λ (held : Unit {0}).
    and_then (variables_in env (suc number) values others) (λ (rest : List Place). Ok (variable_place env number local.name ∷ rest)))

abbrev pub variable_from : Place → typed.Variable
variable_from place = record { name = place.name; pos = place.pos; ty = or_int place.ty; is_ghost = false; local = place.local }
