-- A safe program's functions: by groups, and inside a group by measures.
use Rattle.std.proofs.Common.{◌≡◌, ℕ, Bool, true, nat_le, List, [], slice_get, None, Some, refl, ap, subst}
use Rattle.std.specs.Option.{option_map_or}
use Rattle.std.specs.List.{list_all, flat_map}
use Rattle.std.proofs.lemmas.Bool.{le-leb}
use Rattle.df_lemmas.proofs.Lists.{all_parts}
use Rattle.df_types.specs.Ty.{Tys}
use Rattle.df_types.specs.Program.{Head, Function, Decl, FunctionDecl, Program, function_at, types_of, result_type}
use Rattle.df_types.specs.Typing.{is_program, numbers_of, entry_scope}
use Rattle.df_types.specs.Gathering.{gather, contract_expressions}
use Rattle.df_types.specs.Calls.{called, callees, callees_at, group_at, AreGroups}
use Rattle.df_meaning2.specs.Value.{Value}
use Rattle.df_meaning2.specs.Heap.{Heap}
use Rattle.df_meaning2.specs.State.{State, reading_inside}
use Rattle.df_meaning2.specs.Correct.{beginning}
use Rattle.df_meaning2.specs.Typed.{AreOf}
use Rattle.df_hoare2.proofs.Reading.{Fits, is_there, typed_reads}
use Rattle.df_hoare2.proofs.TypeArguments.{Closed}
use Rattle.df_hoare2.proofs.Heads.{HeadIs, FunctionIs, IsThere, found_function, function_is, scope_agrees, in_scope, parameters_there}
use Rattle.df_hoare2.proofs.WholeTypes.{begun_typed}
use Rattle.df_hoare2.proofs.Meeting.{Stands}
use Rattle.df_hoare2.proofs.Contracts.{calls_each, all_contained, Contract, contract}

-- ---- what a declaration may call

-- declarations of its group or of earlier ones
abbrev pub no_later : List ℕ → ℕ → ℕ → Bool
no_later groups number callee = nat_le (group_at groups callee) (group_at groups number)

pub callees_no_later : (p : Program) (groups : List ℕ) → AreGroups p groups → (number : ℕ) (d : Decl) → slice_get p.decls number ≡ Some d → list_all (no_later groups number) (callees d) ≡ true
callees_no_later p groups g number d e =
    let found : callees_at p number ≡ callees d = ap (λ o. option_map_or callees o []) e in
    subst (λ ns. list_all (no_later groups number) ns ≡ true) found
    (all_contained (no_later groups number) (callees_at p number) (λ callee c. le-leb (group_at groups callee) (group_at groups number) (g.ordered number callee c)))

pub record FunctionSound (p : Program) (groups : List ℕ) (number : ℕ) (f : Function) : Type 0 where
  pub is : FunctionIs p f
  pub contract : Contract p (no_later groups number) f.head
  pub value : Fits (no_later groups number) (is_there (entry_scope f.head)) f.value

pub function_sound : (p : Program) → is_program p ≡ true → (groups : List ℕ) → AreGroups p groups → (number : ℕ) (f : Function) → function_at p number ≡ Some f → FunctionSound p groups number f
function_sound p well groups g number f e =
    let is = function_is p well number f e in
    let calls = all_parts (no_later groups number) (flat_map (gather called) (contract_expressions f.head)) (gather called f.value)
    (callees_no_later p groups g number (FunctionDecl f) (found_function (slice_get p.decls number) f e))
    in
    record {
      is = is;
      contract = contract p (no_later groups number) f.head is.head (calls_each (no_later groups number) (contract_expressions f.head) calls.0);
      value = record { calls = calls.1; locals = typed_reads p f.value (entry_scope f.head) (result_type f.head.results) is.value };
    }

-- ---- where a declaration begins

module _ (p : Program) (head : Head) (is : HeadIs p head) (types : Tys) (arguments : List Value) (heap : Heap) (closed : Closed p head.type_parameters types) (typed : AreOf p types (types_of head.parameters) arguments) where
  abbrev begun : State
  begun = beginning head types arguments heap

  begun_there : (n : ℕ) → is_there (entry_scope head) n ≡ true → IsThere (begun.locals n)
  begun_there n e = parameters_there p types head.parameters arguments (λ n. None) n typed.by (in_scope head (numbers_of head.parameters) n e)

  pub begun_stands : Stands p (is_there (entry_scope head)) (entry_scope head) begun
  begun_stands = record { agrees = scope_agrees p head (numbers_of head.parameters) begun refl (begun_typed p head is types arguments typed); there = begun_there; closed = closed }

  pub inside_stands : (frame : Value) → Stands p (is_there (entry_scope head)) (entry_scope head) (reading_inside begun frame)
  inside_stands frame = record {
    agrees = scope_agrees p head (numbers_of head.parameters) (reading_inside begun frame) refl (begun_typed p head is types arguments typed);
    there = begun_there;
    closed = closed;
  }
