-- Right sides over terms of locals, and what is given by them.
use Rattle.std.specs.Prelude.{◌≡◌, ℕ, true, List, [], map, length, Bool, false, ◌&&◌}
use Rattle.std.specs.Option.{option_map_or}
use Rattle.std.specs.List.{list_all}
use Rattle.df_lang.specs.declared.ty.Ty.{Ty}
use Rattle.df_lang.specs.Stmt.{Call, Conversion, Source, Single, Results}
use Rattle.df_lang.specs.Program.{Method, Program, method_at, types_of}
use Rattle.df_lang.specs.Typing.{is_method, is_expr, are_exprs, are_results}
use Rattle.df_form.specs.Node.{Node}
use Rattle.df_nenc.specs.Standing.{AreLocals}
use Rattle.df_nenc.specs.Tree.{trees_at}
use Rattle.df_npass.specs.Statements.{Given}
use Rattle.df_nledger.specs.Ledger.{ledger_of, with_fresh}
use Rattle.df_nledger.specs.declared.ledger.Ledger as declared

-- a well-typed method, and arguments of the types of its parameters
pub record IsCallee (nodes : List Node) (method : Method) (arguments : List ℕ) : Type 0 where
  pub program : Program
  pub typed : is_method program method ≡ true
  pub locals : AreLocals nodes (types_of method.parameters) arguments
  pub many : length arguments ≡ length method.parameters

abbrev pub is_call_over : Program → List Ty → Call → Bool
is_call_over program all call = option_map_or (λ (method : Method). are_exprs program all (types_of method.parameters) call.arguments) (method_at program call.callee) false

abbrev pub is_source_over : Program → List Ty → Source → Bool
is_source_over program all (Single ty value) = is_expr program all ty value
is_source_over program all (Results call results) = is_call_over program all call && are_results program call results

-- a call that is well typed over locals that have terms
pub record IsCall (nodes : List Node) (program : Program) (terms : List ℕ) (call : Call) : Type 0 where
  pub types : List Ty
  pub typed : is_call_over program types call ≡ true
  pub locals : AreLocals nodes types terms

pub record AreSources (nodes : List Node) (program : Program) (terms : List ℕ) (sources : List Source) : Type 0 where
  pub types : List Ty
  pub typed : list_all (is_source_over program types) sources ≡ true
  pub locals : AreLocals nodes types terms

-- each term is of the type that it is converted from
abbrev pub AreConverted : List Node → List Conversion → List ℕ → Type 0
AreConverted nodes conversions terms = AreLocals nodes (map (λ (c : Conversion). c.source) conversions) terms

-- the types of the results of a call
abbrev pub result_types : Program → Call → List Ty
result_types program call = option_map_or (λ (method : Method). types_of method.results) (method_at program call.callee) []

-- from the one ledger to the other these terms were given, of these types
pub record Gives (given : Given) (tys : List Ty) (old new : declared.Ledger) (terms : List ℕ) : Type 0 where
  pub ledger : ledger_of new ≡ with_fresh given.said given.fresh (ledger_of old)
  pub terms_are : trees_at new.nodes terms ≡ given.terms
  pub locals : AreLocals new.nodes tys terms
  pub many : length terms ≡ length tys
