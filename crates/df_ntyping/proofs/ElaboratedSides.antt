-- Left and right sides that break nothing elaborate, where all locals have types.
use Rattle.std.proofs.Common.{◌≡◌, ℕ, ◌+◌, ◌<◌, ◌≤◌, Bool, true, false, not, List, [], ◌∷◌, ◌++◌, length, Option, Some, None, refl, sym, ap, subst, ◌∙◌, arith}
use Rattle.std.specs.Prelude.{◌==◌, option_map}
use Rattle.std.specs.List.{AllByRecursion, list_all}
use Rattle.std.proofs.lemmas.Bool.{and_parts, eqb-true}
use Rattle.df_lang.specs.declared.ty.Ty.{Ty}
use Rattle.df_lang.specs.declared.ty.Ty.TheVariants as types
use Rattle.df_lang.specs.Expr as typed_expr
use Rattle.df_lang.specs.Stmt as typed
use Rattle.df_ntree.specs.Expr.{Expr, Name, Call, Arguments, no_more, argument}
use Rattle.df_ntree.specs.ExprSpelling.{IsExpr, AreArguments as AreTreeArguments}
use Rattle.df_ntyping.specs.Types.{fits_or_narrows, if_known, if_type_known}
use Rattle.df_ntyping.specs.Table.{Signature}
use Rattle.df_ntyping.specs.Environment.{Local, Environment, local_type}
use Rattle.df_ntyping.specs.Meaning.{Meaning, TheLocal, TheMethod, Means, meaning_of, called_signature}
use Rattle.df_ntyping.specs.Places.{pos_of}
use Rattle.df_ntyping.specs.ExprTypes.{type_in}
use Rattle.df_ntyping.specs.LocalTypes.{values_of, is_count, are_enough, results_of_call}
use Rattle.df_ntyping.specs.Rule.{Typing, Given, Truths, ArgumentCount, Assigned}
use Rattle.df_ntyping.specs.rules.Values.{are_given}
use Rattle.df_ntyping.specs.rules.Truths.{is_truth}
use Rattle.df_ntyping.specs.rules.Calls.{takes}
use Rattle.df_ntyping.specs.rules.Assignments.{may_be_assigned, is_place}
use Rattle.df_ntyping.specs.ExprNodes.{width, places_of, count, callee_nodes, expr_nodes, argument_nodes, value_nodes, condition_nodes, call_nodes}
use Rattle.df_ntyping.specs.StatementNodes.{place_nodes, all_places, source_nodes, sources_apart, sources_nodes}
use Rattle.df_ntyping.specs.ExprElaboration.{Elaborates, ElaboratesAt, ElaboratesTruth}
use Rattle.df_ntyping.specs.SideElaboration.{IsCall, AreArguments, AreResults, IsSource, AreApart, AreSources, IsTarget, AreTargets, keeps_its_value}
use Rattle.df_ntyping.specs.Laws.{HasTypes}
use Rattle.df_ntyping.specs.mirror.Parts.{Typed, or_start}
use Rattle.df_ntyping.specs.mirror.Signs.{converted_to}
use Rattle.df_ntyping.proofs.Types.{one_type}
use Rattle.df_ntyping.proofs.WellTyped.{same_equal}
use Rattle.df_ntyping.proofs.Standing.{converts_there}
use Rattle.df_ntyping.proofs.KnownTypes.{known, known_count}
use Rattle.df_ntyping.proofs.ScopedLocals.{IsScoped, found_in_scope}
use Rattle.df_ntyping.proofs.AllNodes.{only, both, head, tail, left, right}
use Rattle.df_ntyping.proofs.FaultlessNodes.{AllFaultless, typed_there, holds_of, HasKnown, TableKnown, signature_known}
use Rattle.df_ntyping.proofs.WalkedTypes.{signature_there}

-- all locals in scope and all results have types
pub record IsReady (env : Environment) : Type 0 where
  pub table : TableKnown env.table
  pub scoped : IsScoped 0 env
  pub typed_locals : (k : ℕ) → k < length env.types → (ty : Ty) × (local_type env k ≡ Some ty)
  pub room : env.next ≤ length env.types
  pub result_locals : AllByRecursion (λ (result : Local). result.number < env.next) env.results

pub local_there : (env : Environment) (name : ℕ) (local : Local) → IsReady env → Means env name (TheLocal local) → (ty : Ty) × (local_type env local.number ≡ Some ty)
local_there env name local r means =
    let below = (found_in_scope 0 env name local r.scoped means).below in
    let room = r.room in
    r.typed_locals local.number (omega arith)

pub ready_types : (env : Environment) (e : Expr) → IsReady env → HasTypes env e
ready_types env e r name local c means = local_there env name local r means

-- ---- whole expressions

pub expr_elaborates : (env : Environment) (start : ℕ) (e : Expr) → IsReady env → IsExpr e → AllFaultless (expr_nodes env start e) → (ty : Ty) × (t : typed_expr.Expr) × Elaborates env None e ty t
expr_elaborates env start e r g h = typed_there env None start e g (ready_types env e r) h

pub truth_elaborates : (env : Environment) (start : ℕ) (e : Expr) → IsReady env → IsExpr e → AllFaultless (condition_nodes env start e) → (t : typed_expr.Expr) × ElaboratesTruth env e t
truth_elaborates env start e r g h =
    let (ty, t, k) = expr_elaborates env start e r g (left (expr_nodes env start e) _ h) in
    let p : type_in env None e ≡ Some ty = one_type env None e ty t g k in
    let q : if_type_known is_truth (type_in env None e) ≡ true = holds_of (if_type_known is_truth (type_in env None e)) (λ b. (head (right (expr_nodes env start e) _ h)).holds (Typing Truths) b) in
    let truth : is_truth ty ≡ true = subst (λ (o : Option Ty). if_type_known is_truth o ≡ true) p q in
    (t, subst (λ (x : Ty). Elaborates env None e x t) (same_equal ty types.Bool truth) k)

value_at : (env : Environment) (start : ℕ) (place : Ty) (e : Expr) → IsReady env → IsExpr e → AllFaultless (value_nodes env start (Some place) e) → (t : typed_expr.Expr) × ElaboratesAt env place e t
value_at env start place e r g h =
    let (source, inner, k) = typed_there env (Some place) start e g (ready_types env e r) (left (expr_nodes env start e) _ h) in
    let p : type_in env (Some place) e ≡ Some source = one_type env (Some place) e source inner g k in
    let q : if_known fits_or_narrows (type_in env (Some place) e) (Some place) ≡ true =
    holds_of (if_known fits_or_narrows (type_in env (Some place) e) (Some place)) (λ b. (head (right (expr_nodes env start e) _ h)).holds (Typing Given) b) in
    let fits : fits_or_narrows source place ≡ true = subst (λ (o : Option Ty). if_known fits_or_narrows o (Some place) ≡ true) p q in
    let one : Typed = record { ty = source; expr = inner } in
    (converted_to place (or_start (pos_of e)) one, (source, inner, k, fits, converts_there place e one g))

-- ---- calls

arguments_elaborate : (env : Environment) (start : ℕ) (tys : List Ty) (arguments : Arguments) → IsReady env → AreTreeArguments arguments → length tys ≡ count arguments → AllFaultless (argument_nodes env start (known tys) arguments)
    → (all : List typed_expr.Expr) × AreArguments env (known tys) arguments all
arguments_elaborate env start [] no_more r g p h = ([], refl)
arguments_elaborate env start [] (argument e rest) r g p h = absurd (omega (arith, p))
arguments_elaborate env start (ty ∷ tys) no_more r g p h = absurd (omega (arith, p))
arguments_elaborate env start (ty ∷ tys) (argument e rest) r g p h =
    let e_nodes = left (expr_nodes env start e) _ h in
    let behind_e = right (expr_nodes env start e) _ h in
    let (one, k) = value_at env start ty e r g.0 (both e_nodes (only (head behind_e))) in
    let (others, ks) = arguments_elaborate env (start + width e + 1) tys rest r g.1 (omega (arith, p)) (tail behind_e) in
    (one ∷ others, (ty, one, others, refl, k, ks, refl))

-- a method is called, and the types of its signature are known
pub record IsCalled (env : Environment) (callee : Expr) (arguments : Arguments) : Type 0 where
  pub signature : Signature
  pub call : typed.Call
  pub is_call : IsCall env callee arguments signature call
  pub called : called_signature env callee ≡ Some signature
  pub known_types : HasKnown signature

named_call : (env : Environment) (start : ℕ) (callee : Expr) (arguments : Arguments) (id : ℕ) (signature : Signature) → IsReady env → AreTreeArguments arguments → called_signature env callee ≡ Some signature → AllFaultless (call_nodes env start callee arguments)
    → (all : List typed_expr.Expr) × AreArguments env signature.parameters arguments all
named_call env start callee arguments id signature r g p h =
    let k = signature_known env callee signature r.table p in
    let at = start + width callee + 1 in
    let callees = callee_nodes env start callee (expr_nodes env start callee) in
    let all = argument_nodes env at (places_of (called_signature env callee)) arguments in
    let counted : takes (called_signature env callee) (count arguments) ≡ true = holds_of (takes (called_signature env callee) (count arguments)) (λ b. (head (right (callees ++ all) _ h)).holds (Typing ArgumentCount) b) in
    let counts : (length signature.parameters == count arguments) ≡ true = subst (λ (o : Option Signature). takes o (count arguments) ≡ true) p counted in
    let places : places_of (called_signature env callee) ≡ known k.parameter_types = ap places_of p ∙ k.parameters in
    let nodes = subst (λ (places : List (Option Ty)). AllFaultless (argument_nodes env at places arguments)) places (right callees all (left (callees ++ all) _ h)) in
    let size : length k.parameter_types ≡ count arguments = sym (known_count k.parameter_types) ∙ ap (λ (xs : List (Option Ty)). length xs) (sym k.parameters) ∙ eqb-true (length signature.parameters) (count arguments) counts in
    let (args, are) = arguments_elaborate env at k.parameter_types arguments r g size nodes in
    (args, subst (λ (places : List (Option Ty)). AreArguments env places arguments args) (sym k.parameters) are)

pub call_elaborates : (env : Environment) (start : ℕ) (callee : Expr) (arguments : Arguments) → IsReady env → IsExpr (Call callee arguments) → AllFaultless (call_nodes env start callee arguments) → IsCalled env callee arguments
call_elaborates env start (Name ident) arguments r g h =
    let (signature, p) = signature_there env start (Name ident) arguments h in
    by_meaning (meaning_of env ident.name) refl signature p where
      by_meaning : (o : Option Meaning) → meaning_of env ident.name ≡ o → (signature : Signature) → called_signature env (Name ident) ≡ Some signature → IsCalled env (Name ident) arguments
      by_meaning (Some (TheMethod id own)) q signature p =
          let called : called_signature env (Name ident) ≡ Some own = rw q refl in
          let (all, are) = named_call env start (Name ident) arguments id own r g.2 called h in
          record {
            signature = own;
            call = record { callee = id; name = ident.name; pos = ident.pos; arguments = all };
            is_call = (id, all, q, are, refl);
            called = called;
            known_types = signature_known env (Name ident) own r.table called;
          }
      by_meaning (Some (TheLocal local)) q signature p = absurd (let none : None ≡ Some signature = rw q at p in cc)
      by_meaning None q signature p = absurd (let none : None ≡ Some signature = rw q at p in cc)
call_elaborates env start callee arguments r g h = let (signature, p) = signature_there env start callee arguments h in absurd (let none : None ≡ Some signature = p in cc)

-- ---- right sides

pub results_elaborate : (results places : List Ty) → length results ≡ length places → are_given (known places) (known results) ≡ true → (all : List typed.Conversion) × AreResults (known results) places all
results_elaborate [] [] p h = ([], refl)
results_elaborate [] (place ∷ places) p h = absurd (omega (arith, p))
results_elaborate (result ∷ results) [] p h = absurd (omega (arith, p))
results_elaborate (result ∷ results) (place ∷ places) p h =
    let parts = and_parts (fits_or_narrows result place) (are_given (known places) (known results)) h in
    let (others, are) = results_elaborate results places (omega (arith, p)) parts.1 in
    (record { source = result; target = place } ∷ others, (result, others, refl, parts.0, are, refl))

pub results_there : (env : Environment) (callee : Expr) (signature : Signature) → called_signature env callee ≡ Some signature → results_of_call env callee ≡ signature.results
results_there env callee signature p = rw (p, results_of_call) refl

call_source : (env : Environment) (start : ℕ) (places : List Ty) (callee : Expr) (arguments : Arguments) → IsReady env → IsExpr (Call callee arguments) → AllFaultless (source_nodes env start (known places) (Call callee arguments))
    → is_count (length places) (values_of env (Call callee arguments)) ≡ true → (source : typed.Source) × IsSource env places (Call callee arguments) source
call_source env start places callee arguments r g h p =
    let call_part = call_nodes env start callee arguments in
    let c = call_elaborates env start callee arguments r g (left call_part _ h) in
    let k = c.known_types in
    let given : are_given (known places) (results_of_call env callee) ≡ true = holds_of (are_given (known places) (results_of_call env callee)) (λ b. (head (right call_part _ h)).holds (Typing Given) b) in
    let results : results_of_call env callee ≡ known k.result_types = results_there env callee c.signature c.called ∙ k.results in
    let given_known : are_given (known places) (known k.result_types) ≡ true = subst (λ (xs : List (Option Ty)). are_given (known places) xs ≡ true) results given in
    let counts : (length c.signature.results == length places) ≡ true = subst (λ (o : Option Signature). is_count (length places) (option_map (λ (signature : Signature). length signature.results) o) ≡ true) c.called p in
    let size : length k.result_types ≡ length places = sym (known_count k.result_types) ∙ ap (λ (xs : List (Option Ty)). length xs) (sym k.results) ∙ eqb-true (length c.signature.results) (length places) counts in
    let (all, are) = results_elaborate k.result_types places size given_known in
    (typed.Results c.call all, (c.signature, c.call, all, c.is_call, subst (λ (xs : List (Option Ty)). AreResults xs places all) (sym k.results) are, refl))

source_elaborates : (env : Environment) (start : ℕ) (places : List Ty) (e : Expr) → IsReady env → IsExpr e → AllFaultless (source_nodes env start (known places) e) → is_count (length places) (values_of env e) ≡ true
    → (source : typed.Source) × IsSource env places e source
source_elaborates env start places (Call callee arguments) r g h p = call_source env start places callee arguments r g h p
source_elaborates env start (place ∷ []) e r g h p = let (t, k) = value_at env start place e r g h in (typed.Single place t, (t, k, refl))
source_elaborates env start [] e r g h p = let q : 1 ≡ 0 = eqb-true 1 0 p in absurd (omega (arith, q))
source_elaborates env start (place ∷ other ∷ places) e r g h p = let q : 1 ≡ length (place ∷ other ∷ places) = eqb-true 1 (length (place ∷ other ∷ places)) p in absurd (omega (arith, q))

apart_elaborate : (env : Environment) (start : ℕ) (places : List Ty) (values : List Expr) → IsReady env → AllByRecursion IsExpr values → AllFaultless (sources_apart env start (known places) values) → length values ≡ length places
    → list_all (λ (value : Expr). is_count 1 (values_of env value)) values ≡ true → (sources : List typed.Source) × AreApart env places values sources
apart_elaborate env start [] [] r g h p c = ([], refl)
apart_elaborate env start [] (value ∷ values) r g h p c = absurd (omega (arith, p))
apart_elaborate env start (place ∷ places) [] r g h p c = absurd (omega (arith, p))
apart_elaborate env start (place ∷ places) (value ∷ values) r g h p c =
    let first = source_nodes env start (Some place ∷ []) value in
    let parts = and_parts (is_count 1 (values_of env value)) (list_all (λ (x : Expr). is_count 1 (values_of env x)) values) c in
    let (one, is) = source_elaborates env start (place ∷ []) value r g.0 (left first _ h) parts.0 in
    let (others, are) = apart_elaborate env (start + width value + 1) places values r g.1 (right first _ h) (omega (arith, p)) parts.1 in
    (one ∷ others, (one, others, is, are, refl))

pub sources_elaborate : (env : Environment) (start : ℕ) (places : List Ty) (values : List Expr) → IsReady env → AllByRecursion IsExpr values → AllFaultless (sources_nodes env start (known places) values) → are_enough env (length places) values ≡ true
    → (sources : List typed.Source) × AreSources env places values sources
sources_elaborate env start places [] r g h p = apart_elaborate env start places [] r g h (eqb-true 0 (length places) (and_parts (0 == length places) true p).0) refl
sources_elaborate env start places (value ∷ []) r g h p = let (one, is) = source_elaborates env start places value r g.0 h p in (one ∷ [], (one, is, refl))
sources_elaborate env start places (value ∷ other ∷ values) r g h p =
    let parts = and_parts (length (value ∷ other ∷ values) == length places) (list_all (λ (x : Expr). is_count 1 (values_of env x)) (value ∷ other ∷ values)) p in
    apart_elaborate env start places (value ∷ other ∷ values) r g h (eqb-true (length (value ∷ other ∷ values)) (length places) parts.0) parts.1

-- ---- left sides

target_elaborates : (env : Environment) (start : ℕ) (e : Expr) → IsReady env → AllFaultless (place_nodes env start e) → (one : typed.Target) × IsTarget env e one
target_elaborates env start (Name ident) r h = by_meaning (meaning_of env ident.name) refl (holds_of (is_place env (Name ident)) (λ b. (head (tail h)).holds (Typing Assigned) b)) where
  by_meaning : (o : Option Meaning) → meaning_of env ident.name ≡ o → may_be_assigned (meaning_of env ident.name) ≡ true → (one : typed.Target) × IsTarget env (Name ident) one
  by_meaning (Some (TheLocal local)) q p =
      let (ty, is) = local_there env ident.name local r q in
      let assigned : not (keeps_its_value local.role) ≡ true = rw q at p in
      (record { local = local.number; name = ident.name; pos = ident.pos; ty = ty }, (local, ty, q, not_kept (keeps_its_value local.role) assigned, is, refl)) where
        not_kept : (b : Bool) → not b ≡ true → b ≡ false
        not_kept true p = absurd cc
        not_kept false p = refl
  by_meaning (Some (TheMethod id signature)) q p = absurd (let none : false ≡ true = rw q at p in cc)
  by_meaning None q p = absurd (let none : false ≡ true = rw q at p in cc)
target_elaborates env start e r h = absurd ((head (right (expr_nodes env start e) _ h)).holds (Typing Assigned) refl)

pub targets_elaborate : (env : Environment) (start : ℕ) (es : List Expr) → IsReady env → AllFaultless (all_places env start es) → (all : List typed.Target) × AreTargets env es all
targets_elaborate env start [] r h = ([], refl)
targets_elaborate env start (e ∷ others) r h =
    let here = place_nodes env start e in
    let (one, is) = target_elaborates env start e r (left here _ h) in
    let (rest, are) = targets_elaborate env (start + width e + 1) others r (right here _ h) in
    (one ∷ rest, (one, rest, is, are, refl))
