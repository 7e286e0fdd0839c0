-- The walk over a call that is a right side.
use Rattle.std.proofs.Common.{◌≡◌, ℕ, ◌+◌, true, ◌==◌, List, [], ◌∷◌, ◌++◌, length, Option, Some, None, refl, sym, ap, subst, ◌∙◌, arith, append_assoc}
use Rattle.std.proofs.lemmas.Bool.{and_parts, eqb-true}
use Rattle.df_lang.specs.declared.ty.Ty.{Ty}
use Rattle.df_lang.specs.Stmt as typed
use Rattle.df_ntree.specs.declared.tree.Ident.{Ident}
use Rattle.df_ntree.specs.Expr.{Expr, Number, Character, Truth, Name, Parentheses, Call, Unary, Cast, Operations, Leading, Arguments}
use Rattle.df_ntree.specs.ExprSpelling.{spell, spell_arguments, IsExpr}
use Rattle.df_ntyping.specs.Literals.{AreInRange}
use Rattle.df_ntyping.specs.Types.{fits_or_narrows}
use Rattle.df_ntyping.specs.Environment.{Environment}
use Rattle.df_ntyping.specs.Meaning.{called_signature}
use Rattle.df_ntyping.specs.Places.{beginning_of}
use Rattle.df_ntyping.specs.ExprNodes.{width, expr_nodes, callee_nodes, argument_nodes, places_of, count}
use Rattle.df_ntyping.specs.StatementNodes.{source_nodes}
use Rattle.df_ntyping.specs.Node.{Occurrence}
use Rattle.df_ntyping.specs.Rule.{Calls}
use Rattle.df_ntyping.specs.LocalTypes.{names_in, names_in_arguments, values_of, is_count, results_of_call}
use Rattle.df_ntyping.specs.SideElaboration.{AreResults, IsSource}
use Rattle.df_ntyping.specs.rules.Values.{are_given}
use Rattle.df_ntyping.specs.mirror.Parts.{or_start}
use Rattle.df_ntyping.proofs.AllNodes.{only}
use Rattle.df_ntyping.proofs.ElaboratedSides.{results_there}
use Rattle.df_ntyping.proofs.FaultlessNodes.{TableKnown, signature_known}
use Rattle.df_ntyping.proofs.FirstFault.{Silent, NoNames, named_right}
use Rattle.df_ntyping.proofs.Found.{AllBeyond, beyond_one, beyond_then}
use Rattle.df_ntyping.proofs.KnownTypes.{known, known_count}
use Rattle.df_ntyping.proofs.SoundNodes as kinds
use Rattle.df_ntyping.proofs.SoundNodes.{sound}
use Rattle.df_ntyping.proofs.SoundSides.{signature_called}
use Rattle.df_ntyping.proofs.Standing.{begins_there}
use Rattle.df_ntyping.proofs.TypedIsWellTyped.{all_left, all_right}
use Rattle.df_ntyping.proofs.Verdict.{HaveTypes, types_left, types_right}
use Rattle.df_ntstmt.specs.mirror.Steps.{broken}
use Rattle.df_ntstmt.specs.mirror.Sides.{call_in, unnamed_call_in, conversions, source_in}
use Rattle.df_ntstmt.proofs.Judging.{met_typing, met_ahead, Judged, judged_map, silent_sound}
use Rattle.df_ntstmt.proofs.CallsTold.{arguments_range, IsCallOf, IsMade, call_at, results_at, calls_only, given_told, named_told, unnamed_told, end_beyond, end_behind}

-- ---- results of a call

results_made : (results places : List Ty) → length results ≡ length places → are_given (known places) (known results) ≡ true → AreResults (known results) places (conversions (known places) (known results))
results_made [] [] p h = refl
results_made [] (place ∷ places) p h = absurd (omega (arith, p))
results_made (result ∷ results) [] p h = absurd (omega (arith, p))
results_made (result ∷ results) (place ∷ places) p h =
    let parts = and_parts (fits_or_narrows result place) (are_given (known places) (known results)) h in
    (result, conversions (known places) (known results), refl, parts.0, results_made results places (omega (arith, p)) parts.1, refl)

-- where the types of its places are known, and there are as many as values
abbrev pub IsRight : Environment → List (Option Ty) → Expr → typed.Source → Type 0
IsRight env places e source = TableKnown env.table → (tys : List Ty) → places ≡ known tys → is_count (length tys) (values_of env e) ≡ true → IsSource env tys e source

-- no type of a place is asked for where no method is called
nothing_given : (places : List (Option Ty)) → are_given places [] ≡ true
nothing_given [] = refl
nothing_given (place ∷ places) = refl

call_right : (env : Environment) (places : List (Option Ty)) (callee : Expr) (arguments : Arguments) (call : typed.Call) → are_given places (results_of_call env callee) ≡ true → IsCallOf env callee arguments call
    → IsRight env places (Call callee arguments) (typed.Results call (conversions places (results_of_call env callee)))
call_right env places callee arguments call given h t tys p counts =
    let (signature, is) = h t in
    let called = signature_called env callee arguments signature call is in
    let k = signature_known env callee signature t called in
    let results : results_of_call env callee ≡ known k.result_types = results_there env callee signature called ∙ k.results in
    let amount : values_of env (Call callee arguments) ≡ Some (length signature.results) = rw called refl in
    let size : (length signature.results == length tys) ≡ true = subst (λ (n : Option ℕ). is_count (length tys) n ≡ true) amount counts in
    let same : length k.result_types ≡ length tys = sym (known_count k.result_types) ∙ ap (λ (xs : List (Option Ty)). length xs) (sym k.results) ∙ eqb-true (length signature.results) (length tys) size in
    let goes : are_given (known tys) (known k.result_types) ≡ true = subst (λ (xs : List (Option Ty)). are_given (known tys) xs ≡ true) results (subst (λ (ps : List (Option Ty)). are_given ps (results_of_call env callee) ≡ true) p given) in
    let made : conversions places (results_of_call env callee) ≡ conversions (known tys) (known k.result_types) = λ i. conversions (p i) (results i) in (
      signature,
      call,
      conversions places (results_of_call env callee),
      is,
      subst (λ (xs : List (Option Ty)). AreResults xs tys (conversions places (results_of_call env callee))) (sym k.results)
          (subst (λ (all : List typed.Conversion). AreResults (known k.result_types) tys all) (sym made) (results_made k.result_types tys same goes)),
      refl,
    )

-- ---- a call as a right side

-- the ends of a call stand behind its parts
ends_beyond : (env : Environment) (start : ℕ) (places : List (Option Ty)) (callee : Expr) (arguments : Arguments)
    → AllBeyond (start + width callee + 1) (start + width callee + 1 + length (spell_arguments arguments)) (call_at env start callee arguments ∷ results_at env start places callee arguments ∷ [])
ends_beyond env start places callee arguments =
    let low = start + width callee + 1 in
    let high = low + length (spell_arguments arguments) in
    let one = call_at env start callee arguments in
    let other = results_at env start places callee arguments in
    beyond_then low high one (other ∷ []) (end_beyond callee start arguments one (refl, refl)) (beyond_one low high other (end_beyond callee start arguments other (refl, refl)))

ends_behind : (env : Environment) (start : ℕ) (places : List (Option Ty)) (callee : Expr) (arguments : Arguments) → AllBeyond start (start + width callee) (call_at env start callee arguments ∷ results_at env start places callee arguments ∷ [])
ends_behind env start places callee arguments =
    let one = call_at env start callee arguments in
    let other = results_at env start places callee arguments in
    beyond_then start (start + width callee) one (other ∷ []) (end_behind callee start arguments one (refl, refl)) (beyond_one start (start + width callee) other (end_behind callee start arguments other (refl, refl)))

-- the nodes of a call with that of its results, in one list of ends
abbrev with_ends : Environment → ℕ → List (Option Ty) → Expr → Arguments → List Occurrence
with_ends env start places callee arguments =
    (callee_nodes env start callee (expr_nodes env start callee) ++ argument_nodes env (start + width callee + 1) (places_of (called_signature env callee)) arguments)
    ++ call_at env start callee arguments ∷ results_at env start places callee arguments ∷ []

pub regrouped : (env : Environment) (start : ℕ) (places : List (Option Ty)) (callee : Expr) (arguments : Arguments) → source_nodes env start places (Call callee arguments) ≡ with_ends env start places callee arguments
regrouped env start places callee arguments =
    append_assoc (callee_nodes env start callee (expr_nodes env start callee) ++ argument_nodes env (start + width callee + 1) (places_of (called_signature env callee)) arguments) (call_at env start callee arguments ∷ []) (results_at env start places callee arguments ∷ [])

named_right_side : (env : Environment) (start : ℕ) (places : List (Option Ty)) (ident : Ident) (arguments : Arguments) → IsExpr (Call (Name ident) arguments) → AreInRange (spell (Call (Name ident) arguments)) → HaveTypes env (names_in (Call (Name ident) arguments))
    → NoNames (with_ends env start places (Name ident) arguments) → Judged (with_ends env start places (Name ident) arguments) (IsMade (are_given places (results_of_call env (Name ident))) env (Name ident) arguments) (call_in env (are_given places (results_of_call env (Name ident))) (Name ident) arguments)
named_right_side env start places ident arguments x r t n =
    named_told env start ident arguments (are_given places (results_of_call env (Name ident))) (call_at env start (Name ident) arguments ∷ results_at env start places (Name ident) arguments ∷ []) x.2
    (arguments_range (Name ident) arguments r) (types_right env (names_in (Name ident)) (names_in_arguments arguments) t) n
    (ends_beyond env start places (Name ident) arguments)
    (given_told env start places ident arguments (named_right (callee_nodes env start (Name ident) (expr_nodes env start (Name ident)) ++ argument_nodes env (start + 1 + 1) (places_of (called_signature env (Name ident))) arguments) _ n))

unnamed_right_side : (env : Environment) (start : ℕ) (places : List (Option Ty)) (callee : Expr) (arguments : Arguments) → IsExpr (Call callee arguments) → AreInRange (spell (Call callee arguments)) → HaveTypes env (names_in (Call callee arguments))
    → called_signature env callee ≡ None → results_of_call env callee ≡ []
    → NoNames ((expr_nodes env start callee ++ argument_nodes env (start + width callee + 1) [] arguments) ++ call_at env start callee arguments ∷ results_at env start places callee arguments ∷ [])
    → Judged ((expr_nodes env start callee ++ argument_nodes env (start + width callee + 1) [] arguments) ++ call_at env start callee arguments ∷ results_at env start places callee arguments ∷ []) (IsMade (are_given places (results_of_call env callee)) env callee arguments) (unnamed_call_in env callee arguments)
unnamed_right_side env start places callee arguments x r t p q n =
    let one = call_at env start callee arguments in
    let other = results_at env start places callee arguments in
    let parts = expr_nodes env start callee ++ argument_nodes env (start + width callee + 1) [] arguments in
    let quiet : Silent (other ∷ []) = silent_sound (other ∷ []) (only (sound (kinds.results env places (results_of_call env callee) (Call callee arguments) (rw q (nothing_given places))))) (named_right (one ∷ []) (other ∷ []) (named_right parts _ n)) in
    unnamed_told (IsMade (are_given places (results_of_call env callee)) env callee arguments) env start callee arguments (one ∷ other ∷ []) x.0 x.2 (all_left (spell callee) _ r) (all_left (spell_arguments arguments) _ (all_right (spell callee) _ r))
    (types_left env (names_in callee) (names_in_arguments arguments) t) (types_right env (names_in callee) (names_in_arguments arguments) t) p n
    (ends_behind env start places callee arguments) (ends_beyond env start places callee arguments)
    (met_ahead (one ∷ []) (other ∷ []) (broken Calls (or_start (beginning_of callee))) (met_typing one Calls (or_start (beginning_of callee)) (rw p refl) (calls_only env callee (count arguments) p) (begins_there callee x.0)) quiet)

-- the call, and then how its results go to their places
abbrev results_behind : Environment → List (Option Ty) → Expr → typed.Call → typed.Source
results_behind env places callee call = typed.Results call (conversions places (results_of_call env callee))

pub made_right : (env : Environment) (start : ℕ) (places : List (Option Ty)) (callee : Expr) (arguments : Arguments) → Judged (with_ends env start places callee arguments) (IsMade (are_given places (results_of_call env callee)) env callee arguments) (call_in env (are_given places (results_of_call env callee)) callee arguments)
    → Judged (source_nodes env start places (Call callee arguments)) (IsRight env places (Call callee arguments)) (source_in env places (Call callee arguments))
made_right env start places callee arguments j =
    subst (λ (xs : List Occurrence). Judged xs (IsRight env places (Call callee arguments)) (source_in env places (Call callee arguments))) (sym (regrouped env start places callee arguments))
    (judged_map (with_ends env start places callee arguments) (IsMade (are_given places (results_of_call env callee)) env callee arguments) (IsRight env places (Call callee arguments)) (call_in env (are_given places (results_of_call env callee)) callee arguments)
    (results_behind env places callee) j (λ call h. call_right env places callee arguments call h.0 h.1))

pub call_source_told : (env : Environment) (start : ℕ) (places : List (Option Ty)) (callee : Expr) (arguments : Arguments) → IsExpr (Call callee arguments) → AreInRange (spell (Call callee arguments)) → HaveTypes env (names_in (Call callee arguments))
    → NoNames (with_ends env start places callee arguments) → Judged (with_ends env start places callee arguments) (IsMade (are_given places (results_of_call env callee)) env callee arguments) (call_in env (are_given places (results_of_call env callee)) callee arguments)
call_source_told env start places (Name ident) arguments x r t n = named_right_side env start places ident arguments x r t n
call_source_told env start places (Number literal) arguments x r t n = unnamed_right_side env start places (Number literal) arguments x r t refl refl n
call_source_told env start places (Character code at) arguments x r t n = unnamed_right_side env start places (Character code at) arguments x r t refl refl n
call_source_told env start places (Truth value at) arguments x r t n = unnamed_right_side env start places (Truth value at) arguments x r t refl refl n
call_source_told env start places (Parentheses at inner) arguments x r t n = unnamed_right_side env start places (Parentheses at inner) arguments x r t refl refl n
call_source_told env start places (Call callee all) arguments x r t n = unnamed_right_side env start places (Call callee all) arguments x r t refl refl n
call_source_told env start places (Unary operator at operand) arguments x r t n = unnamed_right_side env start places (Unary operator at operand) arguments x r t refl refl n
call_source_told env start places (Cast operand all) arguments x r t n = unnamed_right_side env start places (Cast operand all) arguments x r t refl refl n
call_source_told env start places (Operations first rest) arguments x r t n = unnamed_right_side env start places (Operations first rest) arguments x r t refl refl n
call_source_told env start places (Leading operations) arguments x r t n = unnamed_right_side env start places (Leading operations) arguments x r t refl refl n
