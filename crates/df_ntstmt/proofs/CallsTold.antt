-- The walk over calls.
use Rattle.std.proofs.Common.{if◌then◌else◌, ◌≡◌, ℕ, ◌+◌, Bool, true, false, ◌==◌, List, [], ◌∷◌, ◌++◌, length, Option, Some, None, Ok, Err, refl, sym, ap, subst, ◌∙◌, inl, arith}
use Rattle.std.proofs.lemmas.Bool.{eqb-true}
use Rattle.df_lang.specs.declared.ty.Ty.{Ty}
use Rattle.df_lang.specs.Expr as typed_expr
use Rattle.df_lang.specs.Stmt as typed
use Rattle.df_ntree.specs.declared.tree.Ident.{Ident}
use Rattle.df_ntree.specs.Expr.{Expr, Number, Character, Truth, Name, Parentheses, Call, Unary, Cast, Operations, Leading, Arguments}
use Rattle.df_tok.specs.declared.sign.Sign.TheVariants as signs
use Rattle.df_ntree.specs.Spelling.{Piece, a_sign}
use Rattle.df_ntree.specs.ExprSpelling.{spell, spell_arguments, spell_further, IsExpr}
use Rattle.df_ntree.specs.ExprSpelling as grammar
use Rattle.df_ntyping.specs.Literals.{AreInRange}
use Rattle.df_ntyping.specs.Table.{Signature}
use Rattle.df_ntyping.specs.Environment.{Environment}
use Rattle.df_ntyping.specs.Meaning.{Meaning, TheLocal, TheMethod, Means, meaning_of, as_method, called_signature}
use Rattle.df_ntyping.specs.Places.{beginning_of}
use Rattle.df_ntyping.specs.ExprNodes.{width, occurrence, token_at, expr_nodes, callee_nodes, argument_nodes, call_nodes, places_of, count}
use Rattle.df_ntyping.specs.Node as nodes
use Rattle.df_ntyping.specs.Node.{Occurrence}
use Rattle.df_ntyping.specs.Rule.{Rule, Typing, Given, ArgumentCount, Calls, stage_of}
use Rattle.df_ntyping.specs.Breaks.{breaks}
use Rattle.df_ntyping.specs.LocalTypes.{names_in, names_in_arguments, results_of_call}
use Rattle.df_ntyping.specs.SideElaboration.{AreArguments, IsCall}
use Rattle.df_ntyping.specs.rules.Values.{are_given}
use Rattle.df_ntyping.specs.Wanted as wanteds
use Rattle.df_ntyping.specs.mirror.Parts.{Typed, or_start}
use Rattle.df_ntyping.proofs.AllNodes.{only}
use Rattle.df_ntyping.proofs.ExprOrder.{expr_order, argument_order, width_call}
use Rattle.df_ntyping.proofs.FaultlessNodes.{TableKnown, signature_known}
use Rattle.df_ntyping.proofs.FirstFault.{NoNames, is_lower, named_left, named_right}
use Rattle.df_ntyping.proofs.Found.{Beyond, AllBeyond, beyond_one, beyond_both, beyond_segment}
use Rattle.df_ntyping.proofs.KnownTypes.{known_count}
use Rattle.df_ntyping.proofs.SoundNodes as kinds
use Rattle.df_ntyping.proofs.SoundNodes.{sound}
use Rattle.df_ntyping.proofs.Standing.{begins_there}
use Rattle.df_ntyping.proofs.TypedIsWellTyped.{all_left, all_right}
use Rattle.df_ntyping.proofs.Verdict.{HaveTypes, types_left, types_right}
use Rattle.df_ntstmt.specs.mirror.Steps.{and_then, broken, typed_in}
use Rattle.df_ntstmt.specs.mirror.Sides.{arguments_in, called_with, call_from, unnamed_call_in, call_in}
use Rattle.df_ntstmt.proofs.Judging.{Met, met_typing, met_lower, Judged, judged_behind, judged_ahead, judged_then, judged_map, judged_grouped, silent_sound}
use Rattle.df_ntstmt.proofs.ExprsTold.{IsTyped, expr_told}
use Rattle.df_ntstmt.proofs.ArgumentsTold.{AreTyped, arguments_told}

-- ---- what the whole breaks

count_only : (env : Environment) (callee : Expr) (n : ℕ) (signature : Signature) → called_signature env callee ≡ Some signature → (rule : Rule) → breaks env (nodes.Call true callee n) rule ≡ true → rule ≡ Typing ArgumentCount
count_only env callee n signature p (Typing ArgumentCount) h = refl
count_only env callee n signature p (Typing Calls) h = absurd (let wrong : false ≡ true = rw p at h in cc)
count_only env callee n signature p rule h = absurd cc

pub calls_only : (env : Environment) (callee : Expr) (n : ℕ) → called_signature env callee ≡ None → (rule : Rule) → breaks env (nodes.Call true callee n) rule ≡ true → rule ≡ Typing Calls
calls_only env callee n p (Typing Calls) h = refl
calls_only env callee n p (Typing ArgumentCount) h = absurd (let wrong : false ≡ true = rw p at h in cc)
calls_only env callee n p rule h = absurd cc

call_lower : (env : Environment) (callee : Expr) (n : ℕ) (rule : Rule) → breaks env (nodes.Call true callee n) rule ≡ true → stage_of rule ≡ 1 → is_lower rule (Typing Given) ≡ false
call_lower env callee n (Typing ArgumentCount) h q = refl
call_lower env callee n (Typing Calls) h q = refl
call_lower env callee n rule h q = absurd cc

given_only : (env : Environment) (places results : List (Option Ty)) (call : Expr) (rule : Rule) → breaks env (nodes.Results places results call) rule ≡ true → rule ≡ Typing Given
given_only env places results call (Typing Given) h = refl
given_only env places results call rule h = absurd cc

-- the node of the call, and that of its results
abbrev pub call_at : Environment → ℕ → Expr → Arguments → Occurrence
call_at env start callee arguments = occurrence env (nodes.Call true callee (count arguments)) start (start + width (Call callee arguments))

abbrev pub results_at : Environment → ℕ → List (Option Ty) → Expr → Arguments → Occurrence
results_at env start places callee arguments = occurrence env (nodes.Results places (results_of_call env callee) (Call callee arguments)) start (start + width (Call callee arguments))

-- the name means the method of this number, which takes so many arguments
abbrev pub IsCalled : Environment → ℕ → ℕ → ℕ → Type 0
IsCalled env name arguments id = (signature : Signature) × Means env name (TheMethod id signature) × (length signature.parameters ≡ arguments)

-- and its results go to their places
abbrev pub Goes : Bool → Environment → ℕ → ℕ → ℕ → Type 0
Goes goes env name arguments id = (goes ≡ true) × IsCalled env name arguments id

pub alone_told : (env : Environment) (start : ℕ) (ident : Ident) (arguments : Arguments) → NoNames (call_at env start (Name ident) arguments ∷ [])
    → Judged (call_at env start (Name ident) arguments ∷ []) (Goes true env ident.name (count arguments)) (called_with true (as_method (meaning_of env ident.name)) ident.pos (count arguments))
alone_told env start ident arguments n = by_meaning (meaning_of env ident.name) refl where
  one : Occurrence
  one = call_at env start (Name ident) arguments

  no_method : called_signature env (Name ident) ≡ None → Met (one ∷ []) (broken Calls ident.pos)
  no_method p = met_typing one Calls ident.pos (rw p refl) (calls_only env (Name ident) (count arguments) p) refl

  by_count : (id : ℕ) (signature : Signature) → meaning_of env ident.name ≡ Some (TheMethod id signature) → called_signature env (Name ident) ≡ Some signature → (b : Bool) → (length signature.parameters == count arguments) ≡ b
      → Judged (one ∷ []) (Goes true env ident.name (count arguments)) (if b then Ok id else Err (broken ArgumentCount ident.pos))
  by_count id signature p called true q =
      (silent_sound (one ∷ []) (only (sound (kinds.whole_call env (Name ident) (count arguments) (rw (called, q) refl) (rw called refl)))) n, (refl, (signature, p, eqb-true (length signature.parameters) (count arguments) q)))
  by_count id signature p called false q = met_typing one ArgumentCount ident.pos (rw (called, q) refl) (count_only env (Name ident) (count arguments) signature called) refl

  by_meaning : (m : Option Meaning) → meaning_of env ident.name ≡ m → Judged (one ∷ []) (Goes true env ident.name (count arguments)) (called_with true (as_method m) ident.pos (count arguments))
  by_meaning (Some (TheMethod id signature)) p = by_count id signature p (rw p refl) (length signature.parameters == count arguments) refl
  by_meaning (Some (TheLocal local)) p = no_method (rw p refl)
  by_meaning None p = no_method (rw p refl)

-- with the node of its results
pub given_told : (env : Environment) (start : ℕ) (places : List (Option Ty)) (ident : Ident) (arguments : Arguments) → NoNames (call_at env start (Name ident) arguments ∷ results_at env start places (Name ident) arguments ∷ [])
    → Judged (call_at env start (Name ident) arguments ∷ results_at env start places (Name ident) arguments ∷ []) (Goes (are_given places (results_of_call env (Name ident))) env ident.name (count arguments))
    (called_with (are_given places (results_of_call env (Name ident))) (as_method (meaning_of env ident.name)) ident.pos (count arguments))
given_told env start places ident arguments n = by_given (are_given places (results_of_call env (Name ident))) refl where
  one : Occurrence
  one = call_at env start (Name ident) arguments

  other : Occurrence
  other = results_at env start places (Name ident) arguments

  by_given : (b : Bool) → are_given places (results_of_call env (Name ident)) ≡ b
      → Judged (one ∷ other ∷ []) (Goes b env ident.name (count arguments)) (called_with b (as_method (meaning_of env ident.name)) ident.pos (count arguments))
  by_given true p =
      judged_ahead (one ∷ []) (other ∷ []) (Goes true env ident.name (count arguments)) (called_with true (as_method (meaning_of env ident.name)) ident.pos (count arguments))
      (alone_told env start ident arguments (named_left (one ∷ []) (other ∷ []) n))
      (silent_sound (other ∷ []) (only (sound (kinds.results env places (results_of_call env (Name ident)) (Call (Name ident) arguments) p))) (named_right (one ∷ []) (other ∷ []) n))
  by_given false p = met_lower one other Given ident.pos refl refl (rw p refl) (call_lower env (Name ident) (count arguments)) (given_only env places (results_of_call env (Name ident)) (Call (Name ident) arguments)) refl

-- ---- calls

-- a method is called with an argument for each parameter
abbrev pub IsCallOf : Environment → Expr → Arguments → typed.Call → Type 0
IsCallOf env callee arguments call = TableKnown env.table → (signature : Signature) × IsCall env callee arguments signature call

abbrev pub IsMade : Bool → Environment → Expr → Arguments → typed.Call → Type 0
IsMade goes env callee arguments call = (goes ≡ true) × IsCallOf env callee arguments call

call_made : (env : Environment) (ident : Ident) (arguments : Arguments) (all : List typed_expr.Expr) (id : ℕ) → AreTyped env (places_of (called_signature env (Name ident))) arguments all → IsCalled env ident.name (count arguments) id
    → IsCallOf env (Name ident) arguments (call_from ident all id)
call_made env ident arguments all id h (signature, means, counts) t =
    let called : called_signature env (Name ident) ≡ Some signature = rw means refl in
    let k = signature_known env (Name ident) signature t called in
    let size : length k.parameter_types ≡ count arguments = sym (known_count k.parameter_types) ∙ ap (λ (xs : List (Option Ty)). length xs) (sym k.parameters) ∙ counts in
    (signature, (id, all, means, subst (λ (places : List (Option Ty)). AreArguments env places arguments all) (sym k.parameters) (h k.parameter_types (ap places_of called ∙ k.parameters) size), refl))

-- what stands behind the arguments
abbrev pub IsEnd : Expr → ℕ → Arguments → Occurrence → Type 0
IsEnd callee start arguments one = (one.start ≡ start) × (one.after ≡ start + width (Call callee arguments))

pub named_told : (env : Environment) (start : ℕ) (ident : Ident) (arguments : Arguments) (goes : Bool) (ends : List Occurrence) → grammar.AreArguments arguments → AreInRange (spell_arguments arguments) → HaveTypes env (names_in_arguments arguments)
    → NoNames ((callee_nodes env start (Name ident) (expr_nodes env start (Name ident)) ++ argument_nodes env (start + 1 + 1) (places_of (called_signature env (Name ident))) arguments) ++ ends)
    → AllBeyond (start + 1 + 1) (start + 1 + 1 + length (spell_arguments arguments)) ends
    → Judged ends (Goes goes env ident.name (count arguments)) (called_with goes (as_method (meaning_of env ident.name)) ident.pos (count arguments))
    → Judged ((callee_nodes env start (Name ident) (expr_nodes env start (Name ident)) ++ argument_nodes env (start + 1 + 1) (places_of (called_signature env (Name ident))) arguments) ++ ends) (IsMade goes env (Name ident) arguments) (call_in env goes (Name ident) arguments)
named_told env start ident arguments goes ends a r t n b j =
    let at = start + 1 + 1 in
    let places = places_of (called_signature env (Name ident)) in
    let used = token_at env (nodes.UsedName ident) start ∷ [] in
    let all = argument_nodes env at places arguments in
    let parts = named_left (used ++ all) ends n in
    judged_grouped used all ends (IsMade goes env (Name ident) arguments) (call_in env goes (Name ident) arguments)
    (judged_behind used (all ++ ends) (IsMade goes env (Name ident) arguments) (call_in env goes (Name ident) arguments) (silent_sound used (only (sound (kinds.used_name env ident))) (named_left used all parts))
    (judged_then at at (at + length (spell_arguments arguments)) all ends (AreTyped env places arguments) (IsMade goes env (Name ident) arguments) (arguments_in env places arguments)
    (λ (args : List typed_expr.Expr). and_then (called_with goes (as_method (meaning_of env ident.name)) ident.pos (count arguments)) (λ (id : ℕ). Ok (call_from ident args id)))
    (argument_order env at places arguments a) b (arguments_told env at places arguments a r t (named_right used all parts))
    (λ args h.
    judged_map ends (Goes goes env ident.name (count arguments)) (IsMade goes env (Name ident) arguments) (called_with goes (as_method (meaning_of env ident.name)) ident.pos (count arguments)) (λ (id : ℕ). call_from ident args id) j
    (λ id k. (k.0, call_made env ident arguments args id h k.1)))))

-- what is called is no name
pub unnamed_told : (Q : typed.Call → Type 0) (env : Environment) (start : ℕ) (callee : Expr) (arguments : Arguments) (ends : List Occurrence) → IsExpr callee → grammar.AreArguments arguments → AreInRange (spell callee) → AreInRange (spell_arguments arguments)
    → HaveTypes env (names_in callee) → HaveTypes env (names_in_arguments arguments) → called_signature env callee ≡ None
    → NoNames ((expr_nodes env start callee ++ argument_nodes env (start + width callee + 1) [] arguments) ++ ends)
    → AllBeyond start (start + width callee) ends → AllBeyond (start + width callee + 1) (start + width callee + 1 + length (spell_arguments arguments)) ends
    → Met ends (broken Calls (or_start (beginning_of callee)))
    → Judged ((expr_nodes env start callee ++ argument_nodes env (start + width callee + 1) [] arguments) ++ ends) Q (unnamed_call_in env callee arguments)
unnamed_told Q env start callee arguments ends x a r s t u p n b c m =
    let at = start + width callee + 1 in
    let head = expr_nodes env start callee in
    let all = argument_nodes env at [] arguments in
    let parts = named_left (head ++ all) ends n in
    judged_grouped head all ends Q (unnamed_call_in env callee arguments)
    (judged_then start start (start + width callee) head (all ++ ends) (IsTyped env wanteds.Nothing callee) Q (typed_in env wanteds.Nothing callee)
    (λ (t : Typed). and_then (arguments_in env [] arguments) (λ (args : List typed_expr.Expr). Err (broken Calls (or_start (beginning_of callee)))))
    (expr_order env start callee x)
    (beyond_both start (start + width callee) all ends (beyond_segment start (start + width callee) at at (at + length (spell_arguments arguments)) all (argument_order env at [] arguments a) (omega arith)) b)
    (expr_told env start wanteds.Nothing callee x r t (named_left head all parts))
    (λ one h.
    judged_then at at (at + length (spell_arguments arguments)) all ends (AreTyped env [] arguments) Q (arguments_in env [] arguments) (λ (args : List typed_expr.Expr). Err (broken Calls (or_start (beginning_of callee))))
    (argument_order env at [] arguments a) c (arguments_told env at [] arguments a s u (named_right head all parts)) (λ args k. m)))

-- ---- where the ends stand

pub end_beyond : (callee : Expr) (start : ℕ) (arguments : Arguments) (one : Occurrence) → IsEnd callee start arguments one → Beyond (start + width callee + 1) (start + width callee + 1 + length (spell_arguments arguments)) one
end_beyond callee start arguments one (p, q) = inl (omega (arith, q, width_call callee arguments))

pub end_behind : (callee : Expr) (start : ℕ) (arguments : Arguments) (one : Occurrence) → IsEnd callee start arguments one → Beyond start (start + width callee) one
end_behind callee start arguments one (p, q) = inl (omega (arith, q, width_call callee arguments))

-- of what is no name
other_told : (env : Environment) (start : ℕ) (callee : Expr) (arguments : Arguments) → IsExpr (Call callee arguments) → AreInRange (spell (Call callee arguments)) → HaveTypes env (names_in (Call callee arguments)) → called_signature env callee ≡ None
    → NoNames ((expr_nodes env start callee ++ argument_nodes env (start + width callee + 1) [] arguments) ++ call_at env start callee arguments ∷ [])
    → Judged ((expr_nodes env start callee ++ argument_nodes env (start + width callee + 1) [] arguments) ++ call_at env start callee arguments ∷ []) (IsMade true env callee arguments) (unnamed_call_in env callee arguments)
other_told env start callee arguments x r t p n =
    let one = call_at env start callee arguments in
    unnamed_told (IsMade true env callee arguments) env start callee arguments (one ∷ []) x.0 x.2 (all_left (spell callee) _ r) (all_left (spell_arguments arguments) _ (all_right (spell callee) _ r))
    (types_left env (names_in callee) (names_in_arguments arguments) t) (types_right env (names_in callee) (names_in_arguments arguments) t) p n
    (beyond_one start (start + width callee) one (end_behind callee start arguments one (refl, refl)))
    (beyond_one (start + width callee + 1) (start + width callee + 1 + length (spell_arguments arguments)) one (end_beyond callee start arguments one (refl, refl)))
    (met_typing one Calls (or_start (beginning_of callee)) (rw p refl) (calls_only env callee (count arguments) p) (begins_there callee x.0))

-- the arguments of a call that is read
pub arguments_range : (callee : Expr) (arguments : Arguments) → AreInRange (spell (Call callee arguments)) → AreInRange (spell_arguments arguments)
arguments_range callee arguments r = all_left (spell_arguments arguments) closes (all_right (spell callee) (a_sign signs.OpenParenthesis ∷ (spell_arguments arguments ++ closes)) r) where
  closes : List Piece
  closes = a_sign signs.CloseParenthesis ∷ []

-- a call that is a statement
pub call_told : (env : Environment) (start : ℕ) (callee : Expr) (arguments : Arguments) → IsExpr (Call callee arguments) → AreInRange (spell (Call callee arguments)) → HaveTypes env (names_in (Call callee arguments)) → NoNames (call_nodes env start callee arguments)
    → Judged (call_nodes env start callee arguments) (IsMade true env callee arguments) (call_in env true callee arguments)
call_told env start (Name ident) arguments x r t n =
    let one = call_at env start (Name ident) arguments in
    named_told env start ident arguments true (one ∷ []) x.2 (arguments_range (Name ident) arguments r) (types_right env (names_in (Name ident)) (names_in_arguments arguments) t) n
    (beyond_one (start + 1 + 1) (start + 1 + 1 + length (spell_arguments arguments)) one (end_beyond (Name ident) start arguments one (refl, refl)))
    (alone_told env start ident arguments (named_right (callee_nodes env start (Name ident) (expr_nodes env start (Name ident)) ++ argument_nodes env (start + 1 + 1) (places_of (called_signature env (Name ident))) arguments) (one ∷ []) n))
call_told env start (Number literal) arguments x r t n = other_told env start (Number literal) arguments x r t refl n
call_told env start (Character code at) arguments x r t n = other_told env start (Character code at) arguments x r t refl n
call_told env start (Truth value at) arguments x r t n = other_told env start (Truth value at) arguments x r t refl n
call_told env start (Parentheses at inner) arguments x r t n = other_told env start (Parentheses at inner) arguments x r t refl n
call_told env start (Call callee all) arguments x r t n = other_told env start (Call callee all) arguments x r t refl n
call_told env start (Unary operator at operand) arguments x r t n = other_told env start (Unary operator at operand) arguments x r t refl n
call_told env start (Cast operand all) arguments x r t n = other_told env start (Cast operand all) arguments x r t refl n
call_told env start (Operations first rest) arguments x r t n = other_told env start (Operations first rest) arguments x r t refl n
call_told env start (Leading operations) arguments x r t n = other_told env start (Leading operations) arguments x r t refl n
