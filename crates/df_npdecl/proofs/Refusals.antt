-- What is refused spells no file.
use Rattle.std.proofs.Common.{◌≡◌, Bool, true, false, List, [], ◌∷◌, ◌++◌, Option, Some, None, Result, Ok, Err, refl, sym, subst, ap, ◌∙◌}
use Rattle.std.specs.Prelude.{IfOk}
use Rattle.std.specs.List.{AllByRecursion, flat_map}
use Rattle.std.proofs.lemmas.List.Concat.{flat_map-cons}
use Rattle.df_lemmas.proofs.Alls.{all_joined}
use Rattle.df_base.specs.declared.pos.Pos.{Pos}
use Rattle.df_base.specs.declared.refusal.Refusal.{Refusal}
use Rattle.df_base.specs.declared.refusal.Stop.{Stop}
use Rattle.df_base.specs.declared.refusal.Stop.TheVariants as stops
use Rattle.df_tok.specs.declared.token.Kind.{Kind}
use Rattle.df_tok.specs.declared.token.Kind.TheVariants as kinds
use Rattle.df_tok.specs.Token.{Token}
use Rattle.df_tok.specs.declared.sign.Sign.TheVariants as signs
use Rattle.df_tok.specs.declared.word.Word.TheVariants as words
use Rattle.df_ntree.specs.declared.expr.TreeType.{TreeType}
use Rattle.df_ntree.specs.declared.expr.TreeType.TheVariants as types
use Rattle.df_ntree.specs.declared.file.File as declared
use Rattle.df_ntree.specs.declared.file.Local.{Local}
use Rattle.df_ntree.specs.declared.file.Parameter.{Parameter}
use Rattle.df_ntree.specs.declared.expr.BinaryOperator.{BinaryOperator}
use Rattle.df_ntree.specs.declared.expr.BinaryOperator.TheVariants as binary
use Rattle.df_ntree.specs.declared.expr.UnaryOperator.{UnaryOperator}
use Rattle.df_ntree.specs.declared.expr.UnaryOperator.TheVariants as unary
use Rattle.df_ntree.specs.Operator.{sign_of, unary_sign_of}
use Rattle.df_ntree.specs.Spelling.{Piece, Plain, Characters, IsPiece, Begins, a_sign, a_word, word_there, separated, spell_more, optional}
use Rattle.df_ntree.specs.Expr.{Expr, Number, Character, Truth, Name, Parentheses, Call, Unary, Cast, Operations, Leading, Members, end, more, Arguments, no_more, argument}
use Rattle.df_ntree.specs.ExprSpelling.{spell, spell_members, spell_arguments, spell_further, spell_type, spell_cast}
use Rattle.df_ntree.specs.File as pure
use Rattle.df_ntree.specs.File.{Clause, Condition, Decreases, PrintOperand, Text, Value, Statement, Nested, Var, Assign, Expression, If, While, Return, Break, Assert, Print, Statements, done, next, Branches, Otherwise, without, otherwise, Declaration, Newtype, Method, file_of}
use Rattle.df_ntree.specs.FileSpelling.{braces, spell_typing, spell_local, spell_values, spell_operand, spell_clause, spell_statement, spell_statements, spell_branches, spell_otherwise, spell_parameter, spell_parameters, spell_results, spell_typed, spell_witness, spell_declaration, spell_file, SpellsFile}
use Rattle.df_ntree.specs.mirror.FileReading.{file_at}
use Rattle.df_ntree.proofs.FileLaw.{file_sound, file_complete}
use Rattle.df_npexpr.specs.Reads.{Reads, Stops}
use Rattle.df_npdecl.specs.Refusing.{outside_of, or_else, begins_attribute, first_outside_after, first_outside}

-- ---- no word outside the language is spelled

abbrev IsInside : Kind → Type 0
IsInside (kinds.Outside name) = ⊥
IsInside (kinds.Sign signs.OpenAttribute) = ⊥
IsInside _ = Unit {0}

binary_inside : (o : BinaryOperator) → IsInside (kinds.Sign (sign_of o))
binary_inside binary.Iff = tt
binary_inside _ = tt

unary_inside : (o : UnaryOperator) → IsInside (kinds.Sign (unary_sign_of o))
unary_inside unary.Negate = tt
unary_inside unary.Not = tt

abbrev Inside : Piece → Type 0
Inside (Plain kind place) = IsInside kind
Inside (Characters characters) = Unit {0}

abbrev AllIn : List Piece → Type 0
AllIn pieces = AllByRecursion Inside pieces

-- ---- lists

both_in : (a b : List Piece) → AllIn a → AllIn b → AllIn (a ++ b)
both_in a b p q = all_joined Inside a b p q

-- before a sign, and nothing after that
before_in : (a : List Piece) (p : Piece) → AllIn a → Inside p → AllIn (a ++ p ∷ [])
before_in a p h i = both_in a (p ∷ []) h (i, tt)

all_in : {X : Type 0} (spell_one : X → List Piece) → ((x : X) → AllIn (spell_one x)) → (xs : List X) → AllIn (flat_map spell_one xs)
all_in spell_one h [] = tt
all_in spell_one h (x ∷ xs) = rw flat_map-cons (both_in (spell_one x) (flat_map spell_one xs) (h x) (all_in spell_one h xs))

separated_in : {X : Type 0} (spell_one : X → List Piece) → ((x : X) → AllIn (spell_one x)) → (xs : List X) → AllIn (separated spell_one xs)
separated_in spell_one h [] = tt
separated_in spell_one h (x ∷ xs) = both_in (spell_one x) (flat_map (spell_more spell_one) xs) (h x) (all_in (spell_more spell_one) (λ y. (tt, h y)) xs)

optional_in : {X : Type 0} (spell_one : X → List Piece) → ((x : X) → AllIn (spell_one x)) → (o : Option X) → AllIn (optional spell_one o)
optional_in spell_one h None = tt
optional_in spell_one h (Some x) = h x

-- ---- expressions

number_in : (negative : Bool) (n : _) (pos : Pos) → AllIn (spell (Number (record { negative = negative; magnitude = n; pos = pos })))
number_in true n pos = (tt, (tt, tt))
number_in false n pos = (tt, tt)

truth_in : (value : Bool) (pos : Pos) → AllIn (spell (Truth value pos))
truth_in true pos = (tt, tt)
truth_in false pos = (tt, tt)

type_in : (ty : TreeType) → AllIn (spell_type ty)
type_in (types.Basic basic pos) = (tt, tt)
type_in (types.Named ident) = (tt, tt)

cast_in : (ty : TreeType) → AllIn (spell_cast ty)
cast_in ty = (tt, type_in ty)

mutual
  expr_in : (e : Expr) → AllIn (spell e)
  expr_in (Number literal) = number_in literal.negative literal.magnitude literal.pos
  expr_in (Character code pos) = (tt, tt)
  expr_in (Truth value pos) = truth_in value pos
  expr_in (Name ident) = (tt, tt)
  expr_in (Parentheses pos inner) = (tt, before_in (spell inner) (a_sign signs.CloseParenthesis) (expr_in inner) tt)
  expr_in (Call callee arguments) = both_in (spell callee) _ (expr_in callee) (tt, before_in (spell_arguments arguments) (a_sign signs.CloseParenthesis) (arguments_in arguments) tt)
  expr_in (Unary operator pos operand) = (unary_inside operator, expr_in operand)
  expr_in (Cast operand all) = both_in (spell operand) (flat_map spell_cast all) (expr_in operand) (all_in spell_cast cast_in all)
  expr_in (Operations first m) = both_in (spell first) (spell_members m) (expr_in first) (members_in m)
  expr_in (Leading m) = members_in m

  members_in : (m : Members) → AllIn (spell_members m)
  members_in end = tt
  members_in (more o pos operand m) = (binary_inside o, both_in (spell operand) (spell_members m) (expr_in operand) (members_in m))

  arguments_in : (m : Arguments) → AllIn (spell_arguments m)
  arguments_in no_more = tt
  arguments_in (argument e m) = both_in (spell e) (spell_further m) (expr_in e) (further_in m)

  further_in : (m : Arguments) → AllIn (spell_further m)
  further_in no_more = tt
  further_in (argument e m) = (tt, both_in (spell e) (spell_further m) (expr_in e) (further_in m))

-- ---- statements

braces_in : (pos : Pos) (inside : List Piece) → AllIn inside → AllIn (braces pos inside)
braces_in pos inside h = (tt, before_in inside (a_sign signs.CloseBrace) h tt)

typing_in : (ty : TreeType) → AllIn (spell_typing ty)
typing_in ty = (tt, type_in ty)

local_in : (x : Local) → AllIn (spell_local x)
local_in x = (tt, optional_in spell_typing typing_in x.ty)

values_in : (es : List Expr) → AllIn (spell_values es)
values_in [] = tt
values_in (e ∷ es) = (tt, separated_in spell expr_in (e ∷ es))

operand_in : (x : PrintOperand) → AllIn (spell_operand x)
operand_in (Text characters) = (tt, tt)
operand_in (Value e) = expr_in e

clause_in : (x : Clause) → AllIn (spell_clause x)
clause_in (Condition kind pos e) = (tt, expr_in e)
clause_in (Decreases pos es) = (tt, separated_in spell expr_in es)

mutual
  statement_in : (x : Statement) → AllIn (spell_statement x)
  statement_in (Nested pos body) = braces_in pos (spell_statements body) (statements_in body)
  statement_in (Var pos locals es) = (tt, both_in (separated spell_local locals) _ (separated_in spell_local local_in locals) (before_in (spell_values es) (a_sign signs.Semicolon) (values_in es) tt))
  statement_in (Assign targets es) = both_in (separated spell targets) _ (separated_in spell expr_in targets) (before_in (spell_values es) (a_sign signs.Semicolon) (values_in es) tt)
  statement_in (Expression e) = before_in (spell e) (a_sign signs.Semicolon) (expr_in e) tt
  statement_in (If pos guard opens body others last) = (
    tt,
    both_in (spell guard ++ braces opens (spell_statements body)) _ (both_in (spell guard) _ (expr_in guard) (braces_in opens (spell_statements body) (statements_in body)))
        (both_in (spell_branches others) (spell_otherwise last) (branches_in others) (otherwise_in last)),
  )
  statement_in (While pos guard clauses opens body) =
      (tt, both_in (spell guard) _ (expr_in guard) (both_in (flat_map spell_clause clauses) _ (all_in spell_clause clause_in clauses) (braces_in opens (spell_statements body) (statements_in body))))
  statement_in (Return pos es) = (tt, before_in (separated spell es) (a_sign signs.Semicolon) (separated_in spell expr_in es) tt)
  statement_in (Break pos) = (tt, (tt, tt))
  statement_in (Assert pos condition) = (tt, before_in (spell condition) (a_sign signs.Semicolon) (expr_in condition) tt)
  statement_in (Print pos operands) = (tt, before_in (separated spell_operand operands) (a_sign signs.Semicolon) (separated_in spell_operand operand_in operands) tt)

  statements_in : (m : Statements) → AllIn (spell_statements m)
  statements_in done = tt
  statements_in (next x rest) = both_in (spell_statement x) (spell_statements rest) (statement_in x) (statements_in rest)

  branches_in : (m : Branches) → AllIn (spell_branches m)
  branches_in pure.end = tt
  branches_in (pure.more pos guard opens body rest) =
      both_in (a_word words.Else ∷ word_there words.If pos ∷ (spell guard ++ braces opens (spell_statements body))) (spell_branches rest) (tt, (tt, both_in (spell guard) _ (expr_in guard) (braces_in opens (spell_statements body) (statements_in body)))) (branches_in rest)

  otherwise_in : (o : Otherwise) → AllIn (spell_otherwise o)
  otherwise_in without = tt
  otherwise_in (otherwise opens body) = (tt, braces_in opens (spell_statements body) (statements_in body))

-- ---- declarations

parameter_in : (x : Parameter) → AllIn (spell_parameter x)
parameter_in x = (tt, typing_in x.ty)

parameters_in : (xs : List Parameter) → AllIn (spell_parameters xs)
parameters_in xs = (tt, before_in (separated spell_parameter xs) (a_sign signs.CloseParenthesis) (separated_in spell_parameter parameter_in xs) tt)

typed_in : (b : Bool) → AllIn (spell_typed b)
typed_in true = (tt, (tt, tt))
typed_in false = tt

declaration_in : (x : Declaration) → AllIn (spell_declaration x)
declaration_in (Newtype x) = (
  tt,
  (
    tt,
    (
      tt,
      (
        tt,
        both_in (spell_typed x.is_typed) _ (typed_in x.is_typed)
            (both_in (a_sign signs.Bar ∷ spell x.predicate) (optional spell_witness x.witness) (tt, expr_in x.predicate) (optional_in spell_witness (λ e. (tt, expr_in e)) x.witness)),
      ),
    ),
  ),
)
declaration_in (Method x) = (
  tt,
  (
    tt,
    both_in (spell_parameters x.parameters) _ (parameters_in x.parameters)
        (both_in (optional spell_results x.results) _ (optional_in spell_results (λ xs. (tt, parameters_in xs)) x.results)
        (both_in (flat_map spell_clause x.clauses) _ (all_in spell_clause clause_in x.clauses) (braces_in x.body.pos (spell_statements x.body.statements) (statements_in x.body.statements)))),
  ),
)

-- ---- tokens

inside_kind : (kind : Kind) (text : List _) (pos : Pos) → IsInside kind → outside_of (record { kind = kind; text = text; pos = pos }) ≡ None
inside_kind (kinds.Outside name) text pos h = absurd h
inside_kind _ text pos h = refl

kind_quiet : (kind : Kind) → IsInside kind → begins_attribute kind ≡ false
kind_quiet (kinds.Sign signs.OpenAttribute) h = absurd h
kind_quiet _ h = refl

meets_inside : (piece : Piece) (t : Token) → Inside piece → IsPiece piece t → IsInside t.kind
meets_inside (Plain kind place) t h m = subst IsInside (sym (m.0)) h
meets_inside (Characters cs) t h m = subst IsInside (sym (m.0)) tt

all_inside : (pieces : List Piece) (tokens : List Token) → AllIn pieces → Begins pieces tokens [] → first_outside tokens ≡ None
all_inside [] [] h m = refl
all_inside [] (t ∷ tokens) h m = absurd cc
all_inside (p ∷ pieces) [] h m = absurd m
all_inside (p ∷ pieces) (t ∷ tokens) h m =
    let is = meets_inside p t h.0 m.0 in
    ap (λ (o : Option Refusal). or_else o (first_outside_after (begins_attribute t.kind) tokens)) (inside_kind t.kind t.text t.pos is)
    ∙ ap (λ (b : Bool). first_outside_after b tokens) (kind_quiet t.kind is) ∙ all_inside pieces tokens h.1 m.1

-- a word outside the language is in no file
pub outside_spells_none : (tokens : List Token) (r : Refusal) (file : pure.File) → first_outside tokens ≡ Some r → SpellsFile file tokens → ⊥
outside_spells_none tokens r file e s = let n = all_inside (spell_file file) tokens (all_in spell_declaration declaration_in file.declarations) s.1 in absurd cc

-- what was read is spelled
pub read_is_spelled : (tokens : List Token) (result : Result declared.File Stop) → Reads file_of result (file_at tokens) → IfOk result (λ file. SpellsFile (file_of file) tokens)
read_is_spelled tokens (Ok file) h = file_sound (file_of file) tokens h
read_is_spelled tokens (Err stop) h = tt

stopped : (tokens : List Token) (r : Refusal) (stop : Stop) (file : pure.File) → stop ≡ stops.Refused r → Stops stop (file_at tokens) → SpellsFile file tokens → ⊥
stopped tokens r stops.Memory file e h s = absurd cc
stopped tokens r (stops.Refused other) file e h s = let k = file_complete file tokens s in let n = h.0 in absurd cc

abbrev error : Stop → Result declared.File Stop
error stop = Err stop

same_stop : (a b : Stop) → error a ≡ error b → a ≡ b
same_stop a b e = cc

-- where reading stopped, no file is spelled
pub refused_spells_none : (tokens : List Token) (result : Result declared.File Stop) (r : Refusal) (file : pure.File) → Reads file_of result (file_at tokens) → result ≡ Err (stops.Refused r) → SpellsFile file tokens → ⊥
refused_spells_none tokens (Ok x) r file h e s = absurd cc
refused_spells_none tokens (Err stop) r file h e s = stopped tokens r stop file (same_stop stop (stops.Refused r) e) h s
