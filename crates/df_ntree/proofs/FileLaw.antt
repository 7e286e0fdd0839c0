-- Reading finds a file exactly where the tokens spell it.
use Rattle.std.proofs.Common.{◌≡◌, ◌<◌, Bool, true, false, cond, not, List, [], ◌∷◌, ◌++◌, length, Option, Some, None, refl, sym, ap, subst, ◌∙◌, arith}
use Rattle.std.specs.List.{AllByRecursion, flat_map}
use Rattle.df_tok.specs.declared.word.Word.TheVariants as words
use Rattle.df_tok.specs.declared.sign.Sign.TheVariants as signs
use Rattle.df_tok.specs.declared.token.Kind.{Kind}
use Rattle.df_tok.specs.declared.token.Kind.TheVariants as kinds
use Rattle.df_tok.specs.Token.{Token}
use Rattle.df_ntree.specs.declared.tree.Ident.{Ident}
use Rattle.df_ntree.specs.declared.expr.TreeType.{TreeType}
use Rattle.df_ntree.specs.declared.file.Parameter.{Parameter}
use Rattle.df_ntree.specs.Spelling.{Piece, Begins, a_word, a_sign, a_name, separated, optional, IsOption}
use Rattle.df_ntree.specs.Expr.{Expr}
use Rattle.df_ntree.specs.ExprSpelling.{spell, spell_type, height_limit}
use Rattle.df_ntree.specs.declared.file.ConditionKind.TheVariants as conditions
use Rattle.df_ntree.specs.File.{Clause, Condition, Decreases, NewtypeDeclaration, MethodDeclaration, Declaration, Newtype, Method, File}
use Rattle.df_ntree.specs.FileSpelling.{spell_typing, spell_clause, spell_parameter, spell_parameters, spell_results, spell_typed, spell_witness, spell_newtype, spell_method, spell_declaration, IsOuterClause, IsBody, IsOuterExpr, IsDeclaration, SpellsFile}
use Rattle.df_ntree.specs.mirror.Reading.{◌>>=◌, name_at, kind_at, kind_is_word, kind_is_sign, word_stands, sign_stands, is_open, some_stands, given, both, after_word, after_sign, many, one_or_more}
use Rattle.df_ntree.specs.mirror.ExprReading.{type_at, expression_at}
use Rattle.df_ntree.specs.mirror.FileReading.{clause_stands, clause_at, block_at, parameter_at, parameters_in, parameters_at, results_at, typed_at, witness_at, newtype_head_at, predicate_at, newtype_from, newtype_at, method_head_at, method_from, method_at, declaration_by, declaration_at, file_at}
use Rattle.df_ntree.proofs.Repeat.{bind_some, found, got, finish, some_is}
use Rattle.df_ntree.proofs.Tokens.{kind_there, head_there}
use Rattle.df_ntree.proofs.Readers.{ReadsAs, Joins, Anything, Any, both_reads, pair_reads, word_reads, sign_reads, before_reads, made_sound, made_complete, made_reads, retold, narrowed, option_reads, NotThen, Sibling, many_reads, many_stops, word_shows, sign_shows, one_or_more_reads, where_reads, name_reads}
use Rattle.df_ntree.proofs.ExprTokens.{NoneContinues, none_by, none_at_end}
use Rattle.df_ntree.proofs.ExprTypes.{type_reads}
use Rattle.df_ntree.proofs.ExprWhole.{expression_reads}
use Rattle.df_ntree.proofs.FileParts.{no_more, clause_kind, clause_there}
use Rattle.df_ntree.proofs.FileNesting.{block_there, Claused, spell_claused, IsClaused, claused_reads, before_claused, levels}

-- ---- parameters

pub parameter_reads : ReadsAs parameter_at spell_parameter (Anything {X = Parameter}) Any
unfolding parameter_at
parameter_reads =
    made_reads (λ (x : Ident × TreeType). record { name = x.0; ty = x.1 }) (λ (y : Parameter). (y.name, y.ty)) (both name_at (after_sign signs.Colon type_at)) (λ (x : Ident × TreeType). (a_name x.0 ∷ []) ++ spell_typing x.1) (λ (x : Ident × TreeType). Anything x.0 × Anything x.1) Any spell_parameter (Anything {X = Parameter})
    (pair_reads name_at (after_sign signs.Colon type_at) (λ (x : Ident). a_name x ∷ []) spell_typing (Anything {X = Ident}) (Anything {X = TreeType}) Any name_reads (sign_reads signs.Colon type_at spell_type (Anything {X = TreeType}) Any type_reads))
    (λ x tokens rest starts is. (starts, tt)) (λ y tokens rest starts is. (starts, (tt, tt))) (λ y is. refl)

-- a parenthesis closes there
abbrev Closes : List Token → Type 0
Closes tokens = kind_at tokens ≡ Some (kinds.Sign signs.CloseParenthesis)

all_any : (xs : List Parameter) → AllByRecursion (Anything {X = Parameter}) xs
all_any [] = tt
all_any (x ∷ xs) = (tt, all_any xs)

abbrev AfterParameters : List Token → Type 0
AfterParameters = NotThen (is_open signs.CloseParenthesis) (NotThen (sign_stands signs.Comma) Any)

in_reads : ReadsAs parameters_in (separated spell_parameter) (Anything {X = List Parameter}) Closes
unfolding parameters_in
in_reads =
    narrowed parameters_in (separated spell_parameter) (Anything {X = List Parameter}) AfterParameters Closes
    (retold parameters_in (separated spell_parameter) (AllByRecursion (Anything {X = Parameter})) (Anything {X = List Parameter}) AfterParameters
    (where_reads (is_open signs.CloseParenthesis) (one_or_more parameter_at) (separated spell_parameter) (Anything {X = Parameter}) (NotThen (sign_stands signs.Comma) Any)
    (one_or_more_reads parameter_at spell_parameter (Anything {X = Parameter}) Any parameter_reads (λ _ _ _ _. tt)) refl
    (λ x xs tokens rest starts are. ap (λ (k : Option Kind). not (kind_is_sign signs.CloseParenthesis k)) (head_there (separated spell_parameter (x ∷ xs)) (kinds.Name x.name.name) tokens rest refl starts)))
    (λ _ _. tt) (λ xs is. all_any xs))
    (λ tokens h. (ap (λ (k : Option Kind). not (kind_is_sign signs.CloseParenthesis k)) h, (ap (kind_is_sign signs.Comma) h, tt)))

pub parameters_reads : ReadsAs parameters_at spell_parameters (Anything {X = List Parameter}) Any
unfolding parameters_at
parameters_reads =
    sign_reads signs.OpenParenthesis _ (λ (xs : List Parameter). separated spell_parameter xs ++ a_sign signs.CloseParenthesis ∷ []) (Anything {X = List Parameter}) Any
    (before_reads signs.CloseParenthesis parameters_in (separated spell_parameter) (Anything {X = List Parameter}) Closes in_reads (λ tokens rest starts. kind_there (kinds.Sign signs.CloseParenthesis) None [] tokens rest starts))

-- ---- methods

abbrev NoReturns : List Token → Type 0
NoReturns = NotThen (word_stands words.Returns) Any

clause_no_returns : (x : Clause) (tokens rest : List Token) → Begins (spell_clause x) tokens rest → NoReturns tokens
clause_no_returns x tokens rest starts = (ap (kind_is_word words.Returns) (clause_there x tokens rest starts) ∙ no_returns x, tt)
  where
    no_returns : (y : Clause) → kind_is_word words.Returns (Some (clause_kind y)) ≡ false
    no_returns (Condition conditions.Requires pos e) = refl
    no_returns (Condition _ pos e) = refl
    no_returns (Decreases pos es) = refl

before_contract : Joins spell_claused (IsClaused height_limit) Any NoReturns
before_contract = before_claused NoReturns height_limit clause_no_returns (λ x tokens rest starts. (ap (kind_is_word words.Returns) (block_there x tokens rest starts), tt))

contract_reads : ReadsAs (both (many clause_stands (clause_at height_limit)) (block_at height_limit)) spell_claused (IsClaused height_limit) Any
contract_reads = claused_reads height_limit (block_at height_limit) (levels height_limit).blocks

results_reads : ReadsAs results_at (optional spell_results) (IsOption (Anything {X = List Parameter})) NoReturns
unfolding results_at
results_reads =
    option_reads (word_stands words.Returns) (after_word words.Returns parameters_at) spell_results (Anything {X = List Parameter}) Any (word_reads words.Returns parameters_at spell_parameters (Anything {X = List Parameter}) Any parameters_reads)
    (λ x tokens rest starts is. word_shows words.Returns (kinds.Word words.Returns) None (spell_parameters x) tokens rest true refl starts)

any_results : (o : Option (List Parameter)) → IsOption (Anything {X = List Parameter}) o
any_results None = tt
any_results (Some xs) = tt

abbrev Head : Type 0
Head = Ident × List Parameter

abbrev spell_method_head : Head → List Piece
spell_method_head x = a_word words.Method ∷ ((a_name x.0 ∷ []) ++ spell_parameters x.1)

abbrev IsHead : Head → Type 0
IsHead x = Anything x.0 × Anything x.1

method_head_reads : ReadsAs method_head_at spell_method_head IsHead Any
unfolding method_head_at
method_head_reads =
    word_reads words.Method _ (λ (x : Head). (a_name x.0 ∷ []) ++ spell_parameters x.1) IsHead Any
    (pair_reads name_at parameters_at (λ (x : Ident). a_name x ∷ []) spell_parameters (Anything {X = Ident}) (Anything {X = List Parameter}) Any name_reads parameters_reads)

abbrev Tail : Type 0
Tail = Option (List Parameter) × Claused

abbrev spell_tail : Tail → List Piece
spell_tail x = optional spell_results x.0 ++ spell_claused x.1

abbrev IsTail : Tail → Type 0
IsTail x = IsOption (Anything {X = List Parameter}) x.0 × IsClaused height_limit x.1

tail_reads : ReadsAs (both results_at (both (many clause_stands (clause_at height_limit)) (block_at height_limit))) spell_tail IsTail Any
tail_reads = both_reads results_at (both (many clause_stands (clause_at height_limit)) (block_at height_limit)) (optional spell_results) spell_claused (IsOption (Anything {X = List Parameter})) (IsClaused height_limit) NoReturns Any results_reads contract_reads before_contract

abbrev IsMethod : MethodDeclaration → Type 0
IsMethod x = AllByRecursion IsOuterClause x.clauses × IsBody x.body

method_reads : ReadsAs method_at spell_method IsMethod Any
unfolding method_at
method_reads =
    made_reads method_from (λ (y : MethodDeclaration). ((y.name, y.parameters), (y.results, (y.clauses, y.body)))) (both method_head_at (both results_at (both (many clause_stands (clause_at height_limit)) (block_at height_limit)))) (λ (x : Head × Tail). spell_method_head x.0 ++ spell_tail x.1) (λ (x : Head × Tail). IsHead x.0 × IsTail x.1) Any spell_method IsMethod
    (pair_reads method_head_at (both results_at (both (many clause_stands (clause_at height_limit)) (block_at height_limit))) spell_method_head spell_tail IsHead IsTail Any method_head_reads tail_reads)
    (λ x tokens rest starts is. (starts, is.1.1)) (λ y tokens rest starts is. (starts, ((tt, tt), (any_results y.results, is)))) (λ y is. refl)

-- ---- newtypes

abbrev NoColon : List Token → Type 0
NoColon tokens = sign_stands signs.Colon tokens ≡ false

int_reads : ReadsAs (after_sign signs.Colon (after_word words.Int (given true))) (λ (b : Bool). a_sign signs.Colon ∷ a_word words.Int ∷ []) (λ (b : Bool). b ≡ true) Any
int_reads =
    sign_reads signs.Colon _ (λ (b : Bool). a_word words.Int ∷ []) (λ (b : Bool). b ≡ true) Any
    (word_reads words.Int (given true) (λ (b : Bool). []) (λ (b : Bool). b ≡ true) Any
    (record {
      sound = λ x tokens rest e. finish (λ (y : Bool) (ts : List Token). (tokens ≡ ts) × (y ≡ true)) true x tokens rest e (refl, refl);
      complete = λ x tokens rest starts is after. ap (λ (ts : List Token). got true ts) starts ∙ ap (λ (b : Bool). got b rest) (sym is);
    }))

typed_reads : ReadsAs typed_at spell_typed (Anything {X = Bool}) NoColon
unfolding typed_at
typed_reads = record { sound = λ x tokens rest e. reads (sign_stands signs.Colon tokens) x tokens rest e; complete = finds }
  where
    reads : (b : Bool) (x : Bool) (tokens rest : List Token) → cond b (after_sign signs.Colon (after_word words.Int (given true)) tokens) (got false tokens) ≡ Some (x, rest) → Begins (spell_typed x) tokens rest × Anything x
    reads true x tokens rest e = let s = int_reads.sound x tokens rest e in (subst (λ (y : Bool). Begins (spell_typed y) tokens rest) (sym s.1) s.0, tt)
    reads false x tokens rest e = finish (λ (y : Bool) (ts : List Token). Begins (spell_typed y) tokens ts × Anything y) false x tokens rest e (refl, tt)

    finds : (x : Bool) (tokens rest : List Token) → Begins (spell_typed x) tokens rest → Anything x → NoColon rest → typed_at tokens ≡ Some (x, rest)
    finds true tokens rest starts is after =
        ap (λ (b : Bool). cond b (after_sign signs.Colon (after_word words.Int (given true)) tokens) (got false tokens)) (sign_shows signs.Colon (kinds.Sign signs.Colon) None (a_word words.Int ∷ []) tokens rest true refl starts)
        ∙ int_reads.complete true tokens rest starts refl tt
    finds false tokens rest starts is after =
        ap (λ (b : Bool). cond b (after_sign signs.Colon (after_word words.Int (given true)) tokens) (got false tokens)) (ap (λ (ts : List Token). sign_stands signs.Colon ts) starts ∙ after) ∙ ap (λ (ts : List Token). got false ts) starts

-- neither an operator nor a witness stands there
abbrev pub NoWitness : List Token → Type 0
NoWitness = NotThen (word_stands words.Witness) NoneContinues

witness_reads : ReadsAs witness_at (optional spell_witness) (IsOption IsOuterExpr) NoWitness
unfolding witness_at
witness_reads =
    option_reads (word_stands words.Witness) (after_word words.Witness (expression_at height_limit)) spell_witness IsOuterExpr NoneContinues (word_reads words.Witness (expression_at height_limit) spell IsOuterExpr NoneContinues (expression_reads height_limit))
    (λ x tokens rest starts is. word_shows words.Witness (kinds.Word words.Witness) None (spell x) tokens rest true refl starts)

abbrev spell_predicate : Expr → List Piece
spell_predicate e = a_sign signs.Bar ∷ spell e

predicate_reads : ReadsAs predicate_at spell_predicate IsOuterExpr NoneContinues
unfolding predicate_at
predicate_reads = sign_reads signs.Bar (expression_at height_limit) spell IsOuterExpr NoneContinues (expression_reads height_limit)

before_witness : Joins (optional spell_witness) (IsOption IsOuterExpr) NoWitness NoneContinues
before_witness None tokens rest starts is after = subst NoneContinues (sym starts) after.1
before_witness (Some e) tokens rest starts is after = no_more (kinds.Word words.Witness) None (spell e) tokens rest refl starts

abbrev Range : Type 0
Range = Expr × Option Expr

abbrev spell_range : Range → List Piece
spell_range x = spell_predicate x.0 ++ optional spell_witness x.1

abbrev IsRange : Range → Type 0
IsRange x = IsOuterExpr x.0 × IsOption IsOuterExpr x.1

before_range : Joins spell_range IsRange NoWitness NoColon
before_range x tokens rest starts is after = sign_shows signs.Colon (kinds.Sign signs.Bar) None (spell x.0 ++ optional spell_witness x.1) tokens rest false refl starts

range_reads : ReadsAs (both predicate_at witness_at) spell_range IsRange NoWitness
range_reads = both_reads predicate_at witness_at spell_predicate (optional spell_witness) IsOuterExpr (IsOption IsOuterExpr) NoneContinues NoWitness predicate_reads witness_reads before_witness

abbrev Names : Type 0
Names = Ident × Ident

abbrev spell_names : Names → List Piece
spell_names x = a_word words.Newtype ∷ ((a_name x.0 ∷ []) ++ a_sign signs.Define ∷ a_name x.1 ∷ [])

abbrev AreNames : Names → Type 0
AreNames x = Anything x.0 × Anything x.1

names_reads : ReadsAs newtype_head_at spell_names AreNames Any
unfolding newtype_head_at
names_reads =
    word_reads words.Newtype _ (λ (x : Names). (a_name x.0 ∷ []) ++ a_sign signs.Define ∷ a_name x.1 ∷ []) AreNames Any
    (both_reads name_at (after_sign signs.Define name_at) (λ (x : Ident). a_name x ∷ []) (λ (x : Ident). a_sign signs.Define ∷ a_name x ∷ []) (Anything {X = Ident}) (Anything {X = Ident}) Any Any name_reads (sign_reads signs.Define name_at (λ (x : Ident). a_name x ∷ []) (Anything {X = Ident}) Any name_reads) (λ _ _ _ _ _ _. tt))

abbrev spell_typed_range : Bool × Range → List Piece
spell_typed_range x = spell_typed x.0 ++ spell_range x.1

abbrev IsTypedRange : Bool × Range → Type 0
IsTypedRange x = Anything x.0 × IsRange x.1

typed_range_reads : ReadsAs (both typed_at (both predicate_at witness_at)) spell_typed_range IsTypedRange NoWitness
typed_range_reads = both_reads typed_at (both predicate_at witness_at) spell_typed spell_range (Anything {X = Bool}) IsRange NoColon NoWitness typed_reads range_reads before_range

abbrev IsNewtype : NewtypeDeclaration → Type 0
IsNewtype x = IsOuterExpr x.predicate × IsOption IsOuterExpr x.witness

newtype_reads : ReadsAs newtype_at spell_newtype IsNewtype NoWitness
unfolding newtype_at
newtype_reads =
    made_reads newtype_from (λ (y : NewtypeDeclaration). ((y.name, y.variable), (y.is_typed, (y.predicate, y.witness)))) (both newtype_head_at (both typed_at (both predicate_at witness_at))) (λ (x : Names × (Bool × Range)). spell_names x.0 ++ spell_typed_range x.1) (λ (x : Names × (Bool × Range)). AreNames x.0 × IsTypedRange x.1) NoWitness spell_newtype IsNewtype
    (both_reads newtype_head_at (both typed_at (both predicate_at witness_at)) spell_names spell_typed_range AreNames IsTypedRange Any NoWitness names_reads typed_range_reads (λ _ _ _ _ _ _. tt))
    (λ x tokens rest starts is. (starts, is.1.1)) (λ y tokens rest starts is. (starts, ((tt, tt), (tt, is)))) (λ y is. refl)

-- ---- declarations

declaration_sound_by : (k : Option Kind) (x : Declaration) (tokens rest : List Token) → declaration_by k tokens ≡ Some (x, rest) → Begins (spell_declaration x) tokens rest × IsDeclaration x
declaration_sound_by (Some (kinds.Word words.Newtype)) x tokens rest e =
    let m = made_sound Newtype newtype_at spell_newtype IsNewtype NoWitness newtype_reads x tokens rest e in
    subst (λ (y : Declaration). Begins (spell_declaration y) tokens rest × IsDeclaration y) m.same (m.starts, m.is)
declaration_sound_by (Some (kinds.Word words.Method)) x tokens rest e =
    let m = made_sound Method method_at spell_method IsMethod Any method_reads x tokens rest e in
    subst (λ (y : Declaration). Begins (spell_declaration y) tokens rest × IsDeclaration y) m.same (m.starts, m.is)
declaration_sound_by _ x tokens rest e = absurd cc

newtype_kind : (x : NewtypeDeclaration) (tokens rest : List Token) → Begins (spell_newtype x) tokens rest → kind_at tokens ≡ Some (kinds.Word words.Newtype)
newtype_kind x tokens rest starts = head_there (spell_newtype x) (kinds.Word words.Newtype) tokens rest refl starts

method_kind : (x : MethodDeclaration) (tokens rest : List Token) → Begins (spell_method x) tokens rest → kind_at tokens ≡ Some (kinds.Word words.Method)
method_kind x tokens rest starts = head_there (spell_method x) (kinds.Word words.Method) tokens rest refl starts

declaration_complete : (x : Declaration) (tokens rest : List Token) → Begins (spell_declaration x) tokens rest → IsDeclaration x → NoWitness rest → declaration_by (kind_at tokens) tokens ≡ Some (x, rest)
declaration_complete (Newtype x) tokens rest starts is after =
    ap (λ (k : Option Kind). declaration_by k tokens) (newtype_kind x tokens rest starts) ∙ made_complete Newtype newtype_at spell_newtype IsNewtype NoWitness newtype_reads x tokens rest starts is after
declaration_complete (Method x) tokens rest starts is after =
    ap (λ (k : Option Kind). declaration_by k tokens) (method_kind x tokens rest starts) ∙ made_complete Method method_at spell_method IsMethod Any method_reads x tokens rest starts is tt

pub declaration_reads : ReadsAs declaration_at spell_declaration IsDeclaration NoWitness
unfolding declaration_at
declaration_reads = record {
  sound = λ x tokens rest e. declaration_sound_by (kind_at tokens) x tokens rest e;
  complete = λ x tokens rest starts is after. declaration_complete x tokens rest starts is after;
}

declaration_kind : (x : Declaration) (tokens rest : List Token) → Begins (spell_declaration x) tokens rest → (some_stands tokens ≡ true) × NoWitness tokens
declaration_kind (Newtype x) [] rest starts = absurd starts
declaration_kind (Method x) [] rest starts = absurd starts
declaration_kind (Newtype x) (t ∷ tokens) rest starts = (refl, (ap (kind_is_word words.Witness) (newtype_kind x (t ∷ tokens) rest starts), none_by (kinds.Word words.Newtype) (t ∷ tokens) refl (newtype_kind x (t ∷ tokens) rest starts)))
declaration_kind (Method x) (t ∷ tokens) rest starts = (refl, (ap (kind_is_word words.Witness) (method_kind x (t ∷ tokens) rest starts), none_by (kinds.Word words.Method) (t ∷ tokens) refl (method_kind x (t ∷ tokens) rest starts)))

declaration_long : (x : Declaration) → 0 < length (spell_declaration x)
declaration_long (Newtype x) = omega arith
declaration_long (Method x) = omega arith

pub declaration_sibling : Sibling spell_declaration IsDeclaration NoWitness some_stands
declaration_sibling = record {
  shows = λ x tokens rest starts is. (declaration_kind x tokens rest starts).0;
  begins = λ x tokens rest starts is. (declaration_kind x tokens rest starts).1;
  long = λ x is. declaration_long x;
}

pub declarations_read : ReadsAs (many some_stands declaration_at) (flat_map spell_declaration) (AllByRecursion IsDeclaration) (NotThen some_stands NoWitness)
declarations_read = many_reads some_stands declaration_at spell_declaration IsDeclaration NoWitness declaration_reads declaration_sibling

-- ---- files

none_left : (tokens : List Token) → some_stands tokens ≡ false → tokens ≡ []
none_left [] h = refl
none_left (t ∷ tokens) h = absurd cc

at_end : NotThen some_stands NoWitness []
at_end = (refl, (refl, none_at_end))

-- what is read is spelled by the tokens
pub file_sound : (x : File) (tokens : List Token) → file_at tokens ≡ Some x → SpellsFile x tokens
unfolding file_at
file_sound x tokens e =
    let p = bind_some (many some_stands declaration_at tokens) (λ y. found {A = File} (record { declarations = y.0 })) x e in
    let s = declarations_read.sound p.0.0 tokens p.0.1 p.1 in
    let none = none_left p.0.1 (many_stops some_stands declaration_at p.0.0 tokens p.0.1 p.1) in
    subst (λ (y : File). SpellsFile y tokens) (some_is {A = File} (record { declarations = p.0.0 }) x p.2)
    (s.1, subst (λ (ts : List Token). Begins (flat_map spell_declaration p.0.0) tokens ts) none s.0)

-- and what the tokens spell is read
pub file_complete : (x : File) (tokens : List Token) → SpellsFile x tokens → file_at tokens ≡ Some x
unfolding file_at
file_complete x tokens spells =
    ap (λ (o : Option (List Declaration × List Token)). o >>= λ y. found {A = File} (record { declarations = y.0 })) (declarations_read.complete x.declarations tokens [] spells.1 spells.0 at_end)

pub same_file : (tokens : List Token) (file other : File) → SpellsFile file tokens → SpellsFile other tokens → file ≡ other
same_file tokens file other s o = some_is file other (sym (file_complete file tokens s) ∙ file_complete other tokens o)
