-- The first token of an expression.
use Rattle.std.proofs.Common.{◌≡◌, ℕ, ◌≤◌, ◌<◌, Bool, true, false, not, List, [], ◌∷◌, ◌++◌, Option, Some, None, refl, sym, ap, ◌∙◌, arith}
use Rattle.df_base.specs.declared.pos.Pos.{Pos}
use Rattle.std.specs.List.{flat_map}
use Rattle.df_tok.specs.declared.sign.Sign.TheVariants as signs
use Rattle.df_tok.specs.declared.token.Kind.{Kind}
use Rattle.df_tok.specs.declared.token.Kind.TheVariants as kinds
use Rattle.df_tok.specs.Token.{Token}
use Rattle.df_ntree.specs.declared.expr.BinaryOperator.{BinaryOperator}
use Rattle.df_ntree.specs.declared.expr.BinaryOperator.TheVariants as binary
use Rattle.df_ntree.specs.declared.expr.UnaryOperator.{UnaryOperator}
use Rattle.df_ntree.specs.declared.expr.UnaryOperator.TheVariants as unary
use Rattle.df_ntree.specs.declared.expr.Level.TheVariants as levels
use Rattle.df_ntree.specs.Operator.{sign_of, unary_sign_of, group_of, level_of}
use Rattle.df_ntree.specs.Spelling.{Plain, Begins, a_sign}
use Rattle.df_ntree.specs.Expr.{Expr, Number, Character, Truth, Name, Parentheses, Call, Unary, Cast, Operations, Leading, Members, end, more}
use Rattle.df_ntree.specs.ExprSpelling.{truth_kind, spell, spell_members, spell_arguments, spell_cast, rank_of, rank_of_number, IsExpr}
use Rattle.df_ntree.specs.mirror.Reading.{kind_at, is_sign, kind_is_sign, is_open}
use Rattle.df_ntree.specs.mirror.ExprReading.{operator_of, operator_by, operator_at, unary_by, optional_unary}
use Rattle.df_ntree.proofs.Repeat.{some_is, differ}
use Rattle.df_ntree.proofs.Tokens.{Begins-parts, kind_there}
use Rattle.df_ntree.proofs.ExprTokens.{by_complete, at_sound, rank_begins, operations_rank, optional_unary_stays}

-- what an expression may begin with: an atom, a sign before an operand, or an operator before the first of a row
pub data First : Type 0 where
  number : ℕ → First
  character : ℕ → First
  truth : Bool → First
  name : ℕ → First
  parenthesis : First
  sign : UnaryOperator → First
  operator : BinaryOperator → First

abbrev pub first_kind : First → Kind
first_kind (number n) = kinds.Number n
first_kind (character code) = kinds.Character code
first_kind (truth value) = truth_kind value
first_kind (name n) = kinds.Name n
first_kind parenthesis = kinds.Sign signs.OpenParenthesis
first_kind (sign o) = kinds.Sign (unary_sign_of o)
first_kind (operator o) = kinds.Sign (sign_of o)

abbrev first_of_number : Bool → ℕ → First
first_of_number true n = sign unary.Negate
first_of_number false n = number n

-- a row without operators is in no expression of the grammar
abbrev first_of_members : Members → First
first_of_members end = parenthesis
first_of_members (more o pos operand m) = operator o

abbrev pub first_of : Expr → First
first_of (Number literal) = first_of_number literal.negative literal.magnitude
first_of (Character code pos) = character code
first_of (Truth value pos) = truth value
first_of (Name ident) = name ident.name
first_of (Parentheses pos inner) = parenthesis
first_of (Call callee arguments) = first_of callee
first_of (Unary o pos operand) = sign o
first_of (Cast operand all) = first_of operand
first_of (Operations first m) = first_of first
first_of (Leading m) = first_of_members m

number_first : (negative : Bool) (n : ℕ) (pos : Pos) (tokens rest : List Token) → Begins (spell (Number (record { negative = negative; magnitude = n; pos = pos }))) tokens rest → kind_at tokens ≡ Some (first_kind (first_of_number negative n))
number_first true n pos tokens rest b = kind_there (kinds.Sign signs.Minus) (Some pos) (Plain (kinds.Number n) None ∷ []) tokens rest b
number_first false n pos tokens rest b = kind_there (kinds.Number n) (Some pos) [] tokens rest b

-- The first token is the one.
pub first_there : (e : Expr) (tokens rest : List Token) → IsExpr e → Begins (spell e) tokens rest → kind_at tokens ≡ Some (first_kind (first_of e))
first_there (Number literal) tokens rest is b = number_first literal.negative literal.magnitude literal.pos tokens rest b
first_there (Character code pos) tokens rest is b = kind_there (kinds.Character code) (Some pos) [] tokens rest b
first_there (Truth value pos) tokens rest is b = kind_there (truth_kind value) (Some pos) [] tokens rest b
first_there (Name ident) tokens rest is b = kind_there (kinds.Name ident.name) (Some ident.pos) [] tokens rest b
first_there (Parentheses pos inner) tokens rest is b = kind_there (kinds.Sign signs.OpenParenthesis) (Some pos) (spell inner ++ a_sign signs.CloseParenthesis ∷ []) tokens rest b
first_there (Call callee arguments) tokens rest is b =
    let p = Begins-parts (spell callee) (a_sign signs.OpenParenthesis ∷ (spell_arguments arguments ++ a_sign signs.CloseParenthesis ∷ [])) tokens rest b in first_there callee tokens p.between is.0 p.first
first_there (Unary o pos operand) tokens rest is b = kind_there (kinds.Sign (unary_sign_of o)) (Some pos) (spell operand) tokens rest b
first_there (Cast operand all) tokens rest is b = let p = Begins-parts (spell operand) (flat_map spell_cast all) tokens rest b in first_there operand tokens p.between is.0 p.first
first_there (Operations first m) tokens rest is b = let p = Begins-parts (spell first) (spell_members m) tokens rest b in first_there first tokens p.between is.2 p.first
first_there (Leading end) tokens rest is b = absurd (differ is.0 is.1)
first_there (Leading (more o pos operand m)) tokens rest is b = kind_there (kinds.Sign (sign_of o)) (Some pos) (spell operand ++ spell_members m) tokens rest b

-- ---- what it is not

-- no operator, where the expression is no row that leads with one
abbrev pub IsOperand : First → Type 0
IsOperand (operator o) = ⊥
IsOperand _ = Unit {0}

-- an atom's, where the expression has no sign either
abbrev pub IsAtom : First → Type 0
IsAtom (operator o) = ⊥
IsAtom (sign o) = ⊥
IsAtom _ = Unit {0}

number_operand : (negative : Bool) (n : ℕ) → IsOperand (first_of_number negative n)
number_operand true n = tt
number_operand false n = tt

number_atom : (negative : Bool) (n : ℕ) → 8 ≤ rank_of_number negative → IsAtom (first_of_number negative n)
number_atom true n t = absurd (omega arith)
number_atom false n t = tt

pub operand_first : (e : Expr) → IsExpr e → 2 < rank_of e → IsOperand (first_of e)
operand_first (Number literal) is t = number_operand literal.negative literal.magnitude
operand_first (Call callee arguments) is t = let tight = is.1 in operand_first callee is.0 (omega arith)
operand_first (Cast operand all) is t = let tight = is.1 in operand_first operand is.0 (omega arith)
operand_first (Operations first m) is t = let tight = is.3 in let same = rank_begins is.0 m is.1 in operand_first first is.2 (omega arith)
operand_first (Leading m) is t = absurd (omega arith)
operand_first _ is t = tt

pub atom_first : (e : Expr) → IsExpr e → 8 ≤ rank_of e → IsAtom (first_of e)
atom_first (Number literal) is t = number_atom literal.negative literal.magnitude t
atom_first (Call callee arguments) is t = atom_first callee is.0 is.1
atom_first (Unary o pos operand) is t = absurd (omega arith)
atom_first (Cast operand all) is t = absurd (omega arith)
atom_first (Operations first m) is t = let l = operations_rank first m is in absurd (omega arith)
atom_first (Leading m) is t = absurd (omega arith)
atom_first _ is t = tt

-- no `&&` or `||`
operand_operator : (f : First) → IsOperand f → (x : BinaryOperator) → operator_by (first_kind f) ≡ Some x → level_of (group_of x) ≡ levels.Junction → ⊥
unfolding operator_of
operand_operator (number n) h x e j = differ x e
operand_operator (character code) h x e j = differ x e
operand_operator (truth true) h x e j = differ x e
operand_operator (truth false) h x e j = differ x e
operand_operator (name n) h x e j = differ x e
operand_operator parenthesis h x e j = differ x e
operand_operator (sign unary.Negate) h x e j =
    let k : levels.Sum ≡ levels.Junction = ap (λ (y : BinaryOperator). level_of (group_of y)) (some_is binary.Subtract x e) ∙ j in cc
operand_operator (sign unary.Not) h x e j = differ x e
operand_operator (operator o) h x e j = h

pub no_lead : (e : Expr) (tokens rest : List Token) → IsExpr e → 2 < rank_of e → Begins (spell e) tokens rest → (x : BinaryOperator) → operator_at tokens ≡ Some x → level_of (group_of x) ≡ levels.Junction → ⊥
no_lead e tokens rest is t b x k j =
    let same : first_kind (first_of e) ≡ kinds.Sign (sign_of x) = some_is (first_kind (first_of e)) (kinds.Sign (sign_of x)) (sym (first_there e tokens rest is b) ∙ at_sound tokens x k) in
    operand_operator (first_of e) (operand_first e is t) x (by_complete (first_kind (first_of e)) x same) j

-- no sign before an operand
atom_unary : (f : First) → IsAtom f → unary_by (first_kind f) ≡ None
atom_unary (number n) h = refl
atom_unary (character code) h = refl
atom_unary (truth true) h = refl
atom_unary (truth false) h = refl
atom_unary (name n) h = refl
atom_unary parenthesis h = refl
atom_unary (sign o) h = absurd h
atom_unary (operator o) h = absurd h

pub no_unary : (e : Expr) (tokens rest : List Token) → IsExpr e → 8 ≤ rank_of e → Begins (spell e) tokens rest → optional_unary tokens ≡ (None, tokens)
no_unary e tokens rest is t b = optional_unary_stays (first_kind (first_of e)) tokens (first_there e tokens rest is b) (atom_unary (first_of e) (atom_first e is t))

-- no string literal
first_no_text : (f : First) → first_kind f ≡ kinds.Text → ⊥
first_no_text (number n) e = cc
first_no_text (character code) e = cc
first_no_text (truth true) e = cc
first_no_text (truth false) e = cc
first_no_text (name n) e = cc
first_no_text parenthesis e = cc
first_no_text (sign o) e = cc
first_no_text (operator o) e = cc

pub no_text : (e : Expr) (tokens rest : List Token) → IsExpr e → Begins (spell e) tokens rest → kind_at tokens ≡ Some kinds.Text → ⊥
no_text e tokens rest is b h = first_no_text (first_of e) (some_is (first_kind (first_of e)) kinds.Text (sym (first_there e tokens rest is b) ∙ h))

-- nothing that closes
first_no_parenthesis : (f : First) → is_sign signs.CloseParenthesis (first_kind f) ≡ false
first_no_parenthesis (number n) = refl
first_no_parenthesis (character code) = refl
first_no_parenthesis (truth true) = refl
first_no_parenthesis (truth false) = refl
first_no_parenthesis (name n) = refl
first_no_parenthesis parenthesis = refl
first_no_parenthesis (sign unary.Negate) = refl
first_no_parenthesis (sign unary.Not) = refl
first_no_parenthesis (operator binary.Iff) = refl
first_no_parenthesis (operator _) = refl

first_no_semicolon : (f : First) → is_sign signs.Semicolon (first_kind f) ≡ false
first_no_semicolon (number n) = refl
first_no_semicolon (character code) = refl
first_no_semicolon (truth true) = refl
first_no_semicolon (truth false) = refl
first_no_semicolon (name n) = refl
first_no_semicolon parenthesis = refl
first_no_semicolon (sign unary.Negate) = refl
first_no_semicolon (sign unary.Not) = refl
first_no_semicolon (operator binary.Iff) = refl
first_no_semicolon (operator _) = refl

pub no_parenthesis_closes : (e : Expr) (tokens rest : List Token) → IsExpr e → Begins (spell e) tokens rest → is_open signs.CloseParenthesis tokens ≡ true
no_parenthesis_closes e tokens rest is b = ap (λ (k : Option Kind). not (kind_is_sign signs.CloseParenthesis k)) (first_there e tokens rest is b) ∙ ap not (first_no_parenthesis (first_of e))

pub no_semicolon_stands : (e : Expr) (tokens rest : List Token) → IsExpr e → Begins (spell e) tokens rest → is_open signs.Semicolon tokens ≡ true
no_semicolon_stands e tokens rest is b = ap (λ (k : Option Kind). not (kind_is_sign signs.Semicolon k)) (first_there e tokens rest is b) ∙ ap not (first_no_semicolon (first_of e))
