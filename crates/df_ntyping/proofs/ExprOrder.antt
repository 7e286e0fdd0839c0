-- The nodes of an expression lie in its text, in order.
use Rattle.std.proofs.Common.{◌≡◌, ◌≢◌, ℕ, suc, ◌+◌, ◌<◌, ◌≤◌, Bool, true, false, List, [], ◌∷◌, ◌++◌, length, Option, Some, None, refl, ap, subst, arith, length-append, append_assoc}
use Rattle.std.specs.List.{flat_map}
use Rattle.std.proofs.lemmas.Bool.{and_parts}
use Rattle.df_base.specs.declared.pos.Pos.{Pos}
use Rattle.df_tok.specs.declared.sign.Sign.TheVariants as signs
use Rattle.df_lang.specs.declared.ty.Ty.{Ty}
use Rattle.df_lang.specs.declared.ty.Ty.TheVariants as types
use Rattle.df_ntree.specs.declared.tree.Ident.{Ident}
use Rattle.df_ntree.specs.declared.tree.Literal.{Literal}
use Rattle.df_ntree.specs.declared.expr.BinaryOperator.{BinaryOperator}
use Rattle.df_ntree.specs.declared.expr.UnaryOperator.TheVariants as unary
use Rattle.df_ntree.specs.declared.expr.Group.{Group}
use Rattle.df_ntree.specs.declared.expr.Group.TheVariants as groups
use Rattle.df_ntree.specs.declared.expr.TreeType.{TreeType}
use Rattle.df_ntree.specs.declared.expr.TreeType.TheVariants as trees
use Rattle.df_ntree.specs.Spelling.{a_sign}
use Rattle.df_ntree.specs.Expr.{Expr, Number, Character, Truth, Name, Parentheses, Call, Unary, Cast, Operations, Leading, Members, end, more, Arguments, no_more, argument}
use Rattle.df_ntree.specs.ExprSpelling.{spell, spell_number, spell_members, spell_arguments, spell_further, spell_cast, first_group, IsExpr, AreOf, AreArguments}
use Rattle.df_ntyping.specs.Environment.{Environment}
use Rattle.df_ntyping.specs.Node.{Node, Occurrence, node_name, node_pos}
use Rattle.df_ntyping.specs.Meaning.{called_signature}
use Rattle.df_ntyping.specs.Places.{beginning_of}
use Rattle.df_ntyping.specs.ExprTypes.{type_in, wanted_first, wanted_behind}
use Rattle.df_ntyping.specs.ExprNodes.{count, first_place, other_places, width, token_at, type_nodes, cast_nodes, chain_nodes, places_of, callee_nodes, expr_nodes, run_nodes, argument_nodes}
use Rattle.df_ntyping.specs.rules.Truths.{is_logical}
use Rattle.df_ntyping.specs.Rule.{Typing, Rule, Given, Direction, Truths, Calls, Assigned, stage_of}
use Rattle.df_ntyping.specs.Breaks.{breaks}
use Rattle.df_ntyping.specs.ExprTypes.{is_arithmetic}
use Rattle.df_ntree.specs.Operator.{group_of}
use Rattle.df_ntree.specs.declared.expr.BinaryOperator.TheVariants as binary
use Rattle.df_ntyping.proofs.AllNodes.{Alls, none, front, only, both}
use Rattle.df_ntyping.proofs.SoundNodes.{used_name, used_type}
use Rattle.df_ntyping.proofs.Alike.{IsApart, quiet_apart, RootRule, IsRoot, quiet_root, aspect_apart, value_aspect}
use Rattle.df_ntyping.proofs.Order.{Segment, no_nodes, weaker, joined, alone, ended, later_apart, shorter_apart, later_roots, shorter_roots}

-- ---- how many tokens

pub width_parentheses : (pos : Pos) (inner : Expr) → width (Parentheses pos inner) ≡ width inner + 2
width_parentheses pos inner = omega (arith, length-append (spell inner) (a_sign signs.CloseParenthesis ∷ []))

pub width_call : (callee : Expr) (arguments : Arguments) → width (Call callee arguments) ≡ width callee + length (spell_arguments arguments) + 2
width_call callee arguments =
    omega (arith, length-append (spell callee) (a_sign signs.OpenParenthesis ∷ (spell_arguments arguments ++ a_sign signs.CloseParenthesis ∷ [])), length-append (spell_arguments arguments) (a_sign signs.CloseParenthesis ∷ []))

width_types : (all : List TreeType) → length (flat_map spell_cast all) ≡ length all + length all
width_types [] = refl
width_types (trees.Basic basic pos ∷ others) = omega (arith, width_types others)
width_types (trees.Named ident ∷ others) = omega (arith, width_types others)

pub width_cast : (operand : Expr) (all : List TreeType) → width (Cast operand all) ≡ width operand + (length all + length all)
width_cast operand all = omega (arith, length-append (spell operand) (flat_map spell_cast all), width_types all)

pub width_operations : (first : Expr) (rest : Members) → width (Operations first rest) ≡ width first + length (spell_members rest)
width_operations first rest = length-append (spell first) (spell_members rest)

pub width_members : (operator : BinaryOperator) (pos : Pos) (operand : Expr) (rest : Members) → length (spell_members (more operator pos operand rest)) ≡ suc (width operand + length (spell_members rest))
width_members operator pos operand rest = omega (arith, length-append (spell operand) (spell_members rest))

width_argument : (e : Expr) (other : Expr) (rest : Arguments) → length (spell_arguments (argument e (argument other rest))) ≡ width e + 1 + length (spell_arguments (argument other rest))
width_argument e other rest =
    omega (arith, length-append (spell e) (spell_further (argument other rest)), length-append (spell other) (spell_further rest), length-append (a_sign signs.Comma ∷ spell other) (spell_further rest))

width_last : (e : Expr) → length (spell_arguments (argument e no_more)) ≡ width e
width_last e = omega (arith, length-append (spell e) [])

number_width : (b : Bool) (literal : Literal) → literal.negative ≡ b → 0 < length (spell_number literal)
number_width true literal p = rw p (omega arith)
number_width false literal p = rw p (omega arith)

-- an expression has a token
pub some_width : (e : Expr) → IsExpr e → 0 < width e
some_width (Number literal) g = number_width literal.negative literal refl
some_width (Character code pos) g = omega arith
some_width (Truth value pos) g = omega arith
some_width (Name ident) g = omega arith
some_width (Parentheses pos inner) g = omega arith
some_width (Call callee arguments) g = omega (arith, width_call callee arguments)
some_width (Unary operator pos operand) g = omega arith
some_width (Cast operand all) g = omega (arith, width_cast operand all, some_width operand g.0)
some_width (Operations first rest) g = omega (arith, width_operations first rest, some_width first g.2)
some_width (Leading end) g = let none : None ≡ Some g.0 = g.1 in absurd cc
some_width (Leading (more operator pos operand rest)) g = omega arith

-- ---- nodes

-- parts, their whole, and what comes behind
pub then_more : (low above middle high : ℕ) (xs : List Occurrence) (one : Occurrence) (ys : List Occurrence) → Segment low above middle xs → above < middle → one.start ≡ low → one.after ≡ middle
    → node_name one.node ≡ None → Alls (IsApart one) xs → Segment low middle high ys → middle ≤ high → Segment low above high (xs ++ one ∷ ys)
then_more low above middle high xs one ys h p q r n a k s =
    subst (λ (all : List Occurrence). Segment low above high all) (append_assoc xs (one ∷ []) ys)
    (joined low above middle high (xs ++ one ∷ []) ys (ended low above middle xs one h p q r n a) k (omega arith) s)

pub token_alone : (env : Environment) (node : Node) (start : ℕ) → Segment start start (suc start) (token_at env node start ∷ [])
token_alone env node start = alone start start (suc start) (token_at env node start) (record { begins = omega arith; behind = omega arith; ends = omega arith })

pub type_order : (env : Environment) (start : ℕ) (ty : TreeType) → Segment start start (suc start) (type_nodes env start ty)
type_order env start (trees.Basic basic pos) = no_nodes start start (suc start)
type_order env start (trees.Named ident) = token_alone env _ start

pub cast_order : (env : Environment) (start : ℕ) (pos : Option Pos) (word : ℕ) (source : Option Ty) (all : List TreeType) → start ≤ word → Segment start word (word + (length all + length all)) (cast_nodes env start pos word source all)
cast_order env start pos word source [] p = no_nodes start word (word + 0)
cast_order env start pos word source (ty ∷ others) p =
    then_more start word (word + 2) (word + (suc (length others) + suc (length others))) (type_nodes env (suc word) ty) _ _
    (weaker (suc word) (suc word) (suc (suc word)) start word (word + 2) (type_nodes env (suc word) ty) (type_order env (suc word) ty) (omega arith) (omega arith) (omega arith))
    (omega arith) refl refl refl (later_apart (suc word) (suc word) (suc (suc word)) (type_nodes env (suc word) ty) _ (type_order env (suc word) ty) (omega arith))
    (weaker start (word + 2) (word + 2 + (length others + length others)) start (word + 2) (word + (suc (length others) + suc (length others))) _ (cast_order env start pos (word + 2) _ others (omega arith)) (omega arith) (omega arith) (omega arith))
    (omega arith)

pub callee_order : (env : Environment) (start : ℕ) (callee : Expr) (inside : List Occurrence) → Segment start start (start + width callee) inside → Segment start start (start + width callee) (callee_nodes env start callee inside)
callee_order env start (Name ident) inside h = weaker start start (suc start) start start (start + 1) _ (token_alone env _ start) (omega arith) (omega arith) (omega arith)
callee_order env start callee inside h = h

append_none : (xs : List Occurrence) → xs ++ [] ≡ xs
append_none [] = refl
append_none (x ∷ xs) = ap (λ (all : List Occurrence). x ∷ all) (append_none xs)

chain_order : (env : Environment) (group : Option Group) (start after : ℕ) (members : Members) (xs : List Occurrence) → start < after
    → Alls (IsApart (record { env = env; node = Node.Chain members; start = start; after = after })) xs → Segment start start after xs → Segment start start after (xs ++ chain_nodes env group start after members)
chain_order env (Some groups.Comparison) start after members xs p a h = ended start start after xs _ h p refl refl refl a
chain_order env group start after members xs p a h = rw (append_none xs) h

-- one sign of a run that holds to the left, with its operand, and the rest
left_order : (start sign width_of after : ℕ) (xs ys : List Occurrence) (one : Occurrence) → start ≤ sign → Segment (suc sign) (suc sign) (suc sign + width_of) xs → one.start ≡ start → one.after ≡ sign + 1 + width_of
    → node_name one.node ≡ None → Segment start (sign + 1 + width_of) after ys → sign + 1 + width_of ≤ after → Segment start sign after (xs ++ one ∷ ys)
left_order start sign width_of after xs ys one p h q r n k s =
    then_more start sign (sign + 1 + width_of) after xs one ys (weaker (suc sign) (suc sign) (suc sign + width_of) start sign (sign + 1 + width_of) xs h (omega arith) (omega arith) (omega arith)) (omega arith) q r n
    (later_apart (suc sign) (suc sign) (suc sign + width_of) xs one h (omega (arith, q))) k s

-- one of a run that holds to the right
right_order : (start sign width_of after : ℕ) (xs ys : List Occurrence) (one : Occurrence) → start ≤ sign → Segment (suc sign) (suc sign) (suc sign + width_of) xs → one.start ≡ start → one.after ≡ after
    → node_name one.node ≡ None → Segment (suc sign) (sign + 1 + width_of) after ys → sign + 1 + width_of ≤ after → Segment start sign after (xs ++ ys ++ one ∷ [])
right_order start sign width_of after xs ys one p h q r n k s =
    ended start sign after (xs ++ ys) one
    (joined start sign (sign + 1 + width_of) after xs ys (weaker (suc sign) (suc sign) (suc sign + width_of) start sign (sign + 1 + width_of) xs h (omega arith) (omega arith) (omega arith))
    (weaker (suc sign) (sign + 1 + width_of) after start (sign + 1 + width_of) after ys k (omega arith) (omega arith) (omega arith)) (omega arith) s) (omega arith) q r n
    (both (later_apart (suc sign) (suc sign) (suc sign + width_of) xs one h (omega (arith, q))) (later_apart (suc sign) (sign + 1 + width_of) after ys one k (omega (arith, q))))

-- a sign, its operand, and the whole
unary_order : (start width_of : ℕ) (xs : List Occurrence) (one : Occurrence) → Segment (suc start) (suc start) (suc start + width_of) xs → one.start ≡ start → one.after ≡ start + 1 + width_of → node_name one.node ≡ None → Segment start start (start + suc width_of) (xs ++ one ∷ [])
unary_order start width_of xs one h p q n =
    ended start start (start + suc width_of) xs one (weaker (suc start) (suc start) (suc start + width_of) start start (start + suc width_of) xs h (omega arith) (omega arith) (omega arith)) (omega arith) p (omega (arith, q)) n
    (later_apart (suc start) (suc start) (suc start + width_of) xs one h (omega (arith, p)))

-- what is called, its arguments, and the call
pub call_order : (start at after width_of : ℕ) (xs ys : List Occurrence) (one : Occurrence) → Segment start start (start + width_of) xs → Segment at at after ys → at ≡ start + width_of + 1 → at ≤ after → one.start ≡ start → one.after ≡ after + 1
    → node_name one.node ≡ None → Segment start start (after + 1) (xs ++ ys ++ one ∷ [])
call_order start at after width_of xs ys one h k p q r s n =
    ended start start (after + 1) (xs ++ ys) one
    (weaker start start after start start (after + 1) (xs ++ ys)
    (joined start start (start + width_of) after xs ys h (weaker at at after start (start + width_of) after ys k (omega (arith, p)) (omega (arith, p)) (omega arith)) (omega arith) (omega (arith, p, q)))
    (omega arith) (omega arith) (omega arith)) (omega (arith, p, q)) r s n
    (both (shorter_apart start start (start + width_of) xs one h (omega (arith, p, q, s))) (later_apart at at after ys one k (omega (arith, p, r))))

-- ---- what nodes break that are as long as an expression

some_types : {X : Type 0} (all : List X) → all ≢ [] → 0 < length all
some_types [] some = absurd (some refl)
some_types (x ∷ xs) some = omega arith

-- operations have a sign
some_members : (rest : Members) (group : Group) → first_group rest ≡ Some group → 0 < length (spell_members rest)
some_members end group p = absurd cc
some_members (more operator pos operand rest) group p = omega (arith, width_members operator pos operand rest)

plain_root : (env : Environment) (ident : Ident) (start after : ℕ) → IsRoot env (Name ident) start after (token_at env (Node.Plain ident) start)
plain_root env ident start after = record { breaks_so = λ p q. by_rule } where
  by_rule : (rule : Rule) → (stage_of rule ≡ 0 → ⊥) → breaks env (Node.Plain ident) rule ≡ true → RootRule env (Name ident) (Node.Plain ident) rule
  by_rule (Typing Calls) n b = refl
  by_rule (Typing Given) n b = absurd cc
  by_rule (Typing Assigned) n b = absurd cc
  by_rule (Typing Truths) n b = absurd cc
  by_rule rule n b = tt

call_root : (env : Environment) (callee : Expr) (arguments : Arguments) (start after : ℕ) (one : Occurrence) → one.env ≡ env → one.node ≡ Node.Call false callee (count arguments) → IsRoot env (Call callee arguments) start after one
call_root env callee arguments start after one e m = record { breaks_so = λ p q rule n b. by_rule rule n (rw (e, m) at b) } where
  by_rule : (rule : Rule) → (stage_of rule ≡ 0 → ⊥) → breaks env (Node.Call false callee (count arguments)) rule ≡ true → RootRule env (Call callee arguments) one.node rule
  by_rule (Typing Calls) n b = rw m refl
  by_rule (Typing Given) n b = absurd cc
  by_rule (Typing Assigned) n b = absurd cc
  by_rule (Typing Truths) n b = absurd cc
  by_rule rule n b = tt

minus_root : (env : Environment) (pos : Pos) (operand : Expr) (ty : Option Ty) (start after begin behind : ℕ) → IsRoot env (Unary unary.Negate pos operand) start after (record { env = env; node = Node.Minus ty pos; start = begin; after = behind })
minus_root env pos operand ty start after begin behind = record { breaks_so = λ p q. by_rule } where
  by_rule : (rule : Rule) → (stage_of rule ≡ 0 → ⊥) → breaks env (Node.Minus ty pos) rule ≡ true → RootRule env (Unary unary.Negate pos operand) (Node.Minus ty pos) rule
  by_rule (Typing Given) n b = absurd cc
  by_rule (Typing Assigned) n b = absurd cc
  by_rule (Typing Truths) n b = absurd cc
  by_rule (Typing Calls) n b = absurd cc
  by_rule rule n b = tt

negation_root : (env : Environment) (pos : Pos) (operand : Expr) (ty : Option Ty) (start after begin behind : ℕ) → IsRoot env (Unary unary.Not pos operand) start after (record { env = env; node = Node.Negation ty pos; start = begin; after = behind })
negation_root env pos operand ty start after begin behind = record { breaks_so = λ p q. by_rule } where
  by_rule : (rule : Rule) → (stage_of rule ≡ 0 → ⊥) → breaks env (Node.Negation ty pos) rule ≡ true → RootRule env (Unary unary.Not pos operand) (Node.Negation ty pos) rule
  by_rule (Typing Given) n b = absurd cc
  by_rule (Typing Assigned) n b = absurd cc
  by_rule (Typing Truths) n b = refl
  by_rule (Typing Calls) n b = absurd cc
  by_rule rule n b = tt

conversion_root : (env : Environment) (e : Expr) (source target : Option Ty) (pos : Option Pos) (start after begin behind : ℕ) → IsRoot env e start after (record { env = env; node = Node.Conversion source target pos; start = begin; after = behind })
conversion_root env e source target pos start after begin behind = record { breaks_so = λ p q. by_rule } where
  by_rule : (rule : Rule) → (stage_of rule ≡ 0 → ⊥) → breaks env (Node.Conversion source target pos) rule ≡ true → RootRule env e (Node.Conversion source target pos) rule
  by_rule (Typing Given) n b = absurd cc
  by_rule (Typing Assigned) n b = absurd cc
  by_rule (Typing Truths) n b = absurd cc
  by_rule (Typing Calls) n b = absurd cc
  by_rule rule n b = tt

type_roots : (env : Environment) (e : Expr) (start after at : ℕ) (ty : TreeType) → Alls (IsRoot env e start after) (type_nodes env at ty)
type_roots env e start after at (trees.Basic basic pos) = none
type_roots env e start after at (trees.Named ident) = only (quiet_root (used_type env ident))

cast_roots : (env : Environment) (e : Expr) (start after begin : ℕ) (pos : Option Pos) (word : ℕ) (source : Option Ty) (all : List TreeType) → Alls (IsRoot env e start after) (cast_nodes env begin pos word source all)
cast_roots env e start after begin pos word source [] = none
cast_roots env e start after begin pos word source (ty ∷ others) =
    both (type_roots env e start after (suc word) ty) (front (conversion_root env e source _ pos start after begin (word + 2)) (cast_roots env e start after begin pos (word + 2) _ others))

-- signs of logical operators stand in truths
sign_root : (env : Environment) (e : Expr) (of_left : Option Ty) (operator : BinaryOperator) (pos : Pos) (of_right : Option Ty) (start after begin behind : ℕ) → (is_logical operator ≡ true → type_in env None e ≡ Some types.Bool)
    → IsRoot env e start after (record { env = env; node = Node.Sign of_left operator pos of_right; start = begin; after = behind })
sign_root env e of_left operator pos of_right start after begin behind truth = record { breaks_so = λ p q. by_rule } where
  by_rule : (rule : Rule) → (stage_of rule ≡ 0 → ⊥) → breaks env (Node.Sign of_left operator pos of_right) rule ≡ true → RootRule env e (Node.Sign of_left operator pos of_right) rule
  by_rule (Typing Given) n b = absurd cc
  by_rule (Typing Assigned) n b = absurd cc
  by_rule (Typing Truths) n b = truth (and_parts (is_logical operator) _ b).0
  by_rule (Typing Calls) n b = absurd cc
  by_rule rule n b = tt

chain_root : (env : Environment) (e : Expr) (group : Option Group) (start after begin behind : ℕ) (members : Members) → Alls (IsRoot env e start after) (chain_nodes env group begin behind members)
chain_root env e (Some groups.Comparison) start after begin behind members = only (record { breaks_so = λ p q. by_rule }) where
  by_rule : (rule : Rule) → (stage_of rule ≡ 0 → ⊥) → breaks env (Node.Chain members) rule ≡ true → RootRule env e (Node.Chain members) rule
  by_rule (Typing Given) n b = absurd cc
  by_rule (Typing Assigned) n b = absurd cc
  by_rule (Typing Truths) n b = absurd cc
  by_rule (Typing Calls) n b = absurd cc
  by_rule rule n b = tt
chain_root env e group start after begin behind members = none

-- a sign and a whole chain break no rule together
sign_apart : (env : Environment) (of_left : Option Ty) (operator : BinaryOperator) (pos : Pos) (of_right : Option Ty) (begin behind start after : ℕ) (members : Members)
    → IsApart (record { env = env; node = Node.Chain members; start = start; after = after }) (record { env = env; node = Node.Sign of_left operator pos of_right; start = begin; after = behind })
sign_apart env of_left operator pos of_right begin behind start after members = record { alike = λ p q. record { same = by_rule } } where
  by_rule : (rule : Rule) → (stage_of rule ≡ 0 → ⊥) → breaks env (Node.Sign of_left operator pos of_right) rule ≡ true → breaks env (Node.Chain members) rule ≡ true
      → node_pos (Node.Sign of_left operator pos of_right) ≡ node_pos (Node.Chain members)
  by_rule (Typing Direction) n b c = absurd cc
  by_rule rule n b c = absurd cc

logical_group : (operator : BinaryOperator) → is_logical operator ≡ true → is_arithmetic (Some (group_of operator)) ≡ false
logical_group binary.And p = refl
logical_group binary.Or p = refl
logical_group binary.Implies p = refl
logical_group binary.Explies p = refl
logical_group binary.Iff p = refl
logical_group operator p = absurd cc

logical_type : (env : Environment) (first : Expr) (rest : Members) (group : Group) (operator : BinaryOperator) → first_group rest ≡ Some group → group_of operator ≡ group → is_logical operator ≡ true → type_in env None (Operations first rest) ≡ Some types.Bool
logical_type env first rest group operator p q l = rw (p, ← q, logical_group operator l) refl

mutual
  pub expr_order : (env : Environment) (start : ℕ) (e : Expr) → IsExpr e → Segment start start (start + width e) (expr_nodes env start e)
  expr_order env start (Number literal) g = no_nodes start start (start + width (Number literal))
  expr_order env start (Character code pos) g = no_nodes start start (start + 1)
  expr_order env start (Truth value pos) g = no_nodes start start (start + 1)
  expr_order env start (Name ident) g =
      ended start start (start + 1) (token_at env (Node.UsedName ident) start ∷ []) (token_at env (Node.Plain ident) start)
      (weaker start start (suc start) start start (start + 1) _ (token_alone env (Node.UsedName ident) start) (omega arith) (omega arith) (omega arith)) (omega arith) refl (omega arith) refl (only (quiet_apart (used_name env ident)))
  expr_order env start (Parentheses pos inner) g =
      weaker (suc start) (suc start) (suc start + width inner) start start (start + width (Parentheses pos inner)) (expr_nodes env (suc start) inner) (expr_order env (suc start) inner g)
      (omega arith) (omega arith) (omega (arith, width_parentheses pos inner))
  expr_order env start (Call callee arguments) g =
      let at = start + width callee + 1 in
      let places = places_of (called_signature env callee) in
      let after = at + length (spell_arguments arguments) in
      weaker start start (after + 1) start start (start + width (Call callee arguments)) _
      (call_order start at after (width callee) (callee_nodes env start callee (expr_nodes env start callee)) (argument_nodes env at places arguments) _
      (callee_order env start callee (expr_nodes env start callee) (expr_order env start callee g.0)) (argument_order env at places arguments g.2) refl (omega arith) refl (omega (arith, width_call callee arguments)) refl)
      (omega arith) (omega arith) (omega (arith, width_call callee arguments))
  expr_order env start (Unary unary.Negate pos operand) g =
      unary_order start (width operand) (expr_nodes env (suc start) operand) _ (expr_order env (suc start) operand g.0) refl refl refl
  expr_order env start (Unary unary.Not pos operand) g =
      unary_order start (width operand) (expr_nodes env (suc start) operand) _ (expr_order env (suc start) operand g.0) refl refl refl
  expr_order env start (Cast operand all) g =
      weaker start start (start + width operand + (length all + length all)) start start (start + width (Cast operand all)) _
      (joined start start (start + width operand) (start + width operand + (length all + length all)) (expr_nodes env start operand) _ (expr_order env start operand g.0)
      (cast_order env start (beginning_of operand) (start + width operand) (type_in env None operand) all (omega arith)) (omega arith) (omega arith))
      (omega arith) (omega arith) (omega (arith, width_cast operand all))
  expr_order env start (Operations first rest) g =
      let group = first_group rest in
      let wanted = wanted_first env None first rest in
      let after = start + width (Operations first rest) in
      let sign = start + width first in
      let runs = run_nodes env group start sign (wanted_behind env wanted first) (type_in env wanted first) after rest in
      chain_order env group start after rest (expr_nodes env start first ++ runs) (omega (arith, width_operations first rest, some_width first g.2))
      (both (shorter_apart start start sign (expr_nodes env start first) _ (expr_order env start first g.2) (omega (arith, width_operations first rest, some_members rest g.0 g.1)))
      (run_apart env group start sign (wanted_behind env wanted first) (type_in env wanted first) after after rest rest g.0 g.4 (omega arith)))
      (joined start start sign after (expr_nodes env start first) runs (expr_order env start first g.2)
      (run_order env group start sign (wanted_behind env wanted first) (type_in env wanted first) after rest g.0 g.4 (omega arith) (omega (arith, width_operations first rest))) (omega arith) (omega (arith, width_operations first rest)))
  expr_order env start (Leading operations) g =
      run_order env (first_group operations) start start None (Some types.Bool) (start + width (Leading operations)) operations g.0 g.3 (omega arith) refl

  pub run_order : (env : Environment) (group : Option Group) (start sign : ℕ) (wanted left : Option Ty) (after : ℕ) (rest : Members) (g : Group) → AreOf rest g → start ≤ sign → after ≡ sign + length (spell_members rest)
      → Segment start sign after (run_nodes env group start sign wanted left after rest)
  run_order env group start sign wanted left after end g all p q = no_nodes start sign after
  run_order env (Some groups.Implication) start sign wanted left after (more operator pos operand rest) g all p q =
      let right = type_in env None operand in
      right_order start sign (width operand) after (expr_nodes env (suc sign) operand) _ _ p (expr_order env (suc sign) operand all.1) refl refl refl
      (run_order env (Some groups.Implication) (suc sign) (sign + 1 + width operand) None right after rest g all.3 (omega arith) (omega (arith, q, width_members operator pos operand rest)))
      (omega (arith, q, width_members operator pos operand rest))
  run_order env group start sign wanted left after (more operator pos operand rest) g all p q =
      left_order start sign (width operand) after (expr_nodes env (suc sign) operand) _ _ p (expr_order env (suc sign) operand all.1) refl refl refl
      (run_order env group start (sign + 1 + width operand) _ _ after rest g all.3 (omega arith) (omega (arith, q, width_members operator pos operand rest)))
      (omega (arith, q, width_members operator pos operand rest))

  pub argument_order : (env : Environment) (start : ℕ) (places : List (Option Ty)) (arguments : Arguments) → AreArguments arguments → Segment start start (start + length (spell_arguments arguments)) (argument_nodes env start places arguments)
  argument_order env start places no_more g = no_nodes start start (start + 0)
  argument_order env start places (argument e no_more) g =
      weaker start start (start + width e) start start (start + length (spell_arguments (argument e no_more))) _
      (ended start start (start + width e) (expr_nodes env start e) _ (expr_order env start e g.0) (omega (arith, some_width e g.0)) refl refl refl (aspect_apart (expr_nodes env start e) (value_aspect env (first_place places) e) (expr_roots env start e g.0))) (omega arith) (omega arith) (omega (arith, width_last e))
  argument_order env start places (argument e (argument other rest)) g =
      then_more start start (start + width e) (start + length (spell_arguments (argument e (argument other rest)))) (expr_nodes env start e) _ _ (expr_order env start e g.0) (omega (arith, some_width e g.0)) refl refl refl
      (aspect_apart (expr_nodes env start e) (value_aspect env (first_place places) e) (expr_roots env start e g.0))
      (weaker (start + width e + 1) (start + width e + 1) (start + width e + 1 + length (spell_arguments (argument other rest))) start (start + width e) (start + length (spell_arguments (argument e (argument other rest)))) _
      (argument_order env (start + width e + 1) (other_places places) (argument other rest) g.1) (omega arith) (omega arith) (omega (arith, width_argument e other rest)))
      (omega (arith, width_argument e other rest))

  -- those as long as the expression
  pub expr_roots : (env : Environment) (start : ℕ) (e : Expr) → IsExpr e → Alls (IsRoot env e start (start + width e)) (expr_nodes env start e)
  expr_roots env start (Number literal) g = none
  expr_roots env start (Character code pos) g = none
  expr_roots env start (Truth value pos) g = none
  expr_roots env start (Name ident) g = front (quiet_root (used_name env ident)) (only (plain_root env ident start (start + width (Name ident))))
  expr_roots env start (Parentheses pos inner) g =
      later_roots env (Parentheses pos inner) start (start + width (Parentheses pos inner)) (suc start) (suc start) (suc start + width inner) (expr_nodes env (suc start) inner) (expr_order env (suc start) inner g) (omega arith)
  expr_roots env start (Call callee arguments) g =
      let e = Call callee arguments in
      let at = start + width callee + 1 in
      let places = places_of (called_signature env callee) in
      both (both
      (shorter_roots env e start (start + width e) start start (start + width callee) (callee_nodes env start callee (expr_nodes env start callee)) (callee_order env start callee (expr_nodes env start callee) (expr_order env start callee g.0))
      (omega (arith, width_call callee arguments)))
      (later_roots env e start (start + width e) at at (at + length (spell_arguments arguments)) (argument_nodes env at places arguments) (argument_order env at places arguments g.2) (omega arith)))
      (only (call_root env callee arguments start (start + width e) _ refl refl))
  expr_roots env start (Unary unary.Negate pos operand) g =
      let e = Unary unary.Negate pos operand in
      both (later_roots env e start (start + width e) (suc start) (suc start) (suc start + width operand) (expr_nodes env (suc start) operand) (expr_order env (suc start) operand g.0) (omega arith))
      (only (minus_root env pos operand (type_in env None operand) start (start + width e) start (start + 1 + width operand)))
  expr_roots env start (Unary unary.Not pos operand) g =
      let e = Unary unary.Not pos operand in
      both (later_roots env e start (start + width e) (suc start) (suc start) (suc start + width operand) (expr_nodes env (suc start) operand) (expr_order env (suc start) operand g.0) (omega arith))
      (only (negation_root env pos operand (type_in env None operand) start (start + width e) start (start + 1 + width operand)))
  expr_roots env start (Cast operand all) g =
      let e = Cast operand all in
      both (shorter_roots env e start (start + width e) start start (start + width operand) (expr_nodes env start operand) (expr_order env start operand g.0) (omega (arith, width_cast operand all, some_types all g.2.0)))
      (cast_roots env e start (start + width e) start (beginning_of operand) (start + width operand) (type_in env None operand) all)
  expr_roots env start (Operations first rest) g =
      let e = Operations first rest in
      let group = first_group rest in
      let wanted = wanted_first env None first rest in
      both (both
      (shorter_roots env e start (start + width e) start start (start + width first) (expr_nodes env start first) (expr_order env start first g.2) (omega (arith, width_operations first rest, some_members rest g.0 g.1)))
      (run_roots env e group start (start + width first) (wanted_behind env wanted first) (type_in env wanted first) (start + width e) (start + width e) rest g.0 g.4 (omega arith) (λ operator p l. logical_type env first rest g.0 operator g.1 p l)))
      (chain_root env e group start (start + width e) start (start + width e) rest)
  expr_roots env start (Leading operations) g =
      run_roots env (Leading operations) (first_group operations) start start None (Some types.Bool) (start + width (Leading operations)) (start + width (Leading operations)) operations g.0 g.3 (omega arith) (λ operator p l. refl)

  run_roots : (env : Environment) (e : Expr) (group : Option Group) (start sign : ℕ) (wanted of_left : Option Ty) (after end_of : ℕ) (rest : Members) (g : Group) → AreOf rest g → start ≤ sign
      → ((operator : BinaryOperator) → group_of operator ≡ g → is_logical operator ≡ true → type_in env None e ≡ Some types.Bool) → Alls (IsRoot env e start end_of) (run_nodes env group start sign wanted of_left after rest)
  run_roots env e group start sign wanted of_left after end_of end g all p truth = none
  run_roots env e (Some groups.Implication) start sign wanted of_left after end_of (more operator pos operand rest) g all p truth =
      both (both (later_roots env e start end_of (suc sign) (suc sign) (suc sign + width operand) (expr_nodes env (suc sign) operand) (expr_order env (suc sign) operand all.1) (omega arith))
      (behind_roots env e start end_of (suc sign) (sign + 1 + width operand) None (type_in env None operand) after rest g all.3 (omega arith) truth))
      (only (sign_root env e of_left operator pos _ start end_of start after (truth operator all.0)))
  run_roots env e group start sign wanted of_left after end_of (more operator pos operand rest) g all p truth =
      both (later_roots env e start end_of (suc sign) (suc sign) (suc sign + width operand) (expr_nodes env (suc sign) operand) (expr_order env (suc sign) operand all.1) (omega arith))
      (front (sign_root env e of_left operator pos _ start end_of start (sign + 1 + width operand) (truth operator all.0)) (run_roots env e group start (sign + 1 + width operand) _ _ after end_of rest g all.3 (omega arith) truth))

  -- of a run of implications those behind the first sign begin later
  behind_roots : (env : Environment) (e : Expr) (start end_of begin sign : ℕ) (wanted of_left : Option Ty) (after : ℕ) (rest : Members) (g : Group) → AreOf rest g → start < sign
      → ((operator : BinaryOperator) → group_of operator ≡ g → is_logical operator ≡ true → type_in env None e ≡ Some types.Bool) → Alls (IsRoot env e start end_of) (run_nodes env (Some groups.Implication) begin sign wanted of_left after rest)
  behind_roots env e start end_of begin sign wanted of_left after end g all p truth = none
  behind_roots env e start end_of begin sign wanted of_left after (more operator pos operand rest) g all p truth =
      both (both (later_roots env e start end_of (suc sign) (suc sign) (suc sign + width operand) (expr_nodes env (suc sign) operand) (expr_order env (suc sign) operand all.1) (omega arith))
      (behind_roots env e start end_of (suc sign) (sign + 1 + width operand) None (type_in env None operand) after rest g all.3 (omega arith) truth))
      (only (sign_root env e of_left operator pos _ start end_of begin after (truth operator all.0)))

  -- signs and operands beside a whole chain
  run_apart : (env : Environment) (group : Option Group) (start sign : ℕ) (wanted of_left : Option Ty) (after behind : ℕ) (members rest : Members) (g : Group) → AreOf rest g → start ≤ sign
      → Alls (IsApart (record { env = env; node = Node.Chain members; start = start; after = behind })) (run_nodes env group start sign wanted of_left after rest)
  run_apart env group start sign wanted of_left after behind members end g all p = none
  run_apart env (Some groups.Implication) start sign wanted of_left after behind members (more operator pos operand rest) g all p =
      both (both (later_apart (suc sign) (suc sign) (suc sign + width operand) (expr_nodes env (suc sign) operand) _ (expr_order env (suc sign) operand all.1) (omega arith))
      (behind_apart env (suc sign) (sign + 1 + width operand) None (type_in env None operand) after start behind members rest g all.3 (omega arith)))
      (only (sign_apart env of_left operator pos _ start after start behind members))
  run_apart env group start sign wanted of_left after behind members (more operator pos operand rest) g all p =
      both (later_apart (suc sign) (suc sign) (suc sign + width operand) (expr_nodes env (suc sign) operand) _ (expr_order env (suc sign) operand all.1) (omega arith))
      (front (sign_apart env of_left operator pos _ start (sign + 1 + width operand) start behind members) (run_apart env group start (sign + 1 + width operand) _ _ after behind members rest g all.3 (omega arith)))

  behind_apart : (env : Environment) (begin sign : ℕ) (wanted of_left : Option Ty) (after start behind : ℕ) (members rest : Members) (g : Group) → AreOf rest g → start < sign
      → Alls (IsApart (record { env = env; node = Node.Chain members; start = start; after = behind })) (run_nodes env (Some groups.Implication) begin sign wanted of_left after rest)
  behind_apart env begin sign wanted of_left after start behind members end g all p = none
  behind_apart env begin sign wanted of_left after start behind members (more operator pos operand rest) g all p =
      both (both (later_apart (suc sign) (suc sign) (suc sign + width operand) (expr_nodes env (suc sign) operand) _ (expr_order env (suc sign) operand all.1) (omega arith))
      (behind_apart env (suc sign) (sign + 1 + width operand) None (type_in env None operand) after start behind members rest g all.3 (omega arith)))
      (only (sign_apart env of_left operator pos _ begin after start behind members))
