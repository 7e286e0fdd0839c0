-- Operators: their signs, and how tightly they hold their operands. Types that are words.
use Rattle.std.specs.Prelude.{ℕ, Bool, true, false, List, [], ◌∷◌}
use Rattle.df_tok.specs.declared.word.Word.{Word}
use Rattle.df_tok.specs.declared.word.Word.TheVariants as words
use Rattle.df_tok.specs.declared.sign.Sign.{Sign}
use Rattle.df_tok.specs.declared.sign.Sign.TheVariants as signs
use Rattle.df_ntree.specs.declared.expr.BinaryOperator.{BinaryOperator}
use Rattle.df_ntree.specs.declared.expr.BinaryOperator.TheVariants as binary
use Rattle.df_ntree.specs.declared.expr.UnaryOperator.{UnaryOperator}
use Rattle.df_ntree.specs.declared.expr.UnaryOperator.TheVariants as unary
use Rattle.df_ntree.specs.declared.expr.Group.{Group}
use Rattle.df_ntree.specs.declared.expr.Group.TheVariants as groups
use Rattle.df_ntree.specs.declared.expr.Level.{Level}
use Rattle.df_ntree.specs.declared.expr.Level.TheVariants as levels
use Rattle.df_ntree.specs.declared.expr.BasicType.{BasicType}
use Rattle.df_ntree.specs.declared.expr.BasicType.TheVariants as basics
use Rattle.df_ntree.specs.declared.expr.TreeType.{TreeType}
use Rattle.df_ntree.specs.declared.expr.TreeType.TheVariants as types

abbrev pub sign_of : BinaryOperator → Sign
sign_of binary.Iff = signs.Iff
sign_of binary.Implies = signs.Implies
sign_of binary.Explies = signs.Explies
sign_of binary.And = signs.And
sign_of binary.Or = signs.Or
sign_of binary.Equal = signs.Equal
sign_of binary.NotEqual = signs.NotEqual
sign_of binary.Less = signs.Less
sign_of binary.AtMost = signs.AtMost
sign_of binary.Greater = signs.Greater
sign_of binary.AtLeast = signs.AtLeast
sign_of binary.Add = signs.Plus
sign_of binary.Subtract = signs.Minus
sign_of binary.Multiply = signs.Times
sign_of binary.Divide = signs.Divide
sign_of binary.Modulo = signs.Modulo

abbrev pub unary_sign_of : UnaryOperator → Sign
unary_sign_of unary.Negate = signs.Minus
unary_sign_of unary.Not = signs.Not

-- the operators that may stand side by side
abbrev pub group_of : BinaryOperator → Group
group_of binary.Iff = groups.Equivalence
group_of binary.Implies = groups.Implication
group_of binary.Explies = groups.Explication
group_of binary.And = groups.Conjunction
group_of binary.Or = groups.Disjunction
group_of binary.Add = groups.Sum
group_of binary.Subtract = groups.Sum
group_of binary.Multiply = groups.Product
group_of binary.Divide = groups.Product
group_of binary.Modulo = groups.Product
group_of _ = groups.Comparison

abbrev pub level_of : Group → Level
level_of groups.Equivalence = levels.Equivalence
level_of groups.Implication = levels.Implication
level_of groups.Explication = levels.Implication
level_of groups.Conjunction = levels.Junction
level_of groups.Disjunction = levels.Junction
level_of groups.Comparison = levels.Comparison
level_of groups.Sum = levels.Sum
level_of groups.Product = levels.Product

-- the levels of binary operators, the loosest first
abbrev pub rows : List Level
rows = levels.Equivalence ∷ levels.Implication ∷ levels.Junction ∷ levels.Comparison ∷ levels.Sum ∷ levels.Product ∷ []

-- the level of the operands
abbrev pub tighter : Level → Level
tighter levels.Equivalence = levels.Implication
tighter levels.Implication = levels.Junction
tighter levels.Junction = levels.Comparison
tighter levels.Comparison = levels.Sum
tighter levels.Sum = levels.Product
tighter levels.Product = levels.Cast
tighter levels.Cast = levels.Unary
tighter _ = levels.Primary

-- the levels in order, the loosest first
abbrev pub rank : Level → ℕ
rank levels.Equivalence = 0
rank levels.Implication = 1
rank levels.Junction = 2
rank levels.Comparison = 3
rank levels.Sum = 4
rank levels.Product = 5
rank levels.Cast = 6
rank levels.Unary = 7
rank levels.Primary = 8

-- ---- types

abbrev pub basic_word : BasicType → Word
basic_word basics.Int = words.Int
basic_word basics.Nat = words.Nat
basic_word basics.Bool = words.Bool
basic_word basics.Char = words.Char

abbrev pub is_cast_word : BasicType → Bool
is_cast_word basics.Int = true
is_cast_word basics.Nat = true
is_cast_word basics.Bool = false
is_cast_word basics.Char = true

-- what may follow `as`: numbers, characters, and what a name stands for
abbrev pub is_cast_target : TreeType → Bool
is_cast_target (types.Basic basic pos) = is_cast_word basic
is_cast_target (types.Named name) = true
