-- The rules of names and types, with the codes and numbers that are told.
use Rattle.std.specs.Prelude.{ℕ, Option, Some, option_map}
use Rattle.df_base.specs.declared.refusal.Code.{Code}
use Rattle.df_base.specs.declared.refusal.Code.TheVariants as codes
use Rattle.df_base.specs.declared.refusal.Detail.{Detail}
use Rattle.df_base.specs.declared.refusal.Detail.TheVariants as details

pub data TypingRule : Type 0 where
  -- E1: what is assigned, passed, returned or given fits or narrows to the type of its place
  Given : TypingRule
  -- E3: operands of arithmetic are of one integer type
  Arithmetic : TypingRule
  -- E4: so are those of comparisons by order, or they are characters
  Order : TypingRule
  -- E5: one side of an equality fits the other
  Equality : TypingRule
  -- E6: a chain keeps its direction
  Direction : TypingRule
  -- E7: operands of logical operators, guards, conditions and contracts are truths
  Truths : TypingRule
  -- E14: arguments match in number
  ArgumentCount : TypingRule
  -- E15: a method is called, as a whole right side or statement
  Calls : TypingRule
  -- E18: what `as` goes between
  Casts : TypingRule
  -- E22: what is assigned is a local or a result, and there are as many left as right sides
  Assigned : TypingRule
  -- E23: `return` gives no values or all results
  Returned : TypingRule
  -- E24: `break` stands in a loop
  Broken : TypingRule
  -- E25: methods and loops have clauses of their own, and a loop has a measure
  Clauses : TypingRule

pub data Rule : Type 0 where
  -- S6: a name has no meaning there
  Unknown : Rule
  -- S7: a name is declared twice in one scope
  Twice : Rule
  -- S9: a rule of typing is broken
  Typing : TypingRule → Rule
  -- S10: no rule fixes a type
  Uninferred : Rule
  -- S11: a newtype is not of its form, or its range does not hold its default
  Range : Rule

abbrev pub typing_number : TypingRule → ℕ
typing_number Given = 1
typing_number Arithmetic = 3
typing_number Order = 4
typing_number Equality = 5
typing_number Direction = 6
typing_number Truths = 7
typing_number ArgumentCount = 14
typing_number Calls = 15
typing_number Casts = 18
typing_number Assigned = 22
typing_number Returned = 23
typing_number Broken = 24
typing_number Clauses = 25

abbrev pub code_of : Rule → Code
code_of Unknown = codes.Unknown
code_of Twice = codes.Twice
code_of (Typing rule) = codes.Typing
code_of Uninferred = codes.Uninferred
code_of Range = codes.Range

abbrev pub code_number : Rule → ℕ
code_number Unknown = 6
code_number Twice = 7
code_number (Typing rule) = 9
code_number Uninferred = 10
code_number Range = 11

-- among the rules of one code
abbrev pub rule_number : Rule → ℕ
rule_number (Typing rule) = typing_number rule
rule_number rule = 0

-- The stages: all names of a file, then all types.
abbrev pub stage_of : Rule → ℕ
stage_of Unknown = 0
stage_of Twice = 0
stage_of rule = 1

-- what is told beside the code: the name for rules of names, the number of a rule of typing
abbrev pub detail_of : Rule → Option ℕ → Option Detail
detail_of Unknown name = option_map details.Word name
detail_of Twice name = option_map details.Word name
detail_of (Typing rule) name = Some (details.Rule (typing_number rule))
detail_of rule name = Some details.Nothing
