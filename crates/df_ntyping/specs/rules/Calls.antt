-- E14: arguments match in number. E15: a method is called, and its call is a whole right side or statement.
use Rattle.std.specs.Prelude.{ℕ, ◌==◌, Bool, true, false, not, ◌&&◌, length, is_some, Option, Some, None}
use Rattle.df_ntyping.specs.Table.{Signature}
use Rattle.df_ntyping.specs.Environment.{Environment}
use Rattle.df_ntyping.specs.Meaning.{Meaning, TheMethod, meaning_of, called_signature}
use Rattle.df_ntyping.specs.Node.{Node, Plain, Call, NoCall}

abbrev pub takes : Option Signature → ℕ → Bool
takes None arguments = true
takes (Some signature) arguments = length signature.parameters == arguments

abbrev pub breaks_argument_count : Environment → Node → Bool
breaks_argument_count env (Call is_whole callee arguments) = not (takes (called_signature env callee) arguments)
breaks_argument_count env node = false

abbrev pub is_method : Option Meaning → Bool
is_method (Some (TheMethod id signature)) = true
is_method meaning = false

abbrev pub breaks_calls : Environment → Node → Bool
-- a method's name without a call
breaks_calls env (Plain ident) = is_method (meaning_of env ident.name)
-- what is no method is called, or a method in an expression
breaks_calls env (Call is_whole callee arguments) = not (is_whole && is_some (called_signature env callee))
-- a statement that is no call
breaks_calls env (NoCall e) = true
breaks_calls env node = false
