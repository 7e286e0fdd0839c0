-- What is known of the type of an expression, whatever is broken in it: what private contracts cite.
use Rattle.std.specs.Prelude.{if◌then◌else◌}
use Rattle.df_ntree.specs.Expr.{Expr, Members, end, more}
use Rattle.df_ntyping.specs.Types.{arithmetic}
use Rattle.df_ntyping.specs.Environment.{Environment}
use Rattle.df_ntyping.specs.ExprTypes.{is_open, own_type}
use Rattle.df_nenv.specs.declared.outlook.Outlook.{Outlook}
use Rattle.df_nenv.specs.declared.outlook.Outlook.TheVariants as outlooks

-- it is made of literals alone, or has a type of its own, if that is known
abbrev pub outlook_of : Environment → Expr → Outlook
outlook_of env e = if is_open e then outlooks.Open else outlooks.Own (own_type env e)

-- a minus before what is known
abbrev pub negated : Outlook → Outlook
negated outlooks.Open = outlooks.Open
negated (outlooks.Own ty) = outlooks.Own (arithmetic ty ty)

-- operands of arithmetic so far, and one more
abbrev pub joined : Outlook → Outlook → Outlook
joined so_far outlooks.Open = so_far
joined outlooks.Open (outlooks.Own ty) = outlooks.Own (arithmetic ty ty)
joined (outlooks.Own left) (outlooks.Own right) = outlooks.Own (arithmetic left right)

abbrev pub joined_all : Environment → Outlook → Members → Outlook
joined_all env so_far end = so_far
joined_all env so_far (more operator at operand rest) = joined_all env (joined so_far (outlook_of env operand)) rest
