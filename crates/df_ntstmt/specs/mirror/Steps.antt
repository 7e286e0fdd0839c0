-- The steps of a walk that tells the first rule that it finds broken: what private contracts cite.
use Rattle.std.specs.Prelude.{Bool, List, ◌++◌, Option, Some, None, Ok, Err, if◌then◌else◌}
use Rattle.df_base.specs.declared.pos.Pos.{Pos}
use Rattle.df_base.specs.declared.refusal.Code.TheVariants as codes
use Rattle.df_base.specs.declared.refusal.Detail.TheVariants as details
use Rattle.df_base.specs.declared.refusal.Refusal.{Refusal}
use Rattle.df_lang.specs.declared.ty.Ty.{Ty}
use Rattle.df_lang.specs.declared.ty.Ty.TheVariants as types
use Rattle.df_ntree.specs.declared.tree.Ident.{Ident}
use Rattle.df_ntree.specs.Expr.{Expr}
use Rattle.df_ntyping.specs.Environment.{Environment}
use Rattle.df_ntyping.specs.Rule.{TypingRule, typing_number}
use Rattle.df_ntyping.specs.Wanted as wanteds
use Rattle.df_ntyping.specs.Wanted.{Wanted}
use Rattle.df_ntyping.specs.mirror.Parts.{Typed}
use Rattle.df_ntyping.specs.mirror.Wanting.{wanted_in}
use Rattle.df_ntexpr.specs.Replies.{Reply, told}

abbrev pub and_then : {A B : Type 0} → Reply A → (A → Reply B) → Reply B
and_then (Ok a) f = f a
and_then (Err refusal) f = Err refusal

-- with others before them
abbrev pub in_front : {A : Type 0} → List A → Reply (List A) → Reply (List A)
in_front before (Ok others) = Ok (before ++ others)
in_front before (Err refusal) = Err refusal

-- ---- what is told

abbrev pub broken : TypingRule → Pos → Refusal
broken rule pos = record { code = codes.Typing; pos = pos; detail = details.Rule (typing_number rule) }

-- nothing fixes the type of a local
abbrev pub uninferred : Ident → Refusal
uninferred ident = record { code = codes.Uninferred; pos = ident.pos; detail = details.Nothing }

-- it is told unless the test holds
abbrev pub unless : Bool → Refusal → Reply (Unit {0})
unless holds refusal = if holds then Ok tt else Err refusal

-- ---- expressions

-- a type that is not known is that of no place
abbrev pub or_int : Option Ty → Ty
or_int (Some ty) = ty
or_int None = types.Int

abbrev pub typed_in : Environment → Wanted → Expr → Reply Typed
typed_in env wanted e = told (wanted_in env wanted e)

-- what is asked of an expression at a place, if its type is known
abbrev pub wanted_at : Option Ty → Wanted
wanted_at None = wanteds.Nothing
wanted_at (Some place) = wanteds.Place place
