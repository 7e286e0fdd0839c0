-- Newtypes as contracts see them; when two types are one, and which have no bound.
use Rattle.std.specs.Prelude.{ℕ, ℤ, List, Bool, true, false, ◌==◌}
use Rattle.df_base.specs.declared.pos.Pos.{Pos}
use Rattle.df_lang.specs.declared.ty.Ty.{Ty}
use Rattle.df_lang.specs.declared.ty.Ty.TheVariants as types

-- a declared name, its qualified text, and where it stands
pub record Declared : Type 0 where
  pub name : ℕ
  pub text : List ℕ
  pub pos : Pos

-- a newtype: its interval, and its default
pub record Newtype : Type 0 where
  pub declared : Declared
  pub low : ℤ
  pub high : ℤ
  pub default : ℤ

-- two types are one
abbrev pub same_type : Ty → Ty → Bool
same_type (types.Newtype a) (types.Newtype b) = a == b
same_type types.Int types.Int = true
same_type types.Nat types.Nat = true
same_type types.Bool types.Bool = true
same_type types.Char types.Char = true
same_type a b = false

-- compiled places have numbers of newtypes alone: `int` and `nat` have no bound
abbrev pub is_unbounded : Ty → Bool
is_unbounded (types.Newtype id) = false
is_unbounded types.Int = true
is_unbounded types.Nat = true
is_unbounded types.Bool = false
is_unbounded types.Char = false
