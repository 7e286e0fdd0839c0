-- Rules of names, and of locals whose type nothing fixes.
use Rattle.std.specs.Prelude.{ℕ, Bool, true, false, nat_eq, List, slice_get, is_some, not, Option, Some}
use Rattle.std.specs.List.{list_any}
use Rattle.df_ntyping.specs.Table.{newtype_of}
use Rattle.df_ntyping.specs.Environment.{Environment, Inferred, Open, Used}
use Rattle.df_ntyping.specs.Meaning.{meaning_of}
use Rattle.df_ntyping.specs.Node.{Node, NewName, UsedName, UsedType, Untyped}

-- the name is among these
abbrev pub is_among : List ℕ → ℕ → Bool
is_among names name = list_any (nat_eq name) names

-- S6: a name in an expression, before arguments or on the left is that of a local or of a method; a type's is that of a
-- newtype
abbrev pub breaks_unknown : Environment → Node → Bool
breaks_unknown env (UsedName ident) = not (is_some (meaning_of env ident.name))
breaks_unknown env (UsedType ident) = not (is_some (newtype_of env.table.newtypes ident.name))
breaks_unknown env node = false

-- S7: a name is declared once in its scope
abbrev pub breaks_twice : Environment → Node → Bool
breaks_twice env (NewName before ident) = is_among before ident.name
breaks_twice env node = false

-- no assignment comes before the first use, or none at all
abbrev pub is_unfixed : Option Inferred → Bool
is_unfixed (Some Open) = true
is_unfixed (Some Used) = true
is_unfixed inferred = false

-- S10: a local without a type and a value is assigned before it is used
abbrev pub breaks_uninferred : Environment → Node → Bool
breaks_uninferred env (Untyped number ident) = is_unfixed (slice_get env.types number)
breaks_uninferred env node = false
