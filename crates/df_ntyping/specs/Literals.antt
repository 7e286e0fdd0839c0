-- Trees that tokens spell: of the grammar, with numbers and characters that a token may have.
use Rattle.std.specs.Prelude.{◌≡◌, ◌^◌, nat_lt, Bool, true, ℕ, List}
use Rattle.std.specs.List.{list_all}
use Rattle.df_tok.specs.declared.token.Kind.TheVariants as kinds
use Rattle.df_ntree.specs.Spelling.{Piece, Plain, Characters}
use Rattle.df_ntree.specs.Expr.{Expr}
use Rattle.df_ntree.specs.ExprSpelling.{spell, IsExpr}
use Rattle.df_ntree.specs.File.{File}
use Rattle.df_ntree.specs.FileSpelling.{spell_file, IsFile}

-- a number is at most 2^127 - 1, and a character is one of the 128
abbrev pub is_in_range : Piece → Bool
is_in_range (Plain (kinds.Number n) place) = nat_lt n (2 ^ 127)
is_in_range (Plain (kinds.Character code) place) = nat_lt code 128
is_in_range (Plain kind place) = true
is_in_range (Characters characters) = list_all (λ (code : ℕ). nat_lt code 128) characters

abbrev pub AreInRange : List Piece → Type 0
AreInRange pieces = list_all is_in_range pieces ≡ true

abbrev pub IsReadExpr : Expr → Type 0
IsReadExpr e = IsExpr e × AreInRange (spell e)

abbrev pub IsReadFile : File → Type 0
IsReadFile file = IsFile file × AreInRange (spell_file file)
