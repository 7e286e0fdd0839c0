-- The numbers of methods, as the code counts them.
use Rattle.std.specs.Prelude.{ℕ, suc, List, [], ◌∷◌}
use Rattle.df_lang.specs.Program.{Decl, NewtypeDecl, MethodDecl}

-- of each declaration how many methods come before it, after so many
abbrev pub numbers_from : ℕ → List Decl → List ℕ
numbers_from count [] = []
numbers_from count (NewtypeDecl newtype ∷ others) = count ∷ numbers_from count others
numbers_from count (MethodDecl method ∷ others) = count ∷ numbers_from (suc count) others
