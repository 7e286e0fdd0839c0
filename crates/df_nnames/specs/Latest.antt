-- How a scope finds its locals: each name has its last local, and each local keeps the one that it hides.
use Rattle.std.specs.Prelude.{◌≡◌, ℕ, suc, List, [], ◌∷◌, map, take, slice_get, Option, Some, None, if◌then◌else◌, nat_eq}
use Rattle.df_nnames.specs.declared.scope.Local.{Local}

-- the number of the last local of a name, where it is known of those after the first
abbrev pub after_first : ℕ → ℕ → Option ℕ → Option ℕ
after_first local name (Some number) = Some (suc number)
after_first local name None = if nat_eq local name then Some 0 else None

-- the number of the last local of a name
abbrev pub last_of : List ℕ → ℕ → Option ℕ
last_of [] name = None
last_of (local ∷ others) name = after_first local name (last_of others name)

abbrev pub names_of : List Local → List ℕ
names_of locals = map (λ (local : Local). local.name) locals

-- each name is found at its last local, and each local tells the one that it hides
pub record IsIndex (latest : ℕ → Option ℕ) (locals : List Local) : Type 0 where
  pub found : (name : ℕ) → latest name ≡ last_of (names_of locals) name
  pub hidden : (number : ℕ) (local : Local) → slice_get locals number ≡ Some local → local.hidden ≡ last_of (take number (names_of locals)) local.name
