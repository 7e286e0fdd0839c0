-- Lists that begin others.
use Rattle.std.specs.Prelude.{◌≡◌, List, length, take}

-- the first elements of the one are the other
abbrev pub IsFront : {A : Type 0} → List A → List A → Type 0
IsFront front all = take (length front) all ≡ front
