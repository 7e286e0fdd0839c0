-- Lists of which each element is seen through a view.
use Rattle.std.proofs.Common.{◌≡◌, ℕ, List, map, take, drop}
use Rattle.std.proofs.lemmas.List.{take-map, drop-map}

pub taken : {X Y : Type 0} (f : X → Y) (n : ℕ) (xs : List X) → take n (map f xs) ≡ map f (take n xs)
taken f n xs = take-map f n xs

pub dropped : {X Y : Type 0} (f : X → Y) (n : ℕ) (xs : List X) → drop n (map f xs) ≡ map f (drop n xs)
dropped f n xs = drop-map f n xs
