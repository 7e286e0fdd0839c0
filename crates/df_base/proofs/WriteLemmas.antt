-- What two writes in a row do to known bytes.
use Rattle.std.proofs.Common.{◌≡◌, ℕ, ◌+◌, ◌-◌, List, ◌++◌, Option, Some, None, length, take, drop, sym, ap, ◌∙◌, append_assoc}
use Rattle.std.specs.Io.KnownBytes.{Appends}
use Rattle.std.proofs.Math.Seq.{take-add}
use Rattle.std.proofs.lemmas.List.{take_rest}

-- the bytes to `done`, and then `count` bytes of what was left
pub Appends-next : (first old new : Option (List ℕ)) (bytes : List ℕ) (done count : ℕ) → Appends first old (take done bytes) → Appends old new (take count (take (length bytes - done) (drop done bytes))) → Appends first new (take (done + count) bytes)
Appends-next None old new bytes done count h g = h
Appends-next (Some xs) None new bytes done count h g = absurd h
Appends-next (Some xs) (Some ys) None bytes done count h g = absurd g
Appends-next (Some xs) (Some ys) (Some zs) bytes done count h g =
    let written : zs ≡ ys ++ take count (drop done bytes) = rw take_rest at g in
    let joined = append_assoc xs (take done bytes) (take count (drop done bytes)) in
    written ∙ ap (λ l. l ++ take count (drop done bytes)) h ∙ joined ∙ ap (λ l. xs ++ l) (sym (take-add done count bytes))
