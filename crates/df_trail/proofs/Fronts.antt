-- Lists that begin others.
use Rattle.std.proofs.Common.{◌≤◌, List, length, take, sym, ap, ◌∙◌, arith, length-take}
use Rattle.std.proofs.lemmas.List.{take-take}
use Rattle.df_logbuild.specs.Front.{IsFront}

pub front_then : {A : Type 0} (a b c : List A) → IsFront a b → IsFront b c → IsFront a c
front_then a b c first second =
    let within : length a ≤ length b = omega (arith, ap length first, length-take (length a) b) in
    sym (take-take (length a) (length b) c within) ∙ ap (take (length a)) second ∙ first
