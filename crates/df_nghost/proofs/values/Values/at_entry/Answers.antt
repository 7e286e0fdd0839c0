use Rattle.std.proofs.Common.{sym, arith}
use Rattle.std.proofs.lemmas.List.{get_or_past}
use Rattle.df_nghost.specs.mirror.Listed.{holds}
use Rattle.df_nghost.proofs.Counting.{all_without}
use Rattle.df_nghost.proofs.values.Values.at_entry.Goals as goal

pub invariant_of-result : goal.invariant_of-result
invariant_of-result c =
    let items = c.in_ok-vec.field-0.items in
    let long = c.in_ok-vec.ensures.len in
    record { counted = sym (all_without (holds items) c.args.parameters c.args.results (λ k le. get_or_past items k _ (omega (arith, le, long)))) }
