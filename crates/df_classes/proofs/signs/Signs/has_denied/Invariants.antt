use Rattle.std.proofs.Common.{◌≡◌, ℕ, Bool, drop}
use Rattle.std.specs.List.{list_any}
use Rattle.df_classes.specs.mirror.State.{label_of}
use Rattle.df_classes.specs.PartitionView.{state_of}
use Rattle.df_classes.specs.SignsView.{tables_of, may_be_denied}
use Rattle.df_classes.proofs.signs.Signs.has_denied.Given as goal

abbrev pub invariant-loop-user : goal.invariant-loop-user
invariant-loop-user l =
    let test : ℕ → Bool = may_be_denied l.nodes (label_of (state_of l.partition)) l.held (tables_of l.self) in list_any test l.users ≡ list_any test (drop l.user-index l.users)
