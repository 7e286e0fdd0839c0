use Rattle.std.proofs.Common.{◌≡◌, ℕ, zero, suc, ◌<◌, List, [], ◌∷◌, length, get_or, sym, subst, arith}
use Rattle.std.specs.List.{AllByRecursion}
use Rattle.df_nowed.specs.Owed.{IsOwed}
use Rattle.df_obligation_rows.proofs.proposing.are_seen.Goals as goal

all_hold : {A : Type 0} (P : A → Type 0) (xs : List A) (i : ℕ) (d : A) → AllByRecursion P xs → i < length xs → P (get_or xs i d)
all_hold P [] i d all less = absurd (omega arith)
all_hold P (y ∷ ys) zero d all less = all.0
all_hold P (y ∷ ys) (suc i) d all less = all_hold P ys i d all.1 (omega arith)

pub is_seen-requires : goal.is_seen-requires
is_seen-requires c =
    let method = c.args.method.now in
    let all = subst (AllByRecursion (IsOwed method.known)) (sym c.deref-obligation-items.ensures.value) method.are_owed in
    all_hold (IsOwed method.known) c.deref-obligation-items.result.now c.loop-obligation.obligation-index _ all c.loop-obligation-test.true
