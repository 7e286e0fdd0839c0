use Rattle.std.proofs.Common.{ℕ, List, ◌+◌, take, get_or, refl, sym, subst, ◌∙◌, arith}
use Rattle.df_classes.specs.mirror.Users.{AddsUser}
use Rattle.df_classes.proofs.NumberNodes.{adds_none, user_more, user_past, user_all}
use Rattle.df_classes.proofs.users.add_user.Goals.{then-part-len+in_ok-push, else-part-len}
use Rattle.df_classes.proofs.users.add_user.Goals as goal

pub loop-part-init : goal.loop-part-init
loop-part-init c = adds_none c.args.users.now c.args.user

pub loop-part-preserved : goal.loop-part-preserved
loop-part-preserved c =
    let old = c.args.users.now in
    let mid = c.loop-part.users in
    let parts = c.args.parts.now in
    let i = c.loop-part.part-index in
    let adds : List (List ℕ) → Type 0 = λ users. AddsUser old users (take (i + 1) parts) c.args.user in
    elim c.if-part-len.branch [
      | then-part-len+in_ok-push w ↦ subst adds (sym (w.users-is ∙ w.in_ok-push.ensures.pushed)) (user_more old mid parts i (get_or parts i 0) c.args.user (omega arith) refl (omega (arith, w.if-part-len.true, c.len.ensures)) c.loop-part.invariant)
      | else-part-len w ↦ subst adds (sym w.users-is) (user_past old mid parts i (get_or parts i 0) c.args.user (omega arith) refl (omega (arith, w.if-part-len.false, c.len.ensures)) c.loop-part.invariant)
    ]

pub returns : goal.returns
returns c = user_all c.args.users.now c.loop-part.users c.args.parts.now c.loop-part.part-index c.args.user (omega arith) c.loop-part.invariant
