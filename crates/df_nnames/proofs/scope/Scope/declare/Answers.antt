use Rattle.std.proofs.Common.{◌≡◌, ◌++◌, ◌∷◌, [], ◌∙◌, ap, length, arith}
use Rattle.std.specs.Prelude.{nat_eq}
use Rattle.std.proofs.lemmas.List.{length-append}
use Rattle.indexmap.specs.IndexMap.{get}
use Rattle.df_nnames.specs.declared.scope.Local.{Local}
use Rattle.df_nnames.proofs.Latest.{declared}
use Rattle.df_nnames.proofs.scope.Scope.declare.Goals as goal

pub invariant_of-self-2 : goal.invariant_of-self-2
invariant_of-self-2 c =
    let local : Local = record { name = c.args.name; hidden = c.in_ok-hidden.hidden } in
    let items = c.self.inside.locals.items in
    let made : c.push.new.self.items ≡ items ++ local ∷ [] = c.in_ok-push.ensures.items ∙ ap (λ xs. xs ++ local ∷ []) c.reserve.ensures.items in
    let within = c.self.invariant.0 in
    let more = length-append items (local ∷ []) in
    let reserved = ap length c.reserve.ensures.items in
    let count : c.len.result ≡ length items = omega arith in
    rw made (omega arith, declared (get nat_eq c.self.inside.latest) (get nat_eq c.insert.new.self) items local c.self.invariant.1 c.in_ok-hidden.ensures.old (rw (← count) c.in_ok-hidden.ensures.updates.0))
