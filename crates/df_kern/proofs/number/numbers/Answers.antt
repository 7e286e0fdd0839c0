use Rattle.std.proofs.Common.{ℕ, ◌==◌, List, None, get_or, drop, ◌+◌, refl, ap, ◌∙◌, arith, if◌then◌else◌}
use Rattle.std.specs.Option.{option_or}
use Rattle.std.specs.Ordering.{nat_cmp}
use Rattle.std.specs.BTreeMap.{get}
use Rattle.df_rules.specs.CongruenceLine.{number_at, number_in}
use Rattle.df_kern.specs.ClassesView.{class_of}
use Rattle.df_rules.proofs.Scans.{left_here, option_moved}
use Rattle.df_kern.proofs.number.numbers.Goals as goal

pub loop-member-preserved : goal.loop-member-preserved
loop-member-preserved c =
    let nodes = c.args.nodes.now in
    let members = c.args.members.now in
    let class = class_of c.args.classes.now in
    let i = c.loop-member.member-index in
    let x = get_or members i 0 in
    let same = c.loop-member.invariant.0 in (
      c.in_ok-add_number.ensures.same ∙ same,
      λ k.
          c.loop-member.invariant.1 k
          ∙ ap (λ (ns : List ℕ). option_or (number_in nodes class ns k) (get nat_cmp c.loop-member.numbers k)) (left_here members i 0 x (omega arith) refl)
          ∙ option_moved (number_in nodes class (drop (i + 1) members) k) (if class x == k then number_at nodes x else None) (get nat_cmp c.loop-member.numbers k) (get nat_cmp c.add_number.new.numbers k)
          (c.in_ok-add_number.ensures.more k ∙ ap (λ f. option_or (if f x == k then number_at nodes x else None) (get nat_cmp c.loop-member.numbers k)) same),
    )
