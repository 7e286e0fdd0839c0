use Rattle.std.proofs.Common.{◌+◌, ◌++◌, ℕ, length, map, drop, arith, rules, ap, ◌∙◌}
use Rattle.df_lang.specs.DeclView.{decl_of}
use Rattle.df_nerase.specs.Erasing.{methods_among}
use Rattle.df_nerase.specs.mirror.Numbers.{numbers_from}
use Rattle.df_nerase.proofs.Numbered.{numbers_end, methods_end, newtype_numbered, method_numbered, newtype_counted, method_counted}
use Rattle.df_nerase.proofs.numbers.count.Goals as goal
use Rattle.df_nerase.proofs.numbers.count.Goals.{in-Newtype, in-Method}

pub loop-decl-preserved : goal.loop-decl-preserved
loop-decl-preserved c =
    let l = c.loop-decl in
    let all = c.args.program.now.decls.items in
    let i = l.decl-index in
    let item = c.decl-item.result in
    let behind = map decl_of (drop (i + 1) all) in
    let pushed = c.in_ok-push.ensures.items in
    elim c.match-decl.branch [
      | in-Newtype w ↦ record {
        before = (λ j. pushed j ++ numbers_from (w.all-is j) behind) ∙ newtype_numbered all i l.all item (omega arith) (search rules) w.in-Newtype.field-0 w.in-Newtype.is l.before.items _ l.invariant.before;
        all = ap (λ (n : ℕ). n + length (methods_among behind)) w.all-is ∙ newtype_counted all i l.all item (omega arith) (search rules) w.in-Newtype.field-0 w.in-Newtype.is _ l.invariant.all;
        few = omega (arith, w.all-is, l.invariant.few);
      }
      | in-Method w ↦ record {
        before = (λ j. pushed j ++ numbers_from (w.all-is j) behind) ∙ method_numbered all i l.all item (omega arith) (search rules) w.in-Method.field-0 w.in-Method.is l.before.items _ l.invariant.before;
        all = ap (λ (n : ℕ). n + length (methods_among behind)) w.all-is ∙ method_counted all i l.all item (omega arith) (search rules) w.in-Method.field-0 w.in-Method.is _ l.invariant.all;
        few = omega (arith, w.all-is, l.invariant.few);
      }
    ]

pub returns-clause-before : goal.returns-clause-before
returns-clause-before c = let l = c.loop-decl in numbers_end c.args.program.now.decls.items l.decl-index l.all l.before.items _ (omega arith) l.invariant.before

pub returns-clause-all : goal.returns-clause-all
returns-clause-all c = let l = c.loop-decl in methods_end c.args.program.now.decls.items l.decl-index l.all _ (omega arith) l.invariant.all
