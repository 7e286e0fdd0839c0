use Rattle.std.proofs.Common.{ℕ, ◌∙◌, length, refl, subst}
use Rattle.df_classes.specs.SignsView.{tables_of}
use Rattle.df_classes.specs.mirror.Signs.{AreWide}
use Rattle.df_classes.proofs.Stamping.{wide_still}
use Rattle.df_classes.proofs.Taking.{covered_none, covered_first}
use Rattle.df_classes.proofs.quiet.first_signs.Goals as goal

pub returns-then-not-branch : goal.returns-then-not-branch
returns-then-not-branch c =
    let begun = c.in_ok-signs.signs in
    let put = c.put_numbers.new.self in
    covered_none c.args.nodes.now c.args.holding.now put
    (wide_still (length c.args.nodes.now) 0 (tables_of begun) (tables_of put) c.put_numbers.ensures.keeps (subst (λ (n : ℕ). AreWide n (tables_of begun)) c.len.ensures.len c.in_ok-signs.ensures.wide))
    (c.put_numbers.ensures.covered ∙ c.in_ok-signs.ensures.covered)

pub returns : goal.returns
returns c =
    let begun = c.in_ok-signs.signs in
    let put = c.put_numbers.new.self in
    covered_first c.args.nodes.now c.args.holding.now c.requires.holding c.requires.held c.args.numbers.now c.requires.numbers _
    (wide_still (length c.args.nodes.now) 0 (tables_of begun) (tables_of put) c.put_numbers.ensures.keeps (subst (λ (n : ℕ). AreWide n (tables_of begun)) c.len.ensures.len c.in_ok-signs.ensures.wide))
    (c.in_ok-put_numbers.ensures.puts c.if-not-branch.false)
    refl
