use Rattle.std.proofs.Common.{◌≡◌, ◌∙◌, ℤ, pos, ◌*ℤ◌, drop, get_or, ap, refl, subst, rules}
use Rattle.std.proofs.lemmas.Int.{to_z-of_z}
use Rattle.df_row.specs.Row.{fits}
use Rattle.df_row.proofs.Rows.{passed}
use Rattle.df_level.proofs.Multiples.{IsTesting, IsFitting, testing_begins, multiples_next, multiple_lacks, multiples_end}
use Rattle.df_level.proofs.entries.have_multiples.Goals as goal

pub loop-entry-init : goal.loop-entry-init
loop-entry-init c = testing_begins (IsFitting (passed c.args.factor)) c.args.entries.now c.requires

pub returns-then-not-has_product : goal.returns-then-not-has_product
returns-then-not-has_product c =
    let f = c.args.factor in
    let all = c.args.entries.now in
    let i = c.loop-entry.entry-index in
    let z = (get_or all i (0, pos 0)).1 in
    let f_passes : passed f ≡ f = search (rules, to_z-of_z) in
    let z_passes : passed z ≡ z = search (rules, to_z-of_z) in
    let P : ℤ → Type 0 = λ y. IsTesting (IsFitting y) all (drop i all) in
    multiple_lacks f all i z c.has_product.result (subst P f_passes c.loop-entry.invariant) c.loop-entry-test.true refl (c.has_product.ensures ∙ ap (λ y. fits (y *ℤ passed z)) f_passes ∙ ap (λ y. fits (f *ℤ y)) z_passes) c.if-not-has_product.true

pub loop-entry-preserved : goal.loop-entry-preserved
loop-entry-preserved c =
    let f = passed c.args.factor in
    let all = c.args.entries.now in
    let i = c.loop-entry.entry-index in
    let z = (get_or all i (0, pos 0)).1 in
    let z_passes : passed z ≡ z = search (rules, to_z-of_z) in
    multiples_next f all i z c.has_product.result c.loop-entry.invariant c.loop-entry-test.true refl (c.has_product.ensures ∙ ap (λ y. fits (f *ℤ y)) z_passes) c.if-not-has_product.false

pub returns : goal.returns
returns c =
    let f = c.args.factor in
    let all = c.args.entries.now in
    let i = c.loop-entry.entry-index in
    let f_passes : passed f ≡ f = search (rules, to_z-of_z) in
    let P : ℤ → Type 0 = λ y. IsTesting (IsFitting y) all (drop i all) in
    multiples_end f all i (subst P f_passes c.loop-entry.invariant) c.loop-entry-test.false
