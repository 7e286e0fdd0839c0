use Rattle.std.proofs.Common.{◌≡◌, true, Some, slice_get, ap, sym, ◌∙◌, arith}
use Rattle.df_vm_store.specs.View.{cells_of, size_of}
use Rattle.df_vm_store.specs.Meaning.{is_within}
use Rattle.df_vm_store.proofs.Kept.{copied_next}
use Rattle.df_vm_store.proofs.compact.copy_cell.Goals as goal

pub returns : goal.returns
returns c =
    let marked : slice_get c.args.live.now c.args.cell ≡ Some true = sym c.in-Some.ensures ∙ ap Some c.if-not-marked.false in
    let at : slice_get c.args.places.now c.args.cell ≡ Some (size_of c.args.copy.now) = sym c.in-Some-place.ensures ∙ ap Some (omega (arith, c.size-size.ensures)) in
    copied_next (cells_of c.args.store.now) (cells_of c.args.copy.now) (cells_of c.put.new.self) c.args.places.now c.args.live.now c.args.cell c.in-Some-cell.word c.in-Some-carry.moved c.requires.grows c.args.store.now.founded c.requires.places
    marked at c.in-Some-cell.ensures.word c.in-Some-carry.ensures.value (ap (λ k. is_within k c.in-Some-carry.moved) (sym c.size-size.ensures) ∙ c.in-Some-carry.ensures.within) c.in_ok-put.ensures
