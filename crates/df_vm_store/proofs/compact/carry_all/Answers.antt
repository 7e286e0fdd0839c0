use Rattle.std.proofs.Common.{◌≡◌, ℕ, true, map, ap, sym, ◌∙◌, arith, pos}
use Rattle.df_vm_store.specs.declared.word.Word.TheVariants as words
use Rattle.df_vm_store.specs.Compact.{kept}
use Rattle.df_vm_store.specs.View.{cells_of, size_of, values_in}
use Rattle.df_vm_store.specs.Meaning.{are_within, is_within}
use Rattle.df_vm_store.proofs.Meanings.{within_at, within_nil, cells_length}
use Rattle.df_vm_store.proofs.Kept.{carried_more, within_more_word}
use Rattle.df_vm_store.specs.Meaning.{value_in}
use Rattle.df_vm_store.proofs.compact.carry_all.Goals as goal

pub loop-word-init : goal.loop-word-init
loop-word-init c = record {
  values = ap (map (value_in (values_in c.args.copy.now))) c.in_ok-moved.ensures.items;
  within = ap (are_within (size_of c.args.copy.now)) c.in_ok-moved.ensures.items ∙ within_nil (size_of c.args.copy.now);
  room = omega (arith, c.in_ok-moved.ensures);
}

pub carry-requires-clause-within : goal.carry-requires-clause-within
carry-requires-clause-within c = within_at (size_of c.args.store.now) c.args.words.now c.loop-word.word-index (words.Number (pos 0)) (omega arith) c.requires.within

pub loop-word-preserved : goal.loop-word-preserved
loop-word-preserved c =
    let n : ℕ = size_of c.args.copy.now in
    let within : is_within n c.in-Some.word ≡ true = ap (λ k. is_within k c.in-Some.word) (sym c.size-size.ensures) ∙ c.in-Some.ensures.within in
    record {
      values = carried_more (values_in c.args.copy.now) (values_in c.args.store.now) (kept c.args.live.now (values_in c.args.store.now)) c.loop-word.moved.items c.push.new.self.items c.args.words.now c.loop-word.word-index (words.Number (pos 0)) c.in-Some.word c.loop-word.invariant.values (omega arith) c.in_ok-push.ensures.items c.requires.grows
          (ap (λ k. is_within k c.in-Some.word) (cells_length (cells_of c.args.copy.now)) ∙ within) c.in-Some.ensures.value;
      within = within_more_word n c.loop-word.moved.items c.push.new.self.items c.in-Some.word c.in_ok-push.ensures.items c.loop-word.invariant.within within;
      room = omega (arith, c.loop-word.invariant.room);
    }
