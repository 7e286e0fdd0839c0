use Rattle.std.proofs.Common.{◌≡◌, drop}
use Rattle.std.specs.List.{list_any}
use Rattle.std.specs.Prelude.{nat_eq}
use Rattle.std.specs.Cmp.Lexicographic.{pointwise}
use Rattle.df_tok.proofs.word.is_listed.Given as goal

-- the answer on the rest is the answer on all
abbrev pub invariant-loop-word : goal.invariant-loop-word
invariant-loop-word l = list_any (λ word. pointwise nat_eq l.text word.now) (drop l.word-index l.words) ≡ list_any (λ word. pointwise nat_eq l.text word.now) l.words
