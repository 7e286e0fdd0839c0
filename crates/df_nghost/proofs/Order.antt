-- The order in which uses are told.
use Rattle.std.proofs.Common.{◌≡◌, true, false}
use Rattle.df_ntyping.proofs.LeastExists.{not_true, true_not_false, less_asym, less_neg, by_asym, by_neg}
use Rattle.df_nghost.specs.declared.reads.Use.{Use}
use Rattle.df_nghost.specs.mirror.Uses.{precedes}

pub precedes_asym : (a b : Use) → precedes a b ≡ true → precedes b a ≡ false
precedes_asym a b = by_asym a.pos.line b.pos.line _ _ (by_asym a.pos.col b.pos.col _ _ (by_asym a.local b.local _ _ (less_asym a.name b.name)))

pub precedes_neg : (a b c : Use) → precedes a b ≡ false → precedes b c ≡ false → precedes a c ≡ false
precedes_neg a b c =
    by_neg a.pos.line b.pos.line c.pos.line _ _ _ (by_neg a.pos.col b.pos.col c.pos.col _ _ _ (by_neg a.local b.local c.local _ _ _ (less_neg a.name b.name c.name)))

pub precedes_self : (a : Use) → precedes a a ≡ false
precedes_self a = not_true (precedes a a) (λ p. true_not_false (precedes a a) p (precedes_asym a a p))
