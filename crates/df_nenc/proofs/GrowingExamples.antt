-- A table and conditions that grow, and conditions that do not, by computation.
use Rattle.std.proofs.Common.{◌≡◌, List, [], ◌∷◌, length, refl, ap, arith}
use Rattle.df_form.specs.Node.{Node}
use Rattle.df_nenc.specs.declared.condition.Condition.{Condition}
use Rattle.df_nenc.specs.Growing.{IsFront}
use Rattle.df_nenc.specs.Encoding.{Extends}

-- a node more, and a condition more
pub one_more : (x y : Node) (c : Condition) → Extends (x ∷ []) (x ∷ y ∷ []) [] (c ∷ [])
unfolding IsFront
one_more x y c = record { grows = record { more = y ∷ []; is = refl }; begins = refl }

-- a condition less
pub none_less : (nodes : List Node) (c : Condition) → Extends nodes nodes (c ∷ []) [] → ⊥
unfolding IsFront
none_less nodes c e = let same : 0 ≡ 1 = ap (λ (all : List Condition). length all) e.begins in omega (arith, same)
