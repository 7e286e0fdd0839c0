-- What falls along the calls of the parser: the room, then how loose the level is, then the function.
use Rattle.std.proofs.Common.{◌≡◌, ℕ, ◌+◌, ◌*◌, ◌-◌, ◌<◌, refl, arith}
use Rattle.df_ntree.specs.declared.expr.Level.{Level}
use Rattle.df_ntree.specs.declared.expr.Level.TheVariants as levels
use Rattle.df_ntree.specs.Operator.{rank, tighter}

-- the tightest level is the least
abbrev pub looseness : Level → ℕ
looseness level = (8 - rank level) * 10

abbrev pub measure : ℕ → Level → ℕ → ℕ
measure room level step = room * 200 + looseness level + step

pub falls_to_operand : (level : Level) → rank level < 6 → looseness (tighter level) + 9 < looseness level + 6
falls_to_operand levels.Primary h = absurd (omega arith)
falls_to_operand _ h = omega arith

pub low_rank : (level : Level) → (level ≡ levels.Primary → ⊥) → (level ≡ levels.Unary → ⊥) → (level ≡ levels.Cast → ⊥) → rank level < 6
low_rank levels.Primary p u c = absurd (p refl)
low_rank levels.Unary p u c = absurd (u refl)
low_rank levels.Cast p u c = absurd (c refl)
low_rank _ p u c = omega arith

pub looseness_small : (level : Level) → looseness level < 81
looseness_small levels.Primary = omega arith
looseness_small _ = omega arith
