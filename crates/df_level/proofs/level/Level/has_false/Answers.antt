use Rattle.std.proofs.Common.{Bool, subst, sym}
use Rattle.std.specs.Bool.{Decides}
use Rattle.df_level.specs.Levels.{HasFalse, level_rows}
use Rattle.df_level.proofs.Falsehood.{tells_decides}
use Rattle.df_level.proofs.level.Level.has_false.Goals as goal

pub returns : goal.returns
returns c =
    let P : Bool → Type 0 = λ t. Decides t (HasFalse (level_rows c.args.self.now)) in
    subst P (sym c.is_some.ensures) (tells_decides (level_rows c.args.self.now) c.false_row.result c.false_row.ensures)
