-- What was read of an expression.
use Rattle.std.specs.Prelude.{ℕ, List, map}
use Rattle.df_ntree.specs.Expr.{expr_of, Operation, operation_of}
use Rattle.df_ntree.specs.mirror.ExprReading as mirror
use Rattle.df_npexpr.specs.declared.part.Part.{Part}
use Rattle.df_npexpr.specs.declared.part.Parts.{Parts}
use Rattle.df_npexpr.specs.declared.part.Found.{Found}
use Rattle.df_npexpr.specs.declared.part.Row.{Row}

abbrev pub part_of : Part → mirror.Part
part_of x = (expr_of x.tree, x.height)

abbrev pub parts_of : Parts → mirror.Parts
parts_of x = (map expr_of x.trees.items, x.height)

abbrev pub found_of : Found → Operation × ℕ
found_of x = (operation_of x.operation, x.height)

abbrev pub row_of : Row → List Operation × ℕ
row_of x = (map operation_of x.operations.items, x.height)
