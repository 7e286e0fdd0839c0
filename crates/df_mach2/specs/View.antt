-- Code, without where it lies in memory.
use Rattle.std.specs.Prelude.{List, map, string_bytes}
use Rattle.df_mach2.specs.declared.code.Constructor.{Constructor}
use Rattle.df_mach2.specs.declared.code.Shape.{Shape}
use Rattle.df_mach2.specs.declared.code.Shape.TheVariants as shapes
use Rattle.df_mach2.specs.declared.code.Method.{Method}
use Rattle.df_mach2.specs.declared.code.Code.{Code}
use Rattle.df_mach2.specs.Shape as pure
use Rattle.df_mach2.specs.State as state

abbrev pub constructor_of : Constructor → pure.Constructor
constructor_of c = record { name = string_bytes c.name; parts = c.parts.items }

abbrev pub shape_of : Shape → pure.Shape
shape_of shapes.Number = pure.NumberShape
shape_of shapes.Truth = pure.TruthShape
shape_of shapes.Char = pure.CharShape
shape_of shapes.Text = pure.TextShape
shape_of (shapes.List s) = pure.ListShape s
shape_of (shapes.Data cs) = pure.DataShape (map constructor_of cs.items)

abbrev pub method_of : Method → state.Method
method_of m = record { name = string_bytes m.name; parameters = m.parameters; results = m.results; locals = m.locals; instructions = m.instructions.items }

abbrev pub code_of : Code → state.Code
code_of c = record { methods = map method_of c.methods.items; shapes = map shape_of c.shapes.items }
