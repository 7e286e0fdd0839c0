use Rattle.std.proofs.Common.{◌≡◌, ◌++◌, take}
use Rattle.std.specs.List.{flat_map}
use Rattle.df_listing.specs.Listing.{shape_line}
use Rattle.df_listing.proofs.listing.push_shapes.Given as goal

abbrev pub invariant-loop-shape : goal.invariant-loop-shape
invariant-loop-shape l = l.text.items ≡ l.initial.text.items ++ flat_map shape_line (take l.shape-index l.shapes)
