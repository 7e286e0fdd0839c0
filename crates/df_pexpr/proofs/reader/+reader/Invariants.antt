use Rattle.std.proofs.Common.{◌≡◌, ◌+◌, ◌*◌, ◌-◌, map}
use Rattle.df_tok.specs.Token.{view}
use Rattle.df_tree.specs.Grammar.{row}
use Rattle.df_tree.specs.Building.{outside}
use Rattle.df_pexpr.specs.mirror.Reading.{turn_limit}
use Rattle.df_pexpr.specs.mirror.Construction.{grow, builder, begun, room_inside, frame_of}
use Rattle.df_pexpr.proofs.reader.+reader.Given as goal

abbrev pub decreases-read_part : goal.decreases-read_part
decreases-read_part l = l.left * 3 + 2

abbrev pub decreases-read_node : goal.decreases-read_node
decreases-read_node l = l.left * 3 + 1

abbrev pub decreases-read_children : goal.decreases-read_children
decreases-read_children l = l.left * 3 + 3

abbrev pub invariant-read_children-trees : goal.invariant-read_children-trees
invariant-read_children-trees l =
    grow (map view l.tokens) (builder (map view l.tokens) l.left (room_inside (row l.n).counting l.room)) l.room (turn_limit - l.k) l.n (frame_of l.outer) l.before l.k (record { frame = frame_of l.frame; at = l.at; height = l.height; filled = l.filled })
    ≡ grow (map view l.tokens) (builder (map view l.tokens) l.left (room_inside (row l.n).counting l.room)) l.room turn_limit l.n (outside (row l.n).way l.start (frame_of l.fn.around)) l.before 0 (begun (row l.n) l.before (frame_of l.fn.around) l.start)
