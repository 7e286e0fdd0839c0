-- How a tree is read and its syntax tree is built at once.
use Rattle.std.specs.Prelude.{ℕ, zero, suc, ◌+◌, ◌-◌, ◌==◌, nat_lt, Bool, true, false, ◌&&◌, not, max, List, [], ◌∷◌, drop, map, if◌then◌else◌}
use Rattle.df_tok.specs.Token.{Token}
use Rattle.df_tree.specs.Ast.{ast_of}
use Rattle.df_tree.specs.Terminal.{terminal}
use Rattle.df_tree.specs.declared.production.Counting.{Counting}
use Rattle.df_tree.specs.declared.production.Counting.TheVariants.{Never, Always, IfMore, Each}
use Rattle.df_tree.specs.declared.production.Part.{Part}
use Rattle.df_tree.specs.declared.production.Part.TheVariants.{Terminal, Nonterminal}
use Rattle.df_tree.specs.Row.{Row}
use Rattle.df_tree.specs.Grammar.{row, begins, counted, one_more, height_limit}
use Rattle.df_tree.specs.Building.{Frame, opened, keep, enter, outside, leave}
use Rattle.df_pexpr.specs.declared.building.Frame as declared
use Rattle.df_pexpr.specs.declared.building.Found as found
use Rattle.df_pexpr.specs.declared.building.Outcome.{Outcome}
use Rattle.df_pexpr.specs.declared.building.Outcome.TheVariants.{Built, Stopped}
use Rattle.df_pexpr.specs.declared.reader.Step.{Step}
use Rattle.df_pexpr.specs.declared.reader.Step.TheVariants.{Read, Done, Fail}
use Rattle.df_pexpr.specs.mirror.Reading.{step, turn_limit, depth_limit}

-- what was built, the number of the token behind it, the height with what stands before it, and whether there is anything
pub record Construction : Type 0 where
  pub frame : Frame
  pub behind : ℕ
  pub height : ℕ
  pub filled : Bool

-- what came of reading: what was built, or the number of the first token that cannot go on
pub data Attempt : Type 0 where
  Success : Construction → Attempt
  Failure : ℕ → Attempt

abbrev pub and_then : (Construction → Attempt) → Attempt → Attempt
and_then f (Success x) = f x
and_then f (Failure at) = Failure at

-- what was built of a production so far: the second tree has something
pub record Sofar : Type 0 where
  pub frame : Frame
  pub at : ℕ
  pub height : ℕ
  pub filled : Bool

abbrev pub Builder : Type 0
Builder = ℕ → Frame → ℕ → Part → Attempt

-- the height before the first tree, before a further one, and behind it
abbrev pub height_at : Counting → ℕ → ℕ
height_at Never before = 0
height_at Always before = 0
height_at IfMore before = 0
height_at Each before = before

abbrev pub height_before : Counting → ℕ → ℕ
height_before Never height = height
height_before Always height = height
height_before IfMore height = height
height_before Each height = 0

abbrev pub height_behind : Counting → ℕ → ℕ → ℕ
height_behind Never height found = found
height_behind Always height found = found
height_behind IfMore height found = found
height_behind Each height found = one_more (max height found)

-- the height that is left for the trees of a production
abbrev pub room_inside : Counting → ℕ → ℕ
room_inside Never room = room
room_inside Always room = room - 1
room_inside IfMore room = room
room_inside Each room = room - 1

abbrev pub begun : Row → ℕ → Frame → ℕ → Sofar
begun r before frame at = record { frame = enter r.way at frame; at = at; height = height_at r.counting before; filled = false }

-- with the tree behind k others
abbrev pub further : Counting → ℕ → Sofar → Construction → Sofar
further counting k so_far found = record {
  frame = found.frame;
  at = found.behind;
  height = height_behind counting so_far.height found.height;
  filled = if k == 1 then found.filled else so_far.filled;
}

-- the height, if the production ends here
abbrev pub height_so_far : Counting → ℕ → Sofar → ℕ
height_so_far counting before so_far = counted counting before so_far.height so_far.height so_far.filled

abbrev pub finished : Row → Frame → ℕ → ℕ → Sofar → Construction
finished r outer before k so_far = record {
  frame = leave r.way outer so_far.at so_far.frame;
  behind = so_far.at;
  height = height_so_far r.counting before so_far;
  filled = nat_lt 0 k;
}

abbrev pub by_step_of : ℕ → Construction → (Part → Attempt) → Step → Attempt
by_step_of at ended reads Fail = Failure at
by_step_of at ended reads Done = Success ended
by_step_of at ended reads (Read p) = reads p

-- the trees of a production of at most the height `room`, behind k that were built before
unfoldable pub grow : List Token → Builder → ℕ → ℕ → ℕ → Frame → ℕ → ℕ → Sofar → Attempt
grow tokens build room zero n outer before k so_far = Failure so_far.at
grow tokens build room (suc turns) n outer before k so_far =
    if nat_lt room (height_so_far (row n).counting before so_far) then Failure so_far.at else by_step_of so_far.at
    (finished (row n) outer before k so_far)
    (λ p. and_then (λ x. grow tokens build room turns n outer before (suc k) (further (row n).counting k so_far x)) (build (height_before (row n).counting so_far.height) so_far.frame so_far.at p))
    (step (row n).form (row n) k (drop so_far.at tokens))

abbrev pub node_built : List Token → (ℕ → Builder) → ℕ → ℕ → Frame → ℕ → ℕ → Attempt
node_built tokens build room before frame at n =
    if (row n).narrow && not (begins (row n) (drop at tokens)) then Failure at
    else grow tokens (build (room_inside (row n).counting room)) room turn_limit n (outside (row n).way at frame) before 0 (begun (row n) before frame at)

-- a token, if it is of the terminal
abbrev pub taken : ℕ → Frame → ℕ → ℕ → Token → Attempt
taken before frame at kind x = if terminal x == kind then Success (record { frame = keep at x frame; behind = at + 1; height = before; filled = true }) else Failure at

abbrev pub leaf_built : ℕ → Frame → ℕ → ℕ → List Token → Attempt
leaf_built before frame at kind [] = Failure at
leaf_built before frame at kind (x ∷ xs) = taken before frame at kind x

-- with so many nodes inside one another, and of so much height
abbrev pub builder : List Token → ℕ → ℕ → Builder
builder tokens left room before frame at (Terminal kind) = leaf_built before frame at kind (drop at tokens)
builder tokens zero room before frame at (Nonterminal n) = Failure at
builder tokens (suc left) room before frame at (Nonterminal n) = node_built tokens (builder tokens left) room before frame at n

-- a tree of the production, from a token on
unfoldable pub attempt_from : ℕ → List Token → ℕ → Attempt
attempt_from n tokens start = builder tokens depth_limit height_limit 0 (opened start) start (Nonterminal n)

-- ---- of the code

abbrev pub frame_of : declared.Frame → Frame
frame_of frame = record { start = frame.start; title = frame.title; items = map ast_of frame.items.items }

abbrev pub construction_of : found.Found → Construction
construction_of f = record { frame = frame_of f.frame; behind = f.behind; height = f.height; filled = f.filled }

abbrev pub attempt_of : Outcome → Attempt
attempt_of (Built f) = Success (construction_of f)
attempt_of (Stopped at) = Failure at
