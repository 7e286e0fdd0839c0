-- What the builder builds is of the tree that the reader reads, if that is low enough.
use Rattle.std.proofs.Common.{◌≡◌, ℕ, zero, suc, ◌+◌, ◌-◌, ◌==◌, ◌<◌, ◌≤◌, max, Bool, true, false, not, ◌&&◌, List, [], ◌∷◌, ◌++◌, drop, length, Option, Some, None, if◌then◌else◌, nat_lt, inl, inr, refl, sym, ap, ◌∙◌, subst, length-append, ltb-true, arith}
use Rattle.std.specs.Option.{option_and_then, option_map}
use Rattle.df_tok.specs.Token.{Token}
use Rattle.df_tree.specs.declared.label.Way.{Way}
use Rattle.df_tree.specs.declared.label.Way.TheVariants.{Pass, Title, Wrap, Make, Close}
use Rattle.df_tree.specs.declared.production.Counting.{Counting}
use Rattle.df_tree.specs.declared.production.Counting.TheVariants.{Never, Always, IfMore, Each}
use Rattle.df_tree.specs.declared.production.Part.{Part}
use Rattle.df_tree.specs.declared.production.Part.TheVariants.{Terminal, Nonterminal}
use Rattle.df_pexpr.specs.declared.reader.Step.{Step}
use Rattle.df_pexpr.specs.declared.reader.Step.TheVariants.{Read, Done, Fail}
use Rattle.df_tree.specs.Tree.{Tree, Leaf, Node, Trees, none, more, trees_of, leaves, leaves_all}
use Rattle.df_tree.specs.Row.{Row}
use Rattle.df_tree.specs.Grammar.{row, begins, height_limit, one_more, is_some, is_filled, has_more, counted, height_over, all_over, each_over}
use Rattle.df_pexpr.specs.mirror.Reading.{Reading, Reader, step, by_step, children, turn_limit, leaf, reader}
use Rattle.df_tree.specs.Building.{Frame, enter, outside, leave, built, built_all}
use Rattle.df_pexpr.specs.mirror.Construction.{Construction, Attempt, Success, Failure, and_then, Sofar, Builder, height_at, height_before, height_behind, room_inside, height_so_far, begun, further, finished, by_step_of, grow, taken, leaf_built, builder}
use Rattle.std.proofs.lemmas.Bool.{cases_Bool, ltb-false, le-ltb, lt-ltb, cases_lt}
use Rattle.std.proofs.lemmas.Option.{same_Some}
use Rattle.df_tree.specs.Terminal.{terminal}
use Rattle.df_tree.proofs.Deep.{one_more_is, raises_all, raises_each}
use Rattle.df_pexpr.proofs.Complete.{joined, joined_none, joined_more}
use Rattle.df_pexpr.proofs.Sound.{sound, then_some}

abbrev pub construction : ℕ → Frame → ℕ → Tree → Construction
construction before frame at t = record { frame = built at frame t; behind = at + length (leaves t); height = height_over before t; filled = is_filled t }

abbrev heights : Counting → ℕ → Trees → ℕ
heights Never before ts = all_over 0 ts
heights Always before ts = all_over 0 ts
heights IfMore before ts = all_over 0 ts
heights Each before ts = each_over before ts

-- what was built of a production with these trees
abbrev so_far_of : Row → ℕ → Frame → ℕ → List Tree → Sofar
so_far_of r before frame at ts = record {
  frame = built_all at (enter r.way at frame) (trees_of ts);
  at = at + length (leaves_all (trees_of ts));
  height = heights r.counting before (trees_of ts);
  filled = has_more (trees_of ts);
}

-- ---- one tree more

built_last : (at : ℕ) (frame : Frame) (ts : List Tree) (t : Tree) → built_all at frame (trees_of (ts ++ t ∷ [])) ≡ built (at + length (leaves_all (trees_of ts))) (built_all at frame (trees_of ts)) t
built_last at frame [] t = let e : at ≡ at + 0 = omega arith in ap (λ n. built n frame t) e
built_last at frame (u ∷ ts) t =
    let e : at + length (leaves u) + length (leaves_all (trees_of ts)) ≡ at + length (leaves u ++ leaves_all (trees_of ts)) = omega (arith, length-append (leaves u) (leaves_all (trees_of ts))) in
    built_last (at + length (leaves u)) (built at frame u) ts t ∙ ap (λ n. built n (built_all (at + length (leaves u)) (built at frame u) (trees_of ts)) t) e

width_last : (ts : List Tree) (t : Tree) → length (leaves_all (trees_of (ts ++ t ∷ []))) ≡ length (leaves_all (trees_of ts)) + length (leaves t)
width_last [] t = omega (arith, length-append (leaves t) [])
width_last (u ∷ ts) t = omega (arith, width_last ts t, length-append (leaves u) (leaves_all (trees_of (ts ++ t ∷ []))), length-append (leaves u) (leaves_all (trees_of ts)))

all_last : (before : ℕ) (ts : List Tree) (t : Tree) → all_over before (trees_of (ts ++ t ∷ [])) ≡ height_over (all_over before (trees_of ts)) t
all_last before [] t = refl
all_last before (u ∷ ts) t = all_last (height_over before u) ts t

each_last : (before : ℕ) (ts : List Tree) (t : Tree) → each_over before (trees_of (ts ++ t ∷ [])) ≡ one_more (max (each_over before (trees_of ts)) (height_over 0 t))
each_last before [] t = refl
each_last before (u ∷ ts) t = each_last (one_more (max before (height_over 0 u))) ts t

heights_last : (c : Counting) (before : ℕ) (ts : List Tree) (t : Tree)
    → heights c before (trees_of (ts ++ t ∷ [])) ≡ height_behind c (heights c before (trees_of ts)) (height_over (height_before c (heights c before (trees_of ts))) t)
heights_last Never before ts t = all_last 0 ts t
heights_last Always before ts t = all_last 0 ts t
heights_last IfMore before ts t = all_last 0 ts t
heights_last Each before ts t = each_last before ts t

more_last : (ts : List Tree) (t : Tree) → has_more (trees_of (ts ++ t ∷ [])) ≡ (if length ts == 1 then is_filled t else has_more (trees_of ts))
more_last [] t = refl
more_last (u ∷ []) t = refl
more_last (u ∷ v ∷ ts) t = let e : (length (u ∷ v ∷ ts) == 1) ≡ false = grind arith in rw e refl

one_further : (r : Row) (before : ℕ) (frame : Frame) (at : ℕ) (ts : List Tree) (t : Tree)
    → further r.counting (length ts) (so_far_of r before frame at ts) (construction (height_before r.counting (heights r.counting before (trees_of ts))) (built_all at (enter r.way at frame) (trees_of ts)) (at + length (leaves_all (trees_of ts))) t)
    ≡ so_far_of r before frame at (ts ++ t ∷ [])
one_further r before frame at ts t =
    let place : at + length (leaves_all (trees_of ts)) + length (leaves t) ≡ at + length (leaves_all (trees_of (ts ++ t ∷ []))) = omega (arith, width_last ts t) in
    λ i. record {
      frame = sym (built_last at (enter r.way at frame) ts t) i;
      at = place i;
      height = sym (heights_last r.counting before ts t) i;
      filled = sym (more_last ts t) i;
    }

-- ---- the end of a production

leave_outside : (way : Way) (frame : Frame) (at after : ℕ) (inner : Frame) → leave way (outside way at frame) after inner ≡ leave way frame after inner
leave_outside Pass frame at after inner = refl
leave_outside (Title label) frame at after inner = refl
leave_outside (Wrap label) frame at after inner = refl
leave_outside (Make label) frame at after inner = refl
leave_outside Close frame at after inner = refl

counted_alike : (c : Counting) (before : ℕ) (ts : Trees) (filled : Bool) → counted c before (heights c before ts) (heights c before ts) filled ≡ counted c before (all_over 0 ts) (each_over before ts) filled
counted_alike Never before ts filled = refl
counted_alike Always before ts filled = refl
counted_alike IfMore before ts filled = refl
counted_alike Each before ts filled = refl

some_trees : (ts : List Tree) → nat_lt 0 (length ts) ≡ is_some (trees_of ts)
some_trees [] = refl
some_trees (t ∷ ts) = grind arith

at_end : (n before : ℕ) (frame : Frame) (at : ℕ) (ts : List Tree) → finished (row n) (outside (row n).way at frame) before (length ts) (so_far_of (row n) before frame at ts) ≡ construction before frame at (Node n (trees_of ts))
at_end n before frame at ts = λ i. record {
  frame = leave_outside (row n).way frame at (at + length (leaves_all (trees_of ts))) (built_all at (enter (row n).way at frame) (trees_of ts)) i;
  behind = at + length (leaves_all (trees_of ts));
  height = counted_alike (row n).counting before (trees_of ts) (has_more (trees_of ts)) i;
  filled = some_trees ts i;
}

-- ---- a tree grows higher with its trees

over_joined : (h : ℕ) (ts : List Tree) (rest : Trees) → all_over h (joined ts rest) ≡ all_over (all_over h (trees_of ts)) rest
over_joined h [] rest = refl
over_joined h (t ∷ ts) rest = over_joined (height_over h t) ts rest

each_joined : (h : ℕ) (ts : List Tree) (rest : Trees) → each_over h (joined ts rest) ≡ each_over (each_over h (trees_of ts)) rest
each_joined h [] rest = refl
each_joined h (t ∷ ts) rest = each_joined (one_more (max h (height_over 0 t))) ts rest

more_joined : (ts : List Tree) (rest : Trees) → has_more (trees_of ts) ≡ true → has_more (joined ts rest) ≡ true
more_joined [] rest e = absurd (let f : false ≡ true = e in cc)
more_joined (t ∷ []) rest e = absurd (let f : false ≡ true = e in cc)
more_joined (t ∷ u ∷ ts) rest e = e

one_more_at_most : (h : ℕ) → one_more h ≤ h + 1
one_more_at_most h = elim (cases_Bool (nat_lt h height_limit)) [
  | inl e ↦ rw e (omega arith)
  | inr e ↦ rw e (omega (arith, ltb-false h height_limit e))
]

one_more_above : (room h : ℕ) → room ≤ height_limit → room ≤ h → room < one_more h
one_more_above room h limit le = elim (cases_Bool (nat_lt h height_limit)) [
  | inl e ↦ rw e (omega (arith, le))
  | inr e ↦ rw e (omega (arith, limit))
]

counted_grows : (c : Counting) (before a b each others : ℕ) (f g : Bool) → (b ≤ height_limit → a ≤ b) → (others ≤ height_limit → each ≤ others) → (f ≡ true → g ≡ true) → counted c before b others g ≤ height_limit
    → counted c before a each f ≤ counted c before b others g
counted_grows Never before a b each others f g h k m le = omega (arith, h (omega (arith, le)), le)
counted_grows Always before a b each others f g h k m le =
    let up : one_more b ≡ b + 1 = one_more_is b (omega (arith, le)) in
    let low : a ≤ b = h (omega (arith, le, up)) in
    omega (arith, up, low, one_more_at_most a)
counted_grows IfMore before a b each others true true h k m le =
    let up : one_more b ≡ b + 1 = one_more_is b (omega (arith, le)) in
    let low : a ≤ b = h (omega (arith, le, up)) in
    omega (arith, up, low, one_more_at_most a)
counted_grows IfMore before a b each others true false h k m le = absurd (let e : false ≡ true = m refl in cc)
counted_grows IfMore before a b each others false true h k m le =
    let up : one_more b ≡ b + 1 = one_more_is b (omega (arith, le)) in
    let low : a ≤ b = h (omega (arith, le, up)) in
    omega (arith, up, low)
counted_grows IfMore before a b each others false false h k m le = omega (arith, h (omega (arith, le)), le)
counted_grows Each before a b each others f g h k m le = k le

prefix_low : (n before : ℕ) (ts : List Tree) (rest : Trees) → height_over before (Node n (joined ts rest)) ≤ height_limit → height_over before (Node n (trees_of ts)) ≤ height_over before (Node n (joined ts rest))
prefix_low n before ts rest le =
    counted_grows (row n).counting before (all_over 0 (trees_of ts)) (all_over 0 (joined ts rest)) (each_over before (trees_of ts)) (each_over before (joined ts rest)) (has_more (trees_of ts)) (has_more (joined ts rest))
    (λ l. subst (λ h. all_over 0 (trees_of ts) ≤ h) (sym (over_joined 0 ts rest)) (raises_all (all_over 0 (trees_of ts)) rest (subst (λ h. h ≤ height_limit) (over_joined 0 ts rest) l)))
    (λ l. subst (λ h. each_over before (trees_of ts) ≤ h) (sym (each_joined before ts rest)) (raises_each (each_over before (trees_of ts)) rest (subst (λ h. h ≤ height_limit) (each_joined before ts rest) l)))
    (more_joined ts rest) le

above : (room part whole : ℕ) → room ≤ height_limit → room < part → (whole ≤ height_limit → part ≤ whole) → room < whole
above room part whole limit lt h = elim (cases_lt room whole) [
  | inl over ↦ over
  | inr under ↦ absurd (omega (arith, lt, under, h (omega (arith, under, limit))))
]

-- where the tree with one more is too high since that one is
child_high : (c : Counting) (before room : ℕ) (ts : List Tree) (t : Tree) → room ≤ height_limit → room_inside c room < height_over (height_before c (heights c before (trees_of ts))) t
    → room < counted c before (all_over 0 (trees_of (ts ++ t ∷ []))) (each_over before (trees_of (ts ++ t ∷ []))) (has_more (trees_of (ts ++ t ∷ [])))
child_high Never before room ts t limit lt = omega (arith, lt, all_last 0 ts t)
child_high Always before room ts t limit lt =
    let high : room < one_more (height_over (all_over 0 (trees_of ts)) t) = one_more_above room (height_over (all_over 0 (trees_of ts)) t) limit (omega (arith, lt)) in
    rw (all_last 0 ts t) (omega (arith, high))
child_high IfMore before room ts t limit lt = rw (all_last 0 ts t) (by (has_more (trees_of (ts ++ t ∷ []))))
  where
    by : (filled : Bool) → room < max before (if filled then one_more (height_over (all_over 0 (trees_of ts)) t) else height_over (all_over 0 (trees_of ts)) t)
    by true = omega (arith, one_more_above room (height_over (all_over 0 (trees_of ts)) t) limit (omega (arith, lt)))
    by false = omega (arith, lt)
child_high Each before room ts t limit lt = rw (each_last before ts t) (one_more_above room (max (each_over before (trees_of ts)) (height_over 0 t)) limit (omega (arith, lt)))

-- what stands before a tree is within its room
before_low : (c : Counting) (before room h : ℕ) (filled : Bool) → room ≤ height_limit → counted c before h h filled ≤ room → height_before c h ≤ room_inside c room
before_low Never before room h filled limit le = omega (arith, le)
before_low Always before room h filled limit le = omega (arith, le, one_more_is h (omega (arith, le, limit)))
before_low IfMore before room h true limit le = omega (arith, le, one_more_is h (omega (arith, le, limit)))
before_low IfMore before room h false limit le = omega (arith, le)
before_low Each before room h filled limit le = omega arith

-- ---- what fits

abbrev pub made : Attempt → Option Construction
made (Success x) = Some x
made (Failure at) = None

abbrev pub fit : ℕ → Construction → Option Construction
fit room x = if nat_lt room x.height then None else Some x

abbrev pub Fitting : ℕ → ℕ → Frame → ℕ → Option Reading → Option Construction
Fitting room before frame at o = option_and_then (λ (x : Reading). fit room (construction before frame at x.tree)) o

none_fits : (room before : ℕ) (frame : Frame) (at : ℕ) (o : Option Reading) → ((x : Reading) → o ≡ Some x → room < height_over before x.tree) → None ≡ Fitting room before frame at o
none_fits room before frame at None h = refl
none_fits room before frame at (Some x) h = is (nat_lt room (height_over before x.tree)) (lt-ltb room (height_over before x.tree) (h x refl))
  where
    is : (b : Bool) → b ≡ true → None ≡ (if b then None else Some (construction before frame at x.tree))
    is true e = refl
    is false e = absurd cc

-- the trees that were read come first
record Extends (n : ℕ) (before : List Tree) (t : Tree) : Type 0 where
  rest : Trees
  is : t ≡ Node n (joined before rest)

by_step_extends : (n : ℕ) (before : List Tree) (behind : List Token) (reads : Part → Option Reading) (x : Reading) (s : Step) → by_step (Some (record { tree = Node n (trees_of before); behind = behind })) reads s ≡ Some x
    → ((p : Part) → reads p ≡ Some x → Extends n before x.tree) → Extends n before x.tree
by_step_extends n before behind reads x Fail e h = absurd cc
by_step_extends n before behind reads x Done e h = record { rest = none; is = ap (λ (y : Reading). y.tree) (sym (same_Some _ x e)) ∙ ap (Node n) (sym (joined_none before)) }
by_step_extends n before behind reads x (Read p) e h = h p e

extends : (read : Reader) (turns n : ℕ) (before : List Tree) (tokens : List Token) (x : Reading) → children read turns n before tokens ≡ Some x → Extends n before x.tree
unfolding children
extends read zero n before tokens x e = absurd cc
extends read (suc turns) n before tokens x e = by_step_extends n before tokens _ x (step (row n).form (row n) (length before) tokens) e (λ p f.
    let done = then_some (λ (y : Reading). children read turns n (before ++ y.tree ∷ []) y.behind) (read p tokens) x f in
    let later = extends read turns n (before ++ done.0.tree ∷ []) done.0.behind x done.2 in
    record { rest = more done.0.tree later.rest; is = later.is ∙ ap (Node n) (joined_more before done.0.tree later.rest) })

higher : (read : Reader) (room turns n before : ℕ) (ts : List Tree) (tokens : List Token) (x : Reading) → room ≤ height_limit → room < height_over before (Node n (trees_of ts)) → children read turns n ts tokens ≡ Some x
    → room < height_over before x.tree
higher read room turns n before ts tokens x limit lt e =
    let it = extends read turns n ts tokens x e in
    subst (λ t. room < height_over before t) (sym it.is) (above room (height_over before (Node n (trees_of ts))) (height_over before (Node n (joined ts it.rest))) limit lt (prefix_low n before ts it.rest))

-- ---- the trees of a production

abbrev MakesLike : List Token → ℕ → Reader → Builder → Type 0
MakesLike tokens room read build =
    (before : ℕ) (frame : Frame) (at : ℕ) (p : Part) → before ≤ room → made (build before frame at p) ≡ Fitting room before frame at (read p (drop at tokens))

abbrev Spells : Reader → Type 0
Spells read = (p : Part) (tokens : List Token) (x : Reading) → read p tokens ≡ Some x → leaves x.tree ++ x.behind ≡ tokens

by_height : (b : Bool) (at : ℕ) (go : Attempt) (want : Option Construction) → (b ≡ true → None ≡ want) → (b ≡ false → made go ≡ want) → made (if b then Failure at else go) ≡ want
by_height true at go want h k = h refl
by_height false at go want h k = k refl

by_steps : (f : Option Reading → Option Construction) (stop : ℕ) (ended : Construction) (whole : Reading) (builds : Part → Attempt) (reads : Part → Option Reading) (s : Step) → f None ≡ None → Some ended ≡ f (Some whole)
    → ((p : Part) → made (builds p) ≡ f (reads p)) → made (by_step_of stop ended builds s) ≡ f (by_step (Some whole) reads s)
by_steps f stop ended whole builds reads Fail n e h = sym n
by_steps f stop ended whole builds reads Done n e h = e
by_steps f stop ended whole builds reads (Read p) n e h = h p

made_then : (f : Construction → Attempt) (a : Attempt) → made (and_then f a) ≡ option_and_then (λ x. made (f x)) (made a)
made_then f (Success x) = refl
made_then f (Failure at) = refl

then_alike : (f : Option Reading → Option Construction) (inside h : ℕ) (frame : Frame) (place : ℕ) (o : Option Reading) (next : Construction → Option Construction) (others : Reading → Option Reading) → f None ≡ None
    → ((x : Reading) → o ≡ Some x → next (construction h frame place x.tree) ≡ f (others x))
    → ((x : Reading) → o ≡ Some x → inside < height_over h x.tree → None ≡ f (others x))
    → option_and_then next (Fitting inside h frame place o) ≡ f (option_and_then others o)
then_alike f inside h frame place None next others n low high = sym n
then_alike f inside h frame place (Some x) next others n low high = by (nat_lt inside (height_over h x.tree)) (λ e. ltb-true inside (height_over h x.tree) e)
  where
    by : (b : Bool) → (b ≡ true → inside < height_over h x.tree) → option_and_then next (if b then None else Some (construction h frame place x.tree)) ≡ f (others x)
    by true lt = high x refl (lt refl)
    by false lt = low x refl

none_dropped : (at : ℕ) → ◌≡◌ {A = List Token} (drop at []) []
none_dropped zero = refl
none_dropped (suc at) = refl

behind_front : (xs ys : List Token) → ys ≡ drop (length xs) (xs ++ ys)
behind_front [] ys = refl
behind_front (x ∷ xs) ys = behind_front xs ys

pub dropped_whole : (xs ys tokens : List Token) (at : ℕ) → xs ++ ys ≡ drop at tokens → ys ≡ drop (at + length xs) tokens
dropped_whole xs ys tokens zero e =
    let n : length xs ≡ 0 + length xs = omega arith in
    behind_front xs ys ∙ ap (drop (length xs)) e ∙ ap (λ n. drop n tokens) n
dropped_whole xs ys [] (suc at) e =
    let n : suc (at + length xs) ≡ suc at + length xs = omega arith in
    subst (λ n. ys ≡ drop n []) n (dropped_whole xs ys [] at (e ∙ sym (none_dropped at)) ∙ none_dropped (at + length xs))
dropped_whole xs ys (t ∷ tokens) (suc at) e =
    let n : suc (at + length xs) ≡ suc at + length xs = omega arith in
    subst (λ n. ys ≡ drop n (t ∷ tokens)) n (dropped_whole xs ys tokens at e)

within : (room before : ℕ) (frame : Frame) (at n : ℕ) (ts : List Tree) → nat_lt room (height_so_far (row n).counting before (so_far_of (row n) before frame at ts)) ≡ false
    → Some (finished (row n) (outside (row n).way at frame) before (length ts) (so_far_of (row n) before frame at ts)) ≡ fit room (construction before frame at (Node n (trees_of ts)))
within room before frame at n ts low = ap Some (at_end n before frame at ts) ∙ is (nat_lt room (height_over before (Node n (trees_of ts)))) (ap (nat_lt room) (sym (counted_alike (row n).counting before (trees_of ts) (has_more (trees_of ts)))) ∙ low)
  where
    is : (b : Bool) → b ≡ false → Some (construction before frame at (Node n (trees_of ts))) ≡ (if b then None else Some (construction before frame at (Node n (trees_of ts))))
    is true e = absurd cc
    is false e = refl

longer : (ts : List Tree) (t : Tree) → length (ts ++ t ∷ []) ≡ suc (length ts)
longer [] t = refl
longer (u ∷ ts) t = ap suc (longer ts t)

grow_alike : (tokens : List Token) (read : Reader) (build : Builder) (room n before : ℕ) (frame : Frame) (at : ℕ) → room ≤ height_limit → MakesLike tokens (room_inside (row n).counting room) read build → Spells read
    → (turns k : ℕ) (ts : List Tree) → length ts ≡ k
    → made (grow tokens build room turns n (outside (row n).way at frame) before k (so_far_of (row n) before frame at ts))
    ≡ Fitting room before frame at (children read turns n ts (drop (at + length (leaves_all (trees_of ts))) tokens))
unfolding grow children
grow_alike tokens read build room n before frame at limit like spells zero k ts e = refl
grow_alike tokens read build room n before frame at limit like spells (suc turns) k ts e =
    let place : ℕ = at + length (leaves_all (trees_of ts)) in
    let r : Row = row n in
    let so_far : Sofar = so_far_of r before frame at ts in
    let f : Option Reading → Option Construction = Fitting room before frame at in
    let whole : height_so_far r.counting before so_far ≡ height_over before (Node n (trees_of ts)) = counted_alike r.counting before (trees_of ts) (has_more (trees_of ts)) in
    subst (λ k. made (grow tokens build room (suc turns) n (outside r.way at frame) before k so_far) ≡ f (children read (suc turns) n ts (drop place tokens))) e
    (by_height (nat_lt room (height_so_far r.counting before so_far)) place _ _
    (λ high. none_fits room before frame at _ (λ x found. higher read room (suc turns) n before ts (drop place tokens) x limit (subst (λ h. room < h) whole (ltb-true room (height_so_far r.counting before so_far) high)) found))
    (λ low. by_steps f place _ _ _ _ (step r.form r (length ts) (drop place tokens)) refl (within room before frame at n ts low)
    (λ p. made_then (λ (x : Construction). grow tokens build room turns n (outside r.way at frame) before (suc (length ts)) (further r.counting (length ts) so_far x)) (build (height_before r.counting so_far.height) so_far.frame place p)
    ∙ ap (option_and_then (λ (x : Construction). made (grow tokens build room turns n (outside r.way at frame) before (suc (length ts)) (further r.counting (length ts) so_far x))))
    (like (height_before r.counting so_far.height) so_far.frame place p (before_low r.counting before room so_far.height so_far.filled limit (ltb-false room (height_so_far r.counting before so_far) low)))
    ∙ then_alike f (room_inside r.counting room) (height_before r.counting so_far.height) so_far.frame place (read p (drop place tokens)) _ (λ (x : Reading). children read turns n (ts ++ x.tree ∷ []) x.behind) refl
    (λ x found.
    let behind : x.behind ≡ drop (place + length (leaves x.tree)) tokens = dropped_whole (leaves x.tree) x.behind tokens place (spells p _ x found) in
    let there : place + length (leaves x.tree) ≡ at + length (leaves_all (trees_of (ts ++ x.tree ∷ []))) = omega (arith, width_last ts x.tree) in
    ap (λ so_far. made (grow tokens build room turns n (outside r.way at frame) before (suc (length ts)) so_far)) (one_further r before frame at ts x.tree)
    ∙ grow_alike tokens read build room n before frame at limit like spells turns (suc (length ts)) (ts ++ x.tree ∷ []) (longer ts x.tree)
    ∙ ap (λ others. f (children read turns n (ts ++ x.tree ∷ []) others)) (sym (behind ∙ ap (λ n. drop n tokens) there)))
    (λ x found high. none_fits room before frame at _ (λ y others. higher read room turns n before (ts ++ x.tree ∷ []) x.behind y limit (child_high r.counting before room ts x.tree limit high) others)))))

-- ---- the whole

leaf_alike : (room before : ℕ) (frame : Frame) (at kind : ℕ) (tokens : List Token) → before ≤ room → made (leaf_built before frame at kind tokens) ≡ Fitting room before frame at (leaf kind tokens)
leaf_alike room before frame at kind [] le = refl
leaf_alike room before frame at kind (x ∷ xs) le = pick (terminal x == kind) (le-ltb room before le)
  where
    pick : (b : Bool) → nat_lt room before ≡ false → made (if b then Success (construction before frame at (Leaf x)) else Failure at) ≡ Fitting room before frame at (if b then Some (record { tree = Leaf x; behind = xs }) else None)
    pick true e = rw e refl
    pick false e = refl

begins_so : (r : Row) (before : ℕ) (frame : Frame) (at : ℕ) → begun r before frame at ≡ so_far_of r before frame at []
begins_so r before frame at =
    let e : at ≡ at + 0 = omega arith in
    λ i. record { frame = enter r.way at frame; at = e i; height = start r.counting i; filled = false }
  where
    start : (c : Counting) → height_at c before ≡ heights c before none
    start Never = refl
    start Always = refl
    start IfMore = refl
    start Each = refl

if_alike : (f : Option Reading → Option Construction) (b : Bool) (at : ℕ) (x : Attempt) (y : Option Reading) → f None ≡ None → made x ≡ f y → made (if b then Failure at else x) ≡ f (if b then None else y)
if_alike f true at x y n e = sym n
if_alike f false at x y n e = e

less_room : (c : Counting) (room : ℕ) → room ≤ height_limit → room_inside c room ≤ height_limit
less_room Never room le = le
less_room Always room le = omega (arith, le)
less_room IfMore room le = le
less_room Each room le = omega (arith, le)

pub builds : (tokens : List Token) (left room before : ℕ) (frame : Frame) (at : ℕ) (p : Part) → room ≤ height_limit → before ≤ room
    → made (builder tokens left room before frame at p) ≡ Fitting room before frame at (reader left p (drop at tokens))
builds tokens left room before frame at (Terminal kind) limit le = leaf_alike room before frame at kind (drop at tokens) le
builds tokens zero room before frame at (Nonterminal n) limit le = refl
builds tokens (suc left) room before frame at (Nonterminal n) limit le =
    let e : at ≡ at + 0 = omega arith in
    let f : Option Reading → Option Construction = Fitting room before frame at in
    if_alike f ((row n).narrow && not (begins (row n) (drop at tokens))) at _ _ refl
    (ap (λ so_far. made (grow tokens (builder tokens left (room_inside (row n).counting room)) room turn_limit n (outside (row n).way at frame) before 0 so_far)) (begins_so (row n) before frame at)
    ∙ grow_alike tokens (reader left) (builder tokens left (room_inside (row n).counting room)) room n before frame at limit
    (λ b g a p l. builds tokens left (room_inside (row n).counting room) b g a p (less_room (row n).counting room limit) l) (λ p others x found. (sound left p others x found).spelled) turn_limit 0 [] refl
    ∙ ap (λ m. f (children (reader left) turn_limit n [] (drop m tokens))) (sym e))
