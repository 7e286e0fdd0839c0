-- What the reader does token by token, and tree by tree.
use Rattle.std.proofs.Common.{◌≡◌, ℕ, zero, suc, ◌+◌, ◌-◌, ◌<◌, ◌≤◌, nat_lt, Bool, true, false, List, [], ◌∷◌, ◌++◌, map, length, min, get_or, drop, Option, Some, None, slice_get, refl, sym, ap, ◌∙◌, arith, if◌then◌else◌, ◌==◌}
use Rattle.std.specs.Option.{option_and_then, option_map, option_map_or}
use Rattle.std.proofs.lemmas.List.{length-map, map-append}
use Rattle.df_pexpr.specs.Position.{place_of}
use Rattle.df_tok.specs.Token.{Token}
use Rattle.df_tree.specs.declared.production.Part.{Part}
use Rattle.df_tree.specs.declared.production.Part.TheVariants.{Nonterminal}
use Rattle.df_pexpr.specs.declared.reader.Step.{Step}
use Rattle.df_pexpr.specs.declared.reader.Step.TheVariants.{Read, Done, Fail}
use Rattle.df_tree.specs.Row.{Row}
use Rattle.df_tree.specs.Grammar.{row, first_in, second_in, is_nil}
use Rattle.df_pexpr.specs.mirror.Reading.{step}
use Rattle.df_tree.specs.Building.{Frame}
use Rattle.df_tok.specs.Token.{view}
use Rattle.df_tok.specs.declared.token.Token as declared
use Rattle.df_tree.specs.Terminal.{terminal, terminal_of}
use Rattle.std.proofs.lemmas.Option.{slice_get_read}
use Rattle.df_tree.specs.Grammar.{first_terminal}
use Rattle.df_pexpr.specs.mirror.Construction.{Attempt, Success, Failure, and_then, Construction, Sofar, Builder, builder, node_built, taken, leaf_built, grow, by_step_of, finished, further, height_before, height_so_far}

drop_next : {A : Type 0} (xs : List A) (at : ℕ) → drop 1 (drop at xs) ≡ drop (suc at) xs
drop_next [] zero = refl
drop_next [] (suc at) = refl
drop_next (x ∷ xs) zero = refl
drop_next (x ∷ xs) (suc at) = drop_next xs at

pub second_is : (kinds : List ℕ) (tokens : List Token) (at : ℕ) (b : Bool) → is_nil kinds ≡ false → b ≡ first_in kinds (drop (at + 1) tokens) → b ≡ second_in kinds (drop at tokens)
second_is kinds tokens at b e f =
    let next : suc at ≡ at + 1 = omega arith in
    rw e (rw (drop_next tokens at) (rw next f))

pub map_pushed : {A B : Type 0} (f : A → B) (xs : List A) (x : A) → map f (xs ++ x ∷ []) ≡ map f xs ++ f x ∷ []
map_pushed f xs x = map-append f xs (x ∷ [])

pub map_joined : {A B : Type 0} (f : A → B) (xs ys : List A) → map f (xs ++ ys) ≡ map f xs ++ map f ys
map_joined f xs ys = map-append f xs ys

-- the token of a number, where there is one
pub terminal_there : (tokens : List declared.Token) (at : ℕ) → first_terminal (drop at (map view tokens)) ≡ option_map (λ (t : declared.Token). terminal (view t)) (slice_get tokens at)
terminal_there [] zero = refl
terminal_there [] (suc at) = refl
terminal_there (t ∷ ts) zero = refl
terminal_there (t ∷ ts) (suc at) = terminal_there ts at

there_in : (tokens : List declared.Token) (at : ℕ) (t : declared.Token) → at < length tokens → t ≡ get_or tokens at t → slice_get tokens at ≡ Some t
there_in tokens at t lt e = slice_get_read tokens (length tokens) at t refl lt e

pub terminal_found : (tokens : List declared.Token) (at : ℕ) (t : declared.Token) (found : ℕ) → at < length tokens → t ≡ get_or tokens at t → found ≡ terminal_of t.kind → Some found ≡ first_terminal (drop at (map view tokens))
unfolding terminal
terminal_found tokens at t found lt e is = ap Some is ∙ sym (terminal_there tokens at ∙ ap (option_map (λ (t : declared.Token). terminal (view t))) (there_in tokens at t lt e))

abbrev leaf_by : ℕ → Frame → ℕ → ℕ → Option declared.Token → Attempt
leaf_by before frame at kind None = Failure at
leaf_by before frame at kind (Some t) = taken before frame at kind (view t)

pub leaf_there : (before : ℕ) (frame : Frame) (at kind : ℕ) (tokens : List declared.Token) → leaf_built before frame at kind (drop at (map view tokens)) ≡ leaf_by before frame at kind (slice_get tokens at)
leaf_there before frame at kind tokens = there at tokens
  where
    there : (n : ℕ) (tokens : List declared.Token) → leaf_built before frame at kind (drop n (map view tokens)) ≡ leaf_by before frame at kind (slice_get tokens n)
    there zero [] = refl
    there (suc n) [] = refl
    there zero (t ∷ ts) = refl
    there (suc n) (t ∷ ts) = there n ts

pub leaf_found : (before : ℕ) (frame : Frame) (at kind : ℕ) (tokens : List declared.Token) (t : declared.Token) → at < length tokens → t ≡ get_or tokens at t
    → leaf_built before frame at kind (drop at (map view tokens)) ≡ taken before frame at kind (view t)
leaf_found before frame at kind tokens t lt e = leaf_there before frame at kind tokens ∙ ap (leaf_by before frame at kind) (there_in tokens at t lt e)

place_in : (tokens : List declared.Token) (i : ℕ) → option_map_or (λ (x : Token). x.pos) (slice_get (map view tokens) i) (record { line = 1; col = 1 }) ≡ option_map_or (λ (t : declared.Token). t.pos) (slice_get tokens i) (record { line = 1; col = 1 })
place_in [] i = refl
place_in (t ∷ ts) zero = refl
place_in (t ∷ ts) (suc i) = place_in ts i

pub place_is : (tokens : List declared.Token) (at : ℕ) → place_of (map view tokens) at ≡ option_map_or (λ (t : declared.Token). t.pos) (slice_get tokens (min at (length tokens - 1))) (record { line = 1; col = 1 })
place_is tokens at = ap (λ n. option_map_or (λ (x : Token). x.pos) (slice_get (map view tokens) (min at (n - 1))) (record { line = 1; col = 1 })) (length-map tokens view) ∙ place_in tokens (min at (length tokens - 1))

-- a node is read to one less
pub deeper : (tokens : List Token) (left room before : ℕ) (frame : Frame) (at n : ℕ) → 0 < left → builder tokens left room before frame at (Nonterminal n) ≡ node_built tokens (builder tokens (left - 1)) room before frame at n
deeper tokens zero room before frame at n lt = absurd (omega arith)
deeper tokens (suc left) room before frame at n lt =
    let e : suc left - 1 ≡ left = omega arith in
    rw e refl

abbrev Reads : List Token → Builder → ℕ → ℕ → ℕ → Frame → ℕ → ℕ → Sofar → Part → Attempt
Reads tokens build room turns n outer before k so_far p =
    and_then (λ (x : Construction). grow tokens build room turns n outer before (k + 1) (further (row n).counting k so_far x)) (build (height_before (row n).counting so_far.height) so_far.frame so_far.at p)

-- the step of the code's production
pub record IsStep (s : Step) (n k : ℕ) (tokens : List Token) : Type 0 where
  pub is : step (row n).form (row n) k tokens ≡ s

pub is_step : (e : Row) (n k : ℕ) (tokens : List Token) (s : Step) → e ≡ row n → s ≡ step e.form e k tokens → IsStep s n k tokens
is_step e n k tokens s same step_is = record { is = ap (λ (r : Row). step r.form r k tokens) (sym same) ∙ sym step_is }

-- The height so far is within the room, or not.
pub record IsLow (n before room : ℕ) (so_far : Sofar) : Type 0 where
  pub is : nat_lt room (height_so_far (row n).counting before so_far) ≡ false

pub record IsHigh (n before room : ℕ) (so_far : Sofar) : Type 0 where
  pub is : nat_lt room (height_so_far (row n).counting before so_far) ≡ true

not_below : (a b : ℕ) → b ≤ a → nat_lt a b ≡ false
not_below a b le = grind (arith, le)

is_below : (a b : ℕ) → a < b → nat_lt a b ≡ true
is_below a b lt = grind (arith, lt)

pub is_low : (e : Row) (n before room : ℕ) (so_far : Sofar) (h : ℕ) → e ≡ row n → h ≡ height_so_far e.counting before so_far → h ≤ room → IsLow n before room so_far
is_low e n before room so_far h same is le = record { is = ap (λ (r : Row). nat_lt room (height_so_far r.counting before so_far)) (sym same) ∙ ap (nat_lt room) (sym is) ∙ not_below room h le }

pub is_high : (e : Row) (n before room : ℕ) (so_far : Sofar) (h : ℕ) → e ≡ row n → h ≡ height_so_far e.counting before so_far → room < h → IsHigh n before room so_far
is_high e n before room so_far h same is lt = record { is = ap (λ (r : Row). nat_lt room (height_so_far r.counting before so_far)) (sym same) ∙ ap (nat_lt room) (sym is) ∙ is_below room h lt }

unrolled : (tokens : List Token) (build : Builder) (room turns n : ℕ) (outer : Frame) (before k : ℕ) (so_far : Sofar) (s : Step) → IsLow n before room so_far → step (row n).form (row n) k (drop so_far.at tokens) ≡ s
    → grow tokens build room (suc turns) n outer before k so_far ≡ by_step_of so_far.at (finished (row n) outer before k so_far) (Reads tokens build room turns n outer before k so_far) s
unfolding grow
unrolled tokens build room turns n outer before k so_far s low e =
    let next : suc k ≡ k + 1 = omega arith in
    rw next (rw low.is (ap (by_step_of _ _ _) e))

stopped : (tokens : List Token) (build : Builder) (room turns n : ℕ) (outer : Frame) (before k : ℕ) (so_far : Sofar) → IsHigh n before room so_far → grow tokens build room (suc turns) n outer before k so_far ≡ Failure so_far.at
unfolding grow
stopped tokens build room turns n outer before k so_far high = rw high.is refl

at_least_one : (tokens : List Token) (build : Builder) (room limit n : ℕ) (outer : Frame) (before k : ℕ) (so_far : Sofar) (whole : Attempt) (s : Step) → k < limit → IsLow n before room so_far → IsStep s n k (drop so_far.at tokens)
    → grow tokens build room (limit - k) n outer before k so_far ≡ whole
    → by_step_of so_far.at (finished (row n) outer before k so_far) (Reads tokens build room (limit - (k + 1)) n outer before k so_far) s ≡ whole
at_least_one tokens build room limit n outer before k so_far whole s lt low is so =
    let turns : limit - k ≡ suc (limit - (k + 1)) = omega (arith, lt) in
    sym (unrolled tokens build room (limit - (k + 1)) n outer before k so_far s low is.is) ∙ rw turns at so

pub it_is_high : (tokens : List Token) (build : Builder) (room limit n : ℕ) (outer : Frame) (before k : ℕ) (so_far : Sofar) (whole : Attempt) → k < limit → IsHigh n before room so_far
    → grow tokens build room (limit - k) n outer before k so_far ≡ whole → Failure so_far.at ≡ whole
it_is_high tokens build room limit n outer before k so_far whole lt high so =
    let turns : limit - k ≡ suc (limit - (k + 1)) = omega (arith, lt) in
    sym (stopped tokens build room (limit - (k + 1)) n outer before k so_far high) ∙ rw turns at so

pub it_fails : (tokens : List Token) (build : Builder) (room limit n : ℕ) (outer : Frame) (before k : ℕ) (so_far : Sofar) (whole : Attempt) → k < limit → IsLow n before room so_far → IsStep Fail n k (drop so_far.at tokens)
    → grow tokens build room (limit - k) n outer before k so_far ≡ whole → Failure so_far.at ≡ whole
it_fails tokens build room limit n outer before k so_far whole lt low is so = at_least_one tokens build room limit n outer before k so_far whole Fail lt low is so

pub it_ends : (tokens : List Token) (build : Builder) (room limit n : ℕ) (outer : Frame) (before k : ℕ) (so_far : Sofar) (whole : Attempt) → k < limit → IsLow n before room so_far → IsStep Done n k (drop so_far.at tokens)
    → grow tokens build room (limit - k) n outer before k so_far ≡ whole → Success (finished (row n) outer before k so_far) ≡ whole
it_ends tokens build room limit n outer before k so_far whole lt low is so = at_least_one tokens build room limit n outer before k so_far whole Done lt low is so

pub it_lacks : (tokens : List Token) (build : Builder) (room limit n : ℕ) (outer : Frame) (before k : ℕ) (so_far : Sofar) (whole : Attempt) (p : Part) (stop : ℕ) → k < limit → IsLow n before room so_far → IsStep (Read p) n k (drop so_far.at tokens)
    → Failure stop ≡ build (height_before (row n).counting so_far.height) so_far.frame so_far.at p
    → grow tokens build room (limit - k) n outer before k so_far ≡ whole → Failure stop ≡ whole
it_lacks tokens build room limit n outer before k so_far whole p stop lt low is lacks so =
    ap (and_then (λ (x : Construction). grow tokens build room (limit - (k + 1)) n outer before (k + 1) (further (row n).counting k so_far x))) lacks
    ∙ at_least_one tokens build room limit n outer before k so_far whole (Read p) lt low is so

pub it_goes_on : (tokens : List Token) (build : Builder) (room limit n : ℕ) (outer : Frame) (before k : ℕ) (so_far : Sofar) (whole : Attempt) (p : Part) (x : Construction) → k < limit → IsLow n before room so_far → IsStep (Read p) n k (drop so_far.at tokens)
    → Success x ≡ build (height_before (row n).counting so_far.height) so_far.frame so_far.at p
    → grow tokens build room (limit - k) n outer before k so_far ≡ whole → grow tokens build room (limit - (k + 1)) n outer before (k + 1) (further (row n).counting k so_far x) ≡ whole
it_goes_on tokens build room limit n outer before k so_far whole p x lt low is found so =
    ap (and_then (λ (x : Construction). grow tokens build room (limit - (k + 1)) n outer before (k + 1) (further (row n).counting k so_far x))) found
    ∙ at_least_one tokens build room limit n outer before k so_far whole (Read p) lt low is so

pub it_is_full : (tokens : List Token) (build : Builder) (room limit n : ℕ) (outer : Frame) (before k : ℕ) (so_far : Sofar) (whole : Attempt) → (k < limit → ⊥)
    → grow tokens build room (limit - k) n outer before k so_far ≡ whole → Failure so_far.at ≡ whole
unfolding grow
it_is_full tokens build room limit n outer before k so_far whole past so =
    let e : limit - k ≡ 0 = omega (arith, past) in
    let f : grow tokens build room 0 n outer before k so_far ≡ whole = rw e at so in
    f
