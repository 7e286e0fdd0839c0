-- What reading comes to hangs on the tokens up to where it ends, and on no others.
use Rattle.std.proofs.Common.{◌≡◌, ℕ, zero, suc, ◌+◌, ◌==◌, ◌<◌, ◌≤◌, nat_lt, Bool, true, false, not, ◌&&◌, ◌||◌, cond, List, [], ◌∷◌, drop, take, Option, Some, None, slice_get, if◌then◌else◌, refl, sym, ap, ◌∙◌, subst, arith}
use Rattle.std.specs.List.{list_all, list_any}
use Rattle.std.specs.Option.{option_map, option_map_or}
use Rattle.df_tok.specs.Token.{Token}
use Rattle.df_tree.specs.Terminal.{terminal}
use Rattle.df_tree.specs.declared.production.Form.{Form}
use Rattle.df_tree.specs.declared.production.Form.TheVariants.{All, One, Many}
use Rattle.df_tree.specs.declared.production.Part.{Part}
use Rattle.df_tree.specs.declared.production.Part.TheVariants.{Terminal, Nonterminal}
use Rattle.df_tree.specs.Row.{Row}
use Rattle.df_tree.specs.Grammar.{row, kinds_of, is_in, first_terminal, first_in, second_in, is_nil, begins, begins_part, chosen}
use Rattle.df_tree.specs.Building.{Frame, keep, outside}
use Rattle.df_pexpr.specs.declared.reader.Step.{Step}
use Rattle.df_pexpr.specs.declared.reader.Step.TheVariants.{Read, Done, Fail}
use Rattle.df_pexpr.specs.mirror.Reading.{step, chosen_step, turn_limit}
use Rattle.df_pexpr.specs.mirror.Construction.{Construction, Attempt, Success, Failure, and_then, Sofar, Builder, height_before, room_inside, height_so_far, begun, further, finished, by_step_of, grow, node_built, taken, leaf_built, builder}

-- ---- where reading ends

abbrev pub end_of : Attempt → ℕ
end_of (Success x) = x.behind
end_of (Failure at) = at

abbrev IsAhead : Builder → Type 0
IsAhead build = (before : ℕ) (frame : Frame) (at : ℕ) (p : Part) → at ≤ end_of (build before frame at p)

then_ahead : (at : ℕ) (f : Construction → Attempt) (a : Attempt) → at ≤ end_of a → ((x : Construction) → x.behind ≤ end_of (f x)) → at ≤ end_of (and_then f a)
then_ahead at f (Success x) le h = omega (arith, le, h x)
then_ahead at f (Failure stop) le h = le

by_step_ahead : (at : ℕ) (ended : Construction) (reads : Part → Attempt) (s : Step) → ended.behind ≡ at → ((p : Part) → at ≤ end_of (reads p)) → at ≤ end_of (by_step_of at ended reads s)
by_step_ahead at ended reads Fail e h = omega arith
by_step_ahead at ended reads Done e h = omega (arith, e)
by_step_ahead at ended reads (Read p) e h = h p

if_ahead : (at : ℕ) (b : Bool) (a : Attempt) → at ≤ end_of a → at ≤ end_of (if b then Failure at else a)
if_ahead at true a le = omega arith
if_ahead at false a le = le

grow_ahead : (tokens : List Token) (build : Builder) → IsAhead build → (room turns n : ℕ) (outer : Frame) (before k : ℕ) (so_far : Sofar) → so_far.at ≤ end_of (grow tokens build room turns n outer before k so_far)
unfolding grow
grow_ahead tokens build ahead room zero n outer before k so_far = omega arith
grow_ahead tokens build ahead room (suc turns) n outer before k so_far =
    if_ahead so_far.at (nat_lt room (height_so_far (row n).counting before so_far)) _
    (by_step_ahead so_far.at (finished (row n) outer before k so_far) _ (step (row n).form (row n) k (drop so_far.at tokens)) refl
    (λ p. then_ahead so_far.at (λ x. grow tokens build room turns n outer before (suc k) (further (row n).counting k so_far x)) (build (height_before (row n).counting so_far.height) so_far.frame so_far.at p)
    (ahead (height_before (row n).counting so_far.height) so_far.frame so_far.at p)
    (λ x. grow_ahead tokens build ahead room turns n outer before (suc k) (further (row n).counting k so_far x))))

leaf_ahead : (before : ℕ) (frame : Frame) (at kind : ℕ) (tokens : List Token) → at ≤ end_of (leaf_built before frame at kind tokens)
leaf_ahead before frame at kind [] = omega arith
leaf_ahead before frame at kind (x ∷ xs) = by (terminal x == kind)
  where
    by : (b : Bool) → at ≤ end_of (if b then Success (record { frame = keep at x frame; behind = at + 1; height = before; filled = true }) else Failure at)
    by true = omega arith
    by false = omega arith

builder_ahead : (tokens : List Token) (left room before : ℕ) (frame : Frame) (at : ℕ) (p : Part) → at ≤ end_of (builder tokens left room before frame at p)
builder_ahead tokens left room before frame at (Terminal kind) = leaf_ahead before frame at kind (drop at tokens)
builder_ahead tokens zero room before frame at (Nonterminal n) = omega arith
builder_ahead tokens (suc left) room before frame at (Nonterminal n) =
    if_ahead at ((row n).narrow && not (begins (row n) (drop at tokens))) _
    (grow_ahead tokens (builder tokens left (room_inside (row n).counting room)) (λ b f a p. builder_ahead tokens left (room_inside (row n).counting room) b f a p) room turn_limit n (outside (row n).way at frame) before 0 (begun (row n) before frame at))

-- ---- what is read is alike

abbrev pub head : List Token → Option Token
head [] = None
head (x ∷ xs) = Some x

-- The same productions and tokens begin two lists.
pub record Alike (ts us : List Token) : Type 0 where
  pub rows : (n : ℕ) → begins (row n) ts ≡ begins (row n) us
  pub heads : head ts ≡ head us

first_by_head : (ts : List Token) → first_terminal ts ≡ option_map terminal (head ts)
first_by_head [] = refl
first_by_head (x ∷ xs) = refl

pub same_first : (ts us : List Token) → head ts ≡ head us → first_terminal ts ≡ first_terminal us
same_first ts us e = first_by_head ts ∙ ap (option_map terminal) e ∙ sym (first_by_head us)

part_alike : (ts us : List Token) → Alike ts us → (p : Part) → begins_part p ts ≡ begins_part p us
part_alike ts us alike (Terminal kind) = ap (λ o. option_map_or (λ k. is_in k (kind ∷ [])) o false) (same_first ts us alike.heads)
part_alike ts us alike (Nonterminal n) = alike.rows n

chosen_alike : (ts us : List Token) → Alike ts us → (parts : List Part) → chosen parts ts ≡ chosen parts us
chosen_alike ts us alike [] = refl
chosen_alike ts us alike (p ∷ ps) = ap (λ b. cond b (Some p) (chosen ps ts)) (part_alike ts us alike p) ∙ ap (λ o. cond (begins_part p us) (Some p) o) (chosen_alike ts us alike ps)

step_alike : (form : Form) (r : Row) (k : ℕ) (ts us : List Token) → Alike ts us → step form r k ts ≡ step form r k us
step_alike All r k ts us alike = refl
step_alike One r k ts us alike = ap (λ o. if k == 0 then chosen_step r.empty o else Done) (chosen_alike ts us alike r.parts)
step_alike Many r k ts us alike = ap (chosen_step r.empty) (chosen_alike ts us alike r.parts)

abbrev leaf_by_head : ℕ → Frame → ℕ → ℕ → Option Token → Attempt
leaf_by_head before frame at kind None = Failure at
leaf_by_head before frame at kind (Some x) = taken before frame at kind x

leaf_is : (before : ℕ) (frame : Frame) (at kind : ℕ) (ts : List Token) → leaf_built before frame at kind ts ≡ leaf_by_head before frame at kind (head ts)
leaf_is before frame at kind [] = refl
leaf_is before frame at kind (x ∷ xs) = refl

-- ---- reading is alike

-- up to this number
abbrev pub AlikeUpTo : ℕ → List Token → List Token → Type 0
AlikeUpTo stop tokens others = (at : ℕ) → at ≤ stop → Alike (drop at tokens) (drop at others)

abbrev IsLocal : ℕ → Builder → Builder → Type 0
IsLocal stop build other = (before : ℕ) (frame : Frame) (at : ℕ) (p : Part) → end_of (build before frame at p) ≤ stop → other before frame at p ≡ build before frame at p

if_local : (stop at : ℕ) (b : Bool) (one other : Attempt) → (end_of one ≤ stop → other ≡ one) → end_of (if b then Failure at else one) ≤ stop → (if b then Failure at else other) ≡ (if b then Failure at else one)
if_local stop at true one other h le = refl
if_local stop at false one other h le = h le

by_step_local : (stop at : ℕ) (ended : Construction) (reads others : Part → Attempt) (s : Step) → ((p : Part) → end_of (reads p) ≤ stop → others p ≡ reads p) → end_of (by_step_of at ended reads s) ≤ stop
    → by_step_of at ended others s ≡ by_step_of at ended reads s
by_step_local stop at ended reads others Fail h le = refl
by_step_local stop at ended reads others Done h le = refl
by_step_local stop at ended reads others (Read p) h le = h p le

then_local : (stop : ℕ) (f g : Construction → Attempt) (a b : Attempt) → ((x : Construction) → x.behind ≤ end_of (f x)) → (end_of a ≤ stop → b ≡ a) → ((x : Construction) → end_of (f x) ≤ stop → g x ≡ f x) → end_of (and_then f a) ≤ stop → and_then g b ≡ and_then f a
then_local stop f g (Success x) b ahead same h le = ap (and_then g) (same (omega (arith, ahead x, le))) ∙ h x le
then_local stop f g (Failure at) b ahead same h le = ap (and_then g) (same le)

grow_local : (tokens others : List Token) (build other : Builder) (stop : ℕ) → AlikeUpTo stop tokens others → IsAhead build → IsLocal stop build other → (room turns n : ℕ) (outer : Frame) (before k : ℕ) (so_far : Sofar) → so_far.at ≤ stop
    → end_of (grow tokens build room turns n outer before k so_far) ≤ stop → grow others other room turns n outer before k so_far ≡ grow tokens build room turns n outer before k so_far
unfolding grow
grow_local tokens others build other stop alike ahead same room zero n outer before k so_far here le = refl
grow_local tokens others build other stop alike ahead same room (suc turns) n outer before k so_far here le =
    let reads : Part → Attempt = λ p. and_then (λ x. grow tokens build room turns n outer before (suc k) (further (row n).counting k so_far x)) (build (height_before (row n).counting so_far.height) so_far.frame so_far.at p) in
    let likewise : Part → Attempt = λ p. and_then (λ x. grow others other room turns n outer before (suc k) (further (row n).counting k so_far x)) (other (height_before (row n).counting so_far.height) so_far.frame so_far.at p) in
    let ended : Construction = finished (row n) outer before k so_far in
    if_local stop so_far.at (nat_lt room (height_so_far (row n).counting before so_far))
    (by_step_of so_far.at ended reads (step (row n).form (row n) k (drop so_far.at tokens)))
    (by_step_of so_far.at ended likewise (step (row n).form (row n) k (drop so_far.at others)))
    (λ l. ap (by_step_of so_far.at ended likewise) (sym (step_alike (row n).form (row n) k (drop so_far.at tokens) (drop so_far.at others) (alike so_far.at here)))
    ∙ by_step_local stop so_far.at ended reads likewise (step (row n).form (row n) k (drop so_far.at tokens))
    (λ p m. then_local stop (λ x. grow tokens build room turns n outer before (suc k) (further (row n).counting k so_far x)) (λ x. grow others other room turns n outer before (suc k) (further (row n).counting k so_far x))
    (build (height_before (row n).counting so_far.height) so_far.frame so_far.at p) (other (height_before (row n).counting so_far.height) so_far.frame so_far.at p)
    (λ x. grow_ahead tokens build ahead room turns n outer before (suc k) (further (row n).counting k so_far x))
    (λ q. same (height_before (row n).counting so_far.height) so_far.frame so_far.at p q)
    (λ x q. grow_local tokens others build other stop alike ahead same room turns n outer before (suc k) (further (row n).counting k so_far x)
    (omega (arith, q, grow_ahead tokens build ahead room turns n outer before (suc k) (further (row n).counting k so_far x))) q) m) l) le

node_local : (stop at : ℕ) (b c : Bool) (one other : Attempt) → b ≡ c → (end_of one ≤ stop → other ≡ one) → end_of (if b then Failure at else one) ≤ stop → (if c then Failure at else other) ≡ (if b then Failure at else one)
node_local stop at b c one other e h le = ap (λ d. if d then Failure at else other) (sym e) ∙ if_local stop at b one other h le

pub builder_local : (tokens others : List Token) (stop : ℕ) → AlikeUpTo stop tokens others → (left room before : ℕ) (frame : Frame) (at : ℕ) (p : Part) → end_of (builder tokens left room before frame at p) ≤ stop
    → builder others left room before frame at p ≡ builder tokens left room before frame at p
builder_local tokens others stop alike left room before frame at (Terminal kind) le =
    let here : at ≤ stop = omega (arith, le, leaf_ahead before frame at kind (drop at tokens)) in
    leaf_is before frame at kind (drop at others) ∙ ap (leaf_by_head before frame at kind) (sym (alike at here).heads) ∙ sym (leaf_is before frame at kind (drop at tokens))
builder_local tokens others stop alike zero room before frame at (Nonterminal n) le = refl
builder_local tokens others stop alike (suc left) room before frame at (Nonterminal n) le =
    let inside : ℕ = room_inside (row n).counting room in
    let so_far : Sofar = begun (row n) before frame at in
    let here : at ≤ stop = omega (arith, le, builder_ahead tokens (suc left) room before frame at (Nonterminal n)) in
    node_local stop at ((row n).narrow && not (begins (row n) (drop at tokens))) ((row n).narrow && not (begins (row n) (drop at others)))
    (grow tokens (builder tokens left inside) room turn_limit n (outside (row n).way at frame) before 0 so_far) (grow others (builder others left inside) room turn_limit n (outside (row n).way at frame) before 0 so_far)
    (ap (λ b. (row n).narrow && not b) ((alike at here).rows n))
    (λ l. grow_local tokens others (builder tokens left inside) (builder others left inside) stop alike (λ b f a p. builder_ahead tokens left inside b f a p) (λ b f a p q. builder_local tokens others stop alike left inside b f a p q)
    room turn_limit n (outside (row n).way at frame) before 0 so_far here l) le
