-- Flows one after the other.
use Rattle.df_nflow.proofs.Words.{◌≡◌, ℕ, Bool, true, false, ◌||◌, List, [], ◌∷◌, ◌++◌, map, Option, None, refl, sym, ap, ◌∙◌, subst, append_assoc, append-nil, map-append, same_Some, option_map_or, all_joined, Changed, Said, Way, Moved, Flow, goes_on, saying, behind, followed_by, then_next, moved_behind, back, Arrival, arrival, IsSortedWay, Standing, also, Passes, Moves}
use Rattle.df_nflow.proofs.Backing.{back_append}

-- what stands at the end of each of two lists stands at the end of both
pub ends_join : {A : Type 0} (a b c xs ys : List A) → b ≡ a ++ xs → c ≡ b ++ ys → c ≡ a ++ (xs ++ ys)
ends_join a b c xs ys e f = f ∙ ap (λ zs. zs ++ ys) e ∙ append_assoc a xs ys

pub ends_mapped : {A B : Type 0} (g : A → B) (a b c : List B) (xs ys : List A) → b ≡ a ++ map g xs → c ≡ b ++ map g ys → c ≡ a ++ map g (xs ++ ys)
ends_mapped g a b c xs ys e f = ends_join a b c (map g xs) (map g ys) e f ∙ ap (λ zs. a ++ zs) (sym (map-append g xs ys))

pub same_or : (a b c d : Bool) → a ≡ c → b ≡ d → (a || b) ≡ (c || d)
same_or a b c d e f = ap (λ x. x || b) e ∙ ap (λ y. c || y) f

-- what is said where the way stays as it is
pub passes_also : (s : Standing) (said : List Said) → Moves s (saying said s.fresh s.way) (also said s)
passes_also s said = record {
  types = refl;
  entry = refl;
  said = refl;
  fresh = refl;
  way = refl;
  loses = refl;
  kept = [];
  trail = sym (append-nil s.trail);
  back = refl;
  breaks = sym (append-nil s.breaks);
  returns = sym (append-nil s.returns);
  sorted_breaks = tt;
  sorted_returns = tt;
}

-- nothing is said where nothing is passed
pub passes_none : (s : Standing) → Moves s (saying [] s.fresh s.way) s
passes_none s =
    subst (λ (t : Standing). Moves s (saying [] s.fresh s.way) t) (λ i. record { types = s.types; entry = s.entry; said = append-nil s.said i; fresh = s.fresh; way = s.way; trail = s.trail; breaks = s.breaks; returns = s.returns }) (passes_also s [])

module _ (in_loop in_method : List Changed) where
  -- where no run leaves, it is all the same where exits lead to
  pub moves_pass : (a b : Standing) (moved : Moved) → Moves a moved b → Passes in_loop in_method a (goes_on moved) b true false
  moves_pass a b moved p = record {
    types = p.types;
    entry = p.entry;
    said = p.said;
    fresh = p.fresh;
    way = p.way;
    loses = p.loses;
    kept = p.kept;
    trail = p.trail;
    back = p.back;
    breaks = p.breaks;
    returns = p.returns;
    sorted_breaks = tt;
    sorted_returns = tt;
  }

  pub passes_then : (a b c : Standing) (flow more : Flow) (on one two : Bool) → Passes in_loop in_method a flow b true one → Passes in_loop in_method b more c on two
      → Passes in_loop in_method a (followed_by flow more) c on (one || two)
  passes_then a b c flow more on one two p q = record {
    types = q.types ∙ p.types;
    entry = q.entry ∙ p.entry;
    said = ends_join a.said b.said c.said flow.said more.said p.said q.said;
    fresh = q.fresh;
    way = q.way;
    loses = same_or flow.loses more.loses one two p.loses q.loses;
    kept = p.kept ++ q.kept;
    trail = ends_join a.trail b.trail c.trail p.kept q.kept p.trail q.trail;
    back = back_append p.kept q.kept c.way.env ∙ ap (back p.kept) q.back ∙ p.back;
    breaks = ends_mapped (arrival in_loop) a.breaks b.breaks c.breaks flow.breaks more.breaks p.breaks q.breaks;
    returns = ends_mapped (arrival in_method) a.returns b.returns c.returns flow.returns more.returns p.returns q.returns;
    sorted_breaks = all_joined (IsSortedWay in_loop) flow.breaks more.breaks p.sorted_breaks q.sorted_breaks;
    sorted_returns = all_joined (IsSortedWay in_method) flow.returns more.returns p.sorted_returns q.sorted_returns;
  }

  -- the next statement, where a run goes on to it
  pub passes_next : (a b c : Standing) (flow : Flow) (go : ℕ → Way → Flow) (on one two : Bool) → Passes in_loop in_method a flow b true one
      → Passes in_loop in_method b (go b.fresh b.way) c on two → Passes in_loop in_method a (then_next flow go) c on (one || two)
  passes_next a b c flow go on one two p q =
      let fresh : go b.fresh b.way ≡ go flow.fresh b.way = ap (λ n. go n b.way) p.fresh in
      let both = passes_then a b c flow (go flow.fresh b.way) on one two p (subst (λ (more : Flow). Passes in_loop in_method b more c on two) fresh q) in
      let is : followed_by flow (go flow.fresh b.way) ≡ then_next flow go = sym (ap (λ (o : Option Way). option_map_or (λ way. followed_by flow (go flow.fresh way)) o flow) p.way) in
      subst (λ (whole : Flow). Passes in_loop in_method a whole c on (one || two)) is both

  -- behind what was said before
  pub passes_behind : (a b c : Standing) (moved : Moved) (flow : Flow) (on one : Bool) → Moves a moved b → Passes in_loop in_method b flow c on one
      → Passes in_loop in_method a (behind moved.said flow) c on one
  passes_behind a b c moved flow on one p q = record {
    types = q.types ∙ p.types;
    entry = q.entry ∙ p.entry;
    said = ends_join a.said b.said c.said moved.said flow.said p.said q.said;
    fresh = q.fresh;
    way = q.way;
    loses = q.loses;
    kept = p.kept ++ q.kept;
    trail = ends_join a.trail b.trail c.trail p.kept q.kept p.trail q.trail;
    back = back_append p.kept q.kept c.way.env ∙ ap (back p.kept) q.back ∙ p.back;
    breaks = q.breaks ∙ ap (λ (xs : List Arrival). xs ++ map (arrival in_loop) flow.breaks) (p.breaks ∙ append-nil a.breaks);
    returns = q.returns ∙ ap (λ (xs : List Arrival). xs ++ map (arrival in_method) flow.returns) (p.returns ∙ append-nil a.returns);
    sorted_breaks = q.sorted_breaks;
    sorted_returns = q.sorted_returns;
  }

-- one thing said after the other
pub moves_then : (a b c : Standing) (one two : Moved) → Moves a one b → Moves b two c → Moves a (moved_behind one.said two) c
moves_then a b c one two p q = passes_behind [] [] a b c one (goes_on two) true false p q

-- one thing said, and then what goes on from there
pub moves_on : (a b d : Standing) (one : Moved) (go : ℕ → Way → Moved) → Moves a one b → Moves b (go b.fresh b.way) d → Moves a (moved_behind one.said (go one.fresh one.way)) d
moves_on a b d one go p q =
    let e : go b.fresh b.way ≡ go one.fresh one.way = ap (λ n. go n b.way) p.fresh ∙ ap (go one.fresh) (sym (same_Some one.way b.way p.way)) in
    moves_then a b d one (go one.fresh one.way) p (subst (λ (m : Moved). Moves b m d) e q)

-- what is said before a return
pub moves_return : (in_loop in_method : List Changed) (a b c : Standing) (moved : Moved) (on one : Bool) → Moves a moved b
    → Passes in_loop in_method b (record { said = []; fresh = b.fresh; way = None; breaks = []; returns = b.way ∷ []; loses = true }) c on one
    → Passes in_loop in_method a (record { said = moved.said; fresh = moved.fresh; way = None; breaks = []; returns = moved.way ∷ []; loses = true }) c on one
moves_return in_loop in_method a b c moved on one p q =
    let way = same_Some moved.way b.way p.way in
    subst (λ (flow : Flow). Passes in_loop in_method a flow c on one) (λ i. record { said = append-nil moved.said i; fresh = p.fresh i; way = None; breaks = []; returns = sym way i ∷ []; loses = true })
    (passes_behind in_loop in_method a b c moved (record { said = []; fresh = b.fresh; way = None; breaks = []; returns = b.way ∷ []; loses = true }) on one p q)
