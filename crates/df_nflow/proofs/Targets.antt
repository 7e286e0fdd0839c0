-- Places that take terms, one after the other.
use Rattle.df_nflow.proofs.Words.{◌≡◌, ◌+◌, ◌<◌, ℕ, ◌==◌, Bool, true, false, ◌&&◌, ◌||◌, not, if◌then◌else◌, List, [], ◌∷◌, map, drop, get_or, length, sym, ap, ◌∙◌, subst, arith, flat_map, list_all, and_parts, get_or_default, length-drop, same_Some, Ty, Target, Update, Program, target_of, are_same_types, source_types, DeclaredTarget, Node, Term, sort_of_type, equal_in, IsTerm, AreLocals, tree_at, trees_at, drop_next, Said, Way, Moved, over, with_term, assert, saying, moved_behind, Taken, taken_by, assert_equal, give_all, Given, Standing, Moves, is_target_over, are_targets_over, target_types, is_update_over, is_source_over, locals_first, locals_rest}
use Rattle.df_meaning.specs.declared.kind.Kind.TheVariants as kinds
use Rattle.df_nmeas.proofs.Parameters.{locals_long}
use Rattle.df_npass.proofs.Arguments.{same_types_are}
use Rattle.df_nflow.proofs.Flowing.{moves_then}
use Rattle.df_nflow.proofs.Going.{Moving, moving_give}
use Rattle.df_nlocals.proofs.Once.{is_met, Meets, either_of}
use Rattle.df_nflow.proofs.Standings.{also_fresh, moves_with}
use Rattle.df_nflow.proofs.Updating.{AreLast, is_named, last_none, last_more, named_again}

abbrev targets_from : ℕ → List DeclaredTarget → List Target
targets_from i xs = map target_of (drop i xs)

-- a place, its term, and what is left
pub record Turn (nodes : List Node) (types : List Ty) (xs : List DeclaredTarget) (ns : List ℕ) (i : ℕ) (x : DeclaredTarget) : Type 0 where
  pub less : i < length ns
  pub places : map target_of (drop i xs) ≡ target_of x ∷ map target_of (drop (i + 1) xs)
  pub terms : drop i ns ≡ get_or ns i 0 ∷ drop (i + 1) ns
  pub place : is_target_over types (target_of x) ≡ true
  pub term : IsTerm (sort_of_type x.ty) nodes (get_or ns i 0)
  pub over : are_targets_over types (map target_of (drop (i + 1) xs)) ≡ true
  pub locals : AreLocals nodes (target_types (map target_of (drop (i + 1) xs))) (drop (i + 1) ns)

module _ (nodes : List Node) (types : List Ty) (xs : List DeclaredTarget) (ns : List ℕ) (i : ℕ) (less : i < length xs) where
  turn_of : (x : DeclaredTarget) → x ≡ get_or xs i x → are_targets_over types (targets_from i xs) ≡ true → AreLocals nodes (target_types (targets_from i xs)) (drop i ns) → Turn nodes types xs ns i x
  turn_of x e over locals =
      let next = targets_from (i + 1) xs in
      let is : targets_from i xs ≡ target_of x ∷ next = ap (map target_of) (drop_next xs i x e less) in
      let here = subst (λ (ts : List Target). AreLocals nodes (target_types ts) (drop i ns)) is locals in
      let long = locals_long nodes (x.ty ∷ target_types next) (drop i ns) here in
      let within : i < length ns = omega (arith, long, length-drop i ns) in
      let n = get_or ns i 0 in
      let ist : drop i ns ≡ n ∷ drop (i + 1) ns = drop_next ns i n (get_or_default ns i 0 n within) within in
      let both = and_parts (is_target_over types (target_of x)) (list_all (is_target_over types) next) (sym (ap (are_targets_over types) is) ∙ over) in
      let all = subst (λ (ms : List ℕ). AreLocals nodes (x.ty ∷ target_types next) ms) ist here in
      record {
        less = within;
        places = is;
        terms = ist;
        place = both.0;
        term = locals_first nodes x.ty n (target_types next) (drop (i + 1) ns) all;
        over = both.1;
        locals = locals_rest nodes x.ty n (target_types next) (drop (i + 1) ns) all;
      }

  pub turn : (d : DeclaredTarget) → are_targets_over types (map target_of (drop i xs)) ≡ true → AreLocals nodes (target_types (map target_of (drop i xs))) (drop i ns) → Turn nodes types xs ns i (get_or xs i d)
  turn d over locals = let x = get_or xs i d in turn_of x (get_or_default xs i d x less) over locals

-- what goes on with the places that are left goes on with all
pub record Giving (first : Standing) (whole : Moved) (here : Standing) (targets : List Target) (terms : List Term) (keys : List ℕ) : Type 0 where
  pub earlier : List Taken
  pub last : AreLast here.way.env earlier
  pub named : (q : ℕ) → is_met keys q ≡ is_named q earlier
  pub moving : Moving first whole here (give_all earlier targets terms here.fresh here.way)

asked_again : (is_new met named : Bool) (asked : List Said) → is_new ≡ not met → met ≡ named → (if is_new then [] else asked) ≡ (if named then asked else [])
asked_again is_new true named asked e f = ap (λ (b : Bool). if b then [] else asked) e ∙ ap (λ (b : Bool). if b then asked else []) f
asked_again is_new false named asked e f = ap (λ (b : Bool). if b then [] else asked) e ∙ ap (λ (b : Bool). if b then asked else []) f

module _ (first here next : Standing) (whole : Moved) (t : Target) (ts : List Target) (x : Term) (xs : List Term) (keys more : List ℕ) (is_new : Bool) where
  pub giving_next : Giving first whole here (t ∷ ts) (x ∷ xs) keys → is_new ≡ not (is_met keys t.local) → Meets keys t.local more
      → Moves here (saying (if is_new then [] else assert here.way.path t.pos kinds.Distinct (equal_in t.ty x (here.way.env t.local))) here.fresh (over (with_term here.way.env t.local x) here.way)) next
      → Giving first whole next ts xs more
  giving_next g e meets p =
      let asked = assert here.way.path t.pos kinds.Distinct (equal_in t.ty x (here.way.env t.local)) in
      let same : (if is_new then [] else asked) ≡ assert_equal here.way.path t x (taken_by t.local g.earlier) =
      asked_again is_new (is_met keys t.local) (is_named t.local g.earlier) asked e (g.named t.local) ∙ sym (named_again here.way.path t x here.way.env g.earlier g.last) in
      let moved = subst (λ (said : List Said). Moves here (saying said here.fresh (over (with_term here.way.env t.local x) here.way)) next) same p in
      let way = same_Some (over (with_term here.way.env t.local x) here.way) next.way p.way in
      record {
        earlier = record { local = t.local; value = x } ∷ g.earlier;
        last = subst (λ (w : Way). AreLast w.env (record { local = t.local; value = x } ∷ g.earlier)) way (last_more here.way.env t.local x g.earlier g.last);
        named = λ q. meets q ∙ either_of (t.local == q) (is_met keys q) ∙ ap (λ (b : Bool). (t.local == q) || b) (g.named q);
        moving = moving_give first here next whole g.earlier t ts x xs g.moving moved;
      }

pub giving_from : (s : Standing) (targets : List Target) (terms : List Term) (keys : List ℕ) → ((q : ℕ) → is_met keys q ≡ false) → Giving s (give_all [] targets terms s.fresh s.way) s targets terms keys
giving_from s targets terms keys none = record { earlier = []; last = last_none s.way.env; named = none; moving = record { by = λ last p. p } }

-- where the table grows meanwhile
pub giving_turn : (old here : List Node) (types : List Ty) (xs : List DeclaredTarget) (ns : List ℕ) (i : ℕ) (x : DeclaredTarget) (first s next : Standing) (whole : Moved) (keys more : List ℕ) (is_new : Bool)
    → Turn here types xs ns i x → tree_at here (get_or ns i 0) ≡ tree_at old (get_or ns i 0)
    → Giving first whole s (map target_of (drop i xs)) (trees_at old (drop i ns)) keys → is_new ≡ not (is_met keys x.local) → Meets keys x.local more
    → Moves s (saying (if is_new then [] else assert s.way.path x.pos kinds.Distinct (equal_in x.ty (tree_at here (get_or ns i 0)) (s.way.env x.local))) s.fresh (over (with_term s.way.env x.local (tree_at here (get_or ns i 0))) s.way)) next
    → Giving first whole next (map target_of (drop (i + 1) xs)) (trees_at old (drop (i + 1) ns)) more
giving_turn old here types xs ns i x first s next whole keys more is_new t tree g e meets p =
    let a = tree_at old (get_or ns i 0) in
    let giving = subst (λ (ts : List Target). Giving first whole s ts (a ∷ trees_at old (drop (i + 1) ns)) keys) t.places (subst (λ (ms : List ℕ). Giving first whole s (map target_of (drop i xs)) (trees_at old ms) keys) t.terms g) in
    giving_next first s next whole (target_of x) (map target_of (drop (i + 1) xs)) a (trees_at old (drop (i + 1) ns)) keys more is_new giving e meets
    (subst (λ (b : Term). Moves s (saying (if is_new then [] else assert s.way.path x.pos kinds.Distinct (equal_in x.ty b (s.way.env x.local))) s.fresh (over (with_term s.way.env x.local b) s.way)) next) tree p)

-- ---- updates

pub record IsUpdate (program : Program) (types : List Ty) (u : Update) : Type 0 where
  pub targets : are_targets_over types u.targets ≡ true
  pub sources : list_all (is_source_over program types) u.sources ≡ true
  pub same : flat_map source_types u.sources ≡ target_types u.targets

pub update_is : (program : Program) (types : List Ty) (u : Update) → is_update_over program types u ≡ true → IsUpdate program types u
update_is program types u is =
    let front = are_targets_over types u.targets && list_all (is_source_over program types) u.sources in
    let both = and_parts front (are_same_types (flat_map source_types u.sources) (target_types u.targets)) is in
    let two = and_parts (are_targets_over types u.targets) (list_all (is_source_over program types) u.sources) both.0 in
    record { targets = two.0; sources = two.1; same = same_types_are (flat_map source_types u.sources) (target_types u.targets) both.1 }

-- right sides have given these terms, which go to their places
pub updated : (here mid next : Standing) (given : Given) (targets : List Target) (terms : List Term) → mid ≡ also_fresh given.said given.fresh here → terms ≡ given.terms → Moves mid (give_all [] targets terms mid.fresh mid.way) next
    → Moves here (moved_behind given.said (give_all [] targets given.terms given.fresh here.way)) next
updated here mid next given targets terms e same p =
    let q = subst (λ (s : Standing). Moves s (give_all [] targets terms s.fresh s.way) next) e p in
    let r = subst (λ (ts : List Term). Moves (also_fresh given.said given.fresh here) (give_all [] targets ts given.fresh here.way) next) same q in
    moves_then here (also_fresh given.said given.fresh here) next (saying given.said given.fresh here.way) (give_all [] targets given.terms given.fresh here.way) (moves_with here given.said given.fresh) r
