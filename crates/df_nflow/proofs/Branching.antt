-- Branches one after the other, and where they come together.
use Rattle.df_nflow.proofs.Words.{◌≡◌, ℕ, Bool, true, false, ◌||◌, if◌then◌else◌, List, [], ◌∷◌, ◌++◌, map, length, take, drop, Option, refl, sym, ap, ◌∙◌, subst, append-nil, AllZip, all_joined, Ty, Node, Grows, Changed, Term, Environment, Said, Way, Joined, join_branches, paths_of, any_path, Flow, Parted, ways_of, last_of, first_of, path_behind, rejoined, Kept, back, Arrival, arrival, IsSortedWay, Standing, also, at_path, over_terms, way_if, Passes, Joins, Ended, IsEnded, AreEnded, Parts, paths_in, arrival_in, arrivals_in, ended_in, all_ended_in, AreArrived, DeclaredArrived}
use Rattle.df_nflow.proofs.Waiting.{arrival_same, all_kept_same}
use Rattle.df_nflow.proofs.Arriving.{ended_arrive}
use Rattle.df_nflow.proofs.Changes.{paths_joined}
use Rattle.df_nflow.proofs.Flowing.{ends_join, ends_mapped, same_or}
use Rattle.df_nflow.proofs.Trailing.{taken, dropped}

pub zip_joined : {A B : Type 0} (R : A → B → Type 0) (xs zs : List A) (ys ws : List B) → AllZip R xs ys → AllZip R zs ws → AllZip R (xs ++ zs) (ys ++ ws)
zip_joined R [] zs [] ws h k = k
zip_joined R [] zs (y ∷ ys) ws h k = absurd h
zip_joined R (x ∷ xs) zs [] ws h k = absurd h
zip_joined R (x ∷ xs) zs (y ∷ ys) ws h k = (h.0, zip_joined R xs zs ys ws h.1 k)

-- the way at the end of a branch, if runs go on there
abbrev pub ended_if : Bool → Ended → List Ended
ended_if on ended = if on then ended ∷ [] else []

pub all_ended_if : (nodes : List Node) (on : Bool) (a : DeclaredArrived) (arrived : List DeclaredArrived) → arrived ≡ (if on then a ∷ [] else []) → all_ended_in nodes arrived ≡ ended_if on (ended_in nodes a)
all_ended_if nodes true a arrived e = ap (all_ended_in nodes) e
all_ended_if nodes false a arrived e = ap (all_ended_in nodes) e

-- in a table that has grown, ways at the ends of branches are what they were
pub all_ended_same : (before now : List Node) (types : List Ty) → Grows before now → (arrived : List DeclaredArrived) → AreArrived before types arrived → all_ended_in now arrived ≡ all_ended_in before arrived
all_ended_same before now types g [] are = refl
all_ended_same before now types g (a ∷ others) are =
    let one = arrival_same before now g types a are.0 in
    let ahead = all_kept_same before now g types a.ahead.items are.0.ahead in
    let rest = all_ended_same before now types g others are.1 in
    λ i. record { arrival = one i; ahead = ahead i } ∷ rest i

pub arrivals_ended : (nodes : List Node) (arrived : List DeclaredArrived) → arrivals_in nodes arrived ≡ map (λ (e : Ended). e.arrival) (all_ended_in nodes arrived)
arrivals_ended nodes [] = refl
arrivals_ended nodes (a ∷ others) = ap (λ (rest : List Arrival). arrival_in nodes a ∷ rest) (arrivals_ended nodes others)

module _ (changed in_loop in_method : List Changed) where
  -- a guard is asked for, its branch is passed where it is true, and then the others
  pub parts_first : (a c e : Standing) (asked : List Said) (inside past : Option Term) (flow : Flow) (rest : ℕ → Parted) (one others : List Ended) (l m : Bool)
      → Parts changed in_loop in_method (at_path inside (also asked a)) (last_of flow) c one l
      → Parts changed in_loop in_method (at_path past c) (rest c.fresh) e others m
      → Parts changed in_loop in_method a (first_of asked flow rest) e (one ++ others) (l || m)
  parts_first a c e asked inside past flow rest one others l m p q =
      let q : Parts changed in_loop in_method (at_path past c) (rest flow.fresh) e others m = subst (λ (n : ℕ). Parts changed in_loop in_method (at_path past c) (rest n) e others m) p.fresh q in
      record {
        types = q.types ∙ p.types;
        entry = q.entry ∙ p.entry;
        said = ends_join a.said (a.said ++ asked) e.said asked (flow.said ++ (rest flow.fresh).said) refl (ends_join (a.said ++ asked) c.said e.said flow.said (rest flow.fresh).said p.said q.said);
        fresh = q.fresh;
        env = q.env ∙ p.env;
        trail = q.trail ∙ p.trail;
        ways = zip_joined (IsEnded changed a.way.env) one others (ways_of flow.way) (rest flow.fresh).ways p.ways (subst (λ (env : Environment). AllZip (IsEnded changed env) others (rest flow.fresh).ways) p.env q.ways);
        loses = same_or flow.loses (rest flow.fresh).loses l m p.loses q.loses;
        breaks = ends_mapped (arrival in_loop) a.breaks c.breaks e.breaks flow.breaks (rest flow.fresh).breaks p.breaks q.breaks;
        returns = ends_mapped (arrival in_method) a.returns c.returns e.returns flow.returns (rest flow.fresh).returns p.returns q.returns;
        sorted_breaks = all_joined (IsSortedWay in_loop) flow.breaks (rest flow.fresh).breaks p.sorted_breaks q.sorted_breaks;
        sorted_returns = all_joined (IsSortedWay in_method) flow.returns (rest flow.fresh).returns p.sorted_returns q.sorted_returns;
      }

  ended_there : (env : Environment) (ended : Ended) (on : Bool) (way : Way) (o : Option Way) → o ≡ way_if on way → IsEnded changed env ended way → AllZip (IsEnded changed env) (ended_if on ended) (ways_of o)
  ended_there env ended true way o e is = subst (λ (x : Option Way). AllZip (IsEnded changed env) (ended ∷ []) (ways_of x)) (sym e) (is, tt)
  ended_there env ended false way o e is = subst (λ (x : Option Way). AllZip (IsEnded changed env) [] (ways_of x)) (sym e) tt

  -- a branch is passed, and the locals have the terms again that they had
  pub parts_last : (a b : Standing) (flow : Flow) (on l : Bool) (ended : Ended) (trail : List Kept) → (p : Passes in_loop in_method a flow b on l)
      → trail ≡ a.trail → IsEnded changed (back p.kept b.way.env) ended b.way
      → Parts changed in_loop in_method a (last_of flow) (over_terms (back p.kept b.way.env) trail b) (ended_if on ended) l
  parts_last a b flow on l ended trail p cut is = record {
    types = p.types;
    entry = p.entry;
    said = p.said;
    fresh = p.fresh;
    env = p.back;
    trail = cut;
    ways = ended_there a.way.env ended on b.way flow.way p.way (subst (λ (env : Environment). IsEnded changed env ended b.way) p.back is);
    loses = p.loses;
    breaks = p.breaks;
    returns = p.returns;
    sorted_breaks = p.sorted_breaks;
    sorted_returns = p.sorted_returns;
  }

  -- the trail is as long again as it was, and the way that led to the end of the branch waits
  pub branch_ends : (a b c : Standing) (flow : Flow) (on l : Bool) (mark : ℕ) (ended : Ended) → Passes in_loop in_method a flow b on l → mark ≡ length a.trail
      → c ≡ over_terms (back (drop mark b.trail) b.way.env) (take mark b.trail) b → IsEnded changed c.way.env ended b.way
      → Parts changed in_loop in_method a (last_of flow) c (ended_if on ended) l
  branch_ends a b c flow on l mark ended p e ends is =
      let env : back (drop mark b.trail) b.way.env ≡ back p.kept b.way.env = ap (λ (ks : List Kept). back ks b.way.env) (dropped mark a.trail b.trail p.kept e p.trail) in
      let at : c.way.env ≡ back p.kept b.way.env = ap (λ (s : Standing). s.way.env) ends ∙ env in
      subst (λ (s : Standing). Parts changed in_loop in_method a (last_of flow) s (ended_if on ended) l) (sym (ends ∙ (λ i. over_terms (env i) (take mark b.trail) b)))
      (parts_last a b flow on l ended (take mark b.trail) p (taken mark a.trail b.trail p.kept e p.trail) (subst (λ (env : Environment). IsEnded changed env ended b.way) at is))

  -- where all have been passed, their ways come together
  pub parts_joined : (a b c : Standing) (parted : Parted) (ended : List Ended) (on l : Bool) (path : Option Term)
      → Parts changed in_loop in_method a parted b ended l → path ≡ path_behind a.way parted
      → Joins b (join_branches path b.way.env changed parted.ways b.fresh) c on
      → Passes in_loop in_method a (rejoined changed a.way parted) c on l
  parts_joined a b c parted ended on l path p is q =
      let joined : join_branches path b.way.env changed parted.ways b.fresh ≡ join_branches (path_behind a.way parted) a.way.env changed parted.ways parted.fresh =
      ap (λ (x : Option Term). join_branches x b.way.env changed parted.ways b.fresh) is
      ∙ ap (λ (env : Environment). join_branches (path_behind a.way parted) env changed parted.ways b.fresh) p.env
      ∙ ap (λ (n : ℕ). join_branches (path_behind a.way parted) a.way.env changed parted.ways n) p.fresh in
      let all = join_branches (path_behind a.way parted) a.way.env changed parted.ways parted.fresh in
      let q : Joins b (join_branches (path_behind a.way parted) a.way.env changed parted.ways parted.fresh) c on = subst (λ (j : Joined). Joins b j c on) joined q in
      record {
        types = q.types ∙ p.types;
        entry = q.entry ∙ p.entry;
        said = ends_join a.said b.said c.said parted.said all.said p.said q.said;
        fresh = q.fresh;
        way = q.way;
        loses = p.loses;
        kept = q.kept;
        trail = q.trail ∙ ap (λ (xs : List Kept). xs ++ q.kept) p.trail;
        back = q.back ∙ p.env;
        breaks = q.breaks ∙ append-nil b.breaks ∙ p.breaks;
        returns = q.returns ∙ append-nil b.returns ∙ p.returns;
        sorted_breaks = p.sorted_breaks;
        sorted_returns = p.sorted_returns;
      }

  -- on the path of those that go on, if not all do
  pub rejoins : (a b here c : Standing) (parted : Parted) (ended seen : List Ended) (arrivals : List Arrival) (on l : Bool) (path before : Option Term)
      → Parts changed in_loop in_method a parted b ended l → before ≡ a.way.path → here ≡ b → seen ≡ ended → arrivals ≡ map (λ (e : Ended). e.arrival) ended
      → path ≡ (if l then any_path (paths_in arrivals) else before)
      → ((ways : List Way) → AreEnded changed here.way.env seen ways → Joins here (join_branches path here.way.env changed ways here.fresh) c on)
      → Passes in_loop in_method a (rejoined changed a.way parted) c on l
  rejoins a b here c parted ended seen arrivals on l path before p starts same sees are is joins =
      let arrive = ended_arrive changed a.way.env ended parted.ways p.ways in
      let paths : paths_in arrivals ≡ paths_of parted.ways = ap paths_in (are ∙ arrive.are) ∙ paths_joined changed parted.ways in
      let behind : path ≡ path_behind a.way parted = is ∙ (λ i. if sym p.loses i then any_path (paths i) else starts i) in
      let joins = subst (λ (s : Standing). AreEnded changed s.way.env seen parted.ways → Joins s (join_branches path s.way.env changed parted.ways s.fresh) c on) same (joins parted.ways) in
      parts_joined a b c parted ended on l path p behind (joins (subst (λ (es : List Ended). AreEnded changed b.way.env es parted.ways) (sym sees) (subst (λ (env : Environment). AreEnded changed env ended parted.ways) (sym p.env) p.ways)))
