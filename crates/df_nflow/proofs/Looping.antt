-- Loops: what is said before the body, the body, and what leads on behind the loop.
use Rattle.df_nflow.proofs.Words.{◌≡◌, ℕ, Bool, true, false, List, [], ◌∷◌, ◌++◌, Option, Some, refl, sym, ap, ◌∙◌, subst, append_assoc, append-nil, suc, map, ◌≤◌, length, take, drop, arith, ◌&&◌, same_Some, option_map_or, Pos, Expr, Clause, Measure, Stmts, While, Ty, Program, is_expr, are_clauses, are_measures, Changed, Term, negation, term_of, Measured, measured, Said, Way, Joined, havoc, narrowed, narrowed_path, join, paths_of, any_path, Flow, behind, assert_turn, behind_loop, at_clause, assert_clauses, assume_clauses, assert_expr, assert_measure, Setting, changed_outside, pass_all, pass_stmt, any_turn, loop_head, loop_past, turned_if, past_loop, join_past, AllThere, and_parts, length-append, length-map, loop_measure, are_at, is_over, are_over, Kept, back, Arrival, arrival, IsSortedWay, Arrive, Standing, also, at_path, way_if, Passes, Moves, Joins}
use Rattle.df_lang.specs.declared.ty.Ty.TheVariants as tys
use Rattle.df_meaning.specs.declared.kind.Kind.TheVariants as kinds
use Rattle.df_nflow.proofs.Trailing.{taken, dropped}
use Rattle.df_nflow.proofs.Arriving.{all_there}
use Rattle.df_nflow.proofs.Flowing.{ends_join, passes_behind}
use Rattle.df_nflow.proofs.Ending.{in_order}

asked_in_order : (old owed any known asked all : List Said) → ((old ++ (owed ++ (any ++ known))) ++ asked) ++ all ≡ old ++ (owed ++ (any ++ (known ++ (asked ++ all))))
asked_in_order old owed any known asked all = simp append_assoc

-- the invariants are owed, and known of any values
pub turns : (a b c : Standing) (changed : List Changed) (invariants : List Clause) → Moves (also (assert_clauses at_clause kinds.Entry a.way invariants) a) (havoc changed a.fresh a.way) b → c ≡ also (assume_clauses b.way invariants) b
    → Moves a (any_turn changed invariants a.way a.fresh) c
turns a b c changed invariants p e =
    let any = havoc changed a.fresh a.way in
    let owed = assert_clauses at_clause kinds.Entry a.way invariants in
    let known = assume_clauses any.way invariants in
    let way : any.way ≡ b.way = same_Some any.way b.way p.way in
    let e : c ≡ also known b = e ∙ (λ i. also (assume_clauses (sym way i) invariants) b) in
    subst (λ (s : Standing). Moves a (any_turn changed invariants a.way a.fresh) s) (sym e) (record {
      types = p.types;
      entry = p.entry;
      said = ap (λ (said : List Said). said ++ known) p.said ∙ in_order a.said owed any.said known;
      fresh = p.fresh;
      way = p.way;
      loses = refl;
      kept = p.kept;
      trail = p.trail;
      back = p.back;
      breaks = p.breaks;
      returns = p.returns;
      sorted_breaks = tt;
      sorted_returns = tt;
    })

-- the formula of the runs that pass the loop by
pub passes_by : (a b : Standing) (changed : List Changed) (guard : Expr) (invariants : List Clause) → Moves a (any_turn changed invariants a.way a.fresh) b
    → narrowed_path b.way.path (negation (term_of b.way.env guard)) ≡ loop_past changed guard a.way a.fresh
passes_by a b changed guard invariants p = ap (λ (way : Way). narrowed_path way.path (negation (term_of way.env guard))) (sym (same_Some (havoc changed a.fresh a.way).way b.way p.way))

-- and the measure, where the guard is true
pub heads : (a b c : Standing) (changed : List Changed) (guard : Expr) (invariants : List Clause) (measures : List Measure) → Moves a (any_turn changed invariants a.way a.fresh) b
    → c ≡ also (assert_measure (narrowed b.way (term_of b.way.env guard)) measures) (at_path (Some (narrowed_path b.way.path (term_of b.way.env guard))) (also (assert_expr b.way guard) b))
    → Moves a (loop_head changed guard invariants measures a.way a.fresh) c
heads a b c changed guard invariants measures p e =
    let any = havoc changed a.fresh a.way in
    let way : any.way ≡ b.way = same_Some any.way b.way p.way in
    let asked = assert_expr any.way guard in
    let inside = narrowed any.way (term_of any.way.env guard) in
    let asked_all = assert_measure inside measures in
    let owed = assert_clauses at_clause kinds.Entry a.way invariants in
    let known = assume_clauses any.way invariants in
    let e : c ≡ also asked_all (at_path inside.path (also asked b)) =
    e ∙ (λ i. also (assert_measure (narrowed (sym way i) (term_of (sym way i).env guard)) measures) (at_path (Some (narrowed_path (sym way i).path (term_of (sym way i).env guard))) (also (assert_expr (sym way i) guard) b))) in
    subst (λ (s : Standing). Moves a (loop_head changed guard invariants measures a.way a.fresh) s) (sym e) (record {
      types = p.types;
      entry = p.entry;
      said = ap (λ (said : List Said). (said ++ asked) ++ asked_all) p.said ∙ asked_in_order a.said owed any.said known asked asked_all;
      fresh = p.fresh;
      way = (λ i. Some (record { env = (way i).env; path = inside.path }));
      loses = refl;
      kept = p.kept;
      trail = p.trail;
      back = p.back;
      breaks = p.breaks;
      returns = p.returns;
      sorted_breaks = tt;
      sorted_returns = tt;
    })

-- one way more is there where the others are
both_there : (place : ℕ) (changed : List Changed) (one : Arrival) (others : List Arrival) → AllThere place changed (one ∷ []) → AllThere place changed others → AllThere place changed (one ∷ others)
both_there place [] one others p q = tt
both_there place (c ∷ cs) one others p q = ((p.0.0, q.0), both_there (suc place) cs one others p.1 q.1)

pub way_there : (changed : List Changed) (way : Way) (others : List Arrival) → IsSortedWay changed way → AllThere 0 changed others → AllThere 0 changed (arrival changed way ∷ others)
way_there changed way others sorted there = both_there 0 changed (arrival changed way) others (all_there changed (arrival changed way ∷ []) (way ∷ []) (record { are = refl; sorted = (sorted, tt) })) there

-- the way past a loop and those of its breaks come together
pub joins_past : (here behind c : Standing) (changed : List Changed) (ways : List Way) (on : Bool) → here ≡ behind
    → Joins here (join (any_path (paths_of (behind.way ∷ ways))) here.way.env changed (behind.way ∷ ways) here.fresh) c on → Joins behind (join_past changed behind ways) c on
joins_past here behind c changed ways on same p =
    subst (λ (s : Standing). Joins s (join (any_path (paths_of (behind.way ∷ ways))) s.way.env changed (behind.way ∷ ways) s.fresh) c on) same p

turned_same : (on : Bool) (said : Way → List Said) (way : Way) (o : Option Way) → o ≡ way_if on way → option_map_or said o [] ≡ turned_if on said way
turned_same true said way o e = ap (λ (x : Option Way). option_map_or said x []) e
turned_same false said way o e = ap (λ (x : Option Way). option_map_or said x []) e

-- Behind the loop: the locals have the terms again that they had before the body, on the way past it, and the breaks of
-- the body have been taken out.
pub record Past (before after behind : Standing) (outside : Way) : Type 0 where
  pub types : behind.types ≡ after.types
  pub entry : behind.entry ≡ after.entry
  pub said : behind.said ≡ after.said
  pub fresh : behind.fresh ≡ after.fresh
  pub way : behind.way ≡ outside
  pub trail : behind.trail ≡ before.trail
  pub breaks : behind.breaks ≡ before.breaks
  pub returns : behind.returns ≡ after.returns

module _ (in_loop in_method changed : List Changed) (at : Pos) (invariants : List Clause) (measures : List Measure) (before : List Measured) (outside : Way) where
  -- from before the body to behind the loop
  pub body_passes : (a b c d : Standing) (flow : Flow) (inner on l : Bool) (path : Option Term)
      → outside.env ≡ a.way.env
      → Passes changed in_method a flow b inner l
      → Past a (also (turned_if inner (assert_turn at invariants measures before) b.way) b) c outside
      → path ≡ any_path (paths_of (outside ∷ flow.breaks))
      → Joins c (join path c.way.env changed (outside ∷ flow.breaks) c.fresh) d on
      → Passes in_loop in_method a (behind_loop at invariants measures before changed outside flow) d on true
  body_passes a b c d flow inner on l path same p past is q =
      let ways = outside ∷ flow.breaks in
      let joined : join path c.way.env changed (outside ∷ flow.breaks) c.fresh ≡ join (any_path (paths_of (outside ∷ flow.breaks))) outside.env changed (outside ∷ flow.breaks) flow.fresh =
      ap (λ (x : Option Term). join x c.way.env changed (outside ∷ flow.breaks) c.fresh) is
      ∙ ap (λ (way : Way). join (any_path (paths_of (outside ∷ flow.breaks))) way.env changed (outside ∷ flow.breaks) c.fresh) past.way
      ∙ ap (λ (n : ℕ). join (any_path (paths_of (outside ∷ flow.breaks))) outside.env changed (outside ∷ flow.breaks) n) (past.fresh ∙ p.fresh) in
      let all = join (any_path (paths_of (outside ∷ flow.breaks))) outside.env changed (outside ∷ flow.breaks) flow.fresh in
      let q : Joins c (join (any_path (paths_of (outside ∷ flow.breaks))) outside.env changed (outside ∷ flow.breaks) flow.fresh) d on = subst (λ (j : Joined). Joins c j d on) joined q in
      let turn = option_map_or (assert_turn at invariants measures before) flow.way [] in
      let turned : turned_if inner (assert_turn at invariants measures before) b.way ≡ turn = sym (turned_same inner (assert_turn at invariants measures before) b.way flow.way p.way) in
      let told : c.said ≡ b.said ++ turn = past.said ∙ ap (λ (said : List Said). b.said ++ said) turned in
      record {
        types = q.types ∙ past.types ∙ p.types;
        entry = q.entry ∙ past.entry ∙ p.entry;
        said = ends_join a.said b.said d.said flow.said (turn ++ all.said) p.said (ends_join b.said c.said d.said turn all.said told q.said);
        fresh = q.fresh;
        way = q.way;
        loses = refl;
        kept = q.kept;
        trail = q.trail ∙ ap (λ (xs : List Kept). xs ++ q.kept) past.trail;
        back = q.back ∙ ap (λ (way : Way). way.env) past.way ∙ same;
        breaks = q.breaks ∙ append-nil c.breaks ∙ past.breaks ∙ sym (append-nil a.breaks);
        returns = q.returns ∙ append-nil c.returns ∙ past.returns ∙ p.returns;
        sorted_breaks = tt;
        sorted_returns = p.sorted_returns;
      }

-- what has been put behind a list of the code
pub longer : {A B : Type 0} (f g : A → B) (xs ys : List A) (more : List B) → map g ys ≡ map f xs ++ more → length xs ≤ length ys
longer {B = B} f g xs ys more e = omega (arith, ap (λ (zs : List B). length zs) e, length-append (map f xs) more, length-map xs f, length-map ys g)

module _ (in_method changed : List Changed) (a b c : Standing) (flow : Flow) (on l : Bool) (p : Passes changed in_method a flow b on l) (said : List Said) (e : c ≡ also said b) where
  -- the ways that left the body
  pub breaks_arrive : (first : ℕ) → first ≡ length a.breaks → Arrive changed (drop first c.breaks) flow.breaks
  breaks_arrive first f = record { are = ap (λ (s : Standing). drop first s.breaks) e ∙ dropped first a.breaks b.breaks (map (arrival changed) flow.breaks) f p.breaks; sorted = p.sorted_breaks }

  -- behind the loop, on the way past it
  behind_is : (mark first : ℕ) (past : Term) (outside : Way) → mark ≡ length a.trail → first ≡ length a.breaks → outside.env ≡ a.way.env → outside.path ≡ Some past → Past a (also said b) (past_loop mark first past c) outside
  behind_is mark first past outside m f env path =
      let cut : back (drop mark c.trail) c.way.env ≡ outside.env =
      ap (λ (s : Standing). back (drop mark s.trail) s.way.env) e ∙ ap (λ (ks : List Kept). back ks b.way.env) (dropped mark a.trail b.trail p.kept m p.trail) ∙ p.back ∙ sym env in
      record {
        types = ap (λ (s : Standing). s.types) e;
        entry = ap (λ (s : Standing). s.entry) e;
        said = ap (λ (s : Standing). s.said) e;
        fresh = ap (λ (s : Standing). s.fresh) e;
        way = λ i. record { env = cut i; path = sym path i };
        trail = ap (λ (s : Standing). take mark s.trail) e ∙ taken mark a.trail b.trail p.kept m p.trail;
        breaks = ap (λ (s : Standing). take first s.breaks) e ∙ taken first a.breaks b.breaks (map (arrival changed) flow.breaks) f p.breaks;
        returns = ap (λ (s : Standing). s.returns) e;
      }

-- A loop: what is said before its body, the body, and what leads on behind it.
pub loop_passes : (in_loop in_method : List Changed) (set : List Measured → Setting) (at : Pos) (guard : Expr) (invariants : List Clause) (decreases : Option (List Measure)) (body : Stmts) (s a b c d : Standing) (inner on l : Bool)
    (mark first : ℕ) (past : Term) → Moves s (loop_head (changed_outside body) guard invariants (loop_measure guard decreases) s.way s.fresh) a → past ≡ loop_past (changed_outside body) guard s.way s.fresh
    → Passes (changed_outside body) in_method a (pass_all (set a.entry) a.way body a.fresh) b inner l
    → c ≡ also (turned_if inner (assert_turn at invariants (loop_measure guard decreases) (measured a.way.env (loop_measure guard decreases))) b.way) b → mark ≡ length a.trail → first ≡ length a.breaks
    → ((ways : List Way) → Arrive (changed_outside body) (drop first c.breaks) ways → Joins (past_loop mark first past c) (join_past (changed_outside body) (past_loop mark first past c) ways) d on)
    → Passes in_loop in_method s (pass_stmt (set s.entry) s.way (While at guard invariants decreases body) s.fresh) d on true
loop_passes in_loop in_method set at guard invariants decreases body s a b c d inner on l mark first past m past_is p turned marks firsts joins =
    let changed = changed_outside body in
    let measures = loop_measure guard decreases in
    let head = loop_head changed guard invariants measures s.way s.fresh in
    let any = havoc changed s.fresh s.way in
    let outside = narrowed any.way (negation (term_of any.way.env guard)) in
    let way : a.way ≡ head.way = sym (same_Some head.way a.way m.way) in
    let flow = pass_all (set s.entry) head.way body head.fresh in
    let p : Passes changed in_method a flow b inner l = subst (λ (f : Flow). Passes changed in_method a f b inner l) (λ i. pass_all (set (m.entry i)) (way i) body (m.fresh i)) p in
    let before = measured head.way.env measures in
    let said = turned_if inner (assert_turn at invariants measures before) b.way in
    let turned : c ≡ also said b = turned ∙ (λ i. also (turned_if inner (assert_turn at invariants measures (measured (way i).env measures)) b.way) b) in
    let q = past_loop mark first past c in
    let behind = behind_is in_method changed a b c flow inner l p said turned mark first past outside marks firsts (ap (λ (w : Way). w.env) (sym way)) (ap Some (sym past_is)) in
    let joined = joins flow.breaks (breaks_arrive in_method changed a b c flow inner l p said turned first firsts) in
    passes_behind in_loop in_method s a d head _ on true m
    (body_passes in_loop in_method changed at invariants measures before outside a b q d flow inner on l (any_path (paths_of (outside ∷ flow.breaks))) (ap (λ (w : Way). w.env) (sym way)) p behind refl
    (subst (λ (w : Way). Joins q (join (any_path (paths_of (w ∷ flow.breaks))) q.way.env changed (w ∷ flow.breaks) q.fresh) d on) behind.way joined))

module _ (program : Program) (types : List Ty) (at : Pos) (guard : Expr) (invariants : List Clause) (decreases : Option (List Measure)) (body : Stmts) (typed : is_over program types (While at guard invariants decreases body) ≡ true) where
  abbrev head : Bool
  head = are_at types (changed_outside body) && is_expr program types tys.Bool guard && are_clauses program types invariants && are_measures program types decreases

  pub body_over : are_over program types body ≡ true
  body_over = (and_parts head (are_over program types body) typed).1

  pub changed_at : are_at types (changed_outside body) ≡ true
  changed_at =
      let a = are_at types (changed_outside body) in
      let g = is_expr program types tys.Bool guard in
      let i = are_clauses program types invariants in
      (and_parts a g (and_parts (a && g) i (and_parts (a && g && i) (are_measures program types decreases) (and_parts head (are_over program types body) typed).0).0).0).0
