-- Where ways come together, one of them is the one that runs come by.
use Rattle.df_npass.proofs.Words.{all_back, all_front, all_joined, meaning, ◌≡◌, ◌⊎◌, inl, inr, ℕ, suc, ◌≤◌, ◌==◌, Bool, true, false, List, [], ◌∷◌, ◌++◌, slice_get, Option, None, Some, refl, sym, ap, ◌∙◌, subst, eqb-true, eq-eqb, cond-false, cond_both, or_right, option_map_or, Ty, same_type, Assigned, has_value, Value, same_truth, same_value, Handed, State, Outcome, Changed, is_changed, both, choice, are_there, Term, terms_of, same_term, Interpretation, truth, Environment, equal_in, IsSorted, SameBelow, value_same, term_is, same_int, equal_told, Said, Way, is_unset, assume, assume_there, with_term, free_of, Moved, assume_joined, are_same, join_locals, either_path, paths_of, any_path, over, changed_alone, join, join_branches, same_Some, true_is_not_false}
use Rattle.std.proofs.lemmas.Bool.Decides.{Decides-int_eq}
use Rattle.df_lang.specs.declared.ty.Ty.TheVariants as types
use Rattle.df_meaning.specs.Value as values
use Rattle.df_npass.proofs.Lemmas.{AllTrue, path_true, off_path, on_it, Mode, Following, Taking, Moves, moves_here, moves_taking, same_itself, same_then, all_same, Play, play_taking, play_behind, AreKnown, known_append, known_then_follow, by_bool, PathBelow, EnvBelow, AllBelow, AllLead, all_lead_grow, free_below, suc_more, any_true, disjunction_truth, JoinGoing, Leads, AllStay, join_locals_stay, alone_stays, by_locals, kept, renewed, SortedAll, Sits, AllOff, OneSits, off_moves, path_same, sorted_moves, sits_moves, free_set}
use Rattle.df_npass.proofs.Taking.{taking, free_takes, others_stay, on_any_path, free_sorted}
use Rattle.df_npass.proofs.Turns.{at_itself, one_of, type_there}

-- ---- the one way

abbrev pub IsSole : Interpretation → Way → List Way → Type 0
IsSole i w [] = ⊥
IsSole i w (x ∷ xs) = ((x ≡ w) × (path_true i w.path ≡ true) × AllOff i xs) ⊎ ((path_true i x.path ≡ false) × IsSole i w xs)

pub record Sole (mode : Mode) (i : Interpretation) (all : List Ty) (ways : List Way) (before : Assigned) (s : State) : Type 0 where
  pub way : Way
  pub is : IsSole i way ways
  pub sits : Sits mode i all way before s

pub sole_of : (mode : Mode) (i : Interpretation) (all : List Ty) (ways : List Way) (before : Assigned) (s : State) → OneSits mode i all ways before s → Sole mode i all ways before s
sole_of mode i all [] before s h = absurd h
sole_of mode i all (way ∷ ways) before s h = elim h [
  | inl x ↦ record { way = way; is = inl (refl, x.0.there, x.1); sits = x.0 }
  | inr x ↦ (let more = sole_of mode i all ways before s x.1 in record { way = more.way; is = inr (x.0, more.is); sits = more.sits })
]

there_off : (i : Interpretation) (ty : Ty) (a b : Term) (path : Option Term) → path_true i path ≡ false → AllTrue i (assume_there ty a path b)
there_off i ty a b path e = choice (AllTrue i) (is_unset b) [] (assume path (equal_in ty a b)) tt (off_path i path (equal_in ty a b) e, tt)

pub joined_off : (i : Interpretation) (ty : Ty) (k : ℕ) (a : Term) (ways : List Way) → AllOff i ways → AllTrue i (assume_joined ty k a ways)
joined_off i ty k a [] off = tt
joined_off i ty k a (x ∷ xs) off =
    all_joined _ (assume_there ty a x.path (x.env k)) (assume_joined ty k a xs) (there_off i ty a (x.env k) x.path off.0) (joined_off i ty k a xs off.1)

module _ (i : Interpretation) where
  pub any_path_true : (paths : Option (List Term)) → path_true i (any_path paths) ≡ any_true i paths
  any_path_true None = refl
  any_path_true (Some paths) = disjunction_truth i (terms_of paths)

  this_path : (path : Option Term) (paths : Option (List Term)) → path_true i path ≡ true → any_true i (either_path path paths) ≡ true
  this_path None paths e = refl
  this_path (Some path) None e = refl
  this_path (Some path) (Some paths) e = rw (e) refl

  later_path : (path : Option Term) (paths : Option (List Term)) → any_true i paths ≡ true → any_true i (either_path path paths) ≡ true
  later_path None paths e = refl
  later_path (Some path) None e = refl
  later_path (Some path) (Some paths) e = or_right (truth i path) (any_true i (Some paths)) e

module _ (i : Interpretation) (w : Way) where
  same_there : (a : Term) (k : ℕ) (ways : List Way) → IsSole i w ways → are_same a ways k ≡ true → a ≡ w.env k
  same_there a k [] h e = absurd h
  same_there a k (x ∷ xs) h e =
      let e = both (same_term a (x.env k)) (are_same a xs k) e in
      elim h [ inl s ↦ term_is a (w.env k) (subst (λ (y : Way). same_term a (y.env k) ≡ true) s.0 e.0) | inr s ↦ same_there a k xs s.1 e.1 ]

  there_told : (ty : Ty) (a b : Term) (path : Option Term) → is_unset b ≡ false → path_true i path ≡ true → AllTrue i (assume_there ty a path b) → truth i (equal_in ty a b) ≡ true
  there_told ty a b path e there all = sym (on_it i path (equal_in ty a b) there) ∙ (subst (AllTrue i) (cond-false {A = List Said} (is_unset b) [] (assume path (equal_in ty a b)) e) all).0

  joined_said : (ty : Ty) (k : ℕ) (a : Term) (ways : List Way) → IsSole i w ways → truth i (equal_in ty a (w.env k)) ≡ true → AllTrue i (assume_joined ty k a ways)
  joined_said ty k a [] h e = absurd h
  joined_said ty k a (x ∷ xs) h e =
      let here = assume_there ty a x.path (x.env k) in
      elim h [
        | inl s ↦ all_joined _ here (assume_joined ty k a xs) (choice (AllTrue i) (is_unset (x.env k)) [] (assume x.path (equal_in ty a (x.env k))) tt (on_any_path i x.path (equal_in ty a (x.env k)) (subst (λ (y : Way). truth i (equal_in ty a (y.env k)) ≡ true) (sym s.0) e), tt)) (joined_off i ty k a xs s.2)
        | inr s ↦ all_joined _ here (assume_joined ty k a xs) (there_off i ty a (x.env k) x.path s.0) (joined_said ty k a xs s.1 e)
      ]

  joined_told : (ty : Ty) (k : ℕ) (a : Term) (ways : List Way) → IsSole i w ways → is_unset (w.env k) ≡ false → AllTrue i (assume_joined ty k a ways) → truth i (equal_in ty a (w.env k)) ≡ true
  joined_told ty k a [] h known all = absurd h
  joined_told ty k a (x ∷ xs) h known all =
      let here = assume_there ty a x.path (x.env k) in
      elim h [
        | inl s ↦ there_told ty a (w.env k) w.path known s.1 (subst (λ (y : Way). AllTrue i (assume_there ty a y.path (y.env k))) s.0 (all_front _ here (assume_joined ty k a xs) all))
        | inr s ↦ joined_told ty k a xs s.1 known (all_back _ here (assume_joined ty k a xs) all)
      ]

  pub sole_stays : (k : ℕ) (env : Environment) (ways : List Way) → IsSole i w ways → AllStay k env ways → w.env k ≡ env k
  sole_stays k env [] h all = absurd h
  sole_stays k env (x ∷ xs) h all = elim h [ inl s ↦ subst (λ (y : Way). y.env k ≡ env k) s.0 all.0 | inr s ↦ sole_stays k env xs s.1 all.1 ]

  pub sole_any : (ways : List Way) → IsSole i w ways → any_true i (paths_of ways) ≡ true
  sole_any [] h = absurd h
  sole_any (x ∷ xs) h = elim h [
    | inl s ↦ this_path i x.path (paths_of xs) (subst (λ (y : Way). path_true i y.path ≡ true) (sym s.0) s.1)
    | inr s ↦ later_path i x.path (paths_of xs) (sole_any xs s.1)
  ]

  sole_leads : (n : ℕ) (path : Option Term) (ways : List Way) → AllLead n path ways → IsSole i w ways → Leads n path w
  sole_leads n path [] lead h = absurd h
  sole_leads n path (x ∷ xs) lead h = elim h [ inl s ↦ subst (Leads n path) s.0 lead.0 | inr s ↦ sole_leads n path xs lead.1 s.1 ]

  sole_moves : (j : Interpretation) (n : ℕ) (path : Option Term) (ways : List Way) → AllLead n path ways → SameBelow n i j → IsSole i w ways → IsSole j w ways
  sole_moves j n path [] lead same h = absurd h
  sole_moves j n path (x ∷ xs) lead same h = elim h [
    | inl s ↦ inl (s.0, sym (path_same n i j same w.path (subst (λ (y : Way). PathBelow n y.path) s.0 lead.0.path_is)) ∙ s.1, off_moves i j n path xs lead.1 same s.2)
    | inr s ↦ inr (sym (path_same n i j same x.path lead.0.path_is) ∙ s.0, sole_moves j n path xs lead.1 same s.1)
  ]

-- ---- equal values

truths_equal : (a b : Bool) → same_truth a b ≡ true → a ≡ b
truths_equal true true e = refl
truths_equal false false e = refl
truths_equal a b e = cc

pub truth_itself : (a : Bool) → same_truth a a ≡ true
truth_itself true = refl
truth_itself false = refl

pub value_itself : (ty : Ty) (v : Value) → IsSorted ty v → same_value v v ≡ true
value_itself ty (values.Truth b) h = truth_itself b
value_itself ty (values.Character c) h = eq-eqb c c refl
value_itself ty (values.Number n) h = (Decides-int_eq n n).1 refl
value_itself types.Bool v h = cc
value_itself types.Char v h = cc
value_itself ty v h = cc

pub values_equal : (v w : Value) → same_value v w ≡ true → v ≡ w
values_equal (values.Truth a) (values.Truth b) e = ap values.Truth (truths_equal a b e)
values_equal (values.Character c) (values.Character d) e = ap values.Character (eqb-true c d e)
values_equal (values.Number n) (values.Number m) e = ap values.Number (same_int n m e)
values_equal v w e = cc

-- ---- the locals of a join

known_joined : (ty : Ty) (k : ℕ) (a : Term) (ways : List Way) → AreKnown (assume_joined ty k a ways)
known_joined ty k a [] = tt
known_joined ty k a (x ∷ xs) =
    known_append (assume_there ty a x.path (x.env k)) (assume_joined ty k a xs) (choice AreKnown (is_unset (x.env k)) [] (assume x.path (equal_in ty a (x.env k))) tt tt) (known_joined ty k a xs)

module _ (ways : List Way) (path : Option Term) where
  join_known : (changed : List Changed) (fresh : ℕ) (env : Environment) → AreKnown (join_locals changed ways fresh env path).said
  join_known = by_locals ways path (λ changed fresh env moved. AreKnown moved.said) (λ fresh env. tt) (λ c others fresh env same h. h)
      (λ c others fresh env h. known_append (assume_joined c.ty c.local (free_of fresh c.ty) ways) (renewed ways path c others fresh env).said (known_joined c.ty c.local (free_of fresh c.ty) ways) h)

  pub join_path : (changed : List Changed) (fresh : ℕ) (env : Environment) → (join_locals changed ways fresh env path).way.path ≡ path
  join_path = by_locals ways path (λ changed fresh env moved. moved.way.path ≡ path) (λ fresh env. refl) (λ c others fresh env same h. h) (λ c others fresh env h. h)

  module _ (all : List Ty) (w : Way) where
    -- the term of a local that no other one names: the one that all ways have, or a free one
    kept_term : (i : Interpretation) (c : Changed) (others : List Changed) (fresh : ℕ) (env : Environment) (k : ℕ) → IsSole i w ways → are_same (env c.local) ways c.local ≡ true → is_changed (c ∷ others) k ≡ true → is_changed others k ≡ false
        → (kept ways path others fresh env).way.env k ≡ w.env k
    kept_term i c others fresh env k sole same e r =
        join_locals_stay others ways fresh env path k r ∙ subst (λ (n : ℕ). env n ≡ w.env n) (one_of c others k e r) (same_there i w (env c.local) c.local ways sole same)

    free_term : (c : Changed) (others : List Changed) (fresh : ℕ) (env : Environment) (k : ℕ) → is_changed (c ∷ others) k ≡ true → is_changed others k ≡ false → (renewed ways path c others fresh env).way.env k ≡ free_of fresh c.ty
    free_term c others fresh env k e r =
        join_locals_stay others ways (suc fresh) (with_term env c.local (free_of fresh c.ty)) path k r
        ∙ subst (λ (n : ℕ). with_term env c.local (free_of fresh c.ty) n ≡ free_of fresh c.ty) (one_of c others k e r) (at_itself env c.local (free_of fresh c.ty))

    -- the changed locals have the values that they have on the one way, where they have one there
    abbrev Agree : Interpretation → List Changed → Environment → Type 0
    Agree i changed env = (k : ℕ) → is_changed changed k ≡ true → is_unset (w.env k) ≡ false → meaning i (env k) ≡ meaning i (w.env k)

    agree_kept : (i : Interpretation) (c : Changed) (others : List Changed) (fresh : ℕ) (env : Environment) → IsSole i w ways → are_same (env c.local) ways c.local ≡ true
        → Agree i others (kept ways path others fresh env).way.env → Agree i (c ∷ others) (kept ways path others fresh env).way.env
    agree_kept i c others fresh env sole same h k e known = by_bool (is_changed others k) (λ r. h k r known) (λ r. ap (meaning i) (kept_term i c others fresh env k sole same e r))

    agree_anew : (i : Interpretation) (c : Changed) (others : List Changed) (fresh : ℕ) (env : Environment) → (is_unset (w.env c.local) ≡ false → meaning i (free_of fresh c.ty) ≡ meaning i (w.env c.local))
        → Agree i others (renewed ways path c others fresh env).way.env → Agree i (c ∷ others) (renewed ways path c others fresh env).way.env
    agree_anew i c others fresh env same h k e known = by_bool (is_changed others k) (λ r. h k r known) (λ r.
        let is = one_of c others k e r in
        ap (meaning i) (free_term c others fresh env k e r)
        ∙ subst (λ (n : ℕ). meaning i (free_of fresh c.ty) ≡ meaning i (w.env n)) is (same (subst (λ (n : ℕ). is_unset (w.env n) ≡ false) (sym is) known)))

    join_set : (i : Interpretation) → IsSole i w ways → (k : ℕ) → is_unset (w.env k) ≡ false → (changed : List Changed) (fresh : ℕ) (env : Environment) → is_changed changed k ≡ true → is_unset ((join_locals changed ways fresh env path).way.env k) ≡ false
    join_set i sole k known = by_locals ways path (λ changed fresh env moved. is_changed changed k ≡ true → is_unset (moved.way.env k) ≡ false) (λ fresh env e. cc)
        (λ c others fresh env same h e. by_bool (is_changed others k) h (λ r. subst (λ (x : Term). is_unset x ≡ false) (sym (kept_term i c others fresh env k sole same e r)) known))
        (λ c others fresh env h e. by_bool (is_changed others k) h (λ r. subst (λ (x : Term). is_unset x ≡ false) (sym (free_term c others fresh env k e r)) (free_set c.ty fresh)))

    join_sorted : (i : Interpretation) (changed : List Changed) (fresh : ℕ) (env : Environment) → SortedAll i all env → are_there all changed ≡ true → SortedAll i all (join_locals changed ways fresh env path).way.env
    join_sorted i = by_locals ways path (λ changed fresh env moved. SortedAll i all env → are_there all changed ≡ true → SortedAll i all moved.way.env) (λ fresh env sorted there. sorted)
        (λ c others fresh env same h sorted there. h sorted (both (option_map_or (same_type c.ty) (slice_get all c.local) false) (are_there all others) there).1)
        (λ c others fresh env h sorted there.
        let there = both (option_map_or (same_type c.ty) (slice_get all c.local) false) (are_there all others) there in
        h (λ k ty e. cond_both (k == c.local) (free_of fresh c.ty) (env k) (λ (x : Term). IsSorted ty (meaning i x))
        (λ here. subst (λ (u : Ty). IsSorted u (meaning i (free_of fresh c.ty))) (same_Some c.ty ty (sym (type_there all c there.0) ∙ subst (λ (x : ℕ). slice_get all x ≡ Some ty) (eqb-true k c.local here) e)) (free_sorted i fresh c.ty))
        (λ other. sorted k ty e)) there.1)

    -- what is said makes it so
    join_told : (i : Interpretation) → IsSole i w ways → SortedAll i all w.env → (changed : List Changed) (fresh : ℕ) (env : Environment) → are_there all changed ≡ true → AllTrue i (join_locals changed ways fresh env path).said
        → Agree i changed (join_locals changed ways fresh env path).way.env
    join_told i sole sorted = by_locals ways path (λ changed fresh env moved. are_there all changed ≡ true → AllTrue i moved.said → Agree i changed moved.way.env) (λ fresh env there said k e known. cc)
        (λ c others fresh env same h there said. agree_kept i c others fresh env sole same (h (both (option_map_or (same_type c.ty) (slice_get all c.local) false) (are_there all others) there).1 said))
        (λ c others fresh env h there said.
        let there = both (option_map_or (same_type c.ty) (slice_get all c.local) false) (are_there all others) there in
        let free = free_of fresh c.ty in
        let joined = assume_joined c.ty c.local free ways in
        let next = (renewed ways path c others fresh env).said in
        let same = (λ (known : is_unset (w.env c.local) ≡ false). values_equal (meaning i free) (meaning i (w.env c.local))
        (equal_told i c.ty free (w.env c.local) (free_sorted i fresh c.ty) (sorted c.local c.ty (type_there all c there.0)) ∙ joined_told i w c.ty c.local free ways sole known (all_front _ joined next said))) in
        agree_anew i c others fresh env same (h there.1 (all_back _ joined next said)))

    -- the interpretation takes the values of the one way
    record TookJoin (i : Interpretation) (fresh : ℕ) (changed : List Changed) (moved : Moved) : Type 0 where
      to : Interpretation
      same : SameBelow fresh i to
      said : AllTrue to moved.said
      agree : Agree to changed moved.way.env

    take_join : (before : Option Term) → (changed : List Changed) (fresh : ℕ) (env : Environment) (i : Interpretation) → IsSole i w ways → AllLead fresh before ways → SortedAll i all w.env → are_there all changed ≡ true
        → TookJoin i fresh changed (join_locals changed ways fresh env path)
    take_join before = by_locals ways path (λ changed fresh env moved. (i : Interpretation) → IsSole i w ways → AllLead fresh before ways → SortedAll i all w.env → are_there all changed ≡ true → TookJoin i fresh changed moved)
        (λ fresh env i sole lead sorted there. record { to = i; same = same_itself fresh i; said = tt; agree = λ k e known. cc })
        (λ c others fresh env same h i sole lead sorted there.
        let took = h i sole lead sorted (both (option_map_or (same_type c.ty) (slice_get all c.local) false) (are_there all others) there).1 in
        record { to = took.to; same = took.same; said = took.said; agree = agree_kept took.to c others fresh env (sole_moves i w took.to fresh before ways lead took.same sole) same took.agree })
        (λ c others fresh env h i sole lead sorted there.
        let there = both (option_map_or (same_type c.ty) (slice_get all c.local) false) (are_there all others) there in
        let v = meaning i (w.env c.local) in
        let is = sorted c.local c.ty (type_there all c there.0) in
        let j = taking i fresh c.ty v is in
        let free = free_of fresh c.ty in
        let others_same = others_stay i fresh c.ty v is in
        let env_is = (sole_leads i w fresh before ways lead sole).env in
        let took = h j (sole_moves i w j fresh before ways lead others_same sole) (all_lead_grow fresh (suc fresh) before ways (suc_more fresh) lead) (sorted_moves fresh i j others_same all w.env env_is sorted) there.1 in
        let same = same_then fresh (suc fresh) i j took.to (suc_more fresh) others_same took.same in
        let here : meaning took.to free ≡ v = sym (value_same (suc fresh) j took.to took.same free (free_below fresh c.ty)) ∙ free_takes i fresh c.ty v is in
        let there : meaning took.to (w.env c.local) ≡ v = sym (value_same fresh i took.to same (w.env c.local) (env_is c.local)) in
        let equal : same_value (meaning took.to free) (meaning took.to (w.env c.local)) ≡ true = subst (λ x. same_value x (meaning took.to (w.env c.local)) ≡ true) (sym here) (subst (λ x. same_value v x ≡ true) (sym there) (value_itself c.ty v is)) in
        let sorted_there : IsSorted c.ty (meaning took.to (w.env c.local)) = subst (λ x. IsSorted c.ty x) (sym there) is in
        record {
          to = took.to;
          same = same;
          said = all_joined _ (assume_joined c.ty c.local free ways) (renewed ways path c others fresh env).said
              (joined_said took.to w c.ty c.local free ways (sole_moves i w took.to fresh before ways lead same sole) (sym (equal_told took.to c.ty free (w.env c.local) (free_sorted took.to fresh c.ty) sorted_there) ∙ equal)) took.said;
          agree = agree_anew took.to c others fresh env (λ known. here ∙ sym there) took.agree;
        })

-- ---- joins

abbrev pub Many : List Way → Type 0
Many [] = ⊥
Many (way ∷ []) = ⊥
Many (way ∷ other ∷ others) = Unit {0}

-- a changed local has the term that it has now
alone_changes : (changed : List Changed) (env now : Environment) (n : ℕ) → is_changed changed n ≡ true → changed_alone changed env now n ≡ now n
alone_changes [] env now n e = cc
alone_changes (c ∷ others) env now n e = cond_both (n == c.local) (now c.local) (changed_alone others env now n) (λ (x : Term). x ≡ now n) (λ is. ap now (sym (eqb-true n c.local is)))
    (λ is. by_bool (is_changed others n) (alone_changes others env now n) (λ r. absurd (true_is_not_false (n == c.local) (eq-eqb n c.local (sym (one_of c others n e r))) is)))

module _ (B : Type 0) (n : ℕ) (all : List Ty) (path before_path : Option Term) (env : Environment) (changed : List Changed) (before : Assigned) (s : State) where
  -- behind the join runs come to the one way that it gives
  joined_sits : (a b : Mode) (i j : Interpretation) (ways : List Way) (sole : Sole a i all ways before s) → AllLead n before_path ways → Moves a i n b j → SortedAll i all env → EnvBelow n env → path_true i path ≡ true → PathBelow n path → are_there all changed ≡ true
      → ((k : ℕ) → has_value before k ≡ true → is_changed changed k ≡ false → AllStay k env ways)
      → Agree ways path all sole.way j changed (join_locals changed ways n env path).way.env
      → Sits b j all (join_locals changed ways n env path).way before s
  joined_sits a b i j ways sole lead moves sorted env_is here path_is there cover agree =
      let w = sole.way in
      let joined = (join_locals changed ways n env path).way.env in
      let lead_is = sole_leads i w n before_path ways lead sole.is in
      let sits = sits_moves a b i j n all w before s moves lead_is.env lead_is.path_is sole.sits in
      record {
        there = ap (path_true j) (join_path ways path changed n env) ∙ (sym (path_same n i j moves.same path path_is) ∙ here);
        sorted = join_sorted ways path all w j changed n env (sorted_moves n i j moves.same all env env_is sorted) there;
        holds = (
          sits.holds.0,
          λ k v has e. by_bool (is_changed changed k) (λ c. agree k c (sits.set k has) ∙ sits.holds.1 k v has e) (λ c.
              ap (meaning j) (join_locals_stay changed ways n env path k c ∙ sym (sole_stays i w k env ways sole.is (cover k has c))) ∙ sits.holds.1 k v has e),
        );
        set = λ k has. by_bool (is_changed changed k) (λ c. join_set ways path all w i sole.is k (sits.set k has) changed n env c) (λ c.
            subst (λ x. is_unset x ≡ false) (sym (join_locals_stay changed ways n env path k c ∙ sym (sole_stays i w k env ways sole.is (cover k has c)))) (sits.set k has));
        present = sits.present;
      }

  module _ (mode : Mode) (i : Interpretation) (more : List Said) (run : List Handed → Outcome B) (sorted : SortedAll i all env) (env_is : EnvBelow n env) (there : are_there all changed ≡ true) where
    many_then : (mode_is : Mode) → mode ≡ mode_is → (ways : List Way) → OneSits mode i all ways before s → AllLead n before_path ways → path_true i path ≡ true → PathBelow n path
        → ((k : ℕ) → has_value before k ≡ true → is_changed changed k ≡ false → AllStay k env ways)
        → n ≤ (join_locals changed ways n env path).fresh → AllBelow (join_locals changed ways n env path).fresh (join_locals changed ways n env path).said
        → ((j : Interpretation) → Moves mode i n mode j → Sits mode j all (join_locals changed ways n env path).way before s → Play B mode j (join_locals changed ways n env path).fresh more run)
        → Play B mode i n ((join_locals changed ways n env path).said ++ more) run
    many_then (Following handed) is ways one lead here path_is cover grows below h =
        let sole = sole_of mode i all ways before s one in
        let go = (λ (said : AllTrue i (join_locals changed ways n env path).said). h i (moves_here mode i n) (joined_sits mode mode i i ways sole lead (moves_here mode i n) sorted env_is here path_is there cover
        (join_told ways path all sole.way i sole.is sole.sits.sorted changed n env there said))) in
        subst (λ k. Play B k i n ((join_locals changed ways n env path).said ++ more) run) (sym is)
        (known_then_follow B handed i n (join_locals changed ways n env path).said more run (join_known ways path changed n env) (λ said. subst (λ k. Play B k i (join_locals changed ways n env path).fresh more run) is (go said)))
    many_then (Taking handed) is ways one lead here path_is cover grows below h =
        let sole = sole_of mode i all ways before s one in
        let took = take_join ways path all sole.way before_path changed n env i sole.is lead sole.sits.sorted there in
        let moved = join_locals changed ways n env path in
        let moves = subst (λ k. Moves k i n k took.to) (sym is) (moves_taking handed handed i took.to n took.same) in
        let rest = h took.to moves (joined_sits mode mode i took.to ways sole lead moves sorted env_is here path_is there cover took.agree) in
        subst (λ k. Play B k i n (moved.said ++ more) run) (sym is)
        (play_taking B handed i took.to n moved.fresh (moved.said ++ more) run grows took.same
        (play_behind B (Taking handed) took.to moved.fresh moved.said more run (λ j agrees. all_same moved.fresh took.to j agrees moved.said below took.said)
        (subst (λ k. Play B k took.to moved.fresh more run) is rest)))

    -- one way, of which the changed locals are kept
    alone_sits : (way : Way) → Sits mode i all way before s → ((k : ℕ) → has_value before k ≡ true → is_changed changed k ≡ false → way.env k ≡ env k) → Sits mode i all (over (changed_alone changed env way.env) way) before s
    alone_sits way sits cover = record {
      there = sits.there;
      sorted = λ k ty e. by_bool (is_changed changed k) (λ c. subst (λ x. IsSorted ty (meaning i x)) (sym (alone_changes changed env way.env k c)) (sits.sorted k ty e))
          (λ c. subst (λ x. IsSorted ty (meaning i x)) (sym (alone_stays changed env way.env k c)) (sorted k ty e));
      holds = (
        sits.holds.0,
        λ k v has e.
            by_bool (is_changed changed k) (λ c. ap (meaning i) (alone_changes changed env way.env k c) ∙ sits.holds.1 k v has e)
            (λ c. ap (meaning i) (alone_stays changed env way.env k c ∙ sym (cover k has c)) ∙ sits.holds.1 k v has e),
      );
      set = λ k has. by_bool (is_changed changed k) (λ c. subst (λ x. is_unset x ≡ false) (sym (alone_changes changed env way.env k c)) (sits.set k has))
          (λ c. subst (λ x. is_unset x ≡ false) (sym (alone_stays changed env way.env k c ∙ sym (cover k has c))) (sits.set k has));
      present = sits.present;
    }

    pub join_then : (ways : List Way) → OneSits mode i all ways before s → AllLead n before_path ways → (Many ways → (path_true i path ≡ true) × PathBelow n path)
        → ((k : ℕ) → has_value before k ≡ true → is_changed changed k ≡ false → AllStay k env ways)
        → JoinGoing n before_path (join path env changed ways n)
        → ((w : Way) (j : Interpretation) → (join path env changed ways n).way ≡ Some w → Moves mode i n mode j → Sits mode j all w before s → Play B mode j (join path env changed ways n).fresh more run)
        → Play B mode i n ((join path env changed ways n).said ++ more) run
    join_then [] one lead here cover going h = absurd one
    join_then (way ∷ []) one lead here cover going h = elim one [ inl x ↦ h (over (changed_alone changed env way.env) way) i refl (moves_here mode i n) (alone_sits way x.0 (λ k has c. (cover k has c).0)) | inr x ↦ absurd x.1 ]
    join_then (way ∷ other ∷ others) one lead here cover going h =
        many_then mode refl (way ∷ other ∷ others) one lead (here tt).0 (here tt).1 cover going.made.grows going.made.said.below (λ j moves sits. h _ j refl moves sits)

    pub branches_join_then : (ways : List Way) → OneSits mode i all ways before s → AllLead n before_path ways → (Many ways → (path_true i path ≡ true) × PathBelow n path)
        → (Many ways → (k : ℕ) → has_value before k ≡ true → is_changed changed k ≡ false → AllStay k env ways)
        → JoinGoing n before_path (join_branches path env changed ways n)
        → ((w : Way) (j : Interpretation) → (join_branches path env changed ways n).way ≡ Some w → Moves mode i n mode j → Sits mode j all w before s → Play B mode j (join_branches path env changed ways n).fresh more run)
        → Play B mode i n ((join_branches path env changed ways n).said ++ more) run
    branches_join_then [] one lead here cover going h = absurd one
    branches_join_then (way ∷ []) one lead here cover going h = elim one [ inl x ↦ h way i refl (moves_here mode i n) x.0 | inr x ↦ absurd x.1 ]
    branches_join_then (way ∷ other ∷ others) one lead here cover going h = join_then (way ∷ other ∷ others) one lead here (cover tt) going h
