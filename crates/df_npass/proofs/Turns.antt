-- The turn of a loop that is handed in, and what goes on from any values of the locals that the loop changes.
use Rattle.df_npass.proofs.Words.{all_back, all_front, all_joined, meaning, ◌≡◌, ℕ, suc, ◌==◌, Bool, true, false, if◌then◌else◌, List, [], ◌∷◌, slice_get, Option, None, Some, refl, sym, ap, ◌∙◌, subst, inl, inr, eqb-true, eq-eqb, or_cases, list_all, option_map_or, Ty, Program, same_type, is_type, is_well_typed, Value, has_type, Locals, Changed, may_have, is_changed, both, same_type_equal, are_there, Term, Interpretation, Environment, IsSorted, typed_sorted, SameBelow, value_same, Way, is_unset, over, with_term, assume_type, free_of, havoc, true_is_not_false, ◌≤◌, ◌++◌, is_some, Assigned, has_value, Outcome, Dismissed, after, Handed, HandedGiven, Turned, State, store_with, with_store, handed_turn, joined, assigned_has, Said, each_once, turn_in, cond-false, cond-true, true≢false, same_Some}
use Rattle.df_npass.proofs.Lemmas.{AllTrue, path_true, same_itself, same_then, AreKnown, known_append, by_bool, free_below, suc_more, havoc_stays, any_typed, all_may, free_set, Mode, Following, Taking, is_taking, handing, Moves, moves_here, moves_taking, all_same, Play, play_silent, play_handed, play_took, play_taking, play_behind, not_wrong, known_then_follow, PathBelow, EnvBelow, AllBelow, with_handed, Sits, once_less, assigned_make, path_same, turned_state, turned_is, turned_store, turned_local, list_once}
use Rattle.df_npass.proofs.Taking.{taking, takes_program, free_takes, others_stay, type_true, type_said, free_sorted, type_known}

-- the term of a local is the one that it was given last
pub at_itself : (env : Environment) (k : ℕ) (a : Term) → with_term env k a k ≡ a
at_itself env k a = ap (λ (b : Bool). if b then a else env k) (eq-eqb k k refl)

-- the local of a changed one
pub one_of : (c : Changed) (others : List Changed) (k : ℕ) → is_changed (c ∷ others) k ≡ true → is_changed others k ≡ false → c.local ≡ k
one_of c others k h e = elim (or_cases (c.local == k) (is_changed others k) h) [ inl a ↦ eqb-true c.local k a | inr b ↦ absurd (true_is_not_false (is_changed others k) b e) ]

-- its term is free
last_free : (c : Changed) (others : List Changed) (fresh : ℕ) (way : Way) (k : ℕ) → c.local ≡ k → is_changed others k ≡ false → (havoc (c ∷ others) fresh way).way.env k ≡ free_of fresh c.ty
last_free c others fresh way k same e =
    havoc_stays others (suc fresh) (over (with_term way.env c.local (free_of fresh c.ty)) way) k e ∙ subst (λ (n : ℕ). with_term way.env c.local (free_of fresh c.ty) n ≡ free_of fresh c.ty) same (at_itself way.env c.local (free_of fresh c.ty))

type_of_one : (all : List Ty) (c : Changed) (k : ℕ) (ty : Ty) → c.local ≡ k → option_map_or (same_type c.ty) (slice_get all c.local) false ≡ true → slice_get all k ≡ Some ty → c.ty ≡ ty
type_of_one all c k ty same h e =
    same_type_equal c.ty ty (subst (λ (o : Option Ty). option_map_or (same_type c.ty) o false ≡ true) (ap (slice_get all) same ∙ e) h)

pub havoc_set : (k : ℕ) (changed : List Changed) (fresh : ℕ) (way : Way) → is_changed changed k ≡ true → is_unset ((havoc changed fresh way).way.env k) ≡ false
havoc_set k [] fresh way h = cc
havoc_set k (c ∷ others) fresh way h =
    by_bool (is_changed others k) (λ e. havoc_set k others (suc fresh) (over (with_term way.env c.local (free_of fresh c.ty)) way) e) (λ e.
    subst (λ x. is_unset x ≡ false) (sym (last_free c others fresh way k (one_of c others k h e) e)) (free_set c.ty fresh))

module _ (i : Interpretation) (all : List Ty) (k : ℕ) (ty : Ty) (typed : slice_get all k ≡ Some ty) where
  pub havoc_sorted : (changed : List Changed) (fresh : ℕ) (way : Way) → are_there all changed ≡ true → is_changed changed k ≡ true → IsSorted ty (meaning i ((havoc changed fresh way).way.env k))
  havoc_sorted [] fresh way there h = cc
  havoc_sorted (c ∷ others) fresh way there h =
      let there = both (option_map_or (same_type c.ty) (slice_get all c.local) false) (are_there all others) there in
      by_bool (is_changed others k) (λ e. havoc_sorted others (suc fresh) (over (with_term way.env c.local (free_of fresh c.ty)) way) there.1 e) (λ e.
      let same = one_of c others k h e in
      rw (last_free c others fresh way k same e) (subst (λ t. IsSorted t (meaning i (free_of fresh c.ty))) (type_of_one all c k ty same there.0 typed) (free_sorted i fresh c.ty)))

  pub havoc_typed : (changed : List Changed) (fresh : ℕ) (way : Way) → are_there all changed ≡ true → path_true i way.path ≡ true → AllTrue i (havoc changed fresh way).said → is_changed changed k ≡ true
      → has_type i.program ty (meaning i ((havoc changed fresh way).way.env k)) ≡ true
  havoc_typed [] fresh way there path said h = cc
  havoc_typed (c ∷ others) fresh way there path said h =
      let there = both (option_map_or (same_type c.ty) (slice_get all c.local) false) (are_there all others) there in
      by_bool (is_changed others k) (λ e. havoc_typed others (suc fresh) (over (with_term way.env c.local (free_of fresh c.ty)) way) there.1 path (all_back _ (assume_type way.path c.ty (free_of fresh c.ty)) _ said) e) (λ e.
      let same = one_of c others k h e in
      rw (last_free c others fresh way k same e) (subst (λ t. has_type i.program t (meaning i (free_of fresh c.ty)) ≡ true) (type_of_one all c k ty same there.0 typed)
      (type_said i way.path c.ty (free_of fresh c.ty) path (free_sorted i fresh c.ty) (all_front _ (assume_type way.path c.ty (free_of fresh c.ty)) _ said))))

pub havoc_known : (changed : List Changed) (fresh : ℕ) (way : Way) → AreKnown (havoc changed fresh way).said
havoc_known [] fresh way = tt
havoc_known (c ∷ others) fresh way = known_append (assume_type way.path c.ty (free_of fresh c.ty)) _ (type_known way.path c.ty (free_of fresh c.ty)) (havoc_known others (suc fresh) (over (with_term way.env c.local (free_of fresh c.ty)) way))

-- ---- the interpretation takes what is handed in

pub record TookTurn (i : Interpretation) (changed : List Changed) (fresh : ℕ) (way : Way) (handed : Locals) : Type 0 where
  pub to : Interpretation
  pub same : SameBelow fresh i to
  pub all : AllTrue to (havoc changed fresh way).said
  pub are : (k : ℕ) (v : Value) → is_changed changed k ≡ true → handed k ≡ Some v → meaning to ((havoc changed fresh way).way.env k) ≡ v

-- a value for a local: the one that is handed in, or any
record Chosen (p : Program) (ty : Ty) (o : Option Value) : Type 0 where
  value : Value
  is : has_type p ty value ≡ true
  there : (v : Value) → o ≡ Some v → value ≡ v

chosen : (p : Program) (ty : Ty) (o : Option Value) → is_well_typed p ≡ true → is_type p ty ≡ true → may_have p ty o ≡ true → Chosen p ty o
chosen p ty None well is may = let any = any_typed p ty well is in record { value = any.value; is = any.is; there = λ v e. cc }
chosen p ty (Some v) well is may = record { value = v; is = may; there = λ w e. cc }

pub take_turn : (p : Program) (i : Interpretation) (changed : List Changed) (fresh : ℕ) (way : Way) (handed : Locals) → i.program ≡ p → is_well_typed p ≡ true → list_all (λ (c : Changed). is_type p c.ty) changed ≡ true → all_may p changed handed ≡ true
    → TookTurn i changed fresh way handed
take_turn p i [] fresh way handed program well are may = record { to = i; same = same_itself fresh i; all = tt; are = λ k v h e. cc }
take_turn p i (c ∷ others) fresh way handed program well are may =
    let are = both (is_type p c.ty) (list_all (λ (d : Changed). is_type p d.ty) others) are in
    let may = both (may_have p c.ty (handed c.local)) (all_may p others handed) may in
    let one = chosen p c.ty (handed c.local) well are.0 may.0 in
    let sorted = typed_sorted p c.ty one.value one.is in
    let j = taking i fresh c.ty one.value sorted in
    let next = over (with_term way.env c.local (free_of fresh c.ty)) way in
    let more = take_turn p j others (suc fresh) next handed (takes_program i fresh c.ty one.value sorted ∙ program) well are.1 may.1 in
    let is : meaning more.to (free_of fresh c.ty) ≡ one.value = sym (value_same (suc fresh) j more.to more.same (free_of fresh c.ty) (free_below fresh c.ty)) ∙ free_takes i fresh c.ty one.value sorted in
    let program_is : more.to.program ≡ p = sym more.same.program ∙ (takes_program i fresh c.ty one.value sorted ∙ program) in
    record {
      to = more.to;
      same = same_then fresh (suc fresh) i j more.to (suc_more fresh) (others_stay i fresh c.ty one.value sorted) more.same;
      all = all_joined _ (assume_type way.path c.ty (free_of fresh c.ty)) _ (type_true more.to way.path c.ty (free_of fresh c.ty) (rw (is, program_is) one.is)) more.all;
      are = λ k v h e. by_bool (is_changed others k) (λ r. more.are k v r e) (λ r.
          let same = one_of c others k h r in
          ap (meaning more.to) (last_free c others fresh way k same r) ∙ (is ∙ one.there v (ap handed same ∙ e)));
    }

pub havoc_path : (changed : List Changed) (fresh : ℕ) (way : Way) → (havoc changed fresh way).way.path ≡ way.path
havoc_path [] fresh way = refl
havoc_path (c ∷ others) fresh way = havoc_path others _ (over (with_term way.env c.local (free_of fresh c.ty)) way)

-- the type of a changed local
pub type_there : (all : List Ty) (c : Changed) → option_map_or (same_type c.ty) (slice_get all c.local) false ≡ true → slice_get all c.local ≡ Some c.ty
type_there all c h = by_type (slice_get all c.local) h
  where
    by_type : (o : Option Ty) → option_map_or (same_type c.ty) o false ≡ true → o ≡ Some c.ty
    by_type None e = cc
    by_type (Some ty) e = ap Some (sym (same_type_equal c.ty ty e))

module _ (B : Type 0) (p : Program) (all : List Ty) (n : ℕ) (way : Way) (s : State) (before : Assigned) (out : List ℕ) (every : List Changed) where
  abbrev changed : List Changed
  changed = each_once out every

  abbrev turning : Way
  turning = (havoc changed n way).way

  -- the state that is handed in
  abbrev pub state_of : Locals → List ℕ → State
  state_of locals text = with_store (turned_state every locals s) (store_with text [])

  given_turn : (locals : Locals) (text : List ℕ) (handed : List Handed) (go : State → Outcome B) → all_may p every locals ≡ true
      → after (handed_turn p every (with_handed s (Turned locals text ∷ handed)) (Turned locals text ∷ handed)) go ≡ go (with_handed (state_of locals text) handed)
  given_turn locals text handed go may =
      ap (λ o. after o go) (turned_is p every locals (with_store s (store_with text handed)) ∙ cond-true (all_may p every locals) _ _ may) ∙ ap go (turned_store every locals s (store_with text handed))

  no_turn : (locals : Locals) (text : List ℕ) (handed : List Handed) (go : State → Outcome B) → all_may p every locals ≡ false
      → after (handed_turn p every (with_handed s (Turned locals text ∷ handed)) (Turned locals text ∷ handed)) go ≡ Dismissed
  no_turn locals text handed go may = ap (λ o. after o go) (turned_is p every locals (with_store s (store_with text handed)) ∙ cond-false (all_may p every locals) _ _ may)

  module _ (env : EnvBelow n way.env) (path : PathBelow n way.path) (there : are_there all every ≡ true)
      (covers : (k : ℕ) → has_value before k ≡ true → is_changed every k ≡ true → is_changed changed k ≡ true) where
    turned_sits : (a b : Mode) (i j : Interpretation) → Moves a i n b j → Sits a i all way before s → (locals : Locals) (text : List ℕ)
        → ((k : ℕ) (v : Value) → is_changed changed k ≡ true → locals k ≡ Some v → meaning j (turning.env k) ≡ v)
        → (is_taking b ≡ false → (k : ℕ) → is_changed changed k ≡ true → is_some (locals k) ≡ true)
        → Sits b j all turning before (state_of locals text)
    turned_sits a b i j moves sits locals text are have =
        let once = list_once (λ (c : Changed). option_map_or (same_type c.ty) (slice_get all c.local) false) out every there in
        record {
          there = ap (path_true j) (havoc_path changed n way) ∙ (sym (path_same n i j moves.same way.path path) ∙ sits.there);
          sorted = λ k ty e. by_bool (is_changed changed k) (λ c. havoc_sorted j all k ty e changed n way once c) (λ c.
              subst (λ x. IsSorted ty (meaning j x)) (sym (havoc_stays changed n way k c)) (subst (λ v. IsSorted ty v) (value_same n i j moves.same (way.env k) (env k)) (sits.sorted k ty e)));
          holds = (
            sits.holds.0,
            λ k v has e.
                let e = sym (turned_local every locals s k) ∙ e in
                by_bool (is_changed every k) (λ c. are k v (covers k has c) (sym (cond-true (is_changed every k) (locals k) (s.locals k) c) ∙ e)) (λ c.
                ap (meaning j) (havoc_stays changed n way k (once_less out every k c)) ∙ (sym (value_same n i j moves.same (way.env k) (env k)) ∙ sits.holds.1 k v has (sym (cond-false (is_changed every k) (locals k) (s.locals k) c) ∙ e))),
          );
          set = λ k has. by_bool (is_changed changed k) (λ c. havoc_set k changed n way c) (λ c. subst (λ x. is_unset x ≡ false) (sym (havoc_stays changed n way k c)) (sits.set k has));
          present = λ following. assigned_make before (state_of locals text) sits.holds.0 (λ k has.
              ap is_some (turned_local every locals s k) ∙ by_bool (is_changed every k) (λ c. ap is_some (cond-true (is_changed every k) (locals k) (s.locals k) c) ∙ have following k (covers k has c)) (λ c.
              ap is_some (cond-false (is_changed every k) (locals k) (s.locals k) c) ∙ assigned_has before s k (sits.present (moves.mode ∙ following)) has));
        }

    -- what the interpretation hands in
    abbrev read : Interpretation → Locals
    read i = λ k. if is_changed changed k then Some (meaning i (turning.env k)) else None

    may_read : (i : Interpretation) → i.program ≡ p → path_true i way.path ≡ true → AllTrue i (havoc changed n way).said → (cs : List Changed) → are_there all cs ≡ true → all_may p cs (read i) ≡ true
    may_read i program here said [] are = refl
    may_read i program here said (c ∷ cs) are =
        let are = both (option_map_or (same_type c.ty) (slice_get all c.local) false) (are_there all cs) are in
        let once = list_once (λ (d : Changed). option_map_or (same_type d.ty) (slice_get all d.local) false) out every there in
        joined (may_have p c.ty (read i c.local)) (all_may p cs (read i))
        (by_bool (is_changed changed c.local)
        (λ e. ap (may_have p c.ty) (cond-true (is_changed changed c.local) _ _ e)
        ∙ subst (λ q. has_type q c.ty (meaning i (turning.env c.local)) ≡ true) program (havoc_typed i all c.local c.ty (type_there all c are.0) changed n way once here said e))
        (λ e. ap (may_have p c.ty) (cond-false (is_changed changed c.local) _ _ e)))
        (may_read i program here said cs are.1)

    pub turn_then : (mode : Mode) (i : Interpretation) (more : List Said) (go : State → Outcome B) → i.program ≡ p → is_well_typed p ≡ true → list_all (λ (c : Changed). is_type p c.ty) every ≡ true
        → n ≤ (havoc changed n way).fresh → AllBelow (havoc changed n way).fresh (havoc changed n way).said → Sits mode i all way before s
        → ((k : Mode) (j : Interpretation) (t : State) → Moves mode i n k j → Sits k j all turning before t → Play B k j (havoc changed n way).fresh more (λ handed. go (with_handed t handed)))
        → Play B (handing (turn_in i changed turning) mode) i n ((havoc changed n way).said ++ more) (λ handed. after (handed_turn p every (with_handed s handed) handed) go)
    turn_then (Following left) i more go program well are grows below sits h =
        known_then_follow B (turn_in i changed turning ∷ left) i n (havoc changed n way).said more _ (havoc_known changed n way) (λ said.
        let may = may_read i program sits.there said every there in
        play_handed B i n more _ (λ handed. go (with_handed (state_of (read i) []) handed)) (Turned (read i) []) left (given_turn (read i) [] left go may)
        (h (Following left) i (state_of (read i) []) (moves_here (Following left) i n)
        (turned_sits (Following left) (Following left) i i (moves_here (Following left) i n) sits (read i) []
        (λ k v c e. same_Some _ v (sym (cond-true (is_changed changed k) (Some (meaning i (turning.env k))) None c) ∙ e))
        (λ following k c. ap is_some (cond-true (is_changed changed k) (Some (meaning i (turning.env k))) None c)))))
    turn_then (Taking []) i more go program well are grows below sits h = play_silent B i n _ _ (λ at kind w. not_wrong at kind refl w)
    turn_then (Taking (HandedGiven vs text ∷ rest)) i more go program well are grows below sits h = play_silent B i n _ _ (λ at kind w. not_wrong at kind refl w)
    turn_then (Taking (Turned locals text ∷ rest)) i more go program well are grows below sits h = by_may (all_may p every locals) refl
      where
        by_may : (b : Bool) → all_may p every locals ≡ b → Play B (Taking (Turned locals text ∷ rest)) i n ((havoc changed n way).said ++ more) (λ handed. after (handed_turn p every (with_handed s handed) handed) go)
        by_may false e = play_silent B i n _ _ (λ at kind w. not_wrong at kind (no_turn locals text rest go e) w)
        by_may true e =
            let took = take_turn p i changed n way locals program well (list_once (λ (c : Changed). is_type p c.ty) out every are) (list_once (λ (c : Changed). may_have p c.ty (locals c.local)) out every e) in
            let fresh = (havoc changed n way).fresh in
            let said = (havoc changed n way).said in
            let moves = moves_taking (Turned locals text ∷ rest) rest i took.to n took.same in
            let run : List Handed → Outcome B = (λ handed. go (with_handed (state_of locals text) handed)) in
            play_took B i n (said ++ more) (λ handed. after (handed_turn p every (with_handed s handed) handed) go) run (Turned locals text) rest (given_turn locals text rest go e)
            (play_taking B rest i took.to n fresh (said ++ more) run grows took.same
            (play_behind B (Taking rest) took.to fresh said more run (λ j agrees. all_same fresh took.to j agrees said below took.all)
            (h (Taking rest) took.to (state_of locals text) moves
            (turned_sits (Taking (Turned locals text ∷ rest)) (Taking rest) i took.to moves sits locals text (λ k v c f. took.are k v c f) (λ following. absurd (true≢false following))))))
