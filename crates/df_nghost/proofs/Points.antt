-- Points of a body as the code keeps them: what is taken, what is cleared, what joins.
use Rattle.std.proofs.Common.{◌≡◌, ◌≤◌, ◌+◌, ℕ, zero, suc, ◌==◌, Bool, true, false, ◌&&◌, ◌||◌, not, if◌then◌else◌, List, [], ◌∷◌, ◌++◌, length, take, drop, get_or, set, filter, refl, sym, ap, subst, ◌∙◌, append_assoc, append-nil, length-append, arith}
use mathlib.Core.Bool.{or-false, and-true, and-false, or_assoc}
use Rattle.std.proofs.lemmas.Bool.{eqb-true, eqb-false, or_parts, or_left}
use Rattle.std.proofs.lemmas.List.Prefix.{front_rest}
use Rattle.std.proofs.lemmas.List.{get_or-set_other}
use Rattle.df_lang.specs.Assignment.{Assigned, Unreached, Reached, join, mark}
use Rattle.df_nghost.specs.declared.assigned.Assigned as declared
use Rattle.df_nghost.specs.declared.join.Join.{Join}
use Rattle.df_nghost.specs.mirror.Listed.{holds, cleared}
use Rattle.df_nghost.specs.mirror.Known.{set_of, assigned_of, among, Extends, IsBack, joined_with, joined_of, Joins}

abbrev Point : Type 0
Point = declared.Assigned

-- ---- one local

pub among_joined : (xs ys : List ℕ) (k : ℕ) → among (xs ++ ys) k ≡ (among xs k || among ys k)
among_joined [] ys k = refl
among_joined (x ∷ xs) ys k = ap (λ (b : Bool). (k == x) || b) (among_joined xs ys k) ∙ sym (or_assoc (k == x) (among xs k) (among ys k))

reached_same : (s t : ℕ → Bool) → ((k : ℕ) → s k ≡ t k) → Reached s ≡ Reached t
reached_same s t h = λ i. Reached (λ k. h k i)

-- ---- what extends what

pub extends_same : (a b : Point) → b.taken.items ≡ a.taken.items → ((k : ℕ) → holds b.values.listed.items k ≡ holds a.values.listed.items k) → Extends a b
extends_same a b taken values = record { more = []; taken = taken ∙ sym (append-nil a.taken.items); values = λ k. values k ∙ sym (or-false (holds a.values.listed.items k)); fresh = λ k e. absurd (let f : false ≡ true = e in cc) }

pub extends_on : (a b c : Point) → Extends a b → Extends b c → Extends a c
extends_on a b c one other = record {
  more = one.more ++ other.more;
  taken = other.taken ∙ ap (λ (xs : List ℕ). xs ++ other.more) one.taken ∙ append_assoc a.taken.items one.more other.more;
  values = λ k. other.values k ∙ ap (λ (b : Bool). b || among other.more k) (one.values k) ∙ or_assoc (holds a.values.listed.items k) (among one.more k) (among other.more k)
      ∙ ap (λ (b : Bool). holds a.values.listed.items k || b) (sym (among_joined one.more other.more k));
  fresh = λ k e. new k (among one.more k) refl (sym (among_joined one.more other.more k) ∙ e);
}
  where
    new : (k : ℕ) (b : Bool) → among one.more k ≡ b → (among one.more k || among other.more k) ≡ true → holds a.values.listed.items k ≡ false
    new k true here e = one.fresh k here
    new k false here e =
        let there : among other.more k ≡ true = ap (λ (b : Bool). b || among other.more k) (sym here) ∙ e in
        (or_parts (holds a.values.listed.items k) (among one.more k) (sym (one.values k) ∙ other.fresh k there)).0

-- ---- back to a point

set_same : (values : List Bool) (local : ℕ) → get_or (set values local false) local false ≡ false
set_same [] local = refl
set_same (v ∷ vs) zero = refl
set_same (v ∷ vs) (suc local) = set_same vs local

pub cleared_holds : (values : List Bool) (locals : List ℕ) (k : ℕ) → holds (cleared values locals) k ≡ (holds values k && not (among locals k))
cleared_holds values [] k = sym (and-true (holds values k))
cleared_holds values (j ∷ js) k = cleared_holds (set values j false) js k ∙ by_test (k == j) refl
  where
    by_test : (b : Bool) → (k == j) ≡ b → (holds (set values j false) k && not (among js k)) ≡ (holds values k && not (b || among js k))
    by_test true same =
        let is : k ≡ j = eqb-true k j same in
        ap (λ (b : Bool). b && not (among js k)) (subst (λ (n : ℕ). holds (set values j false) n ≡ false) (sym is) (set_same values j)) ∙ sym (and-false (holds values k))
    by_test false other = ap (λ (b : Bool). b && not (among js k)) (get_or-set_other values j k false false (eqb-false k j other))

front_taken : {A : Type 0} (xs ys : List A) → take (length xs) (xs ++ ys) ≡ xs
front_taken [] ys = refl
front_taken (x ∷ xs) ys = ap (λ zs. x ∷ zs) (front_taken xs ys)

pub more_dropped : (a b : Point) (e : Extends a b) (count : ℕ) → count ≡ length a.taken.items → drop count b.taken.items ≡ e.more
more_dropped a b e count is = ap (λ (n : ℕ). drop n b.taken.items) is ∙ front_rest b.taken.items a.taken.items e.more e.taken

more_taken : (a b : Point) (e : Extends a b) (count : ℕ) → count ≡ length a.taken.items → take count b.taken.items ≡ a.taken.items
more_taken a b e count is = ap (λ (n : ℕ). take n b.taken.items) is ∙ ap (take (length a.taken.items)) e.taken ∙ front_taken a.taken.items e.more

-- there are as many
pub within : (a b : Point) → Extends a b → (count : ℕ) → count ≡ length a.taken.items → count ≤ length b.taken.items
within a b e count is =
    let long : length b.taken.items ≡ length a.taken.items + length e.more = ap length e.taken ∙ length-append a.taken.items e.more in
    omega (arith, is, long)

no_more : (a b : Bool) → (b ≡ true → a ≡ false) → ((a || b) && not b) ≡ a
no_more true true h = sym (h refl)
no_more false true h = refl
no_more true false h = refl
no_more false false h = refl

pub back_to : (a b c : Point) → Extends a b → (count : ℕ) → count ≡ length a.taken.items → c.reached ≡ a.reached → c.values.listed.items ≡ cleared b.values.listed.items (drop count b.taken.items) → c.taken.items ≡ take count b.taken.items → IsBack a c
back_to a b c e count is reached values taken = record {
  reached = reached;
  taken = taken ∙ more_taken a b e count is;
  values = λ k.
      ap (λ (vs : List Bool). holds vs k) (values ∙ ap (cleared b.values.listed.items) (more_dropped a b e count is))
      ∙ cleared_holds b.values.listed.items e.more k
      ∙ ap (λ (v : Bool). v && not (among e.more k)) (e.values k)
      ∙ no_more (holds a.values.listed.items k) (among e.more k) (e.fresh k);
}

set_back : (r s : Bool) (values others : List Bool) → s ≡ r → ((k : ℕ) → holds others k ≡ holds values k) → set_of s others ≡ set_of r values
set_back true s values others e h = ap (λ (b : Bool). set_of b others) e ∙ reached_same (λ k. holds others k) (λ k. holds values k) h
set_back false s values others e h = ap (λ (b : Bool). set_of b others) e

-- the same is assigned
pub back_assigned : (a b : Point) → IsBack a b → assigned_of b ≡ assigned_of a
back_assigned a b back = set_back a.reached b.reached a.values.listed.items b.values.listed.items back.reached back.values

joined_back : (r : Bool) (values others : List Bool) (taken : List ℕ) → ((k : ℕ) → holds others k ≡ holds values k) → joined_with r others taken ≡ joined_with r values taken
joined_back true values others taken h = λ i. Reached (λ k. h k i || among taken k)
joined_back false values others taken h = refl

-- and ways from there join as before
pub back_joined : (a b : Point) → IsBack a b → (ways : Join) → joined_of b ways ≡ joined_of a ways
back_joined a b back ways = joined_back ways.reached a.values.listed.items b.values.listed.items ways.taken.items back.values

pub back_on : (a b c : Point) → IsBack a b → IsBack b c → IsBack a c
back_on a b c one other = record { reached = other.reached ∙ one.reached; taken = other.taken ∙ one.taken; values = λ k. other.values k ∙ one.values k }

pub back_same : (a b : Point) → b ≡ a → IsBack a b
back_same a b e = record { reached = ap (λ (p : Point). p.reached) e; taken = ap (λ (p : Point). p.taken.items) e; values = λ k. ap (λ (p : Point). holds p.values.listed.items k) e }

-- ---- locals take a value

-- one after another
abbrev pub marks : Assigned → List ℕ → Assigned
marks a [] = a
marks a (k ∷ ks) = marks (mark true a k) ks

none_marked : (ks : List ℕ) → marks Unreached ks ≡ Unreached
none_marked [] = refl
none_marked (k ∷ ks) = none_marked ks

all_marked : (s : ℕ → Bool) (ks : List ℕ) → marks (Reached s) ks ≡ Reached (λ j. s j || among ks j)
all_marked s [] = reached_same s (λ j. s j || false) (λ j. sym (or-false (s j)))
all_marked s (k ∷ ks) = all_marked (λ j. if j == k then true else s j) ks ∙ reached_same (λ j. (if j == k then true else s j) || among ks j) (λ j. s j || ((j == k) || among ks j)) (λ j. each (s j) (j == k) (among ks j))
  where
    each : (has b more : Bool) → ((if b then true else has) || more) ≡ (has || (b || more))
    each true true more = refl
    each false true more = refl
    each true false more = refl
    each false false more = refl

pub marks_joined : (r : Bool) (values : List Bool) (ks : List ℕ) → marks (set_of r values) ks ≡ joined_with r values ks
marks_joined true values ks = all_marked (λ k. holds values k) ks
marks_joined false values ks = none_marked ks

-- ---- where ways join

among_filtered : (p : ℕ → Bool) (locals : List ℕ) (k : ℕ) → among (filter p locals) k ≡ (among locals k && p k)
among_filtered p [] k = refl
among_filtered p (t ∷ ts) k = by_test (p t) (k == t) refl refl (among_filtered p ts k)
  where
    by_test : (kept same : Bool) → p t ≡ kept → (k == t) ≡ same → among (filter p ts) k ≡ (among ts k && p k) → among (if kept then t ∷ filter p ts else filter p ts) k ≡ ((same || among ts k) && p k)
    by_test true true e is others = let at : k ≡ t = eqb-true k t is in ap (λ (b : Bool). b || among (filter p ts) k) is ∙ sym (ap p at ∙ e)
    by_test true false e is others = ap (λ (b : Bool). b || among (filter p ts) k) is ∙ others
    by_test false true e is others = let at : k ≡ t = eqb-true k t is in others ∙ ap (λ (b : Bool). among ts k && b) (ap p at ∙ e) ∙ and-false (among ts k) ∙ sym (ap p at ∙ e)
    by_test false false e is others = others

or_and : (b t w : Bool) → (b ≡ true → w ≡ true) → (b || (t && w)) ≡ ((b || t) && w)
or_and true t w h = sym (h refl)
or_and false t w h = refl

-- one more
pub joins_more : (way : Point) (old new : Join) (count : ℕ) → way.reached ≡ true → old.reached ≡ true → new.reached ≡ true → new.taken.items ≡ filter (λ k. holds way.values.listed.items k) old.taken.items → Joins old new way count
joins_more way old new count comes some reached taken before e is =
    ap (λ (b : Bool). joined_with b before.values.listed.items new.taken.items) reached
    ∙ ap (λ (ts : List ℕ). joined_with true before.values.listed.items ts) taken
    ∙ reached_same (λ k. holds before.values.listed.items k || among (filter (λ j. holds way.values.listed.items j) old.taken.items) k) (λ k. (holds before.values.listed.items k || among old.taken.items k) && holds way.values.listed.items k) each
    ∙ ap (λ (b : Bool). join (joined_with true before.values.listed.items old.taken.items) (set_of b way.values.listed.items)) (sym comes)
    ∙ ap (λ (b : Bool). join (joined_with b before.values.listed.items old.taken.items) (assigned_of way)) (sym some)
  where
    each : (k : ℕ) → (holds before.values.listed.items k || among (filter (λ j. holds way.values.listed.items j) old.taken.items) k) ≡ ((holds before.values.listed.items k || among old.taken.items k) && holds way.values.listed.items k)
    each k =
        ap (λ (b : Bool). holds before.values.listed.items k || b) (among_filtered (λ j. holds way.values.listed.items j) old.taken.items k)
        ∙ or_and (holds before.values.listed.items k) (among old.taken.items k) (holds way.values.listed.items k) (λ has. e.values k ∙ or_left (holds before.values.listed.items k) (among e.more k) has)
