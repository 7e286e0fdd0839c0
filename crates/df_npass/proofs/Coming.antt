-- Where runs come to: one of some ways, and the flow of definite assignment there.
use Rattle.df_npass.proofs.Words.{Bool, ◌≡◌, ◌⊎◌, inl, inr, ℕ, true, false, List, [], ◌∷◌, ◌++◌, Option, None, Some, refl, sym, ◌∙◌, subst, Ty, Assigned, Unreached, Reached, has_value, mark, State, HasValue, AreAssigned, both, Term, Interpretation, Environment, IsSorted, SameBelow, value_same, Way, all_joined, ap, assigned_has}
use Rattle.df_lang.specs.Assignment.{join}
use Rattle.df_npass.proofs.Saying.{path_true, PathBelow, EnvBelow}
use Rattle.df_npass.proofs.Playing.{Mode, Moves, truth_same}
pub use Rattle.df_npass.proofs.Leading.{AllOff, off_lead}
use Rattle.df_npass.proofs.Leading.{AllLead}
use Rattle.df_npass.proofs.Reading.{SortedAll, Sits, IsReached}
use Rattle.std.specs.Option.{is_some}

-- ---- the flow of definite assignment

pub assigned_make : (before : Assigned) (s : State) → IsReached before → ((k : ℕ) → has_value before k ≡ true → HasValue s k) → AreAssigned before s
assigned_make Unreached s r h = r
assigned_make (Reached set) s r h = h

pub reached_mark : (value : Bool) (a : Assigned) (local : ℕ) → IsReached a → IsReached (mark value a local)
reached_mark value Unreached local r = r
reached_mark value (Reached set) local r = r

pub reached_left : (a b : Assigned) → IsReached a → IsReached (join a b)
reached_left Unreached b r = absurd r
reached_left (Reached set) Unreached r = tt
reached_left (Reached set) (Reached other) r = tt

pub reached_right : (a b : Assigned) → IsReached b → IsReached (join a b)
reached_right Unreached b r = r
reached_right (Reached set) Unreached r = absurd r
reached_right (Reached set) (Reached other) r = tt

-- where two ways join has a value what has one on both
pub join_left : (a b : Assigned) (k : ℕ) → IsReached a → has_value (join a b) k ≡ true → has_value a k ≡ true
join_left Unreached b k r h = absurd r
join_left (Reached set) Unreached k r h = h
join_left (Reached set) (Reached other) k r h = (both (set k) (other k) h).0

pub join_right : (a b : Assigned) (k : ℕ) → IsReached b → has_value (join a b) k ≡ true → has_value b k ≡ true
join_right Unreached b k r h = h
join_right (Reached set) Unreached k r h = absurd r
join_right (Reached set) (Reached other) k r h = (both (set k) (other k) h).1

-- ---- one way

pub path_same : (n : ℕ) (i j : Interpretation) → SameBelow n i j → (path : Option Term) → PathBelow n path → path_true i path ≡ path_true j path
path_same n i j same None h = refl
path_same n i j same (Some path) h = truth_same n i j same path h

pub sorted_moves : (n : ℕ) (i j : Interpretation) → SameBelow n i j → (all : List Ty) (env : Environment) → EnvBelow n env → SortedAll i all env → SortedAll j all env
sorted_moves n i j same all env below h = λ k ty e. subst (λ v. IsSorted ty v) (value_same n i j same (env k) (below k)) (h k ty e)

pub sits_moves : (a b : Mode) (i j : Interpretation) (n : ℕ) (all : List Ty) (way : Way) (before : Assigned) (s : State) → Moves a i n b j → EnvBelow n way.env → PathBelow n way.path → Sits a i all way before s → Sits b j all way before s
sits_moves a b i j n all way before s moves env path h = record {
  there = sym (path_same n i j moves.same way.path path) ∙ h.there;
  sorted = sorted_moves n i j moves.same all way.env env h.sorted;
  holds = (h.holds.0, λ k v has e. sym (value_same n i j moves.same (way.env k) (env k)) ∙ h.holds.1 k v has e);
  set = h.set;
  present = λ e. h.present (moves.mode ∙ e);
}

-- where the flow says less, and what has a value by it has the one that it had
pub sits_change : (mode : Mode) (i : Interpretation) (all : List Ty) (way : Way) (before after : Assigned) (s t : State) → IsReached after → ((k : ℕ) → has_value after k ≡ true → (has_value before k ≡ true) × (t.locals k ≡ s.locals k))
    → Sits mode i all way before s → Sits mode i all way after t
sits_change mode i all way before after s t reached same h = record {
  there = h.there;
  sorted = h.sorted;
  holds = (reached, λ k v has e. h.holds.1 k v (same k has).0 (sym (same k has).1 ∙ e));
  set = λ k has. h.set k (same k has).0;
  present = λ e. assigned_make after t reached (λ k has. ap is_some (same k has).1 ∙ assigned_has before s k (h.present e) (same k has).0);
}

pub sits_less : (mode : Mode) (i : Interpretation) (all : List Ty) (way : Way) (before after : Assigned) (s : State) → IsReached after → ((k : ℕ) → has_value after k ≡ true → has_value before k ≡ true) → Sits mode i all way before s → Sits mode i all way after s
sits_less mode i all way before after s reached less h = sits_change mode i all way before after s s reached (λ k has. (less k has, refl)) h

-- ---- one of some ways

abbrev pub OneSits : Mode → Interpretation → List Ty → List Way → Assigned → State → Type 0
OneSits mode i all [] before s = ⊥
OneSits mode i all (way ∷ ways) before s = (Sits mode i all way before s × AllOff i ways) ⊎ ((path_true i way.path ≡ false) × OneSits mode i all ways before s)

pub off_moves : (i j : Interpretation) (n : ℕ) (path : Option Term) (ways : List Way) → AllLead n path ways → SameBelow n i j → AllOff i ways → AllOff j ways
off_moves i j n path [] lead same h = tt
off_moves i j n path (way ∷ ways) lead same h = (sym (path_same n i j same way.path lead.0.path_is) ∙ h.0, off_moves i j n path ways lead.1 same h.1)

module _ (mode : Mode) (i : Interpretation) (all : List Ty) where
  pub one_left : (ways others : List Way) (before : Assigned) (s : State) → OneSits mode i all ways before s → AllOff i others → OneSits mode i all (ways ++ others) before s
  one_left [] others before s h g = absurd h
  one_left (way ∷ ways) others before s h g = elim h [ inl x ↦ inl (x.0, all_joined _ ways others x.1 g) | inr x ↦ inr (x.0, one_left ways others before s x.1 g) ]

  pub one_right : (ways others : List Way) (before : Assigned) (s : State) → AllOff i ways → OneSits mode i all others before s → OneSits mode i all (ways ++ others) before s
  one_right [] others before s h g = g
  one_right (way ∷ ways) others before s h g = inr (h.0, one_right ways others before s h.1 g)

  pub one_less : (ways : List Way) (before after : Assigned) (s : State) → IsReached after → ((k : ℕ) → has_value after k ≡ true → has_value before k ≡ true) → OneSits mode i all ways before s → OneSits mode i all ways after s
  one_less [] before after s r less h = h
  one_less (way ∷ ways) before after s r less h = elim h [ inl x ↦ inl (sits_less mode i all way before after s r less x.0, x.1) | inr x ↦ inr (x.0, one_less ways before after s r less x.1) ]

  pub one_reached : (ways : List Way) (before : Assigned) (s : State) → OneSits mode i all ways before s → IsReached before
  one_reached [] before s h = absurd h
  one_reached (way ∷ ways) before s h = elim h [ inl x ↦ x.0.holds.0 | inr x ↦ one_reached ways before s x.1 ]
