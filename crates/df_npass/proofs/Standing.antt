-- What stands where a run has come to a way.
use Rattle.df_npass.proofs.Words.{meaning, ◌≡◌, ℕ, ◌≤◌, ◌==◌, true, false, List, [], ◌∷◌, slice_get, is_some, None, Some, refl, sym, ap, ◌∙◌, subst, inl, inr, eqb-true, cond-false, cond-true, cond_both, false≢true, Ty, Variable, Program, Assigned, Unreached, Reached, has_value, mark, declare, Value, Handed, State, with_local, without_local, declare_all, assigned_has, Term, Interpretation, Measured, IsSorted, IsBelow, Way, is_unset, over, with_term, same_Some}
use Rattle.df_npass.proofs.Lemmas.{Mode, ahead, ahead_is, sits_as, Moves, by_bool, PathBelow, EnvBelow, MeasureBelow, path_grows, env_grows, measure_grows, with_below, with_handed, Sits, IsReached, reached_mark, assigned_make, sits_moves, sits_change}
use Rattle.df_npass.proofs.Calling.{Entered, entered_moves}
use Rattle.df_lemmas.proofs.Truths.{choice}

pub record Stands (program : Program) (entry : List Measured) (entered : List Value) (all : List Ty) (mode : Mode) (i : Interpretation) (n : ℕ) (way : Way) (before : Assigned) (s : State) : Type 0 where
  pub env : EnvBelow n way.env
  pub path : PathBelow n way.path
  pub below : MeasureBelow n entry
  pub entered_is : Entered program entry entered i
  pub sits : Sits mode i all way before s

marked : (before : Assigned) (local k : ℕ) → IsReached before → (k == local) ≡ false → has_value (mark true before local) k ≡ true → has_value before k ≡ true
marked Unreached local k r e h = absurd r
marked (Reached set) local k r e h = sym (cond-false (k == local) true (set k) e) ∙ h

-- a local takes a value of its type, and the term of it
pub sits_given : (mode : Mode) (i : Interpretation) (all : List Ty) (way : Way) (before : Assigned) (s : State) (local : ℕ) (ty : Ty) (a : Term) → slice_get all local ≡ Some ty → IsSorted ty (meaning i a) → is_unset a ≡ false
    → Sits mode i all way before s → Sits mode i all (over (with_term way.env local a) way) (mark true before local) (with_local s local (meaning i a))
sits_given mode i all way before s local ty a typed is set h =
    let v = meaning i a in
    let reached = h.holds.0 in
    record {
      there = h.there;
      sorted = λ k t e. cond_both (k == local) a (way.env k) (λ (x : Term). IsSorted t (meaning i x))
          (λ here. subst (λ (u : Ty). IsSorted u v) (same_Some ty t (sym typed ∙ subst (λ (x : ℕ). slice_get all x ≡ Some t) (eqb-true k local here) e)) is) (λ other. h.sorted k t e);
      holds = (
        reached_mark true before local reached,
        λ k w has e. by_bool (k == local)
            (λ here. ap (meaning i) (cond-true (k == local) a (way.env k) here) ∙ same_Some v w (sym (cond-true (k == local) (Some v) (s.locals k) here) ∙ e))
            (λ other. ap (meaning i) (cond-false (k == local) a (way.env k) other) ∙ h.holds.1 k w (marked before local k reached other has) (sym (cond-false (k == local) (Some v) (s.locals k) other) ∙ e)),
      );
      set = λ k has. cond_both (k == local) a (way.env k) (λ (x : Term). is_unset x ≡ false) (λ here. set) (λ other. h.set k (marked before local k reached other has));
      present = λ following. assigned_make (mark true before local) (with_local s local v) (reached_mark true before local reached) (λ k has. by_bool (k == local)
          (λ here. ap is_some (cond-true (k == local) (Some v) (s.locals k) here))
          (λ other. ap is_some (cond-false (k == local) (Some v) (s.locals k) other) ∙ assigned_has before s k (h.present following) (marked before local k reached other has)));
    }

module _ (program : Program) (entry : List Measured) (entered : List Value) (all : List Ty) where
  pub stands_moves : (a b : Mode) (i j : Interpretation) (n m : ℕ) (way : Way) (before : Assigned) (s t : State) → n ≤ m → Moves a i n b j → ((k : ℕ) → t.locals k ≡ s.locals k) → Stands program entry entered all a i n way before s → Stands program entry entered all b j m way before t
  stands_moves a b i j n m way before s t le moves same h =
      let moved = sits_moves a b i j n all way before s moves h.env h.path h.sits in
      record {
        env = env_grows n m way.env le h.env;
        path = path_grows n m way.path le h.path;
        below = measure_grows n m entry le h.below;
        entered_is = entered_moves program entry entered n i j moves.same h.below h.entered_is;
        sits = sits_change b j all way before before s t moved.holds.0 (λ k has. (has, same k)) moved;
      }

  pub stands_ahead : (ones : List Handed) (mode : Mode) (i : Interpretation) (n : ℕ) (way : Way) (before : Assigned) (s : State) → Stands program entry entered all mode i n way before s → Stands program entry entered all (ahead ones mode) i n way before s
  stands_ahead ones mode i n way before s h =
      record { env = h.env; path = h.path; below = h.below; entered_is = h.entered_is; sits = sits_as mode (ahead ones mode) i all way before s (sym (ahead_is ones mode)) h.sits }

  pub stands_given : (mode : Mode) (i : Interpretation) (n : ℕ) (way : Way) (before : Assigned) (s : State) (local : ℕ) (ty : Ty) (a : Term) → slice_get all local ≡ Some ty → IsBelow n a → IsSorted ty (meaning i a) → is_unset a ≡ false
      → Stands program entry entered all mode i n way before s → Stands program entry entered all mode i n (over (with_term way.env local a) way) (mark true before local) (with_local s local (meaning i a))
  stands_given mode i n way before s local ty a typed below is set h =
      record { env = with_below n way.env local a h.env below; path = h.path; below = h.below; entered_is = h.entered_is; sits = sits_given mode i all way before s local ty a typed is set h.sits }

-- ---- declared locals have no values yet

unmarked : (before : Assigned) (local k : ℕ) → IsReached before → has_value (mark false before local) k ≡ true → ((k == local) ≡ false) × (has_value before k ≡ true)
unmarked Unreached local k r h = absurd r
unmarked (Reached set) local k r h = elim (choice (k == local) false (set k) true h) [ inl x ↦ absurd (false≢true x.1) | inr y ↦ y ]

sits_unset : (mode : Mode) (i : Interpretation) (all : List Ty) (way : Way) (before : Assigned) (s : State) (local : ℕ) → Sits mode i all way before s → Sits mode i all way (mark false before local) (without_local s local)
sits_unset mode i all way before s local h =
    let reached = h.holds.0 in
    sits_change mode i all way before (mark false before local) s (without_local s local) (reached_mark false before local reached)
    (λ k has. let other = unmarked before local k reached has in (other.1, cond-false (k == local) None (s.locals k) other.0)) h

pub declared_stands : (program : Program) (entry : List Measured) (entered : List Value) (all : List Ty) (mode : Mode) (i : Interpretation) (n : ℕ) (way : Way) (variables : List Variable) (before : Assigned) (s : State)
    → Stands program entry entered all mode i n way before s → Stands program entry entered all mode i n way (declare before variables) (declare_all s variables)
declared_stands program entry entered all mode i n way [] before s h = h
declared_stands program entry entered all mode i n way (v ∷ vs) before s h =
    declared_stands program entry entered all mode i n way vs (mark false before v.local) (without_local s v.local)
    (record { env = h.env; path = h.path; below = h.below; entered_is = h.entered_is; sits = sits_unset mode i all way before s v.local h.sits })

pub declared_handed : (variables : List Variable) (s : State) (handed : List Handed) → declare_all (with_handed s handed) variables ≡ with_handed (declare_all s variables) handed
declared_handed [] s handed = refl
declared_handed (v ∷ vs) s handed = declared_handed vs (without_local s v.local) handed
