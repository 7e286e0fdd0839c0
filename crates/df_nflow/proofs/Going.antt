-- What goes on from what is done completes the whole.
use Rattle.df_nflow.proofs.Words.{◌≡◌, ℕ, suc, Bool, true, false, ◌||◌, List, [], ◌∷◌, ◌++◌, Option, refl, sym, subst, append_assoc, Target, Changed, Term, Said, Way, Moved, havoc, Flow, goes_on, saying, then_next, Taken, give_all, Parted, last_of, first_of, Arrival, Standing, also, at_path, Passes, Moves, Ended, Parts, join_locals_from}
use Rattle.std.proofs.Math.Bool.{or_assoc}
use Rattle.df_nflow.proofs.Flowing.{passes_none, moves_pass, passes_next}
use Rattle.df_nflow.proofs.Branching.{parts_first}
use Rattle.df_nflow.proofs.Stepping.{one_havoc, havoc_step, one_give, give_step, join_step}

pub or_none : (b : Bool) → (b || false) ≡ b
or_none true = refl
or_none false = refl

-- ---- locals one after the other

pub record Moving (first : Standing) (whole : Moved) (here : Standing) (left : Moved) : Type 0 where
  pub by : (last : Standing) → Moves here left last → Moves first whole last

pub moving_from : (a : Standing) (whole : Moved) → Moving a whole a whole
moving_from a whole = record { by = λ last p. p }

pub moving_done : (first here : Standing) (whole : Moved) → Moving first whole here (saying [] here.fresh here.way) → Moves first whole here
moving_done first here whole m = m.by here (passes_none here)

pub moving_havoc : (first here next : Standing) (whole : Moved) (c : Changed) (others : List Changed) → Moving first whole here (havoc (c ∷ others) here.fresh here.way) → Moves here (one_havoc c here.fresh here.way) next
    → Moving first whole next (havoc others next.fresh next.way)
moving_havoc first here next whole c others m p = record { by = λ last q. m.by last (havoc_step here next last c others p q) }

pub moving_give : (first here next : Standing) (whole : Moved) (earlier : List Taken) (t : Target) (ts : List Target) (x : Term) (xs : List Term) → Moving first whole here (give_all earlier (t ∷ ts) (x ∷ xs) here.fresh here.way)
    → Moves here (one_give earlier t x here.fresh here.way) next → Moving first whole next (give_all (record { local = t.local; value = x } ∷ earlier) ts xs next.fresh next.way)
moving_give first here next whole earlier t ts x xs m p = record { by = λ last q. m.by last (give_step here next last earlier t ts x xs p q) }

pub moving_join : (first here next : Standing) (whole : Moved) (place : ℕ) (c : Changed) (others : List Changed) (arrivals : List Arrival)
    → Moving first whole here (join_locals_from place (c ∷ others) arrivals here.fresh here.way.env here.way.path) → Moves here (join_locals_from place (c ∷ []) arrivals here.fresh here.way.env here.way.path) next
    → Moving first whole next (join_locals_from (suc place) others arrivals next.fresh next.way.env next.way.path)
moving_join first here next whole place c others arrivals m p = record { by = λ last q. m.by last (join_step here next last place c others arrivals p q) }

module _ (in_loop in_method : List Changed) where
  -- ---- statements one after the other

  pub record Going (first : Standing) (whole : Flow) (here : Standing) (left : Flow) (lost : Bool) : Type 0 where
    pub by : (last : Standing) (on l : Bool) → Passes in_loop in_method here left last on l → Passes in_loop in_method first whole last on (lost || l)

  pub going_on : (first here next : Standing) (whole flow : Flow) (go : ℕ → Way → Flow) (lost one : Bool) → Going first whole here (then_next flow go) lost → Passes in_loop in_method here flow next true one
      → Going first whole next (go next.fresh next.way) (lost || one)
  going_on first here next whole flow go lost one g p = record {
    by = λ last on l q. subst (λ (b : Bool). Passes in_loop in_method first whole last on b) (sym (or_assoc lost one l)) (g.by last on (one || l) (passes_next in_loop in_method here next last flow go on one l p q));
  }

  pub going_done : (first here : Standing) (whole : Flow) (lost : Bool) → Going first whole here (goes_on (saying [] here.fresh here.way)) lost → Passes in_loop in_method first whole here true lost
  going_done first here whole lost g =
      subst (λ (b : Bool). Passes in_loop in_method first whole here true b) (or_none lost) (g.by here true false (moves_pass in_loop in_method here here (saying [] here.fresh here.way) (passes_none here)))

  -- ---- branches one after the other

  module _ (changed : List Changed) where
    pub record Parting (first : Standing) (whole : Parted) (here : Standing) (left : Parted) (ended : List Ended) (lost : Bool) : Type 0 where
      pub by : (last : Standing) (more : List Ended) (l : Bool) → Parts changed in_loop in_method here left last more l → Parts changed in_loop in_method first whole last (ended ++ more) (lost || l)

    pub parting_on : (first here next : Standing) (whole : Parted) (asked : List Said) (inside past : Option Term) (flow : Flow) (rest : ℕ → Parted) (ended one : List Ended) (lost l : Bool)
        → Parting first whole here (first_of asked flow rest) ended lost → Parts changed in_loop in_method (at_path inside (also asked here)) (last_of flow) next one l
        → Parting first whole (at_path past next) (rest next.fresh) (ended ++ one) (lost || l)
    parting_on first here next whole asked inside past flow rest ended one lost l g p = record {
      by = λ last more m q.
          subst (λ (b : Bool). Parts changed in_loop in_method first whole last ((ended ++ one) ++ more) b) (sym (or_assoc lost l m))
          (subst (λ (es : List Ended). Parts changed in_loop in_method first whole last es (lost || (l || m))) (sym (append_assoc ended one more))
          (g.by last (one ++ more) (l || m) (parts_first changed in_loop in_method here next last asked inside past flow rest one more l m p q)));
    }
