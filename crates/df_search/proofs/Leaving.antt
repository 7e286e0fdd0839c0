-- Closed branches leave the decisions, before and after a turn.
use Rattle.std.proofs.Common.{◌≡◌, inl, inr, ⊎_elim, true, List, [], ◌∷◌, ◌++◌, None, Some, refl, sym, ap, ◌∙◌, subst, append_assoc}
use Rattle.std.proofs.lemmas.Bool.{or_left, or_right}
use Rattle.df_form.proofs.Literals.{negated_twice, same_self}
use Rattle.df_lemmas.proofs.Lists.{head_same, tail_same}
use Rattle.df_form.specs.declared.log.Lit.{Lit}
use Rattle.df_form.specs.Node.{Node}
use Rattle.df_form.specs.Clause.{negation, same_literal, is_among}
use Rattle.df_form.specs.Sequent.{Sequent}
use Rattle.df_closure.specs.Closure.{GroundClause}
use Rattle.df_trail.specs.declared.decision.Conflict.{Conflict}
use Rattle.df_trail.specs.declared.decision.Decision.{Decision}
use Rattle.df_trail.specs.Trail.{literals_of, turned}
use Rattle.df_branch.specs.Evidence.{IsBranch, AreIncompatible, IsClosedBranch, IsApart, AreClosedBranches}
use Rattle.df_search.specs.Searching.{Leaves, AllLeave, AllLeaveOr, AreApart, AllApart, AllDiffer, AreCounted}

-- where a decision stands in a list that is taken apart at another
data Place (kept : List Decision) (d : Decision) (taken kept_too : List Decision) (e : Decision) (rest : List Decision) : Type 0 where
  before : (others : List Decision) → kept ≡ kept_too ++ e ∷ others → Place kept d taken kept_too e rest
  here : kept ≡ kept_too → d ≡ e → Place kept d taken kept_too e rest
  behind : (front : List Decision) → kept_too ≡ kept ++ d ∷ front → taken ≡ front ++ e ∷ rest → Place kept d taken kept_too e rest

place_of : (kept : List Decision) (d : Decision) (taken kept_too : List Decision) (e : Decision) (rest : List Decision) → kept ++ d ∷ taken ≡ kept_too ++ e ∷ rest → Place kept d taken kept_too e rest
place_of [] d taken [] e rest is = here refl (head_same d e taken rest is)
place_of [] d taken (y ∷ ys) e rest is = behind ys (ap (λ (x : Decision). x ∷ ys) (sym (head_same d y taken (ys ++ e ∷ rest) is))) (tail_same d y taken (ys ++ e ∷ rest) is)
place_of (x ∷ xs) d taken [] e rest is = before xs (ap (λ (y : Decision). y ∷ xs) (head_same x e (xs ++ d ∷ taken) rest is))
place_of (x ∷ xs) d taken (y ∷ ys) e rest is = by (head_same x y (xs ++ d ∷ taken) (ys ++ e ∷ rest) is) (place_of xs d taken ys e rest (tail_same x y (xs ++ d ∷ taken) (ys ++ e ∷ rest) is))
  where
    by : x ≡ y → Place xs d taken ys e rest → Place (x ∷ xs) d taken (y ∷ ys) e rest
    by same (before others e_is) = before others (λ i. same i ∷ e_is i)
    by same (here kept_is e_is) = here (λ i. same i ∷ kept_is i) e_is
    by same (behind front kept_is taken_is) = behind front (λ i. sym same i ∷ kept_is i) taken_is

pub literals_split : (xs ys : List Decision) → literals_of (xs ++ ys) ≡ literals_of xs ++ literals_of ys
literals_split [] ys = refl
literals_split (x ∷ xs) ys = ap (λ (ls : List Lit). x.literal ∷ ls) (literals_split xs ys)

-- what leaves decisions leaves them after a turn, and so does what they were
module _ (old new : List Decision) (kept : List Decision) (decision : Decision) (taken : List Decision) (conflict : Conflict) (old_is : old ≡ kept ++ decision ∷ taken) (side_open : decision.closed ≡ None) (new_is : new ≡ kept ++ turned decision.literal conflict ∷ []) where
  leaves_turned : (tail : List Lit) (branch : List Lit) → branch ≡ literals_of kept ++ decision.literal ∷ tail → Leaves new branch
  leaves_turned tail branch is = record {
    kept = kept;
    decision = turned decision.literal conflict;
    rest = [];
    tail = tail;
    is = new_is;
    side_closed = λ e. some_is_not e;
    branch_is = is ∙ ap (λ (l : Lit). literals_of kept ++ l ∷ tail) (sym (negated_twice decision.literal));
  }
    where
      some_is_not : Some conflict ≡ None → ⊥
      some_is_not e = cc

  pub old_leaves : (branch : List Lit) → branch ≡ literals_of old → Leaves new branch
  old_leaves branch is = leaves_turned (literals_of taken) branch (is ∙ ap literals_of old_is ∙ literals_split kept (decision ∷ taken))

  pub still_leaves : (branch : List Lit) → Leaves old branch → Leaves new branch
  still_leaves branch leaves = by (place_of kept decision taken leaves.kept leaves.decision leaves.rest (sym old_is ∙ leaves.is))
    where
      by : Place kept decision taken leaves.kept leaves.decision leaves.rest → Leaves new branch
      by (before others is) = record {
        kept = leaves.kept;
        decision = leaves.decision;
        rest = others ++ turned decision.literal conflict ∷ [];
        tail = leaves.tail;
        is = new_is ∙ ap (λ (ds : List Decision). ds ++ turned decision.literal conflict ∷ []) is ∙ append_assoc leaves.kept (leaves.decision ∷ others) (turned decision.literal conflict ∷ []);
        side_closed = leaves.side_closed;
        branch_is = leaves.branch_is;
      }
      by (here kept_is same) = absurd (leaves.side_closed (ap (λ (d : Decision). d.closed) (sym same) ∙ side_open))
      by (behind front kept_is taken_is) =
          leaves_turned (literals_of front ++ negation leaves.decision.literal ∷ leaves.tail) branch
          (leaves.branch_is
          ∙ ap (λ (ds : List Decision). literals_of ds ++ negation leaves.decision.literal ∷ leaves.tail) kept_is
          ∙ ap (λ (ls : List Lit). ls ++ negation leaves.decision.literal ∷ leaves.tail) (literals_split kept (decision ∷ front))
          ∙ append_assoc (literals_of kept) (decision.literal ∷ literals_of front) (negation leaves.decision.literal ∷ leaves.tail))

  pub all_leave : (branches : List (List Lit)) → AllLeaveOr old branches → AllLeave new branches
  all_leave [] all = tt
  all_leave (branch ∷ others) all = (⊎_elim (λ leaves. still_leaves branch leaves) (λ is. old_leaves branch is) all.0, all_leave others all.1)

-- a further decision
pub leaves_decided : (old new : List Decision) (d : Decision) (branch : List Lit) → new ≡ old ++ d ∷ [] → Leaves old branch → Leaves new branch
leaves_decided old new d branch is leaves = record {
  kept = leaves.kept;
  decision = leaves.decision;
  rest = leaves.rest ++ d ∷ [];
  tail = leaves.tail;
  is = is ∙ ap (λ (ds : List Decision). ds ++ d ∷ []) leaves.is ∙ append_assoc leaves.kept (leaves.decision ∷ leaves.rest) (d ∷ []);
  side_closed = leaves.side_closed;
  branch_is = leaves.branch_is;
}

pub all_leave_decided : (old new : List Decision) (d : Decision) (branches : List (List Lit)) → new ≡ old ++ d ∷ [] → AllLeave old branches → AllLeave new branches
all_leave_decided old new d [] is all = tt
all_leave_decided old new d (branch ∷ others) is all = (leaves_decided old new d branch is all.0, all_leave_decided old new d others is all.1)

pub leave_or : (decisions : List Decision) (branches : List (List Lit)) → AllLeave decisions branches → AllLeaveOr decisions branches
leave_or decisions [] all = tt
leave_or decisions (branch ∷ others) all = (inl all.0, leave_or decisions others all.1)

pub leave_or_last : (decisions : List Decision) (branches : List (List Lit)) (last : List Lit) → last ≡ literals_of decisions → AllLeave decisions branches → AllLeaveOr decisions (branches ++ last ∷ [])
leave_or_last decisions [] last is all = (inr is, tt)
leave_or_last decisions (branch ∷ others) last is all = (inl all.0, leave_or_last decisions others last is all.1)

among_middle : (xs ys : List Lit) (l : Lit) → is_among (xs ++ l ∷ ys) l ≡ true
among_middle [] ys l = or_left (same_literal l l) (is_among ys l) (same_self l)
among_middle (x ∷ xs) ys l = or_right (same_literal l x) (is_among (xs ++ l ∷ ys) l) (among_middle xs ys l)

-- what leaves the decisions is incompatible with their branch
pub incompatible : (decisions : List Decision) (branch : List Lit) → Leaves decisions branch → AreIncompatible branch (literals_of decisions)
incompatible decisions branch leaves = record {
  literal = negation leaves.decision.literal;
  in_one = subst (λ (ls : List Lit). is_among ls (negation leaves.decision.literal) ≡ true) (sym leaves.branch_is) (among_middle (literals_of leaves.kept) leaves.tail (negation leaves.decision.literal));
  in_other =
      subst (λ (l : Lit). is_among (literals_of decisions) l ≡ true) (sym (negated_twice leaves.decision.literal))
      (subst (λ (ls : List Lit). is_among ls leaves.decision.literal ≡ true) (sym (ap literals_of leaves.is ∙ literals_split leaves.kept (leaves.decision ∷ leaves.rest)))
      (among_middle (literals_of leaves.kept) (literals_of leaves.rest) leaves.decision.literal));
}

-- one more closed branch, apart from the others
module _ (s : Sequent) (set nodes : List Node) (clauses : List GroundClause) (decisions : List Decision) (branch : List Lit) (branch_is : branch ≡ literals_of decisions) (closed : IsClosedBranch s set nodes clauses branch) where
  apart_back : (other : List Lit) → AreApart branch other → AreApart other branch
  apart_back other apart st ns cs first second list shared shut = apart st ns cs second first list (λ l e. let parts = shared l e in (parts.1, parts.0)) shut

  differs_last : (one : List Lit) (others : List (List Lit)) → AreIncompatible one branch → AreApart one branch → AllDiffer one others → AllDiffer one (others ++ branch ∷ [])
  differs_last one [] not_both apart all = (not_both, apart, tt)
  differs_last one (other ∷ others) not_both apart all = (all.0, all.1, differs_last one others not_both apart all.2)

  pub counted_last : (branches : List (List Lit)) → AllLeave decisions branches → AllApart branch branches → AreCounted s set nodes clauses branches → AreCounted s set nodes clauses (branches ++ branch ∷ [])
  counted_last [] leave apart all = (closed, tt, tt)
  counted_last (one ∷ others) leave apart all = (
    all.0,
    differs_last one others (subst (AreIncompatible one) (sym branch_is) (incompatible decisions one leave.0)) (apart_back one apart.0) all.1,
    counted_last others leave.1 apart.1 all.2,
  )

-- counted branches are closed ones, each apart from those after it
module _ (s : Sequent) (set nodes : List Node) (clauses : List GroundClause) where
  apart_of : (branch : List Lit) → IsBranch set nodes clauses branch → (others : List (List Lit)) → AllDiffer branch others → AreCounted s set nodes clauses others → IsApart nodes clauses branch others
  apart_of branch is [] differ all = tt
  apart_of branch is (other ∷ others) differ all = (differ.0, differ.1 set nodes clauses is all.0.branch_is, apart_of branch is others differ.2 all.2)

  pub closed_of : (branches : List (List Lit)) → AreCounted s set nodes clauses branches → AreClosedBranches s set nodes clauses branches
  closed_of [] all = tt
  closed_of (branch ∷ others) all = (all.0, apart_of branch all.0.branch_is others all.1 all.2, closed_of others all.2)

-- what leaves decisions at one whose other side is closed leaves those before a last one whose other side is open
pub leaves_shorter : (old kept : List Decision) (d : Decision) (branch : List Lit) → old ≡ kept ++ d ∷ [] → d.closed ≡ None → Leaves old branch → Leaves kept branch
leaves_shorter old kept d branch is side_open leaves = by (place_of kept d [] leaves.kept leaves.decision leaves.rest (sym is ∙ leaves.is))
  where
    none_behind : (front : List Decision) → [] ≡ front ++ leaves.decision ∷ leaves.rest → ⊥
    none_behind [] e = absurd cc
    none_behind (x ∷ front) e = absurd cc

    by : Place kept d [] leaves.kept leaves.decision leaves.rest → Leaves kept branch
    by (before others kept_is) = record { kept = leaves.kept; decision = leaves.decision; rest = others; tail = leaves.tail; is = kept_is; side_closed = leaves.side_closed; branch_is = leaves.branch_is }
    by (here kept_is same) = absurd (leaves.side_closed (ap (λ (x : Decision). x.closed) (sym same) ∙ side_open))
    by (behind front kept_is taken_is) = absurd (none_behind front taken_is)

pub all_leave_shorter : (old kept : List Decision) (d : Decision) (branches : List (List Lit)) → old ≡ kept ++ d ∷ [] → d.closed ≡ None → AllLeave old branches → AllLeave kept branches
all_leave_shorter old kept d [] is side_open all = tt
all_leave_shorter old kept d (branch ∷ others) is side_open all = (leaves_shorter old kept d branch is side_open all.0, all_leave_shorter old kept d others is side_open all.1)
