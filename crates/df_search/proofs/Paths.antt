-- Decisions that come one after another: a branch of them, where the list before the last one is not shut.
use Rattle.std.proofs.Common.{◌≡◌, inl, inr, ⊎_elim, take, length, List, [], ◌∷◌, ◌++◌, None, refl, sym, ap, ◌∙◌, subst, append_assoc, append-nil}
use Rattle.std.proofs.lemmas.Bool.{or_left, or_right, or_cases}
use Rattle.df_form.proofs.Literals.{negated_twice}
use Rattle.df_form.specs.declared.log.Lit.{Lit}
use Rattle.df_form.specs.Node.{Node}
use Rattle.df_form.specs.Sorting.{IsTable}
use Rattle.df_form.specs.Clause.{negation, same_literal, is_among}
use Rattle.df_closure.specs.Closure.{GroundClause, after}
use Rattle.df_trail.specs.declared.decision.Decision.{Decision}
use Rattle.df_trail.specs.declared.trail.Trail.{Trail}
use Rattle.df_trail.specs.Trail.{literal_of, literals_of, branch_of, decided, turned, IsTurned}
use Rattle.df_logbuild.proofs.Added.{mapped_append}
use Rattle.df_branch.specs.Evidence.{IsSideOf, IsDecision, IsUnshut, MayFollow, IsBranchAfter, IsBranch}
use Rattle.df_branch.specs.Next.{ComesNext}
use Rattle.df_branch.proofs.LaterClauses.{AreLater}
use Rattle.df_branch.proofs.Growing.{follows_later, next_later}
use Rattle.df_search.specs.Searching.{IsPathAfter, IsPath}
use Rattle.df_search.proofs.Covering.{Covers, unshut_before}

pub covers_self : (list : List Lit) → Covers list list
covers_self list = record { has = λ l e. e }

covers_front : (first others : List Lit) → Covers (first ++ others) first
covers_front [] others = record { has = λ l e. absurd cc }
covers_front (m ∷ first) others = record {
  has = λ l e. ⊎_elim (λ here. or_left (same_literal l m) (is_among (first ++ others) l) here) (λ rest. or_right (same_literal l m) (is_among (first ++ others) l) ((covers_front first others).has l rest)) (or_cases (same_literal l m) (is_among first l) e);
}

pub covers_first : (first others all : List Lit) → all ≡ first ++ others → Covers all first
covers_first first others all is = subst (λ (ls : List Lit). Covers ls first) (sym is) (covers_front first others)

side_turned : (decides : Lit → Type 0) (l : Lit) → IsSideOf decides l → IsSideOf decides (negation l)
side_turned decides l (inl d) = inr (subst decides (sym (negated_twice l)) d)
side_turned decides l (inr d) = inl d

module _ (set nodes : List Node) (clauses : List GroundClause) where
  -- what comes next to an unshut list follows it
  pub follows_from : (list : List Lit) (l : Lit) (learned : List Lit) → IsUnshut nodes clauses list learned → ComesNext set nodes clauses list l → MayFollow set nodes clauses list l
  follows_from list l learned unshut next = record {
    learned = next.learned;
    unshut = unshut_before nodes clauses list learned unshut list next.learned (covers_self list) next.quiet;
    not_true = next.not_true;
    not_false = next.not_false;
    decision = next.decision;
  }

  next_turned : (list : List Lit) (l : Lit) → ComesNext set nodes clauses list l → ComesNext set nodes clauses list (negation l)
  next_turned list l is = record {
    learned = is.learned;
    quiet = is.quiet;
    not_true = is.not_false;
    not_false = ap (is_among (after list is.learned)) (negated_twice l) ∙ is.not_true;
    decision = side_turned (IsDecision set nodes clauses list is.learned) l is.decision;
  }

  follows_turned : (list : List Lit) (l : Lit) → MayFollow set nodes clauses list l → MayFollow set nodes clauses list (negation l)
  follows_turned list l is = record {
    learned = is.learned;
    unshut = is.unshut;
    not_true = is.not_false;
    not_false = ap (is_among (after list is.learned)) (negated_twice l) ∙ is.not_true;
    decision = side_turned (IsDecision set nodes clauses list is.learned) l is.decision;
  }

  -- the last decision of a path, and those before it
  pub record EndsPath (before : List Lit) (kept : List Decision) (last : Decision) : Type 0 where
    pub path : IsPathAfter set nodes clauses before kept
    pub next : ComesNext set nodes clauses (before ++ literals_of kept) last.literal
    pub follows : (last.closed ≡ None → ⊥) → MayFollow set nodes clauses (before ++ literals_of kept) last.literal

  pub path_at : (before : List Lit) (kept : List Decision) (last : Decision) (rest : List Decision) → IsPathAfter set nodes clauses before (kept ++ last ∷ rest) → EndsPath before kept last
  path_at before [] last rest is = record {
    path = tt;
    next = subst (λ (ls : List Lit). ComesNext set nodes clauses ls last.literal) (sym (append-nil before)) is.0;
    follows = λ closed. subst (λ (ls : List Lit). MayFollow set nodes clauses ls last.literal) (sym (append-nil before)) (is.1 closed);
  }
  path_at before (d ∷ kept) last rest is =
      let more = path_at (before ++ d.literal ∷ []) kept last rest is.2 in
      let same = append_assoc before (d.literal ∷ []) (literals_of kept) in
      record {
        path = (is.0, is.1, more.path);
        next = subst (λ (ls : List Lit). ComesNext set nodes clauses ls last.literal) same more.next;
        follows = λ closed. subst (λ (ls : List Lit). MayFollow set nodes clauses ls last.literal) same (more.follows closed);
      }

  pub path_with : (before : List Lit) (kept : List Decision) (last : Decision) → EndsPath before kept last → IsPathAfter set nodes clauses before (kept ++ last ∷ [])
  path_with before [] last is = (
    subst (λ (ls : List Lit). ComesNext set nodes clauses ls last.literal) (append-nil before) is.next,
    (λ closed. subst (λ (ls : List Lit). MayFollow set nodes clauses ls last.literal) (append-nil before) (is.follows closed)),
    tt,
  )
  path_with before (d ∷ kept) last is =
      let same = append_assoc before (d.literal ∷ []) (literals_of kept) in
      let rest : EndsPath (before ++ d.literal ∷ []) kept last = record {
        path = is.path.2;
        next = subst (λ (ls : List Lit). ComesNext set nodes clauses ls last.literal) (sym same) is.next;
        follows = λ closed. subst (λ (ls : List Lit). MayFollow set nodes clauses ls last.literal) (sym same) (is.follows closed);
      } in
      (is.path.0, is.path.1, path_with (before ++ d.literal ∷ []) kept last rest)

  -- a further decision
  pub path_decided : (old new : List Decision) (l : Lit) → new ≡ old ++ decided l ∷ [] → IsPathAfter set nodes clauses [] old → ComesNext set nodes clauses (literals_of old) l → IsPathAfter set nodes clauses [] new
  path_decided old new l new_is path next = subst (IsPathAfter set nodes clauses []) (sym new_is) (path_with [] old (decided l) (record { path = path; next = next; follows = λ closed. absurd (closed refl) }))

  -- the decision that a branch has at a place
  pub follows_at : (before first : List Lit) (l : Lit) (rest : List Lit) → IsBranchAfter set nodes clauses before (first ++ l ∷ rest) → MayFollow set nodes clauses (before ++ first) l
  follows_at before [] l rest is = subst (λ (ls : List Lit). MayFollow set nodes clauses ls l) (sym (append-nil before)) is.0
  follows_at before (m ∷ first) l rest is = subst (λ (ls : List Lit). MayFollow set nodes clauses ls l) (append_assoc before (m ∷ []) first) (follows_at (before ++ m ∷ []) first l rest is.1)

  pub path_turned : (old new : Trail) → IsTurned old new → IsPath set nodes clauses old → IsBranch set nodes clauses (branch_of old) → IsPath set nodes clauses new
  path_turned old new turned_it path branch =
      let kept = turned_it.kept in
      let d = turned_it.decision in
      let there = path_at [] kept d turned_it.taken (subst (IsPathAfter set nodes clauses []) turned_it.old_is path) in
      let same : branch_of old ≡ literals_of kept ++ d.literal ∷ literals_of turned_it.taken = ap literals_of turned_it.old_is ∙ literals_joined kept (d ∷ turned_it.taken) in
      let follows = follows_at [] (literals_of kept) d.literal (literals_of turned_it.taken) (subst (IsBranchAfter set nodes clauses []) same branch) in
      subst (IsPathAfter set nodes clauses []) (sym turned_it.new_is)
      (path_with [] kept (turned d.literal turned_it.conflict) (record { path = there.path; next = next_turned (literals_of kept) d.literal there.next; follows = λ closed. follows_turned (literals_of kept) d.literal follows }))
    where
      literals_joined : (xs ys : List Decision) → literals_of (xs ++ ys) ≡ literals_of xs ++ literals_of ys
      literals_joined [] ys = refl
      literals_joined (x ∷ xs) ys = ap (λ (ls : List Lit). x.literal ∷ ls) (literals_joined xs ys)

  -- no list of the first decisions is shut, where a list that holds all of them isn't
  path_branch : (whole learned : List Lit) → IsUnshut nodes clauses whole learned → (before : List Lit) (decisions : List Decision) → Covers whole (before ++ literals_of decisions) → IsPathAfter set nodes clauses before decisions → IsBranchAfter set nodes clauses before (literals_of decisions)
  path_branch whole learned unshut before [] covers path = tt
  path_branch whole learned unshut before (d ∷ decisions) covers path =
      let held : Covers whole before = record { has = λ l e. covers.has l ((covers_front before (d.literal ∷ literals_of decisions)).has l e) } in
      let first = unshut_before nodes clauses whole learned unshut before path.0.learned held path.0.quiet in (
        follows_from before d.literal path.0.learned first path.0,
        path_branch whole learned unshut (before ++ d.literal ∷ []) decisions (subst (Covers whole) (sym (append_assoc before (d.literal ∷ []) (literals_of decisions))) covers) path.2,
      )

  pub branch_with : (before first : List Lit) (l : Lit) → IsBranchAfter set nodes clauses before first → MayFollow set nodes clauses (before ++ first) l → IsBranchAfter set nodes clauses before (first ++ l ∷ [])
  branch_with before [] l is follows = (subst (λ (ls : List Lit). MayFollow set nodes clauses ls l) (append-nil before) follows, tt)
  branch_with before (m ∷ first) l is follows = (is.0, branch_with (before ++ m ∷ []) first l is.1 (subst (λ (ls : List Lit). MayFollow set nodes clauses ls l) (sym (append_assoc before (m ∷ []) first)) follows))

  -- the branch of a path, where its last decision may follow those before it
  pub path_is_branch : (t : Trail) (kept : List Decision) (last : Decision) → t.decisions.items ≡ kept ++ last ∷ [] → IsPath set nodes clauses t → MayFollow set nodes clauses (literals_of kept) last.literal → IsBranch set nodes clauses (branch_of t)
  path_is_branch t kept last is path follows =
      let there = path_at [] kept last [] (subst (IsPathAfter set nodes clauses []) is path) in
      let first = path_branch (literals_of kept) follows.learned follows.unshut [] kept (covers_self (literals_of kept)) there.path in
      subst (IsBranchAfter set nodes clauses []) (sym (ap literals_of is ∙ mapped_append literal_of kept last)) (branch_with [] (literals_of kept) last.literal first follows)

-- more nodes, and clauses of later equalities, leave a path one
module _ (clauses added : List GroundClause) (nodes more : List Node) (table : IsTable more) (begins : take (length nodes) more ≡ nodes) (later : AreLater (length nodes) added) where
  pub path_later : (set : List Node) (before : List Lit) (decisions : List Decision) → IsPathAfter set nodes clauses before decisions → IsPathAfter set more (clauses ++ added) before decisions
  path_later set before [] is = tt
  path_later set before (d ∷ decisions) is = (
    next_later clauses added nodes more table begins later set before d.literal is.0,
    (λ closed. follows_later clauses added nodes more table begins later set before d.literal (is.1 closed)),
    path_later set (before ++ d.literal ∷ []) decisions is.2,
  )
