-- Branches one after the other: each is passed where its guard is true, and what is left where it is false.
use Rattle.df_nflow.proofs.Words.{◌≡◌, ℕ, Bool, ◌||◌, ◌+◌, ◌<◌, true, List, ◌++◌, Some, drop, get_or, length, sym, ap, ◌∙◌, subst, rules, map-append, Pos, branch_of, stmts_in, branches_in, the_lemmas, Ty, Expr, expr_of, Program, Stmts, Branches, no_branch, branch, Branch, is_expr, all_joined, Node, Grows, Changed, drop_next, Environment, term_of, Measured, Term, negation, Way, narrowed, narrowed_path, Setting, Parted, last_of, assert_expr, pass_all, pass_branches, Ended, AreEnded, Parts, AllThere, Arrival, Arrive, Standing, also, at_path, are_over, are_branches_over, IsArrived, AreArrived, arrivals_in, ended_in, all_ended_in, DeclaredArrived}
use Rattle.df_lang.specs.declared.ty.Ty.TheVariants as tys
use Rattle.df_lang.specs.declared.stmt.Branch.{Branch as DeclaredBranch}
use Rattle.df_lemmas.proofs.Truths.{three}
use Rattle.df_nlocals.proofs.Branches.{branch_next}
use Rattle.df_nflow.proofs.Arriving.{all_there, ended_arrive}
use Rattle.df_nflow.proofs.Branching.{all_ended_same, arrivals_ended}
use Rattle.df_nflow.proofs.Going.{Parting, parting_on}
use Rattle.df_nflow.proofs.Waiting.{all_arrived_stay}

module _ (bs : List DeclaredBranch) (i : ℕ) (b : DeclaredBranch) (e : b ≡ get_or bs i b) (lt : i < length bs) where
  pub branch_over : (program : Program) (types : List Ty) → are_branches_over program types (branches_in (drop i bs)) ≡ true
      → (is_expr program types tys.Bool (expr_of b.guard) ≡ true) × (are_over program types (stmts_in b.body.items) ≡ true) × (are_branches_over program types (branches_in (drop (i + 1) bs)) ≡ true)
  branch_over program types is =
      three (is_expr program types tys.Bool (expr_of b.guard)) (are_over program types (stmts_in b.body.items)) (are_branches_over program types (branches_in (drop (i + 1) bs))) (sym (ap (are_branches_over program types) (branch_next bs i b e lt)) ∙ is)

-- the ways at the ends of one branch more
module _ (old new : List Node) (types now : List Ty) (g : Grows old new) (same : now ≡ types) (before one more : List DeclaredArrived) (e : more ≡ before ++ one) (are : AreArrived old types before) where
  pub arrived_more : AreArrived new now one → AreArrived new now more
  arrived_more all = subst (AreArrived new now) (sym e) (all_joined (IsArrived new now) before one (subst (λ (ts : List Ty). AreArrived new ts before) (sym same) (all_arrived_stay old new g types before are)) all)

  pub ended_more : all_ended_in new more ≡ all_ended_in old before ++ all_ended_in new one
  ended_more = ap (all_ended_in new) e ∙ map-append (ended_in new) before one ∙ ap (λ (es : List Ended). es ++ all_ended_in new one) (all_ended_same old new types g before are)

-- and where they come together
pub ended_there : (nodes : List Node) (changed : List Changed) (env : Environment) (all : List DeclaredArrived) (ways : List Way) → AreEnded changed env (all_ended_in nodes all) ways → AllThere 0 changed (arrivals_in nodes all)
ended_there nodes changed env all ways are = all_there changed (arrivals_in nodes all) ways (subst (λ (arrivals : List Arrival). Arrive changed arrivals ways) (sym (arrivals_ended nodes all)) (ended_arrive changed env (all_ended_in nodes all) ways are))

module _ (in_loop in_method changed : List Changed) (of_entry : List Measured → Setting) (otherwise : Stmts) (first here : Standing) (whole left : Branches) (ended : List Ended) (lost : Bool) where
  abbrev passed_from : Standing → Branches → Parted
  passed_from s bs = pass_branches (of_entry first.entry) s.way bs (λ (way : Way). pass_all (of_entry first.entry) way otherwise) s.fresh

  module _ (g : Parting in_loop in_method changed first (passed_from first whole) here (passed_from here left) ended lost) where
    pub part_next : (one all : List Ended) (l loses : Bool) → here.entry ≡ first.entry → all ≡ ended ++ one → loses ≡ (lost || l) → (mid next : Standing) (at : Pos) (guard : Expr) (body : Stmts) (rest : Branches) (past : Term) → left ≡ branch at guard body rest
        → mid ≡ at_path (narrowed here.way (term_of here.way.env guard)).path (also (assert_expr here.way guard) here)
        → Parts changed in_loop in_method mid (last_of (pass_all (of_entry mid.entry) mid.way body mid.fresh)) next one l
        → past ≡ narrowed_path here.way.path (negation (term_of here.way.env guard))
        → Parting in_loop in_method changed first (passed_from first whole) (at_path (Some past) next) (passed_from (at_path (Some past) next) rest) all loses
    part_next one all l loses same is_all is_lost mid next at guard body rest past is enters p behind =
        let g = subst (λ (bs : Branches). Parting in_loop in_method changed first (passed_from first whole) here (passed_from here bs) ended lost) is g in
        let inside = narrowed here.way (term_of here.way.env guard) in
        let p = subst (λ (s : Standing). Parts changed in_loop in_method s (last_of (pass_all (of_entry s.entry) s.way body s.fresh)) next one l) enters p in
        let p = subst (λ (entry : List Measured). Parts changed in_loop in_method (at_path inside.path (also (assert_expr here.way guard) here)) (last_of (pass_all (of_entry entry) inside body here.fresh)) next one l) same p in
        let left = λ (way : Way) (fresh : ℕ). pass_branches (of_entry first.entry) way rest (λ (last : Way). pass_all (of_entry first.entry) last otherwise) fresh in
        let by = parting_on in_loop in_method changed first here next (passed_from first whole) (assert_expr here.way guard) inside.path (Some past) (pass_all (of_entry first.entry) inside body here.fresh) (left (narrowed here.way (negation (term_of here.way.env guard)))) ended one lost l g p in
        let way : narrowed here.way (negation (term_of here.way.env guard)) ≡ record { env = next.way.env; path = Some past } = λ i. record { env = sym p.env i; path = Some (sym behind i) } in
        let by = subst (λ (w : Way). Parting in_loop in_method changed first (passed_from first whole) (at_path (Some past) next) (left w next.fresh) (ended ++ one) (lost || l)) way by in
        let by = subst (λ (b : Bool). Parting in_loop in_method changed first (passed_from first whole) (at_path (Some past) next) (passed_from (at_path (Some past) next) rest) (ended ++ one) b) (sym is_lost) by in
        subst (λ (es : List Ended). Parting in_loop in_method changed first (passed_from first whole) (at_path (Some past) next) (passed_from (at_path (Some past) next) rest) es loses) (sym is_all) by

    -- where all guards are false
    pub part_last : (real : Branches) → left ≡ no_branch → whole ≡ real → (last : Standing) (more : List Ended) (m : Bool) → Parts changed in_loop in_method here (last_of (pass_all (of_entry first.entry) here.way otherwise here.fresh)) last more m
        → Parts changed in_loop in_method first (passed_from first real) last (ended ++ more) (lost || m)
    part_last real is e last more m p =
        let g = subst (λ (bs : Branches). Parting in_loop in_method changed first (passed_from first whole) here (passed_from here bs) ended lost) is g in
        subst (λ (bs : Branches). Parts changed in_loop in_method first (passed_from first bs) last (ended ++ more) (lost || m)) e (g.by last more m p)

-- the branches, and then what is done where all guards are false
module _ (in_loop in_method whole one_changed last_changed : List Changed) (of_entry : List Measured → Setting) (branches : Branches) (otherwise : Stmts) (first mid last : Standing) (before one all : List Ended) (lost l loses : Bool) where
  abbrev parts_of_all : List Changed → List Ended → Bool → Type 0
  parts_of_all changed es b = Parts changed in_loop in_method first (pass_branches (of_entry first.entry) first.way branches (λ (way : Way). pass_all (of_entry first.entry) way otherwise) first.fresh) last es b

  pub if_parts : one_changed ≡ whole → last_changed ≡ whole → mid.entry ≡ first.entry → all ≡ before ++ one → loses ≡ (lost || l)
      → ((some : Stmts) (end : Standing) (ended : List Ended) (m : Bool) → Parts one_changed in_loop in_method mid (last_of (pass_all (of_entry first.entry) mid.way some mid.fresh)) end ended m
      → Parts one_changed in_loop in_method first (pass_branches (of_entry first.entry) first.way branches (λ (way : Way). pass_all (of_entry first.entry) way some) first.fresh) end (before ++ ended) (lost || m))
      → Parts last_changed in_loop in_method mid (last_of (pass_all (of_entry mid.entry) mid.way otherwise mid.fresh)) last one l
      → parts_of_all whole all loses
  if_parts e f same is_all is_lost by p =
      let p = subst (λ (cs : List Changed). Parts cs in_loop in_method mid (last_of (pass_all (of_entry mid.entry) mid.way otherwise mid.fresh)) last one l) (f ∙ sym e) p in
      let p = subst (λ (entry : List Measured). Parts one_changed in_loop in_method mid (last_of (pass_all (of_entry entry) mid.way otherwise mid.fresh)) last one l) same p in
      let together = subst (λ (cs : List Changed). parts_of_all cs (before ++ one) (lost || l)) e (by otherwise last one l p) in
      subst (λ (es : List Ended). parts_of_all whole es loses) (sym is_all) (subst (λ (b : Bool). parts_of_all whole (before ++ one) b) (sym is_lost) together)
