-- More depth keeps the value of an expression.
use Rattle.std.proofs.Common.{◌≡◌, ℕ, List, [], ◌∷◌, filter, refl, subst}
use Rattle.df_base.specs.declared.pos.Pos.{Pos}
use Rattle.df_types.specs.declared.expr.Connective.{Connective}
use Rattle.df_types.specs.declared.expr.Quantifier.{Quantifier}
use Rattle.df_types.specs.Ty.{Ty, Tys, instances_of}
use Rattle.df_types.specs.Op.{Op}
use Rattle.df_types.specs.Expr.{Expr, Local, Bound, Apply, Junction, Chain, If, Let, Call, Quantify, Old, Exprs, no_expr, expr, Links, no_link, link, Arms, no_arm, arm, Extent, Between, Among}
use Rattle.df_types.specs.Stmt.{Demand, Typed}
use Rattle.df_types.specs.Program.{Program}
use Rattle.df_meaning2.specs.Value.{Value, truth_of}
use Rattle.df_meaning2.specs.Outcome.{Outcome, ◌⊑◌}
use Rattle.df_meaning2.specs.Types.{is_of}
use Rattle.df_meaning2.specs.Answer.{answer, compare}
use Rattle.df_meaning2.specs.State.{State, with_bound}
use Rattle.df_meaning2.specs.Meaning.{Meaning, answered, view_of, each, ends, led, at_entry, evaluate, evaluate_all, evaluate_lazily, evaluate_links, evaluate_arms, evaluate_range, of_type, check, check_all, assume_all, measured}
use Rattle.df_meaning2.specs.Growing.{MeansLess}
use Rattle.df_meaning2.proofs.Outcomes.{same_grows, after_grows, choice_grows}

pub each_grows : (q : Quantifier) (f g : Value → Outcome Value) → ((v : Value) → f v ⊑ g v) → (vs : List Value) → each q f vs ⊑ each q g vs
each_grows q f g h [] = refl
each_grows q f g h (v ∷ vs) = after_grows _ _ _ _ (h v) (λ a. after_grows _ _ _ _ (each_grows q f g h vs) (λ b. refl))

-- ---- two meanings of one program

abbrev pub Applying : Type 0
Applying = Pos → ℕ → Tys → List Value → State → Outcome Value

abbrev with_apply : Program → (ℕ → ℕ) → Applying → Meaning
with_apply p first f = record { program = p; first = first; apply = f }

module _ (p : Program) (first : ℕ → ℕ) (f g : Applying) (h : (at : Pos) (callee : ℕ) (types : Tys) (vs : List Value) (s : State) → f at callee types vs s ⊑ g at callee types vs s) where
  mutual
    grows : (s : State) (e : Expr) → evaluate (with_apply p first f) s e ⊑ evaluate (with_apply p first g) s e
    grows s (Local local name at) = same_grows _
    grows s (Bound index name at) = same_grows _
    grows s (Apply op at es) = after_grows _ _ _ _ (grow_all s es) (λ vs. same_grows _)
    grows s (Junction connective e rest) = after_grows _ _ _ _ (grows s e) (λ v. lazily_grows s connective v rest)
    grows s (Chain t e rest) = after_grows _ _ _ _ (grows s e) (λ v. links_grow s v rest)
    grows s (If t arms otherwise) = arms_grow s arms _ _ (grows s otherwise)
    grows s (Let variable is_ghost value body) = after_grows _ _ _ _ (grows s value) (λ v. grows (with_bound s v) body)
    grows s (Call callee types at es) = after_grows _ _ _ _ (grow_all s es) (λ vs. h at callee (instances_of s.types types) vs s)
    grows s (Quantify site at q variable extent triggers body) =
        after_grows _ _ _ _ (range_grows_here s extent) (λ vs. each_grows q _ _ (λ v. grows (with_bound s v) body) (led (first site) (filter (is_of p s.types variable.ty) vs)))
    grows s (Old at e) = grows (at_entry s) e

    grow_all : (s : State) (es : Exprs) → evaluate_all (with_apply p first f) s es ⊑ evaluate_all (with_apply p first g) s es
    grow_all s no_expr = refl
    grow_all s (expr e others) = after_grows _ _ _ _ (grows s e) (λ v. after_grows _ _ _ _ (grow_all s others) (λ vs. refl))

    lazily_grows : (s : State) (connective : Connective) (v : Value) (es : Exprs) → evaluate_lazily (with_apply p first f) s connective v es ⊑ evaluate_lazily (with_apply p first g) s connective v es
    lazily_grows s connective v no_expr = refl
    lazily_grows s connective v (expr e others) = choice_grows (ends connective (truth_of v)) _ _ _ _ refl (after_grows _ _ _ _ (grows s e) (λ w. lazily_grows s connective w others))

    links_grow : (s : State) (v : Value) (links : Links) → evaluate_links (with_apply p first f) s v links ⊑ evaluate_links (with_apply p first g) s v links
    links_grow s v no_link = refl
    links_grow s v (link c at e others) = after_grows _ _ _ _ (grows s e) (λ w. choice_grows (compare c v w) _ _ _ _ (links_grow s w others) refl)

    arms_grow : (s : State) (arms : Arms) (o q : Outcome Value) → o ⊑ q → evaluate_arms (with_apply p first f) s arms o ⊑ evaluate_arms (with_apply p first g) s arms q
    arms_grow s no_arm o q e = e
    arms_grow s (arm guard value rest) o q e = after_grows _ _ _ _ (grows s guard) (λ v. choice_grows (truth_of v) _ _ _ _ (grows s value) (arms_grow s rest o q e))

    range_grows_here : (s : State) (extent : Extent) → evaluate_range (with_apply p first f) s extent ⊑ evaluate_range (with_apply p first g) s extent
    range_grows_here s (Between t low a high b) = after_grows _ _ _ _ (grows s low) (λ v. after_grows _ _ _ _ (grows s high) (λ w. refl))
    range_grows_here s (Among t container) = after_grows _ _ _ _ (grows s container) (λ v. refl)

-- ---- and of equal ones

-- the other meaning is one of the same program
same_meaning : (m n : Meaning) → MeansLess m n → record { program = m.program; first = m.first; apply = n.apply } ≡ n
same_meaning m n h = λ i. record { program = h.program i; first = λ site. h.first site i; apply = n.apply }

pub evaluate_grows : (m n : Meaning) → MeansLess m n → (s : State) (e : Expr) → evaluate m s e ⊑ evaluate n s e
evaluate_grows m n h s e = subst (λ (x : Meaning). evaluate m s e ⊑ evaluate x s e) (same_meaning m n h) (grows m.program m.first m.apply n.apply h.apply s e)

pub all_grow : (m n : Meaning) → MeansLess m n → (s : State) (es : Exprs) → evaluate_all m s es ⊑ evaluate_all n s es
all_grow m n h s es = subst (λ (x : Meaning). evaluate_all m s es ⊑ evaluate_all x s es) (same_meaning m n h) (grow_all m.program m.first m.apply n.apply h.apply s es)

pub range_grows : (m n : Meaning) → MeansLess m n → (s : State) (extent : Extent) → evaluate_range m s extent ⊑ evaluate_range n s extent
range_grows m n h s extent = subst (λ (x : Meaning). evaluate_range m s extent ⊑ evaluate_range x s extent) (same_meaning m n h) (range_grows_here m.program m.first m.apply n.apply h.apply s extent)

pub row_grows : (m n : Meaning) → MeansLess m n → (s : State) (op : Op) (at : Pos) (vs : List Value) → answered at (answer (view_of m s) op vs) ⊑ answered at (answer (view_of n s) op vs)
row_grows m n h s op at vs = subst (λ (x : Meaning). answered at (answer (view_of m s) op vs) ⊑ answered at (answer (view_of x s) op vs)) (same_meaning m n h) (same_grows _)

pub of_type_grows : {B : Type 0} (m n : Meaning) → MeansLess m n → (s : State) (t : Ty) (vs : List Value) (f : List Value → Outcome B) → f (of_type m s t vs) ⊑ f (of_type n s t vs)
of_type_grows m n h s t vs f = subst (λ (x : Meaning). f (of_type m s t vs) ⊑ f (of_type x s t vs)) (same_meaning m n h) (same_grows _)

pub check_grows : (m n : Meaning) → MeansLess m n → (s : State) (d : Demand) → check m s d ⊑ check n s d
check_grows m n h s d = after_grows _ _ _ _ (evaluate_grows m n h s d.condition) (λ v. same_grows _)

pub check_all_grows : (m n : Meaning) → MeansLess m n → (s : State) (ds : List Demand) → check_all m s ds ⊑ check_all n s ds
check_all_grows m n h s [] = refl
check_all_grows m n h s (d ∷ ds) = after_grows _ _ _ _ (check_grows m n h s d) (λ t. check_all_grows m n h t ds)

pub assume_all_grows : (m n : Meaning) → MeansLess m n → (s : State) (es : List Expr) → assume_all m s es ⊑ assume_all n s es
assume_all_grows m n h s [] = refl
assume_all_grows m n h s (e ∷ es) = after_grows _ _ _ _ (evaluate_grows m n h s e) (λ v. choice_grows (truth_of v) _ _ _ _ (assume_all_grows m n h s es) refl)

pub measured_grows : (m n : Meaning) → MeansLess m n → (s : State) (xs : List Typed) → measured m s xs ⊑ measured n s xs
measured_grows m n h s [] = refl
measured_grows m n h s (x ∷ xs) = after_grows _ _ _ _ (evaluate_grows m n h s x.value) (λ v. after_grows _ _ _ _ (measured_grows m n h s xs) (λ vs. refl))
