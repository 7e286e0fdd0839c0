-- What has a value keeps it where calls without one dismiss the run.
use Rattle.std.proofs.Common.{◌≡◌, ℕ, Bool, true, false, if◌then◌else◌, List, [], ◌∷◌, filter, refl, ap, ◌∙◌}
use Rattle.df_base.specs.declared.pos.Pos.{Pos}
use Rattle.df_types.specs.declared.expr.Connective.{Connective}
use Rattle.df_types.specs.declared.expr.Quantifier.{Quantifier}
use Rattle.df_types.specs.Ty.{Tys, instances_of}
use Rattle.df_types.specs.Expr.{Expr, Local, Bound, Apply, Junction, Chain, If, Let, Call, Quantify, Old, Exprs, no_expr, expr, Links, no_link, link, Arms, no_arm, arm, Extent, Between, Among}
use Rattle.df_types.specs.Stmt.{Typed}
use Rattle.df_types.specs.Program.{Program}
use Rattle.df_meaning2.specs.Value.{Value, truth_of}
use Rattle.df_meaning2.specs.Outcome.{Outcome, Gives, Wrong, TooDeep, NoChoice, Dismissed, after}
use Rattle.df_meaning2.specs.Types.{is_of}
use Rattle.df_meaning2.specs.Answer.{compare}
use Rattle.df_meaning2.specs.State.{State, with_bound}
use Rattle.df_meaning2.specs.Meaning.{Meaning, Measured, each, led, ends, at_entry, evaluate, evaluate_all, evaluate_lazily, evaluate_links, evaluate_arms, evaluate_range, measured}
use Rattle.df_meaning2.specs.Whole.{meaning_with}
use Rattle.df_meaning2.specs.Modular.{or_dismissed}
use Rattle.df_hoare2.proofs.Judging.{judge}
use Rattle.df_hoare2.proofs.Agreeing.{Respects}

abbrev Kept : {A : Type 0} → Outcome A → Outcome A → Type 0
Kept (Gives a) q = q ≡ Gives a
Kept (Wrong at kind) q = Unit {0}
Kept TooDeep q = Unit {0}
Kept NoChoice q = Unit {0}
Kept Dismissed q = Unit {0}

kept_self : {A : Type 0} (o : Outcome A) → Kept o o
kept_self (Gives a) = refl
kept_self (Wrong at kind) = tt
kept_self TooDeep = tt
kept_self NoChoice = tt
kept_self Dismissed = tt

kept_after : {A B : Type 0} (o q : Outcome A) (f g : A → Outcome B) → Kept o q → ((a : A) → Kept (f a) (g a)) → Kept (after o f) (after q g)
kept_after (Gives a) q f g e h = rw e (h a)
kept_after (Wrong at kind) q f g e h = tt
kept_after TooDeep q f g e h = tt
kept_after NoChoice q f g e h = tt
kept_after Dismissed q f g e h = tt

kept_choice : {A : Type 0} (b : Bool) (x y z w : Outcome A) → Kept x z → Kept y w → Kept (if b then x else y) (if b then z else w)
kept_choice true x y z w h k = h
kept_choice false x y z w h k = k

kept_each : (q : Quantifier) (f g : Value → Outcome Value) → ((v : Value) → Kept (f v) (g v)) → (vs : List Value) → Kept (each q f vs) (each q g vs)
kept_each q f g h [] = refl
kept_each q f g h (v ∷ vs) = kept_after _ _ _ _ (h v) (λ a. kept_after _ _ _ _ (kept_each q f g h vs) (λ b. refl))

dismissed_kept : {A : Type 0} (o : Outcome A) → Kept o (or_dismissed o)
dismissed_kept (Gives a) = refl
dismissed_kept (Wrong at kind) = tt
dismissed_kept TooDeep = tt
dismissed_kept NoChoice = tt
dismissed_kept Dismissed = tt

kept_gives : {A : Type 0} (o q : Outcome A) (a : A) → Kept o q → o ≡ Gives a → q ≡ Gives a
kept_gives (Gives b) q a h e = h ∙ e
kept_gives (Wrong at kind) q a h e = cc
kept_gives TooDeep q a h e = cc
kept_gives NoChoice q a h e = cc
kept_gives Dismissed q a h e = cc

abbrev pub Applying : Type 0
Applying = Pos → ℕ → Tys → List Value → State → Outcome Value

abbrev pub dismissed_by : Applying → Applying
dismissed_by f = λ at callee types vs s. or_dismissed (f at callee types vs s)

module _ (p : Program) (f : Applying) where
  abbrev W : Meaning
  W = meaning_with p f

  abbrev D : Meaning
  D = meaning_with p (dismissed_by f)

  pub dismissing_respects : Respects W → Respects D
  dismissing_respects h at callee types vs s locals rest = ap or_dismissed (h at callee types vs s locals rest)

  mutual
    kept : (s : State) (e : Expr) → Kept (evaluate W s e) (evaluate D s e)
    kept s (Local local name at) = kept_self _
    kept s (Bound index name at) = kept_self _
    kept s (Apply op at es) = kept_after _ _ _ _ (all_kept s es) (λ vs. kept_self _)
    kept s (Junction connective e rest) = kept_after _ _ _ _ (kept s e) (λ v. lazily_kept s connective v rest)
    kept s (Chain t e rest) = kept_after _ _ _ _ (kept s e) (λ v. links_kept s v rest)
    kept s (If t arms otherwise) = arms_kept s arms _ _ (kept s otherwise)
    kept s (Let variable is_ghost value body) = kept_after _ _ _ _ (kept s value) (λ v. kept (with_bound s v) body)
    kept s (Call callee types at es) = kept_after _ _ _ _ (all_kept s es) (λ vs. dismissed_kept (f at callee (instances_of s.types types) vs s))
    kept s (Quantify site at q variable extent triggers body) =
        kept_after _ _ _ _ (range_kept s extent) (λ vs. kept_each q _ _ (λ v. kept (with_bound s v) body) (led 0 (filter (is_of p s.types variable.ty) vs)))
    kept s (Old at e) = kept (at_entry s) e

    all_kept : (s : State) (es : Exprs) → Kept (evaluate_all W s es) (evaluate_all D s es)
    all_kept s no_expr = refl
    all_kept s (expr e others) = kept_after _ _ _ _ (kept s e) (λ v. kept_after _ _ _ _ (all_kept s others) (λ vs. refl))

    lazily_kept : (s : State) (connective : Connective) (v : Value) (es : Exprs) → Kept (evaluate_lazily W s connective v es) (evaluate_lazily D s connective v es)
    lazily_kept s connective v no_expr = refl
    lazily_kept s connective v (expr e others) = kept_choice (ends connective (truth_of v)) _ _ _ _ refl (kept_after _ _ _ _ (kept s e) (λ w. lazily_kept s connective w others))

    links_kept : (s : State) (v : Value) (links : Links) → Kept (evaluate_links W s v links) (evaluate_links D s v links)
    links_kept s v no_link = refl
    links_kept s v (link c at e others) = kept_after _ _ _ _ (kept s e) (λ w. kept_choice (compare c v w) _ _ _ _ (links_kept s w others) refl)

    arms_kept : (s : State) (arms : Arms) (o q : Outcome Value) → Kept o q → Kept (evaluate_arms W s arms o) (evaluate_arms D s arms q)
    arms_kept s no_arm o q e = e
    arms_kept s (arm guard value rest) o q e = kept_after _ _ _ _ (kept s guard) (λ v. kept_choice (truth_of v) _ _ _ _ (kept s value) (arms_kept s rest o q e))

    range_kept : (s : State) (extent : Extent) → Kept (evaluate_range W s extent) (evaluate_range D s extent)
    range_kept s (Between t low a high b) = kept_after _ _ _ _ (kept s low) (λ v. kept_after _ _ _ _ (kept s high) (λ w. refl))
    range_kept s (Among t container) = kept_after _ _ _ _ (kept s container) (λ v. refl)

  judge_kept : (s : State) (es : List Expr) → Kept (judge W s es) (judge D s es)
  judge_kept s [] = refl
  judge_kept s (e ∷ es) = kept_after _ _ _ _ (kept s e) (λ v. kept_choice (truth_of v) _ _ _ _ (judge_kept s es) refl)

  measured_kept : (s : State) (xs : List Typed) → Kept (measured W s xs) (measured D s xs)
  measured_kept s [] = refl
  measured_kept s (x ∷ xs) = kept_after _ _ _ _ (kept s x.value) (λ v. kept_after _ _ _ _ (measured_kept s xs) (λ vs. refl))

  pub keeps_value : (s : State) (e : Expr) (v : Value) → evaluate W s e ≡ Gives v → evaluate D s e ≡ Gives v
  keeps_value s e v h = kept_gives (evaluate W s e) (evaluate D s e) v (kept s e) h

  pub keeps_judgement : (s : State) (es : List Expr) (b : Bool) → judge W s es ≡ Gives b → judge D s es ≡ Gives b
  keeps_judgement s es b h = kept_gives (judge W s es) (judge D s es) b (judge_kept s es) h

  pub keeps_measure : (s : State) (xs : List Typed) (vs : List Measured) → measured W s xs ≡ Gives vs → measured D s xs ≡ Gives vs
  keeps_measure s xs vs h = kept_gives (measured W s xs) (measured D s xs) vs (measured_kept s xs) h
