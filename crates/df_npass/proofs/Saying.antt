-- What is said, of all runs and of those on a path: it speaks of free terms that stand already, and says nothing of
-- runs that do not come there.
use Rattle.df_npass.proofs.Words.{◌≡◌, true, List, [], ◌∷◌, ◌++◌, Option, None, Some, refl, AllByRecursion, Term, Interpretation, truth, Said, Known, Owed, option_map_or, ℕ, ◌≤◌, false, map, flat_map, Pos, Expr, Clause, Measure, Operand, Text, Shown, Kind, either, sort_of_type, Numbers, Truths, Characters, Sort, Environment, Condition, term_of, conditions_of, Measured, measured, below_of, same_of, is_below, is_same, are_below, IsBelow, below_grows, AreBelow, term_below, conditions_below, Way, on_path, narrowed_path, assume, assume_all, assert, assert_all, assert_clauses, assume_clauses, assert_expr, assert_measure, assert_operand, all_joined}
use Rattle.df_nterm.specs.Term as ops
pub use Rattle.df_nterm.proofs.Paths.{path_true, off_path, on_it, narrowed_true, narrowed_false}
pub use Rattle.df_nterm.proofs.Below.{PathBelow, on_path_below, narrowed_below}

abbrev pub formula_of : Said → Term
formula_of (Known formula) = formula
formula_of (Owed at kind formula) = formula

abbrev pub AllTrue : Interpretation → List Said → Type 0
AllTrue i said = AllByRecursion (λ (x : Said). truth i (formula_of x) ≡ true) said

-- what has a property has a weaker one
pub all_weaken : {A : Type 0} (P Q : A → Type 0) → ((a : A) → P a → Q a) → (xs : List A) → AllByRecursion P xs → AllByRecursion Q xs
all_weaken P Q f [] h = tt
all_weaken P Q f (x ∷ xs) h = (f x h.0, all_weaken P Q f xs h.1)

-- what is done with what may be there
pub by_option : {A B : Type 0} (P : B → Type 0) (f : A → B) (o : Option A) (d : B) → (o ≡ None → P d) → ((a : A) → o ≡ Some a → P (f a)) → P (option_map_or f o d)
by_option P f None d none some = none refl
by_option P f (Some a) d none some = some a refl

abbrev pub AllBelow : ℕ → List Said → Type 0
AllBelow n said = AllByRecursion (λ (x : Said). IsBelow n (formula_of x)) said

abbrev pub EnvBelow : ℕ → Environment → Type 0
EnvBelow n env = (local : ℕ) → IsBelow n (env local)

-- of runs on a path
pub record Proper (n : ℕ) (path : Option Term) (said : List Said) : Type 0 where
  pub below : AllBelow n said
  pub off : (i : Interpretation) → path_true i path ≡ false → AllTrue i said

-- ---- growing

pub path_grows : (n m : ℕ) (path : Option Term) → n ≤ m → PathBelow n path → PathBelow m path
path_grows n m None more h = tt
path_grows n m (Some path) more h = below_grows n m more path h

pub env_grows : (n m : ℕ) (env : Environment) → n ≤ m → EnvBelow n env → EnvBelow m env
env_grows n m env more h = λ local. below_grows n m more (env local) (h local)

pub proper_grows : (n m : ℕ) (path : Option Term) (said : List Said) → n ≤ m → Proper n path said → Proper m path said
proper_grows n m path said more h = record { below = all_weaken (λ (x : Said). IsBelow n (formula_of x)) (λ (x : Said). IsBelow m (formula_of x)) (λ x. below_grows n m more (formula_of x)) said h.below; off = h.off }

pub nothing_proper : (n : ℕ) (path : Option Term) → Proper n path []
nothing_proper n path = record { below = tt; off = λ i e. tt }

pub append_proper : (n : ℕ) (path : Option Term) (said more : List Said) → Proper n path said → Proper n path more → Proper n path (said ++ more)
append_proper n path said more h g = record { below = all_joined (λ (x : Said). IsBelow n (formula_of x)) said more h.below g.below; off = λ i e. all_joined _ said more (h.off i e) (g.off i e) }

-- ---- on paths

-- what is proper on a narrower path is on a wider one
pub wider : (n : ℕ) (path : Option Term) (formula : Term) (said : List Said) → Proper n (Some (narrowed_path path formula)) said → Proper n path said
wider n path formula said h = record { below = h.below; off = λ i e. h.off i (narrowed_false i path formula e) }

pub known_proper : (n : ℕ) (path : Option Term) (formula : Term) → PathBelow n path → IsBelow n formula → Proper n path (assume path formula)
known_proper n path formula h g = record { below = (on_path_below n path formula h g, tt); off = λ i e. (off_path i path formula e, tt) }

pub owed_proper : (n : ℕ) (path : Option Term) (at : Pos) (kind : Kind) (formula : Term) → PathBelow n path → IsBelow n formula → Proper n path (assert path at kind formula)
owed_proper n path at kind formula h g = record { below = (on_path_below n path formula h g, tt); off = λ i e. (off_path i path formula e, tt) }

conditions_proper : (n : ℕ) (path : Option Term) (say : Condition → Said) → ((c : Condition) → formula_of (say c) ≡ on_path path c.formula) → (cs : List Condition) → PathBelow n path → AreBelow n cs → Proper n path (map say cs)
conditions_proper n path say is [] h g = nothing_proper n path
conditions_proper n path say is (c ∷ cs) h g =
    let more = conditions_proper n path say is cs h g.1 in
    record { below = (rw (is c) (on_path_below n path c.formula h g.0), more.below); off = λ i e. (rw (is c) (off_path i path c.formula e), more.off i e) }

pub asserted_proper : (n : ℕ) (path : Option Term) (cs : List Condition) → PathBelow n path → AreBelow n cs → Proper n path (assert_all path cs)
asserted_proper n path = conditions_proper n path (λ (c : Condition). Owed c.pos c.kind (on_path path c.formula)) (λ c. refl)

-- what is said of each
pub each_proper : {A : Type 0} (n : ℕ) (path : Option Term) (f : A → List Said) → ((a : A) → Proper n path (f a)) → (xs : List A) → Proper n path (flat_map f xs)
each_proper n path f h [] = nothing_proper n path
each_proper n path f h (x ∷ xs) = append_proper n path (f x) (flat_map f xs) (h x) (each_proper n path f h xs)

module _ (n : ℕ) (way : Way) (path : PathBelow n way.path) (env : EnvBelow n way.env) where
  pub expr_proper : (e : Expr) → Proper n way.path (assert_expr way e)
  expr_proper e = asserted_proper n way.path (conditions_of way.env e) path (conditions_below n way.env env e)

  pub clauses_proper : (place : Clause → Pos) (kind : Kind) (clauses : List Clause) → Proper n way.path (assert_clauses place kind way clauses)
  clauses_proper place kind clauses = each_proper n way.path _ (λ (clause : Clause). append_proper n way.path (assert_expr way clause.condition) _ (expr_proper clause.condition) (owed_proper n way.path (place clause) kind (term_of way.env clause.condition) path (term_below n way.env env clause.condition))) clauses

  pub handed_proper : (clauses : List Clause) → Proper n way.path (assume_clauses way clauses)
  handed_proper clauses = each_proper n way.path _ (λ (clause : Clause). append_proper n way.path (assume_all way.path (conditions_of way.env clause.condition)) _
      (conditions_proper n way.path (λ (c : Condition). Known (on_path way.path c.formula)) (λ c. refl) (conditions_of way.env clause.condition) path (conditions_below n way.env env clause.condition)) (known_proper n way.path (term_of way.env clause.condition) path (term_below n way.env env clause.condition))) clauses

  pub measure_proper : (measures : List Measure) → Proper n way.path (assert_measure way measures)
  measure_proper measures = each_proper n way.path _ (λ (measure : Measure). expr_proper measure.value) measures

  pub operand_proper : (operand : Operand) → Proper n way.path (assert_operand way operand)
  operand_proper (Text characters) = nothing_proper n way.path
  operand_proper (Shown ty value) = expr_proper value

-- ---- measures

abbrev pub MeasureBelow : ℕ → List Measured → Type 0
MeasureBelow n members = AllByRecursion (λ (one : Measured). IsBelow n one.value) members

pub measured_below : (n : ℕ) (env : Environment) → EnvBelow n env → (measures : List Measure) → MeasureBelow n (measured env measures)
measured_below n env h [] = tt
measured_below n env h (measure ∷ others) = (term_below n env h measure.value, measured_below n env h others)

pub measure_grows : (n m : ℕ) (members : List Measured) → n ≤ m → MeasureBelow n members → MeasureBelow m members
measure_grows n m members more = all_weaken (λ (one : Measured). IsBelow n one.value) (λ (one : Measured). IsBelow m one.value) (λ one. below_grows n m more one.value) members

module _ (n : ℕ) where
  below_sorted : (x y : Sort) (a b : Term) → IsBelow n a → IsBelow n b → IsBelow n (below_of x y a b)
  below_sorted Truths Truths a b h g = rw (h, g) refl
  below_sorted Characters Characters a b h g = rw (h, g) refl
  below_sorted Numbers Numbers a b h g = rw (h, g) refl
  below_sorted x y a b h g = refl

  same_sorted : (x y : Sort) (a b : Term) → IsBelow n a → IsBelow n b → IsBelow n (same_of x y a b)
  same_sorted Truths Truths a b h g = rw (h, g) refl
  same_sorted Characters Characters a b h g = rw (h, g) refl
  same_sorted Numbers Numbers a b h g = rw (h, g) refl
  same_sorted x y a b h g = refl

  step_below : (a b : Measured) (rest : Term) → IsBelow n a.value → IsBelow n b.value → IsBelow n rest → IsBelow n (either (is_below a b) (ops.both (is_same a b) rest))
  step_below a b rest h g e = rw (below_sorted (sort_of_type a.ty) (sort_of_type b.ty) a.value b.value h g, same_sorted (sort_of_type a.ty) (sort_of_type b.ty) a.value b.value h g, e) refl

  pub order_below : (now before : List Measured) → MeasureBelow n now → MeasureBelow n before → IsBelow n (are_below now before)
  order_below [] before h g = refl
  order_below (a ∷ more) [] h g = refl
  order_below (a ∷ []) (b ∷ []) h g = below_sorted (sort_of_type a.ty) (sort_of_type b.ty) a.value b.value h.0 g.0
  order_below (a ∷ []) (b ∷ c ∷ others) h g = step_below a b (are_below [] (c ∷ others)) h.0 g.0 refl
  order_below (a ∷ c ∷ more) (b ∷ others) h g = step_below a b (are_below (c ∷ more) others) h.0 g.0 (order_below (c ∷ more) others h.1 g.1)
