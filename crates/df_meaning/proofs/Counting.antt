-- Runs that count: laws of binding, and expressions all of whose reads have values.
use Rattle.std.proofs.Common.{◌≡◌, ℕ, suc, ℤ, neg_ℤ, Bool, true, false, if◌then◌else◌, List, [], ◌∷◌, ◌++◌, length, is_some, Option, Some, None, refl, sym, ap, subst, arith}
use Rattle.std.specs.Ordering.{int_eq}
use Rattle.std.specs.List.{flat_map}
use Rattle.df_base.specs.declared.pos.Pos.{Pos}
use Rattle.df_lang.specs.declared.ty.Ty.{Ty}
use Rattle.df_lang.specs.declared.ty.Ty.TheVariants as types
use Rattle.df_lang.specs.declared.expr.FactorOperator.{FactorOperator}
use Rattle.df_lang.specs.declared.expr.FactorOperator.TheVariants as factors
use Rattle.df_lang.specs.declared.expr.Junction.{Junction as JunctionKind}
use Rattle.df_lang.specs.declared.expr.Junction.TheVariants as junctions
use Rattle.df_lang.specs.declared.expr.Comparison.{Comparison}
use Rattle.df_lang.specs.declared.expr.Comparison.TheVariants as comparisons
use Rattle.df_lang.specs.Expr.{Expr, Number, Truth, Character, Local, Negate, Not, Sum, Product, Junction, Implies, Iff, Chain, As, Convert, Addends, no_addend, addend, Factors, no_factor, factor, Members, no_member, member, Links, no_link, link}
use Rattle.df_lang.specs.Stmt.{Conversion, Clause, Measure}
use Rattle.df_lang.specs.Program.{Program}
use Rattle.df_lang.specs.Measures.{distance, comparison_measure, guard_measure, measure_of_number, loop_measure}
use Rattle.df_lang.specs.Assignment.{Use, reads, reads_of_addends, reads_of_factors, reads_of_members, reads_of_links, reads_of_clauses, reads_of_measures, Assigned, Unreached, Reached, has_value, unassigned}
use Rattle.df_meaning.specs.declared.kind.Kind.{Kind}
use Rattle.df_meaning.specs.declared.kind.Kind.TheVariants as kinds
use Rattle.df_meaning.specs.Value.{Value, number_of, truth_of, same_truth}
use Rattle.df_meaning.specs.Value as values
use Rattle.df_meaning.specs.Types.{is_in}
use Rattle.df_meaning.specs.Outcome.{Outcome, Gives, Wrong, TooDeep, NoChoice, Dismissed, after}
use Rattle.df_meaning.specs.State.{State, value_at}
use Rattle.df_meaning.specs.Meaning.{Meaning}
use Rattle.df_meaning.specs.Evaluation.{in_range, value_in, as_type, converted, summed, multiplied, compare, decides, value_of_local, evaluate, evaluate_addends, evaluate_factors, evaluate_junction, evaluate_implications, evaluate_equivalences, evaluate_links}
use Rattle.df_meaning.specs.Execution.{evaluate_all, check_all, convert_all}
use Rattle.df_meaning.specs.Whole.{check_call}
use Rattle.df_meaning.specs.Modular.{measure_values}
use Rattle.df_meaning.specs.Definite.{Counts, HasValue, AreAssigned}
use Rattle.df_meaning.proofs.Cases.{IfGives, choice}

-- ---- binding

pub after_counts : {A B : Type 0} (P : A → Type 0) (Q : B → Type 0) (o : Outcome A) (f : A → Outcome B) → Counts P o → ((a : A) → P a → Counts Q (f a)) → Counts Q (after o f)
after_counts P Q (Gives a) f h k = k a h
after_counts P Q (Wrong at kind) f h k = tt
after_counts P Q TooDeep f h k = tt
after_counts P Q NoChoice f h k = h
after_counts P Q Dismissed f h k = h

-- it has a value, of which nothing more is said
abbrev pub IsValue : Value → Type 0
IsValue v = Unit {0}

-- they have values
abbrev pub AreValues : List Value → Type 0
AreValues vs = Unit {0}

pub then_counts : {B : Type 0} (Q : B → Type 0) (o : Outcome Value) (f : Value → Outcome B) → Counts IsValue o → ((v : Value) → Counts Q (f v)) → Counts Q (after o f)
then_counts Q o f h k = after_counts IsValue Q o f h (λ v u. k v)

pub counts_more : {A : Type 0} (P Q : A → Type 0) (o : Outcome A) → ((a : A) → P a → Q a) → Counts P o → Counts Q o
counts_more P Q (Gives a) f h = f a h
counts_more P Q (Wrong at kind) f h = tt
counts_more P Q TooDeep f h = tt
counts_more P Q NoChoice f h = h
counts_more P Q Dismissed f h = h

-- what holds of what is given holds besides
pub counts_both : {A : Type 0} (P Q : A → Type 0) (o : Outcome A) → Counts P o → IfGives Q o → Counts (λ (a : A). P a × Q a) o
counts_both P Q (Gives a) h k = (h, k)
counts_both P Q (Wrong at kind) h k = tt
counts_both P Q TooDeep h k = tt
counts_both P Q NoChoice h k = h
counts_both P Q Dismissed h k = h

pub not_dismissed : {A : Type 0} (P : A → Type 0) (o : Outcome A) → Counts P o → o ≡ Dismissed → ⊥
not_dismissed {A} P o h e = let g : Counts {A = A} P Dismissed = subst (λ x. Counts P x) e h in g

pub has_choice : {A : Type 0} (P : A → Type 0) (o : Outcome A) → Counts P o → o ≡ NoChoice → ⊥
has_choice {A} P o h e = let g : Counts {A = A} P NoChoice = subst (λ x. Counts P x) e h in g

-- ---- lists of uses

pub nothing_missing : {A : Type 0} (xs ys : List A) → xs ++ ys ≡ [] → (xs ≡ []) × (ys ≡ [])
nothing_missing [] ys e = (refl, e)
nothing_missing (x ∷ xs) ys e = cc

abbrev if_has : Bool → Use → List Use → List Use
if_has b u others = if b then others else u ∷ others

if_parted : (b : Bool) (u : Use) (xs ys zs : List Use) → (xs ≡ [] → (ys ≡ []) × (zs ≡ [])) → if_has b u xs ≡ [] → (if_has b u ys ≡ []) × (zs ≡ [])
if_parted true u xs ys zs h e = h e
if_parted false u xs ys zs h e = cc

if_joined : (b : Bool) (u : Use) (xs zs : List Use) → (xs ≡ [] → zs ≡ []) → if_has b u xs ≡ [] → if_has b u zs ≡ []
if_joined true u xs zs h e = h e
if_joined false u xs zs h e = cc

pub parted : (before : Assigned) (us vs : List Use) → unassigned before (us ++ vs) ≡ [] → (unassigned before us ≡ []) × (unassigned before vs ≡ [])
parted before [] vs e = (refl, e)
parted before (u ∷ us) vs e = if_parted (has_value before u.local) u (unassigned before (us ++ vs)) (unassigned before us) (unassigned before vs) (λ h. parted before us vs h) e

pub joined_uses : (before : Assigned) (us vs : List Use) → unassigned before us ≡ [] → unassigned before vs ≡ [] → unassigned before (us ++ vs) ≡ []
joined_uses before [] vs e f = f
joined_uses before (u ∷ us) vs e f = if_joined (has_value before u.local) u (unassigned before us) (unassigned before (us ++ vs)) (λ h. joined_uses before us vs h f) e

if_there : (b : Bool) (u : Use) (others : List Use) → if_has b u others ≡ [] → b ≡ true
if_there true u others e = refl
if_there false u others e = cc

-- the first use has a value
pub use_has : (before : Assigned) (u : Use) (others : List Use) → unassigned before (u ∷ others) ≡ [] → has_value before u.local ≡ true
use_has before u others e = if_there (has_value before u.local) u (unassigned before others) e

pub use_there : (before : Assigned) (u : Use) (others : List Use) → has_value before u.local ≡ true → unassigned before others ≡ [] → unassigned before (u ∷ others) ≡ []
use_there before u others e h = subst (λ (b : Bool). if_has b u (unassigned before others) ≡ []) (sym e) h

pub assigned_has : (before : Assigned) (s : State) (local : ℕ) → AreAssigned before s → has_value before local ≡ true → HasValue s local
assigned_has Unreached s local h e = absurd h
assigned_has (Reached set) s local h e = h local e

-- ---- the measure of a loop

module _ (before : Assigned) where
  -- what may be there reads what has a value
  abbrev MayRead : Option Expr → Type 0
  MayRead None = Unit {0}
  MayRead (Some e) = unassigned before (reads e) ≡ []

  distance_reads : (ty : Ty) (at : Pos) (low high : Expr) → unassigned before (reads low) ≡ [] → unassigned before (reads high) ≡ [] → unassigned before (reads (distance ty at low high)) ≡ []
  distance_reads ty at low high h k = joined_uses before (reads high) (reads low ++ []) k (joined_uses before (reads low) [] h refl)

  comparison_reads : (ty : Ty) (at : Pos) (a : Expr) (comparison : Comparison) (b : Expr) → unassigned before (reads a) ≡ [] → unassigned before (reads b) ≡ [] → MayRead (comparison_measure ty at a comparison b)
  comparison_reads types.Bool at a comparison b h k = tt
  comparison_reads types.Char at a comparison b h k = tt
  comparison_reads ty at a comparisons.Less b h k = distance_reads ty at a b h k
  comparison_reads ty at a comparisons.AtMost b h k = distance_reads ty at a b h k
  comparison_reads ty at a comparisons.Greater b h k = distance_reads ty at b a k h
  comparison_reads ty at a comparisons.AtLeast b h k = distance_reads ty at b a k h
  comparison_reads ty at a comparison b h k = tt

  guard_reads : (guard : Expr) → unassigned before (reads guard) ≡ [] → MayRead (guard_measure guard)
  guard_reads (Chain ty first (link comparison at operand no_link)) h =
      let h = parted before (reads first) (reads operand ++ []) h in comparison_reads ty at first comparison operand h.0 (parted before (reads operand) [] h.1).0
  guard_reads (Junction junctions.And first rest) h = guard_reads first (parted before (reads first) (reads_of_members rest) h).0
  guard_reads guard h = tt

  number_reads : (o : Option Expr) → MayRead o → unassigned before (reads_of_measures (Some (measure_of_number o))) ≡ []
  number_reads None h = refl
  number_reads (Some e) h = joined_uses before (reads e) [] h refl

  pub loop_measure_reads : (guard : Expr) (decreases : Option (List Measure)) → unassigned before (reads guard) ≡ [] → unassigned before (reads_of_measures decreases) ≡ [] → unassigned before (reads_of_measures (Some (loop_measure guard decreases))) ≡ []
  loop_measure_reads guard None h k = number_reads (guard_measure guard) (guard_reads guard h)
  loop_measure_reads guard (Some measures) h k = k

-- ---- values

range_counts : (p : Program) (ty : Ty) (at : Pos) (z : ℤ) → Counts IsValue (in_range p ty at z)
range_counts p ty at z = choice (Counts IsValue) (is_in p ty z) (Gives (values.Number z)) (Wrong at kinds.Range) tt tt

cast_counts : (p : Program) (ty : Ty) (at : Pos) (z : ℤ) → Counts IsValue (as_type p ty at z)
cast_counts p ty at z = choice (Counts IsValue) (is_in p ty z) (Gives (value_in ty z)) (Wrong at kinds.Range) tt tt

converted_counts : (p : Program) (source target : Ty) (at : Pos) (v : Value) → Counts IsValue (converted p source target at v)
converted_counts p types.Int types.Nat at v = range_counts p types.Nat at (number_of v)
converted_counts p source target at v = tt

multiplied_counts : (p : Program) (operator : FactorOperator) (ty : Ty) (at : Pos) (a b : ℤ) → Counts IsValue (multiplied p operator ty at a b)
multiplied_counts p factors.Times ty at a b = range_counts p ty at _
multiplied_counts p factors.Divide ty at a b = choice (Counts IsValue) (int_eq b _) (Wrong at kinds.Divisor) _ tt (range_counts p ty at _)
multiplied_counts p factors.Modulo ty at a b = choice (Counts IsValue) (int_eq b _) (Wrong at kinds.Divisor) _ tt (range_counts p ty at _)

local_counts : (o : Option Value) → is_some o ≡ true → Counts IsValue (value_of_local o)
local_counts None e = cc
local_counts (Some v) e = tt

-- ---- expressions

module _ (m : Meaning) (before : Assigned) (s : State) (assigned : AreAssigned before s) where
  mutual
    pub evaluate_counts : (e : Expr) → unassigned before (reads e) ≡ [] → Counts IsValue (evaluate m s e)
    evaluate_counts (Number ty value at) h = range_counts m.program ty at value
    evaluate_counts (Truth value at) h = tt
    evaluate_counts (Character code at) h = tt
    evaluate_counts (Local local name at) h = local_counts (value_at s local) (assigned_has before s local assigned (use_has before (record { local = local; name = name; pos = at }) [] h))
    evaluate_counts (Negate ty at operand) h = then_counts IsValue (evaluate m s operand) _ (evaluate_counts operand h) (λ v. range_counts m.program ty at (neg_ℤ (number_of v)))
    evaluate_counts (Not at operand) h = then_counts IsValue (evaluate m s operand) _ (evaluate_counts operand h) (λ v. tt)
    evaluate_counts (Sum ty first rest) h =
        let h = parted before (reads first) (reads_of_addends rest) h in then_counts IsValue (evaluate m s first) _ (evaluate_counts first h.0) (λ v. addends_count rest ty v h.1)
    evaluate_counts (Product ty first rest) h =
        let h = parted before (reads first) (reads_of_factors rest) h in then_counts IsValue (evaluate m s first) _ (evaluate_counts first h.0) (λ v. factors_count rest ty v h.1)
    evaluate_counts (Junction junction first rest) h =
        let h = parted before (reads first) (reads_of_members rest) h in then_counts IsValue (evaluate m s first) _ (evaluate_counts first h.0) (λ v. junction_counts rest junction v h.1)
    evaluate_counts (Implies arrow first rest) h =
        let h = parted before (reads first) (reads_of_members rest) h in then_counts IsValue (evaluate m s first) _ (evaluate_counts first h.0) (λ v. implications_count rest v h.1)
    evaluate_counts (Iff first rest) h =
        let h = parted before (reads first) (reads_of_members rest) h in then_counts IsValue (evaluate m s first) _ (evaluate_counts first h.0) (λ v. equivalences_count rest v h.1)
    evaluate_counts (Chain ty first rest) h =
        let h = parted before (reads first) (reads_of_links rest) h in then_counts IsValue (evaluate m s first) _ (evaluate_counts first h.0) (λ v. links_count rest v h.1)
    evaluate_counts (As source target at operand) h = then_counts IsValue (evaluate m s operand) _ (evaluate_counts operand h) (λ v. cast_counts m.program target at (number_of v))
    evaluate_counts (Convert source target at operand) h = then_counts IsValue (evaluate m s operand) _ (evaluate_counts operand h) (λ v. converted_counts m.program source target at v)

    addends_count : (rest : Addends) (ty : Ty) (v : Value) → unassigned before (reads_of_addends rest) ≡ [] → Counts IsValue (evaluate_addends m s ty v rest)
    addends_count no_addend ty v h = tt
    addends_count (addend operator at operand rest) ty v h =
        let h = parted before (reads operand) (reads_of_addends rest) h in
        then_counts IsValue (evaluate m s operand) _ (evaluate_counts operand h.0) (λ w.
        then_counts IsValue (in_range m.program ty at (summed operator (number_of v) (number_of w))) _ (range_counts m.program ty at _) (λ u. addends_count rest ty u h.1))

    factors_count : (rest : Factors) (ty : Ty) (v : Value) → unassigned before (reads_of_factors rest) ≡ [] → Counts IsValue (evaluate_factors m s ty v rest)
    factors_count no_factor ty v h = tt
    factors_count (factor operator at operand rest) ty v h =
        let h = parted before (reads operand) (reads_of_factors rest) h in
        then_counts IsValue (evaluate m s operand) _ (evaluate_counts operand h.0) (λ w.
        then_counts IsValue (multiplied m.program operator ty at (number_of v) (number_of w)) _ (multiplied_counts m.program operator ty at (number_of v) (number_of w)) (λ u. factors_count rest ty u h.1))

    junction_counts : (rest : Members) (junction : JunctionKind) (v : Value) → unassigned before (reads_of_members rest) ≡ [] → Counts IsValue (evaluate_junction m s junction v rest)
    junction_counts no_member junction v h = tt
    junction_counts (member at operand rest) junction v h =
        let h = parted before (reads operand) (reads_of_members rest) h in
        choice (Counts IsValue) (decides junction (truth_of v)) (Gives v) _ tt (then_counts IsValue (evaluate m s operand) _ (evaluate_counts operand h.0) (λ w. junction_counts rest junction w h.1))

    implications_count : (rest : Members) (v : Value) → unassigned before (reads_of_members rest) ≡ [] → Counts IsValue (evaluate_implications m s v rest)
    implications_count no_member v h = tt
    implications_count (member at operand rest) v h =
        let h = parted before (reads operand) (reads_of_members rest) h in
        choice (Counts IsValue) (truth_of v) _ (Gives (values.Truth true)) (then_counts IsValue (evaluate m s operand) _ (evaluate_counts operand h.0) (λ w. implications_count rest w h.1)) tt

    equivalences_count : (rest : Members) (v : Value) → unassigned before (reads_of_members rest) ≡ [] → Counts IsValue (evaluate_equivalences m s v rest)
    equivalences_count no_member v h = tt
    equivalences_count (member at operand rest) v h =
        let h = parted before (reads operand) (reads_of_members rest) h in
        then_counts IsValue (evaluate m s operand) _ (evaluate_counts operand h.0) (λ w. equivalences_count rest (values.Truth (same_truth (truth_of v) (truth_of w))) h.1)

    links_count : (rest : Links) (v : Value) → unassigned before (reads_of_links rest) ≡ [] → Counts IsValue (evaluate_links m s v rest)
    links_count no_link v h = tt
    links_count (link comparison at operand rest) v h =
        let h = parted before (reads operand) (reads_of_links rest) h in
        then_counts IsValue (evaluate m s operand) _ (evaluate_counts operand h.0) (λ w. choice (Counts IsValue) (compare comparison v w) _ (Gives (values.Truth false)) (links_count rest w h.1) tt)

  pub values_count : (es : List Expr) → unassigned before (flat_map reads es) ≡ [] → Counts (λ (vs : List Value). length vs ≡ length es) (evaluate_all m s es)
  values_count [] h = refl
  values_count (e ∷ others) h =
      let h = parted before (reads e) (flat_map reads others) h in
      then_counts (λ (vs : List Value). length vs ≡ suc (length others)) (evaluate m s e) _ (evaluate_counts e h.0) (λ v.
      after_counts (λ (vs : List Value). length vs ≡ length others) (λ (vs : List Value). length vs ≡ suc (length others)) (evaluate_all m s others) _ (values_count others h.1) (λ vs k. ap suc k))

  pub checks_count : (kind : Kind) (clauses : List Clause) → unassigned before (reads_of_clauses clauses) ≡ [] → Counts (λ (t : State). t ≡ s) (check_all m s kind clauses)
  checks_count kind [] h = refl
  checks_count kind (clause ∷ others) h =
      let h = parted before (reads clause.condition) (reads_of_clauses others) h in
      then_counts (λ (t : State). t ≡ s) (evaluate m s clause.condition) _ (evaluate_counts clause.condition h.0) (λ v.
      choice (Counts (λ (t : State). t ≡ s)) (truth_of v) _ (Wrong clause.pos kind) (checks_count kind others h.1) tt)

  pub owed_counts : (at : Pos) (clauses : List Clause) → unassigned before (reads_of_clauses clauses) ≡ [] → Counts (λ (t : State). t ≡ s) (check_call m s at clauses)
  owed_counts at [] h = refl
  owed_counts at (clause ∷ others) h =
      let h = parted before (reads clause.condition) (reads_of_clauses others) h in
      then_counts (λ (t : State). t ≡ s) (evaluate m s clause.condition) _ (evaluate_counts clause.condition h.0) (λ v.
      choice (Counts (λ (t : State). t ≡ s)) (truth_of v) _ (Wrong at kinds.Requires) (owed_counts at others h.1) tt)

  -- ---- measures

  pub measures_count : (measures : List Measure) → unassigned before (reads_of_measures (Some measures)) ≡ [] → Counts AreValues (measure_values m s measures)
  measures_count [] h = tt
  measures_count (measure ∷ others) h =
      let h = parted before (reads measure.value) (reads_of_measures (Some others)) h in
      then_counts AreValues (evaluate m s measure.value) _ (evaluate_counts measure.value h.0) (λ v.
      after_counts AreValues AreValues (measure_values m s others) _ (measures_count others h.1) (λ vs k. tt))

  pub loop_measure_counts : (guard : Expr) (decreases : Option (List Measure)) → unassigned before (reads guard) ≡ [] → unassigned before (reads_of_measures decreases) ≡ []
      → Counts AreValues (measure_values m s (loop_measure guard decreases))
  loop_measure_counts guard decreases h k = measures_count (loop_measure guard decreases) (loop_measure_reads before guard decreases h k)

pub conversions_count : (m : Meaning) (at : Pos) (cs : List Conversion) (vs : List Value) → length cs ≡ length vs → Counts (λ (ws : List Value). length ws ≡ length cs) (convert_all m at cs vs)
conversions_count m at [] vs e = refl
conversions_count m at (c ∷ cs) [] e = cc
conversions_count m at (c ∷ cs) (v ∷ vs) e =
    let rest : length cs ≡ length vs = omega (arith, e) in
    then_counts (λ (ws : List Value). length ws ≡ suc (length cs)) (converted m.program c.source c.target at v) _ (converted_counts m.program c.source c.target at v) (λ w.
    after_counts (λ (ws : List Value). length ws ≡ length cs) (λ (ws : List Value). length ws ≡ suc (length cs)) (convert_all m at cs vs) _ (conversions_count m at cs vs rest) (λ ws k. ap suc k))
