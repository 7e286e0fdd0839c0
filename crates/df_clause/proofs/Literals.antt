-- The literals of ground clauses are of formulas.
use Rattle.std.proofs.Common.{◌≡◌, ℕ, zero, suc, Bool, true, false, ◌&&◌, ◌==◌, if◌then◌else◌, List, [], ◌∷◌, map, length, Option, Some, slice_get, nat_lt, refl, sym, ap, ◌∙◌, subst, arith, ltb-true, lt-ltb}
use Rattle.std.specs.Option.{option_map}
use Rattle.std.specs.List.{list_all, AllByRecursion}
use Rattle.std.proofs.lemmas.Option.{same_Some, slice_get_within}
use Rattle.std.proofs.lemmas.Bool.{and_from, and_parts}
use Rattle.df_form.proofs.Drafts.{sort_here}
use Rattle.df_lemmas.proofs.Alls.{all_joined}
use Rattle.df_lemmas.proofs.Lists.{all_weaker, all_parts}
use Rattle.df_lemmas.proofs.Options.{then_some, map_some}
use Rattle.df_form.specs.World.{World}
use Rattle.df_form.specs.declared.log.Lit.{Lit}
use Rattle.df_form.specs.declared.node.Sort.{Sort}
use Rattle.df_form.specs.declared.node.Sort.TheVariants as sorts
use Rattle.df_form.specs.declared.node.Op.{Op}
use Rattle.df_form.specs.declared.node.Op.TheVariants as ops
use Rattle.df_form.specs.Node.{Node, same_sort}
use Rattle.df_form.specs.Sorting.{sort_at, sort_of, is_formula}
use Rattle.df_form.specs.Made.{made}
use Rattle.df_form.specs.Sequent.{Sequent, IsSequent}
use Rattle.df_form.specs.Clause.{Clause, yes, no, are_literals}
use Rattle.df_form.specs.Log.{Step, Hypothesis, Goal, Connective, Schema, Propagation, Congruence, Linear, Split, Make}
use Rattle.df_form.proofs.Same.{values_alike}
use Rattle.df_form.proofs.Values.{Grows, grown_sort, grown_below, AreSorted, parts_below, parts_taken}
use Rattle.df_form.proofs.Making.{IsNumber, grown_number, made_stands}
use Rattle.df_rules.specs.Bound.{at_most}
use Rattle.df_rules.specs.Connective.{Added, chosen, not_clauses, and_clauses, or_clauses, implies_clauses, iff_clauses, equal_clause, equal_by_sort, connective_clause}
use Rattle.df_axiom.specs.Line.{instance_line}
use Rattle.df_axiom.proofs.SchemaTruth.{line_kept}
use Rattle.df_rules.specs.Derivation.{only_clause}
use Rattle.df_rules.proofs.SoundNodes.{at_most_sorted}
use Rattle.df_clause.specs.Adding.{added_by}
use Rattle.df_clause.proofs.Assignments.{some_assignment}

abbrev pub Fits : Added → Type 0
Fits added = are_literals added.nodes added.clause ≡ true

one : (a : Bool) → a ≡ true → (a && true) ≡ true
one a e = rw e refl

two : (a b : Bool) → a ≡ true → b ≡ true → (a && (b && true)) ≡ true
two a b e f = rw (e, f) refl

three : (a b c : Bool) → a ≡ true → b ≡ true → c ≡ true → (a && (b && (c && true))) ≡ true
three a b c e f g = rw (e, f, g) refl

formula_at : (nodes : List Node) (n : ℕ) (node : Node) → slice_get nodes n ≡ Some node → sort_of node.op ≡ sorts.Truth → is_formula nodes n ≡ true
formula_at nodes n node e sort =
    and_from (nat_lt n (length nodes)) (same_sort (sort_at nodes n) sorts.Truth) (lt-ltb n (length nodes) (slice_get_within nodes n node e)) (ap (λ z. same_sort z sorts.Truth) (sort_here nodes n node e ∙ sort))

formula_grown : (before now : List Node) → Grows before now → (n : ℕ) → is_formula before n ≡ true → is_formula now n ≡ true
formula_grown before now g n e =
    let parts = and_parts (nat_lt n (length before)) (same_sort (sort_at before n) sorts.Truth) e in
    and_from (nat_lt n (length now)) (same_sort (sort_at now n) sorts.Truth) (grown_below before now g n parts.0) (ap (λ z. same_sort z sorts.Truth) (grown_sort before now g n (ltb-true n (length before) parts.0)) ∙ parts.1)

pub literals_grown : (before now : List Node) → Grows before now → (clause : Clause) → are_literals before clause ≡ true → are_literals now clause ≡ true
literals_grown before now g clause e = all_weaker (λ (l : Lit). is_formula before l.node) (λ (l : Lit). is_formula now l.node) clause (λ l. formula_grown before now g l.node) e

truth_is : (sort : Sort) → same_sort sorts.Truth sort ≡ true → same_sort sort sorts.Truth ≡ true
truth_is sorts.Truth e = refl
truth_is sorts.Number e = absurd cc
truth_is sorts.Character e = absurd cc

each_below : (nodes : List Node) (n : ℕ) (node : Node) → AreSorted nodes → slice_get nodes n ≡ Some node → list_all (λ part. nat_lt part (length nodes)) node.parts ≡ true
each_below nodes n node sorted e =
    let within = slice_get_within nodes n node e in
    all_weaker (λ part. nat_lt part n) (λ part. nat_lt part (length nodes)) node.parts (λ part less. let below = ltb-true part n less in lt-ltb part (length nodes) (omega (arith, below, within))) (parts_below nodes n node sorted e)

formulas : (nodes : List Node) (parts : List ℕ) → list_all (λ part. nat_lt part (length nodes)) parts ≡ true → list_all (same_sort sorts.Truth) (map (sort_at nodes) parts) ≡ true → list_all (is_formula nodes) parts ≡ true
formulas nodes [] below taken = refl
formulas nodes (p ∷ parts) below taken =
    let here = and_parts (nat_lt p (length nodes)) (list_all (λ part. nat_lt part (length nodes)) parts) below in
    let sort = and_parts (same_sort sorts.Truth (sort_at nodes p)) (list_all (same_sort sorts.Truth) (map (sort_at nodes) parts)) taken in
    and_from (is_formula nodes p) (list_all (is_formula nodes) parts) (and_from (nat_lt p (length nodes)) (same_sort (sort_at nodes p) sorts.Truth) here.0 (truth_is (sort_at nodes p) sort.0)) (formulas nodes parts here.1 sort.1)

-- the parts of a connective of two
two_formulas : (nodes : List Node) (a b : ℕ) → list_all (λ part. nat_lt part (length nodes)) (a ∷ b ∷ []) ≡ true → (same_sort (sort_at nodes a) sorts.Truth && same_sort (sort_at nodes b) sorts.Truth) ≡ true → (is_formula nodes a ≡ true) × (is_formula nodes b ≡ true)
two_formulas nodes a b below taken =
    let first = and_parts (nat_lt a (length nodes)) (nat_lt b (length nodes) && true) below in
    let second = and_parts (nat_lt b (length nodes)) true first.1 in
    let sort = and_parts (same_sort (sort_at nodes a) sorts.Truth) (same_sort (sort_at nodes b) sorts.Truth) taken in
    (and_from (nat_lt a (length nodes)) (same_sort (sort_at nodes a) sorts.Truth) first.0 sort.0, and_from (nat_lt b (length nodes)) (same_sort (sort_at nodes b) sorts.Truth) second.0 sort.1)

all_signed : (nodes : List Node) (sign : ℕ → Lit) → ((p : ℕ) → (sign p).node ≡ p) → (parts : List ℕ) → list_all (is_formula nodes) parts ≡ true → are_literals nodes (map sign parts) ≡ true
all_signed nodes sign same [] e = refl
all_signed nodes sign same (p ∷ parts) e =
    let here = and_parts (is_formula nodes p) (list_all (is_formula nodes) parts) e in
    and_from (is_formula nodes (sign p).node) (are_literals nodes (map sign parts)) (ap (is_formula nodes) (same p) ∙ here.0) (all_signed nodes sign same parts here.1)

abbrev AllFit : List Node → List Clause → Type 0
AllFit nodes clauses = AllByRecursion (λ clause. are_literals nodes clause ≡ true) clauses

all_mapped : (nodes : List Node) (f : ℕ → Clause) (parts : List ℕ) → ((p : ℕ) → is_formula nodes p ≡ true → are_literals nodes (f p) ≡ true) → list_all (is_formula nodes) parts ≡ true → AllFit nodes (map f parts)
all_mapped nodes f [] each e = tt
all_mapped nodes f (p ∷ parts) each e = let here = and_parts (is_formula nodes p) (list_all (is_formula nodes) parts) e in (each p here.0, all_mapped nodes f parts each here.1)

among : (nodes : List Node) (clauses : List Clause) (k : ℕ) (clause : Clause) → AllFit nodes clauses → slice_get clauses k ≡ Some clause → are_literals nodes clause ≡ true
among nodes [] k clause all at = absurd cc
among nodes (first ∷ others) zero clause all at = subst (λ (clause : Clause). are_literals nodes clause ≡ true) (same_Some first clause at) all.0
among nodes (first ∷ others) (suc k) clause all at = among nodes others k clause all.1 at

chosen_fits : (nodes : List Node) (clauses : List Clause) (k : ℕ) (added : Added) → AllFit nodes clauses → chosen nodes clauses k ≡ Some added → Fits added
chosen_fits nodes clauses k added all e =
    let found = map_some (λ (clause : Clause). record { nodes = nodes; clause = clause }) (slice_get clauses k) added e in
    subst Fits found.2 (among nodes clauses k found.0 all found.1)

not_fit : (nodes : List Node) (n p : ℕ) → is_formula nodes n ≡ true → is_formula nodes p ≡ true → AllFit nodes (not_clauses n p)
not_fit nodes n p e f = (two _ _ e f, (two _ _ e f, tt))

and_fit : (nodes : List Node) (n : ℕ) (parts : List ℕ) → is_formula nodes n ≡ true → list_all (is_formula nodes) parts ≡ true → AllFit nodes (and_clauses n parts)
and_fit nodes n parts e all =
    all_joined (λ clause. are_literals nodes clause ≡ true) (map (λ p. no n ∷ yes p ∷ []) parts) ((yes n ∷ map no parts) ∷ []) (all_mapped nodes (λ p. no n ∷ yes p ∷ []) parts (λ p f. two _ _ e f) all)
    (and_from (is_formula nodes n) (are_literals nodes (map no parts)) e (all_signed nodes no (λ p. refl) parts all), tt)

or_fit : (nodes : List Node) (n : ℕ) (parts : List ℕ) → is_formula nodes n ≡ true → list_all (is_formula nodes) parts ≡ true → AllFit nodes (or_clauses n parts)
or_fit nodes n parts e all = (and_from (is_formula nodes n) (are_literals nodes (map yes parts)) e (all_signed nodes yes (λ p. refl) parts all), all_mapped nodes (λ p. yes n ∷ no p ∷ []) parts (λ p f. two _ _ e f) all)

implies_fit : (nodes : List Node) (n a b : ℕ) → is_formula nodes n ≡ true → (is_formula nodes a ≡ true) × (is_formula nodes b ≡ true) → AllFit nodes (implies_clauses n a b)
implies_fit nodes n a b e f = (three _ _ _ e f.0 f.1, (two _ _ e f.0, (two _ _ e f.1, tt)))

iff_fit : (nodes : List Node) (n a b : ℕ) → is_formula nodes n ≡ true → (is_formula nodes a ≡ true) × (is_formula nodes b ≡ true) → AllFit nodes (iff_clauses n a b)
iff_fit nodes n a b e f = (three _ _ _ e f.0 f.1, (three _ _ _ e f.0 f.1, (three _ _ _ e f.0 f.1, (three _ _ _ e f.0 f.1, tt))))

equal_fits : (nodes : List Node) (n k a b : ℕ) (added : Added) → AreSorted nodes → is_formula nodes n ≡ true → IsNumber nodes a → IsNumber nodes b → equal_clause nodes n a b k ≡ Some added → Fits added
equal_fits nodes n zero a b added all e p q is =
    let up = made nodes (at_most a b) in
    let first = made_stands nodes (at_most a b) all (at_most_sorted nodes a b p q) in
    subst Fits (same_Some _ added is) (two _ _ (formula_grown nodes up.nodes first.grows n e) (formula_at up.nodes up.number (at_most a b) first.there refl))
equal_fits nodes n (suc zero) a b added all e p q is =
    let down = made nodes (at_most b a) in
    let first = made_stands nodes (at_most b a) all (at_most_sorted nodes b a q p) in
    subst Fits (same_Some _ added is) (two _ _ (formula_grown nodes down.nodes first.grows n e) (formula_at down.nodes down.number (at_most b a) first.there refl))
equal_fits nodes n (suc (suc zero)) a b added all e p q is =
    let up = made nodes (at_most a b) in
    let down = made up.nodes (at_most b a) in
    let first = made_stands nodes (at_most a b) all (at_most_sorted nodes a b p q) in
    let second = made_stands up.nodes (at_most b a) first.sorted (at_most_sorted up.nodes b a (grown_number nodes up.nodes first.grows b q) (grown_number nodes up.nodes first.grows a p)) in
    let here = formula_grown up.nodes down.nodes second.grows n (formula_grown nodes up.nodes first.grows n e) in
    let left = formula_grown up.nodes down.nodes second.grows up.number (formula_at up.nodes up.number (at_most a b) first.there refl) in
    subst Fits (same_Some _ added is) (three _ _ _ here left (formula_at down.nodes down.number (at_most b a) second.there refl))
equal_fits nodes n (suc (suc (suc k))) a b added all e p q is = absurd cc

sides_fit : (sort : Sort) (nodes : List Node) (n k a b : ℕ) (added : Added) → sort_at nodes a ≡ sort → AreSorted nodes → slice_get nodes n ≡ Some (record { op = ops.Equal; parts = a ∷ b ∷ [] }) → equal_by_sort sort nodes n a b k ≡ Some added → Fits added
sides_fit sorts.Number nodes n k a b added sort all e is =
    let node : Node = record { op = ops.Equal; parts = a ∷ b ∷ [] } in
    let first = and_parts (nat_lt a (length nodes)) (nat_lt b (length nodes) && true) (each_below nodes n node all e) in
    let second = and_parts (nat_lt b (length nodes)) true first.1 in
    let alike = values_alike (sort_at nodes a) (sort_at nodes b) (parts_taken nodes n node all e) in
    equal_fits nodes n k a b added all (formula_at nodes n node e refl) (record { below = ltb-true a (length nodes) first.0; sort = sort }) (record { below = ltb-true b (length nodes) second.0; sort = sym alike ∙ sort }) is
sides_fit sorts.Truth nodes n k a b added sort all e is = absurd cc
sides_fit sorts.Character nodes n k a b added sort all e is = absurd cc

op_fits : (nodes : List Node) (n k : ℕ) (op : Op) (parts : List ℕ) (added : Added) → AreSorted nodes → slice_get nodes n ≡ Some (record { op = op; parts = parts }) → connective_clause nodes n k op parts ≡ Some added → Fits added
op_fits nodes n k ops.Not (p ∷ []) added all e is =
    let node : Node = record { op = ops.Not; parts = p ∷ [] } in
    let below = and_parts (nat_lt p (length nodes)) true (each_below nodes n node all e) in
    let part = and_from (nat_lt p (length nodes)) (same_sort (sort_at nodes p) sorts.Truth) below.0 (parts_taken nodes n node all e) in
    chosen_fits nodes (not_clauses n p) k added (not_fit nodes n p (formula_at nodes n node e refl) part) is
op_fits nodes n k ops.And parts added all e is =
    let node : Node = record { op = ops.And; parts = parts } in
    chosen_fits nodes (and_clauses n parts) k added (and_fit nodes n parts (formula_at nodes n node e refl) (formulas nodes parts (each_below nodes n node all e) (parts_taken nodes n node all e))) is
op_fits nodes n k ops.Or parts added all e is =
    let node : Node = record { op = ops.Or; parts = parts } in
    chosen_fits nodes (or_clauses n parts) k added (or_fit nodes n parts (formula_at nodes n node e refl) (formulas nodes parts (each_below nodes n node all e) (parts_taken nodes n node all e))) is
op_fits nodes n k ops.Implies (a ∷ b ∷ []) added all e is =
    let node : Node = record { op = ops.Implies; parts = a ∷ b ∷ [] } in
    chosen_fits nodes (implies_clauses n a b) k added (implies_fit nodes n a b (formula_at nodes n node e refl) (two_formulas nodes a b (each_below nodes n node all e) (parts_taken nodes n node all e))) is
op_fits nodes n k ops.Iff (a ∷ b ∷ []) added all e is =
    let node : Node = record { op = ops.Iff; parts = a ∷ b ∷ [] } in
    chosen_fits nodes (iff_clauses n a b) k added (iff_fit nodes n a b (formula_at nodes n node e refl) (two_formulas nodes a b (each_below nodes n node all e) (parts_taken nodes n node all e))) is
op_fits nodes n k ops.Equal (a ∷ b ∷ []) added all e is = sides_fit (sort_at nodes a) nodes n k a b added refl all e is
op_fits nodes n k op parts added all e is = absurd cc

schema_fits : (world : World) (nodes : List Node) (schema k : ℕ) (terms : List ℕ) (added : Added) → AreSorted nodes → instance_line world nodes schema k terms ≡ Some added → Fits added
schema_fits world nodes schema k terms added sorted e = (line_kept 0 world some_assignment nodes schema k terms added sorted e).formulas

listed : (test : ℕ → Bool) (xs : List ℕ) (i x : ℕ) → list_all test xs ≡ true → slice_get xs i ≡ Some x → test x ≡ true
listed test [] i x all at = absurd cc
listed test (first ∷ others) zero x all at = subst (λ n. test n ≡ true) (same_Some first x at) (and_parts (test first) (list_all test others) all).0
listed test (first ∷ others) (suc i) x all at = listed test others i x (and_parts (test first) (list_all test others) all).1 at

only_fits : (nodes : List Node) (o : Option Clause) (added : Added) → ((clause : Clause) → o ≡ Some clause → are_literals nodes clause ≡ true) → only_clause nodes o ≡ Some added → Fits added
only_fits nodes o added each e =
    let found = map_some (λ (clause : Clause). record { nodes = nodes; clause = clause }) o added e in
    subst Fits found.2 (each found.0 found.1)

pub added_fits : (s : Sequent) (nodes : List Node) (step : Step) (added : Added) → IsSequent s → AreSorted nodes → Grows s.nodes nodes → added_by s nodes step ≡ Some added → Fits added
added_fits s nodes (Hypothesis i) added is sorted g e =
    only_fits nodes (option_map (λ h. yes h ∷ []) (slice_get s.hypotheses i)) added (λ clause at.
    let found = map_some (λ (h : ℕ). yes h ∷ []) (slice_get s.hypotheses i) clause at in
    let formula = listed (is_formula s.nodes) s.hypotheses i found.0 (all_parts (is_formula s.nodes) s.hypotheses (s.goal ∷ []) is.formulas).0 found.1 in
    subst (λ (clause : Clause). are_literals nodes clause ≡ true) found.2 (one _ (formula_grown s.nodes nodes g found.0 formula))) e
added_fits s nodes Goal added is sorted g e =
    only_fits nodes (Some (no s.goal ∷ [])) added (λ clause at.
    let formula = listed (is_formula s.nodes) (s.goal ∷ []) zero s.goal (all_parts (is_formula s.nodes) s.hypotheses (s.goal ∷ []) is.formulas).1 refl in
    subst (λ (clause : Clause). are_literals nodes clause ≡ true) (same_Some (no s.goal ∷ []) clause at) (one _ (formula_grown s.nodes nodes g s.goal formula))) e
added_fits s nodes (Connective n k) added is sorted g e =
    let found = then_some (λ (node : Node). connective_clause nodes n k node.op node.parts) (slice_get nodes n) added e in
    op_fits nodes n k found.0.op found.0.parts added sorted found.1 found.2
added_fits s nodes (Schema schema k terms) added is sorted g e = schema_fits s.world nodes schema k terms added sorted e
added_fits s nodes (Propagation numbers conclusion) added is sorted g e = absurd cc
added_fits s nodes (Congruence conclusion pairs) added is sorted g e = absurd cc
added_fits s nodes (Linear conclusion combinations) added is sorted g e = absurd cc
added_fits s nodes (Split n k) added is sorted g e = absurd cc
added_fits s nodes (Make node) added is sorted g e = absurd cc
