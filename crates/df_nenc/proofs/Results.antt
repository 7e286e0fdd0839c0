-- What a call answers, as its caller names it.
use Rattle.df_nenc.proofs.Words.{◌≡◌, ◌≤◌, ℕ, true, arith, length, List, [], ◌∷◌, ◌++◌, map, Option, None, Some, Result, Ok, Err, IfOk, OnErr, refl, sym, ◌∙◌, AllocError, length-map, Pos, Op, Node, IsTable, is_well_sorted, made, Term, Truths, node, terms_of, of_one, of_two, conjunction, disjunction, Condition, condition, under, on_path, narrowed_path, op_of, tree_at, trees_at, path_in, sort_of_term, Grows, Stands, IsPath, Adds, Gives, DeclaredCondition}
use Rattle.df_meaning.specs.declared.kind.Kind.{Kind}
use Rattle.df_nterm.specs.Term as trees
use Rattle.df_nenc.proofs.Growing.{grows_same, is_term, path_same}
use Rattle.df_nenc.proofs.Trees.{makes, makes_grow}
use Rattle.df_nenc.proofs.Adding.{adds_as, gives_owing}

pub if_ok : {A E : Type 0} (r : Result A E) (P Q : A → Type 0) → IfOk r P → ((x : A) → P x → Q x) → IfOk r Q
if_ok (Ok x) P Q h step = step x h
if_ok (Err e) P Q h step = tt

-- ---- nodes

pub added_stands : (r : Result ℕ AllocError) (nodes after : List Node) (op : Op) (items parts : List ℕ) → items ≡ parts → IsTable nodes → is_well_sorted nodes (record { op = op; parts = parts }) ≡ true
    → IfOk r (λ n. made nodes (record { op = op; parts = items }) ≡ record { nodes = after; number = n }) → IfOk r (λ n. Stands after (node (op_of op) (terms_of (map (tree_at nodes) parts))) n)
added_stands (Err e) nodes after op items parts same table sorted h = tt
added_stands (Ok n) nodes after op items parts same table sorted h = makes nodes after (record { op = op; parts = parts }) n table sorted ((λ i. made nodes (record { op = op; parts = sym same i })) ∙ h)

pub added_grows : (r : Result ℕ AllocError) (nodes after : List Node) (op : Op) (items parts : List ℕ) → items ≡ parts → IsTable nodes → is_well_sorted nodes (record { op = op; parts = parts }) ≡ true
    → IfOk r (λ n. made nodes (record { op = op; parts = items }) ≡ record { nodes = after; number = n }) → OnErr r (after ≡ nodes) → Grows nodes after
added_grows (Err e) nodes after op items parts same table sorted h err = grows_same nodes after err
added_grows (Ok n) nodes after op items parts same table sorted h err = makes_grow nodes after (record { op = op; parts = parts }) n table sorted ((λ i. made nodes (record { op = op; parts = sym same i })) ∙ h)

-- ---- the same term by another name

pub stands_as : (r : Result ℕ AllocError) (nodes : List Node) (a b : Term) → a ≡ b → IfOk r (λ n. Stands nodes a n) → IfOk r (λ n. Stands nodes b n)
stands_as (Err e) nodes a b same h = tt
stands_as (Ok n) nodes a b same h = record { below = h.below; tree_is = h.tree_is ∙ same }

pub one_as : (op : trees.Op) (r : Result ℕ AllocError) (nodes : List Node) (a b : Term) → a ≡ b → IfOk r (λ n. Stands nodes (of_one op a) n) → IfOk r (λ n. Stands nodes (of_one op b) n)
one_as op r nodes a b e h = stands_as r nodes (of_one op a) (of_one op b) (λ i. of_one op (e i)) h

pub two_as : (op : trees.Op) (r : Result ℕ AllocError) (nodes : List Node) (a b c d : Term) → a ≡ c → b ≡ d → IfOk r (λ n. Stands nodes (of_two op a b) n) → IfOk r (λ n. Stands nodes (of_two op c d) n)
two_as op r nodes a b c d e f h = stands_as r nodes (of_two op a b) (of_two op c d) (λ i. of_two op (e i) (f i)) h

-- ---- conditions

pub path_term : (path : Option Term) (a : Term) → sort_of_term a ≡ Truths → sort_of_term (on_path path a) ≡ Truths
path_term None a is = is
path_term (Some path) a is = refl

-- one condition is pushed
pub pushed : (nodes : List Node) (at : Pos) (kind : Kind) (path : Option Term) (a : Term) (n : ℕ) (before after : List DeclaredCondition) → sort_of_term a ≡ Truths → Stands nodes (on_path path a) n
    → after ≡ before ++ record { pos = at; kind = kind; formula = n } ∷ [] → Adds nodes (under path (condition at kind a)) before after
pushed nodes at kind path a n before after is s e = record {
  more = record { pos = at; kind = kind; formula = n } ∷ [];
  is = e;
  are = (is_term nodes Truths (on_path path a) n s (path_term path a is), tt);
  conditions_are = let same = s.tree_is in λ i. record { pos = at; kind = kind; formula = same i } ∷ [];
}

-- what is owed of a term that was made before, at a path of the first table
pub owing : (old middle new : List Node) (path : Option ℕ) (a : Term) (d : Option Term → Term → List Condition) (n : ℕ) (before after : List DeclaredCondition)
    → Grows old middle → IsPath old path → Stands middle a n → Grows middle new → Adds new (d (path_in middle path) (tree_at middle n)) before after
    → Gives a (d (path_in old path) a) old new n before after
owing old middle new path a d n before after g is_path s h adds =
    let on = path_same old middle path g is_path in
    let tree = s.tree_is in
    gives_owing a (d (path_in old path) a) old middle new n before after g h s (adds_as new _ (d (path_in old path) a) before after (λ i. d (on i) (tree i)) adds)

pub narrowed_term : (path : Option Term) (a : Term) → sort_of_term a ≡ Truths → sort_of_term (narrowed_path path a) ≡ Truths
narrowed_term None a is = is
narrowed_term (Some path) a is = refl

-- ---- several formulas

pub trees_long : (nodes : List Node) (ns : List ℕ) → 2 ≤ length ns → 2 ≤ length (trees_at nodes ns)
trees_long nodes ns h = omega (arith, length-map ns (tree_at nodes))

pub conjunction_long : (ts : List Term) → 2 ≤ length ts → node trees.And (terms_of ts) ≡ conjunction (terms_of ts)
conjunction_long [] h = absurd (omega arith)
conjunction_long (a ∷ []) h = absurd (omega arith)
conjunction_long (a ∷ b ∷ ts) h = refl

pub disjunction_long : (ts : List Term) → 2 ≤ length ts → node trees.Or (terms_of ts) ≡ disjunction (terms_of ts)
disjunction_long [] h = absurd (omega arith)
disjunction_long (a ∷ []) h = absurd (omega arith)
disjunction_long (a ∷ b ∷ ts) h = refl
