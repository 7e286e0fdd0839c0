-- The tests decide what a table model is.
use Rattle.std.proofs.Common.{◌≡◌, ℕ, zero, suc, ◌<◌, ℤ, Bool, true, false, not, ◌&&◌, ◌||◌, ◌==◌, List, [], ◌∷◌, map, length, slice_get, slice_index_or, Option, None, Some, refl, sym, ap, ◌∙◌, subst, arith}
use Rattle.std.specs.Bool.{Decides}
use Rattle.std.specs.List.{list_all}
use Rattle.std.specs.Option.{option_map_or}
use Rattle.std.specs.Ordering.{int_eq}
use Rattle.std.proofs.lemmas.Bool.Decides.{Decides-int_eq, Decides-eqb, Decides-and, Decides-below_and}
use Rattle.std.proofs.lemmas.Option.{same_Some, slice_get_within}
use Rattle.df_form.specs.declared.node.Op.{Op}
use Rattle.df_form.specs.Node.{Node, same_op}
use Rattle.df_form.specs.Clause.{clause_truth}
use Rattle.df_form.proofs.Same.{same_op_equal, same_op-refl}
use Rattle.df_rules.specs.Derivation.{State}
use Rattle.df_table.specs.TableModel.{number_at, is_true, is_exact, Agree, IsTableModel}
use Rattle.df_table.specs.Testing.{all_below, same_at, same_numbers, agree_both, agree, exact_at, agrees_with_all, is_congruent, are_exact, meets}

same_op-Decides : (a b : Op) → Decides (same_op a b) (a ≡ b)
same_op-Decides a b = (same_op_equal a b, λ e. subst (λ (c : Op). same_op a c ≡ true) e (same_op-refl a))

below-Decides : (test : ℕ → Bool) (P : ℕ → Type 0) (n : ℕ) → ((k : ℕ) → Decides (test k) (P k)) → Decides (all_below test n) ((k : ℕ) → k < n → P k)
below-Decides test P n each = Decides-below_and test P (all_below test) each refl (λ k. refl) n

-- lists of one length whose members have the same images
images_same : (f : ℕ → ℤ) (xs ys : List ℕ) → length xs ≡ length ys → ((k : ℕ) → k < length xs → f (slice_index_or xs k 0) ≡ f (slice_index_or ys k 0)) → map f xs ≡ map f ys
images_same f [] [] long all = refl
images_same f [] (y ∷ ys) long all = absurd (omega arith)
images_same f (x ∷ xs) [] long all = absurd (omega arith)
images_same f (x ∷ xs) (y ∷ ys) long all =
    let first = all 0 (omega arith) in
    let others = images_same f xs ys (omega arith) (λ k less. all (suc k) (omega (arith, less))) in
    λ i. first i ∷ others i

same_images : (f : ℕ → ℤ) (xs ys : List ℕ) → map f xs ≡ map f ys → (length xs ≡ length ys) × ((k : ℕ) → k < length xs → f (slice_index_or xs k 0) ≡ f (slice_index_or ys k 0))
same_images f [] [] e = (refl, λ k less. absurd (omega arith))
same_images f [] (y ∷ ys) e = absurd cc
same_images f (x ∷ xs) [] e = absurd cc
same_images f (x ∷ xs) (y ∷ ys) e =
    let first : f x ≡ f y = cc in
    let rest : map f xs ≡ map f ys = cc in
    let others = same_images f xs ys rest in
    (ap suc others.0, by first others.1)
  where
    by : f x ≡ f y → ((k : ℕ) → k < length xs → f (slice_index_or xs k 0) ≡ f (slice_index_or ys k 0)) → (k : ℕ) → k < length (x ∷ xs) → f (slice_index_or (x ∷ xs) k 0) ≡ f (slice_index_or (y ∷ ys) k 0)
    by first others zero less = first
    by first others (suc k) less = others k (omega (arith, less))

pub same_numbers-Decides : (table : List ℤ) (xs ys : List ℕ) → Decides (same_numbers table xs ys) (map (number_at table) xs ≡ map (number_at table) ys)
same_numbers-Decides table xs ys =
    let f = number_at table in
    let each = below-Decides (same_at table xs ys) (λ k. f (slice_index_or xs k 0) ≡ f (slice_index_or ys k 0)) (length xs) (λ k. Decides-int_eq (f (slice_index_or xs k 0)) (f (slice_index_or ys k 0))) in
    let both = Decides-and (length xs == length ys) (all_below (same_at table xs ys) (length xs)) (Decides-eqb (length xs) (length ys)) each in
    (λ t. let h = both.0 t in images_same f xs ys h.0 h.1, λ e. both.1 (same_images f xs ys e))

-- an implication from two facts that are tested
implies-Decides : (p q r : Bool) (P Q R : Type 0) → Decides p P → Decides q Q → Decides r R → Decides (r || (not p || not q)) (P → Q → R)
implies-Decides true true true P Q R dp dq dr = (λ e x y. dr.0 refl, λ h. refl)
implies-Decides true true false P Q R dp dq dr = (λ e. absurd cc, λ h. dr.1 (h (dp.0 refl) (dq.0 refl)))
implies-Decides false q true P Q R dp dq dr = (λ e x y. dr.0 refl, λ h. refl)
implies-Decides false q false P Q R dp dq dr = (λ e x y. let wrong = dp.1 x in absurd cc, λ h. refl)
implies-Decides true false true P Q R dp dq dr = (λ e x y. dr.0 refl, λ h. refl)
implies-Decides true false false P Q R dp dq dr = (λ e x y. let wrong = dq.1 y in absurd cc, λ h. refl)

agree-Decides : (nodes : List Node) (table : List ℤ) (m n : ℕ) → Decides (agree nodes table m n) (Agree nodes table m n)
agree-Decides nodes table m n = by (slice_get nodes m) (slice_get nodes n) refl refl
  where
    by : (o p : Option Node) → slice_get nodes m ≡ o → slice_get nodes n ≡ p → Decides (agree_both table m n o p) (Agree nodes table m n)
    by None p e f = (λ t a b at. let wrong = sym e ∙ at in absurd cc, λ h. refl)
    by (Some x) None e f = (λ t a b at other. let wrong = sym f ∙ other in absurd cc, λ h. refl)
    by (Some x) (Some y) e f =
        let one = implies-Decides (same_op x.op y.op) (same_numbers table x.parts y.parts) (int_eq (number_at table m) (number_at table n)) (x.op ≡ y.op) (map (number_at table) x.parts ≡ map (number_at table) y.parts) (number_at table m ≡ number_at table n)
        (same_op-Decides x.op y.op) (same_numbers-Decides table x.parts y.parts) (Decides-int_eq (number_at table m) (number_at table n)) in (
          λ t a b at other ops numbers.
              let first = same_Some x a (sym e ∙ at) in
              let second = same_Some y b (sym f ∙ other) in
              one.0 t (ap (λ (node : Node). node.op) first ∙ ops ∙ sym (ap (λ (node : Node). node.op) second))
              (ap (λ (node : Node). map (number_at table) node.parts) first ∙ numbers ∙ sym (ap (λ (node : Node). map (number_at table) node.parts) second)),
          λ h. one.1 (h x y e f),
        )

abbrev Exact : List Node → List ℤ → ℕ → Type 0
Exact nodes table n = (node : Node) → slice_get nodes n ≡ Some node → is_exact nodes table n node.op node.parts ≡ true

exact-Decides : (nodes : List Node) (table : List ℤ) (n : ℕ) → Decides (exact_at nodes table n) (Exact nodes table n)
exact-Decides nodes table n = by (slice_get nodes n) refl
  where
    by : (o : Option Node) → slice_get nodes n ≡ o → Decides (option_map_or (λ (node : Node). is_exact nodes table n node.op node.parts) o true) (Exact nodes table n)
    by None e = (λ t node at. let wrong = sym e ∙ at in absurd cc, λ h. refl)
    by (Some x) e = (λ t node at. subst (λ (node : Node). is_exact nodes table n node.op node.parts ≡ true) (same_Some x node (sym e ∙ at)) t, λ h. h x e)

pub congruent-Decides : (nodes : List Node) (table : List ℤ) → Decides (is_congruent nodes table) ((m : ℕ) → m < length nodes → (n : ℕ) → n < length nodes → Agree nodes table m n)
congruent-Decides nodes table =
    below-Decides (agrees_with_all nodes table) (λ m. (n : ℕ) → n < length nodes → Agree nodes table m n) (length nodes) (λ m. below-Decides (agree nodes table m) (Agree nodes table m) (length nodes) (agree-Decides nodes table m))

all_exact-Decides : (nodes : List Node) (table : List ℤ) → Decides (are_exact nodes table) ((n : ℕ) → n < length nodes → Exact nodes table n)
all_exact-Decides nodes table = below-Decides (exact_at nodes table) (Exact nodes table) (length nodes) (exact-Decides nodes table)

pub model-Decides : (state : State) (table : List ℤ) → Decides (meets state table) (IsTableModel state table)
model-Decides state table =
    let nodes = state.nodes in
    let true_all = list_all (clause_truth (is_true table)) state.clauses in
    let rest = Decides-and (are_exact nodes table) true_all (all_exact-Decides nodes table) (λ (e : true_all ≡ true). e, λ (e : true_all ≡ true). e) in
    let more = Decides-and (is_congruent nodes table) (are_exact nodes table && true_all) (congruent-Decides nodes table) rest in
    let all = Decides-and (length table == length nodes) (is_congruent nodes table && (are_exact nodes table && true_all)) (Decides-eqb (length table) (length nodes)) more in (
      λ t. let h = all.0 t in record {
        covers = h.0;
        congruent = λ m n less other. h.1.0 m less n other;
        exact = λ n node at. h.1.1.0 n (slice_get_within nodes n node at) node at;
        clauses = h.1.1.1;
      },
      λ is. all.1 (is.covers, (λ m less n other. is.congruent m n less other, (λ n less node at. is.exact n node at, is.clauses))),
    )
