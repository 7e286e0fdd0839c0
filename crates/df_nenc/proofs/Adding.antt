-- Conditions that are added, and those that are owed.
use Rattle.df_nenc.proofs.Words.{◌≡◌, ℕ, List, [], ◌∷◌, ◌++◌, refl, sym, ap, ◌∙◌, append_assoc, Option, Result, Ok, Err, IfOk, subst, AllocError, AllByRecursion, append-nil, map-append, all_joined, all_front, Node, Term, Truths, Numbers, implies, Condition, under, divides, in_range, multiplied, on_path, Grows, IsTerm, Stands, IsPath, condition_in, conditions_in, AreConditions, Adds, Gives, DeclaredCondition, sort_of_term, tree_at, trees_at, path_in, conditions_of_factor, implied_by, Pos, Ty, FactorOperator}
use Rattle.df_nenc.proofs.Trees.{grown_tree}
use Rattle.df_nenc.proofs.Growing.{grows_then, term_stays, stays, path_same, tree_stays, all_same, all_stay, terms_below}
use Rattle.df_nenc.proofs.Joining.{implied_next}

-- ---- more nodes

pub conditions_stay : (before now : List Node) (cs : List DeclaredCondition) → Grows before now → AreConditions before cs → AreConditions now cs
conditions_stay before now [] g all = tt
conditions_stay before now (c ∷ cs) g all = (term_stays Truths before now c.formula g all.0, conditions_stay before now cs g all.1)

one_same : (before now : List Node) (c : DeclaredCondition) → Grows before now → IsTerm Truths before c.formula → condition_in now c ≡ condition_in before c
one_same before now c g t = let e = grown_tree before now g c.formula t.below in λ i. record { pos = c.pos; kind = c.kind; formula = e i }

pub conditions_same : (before now : List Node) (cs : List DeclaredCondition) → Grows before now → AreConditions before cs → conditions_in now cs ≡ conditions_in before cs
conditions_same before now [] g all = refl
conditions_same before now (c ∷ cs) g all = let head = one_same before now c g all.0 in let others = conditions_same before now cs g all.1 in λ i. head i ∷ others i

-- ---- none, one, and one after another

pub adds_none : (nodes : List Node) (cs : List DeclaredCondition) → Adds nodes [] cs cs
adds_none nodes cs = record { more = []; is = sym (append-nil cs); are = tt; conditions_are = refl }

pub adds_as : (nodes : List Node) (C D : List Condition) (before after : List DeclaredCondition) → C ≡ D → Adds nodes C before after → Adds nodes D before after
adds_as nodes C D before after e a = record { more = a.more; is = a.is; are = a.are; conditions_are = a.conditions_are ∙ e }

pub adds_stay : (old new : List Node) (C : List Condition) (before after : List DeclaredCondition) → Grows old new → Adds old C before after → Adds new C before after
adds_stay old new C before after g a = record { more = a.more; is = a.is; are = conditions_stay old new a.more g a.are; conditions_are = conditions_same old new a.more g a.are ∙ a.conditions_are }

pub adds_then : (old new : List Node) (C D : List Condition) (before middle after : List DeclaredCondition) → Grows old new → Adds old C before middle → Adds new D middle after → Adds new (C ++ D) before after
adds_then old new C D before middle after g a b = record {
  more = a.more ++ b.more;
  is = b.is ∙ ap (λ z. z ++ b.more) a.is ∙ append_assoc before a.more b.more;
  are = all_joined (λ (c : DeclaredCondition). IsTerm Truths new c.formula) a.more b.more (conditions_stay old new a.more g a.are) b.are;
  conditions_are = joined;
}
  where
    joined : conditions_in new (a.more ++ b.more) ≡ C ++ D
    joined =
        let first = conditions_same old new a.more g a.are ∙ a.conditions_are in
        let second = b.conditions_are in
        map-append (condition_in new) a.more b.more ∙ (λ i. first i ++ second i)

-- ---- terms with what they ask for

pub gives_as : (A B : Term) (C D : List Condition) (old new : List Node) (n : ℕ) (before after : List DeclaredCondition) → A ≡ B → C ≡ D → Gives A C old new n before after → Gives B D old new n before after
gives_as A B C D old new n before after e f g = record {
  grows = g.grows;
  stands = record { below = g.stands.below; tree_is = g.stands.tree_is ∙ e };
  adds = adds_as new C D before after f g.adds;
}

-- nothing is asked for
pub gives_alone : (A : Term) (old new : List Node) (n : ℕ) (cs : List DeclaredCondition) → Grows old new → Stands new A n → Gives A [] old new n cs cs
gives_alone A old new n cs g s = record { grows = g; stands = s; adds = adds_none new cs }

-- a term, and then what is asked of it
pub gives_owing : (A : Term) (C : List Condition) (old middle new : List Node) (n : ℕ) (before after : List DeclaredCondition) → Grows old middle → Grows middle new → Stands middle A n → Adds new C before after → Gives A C old new n before after
gives_owing A C old middle new n before after g h s a = record { grows = grows_then old middle new g h; stands = stays middle new A n h s; adds = a }

-- one after another: the second term and the conditions of both
pub gives_then : (A B : Term) (C D : List Condition) (old middle new : List Node) (m n : ℕ) (before between after : List DeclaredCondition) → Gives A C old middle m before between → Gives B D middle new n between after → Gives B (C ++ D) old new n before after
gives_then A B C D old middle new m n before between after g h = record {
  grows = grows_then old middle new g.grows h.grows;
  stands = h.stands;
  adds = adds_then middle new C D before between after h.grows g.adds h.adds;
}

-- and then a term over it, of which nothing is asked
pub gives_over : (A B : Term) (C : List Condition) (old middle new : List Node) (m n : ℕ) (before after : List DeclaredCondition) → Gives A C old middle m before after → Grows middle new → Stands new B n → Gives B C old new n before after
gives_over A B C old middle new m n before after g h s = record { grows = grows_then old middle new g.grows h; stands = s; adds = adds_stay middle new C before after h g.adds }

under_append : (path : Option Term) (C D : List Condition) → under path (C ++ D) ≡ under path C ++ under path D
under_append path C D = map-append (λ (c : Condition). record { pos = c.pos; kind = c.kind; formula = on_path path c.formula }) C D

-- a product: its divisor is not 0, and then it is one of the type
pub owing_factor : (old n1 n2 new : List Node) (path : Option ℕ) (ty : Ty) (o : FactorOperator) (at : Pos) (a : Term) (operand n : ℕ) (before between after : List DeclaredCondition)
    → Grows old n1 → IsPath old path → IsTerm Numbers old operand → Stands n1 (multiplied o a (tree_at old operand)) n
    → Grows n1 n2 → Adds n2 (under (path_in n1 path) (divides o at (tree_at n1 operand))) before between
    → Grows n2 new → Adds new (under (path_in n2 path) (in_range ty at (tree_at n2 n))) between after
    → Gives (multiplied o a (tree_at old operand)) (conditions_of_factor (path_in old path) ty o at a (tree_at old operand)) old new n before after
owing_factor old n1 n2 new path ty o at a operand n before between after g1 is_path is_operand s g2 first g3 second =
    let b : Term = tree_at old operand in
    let on = path_in old path in
    let g12 = grows_then old n1 n2 g1 g2 in
    let on1 = path_same old n1 path g1 is_path in
    let on2 = path_same old n2 path g12 is_path in
    let b1 = tree_stays Numbers old n1 operand g1 is_operand in
    let s2 = stays n1 n2 (multiplied o a b) n g2 s in
    let made = s2.tree_is in
    let one = adds_as n2 _ (under on (divides o at b)) before between (λ i. under (on1 i) (divides o at (b1 i))) first in
    let other = adds_as new _ (under on (in_range ty at (multiplied o a b))) between after (λ i. under (on2 i) (in_range ty at (made i))) second in
    record {
      grows = grows_then old n2 new g12 g3;
      stands = stays n2 new (multiplied o a b) n g3 s2;
      adds = adds_as new _ (conditions_of_factor on ty o at a b) before after (sym (under_append on (divides o at b) (in_range ty at (multiplied o a b)))) (adds_then n2 new _ _ before between after g3 one other);
    }

-- a term over one of which something is owed
pub owed_over : (f : Term → Term) (r : Result ℕ AllocError) (a : Term) (C : List Condition) (old middle new : List Node) (m : ℕ) (before after : List DeclaredCondition)
    → Gives a C old middle m before after → Grows middle new → IfOk r (λ n. Stands new (f (tree_at middle m)) n) → IfOk r (λ n. Gives (f a) C old new n before after)
owed_over f (Err e) a C old middle new m before after g h s = tt
owed_over f (Ok n) a C old middle new m before after g h s = gives_over a (f a) C old middle new m n before after g h (record { below = s.below; tree_is = s.tree_is ∙ ap f g.stands.tree_is })

-- ---- premises from the right

-- the rest of the premises imply what all do
pub record Implied (old now : List Node) (premises left : List ℕ) (last formula : ℕ) : Type 0 where
  pub grows : Grows old now
  pub are : AllByRecursion (IsTerm Truths now) left
  pub is_term : IsTerm Truths now formula
  pub same : implied_by (trees_at now left) (tree_at now formula) ≡ implied_by (trees_at old premises) (tree_at old last)

pub implied_step : (old now next : List Node) (premises left more : List ℕ) (last formula premise n : ℕ) → Implied old now premises left last formula → left ≡ more ++ premise ∷ [] → Grows now next
    → Stands next (implies (tree_at now premise) (tree_at now formula)) n → Implied old next premises more last n
implied_step old now next premises left more last formula premise n h e g s =
    let all : AllByRecursion (IsTerm Truths now) (more ++ premise ∷ []) = subst (AllByRecursion (IsTerm Truths now)) e h.are in
    let front = all_front (IsTerm Truths now) more (premise ∷ []) all in
    let trees = all_same now next more g (terms_below Truths now more front) in
    let same = s.tree_is in
    record {
      grows = grows_then old now next h.grows g;
      are = all_stay Truths now next more g front;
      is_term = record { below = s.below; sort_is = ap sort_of_term same };
      same = (λ i. implied_by (trees i) (same i)) ∙ sym (implied_next (trees_at now more) (tree_at now premise) (tree_at now formula))
          ∙ (λ i. implied_by (sym (map-append (tree_at now) more (premise ∷ [])) i) (tree_at now formula)) ∙ ap (λ z. implied_by (trees_at now z) (tree_at now formula)) (sym e) ∙ h.same;
    }

pub implied_end : (old now : List Node) (premises left : List ℕ) (last formula : ℕ) → Implied old now premises left last formula → left ≡ [] → Stands now (implied_by (trees_at old premises) (tree_at old last)) formula
implied_end old now premises left last formula h e = record { below = h.is_term.below; tree_is = ap (λ z. implied_by (trees_at now z) (tree_at now formula)) (sym e) ∙ h.same }
