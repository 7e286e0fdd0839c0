-- Nodes that are numbers, and nodes by their parts.
use Rattle.std.proofs.Common.{◌≡◌, ℕ, ℤ, ◌+◌, ◌<◌, ◌≤◌, ◌⊎◌, inl, inr, List, [], ◌∷◌, ◌++◌, length, get_or, take, replicate, Contains, Option, None, Some, slice_get, refl, sym, ap, ◌∙◌, subst, arith}
use Rattle.std.proofs.lemmas.Option.{same_Some, slice_get_within, none-some}
use Rattle.std.proofs.lemmas.Bool.{cases_eq, cases_lt}
use Rattle.std.proofs.lemmas.List.{length-set, length-replicate, get_or-set_same, get_or-set_other, get_or_past, take_more, take_all}
use Rattle.std.proofs.lemmas.List.Elements.{Contains-append_left, Contains-push, Contains-push_cases}
use Rattle.df_lemmas.proofs.Alls.{none_there}
use Rattle.df_form.specs.Node.{Node}
use Rattle.df_row.specs.Row.{literal_number}
use Rattle.df_rules.specs.CongruenceLine.{number_at}
use Rattle.df_classes.specs.mirror.State.{list_at, pushed}
use Rattle.df_classes.specs.mirror.Closure.{AreUsers}
use Rattle.df_classes.specs.mirror.Clash.{AreNumbers}
use Rattle.df_classes.specs.mirror.Users.{AddsUser, AreUsersBelow}

-- ---- numbers

pub record AreNumbersBelow (nodes : List Node) (numbers : List ℕ) (count : ℕ) : Type 0 where
  pub there : (n : ℕ) (k : ℤ) → n < count → number_at nodes n ≡ Some k → Contains numbers n

pub no_numbers : (nodes : List Node) → AreNumbersBelow nodes [] 0
no_numbers nodes = record { there = λ n k less is. absurd (omega (arith, less)) }

-- one more, which is a number
pub number_more : (nodes : List Node) (numbers : List ℕ) (n : ℕ) → AreNumbersBelow nodes numbers n → AreNumbersBelow nodes (numbers ++ n ∷ []) (n + 1)
number_more nodes numbers n are = record { there = λ m k less is. by m k less is (cases_eq m n) }
  where
    by : (m : ℕ) (k : ℤ) → m < n + 1 → number_at nodes m ≡ Some k → (m ≡ n) ⊎ (m ≡ n → ⊥) → Contains (numbers ++ n ∷ []) m
    by m k less is (inl e) = subst (Contains (numbers ++ n ∷ [])) (sym e) (Contains-push numbers n)
    by m k less is (inr other) = Contains-append_left numbers (n ∷ []) m (are.there m k (below m less other) is)
      where
        below : (m : ℕ) → m < n + 1 → (m ≡ n → ⊥) → m < n
        below m less other = under (cases_lt m n)
          where
            under : (m < n) ⊎ (n ≤ m) → m < n
            under (inl lower) = lower
            under (inr past) = absurd (other (omega (arith, less, past)))

-- or is none
pub number_none : (nodes : List Node) (numbers : List ℕ) (n : ℕ) → number_at nodes n ≡ None → AreNumbersBelow nodes numbers n → AreNumbersBelow nodes numbers (n + 1)
number_none nodes numbers n none are = record { there = λ m k less is. by m k less is (cases_lt m n) }
  where
    by : (m : ℕ) (k : ℤ) → m < n + 1 → number_at nodes m ≡ Some k → (m < n) ⊎ (n ≤ m) → Contains numbers m
    by m k less is (inl lower) = are.there m k lower is
    by m k less is (inr past) =
        let same : m ≡ n = omega (arith, less, past) in absurd (none-some k (sym none ∙ ap (number_at nodes) (sym same) ∙ is))

-- what is a number is a node
number_inside : (nodes : List Node) (n : ℕ) (k : ℤ) → literal_number (slice_get nodes n) ≡ Some k → n < length nodes
number_inside nodes n k e = by (slice_get nodes n) refl e
  where
    by : (o : Option Node) → slice_get nodes n ≡ o → literal_number o ≡ Some k → n < length nodes
    by None is e = absurd cc
    by (Some node) is e = slice_get_within nodes n node is

pub all_numbers : (nodes : List Node) (numbers : List ℕ) (count : ℕ) → length nodes ≤ count → AreNumbersBelow nodes numbers count → AreNumbers nodes numbers
all_numbers nodes numbers count past are n k e =
    let inside = number_inside nodes n k e in are.there n k (omega (arith, inside, past)) e

-- ---- users

pub adds_none : (old : List (List ℕ)) (user : ℕ) → AddsUser old old [] user
adds_none old user = record { each = refl; keeps = λ n p there. there; adds = λ n less there. absurd (none_there n there) }

kept_pushed : (lists : List (List ℕ)) (m x n p : ℕ) → Contains (list_at lists n) p → Contains (list_at (pushed lists m x) n) p
kept_pushed lists m x n p there = by (cases_eq n m) (cases_lt m (length lists))
  where
    by : (n ≡ m) ⊎ (n ≡ m → ⊥) → (m < length lists) ⊎ (length lists ≤ m) → Contains (list_at (pushed lists m x) n) p
    by (inl e) (inl less) =
        subst (λ (k : ℕ). Contains (list_at (pushed lists m x) k) p) (sym e)
        (subst (λ (xs : List ℕ). Contains xs p) (sym (get_or-set_same lists m (list_at lists m ++ x ∷ []) [] less)) (Contains-append_left (list_at lists m) (x ∷ []) p (subst (λ (k : ℕ). Contains (list_at lists k) p) e there)))
    by (inl e) (inr past) = absurd (none_there p (subst (λ (xs : List ℕ). Contains xs p) (ap (list_at lists) e ∙ get_or_past lists m [] past) there))
    by (inr other) near = subst (λ (xs : List ℕ). Contains xs p) (sym (get_or-set_other lists m n (list_at lists m ++ x ∷ []) [] other)) there

there_pushed : (lists : List (List ℕ)) (m x : ℕ) → m < length lists → Contains (list_at (pushed lists m x) m) x
there_pushed lists m x less = subst (λ (xs : List ℕ). Contains xs x) (sym (get_or-set_same lists m (list_at lists m ++ x ∷ []) [] less)) (Contains-push (list_at lists m) x)

-- to one list that there is
adds_next : (old mid : List (List ℕ)) (parts : List ℕ) (part user : ℕ) → part < length mid → AddsUser old mid parts user → AddsUser old (pushed mid part user) (parts ++ part ∷ []) user
adds_next old mid parts part user less h = record {
  each = length-set mid part (list_at mid part ++ user ∷ []) ∙ h.each;
  keeps = λ n p there. kept_pushed mid part user n p (h.keeps n p there);
  adds = λ n inside there. by n inside (Contains-push_cases parts part n there);
}
  where
    by : (n : ℕ) → n < length old → Contains parts n ⊎ (part ≡ n) → Contains (list_at (pushed mid part user) n) user
    by n inside (inl before) = kept_pushed mid part user n user (h.adds n inside before)
    by n inside (inr e) = subst (λ (k : ℕ). Contains (list_at (pushed mid part user) k) user) e (there_pushed mid part user less)

-- to none
adds_past : (old mid : List (List ℕ)) (parts : List ℕ) (part user : ℕ) → length mid ≤ part → AddsUser old mid parts user → AddsUser old mid (parts ++ part ∷ []) user
adds_past old mid parts part user past h = record {
  each = h.each;
  keeps = h.keeps;
  adds = λ n inside there. by n inside (Contains-push_cases parts part n there);
}
  where
    by : (n : ℕ) → n < length old → Contains parts n ⊎ (part ≡ n) → Contains (list_at mid n) user
    by n inside (inl before) = h.adds n inside before
    by n inside (inr e) = absurd (omega (arith, inside, past, e, h.each))

pub user_more : (old mid : List (List ℕ)) (parts : List ℕ) (i part user : ℕ) → i < length parts → get_or parts i 0 ≡ part → part < length mid → AddsUser old mid (take i parts) user → AddsUser old (pushed mid part user) (take (i + 1) parts) user
user_more old mid parts i part user less is inside h =
    subst (λ (xs : List ℕ). AddsUser old (pushed mid part user) xs user) (sym (take_more parts i 0 less ∙ ap (λ (x : ℕ). take i parts ++ x ∷ []) is)) (adds_next old mid (take i parts) part user inside h)

pub user_past : (old mid : List (List ℕ)) (parts : List ℕ) (i part user : ℕ) → i < length parts → get_or parts i 0 ≡ part → length mid ≤ part → AddsUser old mid (take i parts) user → AddsUser old mid (take (i + 1) parts) user
user_past old mid parts i part user less is past h =
    subst (λ (xs : List ℕ). AddsUser old mid xs user) (sym (take_more parts i 0 less ∙ ap (λ (x : ℕ). take i parts ++ x ∷ []) is)) (adds_past old mid (take i parts) part user past h)

pub user_all : (old new : List (List ℕ)) (parts : List ℕ) (i user : ℕ) → length parts ≤ i → AddsUser old new (take i parts) user → AddsUser old new parts user
user_all old new parts i user past h = subst (λ (xs : List ℕ). AddsUser old new xs user) (take_all i parts past) h

pub no_users : (nodes : List Node) → AreUsersBelow nodes (replicate (length nodes) []) 0
no_users nodes = record { each = length-replicate (length nodes) []; used = λ p n node less is there. absurd (omega (arith, less)) }

-- the parts of a node are nodes
pub users_more : (nodes : List Node) (old new : List (List ℕ)) (p : ℕ) (node : Node) → slice_get nodes p ≡ Some node → ((n : ℕ) → Contains node.parts n → n < length nodes) → AreUsersBelow nodes old p → AddsUser old new node.parts p → AreUsersBelow nodes new (p + 1)
users_more nodes old new p node is inside are h = record { each = h.each ∙ are.each; used = λ q n m less at there. by q n m less at there (cases_lt q p) }
  where
    by : (q n : ℕ) (m : Node) → q < p + 1 → slice_get nodes q ≡ Some m → Contains m.parts n → (q < p) ⊎ (p ≤ q) → Contains (list_at new n) q
    by q n m less at there (inl lower) = h.keeps n q (are.used q n m lower at there)
    by q n m less at there (inr past) =
        let same : q ≡ p = omega (arith, less, past) in
        let node_same : m ≡ node = same_Some m node (sym at ∙ ap (slice_get nodes) same ∙ is) in
        let within : Contains node.parts n = subst (λ (k : Node). Contains k.parts n) node_same there in
        let low = inside n within in subst (Contains (list_at new n)) (sym same) (h.adds n (omega (arith, low, are.each)) within)

pub users_none : (nodes : List Node) (users : List (List ℕ)) (p : ℕ) → slice_get nodes p ≡ None → AreUsersBelow nodes users p → AreUsersBelow nodes users (p + 1)
users_none nodes users p none are = record { each = are.each; used = λ q n m less at there. by q n m less at there (cases_lt q p) }
  where
    by : (q n : ℕ) (m : Node) → q < p + 1 → slice_get nodes q ≡ Some m → Contains m.parts n → (q < p) ⊎ (p ≤ q) → Contains (list_at users n) q
    by q n m less at there (inl lower) = are.used q n m lower at there
    by q n m less at there (inr past) =
        let same : q ≡ p = omega (arith, less, past) in absurd (none-some m (sym none ∙ ap (slice_get nodes) (sym same) ∙ at))

pub all_users : (nodes : List Node) (users : List (List ℕ)) (count : ℕ) → length nodes ≤ count → AreUsersBelow nodes users count → AreUsers nodes users
all_users nodes users count past are p n node is there =
    let inside = slice_get_within nodes p node is in are.used p n node (omega (arith, inside, past)) is there
