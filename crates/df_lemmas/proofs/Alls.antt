-- Lists all of whose elements have a property.
use Rattle.std.proofs.Common.{◌≡◌, ℕ, zero, suc, List, [], ◌∷◌, ◌++◌, map, Contains, refl, sym, subst, arith}
use Rattle.std.specs.List.{AllByRecursion}
use Rattle.df_lemmas.proofs.Lists.{head_same, tail_same}

pub all_joined : {A : Type 0} (P : A → Type 0) (xs ys : List A) → AllByRecursion P xs → AllByRecursion P ys → AllByRecursion P (xs ++ ys)
all_joined P [] ys a b = b
all_joined P (x ∷ xs) ys a b = (a.0, all_joined P xs ys a.1 b)

pub all_front : {A : Type 0} (P : A → Type 0) (xs ys : List A) → AllByRecursion P (xs ++ ys) → AllByRecursion P xs
all_front P [] ys a = tt
all_front P (x ∷ xs) ys a = (a.0, all_front P xs ys a.1)

pub all_back : {A : Type 0} (P : A → Type 0) (xs ys : List A) → AllByRecursion P (xs ++ ys) → AllByRecursion P ys
all_back P [] ys a = a
all_back P (x ∷ xs) ys a = all_back P xs ys a.1

pub all_there : {A : Type 0} (P : A → Type 0) (xs ys : List A) (x : A) → AllByRecursion P (xs ++ x ∷ ys) → P x
all_there P [] ys x all = all.0
all_there P (y ∷ xs) ys x all = all_there P xs ys x all.1

pub all_at : {A : Type 0} (P : A → Type 0) (xs : List A) (x : A) → AllByRecursion P xs → Contains xs x → P x
all_at P [] x all (k, lt, e) = absurd (omega arith)
all_at P (y ∷ xs) x all (zero, lt, e) = subst P e all.0
all_at P (y ∷ xs) x all (suc k, lt, e) = all_at P xs x all.1 (k, omega arith, e)

pub none_there : {A : Type 0} (x : A) → Contains [] x → ⊥
none_there x c = let lt = c.1 in omega arith

-- the first of which something doesn't hold is one
pub same_first : {A : Type 0} (P : A → Type 0) (xs ys others more : List A) (x y : A) → xs ++ x ∷ ys ≡ others ++ y ∷ more → AllByRecursion P xs → AllByRecursion P others → (P x → ⊥) → (P y → ⊥) → x ≡ y
same_first P [] ys [] more x y e all its here there = head_same x y ys more e
same_first P [] ys (z ∷ others) more x y e all its here there = absurd (here (subst P (sym (head_same x z ys (others ++ y ∷ more) e)) its.0))
same_first P (z ∷ xs) ys [] more x y e all its here there = absurd (there (subst P (head_same z y (xs ++ x ∷ ys) more e) all.0))
same_first P (z ∷ xs) ys (w ∷ others) more x y e all its here there = same_first P xs ys others more x y (tail_same z w (xs ++ x ∷ ys) (others ++ y ∷ more) e) all.1 its.1 here there
