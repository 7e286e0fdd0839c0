-- Nodes of which each has a property.
use Rattle.std.proofs.Common.{suc, Bool, true, false, List, [], ◌∷◌, ◌++◌, refl, arith}
use Rattle.std.specs.Prelude.{Contains, cond, filter}
use Rattle.std.specs.List.{AllByRecursion}
use Rattle.df_lemmas.proofs.Alls.{all_joined, all_front, all_back, all_at}
use Rattle.df_ntyping.specs.Node.{Occurrence}

pub record Alls (P : Occurrence → Type 0) (nodes : List Occurrence) : Type 0 where
  pub each : AllByRecursion P nodes

pub none : {P : Occurrence → Type 0} → Alls P []
none = record { each = tt }

-- a node in front
pub front : {P : Occurrence → Type 0} {one : Occurrence} {others : List Occurrence} → P one → Alls P others → Alls P (one ∷ others)
front h k = record { each = (h, k.each) }

pub only : {P : Occurrence → Type 0} {one : Occurrence} → P one → Alls P (one ∷ [])
only h = record { each = (h, tt) }

pub both : {P : Occurrence → Type 0} {xs ys : List Occurrence} → Alls P xs → Alls P ys → Alls P (xs ++ ys)
both {P} {xs} {ys} h k = record { each = all_joined P xs ys h.each k.each }

-- ---- parts

pub head : {P : Occurrence → Type 0} {one : Occurrence} {others : List Occurrence} → Alls P (one ∷ others) → P one
head h = h.each.0

pub tail : {P : Occurrence → Type 0} {one : Occurrence} {others : List Occurrence} → Alls P (one ∷ others) → Alls P others
tail h = record { each = h.each.1 }

pub left : {P : Occurrence → Type 0} (xs ys : List Occurrence) → Alls P (xs ++ ys) → Alls P xs
left {P} xs ys h = record { each = all_front P xs ys h.each }

pub right : {P : Occurrence → Type 0} (xs ys : List Occurrence) → Alls P (xs ++ ys) → Alls P ys
right {P} xs ys h = record { each = all_back P xs ys h.each }

-- ---- each

pub there : {P : Occurrence → Type 0} (nodes : List Occurrence) (one : Occurrence) → Alls P nodes → Contains nodes one → P one
there {P} nodes one h c = all_at P nodes one h.each c

pub each_in : {P : Occurrence → Type 0} (nodes : List Occurrence) → ((one : Occurrence) → Contains nodes one → P one) → Alls P nodes
each_in [] h = none
each_in (x ∷ xs) h = front (h x (0, omega arith, refl)) (each_in xs (λ one c. h one (suc c.0, omega (arith, c.1), c.2)))

pub weaker : {P Q : Occurrence → Type 0} (nodes : List Occurrence) → ((one : Occurrence) → P one → Q one) → Alls P nodes → Alls Q nodes
weaker [] f h = none
weaker (x ∷ xs) f h = front (f x (head h)) (weaker xs f (tail h))

-- some of the nodes
pub some_of : {P : Occurrence → Type 0} (test : Occurrence → Bool) (nodes : List Occurrence) → Alls P nodes → Alls P (filter test nodes)
some_of {P} test [] h = none
some_of {P} test (x ∷ xs) h = keep (test x) (head h) (some_of test xs (tail h)) where
  keep : (b : Bool) → P x → Alls P (filter test xs) → Alls P (cond b (x ∷ filter test xs) (filter test xs))
  keep true one others = front one others
  keep false one others = others
