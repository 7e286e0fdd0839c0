-- One more node, which is part of none before: it makes no others equal.
use Rattle.std.proofs.Common.{◌≡◌, ℕ, ◌<◌, ◌⊎◌, inl, inr, List, [], ◌∷◌, ◌++◌, length, Contains, Some, slice_get, refl, sym, ap, subst, ◌∙◌, arith}
use Rattle.std.proofs.lemmas.List.Elements.{Contains-append_right}
use Rattle.std.proofs.lemmas.Option.{slice_get_within}
use Rattle.df_lemmas.proofs.Lists.{get_pushed}
use Rattle.df_form.specs.declared.log.Pair.{Pair}
use Rattle.df_form.specs.Node.{Node}
use Rattle.df_classes.specs.Equal.{AreEqual, AreAllEqual, named, itself, turned, through, applied, none, both}

-- ---- parts that are equal

all_turned : (nodes : List Node) (pairs : List Pair) (xs ys : List ℕ) → AreAllEqual nodes pairs xs ys → AreAllEqual nodes pairs ys xs
all_turned nodes pairs xs ys none = none
all_turned nodes pairs xs ys (both {xs = us} {ys = vs} h rest) = both (turned h) (all_turned nodes pairs us vs rest)

all_through : (nodes : List Node) (pairs : List Pair) (xs ys zs : List ℕ) → AreAllEqual nodes pairs xs ys → AreAllEqual nodes pairs ys zs → AreAllEqual nodes pairs xs zs
all_through nodes pairs xs ys zs none none = none
all_through nodes pairs xs ys zs (both {xs = us} {ys = vs} h rest) (both {ys = ws} k more) = both (through h k) (all_through nodes pairs us vs ws rest more)

-- ---- one more node

-- of each node the parts are among these nodes
abbrev pub PartsAre : List Node → ℕ → Type 0
PartsAre nodes count = (n : ℕ) (node : Node) → slice_get nodes n ≡ Some node → (p : ℕ) → Contains node.parts p → p < count

module _ (nodes : List Node) (x : Node) (parts : PartsAre (nodes ++ x ∷ []) (length nodes)) (pairs : List Pair) (inside : (pair : Pair) → Contains pairs pair → (pair.left < length nodes) × (pair.right < length nodes)) where
  abbrev pub more : List Node
  more = nodes ++ x ∷ []

  -- a node that was there is like the new one, and equal to this one
  pub record IsLike (b : ℕ) : Type 0 where
    pub twin : ℕ
    pub node : Node
    pub there : slice_get nodes twin ≡ Some node
    pub op : node.op ≡ x.op
    pub alike : AreAllEqual nodes pairs node.parts x.parts
    pub equal : AreEqual nodes pairs twin b
    pub below : b < length nodes

  pub data Meets (a b : ℕ) : Type 0 where
    same : a ≡ b → Meets a b
    old : a < length nodes → b < length nodes → AreEqual nodes pairs a b → Meets a b
    left : a ≡ length nodes → IsLike b → Meets a b
    right : b ≡ length nodes → IsLike a → Meets a b

  like_on : (a b : ℕ) → IsLike a → b < length nodes → AreEqual nodes pairs a b → IsLike b
  like_on a b k less h = record { twin = k.twin; node = k.node; there = k.there; op = k.op; alike = k.alike; equal = through k.equal h; below = less }

  both_like : (a b : ℕ) → IsLike a → IsLike b → AreEqual nodes pairs a b
  both_like a b k l = through (turned k.equal) (through (applied k.there l.there (k.op ∙ sym l.op) (all_through nodes pairs k.node.parts x.parts l.node.parts k.alike (all_turned nodes pairs l.node.parts x.parts l.alike))) l.equal)

  never : {A : Type 0} (n : ℕ) → n < length nodes → n ≡ length nodes → A
  never n less e = absurd (omega (arith, less, e))

  meets_turned : (a b : ℕ) → Meets a b → Meets b a
  meets_turned a b (same e) = same (sym e)
  meets_turned a b (old l r h) = old r l (turned h)
  meets_turned a b (left e k) = right e k
  meets_turned a b (right e k) = left e k

  meets_through : (a b c : ℕ) → Meets a b → Meets b c → Meets a c
  meets_through a b c (same e) k = subst (λ (n : ℕ). Meets n c) (sym e) k
  meets_through a b c (old l r h) (same e) = subst (Meets a) e (old l r h)
  meets_through a b c (old l r h) (old m s k) = old l s (through h k)
  meets_through a b c (old l r h) (left e k) = never b r e
  meets_through a b c (old l r h) (right e k) = right e (like_on b a k l (turned h))
  meets_through a b c (left e k) (same f) = subst (Meets a) f (left e k)
  meets_through a b c (left e k) (old l r h) = left e (like_on b c k r h)
  meets_through a b c (left e k) (left f j) = never b k.below f
  meets_through a b c (left e k) (right f j) = same (e ∙ sym f)
  meets_through a b c (right e k) (same f) = subst (Meets a) f (right e k)
  meets_through a b c (right e k) (old l r h) = never b l e
  meets_through a b c (right e k) (left f j) = old k.below j.below (both_like a c k j)
  meets_through a b c (right e k) (right f j) = never b j.below e

  pub old_of : (a b : ℕ) → a < length nodes → b < length nodes → Meets a b → AreEqual nodes pairs a b
  old_of a b l r (same e) = subst (AreEqual nodes pairs a) e itself
  old_of a b l r (old m s h) = h
  old_of a b l r (left e k) = never a l e
  old_of a b l r (right e k) = never b r e

  met : (a b : ℕ) (first second : Node) → slice_get more a ≡ Some first → slice_get more b ≡ Some second → first.op ≡ second.op → AreAllEqual nodes pairs first.parts second.parts → Meets a b
  met a b first second at there op all = by (get_pushed nodes x a first at) (get_pushed nodes x b second there)
    where
      by : (slice_get nodes a ≡ Some first) ⊎ ((a ≡ length nodes) × (x ≡ first)) → (slice_get nodes b ≡ Some second) ⊎ ((b ≡ length nodes) × (x ≡ second)) → Meets a b
      by (inl e) (inl f) = old (slice_get_within nodes a first e) (slice_get_within nodes b second f) (applied e f op all)
      by (inl e) (inr f) = right f.0 (record {
        twin = a;
        node = first;
        there = e;
        op = op ∙ ap (λ (node : Node). node.op) (sym f.1);
        alike = subst (λ (node : Node). AreAllEqual nodes pairs first.parts node.parts) (sym f.1) all;
        equal = itself;
        below = slice_get_within nodes a first e;
      })
      by (inr e) (inl f) = left e.0 (record {
        twin = b;
        node = second;
        there = f;
        op = sym op ∙ ap (λ (node : Node). node.op) (sym e.1);
        alike = all_turned nodes pairs x.parts second.parts (subst (λ (node : Node). AreAllEqual nodes pairs node.parts second.parts) (sym e.1) all);
        equal = itself;
        below = slice_get_within nodes b second f;
      })
      by (inr e) (inr f) = same (e.0 ∙ sym f.0)

  abbrev AllBelow : List ℕ → Type 0
  AllBelow xs = (p : ℕ) → Contains xs p → p < length nodes

  mutual
    pub meets : (a b : ℕ) → AreEqual more pairs a b → Meets a b
    meets a b (named {pair} there) = let ends = inside pair there in old ends.0 ends.1 (named there)
    meets a b itself = same refl
    meets a b (turned h) = meets_turned b a (meets b a h)
    meets a b (through {b = m} h k) = meets_through a m b (meets a m h) (meets m b k)
    meets a b (applied {first} {second} at there op all) = met a b first second at there op (all_old first.parts second.parts (parts a first at) (parts b second there) all)

    all_old : (xs ys : List ℕ) → AllBelow xs → AllBelow ys → AreAllEqual more pairs xs ys → AreAllEqual nodes pairs xs ys
    all_old xs ys low high none = none
    all_old xs ys low high (both {a} {b} {xs = us} {ys = vs} h rest) =
        both (old_of a b (low a (0, omega arith, refl)) (high b (0, omega arith, refl)) (meets a b h))
        (all_old us vs (λ p there. low p (Contains-append_right (a ∷ []) us p there)) (λ p there. high p (Contains-append_right (b ∷ []) vs p there)) rest)
