-- A step that is made again and again up to the end.
use Rattle.std.proofs.Common.{◌≡◌, ℕ, zero, suc, ◌<◌, List, [], ◌∷◌, ◌++◌, length, Option, Some, None, inl, inr, ◌⊎◌, refl, sym, ap, subst, ◌∙◌, append_assoc, arith}
use Rattle.std.proofs.lemmas.List.{append-nil}
use Rattle.df_ntree.specs.mirror.Reading.{◌>>=◌, in_front, some_of, all_of, whole}

-- each find takes something
pub record Shrinks {S X : Type 0} (step : List S → Option (Option X × List S)) : Type 0 where
  pub falls : (rest after : List S) (x : X) → step rest ≡ Some (Some x, after) → length after < length rest

same_steps : {S X : Type 0} (f g : List S → Option (List X × List S)) (o : Option (Option X × List S)) → ((x : X) (after : List S) → o ≡ Some (Some x, after) → f after ≡ g after) → (o >>= in_front f) ≡ (o >>= in_front g)
same_steps f g None h = refl
same_steps f g (Some (None, rest)) h = refl
same_steps {S = S} {X = X} f g (Some (Some x, rest)) h = ap (λ (r : Option (List X × List S)). r >>= λ more. Some (x ∷ more.0, more.1)) (h x rest refl)

enough : {S X : Type 0} (step : List S → Option (Option X × List S)) → Shrinks step → (m n : ℕ) (rest : List S) → length rest < m → length rest < n → some_of step m rest ≡ some_of step n rest
unfolding some_of
enough step s zero n rest hm hn = absurd (omega arith)
enough step s (suc m) zero rest hm hn = absurd (omega arith)
enough step s (suc m) (suc n) rest hm hn =
    same_steps (some_of step m) (some_of step n) (step rest) (λ x after e.
    let d = s.falls rest after x e in enough step s m n after (omega arith) (omega arith))

pub all_of-step : {S X : Type 0} (step : List S → Option (Option X × List S)) → Shrinks step → (rest : List S) → all_of step rest ≡ (step rest >>= in_front (all_of step))
unfolding some_of all_of
all_of-step step s rest =
    same_steps (some_of step (length rest)) (all_of step) (step rest) (λ x after e.
    let d = s.falls rest after x e in enough step s (length rest) (suc (length after)) after (omega arith) (omega arith))

-- ---- as a loop makes it

-- what was found before, and what is still found
abbrev pub with_front : {S X : Type 0} → List X → Option (List X × List S) → Option (List X × List S)
with_front front found = found >>= λ x. Some (front ++ x.0, x.1)

pub begins : {S X : Type 0} (found : Option (List X × List S)) → with_front [] found ≡ found
begins None = refl
begins (Some x) = refl

regroup : {S X : Type 0} (front : List X) (x : X) (found : Option (List X × List S)) → with_front front (found >>= λ more. Some (x ∷ more.0, more.1)) ≡ with_front (front ++ x ∷ []) found
regroup {S = S} {X = X} front x (Some more) = ap (λ (xs : List X). Some (xs, more.1)) (simp append_assoc)
regroup front x None = refl

pub goes_on : {S X : Type 0} (step : List S → Option (Option X × List S)) → Shrinks step → (front : List X) (rest after : List S) (x : X) (total : Option (List X × List S)) → step rest ≡ Some (Some x, after)
    → with_front front (all_of step rest) ≡ total → with_front (front ++ x ∷ []) (all_of step after) ≡ total
goes_on step s front rest after x total h so_far =
    let one : with_front front (all_of step rest) ≡ with_front (front ++ x ∷ []) (all_of step after) = rw (all_of-step step s rest, h) (regroup front x (all_of step after)) in
    sym one ∙ so_far

pub is_done : {S X : Type 0} (step : List S → Option (Option X × List S)) → Shrinks step → (front : List X) (rest after : List S) (total : Option (List X × List S)) → step rest ≡ Some (None, after)
    → with_front front (all_of step rest) ≡ total → total ≡ Some (front, after)
is_done {S = S} {X = X} step s front rest after total h so_far =
    let one : with_front front (all_of step rest) ≡ Some (front, after) = rw (all_of-step step s rest, h) (ap (λ (xs : List X). Some (xs, after)) (append-nil front)) in
    sym so_far ∙ one

pub ends : {S X : Type 0} (step : List S → Option (Option X × List S)) → Shrinks step → (front : List X) (rest : List S) (total : Option (List X × List S)) → step rest ≡ None
    → with_front front (all_of step rest) ≡ total → total ≡ None
ends step s front rest total h so_far =
    let one : with_front front (all_of step rest) ≡ None = rw (all_of-step step s rest, h) refl in
    sym so_far ∙ one

-- ---- against a relation

-- elements one after another, each taken from the front, and then the end
abbrev pub Run : {S X : Type 0} → (X → List S → List S → Type 0) → (List S → List S → Type 0) → List X → List S → List S → Type 0
Run One End [] rest after = End rest after
Run {S = S} One End (x ∷ xs) rest after = (between : List S) × One x rest between × Run One End xs between after

pub complete : {S X : Type 0} (step : List S → Option (Option X × List S)) → Shrinks step → (One : X → List S → List S → Type 0) (End : List S → List S → Type 0)
    → ((x : X) (rest after : List S) → One x rest after → step rest ≡ Some (Some x, after))
    → ((rest after : List S) → End rest after → step rest ≡ Some (None, after))
    → (xs : List X) (rest after : List S) → Run One End xs rest after → all_of step rest ≡ Some (xs, after)
complete step s One End one end [] rest after run = all_of-step step s rest ∙ rw (end rest after run) refl
complete step s One End one end (x ∷ xs) rest after run =
    all_of-step step s rest ∙ rw (one x rest run.0 run.1, complete step s One End one end xs run.0 after run.2) refl

-- ---- a step that found something

pub bind_some : {A B : Type 0} (o : Option A) (f : A → Option B) (y : B) → (o >>= f) ≡ Some y → (x : A) × (o ≡ Some x) × (f x ≡ Some y)
bind_some (Some x) f y e = (x, refl, e)
bind_some None f y e = absurd cc

abbrev pub found : {A : Type 0} → A → Option A
found x = Some x

abbrev pub nothing : (A : Type 0) → Option A
nothing A = None

abbrev pub pair : {A B : Type 0} → A → B → A × B
pair a b = (a, b)

pub some_is : {A : Type 0} (x y : A) → found x ≡ found y → x ≡ y
some_is x y e = cc

pub record Ended {S X : Type 0} (o : Option (Option X × List S)) (xs : List X) (after : List S) : Type 0 where
  pub at : o ≡ Some (None, after)
  pub none : xs ≡ []

pub record Went {S X : Type 0} (f : List S → Option (List X × List S)) (o : Option (Option X × List S)) (xs : List X) (after : List S) : Type 0 where
  pub first : X
  pub others : List X
  pub between : List S
  pub at : o ≡ Some (Some first, between)
  pub on : f between ≡ Some (others, after)
  pub all : xs ≡ first ∷ others

pub split : {S X : Type 0} (f : List S → Option (List X × List S)) (o : Option (Option X × List S)) (xs : List X) (after : List S) → (o >>= in_front f) ≡ Some (xs, after) → Ended o xs after ⊎ Went f o xs after
split f None xs after e = absurd cc
split {S = S} {X = X} f (Some (None, rest)) xs after e =
    let p = some_is ([], rest) (xs, after) e in
    inl (record { at = ap (λ (q : List X × List S). Some (None, q.1)) p; none = ap (λ (q : List X × List S). q.0) (sym p) })
split {S = S} {X = X} f (Some (Some x, rest)) xs after e =
    let b = bind_some (f rest) (λ more. Some (x ∷ more.0, more.1)) (xs, after) e in
    let p = some_is (x ∷ b.0.0, b.0.1) (xs, after) b.2 in
    inr (record { first = x; others = b.0.0; between = rest; at = refl; on = b.1 ∙ ap (λ (q : List X × List S). Some (b.0.0, q.1)) p; all = ap (λ (q : List X × List S). q.0) (sym p) })

sound_by : {S X : Type 0} (step : List S → Option (Option X × List S)) (One : X → List S → List S → Type 0) (End : List S → List S → Type 0)
    → ((x : X) (rest after : List S) → step rest ≡ Some (Some x, after) → One x rest after)
    → ((rest after : List S) → step rest ≡ Some (None, after) → End rest after)
    → (fuel : ℕ) (rest : List S) (xs : List X) (after : List S) → some_of step fuel rest ≡ Some (xs, after) → Run One End xs rest after
unfolding some_of
sound_by step One End one end zero rest xs after e = absurd cc
sound_by {S = S} {X = X} step One End one end (suc fuel) rest xs after e =
    elim (split (some_of step fuel) (step rest) xs after e) [
      | inl p ↦ subst (λ (q : List X). Run One End q rest after) (sym p.none) (end rest after p.at)
      | inr p ↦ subst (λ (q : List X). Run One End q rest after) (sym p.all) (p.between, one p.first rest p.between p.at, sound_by step One End one end fuel p.between p.others after p.on)
    ]

pub sound : {S X : Type 0} (step : List S → Option (Option X × List S)) (One : X → List S → List S → Type 0) (End : List S → List S → Type 0)
    → ((x : X) (rest after : List S) → step rest ≡ Some (Some x, after) → One x rest after)
    → ((rest after : List S) → step rest ≡ Some (None, after) → End rest after)
    → (rest : List S) (xs : List X) (after : List S) → all_of step rest ≡ Some (xs, after) → Run One End xs rest after
unfolding all_of
sound step One End one end rest xs after e = sound_by step One End one end (suc (length rest)) rest xs after e

-- ---- what was found is the answer

abbrev pub got : {S X : Type 0} → X → List S → Option (X × List S)
got x rest = Some (x, rest)

pub finish : {S X : Type 0} (P : X → List S → Type 0) (x y : X) (r s : List S) → got x r ≡ got y s → P x r → P y s
finish {S = S} {X = X} P x y r s e p = subst (λ (z : X × List S). P z.0 z.1) (some_is (x, r) (y, s) e) p

pub unwrapped : {X : Type 0} (x y : X) → found x ≡ found y → x ≡ y
unwrapped x y e = cc

pub finish_some : {S X : Type 0} (P : X → List S → Type 0) (x y : X) (r s : List S) → got (found x) r ≡ got (found y) s → P x r → P y s
finish_some {S = S} {X = X} P x y r s e p =
    let q = some_is (found x, r) (found y, s) e in
    let here : x ≡ y = unwrapped x y (ap (λ (z : Option X × List S). z.0) q) in
    let there : r ≡ s = ap (λ (z : Option X × List S). z.1) q in
    subst (λ (z : List S). P y z) there (subst (λ (z : X). P z r) here p)

pub differ : {X : Type 0} (x : X) → nothing X ≡ found x → ⊥
differ x e = cc

pub no_end : {S X : Type 0} (x : X) (r s : List S) → got (nothing X) r ≡ got (found x) s → ⊥
no_end {S = S} {X = X} x r s e = differ x (ap (λ (z : Option X × List S). z.0) (some_is (None, r) (found x, s) e))

pub no_find : {S X : Type 0} (x : X) (r s : List S) → got (found x) r ≡ got (nothing X) s → ⊥
no_find {S = S} {X = X} x r s e = differ x (sym (ap (λ (z : Option X × List S). z.0) (some_is (found x, r) (None, s) e)))

pub bind_none : {A B : Type 0} (o : Option A) (f : A → Option B) → o ≡ None → (o >>= f) ≡ None
bind_none o f e = rw e refl

pub whole_is : {S X : Type 0} (x : X) (rest : List S) (y : X) → whole (x, rest) ≡ Some y → (x ≡ y) × (rest ≡ [])
whole_is x [] y e = (some_is x y e, refl)
whole_is x (s ∷ rest) y e = absurd cc
