-- From some depth on, a modular outcome is wrong, or gives what the whole one does.
use Rattle.std.proofs.Common.{◌≡◌, ◌≤◌, ℕ, zero, suc, max, Bool, true, false, if◌then◌else◌, refl, sym, ap, subst, ◌∙◌, arith}
use Rattle.df_base.specs.declared.pos.Pos.{Pos}
use Rattle.df_types.specs.declared.kind.Kind.{Kind}
use Rattle.df_meaning2.specs.Outcome.{Outcome, Gives, Wrong, TooDeep, NoChoice, Dismissed, after, ◌⊑◌}

pub record From (P : ℕ → Type 0) : Type 0 where
  pub depth : ℕ
  pub holds : (n : ℕ) → depth ≤ n → P n

abbrev pub IsWrong : {A : Type 0} → Outcome A → Type 0
IsWrong (Gives a) = ⊥
IsWrong (Wrong at kind) = Unit {0}
IsWrong TooDeep = ⊥
IsWrong NoChoice = ⊥
IsWrong Dismissed = ⊥

pub data Meets {X : Type 0} (W M : ℕ → Outcome X) : Type 0 where
  fails : From (λ n. IsWrong (M n)) → Meets W M
  comes : (x : X) → From (λ n. W n ≡ Gives x) → From (λ n. M n ≡ Gives x) → Meets W M

-- at some depth it gives this
pub record Reaches {X : Type 0} (W : ℕ → Outcome X) (x : X) : Type 0 where
  pub depth : ℕ
  pub gives : W depth ≡ Gives x

pub always : (P : ℕ → Type 0) → ((n : ℕ) → P n) → From P
always P h = record { depth = 0; holds = λ n le. h n }

pub weaker : (P Q : ℕ → Type 0) → ((n : ℕ) → P n → Q n) → From P → From Q
weaker P Q h f = record { depth = f.depth; holds = λ n le. h n (f.holds n le) }

pub both_from : (P Q R : ℕ → Type 0) → ((n : ℕ) → P n → Q n → R n) → From P → From Q → From R
both_from P Q R h f g = record { depth = max f.depth g.depth; holds = λ n le. h n (f.holds n (omega (arith, le))) (g.holds n (omega (arith, le))) }

pub at_last : (P : ℕ → Type 0) (f : From P) → P f.depth
at_last P f = f.holds f.depth (omega arith)

-- one more depth
pub deeper_by_one : (P Q : ℕ → Type 0) → ((n : ℕ) → P n → Q (suc n)) → From P → From Q
deeper_by_one P Q h f = record { depth = suc f.depth; holds = λ n le. at n le }
  where
    at : (n : ℕ) → suc f.depth ≤ n → Q n
    at zero le = absurd (omega (arith, le))
    at (suc n) le = h n (f.holds n (omega (arith, le)))

pub wrong_after : {X Y : Type 0} (o : Outcome X) (go : X → Outcome Y) → IsWrong o → IsWrong (after o go)
wrong_after (Gives a) go h = absurd h
wrong_after (Wrong at kind) go h = tt
wrong_after TooDeep go h = absurd h
wrong_after NoChoice go h = absurd h
wrong_after Dismissed go h = absurd h

pub then_wrong : {X Y : Type 0} (o : Outcome X) (go : X → Outcome Y) (x : X) → o ≡ Gives x → IsWrong (go x) → IsWrong (after o go)
then_wrong o go x e h = subst (λ z. IsWrong (after z go)) (sym e) h

pub then_gives : {X Y : Type 0} (o : Outcome X) (go : X → Outcome Y) (x : X) (y : Outcome Y) → o ≡ Gives x → go x ≡ y → after o go ≡ y
then_gives o go x y e h = ap (λ z. after z go) e ∙ h

pub not_wrong : {A : Type 0} (o : Outcome A) → ((at : Pos) (kind : Kind) → o ≡ Wrong at kind → ⊥) → IsWrong o → ⊥
not_wrong (Gives a) h w = w
not_wrong (Wrong at kind) h w = h at kind refl
not_wrong TooDeep h w = w
not_wrong NoChoice h w = w
not_wrong Dismissed h w = w

-- what gives something gives one thing
pub one_answer : {A : Type 0} (o : Outcome A) (a b : A) → o ≡ Gives a → o ≡ Gives b → a ≡ b
one_answer o a b e h = let clash : Gives a ≡ Gives b = sym e ∙ h in cc

pub gives_not_wrong : {A : Type 0} (o : Outcome A) (a : A) → o ≡ Gives a → IsWrong o → ⊥
gives_not_wrong o a e h = subst IsWrong e h

pub meets_after : {X Y : Type 0} (W M : ℕ → Outcome X) (K C : ℕ → X → Outcome Y) → Meets W M → ((x : X) → Reaches W x → Meets (λ n. K n x) (λ n. C n x)) → Meets (λ n. after (W n) (K n)) (λ n. after (M n) (C n))
meets_after W M K C (fails f) h = fails (record { depth = f.depth; holds = λ n le. wrong_after (M n) (C n) (f.holds n le) })
meets_after W M K C (comes x f g) h = behind (h x (record { depth = f.depth; gives = f.holds f.depth (omega arith) }))
  where
    behind : Meets (λ n. K n x) (λ n. C n x) → Meets (λ n. after (W n) (K n)) (λ n. after (M n) (C n))
    behind (fails k) = fails (record { depth = max g.depth k.depth; holds = λ n le. then_wrong (M n) (C n) x (g.holds n (omega (arith, le))) (k.holds n (omega (arith, le))) })
    behind (comes y k l) = comes y
        (record { depth = max f.depth k.depth; holds = λ n le. then_gives (W n) (K n) x (Gives y) (f.holds n (omega (arith, le))) (k.holds n (omega (arith, le))) })
        (record { depth = max g.depth l.depth; holds = λ n le. then_gives (M n) (C n) x (Gives y) (g.holds n (omega (arith, le))) (l.holds n (omega (arith, le))) })

pub meets_value : {X : Type 0} (x : X) → Meets (λ n. Gives x) (λ n. Gives x)
meets_value x = comes x (record { depth = 0; holds = λ n le. refl }) (record { depth = 0; holds = λ n le. refl })

pub meets_wrong : {X : Type 0} (W : ℕ → Outcome X) (at : Pos) (kind : Kind) → Meets W (λ n. Wrong at kind)
meets_wrong W at kind = fails (record { depth = 0; holds = λ n le. tt })

pub meets_choice : {X : Type 0} (b : Bool) (W M V N : ℕ → Outcome X) → Meets W M → Meets V N → Meets (λ n. if b then W n else V n) (λ n. if b then M n else N n)
meets_choice true W M V N h k = h
meets_choice false W M V N h k = k

-- ---- equal ones

pub after_same : {A B : Type 0} (o q : Outcome A) (f g : A → Outcome B) → o ≡ q → ((a : A) → f a ≡ g a) → after o f ≡ after q g
after_same o q f g e h = ap (λ z. after z f) e ∙ ap (after q) (λ i a. h a i)

pub choice_same : {A : Type 0} (b : Bool) (x y z w : A) → x ≡ z → y ≡ w → (if b then x else y) ≡ (if b then z else w)
choice_same true x y z w h k = h
choice_same false x y z w h k = k

pub after_twice : {A B C : Type 0} (o : Outcome A) (f : A → Outcome B) (g : B → Outcome C) → after (after o f) g ≡ after o (λ a. after (f a) g)
after_twice (Gives a) f g = refl
after_twice (Wrong at kind) f g = refl
after_twice TooDeep f g = refl
after_twice NoChoice f g = refl
after_twice Dismissed f g = refl

-- ---- more depth

pub stays : {A : Type 0} (o q : Outcome A) (a : A) → o ⊑ q → o ≡ Gives a → q ≡ Gives a
stays (Gives b) q a h e = h ∙ e
stays (Wrong at kind) q a h e = cc
stays TooDeep q a h e = cc
stays NoChoice q a h e = cc
stays Dismissed q a h e = cc

pub stays_wrong : {A : Type 0} (o q : Outcome A) (at : Pos) (kind : Kind) → o ⊑ q → o ≡ Wrong at kind → q ≡ Wrong at kind
stays_wrong (Gives b) q at kind h e = cc
stays_wrong (Wrong a k) q at kind h e = h ∙ e
stays_wrong TooDeep q at kind h e = cc
stays_wrong NoChoice q at kind h e = cc
stays_wrong Dismissed q at kind h e = cc

pub stays_dismissed : {A : Type 0} (o q : Outcome A) → o ⊑ q → o ≡ Dismissed → q ≡ Dismissed
stays_dismissed (Gives b) q h e = cc
stays_dismissed (Wrong a k) q h e = cc
stays_dismissed TooDeep q h e = cc
stays_dismissed NoChoice q h e = cc
stays_dismissed Dismissed q h e = h
