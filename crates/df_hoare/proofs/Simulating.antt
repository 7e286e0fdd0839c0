-- When whole and modular computations go together. A whole one has a depth; a modular one has a depth and what is
-- handed in.
use Rattle.std.proofs.Common.{◌≡◌, ◌≤◌, ℕ, max, Bool, true, false, if◌then◌else◌, List, [], ◌++◌, sym, ap, subst, ◌∙◌, append_assoc, arith}
use Rattle.df_base.specs.declared.pos.Pos.{Pos}
use Rattle.df_meaning.specs.declared.kind.Kind.{Kind}
use Rattle.df_meaning.specs.Outcome.{Outcome, Gives, Wrong, TooDeep, Dismissed, after}
use Rattle.df_meaning.specs.State.{Handed}
use Rattle.df_meaning.specs.Growing.{◌⊑◌}
use Rattle.df_meaning.proofs.Shallow.{IsShallow, not_deep}
use Rattle.df_hoare.proofs.Running.{Reaches, Runs, stays_wrong, given_is, runs_weaken, runs_steady, runs_after}

-- it is never wrong
pub record IsSafe {X : Type 0} (modular : ℕ → List Handed → Outcome X) : Type 0 where
  pub never : (depth : ℕ) (handed : List Handed) (at : Pos) (kind : Kind) → modular depth handed ≡ Wrong at kind → ⊥

-- where these are handed in first, it gives this, and the others are left
pub record Follows {X : Type 0} (hand : List Handed → X → X) (modular : ℕ → List Handed → Outcome X) (x : X) : Type 0 where
  pub front : List Handed
  pub depth : ℕ
  pub by : (d : ℕ) (more : List Handed) → depth ≤ d → modular d (front ++ more) ≡ Gives (hand more x)

-- Where the modular one is never wrong the whole one runs, and what it gives the modular one gives too.
pub record Simulates {X : Type 0} (hand : List Handed → X → X) (whole : ℕ → Outcome X) (modular : ℕ → List Handed → Outcome X) : Type 0 where
  pub runs : IsSafe modular → Runs whole (Follows hand modular)

-- what takes nothing that is handed in
abbrev pub keep : {X : Type 0} → List Handed → X → X
keep handed x = x

pub simulates_same : {X : Type 0} (hand : List Handed → X → X) (W V : ℕ → Outcome X) (M N : ℕ → List Handed → Outcome X) → ((n : ℕ) → W n ≡ V n) → ((d : ℕ) (h : List Handed) → M d h ≡ N d h)
    → Simulates hand V N → Simulates hand W M
simulates_same hand W V M N e f s =
    let wholes : W ≡ V = λ i n. e n i in
    let modulars : M ≡ N = λ i d h. f d h i in
    subst (λ F. Simulates hand F M) (sym wholes) (subst (λ F. Simulates hand V F) (sym modulars) s)

-- ---- what is the same at each depth

pub simulates_steady : {X : Type 0} (hand : List Handed → X → X) (o : Outcome X) (M : ℕ → List Handed → Outcome X) → (o ≡ TooDeep → ⊥) → ((at : Pos) (kind : Kind) → o ≡ Wrong at kind → M 0 [] ≡ Wrong at kind)
    → ((x : X) → o ≡ Gives x → (d : ℕ) (h : List Handed) → M d h ≡ Gives (hand h x)) → Simulates hand (λ n. o) M
simulates_steady hand o M not_too_deep wrong gives = record {
  runs = λ safe. runs_steady o (Follows hand M) not_too_deep (λ at kind e. safe.never 0 [] at kind (wrong at kind e)) (λ x e. record { front = []; depth = 0; by = λ d more le. gives x e d more });
}

pub simulates_gives : {X : Type 0} (hand : List Handed → X → X) (x : X) → Simulates hand (λ n. Gives x) (λ d h. Gives (hand h x))
simulates_gives hand x = simulates_steady hand (Gives x) (λ d h. Gives (hand h x)) (λ e. cc) (λ at kind e. cc) (λ y e d h. ap (λ z. Gives (hand h z)) (given_is x y e))

pub simulates_wrong : {X : Type 0} (hand : List Handed → X → X) (at : Pos) (kind : Kind) → Simulates hand (λ n. Wrong at kind) (λ d h. Wrong at kind)
simulates_wrong hand at kind = simulates_steady hand (Wrong at kind) (λ d h. Wrong at kind) (λ e. cc) (λ a k e. e) (λ y e d h. cc)

pub simulates_dismissed : {X : Type 0} (hand : List Handed → X → X) → Simulates hand (λ n. Dismissed) (λ d h. Dismissed)
simulates_dismissed hand = simulates_steady hand Dismissed (λ d h. Dismissed) (λ e. cc) (λ a k e. cc) (λ y e d h. cc)

-- one outcome of both
pub simulates_constant : {X : Type 0} (o : Outcome X) (W : ℕ → Outcome X) (M : ℕ → List Handed → Outcome X) → IsShallow o → ((n : ℕ) → W n ≡ o) → ((d : ℕ) (h : List Handed) → M d h ≡ o) → Simulates keep W M
simulates_constant o W M shallow e f =
    simulates_same keep W (λ n. o) M (λ d h. o) e f (simulates_steady keep o (λ d h. o) (not_deep o shallow) (λ at kind g. g) (λ x g d h. g))

pub simulates_choice : {X : Type 0} (hand : List Handed → X → X) (b : Bool) (W V : ℕ → Outcome X) (M N : ℕ → List Handed → Outcome X) → Simulates hand W M → Simulates hand V N
    → Simulates hand (λ n. if b then W n else V n) (λ d h. if b then M d h else N d h)
simulates_choice hand true W V M N s t = s
simulates_choice hand false W V M N s t = t

-- ---- binding

-- what goes on from what a modular computation gives
module _ {X Y : Type 0} (hand : List Handed → X → X) (hand_on : List Handed → Y → Y) (M : ℕ → List Handed → Outcome X) (C : ℕ → X → Outcome Y) (deeper : (d e : ℕ) (a : X) → d ≤ e → C d a ⊑ C e a) where
  pub first_safe : IsSafe (λ d h. after (M d h) (C d)) → IsSafe M
  first_safe safe = record { never = λ d h at kind e. safe.never d h at kind (ap (λ o. after o (C d)) e) }

  pub then_safe : IsSafe (λ d h. after (M d h) (C d)) → (x : X) → Follows hand M x → IsSafe (λ d h. C d (hand h x))
  then_safe safe x f = record {
    never = λ d h at kind e.
        let both = max d f.depth in
        let there : M both (f.front ++ h) ≡ Gives (hand h x) = f.by both h (omega arith) in
        let still : C both (hand h x) ≡ Wrong at kind = stays_wrong (C d (hand h x)) (C both (hand h x)) at kind (deeper d both (hand h x) (omega arith)) e in
        safe.never both (f.front ++ h) at kind (ap (λ o. after o (C both)) there ∙ still);
  }

  pub then_follows : (y : Y) (x : X) → Follows hand M x → Follows hand_on (λ d h. C d (hand h x)) y → Follows hand_on (λ d h. after (M d h) (C d)) y
  then_follows y x f g = record {
    front = f.front ++ g.front;
    depth = max f.depth g.depth;
    by = λ d more le.
        let there : M d (f.front ++ (g.front ++ more)) ≡ Gives (hand (g.front ++ more) x) = f.by d (g.front ++ more) (omega arith) in
        let goes : C d (hand (g.front ++ more) x) ≡ Gives (hand_on more y) = g.by d more (omega arith) in
        ap (λ h. after (M d h) (C d)) (append_assoc f.front g.front more) ∙ ap (λ o. after o (C d)) there ∙ goes;
  }

  pub simulates_after : (W : ℕ → Outcome X) (K : ℕ → X → Outcome Y) → Simulates hand W M → ((x : X) → Reaches W x → Simulates hand_on (λ n. K n x) (λ d h. C d (hand h x)))
      → Simulates hand_on (λ n. after (W n) (K n)) (λ d h. after (M d h) (C d))
  simulates_after W K s t = record {
    runs = λ safe. runs_after W (Follows hand M) K (Follows hand_on (λ d h. after (M d h) (C d))) (s.runs (first_safe safe)) (λ x c f.
        runs_weaken (λ n. K n x) (Follows hand_on (λ d h. C d (hand h x))) (Follows hand_on (λ d h. after (M d h) (C d))) ((t x c).runs (then_safe safe x f)) (λ y k g. then_follows y x f g));
  }

-- the same where the first takes nothing that is handed in, and what goes on does
module _ {X Y : Type 0} (hand : List Handed → Y → Y) (M : ℕ → List Handed → Outcome X) (C : ℕ → List Handed → X → Outcome Y) (free : (d : ℕ) (h : List Handed) → M d h ≡ M d [])
    (deeper : (d e : ℕ) (h : List Handed) (a : X) → d ≤ e → C d h a ⊑ C e h a) where
  pub read_safe : IsSafe (λ d h. after (M d h) (C d h)) → IsSafe M
  read_safe safe = record { never = λ d h at kind e. safe.never d h at kind (ap (λ o. after o (C d h)) e) }

  reads : (x : X) (f : Follows keep M x) (d : ℕ) (h : List Handed) → f.depth ≤ d → M d h ≡ Gives x
  reads x f d h le = free d h ∙ sym (free d (f.front ++ h)) ∙ f.by d h le

  pub behind_safe : IsSafe (λ d h. after (M d h) (C d h)) → (x : X) → Follows keep M x → IsSafe (λ d h. C d h x)
  behind_safe safe x f = record {
    never = λ d h at kind e.
        let both = max d f.depth in
        let there : M both h ≡ Gives x = reads x f both h (omega arith) in
        let still : C both h x ≡ Wrong at kind = stays_wrong (C d h x) (C both h x) at kind (deeper d both h x (omega arith)) e in
        safe.never both h at kind (ap (λ o. after o (C both h)) there ∙ still);
  }

  pub read_follows : (y : Y) (x : X) → Follows keep M x → Follows hand (λ d h. C d h x) y → Follows hand (λ d h. after (M d h) (C d h)) y
  read_follows y x f g = record {
    front = g.front;
    depth = max f.depth g.depth;
    by = λ d more le.
        let there : M d (g.front ++ more) ≡ Gives x = reads x f d (g.front ++ more) (omega arith) in
        ap (λ o. after o (C d (g.front ++ more))) there ∙ g.by d more (omega arith);
  }

  pub simulates_read : (W : ℕ → Outcome X) (K : ℕ → X → Outcome Y) → Simulates keep W M → ((x : X) → Reaches W x → Simulates hand (λ n. K n x) (λ d h. C d h x))
      → Simulates hand (λ n. after (W n) (K n)) (λ d h. after (M d h) (C d h))
  simulates_read W K s t = record {
    runs = λ safe. runs_after W (Follows keep M) K (Follows hand (λ d h. after (M d h) (C d h))) (s.runs (read_safe safe)) (λ x c f.
        runs_weaken (λ n. K n x) (Follows hand (λ d h. C d h x)) (Follows hand (λ d h. after (M d h) (C d h))) ((t x c).runs (behind_safe safe x f)) (λ y k g. read_follows y x f g));
  }
