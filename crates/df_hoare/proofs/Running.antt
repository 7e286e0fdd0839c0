-- Computations with a depth that are never wrong and come to an end.
use Rattle.std.proofs.Common.{◌≡◌, ◌≤◌, ℕ, zero, suc, max, refl, sym, ap, subst, ◌∙◌, arith}
use Rattle.df_base.specs.declared.pos.Pos.{Pos}
use Rattle.df_meaning.specs.declared.kind.Kind.{Kind}
use Rattle.df_meaning.specs.Outcome.{Outcome, Gives, Wrong, TooDeep, NoChoice, Dismissed, after}
use Rattle.df_meaning.specs.Growing.{◌⊑◌}
use Rattle.df_meaning.proofs.Outcomes.{same_grows}

-- at some depth it gives this
pub record Reaches {X : Type 0} (whole : ℕ → Outcome X) (x : X) : Type 0 where
  pub depth : ℕ
  pub gives : whole depth ≡ Gives x

pub record Ends {X : Type 0} (whole : ℕ → Outcome X) : Type 0 where
  pub depth : ℕ
  pub not_too_deep : whole depth ≡ TooDeep → ⊥

-- More depth keeps what it comes to; it is never wrong, and comes to an end; and what it gives is such.
pub record Runs {X : Type 0} (whole : ℕ → Outcome X) (Post : X → Type 0) : Type 0 where
  pub grows : (n m : ℕ) → n ≤ m → whole n ⊑ whole m
  pub right : (n : ℕ) (at : Pos) (kind : Kind) → whole n ≡ Wrong at kind → ⊥
  pub ends : Ends whole
  pub gives : (x : X) → Reaches whole x → Post x

-- ---- outcomes

pub stays : {A : Type 0} (o p : Outcome A) (a : A) → o ⊑ p → o ≡ Gives a → p ≡ Gives a
stays (Gives b) p a h e = h ∙ e
stays (Wrong at kind) p a h e = cc
stays TooDeep p a h e = cc
stays NoChoice p a h e = cc
stays Dismissed p a h e = cc

pub stays_wrong : {A : Type 0} (o p : Outcome A) (at : Pos) (kind : Kind) → o ⊑ p → o ≡ Wrong at kind → p ≡ Wrong at kind
stays_wrong (Gives b) p at kind h e = cc
stays_wrong (Wrong a k) p at kind h e = h ∙ e
stays_wrong TooDeep p at kind h e = cc
stays_wrong NoChoice p at kind h e = cc
stays_wrong Dismissed p at kind h e = cc

pub deep_below : {A : Type 0} (o p : Outcome A) → o ⊑ p → (o ≡ TooDeep → ⊥) → p ≡ TooDeep → ⊥
deep_below (Gives b) p h other e = let f : Gives b ≡ TooDeep = sym h ∙ e in cc
deep_below (Wrong a k) p h other e = let f : Wrong a k ≡ TooDeep = sym h ∙ e in cc
deep_below TooDeep p h other e = other refl
deep_below NoChoice p h other e = let f : NoChoice ≡ TooDeep = sym h ∙ e in cc
deep_below Dismissed p h other e = let f : Dismissed ≡ TooDeep = sym h ∙ e in cc

-- binding grows where what is bound to does
pub after_grows_at : {A B : Type 0} (o p : Outcome A) (f g : A → Outcome B) → o ⊑ p → ((a : A) → o ≡ Gives a → f a ⊑ g a) → after o f ⊑ after p g
after_grows_at (Gives a) p f g e h = subst (λ x. f a ⊑ after x g) (sym e) (h a refl)
after_grows_at (Wrong at kind) p f g e h = ap (λ x. after x g) e
after_grows_at TooDeep p f g e h = tt
after_grows_at NoChoice p f g e h = ap (λ x. after x g) e
after_grows_at Dismissed p f g e h = ap (λ x. after x g) e

pub given_is : {A : Type 0} (x y : A) → Gives x ≡ Gives y → x ≡ y
given_is x y e = cc

-- what grows gives one thing
pub one_answer : {A : Type 0} (whole : ℕ → Outcome A) (x y : A) → ((n m : ℕ) → n ≤ m → whole n ⊑ whole m) → Reaches whole x → Reaches whole y → x ≡ y
one_answer whole x y grows a b =
    let both = max a.depth b.depth in
    let one : whole both ≡ Gives x = stays (whole a.depth) (whole both) x (grows a.depth both (omega arith)) a.gives in
    let other : whole both ≡ Gives y = stays (whole b.depth) (whole both) y (grows b.depth both (omega arith)) b.gives in
    given_is x y (sym one ∙ other)

-- ---- what runs

pub runs_weaken : {X : Type 0} (W : ℕ → Outcome X) (P Q : X → Type 0) → Runs W P → ((x : X) → Reaches W x → P x → Q x) → Runs W Q
runs_weaken W P Q r h = record { grows = r.grows; right = r.right; ends = r.ends; gives = λ x c. h x c (r.gives x c) }

-- what is the same at each depth
pub runs_steady : {X : Type 0} (o : Outcome X) (P : X → Type 0) → (o ≡ TooDeep → ⊥) → ((at : Pos) (kind : Kind) → o ≡ Wrong at kind → ⊥) → ((x : X) → o ≡ Gives x → P x) → Runs (λ n. o) P
runs_steady o P not_deep not_wrong gives = record {
  grows = λ n m le. same_grows o;
  right = λ n at kind e. not_wrong at kind e;
  ends = record { depth = 0; not_too_deep = not_deep };
  gives = λ x c. gives x c.gives;
}

pub runs_same : {X : Type 0} (W V : ℕ → Outcome X) (P : X → Type 0) → ((n : ℕ) → W n ≡ V n) → Runs V P → Runs W P
runs_same W V P e r = let path : W ≡ V = λ i n. e n i in subst (λ F. Runs F P) (sym path) r

-- one deeper
abbrev pub later : {X : Type 0} → (ℕ → Outcome X) → ℕ → Outcome X
later F zero = TooDeep
later F (suc n) = F n

later_grows : {X : Type 0} (F : ℕ → Outcome X) → ((n m : ℕ) → n ≤ m → F n ⊑ F m) → (n m : ℕ) → n ≤ m → later F n ⊑ later F m
later_grows F grows zero m le = tt
later_grows F grows (suc n) zero le = absurd (omega (arith, le))
later_grows F grows (suc n) (suc m) le = grows n m (omega (arith, le))

pub runs_later : {X : Type 0} (F : ℕ → Outcome X) (P : X → Type 0) → Runs F P → Runs (later F) P
runs_later {X} F P r = record {
  grows = later_grows F r.grows;
  right = not_wrong;
  ends = record { depth = suc r.ends.depth; not_too_deep = r.ends.not_too_deep };
  gives = λ x c. given x c.depth c.gives;
}
  where
    not_wrong : (n : ℕ) (at : Pos) (kind : Kind) → later F n ≡ Wrong at kind → ⊥
    not_wrong zero at kind e = cc
    not_wrong (suc n) at kind e = r.right n at kind e

    given : (x : X) (n : ℕ) → later F n ≡ Gives x → P x
    given x zero e = cc
    given x (suc n) e = r.gives x (record { depth = n; gives = e })

-- ---- one and then another

module _ {X Y : Type 0} (W : ℕ → Outcome X) (P : X → Type 0) (K : ℕ → X → Outcome Y) (Q : Y → Type 0) (r : Runs W P)
    (t : (x : X) → Reaches W x → P x → Runs (λ n. K n x) Q) where
  then_runs : (x : X) → Reaches W x → Runs (λ n. K n x) Q
  then_runs x c = t x c (r.gives x c)

  after_right : (o : Outcome X) (n : ℕ) (at : Pos) (kind : Kind) → W n ≡ o → after o (K n) ≡ Wrong at kind → ⊥
  after_right (Gives x) n at kind e f = (then_runs x (record { depth = n; gives = e })).right n at kind f
  after_right (Wrong a k) n at kind e f = r.right n a k e
  after_right TooDeep n at kind e f = cc
  after_right NoChoice n at kind e f = cc
  after_right Dismissed n at kind e f = cc

  after_ends : (o : Outcome X) (n : ℕ) → W n ≡ o → (o ≡ TooDeep → ⊥) → Ends (λ n. after (W n) (K n))
  after_ends (Gives x) n e other =
      let k = then_runs x (record { depth = n; gives = e }) in
      let both = max n k.ends.depth in
      let here : W both ≡ Gives x = stays (W n) (W both) x (r.grows n both (omega arith)) e in
      record {
        depth = both;
        not_too_deep = λ f. deep_below (K k.ends.depth x) (K both x) (k.grows k.ends.depth both (omega arith)) k.ends.not_too_deep (sym (ap (λ o. after o (K both)) here) ∙ f);
      }
  after_ends (Wrong a k) n e other = absurd (r.right n a k e)
  after_ends TooDeep n e other = absurd (other refl)
  after_ends NoChoice n e other = record { depth = n; not_too_deep = λ f. let g : NoChoice ≡ TooDeep = sym (ap (λ o. after o (K n)) e) ∙ f in cc }
  after_ends Dismissed n e other = record { depth = n; not_too_deep = λ f. let g : Dismissed ≡ TooDeep = sym (ap (λ o. after o (K n)) e) ∙ f in cc }

  after_given : (o : Outcome X) (n : ℕ) (y : Y) → W n ≡ o → after o (K n) ≡ Gives y → Q y
  after_given (Gives x) n y e f = (then_runs x (record { depth = n; gives = e })).gives y (record { depth = n; gives = f })
  after_given (Wrong a k) n y e f = cc
  after_given TooDeep n y e f = cc
  after_given NoChoice n y e f = cc
  after_given Dismissed n y e f = cc

  pub runs_after : Runs (λ n. after (W n) (K n)) Q
  runs_after = record {
    grows = λ n m le. after_grows_at (W n) (W m) (K n) (K m) (r.grows n m le) (λ x e. (then_runs x (record { depth = n; gives = e })).grows n m le);
    right = λ n at kind e. after_right (W n) n at kind refl e;
    ends = after_ends (W r.ends.depth) r.ends.depth refl r.ends.not_too_deep;
    gives = λ y c. after_given (W c.depth) c.depth y refl c.gives;
  }
