-- Locals that are met once.
use Rattle.df_nlocals.proofs.Words.{◌≡◌, ℕ, ◌==◌, Bool, true, false, ◌||◌, if◌then◌else◌, List, [], ◌∷◌, refl, ap, ◌∙◌, ◌⊎◌, inl, inr, cond, not, ◌++◌, sym, append_assoc, list_any, eq-eqb, ne_eqb, map-append, Changed, is_or_not, each_once, changed_of, changed_in, DeclaredChanged}

abbrev pub is_out : List ℕ → ℕ → Bool
is_out out local = list_any (λ n. n == local) out

pub same_when : {A : Type 0} (b c : Bool) (x y u v : A) → b ≡ c → x ≡ u → y ≡ v → (if b then x else y) ≡ (if c then u else v)
same_when b true x y u v e f g = ap (λ (t : Bool). if t then x else y) e ∙ f
same_when b false x y u v e f g = ap (λ (t : Bool). if t then x else y) e ∙ g

pub once_same : (out others : List ℕ) (changed : List Changed) → ((local : ℕ) → is_out out local ≡ is_out others local) → each_once out changed ≡ each_once others changed
once_same out others [] same = refl
once_same out others (c ∷ cs) same =
    same_when (is_out out c.local) (is_out others c.local) (each_once out cs) (c ∷ each_once (c.local ∷ out) cs) (each_once others cs) (c ∷ each_once (c.local ∷ others) cs)
    (same c.local) (once_same out others cs same)
    (ap (λ (rest : List Changed). c ∷ rest) (once_same (c.local ∷ out) (c.local ∷ others) cs (λ local. ap (λ (b : Bool). (c.local == local) || b) (same local))))

-- among the keys
abbrev pub is_met : List ℕ → ℕ → Bool
is_met keys local = list_any (λ n. local == n) keys

same_test : (a b : ℕ) → (a == b) ≡ (b == a)
same_test a b = by (is_or_not a b)
  where
    by : (a ≡ b) ⊎ (a ≡ b → ⊥) → (a == b) ≡ (b == a)
    by (inl s) = eq-eqb a b s ∙ sym (eq-eqb b a (sym s))
    by (inr h) = ne_eqb a b h ∙ sym (ne_eqb b a (λ e. h (sym e)))

pub met_out : (keys : List ℕ) (local : ℕ) → is_met keys local ≡ is_out keys local
met_out [] local = refl
met_out (k ∷ keys) local = ap (λ (b : Bool). b || is_met keys local) (same_test local k) ∙ ap (λ (b : Bool). (k == local) || b) (met_out keys local)

-- one more key
abbrev pub Meets : List ℕ → ℕ → List ℕ → Type 0
Meets keys local more = (q : ℕ) → is_met more q ≡ cond (local == q) true (is_met keys q)

pub either_of : (a b : Bool) → cond a true b ≡ (a || b)
either_of true b = refl
either_of false b = refl

-- a local that was met
test_or : (a b c : Bool) → (a ≡ true → b ≡ true) → c ≡ cond a true b → c ≡ b
test_or true b c h e = e ∙ sym (h refl)
test_or false b c h e = e

met_at : (keys : List ℕ) (local q : ℕ) → is_met keys local ≡ true → (local ≡ q) ⊎ (local ≡ q → ⊥) → (local == q) ≡ true → is_met keys q ≡ true
met_at keys local q is (inl s) e = ap (λ (n : ℕ). is_met keys n) (sym s) ∙ is
met_at keys local q is (inr h) e = let no : (local == q) ≡ false = ne_eqb local q h in absurd (let clash : true ≡ false = sym e ∙ no in cc)

pub once_met : (keys more : List ℕ) (c : Changed) (others : List Changed) → is_met keys c.local ≡ true → Meets keys c.local more → each_once keys (c ∷ others) ≡ each_once more others
once_met keys more c others is meets =
    ap (λ (b : Bool). if b then each_once keys others else c ∷ each_once (c.local ∷ keys) others) (sym (met_out keys c.local) ∙ is)
    ∙ once_same keys more others (λ q. sym (met_out keys q) ∙ sym (test_or (c.local == q) (is_met keys q) (is_met more q) (λ e. met_at keys c.local q is (is_or_not c.local q) e) (meets q)) ∙ met_out more q)

-- a local that was not met yet
pub once_new : (keys more : List ℕ) (c : Changed) (others : List Changed) → is_met keys c.local ≡ false → Meets keys c.local more → each_once keys (c ∷ others) ≡ c ∷ each_once more others
once_new keys more c others is meets =
    ap (λ (b : Bool). if b then each_once keys others else c ∷ each_once (c.local ∷ keys) others) (sym (met_out keys c.local) ∙ is)
    ∙ ap (λ (rest : List Changed). c ∷ rest) (once_same (c.local ∷ keys) more others (λ q. ap (λ (b : Bool). (c.local == q) || b) (sym (met_out keys q)) ∙ sym (either_of (c.local == q) (is_met keys q)) ∙ sym (meets q) ∙ met_out more q))

pub is_new : (met new : Bool) → new ≡ not met → new ≡ true → met ≡ false
is_new true new e f = sym f ∙ e
is_new false new e f = refl

pub is_old : (met new : Bool) → new ≡ not met → new ≡ false → met ≡ true
is_old true new e f = refl
is_old false new e f = sym f ∙ e

-- the locals so far, and those of what is left
module _ (all : List DeclaredChanged) (x : DeclaredChanged) (keys new : List ℕ) (rest whole : List Changed) (meets : Meets keys x.local new) (so : changed_in all ++ each_once keys (changed_of x ∷ rest) ≡ whole) where
  pub goes_new : (more : List DeclaredChanged) → more ≡ all ++ x ∷ [] → is_met keys x.local ≡ false → changed_in more ++ each_once new rest ≡ whole
  goes_new more e is =
      ap (λ (ds : List DeclaredChanged). changed_in ds ++ each_once new rest) e ∙ ap (λ (cs : List Changed). cs ++ each_once new rest) (map-append changed_of all (x ∷ []))
      ∙ append_assoc (changed_in all) (changed_of x ∷ []) (each_once new rest) ∙ ap (λ (cs : List Changed). changed_in all ++ cs) (sym (once_new keys new (changed_of x) rest is meets)) ∙ so

  pub goes_met : (more : List DeclaredChanged) → more ≡ all → is_met keys x.local ≡ true → changed_in more ++ each_once new rest ≡ whole
  goes_met more e is = ap (λ (ds : List DeclaredChanged). changed_in ds ++ each_once new rest) e ∙ ap (λ (cs : List Changed). changed_in all ++ cs) (sym (once_met keys new (changed_of x) rest is meets)) ∙ so
