-- Links to lesser numbers lead to one end.
use Rattle.std.proofs.Common.{◌≡◌, ℕ, zero, suc, ◌<◌, ◌≤◌, ◌==◌, nat_eq, Bool, true, false, cond, List, [], Option, None, Some, refl, sym, ap, subst, ◌∙◌, arith, rules, if◌then◌else◌, eqb-true}
use Rattle.std.specs.Option.{option_map_or}
use Rattle.std.specs.Ordering.{nat_cmp}
use Rattle.std.specs.BTreeMap.{is_at}
use Rattle.std.proofs.lemmas.Option.{same_Some}
use Rattle.df_lemmas.proofs.Truths.{true_is_not_false}
use Rattle.df_lemmas.proofs.Options.{none_left}
use Rattle.df_lemmas.proofs.Numbers.{equal_self}
use Rattle.df_kern.specs.Links.{link_at, followed, least_by, AreFalling}

-- a class of each number, which is its own where it has no link, and else that of where it leads
abbrev pub IsLed : List (ℕ × ℕ) → (ℕ → ℕ) → Type 0
IsLed links class = (n : ℕ) → class n ≡ option_map_or class (link_at links n) n

pub at_key : (k q : ℕ) → is_at (nat_cmp k) q ≡ true → k ≡ q
at_key k q e = search rules

pub at_itself : (k : ℕ) → is_at (nat_cmp k) k ≡ true
at_itself k = search rules

unequal : (a b : ℕ) → (a ≡ b → ⊥) → nat_eq a b ≡ false
unequal a b apart = by (nat_eq a b) refl
  where
    by : (v : Bool) → nat_eq a b ≡ v → nat_eq a b ≡ false
    by true e = absurd (apart (eqb-true a b e))
    by false e = e

module _ (links : List (ℕ × ℕ)) (falling : AreFalling links) where
  ended : (n : ℕ) → n ≤ 0 → link_at links n ≡ None
  ended n le = none_left (link_at links n) (λ lesser e. omega (arith, falling n lesser e))

  followed-is : (class : ℕ → ℕ) → IsLed links class → (steps n : ℕ) → n ≤ steps → followed links steps n ≡ class n
  followed-is class led zero n le = sym (led n ∙ ap (λ (o : Option ℕ). option_map_or class o n) (ended n le))
  followed-is class led (suc steps) n le = by (link_at links n) refl (followed-is class led steps) ∙ sym (led n)
    where
      by : (o : Option ℕ) → link_at links n ≡ o → ((m : ℕ) → m ≤ steps → followed links steps m ≡ class m) → option_map_or (followed links steps) o n ≡ option_map_or class o n
      by None e go = refl
      by (Some m) e go = go m (omega (arith, falling n m e))

  -- it is the only one
  pub least-is : (class : ℕ → ℕ) → IsLed links class → least_by links ≡ class
  least-is class led = λ i n. followed-is class led n n (omega arith) i

  enough : (a b n : ℕ) → n ≤ a → n ≤ b → followed links a n ≡ followed links b n
  enough zero zero n p q = refl
  enough zero (suc b) n p q = sym (ap (λ (o : Option ℕ). option_map_or (followed links b) o n) (ended n p))
  enough (suc a) zero n p q = ap (λ (o : Option ℕ). option_map_or (followed links a) o n) (ended n q)
  enough (suc a) (suc b) n p q = by (link_at links n) refl (enough a b)
    where
      by : (o : Option ℕ) → link_at links n ≡ o → ((m : ℕ) → m ≤ a → m ≤ b → followed links a m ≡ followed links b m) → option_map_or (followed links a) o n ≡ option_map_or (followed links b) o n
      by None e go = refl
      by (Some m) e go = go m (omega (arith, falling n m e)) (omega (arith, falling n m e))

  -- and the least number is one
  pub least-led : IsLed links (least_by links)
  least-led n = enough n (suc n) n (omega arith) (omega arith) ∙ by (link_at links n) refl
    where
      by : (o : Option ℕ) → link_at links n ≡ o → option_map_or (followed links n) o n ≡ option_map_or (least_by links) o n
      by None e = refl
      by (Some m) e = enough n m m (omega (arith, falling n m e)) (omega arith)

pub least-alone : (links : List (ℕ × ℕ)) → links ≡ [] → (n : ℕ) → least_by links n ≡ n
least-alone links none n = ap (λ l. least_by l n) none ∙ by n n
  where
    by : (steps n : ℕ) → followed [] steps n ≡ n
    by zero n = refl
    by (suc steps) n = refl

-- with a link more
module _ (links next : List (ℕ × ℕ)) (falling : AreFalling links) (number lesser : ℕ) (less : lesser < number)
    (updates : (q : ℕ) → link_at next q ≡ cond (is_at (nat_cmp number) q) (Some lesser) (link_at links q)) where
  falls : AreFalling next
  falls n m e = by (is_at (nat_cmp number) n) refl (sym (updates n) ∙ e)
    where
      by : (b : Bool) → is_at (nat_cmp number) n ≡ b → cond b (Some lesser) (link_at links n) ≡ Some m → m < n
      by true here e = omega (arith, at_key number n here, same_Some lesser m e, less)
      by false there e = falling n m e

  by_key : (class : ℕ → ℕ) → class number ≡ class lesser → ((n : ℕ) → (number ≡ n → ⊥) → class n ≡ option_map_or class (link_at links n) n) → IsLed next class
  by_key class here others n = by (is_at (nat_cmp number) n) refl ∙ ap (λ (o : Option ℕ). option_map_or class o n) (sym (updates n))
    where
      by : (b : Bool) → is_at (nat_cmp number) n ≡ b → class n ≡ option_map_or class (cond b (Some lesser) (link_at links n)) n
      by true e = ap class (sym (at_key number n e)) ∙ here
      by false e = others n (λ same. true_is_not_false (is_at (nat_cmp number) n) (subst (λ q. is_at (nat_cmp number) q ≡ true) same (at_itself number)) e)

  -- within a class nothing changes
  pub relinked : least_by links number ≡ least_by links lesser → least_by next ≡ least_by links
  relinked same = least-is next falls (least_by links) (by_key (least_by links) same (λ n apart. least-led links falling n))

  -- and two classes become one
  abbrev one_class : ℕ → ℕ
  one_class n = if least_by links n == number then lesser else least_by links n

  pub linked : least_by links number ≡ number → least_by links lesser ≡ lesser → least_by next ≡ one_class
  linked high low = least-is next falls one_class (by_key one_class (joins number high ∙ sym (stays lesser (λ e. absurd (omega (arith, less, low, e))) ∙ low)) others)
    where
      joins : (n : ℕ) → least_by links n ≡ number → one_class n ≡ lesser
      joins n e = ap (λ (b : Bool). if b then lesser else least_by links n) (ap (λ k. k == number) e ∙ equal_self number)

      stays : (n : ℕ) → (least_by links n ≡ number → ⊥) → one_class n ≡ least_by links n
      stays n apart = ap (λ (b : Bool). if b then lesser else least_by links n) (unequal (least_by links n) number apart)

      others : (n : ℕ) → (number ≡ n → ⊥) → one_class n ≡ option_map_or one_class (link_at links n) n
      others n apart = by (link_at links n) (least-led links falling n)
        where
          by : (o : Option ℕ) → least_by links n ≡ option_map_or (least_by links) o n → one_class n ≡ option_map_or one_class o n
          by None e = stays n (λ same. apart (sym same ∙ e)) ∙ e
          by (Some m) e = ap (λ k. if k == number then lesser else k) e
