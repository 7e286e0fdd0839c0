-- The first of some uses is one of them, and none is told before it.
use Rattle.std.proofs.Common.{◌≡◌, ◌⊎◌, inl, inr, Bool, true, false, List, [], ◌∷◌, Some, None, if◌then◌else◌, Contains, refl, ap, subst, arith}
use Rattle.std.proofs.lemmas.Option.{none-some, same_Some}
use Rattle.df_lang.specs.Assignment as pure
use Rattle.df_ntyping.proofs.LeastExists.{first_or_rest, is_first, is_later}
use Rattle.df_nghost.specs.declared.reads.Use.{Use}
use Rattle.df_nghost.specs.mirror.Uses.{precedes, shown, use_of, least}
use Rattle.df_nghost.proofs.Order.{precedes_asym, precedes_neg, precedes_self}

pub none_contained : {A : Type 0} (xs : List A) (x : A) → xs ≡ [] → Contains xs x → ⊥
none_contained [] x e (k, lt, q) = absurd (omega arith)
none_contained (y ∷ xs) x e c = absurd cc

never_none : (f : Use) (xs : List pure.Use) → least (Some f) xs ≡ None → ⊥
never_none f [] e = absurd cc
never_none f (x ∷ xs) e = by_test (precedes (shown x) f) (never_none (shown x) xs) (never_none f xs) e
  where
    by_test : (b : Bool) → (least (Some (shown x)) xs ≡ None → ⊥) → (least (Some f) xs ≡ None → ⊥) → least (if b then Some (shown x) else Some f) xs ≡ None → ⊥
    by_test true new old e = new e
    by_test false new old e = old e

pub none_missing : (xs : List pure.Use) → least None xs ≡ None → xs ≡ []
none_missing [] e = refl
none_missing (x ∷ xs) e = absurd (never_none (shown x) xs e)

-- the use is among these or is the one that was found
record IsLeastFrom (found : Use) (xs : List pure.Use) (r : Use) : Type 0 where
  pub there : (found ≡ r) ⊎ Contains xs (use_of r)
  pub first : precedes found r ≡ false
  pub least : (other : pure.Use) → Contains xs other → precedes (shown other) r ≡ false

by_place : (x : pure.Use) (xs : List pure.Use) (r : Use) → precedes (shown x) r ≡ false → ((other : pure.Use) → Contains xs other → precedes (shown other) r ≡ false)
    → (other : pure.Use) → (x ≡ other) ⊎ Contains xs other → precedes (shown other) r ≡ false
by_place x xs r first rest other (inl same) = subst (λ (u : pure.Use). precedes (shown u) r ≡ false) same first
by_place x xs r first rest other (inr c) = rest other c

where_found : (x : pure.Use) (xs : List pure.Use) (r : Use) → (shown x ≡ r) ⊎ Contains xs (use_of r) → Contains (x ∷ xs) (use_of r)
where_found x xs r (inl same) = let e : x ≡ use_of r = ap use_of same in subst (λ (u : pure.Use). Contains (x ∷ xs) u) e (is_first x xs)
where_found x xs r (inr c) = is_later x xs (use_of r) c

least_from : (f : Use) (xs : List pure.Use) (r : Use) → least (Some f) xs ≡ Some r → IsLeastFrom f xs r
least_from f [] r e =
    let same = same_Some f r e in
    record { there = inl same; first = subst (λ (s : Use). precedes f s ≡ false) same (precedes_self f); least = λ other c. absurd (none_contained [] other refl c) }
least_from f (x ∷ xs) r e = by_test (precedes (shown x) f) refl (least_from (shown x) xs r) (least_from f xs r) e
  where
    later : IsLeastFrom (shown x) xs r → precedes f (shown x) ≡ false → IsLeastFrom f (x ∷ xs) r
    later l t = record {
      there = inr (where_found x xs r l.there);
      first = precedes_neg f (shown x) r t l.first;
      least = λ other c. by_place x xs r l.first l.least other (first_or_rest x xs other c);
    }

    kept_there : (f ≡ r) ⊎ Contains xs (use_of r) → (f ≡ r) ⊎ Contains (x ∷ xs) (use_of r)
    kept_there (inl same) = inl same
    kept_there (inr c) = inr (is_later x xs (use_of r) c)

    kept : IsLeastFrom f xs r → precedes (shown x) f ≡ false → IsLeastFrom f (x ∷ xs) r
    kept l t = record {
      there = kept_there l.there;
      first = l.first;
      least = λ other c. by_place x xs r (precedes_neg (shown x) f r t l.first) l.least other (first_or_rest x xs other c);
    }

    by_test : (b : Bool) → precedes (shown x) f ≡ b → (least (Some (shown x)) xs ≡ Some r → IsLeastFrom (shown x) xs r) → (least (Some f) xs ≡ Some r → IsLeastFrom f xs r)
        → least (if b then Some (shown x) else Some f) xs ≡ Some r → IsLeastFrom f (x ∷ xs) r
    by_test true t new old e = later (new e) (precedes_asym (shown x) f t)
    by_test false t new old e = kept (old e) t

-- the first one, of all
pub record IsFirst (xs : List pure.Use) (r : Use) : Type 0 where
  pub there : Contains xs (use_of r)
  pub least : (other : pure.Use) → Contains xs other → precedes (shown other) r ≡ false

pub first_is : (xs : List pure.Use) (r : Use) → least None xs ≡ Some r → IsFirst xs r
first_is [] r e = absurd (none-some r e)
first_is (x ∷ xs) r e =
    let l = least_from (shown x) xs r e in
    record { there = where_found x xs r l.there; least = λ other c. by_place x xs r l.first l.least other (first_or_rest x xs other c) }
