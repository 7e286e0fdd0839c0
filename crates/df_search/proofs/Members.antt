-- Literals that are among others are contained in them.
use Rattle.std.proofs.Common.{◌≡◌, ⊎_elim, zero, suc, true, false, List, [], ◌∷◌, Contains, refl, sym, subst, arith}
use Rattle.std.proofs.lemmas.Bool.{or_cases, or_left, or_right}
use Rattle.std.proofs.lemmas.List.Elements.{Contains-append_right}
use Rattle.df_lemmas.proofs.Alls.{none_there}
use Rattle.df_lemmas.proofs.Truths.{true_is_not_false}
use Rattle.df_form.specs.declared.log.Lit.{Lit}
use Rattle.df_form.specs.Clause.{same_literal, is_among}
use Rattle.df_form.proofs.Literals.{same_self}
use Rattle.df_rules.proofs.SoundClauses.{same_literal_is}

pub contained_among : (literals : List Lit) (l : Lit) → Contains literals l → is_among literals l ≡ true
contained_among [] l there = absurd (none_there l there)
contained_among (m ∷ ms) l (zero, less, same) = or_left (same_literal l m) (is_among ms l) (subst (λ (q : Lit). same_literal q m ≡ true) same (same_self m))
contained_among (m ∷ ms) l (suc k, less, same) = or_right (same_literal l m) (is_among ms l) (contained_among ms l (k, omega (arith, less), same))

pub among_contained : (literals : List Lit) (l : Lit) → is_among literals l ≡ true → Contains literals l
among_contained [] l e = absurd (true_is_not_false false e refl)
among_contained (m ∷ ms) l e =
    ⊎_elim (λ same. (0, omega arith, sym (same_literal_is l m same))) (λ rest. Contains-append_right (m ∷ []) ms l (among_contained ms l rest)) (or_cases (same_literal l m) (is_among ms l) e)
