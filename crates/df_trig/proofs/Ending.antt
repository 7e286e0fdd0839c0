-- Lists of nodes by their last parts, as they grow.
use Rattle.std.proofs.Common.{◌≡◌, ℕ, zero, suc, ◌+◌, ◌-◌, ◌==◌, ◌<◌, ◌≤◌, Bool, true, false, List, [], ◌∷◌, ◌++◌, filter, length, replicate, get_or, slice_get, Option, None, Some, if◌then◌else◌, refl, sym, ap, ◌∙◌, subst, arith, append-nil}
use Rattle.std.specs.List.{range_with_len}
use Rattle.std.specs.Option.{option_and_then}
use Rattle.std.proofs.lemmas.Bool.{eqb-true, eqb-false}
use Rattle.std.proofs.lemmas.List.{get_or-set_same, get_or-set_other, length-set, length-replicate}
use Rattle.std.proofs.lemmas.List.Elements.{filter-append}
use Rattle.df_form.specs.Node.{Node}
use Rattle.df_classes.specs.mirror.State.{list_at, pushed}
use Rattle.df_clause.proofs.Listing.{numbers_more}
use Rattle.df_trig.specs.Endings.{last_of, last_part, is_part, ends_in, ending_in, AreEndings}

-- the last part is the one that the list reads last
last_read : (parts : List ℕ) → slice_get parts (length parts - 1) ≡ last_of parts
last_read [] = refl
last_read (n ∷ []) = refl
last_read (m ∷ n ∷ others) =
    let place : length (m ∷ n ∷ others) - 1 ≡ suc (length (n ∷ others) - 1) = omega arith in
    ap (slice_get (m ∷ n ∷ others)) place ∙ last_read (n ∷ others)

pub last_is : (nodes : List Node) (number last : ℕ) (node : Node) (parts : List ℕ) → Some node ≡ slice_get nodes number → parts ≡ node.parts → Some last ≡ slice_get parts (length parts - 1) → Some last ≡ last_part nodes number
last_is nodes number last node parts there are read =
    read ∙ last_read parts ∙ ap last_of are ∙ ap (option_and_then (λ (node : Node). last_of node.parts)) there

none_at : (count part : ℕ) → ◌≡◌ {A = List ℕ} (get_or {A = List ℕ} (replicate count []) part []) []
none_at zero part = refl
none_at (suc count) zero = refl
none_at (suc count) (suc part) = none_at count part

module _ (nodes : List Node) where
  pub endings_begin : (count : ℕ) (lists : List (List ℕ)) → lists ≡ replicate count [] → count ≡ length nodes → AreEndings nodes 0 lists
  endings_begin count lists is counted =
      subst (AreEndings nodes 0) (sym is) (record { long = length-replicate count [] ∙ counted; at = λ part less. none_at count part })

  -- ---- one number more

  one_more : (count part : ℕ) → ending_in nodes (count + 1) part ≡ ending_in nodes count part ++ filter (ends_in nodes part) (count ∷ [])
  one_more count part =
      let from_zero : 0 + count ≡ count = omega arith in
      ap (filter (ends_in nodes part)) (numbers_more 0 count ∙ ap (λ (k : ℕ). range_with_len 0 count ++ k ∷ []) from_zero)
      ∙ filter-append (ends_in nodes part) (range_with_len 0 count) (count ∷ [])

  with_it : (count part : ℕ) → ends_in nodes part count ≡ true → ending_in nodes (count + 1) part ≡ ending_in nodes count part ++ count ∷ []
  with_it count part e = one_more count part ∙ ap (λ (b : Bool). ending_in nodes count part ++ (if b then count ∷ [] else [])) e

  without_it : (count part : ℕ) → ends_in nodes part count ≡ false → ending_in nodes (count + 1) part ≡ ending_in nodes count part
  without_it count part e = one_more count part ∙ ap (λ (b : Bool). ending_in nodes count part ++ (if b then count ∷ [] else [])) e ∙ append-nil (ending_in nodes count part)

  skipped : (count : ℕ) (lists : List (List ℕ)) → ((part : ℕ) → part < length nodes → ends_in nodes part count ≡ false) → AreEndings nodes count lists → AreEndings nodes (count + 1) lists
  skipped count lists none are = record { long = are.long; at = λ part less. are.at part less ∙ sym (without_it count part (none part less)) }

  -- it has no parts
  pub ending_none : (count : ℕ) (lists : List (List ℕ)) → last_part nodes count ≡ None → AreEndings nodes count lists → AreEndings nodes (count + 1) lists
  ending_none count lists none are = skipped count lists (λ part less. ap (λ (last : Option ℕ). is_part last part) none) are

  -- its last part has no list
  pub ending_past : (count last : ℕ) (lists : List (List ℕ)) → last_part nodes count ≡ Some last → length lists ≤ last → AreEndings nodes count lists → AreEndings nodes (count + 1) lists
  ending_past count last lists is past are = skipped count lists (λ part less. ap (λ (l : Option ℕ). is_part l part) is ∙ other part less (last == part) refl) are
    where
      other : (part : ℕ) → part < length nodes → (b : Bool) → (last == part) ≡ b → (last == part) ≡ false
      other part less true e = let same = eqb-true last part e in let long = are.long in absurd (omega (arith, same, long, past, less))
      other part less false e = e

  -- it is the last in the list of its last part
  pub ending_added : (count last : ℕ) (lists new : List (List ℕ)) → last_part nodes count ≡ Some last → last < length lists → new ≡ pushed lists last count → AreEndings nodes count lists → AreEndings nodes (count + 1) new
  ending_added count last lists new is inside grown are = subst (AreEndings nodes (count + 1)) (sym grown) (record { long = length-set lists last more ∙ are.long; at = λ part less. at part less (last == part) refl })
    where
      more : List ℕ
      more = list_at lists last ++ count ∷ []

      ends : (part : ℕ) → ends_in nodes part count ≡ (last == part)
      ends part = ap (λ (l : Option ℕ). is_part l part) is

      at : (part : ℕ) → part < length nodes → (b : Bool) → (last == part) ≡ b → list_at (pushed lists last count) part ≡ ending_in nodes (count + 1) part
      at part less true e =
          let same = eqb-true last part e in
          let here : list_at (pushed lists last count) part ≡ list_at lists part ++ count ∷ [] =
          subst (λ (p : ℕ). list_at (pushed lists last count) p ≡ list_at lists p ++ count ∷ []) same (get_or-set_same lists last more [] inside) in
          here ∙ ap (λ (ns : List ℕ). ns ++ count ∷ []) (are.at part less) ∙ sym (with_it count part (ends part ∙ e))
      at part less false e =
          get_or-set_other lists last part more [] (λ same. eqb-false last part e (sym same)) ∙ are.at part less ∙ sym (without_it count part (ends part ∙ e))
