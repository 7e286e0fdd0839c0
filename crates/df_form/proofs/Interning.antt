-- Lists of parts with one more, if it is new: it has a number, and the others keep theirs.
use Rattle.std.proofs.Common.{◌≡◌, ℕ, Bool, true, false, cond, List, [], ◌∷◌, ◌++◌, take, length, slice_get, Some, Vec, Global, sym, ap, ◌∙◌, take_all, arith}
use Rattle.std.specs.List.{list_any}
use Rattle.std.specs.Option.{option_map}
use Rattle.std.proofs.Math.Seq.{take-append_seam}
use Rattle.std.proofs.lemmas.List.{map-append}
use Rattle.std.proofs.lemmas.Option.{slice_get-map}
use Rattle.std.proofs.lemmas.Slice.Eq.{bytes_eq-Decides}
use Rattle.df_form.specs.PartLists.{list_of, lists_of}
use Rattle.df_form.proofs.Keys.{same_lists, same_parts}

-- the list that is stored is the one that was put in
pub list-stored : (lists : List (Vec ℕ Global)) (list found : Vec ℕ Global) (parts : List ℕ) (n : ℕ) → slice_get lists n ≡ Some found → same_parts list.items found ≡ true → list.items ≡ parts → slice_get (lists_of lists) n ≡ Some parts
list-stored lists list found parts n at same is =
    let stored : list.items ≡ found.items = (bytes_eq-Decides list.items found.items).0 same in
    slice_get-map list_of lists n ∙ ap (option_map list_of) at ∙ ap Some (sym stored ∙ is)

pub lists-kept : (lists after : List (Vec ℕ Global)) (list : Vec ℕ Global) → after ≡ cond (list_any (same_lists list) lists) lists (lists ++ list ∷ []) → take (length (lists_of lists)) (lists_of after) ≡ lists_of lists
lists-kept lists after list grown = by (list_any (same_lists list) lists) grown
  where
    by : (there : Bool) → after ≡ cond there lists (lists ++ list ∷ []) → take (length (lists_of lists)) (lists_of after) ≡ lists_of lists
    by true e =
        let same : lists_of after ≡ lists_of lists = ap lists_of e in
        ap (take (length (lists_of lists))) same ∙ take_all (length (lists_of lists)) (lists_of lists) (omega arith)
    by false e =
        let longer : lists_of after ≡ lists_of lists ++ lists_of (list ∷ []) = ap lists_of e ∙ map-append list_of lists (list ∷ []) in
        ap (take (length (lists_of lists))) longer ∙ take-append_seam (lists_of lists) (lists_of (list ∷ []))
