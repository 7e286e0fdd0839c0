-- How many methods come before a declaration.
use Rattle.std.proofs.Common.{◌≡◌, ◌∙◌, ℕ, min, List, map, length, take, sym, ap}
use Rattle.std.proofs.lemmas.List.{take_min, take-map}
use Rattle.df_lang.specs.DeclView.{decl_of, program_with}
use Rattle.df_lang.specs.Program.{Decl}
use Rattle.df_lang.specs.declared.decl.Decl as declared
use Rattle.df_nerase.specs.Erasing.{methods_among, method_number}

pub method_number_is : (all items : List declared.Decl) (number before size : ℕ) → items ≡ all → size ≡ length items → before ≡ min number size
    → length (methods_among (map decl_of (take before items))) ≡ method_number (program_with all) number
method_number_is all items number before size same long least =
    let count = λ (ds : List Decl). length (methods_among ds) in
    ap (λ (n : ℕ). count (map decl_of (take n items))) (least ∙ ap (λ (n : ℕ). min number n) long)
    ∙ ap (λ (xs : List declared.Decl). count (map decl_of xs)) (take_min number items)
    ∙ ap (λ (xs : List declared.Decl). count (map decl_of (take number xs))) same
    ∙ ap count (sym (take-map decl_of number all))
