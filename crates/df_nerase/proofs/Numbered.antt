-- Declarations that are counted one after another.
use Rattle.std.proofs.Common.{◌≡◌, ◌<◌, ◌≤◌, ◌+◌, ℕ, suc, List, [], ◌∷◌, ◌++◌, length, map, drop, get_or, append-nil, append_assoc, sym, ap, ◌∙◌, arith}
use Rattle.std.proofs.lemmas.List.{drop_all, drop_more}
use Rattle.df_lang.specs.DeclView.{decl_of}
use Rattle.df_lang.specs.Program.{Decl as SpecDecl}
use Rattle.df_lang.specs.declared.decl.Decl.{Decl}
use Rattle.df_lang.specs.declared.decl.Decl.TheVariants as decls
use Rattle.df_lang.specs.declared.decl.Method.{Method}
use Rattle.df_lang.specs.declared.decl.Newtype.{Newtype}
use Rattle.df_nerase.specs.Erasing.{methods_among}
use Rattle.df_nerase.specs.mirror.Numbers.{numbers_from}

module _ (all : List Decl) (i : ℕ) (count : ℕ) where
  -- the numbers of the declarations from here on, and how many of them are methods
  abbrev pub numbers_left : List ℕ
  numbers_left = numbers_from count (map decl_of (drop i all))

  abbrev pub methods_left : ℕ
  methods_left = length (methods_among (map decl_of (drop i all)))

  pub numbers_end : (made total : List ℕ) → length all ≤ i → made ++ numbers_left ≡ total → made ≡ total
  numbers_end made total past so_far = sym (append-nil made) ∙ ap (λ (ds : List Decl). made ++ numbers_from count (map decl_of ds)) (sym (drop_all i all past)) ∙ so_far

  pub methods_end : (total : ℕ) → length all ≤ i → count + methods_left ≡ total → count ≡ total
  methods_end total past so_far = omega (arith, so_far, ap (λ (ds : List Decl). length (methods_among (map decl_of ds))) (drop_all i all past))

  module _ (item : Decl) (lt : i < length all) (is : item ≡ get_or all i item) where
    abbrev behind : List SpecDecl
    behind = map decl_of (drop (i + 1) all)

    cut : map decl_of (drop i all) ≡ decl_of item ∷ behind
    cut = ap (map decl_of) (drop_more all i item lt) ∙ ap (λ (d : Decl). decl_of d ∷ behind) (sym is)

    pub newtype_numbered : (newtype : Newtype) → item ≡ decls.Newtype newtype → (made total : List ℕ) → made ++ numbers_left ≡ total → (made ++ count ∷ []) ++ numbers_from count behind ≡ total
    newtype_numbered newtype e made total so_far =
        append_assoc made (count ∷ []) (numbers_from count behind) ∙ ap (λ (ns : List ℕ). made ++ ns) (sym (ap (numbers_from count) (cut ∙ ap (λ (d : Decl). decl_of d ∷ behind) e))) ∙ so_far

    pub method_numbered : (method : Method) → item ≡ decls.Method method → (made total : List ℕ) → made ++ numbers_left ≡ total → (made ++ count ∷ []) ++ numbers_from (count + 1) behind ≡ total
    method_numbered method e made total so_far =
        let one : count + 1 ≡ suc count = omega arith in
        ap (λ (n : ℕ). (made ++ count ∷ []) ++ numbers_from n behind) one
        ∙ append_assoc made (count ∷ []) (numbers_from (suc count) behind) ∙ ap (λ (ns : List ℕ). made ++ ns) (sym (ap (numbers_from count) (cut ∙ ap (λ (d : Decl). decl_of d ∷ behind) e))) ∙ so_far

    pub newtype_counted : (newtype : Newtype) → item ≡ decls.Newtype newtype → (total : ℕ) → count + methods_left ≡ total → count + length (methods_among behind) ≡ total
    newtype_counted newtype e total so_far = ap (λ (n : ℕ). count + n) (sym (ap (λ (ds : List SpecDecl). length (methods_among ds)) (cut ∙ ap (λ (d : Decl). decl_of d ∷ behind) e))) ∙ so_far

    pub method_counted : (method : Method) → item ≡ decls.Method method → (total : ℕ) → count + methods_left ≡ total → (count + 1) + length (methods_among behind) ≡ total
    method_counted method e total so_far =
        let more : methods_left ≡ suc (length (methods_among behind)) = ap (λ (ds : List SpecDecl). length (methods_among ds)) (cut ∙ ap (λ (d : Decl). decl_of d ∷ behind) e) in
        omega (arith, more, so_far)
