-- Trees that end only where they have to reach furthest.
use Rattle.std.proofs.Common.{◌≡◌, ℕ, suc, ◌⊎◌, inl, inr, Bool, true, false, List, [], ◌∷◌, ◌++◌, drop, Option, Some, None, slice_get, refl, sym, ap, ◌∙◌, subst, append_assoc}
use Rattle.std.proofs.lemmas.Option.{same_Some}
use Rattle.df_tok.specs.Token.{Token}
use Rattle.df_tree.specs.declared.production.Form.{Form}
use Rattle.df_tree.specs.declared.production.Form.TheVariants.{All, One, Many}
use Rattle.df_tree.specs.declared.production.Part.{Part}
use Rattle.df_tree.specs.declared.production.Part.TheVariants.{Terminal, Nonterminal}
use Rattle.df_tree.specs.Tree.{Tree, Leaf, Node, Trees, none, more, leaves, leaves_all}
use Rattle.df_tree.specs.Row.{Row}
use Rattle.df_tree.specs.Grammar.{row, part_of, May, MayEnd, IsTree, Are, chosen, is_open, IsSettled, AreSettled, IsTreeOf, IsPartAt}
use Rattle.df_tree.specs.Furthest.{GoesFurther, GoFurther, IsDerivation}
use Rattle.df_tree.proofs.Fine.{fine_by, row_fine}
use Rattle.df_tree.proofs.Begun.{Begun, EachBegun, each_begun}
use Rattle.df_tree.proofs.Chosen.{begins_choice, get_past}
use Rattle.df_tree.proofs.Followed.{any_row, nothing_follows, settled_all}

abbrev no_row : Row → Bool
no_row r = false

-- Behind the same trees and before the same tokens, two trees are of one part.
may_agree : (form : Form) (r : Row) (k : ℕ) (p q : Part) (own behind others after : List Token) → fine_by form r ≡ true → own ++ behind ≡ others ++ after
    → May form r.parts k p → Begun p own behind → May form r.parts k q → Begun q others after → p ≡ q
may_agree All r k p q own behind others after f e may begun likewise so = same_Some p q (sym may ∙ likewise)
may_agree One r k p q own behind others after f e may begun likewise so =
    same_Some p q (sym (begins_choice r One k p own behind (λ h. cc) f may begun) ∙ ap (chosen r.parts) e ∙ begins_choice r One k q others after (λ h. cc) f likewise so)
may_agree Many r k p q own behind others after f e may begun likewise so =
    same_Some p q (sym (begins_choice r Many k p own behind (λ h. cc) f may begun) ∙ ap (chosen r.parts) e ∙ begins_choice r Many k q others after (λ h. cc) f likewise so)

none_is_some : (o : Option Part) (q : Part) → o ≡ None → o ≡ Some q → ⊥
none_is_some None q e f = cc
none_is_some (Some p) q e f = cc

-- Where one production ends, another cannot go on.
cannot_end : (form : Form) (r : Row) (k : ℕ) (q : Part) (others after : List Token) → fine_by form r ≡ true → MayEnd form r k → (is_open form k ≡ true → chosen r.parts (others ++ after) ≡ None)
    → May form r.parts k q → Begun q others after → ⊥
cannot_end All r k q others after f end stops may begun = none_is_some (slice_get r.parts k) q (get_past r.parts k end) may
cannot_end One r k q others after f end stops may begun =
    none_is_some (chosen r.parts (others ++ after)) q (stops (rw may.0 refl)) (begins_choice r One k q others after (λ h. cc) f may begun)
cannot_end Many r k q others after f end stops may begun = none_is_some (chosen r.parts (others ++ after)) q (stops refl) (begins_choice r Many k q others after (λ h. cc) f may begun)

cancel : (xs ys zs : List Token) → xs ++ ys ≡ xs ++ zs → ys ≡ zs
cancel [] ys zs e = e
cancel (x ∷ xs) ys zs e = cancel xs ys zs (ap (drop 1) e)

number_of : Part → ℕ
number_of (Terminal kind) = kind
number_of (Nonterminal n) = n

same_number : (n m : ℕ) → Nonterminal n ≡ Nonterminal m → n ≡ m
unfolding number_of
same_number n m e = ap number_of e

mutual
  compare : (t u : Tree) (behind after : List Token) → part_of t ≡ part_of u → IsTree t → IsTree u → IsSettled any_row t behind → IsSettled no_row u after → leaves t ++ behind ≡ leaves u ++ after
      → (u ≡ t) ⊎ GoesFurther t u
  compare (Leaf x) (Leaf y) behind after p right other settled begun e = inl cc
  compare (Leaf x) (Node m us) behind after p right other settled begun e = absurd cc
  compare (Node n ts) (Leaf y) behind after p right other settled begun e = absurd cc
  compare (Node n ts) (Node m us) behind after p right other settled begun e =
      let same : n ≡ m = same_number n m p in
      let alike : Are (row n) 0 us = subst (λ k. Are (row k) 0 us) (sym same) other in
      let so : AreSettled no_row (row n) 0 us after = subst (λ k. AreSettled no_row (row k) 0 us after) (sym same) begun.1 in
      elim (compare_all (row n) 0 ts us behind after (row_fine n) right alike settled.1 so (each_begun any_row (row n) 0 ts behind right settled.1) (each_begun no_row (row n) 0 us after alike so) e) [
        | inl alike ↦ inl (λ i. Node (sym same i) (alike i))
        | inr further ↦ inr (same, further)
      ]

  compare_all : (r : Row) (k : ℕ) (ts us : Trees) (behind after : List Token) → fine_by r.form r ≡ true → Are r k ts → Are r k us → AreSettled any_row r k ts behind → AreSettled no_row r k us after
      → EachBegun ts behind → EachBegun us after → leaves_all ts ++ behind ≡ leaves_all us ++ after → (us ≡ ts) ⊎ GoFurther ts us
  compare_all r k none none behind after f right other settled so begun likewise e = inl refl
  compare_all r k none (more u us) behind after f right other settled so begun likewise e =
      let there : behind ≡ leaves u ++ (leaves_all us ++ after) = e ∙ append_assoc (leaves u) (leaves_all us) after in
      absurd (cannot_end r.form r k (part_of u) (leaves u) (leaves_all us ++ after) f right (λ still. subst (λ tokens. chosen r.parts tokens ≡ None) there (settled refl still)) other.0 likewise.0)
  compare_all r k (more t ts) none behind after f right other settled so begun likewise e = inr tt
  compare_all r k (more t ts) (more u us) behind after f right other settled so begun likewise e =
      let there : leaves t ++ (leaves_all ts ++ behind) ≡ leaves u ++ (leaves_all us ++ after) =
      sym (append_assoc (leaves t) (leaves_all ts) behind) ∙ e ∙ append_assoc (leaves u) (leaves_all us) after in
      let p : part_of t ≡ part_of u = may_agree r.form r k (part_of t) (part_of u) (leaves t) (leaves_all ts ++ behind) (leaves u) (leaves_all us ++ after) f there right.0 begun.0 other.0 likewise.0 in
      elim (compare t u (leaves_all ts ++ behind) (leaves_all us ++ after) p right.1 other.1 settled.0 so.0 there) [
        | inl same ↦ elim (compare_all r (suc k) ts us behind after f right.2 other.2 settled.1 so.1 begun.1 likewise.1 (cancel (leaves t) _ _ (there ∙ ap (λ x. leaves x ++ (leaves_all us ++ after)) same))) [
          | inl others ↦ inl (λ i. more (same i) (others i))
          | inr further ↦ inr (inr (sym same, further))
        ]
        | inr further ↦ inr (inl further)
      ]

append_end : (xs : List Token) → xs ++ [] ≡ xs
append_end [] = refl
append_end (x ∷ xs) = ap (λ ys. x ∷ ys) (append_end xs)

pub furthest : (n : ℕ) (tokens : List Token) (t u : Tree) → IsTreeOf n tokens t → IsDerivation n tokens u [] → (u ≡ t) ⊎ GoesFurther t u
furthest n tokens t u is of =
    compare t u [] [] (is.starts ∙ sym of.starts) is.right of.right (settled_all t [] is.right is.settled (nothing_follows n (part_of t) is.starts)) of.begun (append_end (leaves t) ∙ is.spelled ∙ sym of.spelled)

pub furthest_part : (n : ℕ) (tokens : List Token) (start after : ℕ) (t u : Tree) (behind : List Token) → IsPartAt n tokens start after t → IsDerivation n (drop start tokens) u behind → (u ≡ t) ⊎ GoesFurther t u
furthest_part n tokens start after t u behind is of =
    compare t u (drop after tokens) behind (is.starts ∙ sym of.starts) is.right of.right is.settled of.begun (is.spelled ∙ sym of.spelled)
