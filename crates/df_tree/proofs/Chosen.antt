-- Which part of a choice begins.
use Rattle.std.proofs.Common.{◌≡◌, ℕ, zero, suc, ◌<◌, ◌≤◌, ◌==◌, inl, inr, Bool, true, false, not, ◌&&◌, ◌||◌, cond, List, [], ◌∷◌, ◌++◌, length, Option, Some, None, slice_get, if◌then◌else◌, refl, sym, ap, ◌∙◌, subst, append_assoc, length-append, eqb-true, arith}
use Rattle.std.specs.List.{list_all}
use Rattle.std.specs.Option.{option_and_then}
use Rattle.std.proofs.lemmas.Bool.{cases_Bool, and_parts, and_from}
use Rattle.df_tok.specs.Token.{Token}
use Rattle.df_tree.specs.declared.production.Form.{Form}
use Rattle.df_tree.specs.declared.production.Form.TheVariants.{All, One, Many}
use Rattle.df_tree.specs.declared.production.Part.{Part}
use Rattle.df_tree.specs.Tree.{Tree, Leaf, Node, Trees, none, more, trees_of, leaves, leaves_all}
use Rattle.df_tree.specs.Row.{Row}
use Rattle.df_tree.specs.Grammar.{row, kinds_of, part_of, IsAmong, May, MayEnd, IsTree, Are, begins, begins_part, chosen, is_open, IsSettled, AreSettled}
use Rattle.df_tree.proofs.Classes.{subset, apart, first_apart}
use Rattle.df_tree.proofs.Fine.{first_of, empty_of, follows, first_of_all, wide, all_fine, choice_fine, stops, fine_by, row_fine}
use Rattle.df_tree.proofs.Begun.{begins_first, among_fine, Begun, EachBegun, AreOf, are_of, begun, each_begun, empty_or, form_cases, choice_of, among_of, empty_choice, not_empty, same_kind}

pub all_among : (test : Part → Bool) (parts : List Part) (p : Part) → list_all test parts ≡ true → IsAmong p parts → test p ≡ true
all_among test [] p all among = elim among [ ]
all_among test (q ∷ qs) p all among =
    let parts = and_parts (test q) (list_all test qs) all in
    elim among [
      | inl same ↦ subst (λ s. test s ≡ true) same parts.0
      | inr later ↦ all_among test qs p parts.1 later
    ]

pub found_here : (p : Part) (ps : List Part) (tokens : List Token) → begins_part p tokens ≡ true → chosen (p ∷ ps) tokens ≡ Some p
found_here p ps tokens e = ap (λ b. cond b (Some p) (chosen ps tokens)) e

pub passed_over : (p : Part) (ps : List Part) (tokens : List Token) → (begins_part p tokens ≡ true → ⊥) → chosen (p ∷ ps) tokens ≡ chosen ps tokens
passed_over p ps tokens never = pick (begins_part p tokens) never
  where
    pick : (b : Bool) → (b ≡ true → ⊥) → cond b (Some p) (chosen ps tokens) ≡ chosen ps tokens
    pick true h = absurd (h refl)
    pick false h = refl

pub chosen_is : (behind first : List ℕ) (parts : List Part) (p : Part) (tokens : List Token) → choice_fine behind first parts ≡ true → IsAmong p parts → begins_part p tokens ≡ true → chosen parts tokens ≡ Some p
chosen_is behind first [] p tokens f among e = elim among [ ]
chosen_is behind first (q ∷ qs) p tokens f among e =
    let one = and_parts (not (empty_of q)) (subset (first_of q) first && (follows behind q && (list_all (λ s. apart (first_of q) (first_of s)) qs && choice_fine behind first qs))) f in
    let two = and_parts (subset (first_of q) first) (follows behind q && (list_all (λ s. apart (first_of q) (first_of s)) qs && choice_fine behind first qs)) one.1 in
    let three = and_parts (follows behind q) (list_all (λ s. apart (first_of q) (first_of s)) qs && choice_fine behind first qs) two.1 in
    let four = and_parts (list_all (λ s. apart (first_of q) (first_of s)) qs) (choice_fine behind first qs) three.1 in
    elim among [
      | inl same ↦ found_here q qs tokens (subst (λ s. begins_part s tokens ≡ true) (sym same) e) ∙ ap Some same
      | inr later ↦
          (let distinct : apart (first_of q) (first_of p) ≡ true = all_among (λ s. apart (first_of q) (first_of s)) qs p four.0 later in
          passed_over q qs tokens (λ h. first_apart (first_of q) (first_of p) tokens distinct (begins_first q tokens h) (begins_first p tokens e))
          ∙ chosen_is behind first qs p tokens four.1 later e)
    ]

pub begins_choice : (r : Row) (form : Form) (k : ℕ) (p : Part) (own behind : List Token) → (form ≡ All → ⊥) → fine_by form r ≡ true → May form r.parts k p → Begun p own behind → chosen r.parts (own ++ behind) ≡ Some p
begins_choice r form k p own behind not_all f may b =
    let choice = choice_of form r not_all f in
    let among = among_of form r k p not_all may in
    elim b [
      | inl (nothing, empty) ↦ absurd (not_empty (empty_of p) (among_fine choice.0 (kinds_of r.first) r.parts p choice.2 among).nonempty empty)
      | inr e ↦ chosen_is choice.0 (kinds_of r.first) r.parts p (own ++ behind) choice.2 among e
    ]

pub get_past : (parts : List Part) (k : ℕ) → length parts ≡ k → slice_get parts k ≡ None
get_past [] zero e = refl
get_past [] (suc k) e = refl
get_past (q ∷ qs) zero e = absurd (omega (arith, e))
get_past (q ∷ qs) (suc k) e = get_past qs k (omega (arith, e))
