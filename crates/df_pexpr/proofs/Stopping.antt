-- Where reading stops, no text that begins like this one goes on.
use Rattle.std.proofs.Common.{◌≡◌, ℕ, zero, suc, ◌+◌, ◌-◌, ◌<◌, ◌≤◌, ◌^◌, min, ◌⊎◌, inl, inr, Bool, true, false, not, ◌&&◌, ◌||◌, List, [], ◌∷◌, drop, take, take-take, length, Option, Some, None, if◌then◌else◌, refl, sym, ap, ◌∙◌, subst, arith}
use Rattle.std.specs.List.{list_all, list_any}
use Rattle.std.specs.Option.{option_map, option_map_or}
use Rattle.std.proofs.lemmas.Bool.{or_parts, cases_Bool, cases_lt}
use Rattle.std.proofs.lemmas.List.{length-take}
use Rattle.df_tok.specs.Token.{Token}
use Rattle.df_tree.specs.Terminal.{terminal}
use Rattle.df_tree.specs.declared.production.Part.TheVariants.{Nonterminal}
use Rattle.df_tree.specs.Tree.{Tree}
use Rattle.df_tree.specs.Row.{Row}
use Rattle.df_tree.specs.Grammar.{declarations, statements, expressions, classes, nothing, row, kinds_of, is_in, is_nil, first_terminal, first_in, second_in, begins, height_limit, IsTreeOf}
use Rattle.df_tree.specs.Building.{opened}
use Rattle.df_tree.proofs.Fine.{row_has}
use Rattle.df_pexpr.specs.mirror.Reading.{depth_limit}
use Rattle.df_pexpr.specs.mirror.Construction.{Construction, Attempt, Success, Failure, builder, attempt_from}
use Rattle.df_pexpr.specs.Position.{looks, looks_behind, reach}
use Rattle.df_pexpr.proofs.Complete.{token_limit}
use Rattle.df_pexpr.proofs.Spelled.{IsAttempt, text_too_long, no_text}
use Rattle.df_pexpr.proofs.Local.{end_of, head, Alike, AlikeUpTo, same_first, builder_local}

-- ---- the same tokens from a number on

window_of : (at k m : ℕ) (xs : List Token) → at + k ≤ m → take k (drop at (take m xs)) ≡ take k (drop at xs)
window_of zero k m xs le = take-take k m xs (omega (arith, le))
window_of (suc at) k zero xs le = absurd (omega (arith, le))
window_of (suc at) k (suc m) [] le = refl
window_of (suc at) k (suc m) (x ∷ xs) le = window_of at k m xs (omega (arith, le))

window : (at k m : ℕ) (xs ys : List Token) → take m xs ≡ take m ys → at + k ≤ m → take k (drop at xs) ≡ take k (drop at ys)
window at k m xs ys e le = sym (window_of at k m xs le) ∙ ap (λ zs. take k (drop at zs)) e ∙ window_of at k m ys le

head_of : (k : ℕ) (ts : List Token) → head (take (suc k) ts) ≡ head ts
head_of k [] = refl
head_of k (x ∷ xs) = refl

begins_of_two : (r : Row) (ts : List Token) → begins r (take 2 ts) ≡ begins r ts
begins_of_two r [] = refl
begins_of_two r (x ∷ []) = refl
begins_of_two r (x ∷ y ∷ xs) = refl

alike_by_two : (ts us : List Token) → take 2 ts ≡ take 2 us → Alike ts us
alike_by_two ts us e = record {
  rows = λ n. sym (begins_of_two (row n) ts) ∙ ap (begins (row n)) e ∙ begins_of_two (row n) us;
  heads = sym (head_of 1 ts) ∙ ap head e ∙ head_of 1 us;
}

-- ---- one token is enough where no production looks behind it

any_none : (f : Row → Bool) (rows : List Row) → list_any f rows ≡ false → list_all (λ r. not (f r)) rows ≡ true
any_none f [] e = refl
any_none f (r ∷ rows) e = let parts = or_parts (f r) (list_any f rows) e in rw parts.0 (any_none f rows parts.1)

not_looking : (a b : Bool) → not (not a && b) ≡ true → (a ≡ true) ⊎ (b ≡ false)
not_looking true b e = inl refl
not_looking false false e = inr refl
not_looking false true e = absurd (let f : false ≡ true = e in cc)

nothing_looks : (kind : ℕ) → not (looks kind nothing) ≡ true
unfolding kinds_of classes
nothing_looks kind = refl

row_looks : (kind n : ℕ) → looks_behind kind ≡ false → (is_nil (kinds_of (row n).second) ≡ true) ⊎ (is_in kind (kinds_of (row n).first) ≡ false)
unfolding looks_behind
row_looks kind n e =
    let one = or_parts (list_any (looks kind) declarations) (list_any (looks kind) statements || list_any (looks kind) expressions) e in
    let two = or_parts (list_any (looks kind) statements) (list_any (looks kind) expressions) one.1 in
    not_looking (is_nil (kinds_of (row n).second)) (is_in kind (kinds_of (row n).first))
    (row_has (λ r. not (looks kind r)) n (nothing_looks kind) (any_none (looks kind) declarations one.0) (any_none (looks kind) statements two.0) (any_none (looks kind) expressions two.1))

begins_by_one : (r : Row) (ts us : List Token) → head ts ≡ head us → (is_nil (kinds_of r.second) ≡ true) ⊎ (first_in (kinds_of r.first) ts ≡ false) → begins r ts ≡ begins r us
begins_by_one r ts us e looking =
    let first : first_in (kinds_of r.first) ts ≡ first_in (kinds_of r.first) us = ap (λ o. option_map_or (λ kind. is_in kind (kinds_of r.first)) o false) (same_first ts us e) in
    elim looking [
      | inl any ↦ (ap (λ b. first_in (kinds_of r.first) ts && (b || first_in (kinds_of r.second) (drop 1 ts))) any ∙ ap (λ b. b && true) first
          ∙ sym (ap (λ b. first_in (kinds_of r.first) us && (b || first_in (kinds_of r.second) (drop 1 us))) any))
      | inr not_first ↦ (ap (λ b. b && second_in (kinds_of r.second) ts) not_first ∙ sym (ap (λ b. b && second_in (kinds_of r.second) us) (sym first ∙ not_first)))
    ]

alike_by_one : (ts us : List Token) → head ts ≡ head us → ((kind : ℕ) → first_terminal ts ≡ Some kind → looks_behind kind ≡ false) → Alike ts us
alike_by_one [] us e quiet = record { rows = λ n. begins_by_one (row n) [] us e (inr refl); heads = e }
alike_by_one (x ∷ xs) us e quiet = record { rows = λ n. begins_by_one (row n) (x ∷ xs) us e (row_looks (terminal x) n (quiet (terminal x) refl)); heads = e }

-- ---- up to where reading ends

reach_least : (tokens : List Token) (stop : ℕ) → stop + 1 ≤ reach tokens stop
reach_least tokens stop = by (first_terminal (drop stop tokens))
  where
    by : (o : Option ℕ) → stop + 1 ≤ option_map_or (λ kind. if looks_behind kind then stop + 2 else stop + 1) o (stop + 1)
    by None = omega arith
    by (Some kind) = pick (looks_behind kind)
      where
        pick : (b : Bool) → stop + 1 ≤ (if b then stop + 2 else stop + 1)
        pick true = omega arith
        pick false = omega arith

same_kind : (a b : ℕ) → ◌≡◌ {A = Option ℕ} (Some a) (Some b) → a ≡ b
same_kind a b e = cc

alike_at : (tokens others : List Token) (stop : ℕ) → take (reach tokens stop) tokens ≡ take (reach tokens stop) others → Alike (drop stop tokens) (drop stop others)
alike_at tokens others stop e = by (first_terminal (drop stop tokens)) refl
  where
    one : head (drop stop tokens) ≡ head (drop stop others)
    one = sym (head_of 0 (drop stop tokens)) ∙ ap head (window stop 1 (reach tokens stop) tokens others e (reach_least tokens stop)) ∙ head_of 0 (drop stop others)

    by : (o : Option ℕ) → first_terminal (drop stop tokens) ≡ o → Alike (drop stop tokens) (drop stop others)
    by None here = alike_by_one (drop stop tokens) (drop stop others) one (λ kind f. absurd (let g : ◌≡◌ {A = Option ℕ} None (Some kind) = sym here ∙ f in cc))
    by (Some kind) here = elim (cases_Bool (looks_behind kind)) [
      | inr quiet ↦ alike_by_one (drop stop tokens) (drop stop others) one (λ other f. subst (λ k. looks_behind k ≡ false) (same_kind kind other (sym here ∙ f)) quiet)
      | inl loud ↦ (let far : reach tokens stop ≡ stop + 2 = ap (λ o. option_map_or (λ k. if looks_behind k then stop + 2 else stop + 1) o (stop + 1)) here ∙ ap (λ b. if b then stop + 2 else stop + 1) loud in
          alike_by_two (drop stop tokens) (drop stop others) (window stop 2 (reach tokens stop) tokens others e (omega (arith, far))))
    ]

alike_up_to : (tokens others : List Token) (stop : ℕ) → take (reach tokens stop) tokens ≡ take (reach tokens stop) others → AlikeUpTo stop tokens others
alike_up_to tokens others stop e = λ at le. elim (cases_lt at stop) [
  | inl before ↦ alike_by_two (drop at tokens) (drop at others) (window at 2 (reach tokens stop) tokens others e (omega (arith, before, reach_least tokens stop)))
  | inr past ↦ (let same : stop ≡ at = omega (arith, le, past) in subst (λ k. Alike (drop k tokens) (drop k others)) same (alike_at tokens others stop e))
]

likewise : (n : ℕ) (tokens others : List Token) (stop : ℕ) (a : Attempt) → AlikeUpTo stop tokens others → a ≡ attempt_from n tokens 0 → end_of a ≤ stop → a ≡ attempt_from n others 0
unfolding attempt_from
likewise n tokens others stop a alike e le =
    e ∙ sym (builder_local tokens others stop alike depth_limit height_limit 0 (opened 0) 0 (Nonterminal n) (subst (λ b. end_of b ≤ stop) e le))

pub stopped_there : (n : ℕ) (tokens : List Token) (stop : ℕ) → IsAttempt n tokens 0 (Failure stop) → (others : List Token) → length others < token_limit → take (reach tokens stop) others ≡ take (reach tokens stop) tokens → (t : Tree) → IsTreeOf n others t → ⊥
stopped_there n tokens stop a others few e t of =
    no_text n others stop (record { is = likewise n tokens others stop (Failure stop) (alike_up_to tokens others stop (sym e)) a.is (omega arith); few = few }) t of

pub ended_there : (n : ℕ) (tokens : List Token) (found : Construction) → IsAttempt n tokens 0 (Success found) → found.behind < length tokens → (others : List Token) → length others < token_limit
    → take (reach tokens found.behind) others ≡ take (reach tokens found.behind) tokens → (t : Tree) → IsTreeOf n others t → ⊥
ended_there n tokens found a lt others few e t of =
    let far : ℕ = reach tokens found.behind in
    let lengths : length (take far others) ≡ length (take far tokens) = ap length e in
    let long : found.behind < length others = omega (arith, lengths, lt, reach_least tokens found.behind, length-take far others, length-take far tokens) in
    text_too_long n others found (record { is = likewise n tokens others found.behind (Success found) (alike_up_to tokens others found.behind (sym e)) a.is (omega arith); few = few }) long t of
