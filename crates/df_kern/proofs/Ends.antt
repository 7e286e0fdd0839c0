-- The end of a log.
use Rattle.std.proofs.Common.{◌≡◌, Vec, Global, ℕ, zero, suc, ◌-◌, List, [], ◌∷◌, length, map, slice_get, Some, sym, ap, ◌∙◌, arith}
use Rattle.std.specs.Option.{option_map}
use Rattle.std.proofs.lemmas.List.{length-map}
use Rattle.std.proofs.lemmas.Option.{slice_get-map, same_Some}
use Rattle.df_form.specs.declared.log.Lit.{Lit}
use Rattle.df_form.specs.Clause.{Clause}
use Rattle.df_rules.specs.Derivation.{ends_empty}
use Rattle.df_rules.specs.Propagation.{is_empty}

-- the last clause tells
ends-last : (clauses : List Clause) (k : ℕ) (clause : Clause) → suc k ≡ length clauses → slice_get clauses k ≡ Some clause → ends_empty clauses ≡ is_empty clause
ends-last [] k clause long at = absurd (omega arith)
ends-last ([] ∷ []) zero clause long at = ap is_empty (same_Some [] clause at)
ends-last ([] ∷ []) (suc k) clause long at = absurd (omega arith)
ends-last ((l ∷ ls) ∷ []) zero clause long at = ap is_empty (same_Some (l ∷ ls) clause at)
ends-last ((l ∷ ls) ∷ []) (suc k) clause long at = absurd (omega arith)
ends-last (first ∷ next ∷ others) zero clause long at = absurd (omega arith)
ends-last (first ∷ next ∷ others) (suc k) clause long at = ends-last (next ∷ others) k clause (omega arith) at

-- and so among the code's clauses
pub ends-of : (clauses : List (Vec Lit Global)) (clause : Vec Lit Global) → Some clause ≡ slice_get clauses (length clauses - 1) → is_empty clause.items ≡ ends_empty (map (λ c. c.items) clauses)
ends-of [] clause at = absurd cc
ends-of (first ∷ others) clause at =
    let all = first ∷ others in
    let k = length all - 1 in
    let there : slice_get (map (λ (c : Vec Lit Global). c.items) all) k ≡ Some clause.items = slice_get-map (λ (c : Vec Lit Global). c.items) all k ∙ ap (option_map (λ (c : Vec Lit Global). c.items)) (sym at) in
    sym (ends-last (map (λ (c : Vec Lit Global). c.items) all) k clause.items (omega (arith, length-map all (λ (c : Vec Lit Global). c.items))) there)
