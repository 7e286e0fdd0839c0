-- Loops that add lines.
use Rattle.std.proofs.Common.{◌≡◌, ℕ, ◌+◌, ◌<◌, ◌≤◌, List, [], ◌∷◌, ◌++◌, map, take, length, Option, None, Some, slice_get, refl, sym, ap, ◌∙◌, arith, add-one}
use Rattle.std.specs.List.{range_with_len}
use Rattle.std.specs.Option.{option_map, option_map_or}
use Rattle.std.proofs.Math.Seq.{take-suc}
use Rattle.std.proofs.lemmas.List.{take_all, length-map}
use Rattle.std.proofs.lemmas.List.FromFn.{length-range_with_len, get_or-range_with_len}
use Rattle.std.proofs.lemmas.Option.{slice_get_within, get_or_from_slice_get, slice_get-get_or, slice_get-map}
use Rattle.df_form.specs.Node.{Node}
use Rattle.df_form.specs.Log.{Step, Hypothesis, Goal, Connective}
use Rattle.df_form.specs.Sequent.{Sequent}
use Rattle.df_clause.specs.Lines.{connective_count, connective_lines, lines_at}
use Rattle.df_clause.specs.GroundSet.{GroundSet, with_line, with_lines, with_meaning, with_meanings, no_clauses, hypothesis_lines, with_claims, sequent_set}
use Rattle.df_clause.proofs.Listing.{row_more, numbers_more}
use Rattle.df_clause.proofs.Sets.{lines_more, meanings_more}

-- one more of a row of lines
pub line_more : (s : Sequent) (f : ℕ → Step) (set now next : GroundSet) (n : ℕ) → now ≡ with_lines s set (map f (range_with_len 0 n)) → next ≡ with_line s now (f n) → next ≡ with_lines s set (map f (range_with_len 0 (n + 1)))
line_more s f set now next n so_far is =
    is ∙ ap (λ (x : GroundSet). with_line s x (f n)) so_far ∙ sym (lines_more s set (map f (range_with_len 0 n)) (f n ∷ [])) ∙ ap (with_lines s set) (row_more f [] n)

-- the meaning of one more node
pub meaning_more : (s : Sequent) (set now next : GroundSet) (first n : ℕ) → now ≡ with_meanings s set (range_with_len first n) → next ≡ with_meaning s now (first + n) → next ≡ with_meanings s set (range_with_len first (n + 1))
meaning_more s set now next first n so_far is =
    is ∙ ap (λ (x : GroundSet). with_meaning s x (first + n)) so_far ∙ sym (meanings_more s set (range_with_len first n) ((first + n) ∷ [])) ∙ ap (with_meanings s set) (sym (numbers_more first n))

-- ---- over a list of lines

module _ (s : Sequent) (set : GroundSet) (lines : List Step) where
  pub next_line : (n : ℕ) (line : Step) → slice_get lines n ≡ Some line → with_line s (with_lines s set (take n lines)) line ≡ with_lines s set (take (n + 1) lines)
  next_line n line at =
      let less = slice_get_within lines n line at in
      let here = get_or_from_slice_get lines n line line at in
      let front : take (n + 1) lines ≡ take n lines ++ line ∷ [] = ap (λ (k : ℕ). take k lines) (add-one n) ∙ take-suc lines n line less ∙ ap (λ (x : Step). take n lines ++ x ∷ []) here in
      sym (ap (with_lines s set) front ∙ lines_more s set (take n lines) (line ∷ []))

  -- a line more
  pub goes_on : (n : ℕ) (line : Step) (now new : GroundSet) → slice_get lines n ≡ Some line → now ≡ with_lines s set (take n lines) → new ≡ with_line s now line → new ≡ with_lines s set (take (n + 1) lines)
  goes_on n line now new at is one = one ∙ ap (λ (x : GroundSet). with_line s x line) is ∙ next_line n line at

  -- all lines
  pub is_all : (n : ℕ) (now : GroundSet) → length lines ≤ n → now ≡ with_lines s set (take n lines) → now ≡ with_lines s set lines
  is_all n now past is = is ∙ ap (with_lines s set) (take_all n lines past)

-- ---- the lines of hypotheses

pub hypotheses_long : (s : Sequent) → length (hypothesis_lines s) ≡ length s.hypotheses
hypotheses_long s = length-map (range_with_len 0 (length s.hypotheses)) (λ i. Hypothesis i) ∙ length-range_with_len 0 (length s.hypotheses)

pub hypothesis_line : (s : Sequent) (n : ℕ) → n < length s.hypotheses → slice_get (hypothesis_lines s) n ≡ Some (Hypothesis n)
hypothesis_line s n less =
    let count = length s.hypotheses in
    let numbers = range_with_len 0 count in
    let long = length-range_with_len 0 count in
    let from_zero : 0 + n ≡ n = omega arith in
    let read : slice_get numbers n ≡ Some n = slice_get-get_or numbers n 0 (omega (arith, long, less)) ∙ ap (λ (k : ℕ). Some k) (get_or-range_with_len 0 count n 0 less ∙ from_zero) in
    slice_get-map (λ i. Hypothesis i) numbers n ∙ ap (option_map (λ i. Hypothesis i)) read

-- ---- the lines of a connective

pub meaning_line : (nodes : List Node) (n k : ℕ) → k < length (lines_at nodes n) → slice_get (lines_at nodes n) k ≡ Some (Connective n k)
meaning_line nodes n k less = by (slice_get nodes n) less
  where
    by : (o : Option Node) → k < length (option_map_or (connective_lines nodes n) o []) → slice_get (option_map_or (connective_lines nodes n) o []) k ≡ Some (Connective n k)
    by None less = absurd (omega (arith, less))
    by (Some node) less =
        let count = connective_count nodes node.op node.parts in
        let numbers = range_with_len 0 count in
        let long = length-range_with_len 0 count in
        let mapped = length-map numbers (λ k. Connective n k) in
        let inside : k < count = omega (arith, less, long, mapped) in
        let from_zero : 0 + k ≡ k = omega arith in
        let read : slice_get numbers k ≡ Some k = slice_get-get_or numbers k 0 (omega (arith, long, inside)) ∙ ap (λ (i : ℕ). Some i) (get_or-range_with_len 0 count k 0 inside ∙ from_zero) in
        slice_get-map (λ k. Connective n k) numbers k ∙ ap (option_map (λ k. Connective n k)) read

-- they are those of its first numbers
pub meanings_row : (nodes : List Node) (n : ℕ) → lines_at nodes n ≡ map (λ k. Connective n k) (range_with_len 0 (length (lines_at nodes n)))
meanings_row nodes n = by (slice_get nodes n)
  where
    by : (o : Option Node) → option_map_or (connective_lines nodes n) o [] ≡ map (λ k. Connective n k) (range_with_len 0 (length (option_map_or (connective_lines nodes n) o [])))
    by None = refl
    by (Some node) =
        let most = connective_count nodes node.op node.parts in
        let long = length-map (range_with_len 0 most) (λ k. Connective n k) ∙ length-range_with_len 0 most in
        ap (λ (m : ℕ). map (λ k. Connective n k) (range_with_len 0 m)) (sym long)

-- there are as many as its clauses
pub meanings_long : (nodes : List Node) (n : ℕ) (node : Node) (count : ℕ) → count ≡ connective_count nodes node.op node.parts → Some node ≡ slice_get nodes n → count ≡ length (lines_at nodes n)
meanings_long nodes n node count is there =
    let most = connective_count nodes node.op node.parts in
    let long = length-map (range_with_len 0 most) (λ k. Connective n k) ∙ length-range_with_len 0 most in
    is ∙ sym long ∙ ap (λ (o : Option Node). length (option_map_or (connective_lines nodes n) o [])) there

-- ---- the set of a sequent, step by step

pub gathered : (s : Sequent) (none claims with_goal all : GroundSet) (count : ℕ) → none ≡ no_clauses s → claims ≡ with_lines s none (hypothesis_lines s) → with_goal ≡ with_line s claims Goal → all ≡ with_meanings s with_goal (range_with_len 0 count) → count ≡ length s.nodes → all ≡ sequent_set s
gathered s none claims with_goal all count none_is claims_are goal_is all_is count_is =
    all_is
    ∙ ap (λ (x : GroundSet). with_meanings s x (range_with_len 0 count)) (goal_is ∙ ap (λ (x : GroundSet). with_line s x Goal) (claims_are ∙ ap (λ (x : GroundSet). with_lines s x (hypothesis_lines s)) none_is))
    ∙ ap (λ (n : ℕ). with_meanings s (with_claims s) (range_with_len 0 n)) count_is
