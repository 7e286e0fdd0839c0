-- What the words of a line are read as: a letter, and its arguments.
use Rattle.std.specs.Prelude.{ℕ, ◌+◌, ◌==◌, ◌^◌, List, [], ◌∷◌, take, drop, Option, None, Some, codes, if◌then◌else◌}
use Rattle.std.specs.Option.{option_map, option_and_then}
use Rattle.df_base.specs.Names.{same_text}
use Rattle.df_form.specs.declared.node.Op.{Op}
use Rattle.df_form.specs.declared.node.Op.TheVariants as ops
use Rattle.df_form.specs.Log.{Step, Hypothesis, Goal, Connective, Schema, Propagation, Congruence, Linear, Split, Make}
use Rattle.df_logtext.specs.Numeral.{number_of, integer_of}
use Rattle.df_logtext.specs.Parting.{parted}
use Rattle.df_logtext.specs.Words.{place_from, index_of, indices_of, literals_of, pairs_from, combinations_from, op_of}

abbrev pub hypothesis_of : List (List ℕ) → Option Step
hypothesis_of (number ∷ []) = option_map Hypothesis (index_of number)
hypothesis_of words = None

abbrev pub goal_of : List (List ℕ) → Option Step
goal_of [] = Some Goal
goal_of words = None

abbrev pub connective_of : List (List ℕ) → Option Step
connective_of (node ∷ clause ∷ []) = option_and_then (λ n. option_map (Connective n) (index_of clause)) (index_of node)
connective_of words = None

abbrev pub schema_of : List (List ℕ) → Option Step
schema_of (schema ∷ clause ∷ terms) = option_and_then (λ s. option_and_then (λ k. option_map (Schema s k) (indices_of terms)) (number_of (2 ^ 32) clause)) (number_of (2 ^ 8) schema)
schema_of words = None

-- where the colon stands
abbrev pub colon : List (List ℕ) → Option ℕ
colon words = place_from (λ word. same_text word (codes ":")) 0 words

abbrev pub propagated_of : List (List ℕ) → List (List ℕ) → Option Step
propagated_of clauses conclusion = option_and_then (λ cs. option_map (Propagation cs) (literals_of conclusion)) (indices_of clauses)

abbrev pub propagation_of : List (List ℕ) → Option Step
propagation_of words = option_and_then (λ at. propagated_of (take at words) (drop (at + 1) words)) (colon words)

abbrev pub joined_of : List (List ℕ) → List (List ℕ) → Option Step
joined_of conclusion pairs = option_and_then (λ ls. option_map (Congruence ls) (pairs_from [] pairs)) (literals_of conclusion)

abbrev pub congruence_of : List (List ℕ) → Option Step
congruence_of words = option_and_then (λ at. joined_of (take at words) (drop (at + 1) words)) (colon words)

abbrev pub combined_of : List (List ℕ) → List (List ℕ) → Option Step
combined_of conclusion sums = option_and_then (λ ls. option_map (Linear ls) (combinations_from [] None sums)) (literals_of conclusion)

abbrev pub linear_of : List (List ℕ) → Option Step
linear_of words = option_and_then (λ at. combined_of (take at words) (drop (at + 1) words)) (colon words)

abbrev pub split_of : List (List ℕ) → Option Step
split_of (node ∷ bound ∷ []) = option_and_then (λ n. option_map (Split n) (integer_of bound)) (index_of node)
split_of words = None

abbrev pub made_of : Option Op → List (List ℕ) → Option Step
made_of op parts = option_and_then (λ o. option_map (λ ps. Make (record { op = o; parts = ps })) (indices_of parts)) op

abbrev pub number_made_of : List (List ℕ) → Option Step
number_made_of [] = None
number_made_of (number ∷ parts) = made_of (option_map (λ n. ops.Number n) (integer_of number)) parts

abbrev pub make_of : List (List ℕ) → List (List ℕ) → Option Step
make_of names [] = None
make_of names (word ∷ words) = if same_text word (codes "num") then number_made_of words else made_of (op_of names word) words

-- the letters `h g x a u e l s n`
abbrev pub by_letter : List (List ℕ) → ℕ → List (List ℕ) → Option Step
by_letter names letter words =
    if letter == 104 then hypothesis_of words
    else (if letter == 103 then goal_of words
    else (if letter == 120 then connective_of words
    else (if letter == 97 then schema_of words
    else (if letter == 117 then propagation_of words
    else (if letter == 101 then congruence_of words
    else (if letter == 108 then linear_of words
    else (if letter == 115 then split_of words
    else (if letter == 110 then make_of names words else None))))))))

abbrev pub step_of_words : List (List ℕ) → List (List ℕ) → Option Step
step_of_words names ((letter ∷ []) ∷ words) = by_letter names letter words
step_of_words names words = None

-- the step of a line
abbrev pub read_step : List (List ℕ) → List ℕ → Option Step
read_step names line = step_of_words names (parted 32 line)
