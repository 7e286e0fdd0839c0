-- Obligations of small methods, by computation: the column and the kind of each, in order.
use Rattle.df_npass.proofs.Words.{◌≡◌, ℕ, pos, true, List, [], ◌∷◌, map, None, refl, Expr, Junction, no_member, member, Single, If, Return, Assert, Break, done, next, no_branch, branch, Program, Method, Kind, Term, Is, of_one, literal, equal, less, implies, truth_term, option_map_or, Changed, Environment, Condition, conditions_of, Way, Joined, join, join_branches, Obligation, obligations_of_method}
use Rattle.df_lang.specs.declared.ty.Ty.TheVariants as types
use Rattle.df_lang.specs.declared.expr.Junction.TheVariants as junctions
use Rattle.df_lang.specs.declared.expr.Comparison.TheVariants as comparisons
use Rattle.df_lang.proofs.Samples.{N, at, num, loc, truth_expr, compared, target_at, declare, method_with, pairs, parity, parities, below, alone, counting, returning, broken, leaving, swapping, meeting, main_of, cheated, twos, taking, narrow, printing, staying}
use Rattle.df_meaning.specs.declared.kind.Kind.TheVariants.{Assert as Asserted, Requires, Ensures, Entry, Turn, Decreases, Range, Distinct}
use Rattle.df_nterm.specs.Term.{both}

record Place : Type 0 where
  column : ℕ
  kind : Kind

abbrev p : ℕ → Kind → Place
p column kind = record { column = column; kind = kind }

abbrev places : List Obligation → List Place
places obligations = map (λ (o : Obligation). p o.pos.col o.kind) obligations

abbrev in_groups : List ℕ → Program → ℕ → Method → List Place
in_groups groups program number method = places (obligations_of_method program groups number method)

abbrev in_program : Program → ℕ → Method → List Place
in_program program number method = in_groups (0 ∷ 1 ∷ 1 ∷ []) program number method

-- what is known where each is owed
abbrev known_in : Program → ℕ → Method → List (List Term)
known_in program number method = map (λ (o : Obligation). o.hypotheses) (obligations_of_method program (0 ∷ 1 ∷ 1 ∷ []) number method)

abbrev is_small : ℕ → Term
is_small n = of_one (Is N) (literal (pos n))

abbrev goals_in : Program → ℕ → Method → List Term
goals_in program number method = map (λ (o : Obligation). o.goal) (obligations_of_method program (0 ∷ 1 ∷ 1 ∷ []) number method)

abbrev thrice : Method
thrice = pairs (target_at 0 N ∷ target_at 0 N ∷ target_at 0 N ∷ []) (Single N (loc 1) ∷ Single N (loc 0) ∷ Single N (num (pos 3)) ∷ [])

abbrev first_changed : List Changed
first_changed = record { local = 0; ty = N } ∷ []

abbrev all_of : ℕ → Environment
all_of n = λ local. literal (pos n)

abbrev sevens : List Way
sevens = record { env = all_of 7; path = None } ∷ []

-- the terms of the first two locals
abbrev first_two : Joined → List Term
first_two joined = option_map_or (λ (way : Way). way.env 0 ∷ way.env 1 ∷ []) joined.way []

-- `if true { var y := 1; } else { return; } assert y == 1;`, with y by its number, has a value where it is read
abbrev inner : Method
inner = method_with [] [] [] [] None
    (next (If (branch (at 13) (truth_expr true) (next (declare 0 N (Single N (num (pos 1)))) done) no_branch) (next (Return (at 16) None) done))
    (next (Assert (at 15) (compared (loc 0) comparisons.Equal (num (pos 1)))) done))

abbrev fewer : ℕ → Expr
fewer n = compared (loc 0) comparisons.Less (num (pos n))

abbrev is_fewer : ℕ → Term
is_fewer n = less (literal (pos 0)) (literal (pos n))

-- each with what it gives
rows :
    (in_program (parities below) 1 (parity true 2 below) ≡ p 2 Range ∷ p 2 Range ∷ p 2 Range ∷ p 6 Range ∷ p 2 Range ∷ p 11 Requires ∷ p 11 Decreases ∷ [])
    -- the same calls, where each method is a group of its own
    × (in_groups (0 ∷ 1 ∷ 2 ∷ []) (parities below) 1 (parity true 2 below) ≡ p 2 Range ∷ p 2 Range ∷ p 2 Range ∷ p 6 Range ∷ p 2 Range ∷ p 11 Requires ∷ [])
    -- `r := 0; while r < n invariant r <= n { r := r + 1; } assert r == n;`
    × (in_program (alone counting) 1 counting ≡ p 2 Range ∷ p 7 Entry ∷ p 2 Range ∷ p 6 Range ∷ p 7 Turn ∷ p 14 Decreases ∷ p 15 Asserted ∷ [])
    -- behind a `break` no turn ends, so nothing is owed there
    × (in_program (alone broken) 1 broken ≡ p 2 Range ∷ p 2 Range ∷ p 6 Range ∷ p 2 Range ∷ p 15 Asserted ∷ [])
    -- a loop ends inside two ifs: the other runs come to the end of the turn
    × (in_program (alone (leaving (Break (at 16)))) 1 (leaving (Break (at 16))) ≡ p 2 Range ∷ p 2 Range ∷ p 6 Range ∷ p 2 Range ∷ p 14 Decreases ∷ p 2 Range ∷ p 6 Range ∷ [])
    -- a `return` in a loop: the postcondition is owed once, of all ends
    × (in_program (alone returning) 1 returning ≡ p 2 Range ∷ p 2 Range ∷ p 2 Range ∷ p 7 Ensures ∷ [])
    -- an assertion that no run comes to is owed; and the measure of a loop without members, which never falls
    × (in_program (alone staying) 1 staying ≡ p 2 Range ∷ p 17 Asserted ∷ p 14 Decreases ∷ p 2 Range ∷ p 15 Asserted ∷ [])
    -- two results of one call, each narrowed
    × (in_groups (0 ∷ 1 ∷ 2 ∷ []) (twos (taking narrow narrow types.Nat types.Nat)) 2 (taking narrow narrow types.Nat types.Nat) ≡ p 11 Range ∷ p 11 Range ∷ [])
    -- a call as a right side, and what is known of what it gave
    × (in_groups (0 ∷ 1 ∷ 2 ∷ []) cheated 2 main_of ≡ p 2 Range ∷ p 2 Range ∷ p 15 Asserted ∷ [])
    × (in_program (alone swapping) 1 swapping ≡ p 2 Range ∷ p 2 Range ∷ [])
    -- places that meet are owed equal values
    × (in_program (alone (meeting (loc 0))) 1 (meeting (loc 0)) ≡ p 2 Range ∷ p 2 Range ∷ p 20 Distinct ∷ [])
    × (in_program (alone printing) 1 printing ≡ [])
    -- the range of 2 is asked twice, and known once
    × (known_in (alone (meeting (num (pos 2)))) 1 (meeting (num (pos 2))) ≡ [] ∷ (is_small 1 ∷ []) ∷ (is_small 1 ∷ is_small 2 ∷ []) ∷ (is_small 1 ∷ is_small 2 ∷ []) ∷ [])
    -- a place that is named three times is owed equal to what it was given last
    × (goals_in (alone thrice) 1 thrice ≡ is_small 1 ∷ is_small 2 ∷ is_small 3 ∷ equal (literal (pos 1)) (literal (pos 2)) ∷ equal (literal (pos 3)) (literal (pos 1)) ∷ [])
    -- the join of one way keeps the local that it changes; one branch leads on as it is
    × (first_two (join None (all_of 0) first_changed sevens 5) ≡ literal (pos 7) ∷ literal (pos 0) ∷ [])
    × (first_two (join_branches None (all_of 0) first_changed sevens 5) ≡ literal (pos 7) ∷ literal (pos 7) ∷ [])
    × (goals_in (alone inner) 1 inner ≡ implies (truth_term true) (is_small 1) ∷ implies (truth_term true) (is_small 1) ∷ implies (truth_term true) (equal (literal (pos 1)) (literal (pos 1))) ∷ [])
    -- of `x < 1 && x < 2 && x < 3` each condition is one implication
    × (map (λ (c : Condition). c.formula) (conditions_of (all_of 0) (Junction junctions.And (fewer 1) (member (at 5) (fewer 2) (member (at 6) (fewer 3) no_member)))) ≡ is_small 1 ∷ implies (is_fewer 1) (is_small 2) ∷ implies (both (is_fewer 1) (is_fewer 2)) (is_small 3) ∷ [])
rows = (refl, refl, refl, refl, refl, refl, refl, refl, refl, refl, refl, refl, refl, refl, refl, refl, refl, refl)
