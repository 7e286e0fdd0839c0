-- The first use, of some and then of others.
use Rattle.std.proofs.Common.{◌≡◌, ◌+◌, ℕ, suc, Bool, true, false, List, [], ◌∷◌, ◌++◌, length, nat_lt, Option, Some, None, if◌then◌else◌, refl, arith}
use Rattle.std.proofs.lemmas.Bool.{ltb-true}
use Rattle.df_base.specs.declared.pos.Pos.{Pos}
use Rattle.df_lang.specs.Program.{Param}
use Rattle.df_lang.specs.Assignment as pure
use Rattle.df_lang.specs.Assignment.{Assigned, has_value, unassigned, results_from}
use Rattle.df_ntyping.proofs.LeastExists.{by_asym, by_greater}
use Rattle.df_nghost.specs.declared.reads.Use.{Use}
use Rattle.df_nghost.specs.mirror.Listed.{number_without, without}
use Rattle.df_nghost.specs.mirror.Uses.{precedes, shown, earlier, least, is_found_before, first_with, pick}

pub least_append : (first : Option Use) (xs ys : List pure.Use) → least first (xs ++ ys) ≡ least (least first xs) ys
least_append first [] ys = refl
least_append first (x ∷ xs) ys = least_append (earlier first (shown x)) xs ys

pub pick_append : (a : Assigned) (first : Option Use) (xs ys : List pure.Use) → pick a first (xs ++ ys) ≡ pick a (pick a first xs) ys
pick_append a first [] ys = refl
pick_append a first (x ∷ xs) ys = pick_append a (first_with (has_value a x.local) first (shown x)) xs ys

pub pick_least : (a : Assigned) (first : Option Use) (uses : List pure.Use) → pick a first uses ≡ least first (unassigned a uses)
pick_least a first [] = refl
pick_least a first (u ∷ others) = by_test (has_value a u.local) (pick_least a first others) (pick_least a (earlier first (shown u)) others)
  where
    by_test : (b : Bool) → pick a first others ≡ least first (unassigned a others) → pick a (earlier first (shown u)) others ≡ least (earlier first (shown u)) (unassigned a others)
        → pick a (first_with b first (shown u)) others ≡ least first (if b then unassigned a others else u ∷ unassigned a others)
    by_test true with_value without = with_value
    by_test false with_value without = without

-- ---- results that are not looked at one by one

-- each has a value
pub all_have : (a : Assigned) (first : Option Use) (pos : Pos) (from : ℕ) (results : List Param) → without (has_value a) from (length results) ≡ 0 → pick a first (results_from pos from results) ≡ first
all_have a first pos from [] none = refl
all_have a first pos from (p ∷ ps) none = by_test (has_value a from) none (all_have a first pos (suc from) ps)
  where
    used : Use
    used = record { local = from; name = p.declared.name; pos = pos }

    rest : List pure.Use
    rest = results_from pos (suc from) ps

    by_test : (b : Bool) → number_without b + without (has_value a) (suc from) (length ps) ≡ 0 → (without (has_value a) (suc from) (length ps) ≡ 0 → pick a first rest ≡ first) → pick a (first_with b first used) rest ≡ first
    by_test true e h = h (omega (arith, e))
    by_test false e h = absurd (omega (arith, e))

-- a use at a later place is not told before it
later : (found used : Use) → is_found_before (Some found) used.pos ≡ true → precedes used found ≡ false
later found used e =
    by_asym found.pos.line used.pos.line (nat_lt found.pos.col used.pos.col) _
    (λ less. by_greater used.pos.col found.pos.col _ (ltb-true found.pos.col used.pos.col less)) e

-- an earlier use was found
pub found_before : (a : Assigned) (first : Option Use) (pos : Pos) (from : ℕ) (results : List Param) → is_found_before first pos ≡ true → pick a first (results_from pos from results) ≡ first
found_before a None pos from results there = absurd (let f : false ≡ true = there in cc)
found_before a (Some found) pos from [] e = refl
found_before a (Some found) pos from (p ∷ ps) e = by_tests (has_value a from) (precedes used found) (later found used e) (found_before a (Some found) pos (suc from) ps e)
  where
    used : Use
    used = record { local = from; name = p.declared.name; pos = pos }

    rest : List pure.Use
    rest = results_from pos (suc from) ps

    by_tests : (has before : Bool) → before ≡ false → pick a (Some found) rest ≡ Some found → pick a (if has then Some found else (if before then Some used else Some found)) rest ≡ Some found
    by_tests true before late goes = goes
    by_tests false true late goes = absurd (let f : true ≡ false = late in cc)
    by_tests false false late goes = goes
