-- More rows have more levels, and a false row stays in all that come later.
use Rattle.std.proofs.Common.{◌≡◌, ◌⊎◌, inl, inr, ℕ, suc, ◌≤◌, ◌<◌, pos, List, subst, arith}
use Rattle.df_row.specs.Row.{Row}
use Rattle.df_level.specs.Levels.{Stands, HasFalse, IsMade, kept, cancelled, IsFirstLevel, IsNextLevel}
use Rattle.df_level.specs.Elimination.{IsVariable, Eliminates, ends, next, Reaches, here, further, last_level, AreRefuted, IsElimination}
use Rattle.df_elim.specs.Elimination.{AreAmong}

made_of_more : (n : ℕ) (rows more : List Row) → AreAmong rows more → (r : Row) → IsMade n rows rows r → IsMade n more more r
made_of_more n rows more among r (kept there none) = kept (among r there) none
made_of_more n rows more among r (cancelled first second there other c) = cancelled first second (among first there) (among second other) c

next_among : (n : ℕ) (rows more after later : List Row) → AreAmong rows more → IsNextLevel n rows after → IsNextLevel n more later → AreAmong after later
next_among n rows more after later among x y r there = y.all r (made_of_more n rows more among r (x.each r there))

first_among : (rows more first second : List Row) → AreAmong rows more → IsFirstLevel rows first → IsFirstLevel more second → AreAmong first second
first_among rows more first second among x y r there = let w = x.each r there in y.all r w.0 (among w.0 w.1) w.2

false_among : (rows more : List Row) → AreAmong rows more → HasFalse rows → HasFalse more
false_among rows more among h = record { row = h.row; stands = among h.row h.stands; is_false = h.is_false }

false_after : (n : ℕ) (rows after : List Row) → IsNextLevel n rows after → HasFalse rows → HasFalse after
false_after n rows after x h = record { row = h.row; stands = x.all h.row (kept h.stands (h.is_false.zeros n)); is_false = h.is_false }

-- a row of a level stays where it has no coefficient for the variable
false_stays : (low : ℕ) (rows : List Row) (variables : List ℕ) (levels : List (List Row)) → Eliminates low rows variables levels → HasFalse rows → HasFalse (last_level rows levels)
false_stays low rows variables levels (ends free) h = h
false_stays low rows variables levels (next {n = n} {after = after} {variables = others} {levels = more} v x rest) h = false_stays (suc n) after others more rest (false_after n rows after x h)

sides : (n m : ℕ) → (n < m) ⊎ ((n ≡ m) ⊎ (m < n))
sides n m = grind arith

module _ (from : ℕ) (level : List Row) (false : HasFalse level) where
  abbrev Goes : ℕ → List Row → List (List Row) → Type 0
  Goes low more levels = (rows : List Row) → AreAmong rows more → Reaches low rows from level → HasFalse (last_level more levels)

  end : (low : ℕ) (more rows : List Row) → AreAmong rows more → ((row : Row) (n : ℕ) → Stands row more → low ≤ n → row.coefficient n ≡ pos 0) → Reaches low rows from level → HasFalse more
  end low more rows among free here = false_among rows more among false
  end low more rows among free (further v x rest) = absurd (v.has.nonzero (free v.has.row _ (among v.has.row v.has.stands) v.at_least))

  -- where the others eliminate a variable before those of these rows, these stay
  goes_past : (low m n : ℕ) (more rows later after : List Row) (levels : List (List Row)) → AreAmong rows more → low ≤ m → m < n → IsVariable low n rows → IsNextLevel n rows after → Reaches (suc n) after from level → IsNextLevel m more later → Goes (suc m) later levels → HasFalse (last_level later levels)
  goes_past low m n more rows later after levels among le less v x rest y again = again rows stays (further now x rest)
    where
      stays : AreAmong rows later
      stays r there = y.all r (kept (among r there) (v.free_below r m there le less))

      now : IsVariable (suc m) n rows
      now = record { at_least = less; free_below = λ r i there above below. v.free_below r i there (omega arith) below; has = v.has }

  step : (low m : ℕ) (more later : List Row) (variables : List ℕ) (levels : List (List Row)) → IsVariable low m more → IsNextLevel m more later → Eliminates (suc m) later variables levels → Goes (suc m) later levels → (rows : List Row) → AreAmong rows more → Reaches low rows from level → HasFalse (last_level later levels)
  step low m more later variables levels w y rest again rows among here = false_stays (suc m) later variables levels rest (false_after m more later y (false_among rows more among false))
  step low m more later variables levels w y rest again rows among (further {n = n} {after = after} v x others) = by (sides n m)
    where
      by : (n < m) ⊎ ((n ≡ m) ⊎ (m < n)) → HasFalse (last_level later levels)
      by (inl less) = absurd (v.has.nonzero (w.free_below v.has.row n (among v.has.row v.has.stands) v.at_least less))
      by (inr (inl same)) =
          let P : ℕ → Type 0 = λ i. IsNextLevel i rows after in
          let Q : ℕ → Type 0 = λ i. Reaches (suc i) after from level in
          again after (next_among m rows more after later among (subst P same x) y) (subst Q same others)
      by (inr (inr less)) = goes_past low m n more rows later after levels among w.at_least less v x others y again

  goes : (low : ℕ) (more : List Row) (variables : List ℕ) (levels : List (List Row)) → Eliminates low more variables levels → Goes low more levels
  goes low more variables levels (ends free) = λ rows among reaches. end low more rows among free reaches
  goes low more variables levels (next {n = n} {after = after} {variables = others} {levels = rest} v x e) = λ rows among reaches. step low n more after others rest v x e (goes (suc n) after others rest e) rows among reaches

pub stay_refuted : (rows more : List Row) → AreAmong rows more → AreRefuted rows → (first : List Row) (variables : List ℕ) (levels : List (List Row)) → IsElimination more first variables levels → ⊥
stay_refuted rows more among refuted first variables levels e = e.stands (goes refuted.from refuted.level refuted.has_false 0 first variables levels e.eliminates refuted.first (first_among rows more refuted.first first among refuted.is_first e.is_first) refuted.reaches)
