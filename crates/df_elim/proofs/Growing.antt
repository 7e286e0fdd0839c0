-- Levels, one more at a time.
use Rattle.std.proofs.Common.{◌≡◌, inl, inr, ℕ, zero, suc, ◌+◌, ◌-◌, ◌<◌, List, [], ◌∷◌, ◌++◌, map, length, slice_get, Some, Err, refl, sym, ap, subst, ◌∙◌, arith, append_assoc}
use Rattle.std.proofs.lemmas.List.{map-append, append-nil}
use Rattle.std.proofs.lemmas.Option.{none-some, same_Some}
use Rattle.df_row.specs.Row.{Row}
use Rattle.df_level.specs.declared.level.Level.{Level}
use Rattle.df_level.specs.declared.fault.LevelFault.{LevelFault}
use Rattle.df_level.specs.declared.fault.LevelFault.TheVariants as faults
use Rattle.df_level.specs.Levels.{GivesFirst, HasFalse, row_limit, IsWholeFirst, IsWholeNext, level_rows, AreWays, AreChained}
use Rattle.df_level.specs.Elimination.{AreFreeFrom, IsVariable, Eliminates, ends, next, Reaches, here, further, Passes, at_once, passing, last_level, IsOpenLevel, at_first, at_level, many_at_first, many_at_level}
use Rattle.df_elim.specs.Elimination.{HaveFalse, AreFew, IsRefutation, IsWhole, GivesElimination, GivesMore, Grows}
use Rattle.df_elim.specs.declared.elimination.Levels.{Levels}

-- the rows of the last of some levels
abbrev pub end_rows : Level → List Level → List Row
end_rows first others = last_level (level_rows first) (map level_rows others)

-- Levels so far: what is eliminated from here on goes on from them.
pub record AreSoFar (rows : List Row) (first : Level) (variables : List ℕ) (others : List Level) (low : ℕ) : Type 0 where
  pub is_first : IsWholeFirst rows (level_rows first)
  pub passes : Passes 0 (level_rows first) low (end_rows first others)
  pub goes : (more : List ℕ) (levels : List (List Row)) → Eliminates low (end_rows first others) more levels → Eliminates 0 (level_rows first) (variables ++ more) (map level_rows others ++ levels)
  pub chained : AreChained rows (first ∷ others)
  pub few : AreFew (first ∷ others)

last_more : (first level : List Row) (levels : List (List Row)) → last_level first (levels ++ level ∷ []) ≡ level
last_more first level [] = refl
last_more first level (l ∷ levels) = last_more l level levels

end_more : (first level : Level) (others : List Level) → end_rows first (others ++ level ∷ []) ≡ level_rows level
end_more first level others = ap (last_level (level_rows first)) (map-append level_rows others (level ∷ [])) ∙ last_more (level_rows first) (level_rows level) (map level_rows others)

passes_more : (low n from : ℕ) (rows level after : List Row) → Passes low rows from level → IsVariable from n level → IsWholeNext n level after → Passes low rows (suc n) after
passes_more low n from rows level after at_once v x = passing v x at_once
passes_more low n from rows level after (passing {n = m} {after = second} w y rest) v x = passing w y (passes_more (suc m) n from second level after rest v x)

pub reaches : (low from : ℕ) (rows level : List Row) → Passes low rows from level → Reaches low rows from level
reaches low from rows level at_once = here
reaches low from rows level (passing {n = m} {after = second} w y rest) = further w y.is_next (reaches (suc m) from second level rest)

chained_more : (rows : List Row) (first level : Level) (others : List Level) → AreChained rows (first ∷ others) → AreWays (end_rows first others) level → AreChained rows (first ∷ others ++ level ∷ [])
chained_more rows first level [] h w = (h.0, (w, tt))
chained_more rows first level (o ∷ others) h w = (h.0, chained_more (level_rows first) o level others h.1 w)

few_more : (levels : List Level) (level : Level) → AreFew levels → length (level_rows level) < row_limit → AreFew (levels ++ level ∷ [])
few_more [] level h less = (less, tt)
few_more (l ∷ levels) level h less = (h.0, few_more levels level h.1 less)

last_false : (first : Level) (others : List Level) → HasFalse (end_rows first others) → HaveFalse (first ∷ others)
last_false first [] h = inl h
last_false first (o ∷ others) h = inr (last_false o others h)

-- the last of some levels
last_at : (i : ℕ) (first : Level) (others : List Level) (x : Level) → i + 1 ≡ length others → slice_get others i ≡ Some x → level_rows x ≡ end_rows first others
last_at i first [] x e is = absurd (none-some x is)
last_at zero first (o ∷ []) x e is = ap level_rows (sym (same_Some o x is))
last_at zero first (o ∷ p ∷ others) x e is = absurd (omega arith)
last_at (suc i) first (o ∷ []) x e is = absurd (none-some x is)
last_at (suc i) first (o ∷ p ∷ others) x e is = last_at i o (p ∷ others) x (omega arith) is

pub last_is : (first : Level) (others : List Level) (x : Level) → slice_get others (length others - 1) ≡ Some x → level_rows x ≡ end_rows first others
last_is first [] x is = absurd (none-some x is)
last_is first (o ∷ others) x is = last_at (length (o ∷ others) - 1) first (o ∷ others) x (omega arith) is

-- one level more, or none
pub has_grown : (n : ℕ) (old new : Levels) (last : List Row) (level : Level) → last ≡ end_rows old.first old.others.items → IsWholeNext n last (level_rows level) → AreWays last level → new.first ≡ old.first → new.variables.items ≡ old.variables.items ++ n ∷ [] → new.others.items ≡ old.others.items ++ level ∷ [] → Grows n old new
has_grown n old new last level e is ways first variables others =
    let P : List Row → Type 0 = λ l. IsWholeNext n l (level_rows level) in
    let Q : List Row → Type 0 = λ l. AreWays l level in
    record { level = level; is_next = subst P e is; ways = subst Q e ways; first = first; variables = variables; others = others }

pub first_stops : (rows : List Row) (fault : LevelFault) → GivesFirst rows (Err fault) → GivesElimination rows (Err fault)
first_stops rows faults.Wide h = at_first h
first_stops rows faults.Many h = many_at_first h
first_stops rows faults.Memory h = tt

at_first_level : (rows : List Row) (first : Level) → IsWholeFirst rows (level_rows first) → AreWays rows first → AreSoFar rows first [] [] 0
at_first_level rows first is ways = record { is_first = is; passes = at_once; goes = λ more levels h. h; chained = (ways, tt); few = (is.few, tt) }

pub begins : (rows : List Row) (first : Level) (variables : List ℕ) (others : List Level) → variables ≡ [] → others ≡ [] → IsWholeFirst rows (level_rows first) → AreWays rows first → AreSoFar rows first variables others 0
begins rows first variables others none no_others is ways =
    let P : List ℕ → Type 0 = λ l. AreSoFar rows first l others 0 in
    let Q : List Level → Type 0 = λ l. AreSoFar rows first [] l 0 in
    subst P (sym none) (subst Q (sym no_others) (at_first_level rows first is ways))

module _ (rows : List Row) (first : Level) (variables : List ℕ) (others : List Level) (low : ℕ) (h : AreSoFar rows first variables others low) where
  grows : (n : ℕ) (level : Level) → IsVariable low n (end_rows first others) → IsWholeNext n (end_rows first others) (level_rows level) → AreWays (end_rows first others) level → AreSoFar rows first (variables ++ n ∷ []) (others ++ level ∷ []) (suc n)
  grows n level v x ways = record { is_first = h.is_first; passes = passes; goes = goes; chained = chained_more rows first level others h.chained ways; few = few_more (first ∷ others) level h.few x.few }
    where
      passes : Passes 0 (level_rows first) (suc n) (end_rows first (others ++ level ∷ []))
      passes =
          let P : List Row → Type 0 = λ l. Passes 0 (level_rows first) (suc n) l in
          subst P (sym (end_more first level others)) (passes_more 0 n low (level_rows first) (end_rows first others) (level_rows level) h.passes v x)

      goes : (more : List ℕ) (levels : List (List Row)) → Eliminates (suc n) (end_rows first (others ++ level ∷ [])) more levels → Eliminates 0 (level_rows first) ((variables ++ n ∷ []) ++ more) (map level_rows (others ++ level ∷ []) ++ levels)
      goes more levels e =
          let P : List Row → Type 0 = λ l. Eliminates (suc n) l more levels in
          let Q : List ℕ → Type 0 = λ l. Eliminates 0 (level_rows first) l (map level_rows others ++ level_rows level ∷ levels) in
          let R : List (List Row) → Type 0 = λ l. Eliminates 0 (level_rows first) ((variables ++ n ∷ []) ++ more) l in
          let joined : map level_rows (others ++ level ∷ []) ++ levels ≡ map level_rows others ++ level_rows level ∷ levels = ap (λ l. l ++ levels) (map-append level_rows others (level ∷ [])) ∙ append_assoc (map level_rows others) (level_rows level ∷ []) levels in
          subst R (sym joined) (subst Q (sym (append_assoc variables (n ∷ []) more)) (h.goes (n ∷ more) (level_rows level ∷ levels) (next v x.is_next (subst P (end_more first level others) e))))

-- from the rows of the last level
module _ (rows : List Row) (levels : Levels) (low : ℕ) (last : List Row) (e : last ≡ end_rows levels.first levels.others.items) (h : AreSoFar rows levels.first levels.variables.items levels.others.items low) where
  pub is_refuted : (found : List Level) → HasFalse last → found ≡ levels.first ∷ levels.others.items → IsRefutation rows found
  is_refuted found false is =
      let P : List Level → Type 0 = λ l. IsRefutation rows l in
      let there = subst HasFalse e false in
      subst P (sym is) (record { refuted = record { first = level_rows levels.first; is_first = h.is_first.is_first; from = low; level = end_rows levels.first levels.others.items; reaches = reaches 0 low (level_rows levels.first) (end_rows levels.first levels.others.items) h.passes; has_false = there }; whole = record { first = level_rows levels.first; is_first = h.is_first; from = low; level = end_rows levels.first levels.others.items; passes = h.passes; has_false = there }; chained = h.chained; has_false = last_false levels.first levels.others.items there; few = h.few })

  pub is_whole : (HasFalse last → ⊥) → AreFreeFrom low last → IsWhole rows levels
  is_whole stands free =
      let P : List ℕ → Type 0 = λ l. Eliminates 0 (level_rows levels.first) l (map level_rows levels.others.items) in
      let Q : List (List Row) → Type 0 = λ l. Eliminates 0 (level_rows levels.first) (levels.variables.items ++ []) l in
      let R : List Row → Type 0 = λ l. AreFreeFrom low l in
      let S : List Row → Type 0 = λ l. HasFalse l → ⊥ in
      let eliminates = subst P (append-nil levels.variables.items) (subst Q (append-nil (map level_rows levels.others.items)) (h.goes [] [] (ends (subst R e free)))) in
      record { elimination = record { is_first = h.is_first.is_first; eliminates = eliminates; stands = subst S e stands }; chained = h.chained; few = h.few }

  pub goes_on : (n : ℕ) (new : Levels) → IsVariable low n last → Grows n levels new → AreSoFar rows new.first new.variables.items new.others.items (suc n)
  goes_on n new v g =
      let P : List Row → Type 0 = λ l. IsVariable low n l in
      let Q : Level → Type 0 = λ l. AreSoFar rows l new.variables.items new.others.items (suc n) in
      let R : List ℕ → Type 0 = λ l. AreSoFar rows levels.first l new.others.items (suc n) in
      let S : List Level → Type 0 = λ l. AreSoFar rows levels.first (levels.variables.items ++ n ∷ []) l (suc n) in
      subst Q (sym g.first) (subst R (sym g.variables) (subst S (sym g.others) (grows rows levels.first levels.variables.items levels.others.items low h n g.level (subst P e v) g.is_next g.ways)))

  open_level : (n : ℕ) → (HasFalse last → ⊥) → IsVariable low n last → IsOpenLevel rows n (end_rows levels.first levels.others.items)
  open_level n stands v =
      let P : List Row → Type 0 = λ l. IsVariable low n l in
      let S : List Row → Type 0 = λ l. HasFalse l → ⊥ in
      record { first = level_rows levels.first; is_first = h.is_first; from = low; passes = h.passes; stands = subst S e stands; variable = subst P e v }

  pub stops : (n : ℕ) (new : Levels) (fault : LevelFault) → (HasFalse last → ⊥) → IsVariable low n last → GivesMore n levels new (Err fault) → GivesElimination rows (Err fault)
  stops n new faults.Wide stands v o = at_level n (end_rows levels.first levels.others.items) (open_level n stands v) o
  stops n new faults.Many stands v o = many_at_level n (end_rows levels.first levels.others.items) (open_level n stands v) o
  stops n new faults.Memory stands v o = tt
