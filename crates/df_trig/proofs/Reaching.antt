-- Rounds line by line, and what is there where one ends early.
use Rattle.std.proofs.Common.{◌≡◌, ℕ, zero, suc, ◌+◌, ◌-◌, ◌<◌, ◌≤◌, List, [], ◌∷◌, ◌++◌, take, drop, length, Some, slice_get, Result, Ok, Err, refl, sym, ap, ◌∙◌, subst, arith, add-one, append-nil}
use Rattle.std.specs.List.{range_with_len, flat_map}
use Rattle.std.proofs.Math.Seq.{take-suc}
use Rattle.std.proofs.lemmas.Grind.{flat_map-append}
use Rattle.std.proofs.lemmas.List.{take-append-drop, take_all}
use Rattle.std.proofs.lemmas.Option.{slice_get_within, get_or_from_slice_get}
use Rattle.df_form.specs.Log.{Step}
use Rattle.df_form.specs.Sequent.{Sequent}
use Rattle.df_form.proofs.Values.{AreSorted}
use Rattle.df_clause.specs.Counting.{instance_count}
use Rattle.df_clause.specs.GroundSet.{GroundSet, with_line, with_lines, with_meaning, with_meanings, IsFrontOf}
use Rattle.df_clause.proofs.Growing.{next_line, meaning_more}
use Rattle.df_clause.proofs.Sets.{front_itself, front_twice, lines_more, line_counts, line_front, lines_sorted, lines_front, meanings_more, meanings_sorted, meanings_front}
use Rattle.df_trig.specs.declared.fault.TrigFault.{TrigFault}
use Rattle.df_trig.specs.declared.fault.TrigFault.TheVariants.{Many, Memory}
use Rattle.df_trig.specs.Rounds.{AreFew, LiesBetween, Reaches, TellsFew}

-- a set that is as before lies between
pub still : (old whole : GroundSet) → IsFrontOf old whole → LiesBetween old whole old
still old whole f = record { begins = front_itself old; goes_on = f }

between_wider : (first old whole wider new : GroundSet) → IsFrontOf first old → IsFrontOf whole wider → LiesBetween old whole new → LiesBetween first wider new
between_wider first old whole wider new g f between = record { begins = front_twice first old new g between.begins; goes_on = front_twice new whole wider between.goes_on f }

-- a set that lies between two also lies between an earlier and a later one
pub reaches_wider : (first old whole wider new : GroundSet) (fault : TrigFault) → IsFrontOf first old → IsFrontOf whole wider → Reaches {A = Unit {0}} old whole new (Err fault) → Reaches {A = Unit {0}} first wider new (Err fault)
reaches_wider first old whole wider new (Many count) g f reaches = (between_wider first old whole wider new g f reaches.0, reaches.1, reaches.2)
reaches_wider first old whole wider new Memory g f reaches = between_wider first old whole wider new g f reaches

pub reaches_from : (first old whole new : GroundSet) (result : Result (Unit {0}) TrigFault) → IsFrontOf first old → Reaches old whole new result → Reaches first whole new result
reaches_from first old whole new (Ok a) g reaches = (reaches.0, reaches.1)
reaches_from first old whole new (Err fault) g reaches = reaches_wider first old whole whole new fault g (front_itself whole) reaches

-- after a line, which adds one instance at most, they are fewer than the limit, or just as many
pub told : (s : Sequent) (old new : GroundSet) (line : Step) (result : Result (Unit {0}) TrigFault) → AreSorted old.nodes → AreFew old → new ≡ with_line s old line → TellsFew new result → Reaches old (with_line s old line) new result
told s old new line (Ok done) sorted few is tells = (is, tells)
told s old new line (Err (Many count)) sorted few is tells =
    let most = line_counts s old line in
    let same = ap (λ (x : GroundSet). instance_count x.clauses) is in
    let between : LiesBetween old (with_line s old line) new =
    subst (λ (x : GroundSet). LiesBetween old (with_line s old line) x) (sym is) (record { begins = line_front s old line sorted; goes_on = front_itself (with_line s old line) }) in
    (between, tells.0, omega (arith, most, same, few, tells.1))
told s old new line (Err Memory) sorted few is tells = absurd tells

module _ (s : Sequent) (set : GroundSet) (sorted : AreSorted set.nodes) (lines : List Step) where
  pub front_of_all : (n : ℕ) → IsFrontOf (with_lines s set (take n lines)) (with_lines s set lines)
  front_of_all n =
      let all : with_lines s set lines ≡ with_lines s (with_lines s set (take n lines)) (drop n lines) = ap (with_lines s set) (sym (take-append-drop n lines)) ∙ lines_more s set (take n lines) (drop n lines) in
      subst (IsFrontOf (with_lines s set (take n lines))) (sym all) (lines_front s (drop n lines) (with_lines s set (take n lines)) (lines_sorted s (take n lines) set sorted))

  -- a fault at a line is one of all lines
  pub ends_early : (n : ℕ) (line : Step) (now new : GroundSet) (fault : TrigFault) → slice_get lines n ≡ Some line → now ≡ with_lines s set (take n lines) → Reaches {A = Unit {0}} now (with_line s now line) new (Err fault) → Reaches {A = Unit {0}} set (with_lines s set lines) new (Err fault)
  ends_early n line now new fault at is reaches =
      let same = ap (λ (x : GroundSet). with_line s x line) is ∙ next_line s set lines n line at in
      let so_far = subst (IsFrontOf set) (sym is) (lines_front s (take n lines) set sorted) in
      reaches_wider set now (with_lines s set (take (n + 1) lines)) (with_lines s set lines) new fault so_far (front_of_all (n + 1)) (subst (λ (x : GroundSet). Reaches {A = Unit {0}} now x new (Err fault)) same reaches)

-- ---- lists of lines one after another

module _ {X : Type 0} (s : Sequent) (set : GroundSet) (sorted : AreSorted set.nodes) (f : X → List Step) (xs : List X) where
  next_lines : (n : ℕ) (x : X) → slice_get xs n ≡ Some x → with_lines s (with_lines s set (flat_map f (take n xs))) (f x) ≡ with_lines s set (flat_map f (take (n + 1) xs))
  next_lines n x at =
      let less = slice_get_within xs n x at in
      let here = get_or_from_slice_get xs n x x at in
      let taken : take (n + 1) xs ≡ take n xs ++ x ∷ [] = ap (λ (k : ℕ). take k xs) (add-one n) ∙ take-suc xs n x less ∙ ap (λ (y : X). take n xs ++ y ∷ []) here in
      let front : flat_map f (take (n + 1) xs) ≡ flat_map f (take n xs) ++ f x =
      ap (flat_map f) taken ∙ flat_map-append f (take n xs) (x ∷ []) ∙ ap (λ (ls : List Step). flat_map f (take n xs) ++ ls) (append-nil (f x)) in
      sym (ap (with_lines s set) front ∙ lines_more s set (flat_map f (take n xs)) (f x))

  front_of_lists : (n : ℕ) → IsFrontOf (with_lines s set (flat_map f (take n xs))) (with_lines s set (flat_map f xs))
  front_of_lists n =
      let parts : flat_map f xs ≡ flat_map f (take n xs) ++ flat_map f (drop n xs) = ap (flat_map f) (sym (take-append-drop n xs)) ∙ flat_map-append f (take n xs) (drop n xs) in
      let all = ap (with_lines s set) parts ∙ lines_more s set (flat_map f (take n xs)) (flat_map f (drop n xs)) in
      subst (IsFrontOf (with_lines s set (flat_map f (take n xs)))) (sym all) (lines_front s (flat_map f (drop n xs)) (with_lines s set (flat_map f (take n xs))) (lines_sorted s (flat_map f (take n xs)) set sorted))

  -- one list more
  pub lists_go_on : (n : ℕ) (x : X) (now new : GroundSet) → slice_get xs n ≡ Some x → now ≡ with_lines s set (flat_map f (take n xs)) → new ≡ with_lines s now (f x) → new ≡ with_lines s set (flat_map f (take (n + 1) xs))
  lists_go_on n x now new at is one = one ∙ ap (λ (from : GroundSet). with_lines s from (f x)) is ∙ next_lines n x at

  -- a fault at a list is one of all
  pub lists_end_early : (n : ℕ) (x : X) (now new : GroundSet) (fault : TrigFault) → slice_get xs n ≡ Some x → now ≡ with_lines s set (flat_map f (take n xs)) → Reaches {A = Unit {0}} now (with_lines s now (f x)) new (Err fault) → Reaches {A = Unit {0}} set (with_lines s set (flat_map f xs)) new (Err fault)
  lists_end_early n x now new fault at is reaches =
      let same = ap (λ (from : GroundSet). with_lines s from (f x)) is ∙ next_lines n x at in
      let so_far = subst (IsFrontOf set) (sym is) (lines_front s (flat_map f (take n xs)) set sorted) in
      reaches_wider set now (with_lines s set (flat_map f (take (n + 1) xs))) (with_lines s set (flat_map f xs)) new fault so_far (front_of_lists (n + 1)) (subst (λ (to : GroundSet). Reaches {A = Unit {0}} now to new (Err fault)) same reaches)

  -- all lists
  pub lists_all : (n : ℕ) (now : GroundSet) → length xs ≤ n → now ≡ with_lines s set (flat_map f (take n xs)) → now ≡ with_lines s set (flat_map f xs)
  lists_all n now past is = is ∙ ap (λ (ys : List X). with_lines s set (flat_map f ys)) (take_all n xs past)

  pub lists_grow : (n : ℕ) (now : GroundSet) → now ≡ with_lines s set (flat_map f (take n xs)) → take (length set.nodes) now.nodes ≡ set.nodes
  lists_grow n now is = subst (λ (x : GroundSet). take (length set.nodes) x.nodes ≡ set.nodes) (sym is) (lines_front s (flat_map f (take n xs)) set sorted).nodes

-- ---- meanings one after another

numbers_split : (a k m : ℕ) → range_with_len a (k + m) ≡ range_with_len a k ++ range_with_len (a + k) m
numbers_split a zero m = let none : a ≡ a + 0 = omega arith in let all : 0 + m ≡ m = omega arith in ap (range_with_len a) all ∙ ap (λ (b : ℕ). range_with_len b m) none
numbers_split a (suc k) m =
    let on : a + 1 + k ≡ a + suc k = omega arith in
    let all : suc k + m ≡ suc (k + m) = omega arith in
    ap (range_with_len a) all ∙ ap (λ (ns : List ℕ). a ∷ ns) (numbers_split (a + 1) k m ∙ ap (λ (b : ℕ). range_with_len (a + 1) k ++ range_with_len b m) on)

module _ (s : Sequent) (set : GroundSet) (sorted : AreSorted set.nodes) (first count : ℕ) where
  front_of_meanings : (k : ℕ) → k ≤ count → IsFrontOf (with_meanings s set (range_with_len first k)) (with_meanings s set (range_with_len first count))
  front_of_meanings k le =
      let rest = count - k in
      let parts : count ≡ k + rest = omega (arith, le) in
      let numbers = ap (range_with_len first) parts ∙ numbers_split first k rest in
      let all = ap (with_meanings s set) numbers ∙ meanings_more s set (range_with_len first k) (range_with_len (first + k) rest) in
      subst (IsFrontOf (with_meanings s set (range_with_len first k))) (sym all) (meanings_front s (range_with_len (first + k) rest) (with_meanings s set (range_with_len first k)) (meanings_sorted s (range_with_len first k) set sorted))

  -- a fault at the meaning of a node is one of all
  pub meanings_end_early : (k : ℕ) (now new : GroundSet) (fault : TrigFault) → k < count → now ≡ with_meanings s set (range_with_len first k) → Reaches {A = Unit {0}} now (with_meaning s now (first + k)) new (Err fault) → Reaches {A = Unit {0}} set (with_meanings s set (range_with_len first count)) new (Err fault)
  meanings_end_early k now new fault less is reaches =
      let to = meaning_more s set now (with_meaning s now (first + k)) first k is refl in
      let so_far = subst (IsFrontOf set) (sym is) (meanings_front s (range_with_len first k) set sorted) in
      reaches_wider set now (with_meanings s set (range_with_len first (k + 1))) (with_meanings s set (range_with_len first count)) new fault so_far (front_of_meanings (k + 1) (omega (arith, less)))
      (subst (λ (whole : GroundSet). Reaches {A = Unit {0}} now whole new (Err fault)) to reaches)
