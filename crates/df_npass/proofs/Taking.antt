-- Interpretations that take values for free terms.
use Rattle.df_npass.proofs.Words.{all_back, all_front, all_joined, meaning, ◌≡◌, ℕ, suc, ◌≤◌, ◌==◌, Bool, true, false, ◌&&◌, not, if◌then◌else◌, List, [], ◌∷◌, ◌++◌, Option, None, Some, refl, sym, ap, ◌∙◌, subst, arith, eq-eqb, and_left, cond-false, cond_both, ltb-true, ne_eqb, or_right, Ty, Param, Method, Program, types_of, Value, has_type, have_types, Outcome, Gives, Dismissed, after, Handed, HandedGiven, Turned, store_with, Returned, handed_results, both, joined, Sort, Numbers, Truths, Characters, Free, Term, of_one, sort_of_type, same_sort, Interpretation, has_sort, truth, IsSorted, typed_sorted, SameBelow, value_same, sort_is, Said, on_path, assume_type, free_of, any_values, results_in}
use Rattle.df_lang.specs.declared.ty.Ty.TheVariants as types
use Rattle.df_meaning.specs.Value as values
use Rattle.df_nterm.specs.Term as ops
use Rattle.df_npass.proofs.Lemmas.{AllTrue, path_true, on_it, Mode, Following, Taking, handing, Moves, moves_here, moves_taking, same_itself, same_then, all_same, Play, play_silent, play_handed, play_took, play_taking, play_behind, not_wrong, AreKnown, known_append, known_then_follow, by_bool, AllBelow, values_at, free_below, suc_more}

sort_itself : (a : Sort) → same_sort a a ≡ true
sort_itself Numbers = refl
sort_itself Truths = refl
sort_itself Characters = refl

abbrev taken : Interpretation → ℕ → Sort → Value → Free → Value
taken i n sort v one = if (one.number == n && same_sort one.sort sort) then v else i.value one

-- the free term of the number has the value
pub taking : (i : Interpretation) (n : ℕ) (ty : Ty) (v : Value) → IsSorted ty v → Interpretation
taking i n ty v h = record {
  program = i.program;
  value = taken i n (sort_of_type ty) v;
  sorted = λ one. cond_both (one.number == n && same_sort one.sort (sort_of_type ty)) v (i.value one) (λ (x : Value). has_sort one.sort x ≡ true)
      (λ e. let e = both (one.number == n) (same_sort one.sort (sort_of_type ty)) e in subst (λ s. has_sort s v ≡ true) (sym (sort_is one.sort (sort_of_type ty) e.1)) h) (λ e. i.sorted one);
}

pub takes_program : (i : Interpretation) (n : ℕ) (ty : Ty) (v : Value) (h : IsSorted ty v) → (taking i n ty v h).program ≡ i.program
unfolding taking
takes_program i n ty v h = refl

pub free_takes : (i : Interpretation) (n : ℕ) (ty : Ty) (v : Value) (h : IsSorted ty v) → meaning (taking i n ty v h) (free_of n ty) ≡ v
unfolding taking
free_takes i n ty v h = rw (eq-eqb n n refl, sort_itself (sort_of_type ty)) refl

pub others_stay : (i : Interpretation) (n : ℕ) (ty : Ty) (v : Value) (h : IsSorted ty v) → SameBelow n i (taking i n ty v h)
unfolding taking
others_stay i n ty v h = record { program = refl; free = λ one less. sym (cond-false (one.number == n && same_sort one.sort (sort_of_type ty)) v (i.value one) (and_left (one.number == n) (same_sort one.sort (sort_of_type ty)) (ne_eqb one.number n (λ e. omega (arith, e, ltb-true one.number n less))))) }

-- ---- types

-- what is true is so on each path
pub on_any_path : (i : Interpretation) (path : Option Term) (formula : Term) → truth i formula ≡ true → truth i (on_path path formula) ≡ true
on_any_path i None formula e = e
on_any_path i (Some path) formula e = rw (e) (or_right (not (truth i path)) true refl)

pub type_true : (i : Interpretation) (path : Option Term) (ty : Ty) (a : Term) → has_type i.program ty (meaning i a) ≡ true → AllTrue i (assume_type path ty a)
type_true i path (types.Newtype id) a h = (on_any_path i path (of_one (ops.Is (types.Newtype id)) a) h, tt)
type_true i path types.Nat a h = (on_any_path i path (of_one (ops.Is types.Nat) a) h, tt)
type_true i path ty a h = tt

int_typed : (p : Program) (v : Value) → has_sort Numbers v ≡ true → has_type p types.Int v ≡ true
int_typed p (values.Number n) h = refl
int_typed p v h = cc

bool_typed : (p : Program) (v : Value) → has_sort Truths v ≡ true → has_type p types.Bool v ≡ true
bool_typed p (values.Truth b) h = refl
bool_typed p v h = cc

char_typed : (p : Program) (v : Value) → has_sort Characters v ≡ true → has_type p types.Char v ≡ true
char_typed p (values.Character c) h = h
char_typed p v h = cc

-- and what is said of a term makes its value one of the type
pub type_said : (i : Interpretation) (path : Option Term) (ty : Ty) (a : Term) → path_true i path ≡ true → IsSorted ty (meaning i a) → AllTrue i (assume_type path ty a) → has_type i.program ty (meaning i a) ≡ true
type_said i path (types.Newtype id) a there h all = sym (on_it i path (of_one (ops.Is (types.Newtype id)) a) there) ∙ all.0
type_said i path types.Nat a there h all = sym (on_it i path (of_one (ops.Is types.Nat) a) there) ∙ all.0
type_said i path types.Int a there h all = int_typed i.program (meaning i a) h
type_said i path types.Bool a there h all = bool_typed i.program (meaning i a) h
type_said i path types.Char a there h all = char_typed i.program (meaning i a) h

pub free_sorted : (i : Interpretation) (n : ℕ) (ty : Ty) → IsSorted ty (meaning i (free_of n ty))
free_sorted i n ty = i.sorted (record { number = n; sort = sort_of_type ty })

pub type_known : (path : Option Term) (ty : Ty) (a : Term) → AreKnown (assume_type path ty a)
type_known path (types.Newtype id) a = tt
type_known path ty a = tt

-- ---- results of calls

abbrev pub AllSorted : List Param → List Value → Type 0
AllSorted [] [] = Unit {0}
AllSorted (param ∷ params) (v ∷ vs) = IsSorted param.ty v × AllSorted params vs
AllSorted params vs = ⊥

pub record Took (i : Interpretation) (path : Option Term) (params : List Param) (n : ℕ) (vs : List Value) : Type 0 where
  pub to : Interpretation
  pub same : SameBelow n i to
  pub are : values_at to (any_values path params n).terms ≡ vs
  pub sorted : AllSorted params vs
  pub all : AllTrue to (any_values path params n).said

pub take_all : (i : Interpretation) (path : Option Term) (params : List Param) (n : ℕ) (vs : List Value) → have_types i.program (types_of params) vs ≡ true → Took i path params n vs
take_all i path [] n [] h = record { to = i; same = same_itself n i; are = refl; sorted = tt; all = tt }
take_all i path (param ∷ params) n (v ∷ vs) h =
    let h = both (has_type i.program param.ty v) (have_types i.program (types_of params) vs) h in
    let sorted = typed_sorted i.program param.ty v h.0 in
    let one = taking i n param.ty v sorted in
    let more = take_all one path params (suc n) vs (subst (λ p. have_types p (types_of params) vs ≡ true) (sym (takes_program i n param.ty v sorted)) h.1) in
    let is : meaning more.to (free_of n param.ty) ≡ v = sym (value_same (suc n) one more.to more.same (free_of n param.ty) (free_below n param.ty)) ∙ free_takes i n param.ty v sorted in
    let program_is : i.program ≡ more.to.program = sym (takes_program i n param.ty v sorted) ∙ more.same.program in
    record {
      to = more.to;
      same = same_then n (suc n) i one more.to (suc_more n) (others_stay i n param.ty v sorted) more.same;
      are = ap (λ w. w ∷ values_at more.to (any_values path params (suc n)).terms) is ∙ ap (λ ws. v ∷ ws) more.are;
      sorted = (sorted, more.sorted);
      all = all_joined _ (assume_type path param.ty (free_of n param.ty)) _ (type_true more.to path param.ty (free_of n param.ty) (rw (is, ← program_is) h.0)) more.all;
    }
take_all i path params n vs h = cc

pub any_known : (path : Option Term) (params : List Param) (n : ℕ) → AreKnown (any_values path params n).said
any_known path [] n = tt
any_known path (param ∷ params) n = known_append (assume_type path param.ty (free_of n param.ty)) _ (type_known path param.ty (free_of n param.ty)) (any_known path params (suc n))

pub any_sorted : (i : Interpretation) (path : Option Term) (params : List Param) (n : ℕ) → AllSorted params (values_at i (any_values path params n).terms)
any_sorted i path [] n = tt
any_sorted i path (param ∷ params) n = (free_sorted i n param.ty, any_sorted i path params (suc n))

pub any_typed : (i : Interpretation) (path : Option Term) (params : List Param) (n : ℕ) → path_true i path ≡ true → AllTrue i (any_values path params n).said → have_types i.program (types_of params) (values_at i (any_values path params n).terms) ≡ true
any_typed i path [] n there all = refl
any_typed i path (param ∷ params) n there all =
    joined (has_type i.program param.ty (meaning i (free_of n param.ty))) _ (type_said i path param.ty (free_of n param.ty) there (free_sorted i n param.ty) (all_front _ (assume_type path param.ty (free_of n param.ty)) _ all))
    (any_typed i path params (suc n) there (all_back _ (assume_type path param.ty (free_of n param.ty)) _ all))

-- the values of the terms, of the sorts of the types
pub record AreResults (i : Interpretation) (path : Option Term) (params : List Param) (n : ℕ) (vs : List Value) : Type 0 where
  pub are : vs ≡ values_at i (any_values path params n).terms
  pub sorted : AllSorted params vs

if_typed : {B : Type 0} (b typed : Bool) (r : Returned) (go : Returned → Outcome B) → b ≡ typed → after (if b then Gives r else Dismissed) go ≡ after (if typed then Gives r else Dismissed) go
if_typed b typed r go e = ap (λ c. after (if c then Gives r else Dismissed) go) e

abbrev pub returned : List Value → List ℕ → List Handed → Returned
returned vs text handed = record { values = vs; store = store_with text handed }

module _ (B : Type 0) (n : ℕ) (path : Option Term) (program : Program) (method : Method) (more : List Said) (go : Returned → Outcome B) where
  -- what goes on from any results
  pub results_then : (mode : Mode) (i : Interpretation) → path_true i path ≡ true → i.program ≡ program
      → ((k : Mode) (j : Interpretation) (vs : List Value) (text : List ℕ) → Moves mode i n k j → AreResults j path method.results n vs → Play B k j (any_values path method.results n).fresh more (λ handed. go (returned vs text handed)))
      → n ≤ (any_values path method.results n).fresh → AllBelow (any_values path method.results n).fresh (any_values path method.results n).said
      → Play B (handing (results_in i path method n) mode) i n ((any_values path method.results n).said ++ more) (λ handed. after (handed_results program method handed) go)
  results_then (Following left) i there same h le below =
      known_then_follow B (results_in i path method n ∷ left) i n (any_values path method.results n).said more _ (any_known path method.results n) (λ all.
      let vs = values_at i (any_values path method.results n).terms in
      play_handed B i n more _ (λ handed. go (returned vs [] handed)) (HandedGiven vs []) left
      (if_typed (have_types program (types_of method.results) vs) true (returned vs [] left) go (subst (λ p. have_types p (types_of method.results) vs ≡ true) same (any_typed i path method.results n there all)))
      (h (Following left) i vs [] (moves_here (Following left) i n) (record { are = refl; sorted = any_sorted i path method.results n })))
  results_then (Taking []) i there same h le below = play_silent B i n _ _ (λ at kind w. not_wrong at kind refl w)
  results_then (Taking (Turned locals text ∷ rest)) i there same h le below = play_silent B i n _ _ (λ at kind w. not_wrong at kind refl w)
  results_then (Taking (HandedGiven vs text ∷ left)) i there same h le below = by_bool (have_types program (types_of method.results) vs)
      (λ e.
      let took = take_all i path method.results n vs (subst (λ p. have_types p (types_of method.results) vs ≡ true) (sym same) e) in
      let fresh = (any_values path method.results n).fresh in
      let said = (any_values path method.results n).said in
      let run : List Handed → Outcome B = (λ handed. go (returned vs text handed)) in
      play_took B i n (said ++ more) (λ handed. after (handed_results program method handed) go) run (HandedGiven vs text) left (if_typed (have_types program (types_of method.results) vs) true (returned vs text left) go e)
      (play_taking B left i took.to n fresh (said ++ more) run le took.same
      (play_behind B (Taking left) took.to fresh said more run (λ j agrees. all_same fresh took.to j agrees said below took.all)
      (h (Taking left) took.to vs text (moves_taking (HandedGiven vs text ∷ left) left i took.to n took.same) (record { are = sym took.are; sorted = took.sorted })))))
      (λ e. play_silent B i n _ _ (λ at kind w. not_wrong at kind (if_typed (have_types program (types_of method.results) vs) false (returned vs text left) go e) w))
