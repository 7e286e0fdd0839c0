-- Loops of the parser: rows of operations and of expressions, and calls.
use Rattle.std.proofs.Common.{◌≡◌, ℕ, max, List, [], ◌∷◌, ◌++◌, map, Option, Some, None, refl, sym, ap, ◌∙◌, append_assoc, arith}
use Rattle.std.proofs.lemmas.List.{append-nil}
use Rattle.df_base.specs.declared.refusal.Stop.{Stop}
use Rattle.df_base.specs.declared.refusal.Stop.TheVariants as stops
use Rattle.df_tok.specs.Token.{Token}
use Rattle.df_ntree.specs.Expr.{Expr}
use Rattle.df_ntree.specs.mirror.Reading.{◌>>=◌, Reader, all_of, many, next_by, one_or_more}
use Rattle.df_ntree.specs.mirror.ExprReading.{Part, Parts, highest, gathered, expressions_by, call_of, calls_of, called, next_arguments, atom_by, primary_by}
use Rattle.df_ntree.proofs.Repeat.{Shrinks, all_of-step, with_front, ends, got, pair}
use Rattle.df_ntree.proofs.ExprPrimary.{called_more}
use Rattle.df_npexpr.specs.Reads.{Stops}

-- what a step answered, once it is known which it is
pub seen : {S X : Type 0} (found : Option (Option X × List S)) (o p : Option X) (rest : List S) → found ≡ Some (o, rest) → o ≡ p → found ≡ Some (p, rest)
seen {S = S} {X = X} found o p rest e f = e ∙ ap (λ (q : Option X). Some (q, rest)) f

-- a stop of a step stops the whole
pub stops_whole : {A B : Type 0} (stop : Stop) (part : Option A) (total : Option B) → (part ≡ None → total ≡ None) → Stops stop part → Stops stop total
stops_whole stops.Memory part total none h = tt
stops_whole (stops.Refused refusal) part total none h = (none h.0, h.1, h.2)

-- ---- lists

pub list_fails : {S X : Type 0} (stop : Stop) (step : List S → Option (Option X × List S)) → Shrinks step → (front : List X) (rest : List S) (total : Option (List X × List S)) → Stops stop (step rest) → with_front front (all_of step rest) ≡ total → Stops stop total
list_fails stop step s front rest total h so_far = stops_whole stop (step rest) total (λ e. ends step s front rest total e so_far) h

-- ---- lists with heights

abbrev pub Step : Type 0 → Type 0
Step X = List Token → Option (Option (X × ℕ) × List Token)

abbrev Total : Type 0 → Type 0
Total X = Option ((List X × ℕ) × List Token)

refused : {X : Type 0} (step : Step X) → Shrinks step → (front : List X) (h : ℕ) (rest : List Token) (total : Total X) → step rest ≡ None → gathered front h (all_of step rest) ≡ total → total ≡ None
refused step s front h rest total e so_far =
    let one : gathered front h (all_of step rest) ≡ None = rw (all_of-step step s rest, e) refl in
    sym so_far ∙ one

pub fails : {X : Type 0} (stop : Stop) (step : Step X) → Shrinks step → (front : List X) (h : ℕ) (rest : List Token) (total : Total X) → Stops stop (step rest) → gathered front h (all_of step rest) ≡ total → Stops stop total
fails stop step s front h rest total f so_far = stops_whole stop (step rest) total (λ e. refused step s front h rest total e so_far) f

regroup : {X : Type 0} (front : List X) (h : ℕ) (x : X × ℕ) (found : Option (List (X × ℕ) × List Token))
    → gathered front h (found >>= λ more. Some (x ∷ more.0, more.1)) ≡ gathered (front ++ x.0 ∷ []) (max h x.1) found
regroup front h x None = refl
regroup {X = X} front h x (Some more) =
    let e : front ++ x.0 ∷ map (λ (y : X × ℕ). y.0) more.0 ≡ (front ++ x.0 ∷ []) ++ map (λ (y : X × ℕ). y.0) more.0 = simp append_assoc in
    let m : max h (max x.1 (highest more.0)) ≡ max (max h x.1) (highest more.0) = omega arith in
    ap (λ (xs : List X). Some ((xs, max h (max x.1 (highest more.0))), more.1)) e
    ∙ ap (λ (n : ℕ). Some (((front ++ x.0 ∷ []) ++ map (λ (y : X × ℕ). y.0) more.0, n), more.1)) m

pub goes_on : {X : Type 0} (step : Step X) → Shrinks step → (front : List X) (h : ℕ) (rest after : List Token) (x : X × ℕ) (total : Total X) → step rest ≡ Some (Some x, after)
    → gathered front h (all_of step rest) ≡ total → gathered (front ++ x.0 ∷ []) (max h x.1) (all_of step after) ≡ total
goes_on step s front h rest after x total e so_far =
    let one : gathered front h (all_of step rest) ≡ gathered (front ++ x.0 ∷ []) (max h x.1) (all_of step after) = rw (all_of-step step s rest, e) (regroup front h x (all_of step after)) in
    sym one ∙ so_far

pub is_done : {X : Type 0} (step : Step X) → Shrinks step → (front : List X) (h : ℕ) (rest after : List Token) (total : Total X) → step rest ≡ Some (None, after) → gathered front h (all_of step rest) ≡ total → total ≡ Some ((front, h), after)
is_done {X = X} step s front h rest after total e so_far =
    let m : max h 0 ≡ h = omega arith in
    let last : gathered front h (Some ([], after)) ≡ Some ((front, h), after) = ap (λ (xs : List X). Some ((xs, max h 0), after)) (append-nil front) ∙ ap (λ (n : ℕ). Some ((front, n), after)) m in
    let one : gathered front h (all_of step rest) ≡ Some ((front, h), after) = rw (all_of-step step s rest, e) last in
    sym so_far ∙ one

-- ---- expressions with commas between them

first_gathered : (x : Part) (found : Option (List Part × List Token))
    → gathered (x.0 ∷ []) x.1 found ≡ (((found >>= λ z. got (pair x z.0) z.1) >>= λ z. got (z.0.0 ∷ z.0.1) z.1) >>= λ all. got (pair (map (λ (y : Part). y.0) all.0) (highest all.0)) all.1)
first_gathered x None = refl
first_gathered x (Some all) = refl

pub expressions_begin : (read : Reader Part) (x : Part) (tokens rest : List Token) → read tokens ≡ Some (x, rest) → gathered (x.0 ∷ []) x.1 (all_of (next_by read) rest) ≡ expressions_by read tokens
unfolding expressions_by one_or_more many
expressions_begin read x tokens rest e =
    first_gathered x (all_of (next_by read) rest)
    ∙ sym (ap (λ (o : Option (Part × List Token)). ((o >>= λ y. all_of (next_by read) y.1 >>= λ z. got (pair y.0 z.0) z.1) >>= λ z. got (z.0.0 ∷ z.0.1) z.1) >>= λ all. got (pair (map (λ (y : Part). y.0) all.0) (highest all.0)) all.1) e)

-- the list that has one
pub expressions_start : (read : Reader Part) (x : Part) (xs : List Expr) (tokens rest : List Token) → read tokens ≡ Some (x, rest) → xs ≡ x.0 ∷ [] → gathered xs x.1 (all_of (next_by read) rest) ≡ expressions_by read tokens
expressions_start read x xs tokens rest e is = ap (λ (l : List Expr). gathered l x.1 (all_of (next_by read) rest)) is ∙ expressions_begin read x tokens rest e

pub no_expressions : (stop : Stop) (read : Reader Part) (tokens : List Token) → Stops stop (read tokens) → Stops stop (expressions_by read tokens)
unfolding expressions_by one_or_more many
no_expressions stop read tokens h =
    stops_whole stop (read tokens) (expressions_by read tokens)
    (λ e. ap (λ (o : Option (Part × List Token)). ((o >>= λ y. all_of (next_by read) y.1 >>= λ z. got (pair y.0 z.0) z.1) >>= λ z. got (z.0.0 ∷ z.0.1) z.1) >>= λ all. got (pair (map (λ (y : Part). y.0) all.0) (highest all.0)) all.1) e) h

-- ---- calls

pub no_primary : (stop : Stop) (room : ℕ) (inner : Reader Part) (tokens : List Token) → Stops stop (atom_by room inner tokens) → Stops stop (primary_by room inner tokens)
unfolding primary_by
no_primary stop room inner tokens h = stops_whole stop (atom_by room inner tokens) (primary_by room inner tokens) (λ e. ap (λ (o : Option (Part × List Token)). o >>= λ y. called room y.0 (all_of (next_arguments inner) y.1)) e) h

pub calls_begin : (room : ℕ) (inner : Reader Part) (x : Part) (tokens rest : List Token) → atom_by room inner tokens ≡ Some (x, rest) → called room x (all_of (next_arguments inner) rest) ≡ primary_by room inner tokens
unfolding primary_by
calls_begin room inner x tokens rest e = sym (ap (λ (o : Option (Part × List Token)). o >>= λ y. called room y.0 (all_of (next_arguments inner) y.1)) e)

calls_refused : (room : ℕ) (step : List Token → Option (Option Parts × List Token)) → Shrinks step → (x : Part) (rest : List Token) (total : Option (Part × List Token)) → step rest ≡ None → called room x (all_of step rest) ≡ total → total ≡ None
calls_refused room step s x rest total e so_far =
    let one : called room x (all_of step rest) ≡ None = rw (all_of-step step s rest, e) refl in
    sym so_far ∙ one

pub calls_fail : (stop : Stop) (room : ℕ) (step : List Token → Option (Option Parts × List Token)) → Shrinks step → (x : Part) (rest : List Token) (total : Option (Part × List Token)) → Stops stop (step rest) → called room x (all_of step rest) ≡ total → Stops stop total
calls_fail stop room step s x rest total h so_far = stops_whole stop (step rest) total (λ e. calls_refused room step s x rest total e so_far) h

no_call : (room : ℕ) (x : Part) (a : Parts) (others : Option (List Parts × List Token)) → call_of room x a ≡ None → called room x (others >>= λ more. Some (a ∷ more.0, more.1)) ≡ None
no_call room x a None h = refl
no_call room x a (Some all) h = ap (λ (o : Option Part). (o >>= λ call. calls_of room call all.0) >>= λ z. got z all.1) h

-- a call that cannot be made
pub call_fails : (stop : Stop) (room : ℕ) (step : List Token → Option (Option Parts × List Token)) → Shrinks step → (x : Part) (a : Parts) (rest after : List Token) (total : Option (Part × List Token)) → step rest ≡ Some (Some a, after) → Stops stop (call_of room x a)
    → called room x (all_of step rest) ≡ total → Stops stop total
call_fails stop room step s x a rest after total e h so_far = stops_whole stop (call_of room x a) total refuses h
  where
    refuses : call_of room x a ≡ None → total ≡ None
    refuses none =
        let one : called room x (all_of step rest) ≡ None = rw (all_of-step step s rest, e) (no_call room x a (all_of step after) none) in
        sym so_far ∙ one

pub calls_go_on : (room : ℕ) (step : List Token → Option (Option Parts × List Token)) → Shrinks step → (x y : Part) (a : Parts) (rest after : List Token) (total : Option (Part × List Token)) → step rest ≡ Some (Some a, after) → call_of room x a ≡ Some y
    → called room x (all_of step rest) ≡ total → called room y (all_of step after) ≡ total
calls_go_on room step s x y a rest after total e k so_far =
    let one : called room x (all_of step rest) ≡ called room y (all_of step after) = rw (all_of-step step s rest, e) (called_more room x y a (all_of step after) k) in
    sym one ∙ so_far

pub calls_are_done : (room : ℕ) (step : List Token → Option (Option Parts × List Token)) → Shrinks step → (x : Part) (rest after : List Token) (total : Option (Part × List Token)) → step rest ≡ Some (None, after) → called room x (all_of step rest) ≡ total → total ≡ Some (x, after)
calls_are_done room step s x rest after total e so_far =
    let one : called room x (all_of step rest) ≡ Some (x, after) = rw (all_of-step step s rest, e) refl in
    sym so_far ∙ one
