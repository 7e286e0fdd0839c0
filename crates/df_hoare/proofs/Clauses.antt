-- Clauses that are evaluated alike are met alike.
use Rattle.std.proofs.Common.{◌≡◌, Bool, true, false, if◌then◌else◌, List, [], ◌∷◌, refl, sym, ap, ◌∙◌}
use Rattle.df_base.specs.declared.pos.Pos.{Pos}
use Rattle.df_lang.specs.declared.ty.Ty.{Ty}
use Rattle.df_lang.specs.declared.ty.Ty.TheVariants as types
use Rattle.df_lang.specs.Stmt.{Clause}
use Rattle.df_lang.specs.Program.{Program}
use Rattle.df_lang.specs.Typing.{is_expr, are_clauses}
use Rattle.df_meaning.specs.declared.kind.Kind.{Kind}
use Rattle.df_meaning.specs.declared.kind.Kind.TheVariants as kinds
use Rattle.df_meaning.specs.Value.{Value, truth_of}
use Rattle.df_meaning.specs.Outcome.{Outcome, Gives, Wrong, TooDeep, NoChoice, Dismissed, after}
use Rattle.df_meaning.specs.State.{State}
use Rattle.df_meaning.specs.Meaning.{Meaning}
use Rattle.df_meaning.specs.Evaluation.{evaluate}
use Rattle.df_meaning.specs.Execution.{check_all}
use Rattle.df_meaning.specs.Whole.{check_call}
use Rattle.df_meaning.specs.Modular.{assume_all, plain_meaning}
use Rattle.df_meaning.proofs.Cases.{both}
use Rattle.df_meaning.proofs.Same.{SeesSame, evaluate_same}
use Rattle.df_meaning.proofs.Reading.{ReadsSame, evaluate_reads}

-- the clauses are true of the state
abbrev pub IsMet : Program → State → List Clause → Type 0
IsMet program s clauses = assume_all (plain_meaning program) s clauses ≡ Gives s

-- each condition has one outcome
abbrev pub AreAlike : Meaning → Meaning → State → State → List Clause → Type 0
AreAlike m n s t [] = Unit {0}
AreAlike m n s t (clause ∷ others) = (evaluate m s clause.condition ≡ evaluate n t clause.condition) × AreAlike m n s t others

pub seen_alike : (m n : Meaning) (s t : State) → SeesSame m n s t → (clauses : List Clause) → AreAlike m n s t clauses
seen_alike m n s t h [] = tt
seen_alike m n s t h (clause ∷ others) = (evaluate_same m n s t h clause.condition, seen_alike m n s t h others)

pub read_alike : (locals : List Ty) (m n : Meaning) (s t : State) → ReadsSame locals m n s t → (clauses : List Clause) → are_clauses m.program locals clauses ≡ true → AreAlike m n s t clauses
read_alike locals m n s t h [] are = tt
read_alike locals m n s t h (clause ∷ others) are =
    let are = both (is_expr m.program locals types.Bool clause.condition) (are_clauses m.program locals others) are in
    (evaluate_reads locals m n s t h clause.condition types.Bool are.0, read_alike locals m n s t h others are.1)

-- a test that is made before something is given comes out true
tested : {P : Type 0} → (o : Outcome Value) (yes_ : Outcome State) (no_ : Outcome State) (u : State) → ((v : Value) → o ≡ Gives v → truth_of v ≡ true → yes_ ≡ Gives u → P) → (no_ ≡ Gives u → P)
    → after o (λ v. if truth_of v then yes_ else no_) ≡ Gives u → P
tested {P} (Gives v) yes_ no_ u good bad e = by_truth (truth_of v) refl e
  where
    by_truth : (b : Bool) → truth_of v ≡ b → (if b then yes_ else no_) ≡ Gives u → P
    by_truth true is f = good v refl is f
    by_truth false is f = bad f
tested (Wrong at kind) yes_ no_ u good bad e = absurd (let f : Wrong at kind ≡ Gives u = e in cc)
tested TooDeep yes_ no_ u good bad e = absurd (let f : TooDeep ≡ Gives u = e in cc)
tested NoChoice yes_ no_ u good bad e = absurd (let f : NoChoice ≡ Gives u = e in cc)
tested Dismissed yes_ no_ u good bad e = absurd (let f : Dismissed ≡ Gives u = e in cc)

-- and the same test goes on
goes_through : (o p : Outcome Value) (yes_ no_ : Outcome State) (v : Value) (t : State) → o ≡ p → o ≡ Gives v → truth_of v ≡ true → yes_ ≡ Gives t → after p (λ w. if truth_of w then yes_ else no_) ≡ Gives t
goes_through o p yes_ no_ v t e f is g =
    let there : p ≡ Gives v = sym e ∙ f in
    ap (λ x. after x (λ w. if truth_of w then yes_ else no_)) there ∙ ap (λ b. if b then yes_ else no_) is ∙ g

pub met_by_check : (m n : Meaning) (s t u : State) (kind : Kind) (clauses : List Clause) → AreAlike m n s t clauses → check_all m s kind clauses ≡ Gives u → assume_all n t clauses ≡ Gives t
met_by_check m n s t u kind [] alike e = refl
met_by_check m n s t u kind (clause ∷ others) alike e =
    tested (evaluate m s clause.condition) (check_all m s kind others) (Wrong clause.pos kind) u
    (λ v f is g. goes_through (evaluate m s clause.condition) (evaluate n t clause.condition) (assume_all n t others) Dismissed v t alike.0 f is (met_by_check m n s t u kind others alike.1 g))
    (λ f. absurd (let g : Wrong clause.pos kind ≡ Gives u = f in cc)) e

pub met_by_call : (m n : Meaning) (s t u : State) (at : Pos) (clauses : List Clause) → AreAlike m n s t clauses → check_call m s at clauses ≡ Gives u → assume_all n t clauses ≡ Gives t
met_by_call m n s t u at [] alike e = refl
met_by_call m n s t u at (clause ∷ others) alike e =
    tested (evaluate m s clause.condition) (check_call m s at others) (Wrong at kinds.Requires) u
    (λ v f is g. goes_through (evaluate m s clause.condition) (evaluate n t clause.condition) (assume_all n t others) Dismissed v t alike.0 f is (met_by_call m n s t u at others alike.1 g))
    (λ f. absurd (let g : Wrong at kinds.Requires ≡ Gives u = f in cc)) e

pub call_by_met : (m n : Meaning) (s t u : State) (at : Pos) (clauses : List Clause) → AreAlike m n s t clauses → assume_all m s clauses ≡ Gives u → check_call n t at clauses ≡ Gives t
call_by_met m n s t u at [] alike e = refl
call_by_met m n s t u at (clause ∷ others) alike e =
    tested (evaluate m s clause.condition) (assume_all m s others) Dismissed u
    (λ v f is g. goes_through (evaluate m s clause.condition) (evaluate n t clause.condition) (check_call n t at others) (Wrong at kinds.Requires) v t alike.0 f is (call_by_met m n s t u at others alike.1 g))
    (λ f. absurd (let g : Dismissed ≡ Gives u = f in cc)) e

pub met_by_met : (m n : Meaning) (s t u : State) (clauses : List Clause) → AreAlike m n s t clauses → assume_all m s clauses ≡ Gives u → assume_all n t clauses ≡ Gives t
met_by_met m n s t u [] alike e = refl
met_by_met m n s t u (clause ∷ others) alike e =
    tested (evaluate m s clause.condition) (assume_all m s others) Dismissed u
    (λ v f is g. goes_through (evaluate m s clause.condition) (evaluate n t clause.condition) (assume_all n t others) Dismissed v t alike.0 f is (met_by_met m n s t u others alike.1 g))
    (λ f. absurd (let g : Dismissed ≡ Gives u = f in cc)) e
