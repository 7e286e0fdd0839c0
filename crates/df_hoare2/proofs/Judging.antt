-- Whether conditions are all true, up to the first that is false.
use Rattle.std.proofs.Common.{◌≡◌, Bool, true, false, if◌then◌else◌, List, [], ◌∷◌, map, refl, ap}
use Rattle.df_base.specs.declared.pos.Pos.{Pos}
use Rattle.df_types.specs.declared.kind.Kind.{Kind}
use Rattle.df_types.specs.Expr.{Expr}
use Rattle.df_types.specs.Stmt.{Demand}
use Rattle.df_meaning2.specs.Value.{Value, truth_of}
use Rattle.df_meaning2.specs.Outcome.{Outcome, Gives, Wrong, TooDeep, NoChoice, Dismissed, after}
use Rattle.df_meaning2.specs.State.{State}
use Rattle.df_meaning2.specs.Meaning.{Meaning, evaluate, check_all, as_kind, asked_at, assume_all}
use Rattle.df_meaning2.specs.Execution.{conditions}
use Rattle.df_meaning2.specs.Modular.{Itself, resulting, resulting_demand}
use Rattle.df_hoare2.proofs.Depths.{IsWrong}

abbrev pub judge : Meaning → State → List Expr → Outcome Bool
judge m s [] = Gives true
judge m s (e ∷ es) = after (evaluate m s e) (λ v. if truth_of v then judge m s es else Gives false)

module _ (m : Meaning) (s : State) where
  -- ---- checked

  check_true_by : (d : Demand) (ds : List Demand) (o : Outcome Value) → after o (λ v. if truth_of v then judge m s (conditions ds) else Gives false) ≡ Gives true → (judge m s (conditions ds) ≡ Gives true → check_all m s ds ≡ Gives s)
      → after (after o (λ v. if truth_of v then Gives s else Wrong d.pos d.kind)) (λ t. check_all m t ds) ≡ Gives s
  check_true_by d ds (Gives v) h rest = by_test (truth_of v) h
    where
      by_test : (b : Bool) → (if b then judge m s (conditions ds) else Gives false) ≡ Gives true → after (if b then Gives s else Wrong d.pos d.kind) (λ t. check_all m t ds) ≡ Gives s
      by_test true h = rest h
      by_test false h = cc
  check_true_by d ds (Wrong at kind) h rest = cc
  check_true_by d ds TooDeep h rest = cc
  check_true_by d ds NoChoice h rest = cc
  check_true_by d ds Dismissed h rest = cc

  pub check_true : (ds : List Demand) → judge m s (conditions ds) ≡ Gives true → check_all m s ds ≡ Gives s
  check_true [] h = refl
  check_true (d ∷ ds) h = check_true_by d ds (evaluate m s d.condition) h (check_true ds)

  check_false_by : (d : Demand) (ds : List Demand) (o : Outcome Value) → after o (λ v. if truth_of v then judge m s (conditions ds) else Gives false) ≡ Gives false → (judge m s (conditions ds) ≡ Gives false → IsWrong (check_all m s ds))
      → IsWrong (after (after o (λ v. if truth_of v then Gives s else Wrong d.pos d.kind)) (λ t. check_all m t ds))
  check_false_by d ds (Gives v) h rest = by_test (truth_of v) h
    where
      by_test : (b : Bool) → (if b then judge m s (conditions ds) else Gives false) ≡ Gives false → IsWrong (after (if b then Gives s else Wrong d.pos d.kind) (λ t. check_all m t ds))
      by_test true h = rest h
      by_test false h = tt
  check_false_by d ds (Wrong at kind) h rest = tt
  check_false_by d ds TooDeep h rest = cc
  check_false_by d ds NoChoice h rest = cc
  check_false_by d ds Dismissed h rest = cc

  pub check_false : (ds : List Demand) → judge m s (conditions ds) ≡ Gives false → IsWrong (check_all m s ds)
  check_false [] h = cc
  check_false (d ∷ ds) h = check_false_by d ds (evaluate m s d.condition) h (check_false ds)

  check_wrong_by : (d : Demand) (ds : List Demand) (o : Outcome Value) → IsWrong (after o (λ v. if truth_of v then judge m s (conditions ds) else Gives false)) → (IsWrong (judge m s (conditions ds)) → IsWrong (check_all m s ds))
      → IsWrong (after (after o (λ v. if truth_of v then Gives s else Wrong d.pos d.kind)) (λ t. check_all m t ds))
  check_wrong_by d ds (Gives v) h rest = by_test (truth_of v) h
    where
      by_test : (b : Bool) → IsWrong (if b then judge m s (conditions ds) else Gives false) → IsWrong (after (if b then Gives s else Wrong d.pos d.kind) (λ t. check_all m t ds))
      by_test true h = rest h
      by_test false h = tt
  check_wrong_by d ds (Wrong at kind) h rest = tt
  check_wrong_by d ds TooDeep h rest = absurd h
  check_wrong_by d ds NoChoice h rest = absurd h
  check_wrong_by d ds Dismissed h rest = absurd h

  pub check_wrong : (ds : List Demand) → IsWrong (judge m s (conditions ds)) → IsWrong (check_all m s ds)
  check_wrong [] h = absurd h
  check_wrong (d ∷ ds) h = check_wrong_by d ds (evaluate m s d.condition) h (check_wrong ds)

  -- ---- assumed

  assume_true_by : (es : List Expr) (o : Outcome Value) → after o (λ v. if truth_of v then judge m s es else Gives false) ≡ Gives true → (judge m s es ≡ Gives true → assume_all m s es ≡ Gives s)
      → after o (λ v. if truth_of v then assume_all m s es else Dismissed) ≡ Gives s
  assume_true_by es (Gives v) h rest = by_test (truth_of v) h
    where
      by_test : (b : Bool) → (if b then judge m s es else Gives false) ≡ Gives true → (if b then assume_all m s es else Dismissed) ≡ Gives s
      by_test true h = rest h
      by_test false h = cc
  assume_true_by es (Wrong at kind) h rest = cc
  assume_true_by es TooDeep h rest = cc
  assume_true_by es NoChoice h rest = cc
  assume_true_by es Dismissed h rest = cc

  pub assume_true : (es : List Expr) → judge m s es ≡ Gives true → assume_all m s es ≡ Gives s
  assume_true [] h = refl
  assume_true (e ∷ es) h = assume_true_by es (evaluate m s e) h (assume_true es)

  assume_wrong_by : (es : List Expr) (o : Outcome Value) → IsWrong (after o (λ v. if truth_of v then judge m s es else Gives false)) → (IsWrong (judge m s es) → IsWrong (assume_all m s es))
      → IsWrong (after o (λ v. if truth_of v then assume_all m s es else Dismissed))
  assume_wrong_by es (Gives v) h rest = by_test (truth_of v) h
    where
      by_test : (b : Bool) → IsWrong (if b then judge m s es else Gives false) → IsWrong (if b then assume_all m s es else Dismissed)
      by_test true h = rest h
      by_test false h = absurd h
  assume_wrong_by es (Wrong at kind) h rest = tt
  assume_wrong_by es TooDeep h rest = absurd h
  assume_wrong_by es NoChoice h rest = absurd h
  assume_wrong_by es Dismissed h rest = absurd h

  pub assume_wrong : (es : List Expr) → IsWrong (judge m s es) → IsWrong (assume_all m s es)
  assume_wrong [] h = absurd h
  assume_wrong (e ∷ es) h = assume_wrong_by es (evaluate m s e) h (assume_wrong es)

  judged_by : (es : List Expr) (o : Outcome Value) → after o (λ v. if truth_of v then assume_all m s es else Dismissed) ≡ Gives s → (assume_all m s es ≡ Gives s → judge m s es ≡ Gives true)
      → after o (λ v. if truth_of v then judge m s es else Gives false) ≡ Gives true
  judged_by es (Gives v) h rest = by_test (truth_of v) h
    where
      by_test : (b : Bool) → (if b then assume_all m s es else Dismissed) ≡ Gives s → (if b then judge m s es else Gives false) ≡ Gives true
      by_test true h = rest h
      by_test false h = cc
  judged_by es (Wrong at kind) h rest = cc
  judged_by es TooDeep h rest = cc
  judged_by es NoChoice h rest = cc
  judged_by es Dismissed h rest = cc

  -- what is assumed and goes on is true
  pub judged : (es : List Expr) → assume_all m s es ≡ Gives s → judge m s es ≡ Gives true
  judged [] h = refl
  judged (e ∷ es) h = judged_by es (evaluate m s e) h (judged es)

-- ---- demands of other kinds

pub asked_conditions : (at : Pos) (kind : Kind) (ds : List Demand) → conditions (map (asked_at at kind) ds) ≡ conditions ds
asked_conditions at kind [] = refl
asked_conditions at kind (d ∷ ds) = ap (λ es. d.condition ∷ es) (asked_conditions at kind ds)

pub kind_conditions : (kind : Kind) (ds : List Demand) → conditions (map (as_kind kind) ds) ≡ conditions ds
kind_conditions kind [] = refl
kind_conditions kind (d ∷ ds) = ap (λ es. d.condition ∷ es) (kind_conditions kind ds)

pub resulting_conditions : (it : Itself) (ds : List Demand) → conditions (map (resulting_demand it) ds) ≡ map (resulting it) (conditions ds)
resulting_conditions it [] = refl
resulting_conditions it (d ∷ ds) = ap (λ es. resulting it d.condition ∷ es) (resulting_conditions it ds)
