-- Lists of literals that are closed under unit propagation.
use Rattle.std.specs.Prelude.{◌≡◌, ℕ, Bool, true, ◌||◌, List, [], ◌∷◌, ◌++◌, slice_get, Option, None, Some}
use Rattle.df_form.specs.declared.log.Lit.{Lit}
use Rattle.df_form.specs.Clause.{yes, no, is_among}
use Rattle.df_rules.specs.Propagation.{left, only, is_empty}
pub use Rattle.df_clause.specs.GroundClause.{GroundClause, ground_of}

-- A bound clause counts beside literals among which its equality or the negation is.
abbrev pub counts_for : List Lit → Option ℕ → Bool
counts_for known None = true
counts_for known (Some node) = is_among known (yes node) || is_among known (no node)

-- beside known literals the clause of this number has one literal left whose others are false
pub record Teaches (clauses : List GroundClause) (known : List Lit) (number : ℕ) (literal : Lit) : Type 0 where
  pub clause : GroundClause
  pub there : slice_get clauses number ≡ Some clause
  pub counts : counts_for known clause.bound ≡ true
  pub left : only (left known clause.literals) ≡ Some literal

-- beside known literals all literals of the clause of this number are false
pub record Refutes (clauses : List GroundClause) (known : List Lit) (number : ℕ) : Type 0 where
  pub clause : GroundClause
  pub there : slice_get clauses number ≡ Some clause
  pub counts : counts_for known clause.bound ≡ true
  pub left : is_empty (left known clause.literals) ≡ true

-- the literals so far, after further ones: the last one stands first
abbrev pub after : List Lit → List Lit → List Lit
after known [] = known
after known (literal ∷ literals) = after (literal ∷ known) literals

-- one after another, the clauses of these numbers teach these literals
pub data Taught (clauses : List GroundClause) : List Lit → List ℕ → List Lit → Type 0 where
  nothing : {known : List Lit} → Taught clauses known [] []
  more : {known : List Lit} {number : ℕ} {numbers : List ℕ} {literal : Lit} {literals : List Lit}
      → Teaches clauses known number literal → Taught clauses (literal ∷ known) numbers literals → Taught clauses known (number ∷ numbers) (literal ∷ literals)

-- The closed list of a list: what clauses teach is added again and again, until nothing new comes; no clause
-- is false beside it.
pub record IsClosed (clauses : List GroundClause) (list : List Lit) (reasons : List ℕ) (learned : List Lit) : Type 0 where
  pub taught : Taught clauses list reasons learned
  pub settled : (number : ℕ) (literal : Lit) → Teaches clauses (after list learned) number literal → is_among (after list learned) literal ≡ true
  pub stands : (number : ℕ) → Refutes clauses (after list learned) number → ⊥

-- what clauses teach beside the list makes the last of these clauses false
pub record IsRefuted (clauses : List GroundClause) (list : List Lit) (numbers : List ℕ) : Type 0 where
  pub reasons : List ℕ
  pub last : ℕ
  pub numbers_are : numbers ≡ reasons ++ last ∷ []
  pub learned : List Lit
  pub taught : Taught clauses list reasons learned
  pub refutes : Refutes clauses (after list learned) last
