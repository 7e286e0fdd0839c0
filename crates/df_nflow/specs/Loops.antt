-- What is said before the body of a loop, and where its ways come together behind it.
use Rattle.std.specs.Prelude.{ℕ, Bool, true, false, List, [], ◌∷◌, ◌++◌, take, drop, Some}
use Rattle.df_lang.specs.Expr.{Expr}
use Rattle.df_lang.specs.Stmt.{Clause, Measure}
use Rattle.df_meaning.specs.declared.kind.Kind.TheVariants as kinds
use Rattle.df_meaning.specs.Modular.{Changed}
use Rattle.df_nterm.specs.Term.{Term, negation}
use Rattle.df_nterm.specs.Expressions.{term_of}
use Rattle.df_npass.specs.Rules.{Said, Way, Moved, Joined, narrowed, narrowed_path, havoc, paths_of, any_path, join}
use Rattle.df_npass.specs.Statements.{at_clause, assert_clauses, assume_clauses, assert_expr, assert_measure}
use Rattle.df_nflow.specs.Ways.{back}
use Rattle.df_nflow.specs.Standing.{Standing}

-- the invariants are owed, and known of any values
abbrev pub any_turn : List Changed → List Clause → Way → ℕ → Moved
any_turn changed invariants way fresh =
    let any = havoc changed fresh way in
    record { said = assert_clauses at_clause kinds.Entry way invariants ++ (any.said ++ assume_clauses any.way invariants); fresh = any.fresh; way = any.way }

-- up to the measure, where the guard is true
abbrev pub loop_head : List Changed → Expr → List Clause → List Measure → Way → ℕ → Moved
loop_head changed guard invariants measures way fresh =
    let any = havoc changed fresh way in
    let inside = narrowed any.way (term_of any.way.env guard) in
    record {
      said = assert_clauses at_clause kinds.Entry way invariants ++ (any.said ++ (assume_clauses any.way invariants ++ (assert_expr any.way guard ++ assert_measure inside measures)));
      fresh = any.fresh;
      way = inside;
    }

-- the formula of the runs that pass the loop by
abbrev pub loop_past : List Changed → Expr → Way → ℕ → Term
loop_past changed guard way fresh = let any = havoc changed fresh way in narrowed_path any.way.path (negation (term_of any.way.env guard))

-- what is said behind the body, where a run goes on there
abbrev pub turned_if : Bool → (Way → List Said) → Way → List Said
turned_if true said way = said way
turned_if false said way = []

-- behind the body: the locals have the terms again that they had when the trail was so long, on the way past the loop
abbrev pub past_loop : ℕ → ℕ → Term → Standing → Standing
past_loop mark first past s = record {
  types = s.types;
  entry = s.entry;
  said = s.said;
  fresh = s.fresh;
  way = record { env = back (drop mark s.trail) s.way.env; path = Some past };
  trail = take mark s.trail;
  breaks = take first s.breaks;
  returns = s.returns;
}

-- the way past the loop, and those of its breaks, come together
abbrev pub join_past : List Changed → Standing → List Way → Joined
join_past changed s ways = join (any_path (paths_of (s.way ∷ ways))) s.way.env changed (s.way ∷ ways) s.fresh
