-- Where a method begins, and what is said at its end.
use Rattle.std.specs.Prelude.{◌≡◌, true, List, [], ◌++◌, Option, None}
use Rattle.std.specs.Option.{option_map_or}
use Rattle.df_lang.specs.Stmt.{Clause}
use Rattle.df_lang.specs.Measures.{method_measure}
use Rattle.df_lang.specs.Program.{Method, Program}
use Rattle.df_lang.specs.Typing.{is_method}
use Rattle.df_meaning.specs.Modular.{Changed}
use Rattle.df_meaning.specs.declared.kind.Kind.TheVariants as kinds
use Rattle.df_nterm.specs.Expressions.{Environment}
use Rattle.df_nterm.specs.Measuring.{measured}
use Rattle.df_npass.specs.Rules.{Said, Way, over, paths_of, any_path, join}
use Rattle.df_npass.specs.Statements.{Flow, ways_of, at_clause, assert_clauses, any_values, assert_measure}
use Rattle.df_npass.specs.Methods.{locals_of, way_in, require_all}
use Rattle.df_nflow.specs.Ways.{Arrival, back}
use Rattle.df_nflow.specs.Standing.{Standing}

-- a well-typed method of some program
pub record IsTypedMethod (method : Method) : Type 0 where
  pub program : Program
  pub typed : is_method program method ≡ true

-- before the body
abbrev pub begun : Method → Standing
begun method = record {
  types = locals_of method;
  entry = measured (way_in method).env (method_measure method);
  said = ((any_values None method.parameters 0).said ++ require_all (way_in method) method.preconditions) ++ assert_measure (way_in method) (method_measure method);
  fresh = (any_values None method.parameters 0).fresh;
  way = way_in method;
  trail = [];
  breaks = [];
  returns = [];
}

-- these ways too lead out of the method
abbrev pub also_returns : List Arrival → Standing → Standing
also_returns ways s = record { types = s.types; entry = s.entry; said = s.said; fresh = s.fresh; way = s.way; trail = s.trail; breaks = s.breaks; returns = s.returns ++ ways }

-- the locals have again the terms that they had at the beginning, and no way waits to lead out
abbrev pub at_end : Standing → Standing
at_end s = record { types = s.types; entry = s.entry; said = s.said; fresh = s.fresh; way = over (back s.trail s.way.env) s.way; trail = []; breaks = s.breaks; returns = [] }

-- what is owed where a run comes to the end
abbrev pub owed_at : List Clause → Option Way → List Said
owed_at clauses way = option_map_or (λ w. assert_clauses at_clause kinds.Ensures w clauses) way []

-- at the end of the body and at each `return`, over the terms that the locals had at the beginning
abbrev pub ended_over : Environment → List Changed → List Clause → Flow → List Said
ended_over env exits clauses flow =
    let ways = flow.returns ++ ways_of flow.way in
    let joined = join (any_path (paths_of ways)) env exits ways flow.fresh in
    joined.said ++ owed_at clauses joined.way
