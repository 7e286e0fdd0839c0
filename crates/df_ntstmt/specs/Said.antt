-- The code's clauses, without where they lie in memory.
use Rattle.std.specs.Prelude.{map, option_map}
use Rattle.df_lang.specs.StmtView.{clause_of, measure_of}
use Rattle.df_ntstmt.specs.declared.clauses.Clauses as declared_clauses
use Rattle.df_ntstmt.specs.declared.clauses.Said.{Said}
use Rattle.df_ntstmt.specs.declared.clauses.Said.TheVariants as said
use Rattle.df_ntstmt.specs.mirror.Clauses.{Clauses, a_condition, a_measure}

abbrev pub clauses_of : declared_clauses.Clauses → Clauses
clauses_of all = record {
  preconditions = map clause_of all.preconditions.items;
  postconditions = map clause_of all.postconditions.items;
  invariants = map clause_of all.invariants.items;
  decreases = option_map (λ measures. map measure_of measures.items) all.decreases;
}

-- what one clause says
abbrev pub said_of : Said → Clauses
said_of (said.Condition kind clause) = a_condition kind (clause_of clause)
said_of (said.Measures measures) = a_measure (map measure_of measures.items)
