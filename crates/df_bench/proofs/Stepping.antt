-- A program of one method of such statements is bounded, and counted.
use Rattle.std.proofs.Common.{◌≡◌, ℤ, true, List, [], ◌∷◌, map, refl}
use Rattle.df_nplain.specs.declared.kind.Range.TheVariants as ranges
use Rattle.df_nplain.specs.declared.kind.Kind.TheVariants as kinds
use Rattle.df_nplain.specs.declared.stmt.Stmt as declared
use Rattle.df_nplain.specs.declared.plain.Method as declared_method
use Rattle.df_nplain.specs.StmtView.{stmt_of, stmts_of}
use Rattle.df_nplain.specs.MethodView.{plain_with}
use Rattle.df_nplain.specs.Plain.{Plain}
use Rattle.df_nplain.specs.Bounded.{are_bounded_stmts, is_bounded_program}
use Rattle.df_nplain.specs.Counts.{are_stmts, has_counts}
use Rattle.df_lang.specs.declared.interval.Interval as declared_interval
use Rattle.df_bench.specs.Steps.{AreSteps}

steps_bounded : (low high : ℤ) (stmts : List declared.Stmt) → AreSteps low high stmts → are_bounded_stmts (stmts_of (map stmt_of stmts)) ≡ true
steps_bounded low high [] all = refl
steps_bounded low high (s ∷ stmts) all = rw (all.0) (steps_bounded low high stmts all.1)

steps_counted : (program : Plain) (low high : ℤ) (stmts : List declared.Stmt) → AreSteps low high stmts → are_stmts program (stmts_of (map stmt_of stmts)) ≡ true
steps_counted program low high [] all = refl
steps_counted program low high (s ∷ stmts) all = rw (all.0) (steps_counted program low high stmts all.1)

pub program_bounded : (bits : declared_interval.Interval) (methods : List declared_method.Method) (m : declared_method.Method)
    → methods ≡ m ∷ [] → m.parameters.items ≡ kinds.Number (ranges.Between bits) ∷ [] → m.results.items ≡ [] → AreSteps bits.low bits.high m.body.items → is_bounded_program (plain_with methods) ≡ true
program_bounded bits methods m one parameters results all = rw (one, parameters, results, steps_bounded bits.low bits.high m.body.items all) refl

pub program_counted : (bits : declared_interval.Interval) (methods : List declared_method.Method) (m : declared_method.Method) → methods ≡ m ∷ [] → AreSteps bits.low bits.high m.body.items → has_counts (plain_with methods) ≡ true
program_counted bits methods m one all = rw (one, steps_counted (plain_with (m ∷ [])) bits.low bits.high m.body.items all) refl
