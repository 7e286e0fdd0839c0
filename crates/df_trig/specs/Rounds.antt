-- What a round answers.
use Rattle.std.specs.Prelude.{◌≡◌, ℕ, ◌+◌, ◌<◌, ◌≤◌, ◌==◌, Option, None, Some, Result, Ok, Err, if◌then◌else◌}
use Rattle.std.specs.declared.alloc.AllocError.{AllocError}
use Rattle.df_form.specs.Sequent.{Sequent}
use Rattle.df_form.specs.Log.{Step}
use Rattle.df_axiom.specs.declared.table.TheConstants.{PRODUCTS_COMPARE}
use Rattle.df_axiom.specs.Template.{Template, entry}
use Rattle.df_clause.specs.declared.ground.Ground.{Ground}
use Rattle.df_clause.specs.Counting.{instance_count}
use Rattle.df_clause.specs.GroundSet.{GroundSet, with_line, IsFrontOf}
use Rattle.df_trig.specs.declared.fault.TrigFault.{TrigFault}
use Rattle.df_trig.specs.declared.fault.TrigFault.TheVariants.{Many, Memory}
use Rattle.df_trig.specs.declared.pattern.Named.{Named}
use Rattle.df_trig.specs.declared.pattern.Named.TheVariants as named
use Rattle.df_trig.specs.Instances.{instance_limit, with_round, IsInstances, AreTooMany}

-- the template of two products, which are compared
abbrev pub of_products : Template
of_products = (entry PRODUCTS_COMPARE).template

-- what an instance names, by the schema and how many terms it names
abbrev pub named_by : ℕ → ℕ → Named
named_by schema terms = if terms == 1 then named.One else (if schema == PRODUCTS_COMPARE.schema then named.Products else named.Two)

-- the terms that an instance of a template names: one or two
abbrev pub Names : Named → Option Template → Type 0
Names named.Nothing found = found ≡ None
Names named.One found = (t : Template) × (found ≡ Some t) × (t.terms ≡ 1)
Names named.Two found = (t : Template) × (found ≡ Some t) × (t.terms ≡ 2)
Names named.Products found = found ≡ Some of_products

-- with the clause of a line, or as before
abbrev pub Adds : Sequent → Step → GroundSet → GroundSet → Result (Unit {0}) AllocError → Type 0
Adds s line old new (Ok done) = new ≡ with_line s old line
Adds s line old new (Err e) = new ≡ old

-- fewer than the limit
abbrev pub AreFew : GroundSet → Type 0
AreFew set = instance_count set.clauses < instance_limit

-- it begins with the old set, and the whole one goes on from it
pub record LiesBetween (old whole set : GroundSet) : Type 0 where
  pub begins : IsFrontOf old set
  pub goes_on : IsFrontOf set whole

-- From the old set it comes to the whole one; or after a fault to first parts of it, which are as many as the limit where there
-- are too many.
abbrev pub Reaches : {A : Type 0} → GroundSet → GroundSet → GroundSet → Result A TrigFault → Type 0
Reaches old whole new (Ok a) = (new ≡ whole) × AreFew new
Reaches old whole new (Err (Many count)) = LiesBetween old whole new × (count ≡ instance_limit) × (instance_count new.clauses ≡ instance_limit)
Reaches old whole new (Err Memory) = LiesBetween old whole new

-- how many instances are new
abbrev pub CountsNew : GroundSet → GroundSet → Result ℕ TrigFault → Type 0
CountsNew old new (Ok count) = instance_count new.clauses ≡ instance_count old.clauses + count
CountsNew old new (Err fault) = Unit {0}

-- A round of a sequent, which takes nothing away. Where there are as many instances as the limit to begin with, nothing is added.
pub record Rounds (s : Sequent) (old new : GroundSet) (result : Result ℕ TrigFault) : Type 0 where
  pub kept : IsFrontOf old new
  pub few : AreFew old → Reaches old (with_round s old) new result
  pub full : instance_limit ≤ instance_count old.clauses → (result ≡ Err (Many instance_limit)) × (new ≡ old)
  pub counted : CountsNew old new result

-- the number of instances is below the limit, or is told
abbrev pub TellsFew : GroundSet → Result (Unit {0}) TrigFault → Type 0
TellsFew set (Ok done) = AreFew set
TellsFew set (Err (Many count)) = (count ≡ instance_limit) × (instance_limit ≤ instance_count set.clauses)
TellsFew set (Err Memory) = ⊥

-- the ground set with so many rounds, or that there are too many instances
abbrev pub Instantiates : Sequent → ℕ → Result Ground TrigFault → Type 0
Instantiates s rounds (Ok g) = IsInstances s rounds g
Instantiates s rounds (Err (Many count)) = (count ≡ instance_limit) × AreTooMany s rounds
Instantiates s rounds (Err Memory) = Unit {0}
