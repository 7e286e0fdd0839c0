-- The code's rules, as the definitions have them.
use Rattle.df_ntyping.specs.Rule as rules
use Rattle.df_ntyping.specs.Rule.{TypingRule}
use Rattle.df_ntyping.specs.Node as owners
use Rattle.df_ntstmt.specs.declared.broken.Rule.{Rule}
use Rattle.df_ntstmt.specs.declared.broken.Rule.TheVariants as own
use Rattle.df_ntstmt.specs.declared.clauses.Owner.{Owner}
use Rattle.df_ntstmt.specs.declared.clauses.Owner.TheVariants as own_owners

abbrev pub typing_rule : Rule → TypingRule
typing_rule own.Given = rules.Given
typing_rule own.ArgumentCount = rules.ArgumentCount
typing_rule own.Calls = rules.Calls
typing_rule own.Assigned = rules.Assigned
typing_rule own.Returned = rules.Returned
typing_rule own.Broken = rules.Broken
typing_rule own.Clauses = rules.Clauses

abbrev pub owner_of : Owner → owners.Owner
owner_of own_owners.Method = owners.OfMethod
owner_of own_owners.Loop = owners.OfLoop
