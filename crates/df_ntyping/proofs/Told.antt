-- What a file is told to break, by computation: the definitions are tried on small files.
use Rattle.std.proofs.Common.{ℕ, List, [], ◌∷◌, Option, None, Some}
use Rattle.std.specs.Prelude.{if◌then◌else◌}
use Rattle.std.specs.List.{flat_map}
use Rattle.df_base.specs.declared.pos.Pos.{Pos}
use Rattle.df_ntree.specs.declared.tree.Ident.{Ident}
use Rattle.df_ntree.specs.File.{File}
use Rattle.df_ntyping.specs.Rule.{Rule, Unknown, Twice, Typing, Uninferred, Range, Given, Arithmetic, Order, Equality, Direction, Truths, ArgumentCount, Calls, Casts, Assigned, Returned, Broken, Clauses, code_number, rule_number}
use Rattle.df_ntyping.specs.Node.{Occurrence, node_pos}
use Rattle.df_ntyping.specs.Breaks.{breaks}
use Rattle.df_ntyping.specs.Least.{Fault, comes_before}
use Rattle.df_ntyping.specs.FileNodes.{file_nodes}

abbrev pub at : ℕ → ℕ → Pos
at line col = record { line = line; col = col }

abbrev pub ident : ℕ → ℕ → ℕ → Ident
ident name line col = record { name = name; pos = at line col }

abbrev pub rules : List Rule
rules = Unknown ∷ Twice ∷ Typing Given ∷ Typing Arithmetic ∷ Typing Order ∷ Typing Equality ∷ Typing Direction ∷ Typing Truths ∷ Typing ArgumentCount ∷ Typing Calls
    ∷ Typing Casts ∷ Typing Assigned ∷ Typing Returned ∷ Typing Broken ∷ Typing Clauses ∷ Uninferred ∷ Range ∷ []

abbrev pub faults_at : Occurrence → List Rule → List Fault
faults_at one [] = []
faults_at one (rule ∷ others) = if breaks one.env one.node rule then record { at = one; rule = rule } ∷ faults_at one others else faults_at one others

abbrev pub earlier : Fault → Option Fault → Fault
earlier one None = one
earlier one (Some other) = if comes_before other one then other else one

abbrev pub least : List Fault → Option Fault
least [] = None
least (one ∷ others) = Some (earlier one (least others))

abbrev pub shown : Option Fault → Option (ℕ × ℕ × Option Pos)
shown None = None
shown (Some fault) = Some (code_number fault.rule, rule_number fault.rule, node_pos fault.at.node)

-- the code, the number of the rule, and where it is told
abbrev pub told : File → Option (ℕ × ℕ × Option Pos)
told file = shown (least (flat_map (λ (one : Occurrence). faults_at one rules) (file_nodes file)))
