-- A file whose names have meanings, and are declared once in a scope, breaks no rule of names; and the other way round.
use Rattle.std.proofs.Common.{◌≡◌, ℕ, Bool, true, false, Contains, refl, arith}
use Rattle.df_ntree.specs.File.{File}
use Rattle.df_ntyping.specs.Environment.{Environment}
use Rattle.df_ntyping.specs.Node.{Node, Occurrence}
use Rattle.df_ntyping.specs.Rule.{Rule, Unknown, Twice, Typing, Uninferred, Range, stage_of}
use Rattle.df_ntyping.specs.Breaks.{breaks}
use Rattle.df_ntyping.specs.Least.{Fault, IsFault}
use Rattle.df_ntyping.specs.FileNodes.{file_nodes}
use Rattle.df_ntyping.specs.FileElaboration.{HasNames}
use Rattle.df_ntyping.specs.rules.Names.{breaks_unknown, breaks_twice}

true_and_false : (b : Bool) → b ≡ true → b ≡ false → ⊥
true_and_false true p q = cc
true_and_false false p q = cc

false_if_not : (b : Bool) → (b ≡ true → ⊥) → b ≡ false
false_if_not true h = absurd (h refl)
false_if_not false h = refl

-- rules of names are the first stage
no_name_broken : (env : Environment) (node : Node) (rule : Rule) → breaks_unknown env node ≡ false → breaks_twice env node ≡ false
    → breaks env node rule ≡ true → stage_of rule ≡ 0 → ⊥
no_name_broken env node Unknown known once broken stage = true_and_false (breaks_unknown env node) broken known
no_name_broken env node Twice known once broken stage = true_and_false (breaks_twice env node) broken once
no_name_broken env node (Typing rule) known once broken stage = absurd (omega (arith, stage))
no_name_broken env node Uninferred known once broken stage = absurd (omega (arith, stage))
no_name_broken env node Range known once broken stage = absurd (omega (arith, stage))

pub named_breaks_none : (file : File) → HasNames file → (fault : Fault) → IsFault (file_nodes file) fault → stage_of fault.rule ≡ 0 → ⊥
named_breaks_none file named fault broken stage =
    let here = named fault.at broken.0 in
    no_name_broken fault.at.env fault.at.node fault.rule here.0 here.1 broken.1 stage

pub none_broken_is_named : (file : File) → ((fault : Fault) → IsFault (file_nodes file) fault → stage_of fault.rule ≡ 0 → ⊥) → HasNames file
none_broken_is_named file none at there = (
  false_if_not (breaks_unknown at.env at.node) (λ broken. none (record { at = at; rule = Unknown }) (there, broken) refl),
  false_if_not (breaks_twice at.env at.node) (λ broken. none (record { at = at; rule = Twice }) (there, broken) refl),
)
