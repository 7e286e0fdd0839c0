use Rattle.std.proofs.Common.{◌≡◌, drop}
use Rattle.df_base.specs.Names.{same_text}
use Rattle.df_logtext.specs.Words.{place_from}
use Rattle.df_logtext.specs.View.{names_of}
use Rattle.df_logtext.proofs.words.number_of_name.Given as goal

abbrev pub invariant-loop-number : goal.invariant-loop-number
invariant-loop-number l = place_from (λ other. same_text other l.name) l.number (names_of (drop l.number l.names)) ≡ place_from (λ other. same_text other l.name) 0 (names_of l.names)
