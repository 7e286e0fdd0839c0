use Rattle.std.proofs.Common.{◌≡◌, map, take}
use Rattle.df_lang.specs.DeclView.{decl_of}
use Rattle.df_report.specs.View.{outcome_of}
use Rattle.df_nproof.specs.Verified.{verified_outcomes}
use Rattle.df_nproof.proofs.outcomes.verified.Given as goal

abbrev pub invariant-loop-decl : goal.invariant-loop-decl
invariant-loop-decl l = map outcome_of l.outcomes.items ≡ verified_outcomes (map decl_of (take l.decl-index l.decl-items))
