use Rattle.std.proofs.Common.{◌≡◌, true, rules, sym, subst}
use Rattle.df_lang.specs.Program.{Program}
use Rattle.df_lang.specs.Typing.{is_well_typed}
use Rattle.df_back_tests.proofs.Sampled.{same_program}
use Rattle.df_back_tests.proofs.compiling.digits_program.Goals as goal

pub new-requires : goal.new-requires
new-requires c =
    subst (λ (p : Program). is_well_typed p ≡ true)
    (sym (same_program c.args.ty c.in_ok-decls.decls.items c.in_ok-newtype.newtype c.in_ok-first.first c.in_ok-second.second (search rules) c.in_ok-newtype.ensures c.in_ok-first.ensures c.in_ok-second.ensures))
    c.requires
