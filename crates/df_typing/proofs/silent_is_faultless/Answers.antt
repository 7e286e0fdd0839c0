use Rattle.df_typing.specs.Declarations.{asked_of_file}
use Rattle.df_typing.proofs.Least.{all_hold, none_broken}
use Rattle.df_typing.proofs.silent_is_faultless.Goals as goal
use Rattle.std.proofs.Common.{None}

pub returns : goal.returns
returns c = λ file silent fault broken. none_broken (asked_of_file file) fault (all_hold None _ silent).1 broken
