-- What is passed over, as the definitions say it.
use Rattle.std.specs.Prelude.{List}
use Rattle.df_lang.specs.View.{program_of}
use Rattle.df_nterm.specs.Measuring.{Measured}
use Rattle.df_npass.specs.Statements.{Setting, grouped_with}
use Rattle.df_nledger.specs.declared.setting.Setting as declared_setting

-- what is passed over, by the measure on entry
abbrev pub setting_of : declared_setting.Setting → List Measured → Setting
setting_of s entry = record { program = program_of s.program.now; in_group = grouped_with (program_of s.program.now) s.groups.now s.number; entry = entry }
