-- The code's logs, without where they lie in memory.
use Rattle.df_ntop.specs.declared.logs.LogFile as declared
use Rattle.df_ntop.specs.declared.logs.LogFile.TheVariants as logs
use Rattle.df_ntop.specs.Loaded.{LogFile, NoLog, TooLong, Log}

abbrev pub log_file_of : declared.LogFile → LogFile
log_file_of logs.Absent = NoLog
log_file_of logs.TooLarge = TooLong
log_file_of (logs.Bytes bytes) = Log bytes
