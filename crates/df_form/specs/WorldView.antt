-- The code's intervals as ends.
use Rattle.df_lang.specs.declared.interval.Interval.{Interval}
use Rattle.df_form.specs.World.{Ends}

abbrev pub ends_of : Interval → Ends
ends_of interval = record { low = interval.low; high = interval.high }
