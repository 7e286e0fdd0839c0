-- The code's programs, without where they lie in memory.
use Rattle.df_nplain.specs.declared.plain.Plain as declared
use Rattle.df_nplain.specs.MethodView.{plain_with}
use Rattle.df_nplain.specs.Plain.{Plain}

abbrev pub plain_of : declared.Plain → Plain
plain_of p = plain_with p.methods.items
