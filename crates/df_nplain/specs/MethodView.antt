-- The code's methods, without where they lie in memory.
use Rattle.std.specs.Prelude.{List, map, string_bytes}
use Rattle.df_nplain.specs.declared.plain.Method as declared_method
use Rattle.df_nplain.specs.Kind.{kind_of}
use Rattle.df_nplain.specs.StmtView.{stmt_of, stmts_of}
use Rattle.df_nplain.specs.Plain.{Method, Plain}

abbrev pub method_of : declared_method.Method → Method
method_of m = record {
  text = string_bytes m.text;
  parameters = map kind_of m.parameters.items;
  results = map kind_of m.results.items;
  body = stmts_of (map stmt_of m.body.items);
}

-- the program of these methods
abbrev pub plain_with : List declared_method.Method → Plain
plain_with methods = record { methods = map method_of methods }
