-- The code's declarations, without where they lie in memory.
use Rattle.std.specs.Prelude.{List, map, string_bytes}
use Rattle.std.specs.Option.{option_map}
use Rattle.df_lang.specs.declared.decl.Declared as declared_name
use Rattle.df_lang.specs.declared.decl.Newtype as declared_newtype
use Rattle.df_lang.specs.declared.decl.Param as declared_param
use Rattle.df_lang.specs.declared.decl.Method as declared_method
use Rattle.df_lang.specs.declared.decl.Decl as declared
use Rattle.df_lang.specs.declared.decl.Decl.TheVariants as decls
use Rattle.df_lang.specs.Newtype.{Declared, Newtype}
use Rattle.df_lang.specs.Program.{Param, Method, Decl, NewtypeDecl, MethodDecl, Program}
use Rattle.df_lang.specs.StmtView.{clause_of, measure_of, stmt_of, stmts_of}

abbrev pub declared_of : declared_name.Declared → Declared
declared_of d = record { name = d.name; text = string_bytes d.text; pos = d.pos }

abbrev pub newtype_of : declared_newtype.Newtype → Newtype
newtype_of n = record { declared = declared_of n.declared; low = n.interval.low; high = n.interval.high; default = n.default }

abbrev pub param_of : declared_param.Param → Param
param_of p = record { declared = declared_of p.declared; ty = p.ty; is_ghost = p.is_ghost }

abbrev pub method_of : declared_method.Method → Method
method_of m = record {
  declared = declared_of m.declared;
  parameters = map param_of m.parameters.items;
  results = map param_of m.results.items;
  preconditions = map clause_of m.preconditions.items;
  postconditions = map clause_of m.postconditions.items;
  decreases = option_map (λ measures. map measure_of measures.items) m.decreases;
  pos = m.pos;
  body = stmts_of (map stmt_of m.body.items);
}

abbrev pub decl_of : declared.Decl → Decl
decl_of (decls.Newtype newtype) = NewtypeDecl (newtype_of newtype)
decl_of (decls.Method method) = MethodDecl (method_of method)

abbrev pub program_with : List declared.Decl → Program
program_with all = record { decls = map decl_of all }
