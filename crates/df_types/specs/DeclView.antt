-- The code's declarations, without where they lie in memory.
use Rattle.std.specs.Prelude.{List, map, string_bytes}
use Rattle.std.specs.Option.{option_map}
use Rattle.df_types.specs.declared.decl.Declared as declared_name
use Rattle.df_types.specs.declared.decl.Newtype as declared_newtype
use Rattle.df_types.specs.declared.decl.Variable as declared_variable
use Rattle.df_types.specs.declared.decl.TypeParameter as declared_parameter
use Rattle.df_types.specs.declared.decl.Constructor as declared_constructor
use Rattle.df_types.specs.declared.decl.Datatype as declared_datatype
use Rattle.df_types.specs.declared.decl.Class as declared_class
use Rattle.df_types.specs.declared.decl.Param as declared_param
use Rattle.df_types.specs.declared.decl.Head as declared_head
use Rattle.df_types.specs.declared.decl.Function as declared_function
use Rattle.df_types.specs.declared.decl.Method as declared_method
use Rattle.df_types.specs.declared.decl.Decl as declared
use Rattle.df_types.specs.declared.decl.Decl.TheVariants as decls
use Rattle.df_types.specs.TyView.{ty_of}
use Rattle.df_types.specs.ExprView.{expr_of}
use Rattle.df_types.specs.Stmt.{stmts_of}
use Rattle.df_types.specs.StmtView.{demand_of, typed_of, stmt_of}
use Rattle.df_types.specs.Program.{Declared, Newtype, Variable, TypeParameter, Constructor, Datatype, Class, Param, Head, Function, Method, Decl, NewtypeDecl, DatatypeDecl, ClassDecl, FunctionDecl, MethodDecl, Program}

abbrev pub declared_of : declared_name.Declared → Declared
declared_of x = record { name = x.name; text = string_bytes x.text; pos = x.pos }

abbrev pub newtype_of : declared_newtype.Newtype → Newtype
newtype_of x = record { declared = declared_of x.declared; low = x.interval.low; high = x.interval.high; default = x.default }

abbrev pub variable_of : declared_variable.Variable → Variable
variable_of x = record { declared = declared_of x.declared; ty = ty_of x.ty; is_ghost = x.is_ghost; is_written = x.is_written }

abbrev pub type_parameter_of : declared_parameter.TypeParameter → TypeParameter
type_parameter_of x = record { declared = declared_of x.declared; has_equality = x.has_equality }

abbrev pub constructor_of : declared_constructor.Constructor → Constructor
constructor_of x = record { declared = declared_of x.declared; parts = map variable_of x.parts.items }

abbrev pub datatype_of : declared_datatype.Datatype → Datatype
datatype_of x = record { declared = declared_of x.declared; type_parameters = map type_parameter_of x.type_parameters.items; constructors = map constructor_of x.constructors.items }

abbrev pub class_of : declared_class.Class → Class
class_of x = record { declared = declared_of x.declared; fields = map variable_of x.fields.items }

abbrev pub param_of : declared_param.Param → Param
param_of x = record { local = x.local; ty = ty_of x.ty; is_ghost = x.is_ghost }

abbrev pub head_of : declared_head.Head → Head
head_of x = record {
  declared = declared_of x.declared;
  is_ghost = x.is_ghost;
  type_parameters = map type_parameter_of x.type_parameters.items;
  locals = map variable_of x.locals.items;
  receiver = x.receiver;
  parameters = map param_of x.parameters.items;
  results = map param_of x.results.items;
  preconditions = map demand_of x.preconditions.items;
  frame = map typed_of x.frame.items;
  decreases = option_map (λ measures. map typed_of measures.items) x.decreases;
  postconditions = map demand_of x.postconditions.items;
}

abbrev pub function_of : declared_function.Function → Function
function_of x = record { head = head_of x.head; value = expr_of x.value }

abbrev pub method_of : declared_method.Method → Method
method_of x = record { head = head_of x.head; pos = x.pos; body = stmts_of (map stmt_of x.body.items) }

abbrev pub decl_of : declared.Decl → Decl
decl_of (decls.Newtype x) = NewtypeDecl (newtype_of x)
decl_of (decls.Datatype x) = DatatypeDecl (datatype_of x)
decl_of (decls.Class x) = ClassDecl (class_of x)
decl_of (decls.Function x) = FunctionDecl (function_of x)
decl_of (decls.Method x) = MethodDecl (method_of x)

abbrev pub program_with : List declared.Decl → Program
program_with all = record { decls = map decl_of all }
