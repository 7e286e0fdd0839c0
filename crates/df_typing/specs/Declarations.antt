-- What declarations and files are told to break, and what they mean.
use Rattle.std.specs.Prelude.{ℕ, pos as positive, ◌==◌, Bool, true, false, not, ◌||◌, if◌then◌else◌, length, List, [], ◌∷◌, ◌++◌, map, Option, Some, None, slice_index_or}
use Rattle.std.specs.Option.{unwrap_or}
use Rattle.std.specs.List.{list_any}
use Rattle.df_base.specs.declared.pos.Pos.{Pos}
use Rattle.df_types.specs.declared.kind.Kind.TheVariants as kinds
use Rattle.df_types.specs.Stmt.{done}
use Rattle.df_types.specs.Program as core
use Rattle.df_types.specs.Program.{Declared, Variable, Param, Head, Function, Method, Decl, NewtypeDecl, FunctionDecl, MethodDecl, Program}
use Rattle.df_typing.specs.declared.form.Role.{Role}
use Rattle.df_typing.specs.declared.form.Role.TheVariants as roles
use Rattle.df_typing.specs.declared.form.Naming.TheVariants as namings
use Rattle.df_typing.specs.declared.form.Owner.TheVariants as owners
use Rattle.df_typing.specs.declared.form.Declares.TheVariants as declares
use Rattle.df_typing.specs.Tree.{Asts, Kept, Made, Nil, Next, Label, Span, Mark, Named, marks, name_in, is_ghost}
use Rattle.df_typing.specs.Types.{Ty, Boolean}
use Rattle.df_typing.specs.Form.{form_of, Naming, Declares}
use Rattle.df_typing.specs.Table.{Entry, Signature, signature_of, table_of, declarations}
use Rattle.df_typing.specs.Newtypes.{Bounds}
use Rattle.df_typing.specs.Scope as scope
use Rattle.df_typing.specs.Scope.{Inferred, Facts, nothing_known, type_at, is_bound}
use Rattle.df_typing.specs.Sights.{Sight, Look, look, Notes, NoNote, Note}
use Rattle.df_typing.specs.Here.{Enclosing, Here, here_of}
use Rattle.df_typing.specs.Expressions.{pos_at, known, last_expr, nothing}
use Rattle.df_typing.specs.Asks.{Placed, at_token, asked_in}
use Rattle.df_typing.specs.Rules.{New}
use Rattle.df_typing.specs.Statements.{Output, Setting, parts_of, is_precondition, is_postcondition, demands, decreases, statements}
use Rattle.df_typing.specs.Marks.{marked_method}

-- ---- what is seen of a declaration

abbrev pub around_at : (start : ℕ) → scope.Around
around_at start = record { start = start; is_names = false; role = roles.Variable; from = 0; above = 0; sees_results = false; owner = owners.Declaration; is_loop = false }

-- one declaration, seen by itself
abbrev pub alone : Label → Span → Asts → Asts
alone label span inside = Next (Made label span inside) Nil

abbrev pub look_at : List Entry → Label → Span → Asts → Look
look_at table label span inside = look table (around_at span.start) [] nothing_known (alone label span inside)

abbrev pub results_of : Option Signature → List (Option Ty)
results_of None = []
results_of (Some signature) = signature.results

abbrev pub around_of : List Entry → Label → Span → Asts → Enclosing
around_of table label span inside = record {
  types = (look_at table label span inside).behind.types;
  results = results_of (signature_of (form_of label).declares table inside);
}

-- ---- what is asked

abbrev pub is_among : List ℕ → ℕ → Bool
is_among names name = list_any (λ other. other == name) names

-- the name of a declaration is new in the file
abbrev pub asked_of_declared : List ℕ → Option Named → List Placed
asked_of_declared before None = []
asked_of_declared before (Some named) = record { text = at_token named.place; name = named.name; ask = New (not (is_among before named.name)) } ∷ []

abbrev pub with_name : List ℕ → Option Named → List ℕ
with_name before None = before
with_name before (Some named) = before ++ named.name ∷ []

abbrev pub asked_of_declarations : List Entry → (before : List ℕ) → Asts → List Placed
asked_of_declarations table before Nil = []
asked_of_declarations table before (Next (Kept x) rest) = asked_of_declarations table before rest
asked_of_declarations table before (Next (Made label span inside) rest) =
    asked_of_declared before (name_in (marks inside))
    ++ asked_in table (around_of table label span inside) [] (look_at table label span inside).notes
    ++ asked_of_declarations table (with_name before (name_in (marks inside))) rest

-- all that is asked in a file
abbrev pub asked_of_file : Asts → List Placed
asked_of_file file = asked_of_declarations (table_of file) [] (declarations file)

-- ---- what declarations mean

-- where the tokens stand, and the texts of the names
pub record Source : Type 0 where
  pub positions : List Pos
  pub names : List (List ℕ)

abbrev pub declared_at : Source → Named → Declared
declared_at source named = record { name = named.name; text = slice_index_or source.names named.name []; pos = pos_at source.positions named.place }

-- what has no name is called as the declaration around, and stands where it is written
abbrev pub declared_or : Source → (otherwise : Named) → Option Named → Span → Declared
declared_or source otherwise (Some named) span = declared_at source named
declared_or source otherwise None span = record (declared_at source otherwise) { pos = pos_at source.positions span.start }

-- each local that is declared, with its number
pub record Numbered : Type 0 where
  pub role : Role
  pub number : ℕ
  pub variable : Variable

abbrev pub numbered_if : Naming → Source → Named → List Inferred → (is_ghost_around : Bool) → Span → Facts → List Numbered
numbered_if namings.Declared source otherwise types is_ghost_around span facts =
    if is_bound facts.around.role then [] else record {
      role = facts.around.role;
      number = facts.local;
      variable = record {
        declared = declared_or source otherwise (name_in facts.marks) span;
        ty = known (type_at types facts.index);
        is_ghost = is_ghost_around || is_ghost facts.marks;
        is_written = true;
      };
    } ∷ []
numbered_if namings.Nameless source otherwise types is_ghost_around span facts = []
numbered_if namings.Value source otherwise types is_ghost_around span facts = []
numbered_if namings.Type source otherwise types is_ghost_around span facts = []

-- In the order of the text, which is that of their numbers. Behind `ghost` all that is declared is ghost.
abbrev pub locals_in : Source → Named → List Inferred → (is_ghost_around : Bool) → Notes → List Numbered
locals_in source otherwise types is_ghost_around NoNote = []
locals_in source otherwise types is_ghost_around (Note label span facts parts inside rest) =
    locals_in source otherwise types (is_ghost_around || is_ghost facts.marks) inside
    ++ numbered_if (form_of label).naming source otherwise types is_ghost_around span facts
    ++ locals_in source otherwise types is_ghost_around rest

abbrev pub is_parameter : Role → Bool
is_parameter roles.Parameter = true
is_parameter roles.Result = false
is_parameter roles.Variable = false
is_parameter roles.Bound = false

abbrev pub params_by : (Role → Bool) → List Numbered → List Param
params_by test [] = []
params_by test (x ∷ xs) =
    (if test x.role then record { local = x.number; ty = x.variable.ty; is_ghost = x.variable.is_ghost } ∷ [] else []) ++ params_by test xs

abbrev pub outputs_of : List Numbered → List Output
outputs_of [] = []
outputs_of (x ∷ xs) =
    (if scope.is_result x.role then record { local = x.number; name = x.variable.declared.name; ty = x.variable.ty } ∷ [] else []) ++ outputs_of xs

-- the result of a predicate is a truth, and stands where the predicate does
abbrev pub truth_result : Source → Named → (is_ghost : Bool) → List Numbered → Numbered
truth_result source named is_ghost locals =
    record { role = roles.Result; number = length locals; variable = record { declared = declared_at source named; ty = Boolean; is_ghost = is_ghost; is_written = false } }

abbrev pub with_result : Declares → Source → Named → (is_ghost : Bool) → List Numbered → List Numbered
with_result declares.Predicate source named is_ghost locals = locals ++ truth_result source named is_ghost locals ∷ []
with_result declared source named is_ghost locals = locals

-- ---- heads

-- lemmas and ghost functions are not compiled
abbrev pub is_ghost_declaration : Declares → List Mark → Bool
is_ghost_declaration declares.Lemma tokens = true
is_ghost_declaration declares.Nothing tokens = false
is_ghost_declaration declares.Newtype tokens = false
is_ghost_declaration declares.Function tokens = is_ghost tokens
is_ghost_declaration declares.Predicate tokens = is_ghost tokens
is_ghost_declaration declares.Method tokens = false

-- what is seen of the parts of a declaration
pub record Seen : Type 0 where
  pub declares : Declares
  pub named : Named
  pub is_ghost : Bool
  pub locals : List Numbered
  pub setting : Setting
  pub here : Here

abbrev pub variables : List Numbered → List Variable
variables locals = map (λ (x : Numbered). x.variable) locals

abbrev pub head_of : Source → Seen → Head
head_of source seen = record {
  declared = declared_at source seen.named;
  is_ghost = seen.is_ghost;
  type_parameters = [];
  locals = variables seen.locals;
  receiver = None;
  parameters = params_by is_parameter seen.locals;
  results = params_by scope.is_result seen.locals;
  preconditions = demands seen.setting is_precondition kinds.Requires seen.here.inside;
  frame = [];
  decreases = decreases seen.setting seen.here.inside;
  postconditions = demands seen.setting is_postcondition kinds.Ensures seen.here.inside;
}

-- the last part
abbrev pub body_start : ℕ → Notes → ℕ
body_start otherwise NoNote = otherwise
body_start otherwise (Note label span facts parts inside rest) = body_start span.start rest

abbrev pub newtype_decl : Source → Named → Option Bounds → Decl
newtype_decl source named None = NewtypeDecl (record { declared = declared_at source named; low = positive 0; high = positive 0; default = positive 0 })
newtype_decl source named (Some bounds) = NewtypeDecl (record { declared = declared_at source named; low = bounds.low; high = bounds.high; default = bounds.default })

abbrev pub function_decl : Source → Seen → Decl
function_decl source seen = FunctionDecl (record { head = head_of source seen; value = last_expr nothing (parts_of seen.setting seen.here) })

abbrev pub method_decl : Source → Seen → Decl
method_decl source seen = MethodDecl (record {
  head = head_of source seen;
  pos = pos_at source.positions (body_start seen.here.text.span.start seen.here.inside);
  body = statements seen.setting seen.here.inside done;
})

abbrev pub seen_of : Source → List Entry → Declares → Named → Enclosing → Label → Span → Facts → List Sight → Notes → Seen
seen_of source table declared named around label span facts parts inside =
    let is_ghost = is_ghost_declaration declared facts.marks in
    let locals = with_result declared source named is_ghost (locals_in source named around.types is_ghost inside) in
    record {
      declares = declared;
      named = named;
      is_ghost = is_ghost;
      locals = locals;
      setting = record { positions = source.positions; table = table; around = around; outputs = outputs_of locals };
      here = here_of around label span facts parts None inside;
    }

abbrev pub decl_by : Declares → Source → List Entry → Named → Enclosing → Label → Span → Facts → List Sight → Notes → List Decl
decl_by declares.Nothing source table named around label span facts parts inside = []
decl_by declares.Newtype source table named around label span facts parts inside = newtype_decl source named facts.bounds ∷ []
decl_by declares.Function source table named around label span facts parts inside = function_decl source (seen_of source table declares.Function named around label span facts parts inside) ∷ []
decl_by declares.Predicate source table named around label span facts parts inside = function_decl source (seen_of source table declares.Predicate named around label span facts parts inside) ∷ []
decl_by declares.Method source table named around label span facts parts inside = method_decl source (seen_of source table declares.Method named around label span facts parts inside) ∷ []
decl_by declares.Lemma source table named around label span facts parts inside = method_decl source (seen_of source table declares.Lemma named around label span facts parts inside) ∷ []

abbrev pub decl_of : Source → List Entry → Enclosing → Notes → List Decl
decl_of source table around NoNote = []
decl_of source table around (Note label span facts parts inside rest) =
    decl_by (form_of label).declares source table (unwrap_or (name_in facts.marks) (record { name = 0; place = span.start })) around label span facts parts inside

-- its declarations without marks of ghost code
abbrev pub decls_of : Source → List Entry → Asts → List Decl
decls_of source table Nil = []
decls_of source table (Next (Kept x) rest) = decls_of source table rest
decls_of source table (Next (Made label span inside) rest) =
    decl_of source table (around_of table label span inside) (look_at table label span inside).notes ++ decls_of source table rest

abbrev pub marked_decl : Program → Decl → Decl
marked_decl p (MethodDecl m) = MethodDecl (marked_method p m)
marked_decl p (NewtypeDecl x) = NewtypeDecl x
marked_decl p (core.DatatypeDecl x) = core.DatatypeDecl x
marked_decl p (core.ClassDecl x) = core.ClassDecl x
marked_decl p (FunctionDecl f) = FunctionDecl f

-- What a call's callee takes and gives stands in the heads, which are the same with marks.
abbrev pub marked_program : Program → Program
marked_program p = record { decls = map (marked_decl p) p.decls }

-- the program of a file that breaks nothing
abbrev pub program_of : Source → Asts → Program
program_of source file = marked_program (record { decls = decls_of source (table_of file) (declarations file) })
