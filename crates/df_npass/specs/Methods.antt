-- The obligations of methods and programs.
use Rattle.std.specs.Prelude.{ℕ, suc, pos, false, List, [], ◌∷◌, ◌++◌, slice_get, slice_index_or, None, if◌then◌else◌}
use Rattle.std.specs.Option.{option_map_or}
use Rattle.std.specs.List.{flat_map, list_any}
use Rattle.df_base.specs.declared.pos.Pos.{Pos}
use Rattle.df_lang.specs.declared.ty.Ty.{Ty}
use Rattle.df_lang.specs.Stmt.{Clause}
use Rattle.df_lang.specs.Program.{Param, Method, Decl, NewtypeDecl, MethodDecl, Program, types_of}
use Rattle.df_lang.specs.Typing.{locals_after_all}
use Rattle.df_lang.specs.Measures.{method_measure}
use Rattle.df_meaning.specs.declared.kind.Kind.{Kind}
use Rattle.df_meaning.specs.declared.kind.Kind.TheVariants as kinds
use Rattle.df_meaning.specs.Modular.{Changed}
use Rattle.df_nterm.specs.Term.{Term, literal, sort_of_type}
use Rattle.df_nterm.specs.Same.{same_term}
use Rattle.df_nterm.specs.Expressions.{Environment, term_of, conditions_of}
use Rattle.df_nterm.specs.Measuring.{measured}
use Rattle.df_npass.specs.Rules.{Said, Known, Owed, Way, some_term, assume, assert_all, paths_of, any_path, join}
use Rattle.df_npass.specs.Statements.{Setting, grouped_with, Flow, ways_of, at_clause, assert_clauses, assert_measure, any_values, pass_all}

-- the types of all locals of a method, by their numbers
abbrev pub locals_of : Method → List Ty
locals_of method = locals_after_all (types_of method.parameters ++ types_of method.results) method.body

abbrev pub unset : List Ty → Environment
unset types = λ n. option_map_or (λ (ty : Ty). some_term (sort_of_type ty)) (slice_get types n) (literal (pos 0))

-- a method begins with any arguments of its types; its other locals have no values yet
abbrev pub way_in : Method → Way
way_in method = record { env = λ n. slice_index_or (any_values None method.parameters 0).terms n (unset (locals_of method) n); path = None }

-- each precondition has a value, and is true
abbrev pub require_all : Way → List Clause → List Said
require_all way clauses =
    flat_map (λ (clause : Clause). assert_all way.path (conditions_of way.env clause.condition) ++ assume way.path (term_of way.env clause.condition)) clauses

-- parameters or results by their numbers
abbrev pub locals_from : ℕ → List Param → List Changed
locals_from from [] = []
locals_from from (param ∷ others) = record { local = from; ty = param.ty } ∷ locals_from (suc from) others

-- at the end of the body and at each `return` the postconditions are owed
abbrev pub ended : Method → Flow → List Said
ended method flow =
    let ways = flow.returns ++ ways_of flow.way in
    let joined = join (any_path (paths_of ways)) (way_in method).env (locals_from 0 (method.parameters ++ method.results)) ways flow.fresh in
    joined.said ++ option_map_or (λ way. assert_clauses at_clause kinds.Ensures way method.postconditions) joined.way []

abbrev pub setting_of : Program → List ℕ → ℕ → Method → Setting
setting_of program groups number method = record { program = program; in_group = grouped_with program groups number; entry = measured (way_in method).env (method_measure method) }

abbrev pub pass_within : Setting → Method → List Said
pass_within setting method =
    let arguments = any_values None method.parameters 0 in
    let way = way_in method in
    let flow = pass_all setting way method.body arguments.fresh in
    arguments.said ++ (require_all way method.preconditions ++ (assert_measure way (method_measure method) ++ (flow.said ++ ended method flow)))

abbrev pub pass_method : Program → List ℕ → ℕ → Method → List Said
pass_method program groups number method = pass_within (setting_of program groups number method) method

-- what is to be shown at a place: where the hypotheses are true, the goal is
pub record Obligation : Type 0 where
  pub declaration : ℕ
  pub pos : Pos
  pub kind : Kind
  pub hypotheses : List Term
  pub goal : Term

-- a formula is known once
abbrev pub known_with : List Term → Term → List Term
known_with known formula = if list_any (same_term formula) known then known else known ++ formula ∷ []

-- Hypotheses are what the declaration has assumed, in order, each under the path on which it holds; nothing else, and
-- none twice. An obligation, once asked, is assumed as well.
abbrev pub obligations_of : ℕ → List Term → List Said → List Obligation
obligations_of number known [] = []
obligations_of number known (Known formula ∷ others) = obligations_of number (known_with known formula) others
obligations_of number known (Owed at kind goal ∷ others) =
    record { declaration = number; pos = at; kind = kind; hypotheses = known; goal = goal } ∷ obligations_of number (known_with known goal) others

abbrev pub obligations_of_method : Program → List ℕ → ℕ → Method → List Obligation
obligations_of_method program groups number method = obligations_of number [] (pass_method program groups number method)

abbrev pub obligations_of_decl : Program → List ℕ → ℕ → Decl → List Obligation
obligations_of_decl program groups number (NewtypeDecl newtype) = []
obligations_of_decl program groups number (MethodDecl method) = obligations_of_method program groups number method

abbrev pub obligations_from : Program → List ℕ → ℕ → List Decl → List Obligation
obligations_from program groups number [] = []
obligations_from program groups number (decl ∷ others) = obligations_of_decl program groups number decl ++ obligations_from program groups (suc number) others

-- of the declarations in the order of the source, each in the order of evaluation
abbrev pub obligations : Program → List ℕ → List Obligation
obligations program groups = obligations_from program groups 0 program.decls
