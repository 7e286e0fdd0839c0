-- What an interpretation hands in at calls and loops, by the way that it takes: the values of the free terms that are
-- made there. Nothing is printed by then.
use Rattle.std.specs.Prelude.{ℕ, Bool, true, if◌then◌else◌, List, [], ◌∷◌, ◌++◌, map, Option, None, Some}
use Rattle.std.specs.Option.{option_map_or}
use Rattle.df_lang.specs.Stmt.{Call, Source, Single, Results, Update, Stmt, Block, Var, Assign, CallOf, If, While, Break, Return, Assert, Print, Stmts, done, next, Branches, no_branch, branch}
use Rattle.df_lang.specs.Program.{Method, Program, method_at}
use Rattle.df_meaning.specs.Agreement.{is_changed}
use Rattle.df_meaning.specs.Modular.{Changed}
use Rattle.df_meaning.specs.State.{Handed, Given, Turned}
use Rattle.df_nterm.specs.Term.{Term, negation}
use Rattle.df_nterm.specs.Meaning.{Interpretation, value, truth}
use Rattle.df_nterm.specs.Expressions.{term_of}
use Rattle.df_npass.specs.Rules.{Way, narrowed, havoc}
use Rattle.df_npass.specs.Statements.{Setting, Flow, any_values, pass_source, changed_outside, pass_stmt, pass_all}
use Rattle.df_npass.specs.Methods.{setting_of, way_in}

-- a call gives the values of its results
abbrev pub results_in : Interpretation → Option Term → Method → ℕ → Handed
results_in i path method fresh = Given (map (value i) (any_values path method.results fresh).terms) []

-- before a turn of a loop its changed locals have the values of their terms
abbrev pub turn_in : Interpretation → List Changed → Way → Handed
turn_in i changed way = Turned (λ k. if is_changed changed k then Some (value i (way.env k)) else None) []

abbrev pub handed_at_call : Interpretation → Setting → Call → Way → ℕ → List Handed
handed_at_call i setting call way fresh = option_map_or (λ (method : Method). results_in i way.path method fresh ∷ []) (method_at setting.program call.callee) []

-- ---- assignment

abbrev pub handed_at_source : Interpretation → Setting → Source → Way → ℕ → List Handed
handed_at_source i setting (Single ty value) way fresh = []
handed_at_source i setting (Results call results) way fresh = handed_at_call i setting call way fresh

abbrev pub handed_at_sources : Interpretation → Setting → List Source → Way → ℕ → List Handed
handed_at_sources i setting [] way fresh = []
handed_at_sources i setting (source ∷ others) way fresh =
    handed_at_source i setting source way fresh ++ handed_at_sources i setting others way (pass_source setting source way fresh).fresh

abbrev pub handed_at_update : Interpretation → Setting → Option Update → Way → ℕ → List Handed
handed_at_update i setting None way fresh = []
handed_at_update i setting (Some update) way fresh = handed_at_sources i setting update.sources way fresh

-- ---- statements

-- a run comes by this way
abbrev pub takes : Interpretation → Way → Bool
takes i way = option_map_or (truth i) way.path true

-- at what stands behind, where the run goes on there
abbrev pub handed_behind : Interpretation → Flow → (ℕ → Way → List Handed) → List Handed
handed_behind i flow go = option_map_or (λ way. if takes i way then go flow.fresh way else []) flow.way []

abbrev mutual
  pub handed_at : Interpretation → Setting → Way → Stmt → ℕ → List Handed
  handed_at i setting way (Block at body) fresh = handed_at_all i setting way body fresh
  handed_at i setting way (Var at variables update) fresh = handed_at_update i setting update way fresh
  handed_at i setting way (Assign at update) fresh = handed_at_update i setting (Some update) way fresh
  handed_at i setting way (CallOf call) fresh = handed_at_call i setting call way fresh
  handed_at i setting way (If branches otherwise) fresh = handed_at_branches i setting way branches (λ last. handed_at_all i setting last otherwise) fresh
  handed_at i setting way (While at guard invariants decreases body) fresh =
      let any = havoc (changed_outside body) fresh way in
      let formula = term_of any.way.env guard in
      turn_in i (changed_outside body) any.way ∷ (if truth i formula then handed_at_all i setting (narrowed any.way formula) body any.fresh else [])
  handed_at i setting way (Break at) fresh = []
  handed_at i setting way (Return at update) fresh = handed_at_update i setting update way fresh
  handed_at i setting way (Assert at condition) fresh = []
  handed_at i setting way (Print at operands) fresh = []

  pub handed_at_all : Interpretation → Setting → Way → Stmts → ℕ → List Handed
  handed_at_all i setting way done fresh = []
  handed_at_all i setting way (next stmt others) fresh =
      handed_at i setting way stmt fresh ++ handed_behind i (pass_stmt setting way stmt fresh) (λ more on. handed_at_all i setting on others more)

  -- in the first branch whose guard is true, or where all are false
  pub handed_at_branches : Interpretation → Setting → Way → Branches → (Way → ℕ → List Handed) → ℕ → List Handed
  handed_at_branches i setting way no_branch otherwise fresh = otherwise way fresh
  handed_at_branches i setting way (branch at guard body rest) otherwise fresh =
      let formula = term_of way.env guard in
      if truth i formula then handed_at_all i setting (narrowed way formula) body fresh
      else handed_at_branches i setting (narrowed way (negation formula)) rest otherwise (pass_all setting (narrowed way formula) body fresh).fresh

-- ---- methods

-- what a modular run of the method is handed in by the interpretation, in order
abbrev pub handed_in : Interpretation → Program → List ℕ → ℕ → Method → List Handed
handed_in i program groups number method =
    handed_at_all i (setting_of program groups number method) (way_in method) method.body (any_values None method.parameters 0).fresh
