-- Passing over statements tells of their runs.
use Rattle.df_npass.proofs.Words.{◌≡◌, inl, ℕ, zero, suc, ◌≤◌, ◌+◌, Bool, true, false, not, if◌then◌else◌, List, [], ◌++◌, length, Some, refl, sym, ap, ◌∙◌, subst, append_assoc, arith, le_trans, list_all, flat_map, Ty, Stmt, Block, Var, Assign, CallOf, If, While, Break, Return, Assert, Print, Stmts, done, next, Branches, no_branch, branch, Method, Program, is_type, is_expr, are_clauses, may_update, are_numbered, variable_numbers, variable_types, locals_after, locals_after_all, locals_after_branches, is_measured, is_stmt, are_stmts, are_branches, is_well_typed, Assigned, Unreached, declare, assign_all, reads, reads_of_clauses, reads_of_measures, reads_of_update, unassigned, Flowing, results_at, flow, flow_all, flow_branches, Value, truth_of, Outcome, Gives, Wrong, after, State, AreDeclared, evaluate, declare_all, execute_call, execute_optional, print_all, go_on, goes, execute, execute_all, execute_branches, Running, modular, plain_meaning, both, three, four, stmt_there, nothing_missing, parted, place, carries, declared_more, grows, all_grow, branches_grow, Within, before_all, before_branches, return_updates, program_of_modular, Term, negation, Interpretation, truth, term_of, Measured, IsBelow, term_below, Said, Way, narrowed, assert, join_branches, Moved, goes_on, saying, assert_expr, assert_operand, pass_call, pass_optional, changed_outside_if, last_of, path_behind, pass_stmt, pass_all, pass_branches, handed_at_call, handed_at_update, handed_behind, handed_at, handed_at_all, handed_at_branches}
use Rattle.df_lang.specs.declared.ty.Ty.TheVariants as types
use Rattle.df_meaning.specs.declared.kind.Kind.TheVariants as kinds
use Rattle.df_meaning.specs.Meaning as flows
use Rattle.df_npass.specs.Statements as passing
use Rattle.df_npass.proofs.Runs.{narrowed_true, Mode, is_taking, ahead, ahead_is, ahead_append, Moves, moves_here, Play, play_as, narrowed_below, measure_grows, env_grows, path_grows, call_giving, stmt_flows, all_flows, branches_flow, with_handed, after_if, checked_then, expr_then, after_after, sits_less, nesting, nesting_all, nesting_branches, call_of_modular, decide, update_keeps, back, few, HasParameters, back_has, setting, running, entered_moves, Stands, stands_moves, stands_ahead, declared_stands, declared_handed, Onward, then_play, if_there}
use Rattle.df_npass.proofs.Updating.{printed_state, call_plays, optional_then}
use Rattle.df_npass.proofs.Covering.{if_covers}
use Rattle.df_npass.proofs.Branching.{taken_onward, passed_play, rejoin_onward}
use Rattle.df_npass.proofs.Looping.{three_parts}
use Rattle.df_npass.proofs.Loops.{print_then, shallow_play, while_play}

module _ (B : Type 0) (program : Program) (well : is_well_typed program ≡ true) (groups : List ℕ) (number : ℕ) (entry : List Measured) (entered : List Value) (own : Method) (all : List Ty) (all_types : list_all (is_type program) all ≡ true) where
  abbrev set : passing.Setting
  set = setting B program well groups number entry entered

  abbrev run : Running
  run = running B program well groups number entry entered

  -- on to the next statement from where the way leads
  next_on : (mode : Mode) (i : Interpretation) (n : ℕ) (moved : Moved) (before carried : Assigned) (more : List Said) (go : flows.Flow → Outcome B) → Onward B all (back own) mode i n (last_of (goes_on moved)) before carried more go
      → (k : Mode) (j : Interpretation) (t : State) → Moves mode i n k j → Stands program entry entered all k j moved.fresh moved.way before t → Play B k j moved.fresh more (λ handed. go (flows.Next (with_handed t handed)))
  next_on mode i n moved before carried more go h k j t moves here = h.on k j (flows.Next t) moves (inl (here.sits, tt), tt, tt)

  narrowed_here : (mode : Mode) (i : Interpretation) (n : ℕ) (way : Way) (before : Assigned) (s : State) (formula : Term) → IsBelow n formula → truth i formula ≡ true → Stands program entry entered all mode i n way before s → Stands program entry entered all mode i n (narrowed way formula) before s
  narrowed_here mode i n way before s formula below e here = record {
    env = here.env;
    path = narrowed_below n way.path formula here.path below;
    below = here.below;
    entered_is = here.entered_is;
    sits = record { there = narrowed_true i way.path formula here.sits.there ∙ e; sorted = here.sits.sorted; holds = here.sits.holds; set = here.sits.set; present = here.sits.present };
  }

  mutual
    pub stmt_then : (stmt : Stmt) (depth : ℕ) (locals : List Ty) (in_loop : Bool) (before : Assigned) (mode : Mode) (i : Interpretation) (n : ℕ) (way : Way) (s : State) (more : List Said) (go : flows.Flow → Outcome B)
        → Within (locals_after locals stmt) all → is_stmt (place program locals own in_loop) stmt ≡ true → AreDeclared (length locals) before → HasParameters own before → few own ≤ length locals → (flow own before stmt).missing ≡ []
        → (is_taking mode ≡ false → nesting stmt ≤ depth) → Stands program entry entered all mode i n way before s → Onward B all (back own) mode i n (last_of (pass_stmt set way stmt n)) (flow own before stmt).behind (flow own before stmt).breaks more go
        → Play B (ahead (handed_at i set way stmt n) mode) i n ((pass_stmt set way stmt n).said ++ more) (λ handed. after (execute (modular run depth) (with_handed s handed) stmt) go)
    stmt_then (Block at body) depth locals in_loop before mode i n way s more go within is declared params le missing deep here h = stmts_then body depth locals in_loop before mode i n way s more go within is declared params le missing deep here h
    stmt_then (Var at variables update) depth locals in_loop before mode i n way s more go within is declared params le missing deep here h =
        let m = modular run depth in
        let is = three (are_numbered (length locals) (variable_numbers variables)) (list_all (is_type program) (variable_types variables)) (may_update (place program (locals ++ variable_types variables) own in_loop) update) is in
        play_as B (ahead (handed_at_update i set update way n) mode) i n _ _ (λ handed. after (execute_optional m (with_handed (declare_all s variables) handed) update) (λ t. go (flows.Next t)))
        (λ handed. ap (λ x. after (go_on (execute_optional m x update)) go) (declared_handed variables s handed) ∙ after_after (execute_optional m (with_handed (declare_all s variables) handed) update) _ go)
        (optional_then B program well groups number entry entered m (program_of_modular run depth) (call_of_modular run depth) own (locals ++ variable_types variables) all within in_loop (declare before variables) update mode i n way (declare_all s variables) more (λ t. go (flows.Next t)) is.2 missing
        (declared_stands program entry entered all mode i n way variables before s here) (next_on mode i n (pass_optional set update way n) (assign_all (declare before variables) update) Unreached more go h))
    stmt_then (Assign at update) depth locals in_loop before mode i n way s more go within is declared params le missing deep here h =
        let m = modular run depth in
        play_as B (ahead (handed_at_update i set (Some update) way n) mode) i n _ _ (λ handed. after (execute_optional m (with_handed s handed) (Some update)) (λ t. go (flows.Next t))) (λ handed. after_after (execute_optional m (with_handed s handed) (Some update)) _ go)
        (optional_then B program well groups number entry entered m (program_of_modular run depth) (call_of_modular run depth) own locals all within in_loop before (Some update) mode i n way s more (λ t. go (flows.Next t)) is missing here
        (next_on mode i n (pass_optional set (Some update) way n) (assign_all before (Some update)) Unreached more go h))
    stmt_then (CallOf call) depth locals in_loop before mode i n way s more go within is declared params le missing deep here h =
        let m = modular run depth in
        let given = pass_call set call way n in
        let giving = call_giving set call way n here.path here.env here.below in
        play_as B (ahead (handed_at_call i set call way n) mode) i n _ _ (λ handed. after (execute_call m (with_handed s handed) call) (λ g. go (flows.Next g.state))) (λ handed. after_after (execute_call m (with_handed s handed) call) _ go)
        (call_plays B program well groups number entry entered m (program_of_modular run depth) (call_of_modular run depth) own locals all within in_loop before mode i n way s call more (λ g. go (flows.Next g.state)) is missing here (λ k j text moves are.
        next_on mode i n (saying given.said given.fresh way) before Unreached more go h k j (printed_state s text) moves (stands_moves program entry entered all mode k i j n given.fresh way before s (printed_state s text) giving.made.grows moves (λ x. refl) here)))
    stmt_then (If branches otherwise) depth locals in_loop before mode i n way s more go within is declared params le missing deep here h =
        let both_is = both (are_branches (place program locals own in_loop) branches) (are_stmts (place program (locals_after_branches locals branches) own in_loop) otherwise) is in
        let deeper : List Ty = locals_after_branches locals branches in
        let parted = pass_branches set way branches (λ last. pass_all set last otherwise) n in
        let changed = changed_outside_if branches otherwise in
        let parts = branches_flow set way branches (λ last. pass_all set last otherwise) n here.env here.path here.below (λ last more led grown. all_flows set last otherwise more led.env led.path_is grown) in
        let joined_said = (join_branches (path_behind way parted) way.env changed parted.ways parted.fresh).said in
        let flowing = flow_branches own before branches (flow_all own before otherwise) in
        let reached = here.sits.holds.0 in
        let grown = branches_grow locals branches in
        let there = if_there all branches otherwise (stmt_there (plain_meaning program) own (If branches otherwise) locals all in_loop within is) in
        let inner = rejoin_onward B all (back own) mode i n way parted changed flowing.behind flowing.breaks more go parts here.env here.path here.sits.there here.sits.sorted there
        (λ many k has e. if_covers set own k program branches otherwise way n locals in_loop before both_is.0 both_is.1 declared reached many has e) h in
        subst (λ said. Play B (ahead (handed_at_branches i set way branches (λ last. handed_at_all i set last otherwise) n) mode) i n said (λ handed. after (execute (modular run depth) (with_handed s handed) (If branches otherwise)) go)) (sym (append_assoc parted.said joined_said more))
        (branches_then branches otherwise depth locals in_loop before mode i n way s (joined_said ++ more) go (before_all deeper all otherwise within) both_is.0 declared params le missing (λ e. let most = (deep e) in omega (arith, most))
        (λ fresh last said none here_last on. stmts_then otherwise depth deeper in_loop before mode i fresh last s said go within both_is.1 (declared_more (length locals) (length deeper) before grown declared) params (le_trans le grown) none (λ e. let most = (deep e) in omega (arith, most)) here_last on)
        here inner)
    stmt_then (While at guard invariants decreases body) zero locals in_loop before mode i n way s more go within is declared params le missing deep here h =
        let ones = handed_at i set way (While at guard invariants decreases body) n in
        shallow_play B program well groups number entry entered own all all_types at guard invariants decreases body locals in_loop before within is declared missing (ahead ones mode) i n way s more go
        (λ e. let never = deep (sym (ahead_is ones mode) ∙ e) in absurd (omega (arith, never))) (stands_ahead program entry entered all ones mode i n way before s here)
    stmt_then (While at guard invariants decreases body) (suc depth) locals in_loop before mode i n way s more go within is declared params le missing deep here h =
        let parts = four (is_expr program locals types.Bool guard) (are_clauses program locals invariants) (is_measured (place program locals own in_loop) guard decreases) (are_stmts (place program locals own true) body) is in
        let turn : Flowing = flow_all own before body in
        let none = nothing_missing (unassigned before (reads guard ++ reads_of_clauses invariants ++ reads_of_measures decreases)) turn.missing missing in
        while_play B program well groups number entry entered own all all_types at guard invariants decreases body locals in_loop before within is declared missing depth mode i n way s more go here
        (λ k j fresh w t said on_go same here_in on. stmts_then body depth locals true before k j fresh w t said on_go within parts.3 declared params le none.1 (λ e. let most = deep (same ∙ e) in omega (arith, most)) here_in on) h
    stmt_then (Break at) depth locals in_loop before mode i n way s more go within is declared params le missing deep here h = h.on mode i (flows.Break s) (moves_here mode i n) (inl (here.sits, tt), tt, tt, refl)
    stmt_then (Return at update) depth locals in_loop before mode i n way s more go within is declared params le missing deep here h =
        let m = modular run depth in
        let none = nothing_missing (unassigned before (reads_of_update update)) (unassigned (assign_all before update) (results_at own at)) missing in
        let moved = pass_optional set update way n in
        play_as B (ahead (handed_at_update i set update way n) mode) i n _ _ (λ handed. after (execute_optional m (with_handed s handed) update) (λ t. go (flows.Return t))) (λ handed. after_after (execute_optional m (with_handed s handed) update) _ go)
        (optional_then B program well groups number entry entered m (program_of_modular run depth) (call_of_modular run depth) own locals all within in_loop before update mode i n way s more (λ t. go (flows.Return t))
        (return_updates (plain_meaning program) locals own in_loop update is) none.0 here (λ k j t moves there.
        h.on k j (flows.Return t) moves (inl (sits_less k j all moved.way (assign_all before update) (back own) t tt (back_has own at (assign_all before update) (λ x less. update_keeps update before x (params x less)) none.1) there.sits, tt), tt, tt, refl)))
    stmt_then (Assert at condition) depth locals in_loop before mode i n way s more go within is declared params le missing deep here h =
        let m = modular run depth in
        let owed = assert way.path at kinds.Assert (term_of way.env condition) in
        subst (λ said. Play B mode i n said (λ handed. after (execute m (with_handed s handed) (Assert at condition)) go)) (sym (append_assoc (assert_expr way condition) owed more))
        (play_as B mode i n _ _ (λ handed. after (evaluate m (with_handed s handed) condition) (λ v. if truth_of v then go (flows.Next (with_handed s handed)) else Wrong at kinds.Assert))
        (λ handed. after_if (evaluate m (with_handed s handed) condition) (Gives (flows.Next (with_handed s handed))) (Wrong at kinds.Assert) go (Wrong at kinds.Assert) refl)
        (expr_then B mode i n program m (program_of_modular run depth) here.entered_is.program_is locals all within before way s here.sits here.env here.path condition types.Bool (owed ++ more) (λ handed v. if truth_of v then go (flows.Next (with_handed s handed)) else Wrong at kinds.Assert) is missing (λ one.
        checked_then B mode i n way.path here.sits.there here.path at kinds.Assert (term_of way.env condition) (truth i (term_of way.env condition)) more (λ handed. go (flows.Next (with_handed s handed))) (term_below n way.env here.env condition) refl
        (next_on mode i n (saying (assert_expr way condition ++ owed) n way) before Unreached more go h mode i s (moves_here mode i n) here))))
    stmt_then (Print at operands) depth locals in_loop before mode i n way s more go within is declared params le missing deep here h =
        let m = modular run depth in
        play_as B mode i n _ _ (λ handed. after (print_all m (with_handed s handed) operands) (λ t. go (flows.Next t))) (λ handed. after_after (print_all m (with_handed s handed) operands) _ go)
        (print_then B program well groups number entry entered own all all_types depth locals within in_loop before operands mode i n way s more (λ t. go (flows.Next t)) is missing here (λ t there.
        next_on mode i n (saying (flat_map (assert_operand way) operands) n way) before Unreached more go h mode i t (moves_here mode i n) there))

    pub stmts_then : (stmts : Stmts) (depth : ℕ) (locals : List Ty) (in_loop : Bool) (before : Assigned) (mode : Mode) (i : Interpretation) (n : ℕ) (way : Way) (s : State) (more : List Said) (go : flows.Flow → Outcome B)
        → Within (locals_after_all locals stmts) all → are_stmts (place program locals own in_loop) stmts ≡ true → AreDeclared (length locals) before → HasParameters own before → few own ≤ length locals → (flow_all own before stmts).missing ≡ []
        → (is_taking mode ≡ false → nesting_all stmts ≤ depth) → Stands program entry entered all mode i n way before s → Onward B all (back own) mode i n (last_of (pass_all set way stmts n)) (flow_all own before stmts).behind (flow_all own before stmts).breaks more go
        → Play B (ahead (handed_at_all i set way stmts n) mode) i n ((pass_all set way stmts n).said ++ more) (λ handed. after (execute_all (modular run depth) (with_handed s handed) stmts) go)
    stmts_then done depth locals in_loop before mode i n way s more go within is declared params le missing deep here h = next_on mode i n (saying [] n way) before Unreached more go h mode i s (moves_here mode i n) here
    stmts_then (next stmt others) depth locals in_loop before mode i n way s more go within is declared params le missing deep here h =
        let m = modular run depth in
        let is = both (is_stmt (place program locals own in_loop) stmt) (are_stmts (place program (locals_after locals stmt) own in_loop) others) is in
        let deeper : List Ty = locals_after locals stmt in
        let one : Flowing = flow own before stmt in
        let two : Flowing = flow_all own one.behind others in
        let none = nothing_missing one.missing two.missing missing in
        let carried = carries program own stmt locals in_loop before is.0 declared in
        let grown = grows locals stmt in
        let first = pass_stmt set way stmt n in
        let flows_first = stmt_flows set way stmt n here.env here.path here.below in
        let ones = handed_at i set way stmt n in
        let behind = handed_behind i first (λ fresh on. handed_at_all i set on others fresh) in
        subst (λ start. Play B start i n ((pass_all set way (next stmt others) n).said ++ more) (λ handed. after (execute_all m (with_handed s handed) (next stmt others)) go)) (sym (ahead_append ones behind mode))
        (then_play B all (back own) mode (ahead ones (ahead behind mode)) i n way.path first (λ on. pass_all set on others first.fresh) one two (λ handed. execute m (with_handed s handed) stmt) more go (λ t. execute_all m t others)
        (λ u on. handed_at_all u set on others first.fresh) flows_first
        (λ on led. all_flows set on others first.fresh led.env led.path_is (measure_grows n first.fresh entry flows_first.made.grows here.below))
        (λ said on. stmt_then stmt depth locals in_loop before (ahead behind mode) i n way s said (λ f. after (goes (λ t. execute_all m t others) f) go) (before_all deeper all others within) is.0 declared params le none.0
        (λ e. let most = (deep (sym (ahead_is behind mode) ∙ e)) in omega (arith, most)) (stands_ahead program entry entered all behind mode i n way before s here) on)
        (λ on k j t led moves sits onward. stmts_then others depth deeper in_loop one.behind k j first.fresh on t more go within is.1 carried.behind (λ x less. carried.kept x (omega (arith, less, le)) (params x less)) (le_trans le grown) none.1
        (λ e. let most = (deep (moves.mode ∙ e)) in omega (arith, most))
        (record { env = led.env; path = led.path_is; below = measure_grows n first.fresh entry flows_first.made.grows here.below; entered_is = entered_moves program entry entered n i j moves.same here.below here.entered_is; sits = sits }) onward) h)

    branches_then : (branches : Branches) (otherwise : Stmts) (depth : ℕ) (locals : List Ty) (in_loop : Bool) (before : Assigned) (mode : Mode) (i : Interpretation) (n : ℕ) (way : Way) (s : State) (more : List Said) (go : flows.Flow → Outcome B)
        → Within (locals_after_branches locals branches) all → are_branches (place program locals own in_loop) branches ≡ true → AreDeclared (length locals) before → HasParameters own before → few own ≤ length locals → (flow_branches own before branches (flow_all own before otherwise)).missing ≡ []
        → (is_taking mode ≡ false → nesting_branches branches ≤ depth)
        → ((fresh : ℕ) (last : Way) (said : List Said) → (flow_all own before otherwise).missing ≡ [] → Stands program entry entered all mode i fresh last before s → Onward B all (back own) mode i fresh (last_of (pass_all set last otherwise fresh)) (flow_all own before otherwise).behind (flow_all own before otherwise).breaks said go
        → Play B (ahead (handed_at_all i set last otherwise fresh) mode) i fresh ((pass_all set last otherwise fresh).said ++ said) (λ handed. after (execute_all (modular run depth) (with_handed s handed) otherwise) go))
        → Stands program entry entered all mode i n way before s → Onward B all (back own) mode i n (pass_branches set way branches (λ last. pass_all set last otherwise) n) (flow_branches own before branches (flow_all own before otherwise)).behind (flow_branches own before branches (flow_all own before otherwise)).breaks more go
        → Play B (ahead (handed_at_branches i set way branches (λ last. handed_at_all i set last otherwise) n) mode) i n ((pass_branches set way branches (λ last. pass_all set last otherwise) n).said ++ more) (λ handed. after (execute_branches (modular run depth) (with_handed s handed) branches (execute_all (modular run depth) (with_handed s handed) otherwise)) go)
    branches_then no_branch otherwise depth locals in_loop before mode i n way s more go within is declared params le missing deep last here h = last n way more missing here h
    branches_then (branch at guard body rest) otherwise depth locals in_loop before mode i n way s more go within is declared params le missing deep last here h =
        let m = modular run depth in
        let is = three (is_expr program locals types.Bool guard) (are_stmts (place program locals own in_loop) body) (are_branches (place program (locals_after_all locals body) own in_loop) rest) is in
        let deeper : List Ty = locals_after_all locals body in
        let one : Flowing = flow_all own before body in
        let two : Flowing = flow_branches own before rest (flow_all own before otherwise) in
        let none = nothing_missing (unassigned before (reads guard) ++ one.missing) two.missing missing in
        let none_first = nothing_missing (unassigned before (reads guard)) one.missing none.0 in
        let g = term_of way.env guard in
        let taken = narrowed way g in
        let passed = narrowed way (negation g) in
        let flow_in = pass_all set taken body n in
        let others = pass_branches set passed rest (λ last. pass_all set last otherwise) flow_in.fresh in
        let asked = assert_expr way guard in
        let term_is = term_below n way.env here.env guard in
        let negation_is : IsBelow n (negation g) = rw (term_is) refl in
        let taken_path = narrowed_below n way.path g here.path term_is in
        let passed_path = narrowed_below n way.path (negation g) here.path negation_is in
        let flows_in = all_flows set taken body n here.env taken_path here.below in
        let parts = branches_flow set passed rest (λ last. pass_all set last otherwise) flow_in.fresh (env_grows n flow_in.fresh way.env flows_in.made.grows here.env) (path_grows n flow_in.fresh passed.path flows_in.made.grows passed_path) (measure_grows n flow_in.fresh entry flows_in.made.grows here.below)
        (λ last more led grown. all_flows set last otherwise more led.env led.path_is grown) in
        let grown = all_grow locals body in
        let inner = handed_at_all i set taken body n in
        let outer = handed_at_branches i set passed rest (λ last. handed_at_all i set last otherwise) flow_in.fresh in
        let ones = if truth i g then inner else outer in
        let start = ahead ones mode in
        subst (λ said. Play B start i n said (λ handed. after (execute_branches m (with_handed s handed) (branch at guard body rest) (execute_all m (with_handed s handed) otherwise)) go)) (sym (three_parts asked flow_in.said others.said more))
        (play_as B start i n _ _ (λ handed. after (evaluate m (with_handed s handed) guard) (λ v. after (if truth_of v then execute_all m (with_handed s handed) body else execute_branches m (with_handed s handed) rest (execute_all m (with_handed s handed) otherwise)) go)) (λ handed. after_after (evaluate m (with_handed s handed) guard) _ go)
        (expr_then B start i n program m (program_of_modular run depth) here.entered_is.program_is locals all (before_branches locals all (branch at guard body rest) within) before way s (stands_ahead program entry entered all ones mode i n way before s here).sits here.env here.path guard types.Bool (flow_in.said ++ (others.said ++ more))
        (λ handed v. after (if truth_of v then execute_all m (with_handed s handed) body else execute_branches m (with_handed s handed) rest (execute_all m (with_handed s handed) otherwise)) go) is.0 none_first.0 (λ known.
        decide B flows.Flow mode inner outer i n (flow_in.said ++ (others.said ++ more)) (λ handed. execute_all m (with_handed s handed) body) (λ handed. execute_branches m (with_handed s handed) rest (execute_all m (with_handed s handed) otherwise)) go (truth i g)
        (λ is_true. stmts_then body depth locals in_loop before mode i n taken s (others.said ++ more) go (before_branches deeper all rest within) is.1 declared params le none_first.1 (λ e. let most = (deep e) in omega (arith, most))
        (narrowed_here mode i n way before s g term_is is_true here)
        (taken_onward B all (back own) mode i n taken.path passed.path flow_in others one two asked more go flows_in parts taken_path passed_path h (narrowed_true i way.path (negation g) here.sits.there ∙ ap not is_true)))
        (λ is_false. passed_play B all (back own) mode i n taken.path passed.path flow_in others one two asked more go flows_in parts taken_path passed_path h (ahead outer mode)
        (λ handed. after (execute_branches m (with_handed s handed) rest (execute_all m (with_handed s handed) otherwise)) go) (narrowed_true i way.path g here.sits.there ∙ is_false) (λ onward.
        branches_then rest otherwise depth deeper in_loop before mode i flow_in.fresh passed s more go within is.2 (declared_more (length locals) (length deeper) before grown declared) params (le_trans le grown) none.1 (λ e. let most = (deep e) in omega (arith, most)) last
        (stands_moves program entry entered all mode mode i i n flow_in.fresh passed before s s flows_in.made.grows (moves_here mode i n) (λ x. refl) (narrowed_here mode i n way before s (negation g) negation_is (ap not is_false) here)) onward)))))
