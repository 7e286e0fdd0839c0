use Rattle.df_nflow.proofs.Words.{◌≡◌, ◌+◌, rules, IfOk, Bool, true, false, ◌||◌, List, map, drop, length, refl, sym, ap, ◌∙◌, subst, arith, and_parts, drop_all, length-map, flat_map, stmts_in, branches_in, expr_of, loop_measure, Stmt, Print, While, Stmts, next, Clause, If, clause_of, operand_of, stmt_of, program_of, the_lemmas, DeclaredStmt, Ty, DeclaredOperand, Changed, tree_at, grows_not, grows_same, grows_then, term_stays, tree_stays, stays, path_same, if_ok, drop_next, AreMembers, decreases_in, measured_in, Measured, measured, Truths, Way, assert_operand, assert_turn, changed_outside, pass_all, pass_branches, pass_stmt, rejoined, Parts, AllThere, loop_head, loop_past, turned_if, past_loop, join_past, standing_of, Standing, also, Passes, Moves, Joins, are_at, is_over, are_over, arrival_in, changed_in, kept_in, all_ended_in, arrivals_in, setting_of, Arrive, measured_stay, measured_same, path_is, has_path_stays}
use Rattle.df_nflow.proofs.Arriving.{all_there}
use Rattle.df_nflow.proofs.Flowing.{moves_pass}
use Rattle.df_nflow.proofs.Going.{Going, going_on, going_done}
use Rattle.df_nflow.proofs.Leaving.{told}
use Rattle.df_nflow.proofs.Looping.{longer, breaks_arrive, loop_passes, body_over, changed_at}
use Rattle.df_nflow.proofs.Parting.{branch_over, arrived_more, ended_more, ended_there, part_next, part_last, if_parts}
use Rattle.df_nlocals.proofs.Branches.{branch_next}
use Rattle.df_nflow.proofs.Standings.{also_moves}
use Rattle.df_nflow.proofs.passed.Passed.+stmt.Goals as goal
use Rattle.df_nflow.proofs.passed.Passed.+stmt.Goals.{stmts-then-loses, stmts-else-loses}

pub looping-end_loop-requires-clause-past : goal.looping-end_loop-requires-clause-past
looping-end_loop-requires-clause-past t c = term_stays Truths c.begin_loop.new.self.ledger.nodes c.turn_if.new.self.ledger.nodes c.in_ok-past.past (grows_then _ _ _ c.stmts.ensures.grows c.turn_if.ensures.grows) c.in_ok-past.ensures.formula

-- ---- branches

pub branch-returns-clause-parts : goal.branch-returns-clause-parts
branch-returns-clause-parts t c =
    let s = c.args.self.now in
    let mark : c.len-mark.result ≡ length (standing_of s).trail = omega (arith, c.len-mark.ensures, s.trail.ok.0, length-map s.trail.items (kept_in s.ledger.nodes)) in
    if_ok c.end_branch.result _ _ c.end_branch.ensures.parts (λ parted by. by (changed_in c.args.exits.in_loop.now) (changed_in c.args.exits.in_method.now) (standing_of s) _ c.in_ok-onward.ensures.passes mark)

pub branches-branch-self-requires : goal.branches-branch-self-requires
branches-branch-self-requires t c =
    let l = c.loop-branch in
    let types = ap (λ (s : Standing). s.types) c.in_ok-past.ensures.standing ∙ l.invariant.types in
    let over = branch_over c.deref-branch-items.result.now l.branch-index c.branch-item.result c.branch-item.is c.loop-branch-test.true (program_of c.args.setting.now.program.now) c.args.self.now.types.items l.invariant.over in (
      search (rules, the_lemmas),
      (
        ap (λ (ts : List Ty). are_over (program_of c.args.setting.now.program.now) ts (stmts_in c.branch-item.result.body.items)) types ∙ over.1,
        (
          ap (λ (ts : List Ty). are_at ts (changed_in c.args.exits.in_loop.now)) types ∙ c.requires.in_loop,
          (
            ap (λ (ts : List Ty). are_at ts (changed_in c.args.exits.in_method.now)) types ∙ c.requires.in_method,
            ap (λ (ts : List Ty). are_at ts (changed_in c.args.changed.now)) types ∙ c.requires.changed,
          ),
        ),
      ),
    )

pub branches-invariant_of-self : goal.branches-invariant_of-self
branches-invariant_of-self t c =
    let new = c.branch-self.new.self in
    ((record { path_is = term_stays Truths c.enter_branch.new.self.ledger.nodes new.ledger.nodes c.in_ok-past.past c.branch-self.ensures.grows c.in_ok-past.ensures.formula; are_said = new.ledger.is_ledger.are_said }, tt), (new.is_passed, tt))

pub branches-loop-branch-preserved : goal.branches-loop-branch-preserved
branches-loop-branch-preserved t c =
    let first = c.args.self.now in
    let l = c.loop-branch in
    let s = l.self in
    let mid = c.enter_branch.new.self in
    let new = c.branch-self.new.self in
    let b = c.branch-item.result in
    let bs = c.deref-branch-items.result.now in
    let enters = c.in_ok-past.ensures.standing in
    let parts = c.in_ok-branch.ensures.parts in
    let one = c.in_ok-branch.field-0 in
    let added = c.in_ok-add.ensures in
    let grows = grows_then s.ledger.nodes mid.ledger.nodes new.ledger.nodes c.enter_branch.ensures.grows c.branch-self.ensures.grows in
    let types = parts.types ∙ ap (λ (a : Standing). a.types) enters in
    record {
      grows = grows_then first.ledger.nodes s.ledger.nodes new.ledger.nodes l.invariant.grows grows;
      types = types ∙ l.invariant.types;
      entry = parts.entry ∙ ap (λ (a : Standing). a.entry) enters ∙ l.invariant.entry;
      over = (branch_over bs l.branch-index b c.branch-item.is c.loop-branch-test.true (program_of c.args.setting.now.program.now) first.types.items l.invariant.over).2;
      arrived = arrived_more s.ledger.nodes new.ledger.nodes s.types.items new.types.items grows types l.parted.arrived.items one.arrived.items c.add.new.self.arrived.items added.arrived l.invariant.arrived c.in_ok-branch.ensures.arrived;
      parting = λ otherwise. part_next (changed_in c.args.exits.in_loop.now) (changed_in c.args.exits.in_method.now) (changed_in c.args.changed.now) (setting_of c.args.setting.now) otherwise (standing_of first) (standing_of s) (branches_in bs) (branches_in (drop l.branch-index bs))
          (all_ended_in s.ledger.nodes l.parted.arrived.items) l.parted.loses (l.invariant.parting otherwise) (all_ended_in new.ledger.nodes one.arrived.items) (all_ended_in new.ledger.nodes c.add.new.self.arrived.items) one.loses c.add.new.self.loses l.invariant.entry
          (ended_more s.ledger.nodes new.ledger.nodes s.types.items new.types.items grows types l.parted.arrived.items one.arrived.items c.add.new.self.arrived.items added.arrived l.invariant.arrived) added.loses
          (standing_of mid) (standing_of new) b.pos (expr_of b.guard) (stmts_in b.body.items) (branches_in (drop (l.branch-index + 1) bs)) (tree_at new.ledger.nodes c.in_ok-past.past) (branch_next bs l.branch-index b c.branch-item.is c.loop-branch-test.true) enters parts
          (stays mid.ledger.nodes new.ledger.nodes _ c.in_ok-past.past c.branch-self.ensures.grows c.in_ok-past.ensures.stands).tree_is;
    }

pub branches-returns-clause-parts : goal.branches-returns-clause-parts
branches-returns-clause-parts t c =
    let l = c.loop-branch in
    let bs = c.deref-branch-items.result.now in
    λ otherwise last more m p. part_last (changed_in c.args.exits.in_loop.now) (changed_in c.args.exits.in_method.now) (changed_in c.args.changed.now) (setting_of c.args.setting.now) otherwise (standing_of c.args.self.now) (standing_of l.self) (branches_in bs) (branches_in (drop l.branch-index bs))
    (all_ended_in l.self.ledger.nodes l.parted.arrived.items) l.parted.loses (l.invariant.parting otherwise) (branches_in c.args.branches.now.items) (ap branches_in (drop_all l.branch-index bs c.loop-branch-test.false)) (ap branches_in c.deref-branch-items.ensures.value) last more m p

pub stmt-rejoin-requires-clause-before : goal.stmt-rejoin-requires-clause-before
stmt-rejoin-requires-clause-before t c =
    let s = c.args.self.now in
    has_path_stays s.ledger.nodes c.branch-self.new.self.ledger.nodes s.ledger.path (grows_then s.ledger.nodes c.branches.new.self.ledger.nodes c.branch-self.new.self.ledger.nodes c.branches.ensures.grows c.branch-self.ensures.grows) s.ledger.is_ledger.path_is

pub stmt-rejoin-requires-clause-arrived : goal.stmt-rejoin-requires-clause-arrived
stmt-rejoin-requires-clause-arrived t c =
    let mid = c.branches.new.self in
    let new = c.branch-self.new.self in
    arrived_more mid.ledger.nodes new.ledger.nodes mid.types.items new.types.items c.branch-self.ensures.grows c.in_ok-branch-in-If.ensures.parts.types c.in_ok-parted-in-If.parted.arrived.items c.in_ok-branch-in-If.field-0.arrived.items c.add.new.self.arrived.items c.in_ok-add-in-If.ensures.arrived
    c.in_ok-parted-in-If.ensures.arrived c.in_ok-branch-in-If.ensures.arrived

pub stmt-rejoin-requires-clause-there : goal.stmt-rejoin-requires-clause-there
stmt-rejoin-requires-clause-there t c =
    let mid = c.branches.new.self in
    let new = c.branch-self.new.self in
    let before = c.in_ok-parted-in-If.parted in
    let one = c.in_ok-branch-in-If.field-0 in
    let added = c.in_ok-add-in-If.ensures in
    let together = ended_more mid.ledger.nodes new.ledger.nodes mid.types.items new.types.items c.branch-self.ensures.grows c.in_ok-branch-in-If.ensures.parts.types before.arrived.items one.arrived.items c.add.new.self.arrived.items added.arrived c.in_ok-parted-in-If.ensures.arrived in
    let parts = if_parts (changed_in c.args.exits.in_loop.now) (changed_in c.args.exits.in_method.now) (changed_in c.in_ok-changed-in-If.changed.items) (changed_in c.deref.result.now) (changed_in c.deref-in-If.result.now) (setting_of c.args.setting.now) (branches_in c.in-If.branches.items) (stmts_in c.in-If.otherwise.items)
    (standing_of c.args.self.now) (standing_of mid) (standing_of new) (all_ended_in mid.ledger.nodes before.arrived.items) (all_ended_in new.ledger.nodes one.arrived.items) (all_ended_in new.ledger.nodes c.add.new.self.arrived.items) before.loses one.loses c.add.new.self.loses
    (ap changed_in c.deref.ensures.value) (ap changed_in c.deref-in-If.ensures.value) c.in_ok-parted-in-If.ensures.entry together added.loses c.in_ok-parted-in-If.ensures.parts c.in_ok-branch-in-If.ensures.parts in
    let all = c.add.new.self.arrived.items in
    subst (λ (cs : List Changed). AllThere 0 cs (arrivals_in new.ledger.nodes all)) (sym (ap changed_in c.deref-in-If-2.ensures.value)) (ended_there new.ledger.nodes (changed_in c.in_ok-changed-in-If.changed.items) (standing_of c.args.self.now).way.env all _ parts.ways)

pub stmt-returns-in_ok-add-in-If-clause-passes : goal.stmt-returns-in_ok-add-in-If-clause-passes
stmt-returns-in_ok-add-in-If-clause-passes t c =
    let mid = c.branches.new.self in
    let new = c.branch-self.new.self in
    let before = c.in_ok-parted-in-If.parted in
    let one = c.in_ok-branch-in-If.field-0 in
    let added = c.in_ok-add-in-If.ensures in
    let together = ended_more mid.ledger.nodes new.ledger.nodes mid.types.items new.types.items c.branch-self.ensures.grows c.in_ok-branch-in-If.ensures.parts.types before.arrived.items one.arrived.items c.add.new.self.arrived.items added.arrived c.in_ok-parted-in-If.ensures.arrived in
    let parts = if_parts (changed_in c.args.exits.in_loop.now) (changed_in c.args.exits.in_method.now) (changed_in c.in_ok-changed-in-If.changed.items) (changed_in c.deref.result.now) (changed_in c.deref-in-If.result.now) (setting_of c.args.setting.now) (branches_in c.in-If.branches.items) (stmts_in c.in-If.otherwise.items)
    (standing_of c.args.self.now) (standing_of mid) (standing_of new) (all_ended_in mid.ledger.nodes before.arrived.items) (all_ended_in new.ledger.nodes one.arrived.items) (all_ended_in new.ledger.nodes c.add.new.self.arrived.items) before.loses one.loses c.add.new.self.loses
    (ap changed_in c.deref.ensures.value) (ap changed_in c.deref-in-If.ensures.value) c.in_ok-parted-in-If.ensures.entry together added.loses c.in_ok-parted-in-If.ensures.parts c.in_ok-branch-in-If.ensures.parts in
    let s = c.args.self.now in
    let old = standing_of s in
    let in_loop = changed_in c.args.exits.in_loop.now in
    let in_method = changed_in c.args.exits.in_method.now in
    let is : stmt_of c.args.stmt.now ≡ If (branches_in c.in-If.branches.items) (stmts_in c.in-If.otherwise.items) = search (rules, the_lemmas) in
    let set = setting_of c.args.setting.now old.entry in
    let all = pass_branches set old.way (branches_in c.in-If.branches.items) (λ (way : Way). pass_all set way (stmts_in c.in-If.otherwise.items)) old.fresh in
    let grows = grows_then s.ledger.nodes mid.ledger.nodes new.ledger.nodes c.branches.ensures.grows c.branch-self.ensures.grows in
    let path = path_same s.ledger.nodes new.ledger.nodes s.ledger.path grows (path_is s.ledger.nodes s.ledger.path s.ledger.is_ledger.path_is) in
    let parts = subst (λ (cs : List Changed). Parts cs in_loop in_method old all (standing_of new) (all_ended_in new.ledger.nodes c.add.new.self.arrived.items) c.add.new.self.loses) (sym (ap changed_in c.deref-in-If-2.ensures.value)) parts in
    subst (λ (stmt : Stmt). IfOk c.rejoin.result (λ onward. Passes in_loop in_method old (pass_stmt set old.way stmt old.fresh) (standing_of c.rejoin.new.self) onward.goes_on onward.loses)) (sym is)
    (if_ok c.rejoin.result _ _ c.rejoin.ensures.passes
    (λ onward by. subst (λ (cs : List Changed). Passes in_loop in_method old (rejoined cs old.way all) (standing_of c.rejoin.new.self) onward.goes_on onward.loses) (ap changed_in c.deref-in-If-2.ensures.value ∙ c.in_ok-changed-in-If.ensures) (by in_loop in_method old all parts path)))

pub stmt-returns-in_ok-print-in-Print-clause-passes : goal.stmt-returns-in_ok-print-in-Print-clause-passes
stmt-returns-in_ok-print-in-Print-clause-passes t c =
    let in_loop = changed_in c.args.exits.in_loop.now in
    let in_method = changed_in c.args.exits.in_method.now in
    let s = standing_of c.args.self.now in
    let new = standing_of c.print.new.self in
    let operands = map operand_of c.in-Print.operands.items in
    let said = flat_map (assert_operand s.way) operands in
    let is : stmt_of c.args.stmt.now ≡ Print c.in-Print.pos operands = search (rules, the_lemmas) in
    let same : new ≡ also said s = c.in_ok-print-in-Print.ensures.said ∙ ap (λ (os : List DeclaredOperand). also (flat_map (assert_operand s.way) (map operand_of os)) s) c.deref-in-Print.ensures.value in
    subst (λ (stmt : Stmt). Passes in_loop in_method s (pass_stmt (setting_of c.args.setting.now s.entry) s.way stmt s.fresh) new c.on-in-Print.result.goes_on c.on-in-Print.result.loses) (sym is)
    (told in_loop in_method s new _ true false _ _ c.on-in-Print.ensures.goes_on c.on-in-Print.ensures.loses (moves_pass in_loop in_method s new _ (also_moves s new said same)))

-- ---- loops

pub looping-stmts-requires : goal.looping-stmts-requires
looping-stmts-requires t c =
    let program = program_of c.args.setting.now.program.now in
    let types = c.in_ok-past.ensures.moves.types in
    let guard = expr_of c.args.guard.now in
    let invariants = map clause_of c.args.invariants.now.items in
    let decreases = decreases_in c.args.decreases.now in
    let body = stmts_in c.args.body.now.items in
    let old = c.args.self.now.types.items in
    let changed = ap changed_in c.deref-3.ensures.value ∙ c.in_ok-changed.ensures in (
      search (rules, the_lemmas),
      (
        ap (λ (ts : List Ty). are_over program ts body) types ∙ body_over program old c.args.pos guard invariants decreases body c.requires.typed,
        (
          ap (λ (ts : List Ty). are_at ts (changed_in c.deref-3.result.now)) types ∙ ap (are_at old) changed ∙ changed_at program old c.args.pos guard invariants decreases body c.requires.typed,
          ap (λ (ts : List Ty). are_at ts (changed_in c.args.exits.in_method.now)) types ∙ c.requires.in_method,
        ),
      ),
    )

pub looping-turn_if-requires-clause-before : goal.looping-turn_if-requires-clause-before
looping-turn_if-requires-clause-before t c =
    subst (AreMembers c.stmts.new.self.ledger.nodes) (sym c.deref-5.ensures.value) (measured_stay c.begin_loop.new.self.ledger.nodes c.stmts.new.self.ledger.nodes c.stmts.ensures.grows c.in_ok-past.before.items c.in_ok-past.ensures.are)

pub looping-end_loop-requires-clause-mark : goal.looping-end_loop-requires-clause-mark
looping-end_loop-requires-clause-mark t c =
    let p = c.in_ok-onward.ensures.passes in
    let a = c.begin_loop.new.self in
    let b = c.turn_if.new.self in
    let long = longer (kept_in a.ledger.nodes) (kept_in b.ledger.nodes) a.trail.items b.trail.items p.kept (ap (λ (s : Standing). s.trail) c.in_ok-turn_if.ensures.said ∙ p.trail) in
    omega (arith, long, c.len-mark.ensures, a.trail.ok.0, a.trail.ok.1)

pub looping-end_loop-requires-clause-first : goal.looping-end_loop-requires-clause-first
looping-end_loop-requires-clause-first t c =
    let p = c.in_ok-onward.ensures.passes in
    let a = c.begin_loop.new.self in
    let b = c.turn_if.new.self in
    let long = longer (arrival_in a.ledger.nodes) (arrival_in b.ledger.nodes) a.breaks.items b.breaks.items _ (ap (λ (s : Standing). s.breaks) c.in_ok-turn_if.ensures.said ∙ p.breaks) in
    omega (arith, long, c.len-first.ensures, a.breaks.ok.0, a.breaks.ok.1)

pub looping-end_loop-requires-clause-there : goal.looping-end_loop-requires-clause-there
looping-end_loop-requires-clause-there t c =
    let changed = changed_in c.deref-3.result.now in
    let same : changed_in c.deref-6.result.now ≡ changed = ap changed_in (c.deref-6.ensures.value ∙ sym c.deref-3.ensures.value) in
    let after = standing_of c.turn_if.new.self in
    let a = c.begin_loop.new.self in
    let first : c.len-first.result ≡ length (standing_of a).breaks = omega (arith, c.len-first.ensures, a.breaks.ok.0, a.breaks.ok.1, length-map a.breaks.items (arrival_in a.ledger.nodes)) in
    subst (λ (cs : List Changed). AllThere 0 cs (drop c.len-first.result after.breaks)) (sym same)
    (all_there changed _ _ (breaks_arrive (changed_in c.args.exits.in_method.now) changed (standing_of c.begin_loop.new.self) (standing_of c.stmts.new.self) after _ _ _ c.in_ok-onward.ensures.passes _ c.in_ok-turn_if.ensures.said c.len-first.result first))

pub looping-returns-clause-passes : goal.looping-returns-clause-passes
looping-returns-clause-passes t c =
    let in_loop = changed_in c.args.exits.in_loop.now in
    let in_method = changed_in c.args.exits.in_method.now in
    let set = setting_of c.args.setting.now in
    let guard = expr_of c.args.guard.now in
    let invariants = map clause_of c.args.invariants.now.items in
    let decreases = decreases_in c.args.decreases.now in
    let measures = loop_measure guard decreases in
    let body = stmts_in c.args.body.now.items in
    let changed = changed_outside body in
    let s = standing_of c.args.self.now in
    let a = standing_of c.begin_loop.new.self in
    let b = standing_of c.stmts.new.self in
    let after = standing_of c.turn_if.new.self in
    let d = standing_of c.end_loop.new.self in
    let inner = c.in_ok-onward.onward.goes_on in
    let n1 = c.begin_loop.new.self.ledger.nodes in
    let n2 = c.stmts.new.self.ledger.nodes in
    let n3 = c.turn_if.new.self.ledger.nodes in
    let is = c.in_ok-past.ensures in
    let past = tree_at n3 c.in_ok-past.past in
    let e1 : changed_in c.deref.result.now ≡ changed = ap changed_in c.deref.ensures.value ∙ c.in_ok-changed.ensures in
    let e3 : changed_in c.deref-3.result.now ≡ changed = ap changed_in c.deref-3.ensures.value ∙ c.in_ok-changed.ensures in
    let e6 : changed_in c.deref-6.result.now ≡ changed = ap changed_in c.deref-6.ensures.value ∙ c.in_ok-changed.ensures in
    let k2 : map clause_of c.deref-2.result.now ≡ invariants = ap (map clause_of) c.deref-2.ensures.value in
    let k4 : map clause_of c.deref-4.result.now ≡ invariants = ap (map clause_of) c.deref-4.ensures.value in
    let m : Moves s (loop_head changed guard invariants measures s.way s.fresh) a =
    subst (λ (cs : List Changed). Moves s (loop_head cs guard invariants measures s.way s.fresh) a) e1
    (subst (λ (ks : List Clause). Moves s (loop_head (changed_in c.deref.result.now) guard ks measures s.way s.fresh) a) k2 is.moves) in
    let past_is : past ≡ loop_past changed guard s.way s.fresh =
    tree_stays Truths n1 n3 c.in_ok-past.past (grows_then n1 n2 n3 c.stmts.ensures.grows c.turn_if.ensures.grows) is.formula ∙ is.past.tree_is ∙ ap (λ (cs : List Changed). loop_past cs guard s.way s.fresh) e1 in
    let p : Passes changed in_method a (pass_all (set a.entry) a.way body a.fresh) b inner c.in_ok-onward.onward.loses =
    subst (λ (cs : List Changed). Passes cs in_method a (pass_all (set a.entry) a.way body a.fresh) b inner c.in_ok-onward.onward.loses) e3 c.in_ok-onward.ensures.passes in
    let before : measured_in n2 c.deref-5.result.now ≡ measured a.way.env measures = ap (measured_in n2) c.deref-5.ensures.value ∙ measured_same n1 n2 c.stmts.ensures.grows c.in_ok-past.before.items is.are ∙ is.measured in
    let turned : after ≡ also (turned_if inner (assert_turn c.args.pos invariants measures (measured a.way.env measures)) b.way) b =
    c.in_ok-turn_if.ensures.said ∙ (λ i. also (turned_if inner (assert_turn c.args.pos (k4 i) measures (before i)) b.way) b) in
    let begun = c.begin_loop.new.self in
    let marks : c.len-mark.result ≡ length a.trail = omega (arith, c.len-mark.ensures, begun.trail.ok.0, begun.trail.ok.1, length-map begun.trail.items (kept_in n1)) in
    let firsts : c.len-first.result ≡ length a.breaks = omega (arith, c.len-first.ensures, begun.breaks.ok.0, begun.breaks.ok.1, length-map begun.breaks.items (arrival_in n1)) in
    let behind = past_loop c.len-mark.result c.len-first.result past after in
    loop_passes in_loop in_method set c.args.pos guard invariants decreases body s a b after d inner c.in_ok-goes_on.goes_on c.in_ok-onward.onward.loses c.len-mark.result c.len-first.result past m past_is p turned marks firsts
    (λ ways arrive. subst (λ (cs : List Changed). Joins behind (join_past cs behind ways) d c.in_ok-goes_on.goes_on) e6 (c.in_ok-goes_on.ensures.passes ways (subst (λ (cs : List Changed). Arrive cs (drop c.len-first.result after.breaks) ways) (sym e6) arrive)))

-- ---- statements in order

pub stmts-loop-stmt-preserved : goal.stmts-loop-stmt-preserved
stmts-loop-stmt-preserved t c =
    let l = c.loop-stmt in
    let items = c.deref-stmt-items.result.now in
    let x = c.stmt-item.result in
    let program = program_of c.args.setting.now.program.now in
    let types = c.args.self.now.types.items in
    let set = setting_of c.args.setting.now in
    let in_loop = changed_in c.args.exits.in_loop.now in
    let in_method = changed_in c.args.exits.in_method.now in
    let first = standing_of c.args.self.now in
    let here = standing_of l.self in
    let after = standing_of c.stmt.new.self in
    let rest = stmts_in (drop (l.stmt-index + 1) items) in
    let is : stmts_in (drop l.stmt-index items) ≡ next (stmt_of x) rest = ap stmts_in (drop_next items l.stmt-index x c.stmt-item.is c.loop-stmt-test.true) in
    let over = and_parts (is_over program types (stmt_of x)) (are_over program types rest) (sym (ap (are_over program types) is) ∙ l.invariant.over) in
    let whole = pass_all (set first.entry) first.way (stmts_in items) first.fresh in
    let going : Going in_loop in_method first whole here (pass_all (set first.entry) here.way (next (stmt_of x) rest) here.fresh) l.loses =
    subst (λ (ss : Stmts). Going in_loop in_method first whole here (pass_all (set first.entry) here.way ss here.fresh) l.loses) is l.invariant.going in
    let p = c.in_ok-onward.ensures.passes in
    let on : Passes in_loop in_method here (pass_stmt (set first.entry) here.way (stmt_of x) here.fresh) after true c.in_ok-onward.onward.loses =
    subst (λ (es : List Measured). Passes in_loop in_method here (pass_stmt (set es) here.way (stmt_of x) here.fresh) after true c.in_ok-onward.onward.loses) l.invariant.entry
    (told in_loop in_method here after _ c.in_ok-onward.onward.goes_on c.in_ok-onward.onward.loses true c.in_ok-onward.onward.loses (search rules) refl p) in
    let loses : c.if-loses.loses ≡ (l.loses || c.in_ok-onward.onward.loses) =
    elim c.if-loses.branch [ stmts-then-loses w ↦ w.loses-is ∙ w.if-loses.true ∙ ap (λ (b : Bool). b || c.in_ok-onward.onward.loses) (sym w.if-loses.true) | stmts-else-loses w ↦ w.loses-is ∙ ap (λ (b : Bool). b || c.in_ok-onward.onward.loses) (sym w.if-loses.false) ] in
    record {
      grows = grows_then _ _ _ l.invariant.grows c.stmt.ensures.grows;
      types = p.types ∙ l.invariant.types;
      entry = p.entry ∙ l.invariant.entry;
      over = over.1;
      going = subst (λ (b : Bool). Going in_loop in_method first whole after (pass_all (set first.entry) after.way rest after.fresh) b) (sym loses)
          (going_on in_loop in_method first here after whole (pass_stmt (set first.entry) here.way (stmt_of x) here.fresh) (λ fresh way. pass_all (set first.entry) way rest fresh) l.loses c.in_ok-onward.onward.loses going on);
    }

pub stmts-returns-clause-passes : goal.stmts-returns-clause-passes
stmts-returns-clause-passes t c =
    let l = c.loop-stmt in
    let set = setting_of c.args.setting.now in
    let in_loop = changed_in c.args.exits.in_loop.now in
    let in_method = changed_in c.args.exits.in_method.now in
    let first = standing_of c.args.self.now in
    let here = standing_of l.self in
    let items = c.deref-stmt-items.result.now in
    let whole = pass_all (set first.entry) first.way (stmts_in items) first.fresh in
    subst (λ (xs : List DeclaredStmt). Passes in_loop in_method first (pass_all (set first.entry) first.way (stmts_in xs) first.fresh) here true l.loses) c.deref-stmt-items.ensures.value
    (going_done in_loop in_method first here whole l.loses
    (subst (λ (xs : List DeclaredStmt). Going in_loop in_method first whole here (pass_all (set first.entry) here.way (stmts_in xs) here.fresh) l.loses) (drop_all l.stmt-index items c.loop-stmt-test.false) l.invariant.going))

pub stmt-looping-requires : goal.stmt-looping-requires
stmt-looping-requires t c =
    let is : stmt_of c.args.stmt.now ≡ While c.in-While.pos (expr_of c.in-While.guard) (map clause_of c.in-While.invariants.items) (decreases_in c.in-While.decreases) (stmts_in c.in-While.body.items) = search (rules, the_lemmas) in
    (search (rules, the_lemmas), (ap (is_over (program_of c.args.setting.now.program.now) c.args.self.now.types.items) (sym is) ∙ c.requires.typed, c.requires.in_method))

pub stmt-returns-in-While-clause-passes : goal.stmt-returns-in-While-clause-passes
stmt-returns-in-While-clause-passes t c =
    let s = standing_of c.args.self.now in
    let is : stmt_of c.args.stmt.now ≡ While c.in-While.pos (expr_of c.in-While.guard) (map clause_of c.in-While.invariants.items) (decreases_in c.in-While.decreases) (stmts_in c.in-While.body.items) = search (rules, the_lemmas) in
    subst (λ (stmt : Stmt). IfOk c.looping.result (λ onward. Passes (changed_in c.args.exits.in_loop.now) (changed_in c.args.exits.in_method.now) s (pass_stmt (setting_of c.args.setting.now s.entry) s.way stmt s.fresh) (standing_of c.looping.new.self) onward.goes_on onward.loses)) (sym is) c.looping.ensures.passes

-- ---- on every way out

pub stmt-returns-in_err-changed-in-If-clause-grows : goal.stmt-returns-in_err-changed-in-If-clause-grows
stmt-returns-in_err-changed-in-If-clause-grows t c = grows_not c.args.self.now.ledger.nodes

pub stmt-returns-in_err-branch-in-If-clause-grows : goal.stmt-returns-in_err-branch-in-If-clause-grows
stmt-returns-in_err-branch-in-If-clause-grows t c = grows_then _ _ _ c.branches.ensures.grows c.branch-self.ensures.grows

pub stmt-returns-in_err-add-in-If-clause-grows : goal.stmt-returns-in_err-add-in-If-clause-grows
stmt-returns-in_err-add-in-If-clause-grows t c = grows_then _ _ _ c.branches.ensures.grows c.branch-self.ensures.grows

pub stmt-returns-in_ok-add-in-If-clause-grows : goal.stmt-returns-in_ok-add-in-If-clause-grows
stmt-returns-in_ok-add-in-If-clause-grows t c = grows_then _ _ _ (grows_then _ _ _ c.branches.ensures.grows c.branch-self.ensures.grows) c.rejoin.ensures.grows

pub stmts-returns-in_err-onward-clause-grows : goal.stmts-returns-in_err-onward-clause-grows
stmts-returns-in_err-onward-clause-grows t c = grows_then _ _ _ c.loop-stmt.invariant.grows c.stmt.ensures.grows

pub stmts-returns-clause-grows : goal.stmts-returns-clause-grows
stmts-returns-clause-grows t c = c.loop-stmt.invariant.grows

pub branch-returns-clause-grows : goal.branch-returns-clause-grows
branch-returns-clause-grows t c = grows_then _ _ _ c.stmts.ensures.grows (grows_same _ _ c.end_branch.ensures.nodes)

pub branches-returns-in_err-past-clause-grows : goal.branches-returns-in_err-past-clause-grows
branches-returns-in_err-past-clause-grows t c = grows_then _ _ _ c.loop-branch.invariant.grows c.enter_branch.ensures.grows

pub branches-returns-in_err-branch-clause-grows : goal.branches-returns-in_err-branch-clause-grows
branches-returns-in_err-branch-clause-grows t c = grows_then _ _ _ (grows_then _ _ _ c.loop-branch.invariant.grows c.enter_branch.ensures.grows) c.branch-self.ensures.grows

pub branches-returns-in_err-add-clause-grows : goal.branches-returns-in_err-add-clause-grows
branches-returns-in_err-add-clause-grows t c = grows_then _ _ _ (grows_then _ _ _ c.loop-branch.invariant.grows c.enter_branch.ensures.grows) c.branch-self.ensures.grows

pub branches-returns-clause-grows : goal.branches-returns-clause-grows
branches-returns-clause-grows t c = c.loop-branch.invariant.grows

pub looping-returns-in_err-changed-clause-grows : goal.looping-returns-in_err-changed-clause-grows
looping-returns-in_err-changed-clause-grows t c = grows_not c.args.self.now.ledger.nodes

pub looping-returns-in_err-onward-clause-grows : goal.looping-returns-in_err-onward-clause-grows
looping-returns-in_err-onward-clause-grows t c = grows_then _ _ _ c.begin_loop.ensures.grows c.stmts.ensures.grows

pub looping-returns-in_err-turn_if-clause-grows : goal.looping-returns-in_err-turn_if-clause-grows
looping-returns-in_err-turn_if-clause-grows t c = grows_then _ _ _ (grows_then _ _ _ c.begin_loop.ensures.grows c.stmts.ensures.grows) c.turn_if.ensures.grows

pub looping-returns-in_err-goes_on-clause-grows : goal.looping-returns-in_err-goes_on-clause-grows
looping-returns-in_err-goes_on-clause-grows t c = grows_then _ _ _ (grows_then _ _ _ (grows_then _ _ _ c.begin_loop.ensures.grows c.stmts.ensures.grows) c.turn_if.ensures.grows) c.end_loop.ensures.grows

pub looping-returns-clause-grows : goal.looping-returns-clause-grows
looping-returns-clause-grows t c = grows_then _ _ _ (grows_then _ _ _ (grows_then _ _ _ c.begin_loop.ensures.grows c.stmts.ensures.grows) c.turn_if.ensures.grows) c.end_loop.ensures.grows
