use Rattle.df_nflow.proofs.Words.{◌≡◌, ◌+◌, List, ◌∷◌, map, drop, refl, sym, ap, ◌∙◌, flat_map, list_all, and_parts, drop_all, Operand, operand_of, program_of, DeclaredOperand, grows_not, grows_then, drop_next, Way, assert_operand, standing_of, Standing, also, is_operand_over}
use Rattle.df_nflow.proofs.Standings.{also_next, also_last}
use Rattle.df_nflow.proofs.passed.Passed.print.Goals as goal

pub loop-operand-init : goal.loop-operand-init
loop-operand-init c = record { grows = grows_not c.args.self.now.ledger.nodes; over = c.requires; said = refl }

pub operand-requires : goal.operand-requires
operand-requires c =
    let l = c.loop-operand in
    let program = program_of c.args.setting.now.program.now in
    let xs = c.args.operands.now in
    let x = c.operand-item.result in
    let next = map operand_of (drop (l.operand-index + 1) xs) in
    let is : map operand_of (drop l.operand-index xs) ≡ operand_of x ∷ next = ap (map operand_of) (drop_next xs l.operand-index x c.operand-item.is c.loop-operand-test.true) in
    let over = and_parts (is_operand_over program l.self.types.items (operand_of x)) (list_all (is_operand_over program l.self.types.items) next) (sym (ap (list_all (is_operand_over program l.self.types.items)) is) ∙ l.invariant.over) in
    over.0

pub loop-operand-preserved : goal.loop-operand-preserved
loop-operand-preserved c =
    let l = c.loop-operand in
    let program = program_of c.args.setting.now.program.now in
    let xs = c.args.operands.now in
    let x = c.operand-item.result in
    let next = map operand_of (drop (l.operand-index + 1) xs) in
    let is : map operand_of (drop l.operand-index xs) ≡ operand_of x ∷ next = ap (map operand_of) (drop_next xs l.operand-index x c.operand-item.is c.loop-operand-test.true) in
    let over = and_parts (is_operand_over program l.self.types.items (operand_of x)) (list_all (is_operand_over program l.self.types.items) next) (sym (ap (list_all (is_operand_over program l.self.types.items)) is) ∙ l.invariant.over) in
    let old = standing_of c.args.self.now in
    let here = standing_of l.self in
    let new = standing_of c.operand.new.self in
    let way : here.way ≡ old.way = ap (λ (s : Standing). s.way) l.invariant.said in
    let step : new ≡ also (assert_operand old.way (operand_of x)) here = c.in_ok-operand.ensures.said ∙ ap (λ (w : Way). also (assert_operand w (operand_of x)) here) way in
    record {
      grows = grows_then c.args.self.now.ledger.nodes l.self.ledger.nodes c.operand.new.self.ledger.nodes l.invariant.grows c.operand.ensures.grows;
      over = ap (λ (s : Standing). list_all (is_operand_over program s.types) next) step ∙ over.1;
      said = also_next old here new _ (assert_operand old.way (operand_of x)) (flat_map (assert_operand old.way) next) (ap (λ (os : List Operand). also (flat_map (assert_operand old.way) os) here) (sym is) ∙ l.invariant.said) step;
    }

pub returns-clause-said : goal.returns-clause-said
returns-clause-said c =
    let l = c.loop-operand in
    also_last (standing_of c.args.self.now) (standing_of l.self) _
    (ap (λ (os : List DeclaredOperand). also (flat_map (assert_operand (standing_of c.args.self.now).way) (map operand_of os)) (standing_of l.self)) (sym (drop_all l.operand-index c.args.operands.now c.loop-operand-test.false)) ∙ l.invariant.said)

-- ---- on every way out

pub returns-in_err-operand-clause-grows : goal.returns-in_err-operand-clause-grows
returns-in_err-operand-clause-grows c = grows_then _ _ _ c.loop-operand.invariant.grows c.operand.ensures.grows

pub returns-clause-grows : goal.returns-clause-grows
returns-clause-grows c = c.loop-operand.invariant.grows
