use Rattle.std.proofs.Common.{map, take, ap, ◌∙◌}
use Rattle.df_form.specs.Log.{step_of}
use Rattle.df_clause.specs.GroundView.{set_of}
use Rattle.df_clause.proofs.Kept.{is_kept, is_left_out}
use Rattle.df_clause.proofs.ground.Ground.keep.Goals as goal

pub returns-then-is_new : goal.returns-then-is_new
returns-then-is_new c =
    let told = c.in-Ok.ensures in
    is_kept c.args.before (step_of c.args.line) c.args.bound c.args.literals.items (set_of c.args.self.now) c.add.new.self.clauses (map step_of c.add.new.self.lines.items) c.in-Ok.is_new
    told.is_new told.clauses told.lines c.add.new.self.nodes told.nodes c.if-is_new.true

pub returns-else-is_new : goal.returns-else-is_new
returns-else-is_new c =
    let told = c.in-Ok.ensures in
    is_left_out c.args.before (step_of c.args.line) c.args.bound c.args.literals.items (set_of c.args.self.now) c.add.new.self.clauses (map step_of c.add.new.self.lines.items) c.in-Ok.is_new
    told.is_new told.clauses told.lines c.cut.new.self (c.cut.ensures ∙ ap (take c.args.before) told.nodes) c.if-is_new.false

pub returns-in-Err : goal.returns-in-Err
returns-in-Err c =
    let told = c.in-Err.ensures in
    λ i. record { nodes = (c.cut-in-Err.ensures ∙ ap (take c.args.before) told.nodes) i; clauses = told.same_clauses i; lines = told.same_lines i }
