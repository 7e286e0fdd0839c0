use Rattle.df_clause.specs.GroundView.{set_of}
use Rattle.df_clause.proofs.Kept.{connective_kept, connective_lacks}
use Rattle.df_clause.proofs.ground.Ground.add_connective.Goals as goal

pub returns-in-Ok : goal.returns-in-Ok
returns-in-Ok c =
    connective_kept c.args.self.now c.keep.new.self c.connective.new.nodes c.args.node c.args.clause c.len-before.result c.bound_at-bound.result c.in-Ok.literals.items
    c.in-Ok.ensures c.len-before.ensures.len c.bound_at-bound.ensures c.keep.result c.keep.ensures

-- there the nodes are as they were
pub returns-in-Err-NoSuch : goal.returns-in-Err-NoSuch
returns-in-Err-NoSuch c =
    let old = c.args.self.now in
    let told = rw c.in-Err-NoSuch.field-0-is at c.in-Err-NoSuch.ensures in
    connective_lacks old (record { nodes = c.connective.new.nodes; clauses = old.clauses; lines = old.lines }) c.args.node c.args.clause told.0
    (λ i. record { nodes = told.1 i; clauses = old.clauses; lines = (set_of old).lines })

pub returns-in-Err-Memory : goal.returns-in-Err-Memory
returns-in-Err-Memory c =
    let old = c.args.self.now in
    let same = rw c.in-Err-Memory.field-0-is at c.in-Err-Memory.ensures in
    λ i. record { nodes = same i; clauses = old.clauses; lines = (set_of old).lines }
