use Rattle.df_form.specs.Node.{node_of}
use Rattle.df_clause.proofs.Growing.{meanings_long}
use Rattle.df_clause.proofs.ground.Ground.meaning_count.Goals as goal

pub returns-in-Some : goal.returns-in-Some
returns-in-Some c = meanings_long c.args.self.now.nodes c.args.number (node_of c.in-Some.node.now) c.connective_count.result c.connective_count.ensures c.in-Some.ensures.node
