use Rattle.df_nghost.proofs.Points.{extends_on}
use Rattle.df_nghost.proofs.flow.Flow.return_at.Goals as goal

pub returns-clause-extends : goal.returns-clause-extends
returns-clause-extends c =
    extends_on c.args.self.now.assigned c.results.new.self.assigned c.leave.new.self (rw c.results.ensures.same c.in_ok-optional.ensures.extends) c.leave.ensures.extends
