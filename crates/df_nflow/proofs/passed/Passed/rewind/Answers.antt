use Rattle.df_nflow.proofs.Words.{◌≡◌, ◌-◌, ◌≤◌, List, length, sym, ap, ◌∙◌, subst, arith, Node, Ty, standing_of, Standing, AreKept, all_kept_in, back}
use Rattle.df_nflow.proofs.Trailing.{rewound}
use Rattle.df_nflow.proofs.passed.Passed.rewind.Goals as goal

pub loop-self-preserved : goal.loop-self-preserved
loop-self-preserved c =
    let l = c.loop-self in
    let new = c.step_back.new.self in
    let is = c.in_ok-step_back.ensures in
    let here = standing_of l.self in
    let fits : c.args.mark ≤ length l.self.trail.items - 1 = omega arith in
    let types : new.types.items ≡ l.self.types.items = ap (λ (s : Standing). s.types) is.standing in
    record {
      longer = omega (arith, is.shorter);
      nodes = is.nodes ∙ l.invariant.nodes;
      types = types ∙ l.invariant.types;
      standing = rewound c.args.mark (length l.self.trail.items - 1) here (standing_of new) _ fits is.standing l.invariant.standing;
      leads = ap (λ (nodes : List Node). back (all_kept_in nodes c.step_back.new.ahead.items) (standing_of new).way.env) (sym l.invariant.nodes) ∙ is.ahead ∙ ap (λ (nodes : List Node). back (all_kept_in nodes l.ahead.items) here.way.env) l.invariant.nodes ∙ l.invariant.leads;
      are_ahead = subst (λ (nodes : List Node). AreKept nodes c.args.self.now.types.items c.step_back.new.ahead.items) l.invariant.nodes (subst (λ (tys : List Ty). AreKept l.self.ledger.nodes tys c.step_back.new.ahead.items) l.invariant.types is.are_ahead);
    }
