use Rattle.df_nflow.proofs.Words.{List, [], ◌∷◌, ◌++◌, take, drop, Some, sym, ap, ◌∙◌, take-map, drop-map, tree_at, trees_in, Standing, arrival_in, arrivals_in, changed_in, Arrival, arrival, DeclaredArrived}
use Rattle.df_nflow.proofs.passed.Passed.ways_past.Goals as goal

pub returns-clause-standing : goal.returns-clause-standing
returns-clause-standing c =
    let r = c.rewind.new.self in
    let same = c.in_ok-rewind.ensures.standing in
    let nodes = c.in_ok-rewind.ensures.nodes in
    let breaks = ap (arrivals_in r.ledger.nodes) c.in_ok-breaks.ensures.items ∙ sym (take-map (arrival_in r.ledger.nodes) c.args.first r.breaks.items) ∙ ap (λ (a : Standing). take c.args.first a.breaks) same in
    λ i. record {
      types = (same i).types;
      entry = (same i).entry;
      said = (same i).said;
      fresh = (same i).fresh;
      way = record { env = (same i).way.env; path = Some (tree_at (nodes i) c.args.past) };
      trail = (same i).trail;
      breaks = breaks i;
      returns = (same i).returns;
    }

pub returns-clause-ways : goal.returns-clause-ways
returns-clause-ways c =
    let r = c.rewind.new.self in
    let nodes = r.ledger.nodes in
    let one = c.in_ok-arrived.field-0 in
    let push = c.in_ok-push.ensures.items ∙ ap (λ (ways : List DeclaredArrived). ways ++ one ∷ []) c.new-ways.ensures.items in
    let tail = c.in_ok-breaks.ensures.tail in
    let is = c.in_ok-arrived.ensures.arrival in
    ap (arrivals_in nodes) (c.in_ok-append.ensures.items ∙ (λ i. push i ++ tail i)) ∙ (λ i. is i ∷ arrivals_in nodes (drop c.args.first r.breaks.items))
    ∙ ap (λ (behind : List Arrival). arrival (changed_in c.args.changed.now) (record { env = trees_in nodes r.terms.items; path = Some (tree_at nodes c.args.past) }) ∷ behind) (sym (drop-map (arrival_in nodes) c.args.first r.breaks.items) ∙ ap (λ (a : Standing). drop c.args.first a.breaks) c.in_ok-rewind.ensures.standing)
