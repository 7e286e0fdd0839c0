use Rattle.df_nflow.proofs.Words.{ap, ◌∙◌, refl, method_of, standing_of, Standing, are_at, changed_in, on_ok_then}
use Rattle.df_nflow.proofs.Arriving.{all_there}
use Rattle.df_nflow.proofs.Ending.{arrive_left, ended_said}
use Rattle.df_nflow.proofs.Entering.{exits_at}
use Rattle.df_nflow.proofs.Leaving.{sorted_way}
use Rattle.df_nflow.proofs.passed.Passed.end.Goals as goal

pub leave_at_end-requires : goal.leave_at_end-requires
leave_at_end-requires c = exits_at (method_of c.args.method.now) c.args.self.now.types.items (changed_in c.args.exits.now) c.requires.types c.requires.exits

pub join_ways_out-requires-clause-exits : goal.join_ways_out-requires-clause-exits
join_ways_out-requires-clause-exits c =
    let changed = changed_in c.args.exits.now in
    ap (λ (s : Standing). are_at s.types changed) c.in_ok-leave_at_end.ensures.standing ∙ exits_at (method_of c.args.method.now) c.args.self.now.types.items changed c.requires.types c.requires.exits

pub join_ways_out-requires-clause-there : goal.join_ways_out-requires-clause-there
join_ways_out-requires-clause-there c =
    let s = c.args.self.now in
    let changed = changed_in c.args.exits.now in
    let at = exits_at (method_of c.args.method.now) s.types.items changed c.requires.types c.requires.exits in
    let sorted = sorted_way s.ledger.nodes s.types.items s.terms.items (standing_of s).way changed refl s.is_passed.have_terms at in
    all_there changed _ _ (arrive_left changed c.args.onward.goes_on (standing_of s) (standing_of c.leave_at_end.new.self) c.requires.returns.0 c.in_ok-leave_at_end.ensures.standing c.requires.returns.1 sorted)

pub owe_postconditions-requires-clause-types : goal.owe_postconditions-requires-clause-types
owe_postconditions-requires-clause-types c =
    let s = c.args.self.now in
    let changed = changed_in c.args.exits.now in
    let at = exits_at (method_of c.args.method.now) s.types.items changed c.requires.types c.requires.exits in
    let sorted = sorted_way s.ledger.nodes s.types.items s.terms.items (standing_of s).way changed refl s.is_passed.have_terms at in
    (c.in_ok-goes_on.ensures.joins _ (arrive_left changed c.args.onward.goes_on (standing_of s) (standing_of c.leave_at_end.new.self) c.requires.returns.0 c.in_ok-leave_at_end.ensures.standing c.requires.returns.1 sorted)).types
    ∙ ap (λ (a : Standing). a.types) c.in_ok-leave_at_end.ensures.standing ∙ c.requires.types

pub returns : goal.returns
returns c =
    let s = c.args.self.now in
    let changed = changed_in c.args.exits.now in
    let at = exits_at (method_of c.args.method.now) s.types.items changed c.requires.types c.requires.exits in
    let sorted = sorted_way s.ledger.nodes s.types.items s.terms.items (standing_of s).way changed refl s.is_passed.have_terms at in
    record {
      ended = on_ok_then c.owe_postconditions.result c.owe_postconditions.ensures.said (λ owed. λ start flow p no_trail no_returns.
          ended_said changed (method_of c.args.method.now).postconditions start (standing_of s) (standing_of c.leave_at_end.new.self) (standing_of c.join_ways_out.new.self) (standing_of c.owe_postconditions.new.self) flow
          c.args.onward.goes_on c.args.onward.loses c.in_ok-goes_on.goes_on p no_trail no_returns sorted c.in_ok-leave_at_end.ensures.standing c.in_ok-goes_on.ensures.joins owed);
    }
