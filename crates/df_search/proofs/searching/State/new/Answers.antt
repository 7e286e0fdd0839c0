use Rattle.std.proofs.Common.{◌≡◌, length, refl, ap, ◌∙◌, arith}
use Rattle.std.specs.List.{range_with_len}
use Rattle.df_trig.proofs.Grounds.{instances_ground}
use Rattle.df_search.specs.declared.searching.State.{State}
use Rattle.df_search.proofs.Beginning.{begins}
use Rattle.df_search.proofs.searching.State.new.Goals as goal

pub returns-clause-begins : goal.returns-clause-begins
returns-clause-begins c = λ s rounds valid is.
    let state : State = record { alloc = c.args.alloc; set = c.args.ground.nodes; clauses = c.in_ok-clauses.clauses; places = c.in_ok-places.places; derivation = c.new.result; trail = c.new-2.result; closed = c.new-3.result; point = c.new-4.result } in
    let many : c.len-count.result ≡ length c.args.ground.clauses = omega (arith, c.len-count.ensures.len) in
    begins s rounds c.args.ground state valid is (instances_ground s rounds c.args.ground valid is) refl c.in_ok-clauses.ensures (c.in_ok-places.ensures ∙ ap (range_with_len 0) many) (c.new.ensures.nodes ∙ c.in_ok-nodes.ensures) c.new.ensures.lines (omega (arith, c.new.ensures.clauses, c.len-count.ensures.len)) c.new-2.ensures c.new-3.ensures.items
