use Rattle.std.proofs.Common.{[], arith}
use Rattle.df_groups2.specs.GraphView.{targets_of}
use Rattle.df_groups2.specs.Searching.{IsSearching}
use Rattle.df_groups2.proofs.Searches.{search_done, search_ends}
use Rattle.df_groups2.proofs.finishing.finishing_order.Goals as goal

searched : (c : goal.After-drop-search-3) → IsSearching (targets_of c.args.graph.now) c.len-count.result c.run.new.self.entered.items [] c.reverse.new.self.items
searched c =
    search_done (targets_of c.args.graph.now) c.len-count.result c.in_ok-vec.field-0.items c.in_ok-enter_each.field-0.items c.new.result.items c.run.new.self.entered.items c.run.new.self.steps.items c.run.new.self.finished.items c.reverse.new.self.items
    (c.in_ok-vec.ensures.items_if_clones_equal (λ y e. e)) c.in_ok-enter_each.ensures c.new.ensures.items (c.in_ok-run.ensures.keeps c.len-count.result) c.in_ok-run.ensures.done c.reverse.ensures.items

pub returns-clause-order : goal.returns-clause-order
returns-clause-order c = (searched c).order

pub returns-clause-all : goal.returns-clause-all
returns-clause-all c = λ vertex lt. search_ends (targets_of c.args.graph.now) c.len-count.result c.run.new.self.entered.items c.reverse.new.self.items (searched c) vertex (omega (arith, c.len-count.ensures))
