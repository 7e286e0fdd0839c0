use Rattle.std.proofs.Common.{ℕ, List, sym, subst}
use Rattle.df_form.specs.Node.{node_of}
use Rattle.df_rules.proofs.Results.{on_ok}
use Rattle.df_classes.specs.mirror.Users.{AddsUser}
use Rattle.df_classes.proofs.NumberNodes.{users_more, users_none}
use Rattle.df_classes.proofs.Parts.{parts_inside}
use Rattle.df_classes.proofs.users.add_node.Goals as goal

pub returns-in-Some : goal.returns-in-Some
returns-in-Some c =
    let nodes = c.args.nodes.now in
    let p = c.args.number in
    let node = node_of c.in-Some.node.now in
    on_ok c.add_user.result
    (λ adds. users_more nodes c.args.users.now c.add_user.new.users p node (sym c.in-Some.ensures.node) (λ n there. parts_inside nodes p node n c.in-Some.ensures.sorted there) c.requires (subst (λ (parts : List ℕ). AddsUser c.args.users.now c.add_user.new.users parts p) c.deref.ensures.value adds))
    c.add_user.ensures

pub returns-in-None : goal.returns-in-None
returns-in-None c = users_none c.args.nodes.now c.args.users.now c.args.number (sym c.in-None.ensures.node) c.requires
