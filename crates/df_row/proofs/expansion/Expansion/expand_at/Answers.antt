use Rattle.std.proofs.Common.{◌≡◌, ◌∙◌, sym, ap, subst, slice_get, rules, IfOk, ◌*ℤ◌}
use Rattle.std.proofs.lemmas.Int.{to_z-of_z}
use Rattle.df_integer.specs.Integer.{value}
use Rattle.df_row.specs.Row.{Row, with_more}
use Rattle.df_row.specs.ExpansionView.{expansion_of}
use Rattle.df_row.proofs.Rows.{passed, as_term}
use Rattle.df_row.proofs.expansion.Expansion.expand_at.Goals as goal

pub returns-in_ok-add-in-Sum : goal.returns-in_ok-add-in-Sum
returns-in_ok-add-in-Sum c =
    let nodes = c.args.nodes.now in
    let row = expansion_of c.args.self.now in
    let taken = expansion_of c.take-coefficient.new.self in
    let n = value c.take-coefficient.result in
    let e = as_term nodes c.args.node (slice_get nodes c.args.node) row taken _ n (sym c.in-Sum.is ∙ c.term_at.ensures) c.take-coefficient.ensures.coefficient c.take-coefficient.ensures.after in
    let P : Row → Type 0 = λ r. IfOk c.add-in-Sum.result (λ _. expansion_of c.add-in-Sum.new.self ≡ r) in
    subst P (ap (with_more c.in-Sum.b n) c.in_ok-add-in-Sum.ensures ∙ sym e) c.add-in-Sum.ensures

pub returns-in_ok-more-in-Multiple : goal.returns-in_ok-more-in-Multiple
returns-in_ok-more-in-Multiple c =
    let nodes = c.args.nodes.now in
    let row = expansion_of c.args.self.now in
    let taken = expansion_of c.take-in-Multiple.new.self in
    let n = value c.take-in-Multiple.result in
    let k = c.in-Multiple.k in
    let e = as_term nodes c.args.node (slice_get nodes c.args.node) row taken _ n (sym c.in-Multiple.is ∙ c.term_at.ensures) c.take-in-Multiple.ensures.coefficient c.take-in-Multiple.ensures.after in
    let same : passed k ≡ k = search (rules, to_z-of_z) in
    let is : value c.in_ok-more-in-Multiple.more ≡ n *ℤ k = c.in_ok-more-in-Multiple.ensures ∙ ap (λ z. n *ℤ z) same in
    let P : Row → Type 0 = λ r. IfOk c.add-in-Multiple.result (λ _. expansion_of c.add-in-Multiple.new.self ≡ r) in
    subst P (ap (λ z. with_more c.in-Multiple.b z taken) is ∙ sym e) c.add-in-Multiple.ensures
