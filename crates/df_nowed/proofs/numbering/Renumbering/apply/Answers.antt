use Rattle.df_nowed.proofs.Words.{rules, ◌≡◌, length, ◌∙◌, arith, slice_get_within, node_of, trees_at}
use Rattle.df_nowed.proofs.Stacks.{takes_them, stack_then, terms_then, last_on}
use Rattle.df_nowed.proofs.numbering.Renumbering.apply.Goals as goal

pub apply-requires-clause-takes : goal.apply-requires-clause-takes
apply-requires-clause-takes c =
    let many : c.len-count.result ≡ length (node_of c.args.node.now).parts = search rules in
    takes_them c.args.table.now c.args.self.now.draft.nodes c.requires.terms.is_table c.args.self.now.draft.table c.args.self.now.draft.stack.items c.args.self.now.draft.known c.args.term (node_of c.args.node.now) c.requires.node c.len-count.result many c.requires.parts.0 c.requires.parts.1

pub index_mut-requires : goal.index_mut-requires
index_mut-requires c =
    let less = slice_get_within c.args.table.now c.args.term (node_of c.args.node.now) c.requires.node in
    omega (arith, less, c.requires.terms.long)

pub returns-clause-stack : goal.returns-clause-stack
returns-clause-stack c = λ front lies.
    let many : c.len-count.result ≡ length (node_of c.args.node.now).parts = search rules in
    (λ i. trees_at (c.in_ok-apply.ensures.nodes i) (c.in_ok-apply.ensures.stack i))
    ∙ stack_then c.args.table.now c.args.self.now.draft.nodes c.requires.terms.is_table c.args.self.now.draft.table c.args.self.now.draft.stack.items c.args.self.now.draft.known c.args.term (node_of c.args.node.now) c.requires.node c.len-count.result many front lies

pub returns-clause-terms : goal.returns-clause-terms
returns-clause-terms c =
    let size : c.len-top.result ≡ length c.apply.new.self.stack.items = search rules in
    let top = c.index.ensures ∙ last_on c.apply.new.self.stack.items _ _ c.len-top.result c.index.result.now c.in_ok-apply.ensures.stack size in
    let many : c.len-count.result ≡ length (node_of c.args.node.now).parts = search rules in
    terms_then c.args.table.now c.args.self.now.draft.nodes c.requires.terms.is_table c.args.self.now.draft.table c.args.self.now.draft.stack.items c.args.self.now.draft.known c.args.term (node_of c.args.node.now) c.requires.node c.len-count.result many c.requires.parts.0 c.requires.parts.1
    c.args.self.now.terms.items c.index.result.now c.apply.new.self.nodes c.requires.terms c.in_ok-apply.ensures.nodes top
