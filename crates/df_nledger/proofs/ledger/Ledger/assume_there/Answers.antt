use Rattle.df_nledger.proofs.Words.{sym, ap, ◌∙◌, term_stays, tree_stays, path_same, path_in, sort_of_type, tree_at, ledger_of, saying, assume, is_unset, grows_then}
use Rattle.std.proofs.lemmas.Bool.{eq-eqb, ne_eqb}
use Rattle.df_nterm.specs.Expressions.{equal_in}
use Rattle.df_nledger.proofs.Ledgers.{on_ok_then}
use Rattle.df_nledger.proofs.Places.{path_is, has_path_stays}
use Rattle.df_nledger.proofs.Telling.{unset_told, there_unset, there_known}
use Rattle.df_nledger.proofs.ledger.Ledger.assume_there.Goals as goal

pub assume_equal-requires-clause-term : goal.assume_equal-requires-clause-term
assume_equal-requires-clause-term c = term_stays (sort_of_type c.args.ty) c.args.self.now.nodes c.unset_one.new.self.nodes c.args.term c.unset_one.ensures.grows c.requires.term

pub assume_equal-requires-clause-path : goal.assume_equal-requires-clause-path
assume_equal-requires-clause-path c = has_path_stays c.args.self.now.nodes c.unset_one.new.self.nodes c.args.path c.unset_one.ensures.grows c.requires.path

pub assume_equal-requires-clause-here : goal.assume_equal-requires-clause-here
assume_equal-requires-clause-here c = term_stays (sort_of_type c.args.ty) c.args.self.now.nodes c.unset_one.new.self.nodes c.args.here c.unset_one.ensures.grows c.requires.here

pub returns-then-unset-here-clause-ledger : goal.returns-then-unset-here-clause-ledger
returns-then-unset-here-clause-ledger c =
    let s = c.args.self.now in
    let now = c.unset_one.new.self.nodes in
    let sort = sort_of_type c.args.ty in
    let grows = c.unset_one.ensures.grows in
    let told = unset_told now c.args.ty c.in_ok-unset.unset c.args.here c.len-nodes.ensures.table c.in_ok-unset.ensures.stands (term_stays sort s.nodes now c.args.here grows c.requires.here) in
    let test = ap is_unset (sym (tree_stays sort s.nodes now c.args.here grows c.requires.here)) ∙ (told ∙ eq-eqb c.in_ok-unset.unset c.args.here c.if-unset-here.true) in
    c.in_ok-unset.ensures.ledger ∙ there_unset c.args.ty (tree_at s.nodes c.args.term) (tree_at s.nodes c.args.here) (path_in s.nodes c.args.path) (ledger_of s) test

pub returns-clause-ledger : goal.returns-clause-ledger
returns-clause-ledger c =
    let s = c.args.self.now in
    let now = c.unset_one.new.self.nodes in
    let sort = sort_of_type c.args.ty in
    let grows = c.unset_one.ensures.grows in
    let told = unset_told now c.args.ty c.in_ok-unset.unset c.args.here c.len-nodes.ensures.table c.in_ok-unset.ensures.stands (term_stays sort s.nodes now c.args.here grows c.requires.here) in
    let here = tree_stays sort s.nodes now c.args.here grows c.requires.here in
    let first = tree_stays sort s.nodes now c.args.term grows c.requires.term in
    let path = path_same s.nodes now c.args.path grows (path_is s.nodes c.args.path c.requires.path) in
    let kept = c.in_ok-unset.ensures.ledger in
    let known = there_known c.args.ty (tree_at s.nodes c.args.term) (tree_at s.nodes c.args.here) (path_in s.nodes c.args.path) (ledger_of s) (ap is_unset (sym here) ∙ (told ∙ ne_eqb c.in_ok-unset.unset c.args.here c.if-unset-here.false)) in
    on_ok_then c.assume_equal.result c.assume_equal.ensures.ledger (λ e. e ∙ ((λ i. saying (assume (path i) (equal_in c.args.ty (first i) (here i))) (kept i)) ∙ known))

-- ---- on every way out

pub returns-clause-grows : goal.returns-clause-grows
returns-clause-grows c = grows_then _ _ _ c.unset_one.ensures.grows c.assume_equal.ensures.grows
