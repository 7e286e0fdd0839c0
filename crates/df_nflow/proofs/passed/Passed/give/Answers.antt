use Rattle.df_nflow.proofs.Words.{◌≡◌, ◌<◌, [], ◌∷◌, ◌++◌, length, set, sym, ap, ◌∙◌, subst, arith, map-append, all_joined, tree_at, trees_in, standing_of, AreKept, IsKept, kept_in, all_kept_in, DeclaredKept}
use Rattle.df_nflow.proofs.Terms.{terms_set, trees_set, tree_of, kept_at, gives}
use Rattle.df_nflow.proofs.passed.Passed.give.Goals as goal

pub invariant_of-self-2 : goal.invariant_of-self-2
invariant_of-self-2 c =
    let self = c.args.self.now in
    let nodes = self.ledger.nodes in
    let is = self.is_passed in
    let kept : IsKept nodes self.types.items c.args.local c.index.result.now = subst (IsKept nodes self.types.items c.args.local) (sym c.index.ensures) (kept_at nodes self.types.items self.terms.items c.args.local c.index.result.now is.have_terms c.requires.within) in
    let one : DeclaredKept = record { local = c.args.local; term = c.index.result.now } in
    record {
      is_passed = record {
        have_terms = terms_set nodes self.types.items self.terms.items c.args.local c.args.term is.have_terms c.requires.below c.requires.sorted;
        are_measured = is.are_measured;
        are_kept = subst (AreKept nodes self.types.items) (sym c.in_ok-push.ensures.items) (all_joined (λ (k : DeclaredKept). IsKept nodes self.types.items k.local k.term) self.trail.items (one ∷ []) is.are_kept (kept, tt));
        are_breaks = is.are_breaks;
        are_returns = is.are_returns;
      };
    }

pub returns-clause-moves : goal.returns-clause-moves
returns-clause-moves c =
    let self = c.args.self.now in
    let nodes = self.ledger.nodes in
    let within : c.args.local < length self.terms.items = omega (arith, c.requires.within, self.is_passed.have_terms.many) in
    let one : DeclaredKept = record { local = c.args.local; term = c.index.result.now } in
    let tree : tree_at nodes c.index.result.now ≡ trees_in nodes self.terms.items c.args.local = ap (tree_at nodes) c.index.ensures ∙ tree_of nodes self.terms.items c.args.local c.index.result.now within in
    gives (standing_of self) c.args.local (tree_at nodes c.args.term) (trees_in nodes (set self.terms.items c.args.local c.args.term)) (all_kept_in nodes c.push.new.self.items) (trees_set nodes self.terms.items c.args.local c.args.term within)
    (ap (all_kept_in nodes) c.in_ok-push.ensures.items ∙ map-append (kept_in nodes) self.trail.items (one ∷ []) ∙ (λ i. all_kept_in nodes self.trail.items ++ record { local = c.args.local; term = tree i } ∷ []))
