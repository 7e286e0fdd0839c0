use Rattle.df_nflow.proofs.Words.{◌≡◌, ◌<◌, ◌+◌, ℕ, List, ◌∷◌, ◌++◌, map, drop, get_or, length, sym, ap, ◌∙◌, subst, arith, get_or_default, slice_get_within, Changed, tree_at, trees_at, trees_in, grows_not, drop_next, are_at, changed_of, changed_in, DeclaredChanged, trees_next, below_next}
use Rattle.df_lang.specs.declared.ty.Ty.TheVariants as tys
use Rattle.df_nflow.proofs.Changes.{at_first, at_rest, type_at}
use Rattle.df_nflow.proofs.Terms.{tree_of, kept_at}
use Rattle.df_nflow.proofs.passed.Passed.arrived.Goals as goal

pub index-requires : goal.index-requires
index-requires c =
    let s = c.args.self.now in
    let l = c.loop-one in
    let xs = c.args.changed.now in
    let nothing : DeclaredChanged = record { local = 0; ty = tys.Newtype 0 } in
    let x = get_or xs l.one-index nothing in
    let e : x ≡ get_or xs l.one-index x = get_or_default xs l.one-index nothing x c.loop-one-test.true in
    let next = changed_in (drop (l.one-index + 1) xs) in
    let is : changed_in (drop l.one-index xs) ≡ changed_of x ∷ next = ap changed_in (drop_next xs l.one-index x e c.loop-one-test.true) in
    let at = sym (ap (are_at s.types.items) is) ∙ l.invariant.at in
    let typed : x.local < length s.types.items = slice_get_within s.types.items x.local x.ty (type_at s.types.items x.local x.ty (at_first s.types.items (changed_of x) next at)) in
    let within : x.local < length s.terms.items = omega (arith, typed, s.is_passed.have_terms.many) in
    omega (arith, within, s.terms.ok.0, s.terms.ok.1)

pub loop-one-preserved : goal.loop-one-preserved
loop-one-preserved c =
    let s = c.args.self.now in
    let l = c.loop-one in
    let xs = c.args.changed.now in
    let nothing : DeclaredChanged = record { local = 0; ty = tys.Newtype 0 } in
    let x = get_or xs l.one-index nothing in
    let e : x ≡ get_or xs l.one-index x = get_or_default xs l.one-index nothing x c.loop-one-test.true in
    let next = changed_in (drop (l.one-index + 1) xs) in
    let is : changed_in (drop l.one-index xs) ≡ changed_of x ∷ next = ap changed_in (drop_next xs l.one-index x e c.loop-one-test.true) in
    let at = sym (ap (are_at s.types.items) is) ∙ l.invariant.at in
    let typed : x.local < length s.types.items = slice_get_within s.types.items x.local x.ty (type_at s.types.items x.local x.ty (at_first s.types.items (changed_of x) next at)) in
    let within : x.local < length s.terms.items = omega (arith, typed, s.is_passed.have_terms.many) in
    let nodes = s.ledger.nodes in
    let term = c.index.result.now in
    let tree : tree_at nodes term ≡ trees_in nodes s.terms.items x.local = ap (tree_at nodes) c.index.ensures ∙ tree_of nodes s.terms.items x.local term within in
    let below : term < length nodes = subst (λ (n : ℕ). n < length nodes) (sym c.index.ensures) (kept_at nodes s.types.items s.terms.items x.local term s.is_passed.have_terms typed).below in
    record {
      at = at_rest s.types.items (changed_of x) next at;
      terms = trees_next nodes nodes l.terms.items c.push.new.self.items term (grows_not nodes) l.invariant.below c.in_ok-push.ensures.items (trees_in nodes s.terms.items x.local) (map (λ (d : Changed). trees_in nodes s.terms.items d.local) next) _ tree
          (ap (λ (cs : List Changed). trees_at nodes l.terms.items ++ map (λ (d : Changed). trees_in nodes s.terms.items d.local) cs) (sym is) ∙ l.invariant.terms);
      below = below_next nodes nodes l.terms.items c.push.new.self.items term (grows_not nodes) l.invariant.below c.in_ok-push.ensures.items below;
    }
