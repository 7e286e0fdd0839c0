use Rattle.df_nledger.proofs.Words.{◌≡◌, ◌+◌, List, ◌++◌, map, drop, get_or, sym, ap, ◌∙◌, get_or_default, Ty, trees_at, grows_then, drop_next, some_term, sort_of_type}
use Rattle.df_lang.specs.declared.ty.Ty.TheVariants as tys
use Rattle.df_nledger.proofs.Values.{trees_next, below_next}
use Rattle.df_nledger.proofs.ledger.Ledger.unset.Goals as goal

pub loop-place-preserved : goal.loop-place-preserved
loop-place-preserved c =
    let l = c.loop-place in
    let xs = c.args.types.now in
    let nothing : Ty = tys.Newtype 0 in
    let x = get_or xs l.place nothing in
    let e : x ≡ get_or xs l.place x = get_or_default xs l.place nothing x c.loop-place-test.true in
    let rest = map (λ (ty : Ty). some_term (sort_of_type ty)) (drop (l.place + 1) xs) in
    record {
      grows = grows_then c.args.self.now.nodes l.self.nodes c.unset_one.new.self.nodes l.invariant.grows c.unset_one.ensures.grows;
      ledger = c.in_ok-term.ensures.ledger ∙ l.invariant.ledger;
      terms = trees_next l.self.nodes c.unset_one.new.self.nodes l.terms.items c.push.new.self.items c.in_ok-term.term c.unset_one.ensures.grows l.invariant.below c.in_ok-push.ensures.items (some_term (sort_of_type x)) rest _ c.in_ok-term.ensures.stands.tree_is
          (ap (λ (ts : List Ty). trees_at l.self.nodes l.terms.items ++ map (λ (ty : Ty). some_term (sort_of_type ty)) ts) (sym (drop_next xs l.place x e c.loop-place-test.true)) ∙ l.invariant.terms);
      below = below_next l.self.nodes c.unset_one.new.self.nodes l.terms.items c.push.new.self.items c.in_ok-term.term c.unset_one.ensures.grows l.invariant.below c.in_ok-push.ensures.items c.in_ok-term.ensures.stands.below;
    }

-- ---- on every way out

pub returns-in_err-term-clause-grows : goal.returns-in_err-term-clause-grows
returns-in_err-term-clause-grows c = grows_then _ _ _ c.loop-place.invariant.grows c.unset_one.ensures.grows

pub returns-in_err-push-clause-grows : goal.returns-in_err-push-clause-grows
returns-in_err-push-clause-grows c = grows_then _ _ _ c.loop-place.invariant.grows c.unset_one.ensures.grows

pub returns-clause-grows : goal.returns-clause-grows
returns-clause-grows c = c.loop-place.invariant.grows
