use Rattle.df_nledger.proofs.Words.{◌≡◌, ◌<◌, ◌+◌, ℕ, List, [], ◌∷◌, map, drop, get_or, length, refl, sym, ap, ◌∙◌, subst, rules, arith, drop_all, get_or_default, Conversion, conversion_of, DeclaredConversion, tree_at, trees_at, grows_not, grows_then, drop_next, narrowing, AreConverted, ledger_of, way_of, saying, assert_all, assert_conversions}
use Rattle.df_lang.specs.declared.ty.Ty.TheVariants as tys
use Rattle.df_nenc.proofs.Trees.{grown_tree}
use Rattle.df_nledger.proofs.Sayings.{say_next, say_last, same_path}
use Rattle.df_nledger.proofs.Sources.{converted_first, converted_rest, long_enough, index_below}
use Rattle.df_nledger.proofs.ledger.Ledger.assert_conversions.Goals as goal

pub loop-i-init : goal.loop-i-init
loop-i-init c = record { grows = grows_not c.args.self.now.nodes; over = c.requires; said = refl }

pub offset_bounds-terms-i : goal.offset_bounds-terms-i
offset_bounds-terms-i c =
    let less : c.loop-i.i < length c.args.terms.now = let long = long_enough c.args.self.now.nodes c.args.conversions.now c.args.terms.now c.requires in omega (arith, c.loop-i-test.true) in
    search (rules, less)

pub bounds-terms-i : goal.bounds-terms-i
bounds-terms-i c = let long = long_enough c.args.self.now.nodes c.args.conversions.now c.args.terms.now c.requires in omega (arith, c.loop-i-test.true)

pub assert_conversion-requires : goal.assert_conversion-requires
assert_conversion-requires c =
    let l = c.loop-i in
    let old = c.args.self.now.nodes in
    let xs = c.args.conversions.now in
    let ns = c.args.terms.now in
    let nothing : DeclaredConversion = record { source = tys.Newtype 0; target = tys.Newtype 0 } in
    let x = get_or xs l.i nothing in
    let e : x ≡ get_or xs l.i x = get_or_default xs l.i nothing x c.loop-i-test.true in
    let less : l.i < length ns = let long = long_enough old xs ns c.requires in omega (arith, c.loop-i-test.true) in
    let t = get_or ns l.i 0 in
    let is : map conversion_of (drop l.i xs) ≡ conversion_of x ∷ map conversion_of (drop (l.i + 1) xs) = ap (map conversion_of) (drop_next xs l.i x e c.loop-i-test.true) in
    let ist : drop l.i ns ≡ t ∷ drop (l.i + 1) ns = drop_next ns l.i t (get_or_default ns l.i 0 t less) less in
    let over = subst (λ (cs : List Conversion). AreConverted l.self.nodes cs (t ∷ drop (l.i + 1) ns)) is (subst (λ (zs : List ℕ). AreConverted l.self.nodes (map conversion_of (drop l.i xs)) zs) ist l.invariant.over) in
    converted_first l.self.nodes (conversion_of x) (map conversion_of (drop (l.i + 1) xs)) t (drop (l.i + 1) ns) over

pub loop-i-preserved : goal.loop-i-preserved
loop-i-preserved c =
    let l = c.loop-i in
    let old = c.args.self.now.nodes in
    let xs = c.args.conversions.now in
    let ns = c.args.terms.now in
    let nothing : DeclaredConversion = record { source = tys.Newtype 0; target = tys.Newtype 0 } in
    let x = get_or xs l.i nothing in
    let e : x ≡ get_or xs l.i x = get_or_default xs l.i nothing x c.loop-i-test.true in
    let less : l.i < length ns = let long = long_enough old xs ns c.requires in omega (arith, c.loop-i-test.true) in
    let t = get_or ns l.i 0 in
    let is : map conversion_of (drop l.i xs) ≡ conversion_of x ∷ map conversion_of (drop (l.i + 1) xs) = ap (map conversion_of) (drop_next xs l.i x e c.loop-i-test.true) in
    let ist : drop l.i ns ≡ t ∷ drop (l.i + 1) ns = drop_next ns l.i t (get_or_default ns l.i 0 t less) less in
    let over = subst (λ (cs : List Conversion). AreConverted l.self.nodes cs (t ∷ drop (l.i + 1) ns)) is (subst (λ (zs : List ℕ). AreConverted l.self.nodes (map conversion_of (drop l.i xs)) zs) ist l.invariant.over) in
    let way = way_of c.args.self.now [] in
    let path = same_path (ledger_of c.args.self.now) (ledger_of l.self) _ _ l.invariant.said in
    let tree : tree_at l.self.nodes t ≡ tree_at old t = grown_tree old l.self.nodes l.invariant.grows t (index_below (length old) ns l.i c.requires.below less) in
    let one = assert_all way.path (narrowing x.source x.target c.args.pos (tree_at old t)) in
    let so : saying (assert_conversions c.args.pos way (conversion_of x ∷ map conversion_of (drop (l.i + 1) xs)) (trees_at old (t ∷ drop (l.i + 1) ns))) (ledger_of l.self) ≡ saying (assert_conversions c.args.pos way (map conversion_of xs) (trees_at old ns)) (ledger_of c.args.self.now) =
    (λ i. saying (assert_conversions c.args.pos way (sym is i) (trees_at old (sym ist i))) (ledger_of l.self)) ∙ l.invariant.said in
    record {
      grows = grows_then old l.self.nodes c.assert_conversion.new.self.nodes l.invariant.grows c.assert_conversion.ensures.grows;
      over = converted_rest l.self.nodes (conversion_of x) (map conversion_of (drop (l.i + 1) xs)) t (drop (l.i + 1) ns) over c.assert_conversion.new.self.nodes c.assert_conversion.ensures.grows;
      said = say_next (ledger_of c.args.self.now) (ledger_of l.self) (ledger_of c.assert_conversion.new.self) _ one (assert_conversions c.args.pos way (map conversion_of (drop (l.i + 1) xs)) (trees_at old (drop (l.i + 1) ns))) so
          (c.in_ok-assert_conversion.ensures.ledger ∙ (λ i. saying (assert_all (path i) (narrowing x.source x.target c.args.pos (tree i))) (ledger_of l.self)));
    }

pub returns-clause-ledger : goal.returns-clause-ledger
returns-clause-ledger c =
    let l = c.loop-i in
    say_last (ledger_of c.args.self.now) (ledger_of l.self) _
    (ap (λ (cs : List DeclaredConversion). saying (assert_conversions c.args.pos (way_of c.args.self.now []) (map conversion_of cs) (trees_at c.args.self.now.nodes (drop l.i c.args.terms.now))) (ledger_of l.self)) (sym (drop_all l.i c.args.conversions.now c.loop-i-test.false)) ∙ l.invariant.said)

-- ---- on every way out

pub returns-in_err-assert_conversion-clause-grows : goal.returns-in_err-assert_conversion-clause-grows
returns-in_err-assert_conversion-clause-grows c = grows_then _ _ _ c.loop-i.invariant.grows c.assert_conversion.ensures.grows
