use Rattle.df_nledger.proofs.Words.{◌≡◌, ◌+◌, ℕ, List, [], ◌∷◌, ◌++◌, map, take, drop, length, refl, sym, ap, ◌∙◌, subst, arith, flat_map, append-nil, drop_all, take_all, take_more, map-append, length-append, Ty, Source, source_of, source_types, program_of, AreLocals, tree_at, trees_at, grows_not, grows_then, all_same, locals_stay, drop_next, measured_in, Term, AreSources, Ledger, ledger_of, way_of, with_fresh, setting_of, pass_source, pass_sources}
use Rattle.df_lang.specs.declared.stmt.Source.{Source as DeclaredSource}
use Rattle.df_nledger.proofs.Claims.{way_same}
use Rattle.df_nledger.proofs.Values.{with_last, no_locals, locals_joined}
use Rattle.df_nledger.proofs.Growing.{measured_stay, measured_same}
use Rattle.df_nledger.proofs.Sources.{source_first, sources_rest, source_next, source_terms, flat_more}
use Rattle.df_nledger.proofs.ledger.Ledger.sources.Goals as goal

pub source-requires-clause-entry : goal.source-requires-clause-entry
source-requires-clause-entry c = measured_stay c.args.self.now.nodes c.loop-source.self.nodes c.loop-source.invariant.grows c.args.entry.now c.requires.entry

pub loop-source-init : goal.loop-source-init
loop-source-init c =
    let old = c.args.self.now.nodes in
    let whole = pass_sources (setting_of c.args.setting.now (measured_in old c.args.entry.now)) (map source_of c.args.sources.now) (way_of c.args.self.now c.args.terms.now) (length c.args.self.now.frees.items) in
    record {
      grows = grows_not old;
      over = c.requires.sources;
      ledger = refl;
      terms = ap (λ (ns : List ℕ). trees_at old ns ++ whole.terms) c.new-all.ensures.items;
      locals = subst (λ (ns : List ℕ). AreLocals old [] ns) (sym c.new-all.ensures.items) (no_locals old);
      many = ap (λ (ns : List ℕ). length ns) c.new-all.ensures.items;
    }

pub source-requires-clause-source : goal.source-requires-clause-source
source-requires-clause-source c =
    let l = c.loop-source in
    let xs = c.args.sources.now in
    let x = c.source-item.result in
    let next = map source_of (drop (l.source-index + 1) xs) in
    let is : map source_of (drop l.source-index xs) ≡ source_of x ∷ next = ap (map source_of) (drop_next xs l.source-index x c.source-item.is c.loop-source-test.true) in
    source_first l.self.nodes (program_of c.args.setting.now.program.now) c.args.terms.now (source_of x) next (subst (AreSources l.self.nodes (program_of c.args.setting.now.program.now) c.args.terms.now) is l.invariant.over)

pub loop-source-preserved : goal.loop-source-preserved
loop-source-preserved c =
    let l = c.loop-source in
    let old = c.args.self.now.nodes in
    let new = c.source.new.self.nodes in
    let program = program_of c.args.setting.now.program.now in
    let xs = c.args.sources.now in
    let x = c.source-item.result in
    let next = map source_of (drop (l.source-index + 1) xs) in
    let is : map source_of (drop l.source-index xs) ≡ source_of x ∷ next = ap (map source_of) (drop_next xs l.source-index x c.source-item.is c.loop-source-test.true) in
    let setting = setting_of c.args.setting.now (measured_in old c.args.entry.now) in
    let way = way_of c.args.self.now c.args.terms.now in
    let whole = pass_sources setting (map source_of xs) way (length c.args.self.now.frees.items) in
    let ways : way_of l.self c.args.terms.now ≡ way = way_same old c.args.terms.now l.self.nodes c.requires.sources.types _ _ l.invariant.grows c.requires.sources.locals (ap (λ (m : Ledger). m.path) l.invariant.ledger) in
    let entry = measured_same old l.self.nodes l.invariant.grows c.args.entry.now c.requires.entry in
    let same : pass_source (setting_of c.args.setting.now (measured_in l.self.nodes c.args.entry.now)) (source_of x) (way_of l.self c.args.terms.now) (length l.self.frees.items) ≡ pass_source setting (source_of x) way (length l.self.frees.items) =
    (λ i. pass_source (setting_of c.args.setting.now (entry i)) (source_of x) (ways i) (length l.self.frees.items)) in
    let given = c.in_ok-given.ensures.given in
    let step = given.ledger ∙ (λ i. with_fresh (same i).said (same i).fresh (ledger_of l.self)) in
    let items : c.extend_from_slice.new.self.items ≡ l.all.items ++ c.in_ok-given.given.items = c.in_ok-extend_from_slice.ensures.items ∙ ap (λ (ns : List ℕ). l.all.items ++ ns) c.deref.ensures.value in
    let kept = all_same l.self.nodes new l.all.items c.source.ensures.grows l.invariant.locals.below in
    let taken : flat_map source_types (map source_of (take (l.source-index + 1) xs)) ≡ flat_map source_types (map source_of (take l.source-index xs)) ++ source_types (source_of x) =
    ap (λ (ys : List DeclaredSource). flat_map source_types (map source_of ys)) (take_more xs l.source-index x c.loop-source-test.true ∙ ap (λ (y : DeclaredSource). take l.source-index xs ++ y ∷ []) (sym c.source-item.is))
    ∙ ap (flat_map source_types) (map-append source_of (take l.source-index xs) (x ∷ [])) ∙ flat_more (map source_of (take l.source-index xs)) (source_of x) in
    record {
      grows = grows_then old l.self.nodes new l.invariant.grows c.source.ensures.grows;
      over = sources_rest l.self.nodes program c.args.terms.now new (source_of x) next c.source.ensures.grows (subst (AreSources l.self.nodes program c.args.terms.now) is l.invariant.over);
      ledger = source_next setting way (source_of x) next (ledger_of c.args.self.now) (ledger_of l.self) (ledger_of c.source.new.self) whole step
          (ap (λ (ss : List Source). with_fresh (pass_sources setting ss way (length l.self.frees.items)).said (pass_sources setting ss way (length l.self.frees.items)).fresh (ledger_of l.self)) (sym is) ∙ l.invariant.ledger);
      terms = ap (λ (ns : List ℕ). trees_at new ns ++ (pass_sources setting next way (length c.source.new.self.frees.items)).terms) items
          ∙ ap (λ (ts : List Term). ts ++ (pass_sources setting next way (length c.source.new.self.frees.items)).terms) (map-append (tree_at new) l.all.items c.in_ok-given.given.items ∙ ap (λ (ts : List Term). ts ++ trees_at new c.in_ok-given.given.items) kept)
          ∙ source_terms setting way (source_of x) next (ledger_of c.args.self.now) (ledger_of l.self) (ledger_of c.source.new.self) whole step (trees_at l.self.nodes l.all.items) (trees_at new c.in_ok-given.given.items) (given.terms_are ∙ (λ i. (same i).terms))
          (ap (λ (ss : List Source). trees_at l.self.nodes l.all.items ++ (pass_sources setting ss way (length l.self.frees.items)).terms) (sym is) ∙ l.invariant.terms);
      locals = subst (λ (tys : List Ty). AreLocals new tys c.extend_from_slice.new.self.items) (sym taken) (subst (λ (ns : List ℕ). AreLocals new (flat_map source_types (map source_of (take l.source-index xs)) ++ source_types (source_of x)) ns) (sym items)
          (locals_joined new (flat_map source_types (map source_of (take l.source-index xs))) (source_types (source_of x)) l.all.items c.in_ok-given.given.items l.invariant.many (locals_stay l.self.nodes new (flat_map source_types (map source_of (take l.source-index xs))) l.all.items c.source.ensures.grows l.invariant.locals) given.locals));
      many = omega (arith, ap (λ (ns : List ℕ). length ns) items, length-append l.all.items c.in_ok-given.given.items, ap (λ (tys : List Ty). length tys) taken, length-append (flat_map source_types (map source_of (take l.source-index xs))) (source_types (source_of x)), given.many, l.invariant.many);
    }

pub returns-clause-given : goal.returns-clause-given
returns-clause-given c =
    let l = c.loop-source in
    let old = c.args.self.now.nodes in
    let xs = c.args.sources.now in
    let setting = setting_of c.args.setting.now (measured_in old c.args.entry.now) in
    let way = way_of c.args.self.now c.args.terms.now in
    let whole = pass_sources setting (map source_of xs) way (length c.args.self.now.frees.items) in
    let none : [] ≡ map source_of (drop l.source-index xs) = ap (map source_of) (sym (drop_all l.source-index xs c.loop-source-test.false)) in
    let all : take l.source-index xs ≡ xs = take_all l.source-index xs c.loop-source-test.false in
    record {
      ledger = with_last (ledger_of c.args.self.now) (ledger_of l.self) whole.said whole.fresh
          (ap (λ (ss : List Source). with_fresh (pass_sources setting ss way (length l.self.frees.items)).said (pass_sources setting ss way (length l.self.frees.items)).fresh (ledger_of l.self)) none ∙ l.invariant.ledger);
      terms_are = sym (append-nil (trees_at l.self.nodes l.all.items)) ∙ ap (λ (ss : List Source). trees_at l.self.nodes l.all.items ++ (pass_sources setting ss way (length l.self.frees.items)).terms) none ∙ l.invariant.terms;
      locals = subst (λ (ys : List DeclaredSource). AreLocals l.self.nodes (flat_map source_types (map source_of ys)) l.all.items) all l.invariant.locals;
      many = l.invariant.many ∙ ap (λ (ys : List DeclaredSource). length (flat_map source_types (map source_of ys))) all;
    }

-- ---- on every way out

pub returns-in_err-given-clause-grows : goal.returns-in_err-given-clause-grows
returns-in_err-given-clause-grows c = grows_then _ _ _ c.loop-source.invariant.grows c.source.ensures.grows

pub returns-in_err-extend_from_slice-clause-grows : goal.returns-in_err-extend_from_slice-clause-grows
returns-in_err-extend_from_slice-clause-grows c = grows_then _ _ _ c.loop-source.invariant.grows c.source.ensures.grows
