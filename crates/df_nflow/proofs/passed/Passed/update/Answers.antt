use Rattle.df_nflow.proofs.Words.{◌≡◌, ℕ, List, [], map, length, sym, ap, ◌∙◌, subst, flat_map, Ty, source_of, target_of, update_of, source_types, program_of, DeclaredTarget, AreLocals, trees_at, measured_in, DeclaredMeasured, AreSources, ledger_of, way_of, with_fresh, standing_of, Moves, target_types, setting_of, on_ok_then, Given, give_all, moved_behind, pass_sources, grows_then}
use Rattle.df_lang.specs.declared.stmt.Source.{Source as DeclaredSource}
use Rattle.df_nflow.proofs.Terms.{locals_are}
use Rattle.df_nflow.proofs.Standings.{standing, standing_with}
use Rattle.df_nflow.proofs.Targets.{update_is, updated}
use Rattle.df_nflow.proofs.Passing.{is_passed}
use Rattle.df_nflow.proofs.passed.Passed.update.Goals as goal

pub invariant_of-self : goal.invariant_of-self
invariant_of-self c = record { is_passed = is_passed c.args.self.now c.sources.new.self c.sources.ensures.grows }

pub sources-requires-clause-sources : goal.sources-requires-clause-sources
sources-requires-clause-sources c =
    let s = c.args.self.now in
    let program = program_of c.args.setting.now.program.now in
    subst (λ (ns : List ℕ). AreSources s.ledger.nodes program ns (map source_of c.deref-3.result.now)) (sym c.deref-2.ensures.value)
    (subst (λ (xs : List DeclaredSource). AreSources s.ledger.nodes program s.terms.items (map source_of xs)) (sym c.deref-3.ensures.value)
    (record { types = s.types.items; typed = (update_is program s.types.items (update_of c.args.update.now) c.requires).sources; locals = locals_are s.ledger.nodes s.types.items s.terms.items s.is_passed.have_terms }))

pub give_all-requires-clause-terms : goal.give_all-requires-clause-terms
give_all-requires-clause-terms c =
    let s = c.args.self.now in
    let nodes = c.sources.new.self.nodes in
    let is = update_is (program_of c.args.setting.now.program.now) s.types.items (update_of c.args.update.now) c.requires in
    let same : flat_map source_types (map source_of c.deref-3.result.now) ≡ target_types (map target_of c.deref-4.result.now) =
    ap (λ (xs : List DeclaredSource). flat_map source_types (map source_of xs)) c.deref-3.ensures.value ∙ is.same ∙ ap (λ (ts : List DeclaredTarget). target_types (map target_of ts)) (sym c.deref-4.ensures.value) in
    subst (AreLocals nodes (target_types (map target_of c.deref-4.result.now))) (sym c.deref-5.ensures.value) (subst (λ (tys : List Ty). AreLocals nodes tys c.in_ok-terms.terms.items) same c.in_ok-terms.ensures.given.locals)

pub returns-clause-moves : goal.returns-clause-moves
returns-clause-moves c =
    let s = c.args.self.now in
    let nodes = c.sources.new.self.nodes in
    let u = c.args.update.now in
    let fresh = length s.ledger.frees.items in
    let setting = λ (entry : List DeclaredMeasured). setting_of c.args.setting.now (measured_in s.ledger.nodes entry) in
    let given = pass_sources (setting s.entry.items) (map source_of u.sources.items) (standing_of s).way fresh in
    let d = c.deref.ensures.value in
    let e = c.deref-2.ensures.value in
    let f = c.deref-3.ensures.value in
    let same : pass_sources (setting c.deref.result.now) (map source_of c.deref-3.result.now) (way_of s.ledger c.deref-2.result.now) fresh ≡ given = (λ i. pass_sources (setting (d i)) (map source_of (f i)) (way_of s.ledger (e i)) fresh) in
    let gives = c.in_ok-terms.ensures.given in
    let mid = standing c.sources.new.self s.types.items s.terms.items s.entry.items s.trail.items s.breaks.items s.returns.items in
    let is = standing_with s.ledger c.sources.new.self s.types.items s.terms.items s.entry.items s.trail.items s.breaks.items s.returns.items c.sources.ensures.grows s.is_passed given.said given.fresh (gives.ledger ∙ (λ i. with_fresh (same i).said (same i).fresh (ledger_of s.ledger))) in
    let terms = ap (trees_at nodes) c.deref-5.ensures.value ∙ gives.terms_are ∙ ap (λ (g : Given). g.terms) same in
    on_ok_then c.give_all.result c.give_all.ensures.moves (λ p.
    subst (λ (ts : List DeclaredTarget). Moves (standing_of s) (moved_behind given.said (give_all [] (map target_of ts) given.terms given.fresh (standing_of s).way)) (standing_of c.give_all.new.self)) c.deref-4.ensures.value
    (updated (standing_of s) mid (standing_of c.give_all.new.self) given (map target_of c.deref-4.result.now) (trees_at nodes c.deref-5.result.now) is terms p))

-- ---- on every way out

pub returns-clause-grows : goal.returns-clause-grows
returns-clause-grows c = grows_then _ _ _ c.sources.ensures.grows c.give_all.ensures.grows
