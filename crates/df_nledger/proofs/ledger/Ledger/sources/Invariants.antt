use Rattle.df_nledger.proofs.Words.{◌≡◌, ◌++◌, map, take, drop, length, flat_map, source_of, source_types, program_of, Grows, AreLocals, trees_at, measured_in, AreSources, ledger_of, way_of, with_fresh, setting_of, pass_sources}
use Rattle.df_nledger.proofs.ledger.Ledger.sources.Given as goal

-- with the terms that are left there are all
abbrev pub invariant-loop-source : goal.invariant-loop-source
invariant-loop-source l =
    let setting = setting_of l.setting (measured_in l.fn.self.nodes l.entry) in
    let way = way_of l.fn.self l.terms in
    let rest = pass_sources setting (map source_of (drop l.source-index l.sources)) way (length l.self.frees.items) in
    let whole = pass_sources setting (map source_of l.sources) way (length l.fn.self.frees.items) in
    record {
      grows : Grows l.fn.self.nodes l.self.nodes;
      over : AreSources l.self.nodes (program_of l.setting.program.now) l.terms (map source_of (drop l.source-index l.sources));
      ledger : with_fresh rest.said rest.fresh (ledger_of l.self) ≡ with_fresh whole.said whole.fresh (ledger_of l.fn.self);
      terms : trees_at l.self.nodes l.all.items ++ rest.terms ≡ whole.terms;
      locals : AreLocals l.self.nodes (flat_map source_types (map source_of (take l.source-index l.sources))) l.all.items;
      many : length l.all.items ≡ length (flat_map source_types (map source_of (take l.source-index l.sources)));
    }
