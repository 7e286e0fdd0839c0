-- Clauses that are said one after another.
use Rattle.df_nledger.proofs.Words.{◌≡◌, ◌+◌, ◌<◌, ◌≤◌, ℕ, List, [], ◌∷◌, ◌++◌, map, drop, get_or, length, refl, sym, ap, ◌∙◌, subst, flat_map, append-nil, drop_all, Pos, Clause, clause_of, DeclaredClause, Kind, term_of, conditions_of, Grows, grows_not, grows_then, drop_next, Said, Way, assume, assume_all, assert, assert_all, AreClauses, ledger_of, way_of, saying, DeclaredLedger}
use Rattle.df_nledger.proofs.Claims.{clause_first, clauses_rest, way_same}
use Rattle.df_nledger.proofs.Sayings.{say_next, say_last, same_path}

-- ---- what is said of one clause

abbrev pub owed : (Clause → Pos) → Kind → Way → Clause → List Said
owed place kind way clause = assert_all way.path (conditions_of way.env clause.condition) ++ assert way.path (place clause) kind (term_of way.env clause.condition)

abbrev pub known : Way → Clause → List Said
known way clause = assume_all way.path (conditions_of way.env clause.condition) ++ assume way.path (term_of way.env clause.condition)

abbrev pub required : Way → Clause → List Said
required way clause = assert_all way.path (conditions_of way.env clause.condition) ++ assume way.path (term_of way.env clause.condition)

-- ---- with what is left said too, all is

pub record Saying (say : Way → Clause → List Said) (old here : DeclaredLedger) (terms : List ℕ) (xs : List DeclaredClause) (i : ℕ) : Type 0 where
  pub grows : Grows old.nodes here.nodes
  pub over : AreClauses here.nodes terms (map clause_of (drop i xs))
  pub said : saying (flat_map (say (way_of old terms)) (map clause_of (drop i xs))) (ledger_of here) ≡ saying (flat_map (say (way_of old terms)) (map clause_of xs)) (ledger_of old)

module _ (say : Way → Clause → List Said) (old here : DeclaredLedger) (terms : List ℕ) (xs : List DeclaredClause) (i : ℕ) where
  pub saying_first : (x : DeclaredClause) → Saying say old here terms xs i → i < length xs → x ≡ get_or xs i x → AreClauses here.nodes terms (clause_of x ∷ [])
  saying_first x h lt is =
      clause_first here.nodes terms (clause_of x) (map clause_of (drop (i + 1) xs)) (subst (λ (ds : List DeclaredClause). AreClauses here.nodes terms (map clause_of ds)) (drop_next xs i x is lt) h.over)

  pub saying_next : (x : DeclaredClause) (next : DeclaredLedger) → Saying say old here terms xs i → AreClauses old.nodes terms (map clause_of xs) → i < length xs → x ≡ get_or xs i x → Grows here.nodes next.nodes
      → ledger_of next ≡ saying (flat_map (say (way_of here terms)) (clause_of x ∷ [])) (ledger_of here) → Saying say old next terms xs (i + 1)
  saying_next x next h over lt is grows step =
      let rest = map clause_of (drop (i + 1) xs) in
      let split : map clause_of (drop i xs) ≡ clause_of x ∷ rest = ap (map clause_of) (drop_next xs i x is lt) in
      let same = way_same old.nodes terms here.nodes over.types _ _ h.grows over.locals (same_path (ledger_of old) (ledger_of here) _ _ h.said) in
      let step = step ∙ ap (λ (said : List Said). saying said (ledger_of here)) (append-nil (say (way_of here terms) (clause_of x))) ∙ (λ i. saying (say (same i) (clause_of x)) (ledger_of here)) in
      record {
        grows = grows_then old.nodes here.nodes next.nodes h.grows grows;
        over = clauses_rest here.nodes terms next.nodes (clause_of x) rest grows (subst (AreClauses here.nodes terms) split h.over);
        said = say_next (ledger_of old) (ledger_of here) (ledger_of next) _ (say (way_of old terms) (clause_of x)) (flat_map (say (way_of old terms)) rest)
            (ap (λ (cs : List Clause). saying (flat_map (say (way_of old terms)) cs) (ledger_of here)) (sym split) ∙ h.said) step;
      }

  pub saying_done : Saying say old here terms xs i → length xs ≤ i → ledger_of here ≡ saying (flat_map (say (way_of old terms)) (map clause_of xs)) (ledger_of old)
  saying_done h le = say_last (ledger_of old) (ledger_of here) _ (ap (λ (ds : List DeclaredClause). saying (flat_map (say (way_of old terms)) (map clause_of ds)) (ledger_of here)) (sym (drop_all i xs le)) ∙ h.said)

pub saying_from : (say : Way → Clause → List Said) (old : DeclaredLedger) (terms : List ℕ) (xs : List DeclaredClause) → AreClauses old.nodes terms (map clause_of xs) → Saying say old old terms xs 0
saying_from say old terms xs over = record { grows = grows_not old.nodes; over = over; said = refl }
