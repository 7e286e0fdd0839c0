-- Conditions that are said one after another.
use Rattle.df_nledger.proofs.Words.{◌≡◌, ◌+◌, ◌<◌, ◌≤◌, ℕ, List, [], ◌∷◌, map, drop, get_or, length, Option, refl, sym, ap, ◌∙◌, drop_all, get_or_default, Term, Truths, Condition, on_path, condition_in, conditions_in, AreConditions, Grows, IsTerm, path_in, DeclaredCondition, grows_not, grows_then, term_stays, tree_stays, drop_next, Said, Known, Owed, ledger_of, saying, DeclaredLedger}
use Rattle.df_nledger.proofs.Sayings.{say_next, say_last, same_path, at_index, no_condition}

-- ---- what is said of one condition

abbrev pub known : Option Term → Condition → Said
known path c = Known (on_path path c.formula)

abbrev pub owed : Option Term → Condition → Said
owed path c = Owed c.pos c.kind (on_path path c.formula)

-- ---- with what is left said too, all is

pub record Saying (say : Option Term → Condition → Said) (old here : DeclaredLedger) (xs : List DeclaredCondition) (i : ℕ) : Type 0 where
  pub grows : Grows old.nodes here.nodes
  pub said : saying (map (say (path_in old.nodes old.path)) (conditions_in old.nodes (drop i xs))) (ledger_of here) ≡ saying (map (say (path_in old.nodes old.path)) (conditions_in old.nodes xs)) (ledger_of old)

pub saying_from : (say : Option Term → Condition → Said) (old : DeclaredLedger) (xs : List DeclaredCondition) → Saying say old old xs 0
saying_from say old xs = record { grows = grows_not old.nodes; said = refl }

module _ (say : Option Term → Condition → Said) (old here : DeclaredLedger) (xs : List DeclaredCondition) (i : ℕ) (h : Saying say old here xs i) where
  module _ (all : AreConditions old.nodes xs) (less : i < length xs) where
    formula_is : IsTerm Truths old.nodes (get_or xs i no_condition).formula
    formula_is = at_index (λ (c : DeclaredCondition). IsTerm Truths old.nodes c.formula) xs i (get_or xs i no_condition) all less (get_or_default xs i no_condition (get_or xs i no_condition) less)

    pub formula_there : IsTerm Truths here.nodes (get_or xs i no_condition).formula
    formula_there = term_stays Truths old.nodes here.nodes (get_or xs i no_condition).formula h.grows formula_is

    pub saying_next : (next : DeclaredLedger) → Grows here.nodes next.nodes
        → ledger_of next ≡ saying (say (path_in here.nodes here.path) (condition_in here.nodes (get_or xs i no_condition)) ∷ []) (ledger_of here) → Saying say old next xs (i + 1)
    saying_next next grows step =
        let x = get_or xs i no_condition in
        let e : x ≡ get_or xs i x = get_or_default xs i no_condition x less in
        let path = path_in old.nodes old.path in
        let so = ap (λ (cs : List DeclaredCondition). saying (map (say path) (conditions_in old.nodes cs)) (ledger_of here)) (sym (drop_next xs i x e less)) ∙ h.said in
        let place = same_path (ledger_of old) (ledger_of here) _ _ h.said in
        let tree = tree_stays Truths old.nodes here.nodes x.formula h.grows formula_is in
        record {
          grows = grows_then old.nodes here.nodes next.nodes h.grows grows;
          said = say_next (ledger_of old) (ledger_of here) (ledger_of next) _ (say path (condition_in old.nodes x) ∷ []) (map (say path) (conditions_in old.nodes (drop (i + 1) xs))) so
              (step ∙ (λ j. saying (say (place j) (record { pos = x.pos; kind = x.kind; formula = tree j }) ∷ []) (ledger_of here)));
        }

  pub saying_done : length xs ≤ i → ledger_of here ≡ saying (map (say (path_in old.nodes old.path)) (conditions_in old.nodes xs)) (ledger_of old)
  saying_done past = say_last (ledger_of old) (ledger_of here) _ (ap (λ (cs : List DeclaredCondition). saying (map (say (path_in old.nodes old.path)) (conditions_in old.nodes cs)) (ledger_of here)) (sym (drop_all i xs past)) ∙ h.said)
