-- Terms of several values, and those that are given one after another.
use Rattle.df_nledger.proofs.Words.{◌≡◌, ℕ, zero, suc, ◌<◌, true, List, [], ◌∷◌, ◌++◌, map, length, slice_get, Some, refl, sym, ap, ◌∙◌, subst, append_assoc, arith, Option, AllByRecursion, and_parts, same_Some, map-append, append-nil, length-map, all_joined, Ty, Expr, Program, Param, types_of, is_expr, are_exprs, Node, Term, sort_of_type, term_of, Grows, IsTerm, HasTerm, AreLocals, tree_at, trees_at, trees_in, sort_of_term, locals_stay, all_same, all_below, Part, part, AreValues, Ledger, with_fresh, with_any, Said, assume_type, free_of, Given, any_values}
use Rattle.df_lemmas.proofs.Lists.{head_same, tail_same}

module _ (nodes : List Node) where
  pub no_locals : AreLocals nodes [] []
  no_locals = record { below = tt; sorted = λ local ty e. absurd cc }

  pub locals_cons : (ty : Ty) (n : ℕ) (types : List Ty) (terms : List ℕ) → IsTerm (sort_of_type ty) nodes n → AreLocals nodes types terms → AreLocals nodes (ty ∷ types) (n ∷ terms)
  locals_cons ty n types terms is h = record { below = (is.below, h.below); sorted = by }
    where
      by : (local : ℕ) (own : Ty) → slice_get (ty ∷ types) local ≡ Some own → HasTerm (sort_of_type own) nodes (n ∷ terms) local
      by zero own e = record { number = n; at = refl; is_term = subst (λ (t : Ty). IsTerm (sort_of_type t) nodes n) (same_Some ty own e) is }
      by (suc k) own e = let there = h.sorted k own e in record { number = there.number; at = there.at; is_term = there.is_term }

  pub locals_first : (ty : Ty) (n : ℕ) (types : List Ty) (terms : List ℕ) → AreLocals nodes (ty ∷ types) (n ∷ terms) → IsTerm (sort_of_type ty) nodes n
  locals_first ty n types terms h = let there = h.sorted 0 ty refl in subst (λ (m : ℕ). IsTerm (sort_of_type ty) nodes m) (sym (same_Some n there.number there.at)) there.is_term

  pub locals_rest : (ty : Ty) (n : ℕ) (types : List Ty) (terms : List ℕ) → AreLocals nodes (ty ∷ types) (n ∷ terms) → AreLocals nodes types terms
  locals_rest ty n types terms h = record { below = h.below.1; sorted = λ local own e. let there = h.sorted (suc local) own e in record { number = there.number; at = there.at; is_term = there.is_term } }

  pub locals_joined : (types more : List Ty) (terms others : List ℕ) → length terms ≡ length types → AreLocals nodes types terms → AreLocals nodes more others → AreLocals nodes (types ++ more) (terms ++ others)
  locals_joined [] more [] others many h g = g
  locals_joined [] more (n ∷ terms) others many h g = absurd (omega arith)
  locals_joined (ty ∷ types) more [] others many h g = absurd (omega arith)
  locals_joined (ty ∷ types) more (n ∷ terms) others many h g =
      locals_cons ty n (types ++ more) (terms ++ others) (locals_first ty n types terms h) (locals_joined types more terms others (omega arith) (locals_rest ty n types terms h) g)

module _ (nodes : List Node) (terms : List ℕ) where
  first_value : (e : Expr) (rest : List Expr) (p : Program) (all : List Ty) (ty : Ty) (tys : List Ty) → are_exprs p all (ty ∷ tys) (e ∷ rest) ≡ true → (is_expr p all ty e ≡ true) × (are_exprs p all tys rest ≡ true)
  first_value e rest p all ty tys h = and_parts (is_expr p all ty e) (are_exprs p all tys rest) h

  -- terms of expressions have the sorts of their types
  pub values_are : (now : List Node) (p : Program) (all tys : List Ty) (exprs : List Expr) (values : List ℕ) → AreLocals nodes all terms → are_exprs p all tys exprs ≡ true
      → trees_at now values ≡ map (term_of (trees_in nodes terms)) exprs → AllByRecursion (λ n. n < length now) values → AreLocals now tys values
  values_are now p all [] [] [] h typed e below = no_locals now
  values_are now p all [] [] (n ∷ values) h typed e below = absurd cc
  values_are now p all [] (x ∷ exprs) values h typed e below = absurd cc
  values_are now p all (ty ∷ tys) [] values h typed e below = absurd cc
  values_are now p all (ty ∷ tys) (x ∷ exprs) [] h typed e below = absurd cc
  values_are now p all (ty ∷ tys) (x ∷ exprs) (n ∷ values) h typed e below =
      let is = first_value x exprs p all ty tys typed in
      let one = part p all ty (sort_of_type ty) nodes terms x is.0 refl h in
      let tree = head_same (tree_at now n) (term_of (trees_in nodes terms) x) (trees_at now values) (map (term_of (trees_in nodes terms)) exprs) e in
      locals_cons now ty n tys values (record { below = below.0; sort_is = ap sort_of_term tree ∙ one.is })
      (values_are now p all tys exprs values h is.1 (tail_same (tree_at now n) (term_of (trees_in nodes terms) x) (trees_at now values) (map (term_of (trees_in nodes terms)) exprs) e) below.1)

  pub value_over : (e : Expr) (rest : List Expr) → AreValues nodes terms (e ∷ rest) → (ty : Ty) × Part (sort_of_type ty) nodes terms e
  value_over e rest h = by h.tys h.typed
    where
      by : (tys : List Ty) → are_exprs h.program h.types tys (e ∷ rest) ≡ true → (ty : Ty) × Part (sort_of_type ty) nodes terms e
      by [] typed = absurd cc
      by (ty ∷ tys) typed = (ty, part h.program h.types ty (sort_of_type ty) nodes terms e (first_value e rest h.program h.types ty tys typed).0 refl h.locals)

  pub values_rest : (now : List Node) (e : Expr) (rest : List Expr) → Grows nodes now → AreValues nodes terms (e ∷ rest) → AreValues now terms rest
  values_rest now e rest g h = by h.tys h.typed
    where
      by : (tys : List Ty) → are_exprs h.program h.types tys (e ∷ rest) ≡ true → AreValues now terms rest
      by [] typed = absurd cc
      by (ty ∷ tys) typed = record { program = h.program; types = h.types; tys = tys; typed = (first_value e rest h.program h.types ty tys typed).1; locals = locals_stay nodes now h.types terms g h.locals }

-- one term more
module _ (here next : List Node) (ns more : List ℕ) (n : ℕ) (grows : Grows here next) (below : AllByRecursion (λ m. m < length here) ns) (e : more ≡ ns ++ n ∷ []) where
  pub trees_next : (t : Term) (rest whole : List Term) → tree_at next n ≡ t → trees_at here ns ++ t ∷ rest ≡ whole → trees_at next more ++ rest ≡ whole
  trees_next t rest whole is so =
      let kept = all_same here next ns grows below in
      ap (λ (zs : List ℕ). trees_at next zs ++ rest) e ∙ ap (λ (ts : List Term). ts ++ rest) (map-append (tree_at next) ns (n ∷ []))
      ∙ (λ i. (kept i ++ is i ∷ []) ++ rest) ∙ append_assoc (trees_at here ns) (t ∷ []) rest ∙ so

  pub below_next : n < length next → AllByRecursion (λ m. m < length next) more
  below_next lt = subst (AllByRecursion (λ m. m < length next)) (sym e) (all_joined (λ m. m < length next) ns (n ∷ []) (all_below here next ns grows below) (lt, tt))

pub with_next : (old here next : Ledger) (all_said said rest : List Said) (all_fresh fresh rest_fresh : ℕ) → with_fresh (said ++ rest) rest_fresh here ≡ with_fresh all_said all_fresh old → next ≡ with_fresh said fresh here
    → with_fresh rest rest_fresh next ≡ with_fresh all_said all_fresh old
with_next old here next all_said said rest all_fresh fresh rest_fresh so step =
    ap (with_fresh rest rest_fresh) step ∙ (λ i. record { said = append_assoc here.said said rest i; fresh = rest_fresh; path = here.path }) ∙ so

pub with_last : (old here : Ledger) (all_said : List Said) (all_fresh : ℕ) → with_fresh [] here.fresh here ≡ with_fresh all_said all_fresh old → here ≡ with_fresh all_said all_fresh old
with_last old here all_said all_fresh so = (λ i. record { said = sym (append-nil here.said) i; fresh = here.fresh; path = here.path }) ∙ so

pub with_first : (old : Ledger) → with_fresh [] old.fresh old ≡ old
with_first old = λ i. record { said = append-nil old.said i; fresh = old.fresh; path = old.path }

-- ---- any values

module _ (path : Option Term) (p : Param) (ps : List Param) (old here next : Ledger) (whole : Given) (same : here.path ≡ path) (step : next ≡ with_any p.ty here) where
  pub any_next : with_fresh (any_values path (p ∷ ps) here.fresh).said (any_values path (p ∷ ps) here.fresh).fresh here ≡ with_fresh whole.said whole.fresh old
      → with_fresh (any_values path ps next.fresh).said (any_values path ps next.fresh).fresh next ≡ with_fresh whole.said whole.fresh old
  any_next so =
      let more = any_values path ps (suc here.fresh) in
      let one = λ (q : Option Term). assume_type q p.ty (free_of here.fresh p.ty) in
      ap (λ (k : ℕ). with_fresh (any_values path ps k).said (any_values path ps k).fresh next) (ap (λ (l : Ledger). l.fresh) step)
      ∙ with_next old here next whole.said (one here.path) more.said whole.fresh (suc here.fresh) more.fresh (ap (λ (q : Option Term). with_fresh (one q ++ more.said) more.fresh here) same ∙ so) step

  pub any_rest : (any_values path ps (suc here.fresh)).terms ≡ (any_values path ps next.fresh).terms
  any_rest = ap (λ (k : ℕ). (any_values path ps k).terms) (sym (ap (λ (l : Ledger). l.fresh) step))

pub any_are : (nodes : List Node) (path : Option Term) (params : List Param) (fresh : ℕ) (ns : List ℕ) → trees_at nodes ns ≡ (any_values path params fresh).terms → AllByRecursion (λ n. n < length nodes) ns → AreLocals nodes (types_of params) ns
any_are nodes path [] fresh [] e below = no_locals nodes
any_are nodes path [] fresh (n ∷ ns) e below = absurd cc
any_are nodes path (p ∷ params) fresh [] e below = absurd cc
any_are nodes path (p ∷ params) fresh (n ∷ ns) e below =
    let head = head_same (tree_at nodes n) (free_of fresh p.ty) (trees_at nodes ns) (any_values path params (suc fresh)).terms e in
    let tail = tail_same (tree_at nodes n) (free_of fresh p.ty) (trees_at nodes ns) (any_values path params (suc fresh)).terms e in
    locals_cons nodes p.ty n (types_of params) ns (record { below = below.0; sort_is = ap sort_of_term head }) (any_are nodes path params (suc fresh) ns tail below.1)

pub any_long : (path : Option Term) (params : List Param) (fresh : ℕ) → length (any_values path params fresh).terms ≡ length (types_of params)
any_long path [] fresh = refl
any_long path (p ∷ params) fresh = ap suc (any_long path params (suc fresh))

pub any_many : (nodes : List Node) (path : Option Term) (params : List Param) (fresh : ℕ) (ns : List ℕ) → trees_at nodes ns ≡ (any_values path params fresh).terms → length ns ≡ length (types_of params)
any_many nodes path params fresh ns e = omega (arith, ap (λ (ts : List Term). length ts) e, length-map ns (tree_at nodes), any_long path params fresh)
