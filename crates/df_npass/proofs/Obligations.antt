-- The obligation that the first false formula is, and the obligations of declarations: by all groups they are the same.
use Rattle.df_npass.proofs.Words.{◌≡◌, ◌⊎◌, inl, inr, ℕ, zero, suc, ◌+◌, true, false, List, [], ◌∷◌, ◌++◌, slice_get, Contains, Some, refl, sym, ap, subst, arith, AllByRecursion, list_any, option_and_then, Pos, Method, Decl, NewtypeDecl, MethodDecl, Program, as_method, Kind, Term, Interpretation, truth, same_term, term_is, Said, Known, Owed, Obligation, known_with, obligations_of, obligations_of_method, obligations_of_decl, obligations_from, all_front, all_joined, none_there, choice, cond_both, or_cases, ◌==◌, ◌<◌, Bool, ◌&&◌, length, nat_lt, ltb-true, eqb-true, eq-eqb, AreGroups, group_at, grouped_with, setting_of, pass_within, OneListOfObligations}
use Rattle.std.proofs.lemmas.List.Elements.{Contains-append_left, Contains-append_right, Contains-append_cases}
use Rattle.df_npass.proofs.Playing.{FirstFalse}
use Rattle.df_lemmas.proofs.Alls.{all_there}
use Rattle.df_npass.proofs.Updating.{same_by}

abbrev pub AllHold : Interpretation → List Term → Type 0
AllHold i formulas = AllByRecursion (λ (formula : Term). truth i formula ≡ true) formulas

-- what is known already is true with the others
hold_found : (i : Interpretation) (known : List Term) (formula : Term) → list_any (same_term formula) known ≡ true → AllHold i known → truth i formula ≡ true
hold_found i [] formula e h = cc
hold_found i (x ∷ known) formula e h = elim (or_cases (same_term formula x) (list_any (same_term formula) known) e) [
  | inl is ↦ subst (λ (y : Term). truth i y ≡ true) (sym (term_is formula x is)) h.0
  | inr rest ↦ hold_found i known formula rest h.1
]

hold_more : (i : Interpretation) (known : List Term) (formula : Term) → AllHold i known → truth i formula ≡ true → AllHold i (known_with known formula)
hold_more i known formula h e =
    choice (AllHold i) (list_any (same_term formula) known) known (known ++ formula ∷ []) h (all_joined (λ (x : Term). truth i x ≡ true) known (formula ∷ []) h (e, tt))

hold_less : (i : Interpretation) (known : List Term) (formula : Term) → AllHold i (known_with known formula) → AllHold i known × (truth i formula ≡ true)
hold_less i known formula = cond_both (list_any (same_term formula) known) known (known ++ formula ∷ []) (λ (x : List Term). AllHold i x → AllHold i known × (truth i formula ≡ true))
    (λ e h. (h, hold_found i known formula e h)) (λ e h. (all_front (λ (x : Term). truth i x ≡ true) known (formula ∷ []) h, all_there (λ (x : Term). truth i x ≡ true) known [] formula h))

head_or_rest : {X : Type 0} (y : X) (xs : List X) (x : X) → Contains (y ∷ xs) x → (y ≡ x) ⊎ Contains xs x
head_or_rest y xs x (zero, less, e) = inl e
head_or_rest y xs x (suc k, less, e) = inr (k, omega (arith, less), e)

-- ---- of one declaration

-- the obligation of a kind at a place is refuted
pub record Refutes (i : Interpretation) (number : ℕ) (among : List Obligation) (at : Pos) (kind : Kind) : Type 0 where
  pub obligation : Obligation
  pub among_them : Contains among obligation
  pub declaration : obligation.declaration ≡ number
  pub place : obligation.pos ≡ at
  pub kind_is : obligation.kind ≡ kind
  pub hypotheses : AllHold i obligation.hypotheses
  pub goal : truth i obligation.goal ≡ false

more_among : (i : Interpretation) (number : ℕ) (first : Obligation) (among : List Obligation) (at : Pos) (kind : Kind) → Refutes i number among at kind → Refutes i number (first ∷ among) at kind
more_among i number first among at kind r =
    record { obligation = r.obligation; among_them = Contains-append_right (first ∷ []) among r.obligation r.among_them; declaration = r.declaration; place = r.place; kind_is = r.kind_is; hypotheses = r.hypotheses; goal = r.goal }

pub first_refuted : (i : Interpretation) (number : ℕ) (at : Pos) (kind : Kind) (said : List Said) (known : List Term) → FirstFalse i said at kind → AllHold i known → Refutes i number (obligations_of number known said) at kind
first_refuted i number at kind [] known f h = absurd f
first_refuted i number at kind (Known formula ∷ others) known f h = elim f [
  | inl g ↦ first_refuted i number at kind others (known_with known formula) g.1 (hold_more i known formula h g.0)
  | inr g ↦ absurd g.1
]
first_refuted i number at kind (Owed own what formula ∷ others) known f h = elim f [
  | inl g ↦ more_among i number (record { declaration = number; pos = own; kind = what; hypotheses = known; goal = formula }) (obligations_of number (known_with known formula) others) at kind
      (first_refuted i number at kind others (known_with known formula) g.1 (hold_more i known formula h g.0))
  | inr g ↦ record { obligation = record { declaration = number; pos = own; kind = what; hypotheses = known; goal = formula }; among_them = (0, omega arith, refl); declaration = refl; place = g.1.0; kind_is = g.1.1; hypotheses = h; goal = g.0 }
]

-- what is known before is among the hypotheses
pub refuted_first : (i : Interpretation) (number : ℕ) (said : List Said) (known : List Term) (o : Obligation) → Contains (obligations_of number known said) o → AllHold i o.hypotheses → truth i o.goal ≡ false → AllHold i known × FirstFalse i said o.pos o.kind
refuted_first i number [] known o there h no_goal = absurd (none_there o there)
refuted_first i number (Known formula ∷ others) known o there h no_goal =
    let rest = refuted_first i number others (known_with known formula) o there h no_goal in
    let less = hold_less i known formula rest.0 in
    (less.0, inl (less.1, rest.1))
refuted_first i number (Owed own what formula ∷ others) known o there h no_goal =
    elim (head_or_rest (record { declaration = number; pos = own; kind = what; hypotheses = known; goal = formula }) (obligations_of number (known_with known formula) others) o there) [
      | inl e ↦ (subst (λ (x : Obligation). AllHold i x.hypotheses) (sym e) h, inr (subst (λ (x : Obligation). truth i x.goal ≡ false) (sym e) no_goal, (ap (λ (x : Obligation). x.pos) e, ap (λ (x : Obligation). x.kind) e)))
      | inr r ↦ (let rest = refuted_first i number others (known_with known formula) o r h no_goal in let less = hold_less i known formula rest.0 in (less.0, inl (less.1, rest.1)))
    ]

pub of_declaration : (number : ℕ) (said : List Said) (known : List Term) (o : Obligation) → Contains (obligations_of number known said) o → o.declaration ≡ number
of_declaration number [] known o there = absurd (none_there o there)
of_declaration number (Known formula ∷ others) known o there = of_declaration number others (known_with known formula) o there
of_declaration number (Owed own what formula ∷ others) known o there =
    elim (head_or_rest (record { declaration = number; pos = own; kind = what; hypotheses = known; goal = formula }) (obligations_of number (known_with known formula) others) o there) [
      | inl e ↦ ap (λ (x : Obligation). x.declaration) (sym e)
      | inr r ↦ of_declaration number others (known_with known formula) o r
    ]

-- ---- of all

module _ (program : Program) (groups : List ℕ) (o : Obligation) where
  pub of_method_there : (decls : List Decl) (first k : ℕ) (method : Method) → option_and_then as_method (slice_get decls k) ≡ Some method → Contains (obligations_of_method program groups (first + k) method) o → Contains (obligations_from program groups first decls) o
  of_method_there [] first k method e there = cc
  of_method_there (NewtypeDecl newtype ∷ decls) first zero method e there = cc
  of_method_there (MethodDecl own ∷ decls) first zero method e there =
      let same : own ≡ method = cc in
      let number : first + 0 ≡ first = omega arith in
      Contains-append_left (obligations_of_method program groups first own) (obligations_from program groups (suc first) decls) o
      (subst (λ (m : Method). Contains (obligations_of_method program groups first m) o) (sym same) (subst (λ (x : ℕ). Contains (obligations_of_method program groups x method) o) number there))
  of_method_there (d ∷ decls) first (suc k) method e there =
      let number : first + suc k ≡ suc first + k = omega arith in
      Contains-append_right (obligations_of_decl program groups first d) (obligations_from program groups (suc first) decls) o
      (of_method_there decls (suc first) k method e (subst (λ (x : ℕ). Contains (obligations_of_method program groups x method) o) number there))

  pub record OfMethod (first : ℕ) (decls : List Decl) : Type 0 where
    pub k : ℕ
    pub method : Method
    pub found : option_and_then as_method (slice_get decls k) ≡ Some method
    pub there : Contains (obligations_of_method program groups (first + k) method) o

  pub there_of_method : (decls : List Decl) (first : ℕ) → Contains (obligations_from program groups first decls) o → OfMethod first decls
  there_of_method [] first there = absurd (none_there o there)
  there_of_method (d ∷ decls) first there = elim (Contains-append_cases (obligations_of_decl program groups first d) (obligations_from program groups (suc first) decls) o there) [ inl x ↦ here d x | inr y ↦ later (there_of_method decls (suc first) y) ]
    where
      later : OfMethod (suc first) decls → OfMethod first (d ∷ decls)
      later m = let number : suc first + m.k ≡ first + suc m.k = omega arith in record { k = suc m.k; method = m.method; found = m.found; there = subst (λ (x : ℕ). Contains (obligations_of_method program groups x m.method) o) number m.there }

      here : (d : Decl) → Contains (obligations_of_decl program groups first d) o → OfMethod first (d ∷ decls)
      here (NewtypeDecl newtype) there = absurd (none_there o there)
      here (MethodDecl own) there = let number : first ≡ first + 0 = omega arith in record { k = 0; method = own; found = refl; there = subst (λ (x : ℕ). Contains (obligations_of_method program groups x own) o) number there }

-- a test behind another one
same_behind : (test a b : Bool) → (test ≡ true → a ≡ b) → (test && a) ≡ (test && b)
same_behind true a b same = same refl
same_behind false a b same = refl

module _ (program : Program) where
  shared : (groups others : List ℕ) → AreGroups program groups → AreGroups program others → (one other : ℕ) → one < length program.decls → other < length program.decls
      → (group_at groups one == group_at groups other) ≡ true → (group_at others one == group_at others other) ≡ true
  shared groups others are also one other first second same =
      let e = eqb-true (group_at groups one) (group_at groups other) same in
      let long = are.each in
      let also_long = also.each in
      eq-eqb (group_at others one) (group_at others other)
      (also.together one other (omega arith) (omega arith) (are.apart one other (omega arith) (omega arith) e) (are.apart other one (omega arith) (omega arith) (sym e)))

  module _ (groups others : List ℕ) (are : AreGroups program groups) (also : AreGroups program others) where
    same_group : (number : ℕ) → number < length program.decls → grouped_with program groups number ≡ grouped_with program others number
    same_group number less = λ i other.
        same_behind (nat_lt other (length program.decls)) (group_at groups number == group_at groups other) (group_at others number == group_at others other)
        (λ e. let there = ltb-true other (length program.decls) e in same_by _ _ (shared groups others are also number other less there) (shared others groups also are number other less there)) i

    same_from : (decls : List Decl) (first : ℕ) → first + length decls ≡ length program.decls → obligations_from program groups first decls ≡ obligations_from program others first decls
    same_from [] first e = refl
    same_from (NewtypeDecl newtype ∷ decls) first e = same_from decls (suc first) (omega arith)
    same_from (MethodDecl method ∷ decls) first e = λ i.
        obligations_of first [] (pass_within (record (setting_of program groups first method) { in_group = same_group first (omega arith) i }) method) ++ same_from decls (suc first) (omega arith) i

pub one_list_of_obligations : OneListOfObligations
one_list_of_obligations program groups others are also = same_from program groups others are also program.decls 0 (omega arith)
