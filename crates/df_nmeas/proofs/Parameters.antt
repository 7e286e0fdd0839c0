-- Parameters in order, as members of a measure.
use Rattle.df_nmeas.proofs.Words.{◌≡◌, ℕ, zero, suc, ◌+◌, ◌≤◌, List, [], ◌∷◌, map, length, slice_get, slice_index_or, Some, refl, sym, ap, ◌∙◌, subst, arith, length-map, Ty, param_of, parameters_from, Param, types_of, Measure, DeclaredParam, Node, Sort, sort_of_type, Environment, conditions_of_measure, measured, tree_at, trees_in, IsTerm, HasTerm, AreLocals, DeclaredCondition, adds_none, adds_as, grows_not, local_tree, measured_in, AreMembers, Measures, MakesMeasure, members_from, DeclaredMeasured}
use Rattle.std.proofs.lemmas.Option.{same_Some}

-- there are no more locals than terms
locals_left : (nodes : List Node) (ty : Ty) (types : List Ty) (t : ℕ) (terms : List ℕ) → AreLocals nodes (ty ∷ types) (t ∷ terms) → AreLocals nodes types terms
locals_left nodes ty types t terms h = record {
  below = h.below.1;
  sorted = λ local own e. let there = h.sorted (suc local) own e in record { number = there.number; at = there.at; is_term = there.is_term };
}

pub locals_long : (nodes : List Node) (types : List Ty) (terms : List ℕ) → AreLocals nodes types terms → length types ≤ length terms
locals_long nodes [] terms h = omega arith
locals_long nodes (ty ∷ types) [] h = let at = (h.sorted 0 ty refl).at in absurd cc
locals_long nodes (ty ∷ types) (t ∷ terms) h = let rest = locals_long nodes types terms (locals_left nodes ty types t terms h) in omega arith

at_index : (terms : List ℕ) (local n : ℕ) → slice_get terms local ≡ Some n → slice_index_or terms local 0 ≡ n
at_index [] local n e = absurd cc
at_index (m ∷ terms) zero n e = same_Some m n e
at_index (m ∷ terms) (suc k) n e = at_index terms k n e

module _ (nodes : List Node) (terms : List ℕ) where
  is_there : (sort : Sort) (at : ℕ) → HasTerm sort nodes terms at → IsTerm sort nodes (slice_index_or terms at 0)
  is_there sort at h = subst (IsTerm sort nodes) (sym (at_index terms at h.number h.at)) h.is_term

  tree_there : (sort : Sort) (at : ℕ) → HasTerm sort nodes terms at → tree_at nodes (slice_index_or terms at 0) ≡ trees_in nodes terms at
  tree_there sort at h = ap (tree_at nodes) (at_index terms at h.number h.at) ∙ sym (local_tree nodes terms at h.number h.at)

  -- from a number on each parameter has a term
  abbrev AreFrom : ℕ → List Param → Type 0
  AreFrom from params = (local at : ℕ) (ty : Ty) → at ≡ from + local → slice_get (types_of params) local ≡ Some ty → HasTerm (sort_of_type ty) nodes terms at

  are_after : (from : ℕ) (p : Param) (params : List Param) → AreFrom from (p ∷ params) → AreFrom (suc from) params
  are_after from p params h = λ local at ty e there. h (suc local) at ty (omega arith) there

  are_first : (from : ℕ) (p : Param) (params : List Param) → AreFrom from (p ∷ params) → HasTerm (sort_of_type p.ty) nodes terms from
  are_first from p params h = h 0 from p.ty (omega arith) refl

  members_there : (params : List Param) (from : ℕ) → AreFrom from params → AreMembers nodes (members_from from params terms)
  members_there [] from h = tt
  members_there (p ∷ params) from h = (is_there (sort_of_type p.ty) from (are_first from p params h), members_there params (suc from) (are_after from p params h))

  members_are_parameters : (params : List Param) (from : ℕ) → AreFrom from params → measured_in nodes (members_from from params terms) ≡ measured (trees_in nodes terms) (parameters_from from params)
  members_are_parameters [] from h = refl
  members_are_parameters (p ∷ params) from h =
      let tree = tree_there (sort_of_type p.ty) from (are_first from p params h) in
      let others = members_are_parameters params (suc from) (are_after from p params h) in
      λ i. record { ty = p.ty; value = tree i } ∷ others i

-- parameters ask for nothing
nothing_asked : (env : Environment) (params : List Param) (from : ℕ) → conditions_of_measure env (parameters_from from params) ≡ []
nothing_asked env [] from = refl
nothing_asked env (p ∷ params) from = nothing_asked env params (suc from)

pub parameters_made : (nodes : List Node) (terms : List ℕ) (params : List Param) (cs : List DeclaredCondition) → AreLocals nodes (types_of params) terms
    → Measures (measured (trees_in nodes terms) (parameters_from 0 params)) (conditions_of_measure (trees_in nodes terms) (parameters_from 0 params)) nodes nodes (members_from 0 params terms) cs cs
parameters_made nodes terms params cs h =
    let from : (local at : ℕ) (ty : Ty) → at ≡ 0 + local → slice_get (types_of params) local ≡ Some ty → HasTerm (sort_of_type ty) nodes terms at = λ local at ty e there. subst (HasTerm (sort_of_type ty) nodes terms) (let same : local ≡ at = omega arith in same) (h.sorted local ty there) in
    record {
      grows = grows_not nodes;
      are = members_there nodes terms params 0 from;
      members_are = members_are_parameters nodes terms params 0 from;
      adds = adds_as nodes [] _ cs cs (sym (nothing_asked (trees_in nodes terms) params 0)) (adds_none nodes cs);
    }

module _ (nodes : List Node) (terms : List ℕ) (params : List DeclaredParam) where
  pub parameters_long : AreLocals nodes (types_of (map param_of params)) terms → length params ≤ length terms
  parameters_long h = let long = locals_long nodes (types_of (map param_of params)) terms h in omega (arith, length-map (map param_of params) (λ (p : Param). p.ty), length-map params param_of)

  pub parameters_make : (made : List DeclaredMeasured) (measures : List Measure) (cs : List DeclaredCondition) → measures ≡ parameters_from 0 (map param_of params) → made ≡ members_from 0 (map param_of params) terms
      → AreLocals nodes (types_of (map param_of params)) terms → MakesMeasure nodes nodes terms measures made cs cs
  parameters_make made measures cs e f h =
      subst (λ ms. MakesMeasure nodes nodes terms ms made cs cs) (sym e)
      (subst (λ ms. MakesMeasure nodes nodes terms (parameters_from 0 (map param_of params)) ms cs cs) (sym f) (parameters_made nodes terms (map param_of params) cs h))
