-- A model of the ground set of a sequent makes its hypotheses true and its goal false.
use Rattle.std.proofs.Common.{◌≡◌, ℕ, zero, suc, ℤ, Bool, true, false, not, ◌||◌, List, [], ◌∷◌, Some, None, slice_get, refl, sym, ap, ◌∙◌, subst, true≢false}
use Rattle.std.specs.List.{list_all}
use Rattle.std.specs.Option.{option_map}
use Rattle.std.proofs.lemmas.Option.{same_Some, slice_get-map}
use Rattle.std.proofs.lemmas.Bool.{and_from, and_parts}
use Rattle.df_form.specs.Sequent.{Sequent}
use Rattle.df_form.specs.Clause.{yes, no, clause_truth}
use Rattle.df_clause.specs.declared.ground.Ground.{Ground}
use Rattle.df_clause.specs.GroundClause.{GroundClause}
use Rattle.df_clause.specs.Among.{Among}
use Rattle.df_clause.specs.GroundView.{IsGround, literals_of, state_of}
use Rattle.df_table.specs.TableModel.{is_true, IsTableModel}

passes_at : {A : Type 0} (test : A → Bool) (xs : List A) (i : ℕ) (x : A) → list_all test xs ≡ true → slice_get xs i ≡ Some x → test x ≡ true
passes_at test [] i x all at = absurd cc
passes_at test (y ∷ xs) zero x all at = subst (λ z. test z ≡ true) (same_Some y x at) (and_parts (test y) (list_all test xs) all).0
passes_at test (y ∷ xs) (suc i) x all at = passes_at test xs i x (and_parts (test y) (list_all test xs) all).1 at

each_passes : {A : Type 0} (test : A → Bool) (xs : List A) → ((i : ℕ) (x : A) → slice_get xs i ≡ Some x → test x ≡ true) → list_all test xs ≡ true
each_passes test [] each = refl
each_passes test (x ∷ xs) each = and_from (test x) (list_all test xs) (each 0 x refl) (each_passes test xs (λ i y at. each (suc i) y at))

one_true : (b : Bool) → (b || false) ≡ true → b ≡ true
one_true true e = refl
one_true false e = e

not_true : (b : Bool) → (not b || false) ≡ true → b ≡ false
not_true true e = absurd (true≢false (sym e))
not_true false e = refl

module _ (s : Sequent) (g : Ground) (table : List ℤ) (is : IsGround s g) (model : IsTableModel (state_of g) table) where
  -- the literals of a ground clause are a clause of the state
  stands : (clause : GroundClause) → Among g.clauses clause → Among (state_of g).clauses clause.literals
  stands clause there = (there.0, slice_get-map literals_of g.clauses there.0 ∙ ap (option_map literals_of) there.1)

  pub hypotheses_true : list_all (is_true table) s.hypotheses ≡ true
  hypotheses_true = each_passes (is_true table) s.hypotheses (λ i h at.
      (let there = stands (record { literals = yes h ∷ []; bound = None }) (is.hypotheses i h at) in
      one_true (is_true table h) (passes_at (clause_truth (is_true table)) (state_of g).clauses there.0 (yes h ∷ []) model.clauses there.1)))

  pub goal_false : is_true table s.goal ≡ false
  goal_false =
      let there = stands (record { literals = no s.goal ∷ []; bound = None }) is.goal in
      not_true (is_true table s.goal) (passes_at (clause_truth (is_true table)) (state_of g).clauses there.0 (no s.goal ∷ []) model.clauses there.1)
