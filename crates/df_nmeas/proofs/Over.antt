-- Members of a measure are well typed over locals that have terms.
use Rattle.df_nmeas.proofs.Words.{◌≡◌, ℕ, true, ◌&&◌, List, [], ◌∷◌, ◌++◌, Some, refl, and_parts, Ty, Measure, Program, is_type, is_expr, are_measures, Node, sort_of_type, term_of, conditions_of, trees_in, Grows, Gives, DeclaredCondition, locals_stay, locals_same, is_term, gives_as, Part, part, AreOver, DeclaredMeasured}
use Rattle.std.specs.List.{list_all}
use Rattle.df_nmeas.proofs.Pairs.{Measuring, measure_goes}

module _ (terms : List ℕ) (m : Measure) (rest : List Measure) where
  typed_parts : (p : Program) (types : List Ty) → are_measures p types (Some (m ∷ rest)) ≡ true → ((is_type p m.ty && is_expr p types m.ty m.value) ≡ true) × (are_measures p types (Some rest) ≡ true)
  typed_parts p types h = and_parts (is_type p m.ty && is_expr p types m.ty m.value) (list_all (λ (measure : Measure). is_type p measure.ty && is_expr p types measure.ty measure.value) rest) h

  pub member_part : (nodes : List Node) → AreOver nodes terms (m ∷ rest) → Part (sort_of_type m.ty) nodes terms m.value
  member_part nodes h =
      let is = and_parts (is_type h.program m.ty) (is_expr h.program h.types m.ty m.value) (typed_parts h.program h.types h.typed).0 in
      part h.program h.types m.ty (sort_of_type m.ty) nodes terms m.value is.1 refl h.locals

  pub members_left : (before now : List Node) → Grows before now → AreOver before terms (m ∷ rest) → AreOver now terms rest
  members_left before now g h = record { program = h.program; types = h.types; typed = (typed_parts h.program h.types h.typed).1; locals = locals_stay before now h.types terms g h.locals }

  pub measure_next : (old now next : List Node) (members : List DeclaredMeasured) (before after then : List DeclaredCondition) (all : List Measure) (n : ℕ)
      → AreOver old terms all → AreOver now terms (m ∷ rest) → Measuring (trees_in old terms) old now members before after all (m ∷ rest)
      → Gives (term_of (trees_in now terms) m.value) (conditions_of (trees_in now terms) m.value) now next n after then
      → Measuring (trees_in old terms) old next (members ++ record { ty = m.ty; value = n } ∷ []) before then all rest
  measure_next old now next members before after then all n start over s g =
      let env = locals_same old now start.types terms s.grows start.locals in
      let is = member_part now over in
      measure_goes (trees_in old terms) old now next members before after then all rest m n s
      (gives_as _ (term_of (trees_in old terms) m.value) _ (conditions_of (trees_in old terms) m.value) now next n after then (λ i. term_of (env i) m.value) (λ i. conditions_of (env i) m.value) g)
      (is_term next (sort_of_type m.ty) _ n g.stands is.is)
