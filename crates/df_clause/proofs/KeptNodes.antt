-- The clauses of connectives make comparisons alone: what these keep, each keeps.
use Rattle.std.proofs.Common.{◌≡◌, ℕ, zero, suc, true, List, [], ◌∷◌, Option, Some, slice_get, refl, sym, subst, true≢false}
use Rattle.std.proofs.lemmas.Option.{same_Some}
use Rattle.df_lemmas.proofs.Options.{map_some}
use Rattle.df_form.specs.declared.node.Sort.{Sort}
use Rattle.df_form.specs.declared.node.Sort.TheVariants as sorts
use Rattle.df_form.specs.declared.node.Op.{Op}
use Rattle.df_form.specs.declared.node.Op.TheVariants as ops
use Rattle.df_form.specs.Node.{Node}
use Rattle.df_form.specs.Sorting.{sort_at}
use Rattle.df_form.specs.Made.{made}
use Rattle.df_form.specs.Clause.{Clause}
use Rattle.df_rules.specs.Bound.{at_most}
use Rattle.df_rules.specs.Connective.{Added, not_clauses, and_clauses, or_clauses, implies_clauses, iff_clauses, equal_clause, equal_by_sort, connective_clause}
use Rattle.df_rules.specs.Derivation.{only_clause}
use Rattle.df_clause.specs.Comparing.{is_comparing}

module _ (P : List Node → Type 0) (keeps : (nodes : List Node) (node : Node) → is_comparing node.op ≡ true → P nodes → P (made nodes node).nodes) where
  abbrev Kept : Added → Type 0
  Kept added = P added.nodes

  only_kept : (nodes : List Node) (o : Option Clause) (added : Added) → P nodes → only_clause nodes o ≡ Some added → Kept added
  only_kept nodes o added h e =
      let found = map_some (λ (clause : Clause). record { nodes = nodes; clause = clause }) o added e in
      subst Kept found.2 h

  equal_kept : (nodes : List Node) (n k a b : ℕ) (added : Added) → P nodes → equal_clause nodes n a b k ≡ Some added → Kept added
  equal_kept nodes n zero a b added h is = subst Kept (same_Some _ added is) (keeps nodes (at_most a b) refl h)
  equal_kept nodes n (suc zero) a b added h is = subst Kept (same_Some _ added is) (keeps nodes (at_most b a) refl h)
  equal_kept nodes n (suc (suc zero)) a b added h is =
      let up = made nodes (at_most a b) in
      subst Kept (same_Some _ added is) (keeps up.nodes (at_most b a) refl (keeps nodes (at_most a b) refl h))
  equal_kept nodes n (suc (suc (suc k))) a b added h is = absurd cc

  sides_kept : (sort : Sort) (nodes : List Node) (n k a b : ℕ) (added : Added) → P nodes → equal_by_sort sort nodes n a b k ≡ Some added → Kept added
  sides_kept sorts.Number nodes n k a b added h is = equal_kept nodes n k a b added h is
  sides_kept sorts.Truth nodes n k a b added h is = absurd cc
  sides_kept sorts.Character nodes n k a b added h is = absurd cc

  pub op_kept : (nodes : List Node) (n k : ℕ) (op : Op) (parts : List ℕ) (added : Added) → P nodes → connective_clause nodes n k op parts ≡ Some added → Kept added
  op_kept nodes n k ops.Not (p ∷ []) added h is = only_kept nodes (slice_get (not_clauses n p) k) added h is
  op_kept nodes n k ops.And parts added h is = only_kept nodes (slice_get (and_clauses n parts) k) added h is
  op_kept nodes n k ops.Or parts added h is = only_kept nodes (slice_get (or_clauses n parts) k) added h is
  op_kept nodes n k ops.Implies (a ∷ b ∷ []) added h is = only_kept nodes (slice_get (implies_clauses n a b) k) added h is
  op_kept nodes n k ops.Iff (a ∷ b ∷ []) added h is = only_kept nodes (slice_get (iff_clauses n a b) k) added h is
  op_kept nodes n k ops.Equal (a ∷ b ∷ []) added h is = sides_kept (sort_at nodes a) nodes n k a b added h is
  op_kept nodes n k op parts added h is = absurd cc

-- a comparison has no clause
pub no_connective : (nodes : List Node) (n k : ℕ) (op : Op) (parts : List ℕ) (added : Added) → is_comparing op ≡ true → connective_clause nodes n k op parts ≡ Some added → ⊥
no_connective nodes n k (ops.Number value) parts added is e = cc
no_connective nodes n k ops.AtMost parts added is e = cc
no_connective nodes n k op parts added is e = true≢false (sym is)
