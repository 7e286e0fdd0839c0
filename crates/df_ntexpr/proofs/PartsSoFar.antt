-- The operations of a run of literals that were opened, in front of those that are left.
use Rattle.std.proofs.Common.{◌≡◌, ℕ, ◌+◌, ◌<◌, ◌≤◌, List, [], ◌∷◌, ◌++◌, length, map, drop, get_or, append-nil, append_assoc, sym, ap, ◌∙◌}
use Rattle.std.proofs.lemmas.List.{drop_all, map-append}
use Rattle.df_lang.specs.ExprView.{expr_of}
use Rattle.df_lang.specs.declared.ty.Ty.{Ty}
use Rattle.df_ntree.specs.declared.expr.Operation as declared_operation
use Rattle.df_ntree.specs.Expr as tree
use Rattle.df_ntyping.specs.ExprElaboration.{Part}
use Rattle.df_ntyping.specs.mirror.Literals.{opened, opened_parts}
use Rattle.df_ntexpr.specs.declared.part.Part as declared_part
use Rattle.df_ntexpr.specs.Parts.{part_of}
use Rattle.df_ntexpr.proofs.Opening.{cut}

module _ (ty : Ty) (items : List declared_operation.Operation) (i : ℕ) (before : List declared_part.Part) (total : List Part) where
  -- of the operations from here on
  abbrev pub parts_left : List Part
  parts_left = opened_parts ty (tree.members_of (map tree.operation_of (drop i items)))

  pub parts_end : length items ≤ i → map part_of before ++ parts_left ≡ total → map part_of before ≡ total
  parts_end past so_far =
      sym (append-nil (map part_of before)) ∙ ap (λ (os : List declared_operation.Operation). map part_of before ++ opened_parts ty (tree.members_of (map tree.operation_of os))) (sym (drop_all i items past)) ∙ so_far

  module _ (item : declared_operation.Operation) (lt : i < length items) (is : item ≡ get_or items i item) where
    pub parts_on : (one : declared_part.Part) (after : List declared_part.Part) → one.operator ≡ item.operator → one.pos ≡ item.pos → expr_of one.operand ≡ (opened ty (tree.expr_of item.operand)).expr → after ≡ before ++ one ∷ [] → map part_of before ++ parts_left ≡ total
        → map part_of after ++ opened_parts ty (tree.members_of (map tree.operation_of (drop (i + 1) items))) ≡ total
    parts_on one after sign at operand pushed so_far =
        let behind = opened_parts ty (tree.members_of (map tree.operation_of (drop (i + 1) items))) in
        let step : part_of one ∷ behind ≡ parts_left = (λ k. record { operator = sign k; pos = at k; operand = operand k } ∷ behind) ∙ sym (ap (opened_parts ty) (cut items i item lt is)) in
        ap (λ (ps : List declared_part.Part). map part_of ps ++ behind) pushed
        ∙ ap (λ (ps : List Part). ps ++ behind) (map-append part_of before (one ∷ []))
        ∙ append_assoc (map part_of before) (part_of one ∷ []) behind
        ∙ ap (λ (ps : List Part). map part_of before ++ ps) step ∙ so_far
