use Rattle.std.proofs.Common.{◌≡◌, ◌≤◌, length, drop, map}
use Rattle.df_nplain.specs.Kind.{range_of}
use Rattle.df_nplain.specs.ExprView.{expr_of, addend_of, addends_of, factor_of, factors_of, members_of, link_of, links_of}
use Rattle.df_nemit.specs.mirror.Emitting as mirror
use Rattle.df_nemit.specs.mirror.Drafts.{run_of}
use Rattle.df_nemit.proofs.expressions.+expr.Given as goal

-- the code so far goes on to what the whole run goes on to
abbrev pub invariant-sum-loop-addend : goal.invariant-sum-loop-addend
invariant-sum-loop-addend l = record {
  longer : length l.fn.code.items ≤ length l.code.items;
  rest : mirror.emit_addends l.scratch l.code.items (range_of l.range) (addends_of (map addend_of (drop l.addend-index l.rest.items))) ≡ mirror.emit_addends l.scratch l.fn.code.items (range_of l.range) (addends_of (map addend_of l.rest.items));
}

abbrev pub invariant-product-loop-factor : goal.invariant-product-loop-factor
invariant-product-loop-factor l = record {
  longer : length l.fn.code.items ≤ length l.code.items;
  rest : mirror.emit_factors l.scratch l.code.items (range_of l.range) (factors_of (map factor_of (drop l.factor-index l.rest.items))) ≡ mirror.emit_factors l.scratch l.fn.code.items (range_of l.range) (factors_of (map factor_of l.rest.items));
}

abbrev pub invariant-junction-loop-member : goal.invariant-junction-loop-member
invariant-junction-loop-member l = record {
  longer : length l.fn.code.items ≤ length l.code.items;
  rest : mirror.emit_junction l.scratch (run_of l.code l.exits) l.kind (members_of (map expr_of (drop l.member-index l.rest.items))) ≡ mirror.emit_junction l.scratch (mirror.begun l.fn.code.items) l.kind (members_of (map expr_of l.rest.items));
}

abbrev pub invariant-implications-loop-member : goal.invariant-implications-loop-member
invariant-implications-loop-member l = record {
  longer : length l.fn.code.items ≤ length l.code.items;
  rest : mirror.emit_implications l.scratch (run_of l.code l.exits) (members_of (map expr_of (drop l.member-index l.rest.items))) ≡ mirror.emit_implications l.scratch (mirror.begun l.fn.code.items) (members_of (map expr_of l.rest.items));
}

abbrev pub invariant-equivalences-loop-member : goal.invariant-equivalences-loop-member
invariant-equivalences-loop-member l = record {
  longer : length l.fn.code.items ≤ length l.code.items;
  rest : mirror.emit_equivalences l.scratch l.code.items (members_of (map expr_of (drop l.member-index l.rest.items))) ≡ mirror.emit_equivalences l.scratch l.fn.code.items (members_of (map expr_of l.rest.items));
}

abbrev pub invariant-chain-loop-index : goal.invariant-chain-loop-index
invariant-chain-loop-index l = record {
  longer : length l.fn.code.items ≤ length l.code.items;
  rest : mirror.emit_links l.scratch (run_of l.code l.exits) (links_of (map link_of (drop l.index l.rest.items))) ≡ mirror.emit_links l.scratch (mirror.opened (mirror.begun l.fn.code.items) (links_of (map link_of l.rest.items))) (links_of (map link_of l.rest.items));
}
