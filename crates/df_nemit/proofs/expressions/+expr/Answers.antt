use Rattle.std.proofs.Common.{◌+◌, ◌≤◌, arith, rules, ap, subst, sym, ◌∙◌, length}
use Rattle.std.proofs.Math.Nat.{le_trans}
use Rattle.std.specs.Prelude.{map, drop, Vec, ℕ, List}
use Rattle.std.specs.declared.alloc.Global.{Global}
use Rattle.df_nmach.specs.declared.instruction.Instruction.{Instruction}
use Rattle.df_lang.specs.declared.expr.Comparison.{Comparison}
use Rattle.df_nplain.specs.Expr.{Expr}
use Rattle.df_nplain.specs.ExprView.{link_of, links_of}
use Rattle.df_nplain.specs.Kind.{range_of}
use Rattle.df_nemit.specs.Code.{compare}
use Rattle.df_nemit.specs.mirror.Drafts.{run_of}
use Rattle.df_nemit.specs.mirror.Emitting.{kept, put_all, with_code, emit_expr, emit_links}
use Rattle.df_nemit.proofs.LinkView.{link_operand, link_comparison}
use Rattle.df_nemit.proofs.Tail.{goes_on, ends}
use Rattle.df_nemit.proofs.Walks.{addends_on, addends_done, factors_on, factors_done, junction_on, implications_on, equivalences_on, equivalences_done}
use Rattle.df_nemit.proofs.expressions.+expr.Goals as goal
use Rattle.df_nemit.proofs.expressions.+expr.Goals.{chain-then-index-len+in_ok-keep, chain-else-index-len+in_ok-compare}

pub chain-loop-index-preserved : goal.chain-loop-index-preserved
chain-loop-index-preserved t c =
    let s = c.args.scratch in
    let r = run_of c.loop-index.code c.loop-index.exits in
    let r1 = with_code r c.expr.new.code.items in
    let items = c.args.rest.now.items in
    let n = c.loop-index.index in
    let x = c.link-item.result in
    let left = links_of (map link_of (drop (n + 1) items)) in
    let valued = ap (λ (l : List Instruction). with_code r l) (c.in_ok-expr.ensures.ok ∙ ap (λ (e : Expr). emit_expr s c.loop-index.code.items e) (sym (link_operand x))) in
    elim c.if-index-len.branch [
      | chain-then-index-len+in_ok-keep w ↦ record {
        longer = omega (arith, ap (λ (v : Vec Instruction Global). length v.items) w.code-is);
        rest =
            ap (λ (v : Vec Instruction Global). emit_links s (run_of v c.if-index-len.exits) left) w.code-is
            ∙ ap (λ (v : Vec ℕ Global). emit_links s (run_of w.keep.new.code v) left) w.exits-is
            ∙ goes_on s items n x r r1 (run_of w.keep.new.code w.keep.new.exits) _ (omega arith) (search rules) valued (w.in_ok-keep.ensures.ok ∙ ap (λ (y : Comparison). kept s r1 y) (sym (link_comparison x))) c.loop-index.invariant.rest;
      }
      | chain-else-index-len+in_ok-compare w ↦ record {
        longer = omega (arith, ap (λ (v : Vec Instruction Global). length v.items) w.code-is);
        rest =
            ap (λ (v : Vec Instruction Global). emit_links s (run_of v c.if-index-len.exits) left) w.code-is
            ∙ ap (λ (v : Vec ℕ Global). emit_links s (run_of w.compare.new.code v) left) w.exits-is
            ∙ ends s items n x r r1 (run_of w.compare.new.code c.loop-index.exits) _ (omega arith) (omega arith) (search rules) valued (ap (λ (l : List Instruction). with_code r l) w.in_ok-compare.ensures.ok ∙ ap (λ (y : Comparison). put_all r1 (compare y)) (sym (link_comparison x))) c.loop-index.invariant.rest;
      }
    ]

-- ---- the code only grows

pub expr-returns-in_ok-expr-in-Negate-clause-longer : goal.expr-returns-in_ok-expr-in-Negate-clause-longer
expr-returns-in_ok-expr-in-Negate-clause-longer t c = le_trans c.expr.ensures.longer c.put-in-Negate.ensures.longer

pub expr-returns-in_ok-expr-in-Not-clause-longer : goal.expr-returns-in_ok-expr-in-Not-clause-longer
expr-returns-in_ok-expr-in-Not-clause-longer t c = le_trans c.expr-in-Not.ensures.longer c.put-in-Not.ensures.longer

pub expr-returns-in_ok-expr-in-Sum-clause-longer : goal.expr-returns-in_ok-expr-in-Sum-clause-longer
expr-returns-in_ok-expr-in-Sum-clause-longer t c = le_trans c.expr-in-Sum.ensures.longer c.sum.ensures.longer

pub expr-returns-in_ok-expr-in-Product-clause-longer : goal.expr-returns-in_ok-expr-in-Product-clause-longer
expr-returns-in_ok-expr-in-Product-clause-longer t c = le_trans c.expr-in-Product.ensures.longer c.product.ensures.longer

pub expr-returns-in_ok-expr-in-Junction-clause-longer : goal.expr-returns-in_ok-expr-in-Junction-clause-longer
expr-returns-in_ok-expr-in-Junction-clause-longer t c = le_trans c.expr-in-Junction.ensures.longer c.junction.ensures.longer

pub expr-returns-in_ok-expr-in-Implies-clause-longer : goal.expr-returns-in_ok-expr-in-Implies-clause-longer
expr-returns-in_ok-expr-in-Implies-clause-longer t c = le_trans c.expr-in-Implies.ensures.longer c.implications.ensures.longer

pub expr-returns-in_ok-expr-in-Iff-clause-longer : goal.expr-returns-in_ok-expr-in-Iff-clause-longer
expr-returns-in_ok-expr-in-Iff-clause-longer t c = le_trans c.expr-in-Iff.ensures.longer c.equivalences.ensures.longer

pub expr-returns-in_ok-expr-in-Chain-clause-longer : goal.expr-returns-in_ok-expr-in-Chain-clause-longer
expr-returns-in_ok-expr-in-Chain-clause-longer t c = le_trans c.expr-in-Chain.ensures.longer c.chain.ensures.longer

pub expr-returns-in_err-from_kind-in-As-clause-longer : goal.expr-returns-in_err-from_kind-in-As-clause-longer
expr-returns-in_err-from_kind-in-As-clause-longer t c = le_trans c.expr-in-As.ensures.longer c.from_kind.ensures.longer

pub expr-returns-in_ok-from_kind-in-As-clause-longer : goal.expr-returns-in_ok-from_kind-in-As-clause-longer
expr-returns-in_ok-from_kind-in-As-clause-longer t c = le_trans (le_trans c.expr-in-As.ensures.longer c.from_kind.ensures.longer) c.to_kind.ensures.longer

-- ---- one more operand

pub sum-returns-in_err-expr-clause-longer : goal.sum-returns-in_err-expr-clause-longer
sum-returns-in_err-expr-clause-longer t c = le_trans c.loop-addend.invariant.longer c.expr.ensures.longer

pub sum-returns-in_err-put-clause-longer : goal.sum-returns-in_err-put-clause-longer
sum-returns-in_err-put-clause-longer t c = le_trans c.loop-addend.invariant.longer (le_trans c.expr.ensures.longer c.put.ensures.longer)

pub sum-loop-addend-preserved : goal.sum-loop-addend-preserved
sum-loop-addend-preserved t c = record {
  longer = le_trans c.loop-addend.invariant.longer (le_trans c.expr.ensures.longer c.put.ensures.longer);
  rest = addends_on c.args.scratch (range_of c.args.range) c.args.rest.now.items c.loop-addend.addend-index c.addend-item.result c.loop-addend.code.items c.expr.new.code.items c.put.new.code.items _ c.adds.result (omega arith) (search rules)
      c.in_ok-expr.ensures.ok c.adds.ensures c.in_ok-put.ensures.ok c.loop-addend.invariant.rest;
}

pub sum-returns-clause-ok : goal.sum-returns-clause-ok
sum-returns-clause-ok t c = addends_done c.args.scratch (range_of c.args.range) c.args.rest.now.items c.loop-addend.addend-index c.loop-addend.code.items _ (omega arith) c.loop-addend.invariant.rest

pub product-returns-in_err-expr-clause-longer : goal.product-returns-in_err-expr-clause-longer
product-returns-in_err-expr-clause-longer t c = le_trans c.loop-factor.invariant.longer c.expr.ensures.longer

pub product-returns-in_err-put-clause-longer : goal.product-returns-in_err-put-clause-longer
product-returns-in_err-put-clause-longer t c = le_trans c.loop-factor.invariant.longer (le_trans c.expr.ensures.longer c.put.ensures.longer)

pub product-loop-factor-preserved : goal.product-loop-factor-preserved
product-loop-factor-preserved t c = record {
  longer = le_trans c.loop-factor.invariant.longer (le_trans c.expr.ensures.longer c.put.ensures.longer);
  rest = factors_on c.args.scratch (range_of c.args.range) c.args.rest.now.items c.loop-factor.factor-index c.factor-item.result c.loop-factor.code.items c.expr.new.code.items c.put.new.code.items _ c.multiplies.result (omega arith) (search rules)
      c.in_ok-expr.ensures.ok c.multiplies.ensures c.in_ok-put.ensures.ok c.loop-factor.invariant.rest;
}

pub product-returns-clause-ok : goal.product-returns-clause-ok
product-returns-clause-ok t c = factors_done c.args.scratch (range_of c.args.range) c.args.rest.now.items c.loop-factor.factor-index c.loop-factor.code.items _ (omega arith) c.loop-factor.invariant.rest

pub junction-returns-in_err-between-clause-longer : goal.junction-returns-in_err-between-clause-longer
junction-returns-in_err-between-clause-longer t c = le_trans c.loop-member.invariant.longer c.between.ensures.longer

pub junction-returns-in_err-expr-clause-longer : goal.junction-returns-in_err-expr-clause-longer
junction-returns-in_err-expr-clause-longer t c = le_trans c.loop-member.invariant.longer (le_trans c.between.ensures.longer c.expr.ensures.longer)

pub junction-loop-member-preserved : goal.junction-loop-member-preserved
junction-loop-member-preserved t c = record {
  longer = le_trans c.loop-member.invariant.longer (le_trans c.between.ensures.longer c.expr.ensures.longer);
  rest = junction_on c.args.scratch c.args.kind c.args.rest.now.items c.loop-member.member-index c.member-item.result (run_of c.loop-member.code c.loop-member.exits) (run_of c.between.new.code c.between.new.exits) _ c.expr.new.code.items (omega arith) (search rules)
      c.in_ok-between.ensures.ok c.in_ok-expr.ensures.ok c.loop-member.invariant.rest;
}

pub implications-returns-in_err-decide_unless-clause-longer : goal.implications-returns-in_err-decide_unless-clause-longer
implications-returns-in_err-decide_unless-clause-longer t c = le_trans c.loop-member.invariant.longer c.decide_unless.ensures.longer

pub implications-returns-in_err-expr-clause-longer : goal.implications-returns-in_err-expr-clause-longer
implications-returns-in_err-expr-clause-longer t c = le_trans c.loop-member.invariant.longer (le_trans c.decide_unless.ensures.longer c.expr.ensures.longer)

pub implications-loop-member-preserved : goal.implications-loop-member-preserved
implications-loop-member-preserved t c = record {
  longer = le_trans c.loop-member.invariant.longer (le_trans c.decide_unless.ensures.longer c.expr.ensures.longer);
  rest = implications_on c.args.scratch c.args.rest.now.items c.loop-member.member-index c.member-item.result (run_of c.loop-member.code c.loop-member.exits) (run_of c.decide_unless.new.code c.decide_unless.new.exits) _ c.expr.new.code.items (omega arith) (search rules)
      c.in_ok-decide_unless.ensures.ok c.in_ok-expr.ensures.ok c.loop-member.invariant.rest;
}

pub equivalences-returns-in_err-expr-clause-longer : goal.equivalences-returns-in_err-expr-clause-longer
equivalences-returns-in_err-expr-clause-longer t c = le_trans c.loop-member.invariant.longer c.expr.ensures.longer

pub equivalences-returns-in_err-put-clause-longer : goal.equivalences-returns-in_err-put-clause-longer
equivalences-returns-in_err-put-clause-longer t c = le_trans c.loop-member.invariant.longer (le_trans c.expr.ensures.longer c.put.ensures.longer)

pub equivalences-loop-member-preserved : goal.equivalences-loop-member-preserved
equivalences-loop-member-preserved t c = record {
  longer = le_trans c.loop-member.invariant.longer (le_trans c.expr.ensures.longer c.put.ensures.longer);
  rest = equivalences_on c.args.scratch c.args.rest.now.items c.loop-member.member-index c.member-item.result c.loop-member.code.items c.expr.new.code.items c.put.new.code.items _ (omega arith) (search rules)
      c.in_ok-expr.ensures.ok c.in_ok-put.ensures.ok c.loop-member.invariant.rest;
}

pub equivalences-returns-clause-ok : goal.equivalences-returns-clause-ok
equivalences-returns-clause-ok t c = equivalences_done c.args.scratch c.args.rest.now.items c.loop-member.member-index c.loop-member.code.items _ (omega arith) c.loop-member.invariant.rest

pub junction-returns-clause-longer : goal.junction-returns-clause-longer
junction-returns-clause-longer t c = subst (λ (n : ℕ). length c.args.code.now.items ≤ n) (sym c.land.ensures.long) c.loop-member.invariant.longer

pub implications-returns-clause-longer : goal.implications-returns-clause-longer
implications-returns-clause-longer t c = subst (λ (n : ℕ). length c.args.code.now.items ≤ n) (sym c.land.ensures.long) c.loop-member.invariant.longer

pub chain-returns-clause-longer : goal.chain-returns-clause-longer
chain-returns-clause-longer t c = subst (λ (n : ℕ). length c.args.code.now.items ≤ n) (sym c.land.ensures.long) c.loop-index.invariant.longer
