use Rattle.df_nenc.proofs.Words.{drop, addends_in, factors_in, members_in, links_in}
use Rattle.df_nenc.proofs.Sums.{Summing, Multiplying}
use Rattle.df_nenc.proofs.Junctions.{Junctioning, Implying, Equating}
use Rattle.df_nenc.proofs.Chains.{Chaining}
use Rattle.df_nenc.proofs.encoding.+expr.Given as goal

-- what was made so far, and then the rest, is all
abbrev pub invariant-sum-loop-addend : goal.invariant-sum-loop-addend
invariant-sum-loop-addend l =
    Summing l.fn.nodes l.nodes l.terms l.path l.ty l.first l.total l.fn.out.items l.out.items (addends_in l.rest.items) (addends_in (drop l.addend-index l.addend-items))

abbrev pub invariant-product-loop-factor : goal.invariant-product-loop-factor
invariant-product-loop-factor l =
    Multiplying l.fn.nodes l.nodes l.terms l.path l.ty l.first l.product l.fn.out.items l.out.items (factors_in l.rest.items) (factors_in (drop l.factor-index l.factor-items))

abbrev pub invariant-junction_of-loop-member : goal.invariant-junction_of-loop-member
invariant-junction_of-loop-member l =
    Junctioning l.fn.nodes l.nodes l.terms l.fn.path l.path l.junction l.first l.last l.formulas.items l.fn.out.items l.out.items (members_in l.rest.items) (members_in (drop l.member-index l.member-items))

abbrev pub invariant-implication-loop-member : goal.invariant-implication-loop-member
invariant-implication-loop-member l =
    Implying l.fn.nodes l.nodes l.terms l.fn.path l.path l.first l.last l.premises.items l.fn.out.items l.out.items (members_in l.rest.items) (members_in (drop l.member-index l.member-items))

abbrev pub invariant-equivalence-loop-member : goal.invariant-equivalence-loop-member
invariant-equivalence-loop-member l =
    Equating l.fn.nodes l.nodes l.terms l.path l.first l.formula l.fn.out.items l.out.items (members_in l.rest.items) (members_in (drop l.member-index l.member-items))

abbrev pub invariant-chain-loop-link : goal.invariant-chain-loop-link
invariant-chain-loop-link l =
    Chaining l.fn.nodes l.nodes l.terms l.fn.path l.path l.last l.ty l.first l.left l.formulas.items l.fn.out.items l.out.items (links_in l.rest.items) (links_in (drop l.link-index l.link-items))
