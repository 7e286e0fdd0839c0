use Rattle.df_nenc.proofs.Words.{append-nil, Ok, conditions_under, ◌≡◌, ◌<◌, length, to_z, of_z, [], ◌∷◌, ◌++◌, get_or, refl, sym, ap, ◌∙◌, rules, subst, AllByRecursion, w128, to_z-of_z, slice_get_within, get_or_from_slice_get, the_lemmas, expr_of, As, Chain, Character, Convert, Iff, Implies, Junction, Local, Negate, Not, Number, Product, Sum, Truth, Numbers, Truths, sort_of_type, conjunction, literal, negation, negative, term, comparisons_of, conditions_of_addends, conditions_of_factors, conditions_of_implication, conditions_of_junction, conditions_of_links, conditions_of_members, equivalence_of, implication_of, in_range, joined, members_of, narrowing, number_in, product_of, sum_of, under, value_in, tree_at, path_in, IsTerm, IsOver, Gives, Encodes, AreAddendsOver, AreFactorsOver, AreMembersOver, AreLinksOver}
use Rattle.df_nenc.specs.Views.{addends_in, factors_in, members_in, links_in}
use Rattle.df_nenc.proofs.Lemmas.{grows_not, grows_then, term_stays, path_stays, gives_alone, gives_owing, if_ok, local_term, negate_part, not_part, sum_parts, product_parts, level_parts, chain_parts, as_part, as_counts, convert_part, member_at, extends_then, extends_nodes, extends_not}
use Rattle.df_nenc.proofs.Cases.{over_seen, operand_term, rest_asks, rest_encodes, local_encodes}
use Rattle.df_nenc.proofs.Sums.{sum_starts, sum_operand, sum_steps, sum_stops, product_starts, product_operand, product_steps, product_stops}
use Rattle.df_nenc.proofs.WalkingMembers.{guard_term, next_path, junction_starts, junction_steps, junction_stops, implication_starts, implication_steps, implication_stops, equivalence_starts, equivalence_steps, equivalence_stops}
use Rattle.df_nenc.proofs.Chains.{chain_starts, chain_operand, chain_compares, chain_steps, chain_stops}
use Rattle.df_nenc.proofs.encoding.+expr.Goals as goal

-- ---- expressions

pub encode-encode-requires : goal.encode-encode-requires
encode-encode-requires t c = (search (rules, the_lemmas), ((negate_part c.args.nodes.now c.args.terms.now c.in-Negate.ty c.in-Negate.pos (expr_of c.deref.result.now) (over_seen c.requires.over (search (rules, the_lemmas)))).over, c.requires.path))

pub encode-negated-requires : goal.encode-negated-requires
encode-negated-requires t c = record { path = path_stays _ _ c.args.path c.encode.ensures.extends.grows c.requires.path; operand = operand_term Numbers c.args.nodes.now c.encode.new.nodes c.args.terms.now c.args.path (expr_of c.deref.result.now) c.in_ok-operand-in-Negate.operand c.args.out.now.items c.encode.new.out.items (negate_part c.args.nodes.now c.args.terms.now c.in-Negate.ty c.in-Negate.pos (expr_of c.deref.result.now) (over_seen c.requires.over (search (rules, the_lemmas)))) c.in_ok-operand-in-Negate.ensures.encodes }

pub encode-returns-in_ok-operand-in-Negate : goal.encode-returns-in_ok-operand-in-Negate
encode-returns-in_ok-operand-in-Negate t c = record { encodes = rest_encodes c.args.nodes.now c.encode.new.nodes c.negated.new.nodes c.args.terms.now c.args.path (expr_of c.deref.result.now) (expr_of c.args.expr.now) (Negate c.in-Negate.ty c.in-Negate.pos (expr_of c.deref.result.now)) c.in_ok-operand-in-Negate.operand c.args.out.now.items c.encode.new.out.items c.negated.new.out.items c.negated.result (λ env a. negative a) (λ env on a. under on (in_range c.in-Negate.ty c.in-Negate.pos (negative a))) c.requires.over c.requires.path (search (rules, the_lemmas)) c.in_ok-operand-in-Negate.ensures.encodes (λ env. refl) (λ env on. refl) c.negated.ensures.gives; extends = extends_then c.encode.ensures.extends c.negated.ensures.extends }

pub encode-encode-requires-in-Not : goal.encode-encode-requires-in-Not
encode-encode-requires-in-Not t c = (search (rules, the_lemmas), ((not_part c.args.nodes.now c.args.terms.now c.in-Not.pos (expr_of c.deref-in-Not.result.now) (over_seen c.requires.over (search (rules, the_lemmas)))).over, c.requires.path))

pub encode-negation-requires : goal.encode-negation-requires
encode-negation-requires t c = operand_term Truths c.args.nodes.now c.encode-in-Not.new.nodes c.args.terms.now c.args.path (expr_of c.deref-in-Not.result.now) c.in_ok-operand-in-Not.operand c.args.out.now.items c.encode-in-Not.new.out.items (not_part c.args.nodes.now c.args.terms.now c.in-Not.pos (expr_of c.deref-in-Not.result.now) (over_seen c.requires.over (search (rules, the_lemmas)))) c.in_ok-operand-in-Not.ensures.encodes

pub encode-returns-in_ok-operand-in-Not : goal.encode-returns-in_ok-operand-in-Not
encode-returns-in_ok-operand-in-Not t c = record { encodes = rest_encodes c.args.nodes.now c.encode-in-Not.new.nodes c.negation.new.nodes c.args.terms.now c.args.path (expr_of c.deref-in-Not.result.now) (expr_of c.args.expr.now) (Not c.in-Not.pos (expr_of c.deref-in-Not.result.now)) c.in_ok-operand-in-Not.operand c.args.out.now.items c.encode-in-Not.new.out.items c.encode-in-Not.new.out.items c.negation.result (λ env a. negation a) (λ env on a. []) c.requires.over c.requires.path (search (rules, the_lemmas)) c.in_ok-operand-in-Not.ensures.encodes (λ env. refl) (λ env on. sym (append-nil (conditions_under env on (expr_of c.deref-in-Not.result.now)))) (if_ok c.negation.result _ _ c.negation.ensures.stands (λ n s. gives_alone _ c.encode-in-Not.new.nodes c.negation.new.nodes n c.encode-in-Not.new.out.items c.negation.ensures.grows s)); extends = extends_then c.encode-in-Not.ensures.extends (extends_nodes c.encode-in-Not.new.nodes c.negation.new.nodes c.encode-in-Not.new.out.items c.negation.ensures.grows) }

pub encode-encode-requires-in-Sum : goal.encode-encode-requires-in-Sum
unfolding addends_in
encode-encode-requires-in-Sum t c = (search (rules, the_lemmas), ((sum_parts c.args.nodes.now c.args.terms.now c.in-Sum.ty (expr_of c.deref-in-Sum.result.now) (addends_in c.in-Sum.rest.items) (over_seen c.requires.over (search (rules, the_lemmas)))).0.over, c.requires.path))

pub encode-sum-requires : goal.encode-sum-requires
unfolding addends_in
encode-sum-requires t c = (search (rules, the_lemmas), rest_asks c.args.nodes.now c.encode-in-Sum.new.nodes c.args.terms.now c.args.path (expr_of c.deref-in-Sum.result.now) (Sum c.in-Sum.ty (expr_of c.deref-in-Sum.result.now) (addends_in c.in-Sum.rest.items)) c.in_ok-first-in-Sum.first c.args.out.now.items c.encode-in-Sum.new.out.items Numbers (λ nodes. AreAddendsOver nodes c.args.terms.now (addends_in c.in-Sum.rest.items)) (over_seen c.requires.over (search (rules, the_lemmas))) (λ nodes over. sum_parts nodes _ _ _ _ over) c.requires.path c.in_ok-first-in-Sum.ensures.encodes)

pub encode-returns-in_ok-first-in-Sum : goal.encode-returns-in_ok-first-in-Sum
unfolding addends_in
encode-returns-in_ok-first-in-Sum t c = record { encodes = rest_encodes c.args.nodes.now c.encode-in-Sum.new.nodes c.sum.new.nodes c.args.terms.now c.args.path (expr_of c.deref-in-Sum.result.now) (expr_of c.args.expr.now) (Sum c.in-Sum.ty (expr_of c.deref-in-Sum.result.now) (addends_in c.in-Sum.rest.items)) c.in_ok-first-in-Sum.first c.args.out.now.items c.encode-in-Sum.new.out.items c.sum.new.out.items c.sum.result (λ env a. sum_of env a (addends_in c.in-Sum.rest.items)) (λ env on a. conditions_of_addends env on c.in-Sum.ty a (addends_in c.in-Sum.rest.items)) c.requires.over c.requires.path (search (rules, the_lemmas)) c.in_ok-first-in-Sum.ensures.encodes (λ env. refl) (λ env on. refl) c.sum.ensures.gives; extends = extends_then c.encode-in-Sum.ensures.extends c.sum.ensures.extends }

pub encode-encode-requires-in-Product : goal.encode-encode-requires-in-Product
unfolding factors_in
encode-encode-requires-in-Product t c = (search (rules, the_lemmas), ((product_parts c.args.nodes.now c.args.terms.now c.in-Product.ty (expr_of c.deref-in-Product.result.now) (factors_in c.in-Product.rest.items) (over_seen c.requires.over (search (rules, the_lemmas)))).0.over, c.requires.path))

pub encode-product-requires : goal.encode-product-requires
unfolding factors_in
encode-product-requires t c = (search (rules, the_lemmas), rest_asks c.args.nodes.now c.encode-in-Product.new.nodes c.args.terms.now c.args.path (expr_of c.deref-in-Product.result.now) (Product c.in-Product.ty (expr_of c.deref-in-Product.result.now) (factors_in c.in-Product.rest.items)) c.in_ok-first-in-Product.first c.args.out.now.items c.encode-in-Product.new.out.items Numbers (λ nodes. AreFactorsOver nodes c.args.terms.now (factors_in c.in-Product.rest.items)) (over_seen c.requires.over (search (rules, the_lemmas))) (λ nodes over. product_parts nodes _ _ _ _ over) c.requires.path c.in_ok-first-in-Product.ensures.encodes)

pub encode-returns-in_ok-first-in-Product : goal.encode-returns-in_ok-first-in-Product
unfolding factors_in
encode-returns-in_ok-first-in-Product t c = record { encodes = rest_encodes c.args.nodes.now c.encode-in-Product.new.nodes c.product.new.nodes c.args.terms.now c.args.path (expr_of c.deref-in-Product.result.now) (expr_of c.args.expr.now) (Product c.in-Product.ty (expr_of c.deref-in-Product.result.now) (factors_in c.in-Product.rest.items)) c.in_ok-first-in-Product.first c.args.out.now.items c.encode-in-Product.new.out.items c.product.new.out.items c.product.result (λ env a. product_of env a (factors_in c.in-Product.rest.items)) (λ env on a. conditions_of_factors env on c.in-Product.ty a (factors_in c.in-Product.rest.items)) c.requires.over c.requires.path (search (rules, the_lemmas)) c.in_ok-first-in-Product.ensures.encodes (λ env. refl) (λ env on. refl) c.product.ensures.gives; extends = extends_then c.encode-in-Product.ensures.extends c.product.ensures.extends }

pub encode-encode-requires-in-Junction : goal.encode-encode-requires-in-Junction
unfolding members_in
encode-encode-requires-in-Junction t c = (search (rules, the_lemmas), ((level_parts c.args.nodes.now c.args.terms.now (Junction c.in-Junction.junction (expr_of c.deref-in-Junction.result.now) (members_in c.in-Junction.rest.items)) (expr_of c.deref-in-Junction.result.now) (members_in c.in-Junction.rest.items) (over_seen c.requires.over (search (rules, the_lemmas))) (λ p locals ty. refl)).0.over, c.requires.path))

pub encode-junction_of-requires : goal.encode-junction_of-requires
unfolding members_in
encode-junction_of-requires t c = (search (rules, the_lemmas), rest_asks c.args.nodes.now c.encode-in-Junction.new.nodes c.args.terms.now c.args.path (expr_of c.deref-in-Junction.result.now) (Junction c.in-Junction.junction (expr_of c.deref-in-Junction.result.now) (members_in c.in-Junction.rest.items)) c.in_ok-first-in-Junction.first c.args.out.now.items c.encode-in-Junction.new.out.items Truths (λ nodes. AreMembersOver nodes c.args.terms.now (members_in c.in-Junction.rest.items)) (over_seen c.requires.over (search (rules, the_lemmas))) (λ nodes over. level_parts nodes _ _ (expr_of c.deref-in-Junction.result.now) (members_in c.in-Junction.rest.items) over (λ p locals ty. refl)) c.requires.path c.in_ok-first-in-Junction.ensures.encodes)

pub encode-returns-in_ok-first-in-Junction : goal.encode-returns-in_ok-first-in-Junction
unfolding members_in
encode-returns-in_ok-first-in-Junction t c = record { encodes = rest_encodes c.args.nodes.now c.encode-in-Junction.new.nodes c.junction_of.new.nodes c.args.terms.now c.args.path (expr_of c.deref-in-Junction.result.now) (expr_of c.args.expr.now) (Junction c.in-Junction.junction (expr_of c.deref-in-Junction.result.now) (members_in c.in-Junction.rest.items)) c.in_ok-first-in-Junction.first c.args.out.now.items c.encode-in-Junction.new.out.items c.junction_of.new.out.items c.junction_of.result (λ env a. joined c.in-Junction.junction (term a (members_of env (members_in c.in-Junction.rest.items)))) (λ env on a. conditions_of_junction env on c.in-Junction.junction a (members_in c.in-Junction.rest.items)) c.requires.over c.requires.path (search (rules, the_lemmas)) c.in_ok-first-in-Junction.ensures.encodes (λ env. refl) (λ env on. refl) c.junction_of.ensures.gives; extends = extends_then c.encode-in-Junction.ensures.extends c.junction_of.ensures.extends }

pub encode-encode-requires-in-Implies : goal.encode-encode-requires-in-Implies
unfolding members_in
encode-encode-requires-in-Implies t c = (search (rules, the_lemmas), ((level_parts c.args.nodes.now c.args.terms.now (Implies c.in-Implies.arrow (expr_of c.deref-in-Implies.result.now) (members_in c.in-Implies.rest.items)) (expr_of c.deref-in-Implies.result.now) (members_in c.in-Implies.rest.items) (over_seen c.requires.over (search (rules, the_lemmas))) (λ p locals ty. refl)).0.over, c.requires.path))

pub encode-implication-requires : goal.encode-implication-requires
unfolding members_in
encode-implication-requires t c = (search (rules, the_lemmas), rest_asks c.args.nodes.now c.encode-in-Implies.new.nodes c.args.terms.now c.args.path (expr_of c.deref-in-Implies.result.now) (Implies c.in-Implies.arrow (expr_of c.deref-in-Implies.result.now) (members_in c.in-Implies.rest.items)) c.in_ok-first-in-Implies.first c.args.out.now.items c.encode-in-Implies.new.out.items Truths (λ nodes. AreMembersOver nodes c.args.terms.now (members_in c.in-Implies.rest.items)) (over_seen c.requires.over (search (rules, the_lemmas))) (λ nodes over. level_parts nodes _ _ (expr_of c.deref-in-Implies.result.now) (members_in c.in-Implies.rest.items) over (λ p locals ty. refl)) c.requires.path c.in_ok-first-in-Implies.ensures.encodes)

pub encode-returns-in_ok-first-in-Implies : goal.encode-returns-in_ok-first-in-Implies
unfolding members_in
encode-returns-in_ok-first-in-Implies t c = record { encodes = rest_encodes c.args.nodes.now c.encode-in-Implies.new.nodes c.implication.new.nodes c.args.terms.now c.args.path (expr_of c.deref-in-Implies.result.now) (expr_of c.args.expr.now) (Implies c.in-Implies.arrow (expr_of c.deref-in-Implies.result.now) (members_in c.in-Implies.rest.items)) c.in_ok-first-in-Implies.first c.args.out.now.items c.encode-in-Implies.new.out.items c.implication.new.out.items c.implication.result (λ env a. implication_of env a (members_in c.in-Implies.rest.items)) (λ env on a. conditions_of_implication env on a (members_in c.in-Implies.rest.items)) c.requires.over c.requires.path (search (rules, the_lemmas)) c.in_ok-first-in-Implies.ensures.encodes (λ env. refl) (λ env on. refl) c.implication.ensures.gives; extends = extends_then c.encode-in-Implies.ensures.extends c.implication.ensures.extends }

pub encode-encode-requires-in-Iff : goal.encode-encode-requires-in-Iff
unfolding members_in
encode-encode-requires-in-Iff t c = (search (rules, the_lemmas), ((level_parts c.args.nodes.now c.args.terms.now (Iff (expr_of c.deref-in-Iff.result.now) (members_in c.in-Iff.rest.items)) (expr_of c.deref-in-Iff.result.now) (members_in c.in-Iff.rest.items) (over_seen c.requires.over (search (rules, the_lemmas))) (λ p locals ty. refl)).0.over, c.requires.path))

pub encode-equivalence-requires : goal.encode-equivalence-requires
unfolding members_in
encode-equivalence-requires t c = (search (rules, the_lemmas), rest_asks c.args.nodes.now c.encode-in-Iff.new.nodes c.args.terms.now c.args.path (expr_of c.deref-in-Iff.result.now) (Iff (expr_of c.deref-in-Iff.result.now) (members_in c.in-Iff.rest.items)) c.in_ok-first-in-Iff.first c.args.out.now.items c.encode-in-Iff.new.out.items Truths (λ nodes. AreMembersOver nodes c.args.terms.now (members_in c.in-Iff.rest.items)) (over_seen c.requires.over (search (rules, the_lemmas))) (λ nodes over. level_parts nodes _ _ (expr_of c.deref-in-Iff.result.now) (members_in c.in-Iff.rest.items) over (λ p locals ty. refl)) c.requires.path c.in_ok-first-in-Iff.ensures.encodes)

pub encode-returns-in_ok-first-in-Iff : goal.encode-returns-in_ok-first-in-Iff
unfolding members_in
encode-returns-in_ok-first-in-Iff t c = record { encodes = rest_encodes c.args.nodes.now c.encode-in-Iff.new.nodes c.equivalence.new.nodes c.args.terms.now c.args.path (expr_of c.deref-in-Iff.result.now) (expr_of c.args.expr.now) (Iff (expr_of c.deref-in-Iff.result.now) (members_in c.in-Iff.rest.items)) c.in_ok-first-in-Iff.first c.args.out.now.items c.encode-in-Iff.new.out.items c.equivalence.new.out.items c.equivalence.result (λ env a. equivalence_of env a (members_in c.in-Iff.rest.items)) (λ env on a. conditions_of_members env on (members_in c.in-Iff.rest.items)) c.requires.over c.requires.path (search (rules, the_lemmas)) c.in_ok-first-in-Iff.ensures.encodes (λ env. refl) (λ env on. refl) c.equivalence.ensures.gives; extends = extends_then c.encode-in-Iff.ensures.extends c.equivalence.ensures.extends }

pub encode-encode-requires-in-Chain : goal.encode-encode-requires-in-Chain
unfolding links_in
encode-encode-requires-in-Chain t c = (search (rules, the_lemmas), ((chain_parts c.args.nodes.now c.args.terms.now c.in-Chain.ty (expr_of c.deref-in-Chain.result.now) (links_in c.in-Chain.rest.items) (over_seen c.requires.over (search (rules, the_lemmas)))).0.over, c.requires.path))

pub encode-chain-requires : goal.encode-chain-requires
unfolding links_in
encode-chain-requires t c = (search (rules, the_lemmas), rest_asks c.args.nodes.now c.encode-in-Chain.new.nodes c.args.terms.now c.args.path (expr_of c.deref-in-Chain.result.now) (Chain c.in-Chain.ty (expr_of c.deref-in-Chain.result.now) (links_in c.in-Chain.rest.items)) c.in_ok-first-in-Chain.first c.args.out.now.items c.encode-in-Chain.new.out.items (sort_of_type c.in-Chain.ty) (λ nodes. AreLinksOver nodes c.args.terms.now c.in-Chain.ty (links_in c.in-Chain.rest.items)) (over_seen c.requires.over (search (rules, the_lemmas))) (λ nodes over. chain_parts nodes _ _ _ _ over) c.requires.path c.in_ok-first-in-Chain.ensures.encodes)

pub encode-returns-in_ok-first-in-Chain : goal.encode-returns-in_ok-first-in-Chain
unfolding links_in
encode-returns-in_ok-first-in-Chain t c = record { encodes = rest_encodes c.args.nodes.now c.encode-in-Chain.new.nodes c.chain.new.nodes c.args.terms.now c.args.path (expr_of c.deref-in-Chain.result.now) (expr_of c.args.expr.now) (Chain c.in-Chain.ty (expr_of c.deref-in-Chain.result.now) (links_in c.in-Chain.rest.items)) c.in_ok-first-in-Chain.first c.args.out.now.items c.encode-in-Chain.new.out.items c.chain.new.out.items c.chain.result (λ env a. conjunction (comparisons_of env c.in-Chain.ty a (links_in c.in-Chain.rest.items))) (λ env on a. conditions_of_links env on c.in-Chain.ty a (links_in c.in-Chain.rest.items)) c.requires.over c.requires.path (search (rules, the_lemmas)) c.in_ok-first-in-Chain.ensures.encodes (λ env. refl) (λ env on. refl) c.chain.ensures.gives; extends = extends_then c.encode-in-Chain.ensures.extends c.chain.ensures.extends }

pub encode-encode-requires-in-As : goal.encode-encode-requires-in-As
encode-encode-requires-in-As t c = (search (rules, the_lemmas), ((as_part c.args.nodes.now c.args.terms.now c.in-As.source c.in-As.target c.in-As.pos (expr_of c.deref-in-As.result.now) (over_seen c.requires.over (search (rules, the_lemmas)))).over, c.requires.path))

pub encode-cast-requires : goal.encode-cast-requires
encode-cast-requires t c = record { path = path_stays _ _ c.args.path c.encode-in-As.ensures.extends.grows c.requires.path; value = operand_term (sort_of_type c.in-As.source) c.args.nodes.now c.encode-in-As.new.nodes c.args.terms.now c.args.path (expr_of c.deref-in-As.result.now) c.in_ok-operand-in-As.operand c.args.out.now.items c.encode-in-As.new.out.items (as_part c.args.nodes.now c.args.terms.now c.in-As.source c.in-As.target c.in-As.pos (expr_of c.deref-in-As.result.now) (over_seen c.requires.over (search (rules, the_lemmas)))) c.in_ok-operand-in-As.ensures.encodes; source = as_counts c.args.nodes.now c.args.terms.now c.in-As.source c.in-As.target c.in-As.pos (expr_of c.deref-in-As.result.now) (over_seen c.requires.over (search (rules, the_lemmas))) }

pub encode-returns-in_ok-operand-in-As : goal.encode-returns-in_ok-operand-in-As
encode-returns-in_ok-operand-in-As t c = record { encodes = rest_encodes c.args.nodes.now c.encode-in-As.new.nodes c.cast.new.nodes c.args.terms.now c.args.path (expr_of c.deref-in-As.result.now) (expr_of c.args.expr.now) (As c.in-As.source c.in-As.target c.in-As.pos (expr_of c.deref-in-As.result.now)) c.in_ok-operand-in-As.operand c.args.out.now.items c.encode-in-As.new.out.items c.cast.new.out.items c.cast.result (λ env a. value_in c.in-As.target (number_in c.in-As.source a)) (λ env on a. under on (in_range c.in-As.target c.in-As.pos (number_in c.in-As.source a))) c.requires.over c.requires.path (search (rules, the_lemmas)) c.in_ok-operand-in-As.ensures.encodes (λ env. refl) (λ env on. refl) c.cast.ensures.gives; extends = extends_then c.encode-in-As.ensures.extends c.cast.ensures.extends }

pub encode-encode-requires-in-Convert : goal.encode-encode-requires-in-Convert
encode-encode-requires-in-Convert t c = (search (rules, the_lemmas), ((convert_part c.args.nodes.now c.args.terms.now c.in-Convert.source c.in-Convert.target c.in-Convert.pos (expr_of c.deref-in-Convert.result.now) (over_seen c.requires.over (search (rules, the_lemmas)))).over, c.requires.path))

pub encode-owe_narrowing-requires : goal.encode-owe_narrowing-requires
encode-owe_narrowing-requires t c = record { path = path_stays _ _ c.args.path c.encode-in-Convert.ensures.extends.grows c.requires.path; value = operand_term (sort_of_type c.in-Convert.source) c.args.nodes.now c.encode-in-Convert.new.nodes c.args.terms.now c.args.path (expr_of c.deref-in-Convert.result.now) c.in_ok-operand-in-Convert.operand c.args.out.now.items c.encode-in-Convert.new.out.items (convert_part c.args.nodes.now c.args.terms.now c.in-Convert.source c.in-Convert.target c.in-Convert.pos (expr_of c.deref-in-Convert.result.now) (over_seen c.requires.over (search (rules, the_lemmas)))) c.in_ok-operand-in-Convert.ensures.encodes }

pub encode-returns-in_ok-owe_narrowing-in-Convert : goal.encode-returns-in_ok-owe_narrowing-in-Convert
encode-returns-in_ok-owe_narrowing-in-Convert t c =
    let e = expr_of c.deref-in-Convert.result.now in
    record { encodes = rest_encodes c.args.nodes.now c.encode-in-Convert.new.nodes c.owe_narrowing.new.nodes c.args.terms.now c.args.path e (expr_of c.args.expr.now) (Convert c.in-Convert.source c.in-Convert.target c.in-Convert.pos e) c.in_ok-operand-in-Convert.operand c.args.out.now.items c.encode-in-Convert.new.out.items c.owe_narrowing.new.out.items (Ok c.in_ok-operand-in-Convert.operand) (λ env a. a) (λ env on a. under on (narrowing c.in-Convert.source c.in-Convert.target c.in-Convert.pos a)) c.requires.over c.requires.path (search (rules, the_lemmas)) c.in_ok-operand-in-Convert.ensures.encodes (λ env. refl) (λ env on. refl) (gives_owing (tree_at c.encode-in-Convert.new.nodes c.in_ok-operand-in-Convert.operand) _ c.encode-in-Convert.new.nodes c.encode-in-Convert.new.nodes c.owe_narrowing.new.nodes c.in_ok-operand-in-Convert.operand c.encode-in-Convert.new.out.items c.owe_narrowing.new.out.items (grows_not c.encode-in-Convert.new.nodes) c.owe_narrowing.ensures.grows (record { below = c.in_ok-operand-in-Convert.ensures.encodes.stands.below; tree_is = refl }) c.in_ok-owe_narrowing-in-Convert.ensures.adds); extends = extends_then c.encode-in-Convert.ensures.extends (record { grows = c.owe_narrowing.ensures.grows; begins = c.owe_narrowing.ensures.begins }) }

pub encode-returns-in_err-owe_narrowing-in-Convert-clause-extends : goal.encode-returns-in_err-owe_narrowing-in-Convert-clause-extends
encode-returns-in_err-owe_narrowing-in-Convert-clause-extends t c = extends_then c.encode-in-Convert.ensures.extends (record { grows = c.owe_narrowing.ensures.grows; begins = c.owe_narrowing.ensures.begins })

pub encode-returns-in-Number : goal.encode-returns-in-Number
encode-returns-in-Number t c =
    let is : expr_of c.args.expr.now ≡ Number c.in-Number.ty c.in-Number.value c.in-Number.pos = search (rules, the_lemmas) in
    let same : to_z w128 (of_z w128 c.in-Number.value) ≡ c.in-Number.value = search (rules, to_z-of_z) in
    record { encodes = if_ok c.number.result _ _ c.number.ensures.gives (λ n g. subst (λ whole. Encodes c.args.nodes.now c.number.new.nodes c.args.terms.now c.args.path whole n c.args.out.now.items c.number.new.out.items) (sym is) (subst (λ v. Gives (literal v) (under (path_in c.args.nodes.now c.args.path) (in_range c.in-Number.ty c.in-Number.pos (literal v))) c.args.nodes.now c.number.new.nodes n c.args.out.now.items c.number.new.out.items) same g)); extends = c.number.ensures.extends }

pub encode-returns-in-Truth : goal.encode-returns-in-Truth
encode-returns-in-Truth t c =
    let is : expr_of c.args.expr.now ≡ Truth c.in-Truth.value c.in-Truth.pos = search (rules, the_lemmas) in
    record { encodes = if_ok c.truth.result _ _ c.truth.ensures.stands (λ n s. subst (λ whole. Encodes c.args.nodes.now c.truth.new.nodes c.args.terms.now c.args.path whole n c.args.out.now.items c.args.out.now.items) (sym is) (gives_alone _ c.args.nodes.now c.truth.new.nodes n c.args.out.now.items c.truth.ensures.grows s)); extends = extends_nodes c.args.nodes.now c.truth.new.nodes c.args.out.now.items c.truth.ensures.grows }

pub encode-returns-in-Character : goal.encode-returns-in-Character
encode-returns-in-Character t c =
    let is : expr_of c.args.expr.now ≡ Character c.in-Character.code c.in-Character.pos = search (rules, the_lemmas) in
    record { encodes = if_ok c.character.result _ _ c.character.ensures.stands (λ n s. subst (λ whole. Encodes c.args.nodes.now c.character.new.nodes c.args.terms.now c.args.path whole n c.args.out.now.items c.args.out.now.items) (sym is) (gives_alone _ c.args.nodes.now c.character.new.nodes n c.args.out.now.items c.character.ensures.grows s)); extends = extends_nodes c.args.nodes.now c.character.new.nodes c.args.out.now.items c.character.ensures.grows }

pub encode-bounds-terms-local : goal.encode-bounds-terms-local
encode-bounds-terms-local t c =
    let over : IsOver c.args.nodes.now c.args.terms.now (Local c.in-Local.local c.in-Local.name c.in-Local.pos) = over_seen c.requires.over (search (rules, the_lemmas)) in
    let t = (local_term _ _ _ _ _ over).1 in
    slice_get_within c.args.terms.now c.in-Local.local t.number t.at

pub encode-offset_bounds-terms-local : goal.encode-offset_bounds-terms-local
encode-offset_bounds-terms-local t c =
    let over : IsOver c.args.nodes.now c.args.terms.now (Local c.in-Local.local c.in-Local.name c.in-Local.pos) = over_seen c.requires.over (search (rules, the_lemmas)) in
    let t = (local_term _ _ _ _ _ over).1 in
    let less : c.in-Local.local < length c.args.terms.now = slice_get_within c.args.terms.now c.in-Local.local t.number t.at in
    search (rules, less)

pub encode-returns-in-Local : goal.encode-returns-in-Local
encode-returns-in-Local t c =
    let is : expr_of c.args.expr.now ≡ Local c.in-Local.local c.in-Local.name c.in-Local.pos = search (rules, the_lemmas) in
    let t = (local_term _ _ _ _ _ (over_seen c.requires.over is)).1 in
    record { encodes = subst (λ whole. Encodes c.args.nodes.now c.args.nodes.now c.args.terms.now c.args.path whole (get_or c.args.terms.now c.in-Local.local 0) c.args.out.now.items c.args.out.now.items) (sym is) (local_encodes c.args.nodes.now c.args.terms.now c.in-Local.local (get_or c.args.terms.now c.in-Local.local 0) _ c.args.out.now.items t (get_or_from_slice_get c.args.terms.now c.in-Local.local t.number 0 t.at)); extends = extends_not c.args.nodes.now c.args.out.now.items }

-- ---- sums

pub sum-loop-addend-init : goal.sum-loop-addend-init
sum-loop-addend-init t c = sum_starts c.args.rest.now.items c.deref-addend-items.result.now c.deref-addend-items.ensures.value c.requires.over c.requires.first

pub sum-encode-requires : goal.sum-encode-requires
sum-encode-requires t c =
    let part = sum_operand c.deref-addend-items.result.now c.loop-addend.addend-index c.addend-item.result c.addend-item.is c.loop-addend-test.true c.loop-addend.invariant in
    (search (rules, the_lemmas), (part.over, path_stays c.args.nodes.now c.loop-addend.nodes c.args.path c.loop-addend.invariant.so_far.extends.grows c.requires.path))

pub sum-with_addend-requires : goal.sum-with_addend-requires
sum-with_addend-requires t c =
    let part = sum_operand c.deref-addend-items.result.now c.loop-addend.addend-index c.addend-item.result c.addend-item.is c.loop-addend-test.true c.loop-addend.invariant in
    record { path = path_stays c.args.nodes.now c.encode.new.nodes c.args.path (grows_then c.args.nodes.now c.loop-addend.nodes c.encode.new.nodes c.loop-addend.invariant.so_far.extends.grows c.encode.ensures.extends.grows) c.requires.path; total = term_stays Numbers c.loop-addend.nodes c.encode.new.nodes c.loop-addend.total c.encode.ensures.extends.grows c.loop-addend.invariant.so_far.total_is; operand = operand_term Numbers c.loop-addend.nodes c.encode.new.nodes c.args.terms.now c.args.path (expr_of c.addend-item.result.operand) c.in_ok-operand.operand c.loop-addend.out.items c.encode.new.out.items part c.in_ok-operand.ensures.encodes }

pub sum-loop-addend-preserved : goal.sum-loop-addend-preserved
sum-loop-addend-preserved t c = sum_steps c.deref-addend-items.result.now c.loop-addend.addend-index c.addend-item.result c.addend-item.is c.loop-addend-test.true c.requires.over c.requires.path c.loop-addend.invariant c.in_ok-operand.ensures.encodes c.in_ok-total.ensures.gives

pub sum-returns : goal.sum-returns
sum-returns t c = record { gives = sum_stops c.deref-addend-items.result.now c.loop-addend.addend-index c.loop-addend-test.false c.loop-addend.invariant; extends = c.loop-addend.invariant.so_far.extends }

pub sum-returns-in_err-operand-clause-extends : goal.sum-returns-in_err-operand-clause-extends
sum-returns-in_err-operand-clause-extends t c = extends_then c.loop-addend.invariant.so_far.extends c.encode.ensures.extends

pub sum-returns-in_err-total-clause-extends : goal.sum-returns-in_err-total-clause-extends
sum-returns-in_err-total-clause-extends t c = extends_then (extends_then c.loop-addend.invariant.so_far.extends c.encode.ensures.extends) c.with_addend.ensures.extends

-- ---- products

pub product-loop-factor-init : goal.product-loop-factor-init
product-loop-factor-init t c = product_starts c.args.rest.now.items c.deref-factor-items.result.now c.deref-factor-items.ensures.value c.requires.over c.requires.first

pub product-encode-requires : goal.product-encode-requires
product-encode-requires t c =
    let part = product_operand c.deref-factor-items.result.now c.loop-factor.factor-index c.factor-item.result c.factor-item.is c.loop-factor-test.true c.loop-factor.invariant in
    (search (rules, the_lemmas), (part.over, path_stays c.args.nodes.now c.loop-factor.nodes c.args.path c.loop-factor.invariant.so_far.extends.grows c.requires.path))

pub product-with_factor-requires : goal.product-with_factor-requires
product-with_factor-requires t c =
    let part = product_operand c.deref-factor-items.result.now c.loop-factor.factor-index c.factor-item.result c.factor-item.is c.loop-factor-test.true c.loop-factor.invariant in
    record { path = path_stays c.args.nodes.now c.encode.new.nodes c.args.path (grows_then c.args.nodes.now c.loop-factor.nodes c.encode.new.nodes c.loop-factor.invariant.so_far.extends.grows c.encode.ensures.extends.grows) c.requires.path; product = term_stays Numbers c.loop-factor.nodes c.encode.new.nodes c.loop-factor.product c.encode.ensures.extends.grows c.loop-factor.invariant.so_far.total_is; operand = operand_term Numbers c.loop-factor.nodes c.encode.new.nodes c.args.terms.now c.args.path (expr_of c.factor-item.result.operand) c.in_ok-operand.operand c.loop-factor.out.items c.encode.new.out.items part c.in_ok-operand.ensures.encodes }

pub product-loop-factor-preserved : goal.product-loop-factor-preserved
product-loop-factor-preserved t c = product_steps c.deref-factor-items.result.now c.loop-factor.factor-index c.factor-item.result c.factor-item.is c.loop-factor-test.true c.requires.over c.requires.path c.loop-factor.invariant c.in_ok-operand.ensures.encodes c.in_ok-product.ensures.gives

pub product-returns : goal.product-returns
product-returns t c = record { gives = product_stops c.deref-factor-items.result.now c.loop-factor.factor-index c.loop-factor-test.false c.loop-factor.invariant; extends = c.loop-factor.invariant.so_far.extends }

pub product-returns-in_err-operand-clause-extends : goal.product-returns-in_err-operand-clause-extends
product-returns-in_err-operand-clause-extends t c = extends_then c.loop-factor.invariant.so_far.extends c.encode.ensures.extends

pub product-returns-in_err-product-clause-extends : goal.product-returns-in_err-product-clause-extends
product-returns-in_err-product-clause-extends t c = extends_then (extends_then c.loop-factor.invariant.so_far.extends c.encode.ensures.extends) c.with_factor.ensures.extends

-- ---- junctions

pub junction_of-loop-member-init : goal.junction_of-loop-member-init
junction_of-loop-member-init t c =
    let formulas : c.push.new.self.items ≡ c.args.first ∷ [] = c.in_ok-push.ensures.items ∙ ap (λ z. z ++ c.args.first ∷ []) c.new-formulas.ensures.items in
    junction_starts c.args.rest.now.items c.deref-member-items.result.now c.push.new.self.items c.deref-member-items.ensures.value formulas c.requires.over c.requires.path c.requires.first

pub junction_of-narrowed_path-requires : goal.junction_of-narrowed_path-requires
junction_of-narrowed_path-requires t c = record { path = path_stays _ _ c.loop-member.path c.goes_on.ensures.grows c.loop-member.invariant.path_is; formula = guard_term c.args.junction c.loop-member.nodes c.goes_on.new.nodes c.loop-member.last c.in_ok-guard.guard c.loop-member.invariant.last_is c.in_ok-guard.ensures.stands }

pub junction_of-encode-requires : goal.junction_of-encode-requires
junction_of-encode-requires t c =
    let part = member_at c.deref-member-items.result.now c.loop-member.member-index c.member-item.result c.member-item.is c.loop-member-test.true c.loop-member.invariant.over (grows_then c.loop-member.nodes c.goes_on.new.nodes c.narrowed_path.new.nodes c.goes_on.ensures.grows c.narrowed_path.ensures.grows) in
    let guard = guard_term c.args.junction c.loop-member.nodes c.goes_on.new.nodes c.loop-member.last c.in_ok-guard.guard c.loop-member.invariant.last_is c.in_ok-guard.ensures.stands in
    (search (rules, the_lemmas), (part.over, next_path c.goes_on.new.nodes c.narrowed_path.new.nodes c.loop-member.path c.in_ok-guard.guard c.in_ok-narrowed.narrowed guard c.in_ok-narrowed.ensures.stands))

pub junction_of-loop-member-preserved : goal.junction_of-loop-member-preserved
junction_of-loop-member-preserved t c = junction_steps c.deref-member-items.result.now c.loop-member.member-index c.member-item.result c.member-item.is c.loop-member-test.true c.requires.over c.loop-member.invariant c.goes_on.ensures.grows c.in_ok-guard.ensures.stands c.narrowed_path.ensures.grows c.in_ok-narrowed.ensures.stands c.in_ok-last.ensures.encodes c.in_ok-push-2.ensures.items

pub junction_of-joined-requires : goal.junction_of-joined-requires
junction_of-joined-requires t c = subst (AllByRecursion (IsTerm Truths c.loop-member.nodes)) (sym c.deref.ensures.value) c.loop-member.invariant.formulas_are

pub junction_of-returns : goal.junction_of-returns
junction_of-returns t c = record { gives = if_ok c.joined.result _ _ c.joined.ensures.stands (λ n s. junction_stops c.deref-member-items.result.now c.loop-member.member-index c.deref.result.now c.loop-member-test.false c.loop-member.invariant c.deref.ensures.value c.joined.ensures.grows s); extends = extends_then c.loop-member.invariant.extends (extends_nodes c.loop-member.nodes c.joined.new.nodes c.loop-member.out.items c.joined.ensures.grows) }

pub junction_of-returns-in_err-push-clause-extends : goal.junction_of-returns-in_err-push-clause-extends
junction_of-returns-in_err-push-clause-extends t c = extends_not c.args.nodes.now c.args.out.now.items

pub junction_of-returns-in_err-guard-clause-extends : goal.junction_of-returns-in_err-guard-clause-extends
junction_of-returns-in_err-guard-clause-extends t c = extends_then c.loop-member.invariant.extends (extends_nodes c.loop-member.nodes c.goes_on.new.nodes c.loop-member.out.items c.goes_on.ensures.grows)

pub junction_of-returns-in_err-narrowed-clause-extends : goal.junction_of-returns-in_err-narrowed-clause-extends
junction_of-returns-in_err-narrowed-clause-extends t c = extends_then c.loop-member.invariant.extends (extends_nodes c.loop-member.nodes c.narrowed_path.new.nodes c.loop-member.out.items (grows_then _ _ _ c.goes_on.ensures.grows c.narrowed_path.ensures.grows))

pub junction_of-returns-in_err-last-clause-extends : goal.junction_of-returns-in_err-last-clause-extends
junction_of-returns-in_err-last-clause-extends t c = extends_then (extends_then c.loop-member.invariant.extends (extends_nodes c.loop-member.nodes c.narrowed_path.new.nodes c.loop-member.out.items (grows_then _ _ _ c.goes_on.ensures.grows c.narrowed_path.ensures.grows))) c.encode.ensures.extends

pub junction_of-returns-in_err-push-2-clause-extends : goal.junction_of-returns-in_err-push-2-clause-extends
junction_of-returns-in_err-push-2-clause-extends t c = extends_then (extends_then c.loop-member.invariant.extends (extends_nodes c.loop-member.nodes c.narrowed_path.new.nodes c.loop-member.out.items (grows_then _ _ _ c.goes_on.ensures.grows c.narrowed_path.ensures.grows))) c.encode.ensures.extends

-- ---- implications

pub implication-loop-member-init : goal.implication-loop-member-init
implication-loop-member-init t c = implication_starts c.args.rest.now.items c.deref-member-items.result.now c.new-premises.result.items c.deref-member-items.ensures.value c.new-premises.ensures.items c.requires.over c.requires.path c.requires.first

pub implication-encode-requires : goal.implication-encode-requires
implication-encode-requires t c =
    let part = member_at c.deref-member-items.result.now c.loop-member.member-index c.member-item.result c.member-item.is c.loop-member-test.true c.loop-member.invariant.over c.narrowed_path.ensures.grows in
    (search (rules, the_lemmas), (part.over, next_path c.loop-member.nodes c.narrowed_path.new.nodes c.loop-member.path c.loop-member.last c.in_ok-narrowed.narrowed c.loop-member.invariant.last_is c.in_ok-narrowed.ensures.stands))

pub implication-loop-member-preserved : goal.implication-loop-member-preserved
implication-loop-member-preserved t c = implication_steps c.deref-member-items.result.now c.loop-member.member-index c.member-item.result c.member-item.is c.loop-member-test.true c.requires.over c.loop-member.invariant c.narrowed_path.ensures.grows c.in_ok-narrowed.ensures.stands c.in_ok-last.ensures.encodes c.in_ok-push.ensures.items

pub implication-returns : goal.implication-returns
implication-returns t c = record { gives = if_ok c.implied.result _ _ c.implied.ensures.stands (λ n s. implication_stops c.deref-member-items.result.now c.loop-member.member-index c.loop-member-test.false c.loop-member.invariant c.implied.ensures.grows s); extends = extends_then c.loop-member.invariant.extends (extends_nodes c.loop-member.nodes c.implied.new.nodes c.loop-member.out.items c.implied.ensures.grows) }

pub implication-returns-in_err-narrowed-clause-extends : goal.implication-returns-in_err-narrowed-clause-extends
implication-returns-in_err-narrowed-clause-extends t c = extends_then c.loop-member.invariant.extends (extends_nodes c.loop-member.nodes c.narrowed_path.new.nodes c.loop-member.out.items c.narrowed_path.ensures.grows)

pub implication-returns-in_err-last-clause-extends : goal.implication-returns-in_err-last-clause-extends
implication-returns-in_err-last-clause-extends t c = extends_then (extends_then c.loop-member.invariant.extends (extends_nodes c.loop-member.nodes c.narrowed_path.new.nodes c.loop-member.out.items c.narrowed_path.ensures.grows)) c.encode.ensures.extends

-- ---- equivalences

pub equivalence-loop-member-init : goal.equivalence-loop-member-init
equivalence-loop-member-init t c = equivalence_starts c.args.rest.now.items c.deref-member-items.result.now c.deref-member-items.ensures.value c.requires.over c.requires.first

pub equivalence-encode-requires : goal.equivalence-encode-requires
equivalence-encode-requires t c =
    let part = member_at c.deref-member-items.result.now c.loop-member.member-index c.member-item.result c.member-item.is c.loop-member-test.true c.loop-member.invariant.so_far.over (grows_not c.loop-member.nodes) in
    (search (rules, the_lemmas), (part.over, path_stays c.args.nodes.now c.loop-member.nodes c.args.path c.loop-member.invariant.so_far.extends.grows c.requires.path))

pub equivalence-iff-requires : goal.equivalence-iff-requires
equivalence-iff-requires t c =
    let part = member_at c.deref-member-items.result.now c.loop-member.member-index c.member-item.result c.member-item.is c.loop-member-test.true c.loop-member.invariant.so_far.over (grows_not c.loop-member.nodes) in
    record { left = term_stays Truths c.loop-member.nodes c.encode.new.nodes c.loop-member.formula c.encode.ensures.extends.grows c.loop-member.invariant.so_far.total_is; right = operand_term Truths c.loop-member.nodes c.encode.new.nodes c.args.terms.now c.args.path (expr_of c.member-item.result.operand) c.in_ok-operand.operand c.loop-member.out.items c.encode.new.out.items part c.in_ok-operand.ensures.encodes }

pub equivalence-loop-member-preserved : goal.equivalence-loop-member-preserved
equivalence-loop-member-preserved t c = equivalence_steps c.deref-member-items.result.now c.loop-member.member-index c.member-item.result c.member-item.is c.loop-member-test.true c.requires.over c.requires.path c.loop-member.invariant c.in_ok-operand.ensures.encodes c.iff.ensures.grows c.in_ok-formula.ensures.stands

pub equivalence-returns : goal.equivalence-returns
equivalence-returns t c = record { gives = equivalence_stops c.deref-member-items.result.now c.loop-member.member-index c.loop-member-test.false c.loop-member.invariant; extends = c.loop-member.invariant.so_far.extends }

pub equivalence-returns-in_err-operand-clause-extends : goal.equivalence-returns-in_err-operand-clause-extends
equivalence-returns-in_err-operand-clause-extends t c = extends_then c.loop-member.invariant.so_far.extends c.encode.ensures.extends

pub equivalence-returns-in_err-formula-clause-extends : goal.equivalence-returns-in_err-formula-clause-extends
equivalence-returns-in_err-formula-clause-extends t c = extends_then (extends_then c.loop-member.invariant.so_far.extends c.encode.ensures.extends) (extends_nodes c.encode.new.nodes c.iff.new.nodes c.encode.new.out.items c.iff.ensures.grows)

-- ---- chains

pub chain-loop-link-init : goal.chain-loop-link-init
chain-loop-link-init t c = chain_starts c.args.rest.now.items c.deref-link-items.result.now c.new-formulas.result.items c.deref-link-items.ensures.value c.new-formulas.ensures.items c.requires.over c.requires.path c.requires.first

pub chain-encode-requires : goal.chain-encode-requires
chain-encode-requires t c =
    let part = chain_operand c.deref-link-items.result.now c.loop-link.link-index c.link-item.result c.link-item.is c.loop-link-test.true c.loop-link.invariant c.further.ensures.grows in
    (search (rules, the_lemmas), (part.over, c.in_ok-path.ensures.is_path))

pub chain-compared-requires : goal.chain-compared-requires
chain-compared-requires t c =
    let part = chain_operand c.deref-link-items.result.now c.loop-link.link-index c.link-item.result c.link-item.is c.loop-link-test.true c.loop-link.invariant c.further.ensures.grows in
    record { compares = chain_compares c.deref-link-items.result.now c.loop-link.link-index c.link-item.result c.link-item.is c.loop-link-test.true c.loop-link.invariant; left = term_stays (sort_of_type c.args.ty) c.loop-link.nodes c.encode.new.nodes c.loop-link.left (grows_then c.loop-link.nodes c.further.new.nodes c.encode.new.nodes c.further.ensures.grows c.encode.ensures.extends.grows) c.loop-link.invariant.left_is; right = operand_term (sort_of_type c.args.ty) c.further.new.nodes c.encode.new.nodes c.args.terms.now c.in_ok-path.path (expr_of c.link-item.result.operand) c.in_ok-right.right c.loop-link.out.items c.encode.new.out.items part c.in_ok-right.ensures.encodes }

pub chain-loop-link-preserved : goal.chain-loop-link-preserved
chain-loop-link-preserved t c = chain_steps c.deref-link-items.result.now c.loop-link.link-index c.link-item.result c.link-item.is c.loop-link-test.true c.requires.over c.loop-link.invariant c.further.ensures.grows c.in_ok-path.ensures.path c.in_ok-path.ensures.is_path c.in_ok-right.ensures.encodes c.compared.ensures.grows c.in_ok-formula.ensures.stands c.in_ok-push.ensures.items

pub chain-all_of-requires : goal.chain-all_of-requires
chain-all_of-requires t c = subst (AllByRecursion (IsTerm Truths c.loop-link.nodes)) (sym c.deref.ensures.value) c.loop-link.invariant.formulas_are

pub chain-returns : goal.chain-returns
chain-returns t c = record { gives = if_ok c.all_of.result _ _ c.all_of.ensures.stands (λ n s. chain_stops c.deref-link-items.result.now c.loop-link.link-index c.deref.result.now c.loop-link-test.false c.loop-link.invariant c.deref.ensures.value c.all_of.ensures.grows s); extends = extends_then c.loop-link.invariant.extends (extends_nodes c.loop-link.nodes c.all_of.new.nodes c.loop-link.out.items c.all_of.ensures.grows) }

pub chain-returns-in_err-path-clause-extends : goal.chain-returns-in_err-path-clause-extends
chain-returns-in_err-path-clause-extends t c = extends_then c.loop-link.invariant.extends (extends_nodes c.loop-link.nodes c.further.new.nodes c.loop-link.out.items c.further.ensures.grows)

pub chain-returns-in_err-right-clause-extends : goal.chain-returns-in_err-right-clause-extends
chain-returns-in_err-right-clause-extends t c = extends_then (extends_then c.loop-link.invariant.extends (extends_nodes c.loop-link.nodes c.further.new.nodes c.loop-link.out.items c.further.ensures.grows)) c.encode.ensures.extends

pub chain-returns-in_err-formula-clause-extends : goal.chain-returns-in_err-formula-clause-extends
chain-returns-in_err-formula-clause-extends t c = extends_then (extends_then (extends_then c.loop-link.invariant.extends (extends_nodes c.loop-link.nodes c.further.new.nodes c.loop-link.out.items c.further.ensures.grows)) c.encode.ensures.extends) (extends_nodes c.encode.new.nodes c.compared.new.nodes c.encode.new.out.items c.compared.ensures.grows)

pub chain-returns-in_err-push-clause-extends : goal.chain-returns-in_err-push-clause-extends
chain-returns-in_err-push-clause-extends t c = extends_then (extends_then (extends_then c.loop-link.invariant.extends (extends_nodes c.loop-link.nodes c.further.new.nodes c.loop-link.out.items c.further.ensures.grows)) c.encode.ensures.extends) (extends_nodes c.encode.new.nodes c.compared.new.nodes c.encode.new.out.items c.compared.ensures.grows)
