-- Operands of one level are well typed, and so is each of them, as a part of its list is seen.
use Rattle.df_nenc.proofs.Words.{◌≡◌, ℕ, true, ◌<◌, ◌+◌, suc, List, ◌∷◌, length, drop, get_or, add-one, drop-cons, refl, sym, ap, ◌≤◌, map, ◌∙◌, rules, drop_all, Pos, Ty, AddendOperator, FactorOperator, Comparison, Expr, Addends, addend, Factors, factor, Members, member, Links, link, no_addend, no_factor, no_link, no_member, Program, compares, is_expr, are_addends, are_factors, are_members, are_links, the_lemmas, expr_of, Addend, Factor, Link, Member, addends_of, factors_of, links_of, DeclaredAddend, DeclaredFactor, DeclaredMember, DeclaredLink, Node, both, three, Numbers, Truths, sort_of_type, integer_sort, arithmetic_integer, Grows, may_compare, AreAddendsOver, AreFactorsOver, AreMembersOver, AreLinksOver, addend_of, factor_of, member_of, link_of}
use Rattle.df_lang.specs.declared.ty.Ty.TheVariants as types
use Rattle.df_lang.specs.declared.expr.Comparison.TheVariants as comparisons
use Rattle.df_lang.specs.ExprView.{members_of}
use Rattle.df_nenc.specs.Views.{addends_in, factors_in, members_in, links_in}
use Rattle.df_nenc.proofs.Growing.{locals_stay}
use Rattle.df_nenc.proofs.Parts.{Part, part}

-- what is left of a list, from an element on
pub drop_next : {X : Type 0} (xs : List X) (i : ℕ) (x : X) → x ≡ get_or xs i x → i < length xs → drop i xs ≡ x ∷ drop (i + 1) xs
drop_next {X = X} xs i x is less = rw (add-one, drop-cons xs i x) (ap (λ (y : X). y ∷ drop (suc i) xs) (sym is))

compared_types : (p : Program) (ty : Ty) (c : Comparison) → compares p ty c ≡ true → may_compare ty c ≡ true
compared_types p ty comparisons.Equal h = refl
compared_types p ty comparisons.NotEqual h = refl
compared_types p types.Bool c h = cc
compared_types p ty c h = refl

module _ (nodes : List Node) (terms : List ℕ) where
  pub addend_part : (o : AddendOperator) (at : Pos) (e : Expr) (rest : Addends) → AreAddendsOver nodes terms (addend o at e rest) → Part Numbers nodes terms e
  addend_part o at e rest h =
      let is = both (is_expr h.program h.types h.ty e) (are_addends h.program h.types h.ty rest) h.typed in
      part h.program h.types h.ty Numbers nodes terms e is.0 (integer_sort h.program h.ty (arithmetic_integer h.program h.ty h.arithmetic)) h.locals

  pub factor_part : (o : FactorOperator) (at : Pos) (e : Expr) (rest : Factors) → AreFactorsOver nodes terms (factor o at e rest) → Part Numbers nodes terms e
  factor_part o at e rest h =
      let is = both (is_expr h.program h.types h.ty e) (are_factors h.program h.types h.ty rest) h.typed in
      part h.program h.types h.ty Numbers nodes terms e is.0 (integer_sort h.program h.ty (arithmetic_integer h.program h.ty h.arithmetic)) h.locals

  pub link_compares : (ty : Ty) (c : Comparison) (at : Pos) (e : Expr) (rest : Links) → AreLinksOver nodes terms ty (link c at e rest) → may_compare ty c ≡ true
  link_compares ty c at e rest h = compared_types h.program ty c (three (compares h.program ty c) (is_expr h.program h.types ty e) (are_links h.program h.types ty rest) h.typed).0

module _ (before now : List Node) (terms : List ℕ) (g : Grows before now) where
  member_part : (at : Pos) (e : Expr) (rest : Members) → AreMembersOver before terms (member at e rest) → Part Truths now terms e
  member_part at e rest h =
      let is = both (is_expr h.program h.types types.Bool e) (are_members h.program h.types rest) h.typed in
      part h.program h.types types.Bool Truths now terms e is.0 refl (locals_stay before now h.types terms g h.locals)

  pub link_part : (ty : Ty) (c : Comparison) (at : Pos) (e : Expr) (rest : Links) → AreLinksOver before terms ty (link c at e rest) → Part (sort_of_type ty) now terms e
  link_part ty c at e rest h =
      let is = three (compares h.program ty c) (is_expr h.program h.types ty e) (are_links h.program h.types ty rest) h.typed in
      part h.program h.types ty (sort_of_type ty) now terms e is.1 refl (locals_stay before now h.types terms g h.locals)

  pub addends_left : (o : AddendOperator) (at : Pos) (e : Expr) (rest : Addends) → AreAddendsOver before terms (addend o at e rest) → AreAddendsOver now terms rest
  addends_left o at e rest h = record { program = h.program; types = h.types; ty = h.ty; arithmetic = h.arithmetic; typed = (both (is_expr h.program h.types h.ty e) (are_addends h.program h.types h.ty rest) h.typed).1; locals = locals_stay before now h.types terms g h.locals }

  pub factors_left : (o : FactorOperator) (at : Pos) (e : Expr) (rest : Factors) → AreFactorsOver before terms (factor o at e rest) → AreFactorsOver now terms rest
  factors_left o at e rest h = record { program = h.program; types = h.types; ty = h.ty; arithmetic = h.arithmetic; typed = (both (is_expr h.program h.types h.ty e) (are_factors h.program h.types h.ty rest) h.typed).1; locals = locals_stay before now h.types terms g h.locals }

  pub members_left : (at : Pos) (e : Expr) (rest : Members) → AreMembersOver before terms (member at e rest) → AreMembersOver now terms rest
  members_left at e rest h = record { program = h.program; types = h.types; typed = (both (is_expr h.program h.types types.Bool e) (are_members h.program h.types rest) h.typed).1; locals = locals_stay before now h.types terms g h.locals }

  pub links_left : (ty : Ty) (c : Comparison) (at : Pos) (e : Expr) (rest : Links) → AreLinksOver before terms ty (link c at e rest) → AreLinksOver now terms ty rest
  links_left ty c at e rest h = record { program = h.program; types = h.types; typed = (three (compares h.program ty c) (is_expr h.program h.types ty e) (are_links h.program h.types ty rest) h.typed).2; locals = locals_stay before now h.types terms g h.locals }

abbrev pub seen_link : DeclaredLink → Link
seen_link o = record { comparison = o.comparison; pos = o.pos; operand = expr_of o.operand }

pub link_seen : (o : DeclaredLink) → link_of o ≡ seen_link o
link_seen o = search (rules, the_lemmas)

-- ---- what is left of a level, from an operand on

pub addends_next : (xs : List DeclaredAddend) (i : ℕ) (x : DeclaredAddend) → x ≡ get_or xs i x → i < length xs → addends_in (drop i xs) ≡ addend x.operator x.pos (expr_of x.operand) (addends_in (drop (i + 1) xs))
unfolding addends_in
addends_next xs i x is less =
    let made : Addend = record { operator = x.operator; pos = x.pos; operand = expr_of x.operand } in
    let seen : addend_of x ≡ made = search (rules, the_lemmas) in
    ap addends_in (drop_next xs i x is less) ∙ (λ k. addends_of (seen k ∷ map addend_of (drop (i + 1) xs)))

pub factors_next : (xs : List DeclaredFactor) (i : ℕ) (x : DeclaredFactor) → x ≡ get_or xs i x → i < length xs → factors_in (drop i xs) ≡ factor x.operator x.pos (expr_of x.operand) (factors_in (drop (i + 1) xs))
unfolding factors_in
factors_next xs i x is less =
    let made : Factor = record { operator = x.operator; pos = x.pos; operand = expr_of x.operand } in
    let seen : factor_of x ≡ made = search (rules, the_lemmas) in
    ap factors_in (drop_next xs i x is less) ∙ (λ k. factors_of (seen k ∷ map factor_of (drop (i + 1) xs)))

pub members_next : (xs : List DeclaredMember) (i : ℕ) (x : DeclaredMember) → x ≡ get_or xs i x → i < length xs → members_in (drop i xs) ≡ member x.pos (expr_of x.operand) (members_in (drop (i + 1) xs))
unfolding members_in
members_next xs i x is less =
    let made : Member = record { pos = x.pos; operand = expr_of x.operand } in
    let seen : member_of x ≡ made = search (rules, the_lemmas) in
    ap members_in (drop_next xs i x is less) ∙ (λ k. members_of (seen k ∷ map member_of (drop (i + 1) xs)))

-- the operand of the member there
pub member_at : {now new : List Node} {terms : List ℕ} (xs : List DeclaredMember) (i : ℕ) (x : DeclaredMember) → x ≡ get_or xs i x → i < length xs → AreMembersOver now terms (members_in (drop i xs)) → Grows now new → Part Truths new terms (expr_of x.operand)
member_at xs i x is less over g = let rest = rw (members_next xs i x is less) at over in member_part _ _ _ g _ _ _ rest

pub links_next : (xs : List DeclaredLink) (i : ℕ) (x : DeclaredLink) → x ≡ get_or xs i x → i < length xs → links_in (drop i xs) ≡ link x.comparison x.pos (expr_of x.operand) (links_in (drop (i + 1) xs))
unfolding links_in
links_next xs i x is less =
    let seen = link_seen x in
    ap links_in (drop_next xs i x is less) ∙ (λ k. links_of (seen k ∷ map link_of (drop (i + 1) xs)))

-- ---- its end

pub addends_done : (xs : List DeclaredAddend) (i : ℕ) → length xs ≤ i → addends_in (drop i xs) ≡ no_addend
unfolding addends_in
addends_done xs i all = ap addends_in (drop_all i xs all)

pub factors_done : (xs : List DeclaredFactor) (i : ℕ) → length xs ≤ i → factors_in (drop i xs) ≡ no_factor
unfolding factors_in
factors_done xs i all = ap factors_in (drop_all i xs all)

pub members_done : (xs : List DeclaredMember) (i : ℕ) → length xs ≤ i → members_in (drop i xs) ≡ no_member
unfolding members_in
members_done xs i all = ap members_in (drop_all i xs all)

pub links_done : (xs : List DeclaredLink) (i : ℕ) → length xs ≤ i → links_in (drop i xs) ≡ no_link
unfolding links_in
links_done xs i all = ap links_in (drop_all i xs all)
