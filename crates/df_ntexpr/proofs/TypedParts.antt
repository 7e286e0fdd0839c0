-- The operations of typed runs, one more made of the parts that are left.
use Rattle.std.proofs.Common.{◌≡◌, List, [], ◌∷◌, ◌++◌, map, sym, ap, ◌∙◌, append_assoc, rules}
use Rattle.std.proofs.lemmas.List.{map-append}
use Rattle.df_lang.specs.ExprView.{expr_of}
use Rattle.df_lang.specs.declared.expr.Addend as declared_addend
use Rattle.df_lang.specs.declared.expr.Factor as declared_factor
use Rattle.df_lang.specs.declared.expr.Member as declared_member
use Rattle.df_lang.specs.declared.expr.Link as declared_link
use Rattle.df_lang.specs.declared.expr.Expr.TheFolds.{the_lemmas}
use Rattle.df_ntexpr.specs.TypedViews.{addend_of, factor_of, link_of, member_of}

addend_operator : (x : declared_addend.Addend) → (addend_of x).operator ≡ x.operator
addend_operator x = search (rules, the_lemmas)

addend_pos : (x : declared_addend.Addend) → (addend_of x).pos ≡ x.pos
addend_pos x = search (rules, the_lemmas)

addend_operand : (x : declared_addend.Addend) → (addend_of x).operand ≡ expr_of x.operand
addend_operand x = search (rules, the_lemmas)

factor_operator : (x : declared_factor.Factor) → (factor_of x).operator ≡ x.operator
factor_operator x = search (rules, the_lemmas)

factor_pos : (x : declared_factor.Factor) → (factor_of x).pos ≡ x.pos
factor_pos x = search (rules, the_lemmas)

factor_operand : (x : declared_factor.Factor) → (factor_of x).operand ≡ expr_of x.operand
factor_operand x = search (rules, the_lemmas)

member_pos : (x : declared_member.Member) → (member_of x).pos ≡ x.pos
member_pos x = search (rules, the_lemmas)

member_operand : (x : declared_member.Member) → (member_of x).operand ≡ expr_of x.operand
member_operand x = search (rules, the_lemmas)

link_comparison : (x : declared_link.Link) → (link_of x).comparison ≡ x.comparison
link_comparison x = search (rules, the_lemmas)

link_pos : (x : declared_link.Link) → (link_of x).pos ≡ x.pos
link_pos x = search (rules, the_lemmas)

link_operand : (x : declared_link.Link) → (link_of x).operand ≡ expr_of x.operand
link_operand x = search (rules, the_lemmas)

pub made_addend : (x : declared_addend.Addend) → addend_of x ≡ record { operator = x.operator; pos = x.pos; operand = expr_of x.operand }
made_addend x = λ i. record { operator = addend_operator x i; pos = addend_pos x i; operand = addend_operand x i }

pub made_factor : (x : declared_factor.Factor) → factor_of x ≡ record { operator = x.operator; pos = x.pos; operand = expr_of x.operand }
made_factor x = λ i. record { operator = factor_operator x i; pos = factor_pos x i; operand = factor_operand x i }

pub made_member : (x : declared_member.Member) → member_of x ≡ record { pos = x.pos; operand = expr_of x.operand }
made_member x = λ i. record { pos = member_pos x i; operand = member_operand x i }

pub made_link : (x : declared_link.Link) → link_of x ≡ record { comparison = x.comparison; pos = x.pos; operand = expr_of x.operand }
made_link x = λ i. record { comparison = link_comparison x i; pos = link_pos x i; operand = link_operand x i }

-- those so far, in front of what is made of those that are left
pub one_more : {A B C : Type 0} (seen : C → B) (from : A → B) (before after : List C) (one : C) (x : A) (items left : List A) (total : List B) → seen one ≡ from x → after ≡ before ++ one ∷ [] → items ≡ x ∷ left
    → map seen before ++ map from items ≡ total → map seen after ++ map from left ≡ total
one_more {A = A} {B = B} {C = C} seen from before after one x items left total same grows split so_far =
    ap (λ (l : List C). map seen l ++ map from left) grows
    ∙ ap (λ (l : List B). l ++ map from left) (map-append seen before (one ∷ []))
    ∙ append_assoc (map seen before) (seen one ∷ []) (map from left)
    ∙ ap (λ (y : B). map seen before ++ (y ∷ map from left)) same
    ∙ ap (λ (l : List A). map seen before ++ map from l) (sym split)
    ∙ so_far
