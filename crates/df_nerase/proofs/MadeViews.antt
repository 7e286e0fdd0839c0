-- Expressions without ghosts that were made, as contracts see them.
use Rattle.std.proofs.Common.{◌≡◌, ◌<◌, ◌+◌, ℕ, ℤ, Bool, List, [], ◌∷◌, ◌++◌, Vec, Global, length, map, take, get_or, sym, ap, ◌∙◌, rules}
use Rattle.std.specs.Prelude.{Box}
use Rattle.std.proofs.lemmas.List.{take_more, map-append}
use Rattle.df_lang.specs.declared.expr.Junction.{Junction as JunctionKind}
use Rattle.df_nplain.specs.Kind.{range_of, kind_of}
use Rattle.df_nplain.specs.Expr.{Expr, Number, Truth, Character, Local, Negate, Not, Sum, Product, Junction, Implies, Iff, Chain, As}
use Rattle.df_nplain.specs.ExprView.{Addend, Factor, Link, expr_of, addend_of, factor_of, link_of, addends_of, factors_of, members_of, links_of, expr_step, addend_step, factor_step, link_step}
use Rattle.df_nplain.specs.declared.expr.Addend as declared_addend
use Rattle.df_nplain.specs.declared.expr.Factor as declared_factor
use Rattle.df_nplain.specs.declared.expr.Link as declared_link
use Rattle.df_nplain.specs.declared.expr.Expr.{Expr as DeclaredExpr}
use Rattle.df_nplain.specs.declared.expr.Expr.TheFolds.{the_lemmas, fold-roll-Expr}
use Rattle.df_nplain.specs.declared.expr.Expr.TheOpen.{Expr-F}
use Rattle.df_nplain.specs.declared.expr.Expr.TheVariants as made
use Rattle.df_nplain.specs.declared.kind.Kind.{Kind}
use Rattle.df_nplain.specs.declared.kind.Range.{Range}

pub made_number : (value : ℤ) → expr_of (made.Number value) ≡ Number value
made_number value = ap expr_of (sym (made.rolls-Number value)) ∙ fold-roll-Expr Expr Addend Factor Link expr_step addend_step factor_step link_step (Expr-F.Number value)

pub made_truth : (value : Bool) → expr_of (made.Truth value) ≡ Truth value
made_truth value = ap expr_of (sym (made.rolls-Truth value)) ∙ fold-roll-Expr Expr Addend Factor Link expr_step addend_step factor_step link_step (Expr-F.Truth value)

pub made_character : (code : ℕ) → expr_of (made.Character code) ≡ Character code
made_character code = ap expr_of (sym (made.rolls-Character code)) ∙ fold-roll-Expr Expr Addend Factor Link expr_step addend_step factor_step link_step (Expr-F.Character code)

pub made_local : (local : ℕ) → expr_of (made.Local local) ≡ Local local
made_local local = ap expr_of (sym (made.rolls-Local local)) ∙ fold-roll-Expr Expr Addend Factor Link expr_step addend_step factor_step link_step (Expr-F.Local local)

pub made_negate : (range : Range) (operand : Box DeclaredExpr Global) → expr_of (made.Negate range operand) ≡ Negate (range_of range) (expr_of operand.value)
made_negate range operand = ap expr_of (sym (made.rolls-Negate range operand)) ∙ fold-roll-Expr Expr Addend Factor Link expr_step addend_step factor_step link_step (Expr-F.Negate range operand)

pub made_not : (operand : Box DeclaredExpr Global) → expr_of (made.Not operand) ≡ Not (expr_of operand.value)
made_not operand = ap expr_of (sym (made.rolls-Not operand)) ∙ fold-roll-Expr Expr Addend Factor Link expr_step addend_step factor_step link_step (Expr-F.Not operand)

pub made_sum : (range : Range) (first : Box DeclaredExpr Global) (rest : Vec declared_addend.Addend Global) → expr_of (made.Sum range first rest) ≡ Sum (range_of range) (expr_of first.value) (addends_of (map addend_of rest.items))
made_sum range first rest = ap expr_of (sym (made.rolls-Sum range first rest)) ∙ fold-roll-Expr Expr Addend Factor Link expr_step addend_step factor_step link_step (Expr-F.Sum range first rest)

pub made_product : (range : Range) (first : Box DeclaredExpr Global) (rest : Vec declared_factor.Factor Global) → expr_of (made.Product range first rest) ≡ Product (range_of range) (expr_of first.value) (factors_of (map factor_of rest.items))
made_product range first rest = ap expr_of (sym (made.rolls-Product range first rest)) ∙ fold-roll-Expr Expr Addend Factor Link expr_step addend_step factor_step link_step (Expr-F.Product range first rest)

pub made_junction : (junction : JunctionKind) (first : Box DeclaredExpr Global) (rest : Vec DeclaredExpr Global) → expr_of (made.Junction junction first rest) ≡ Junction junction (expr_of first.value) (members_of (map expr_of rest.items))
made_junction junction first rest = ap expr_of (sym (made.rolls-Junction junction first rest)) ∙ fold-roll-Expr Expr Addend Factor Link expr_step addend_step factor_step link_step (Expr-F.Junction junction first rest)

pub made_implies : (first : Box DeclaredExpr Global) (rest : Vec DeclaredExpr Global) → expr_of (made.Implies first rest) ≡ Implies (expr_of first.value) (members_of (map expr_of rest.items))
made_implies first rest = ap expr_of (sym (made.rolls-Implies first rest)) ∙ fold-roll-Expr Expr Addend Factor Link expr_step addend_step factor_step link_step (Expr-F.Implies first rest)

pub made_iff : (first : Box DeclaredExpr Global) (rest : Vec DeclaredExpr Global) → expr_of (made.Iff first rest) ≡ Iff (expr_of first.value) (members_of (map expr_of rest.items))
made_iff first rest = ap expr_of (sym (made.rolls-Iff first rest)) ∙ fold-roll-Expr Expr Addend Factor Link expr_step addend_step factor_step link_step (Expr-F.Iff first rest)

pub made_chain : (first : Box DeclaredExpr Global) (rest : Vec declared_link.Link Global) → expr_of (made.Chain first rest) ≡ Chain (expr_of first.value) (links_of (map link_of rest.items))
made_chain first rest = ap expr_of (sym (made.rolls-Chain first rest)) ∙ fold-roll-Expr Expr Addend Factor Link expr_step addend_step factor_step link_step (Expr-F.Chain first rest)

pub made_as : (source target : Kind) (operand : Box DeclaredExpr Global) → expr_of (made.As source target operand) ≡ As (kind_of source) (kind_of target) (expr_of operand.value)
made_as source target operand = ap expr_of (sym (made.rolls-As source target operand)) ∙ fold-roll-Expr Expr Addend Factor Link expr_step addend_step factor_step link_step (Expr-F.As source target operand)

-- ---- parts

addend_operator : (x : declared_addend.Addend) → (addend_of x).operator ≡ x.operator
addend_operator x = search (rules, the_lemmas)

addend_operand : (x : declared_addend.Addend) → (addend_of x).operand ≡ expr_of x.operand
addend_operand x = search (rules, the_lemmas)

factor_operator : (x : declared_factor.Factor) → (factor_of x).operator ≡ x.operator
factor_operator x = search (rules, the_lemmas)

factor_operand : (x : declared_factor.Factor) → (factor_of x).operand ≡ expr_of x.operand
factor_operand x = search (rules, the_lemmas)

link_comparison : (x : declared_link.Link) → (link_of x).comparison ≡ x.comparison
link_comparison x = search (rules, the_lemmas)

link_operand : (x : declared_link.Link) → (link_of x).operand ≡ expr_of x.operand
link_operand x = search (rules, the_lemmas)

pub made_addend : (x : declared_addend.Addend) → addend_of x ≡ record { operator = x.operator; operand = expr_of x.operand }
made_addend x = λ i. record { operator = addend_operator x i; operand = addend_operand x i }

pub made_factor : (x : declared_factor.Factor) → factor_of x ≡ record { operator = x.operator; operand = expr_of x.operand }
made_factor x = λ i. record { operator = factor_operator x i; operand = factor_operand x i }

pub made_link : (x : declared_link.Link) → link_of x ≡ record { comparison = x.comparison; operand = expr_of x.operand }
made_link x = λ i. record { comparison = link_comparison x i; operand = link_operand x i }

-- ---- one more of those that are made one by one

pub made_more : {A B C D : Type 0} (view : A → B) (seen : C → D) (make : B → D) (xs : List A) (i : ℕ) (x : A) → i < length xs → x ≡ get_or xs i x → (before after : List C) (one : C) → seen one ≡ make (view x) → after ≡ before ++ one ∷ [] → map seen before ≡ map make (map view (take i xs))
    → map seen after ≡ map make (map view (take (i + 1) xs))
made_more view seen make xs i x lt is before after one e added so_far =
    let taken : take (i + 1) xs ≡ take i xs ++ x ∷ [] = take_more xs i x lt ∙ ap (λ y. take i xs ++ y ∷ []) (sym is) in
    let views : map view (take (i + 1) xs) ≡ map view (take i xs) ++ view x ∷ [] = ap (map view) taken ∙ map-append view (take i xs) (x ∷ []) in
    let all : map make (map view (take (i + 1) xs)) ≡ map make (map view (take i xs)) ++ make (view x) ∷ [] = ap (map make) views ∙ map-append make (map view (take i xs)) (view x ∷ []) in
    ap (map seen) added ∙ map-append seen before (one ∷ []) ∙ (λ k. so_far k ++ e k ∷ []) ∙ sym all
