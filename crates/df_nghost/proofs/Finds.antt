-- The first use of some locals and then of others.
use Rattle.std.proofs.Common.{◌≡◌, ◌<◌, ◌+◌, ℕ, List, ◌++◌, map, flat_map, length, drop, get_or, Option, sym, ap, ◌∙◌}
use Rattle.std.proofs.lemmas.List.Concat.{flat_map-cons}
use Rattle.df_lang.specs.declared.ty.Ty.{Ty}
use Rattle.df_lang.specs.declared.expr.Junction.{Junction as JunctionKind}
use Rattle.df_lang.specs.declared.expr.Arrow.{Arrow}
use Rattle.df_lang.specs.declared.expr.Addend.{Addend}
use Rattle.df_lang.specs.declared.expr.Factor.{Factor}
use Rattle.df_lang.specs.declared.expr.Member.{Member}
use Rattle.df_lang.specs.declared.expr.Link.{Link}
use Rattle.df_lang.specs.declared.expr.Expr.TheFolds.{fold_out-Addend, fold_out-Factor, fold_out-Link, fold_out-Member}
use Rattle.df_lang.specs.Expr.{Expr, Sum, Product, Junction, Implies, Iff, Chain, Addends, Factors, Members, Links}
use Rattle.df_lang.specs.ExprView as pure_expr
use Rattle.df_lang.specs.ExprView.{expr_of}
use Rattle.df_lang.specs.Assignment as pure
use Rattle.df_lang.specs.Assignment.{Assigned, has_value, reads, reads_of_addends, reads_of_factors, reads_of_members, reads_of_links, results_from}
use Rattle.df_nghost.specs.declared.reads.Use.{Use}
use Rattle.df_nghost.specs.mirror.Parts.{addend_of, factor_of, member_of, link_of, addends_in, factors_in, members_in, links_in}
use Rattle.df_nghost.specs.mirror.Uses.{pick}
use Rattle.df_nghost.proofs.Uses.{pick_append}
use Rattle.df_nghost.proofs.Lists.{here}

one_more : (a : Assigned) (f g whole : Option Use) (mine rest all : List pure.Use) → g ≡ pick a f mine → all ≡ mine ++ rest → pick a f all ≡ whole → pick a g rest ≡ whole
one_more a f g whole mine rest all found is so_far = ap (λ (h : Option Use). pick a h rest) found ∙ sym (pick_append a f mine rest) ∙ ap (pick a f) (sym is) ∙ so_far

-- ---- lists of values

pub each_goes : {X Y : Type 0} (a : Assigned) (view : X → Y) (uses : Y → List pure.Use) (f g whole : Option Use) (items : List X) (i : ℕ) (x : X) → i < length items → x ≡ get_or items i x
    → g ≡ pick a f (uses (view x)) → pick a f (flat_map uses (map view (drop i items))) ≡ whole → pick a g (flat_map uses (map view (drop (i + 1) items))) ≡ whole
each_goes {X} {Y} a view uses f g whole items i x lt is found so_far =
    one_more a f g whole (uses (view x)) (flat_map uses (map view (drop (i + 1) items))) (flat_map uses (map view (drop i items))) found
    (ap (λ (xs : List X). flat_map uses (map view xs)) (here items i x lt is) ∙ flat_map-cons uses (view x) (map view (drop (i + 1) items))) so_far

-- ---- lists of operands

addend_operand : (x : Addend) → (addend_of x).operand ≡ expr_of x.operand
addend_operand x = ap (λ (o : pure_expr.Addend). o.operand) (fold_out-Addend _ _ _ _ _ _ _ _ _ _ x)

factor_operand : (x : Factor) → (factor_of x).operand ≡ expr_of x.operand
factor_operand x = ap (λ (o : pure_expr.Factor). o.operand) (fold_out-Factor _ _ _ _ _ _ _ _ _ _ x)

member_operand : (x : Member) → (member_of x).operand ≡ expr_of x.operand
member_operand x = ap (λ (o : pure_expr.Member). o.operand) (fold_out-Member _ _ _ _ _ _ _ _ _ _ x)

link_operand : (x : Link) → (link_of x).operand ≡ expr_of x.operand
link_operand x = ap (λ (o : pure_expr.Link). o.operand) (fold_out-Link _ _ _ _ _ _ _ _ _ _ x)

pub addend_goes : (a : Assigned) (f g whole : Option Use) (items : List Addend) (i : ℕ) (x : Addend) → i < length items → x ≡ get_or items i x
    → g ≡ pick a f (reads (expr_of x.operand)) → pick a f (reads_of_addends (addends_in (drop i items))) ≡ whole → pick a g (reads_of_addends (addends_in (drop (i + 1) items))) ≡ whole
addend_goes a f g whole items i x lt is found so_far =
    let rest = reads_of_addends (addends_in (drop (i + 1) items)) in
    one_more a f g whole (reads (expr_of x.operand)) rest (reads_of_addends (addends_in (drop i items))) found
    (ap (λ (xs : List Addend). reads_of_addends (addends_in xs)) (here items i x lt is) ∙ ap (λ (e : Expr). reads e ++ rest) (addend_operand x)) so_far

pub factor_goes : (a : Assigned) (f g whole : Option Use) (items : List Factor) (i : ℕ) (x : Factor) → i < length items → x ≡ get_or items i x
    → g ≡ pick a f (reads (expr_of x.operand)) → pick a f (reads_of_factors (factors_in (drop i items))) ≡ whole → pick a g (reads_of_factors (factors_in (drop (i + 1) items))) ≡ whole
factor_goes a f g whole items i x lt is found so_far =
    let rest = reads_of_factors (factors_in (drop (i + 1) items)) in
    one_more a f g whole (reads (expr_of x.operand)) rest (reads_of_factors (factors_in (drop i items))) found
    (ap (λ (xs : List Factor). reads_of_factors (factors_in xs)) (here items i x lt is) ∙ ap (λ (e : Expr). reads e ++ rest) (factor_operand x)) so_far

pub member_goes : (a : Assigned) (f g whole : Option Use) (items : List Member) (i : ℕ) (x : Member) → i < length items → x ≡ get_or items i x
    → g ≡ pick a f (reads (expr_of x.operand)) → pick a f (reads_of_members (members_in (drop i items))) ≡ whole → pick a g (reads_of_members (members_in (drop (i + 1) items))) ≡ whole
member_goes a f g whole items i x lt is found so_far =
    let rest = reads_of_members (members_in (drop (i + 1) items)) in
    one_more a f g whole (reads (expr_of x.operand)) rest (reads_of_members (members_in (drop i items))) found
    (ap (λ (xs : List Member). reads_of_members (members_in xs)) (here items i x lt is) ∙ ap (λ (e : Expr). reads e ++ rest) (member_operand x)) so_far

pub link_goes : (a : Assigned) (f g whole : Option Use) (items : List Link) (i : ℕ) (x : Link) → i < length items → x ≡ get_or items i x
    → g ≡ pick a f (reads (expr_of x.operand)) → pick a f (reads_of_links (links_in (drop i items))) ≡ whole → pick a g (reads_of_links (links_in (drop (i + 1) items))) ≡ whole
link_goes a f g whole items i x lt is found so_far =
    let rest = reads_of_links (links_in (drop (i + 1) items)) in
    one_more a f g whole (reads (expr_of x.operand)) rest (reads_of_links (links_in (drop i items))) found
    (ap (λ (xs : List Link). reads_of_links (links_in xs)) (here items i x lt is) ∙ ap (λ (e : Expr). reads e ++ rest) (link_operand x)) so_far

-- ---- what an expression is

found_in : (a : Assigned) (f g h : Option Use) (e : Expr) (mine rest : List pure.Use) → reads e ≡ mine ++ rest → g ≡ pick a f mine → h ≡ pick a g rest → h ≡ pick a f (reads e)
found_in a f g h e mine rest is first others = others ∙ ap (λ (p : Option Use). pick a p rest) first ∙ sym (pick_append a f mine rest) ∙ ap (pick a f) (sym is)

pub sum_found : (a : Assigned) (f g h : Option Use) (ty : Ty) (e left : Expr) (rest : Addends) → e ≡ Sum ty left rest → g ≡ pick a f (reads left) → h ≡ pick a g (reads_of_addends rest) → h ≡ pick a f (reads e)
sum_found a f g h ty e left rest is first others = found_in a f g h e (reads left) (reads_of_addends rest) (ap reads is) first others

pub product_found : (a : Assigned) (f g h : Option Use) (ty : Ty) (e left : Expr) (rest : Factors) → e ≡ Product ty left rest → g ≡ pick a f (reads left) → h ≡ pick a g (reads_of_factors rest) → h ≡ pick a f (reads e)
product_found a f g h ty e left rest is first others = found_in a f g h e (reads left) (reads_of_factors rest) (ap reads is) first others

pub chain_found : (a : Assigned) (f g h : Option Use) (ty : Ty) (e left : Expr) (rest : Links) → e ≡ Chain ty left rest → g ≡ pick a f (reads left) → h ≡ pick a g (reads_of_links rest) → h ≡ pick a f (reads e)
chain_found a f g h ty e left rest is first others = found_in a f g h e (reads left) (reads_of_links rest) (ap reads is) first others

pub junction_found : (a : Assigned) (f g h : Option Use) (junction : JunctionKind) (e left : Expr) (rest : Members) → e ≡ Junction junction left rest → g ≡ pick a f (reads left) → h ≡ pick a g (reads_of_members rest) → h ≡ pick a f (reads e)
junction_found a f g h junction e left rest is first others = found_in a f g h e (reads left) (reads_of_members rest) (ap reads is) first others

pub implication_found : (a : Assigned) (f g h : Option Use) (arrow : Arrow) (e left : Expr) (rest : Members) → e ≡ Implies arrow left rest → g ≡ pick a f (reads left) → h ≡ pick a g (reads_of_members rest) → h ≡ pick a f (reads e)
implication_found a f g h arrow e left rest is first others = found_in a f g h e (reads left) (reads_of_members rest) (ap reads is) first others

pub equivalence_found : (a : Assigned) (f g h : Option Use) (e left : Expr) (rest : Members) → e ≡ Iff left rest → g ≡ pick a f (reads left) → h ≡ pick a g (reads_of_members rest) → h ≡ pick a f (reads e)
equivalence_found a f g h e left rest is first others = found_in a f g h e (reads left) (reads_of_members rest) (ap reads is) first others

-- ---- one list after another

pub three_found : (a : Assigned) (f g h i : Option Use) (xs ys zs : List pure.Use) → g ≡ pick a f xs → h ≡ pick a g ys → i ≡ pick a h zs → i ≡ pick a f (xs ++ ys ++ zs)
three_found a f g h i xs ys zs first second third =
    third ∙ ap (λ (p : Option Use). pick a p zs) (second ∙ ap (λ (p : Option Use). pick a p ys) first ∙ sym (pick_append a f xs ys)) ∙ sym (pick_append a f (xs ++ ys) zs)
