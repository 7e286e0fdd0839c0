-- One more operand of each kind of run, and none left.
use Rattle.std.proofs.Common.{◌≡◌, ℕ, true, ◌+◌, ◌<◌, ◌≤◌, List, [], ◌∷◌, ◌++◌, map, length, drop, get_or, refl, sym, ap, ap₂, ◌∙◌}
use Rattle.df_lang.specs.declared.expr.Junction.{Junction}
use Rattle.df_nplain.specs.Kind.{Range}
use Rattle.df_nplain.specs.ExprView.{expr_of, addend_of, addends_of, factor_of, factors_of, members_of}
use Rattle.df_nplain.specs.declared.expr.Addend.{Addend}
use Rattle.df_nplain.specs.declared.expr.Expr.{Expr}
use Rattle.df_nplain.specs.declared.expr.Factor.{Factor}
use Rattle.df_nmach.specs.declared.instruction.Instruction.{Instruction}
use Rattle.df_nmach.specs.declared.instruction.Instruction.TheVariants as i
use Rattle.df_nmach.specs.declared.instruction.BinaryOperator.TheVariants as binary
use Rattle.df_nemit.specs.Code.{adds, multiplies}
use Rattle.df_nemit.specs.mirror.Emitting.{Run, put_between, decided_unless, with_code, emit_expr, emit_addends, emit_factors, emit_junction, emit_implications, emit_equivalences}
use Rattle.df_nemit.proofs.LinkView.{addend_operand, addend_operator, factor_operand, factor_operator}
use Rattle.df_nemit.proofs.Walk as walk

-- ---- sums

abbrev addends_run : ℕ → Range → List Instruction → List Addend → List Instruction
addends_run s range code xs = emit_addends s code range (addends_of (map addend_of xs))

abbrev addend_step : ℕ → Range → List Instruction → Addend → List Instruction
addend_step s range code x = emit_expr s code (addend_of x).operand ++ adds (addend_of x).operator range ∷ []

pub addends_on : (s : ℕ) (range : Range) (items : List Addend) (n : ℕ) (x : Addend) (code valued new all : List Instruction) (added : Instruction) → n < length items → x ≡ get_or items n x
    → valued ≡ emit_expr s code (expr_of x.operand) → added ≡ adds x.operator range → new ≡ valued ++ added ∷ []
    → emit_addends s code range (addends_of (map addend_of (drop n items))) ≡ all → emit_addends s new range (addends_of (map addend_of (drop (n + 1) items))) ≡ all
addends_on s range items n x code valued new all added lt is value by put so_far =
    walk.goes_on (addends_run s range) (addend_step s range) (λ code x xs. refl) (λ code. refl) items all n code new x lt is
    (put ∙ ap₂ (λ (l : List Instruction) (y : Instruction). l ++ y ∷ []) (value ∙ ap (emit_expr s code) (sym (addend_operand x))) (by ∙ ap (λ o. adds o range) (sym (addend_operator x)))) so_far

pub addends_done : (s : ℕ) (range : Range) (items : List Addend) (n : ℕ) (code all : List Instruction) → length items ≤ n → emit_addends s code range (addends_of (map addend_of (drop n items))) ≡ all → code ≡ all
addends_done s range items n code all le so_far = walk.is_done (addends_run s range) (addend_step s range) (λ code x xs. refl) (λ code. refl) items all n code le so_far

-- ---- products

abbrev factors_run : ℕ → Range → List Instruction → List Factor → List Instruction
factors_run s range code xs = emit_factors s code range (factors_of (map factor_of xs))

abbrev factor_step : ℕ → Range → List Instruction → Factor → List Instruction
factor_step s range code x = emit_expr s code (factor_of x).operand ++ multiplies (factor_of x).operator range ∷ []

pub factors_on : (s : ℕ) (range : Range) (items : List Factor) (n : ℕ) (x : Factor) (code valued new all : List Instruction) (added : Instruction) → n < length items → x ≡ get_or items n x
    → valued ≡ emit_expr s code (expr_of x.operand) → added ≡ multiplies x.operator range → new ≡ valued ++ added ∷ []
    → emit_factors s code range (factors_of (map factor_of (drop n items))) ≡ all → emit_factors s new range (factors_of (map factor_of (drop (n + 1) items))) ≡ all
factors_on s range items n x code valued new all added lt is value by put so_far =
    walk.goes_on (factors_run s range) (factor_step s range) (λ code x xs. refl) (λ code. refl) items all n code new x lt is
    (put ∙ ap₂ (λ (l : List Instruction) (y : Instruction). l ++ y ∷ []) (value ∙ ap (emit_expr s code) (sym (factor_operand x))) (by ∙ ap (λ o. multiplies o range) (sym (factor_operator x)))) so_far

pub factors_done : (s : ℕ) (range : Range) (items : List Factor) (n : ℕ) (code all : List Instruction) → length items ≤ n → emit_factors s code range (factors_of (map factor_of (drop n items))) ≡ all → code ≡ all
factors_done s range items n code all le so_far = walk.is_done (factors_run s range) (factor_step s range) (λ code x xs. refl) (λ code. refl) items all n code le so_far

-- ---- members

abbrev step_of : ℕ → (Run → Run) → Run → Expr → Run
step_of s opening r x = with_code (opening r) (emit_expr s (opening r).code (expr_of x))

step_is : (s : ℕ) (opening : Run → Run) (x : Expr) (r front : Run) (valued : List Instruction) → front ≡ opening r → valued ≡ emit_expr s front.code (expr_of x) → with_code front valued ≡ step_of s opening r x
step_is s opening x r front valued opens value = ap (with_code front) value ∙ ap (λ (f : Run). with_code f (emit_expr s f.code (expr_of x))) opens

pub junction_on : (s : ℕ) (kind : Junction) (items : List Expr) (n : ℕ) (x : Expr) (r front all : Run) (valued : List Instruction) → n < length items → x ≡ get_or items n x
    → front ≡ put_between r kind → valued ≡ emit_expr s front.code (expr_of x)
    → emit_junction s r kind (members_of (map expr_of (drop n items))) ≡ all → emit_junction s (with_code front valued) kind (members_of (map expr_of (drop (n + 1) items))) ≡ all
junction_on s kind items n x r front all valued lt is opens value so_far =
    walk.goes_on (λ (y : Run) (xs : List Expr). emit_junction s y kind (members_of (map expr_of xs))) (step_of s (λ (y : Run). put_between y kind)) (λ y x xs. refl) (λ y. refl) items all n r (with_code front valued) x lt is
    (step_is s (λ (y : Run). put_between y kind) x r front valued opens value) so_far

pub implications_on : (s : ℕ) (items : List Expr) (n : ℕ) (x : Expr) (r front all : Run) (valued : List Instruction) → n < length items → x ≡ get_or items n x
    → front ≡ decided_unless r true → valued ≡ emit_expr s front.code (expr_of x)
    → emit_implications s r (members_of (map expr_of (drop n items))) ≡ all → emit_implications s (with_code front valued) (members_of (map expr_of (drop (n + 1) items))) ≡ all
implications_on s items n x r front all valued lt is opens value so_far =
    walk.goes_on (λ (y : Run) (xs : List Expr). emit_implications s y (members_of (map expr_of xs))) (step_of s (λ (y : Run). decided_unless y true)) (λ y x xs. refl) (λ y. refl) items all n r (with_code front valued) x lt is
    (step_is s (λ (y : Run). decided_unless y true) x r front valued opens value) so_far

abbrev same_step : ℕ → List Instruction → Expr → List Instruction
same_step s code x = emit_expr s code (expr_of x) ++ i.Binary binary.Same ∷ []

pub equivalences_on : (s : ℕ) (items : List Expr) (n : ℕ) (x : Expr) (code valued new all : List Instruction) → n < length items → x ≡ get_or items n x
    → valued ≡ emit_expr s code (expr_of x) → new ≡ valued ++ i.Binary binary.Same ∷ []
    → emit_equivalences s code (members_of (map expr_of (drop n items))) ≡ all → emit_equivalences s new (members_of (map expr_of (drop (n + 1) items))) ≡ all
equivalences_on s items n x code valued new all lt is value put so_far =
    walk.goes_on (λ (l : List Instruction) (xs : List Expr). emit_equivalences s l (members_of (map expr_of xs))) (same_step s) (λ l x xs. refl) (λ l. refl) items all n code new x lt is
    (put ∙ ap (λ (l : List Instruction). l ++ i.Binary binary.Same ∷ []) value) so_far

pub equivalences_done : (s : ℕ) (items : List Expr) (n : ℕ) (code all : List Instruction) → length items ≤ n → emit_equivalences s code (members_of (map expr_of (drop n items))) ≡ all → code ≡ all
equivalences_done s items n code all le so_far =
    walk.is_done (λ (l : List Instruction) (xs : List Expr). emit_equivalences s l (members_of (map expr_of xs))) (same_step s) (λ l x xs. refl) (λ l. refl) items all n code le so_far
