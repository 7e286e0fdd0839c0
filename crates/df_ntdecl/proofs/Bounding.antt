-- The bounds of a newtype are those of its predicate, where 128 bits hold them.
use Rattle.std.proofs.Common.{◌≡◌, ℕ, ℤ, pos, ◌<ℤ◌, Bool, true, false, ◌&&◌, Option, Some, None, refl, sym, ap, ◌∙◌, arith}
use Rattle.std.specs.Prelude.{if◌then◌else◌, ◌==◌}
use Rattle.std.specs.Option.{option_and_then}
use Rattle.std.proofs.lemmas.Int.{ints}
use Rattle.df_base.specs.declared.pos.Pos.{Pos}
use Rattle.df_ntree.specs.declared.tree.Ident.{Ident}
use Rattle.df_ntree.specs.declared.tree.Literal.{Literal}
use Rattle.df_ntree.specs.declared.expr.BinaryOperator.{BinaryOperator}
use Rattle.df_ntree.specs.Spelling.{optional}
use Rattle.df_ntree.specs.Expr.{Expr, Number, Character, Truth, Name, Parentheses, Call, Unary, Cast, Operations, Leading, Members, end, more}
use Rattle.df_ntree.specs.ExprSpelling.{spell, spell_members}
use Rattle.df_ntree.specs.File.{NewtypeDeclaration}
use Rattle.df_ntree.specs.FileSpelling.{spell_typed, spell_witness, spell_newtype}
use Rattle.df_ntyping.specs.Literals.{AreInRange}
use Rattle.df_ntyping.specs.ExprTypes.{value_of}
use Rattle.df_ntyping.specs.rules.Newtypes.{Ends, Bounds, is_bound, lowest, highest, bounds_of}
use Rattle.df_ntyping.specs.rules.Newtypes as whole
use Rattle.df_ntyping.proofs.Ranges.{InRange}
use Rattle.df_ntyping.proofs.TypedIsWellTyped.{all_left, all_right}
use Rattle.df_ntdecl.specs.mirror.Bounds.{is_limited, is_name, low_end, high_end, ends_in, ends_of, default_of, inside, number_of, bounds_in}
use Rattle.df_ntdecl.proofs.BoundEnds.{Low, low_found, low_misfit, low_unordered, High, high_found, high_unordered, limited_of, top, Fits, value_fits, low_is, high_is}

-- ---- chains of three

abbrev ends_are : Option ℤ → Option ℤ → Option (ℤ × ℤ)
ends_are low high = option_and_then {U = ℤ × ℤ} (λ (a : ℤ). option_and_then {U = ℤ × ℤ} (λ (b : ℤ). Some (a, b)) high) low

abbrev tested : Option (ℤ × ℤ) → Option ℤ → Option Bounds
tested ends default = option_and_then (λ (ends : ℤ × ℤ). option_and_then (λ (default : ℤ). inside ends default) default) ends

abbrev IsSame : ℕ → Expr → Option ℤ → Type 0
IsSame variable e default = tested (ends_of variable e) default ≡ whole.inside (whole.ends_of variable e) default

-- a default is no number above those of 128 bits
abbrev IsSmall : Option ℤ → Type 0
IsSmall default = (d : ℤ) → default ≡ Some d → d <ℤ top

abbrev ordered : BinaryOperator → BinaryOperator → ℤ → ℤ → Option Ends
ordered x y n m = if is_bound x && is_bound y && true then Some (record { low = lowest x n; high = highest y m }) else None

no_default : (o : Option (ℤ × ℤ)) → tested o None ≡ None
no_default None = refl
no_default (Some ends) = refl

no_default_whole : (o : Option Ends) → whole.inside o None ≡ None
no_default_whole None = refl
no_default_whole (Some ends) = refl

chain_is : (x y : BinaryOperator) (n m d : ℤ) → Low x n → High y m → d <ℤ top → tested (ends_are (low_end x n) (high_end y m)) (Some d) ≡ whole.inside (ordered x y n m) (Some d)
chain_is x y n m d (low_found o e) (high_found p f) lt = rw (o, e, p, f) refl
chain_is x y n m d (low_found o e) (high_unordered p f) lt = rw (o, e, p, f) refl
chain_is x y n m d (low_misfit o e f) (high_found p g) lt = rw (o, e, p, f d lt) refl
chain_is x y n m d (low_misfit o e f) (high_unordered p g) lt = rw (o, e, p) refl
chain_is x y n m d (low_unordered o e) h lt = rw (o, e) refl

chain_same : (x y : BinaryOperator) (n m : ℤ) (default : Option ℤ) → Fits n → Fits m → IsSmall default → tested (ends_are (low_end x n) (high_end y m)) default ≡ whole.inside (ordered x y n m) default
chain_same x y n m None f g small = no_default _ ∙ sym (no_default_whole _)
chain_same x y n m (Some d) f g small = chain_is x y n m d (low_is x n f) (high_is y m g) (small d refl)

refuted : (a b : Bool) → (a && b && false) ≡ false
refuted true true = refl
refuted true false = refl
refuted false b = refl

drops : (o : Option ℤ) → option_and_then {U = ℤ × ℤ} (λ (a : ℤ). None) o ≡ None
drops None = refl
drops (Some a) = refl

module _ (variable : ℕ) (default : Option ℤ) where
  chain_tested : (low high : Literal) (subject : Ident) (x y : BinaryOperator) (p q : Pos) (s : Bool) → (subject.name == variable) ≡ s → is_limited low ≡ true → is_limited high ≡ true → IsSmall default
      → IsSame variable (Operations (Number low) (more x p (Name subject) (more y q (Number high) end))) default
  unfolding ends_in
  chain_tested low high subject x y p q false a b c small = rw (a, refuted (is_bound x) (is_bound y)) refl
  chain_tested low high subject x y p q true a b c small = rw (a, b, c) (chain_same x y (value_of low) (value_of high) default (value_fits low b) (value_fits high c) small)

  -- ---- what is no chain of a name between literals

  neither : (b : Bool) → ◌≡◌ {A = Option (ℤ × ℤ)} (if b then None else None) None
  neither true = refl
  neither false = refl

  lacks_high : (o : Option ℤ) (x : BinaryOperator) → option_and_then {U = ℤ × ℤ} (λ (n : ℤ). option_and_then {U = ℤ × ℤ} (λ (a : ℤ). None) (low_end x n)) o ≡ None
  lacks_high None x = refl
  lacks_high (Some n) x = drops (low_end x n)

  no_low : (first : Expr) (rest : Members) → number_of first ≡ None → ends_of variable (Operations first rest) ≡ None
  unfolding ends_in
  no_low first end e = refl
  no_low first (more x p l end) e = refl
  no_low first (more x p l (more y q h end)) e = rw e (neither (is_name variable l))
  no_low first (more x p l (more y q h (more z r o rest))) e = refl

  no_name : (first l : Expr) (x : BinaryOperator) (p : Pos) (rest : Members) → is_name variable l ≡ false → ends_of variable (Operations first (more x p l rest)) ≡ None
  unfolding ends_in
  no_name first l x p end e = refl
  no_name first l x p (more y q h end) e = rw e refl
  no_name first l x p (more y q h (more z r o rest)) e = refl

  no_high : (first l h : Expr) (x y : BinaryOperator) (p q : Pos) (rest : Members) → number_of h ≡ None → ends_of variable (Operations first (more x p l (more y q h rest))) ≡ None
  unfolding ends_in
  no_high first l h x y p q end e = rw (e, lacks_high (number_of first) x) (neither (is_name variable l))
  no_high first l h x y p q (more z r o rest) e = refl

  high_same : (n : Literal) (i : Ident) (h : Expr) (x y : BinaryOperator) (p q : Pos) (rest : Members) → is_limited n ≡ true → InRange h → IsSmall default → IsSame variable (Operations (Number n) (more x p (Name i) (more y q h rest))) default
  high_same n i (Number m) x y p q end l k small = chain_tested n m i x y p q _ refl l (limited_of m k) small
  high_same n i (Number m) x y p q (more z r o rest) l k small = refl
  high_same n i (Truth v r) x y p q rest l k small = rw (no_high (Number n) (Name i) (Truth v r) x y p q rest refl) refl
  high_same n i (Character c r) x y p q rest l k small = rw (no_high (Number n) (Name i) (Character c r) x y p q rest refl) refl
  high_same n i (Call c all) x y p q rest l k small = rw (no_high (Number n) (Name i) (Call c all) x y p q rest refl) refl
  high_same n i (Cast c all) x y p q rest l k small = rw (no_high (Number n) (Name i) (Cast c all) x y p q rest refl) refl
  high_same n i (Name j) x y p q rest l k small = rw (no_high (Number n) (Name i) (Name j) x y p q rest refl) refl
  high_same n i (Parentheses r e) x y p q rest l k small = rw (no_high (Number n) (Name i) (Parentheses r e) x y p q rest refl) refl
  high_same n i (Unary o r e) x y p q rest l k small = rw (no_high (Number n) (Name i) (Unary o r e) x y p q rest refl) refl
  high_same n i (Operations e es) x y p q rest l k small = rw (no_high (Number n) (Name i) (Operations e es) x y p q rest refl) refl
  high_same n i (Leading es) x y p q rest l k small = rw (no_high (Number n) (Name i) (Leading es) x y p q rest refl) refl

  name_same : (n : Literal) (l : Expr) (x : BinaryOperator) (p : Pos) (rest : Members) → is_limited n ≡ true → AreInRange (spell_members rest) → IsSmall default → IsSame variable (Operations (Number n) (more x p l rest)) default
  name_same n (Name i) x p end l k small = refl
  name_same n (Name i) x p (more y q h rest) l k small = high_same n i h x y p q rest l (all_left (spell h) (spell_members rest) k) small
  name_same n (Number m) x p rest l k small = rw (no_name (Number n) (Number m) x p rest refl) refl
  name_same n (Truth v r) x p rest l k small = rw (no_name (Number n) (Truth v r) x p rest refl) refl
  name_same n (Character c r) x p rest l k small = rw (no_name (Number n) (Character c r) x p rest refl) refl
  name_same n (Call c all) x p rest l k small = rw (no_name (Number n) (Call c all) x p rest refl) refl
  name_same n (Cast c all) x p rest l k small = rw (no_name (Number n) (Cast c all) x p rest refl) refl
  name_same n (Parentheses r e) x p rest l k small = rw (no_name (Number n) (Parentheses r e) x p rest refl) refl
  name_same n (Unary o r e) x p rest l k small = rw (no_name (Number n) (Unary o r e) x p rest refl) refl
  name_same n (Operations e es) x p rest l k small = rw (no_name (Number n) (Operations e es) x p rest refl) refl
  name_same n (Leading es) x p rest l k small = rw (no_name (Number n) (Leading es) x p rest refl) refl

  run_same : (first : Expr) (rest : Members) → InRange first → AreInRange (spell_members rest) → IsSmall default → IsSame variable (Operations first rest) default
  run_same (Number n) end k m small = refl
  run_same (Number n) (more x p l rest) k m small = name_same n l x p rest (limited_of n k) (all_right (spell l) (spell_members rest) m) small
  run_same (Truth v r) rest k m small = rw (no_low (Truth v r) rest refl) refl
  run_same (Character c r) rest k m small = rw (no_low (Character c r) rest refl) refl
  run_same (Call c all) rest k m small = rw (no_low (Call c all) rest refl) refl
  run_same (Cast c all) rest k m small = rw (no_low (Cast c all) rest refl) refl
  run_same (Name i) rest k m small = rw (no_low (Name i) rest refl) refl
  run_same (Parentheses r e) rest k m small = rw (no_low (Parentheses r e) rest refl) refl
  run_same (Unary o r e) rest k m small = rw (no_low (Unary o r e) rest refl) refl
  run_same (Operations e es) rest k m small = rw (no_low (Operations e es) rest refl) refl
  run_same (Leading es) rest k m small = rw (no_low (Leading es) rest refl) refl

  predicate_same : (e : Expr) → InRange e → IsSmall default → IsSame variable e default
  predicate_same (Operations first rest) k small = run_same first rest (all_left (spell first) (spell_members rest) k) (all_right (spell first) (spell_members rest) k) small
  predicate_same (Number n) k small = refl
  predicate_same (Truth v r) k small = refl
  predicate_same (Character c r) k small = refl
  predicate_same (Call c all) k small = refl
  predicate_same (Cast c all) k small = refl
  predicate_same (Name i) k small = refl
  predicate_same (Parentheses r e) k small = refl
  predicate_same (Unary o r e) k small = refl
  predicate_same (Leading es) k small = refl

-- ---- the whole

default_same : (witness : Option Expr) → AreInRange (optional spell_witness witness) → default_of witness ≡ whole.default_of witness
default_same None r = refl
default_same (Some (Number n)) r = rw (limited_of n r) refl
default_same (Some (Character c at)) r = refl
default_same (Some (Truth v at)) r = refl
default_same (Some (Name i)) r = refl
default_same (Some (Parentheses at e)) r = refl
default_same (Some (Call c all)) r = refl
default_same (Some (Unary o at e)) r = refl
default_same (Some (Cast e all)) r = refl
default_same (Some (Operations e es)) r = refl
default_same (Some (Leading es)) r = refl

literal_small : (literal : Literal) (b : Bool) → is_limited literal ≡ b → IsSmall (if b then Some (value_of literal) else None)
literal_small literal true e d is = let same : value_of literal ≡ d = cc in rw (← same) (value_fits literal e).below
literal_small literal false e d is = absurd cc

default_small : (witness : Option Expr) → IsSmall (default_of witness)
default_small None d is = let same : pos 0 ≡ d = cc in rw (← same) (omega (arith, ints))
default_small (Some (Number n)) d is = literal_small n _ refl d is
default_small (Some e) d is = absurd cc

-- the numbers that the code finds are the bounds of the newtype
pub bounds_same : (x : NewtypeDeclaration) → AreInRange (spell_newtype x) → bounds_in x ≡ bounds_of x
unfolding bounds_in
bounds_same x r =
    let rest = all_right (spell_typed x.is_typed) _ r in
    let predicate : InRange x.predicate = all_left (spell x.predicate) (optional spell_witness x.witness) rest in
    let witness : AreInRange (optional spell_witness x.witness) = all_right (spell x.predicate) (optional spell_witness x.witness) rest in
    predicate_same x.variable.name (default_of x.witness) x.predicate predicate (default_small x.witness)
    ∙ ap (whole.inside (whole.ends_of x.variable.name x.predicate)) (default_same x.witness witness)
