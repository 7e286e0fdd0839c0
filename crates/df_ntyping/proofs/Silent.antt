-- What elaborates breaks nothing.
use Rattle.std.proofs.Common.{◌≡◌, ℕ, suc, ◌+◌, Bool, true, false, List, [], ◌∷◌, ◌++◌, Option, Some, None, refl, sym, ap, ◌∙◌, subst}
use Rattle.std.specs.Prelude.{is_some, option_map}
use Rattle.df_base.specs.declared.pos.Pos.{Pos}
use Rattle.df_lang.specs.declared.ty.Ty.{Ty}
use Rattle.df_lang.specs.declared.ty.Ty.TheVariants as types
use Rattle.df_lang.specs.Expr as typed
use Rattle.df_ntree.specs.declared.tree.Ident.{Ident}
use Rattle.df_ntree.specs.declared.expr.BinaryOperator.{BinaryOperator}
use Rattle.df_ntree.specs.declared.expr.UnaryOperator.TheVariants as unary
use Rattle.df_ntree.specs.declared.expr.Group.{Group}
use Rattle.df_ntree.specs.declared.expr.Group.TheVariants as groups
use Rattle.df_ntree.specs.declared.expr.TreeType.{TreeType}
use Rattle.df_ntree.specs.declared.expr.TreeType.TheVariants as trees
use Rattle.df_ntree.specs.declared.expr.Level.TheVariants as levels
use Rattle.df_ntree.specs.Operator.{group_of, level_of}
use Rattle.df_ntree.specs.Expr.{Expr, Number, Character, Truth, Name, Parentheses, Call, Unary, Cast, Operations, Leading, Members, end, more, Arguments, no_more, argument}
use Rattle.df_ntree.specs.ExprSpelling.{first_group, IsExpr, AreOf}
use Rattle.df_ntyping.specs.Types.{counted, is_integer, literal_type}
use Rattle.df_ntyping.specs.Table.{newtype_of, type_of}
use Rattle.df_ntyping.specs.Environment.{Environment}
use Rattle.df_ntyping.specs.Places.{beginning_of}
use Rattle.df_ntyping.specs.ExprTypes.{value_of, is_arithmetic, is_open, open_type, type_in, wanted_first, wanted_behind, expected_inside}
use Rattle.df_ntyping.specs.ExprNodes.{width, occurrence, type_nodes, cast_nodes, chain_nodes, left_of_next, right_of_last, expr_nodes, run_nodes}
use Rattle.df_ntyping.specs.ExprElaboration.{Part, AreCasts, IsRun, Elaborates, AreOperands}
use Rattle.df_ntyping.specs.Node as nodes
use Rattle.df_ntyping.specs.Laws.{TypedIsFaultless}
use Rattle.df_ntyping.proofs.Types.{value_of as value_of_some, one_type, counted_integer}
use Rattle.df_ntyping.specs.Rule.{TypingRule as Own}
use Rattle.df_ntyping.specs.mirror.Literals.{opened_by}
use Rattle.df_ntyping.specs.mirror.Signs.{rule_of, is_implication}
use Rattle.df_ntyping.proofs.FirstFault.{Silent, silent_none, silent_one, silent_then, silent_both}
use Rattle.df_ntyping.proofs.Breaking.{takes_known, used_only, type_only, plain_only, minus_only, negation_only, conversion_only, sign_only, known_both, chain_only}
use Rattle.df_ntyping.proofs.MeetingTypes.{literal_integer}
use Rattle.df_ntyping.proofs.OpenExprs.{Holds, HoldAll, HoldArguments, RunAt, opened_typed, any_expected}
use Rattle.df_ntyping.proofs.Fitting.{FitBy, AllFit, is_logical_group, run_fit, all_fit, counted_bool, takes_fit, group_rule, logical_rule_in, next_left}

-- ---- where no type is expected

mutual
  pub all_hold : (e : Expr) → Holds value_of e
  all_hold (Number literal) = refl
  all_hold (Character code at) = tt
  all_hold (Truth b at) = tt
  all_hold (Name ident) = tt
  all_hold (Parentheses at inner) = all_hold inner
  all_hold (Call callee arguments) = (all_hold callee, arguments_hold arguments)
  all_hold (Unary operator at operand) = all_hold operand
  all_hold (Cast operand all) = all_hold operand
  all_hold (Operations first rest) = (all_hold first, members_hold rest)
  all_hold (Leading operations) = members_hold operations

  pub members_hold : (rest : Members) → HoldAll value_of rest
  members_hold end = tt
  members_hold (more operator at operand rest) = (all_hold operand, members_hold rest)

  arguments_hold : (arguments : Arguments) → HoldArguments value_of arguments
  arguments_hold no_more = tt
  arguments_hold (argument e rest) = (all_hold e, arguments_hold rest)

-- it elaborates to something
abbrev pub HasTyping : Environment → Option Ty → Expr → Type 0
HasTyping env expected e = (ty : Ty) × (t : typed.Expr) × Elaborates env expected e ty t

pub none_expected : (env : Environment) (expected : Option Ty) (e : Expr) (ty : Ty) (t : typed.Expr) → Elaborates env expected e ty t → HasTyping env None e
none_expected env expected e ty t h = by_cases (is_open e) refl where
  by_cases : (b : Bool) → is_open e ≡ b → HasTyping env None e
  by_cases true o = let u = opened_by value_of (literal_type None) e in (u.ty, u.expr, opened_typed value_of env None e o (all_hold e))
  by_cases false o = (ty, t, any_expected env expected None e ty t o h)

pub inside_none : (group : Option Group) → expected_inside group None ≡ None
inside_none group = by_cases (is_arithmetic group) refl where
  by_cases : (b : Bool) → is_arithmetic group ≡ b → expected_inside group None ≡ None
  by_cases true p = rw p refl
  by_cases false p = rw p refl

-- ---- truths

pub open_integer : (expected : Option Ty) (e : Expr) → is_integer (open_type expected e) ≡ true
open_integer expected (Number literal) = literal_integer expected
open_integer expected (Parentheses at inner) = open_integer expected inner
open_integer expected e = counted_integer (literal_type expected) ∙ literal_integer expected

open_known : (env : Environment) (expected : Option Ty) (e : Expr) → is_open e ≡ true → type_in env expected e ≡ Some (open_type expected e)
open_known env expected e o = rw o refl

-- a truth is not made of literals
pub truth_closed : (env : Environment) (expected : Option Ty) (e : Expr) (ty : Ty) (t : typed.Expr) → IsExpr e → Elaborates env expected e ty t → counted ty ≡ types.Bool → is_open e ≡ false
truth_closed env expected e ty t g h p = by_cases (is_open e) refl where
  by_cases : (b : Bool) → is_open e ≡ b → is_open e ≡ false
  by_cases true o =
      let known : Some (open_type expected e) ≡ Some ty = sym (open_known env expected e o) ∙ one_type env expected e ty t g h in
      let same : open_type expected e ≡ types.Bool = value_of_some known ∙ counted_bool ty p in
      let wrong : true ≡ false = sym (open_integer expected e) ∙ ap is_integer same in
      absurd cc
  by_cases false o = o

pub truth_anywhere : (env : Environment) (expected other : Option Ty) (e : Expr) (ty : Ty) (t : typed.Expr) → IsExpr e → Elaborates env expected e ty t → counted ty ≡ types.Bool → Elaborates env other e ty t
truth_anywhere env expected other e ty t g h p = any_expected env expected other e ty t (truth_closed env expected e ty t g h p) h

pub truths_anywhere : (env : Environment) (wanted other : Option Ty) (rest : Members) (parts : List Part) (g : Group) → AreOf rest g → AreOperands env wanted types.Bool rest parts → AreOperands env other types.Bool rest parts
truths_anywhere env wanted other end parts g all h = h
truths_anywhere env wanted other (more operator pos operand rest) parts g all (source, inner, one, others, h, counts, conversion, operands, q) = (
  source,
  inner,
  one,
  others,
  truth_anywhere env wanted other operand source inner all.1 h counts,
  counts,
  conversion,
  truths_anywhere env (wanted_behind env wanted operand) (wanted_behind env other operand) rest others g all.3 operands,
  q,
)

-- ---- nodes of parts

type_known : (env : Environment) (ident : Ident) (target : Ty) → type_of env.table.newtypes (trees.Named ident) ≡ Some target → is_some (newtype_of env.table.newtypes ident.name) ≡ true
type_known env ident target p = by_cases (newtype_of env.table.newtypes ident.name) p where
  by_cases : (o : Option ℕ) → option_map types.Newtype o ≡ Some target → is_some o ≡ true
  by_cases None q = absurd cc
  by_cases (Some id) q = refl

pub type_silent : (env : Environment) (start : ℕ) (tree : TreeType) (target : Ty) → type_of env.table.newtypes tree ≡ Some target → Silent (type_nodes env start tree)
type_silent env start (trees.Basic basic pos) target p = silent_none
type_silent env start (trees.Named ident) target p = silent_one _ (type_only env ident start (suc start) (type_known env ident target p))

pub cast_silent : (env : Environment) (start : ℕ) (pos : Option Pos) (word : ℕ) (at : Pos) (source : Ty) (inner : typed.Expr) (all : List TreeType) (ty : Ty) (t : typed.Expr) → AreCasts env at source inner all ty t
    → Silent (cast_nodes env start pos word (Some source) all)
cast_silent env start pos word at source inner [] ty t h = silent_none
cast_silent env start pos word at source inner (tree ∷ others) ty t (target, known, c, h) =
    rw known
    (silent_both (type_nodes env (suc word) tree) _ (type_silent env (suc word) tree target known)
    (silent_then (occurrence env (nodes.Conversion (Some source) (Some target) pos) start (word + 2)) _ (conversion_only env (Some source) (Some target) pos start (word + 2) c)
    (cast_silent env start pos (word + 2) at target (typed.As source target at inner) others ty t h)))

chain_silent : (env : Environment) (group : Option Group) (start after : ℕ) (rest : Members) (of : Ty) (first : typed.Expr) (parts : List Part) (ty : Ty) (t : typed.Expr) → IsRun group rest of first parts ty t
    → Silent (chain_nodes env group start after rest)
chain_silent env (Some groups.Comparison) start after rest of first parts ty t h = silent_one _ (chain_only env rest start after h.1)
chain_silent env group start after rest of first parts ty t h = silent_none

-- the right side of an implication is a truth
right_known : (rest : Members) (ty : Ty) → ty ≡ types.Bool → right_of_last rest (Some ty) ≡ Some types.Bool
right_known end ty p = ap Some p
right_known (more operator pos operand rest) ty p = refl

-- ---- rows that begin with their sign

pub leading_logical : (g : Group) → level_of g ≡ levels.Junction → is_logical_group g ≡ true
leading_logical groups.Conjunction p = refl
leading_logical groups.Disjunction p = refl
leading_logical g p = absurd cc

leading_fit : (g : Group) (rest : Members) → level_of g ≡ levels.Junction → AreOf rest g → AllFit types.Bool rest
leading_fit groups.Conjunction rest p all = all_fit groups.Conjunction types.Bool rest (λ operator. refl) all
leading_fit groups.Disjunction rest p all = all_fit groups.Disjunction types.Bool rest (λ operator. refl) all
leading_fit g rest p all = absurd cc

-- ---- the nodes of a run that holds to the left

pub run_more : (env : Environment) (g : Group) (start sign : ℕ) (wanted left : Option Ty) (after : ℕ) (operator : BinaryOperator) (at : Pos) (e : Expr) (rest : Members) → is_implication (Some g) ≡ false
    → run_nodes env (Some g) start sign wanted left after (more operator at e rest)
    ≡ expr_nodes env (suc sign) e ++ occurrence env (nodes.Sign left operator at (type_in env wanted e)) start (sign + 1 + width e)
    ∷ run_nodes env (Some g) start (sign + 1 + width e) (wanted_behind env wanted e) (left_of_next (Some g) left (type_in env wanted e)) after rest
run_more env groups.Implication start sign wanted left after operator at e rest p = absurd cc
run_more env g start sign wanted left after operator at e rest p = refl

-- one sign with its operand, before what breaks nothing
left_silent : (env : Environment) (g : Group) (start sign : ℕ) (wanted : Option Ty) (left of : Ty) (after : ℕ) (operator : BinaryOperator) (pos : Pos) (operand : Expr) (rest : Members) (source : Ty) (inner : typed.Expr) → is_implication (Some g) ≡ false → IsExpr operand
    → group_of operator ≡ g → FitBy (rule_of operator) of → Elaborates env wanted operand source inner → counted source ≡ of → counted left ≡ of → Silent (expr_nodes env (suc sign) operand)
    → ((next : Ty) → counted next ≡ of → Silent (run_nodes env (Some g) start (sign + 1 + width operand) (wanted_behind env wanted operand) (Some next) after rest)) → Silent (run_nodes env (Some g) start sign wanted (Some left) after (more operator pos operand rest))
left_silent env g start sign wanted left of after operator pos operand rest source inner i x grouped fit h counts p silent tail =
    let rule = rule_of operator in
    let right : type_in env wanted operand ≡ Some source = one_type env wanted operand source inner x h in
    let (next, is, counted_next) = next_left g rule of left source (group_rule g operator grouped) fit p counts in
    let sign_after = sign + 1 + width operand in
    let behind = wanted_behind env wanted operand in
    subst Silent (sym (run_more env g start sign wanted (Some left) after operator pos operand rest i))
    (subst (λ (r : Option Ty). Silent (expr_nodes env (suc sign) operand ++ occurrence env (nodes.Sign (Some left) operator pos r) start sign_after ∷ run_nodes env (Some g) start sign_after behind (left_of_next (Some g) (Some left) r) after rest)) (sym right)
    (silent_both (expr_nodes env (suc sign) operand) (occurrence env (nodes.Sign (Some left) operator pos (Some source)) start sign_after ∷ run_nodes env (Some g) start sign_after behind (left_of_next (Some g) (Some left) (Some source)) after rest) silent
    (silent_then (occurrence env (nodes.Sign (Some left) operator pos (Some source)) start sign_after) (run_nodes env (Some g) start sign_after behind (left_of_next (Some g) (Some left) (Some source)) after rest)
    (sign_only env (Some left) operator pos (Some source) start sign_after (known_both rule left source ∙ takes_fit rule of left source fit p counts))
    (subst (λ (l : Option Ty). Silent (run_nodes env (Some g) start sign_after behind l after rest)) (sym is) (tail next counted_next)))))

leading_left : (g : Group) → level_of g ≡ levels.Junction → is_implication (Some g) ≡ false
leading_left groups.Conjunction p = refl
leading_left groups.Disjunction p = refl
leading_left g p = absurd cc

-- ---- expressions

mutual
  pub silent_of : (env : Environment) (start : ℕ) (e : Expr) (ty : Ty) (t : typed.Expr) → IsExpr e → Elaborates env None e ty t → Silent (expr_nodes env start e)
  silent_of env start (Number literal) ty t g h = silent_none
  silent_of env start (Character code at) ty t g h = silent_none
  silent_of env start (Truth b at) ty t g h = silent_none
  silent_of env start (Name ident) ty t g (local, means, known, q) =
      silent_then _ _ (used_only env ident start (suc start) (rw means refl)) (silent_one _ (plain_only env ident start (suc start) (rw means refl)))
  silent_of env start (Parentheses at inner) ty t g h = silent_of env (suc start) inner ty t g h
  silent_of env start (Call callee arguments) ty t g h = absurd h
  silent_of env start (Unary unary.Negate at operand) ty t g (source, inner, one, h, integer, conversion, p, q) =
      silent_both (expr_nodes env (suc start) operand) _ (silent_of env (suc start) operand source inner g.0 h)
      (silent_one _ (minus_only env (type_in env None operand) at start (start + 1 + width operand) (rw (one_type env None operand source inner g.0 h) integer)))
  silent_of env start (Unary unary.Not at operand) ty t g (inner, h, p, q) =
      silent_both (expr_nodes env (suc start) operand) _ (silent_of env (suc start) operand types.Bool inner g.0 h)
      (silent_one _ (negation_only env (type_in env None operand) at start (start + 1 + width operand) (rw (one_type env None operand types.Bool inner g.0 h) refl)))
  silent_of env start (Cast operand all) ty t g (source, inner, at, h, begins, cast) =
      rw (one_type env None operand source inner g.0 h)
      (silent_both (expr_nodes env start operand) _ (silent_of env start operand source inner g.0 h)
      (cast_silent env start (beginning_of operand) (start + width operand) at source inner all ty t cast))
  silent_of env start (Operations first rest) ty t g h =
      let wanted = wanted_first env None first rest in
      let (of, source, inner, one, parts, k, counts, conversion, operands, run) = subst (RunAt env first rest ty t) (ap (λ (inside : Option Ty). wanted_first env inside first rest) (inside_none (first_group rest))) h in
      let (own, u, l) = none_expected env wanted first source inner k in
      let grouped : IsRun (Some g.0) rest of one parts ty t = subst (λ (group : Option Group). IsRun group rest of one parts ty t) g.1 run in
      let after = start + width (Operations first rest) in
      silent_both (expr_nodes env start first ++ run_nodes env (first_group rest) start (start + width first) (wanted_behind env wanted first) (type_in env wanted first) after rest)
      (chain_nodes env (first_group rest) start after rest)
      (silent_both (expr_nodes env start first) _ (silent_of env start first own u g.2 l)
      (subst (λ (group : Option Group). Silent (run_nodes env group start (start + width first) (wanted_behind env wanted first) (type_in env wanted first) after rest)) (sym g.1)
      (subst (λ (left : Option Ty). Silent (run_nodes env (Some g.0) start (start + width first) (wanted_behind env wanted first) left after rest)) (sym (one_type env wanted first source inner g.2 k))
      (run_silent env g.0 start (start + width first) (wanted_behind env wanted first) source of after rest parts g.4 (run_fit g.0 rest of one parts ty t g.4 grouped) operands counts))))
      (chain_silent env (first_group rest) start after rest of one parts ty t run)
  silent_of env start (Leading end) ty t g h = absurd h
  silent_of env start (Leading (more operator at operand rest)) ty t g (one, parts, h, operands, p, leading) =
      let after = start + width (Leading (more operator at operand rest)) in
      let fit = leading_fit g.0 (more operator at operand rest) g.2 g.3 in
      subst (λ (group : Option Group). Silent (run_nodes env group start start None (Some types.Bool) after (more operator at operand rest))) (sym g.1)
      (left_silent env g.0 start start None types.Bool types.Bool after operator at operand rest types.Bool one (leading_left g.0 g.2) g.3.1 g.3.0 fit.0 h refl refl (silent_of env (suc start) operand types.Bool one g.3.1 h)
      (λ next q.
      run_silent env g.0 start (start + 1 + width operand) (wanted_behind env None operand) next types.Bool after rest parts g.3.3 fit.1
      (truths_anywhere env None (wanted_behind env None operand) rest parts g.0 g.3.3 operands) q))

  pub run_silent : (env : Environment) (g : Group) (start sign : ℕ) (wanted : Option Ty) (left of : Ty) (after : ℕ) (rest : Members) (parts : List Part) → AreOf rest g → AllFit of rest → AreOperands env wanted of rest parts → counted left ≡ of
      → Silent (run_nodes env (Some g) start sign wanted (Some left) after rest)
  run_silent env g start sign wanted left of after end parts all fit h p = silent_none
  run_silent env groups.Implication start sign wanted left of after (more operator pos operand rest) parts all fit (source, inner, one, others, h, counts, conversion, operands, q) p =
      let rule = rule_of operator in
      let truth : of ≡ types.Bool = subst (λ (r : Own). FitBy r of) (logical_rule_in groups.Implication rule refl (group_rule groups.Implication operator all.0)) fit.0 in
      let whole : source ≡ types.Bool = counted_bool source (counts ∙ truth) in
      let k : Elaborates env None operand types.Bool inner = subst (λ (u : Ty). Elaborates env None operand u inner) whole (truth_anywhere env wanted None operand source inner all.1 h (counts ∙ truth)) in
      let right : type_in env None operand ≡ Some types.Bool = one_type env None operand types.Bool inner all.1 k in
      let sign_after = sign + 1 + width operand in
      let bools : AreOperands env (wanted_behind env wanted operand) types.Bool rest others = subst (λ (u : Ty). AreOperands env (wanted_behind env wanted operand) u rest others) truth operands in
      let takes : takes_known rule (Some left) (Some types.Bool) ≡ true = known_both rule left types.Bool ∙ takes_fit rule of left types.Bool fit.0 p (sym truth) in
      subst (λ (r : Option Ty). Silent (expr_nodes env (suc sign) operand ++ run_nodes env (Some groups.Implication) (suc sign) sign_after None r after rest
      ++ occurrence env (nodes.Sign (Some left) operator pos (right_of_last rest r)) start after ∷ [])) (sym right)
      (silent_both (expr_nodes env (suc sign) operand ++ run_nodes env (Some groups.Implication) (suc sign) sign_after None (Some types.Bool) after rest) _
      (silent_both (expr_nodes env (suc sign) operand) _ (silent_of env (suc sign) operand types.Bool inner all.1 k)
      (run_silent env groups.Implication (suc sign) sign_after None types.Bool types.Bool after rest others all.3 (subst (λ (u : Ty). AllFit u rest) truth fit.1)
      (truths_anywhere env (wanted_behind env wanted operand) None rest others groups.Implication all.3 bools) refl))
      (silent_one _ (sign_only env (Some left) operator pos (right_of_last rest (Some types.Bool)) start after
      (subst (λ (r : Option Ty). takes_known rule (Some left) r ≡ true) (sym (right_known rest types.Bool refl)) takes))))
  run_silent env g start sign wanted left of after (more operator pos operand rest) parts all fit (source, inner, one, others, h, counts, conversion, operands, q) p =
      let rule = rule_of operator in
      let right : type_in env wanted operand ≡ Some source = one_type env wanted operand source inner all.1 h in
      let (own, u, k) = none_expected env wanted operand source inner h in
      let (next, is, counted_next) = next_left g rule of left source (group_rule g operator all.0) fit.0 p counts in
      let sign_after = sign + 1 + width operand in
      let behind = wanted_behind env wanted operand in
      subst (λ (r : Option Ty). Silent (expr_nodes env (suc sign) operand ++ occurrence env (nodes.Sign (Some left) operator pos r) start sign_after ∷ run_nodes env (Some g) start sign_after behind (left_of_next (Some g) (Some left) r) after rest)) (sym right)
      (silent_both (expr_nodes env (suc sign) operand) _ (silent_of env (suc sign) operand own u all.1 k)
      (silent_then _ _ (sign_only env (Some left) operator pos (Some source) start sign_after (known_both rule left source ∙ takes_fit rule of left source fit.0 p counts))
      (subst (λ (l : Option Ty). Silent (run_nodes env (Some g) start sign_after behind l after rest)) (sym is)
      (run_silent env g start sign_after behind next of after rest others all.3 fit.1 operands counted_next))))

-- ---- the law

pub typed_is_faultless : TypedIsFaultless
typed_is_faultless env expected e ty t g h = let (own, u, k) = none_expected env expected e ty t h in (silent_of env 0 e own u g k).none
