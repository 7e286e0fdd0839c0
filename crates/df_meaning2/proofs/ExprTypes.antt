-- Expressions give values of their types.
use Rattle.std.proofs.Common.{◌≡◌, ℕ, zero, suc, Bool, true, false, ◌&&◌, if◌then◌else◌, List, [], ◌∷◌, filter, map, slice_get, Option, None, Some, refl, sym, ap, ◌∙◌, subst}
use Rattle.std.specs.Option.{option_map_or}
use Rattle.std.proofs.lemmas.Bool.{and_parts, and_from}
use Rattle.df_base.specs.declared.pos.Pos.{Pos}
use Rattle.df_types.specs.declared.expr.Connective.{Connective}
use Rattle.df_types.specs.declared.expr.Quantifier.{Quantifier}
use Rattle.df_types.specs.Ty.{Ty, Boolean, Tys, same_type, instance_of, instances_of}
use Rattle.df_types.specs.Expr.{Expr, Local, Bound, Apply, Junction, Chain, If, Let, Call, Quantify, Old, Exprs, no_expr, expr, Links, no_link, link, Arms, no_arm, arm}
use Rattle.df_types.specs.Program.{Param, Function, Program, function_at, types_of, result_type}
use Rattle.df_types.specs.Types.{is_type}
use Rattle.df_types.specs.Rows.{operands, result, allowed}
use Rattle.df_types.specs.ExprTyping.{Scope, with_type, is_at, parameters_at, signature_of, are_types_for, is_expr, are_exprs, are_truths, are_links, are_arms}
use Rattle.df_types.proofs.SameTypes.{same_type_equal, instance_twice}
use Rattle.df_meaning2.specs.Value.{Value, Truth, values_of, truth_of}
use Rattle.df_meaning2.specs.Outcome.{Outcome, Gives, Wrong, TooDeep, NoChoice, Dismissed, after, Each}
use Rattle.df_meaning2.specs.Types.{has_type, is_of, have_types}
use Rattle.df_meaning2.specs.Answer.{Answer, Is, Asks, EachAnswer, compare}
use Rattle.df_meaning2.specs.State.{State, with_bound}
use Rattle.df_meaning2.specs.Meaning.{Meaning, view_of, answered, there, each, led, ends, at_entry, evaluate, evaluate_all, evaluate_lazily, evaluate_links, evaluate_arms, evaluate_range}
use Rattle.df_meaning2.specs.Typed.{IsOf, AreOf, Agrees, CallsAreTyped}
use Rattle.df_meaning2.proofs.RowTypes.{first_is, others_are, row_is}

-- ---- each value that is given

pub after_each : {A B : Type 0} (P : A → Type 0) (Q : B → Type 0) (o : Outcome A) (f : A → Outcome B) → Each P o → ((a : A) → P a → Each Q (f a)) → Each Q (after o f)
after_each P Q (Gives a) f h k = k a h
after_each P Q (Wrong at kind) f h k = tt
after_each P Q TooDeep f h k = tt
after_each P Q NoChoice f h k = tt
after_each P Q Dismissed f h k = tt

-- nothing need be known of what is gone on from
pub any_after : {A B : Type 0} (Q : B → Type 0) (o : Outcome A) (f : A → Outcome B) → ((a : A) → Each Q (f a)) → Each Q (after o f)
any_after Q (Gives a) f k = k a
any_after Q (Wrong at kind) f k = tt
any_after Q TooDeep f k = tt
any_after Q NoChoice f k = tt
any_after Q Dismissed f k = tt

pub choice_each : {A : Type 0} (Q : A → Type 0) (b : Bool) (x y : Outcome A) → Each Q x → Each Q y → Each Q (if b then x else y)
choice_each Q true x y h k = h
choice_each Q false x y h k = k

pub answered_each : (P : Value → Type 0) (at : Pos) (a : Answer) → EachAnswer P a → Each P (answered at a)
answered_each P at (Is v) h = h
answered_each P at (Asks kind is_met a) h = by_test is_met (λ e. answered_each P at a (h e))
  where
    by_test : (b : Bool) → (b ≡ true → Each P (answered at a)) → Each P (if b then answered at a else Wrong at kind)
    by_test true h = h refl
    by_test false h = tt

-- ---- instances

-- types at what a call gives for type parameters, over what those stand for
pub types_twice : (a b : Tys) (params : List Param) → map (instance_of a) (map (λ (x : Param). instance_of b x.ty) params) ≡ map (instance_of (instances_of a b)) (types_of params)
types_twice a b [] = refl
types_twice a b (x ∷ xs) = ap (λ t. t ∷ map (instance_of a) (map (λ (y : Param). instance_of b y.ty) xs)) (instance_twice a b x.ty) ∙ ap (λ ts. instance_of (instances_of a b) x.ty ∷ ts) (types_twice a b xs)

module _ (m : Meaning) (calls : CallsAreTyped m) where
  abbrev p : Program
  p = m.program

  of_same : (w : Tys) (t u : Ty) (o : Outcome Value) → same_type t u ≡ true → Each (IsOf p w u) o → Each (IsOf p w t) o
  of_same w t u o e h = subst (λ x. Each (IsOf p w x) o) (sym (same_type_equal t u e)) h

  of_instance : (w types : Tys) (r : Ty) (o : Outcome Value) → Each (IsOf p (instances_of w types) r) o → Each (IsOf p w (instance_of types r)) o
  of_instance w types r (Gives v) h = record { by = subst (λ x. has_type p x v ≡ true) (sym (instance_twice w types r)) h.by }
  of_instance w types r (Wrong at kind) h = tt
  of_instance w types r TooDeep h = tt
  of_instance w types r NoChoice h = tt
  of_instance w types r Dismissed h = tt

  truth_typed : (w : Tys) (b : Bool) → Each (IsOf p w Boolean) (Gives (Truth b))
  truth_typed w b = record { by = refl }

  more_are : (w : Tys) (t : Ty) (ts : List Ty) (v : Value) (vs : List Value) → IsOf p w t v → AreOf p w ts vs → AreOf p w (t ∷ ts) (v ∷ vs)
  more_are w t ts v vs h k = record { by = and_from _ _ h.by k.by }

  local_typed : (w : Tys) (there_at : Option Ty) (t : Ty) (o : Option Value) → is_at there_at t ≡ true → ((u : Ty) (v : Value) → there_at ≡ Some u → o ≡ Some v → IsOf p w u v) → Each (IsOf p w t) (there o)
  local_typed w a t None e h = tt
  local_typed w None t (Some v) e h = cc
  local_typed w (Some u) t (Some v) e h = subst (λ x. IsOf p w x v) (sym (same_type_equal t u e)) (h u v refl refl)

  bound_typed : (w : Tys) (ts : List Ty) (vs : List Value) (n : ℕ) (t : Ty) → AreOf p w ts vs → is_at (slice_get ts n) t ≡ true → Each (IsOf p w t) (there (slice_get vs n))
  bound_typed w [] vs n t h e = cc
  bound_typed w (u ∷ ts) [] n t h e = tt
  bound_typed w (u ∷ ts) (v ∷ vs) zero t h e = subst (λ x. IsOf p w x v) (sym (same_type_equal t u e)) (first_is p w u ts (v ∷ vs) h)
  bound_typed w (u ∷ ts) (v ∷ vs) (suc n) t h e = bound_typed w ts vs n t (others_are p w u ts (v ∷ vs) h) e

  each_typed : (w : Tys) (q : Quantifier) (go : Value → Outcome Value) (vs : List Value) → Each (IsOf p w Boolean) (each q go vs)
  each_typed w q go [] = truth_typed w _
  each_typed w q go (v ∷ vs) = any_after _ (go v) _ (λ a. any_after _ (each q go vs) _ (λ b. truth_typed w _))

  pub bind_agrees : (g : Scope) (s : State) (t : Ty) (v : Value) → Agrees p g s → IsOf p s.types t v → Agrees p (with_type g t) (with_bound s v)
  bind_agrees g s t v h k = record { locals = h.locals; bound = record { by = and_from _ _ k.by h.bound.by } }

  pub entry_agrees : (g : Scope) (s : State) → Agrees p g s → Agrees p g (at_entry s)
  entry_agrees g s h = record { locals = h.locals; bound = h.bound }

  mutual
    pub typed : (e : Expr) (g : Scope) (s : State) (t : Ty) → Agrees p g s → is_expr p g t e ≡ true → Each (IsOf p s.types t) (evaluate m s e)
    typed (Local local name at) g s t h is = local_typed s.types (g.locals local) t (s.locals local) is (λ u v. h.locals local u v)
    typed (Bound index name at) g s t h is = bound_typed s.types g.bound s.bound index t h.bound is
    typed (Apply op at es) g s t h is =
        let same = and_parts (same_type t (result op)) _ is in
        let known = and_parts (is_type p g.type_parameters t) (allowed p op && are_exprs p g (operands p op) es) same.1 in
        let are = and_parts (allowed p op) (are_exprs p g (operands p op) es) known.1 in
        of_same s.types t (result op) _ same.0 (after_each _ _ _ _ (all_typed es g s (operands p op) h are.1) (λ vs k. answered_each (IsOf p s.types (result op)) at _ (row_is (view_of m s) op vs are.0 k)))
    typed (Junction connective first rest) g s t h is =
        let same = and_parts (same_type t Boolean) (is_expr p g Boolean first && are_truths p g rest) is in
        let are = and_parts (is_expr p g Boolean first) (are_truths p g rest) same.1 in
        of_same s.types t Boolean _ same.0 (after_each _ _ _ _ (typed first g s Boolean h are.0) (λ v k. lazily_typed rest g s connective v h k are.1))
    typed (Chain own first rest) g s t h is =
        let same = and_parts (same_type t Boolean) (is_expr p g own first && are_links p g own rest) is in
        of_same s.types t Boolean _ same.0 (any_after _ (evaluate m s first) _ (λ v. links_typed rest s v))
    typed (If own arms otherwise) g s t h is =
        let same = and_parts (same_type t own) (are_arms p g t arms && is_expr p g t otherwise) is in
        let are = and_parts (are_arms p g t arms) (is_expr p g t otherwise) same.1 in
        arms_typed arms g s t _ h are.0 (typed otherwise g s t h are.1)
    typed (Let variable is_ghost value body) g s t h is =
        let are = and_parts (is_expr p g variable.ty value) (is_expr p (with_type g variable.ty) t body) is in
        after_each _ _ _ _ (typed value g s variable.ty h are.0) (λ v k. typed body (with_type g variable.ty) (with_bound s v) t (bind_agrees g s variable.ty v h k) are.1)
    typed (Call callee types at es) g s t h is = by_function (function_at p callee) refl is (λ ts are. all_typed es g s ts h are)
      where
        by_function : (o : Option Function) → function_at p callee ≡ o
            → option_map_or (λ (f : Function). same_type t (signature_of f.head types).result && (are_types_for p g f.head types && are_exprs p g (signature_of f.head types).parameters es)) o false ≡ true
            → ((ts : List Ty) → are_exprs p g ts es ≡ true → Each (AreOf p s.types ts) (evaluate_all m s es)) → Each (IsOf p s.types t) (evaluate m s (Call callee types at es))
        by_function None e is rest = cc
        by_function (Some f) e is rest =
            let same = and_parts (same_type t (instance_of types (result_type f.head.results))) _ is in
            let are = and_parts (are_types_for p g f.head types) (are_exprs p g (parameters_at f.head types) es) same.1 in
            of_same s.types t (instance_of types (result_type f.head.results)) _ same.0 (after_each (AreOf p s.types (parameters_at f.head types)) (IsOf p s.types (instance_of types (result_type f.head.results))) _ _ (rest (parameters_at f.head types) are.1) (λ vs k.
            of_instance s.types types (result_type f.head.results) _
            (calls at callee f (instances_of s.types types) vs s e (record { by = subst (λ us. have_types p us (values_of vs) ≡ true) (types_twice s.types types f.head.parameters) k.by }))))
    typed (Quantify site at q variable extent triggers body) g s t h is =
        let same = and_parts (same_type t Boolean) _ is in
        of_same s.types t Boolean _ same.0 (any_after _ (evaluate_range m s extent) _ (λ vs. each_typed s.types q (λ v. evaluate m (with_bound s v) body) (led (m.first site) (filter (is_of p s.types variable.ty) vs))))
    typed (Old at e) g s t h is = typed e g (at_entry s) t (entry_agrees g s h) is

    pub all_typed : (es : Exprs) (g : Scope) (s : State) (ts : List Ty) → Agrees p g s → are_exprs p g ts es ≡ true → Each (AreOf p s.types ts) (evaluate_all m s es)
    all_typed no_expr g s [] h is = record { by = refl }
    all_typed no_expr g s (t ∷ ts) h is = cc
    all_typed (expr e es) g s [] h is = cc
    all_typed (expr e es) g s (t ∷ ts) h is =
        let are = and_parts (is_expr p g t e) (are_exprs p g ts es) is in
        after_each (IsOf p s.types t) (AreOf p s.types (t ∷ ts)) _ _ (typed e g s t h are.0) (λ v k. after_each (AreOf p s.types ts) (AreOf p s.types (t ∷ ts)) _ _ (all_typed es g s ts h are.1) (λ vs ks. more_are s.types t ts v vs k ks))

    lazily_typed : (es : Exprs) (g : Scope) (s : State) (connective : Connective) (v : Value) → Agrees p g s → IsOf p s.types Boolean v → are_truths p g es ≡ true → Each (IsOf p s.types Boolean) (evaluate_lazily m s connective v es)
    lazily_typed no_expr g s connective v h k is = k
    lazily_typed (expr e es) g s connective v h k is =
        let are = and_parts (is_expr p g Boolean e) (are_truths p g es) is in
        choice_each _ (ends connective (truth_of v)) _ _ (truth_typed s.types _) (after_each _ _ _ _ (typed e g s Boolean h are.0) (λ w l. lazily_typed es g s connective w h l are.1))

    links_typed : (links : Links) (s : State) (v : Value) → Each (IsOf p s.types Boolean) (evaluate_links m s v links)
    links_typed no_link s v = truth_typed s.types _
    links_typed (link c at e rest) s v = any_after _ (evaluate m s e) _ (λ w. choice_each _ (compare c v w) _ _ (links_typed rest s w) (truth_typed s.types _))

    arms_typed : (arms : Arms) (g : Scope) (s : State) (t : Ty) (o : Outcome Value) → Agrees p g s → are_arms p g t arms ≡ true → Each (IsOf p s.types t) o → Each (IsOf p s.types t) (evaluate_arms m s arms o)
    arms_typed no_arm g s t o h is k = k
    arms_typed (arm guard value rest) g s t o h is k =
        let are = and_parts (is_expr p g Boolean guard) (is_expr p g t value && are_arms p g t rest) is in
        let others = and_parts (is_expr p g t value) (are_arms p g t rest) are.1 in
        any_after _ (evaluate m s guard) _ (λ v. choice_each _ (truth_of v) _ _ (typed value g s t h others.0) (arms_typed rest g s t o h others.1 k))
