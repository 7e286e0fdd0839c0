-- From some depth on, a modular evaluation is wrong, or has the value of the whole one.
use Rattle.std.proofs.Common.{◌≡◌, ℕ, zero, suc, Bool, true, false, ◌&&◌, if◌then◌else◌, List, [], ◌∷◌, ◌++◌, filter, slice_get, Option, None, Some, refl, sym, subst}
use Rattle.std.specs.Option.{option_map_or}
use Rattle.std.specs.List.{AllByRecursion}
use Rattle.std.proofs.lemmas.Bool.{and_parts}
use Rattle.df_base.specs.declared.pos.Pos.{Pos}
use Rattle.df_types.specs.declared.expr.Connective.{Connective}
use Rattle.df_types.specs.declared.expr.Quantifier.{Quantifier}
use Rattle.df_types.specs.Ty.{Ty, Boolean, Tys, same_type, instance_of, instances_of}
use Rattle.df_types.specs.Expr.{Expr, Local, Bound, Apply, Junction, Chain, If, Let, Call, Quantify, Old, Exprs, no_expr, expr, Links, no_link, link, Arms, no_arm, arm, Extent, Between, Among}
use Rattle.df_types.specs.Stmt.{Typed}
use Rattle.df_types.specs.Program.{Program, Function, function_at, types_of, result_type}
use Rattle.df_types.specs.Types.{are_arguments, is_type, are_types, is_ordered, converts}
use Rattle.df_types.specs.Rows.{operands, result, allowed, compares}
use Rattle.df_types.specs.ExprTyping.{Scope, with_type, is_at, parameters_at, signature_of, are_types_for, holds_members, is_expr, are_exprs, are_truths, are_links, are_arms, is_range, are_triggers}
use Rattle.df_types.specs.Gathering.{gather, gather_all, gather_links, gather_arms, gather_extent}
use Rattle.df_types.specs.Calls.{called}
use Rattle.df_meaning2.specs.Value.{Value, truth_of, values_of}
use Rattle.df_meaning2.specs.Outcome.{Outcome, Wrong, Each}
use Rattle.df_meaning2.specs.Types.{is_of, have_types}
use Rattle.df_meaning2.specs.Answer.{Answer, Is, Asks, answer, compare}
use Rattle.df_meaning2.specs.State.{State, with_bound}
use Rattle.df_meaning2.specs.Meaning.{Meaning, view_of, answered, there, each, led, ends, at_entry, evaluate, evaluate_all, evaluate_lazily, evaluate_links, evaluate_arms, evaluate_range, measured}
use Rattle.df_meaning2.specs.Whole.{meaning_with, whole}
use Rattle.df_meaning2.specs.Typed.{IsOf, AreOf, Agrees, CallsAreTyped}
use Rattle.df_meaning2.proofs.ExprTypes.{types_twice, bind_agrees, entry_agrees, typed, all_typed}
use Rattle.df_meaning2.proofs.RowTypes.{others_are}
use Rattle.df_hoare2.proofs.Depths.{Meets, Reaches, meets_after, meets_value, meets_wrong, meets_choice}
use Rattle.df_hoare2.proofs.Judging.{judge}
use Rattle.df_hoare2.proofs.Reading.{read_by, Fit, Fits, fit_parts}
use Rattle.df_hoare2.proofs.Dismissing.{Applying}
use Rattle.df_hoare2.proofs.TypeArguments.{Closed, closed_instances}
use Rattle.df_hoare2.proofs.Heads.{IsThere}

pub meets_there : (o : Option Value) → IsThere o → Meets (λ n. there o) (λ n. there o)
meets_there o h = subst (λ x. Meets (λ n. there x) (λ n. there x)) (sym h.is) (meets_value h.value)

pub meets_answer : (at : Pos) (a : Answer) → Meets (λ n. answered at a) (λ n. answered at a)
meets_answer at (Is v) = meets_value v
meets_answer at (Asks kind is_met rest) = meets_choice is_met (λ n. answered at rest) (λ n. answered at rest) (λ n. Wrong at kind) (λ n. Wrong at kind) (meets_answer at rest) (meets_wrong _ at kind)

meets_each : (W M : ℕ → Value → Outcome Value) (q : Quantifier) (vs : List Value) → AllByRecursion (λ v. Meets (λ n. W n v) (λ n. M n v)) vs → Meets (λ n. each q (W n) vs) (λ n. each q (M n) vs)
meets_each W M q [] h = meets_value _
meets_each W M q (v ∷ vs) h = meets_after _ _ _ _ h.0 (λ a r. meets_after _ _ _ _ (meets_each W M q vs h.1) (λ b k. meets_value _))

all_led : (P : Value → Type 0) (vs : List Value) → AllByRecursion P vs → AllByRecursion P (led 0 vs)
all_led P [] h = tt
all_led P (v ∷ vs) h = (h.0, h)

all_filtered : (P : Value → Type 0) (test : Value → Bool) → ((v : Value) → test v ≡ true → P v) → (vs : List Value) → AllByRecursion P (filter test vs)
all_filtered P test h [] = tt
all_filtered P test h (v ∷ vs) = by_test (test v) refl (all_filtered P test h vs)
  where
    by_test : (b : Bool) → test v ≡ b → AllByRecursion P (filter test vs) → AllByRecursion P (if b then v ∷ filter test vs else filter test vs)
    by_test true e k = (h v e, k)
    by_test false e k = k

bound_there : (p : Program) (w : Tys) (ts : List Ty) (vs : List Value) (n : ℕ) (t : Ty) → AreOf p w ts vs → is_at (slice_get ts n) t ≡ true → IsThere (slice_get vs n)
bound_there p w [] vs n t h e = cc
bound_there p w (u ∷ ts) [] n t h e = absurd (let k : false ≡ true = h.by in cc)
bound_there p w (u ∷ ts) (v ∷ vs) zero t h e = record { value = v; is = refl }
bound_there p w (u ∷ ts) (v ∷ vs) (suc n) t h e = bound_there p w ts vs n t (others_are p w u ts (v ∷ vs) h) e

-- typed, with all that may be read, at closed types
pub record Stands (p : Program) (reads : ℕ → Bool) (g : Scope) (s : State) : Type 0 where
  pub agrees : Agrees p g s
  pub there : (n : ℕ) → reads n ≡ true → IsThere (s.locals n)
  pub closed : Closed p g.type_parameters s.types

abbrev pub CallsMeet : Program → (ℕ → Bool) → (ℕ → Applying) → Type 0
CallsMeet p may A = (at : Pos) (callee : ℕ) (f : Function) (types : Tys) (vs : List Value) (s : State) → function_at p callee ≡ Some f → may callee ≡ true → Closed p f.head.type_parameters types
    → AreOf p types (types_of f.head.parameters) vs → Meets (λ n. (whole p n).apply at callee types vs s) (λ n. A n at callee types vs s)

abbrev pub Sound : Program → (ℕ → Bool) → (ℕ → Bool) → Scope → Expr → Type 0
Sound p may reads g e = (is_expr p g Boolean e ≡ true) × Fits may reads e

abbrev pub SoundTyped : Program → (ℕ → Bool) → (ℕ → Bool) → Scope → Typed → Type 0
SoundTyped p may reads g x = (is_expr p g x.ty x.value ≡ true) × Fits may reads x.value

module _ (p : Program) (may reads : ℕ → Bool) (A : ℕ → Applying) (typed_calls : (n : ℕ) → CallsAreTyped (whole p n)) (calls : CallsMeet p may A) where
  abbrev W : ℕ → Meaning
  W n = whole p n

  abbrev M : ℕ → Meaning
  M n = meaning_with p (A n)

  pub bind_stands : (g : Scope) (s : State) (t : Ty) (v : Value) → Stands p reads g s → IsOf p s.types t v → Stands p reads (with_type g t) (with_bound s v)
  bind_stands g s t v h k = record { agrees = bind_agrees (W 0) (typed_calls 0) g s t v h.agrees k; there = h.there; closed = h.closed }

  entry_stands : (g : Scope) (s : State) → Stands p reads g s → Stands p reads g (at_entry s)
  entry_stands g s h = record { agrees = entry_agrees (W 0) (typed_calls 0) g s h.agrees; there = h.there; closed = h.closed }

  all_are : (s : State) (g : Scope) (ts : List Ty) (es : Exprs) (vs : List Value) → Stands p reads g s → are_exprs p g ts es ≡ true → Reaches (λ n. evaluate_all (W n) s es) vs → AreOf p s.types ts vs
  all_are s g ts es vs h is r = subst (Each (AreOf p s.types ts)) r.gives (all_typed (W r.depth) (typed_calls r.depth) es g s ts h.agrees is)

  pub value_is : (s : State) (g : Scope) (t : Ty) (e : Expr) (v : Value) → Stands p reads g s → is_expr p g t e ≡ true → Reaches (λ n. evaluate (W n) s e) v → IsOf p s.types t v
  value_is s g t e v h is r = subst (Each (IsOf p s.types t)) r.gives (typed (W r.depth) (typed_calls r.depth) e g s t h.agrees is)

  mutual
    pub meets : (e : Expr) (g : Scope) (s : State) (t : Ty) → Stands p reads g s → is_expr p g t e ≡ true → Fits may reads e → Meets (λ n. evaluate (W n) s e) (λ n. evaluate (M n) s e)
    meets (Local local name at) g s t h is fit = meets_there (s.locals local) (h.there local (and_parts (reads local) true fit.locals).0)
    meets (Bound index name at) g s t h is fit = meets_there (slice_get s.bound index) (bound_there p s.types g.bound s.bound index t h.agrees.bound is)
    meets (Apply op at es) g s t h is fit =
        let same = and_parts (same_type t (result op)) _ is in
        let known = and_parts (is_type p g.type_parameters t) (allowed p op && are_exprs p g (operands p op) es) same.1 in
        let are = and_parts (allowed p op) (are_exprs p g (operands p op) es) known.1 in
        meets_after _ _ _ _ (all_meet es g s (operands p op) h are.1 fit) (λ vs r. meets_answer at (answer (view_of (W 0) s) op vs))
    meets (Junction connective first rest) g s t h is fit =
        let are = and_parts (is_expr p g Boolean first) (are_truths p g rest) (and_parts (same_type t Boolean) (is_expr p g Boolean first && are_truths p g rest) is).1 in
        let fits = fit_parts may reads (gather called first) (gather_all called rest) (gather read_by first) (gather_all read_by rest) fit in
        meets_after _ _ _ _ (meets first g s Boolean h are.0 fits.0) (λ v r. lazily_meet rest g s connective v h are.1 fits.1)
    meets (Chain own first rest) g s t h is fit =
        let are = and_parts (is_expr p g own first) (are_links p g own rest) (and_parts (same_type t Boolean) (is_expr p g own first && are_links p g own rest) is).1 in
        let fits = fit_parts may reads (gather called first) (gather_links called rest) (gather read_by first) (gather_links read_by rest) fit in
        meets_after _ _ _ _ (meets first g s own h are.0 fits.0) (λ v r. links_meet rest g s own v h are.1 fits.1)
    meets (If own arms otherwise) g s t h is fit =
        let are = and_parts (are_arms p g t arms) (is_expr p g t otherwise) (and_parts (same_type t own) (are_arms p g t arms && is_expr p g t otherwise) is).1 in
        let fits = fit_parts may reads (gather_arms called arms) (gather called otherwise) (gather_arms read_by arms) (gather read_by otherwise) fit in
        arms_meet arms g s t _ _ h are.0 fits.0 (meets otherwise g s t h are.1 fits.1)
    meets (Let variable is_ghost value body) g s t h is fit =
        let are = and_parts (is_expr p g variable.ty value) (is_expr p (with_type g variable.ty) t body) is in
        let fits = fit_parts may reads (gather called value) (gather called body) (gather read_by value) (gather read_by body) fit in
        meets_after _ _ _ _ (meets value g s variable.ty h are.0 fits.0) (λ v r. meets body (with_type g variable.ty) (with_bound s v) t (bind_stands g s variable.ty v h (value_is s g variable.ty value v h are.0 r)) are.1 fits.1)
    meets (Call callee types at es) g s t h is fit =
        let fits = fit_parts may reads (callee ∷ []) (gather_all called es) [] (gather_all read_by es) fit in
        by_function (function_at p callee) refl is (and_parts (may callee) true fits.0.calls).0 (λ ts are. all_meet es g s ts h are fits.1)
      where
        by_function : (o : Option Function) → function_at p callee ≡ o
            → option_map_or (λ (f : Function). same_type t (signature_of f.head types).result && (are_types_for p g f.head types && are_exprs p g (signature_of f.head types).parameters es)) o false ≡ true → may callee ≡ true
            → ((ts : List Ty) → are_exprs p g ts es ≡ true → Meets (λ n. evaluate_all (W n) s es) (λ n. evaluate_all (M n) s es)) → Meets (λ n. evaluate (W n) s (Call callee types at es)) (λ n. evaluate (M n) s (Call callee types at es))
        by_function None e is m rest = cc
        by_function (Some f) e is m rest =
            let same = and_parts (same_type t (instance_of types (result_type f.head.results))) _ is in
            let are = and_parts (are_types_for p g f.head types) (are_exprs p g (parameters_at f.head types) es) same.1 in
            let for = and_parts (are_arguments p g.type_parameters f.head.type_parameters types) (are_types p g.type_parameters types) are.0 in
            meets_after _ _ _ _ (rest (parameters_at f.head types) are.1) (λ vs r. calls at callee f (instances_of s.types types) vs s e m
            (closed_instances p g.type_parameters s.types h.closed f.head.type_parameters types for.0 for.1)
            (record { by = subst (λ us. have_types p us (values_of vs) ≡ true) (types_twice s.types types f.head.parameters) (all_are s g (parameters_at f.head types) es vs h are.1 r).by }))
    meets (Quantify site at q variable extent triggers body) g s t h is fit =
        let inner = with_type g variable.ty in
        let same = and_parts (same_type t Boolean) _ is in
        let known = and_parts (is_type p g.type_parameters variable.ty) (is_range p g variable.ty extent && (are_triggers p inner triggers && is_expr p inner Boolean body)) same.1 in
        let are = and_parts (is_range p g variable.ty extent) (are_triggers p inner triggers && is_expr p inner Boolean body) known.1 in
        let others = and_parts (are_triggers p inner triggers) (is_expr p inner Boolean body) are.1 in
        let fits = fit_parts may reads (gather_extent called extent) (gather called body) (gather_extent read_by extent) (gather read_by body) fit in
        meets_after _ _ _ _ (range_meets extent g s variable.ty h are.0 fits.0) (λ vs r.
        meets_each (λ n v. evaluate (W n) (with_bound s v) body) (λ n v. evaluate (M n) (with_bound s v) body) q (led 0 (filter (is_of p s.types variable.ty) vs))
        (all_led _ (filter (is_of p s.types variable.ty) vs) (all_filtered _ (is_of p s.types variable.ty)
        (λ v e. meets body inner (with_bound s v) Boolean (bind_stands g s variable.ty v h (record { by = e })) others.1 fits.1) vs)))
    meets (Old at e) g s t h is fit = meets e g (at_entry s) t (entry_stands g s h) is fit

    pub all_meet : (es : Exprs) (g : Scope) (s : State) (ts : List Ty) → Stands p reads g s → are_exprs p g ts es ≡ true → Fit may reads (gather_all called es) (gather_all read_by es) → Meets (λ n. evaluate_all (W n) s es) (λ n. evaluate_all (M n) s es)
    all_meet no_expr g s ts h is fit = meets_value _
    all_meet (expr e es) g s [] h is fit = cc
    all_meet (expr e es) g s (t ∷ ts) h is fit =
        let are = and_parts (is_expr p g t e) (are_exprs p g ts es) is in
        let fits = fit_parts may reads (gather called e) (gather_all called es) (gather read_by e) (gather_all read_by es) fit in
        meets_after _ _ _ _ (meets e g s t h are.0 fits.0) (λ v r. meets_after _ _ _ _ (all_meet es g s ts h are.1 fits.1) (λ vs k. meets_value _))

    lazily_meet : (es : Exprs) (g : Scope) (s : State) (connective : Connective) (v : Value) → Stands p reads g s → are_truths p g es ≡ true → Fit may reads (gather_all called es) (gather_all read_by es)
        → Meets (λ n. evaluate_lazily (W n) s connective v es) (λ n. evaluate_lazily (M n) s connective v es)
    lazily_meet no_expr g s connective v h is fit = meets_value _
    lazily_meet (expr e es) g s connective v h is fit =
        let are = and_parts (is_expr p g Boolean e) (are_truths p g es) is in
        let fits = fit_parts may reads (gather called e) (gather_all called es) (gather read_by e) (gather_all read_by es) fit in
        meets_choice (ends connective (truth_of v)) _ _ _ _ (meets_value _) (meets_after _ _ _ _ (meets e g s Boolean h are.0 fits.0) (λ w r. lazily_meet es g s connective w h are.1 fits.1))

    links_meet : (links : Links) (g : Scope) (s : State) (t : Ty) (v : Value) → Stands p reads g s → are_links p g t links ≡ true → Fit may reads (gather_links called links) (gather_links read_by links)
        → Meets (λ n. evaluate_links (W n) s v links) (λ n. evaluate_links (M n) s v links)
    links_meet no_link g s t v h is fit = meets_value _
    links_meet (link c at e rest) g s t v h is fit =
        let are = and_parts (is_expr p g t e) (are_links p g t rest) (and_parts (compares c t) (is_expr p g t e && are_links p g t rest) is).1 in
        let fits = fit_parts may reads (gather called e) (gather_links called rest) (gather read_by e) (gather_links read_by rest) fit in
        meets_after _ _ _ _ (meets e g s t h are.0 fits.0) (λ w r. meets_choice (compare c v w) _ _ _ _ (links_meet rest g s t w h are.1 fits.1) (meets_value _))

    arms_meet : (arms : Arms) (g : Scope) (s : State) (t : Ty) (o q : ℕ → Outcome Value) → Stands p reads g s → are_arms p g t arms ≡ true → Fit may reads (gather_arms called arms) (gather_arms read_by arms) → Meets o q
        → Meets (λ n. evaluate_arms (W n) s arms (o n)) (λ n. evaluate_arms (M n) s arms (q n))
    arms_meet no_arm g s t o q h is fit k = k
    arms_meet (arm guard value rest) g s t o q h is fit k =
        let are = and_parts (is_expr p g Boolean guard) (is_expr p g t value && are_arms p g t rest) is in
        let others = and_parts (is_expr p g t value) (are_arms p g t rest) are.1 in
        let fits = fit_parts may reads (gather called guard) (gather called value ++ gather_arms called rest) (gather read_by guard) (gather read_by value ++ gather_arms read_by rest) fit in
        let more = fit_parts may reads (gather called value) (gather_arms called rest) (gather read_by value) (gather_arms read_by rest) fits.1 in
        meets_after _ _ _ _ (meets guard g s Boolean h are.0 fits.0) (λ v r. meets_choice (truth_of v) _ _ _ _ (meets value g s t h others.0 more.0) (arms_meet rest g s t o q h others.1 more.1 k))

    pub range_meets : (extent : Extent) (g : Scope) (s : State) (t : Ty) → Stands p reads g s → is_range p g t extent ≡ true → Fit may reads (gather_extent called extent) (gather_extent read_by extent)
        → Meets (λ n. evaluate_range (W n) s extent) (λ n. evaluate_range (M n) s extent)
    range_meets (Between own low a high b) g s t h is fit =
        let known = and_parts (is_ordered own) (converts own t && (is_expr p g own low && is_expr p g own high)) is in
        let are = and_parts (is_expr p g own low) (is_expr p g own high) (and_parts (converts own t) (is_expr p g own low && is_expr p g own high) known.1).1 in
        let fits = fit_parts may reads (gather called low) (gather called high) (gather read_by low) (gather read_by high) fit in
        meets_after _ _ _ _ (meets low g s own h are.0 fits.0) (λ v r. meets_after _ _ _ _ (meets high g s own h are.1 fits.1) (λ w k. meets_value _))
    range_meets (Among own e) g s t h is fit = meets_after _ _ _ _ (meets e g s own h (and_parts (holds_members own t) (is_expr p g own e) is).1 fit) (λ v r. meets_value _)

  -- ---- contracts and measures

  pub judge_meets : (es : List Expr) (g : Scope) (s : State) → Stands p reads g s → AllByRecursion (Sound p may reads g) es → Meets (λ n. judge (W n) s es) (λ n. judge (M n) s es)
  judge_meets [] g s h all = meets_value _
  judge_meets (e ∷ es) g s h all = meets_after _ _ _ _ (meets e g s Boolean h all.0.0 all.0.1) (λ v r. meets_choice (truth_of v) _ _ _ _ (judge_meets es g s h all.1) (meets_value _))

  pub measured_meets : (xs : List Typed) (g : Scope) (s : State) → Stands p reads g s → AllByRecursion (SoundTyped p may reads g) xs → Meets (λ n. measured (W n) s xs) (λ n. measured (M n) s xs)
  measured_meets [] g s h all = meets_value _
  measured_meets (x ∷ xs) g s h all = meets_after _ _ _ _ (meets x.value g s x.ty h all.0.0 all.0.1) (λ v r. meets_after _ _ _ _ (measured_meets xs g s h all.1) (λ vs k. meets_value _))
