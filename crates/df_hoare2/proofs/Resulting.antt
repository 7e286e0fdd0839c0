-- In what a function ensures its call on just its parameters is its result: the same in whole runs, and as well typed.
use Rattle.std.proofs.Common.{◌≡◌, ◌<◌, ◌+◌, ℕ, zero, suc, Bool, true, false, ◌&&◌, ◌==◌, if◌then◌else◌, List, [], ◌∷◌, ◌++◌, filter, map, length, Option, None, Some, refl, sym, ap, subst, ◌∙◌, eqb-true, arith}
use Rattle.std.specs.Option.{option_map_or}
use Rattle.std.proofs.lemmas.Bool.{and_parts, and_from, ltb-true}
use Rattle.df_base.specs.declared.pos.Pos.{Pos}
use Rattle.df_types.specs.declared.expr.Connective.{Connective}
use Rattle.df_types.specs.declared.expr.Quantifier.{Quantifier}
use Rattle.df_types.specs.Ty.{Ty, Newtype, Int, Nat, Boolean, Char, AnyObject, Class, Array, Seq, Set, Data, Parameter, Tys, no_ty, and_ty, same_type, same_types, argument_at, instance_of, instances_of}
use Rattle.df_types.specs.Regular.{own_types}
use Rattle.df_types.specs.Expr.{Expr, Local, Bound, Apply, Junction, Chain, If, Let, Call, Quantify, Old, Exprs, no_expr, expr, Links, no_link, link, Arms, no_arm, arm, Extent, Between, Among}
use Rattle.df_types.specs.Program.{TypeParameter, Datatype, Param, Function, Program, function_at, datatype_at, result_type}
use Rattle.df_types.specs.Types.{are_arguments, is_type, are_types, is_ordered, converts}
use Rattle.df_types.specs.Rows.{operands, result, allowed, compares}
use Rattle.df_types.specs.ExprTyping.{Scope, with_type, is_at, parameters_at, signature_of, are_types_for, holds_members, is_expr, are_exprs, are_truths, are_links, are_arms, is_range, are_triggers}
use Rattle.df_types.specs.Gathering.{gather, gather_all, gather_links, gather_arms, gather_extent}
use Rattle.df_types.specs.Calls.{called}
use Rattle.df_types.proofs.SameTypes.{same_type_equal, same_types_equal}
use Rattle.df_meaning2.specs.Value.{Value, truth_of}
use Rattle.df_meaning2.specs.Heap.{Heap}
use Rattle.df_meaning2.specs.Outcome.{Outcome, Gives, after}
use Rattle.df_meaning2.specs.Types.{is_of}
use Rattle.df_meaning2.specs.Answer.{compare}
use Rattle.df_meaning2.specs.State.{Locals, State, with_bound}
use Rattle.df_meaning2.specs.Meaning.{Meaning, there, each, led, ends, at_entry, evaluate, evaluate_all, evaluate_lazily, evaluate_links, evaluate_arms, evaluate_range}
use Rattle.df_meaning2.specs.Modular.{reads_parameter, are_parameters, Itself, calls_itself, resulting, resulting_all, resulting_links, resulting_arms, resulting_extent}
use Rattle.df_hoare2.proofs.Depths.{after_same, choice_same}
use Rattle.df_hoare2.proofs.Judging.{judge}
use Rattle.df_hoare2.proofs.Reading.{read_by, Fit, Fits, fit_parts, fit_from}

-- ---- the type parameters themselves

own_argument : (from k n : ℕ) → n < k → argument_at (own_types from k) n ≡ Parameter (from + n)
own_argument from zero n h = absurd (omega (arith, h))
own_argument from (suc k) zero h = ap Parameter (let e : from ≡ from + 0 = omega arith in e)
own_argument from (suc k) (suc n) h = own_argument (suc from) k n (let less : suc n < suc k = h in omega (arith, less)) ∙ ap Parameter (let e : suc from + n ≡ from + suc n = omega arith in e)

module _ (p : Program) (marks : List TypeParameter) where
  mutual
    pub own_instance : (t : Ty) → is_type p marks t ≡ true → instance_of (own_types 0 (length marks)) t ≡ t
    own_instance (Newtype d) h = refl
    own_instance Int h = refl
    own_instance Nat h = refl
    own_instance Boolean h = refl
    own_instance Char h = refl
    own_instance (AnyObject nullable) h = refl
    own_instance (Class nullable d) h = refl
    own_instance (Array nullable t) h = ap (Array nullable) (own_instance t h)
    own_instance (Seq t) h = ap Seq (own_instance t h)
    own_instance (Set t) h = ap Set (own_instance t h)
    own_instance (Data d ts) h = ap (Data d) (own_instances ts (and_parts (option_map_or (λ (x : Datatype). are_arguments p marks x.type_parameters ts) (datatype_at p d) false) (are_types p marks ts) h).1)
    own_instance (Parameter n) h = own_argument 0 (length marks) n (ltb-true n (length marks) h) ∙ ap Parameter (let e : 0 + n ≡ n = omega arith in e)

    own_instances : (ts : Tys) → are_types p marks ts ≡ true → instances_of (own_types 0 (length marks)) ts ≡ ts
    own_instances no_ty h = refl
    own_instances (and_ty t ts) h =
        let parts = and_parts (is_type p marks t) (are_types p marks ts) h in
        ap (λ x. and_ty x (instances_of (own_types 0 (length marks)) ts)) (own_instance t parts.0) ∙ ap (and_ty t) (own_instances ts parts.1)

own_later : (t : Ty) (ts : Tys) (from k : ℕ) → instances_of (and_ty t ts) (own_types (suc from) k) ≡ instances_of ts (own_types from k)
own_later t ts from zero = refl
own_later t ts from (suc k) = ap (and_ty (argument_at ts from)) (own_later t ts (suc from) k)

pub own_stand : (p : Program) (marks : List TypeParameter) (w : Tys) → are_arguments p [] marks w ≡ true → instances_of w (own_types 0 (length marks)) ≡ w
own_stand p [] no_ty h = refl
own_stand p [] (and_ty t ts) h = cc
own_stand p (x ∷ xs) no_ty h = cc
own_stand p (x ∷ xs) (and_ty t ts) h = ap (and_ty t) (own_later t ts 0 (length xs) ∙ own_stand p xs ts (and_parts _ (are_arguments p [] xs ts) h).1)

-- ---- typing

abbrev typed_call_at : Program → Scope → Ty → Tys → Option Function → Exprs → Bool
typed_call_at p g t types o others = option_map_or (λ (f : Function). same_type t (signature_of f.head types).result && (are_types_for p g f.head types && are_exprs p g (signature_of f.head types).parameters others)) o false

module _ (p : Program) (may reads : ℕ → Bool) (it : Itself) (f : Function) (there_is : function_at p it.number ≡ Some f) (r : Ty) (is_result : reads it.result ≡ true)
    (own_result : instance_of it.types (result_type f.head.results) ≡ r) where
  abbrev Placed : Scope → Type 0
  Placed g = is_at (g.locals it.result) r ≡ true

  abbrev Well : Scope → Ty → Expr → Type 0
  Well g t e = (is_expr p g t e ≡ true) × Fits may reads e

  mutual
    pub resulting_well : (e : Expr) (g : Scope) (t : Ty) → Placed g → is_expr p g t e ≡ true → Fits may reads e → Well g t (resulting it e)
    resulting_well (Local local name at) g t h is fit = (is, fit)
    resulting_well (Bound index name at) g t h is fit = (is, fit)
    resulting_well (Apply op at es) g t h is fit =
        let same = and_parts (same_type t (result op)) _ is in
        let known = and_parts (is_type p g.type_parameters t) (allowed p op && are_exprs p g (operands p op) es) same.1 in
        let are = and_parts (allowed p op) (are_exprs p g (operands p op) es) known.1 in
        let all = all_well es g (operands p op) h are.1 fit in (
          and_from (same_type t (result op)) (is_type p g.type_parameters t && (allowed p op && are_exprs p g (operands p op) (resulting_all it es))) same.0
              (and_from (is_type p g.type_parameters t) (allowed p op && are_exprs p g (operands p op) (resulting_all it es)) known.0 (and_from (allowed p op) (are_exprs p g (operands p op) (resulting_all it es)) are.0 all.0)),
          all.1,
        )
    resulting_well (Junction connective first rest) g t h is fit =
        let same = and_parts (same_type t Boolean) (is_expr p g Boolean first && are_truths p g rest) is in
        let are = and_parts (is_expr p g Boolean first) (are_truths p g rest) same.1 in
        let fits = fit_parts may reads (gather called first) (gather_all called rest) (gather read_by first) (gather_all read_by rest) fit in
        let one = resulting_well first g Boolean h are.0 fits.0 in
        let others = truths_well rest g h are.1 fits.1 in (
          and_from (same_type t Boolean) (is_expr p g Boolean (resulting it first) && are_truths p g (resulting_all it rest)) same.0 (and_from (is_expr p g Boolean (resulting it first)) (are_truths p g (resulting_all it rest)) one.0 others.0),
          fit_from may reads (gather called (resulting it first)) (gather_all called (resulting_all it rest)) (gather read_by (resulting it first)) (gather_all read_by (resulting_all it rest)) one.1 others.1,
        )
    resulting_well (Chain own first rest) g t h is fit =
        let same = and_parts (same_type t Boolean) (is_expr p g own first && are_links p g own rest) is in
        let are = and_parts (is_expr p g own first) (are_links p g own rest) same.1 in
        let fits = fit_parts may reads (gather called first) (gather_links called rest) (gather read_by first) (gather_links read_by rest) fit in
        let one = resulting_well first g own h are.0 fits.0 in
        let others = links_well rest g own h are.1 fits.1 in (
          and_from (same_type t Boolean) (is_expr p g own (resulting it first) && are_links p g own (resulting_links it rest)) same.0 (and_from (is_expr p g own (resulting it first)) (are_links p g own (resulting_links it rest)) one.0 others.0),
          fit_from may reads (gather called (resulting it first)) (gather_links called (resulting_links it rest)) (gather read_by (resulting it first)) (gather_links read_by (resulting_links it rest)) one.1 others.1,
        )
    resulting_well (If own arms otherwise) g t h is fit =
        let same = and_parts (same_type t own) (are_arms p g t arms && is_expr p g t otherwise) is in
        let are = and_parts (are_arms p g t arms) (is_expr p g t otherwise) same.1 in
        let fits = fit_parts may reads (gather_arms called arms) (gather called otherwise) (gather_arms read_by arms) (gather read_by otherwise) fit in
        let one = arms_well arms g t h are.0 fits.0 in
        let others = resulting_well otherwise g t h are.1 fits.1 in (
          and_from (same_type t own) (are_arms p g t (resulting_arms it arms) && is_expr p g t (resulting it otherwise)) same.0 (and_from (are_arms p g t (resulting_arms it arms)) (is_expr p g t (resulting it otherwise)) one.0 others.0),
          fit_from may reads (gather_arms called (resulting_arms it arms)) (gather called (resulting it otherwise)) (gather_arms read_by (resulting_arms it arms)) (gather read_by (resulting it otherwise)) one.1 others.1,
        )
    resulting_well (Let variable is_ghost value body) g t h is fit =
        let inner = with_type g variable.ty in
        let are = and_parts (is_expr p g variable.ty value) (is_expr p inner t body) is in
        let fits = fit_parts may reads (gather called value) (gather called body) (gather read_by value) (gather read_by body) fit in
        let one = resulting_well value g variable.ty h are.0 fits.0 in
        let others = resulting_well body inner t h are.1 fits.1 in (
          and_from (is_expr p g variable.ty (resulting it value)) (is_expr p inner t (resulting it body)) one.0 others.0,
          fit_from may reads (gather called (resulting it value)) (gather called (resulting it body)) (gather read_by (resulting it value)) (gather read_by (resulting it body)) one.1 others.1,
        )
    resulting_well (Call callee types at es) g t h is fit =
        let fits = fit_parts may reads (callee ∷ []) (gather_all called es) [] (gather_all read_by es) fit in
        by_call (calls_itself it callee types es) refl (λ ts are. all_well es g ts h are fits.1)
      where
        by_function : (o : Option Function) → typed_call_at p g t types o es ≡ true → ((ts : List Ty) → are_exprs p g ts es ≡ true → (are_exprs p g ts (resulting_all it es) ≡ true) × Fit may reads (gather_all called (resulting_all it es)) (gather_all read_by (resulting_all it es)))
            → (typed_call_at p g t types o (resulting_all it es) ≡ true) × Fit may reads (gather_all called (resulting_all it es)) (gather_all read_by (resulting_all it es))
        by_function None is all = cc
        by_function (Some h) is all =
            let same = and_parts (same_type t (instance_of types (result_type h.head.results))) _ is in
            let are = and_parts (are_types_for p g h.head types) (are_exprs p g (parameters_at h.head types) es) same.1 in
            let rest = all (parameters_at h.head types) are.1 in (
              and_from (same_type t (instance_of types (result_type h.head.results))) (are_types_for p g h.head types && are_exprs p g (parameters_at h.head types) (resulting_all it es)) same.0
                  (and_from (are_types_for p g h.head types) (are_exprs p g (parameters_at h.head types) (resulting_all it es)) are.0 rest.0),
              rest.1,
            )

        by_call : (b : Bool) → calls_itself it callee types es ≡ b → ((ts : List Ty) → are_exprs p g ts es ≡ true → (are_exprs p g ts (resulting_all it es) ≡ true) × Fit may reads (gather_all called (resulting_all it es)) (gather_all read_by (resulting_all it es)))
            → Well g t (if b then Local it.result 0 at else Call callee types at (resulting_all it es))
        by_call false e all =
            let rest = by_function (function_at p callee) is all in
            (rest.0, fit_from may reads (callee ∷ []) (gather_all called (resulting_all it es)) [] (gather_all read_by (resulting_all it es)) (fit_parts may reads (callee ∷ []) (gather_all called es) [] (gather_all read_by es) fit).0 rest.1)
        by_call true e all =
            let parts = and_parts (callee == it.number) (same_types types it.types && are_parameters it.parameters es) e in
            let one : callee ≡ it.number = eqb-true callee it.number parts.0 in
            let two : types ≡ it.types = same_types_equal types it.types (and_parts (same_types types it.types) (are_parameters it.parameters es) parts.1).0 in
            let found : function_at p callee ≡ Some f = ap (function_at p) one ∙ there_is in
            let typed : typed_call_at p g t types (Some f) es ≡ true = ap (λ o. typed_call_at p g t types o es) (sym found) ∙ is in
            let same : t ≡ instance_of types (result_type f.head.results) = same_type_equal t (instance_of types (result_type f.head.results)) (and_parts (same_type t (instance_of types (result_type f.head.results))) _ typed).0 in
            let is_r : t ≡ r = same ∙ ap (λ us. instance_of us (result_type f.head.results)) two ∙ own_result in
            (subst (λ u. is_at (g.locals it.result) u ≡ true) (sym is_r) h, record { calls = refl; locals = and_from (reads it.result) true is_result refl })
    resulting_well (Quantify site at q variable extent triggers body) g t h is fit =
        let inner = with_type g variable.ty in
        let same = and_parts (same_type t Boolean) _ is in
        let known = and_parts (is_type p g.type_parameters variable.ty) (is_range p g variable.ty extent && (are_triggers p inner triggers && is_expr p inner Boolean body)) same.1 in
        let are = and_parts (is_range p g variable.ty extent) (are_triggers p inner triggers && is_expr p inner Boolean body) known.1 in
        let others = and_parts (are_triggers p inner triggers) (is_expr p inner Boolean body) are.1 in
        let fits = fit_parts may reads (gather_extent called extent) (gather called body) (gather_extent read_by extent) (gather read_by body) fit in
        let one = range_well extent g variable.ty h are.0 fits.0 in
        let two = resulting_well body inner Boolean h others.1 fits.1 in (
          and_from (same_type t Boolean) _ same.0 (and_from (is_type p g.type_parameters variable.ty) (is_range p g variable.ty (resulting_extent it extent) && (are_triggers p inner triggers && is_expr p inner Boolean (resulting it body))) known.0
              (and_from (is_range p g variable.ty (resulting_extent it extent)) (are_triggers p inner triggers && is_expr p inner Boolean (resulting it body)) one.0 (and_from (are_triggers p inner triggers) (is_expr p inner Boolean (resulting it body)) others.0 two.0))),
          fit_from may reads (gather_extent called (resulting_extent it extent)) (gather called (resulting it body)) (gather_extent read_by (resulting_extent it extent)) (gather read_by (resulting it body)) one.1 two.1,
        )
    resulting_well (Old at e) g t h is fit = resulting_well e g t h is fit

    all_well : (es : Exprs) (g : Scope) (ts : List Ty) → Placed g → are_exprs p g ts es ≡ true → Fit may reads (gather_all called es) (gather_all read_by es)
        → (are_exprs p g ts (resulting_all it es) ≡ true) × Fit may reads (gather_all called (resulting_all it es)) (gather_all read_by (resulting_all it es))
    all_well no_expr g ts h is fit = (is, fit)
    all_well (expr e es) g [] h is fit = cc
    all_well (expr e es) g (t ∷ ts) h is fit =
        let are = and_parts (is_expr p g t e) (are_exprs p g ts es) is in
        let fits = fit_parts may reads (gather called e) (gather_all called es) (gather read_by e) (gather_all read_by es) fit in
        let one = resulting_well e g t h are.0 fits.0 in
        let others = all_well es g ts h are.1 fits.1 in (
          and_from (is_expr p g t (resulting it e)) (are_exprs p g ts (resulting_all it es)) one.0 others.0,
          fit_from may reads (gather called (resulting it e)) (gather_all called (resulting_all it es)) (gather read_by (resulting it e)) (gather_all read_by (resulting_all it es)) one.1 others.1,
        )

    truths_well : (es : Exprs) (g : Scope) → Placed g → are_truths p g es ≡ true → Fit may reads (gather_all called es) (gather_all read_by es)
        → (are_truths p g (resulting_all it es) ≡ true) × Fit may reads (gather_all called (resulting_all it es)) (gather_all read_by (resulting_all it es))
    truths_well no_expr g h is fit = (is, fit)
    truths_well (expr e es) g h is fit =
        let are = and_parts (is_expr p g Boolean e) (are_truths p g es) is in
        let fits = fit_parts may reads (gather called e) (gather_all called es) (gather read_by e) (gather_all read_by es) fit in
        let one = resulting_well e g Boolean h are.0 fits.0 in
        let others = truths_well es g h are.1 fits.1 in (
          and_from (is_expr p g Boolean (resulting it e)) (are_truths p g (resulting_all it es)) one.0 others.0,
          fit_from may reads (gather called (resulting it e)) (gather_all called (resulting_all it es)) (gather read_by (resulting it e)) (gather_all read_by (resulting_all it es)) one.1 others.1,
        )

    links_well : (links : Links) (g : Scope) (t : Ty) → Placed g → are_links p g t links ≡ true → Fit may reads (gather_links called links) (gather_links read_by links)
        → (are_links p g t (resulting_links it links) ≡ true) × Fit may reads (gather_links called (resulting_links it links)) (gather_links read_by (resulting_links it links))
    links_well no_link g t h is fit = (is, fit)
    links_well (link c at e rest) g t h is fit =
        let same = and_parts (compares c t) (is_expr p g t e && are_links p g t rest) is in
        let are = and_parts (is_expr p g t e) (are_links p g t rest) same.1 in
        let fits = fit_parts may reads (gather called e) (gather_links called rest) (gather read_by e) (gather_links read_by rest) fit in
        let one = resulting_well e g t h are.0 fits.0 in
        let others = links_well rest g t h are.1 fits.1 in (
          and_from (compares c t) (is_expr p g t (resulting it e) && are_links p g t (resulting_links it rest)) same.0 (and_from (is_expr p g t (resulting it e)) (are_links p g t (resulting_links it rest)) one.0 others.0),
          fit_from may reads (gather called (resulting it e)) (gather_links called (resulting_links it rest)) (gather read_by (resulting it e)) (gather_links read_by (resulting_links it rest)) one.1 others.1,
        )

    arms_well : (arms : Arms) (g : Scope) (t : Ty) → Placed g → are_arms p g t arms ≡ true → Fit may reads (gather_arms called arms) (gather_arms read_by arms)
        → (are_arms p g t (resulting_arms it arms) ≡ true) × Fit may reads (gather_arms called (resulting_arms it arms)) (gather_arms read_by (resulting_arms it arms))
    arms_well no_arm g t h is fit = (is, fit)
    arms_well (arm guard value rest) g t h is fit =
        let are = and_parts (is_expr p g Boolean guard) (is_expr p g t value && are_arms p g t rest) is in
        let others = and_parts (is_expr p g t value) (are_arms p g t rest) are.1 in
        let fits = fit_parts may reads (gather called guard) (gather called value ++ gather_arms called rest) (gather read_by guard) (gather read_by value ++ gather_arms read_by rest) fit in
        let more = fit_parts may reads (gather called value) (gather_arms called rest) (gather read_by value) (gather_arms read_by rest) fits.1 in
        let one = resulting_well guard g Boolean h are.0 fits.0 in
        let two = resulting_well value g t h others.0 more.0 in
        let three = arms_well rest g t h others.1 more.1 in (
          and_from (is_expr p g Boolean (resulting it guard)) (is_expr p g t (resulting it value) && are_arms p g t (resulting_arms it rest)) one.0 (and_from (is_expr p g t (resulting it value)) (are_arms p g t (resulting_arms it rest)) two.0 three.0),
          fit_from may reads (gather called (resulting it guard)) (gather called (resulting it value) ++ gather_arms called (resulting_arms it rest)) (gather read_by (resulting it guard)) (gather read_by (resulting it value) ++ gather_arms read_by (resulting_arms it rest)) one.1
              (fit_from may reads (gather called (resulting it value)) (gather_arms called (resulting_arms it rest)) (gather read_by (resulting it value)) (gather_arms read_by (resulting_arms it rest)) two.1 three.1),
        )

    range_well : (extent : Extent) (g : Scope) (t : Ty) → Placed g → is_range p g t extent ≡ true → Fit may reads (gather_extent called extent) (gather_extent read_by extent)
        → (is_range p g t (resulting_extent it extent) ≡ true) × Fit may reads (gather_extent called (resulting_extent it extent)) (gather_extent read_by (resulting_extent it extent))
    range_well (Between own low a high b) g t h is fit =
        let ordered = and_parts (is_ordered own) (converts own t && (is_expr p g own low && is_expr p g own high)) is in
        let goes = and_parts (converts own t) (is_expr p g own low && is_expr p g own high) ordered.1 in
        let are = and_parts (is_expr p g own low) (is_expr p g own high) goes.1 in
        let fits = fit_parts may reads (gather called low) (gather called high) (gather read_by low) (gather read_by high) fit in
        let one = resulting_well low g own h are.0 fits.0 in
        let two = resulting_well high g own h are.1 fits.1 in (
          and_from (is_ordered own) (converts own t && (is_expr p g own (resulting it low) && is_expr p g own (resulting it high))) ordered.0
              (and_from (converts own t) (is_expr p g own (resulting it low) && is_expr p g own (resulting it high)) goes.0 (and_from (is_expr p g own (resulting it low)) (is_expr p g own (resulting it high)) one.0 two.0)),
          fit_from may reads (gather called (resulting it low)) (gather called (resulting it high)) (gather read_by (resulting it low)) (gather read_by (resulting it high)) one.1 two.1,
        )
    range_well (Among own e) g t h is fit =
        let parts = and_parts (holds_members own t) (is_expr p g own e) is in
        let one = resulting_well e g own h parts.1 fit in
        (and_from (holds_members own t) (is_expr p g own (resulting it e)) parts.0 one.0, one.1)

-- ---- whole runs

-- the locals have these values
abbrev pub Looked : List Param → List Value → Locals → Type 0
Looked [] [] locals = Unit {0}
Looked [] (v ∷ vs) locals = ⊥
Looked (x ∷ xs) [] locals = ⊥
Looked (x ∷ xs) (v ∷ vs) locals = (locals x.local ≡ Some v) × Looked xs vs locals

read_value : (m : Meaning) (s : State) (n : ℕ) (v : Value) (e : Expr) → reads_parameter n e ≡ true → s.locals n ≡ Some v → evaluate m s e ≡ Gives v
read_value m s n v (Local local name at) h k = ap (λ (j : ℕ). there (s.locals j)) (eqb-true local n h) ∙ ap there k
read_value m s n v (Bound index name at) h k = cc
read_value m s n v (Apply op at es) h k = cc
read_value m s n v (Junction connective first rest) h k = cc
read_value m s n v (Chain ty first rest) h k = cc
read_value m s n v (If ty arms otherwise) h k = cc
read_value m s n v (Let variable is_ghost value body) h k = cc
read_value m s n v (Call callee types at es) h k = cc
read_value m s n v (Quantify site at quantifier variable extent triggers body) h k = cc
read_value m s n v (Old at e) h k = cc

arguments_again : (m : Meaning) (s : State) (xs : List Param) (es : Exprs) (vs : List Value) → are_parameters xs es ≡ true → Looked xs vs s.locals → evaluate_all m s es ≡ Gives vs
arguments_again m s [] no_expr [] h k = refl
arguments_again m s [] no_expr (v ∷ vs) h k = absurd k
arguments_again m s [] (expr e es) vs h k = cc
arguments_again m s (x ∷ xs) no_expr vs h k = cc
arguments_again m s (x ∷ xs) (expr e es) [] h k = absurd k
arguments_again m s (x ∷ xs) (expr e es) (v ∷ vs) h k =
    let parts = and_parts (reads_parameter x.local e) (are_parameters xs es) h in
    ap (λ o. after o (λ w. after (evaluate_all m s es) (λ ws. Gives (w ∷ ws)))) (read_value m s x.local v e parts.0 k.0)
    ∙ ap (λ o. after o (λ ws. Gives (v ∷ ws))) (arguments_again m s xs es vs parts.1 k.1)

each_same : (q : Quantifier) (f g : Value → Outcome Value) → ((v : Value) → f v ≡ g v) → (vs : List Value) → each q f vs ≡ each q g vs
each_same q f g h vs = ap (λ (k : Value → Outcome Value). each q k vs) (λ i v. h v i)

module _ (m : Meaning) (it : Itself) (types : Tys) (arguments : List Value) (v : Value) (heap : Heap) (own : instances_of types it.types ≡ types) where
  -- a state in which what the function ensures is read
  pub record Ends (s : State) : Type 0 where
    pub types_are : s.types ≡ types
    pub looked : Looked it.parameters arguments s.locals
    pub result_is : s.locals it.result ≡ Some v
    pub heap_is : s.store.heap ≡ heap
    pub entry_is : s.entry ≡ heap
    pub readable_is : s.readable ≡ None

  bind_ends : (s : State) (w : Value) → Ends s → Ends (with_bound s w)
  bind_ends s w h = record { types_are = h.types_are; looked = h.looked; result_is = h.result_is; heap_is = h.heap_is; entry_is = h.entry_is; readable_is = h.readable_is }

  entry_ends : (s : State) → Ends s → Ends (at_entry s)
  entry_ends s h = record { types_are = h.types_are; looked = h.looked; result_is = h.result_is; heap_is = h.entry_is; entry_is = h.entry_is; readable_is = h.readable_is }

  module _ (gives : (at : Pos) (s : State) → s.store.heap ≡ heap → s.readable ≡ None → m.apply at it.number types arguments s ≡ Gives v) where
    mutual
      pub same_result : (e : Expr) (s : State) → Ends s → evaluate m s e ≡ evaluate m s (resulting it e)
      same_result (Local local name at) s h = refl
      same_result (Bound index name at) s h = refl
      same_result (Apply op at es) s h = after_same _ _ _ _ (all_same_result es s h) (λ vs. refl)
      same_result (Junction connective first rest) s h = after_same _ _ _ _ (same_result first s h) (λ w. lazily_same rest s connective w h)
      same_result (Chain t first rest) s h = after_same _ _ _ _ (same_result first s h) (λ w. links_same rest s w h)
      same_result (If t arms otherwise) s h = arms_same arms s _ _ h (same_result otherwise s h)
      same_result (Let variable is_ghost value body) s h = after_same _ _ _ _ (same_result value s h) (λ w. same_result body (with_bound s w) (bind_ends s w h))
      same_result (Call callee ts at es) s h = by_call (calls_itself it callee ts es) refl (all_same_result es s h)
        where
          by_call : (b : Bool) → calls_itself it callee ts es ≡ b → evaluate_all m s es ≡ evaluate_all m s (resulting_all it es) → evaluate m s (Call callee ts at es) ≡ evaluate m s (if b then Local it.result 0 at else Call callee ts at (resulting_all it es))
          by_call false e all = after_same _ _ _ _ all (λ vs. refl)
          by_call true e all =
              let parts = and_parts (callee == it.number) (same_types ts it.types && are_parameters it.parameters es) e in
              let more = and_parts (same_types ts it.types) (are_parameters it.parameters es) parts.1 in
              let one : callee ≡ it.number = eqb-true callee it.number parts.0 in
              let two : instances_of s.types ts ≡ types = ap (instances_of s.types) (same_types_equal ts it.types more.0) ∙ ap (λ us. instances_of us it.types) h.types_are ∙ own in
              ap (λ o. after o (λ vs. m.apply at callee (instances_of s.types ts) vs s)) (arguments_again m s it.parameters es arguments more.1 h.looked)
              ∙ ap (λ (c : ℕ). m.apply at c (instances_of s.types ts) arguments s) one ∙ ap (λ us. m.apply at it.number us arguments s) two ∙ gives at s h.heap_is h.readable_is ∙ sym (ap there h.result_is)
      same_result (Quantify site at q variable extent triggers body) s h =
          after_same _ _ _ _ (range_same extent s h) (λ vs. each_same q (λ w. evaluate m (with_bound s w) body) (λ w. evaluate m (with_bound s w) (resulting it body)) (λ w. same_result body (with_bound s w) (bind_ends s w h)) (led (m.first site) (filter (is_of m.program s.types variable.ty) vs)))
      same_result (Old at e) s h = same_result e (at_entry s) (entry_ends s h)

      all_same_result : (es : Exprs) (s : State) → Ends s → evaluate_all m s es ≡ evaluate_all m s (resulting_all it es)
      all_same_result no_expr s h = refl
      all_same_result (expr e es) s h = after_same _ _ _ _ (same_result e s h) (λ w. after_same _ _ _ _ (all_same_result es s h) (λ ws. refl))

      lazily_same : (es : Exprs) (s : State) (connective : Connective) (w : Value) → Ends s → evaluate_lazily m s connective w es ≡ evaluate_lazily m s connective w (resulting_all it es)
      lazily_same no_expr s connective w h = refl
      lazily_same (expr e es) s connective w h = choice_same (ends connective (truth_of w)) _ _ _ _ refl (after_same _ _ _ _ (same_result e s h) (λ u. lazily_same es s connective u h))

      links_same : (links : Links) (s : State) (w : Value) → Ends s → evaluate_links m s w links ≡ evaluate_links m s w (resulting_links it links)
      links_same no_link s w h = refl
      links_same (link c at e rest) s w h = after_same _ _ _ _ (same_result e s h) (λ u. choice_same (compare c w u) _ _ _ _ (links_same rest s u h) refl)

      arms_same : (arms : Arms) (s : State) (o q : Outcome Value) → Ends s → o ≡ q → evaluate_arms m s arms o ≡ evaluate_arms m s (resulting_arms it arms) q
      arms_same no_arm s o q h e = e
      arms_same (arm guard value rest) s o q h e = after_same _ _ _ _ (same_result guard s h) (λ w. choice_same (truth_of w) _ _ _ _ (same_result value s h) (arms_same rest s o q h e))

      range_same : (extent : Extent) (s : State) → Ends s → evaluate_range m s extent ≡ evaluate_range m s (resulting_extent it extent)
      range_same (Between t low a high b) s h = after_same _ _ _ _ (same_result low s h) (λ w. after_same _ _ _ _ (same_result high s h) (λ u. refl))
      range_same (Among t container) s h = after_same _ _ _ _ (same_result container s h) (λ w. refl)

    pub judged_same : (es : List Expr) (s : State) → Ends s → judge m s es ≡ judge m s (map (resulting it) es)
    judged_same [] s h = refl
    judged_same (e ∷ es) s h = after_same _ _ _ _ (same_result e s h) (λ w. choice_same (truth_of w) _ _ _ _ (judged_same es s h) refl)
