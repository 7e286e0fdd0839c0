-- Evaluation reads only what its expression names: one induction for each relation of outcomes that binding keeps.
use Rattle.std.proofs.Common.{◌≡◌, ℕ, zero, suc, Bool, true, false, if◌then◌else◌, List, [], ◌∷◌, ◌++◌, map, filter, slice_get, Option, None, Some, refl, sym, ap, ◌∙◌, subst}
use Rattle.std.specs.Option.{option_map_or}
use Rattle.std.specs.List.{AllByRecursion}
use Rattle.df_base.specs.declared.pos.Pos.{Pos}
use Rattle.df_types.specs.declared.kind.Kind.TheVariants as kinds
use Rattle.df_types.specs.declared.expr.Connective.{Connective}
use Rattle.df_types.specs.declared.expr.Quantifier.{Quantifier}
use Rattle.df_types.specs.Ty.{Tys, instances_of}
use Rattle.df_types.specs.Op.{Op}
use Rattle.df_types.specs.Expr.{Expr, Local, Bound, Apply, Junction, Chain, If, Let, Call, Quantify, Old, Exprs, no_expr, expr, Links, no_link, link, Arms, no_arm, arm, Extent, Between, Among}
use Rattle.df_types.specs.Stmt.{Demand}
use Rattle.df_types.specs.Program.{Program, Function, function_at}
use Rattle.df_types.specs.Gathering.{gather, gather_all, gather_links, gather_arms, gather_extent}
use Rattle.df_types.specs.Measures.{frame_objects}
use Rattle.df_meaning2.specs.Value.{Value, truth_of}
use Rattle.df_meaning2.specs.Heap.{Heap, lies_in_readable}
use Rattle.df_meaning2.specs.Outcome.{Outcome, Gives, Wrong, TooDeep, NoChoice, Dismissed, after}
use Rattle.df_meaning2.specs.Types.{is_of}
use Rattle.df_meaning2.specs.Answer.{View, answer, compare}
use Rattle.df_meaning2.specs.State.{State, with_bound, reading_inside, entering}
use Rattle.df_meaning2.specs.Meaning.{Meaning, view_of, answered, there, ends, each, led, of_type, at_entry, evaluate, evaluate_all, evaluate_lazily, evaluate_links, evaluate_arms, evaluate_range, check_all, asked_at}
use Rattle.df_meaning2.specs.Whole.{apply_function, whole}
use Rattle.df_meaning2.specs.Agreeing.{local_of, locals_read, AgreesOn, CallsAgree}

-- ---- rows read nothing but their operands, the program and what type parameters stand for

row_alone : (view : View) (heap entry : Heap) (readable : Option Value) (changeable : Value) (op : Op) (vs : List Value)
    → answer view op vs ≡ answer (record { program = view.program; types = view.types; heap = heap; entry = entry; readable = readable; changeable = changeable }) op vs
row_alone view heap entry readable changeable (Op.NumberOf t n) vs = refl
row_alone view heap entry readable changeable (Op.TruthOf b) vs = refl
row_alone view heap entry readable changeable (Op.CharacterOf code) vs = refl
row_alone view heap entry readable changeable (Op.TextOf characters) vs = refl
row_alone view heap entry readable changeable (Op.NullOf t) vs = refl
row_alone view heap entry readable changeable (Op.Negate t) vs = refl
row_alone view heap entry readable changeable (Op.Add t) vs = refl
row_alone view heap entry readable changeable (Op.Subtract t) vs = refl
row_alone view heap entry readable changeable (Op.Multiply t) vs = refl
row_alone view heap entry readable changeable (Op.Divide t) vs = refl
row_alone view heap entry readable changeable (Op.Modulo t) vs = refl
row_alone view heap entry readable changeable Op.Not vs = refl
row_alone view heap entry readable changeable (Op.Compare c t) vs = refl
row_alone view heap entry readable changeable (Op.As source target) vs = refl
row_alone view heap entry readable changeable (Op.Fit source target) vs = refl
row_alone view heap entry readable changeable (Op.Narrow source target) vs = refl
row_alone view heap entry readable changeable (Op.SequenceOf element size) vs = refl
row_alone view heap entry readable changeable (Op.SetOf element size) vs = refl
row_alone view heap entry readable changeable (Op.SequenceSize element) vs = refl
row_alone view heap entry readable changeable (Op.SetSize element) vs = refl
row_alone view heap entry readable changeable (Op.InSequence element) vs = refl
row_alone view heap entry readable changeable (Op.InSet element) vs = refl
row_alone view heap entry readable changeable (Op.Item element) vs = refl
row_alone view heap entry readable changeable (Op.Construct t c) vs = refl
row_alone view heap entry readable changeable (Op.HasConstructor t c) vs = refl
row_alone view heap entry readable changeable (Op.Part t target parts) vs = refl
row_alone view heap entry readable changeable (Op.ObjectsOf types) vs = refl
row_alone view heap entry readable changeable (Op.NoneFits t) vs = refl

row_agrees : (m : Meaning) (s t : State) (op : Op) (vs : List Value) → s.types ≡ t.types → answer (view_of m s) op vs ≡ answer (view_of m t) op vs
row_agrees m s t op vs e = row_alone (view_of m s) t.store.heap t.entry t.readable t.changeable op vs
    ∙ ap (λ w. answer (record { program = m.program; types = w; heap = t.store.heap; entry = t.entry; readable = t.readable; changeable = t.changeable }) op vs) e

-- ---- what the one induction needs: a relation of outcomes, and one of states by what is read

pub record Reading (m : Meaning) (R : (A : Type 0) → Outcome A → Outcome A → Type 0) (K : List ℕ → State → State → Type 0) : Type 1 where
  pub same : {A : Type 0} (o : Outcome A) → R A o o
  pub bind : {A B : Type 0} (o q : Outcome A) (f g : A → Outcome B) → R A o q → ((a : A) → R B (f a) (g a)) → R B (after o f) (after q g)
  pub left : (xs ys : List ℕ) (s t : State) → K (xs ++ ys) s t → K xs s t
  pub right : (xs ys : List ℕ) (s t : State) → K (xs ++ ys) s t → K ys s t
  pub local : (n : ℕ) (s t : State) → K (n ∷ []) s t → s.locals n ≡ t.locals n
  pub bound : (ns : List ℕ) (s t : State) → K ns s t → s.bound ≡ t.bound
  pub types : (ns : List ℕ) (s t : State) → K ns s t → s.types ≡ t.types
  pub binds : (ns : List ℕ) (s t : State) (v : Value) → K ns s t → K ns (with_bound s v) (with_bound t v)
  pub enters : (ns : List ℕ) (s t : State) → K ns s t → K ns (at_entry s) (at_entry t)
  pub calls : (ns : List ℕ) (s t : State) → K ns s t → (at : Pos) (callee : ℕ) (types : Tys) (vs : List Value) → R Value (m.apply at callee types vs s) (m.apply at callee types vs t)

module _ (m : Meaning) (R : (A : Type 0) → Outcome A → Outcome A → Type 0) (K : List ℕ → State → State → Type 0) (h : Reading m R K) where
  choice_reads : {A : Type 0} (b : Bool) (x y z w : Outcome A) → R A x z → R A y w → R A (if b then x else y) (if b then z else w)
  choice_reads true x y z w k l = k
  choice_reads false x y z w k l = l

  each_reads : (q : Quantifier) (f g : Value → Outcome Value) → ((v : Value) → R Value (f v) (g v)) → (vs : List Value) → R Value (each q f vs) (each q g vs)
  each_reads q f g k [] = h.same _
  each_reads q f g k (v ∷ vs) = h.bind _ _ _ _ (k v) (λ a. h.bind _ _ _ _ (each_reads q f g k vs) (λ b. h.same _))

  mutual
    pub reads : (e : Expr) (s t : State) → K (gather local_of e) s t → R Value (evaluate m s e) (evaluate m t e)
    reads (Local local name at) s t k = subst (λ x. R Value (there (s.locals local)) (there x)) (h.local local s t k) (h.same _)
    reads (Bound index name at) s t k = subst (λ x. R Value (there (slice_get s.bound index)) (there (slice_get x index))) (h.bound [] s t k) (h.same _)
    reads (Apply op at es) s t k = h.bind _ _ _ _ (all_read es s t k) (λ vs. subst (λ x. R Value (answered at (answer (view_of m s) op vs)) (answered at x)) (row_agrees m s t op vs (h.types _ s t k)) (h.same _))
    reads (Junction connective first rest) s t k =
        h.bind _ _ _ _ (reads first s t (h.left (gather local_of first) (gather_all local_of rest) s t k)) (λ v. lazily_read rest s t connective v (h.right (gather local_of first) (gather_all local_of rest) s t k))
    reads (Chain own first rest) s t k =
        h.bind _ _ _ _ (reads first s t (h.left (gather local_of first) (gather_links local_of rest) s t k)) (λ v. links_read rest s t v (h.right (gather local_of first) (gather_links local_of rest) s t k))
    reads (If own arms otherwise) s t k =
        arms_read arms s t _ _ (h.left (gather_arms local_of arms) (gather local_of otherwise) s t k) (reads otherwise s t (h.right (gather_arms local_of arms) (gather local_of otherwise) s t k))
    reads (Let variable is_ghost value body) s t k =
        h.bind _ _ _ _ (reads value s t (h.left (gather local_of value) (gather local_of body) s t k)) (λ v.
        reads body (with_bound s v) (with_bound t v) (h.binds _ s t v (h.right (gather local_of value) (gather local_of body) s t k)))
    reads (Call callee types at es) s t k = h.bind _ _ _ _ (all_read es s t k) (λ vs.
        subst (λ w. R Value (m.apply at callee (instances_of s.types types) vs s) (m.apply at callee (instances_of w types) vs t)) (h.types _ s t k) (h.calls _ s t k at callee (instances_of s.types types) vs))
    reads (Quantify site at q variable extent triggers body) s t k =
        h.bind _ _ _ _ (range_reads extent s t (h.left (gather_extent local_of extent) (gather local_of body) s t k)) (λ vs.
        subst (λ x. R Value (each q (λ v. evaluate m (with_bound s v) body) (led (m.first site) (of_type m s variable.ty vs))) (each q (λ v. evaluate m (with_bound t v) body) (led (m.first site) x)))
        (members_agree s t variable.ty vs (h.types _ s t k))
        (each_reads q _ _ (λ v. reads body (with_bound s v) (with_bound t v) (h.binds _ s t v (h.right (gather_extent local_of extent) (gather local_of body) s t k))) (led (m.first site) (of_type m s variable.ty vs))))
      where
        members_agree : (s t : State) (u : _) (vs : List Value) → s.types ≡ t.types → of_type m s u vs ≡ of_type m t u vs
        members_agree s t u vs e = ap (λ w. filter (is_of m.program w u) vs) e
    reads (Old at e) s t k = reads e (at_entry s) (at_entry t) (h.enters _ s t k)

    all_read : (es : Exprs) (s t : State) → K (gather_all local_of es) s t → R (List Value) (evaluate_all m s es) (evaluate_all m t es)
    all_read no_expr s t k = h.same _
    all_read (expr e es) s t k =
        h.bind _ _ _ _ (reads e s t (h.left (gather local_of e) (gather_all local_of es) s t k)) (λ v.
        h.bind _ _ _ _ (all_read es s t (h.right (gather local_of e) (gather_all local_of es) s t k)) (λ vs. h.same _))

    lazily_read : (es : Exprs) (s t : State) (connective : Connective) (v : Value) → K (gather_all local_of es) s t → R Value (evaluate_lazily m s connective v es) (evaluate_lazily m t connective v es)
    lazily_read no_expr s t connective v k = h.same _
    lazily_read (expr e es) s t connective v k =
        choice_reads (ends connective (truth_of v)) _ _ _ _ (h.same _) (h.bind _ _ _ _ (reads e s t (h.left (gather local_of e) (gather_all local_of es) s t k)) (λ w.
        lazily_read es s t connective w (h.right (gather local_of e) (gather_all local_of es) s t k)))

    links_read : (links : Links) (s t : State) (v : Value) → K (gather_links local_of links) s t → R Value (evaluate_links m s v links) (evaluate_links m t v links)
    links_read no_link s t v k = h.same _
    links_read (link c at e rest) s t v k =
        h.bind _ _ _ _ (reads e s t (h.left (gather local_of e) (gather_links local_of rest) s t k)) (λ w.
        choice_reads (compare c v w) _ _ _ _ (links_read rest s t w (h.right (gather local_of e) (gather_links local_of rest) s t k)) (h.same _))

    arms_read : (arms : Arms) (s t : State) (o q : Outcome Value) → K (gather_arms local_of arms) s t → R Value o q → R Value (evaluate_arms m s arms o) (evaluate_arms m t arms q)
    arms_read no_arm s t o q k l = l
    arms_read (arm guard value rest) s t o q k l =
        let more = h.right (gather local_of guard) (gather local_of value ++ gather_arms local_of rest) s t k in
        h.bind _ _ _ _ (reads guard s t (h.left (gather local_of guard) (gather local_of value ++ gather_arms local_of rest) s t k)) (λ v.
        choice_reads (truth_of v) _ _ _ _ (reads value s t (h.left (gather local_of value) (gather_arms local_of rest) s t more)) (arms_read rest s t o q (h.right (gather local_of value) (gather_arms local_of rest) s t more) l))

    range_reads : (extent : Extent) (s t : State) → K (gather_extent local_of extent) s t → R (List Value) (evaluate_range m s extent) (evaluate_range m t extent)
    range_reads (Between own low a high b) s t k =
        h.bind _ _ _ _ (reads low s t (h.left (gather local_of low) (gather local_of high) s t k)) (λ v.
        h.bind _ _ _ _ (reads high s t (h.right (gather local_of low) (gather local_of high) s t k)) (λ w. h.same _))
    range_reads (Among own container) s t k = h.bind _ _ _ _ (reads container s t k) (λ v. h.same _)

  -- what stands behind demands that are met
  regrouped : {B : Type 0} (s : State) (d : Demand) (go : State → Outcome State) (x : Outcome B) (o : Outcome Value)
      → after (after (after o (λ v. if truth_of v then Gives s else Wrong d.pos d.kind)) go) (λ u. x) ≡ after o (λ v. if truth_of v then after (go s) (λ u. x) else Wrong d.pos d.kind)
  regrouped s d go x (Gives v) = by_truth (truth_of v)
    where
      by_truth : (b : Bool) → after (after (if b then Gives s else Wrong d.pos d.kind) go) (λ u. x) ≡ (if b then after (go s) (λ u. x) else Wrong d.pos d.kind)
      by_truth true = refl
      by_truth false = refl
  regrouped s d go x (Wrong at kind) = refl
  regrouped s d go x TooDeep = refl
  regrouped s d go x NoChoice = refl
  regrouped s d go x Dismissed = refl

  pub checks_read : {B : Type 0} (ds : List Demand) (s t : State) (x y : Outcome B) → ((ns : List ℕ) → K ns s t) → R B x y → R B (after (check_all m s ds) (λ u. x)) (after (check_all m t ds) (λ u. y))
  checks_read [] s t x y k l = l
  checks_read {B} (d ∷ ds) s t x y k l =
      subst (λ z. R B z (after (check_all m t (d ∷ ds)) (λ u. y))) (sym (regrouped s d (λ u. check_all m u ds) x (evaluate m s d.condition)))
      (subst (λ z. R B (after (evaluate m s d.condition) (λ v. if truth_of v then after (check_all m s ds) (λ u. x) else Wrong d.pos d.kind)) z) (sym (regrouped t d (λ u. check_all m u ds) y (evaluate m t d.condition)))
      (h.bind _ _ _ _ (reads d.condition s t (k _)) (λ v. choice_reads (truth_of v) _ _ _ _ (checks_read ds s t x y k l) (h.same _))))

-- ---- lists

pub all_left : {A : Type 0} (P : A → Type 0) (xs ys : List A) → AllByRecursion P (xs ++ ys) → AllByRecursion P xs
all_left P [] ys h = tt
all_left P (x ∷ xs) ys h = (h.0, all_left P xs ys h.1)

pub all_right : {A : Type 0} (P : A → Type 0) (xs ys : List A) → AllByRecursion P (xs ++ ys) → AllByRecursion P ys
all_right P [] ys h = h
all_right P (x ∷ xs) ys h = all_right P xs ys h.1

pub all_from : {A : Type 0} (P : A → Type 0) (xs : List A) → ((x : A) → P x) → AllByRecursion P xs
all_from P [] h = tt
all_from P (x ∷ xs) h = (h x, all_from P xs h)

-- ---- states that agree on all

abbrev AreEqual : (A : Type 0) → Outcome A → Outcome A → Type 0
AreEqual A o q = o ≡ q

after_equal : {A B : Type 0} (o : Outcome A) (f g : A → Outcome B) → ((a : A) → f a ≡ g a) → after o f ≡ after o g
after_equal (Gives a) f g h = h a
after_equal (Wrong at kind) f g h = refl
after_equal TooDeep f g h = refl
after_equal NoChoice f g h = refl
after_equal Dismissed f g h = refl

agreeing : (m : Meaning) → CallsAgree m → Reading m AreEqual AgreesOn
agreeing m calls = record {
  same = λ o. refl;
  bind = λ o q f g h k. ap (λ x. after x f) h ∙ after_equal q f g k;
  left = λ xs ys s t k. record { types = k.types; locals = all_left _ xs ys k.locals; bound = k.bound; heap = k.heap; entry = k.entry; readable = k.readable };
  right = λ xs ys s t k. record { types = k.types; locals = all_right _ xs ys k.locals; bound = k.bound; heap = k.heap; entry = k.entry; readable = k.readable };
  local = λ n s t k. k.locals.0;
  bound = λ ns s t k. k.bound;
  types = λ ns s t k. k.types;
  binds = λ ns s t v k. record { types = k.types; locals = k.locals; bound = ap (λ vs. v ∷ vs) k.bound; heap = k.heap; entry = k.entry; readable = k.readable };
  enters = λ ns s t k. record { types = k.types; locals = k.locals; bound = k.bound; heap = k.entry; entry = k.entry; readable = k.readable };
  calls = λ ns s t k at callee types vs. calls at callee types vs s t k.heap k.readable;
}

pub expressions_agree : (m : Meaning) → CallsAgree m → (s t : State) (e : Expr) → AgreesOn (locals_read e) s t → evaluate m s e ≡ evaluate m t e
expressions_agree m calls s t e k = reads m AreEqual AgreesOn (agreeing m calls) e s t k

module _ (m : Meaning) (calls : CallsAgree m) (at : Pos) (types : Tys) (vs : List Value) (s t : State) (heaps : s.store.heap ≡ t.store.heap) (readables : s.readable ≡ t.readable) where
  entered_agree : (f : Function) → apply_function m at types vs s f ≡ apply_function m at types vs t f
  entered_agree f =
      let h = agreeing m calls in
      let a = entering types f.head.parameters vs s in
      let b = entering types f.head.parameters vs t in
      let free : (ns : List ℕ) → AgreesOn ns a b = λ ns. record { types = refl; locals = all_from _ ns (λ n. refl); bound = refl; heap = heaps; entry = heaps; readable = refl } in
      let inside : (frame : Value) (ns : List ℕ) → AgreesOn ns (reading_inside a frame) (reading_inside b frame) = λ frame ns. record { types = refl; locals = all_from _ ns (λ n. refl); bound = refl; heap = heaps; entry = heaps; readable = refl } in
      checks_read m AreEqual AgreesOn h (map (asked_at at kinds.Requires) f.head.preconditions) a b _ _ free
      (h.bind _ _ _ _ (reads m AreEqual AgreesOn h (frame_objects f.head) a b (free _)) (λ frame.
      checks_read m AreEqual AgreesOn h (map (asked_at at kinds.Requires) f.head.preconditions) (reading_inside a frame) (reading_inside b frame) _ _ (inside frame)
      (h.bind _ _ _ _ (reads m AreEqual AgreesOn h (frame_objects f.head) (reading_inside a frame) (reading_inside b frame) (inside frame _)) (λ again.
      ap (λ r. if lies_in_readable r frame then evaluate m (reading_inside a frame) f.value else Wrong at kinds.Reads) readables
      ∙ choice_reads m AreEqual AgreesOn h (lies_in_readable t.readable frame) _ _ _ _ (reads m AreEqual AgreesOn h f.value (reading_inside a frame) (reading_inside b frame) (inside frame _)) refl))))

  found_agree : (o : Option Function) → option_map_or (apply_function m at types vs s) o Dismissed ≡ option_map_or (apply_function m at types vs t) o Dismissed
  found_agree None = refl
  found_agree (Some f) = entered_agree f

pub wholes_agree : (p : Program) (n : ℕ) → CallsAgree (whole p n)
wholes_agree p zero at callee types vs s t h k = refl
wholes_agree p (suc n) at callee types vs s t h k = found_agree (whole p n) (wholes_agree p n) at types vs s t h k (function_at p callee)
