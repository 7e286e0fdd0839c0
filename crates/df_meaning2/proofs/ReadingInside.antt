-- What is given, reading inside a set, is given in each heap that has the same objects there.
use Rattle.std.proofs.Common.{◌≡◌, ℕ, zero, suc, Bool, true, false, ◌||◌, if◌then◌else◌, List, [], ◌∷◌, map, Option, None, Some, refl, sym, ap, ◌∙◌, subst}
use Rattle.std.specs.Option.{option_map_or}
use Rattle.std.specs.List.{list_all}
use Rattle.std.proofs.lemmas.Bool.{and_parts, and_from}
use Rattle.df_base.specs.declared.pos.Pos.{Pos}
use Rattle.df_types.specs.declared.kind.Kind.TheVariants as kinds
use Rattle.df_types.specs.Ty.{Tys}
use Rattle.df_types.specs.Expr.{Expr}
use Rattle.df_types.specs.Program.{Program, Function, function_at}
use Rattle.df_types.specs.Measures.{frame_objects}
use Rattle.df_meaning2.specs.Value.{Value, same, is_among, items_of}
use Rattle.df_meaning2.specs.Heap.{may_read, lies_in_readable}
use Rattle.df_meaning2.specs.Outcome.{Outcome, Gives, Wrong, TooDeep, NoChoice, Dismissed, after}
use Rattle.df_meaning2.specs.State.{State, reading_inside, entering}
use Rattle.df_meaning2.specs.Meaning.{Meaning, evaluate, check_all, asked_at}
use Rattle.df_meaning2.specs.Whole.{apply_function, whole}
use Rattle.df_meaning2.specs.Agreeing.{locals_read, ◌⊴◌, AreSameInside, MayReadMore, AgreesInside, CallsReadInside}
use Rattle.df_meaning2.proofs.Equality.{same_equal}
use Rattle.df_meaning2.proofs.Agreeing.{Reading, reads, checks_read, all_left, all_right, all_from}

-- ---- outcomes

abbrev pub Keeps : (A : Type 0) → Outcome A → Outcome A → Type 0
Keeps A o q = o ⊴ q

keeps_self : {A : Type 0} (o : Outcome A) → o ⊴ o
keeps_self (Gives a) = refl
keeps_self (Wrong at kind) = tt
keeps_self TooDeep = tt
keeps_self NoChoice = tt
keeps_self Dismissed = tt

keeps_after : {A B : Type 0} (o q : Outcome A) (f g : A → Outcome B) → o ⊴ q → ((a : A) → f a ⊴ g a) → after o f ⊴ after q g
keeps_after (Gives a) q f g h k = subst (λ x. f a ⊴ after x g) (sym h) (k a)
keeps_after (Wrong at kind) q f g h k = tt
keeps_after TooDeep q f g h k = tt
keeps_after NoChoice q f g h k = tt
keeps_after Dismissed q f g h k = tt

-- it is enough to look at what is given
keeps_by : {A : Type 0} (o q : Outcome A) → ((a : A) → o ≡ Gives a → q ≡ Gives a) → o ⊴ q
keeps_by (Gives a) q h = h a refl
keeps_by (Wrong at kind) q h = tt
keeps_by TooDeep q h = tt
keeps_by NoChoice q h = tt
keeps_by Dismissed q h = tt

kept_given : {A : Type 0} (o q : Outcome A) (a : A) → o ⊴ q → o ≡ Gives a → q ≡ Gives a
kept_given o q a h e = subst (λ x. x ⊴ q) e h

-- what binding gives came of what was bound
record Came {A B : Type 0} (o : Outcome A) (f : A → Outcome B) (b : B) : Type 0 where
  value : A
  first : o ≡ Gives value
  then_gives : f value ≡ Gives b

came_of : {A B : Type 0} (o : Outcome A) (f : A → Outcome B) (b : B) → after o f ≡ Gives b → Came o f b
came_of (Gives a) f b h = record { value = a; first = refl; then_gives = h }
came_of (Wrong at kind) f b h = cc
came_of TooDeep f b h = cc
came_of NoChoice f b h = cc
came_of Dismissed f b h = cc

goes_through : {A B : Type 0} (o : Outcome A) (f : A → Outcome B) (a : A) (b : B) → o ≡ Gives a → f a ≡ Gives b → after o f ≡ Gives b
goes_through o f a b e h = ap (λ x. after x f) e ∙ h

given_same : {A : Type 0} (a b : A) → Gives a ≡ Gives b → a ≡ b
given_same {A} a b e = subst (λ x. a ≡ given_of x) e refl
  where
    given_of : Outcome A → A
    given_of (Gives x) = x
    given_of (Wrong at kind) = a
    given_of TooDeep = a
    given_of NoChoice = a
    given_of Dismissed = a

-- ---- frames

all_members : (test : Value → Bool) (vs : List Value) (v : Value) → list_all test vs ≡ true → is_among v vs ≡ true → test v ≡ true
all_members test [] v h k = cc
all_members test (w ∷ ws) v h k = let hs = and_parts (test w) (list_all test ws) h in by_same (same v w) (is_among v ws) refl k hs.0 (all_members test ws v hs.1)
  where
    by_same : (b rest : Bool) → same v w ≡ b → (b || rest) ≡ true → test w ≡ true → (rest ≡ true → test v ≡ true) → test v ≡ true
    by_same true rest e k l go = subst (λ x. test x ≡ true) (sym (same_equal v w e)) l
    by_same false rest e k l go = go k

all_implied : (test other : Value → Bool) (vs : List Value) → ((v : Value) → test v ≡ true → other v ≡ true) → list_all test vs ≡ true → list_all other vs ≡ true
all_implied test other [] f h = refl
all_implied test other (v ∷ vs) f h = let hs = and_parts (test v) (list_all test vs) h in and_from _ _ (f v hs.0) (all_implied test other vs f hs.1)

reading : (m : Meaning) → CallsReadInside m → Reading m Keeps AgreesInside
reading m calls = record {
  same = λ o. keeps_self o;
  bind = λ o q f g h k. keeps_after o q f g h k;
  left = λ xs ys s t k. record { types = k.types; locals = all_left _ xs ys k.locals; bound = k.bound; heap = k.heap; entry = k.entry; readable = k.readable };
  right = λ xs ys s t k. record { types = k.types; locals = all_right _ xs ys k.locals; bound = k.bound; heap = k.heap; entry = k.entry; readable = k.readable };
  local = λ n s t k. k.locals.0;
  bound = λ ns s t k. k.bound;
  types = λ ns s t k. k.types;
  binds = λ ns s t v k. record { types = k.types; locals = k.locals; bound = ap (λ vs. v ∷ vs) k.bound; heap = k.heap; entry = k.entry; readable = k.readable };
  enters = λ ns s t k. record { types = k.types; locals = k.locals; bound = k.bound; heap = k.entry; entry = k.entry; readable = k.readable };
  calls = λ ns s t k at callee types vs. calls at callee types vs s t k.heap k.readable;
}

pub expressions_read_inside : (m : Meaning) → CallsReadInside m → (s t : State) (e : Expr) → AgreesInside (locals_read e) s t → evaluate m s e ⊴ evaluate m t e
expressions_read_inside m calls s t e k = reads m Keeps AgreesInside (reading m calls) e s t k

module _ (m : Meaning) (calls : CallsReadInside m) (at : Pos) (types : Tys) (vs : List Value) (s t : State) (heaps : AreSameInside s.readable s.store.heap t.store.heap) (more : MayReadMore s.readable t.readable) (f : Function) where
  abbrev here : State
  here = entering types f.head.parameters vs s

  abbrev there : State
  there = entering types f.head.parameters vs t

  -- a state that agrees inside the frame with the one in which the function is entered
  inside : (frame : Value) (u : State) → u.types ≡ types → u.locals ≡ here.locals → u.bound ≡ [] → AreSameInside (Some frame) s.store.heap u.store.heap → AreSameInside (Some frame) s.store.heap u.entry
      → MayReadMore (Some frame) u.readable → (ns : List ℕ) → AgreesInside ns (reading_inside here frame) u
  inside frame u a b c d e g ns = record { types = sym a; locals = all_from _ ns (λ n. ap (λ l. l n) (sym b)); bound = sym c; heap = d; entry = e; readable = g }

  checks_given : (frame : Value) (u v : State) → ((ns : List ℕ) → AgreesInside ns (reading_inside here frame) u) → check_all m (reading_inside here frame) (map (asked_at at kinds.Requires) f.head.preconditions) ≡ Gives v
      → Came (check_all m u (map (asked_at at kinds.Requires) f.head.preconditions)) (λ x. Gives frame) frame
  checks_given frame u v k e = came_of (check_all m u (map (asked_at at kinds.Requires) f.head.preconditions)) (λ x. Gives frame) frame
      (kept_given _ _ frame (checks_read m Keeps AgreesInside (reading m calls) (map (asked_at at kinds.Requires) f.head.preconditions) (reading_inside here frame) u (Gives frame) (Gives frame) k refl)
      (goes_through (check_all m (reading_inside here frame) (map (asked_at at kinds.Requires) f.head.preconditions)) (λ x. Gives frame) v frame e refl))

  -- the frame is the same, read freely or inside itself, here or there
  forward : (frame value : Value) (v : State) → check_all m (reading_inside here frame) (map (asked_at at kinds.Requires) f.head.preconditions) ≡ Gives v → evaluate m (reading_inside here frame) (frame_objects f.head) ≡ Gives frame
      → lies_in_readable s.readable frame ≡ true → evaluate m (reading_inside here frame) f.value ≡ Gives value → apply_function m at types vs t f ≡ Gives value
  forward frame value v a b c d =
      let same_objects : AreSameInside (Some frame) s.store.heap t.store.heap = record { objects = λ x e. heaps.objects x (all_members (λ y. may_read s.readable y 0) (items_of frame) x c e) } in
      let free = inside frame there refl refl refl same_objects same_objects (record { objects = λ x slot e. refl }) in
      let own = inside frame (reading_inside there frame) refl refl refl same_objects same_objects (record { objects = λ x slot e. e }) in
      let first = checks_given frame there v free a in
      let second = checks_given frame (reading_inside there frame) v own a in
      goes_through (check_all m there (map (asked_at at kinds.Requires) f.head.preconditions)) _ first.value value first.first
      (goes_through (evaluate m there (frame_objects f.head)) _ frame value (kept_given _ _ frame (reads m Keeps AgreesInside (reading m calls) (frame_objects f.head) (reading_inside here frame) there (free _)) b)
      (goes_through (check_all m (reading_inside there frame) (map (asked_at at kinds.Requires) f.head.preconditions)) _ second.value value second.first
      (goes_through (evaluate m (reading_inside there frame) (frame_objects f.head)) _ frame value (kept_given _ _ frame (reads m Keeps AgreesInside (reading m calls) (frame_objects f.head) (reading_inside here frame) (reading_inside there frame) (own _)) b)
      (ap (λ x. if x then evaluate m (reading_inside there frame) f.value else Wrong at kinds.Reads) (all_implied (λ y. may_read s.readable y 0) (λ y. may_read t.readable y 0) (items_of frame) (λ y e. more.objects y 0 e) c)
      ∙ kept_given _ _ value (reads m Keeps AgreesInside (reading m calls) f.value (reading_inside here frame) (reading_inside there frame) (own _)) d))))

  given_here : (value : Value) → apply_function m at types vs s f ≡ Gives value → apply_function m at types vs t f ≡ Gives value
  given_here value e =
      let a = came_of (check_all m here (map (asked_at at kinds.Requires) f.head.preconditions)) _ value e in
      let b = came_of (evaluate m here (frame_objects f.head)) _ value a.then_gives in
      let c = came_of (check_all m (reading_inside here b.value) (map (asked_at at kinds.Requires) f.head.preconditions)) _ value b.then_gives in
      let d = came_of (evaluate m (reading_inside here b.value) (frame_objects f.head)) _ value c.then_gives in
      let own = inside b.value here refl refl refl (record { objects = λ x e. refl }) (record { objects = λ x e. refl }) (record { objects = λ x slot e. refl }) in
      let again = given_same b.value d.value (sym b.first ∙ kept_given _ _ d.value (reads m Keeps AgreesInside (reading m calls) (frame_objects f.head) (reading_inside here b.value) here (own _)) d.first) in
      by_frame b.value c.value (lies_in_readable s.readable b.value) refl c.first (d.first ∙ ap Gives (sym again)) d.then_gives
    where
      by_frame : (frame : Value) (v : State) (x : Bool) → lies_in_readable s.readable frame ≡ x → check_all m (reading_inside here frame) (map (asked_at at kinds.Requires) f.head.preconditions) ≡ Gives v
          → evaluate m (reading_inside here frame) (frame_objects f.head) ≡ Gives frame → (if x then evaluate m (reading_inside here frame) f.value else Wrong at kinds.Reads) ≡ Gives value → apply_function m at types vs t f ≡ Gives value
      by_frame frame v true l a b d = forward frame value v a b l d
      by_frame frame v false l a b d = cc

found_inside : (m : Meaning) → CallsReadInside m → (at : Pos) (types : Tys) (vs : List Value) (s t : State) → AreSameInside s.readable s.store.heap t.store.heap → MayReadMore s.readable t.readable → (o : Option Function)
    → option_map_or (apply_function m at types vs s) o Dismissed ⊴ option_map_or (apply_function m at types vs t) o Dismissed
found_inside m calls at types vs s t h k None = tt
found_inside m calls at types vs s t h k (Some f) = keeps_by _ _ (given_here m calls at types vs s t h k f)

pub wholes_read_inside : (p : Program) (n : ℕ) → CallsReadInside (whole p n)
wholes_read_inside p zero at callee types vs s t h k = tt
wholes_read_inside p (suc n) at callee types vs s t h k = found_inside (whole p n) (wholes_read_inside p n) at types vs s t h k (function_at p callee)
