-- Each operation gives values of its type.
use Rattle.std.proofs.Common.{◌≡◌, ◌<◌, ℕ, zero, suc, ℤ, pos, negsuc, int_le, int_lt, nat_lt, Bool, true, false, not, ◌||◌, ◌==◌, if◌then◌else◌, List, [], ◌∷◌, length, map, drop, slice_get, Option, None, Some, refl, sym, ap, ◌∙◌, subst, arith}
use Rattle.std.proofs.lemmas.Int.{ints}
use Rattle.std.proofs.lemmas.Bool.{eqb-true, and_parts, and_from}
use Rattle.std.specs.List.{list_all, cons_option, AllByRecursion}
use Rattle.std.specs.Option.{option_map, option_map_or}
use Rattle.df_types.specs.Ty.{Ty, Newtype, Int, Nat, Boolean, Char, AnyObject, Class, Array, Seq, Set, Data, Parameter, Tys, list_of_tys, same_type, instance_of, instances_of}
use Rattle.df_types.specs.Op.{Op}
use Rattle.df_types.specs.Program.{Program, Variable, constructors_at, parts_at, parts_of}
use Rattle.df_types.specs.Types.{is_nullable, is_reference_type, is_framed, fits, has_constructor}
use Rattle.df_types.specs.Rows.{repeated_type, operands, result, is_part, allowed}
use Rattle.df_types.proofs.SameTypes.{same_type_equal, instance_twice}
use Rattle.df_meaning2.specs.Value.{Value, NullReference, Truth, Character, Number, Reference, Made, Sequence, Collection, Memory, Values, no_value, value, list_of, values_of, is_ascending, ascending, items_of, reference_of, constructor_of, set_of, nat_of}
use Rattle.df_meaning2.specs.Heap.{references_in, members_in, frame_members}
use Rattle.df_meaning2.specs.Types.{is_reference, has_type, all_have_type, have_types, is_of}
use Rattle.df_meaning2.specs.Answer.{View, Is, in_type, nth, number_at, count, is_index, has_part, part_in, answer}
use Rattle.df_meaning2.specs.Typed.{IsOf, AreOf, AnswerIsOf}
use Rattle.df_meaning2.proofs.Equality.{ascending_ascends}
use Rattle.df_meaning2.proofs.Alls.{values_again, all_append, all_nth, all_ascending}

module _ (p : Program) (w : Tys) where
  -- ---- lists of values of a type

  pub record AllOf (t : Ty) (vs : List Value) : Type 0 where
    pub by : AllByRecursion (IsOf p w t) vs

  to_values : (t : Ty) (vs : List Value) → AllOf t vs → all_have_type p (instance_of w t) (values_of vs) ≡ true
  to_values t [] h = refl
  to_values t (v ∷ vs) h = and_from _ _ h.by.0.by (to_values t vs (record { by = h.by.1 }))

  from_values : (t : Ty) (vs : Values) → all_have_type p (instance_of w t) vs ≡ true → AllOf t (list_of vs)
  from_values t no_value h = record { by = tt }
  from_values t (value v vs) h = let hs = and_parts (has_type p (instance_of w t) v) (all_have_type p (instance_of w t) vs) h in record { by = (record { by = hs.0 }, (from_values t vs hs.1).by) }

  pub sequence_is : (t : Ty) (vs : List Value) → AllOf t vs → IsOf p w (Seq t) (Sequence (values_of vs))
  sequence_is t vs h = record { by = to_values t vs h }

  set_is : (t : Ty) (vs : List Value) → AllOf t vs → IsOf p w (Set t) (set_of vs)
  set_is t vs h = record { by = and_from _ _ (ascending_ascends vs) (to_values t (ascending vs) (record { by = all_ascending (IsOf p w t) vs h.by })) }

  sequence_items : (t : Ty) (v : Value) → IsOf p w (Seq t) v → AllOf t (items_of v)
  sequence_items t (Sequence vs) h = from_values t vs h.by
  sequence_items t NullReference h = record { by = tt }
  sequence_items t (Truth b) h = record { by = tt }
  sequence_items t (Character code) h = record { by = tt }
  sequence_items t (Number n) h = record { by = tt }
  sequence_items t (Memory n) h = record { by = tt }
  sequence_items t (Reference r) h = record { by = tt }
  sequence_items t (Made c vs) h = cc h.by
  sequence_items t (Collection vs) h = cc h.by

  index_below : (vs : List Value) (n : ℤ) → is_index n (count vs) ≡ true → nat_of n < length vs
  index_below vs (pos n) h = let hs = and_parts (int_le (pos 0) (pos n)) (int_lt (pos n) (pos (length vs))) h in grind (arith, ints)
  index_below vs (negsuc n) h = cc

  -- ---- operands

  pub first_is : (t : Ty) (ts : List Ty) (vs : List Value) → AreOf p w (t ∷ ts) vs → IsOf p w t (nth vs 0)
  first_is t ts [] h = cc h.by
  first_is t ts (v ∷ vs) h = record { by = (and_parts (is_of p w t v) (have_types p (map (instance_of w) ts) (values_of vs)) h.by).0 }

  pub others_are : (t : Ty) (ts : List Ty) (vs : List Value) → AreOf p w (t ∷ ts) vs → AreOf p w ts (drop 1 vs)
  others_are t ts [] h = cc h.by
  others_are t ts (v ∷ vs) h = record { by = (and_parts (is_of p w t v) (have_types p (map (instance_of w) ts) (values_of vs)) h.by).1 }

  pub second_is : (t u : Ty) (ts : List Ty) (vs : List Value) → AreOf p w (t ∷ u ∷ ts) vs → IsOf p w u (nth vs 1)
  second_is t u ts [] h = cc h.by
  second_is t u ts (v ∷ vs) h = first_is u ts vs (others_are t (u ∷ ts) (v ∷ vs) h)

  repeated_all : (n : ℕ) (t : Ty) (vs : List Value) → AreOf p w (repeated_type n t) vs → AllOf t vs
  repeated_all zero t [] h = record { by = tt }
  repeated_all zero t (v ∷ vs) h = cc h.by
  repeated_all (suc n) t [] h = record { by = tt }
  repeated_all (suc n) t (v ∷ vs) h = record { by = (first_is t (repeated_type n t) (v ∷ vs) h, (repeated_all n t vs (others_are t (repeated_type n t) (v ∷ vs) h)).by) }

  characters_are : (codes : List ℕ) → list_all (λ c. nat_lt c 128) codes ≡ true → AllOf Char (map Character codes)
  characters_are [] h = record { by = tt }
  characters_are (c ∷ cs) h = let hs = and_parts (nat_lt c 128) (list_all (λ c. nat_lt c 128) cs) h in record { by = (record { by = hs.0 }, (characters_are cs hs.1).by) }

  -- ---- frames

  optional_all : (o : Option ℕ) (vs : List Value) → option_map_or (nat_lt 0) o true ≡ true → AllOf (AnyObject false) vs → AllOf (AnyObject false) (cons_option (option_map Reference o) vs)
  optional_all None vs e h = h
  optional_all (Some r) vs e h = record { by = (record { by = e }, h.by) }

  reference_positive : (b : Bool) (v : Value) → is_reference b v ≡ true → option_map_or (nat_lt 0) (reference_of v) true ≡ true
  reference_positive b (Reference r) h = h
  reference_positive b v h = refl

  of_reference_type : (t : Ty) → is_reference_type t ≡ true → (v : Value) → IsOf p w t v → option_map_or (nat_lt 0) (reference_of v) true ≡ true
  of_reference_type (AnyObject b) e v h = reference_positive b v h.by
  of_reference_type (Class b d) e v h = reference_positive b v h.by
  of_reference_type (Array b t) e v h = reference_positive b v h.by
  of_reference_type t e v h = cc

  references_all : (t : Ty) → is_reference_type t ≡ true → (vs : List Value) → AllOf t vs → AllOf (AnyObject false) (references_in vs)
  references_all t e [] h = record { by = tt }
  references_all t e (v ∷ vs) h = optional_all (reference_of v) (references_in vs) (of_reference_type t e v h.by.0) (references_all t e vs (record { by = h.by.1 }))

  object_members : (b : Bool) (v : Value) → is_reference b v ≡ true → AllOf (AnyObject false) (members_in v)
  object_members b NullReference h = record { by = tt }
  object_members b (Reference r) h = record { by = (record { by = h }, tt) }
  object_members b v h = cc

  set_members : (t : Ty) → is_reference_type t ≡ true → (v : Value) → is_of p w (Set t) v ≡ true → AllOf (AnyObject false) (members_in v)
  set_members t e (Collection vs) h = references_all t e (list_of vs) (from_values t vs (and_parts (is_ascending vs) (all_have_type p (instance_of w t) vs) h).1)
  set_members t e v h = cc

  members_all : (t : Ty) → is_framed t ≡ true → (v : Value) → IsOf p w t v → AllOf (AnyObject false) (members_in v)
  members_all (AnyObject b) e v h = object_members b v h.by
  members_all (Class b d) e v h = object_members b v h.by
  members_all (Array b t) e v h = object_members b v h.by
  members_all (Set t) e v h = set_members t e v h.by
  members_all t e v h = cc

  frame_all : (ts : List Ty) → list_all is_framed ts ≡ true → (vs : List Value) → AreOf p w ts vs → AllOf (AnyObject false) (frame_members vs)
  frame_all [] e [] h = record { by = tt }
  frame_all [] e (v ∷ vs) h = cc h.by
  frame_all (t ∷ ts) e [] h = cc h.by
  frame_all (t ∷ ts) e (v ∷ vs) h =
      let are = and_parts (is_framed t) (list_all is_framed ts) e in
      record { by = all_append (IsOf p w (AnyObject false)) (members_in v) (frame_members vs) (members_all t are.0 v (first_is t ts (v ∷ vs) h)).by (frame_all ts are.1 vs (others_are t ts (v ∷ vs) h)).by }

  -- ---- parts of datatypes

  parts_twice : (ts : Tys) (variables : List Variable) → map (instance_of w) (map (λ (x : Variable). instance_of ts x.ty) variables) ≡ map (λ (x : Variable). instance_of (instances_of w ts) x.ty) variables
  parts_twice ts [] = refl
  parts_twice ts (x ∷ xs) = ap (λ t. t ∷ map (instance_of w) (map (λ (x : Variable). instance_of ts x.ty) xs)) (instance_twice w ts x.ty) ∙ ap (λ us. instance_of (instances_of w ts) x.ty ∷ us) (parts_twice ts xs)

  made_is : (t : Ty) (c : ℕ) (vs : List Value) → has_constructor p t c ≡ true → AreOf p w (parts_of p t c) vs → IsOf p w t (Made c (values_of vs))
  made_is (Data d ts) c vs h k = record { by = and_from _ _ h (subst (λ us. have_types p us (values_of vs) ≡ true) (parts_twice ts (parts_at p d c)) k.by) }
  made_is t c vs h k = cc

  part_at : (ts : List Ty) (vs : List Value) (target : Ty) (j : ℕ) → option_map_or (same_type target) (slice_get ts j) false ≡ true → AreOf p w ts vs → IsOf p w target (nth vs j)
  part_at [] vs target j e h = cc
  part_at (t ∷ ts) [] target j e h = cc h.by
  part_at (t ∷ ts) (v ∷ vs) target zero e h = subst (λ x. IsOf p w x v) (sym (same_type_equal target t e)) (first_is t ts (v ∷ vs) h)
  part_at (t ∷ ts) (v ∷ vs) target (suc j) e h = part_at ts vs target j e (others_are t ts (v ∷ vs) h)

  found_part : (t target : Ty) (c : ℕ) (vs : List Value) (parts : List (ℕ × ℕ)) → list_all (is_part p t target) parts ≡ true → AreOf p w (parts_of p t c) vs
      → has_part parts c ≡ true → IsOf p w target (nth vs (part_in parts c))
  found_part t target c vs [] h k e = cc
  found_part t target c vs (part ∷ others) h k e =
      let hs = and_parts (is_part p t target part) (list_all (is_part p t target) others) h in
      by_test (part.0 == c) refl hs.0 (found_part t target c vs others hs.1 k) e
    where
      by_test : (b : Bool) → (part.0 == c) ≡ b → is_part p t target part ≡ true → (has_part others c ≡ true → IsOf p w target (nth vs (part_in others c)))
          → (if b then true else has_part others c) ≡ true → IsOf p w target (nth vs (if b then part.1 else part_in others c))
      by_test true e is rest h = part_at (parts_of p t c) vs target part.1 (subst (λ x. option_map_or (same_type target) (slice_get (parts_of p t x) part.1) false ≡ true) (eqb-true part.0 c e) is) k
      by_test false e is rest h = rest h

  made_parts : (d : ℕ) (ts : Tys) (c : ℕ) (vs : Values) → IsOf p w (Data d ts) (Made c vs) → AreOf p w (parts_of p (Data d ts) c) (list_of vs)
  made_parts d ts c vs k =
      let hs = and_parts (nat_lt c (length (constructors_at p d))) (have_types p (parts_of p (Data d (instances_of w ts)) c) vs) k.by in
      record { by = subst (λ x. have_types p (map (instance_of w) (parts_of p (Data d ts) c)) x ≡ true) (sym (values_again vs)) (subst (λ us. have_types p us vs ≡ true) (sym (parts_twice ts (parts_at p d c))) hs.1) }

  no_part : (t target : Ty) (c : ℕ) (parts : List (ℕ × ℕ)) → ((k : ℕ) → parts_of p t k ≡ []) → list_all (is_part p t target) parts ≡ true → has_part parts c ≡ true → ⊥
  no_part t target c [] none h e = cc
  no_part t target c (part ∷ others) none h e =
      let hs = and_parts (is_part p t target part) (list_all (is_part p t target) others) h in
      let l : option_map_or (same_type target) (slice_get [] part.1) false ≡ true = subst (λ x. option_map_or (same_type target) (slice_get x part.1) false ≡ true) (none part.0) hs.0 in cc

  part_is : (t target : Ty) (v : Value) (parts : List (ℕ × ℕ)) → list_all (is_part p t target) parts ≡ true → IsOf p w t v
      → has_part parts (constructor_of v) ≡ true → IsOf p w target (nth (items_of v) (part_in parts (constructor_of v)))
  part_is (Data d ts) target (Made b vs) parts h k e = found_part (Data d ts) target b (list_of vs) parts h (made_parts d ts b vs k) e
  part_is (Data d ts) target NullReference parts h k e = cc k.by
  part_is (Data d ts) target (Truth b) parts h k e = cc k.by
  part_is (Data d ts) target (Character n) parts h k e = cc k.by
  part_is (Data d ts) target (Number n) parts h k e = cc k.by
  part_is (Data d ts) target (Memory n) parts h k e = cc k.by
  part_is (Data d ts) target (Reference n) parts h k e = cc k.by
  part_is (Data d ts) target (Sequence vs) parts h k e = cc k.by
  part_is (Data d ts) target (Collection vs) parts h k e = cc k.by
  part_is t target v parts h k e = absurd (no_part t target (constructor_of v) parts (λ c. refl) h e)

  null_is : (t : Ty) → is_nullable t ≡ true → IsOf p w t NullReference
  null_is (AnyObject b) e = record { by = e }
  null_is (Class b d) e = record { by = e }
  null_is (Array b t) e = record { by = e }
  null_is t e = cc

  -- ---- a value of a type is one of each type that the type fits

  reference_fits : (a b : Bool) (v : Value) → (b || not a) ≡ true → is_reference a v ≡ true → is_reference b v ≡ true
  reference_fits a true NullReference h k = refl
  reference_fits true false NullReference h k = cc
  reference_fits false false NullReference h k = cc
  reference_fits a b (Reference r) h k = k
  reference_fits a b (Truth x) h k = cc
  reference_fits a b (Character x) h k = cc
  reference_fits a b (Number x) h k = cc
  reference_fits a b (Made c vs) h k = cc
  reference_fits a b (Sequence vs) h k = cc
  reference_fits a b (Collection vs) h k = cc
  reference_fits a b (Memory vs) h k = cc

  all_fit : (t u : Ty) → ((v : Value) → is_of p w t v ≡ true → is_of p w u v ≡ true) → (vs : Values) → all_have_type p (instance_of w t) vs ≡ true → all_have_type p (instance_of w u) vs ≡ true
  all_fit t u f no_value h = refl
  all_fit t u f (value v vs) h = let hs = and_parts (is_of p w t v) (all_have_type p (instance_of w t) vs) h in and_from _ _ (f v hs.0) (all_fit t u f vs hs.1)

  sequences_fit : (t u : Ty) → ((v : Value) → is_of p w t v ≡ true → is_of p w u v ≡ true) → (v : Value) → is_of p w (Seq t) v ≡ true → is_of p w (Seq u) v ≡ true
  sequences_fit t u f (Sequence vs) h = all_fit t u f vs h
  sequences_fit t u f v h = cc

  sets_fit : (t u : Ty) → ((v : Value) → is_of p w t v ≡ true → is_of p w u v ≡ true) → (v : Value) → is_of p w (Set t) v ≡ true → is_of p w (Set u) v ≡ true
  sets_fit t u f (Collection vs) h = let hs = and_parts (is_ascending vs) (all_have_type p (instance_of w t) vs) h in and_from _ _ hs.0 (all_fit t u f vs hs.1)
  sets_fit t u f v h = cc

  naturals_fit : (v : Value) → is_of p w Nat v ≡ true → is_of p w Int v ≡ true
  naturals_fit (Number n) h = refl
  naturals_fit v h = cc

  same_is : (t u : Ty) → same_type t u ≡ true → (v : Value) → is_of p w t v ≡ true → is_of p w u v ≡ true
  same_is t u e v h = subst (λ x. is_of p w x v ≡ true) (same_type_equal t u e) h

  fit_is : (t u : Ty) → fits t u ≡ true → (v : Value) → is_of p w t v ≡ true → is_of p w u v ≡ true
  fit_is (Newtype d) u e v h = same_is (Newtype d) u e v h
  fit_is Int u e v h = same_is Int u e v h
  fit_is Nat Int e v h = naturals_fit v h
  fit_is Nat u e v h = same_is Nat u e v h
  fit_is Boolean u e v h = same_is Boolean u e v h
  fit_is Char u e v h = same_is Char u e v h
  fit_is (AnyObject a) (AnyObject b) e v h = reference_fits a b v e h
  fit_is (AnyObject a) u e v h = cc
  fit_is (Class a d) (AnyObject b) e v h = reference_fits a b v e h
  fit_is (Class a d) (Class b k) e v h = reference_fits a b v (and_parts (d == k) (b || not a) e).1 h
  fit_is (Class a d) u e v h = cc
  fit_is (Array a t) (AnyObject b) e v h = reference_fits a b v e h
  fit_is (Array a t) (Array b u) e v h = reference_fits a b v (and_parts (same_type t u) (b || not a) e).1 h
  fit_is (Array a t) u e v h = cc
  fit_is (Seq t) (Seq u) e v h = sequences_fit t u (fit_is t u e) v h
  fit_is (Seq t) u e v h = cc
  fit_is (Set t) (Set u) e v h = sets_fit t u (fit_is t u e) v h
  fit_is (Set t) u e v h = cc
  fit_is (Data d ts) u e v h = same_is (Data d ts) u e v h
  fit_is (Parameter n) u e v h = same_is (Parameter n) u e v h

-- ---- the rows

module _ (view : View) where
  abbrev p : Program
  p = view.program

  abbrev w : Tys
  w = view.types

  in_type_is : (t : Ty) (v : Value) → AnswerIsOf view t (in_type view t v)
  in_type_is t v = λ e. record { by = e }

  truth_is : (b : Bool) → AnswerIsOf view Boolean (Is (Truth b))
  truth_is b = record { by = refl }

  pub row_is : (op : Op) (vs : List Value) → allowed p op ≡ true → AreOf p w (operands p op) vs → AnswerIsOf view (result op) (answer view op vs)
  row_is (Op.NumberOf t n) vs is h = in_type_is t (Number n)
  row_is (Op.TruthOf b) vs is h = truth_is b
  row_is (Op.CharacterOf code) vs is h = record { by = is }
  row_is (Op.TextOf characters) vs is h = sequence_is p w Char _ (characters_are p w characters is)
  row_is (Op.NullOf t) vs is h = null_is p w t is
  row_is (Op.Negate t) vs is h = in_type_is t _
  row_is (Op.Add t) vs is h = in_type_is t _
  row_is (Op.Subtract t) vs is h = in_type_is t _
  row_is (Op.Multiply t) vs is h = in_type_is t _
  row_is (Op.Divide t) vs is h = λ e. in_type_is t _
  row_is (Op.Modulo t) vs is h = λ e. in_type_is t _
  row_is Op.Not vs is h = truth_is _
  row_is (Op.Compare c t) vs is h = truth_is _
  row_is (Op.As source target) vs is h = in_type_is target _
  row_is (Op.Fit source target) vs is h = record { by = fit_is p w source target is _ (first_is p w _ _ vs h).by }
  row_is (Op.Narrow source target) vs is h = in_type_is target _
  row_is (Op.SequenceOf element size) vs is h = sequence_is p w element vs (repeated_all p w size element vs h)
  row_is (Op.SetOf element size) vs is h = set_is p w element vs (repeated_all p w size element vs h)
  row_is (Op.SequenceSize element) vs is h = record { by = refl }
  row_is (Op.SetSize element) vs is h = record { by = refl }
  row_is (Op.InSequence element) vs is h = truth_is _
  row_is (Op.InSet element) vs is h = truth_is _
  row_is (Op.Item element) vs is h = λ e. all_nth (IsOf p w element) _ _ NullReference (index_below p w _ (number_at vs 1) e) (sequence_items p w element _ (first_is p w _ _ vs h)).by
  row_is (Op.Construct t c) vs is h = made_is p w t c vs is h
  row_is (Op.HasConstructor t c) vs is h = truth_is _
  row_is (Op.Part t target parts) vs is h = part_is p w t target _ parts is (first_is p w _ _ vs h)
  row_is (Op.ObjectsOf types) vs is h = set_is p w (AnyObject false) _ (frame_all p w (list_of_tys types) is vs h)
  row_is (Op.NoneFits t) vs is h = λ e. cc e
