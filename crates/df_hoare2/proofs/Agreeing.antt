-- What expressions evaluate to does not depend on what was printed, on the choices to come, on what may be changed, or on locals
-- that they don't read.
use Rattle.std.proofs.Common.{◌≡◌, ℕ, zero, suc, Bool, true, false, if◌then◌else◌, List, [], ◌∷◌, ◌++◌, filter, map, Option, None, Some, refl, sym, ap, ◌∙◌}
use Rattle.std.specs.Option.{option_map_or}
use Rattle.std.specs.List.{list_all}
use Rattle.std.proofs.lemmas.Bool.{and_parts}
use Rattle.df_lemmas.proofs.Lists.{all_parts}
use Rattle.df_base.specs.declared.pos.Pos.{Pos}
use Rattle.df_types.specs.declared.expr.Connective.{Connective}
use Rattle.df_types.specs.declared.expr.Quantifier.{Quantifier}
use Rattle.df_types.specs.declared.kind.Kind.TheVariants as kinds
use Rattle.df_types.specs.Ty.{Tys, instances_of}
use Rattle.df_types.specs.Op.{Op}
use Rattle.df_types.specs.Expr.{Expr, Local, Bound, Apply, Junction, Chain, If, Let, Call, Quantify, Old, Exprs, no_expr, expr, Links, no_link, link, Arms, no_arm, arm, Extent, Between, Among}
use Rattle.df_types.specs.Stmt.{Demand, Typed}
use Rattle.df_types.specs.Program.{Program, Head, Function, function_at}
use Rattle.df_types.specs.Measures.{frame_objects}
use Rattle.df_types.specs.Gathering.{gather, gather_all, gather_links, gather_arms, gather_extent}
use Rattle.df_meaning2.specs.Value.{Value, truth_of}
use Rattle.df_meaning2.specs.Heap.{Heap, lies_in_readable}
use Rattle.df_meaning2.specs.Outcome.{Outcome, Gives, Wrong, TooDeep, NoChoice, Dismissed, after}
use Rattle.df_meaning2.specs.Types.{is_of}
use Rattle.df_meaning2.specs.Answer.{answer, compare}
use Rattle.df_meaning2.specs.State.{Locals, State, with_bound, reading_inside, entering}
use Rattle.df_meaning2.specs.Meaning.{Meaning, answered, there, each, led, ends, at_entry, evaluate, evaluate_all, evaluate_lazily, evaluate_links, evaluate_arms, evaluate_range, check_all, asked_at, measured}
use Rattle.df_meaning2.specs.Whole.{entered, apply_function, whole}
use Rattle.df_hoare2.proofs.Depths.{after_same, choice_same}
use Rattle.df_hoare2.proofs.Judging.{judge}
use Rattle.df_hoare2.proofs.Reading.{read_by}

-- what a run has beside what expressions see
pub record Rest : Type 0 where
  pub changeable : Value
  pub text : List ℕ
  pub choices : List (List Value)

abbrev pub vary : State → Locals → Rest → State
vary s locals rest = record {
  types = s.types;
  locals = locals;
  bound = s.bound;
  entry = s.entry;
  changeable = rest.changeable;
  readable = s.readable;
  store = record { text = rest.text; heap = s.store.heap; choices = rest.choices };
}

abbrev pub rest_of : State → Rest
rest_of s = record { changeable = s.changeable; text = s.store.text; choices = s.store.choices }

-- a call depends on no more
abbrev pub Respects : Meaning → Type 0
Respects m = (at : Pos) (callee : ℕ) (types : Tys) (vs : List Value) (s : State) (locals : Locals) (rest : Rest) → m.apply at callee types vs s ≡ m.apply at callee types vs (vary s locals rest)

answer_same : (p : Program) (op : Op) (types : Tys) (heap entry : Heap) (readable : Option Value) (a b : Value) (vs : List Value)
    → answer (record { program = p; types = types; heap = heap; entry = entry; readable = readable; changeable = a }) op vs ≡ answer (record { program = p; types = types; heap = heap; entry = entry; readable = readable; changeable = b }) op vs
answer_same p (Op.NumberOf t n) types heap entry readable a b vs = refl
answer_same p (Op.TruthOf c) types heap entry readable a b vs = refl
answer_same p (Op.CharacterOf code) types heap entry readable a b vs = refl
answer_same p (Op.TextOf characters) types heap entry readable a b vs = refl
answer_same p (Op.NullOf t) types heap entry readable a b vs = refl
answer_same p (Op.Negate t) types heap entry readable a b vs = refl
answer_same p (Op.Add t) types heap entry readable a b vs = refl
answer_same p (Op.Subtract t) types heap entry readable a b vs = refl
answer_same p (Op.Multiply t) types heap entry readable a b vs = refl
answer_same p (Op.Divide t) types heap entry readable a b vs = refl
answer_same p (Op.Modulo t) types heap entry readable a b vs = refl
answer_same p Op.Not types heap entry readable a b vs = refl
answer_same p (Op.Compare comparison t) types heap entry readable a b vs = refl
answer_same p (Op.As source target) types heap entry readable a b vs = refl
answer_same p (Op.Fit source target) types heap entry readable a b vs = refl
answer_same p (Op.Narrow source target) types heap entry readable a b vs = refl
answer_same p (Op.SequenceOf element size) types heap entry readable a b vs = refl
answer_same p (Op.SetOf element size) types heap entry readable a b vs = refl
answer_same p (Op.SequenceSize element) types heap entry readable a b vs = refl
answer_same p (Op.SetSize element) types heap entry readable a b vs = refl
answer_same p (Op.InSequence element) types heap entry readable a b vs = refl
answer_same p (Op.InSet element) types heap entry readable a b vs = refl
answer_same p (Op.Item element) types heap entry readable a b vs = refl
answer_same p (Op.Construct t c) types heap entry readable a b vs = refl
answer_same p (Op.HasConstructor t c) types heap entry readable a b vs = refl
answer_same p (Op.Part t target parts) types heap entry readable a b vs = refl
answer_same p (Op.ObjectsOf ts) types heap entry readable a b vs = refl
answer_same p (Op.NoneFits t) types heap entry readable a b vs = refl

each_same : (q : Quantifier) (f g : Value → Outcome Value) → ((v : Value) → f v ≡ g v) → (vs : List Value) → each q f vs ≡ each q g vs
each_same q f g h vs = ap (λ (k : Value → Outcome Value). each q k vs) (λ i v. h v i)

module _ (m : Meaning) (respects : Respects m) (reads : ℕ → Bool) (rest : Rest) where
  mutual
    pub agrees : (e : Expr) (s : State) (locals : Locals) → list_all reads (gather read_by e) ≡ true → ((n : ℕ) → reads n ≡ true → s.locals n ≡ locals n) → evaluate m s e ≡ evaluate m (vary s locals rest) e
    agrees (Local local name at) s locals is h = ap there (h local (and_parts (reads local) true is).0)
    agrees (Bound index name at) s locals is h = refl
    agrees (Apply op at es) s locals is h = after_same _ _ _ _ (all_agree es s locals is h) (λ vs. ap (answered at) (answer_same m.program op s.types s.store.heap s.entry s.readable s.changeable rest.changeable vs))
    agrees (Junction connective first others) s locals is h =
        let are = all_parts reads (gather read_by first) (gather_all read_by others) is in
        after_same _ _ _ _ (agrees first s locals are.0 h) (λ v. lazily_agree others s locals connective v are.1 h)
    agrees (Chain t first others) s locals is h =
        let are = all_parts reads (gather read_by first) (gather_links read_by others) is in
        after_same _ _ _ _ (agrees first s locals are.0 h) (λ v. links_agree others s locals v are.1 h)
    agrees (If t arms otherwise) s locals is h =
        let are = all_parts reads (gather_arms read_by arms) (gather read_by otherwise) is in
        arms_agree arms s locals _ _ are.0 h (agrees otherwise s locals are.1 h)
    agrees (Let variable is_ghost value body) s locals is h =
        let are = all_parts reads (gather read_by value) (gather read_by body) is in
        after_same _ _ _ _ (agrees value s locals are.0 h) (λ v. agrees body (with_bound s v) locals are.1 h)
    agrees (Call callee types at es) s locals is h = after_same _ _ _ _ (all_agree es s locals is h) (λ vs. respects at callee (instances_of s.types types) vs s locals rest)
    agrees (Quantify site at q variable extent triggers body) s locals is h =
        let are = all_parts reads (gather_extent read_by extent) (gather read_by body) is in
        after_same _ _ _ _ (range_agrees extent s locals are.0 h)
        (λ vs. each_same q (λ v. evaluate m (with_bound s v) body) (λ v. evaluate m (vary (with_bound s v) locals rest) body) (λ v. agrees body (with_bound s v) locals are.1 h) (led (m.first site) (filter (is_of m.program s.types variable.ty) vs)))
    agrees (Old at e) s locals is h = agrees e (at_entry s) locals is h

    pub all_agree : (es : Exprs) (s : State) (locals : Locals) → list_all reads (gather_all read_by es) ≡ true → ((n : ℕ) → reads n ≡ true → s.locals n ≡ locals n) → evaluate_all m s es ≡ evaluate_all m (vary s locals rest) es
    all_agree no_expr s locals is h = refl
    all_agree (expr e es) s locals is h =
        let are = all_parts reads (gather read_by e) (gather_all read_by es) is in
        after_same _ _ _ _ (agrees e s locals are.0 h) (λ v. after_same _ _ _ _ (all_agree es s locals are.1 h) (λ vs. refl))

    lazily_agree : (es : Exprs) (s : State) (locals : Locals) (connective : Connective) (v : Value) → list_all reads (gather_all read_by es) ≡ true → ((n : ℕ) → reads n ≡ true → s.locals n ≡ locals n)
        → evaluate_lazily m s connective v es ≡ evaluate_lazily m (vary s locals rest) connective v es
    lazily_agree no_expr s locals connective v is h = refl
    lazily_agree (expr e es) s locals connective v is h =
        let are = all_parts reads (gather read_by e) (gather_all read_by es) is in
        choice_same (ends connective (truth_of v)) _ _ _ _ refl (after_same _ _ _ _ (agrees e s locals are.0 h) (λ w. lazily_agree es s locals connective w are.1 h))

    links_agree : (links : Links) (s : State) (locals : Locals) (v : Value) → list_all reads (gather_links read_by links) ≡ true → ((n : ℕ) → reads n ≡ true → s.locals n ≡ locals n)
        → evaluate_links m s v links ≡ evaluate_links m (vary s locals rest) v links
    links_agree no_link s locals v is h = refl
    links_agree (link c at e others) s locals v is h =
        let are = all_parts reads (gather read_by e) (gather_links read_by others) is in
        after_same _ _ _ _ (agrees e s locals are.0 h) (λ w. choice_same (compare c v w) _ _ _ _ (links_agree others s locals w are.1 h) refl)

    arms_agree : (arms : Arms) (s : State) (locals : Locals) (o q : Outcome Value) → list_all reads (gather_arms read_by arms) ≡ true → ((n : ℕ) → reads n ≡ true → s.locals n ≡ locals n) → o ≡ q
        → evaluate_arms m s arms o ≡ evaluate_arms m (vary s locals rest) arms q
    arms_agree no_arm s locals o q is h e = e
    arms_agree (arm guard value others) s locals o q is h e =
        let are = all_parts reads (gather read_by guard) (gather read_by value ++ gather_arms read_by others) is in
        let more = all_parts reads (gather read_by value) (gather_arms read_by others) are.1 in
        after_same _ _ _ _ (agrees guard s locals are.0 h) (λ v. choice_same (truth_of v) _ _ _ _ (agrees value s locals more.0 h) (arms_agree others s locals o q more.1 h e))

    range_agrees : (extent : Extent) (s : State) (locals : Locals) → list_all reads (gather_extent read_by extent) ≡ true → ((n : ℕ) → reads n ≡ true → s.locals n ≡ locals n)
        → evaluate_range m s extent ≡ evaluate_range m (vary s locals rest) extent
    range_agrees (Between t low a high b) s locals is h =
        let are = all_parts reads (gather read_by low) (gather read_by high) is in
        after_same _ _ _ _ (agrees low s locals are.0 h) (λ v. after_same _ _ _ _ (agrees high s locals are.1 h) (λ w. refl))
    range_agrees (Among t container) s locals is h = after_same _ _ _ _ (agrees container s locals is h) (λ v. refl)

-- ---- where all locals are the same

all_true : (ns : List ℕ) → list_all (λ n. true) ns ≡ true
all_true [] = refl
all_true (n ∷ ns) = all_true ns

module _ (m : Meaning) (respects : Respects m) (rest : Rest) (s : State) where
  pub agrees_itself : (e : Expr) → evaluate m s e ≡ evaluate m (vary s s.locals rest) e
  agrees_itself e = agrees m respects (λ n. true) rest e s s.locals (all_true (gather read_by e)) (λ n t. refl)

  pub judge_itself : (es : List Expr) → judge m s es ≡ judge m (vary s s.locals rest) es
  judge_itself [] = refl
  judge_itself (e ∷ es) = after_same _ _ _ _ (agrees_itself e) (λ v. choice_same (truth_of v) _ _ _ _ (judge_itself es) refl)

  pub measured_itself : (xs : List Typed) → measured m s xs ≡ measured m (vary s s.locals rest) xs
  measured_itself [] = refl
  measured_itself (x ∷ xs) = after_same _ _ _ _ (agrees_itself x.value) (λ v. after_same _ _ _ _ (measured_itself xs) (λ vs. refl))

-- whether demands are met, without the state
abbrev pass : Meaning → State → List Demand → Outcome (Unit {0})
pass m s [] = Gives tt
pass m s (d ∷ ds) = after (evaluate m s d.condition) (λ v. if truth_of v then pass m s ds else Wrong d.pos d.kind)

checked_by : {B : Type 0} (m : Meaning) (s : State) (d : Demand) (ds : List Demand) (k : Outcome B) (o : Outcome Value) → after (check_all m s ds) (λ t. k) ≡ after (pass m s ds) (λ u. k)
    → after (after (after o (λ v. if truth_of v then Gives s else Wrong d.pos d.kind)) (λ t. check_all m t ds)) (λ t. k) ≡ after (after o (λ v. if truth_of v then pass m s ds else Wrong d.pos d.kind)) (λ u. k)
checked_by m s d ds k (Gives v) h = by_test (truth_of v)
  where
    by_test : (b : Bool) → after (after (if b then Gives s else Wrong d.pos d.kind) (λ t. check_all m t ds)) (λ t. k) ≡ after (if b then pass m s ds else Wrong d.pos d.kind) (λ u. k)
    by_test true = h
    by_test false = refl
checked_by m s d ds k (Wrong at kind) h = refl
checked_by m s d ds k TooDeep h = refl
checked_by m s d ds k NoChoice h = refl
checked_by m s d ds k Dismissed h = refl

checked_is : {B : Type 0} (m : Meaning) (s : State) (ds : List Demand) (k : Outcome B) → after (check_all m s ds) (λ t. k) ≡ after (pass m s ds) (λ u. k)
checked_is m s [] k = refl
checked_is m s (d ∷ ds) k = checked_by m s d ds k (evaluate m s d.condition) (checked_is m s ds k)

module _ (m : Meaning) (respects : Respects m) (rest : Rest) where
  pass_itself : (s : State) (ds : List Demand) → pass m s ds ≡ pass m (vary s s.locals rest) ds
  pass_itself s [] = refl
  pass_itself s (d ∷ ds) = after_same _ _ _ _ (agrees_itself m respects rest s d.condition) (λ v. choice_same (truth_of v) _ _ _ _ (pass_itself s ds) refl)

  checked_itself : {B : Type 0} (s : State) (ds : List Demand) (k l : Outcome B) → k ≡ l → after (check_all m s ds) (λ t. k) ≡ after (check_all m (vary s s.locals rest) ds) (λ t. l)
  checked_itself s ds k l e =
      checked_is m s ds k ∙ after_same (pass m s ds) (pass m (vary s s.locals rest) ds) (λ u. k) (λ u. l) (pass_itself s ds) (λ u. e) ∙ sym (checked_is m (vary s s.locals rest) ds l)

  pub entered_itself : (at : Pos) (types : Tys) (head : Head) (vs : List Value) (s : State) (locals : Locals) (f : State → Outcome Value) → ((t : State) → f t ≡ f (vary t t.locals rest))
      → entered m at types head vs s f ≡ entered m at types head vs (vary s locals rest) f
  entered_itself at types head vs s locals f h =
      checked_itself (entering types head.parameters vs s) (map (asked_at at kinds.Requires) head.preconditions) _ _
      (after_same _ _ _ _ (agrees_itself m respects rest (entering types head.parameters vs s) (frame_objects head)) (λ frame.
      checked_itself (reading_inside (entering types head.parameters vs s) frame) (map (asked_at at kinds.Requires) head.preconditions) _ _
      (after_same _ _ _ _ (agrees_itself m respects rest (reading_inside (entering types head.parameters vs s) frame) (frame_objects head)) (λ again.
      choice_same (lies_in_readable s.readable frame) _ _ _ _ (h (reading_inside (entering types head.parameters vs s) frame)) refl))))

-- ---- whole runs

pub whole_respects : (p : Program) (n : ℕ) → Respects (whole p n)
whole_respects p zero at callee types vs s locals rest = refl
whole_respects p (suc n) at callee types vs s locals rest = by_function (function_at p callee) (whole_respects p n)
  where
    by_function : (o : Option Function) → Respects (whole p n) → option_map_or (apply_function (whole p n) at types vs s) o Dismissed ≡ option_map_or (apply_function (whole p n) at types vs (vary s locals rest)) o Dismissed
    by_function None h = refl
    by_function (Some f) h = entered_itself (whole p n) h rest at types f.head vs s locals (λ t. evaluate (whole p n) t f.value) (λ t. agrees_itself (whole p n) h rest t f.value)
