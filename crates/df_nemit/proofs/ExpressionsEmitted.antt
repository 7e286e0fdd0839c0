-- What the emitter makes of expressions is their code.
use Rattle.std.proofs.Common.{◌≡◌, ℕ, ◌+◌, Bool, true, false, List, [], ◌∷◌, ◌++◌, length, refl, sym, ap, ◌∙◌, arith, append_assoc, length-append}
use Rattle.std.proofs.lemmas.List.{append-nil, map-append}
use Rattle.df_lang.specs.declared.expr.Junction.{Junction as JunctionKind}
use Rattle.df_lang.specs.declared.expr.Junction.TheVariants as junctions
use Rattle.df_lang.specs.declared.expr.Comparison.{Comparison}
use Rattle.df_nplain.specs.Kind as kinds
use Rattle.df_nplain.specs.Expr.{Expr, Number, Truth, Character, Local, Negate, Not, Sum, Product, Junction, Implies, Iff, Chain, As, Addends, no_addend, addend, Factors, no_factor, factor, Members, no_member, member, Links, no_link, link}
use Rattle.df_nmach.specs.declared.instruction.UnaryOperator.TheVariants as unary
use Rattle.df_nmach.specs.declared.instruction.BinaryOperator.TheVariants as binary
use Rattle.df_nmach.specs.declared.instruction.Instruction.{Instruction}
use Rattle.df_nmach.specs.declared.instruction.Instruction.TheVariants as i
use Rattle.df_nemit.specs.Code.{Behind, Mark, Fixed, instruction_of, unknown, fixed, adds, multiplies, decide, decide_unless, between, compare, keep, opening, joint, from_kind, to_kind, run_code, expr_code, addends_code, factors_code, junction_marks, implication_marks, equivalences_code, links_marks, exprs_code}
use Rattle.df_nemit.specs.mirror.Emitting.{Run, fill, begun, put, put_all, landed, decided, decided_unless, put_between, kept, opened, joined, with_code, emit_expr, emit_addends, emit_factors, emit_junction, emit_implications, emit_equivalences, emit_links, emit_exprs}
use Rattle.df_nemit.proofs.Fills.{places, places_append, places_fixed, instructions_of, instructions_fixed, instructions_long, fixed_long, fills}

-- ---- runs that go on by marks

abbrev pub run : List Instruction → List ℕ → Run
run code exits = record { code = code; exits = exits }

pub same_run : (a b : List Instruction) (xs ys : List ℕ) → a ≡ b → xs ≡ ys → run a xs ≡ run b ys
same_run a b xs ys e f = λ j. record { code = e j; exits = f j }

-- the run with these marks behind it, the first of them at the place
abbrev pub with_marks : Run → ℕ → List Mark → Run
with_marks r p ms = record { code = r.code ++ instructions_of unknown ms; exits = r.exits ++ places Behind p ms }

pub no_marks : (r : Run) (p : ℕ) → r ≡ with_marks r p []
no_marks r p = same_run _ _ _ _ (sym (append-nil r.code)) (sym (append-nil r.exits))

pub more_marks : (r : Run) (p : ℕ) (a b : List Mark) → with_marks (with_marks r p a) (p + length a) b ≡ with_marks r p (a ++ b)
more_marks r p a b =
    same_run _ _ _ _
    (append_assoc r.code (instructions_of unknown a) (instructions_of unknown b) ∙ ap (λ (l : List Instruction). r.code ++ l) (sym (map-append (instruction_of unknown) a b)))
    (append_assoc r.exits (places Behind p a) (places Behind (p + length a) b) ∙ ap (λ (l : List ℕ). r.exits ++ l) (sym (places_append Behind a b p)))

pub marks_long : (r : Run) (p : ℕ) (ms : List Mark) → length r.code ≡ p → length (with_marks r p ms).code ≡ p + length ms
marks_long r p ms long = length-append r.code (instructions_of unknown ms) ∙ (omega (arith, long, instructions_long unknown ms))

-- code alone makes no jumps
pub with_code_is : (r : Run) (p : ℕ) (code : List Instruction) → with_code r (r.code ++ code) ≡ with_marks r p (fixed code)
with_code_is r p code =
    same_run _ _ _ _
    (ap (λ (l : List Instruction). r.code ++ l) (sym (instructions_fixed unknown code)))
    (sym (append-nil r.exits) ∙ ap (λ (l : List ℕ). r.exits ++ l) (sym (places_fixed Behind code p)))

decided_is : (r : Run) (p : ℕ) (truth : Bool) → length r.code ≡ p → decided r truth ≡ with_marks r p (decide p truth)
decided_is r p truth long =
    let unless = λ (n : ℕ). i.Unless (n + 3) in
    let two = (r.code ++ i.Unless (length r.code + 3) ∷ []) ++ i.Truth truth ∷ [] in
    let place : length two ≡ p + 1 + 1 = omega (arith, long, length-append (r.code ++ i.Unless (length r.code + 3) ∷ []) (i.Truth truth ∷ []), length-append r.code (i.Unless (length r.code + 3) ∷ [])) in
    let flat : two ++ i.Jump 0 ∷ [] ≡ r.code ++ i.Unless (length r.code + 3) ∷ i.Truth truth ∷ i.Jump 0 ∷ [] = simp append_assoc in
    same_run _ _ _ _
    (flat ∙ ap (λ (n : ℕ). r.code ++ i.Unless (n + 3) ∷ i.Truth truth ∷ i.Jump 0 ∷ []) long)
    (ap (λ (n : ℕ). r.exits ++ n ∷ []) place)

decided_unless_is : (r : Run) (p : ℕ) (truth : Bool) → length r.code ≡ p → decided_unless r truth ≡ with_marks r p (decide_unless p truth)
decided_unless_is r p truth long =
    let turned = with_marks r p (Fixed (i.Unary unary.Not) ∷ []) in
    let put_is : put r (i.Unary unary.Not) ≡ turned = same_run _ _ _ _ refl (sym (append-nil r.exits)) in
    ap (λ (x : Run). decided x truth) put_is
    ∙ decided_is turned (p + 1) truth (marks_long r p (Fixed (i.Unary unary.Not) ∷ []) long)
    ∙ more_marks r p (Fixed (i.Unary unary.Not) ∷ []) (decide (p + 1) truth)

between_is : (r : Run) (p : ℕ) (junction : JunctionKind) → length r.code ≡ p → put_between r junction ≡ with_marks r p (between junction p)
between_is r p junctions.And long = decided_unless_is r p false long
between_is r p junctions.Or long = decided_is r p true long

kept_is : (s : ℕ) (r : Run) (p : ℕ) (c : Comparison) → length r.code ≡ p → kept s r c ≡ with_marks r p (keep s p c)
kept_is s r p c long =
    let held = Fixed (i.Set s) ∷ Fixed (i.Get s) ∷ fixed (compare c) in
    let q = p + (2 + length (compare c)) in
    let test = decide_unless q false in
    let last = Fixed (i.Get s) ∷ [] in
    let r1 = with_marks r p held in
    let count : length held ≡ 2 + length (compare c) = omega (arith, fixed_long (compare c)) in
    let far : length r1.code ≡ q = marks_long r p held long ∙ ap (λ (n : ℕ). p + n) count in
    let begin : put_all (put (put r (i.Set s)) (i.Get s)) (compare c) ≡ r1 =
    same_run _ _ _ _
    (ap (λ (l : List Instruction). ((r.code ++ i.Set s ∷ []) ++ i.Get s ∷ []) ++ l) (sym (instructions_fixed unknown (compare c))) ∙ (simp append_assoc))
    (sym (append-nil r.exits) ∙ ap (λ (l : List ℕ). r.exits ++ l) (sym (places_fixed Behind (compare c) (p + 1 + 1)))) in
    let r2 = with_marks r1 q test in
    let far2 : p + length held ≡ q = ap (λ (n : ℕ). p + n) count in
    let place : p + length (held ++ test) ≡ q + length test = omega (arith, length-append held test, count) in
    ap (λ (x : Run). put (decided_unless x false) (i.Get s)) begin
    ∙ ap (λ (x : Run). put x (i.Get s)) (decided_unless_is r1 q false far)
    ∙ same_run _ _ _ _ refl (sym (append-nil r2.exits))
    ∙ ap (λ (n : ℕ). with_marks (with_marks r1 n test) (q + length test) last) (sym far2)
    ∙ ap (λ (x : Run). with_marks x (q + length test) last) (more_marks r p held test)
    ∙ ap (λ (n : ℕ). with_marks (with_marks r p (held ++ test)) n last) (sym place)
    ∙ more_marks r p (held ++ test) last
    ∙ ap (λ (ms : List Mark). with_marks r p ms) (append_assoc held test last)

joined_is : (s : ℕ) (r : Run) (p : ℕ) (c : Comparison) (rest : Links) → length r.code ≡ p → joined s r c rest ≡ with_marks r p (joint s p c rest)
joined_is s r p c no_link long = with_code_is r p (compare c)
joined_is s r p c (link second operand rest) long = kept_is s r p c long

opened_is : (r : Run) (p : ℕ) (rest : Links) → opened r rest ≡ with_marks r p (opening rest)
opened_is r p no_link = same_run _ _ _ _ (append_assoc r.code (i.Drop ∷ []) (i.Truth true ∷ [])) (sym (append-nil r.exits))
opened_is r p (link c operand rest) = no_marks r p

-- the jumps land behind the run
lands : (d : List Instruction) (p : ℕ) (ms : List Mark) → length d ≡ p → landed (with_marks (begun d) p ms) ≡ d ++ run_code p ms
lands d p ms long =
    ap (λ (n : ℕ). fill (i.Jump n) (places Behind p ms) (d ++ instructions_of unknown ms)) (marks_long (begun d) p ms long)
    ∙ fills Behind unknown (p + length ms) ms d p long

-- a value behind what is in front of it
value_is : (s : ℕ) (r : Run) (p : ℕ) (e : Expr) → length r.code ≡ p → emit_expr s r.code e ≡ r.code ++ expr_code s p e → with_code r (emit_expr s r.code e) ≡ with_marks r p (fixed (expr_code s p e))
value_is s r p e long is = ap (λ (l : List Instruction). with_code r l) is ∙ with_code_is r p (expr_code s p e)

-- ---- code that goes on

-- one more instruction behind an operand
one_more : (c code : List Instruction) (instruction : Instruction) (d : List Instruction) → d ≡ c ++ code → d ++ instruction ∷ [] ≡ c ++ (code ++ instruction ∷ [])
one_more c code instruction d is = ap (λ (l : List Instruction). l ++ instruction ∷ []) is ∙ append_assoc c code (instruction ∷ [])

-- a row goes on behind a value and an instruction
row_on : (c value rest : List Instruction) (instruction : Instruction) → (c ++ (value ++ instruction ∷ [])) ++ rest ≡ c ++ (value ++ instruction ∷ rest)
row_on c value rest instruction = simp append_assoc

row_long : (c value : List Instruction) (instruction : Instruction) (p : ℕ) → length c ≡ p → length (c ++ (value ++ instruction ∷ [])) ≡ p + length value + 1
row_long c value instruction p long = omega (arith, long, length-append c (value ++ instruction ∷ []), length-append value (instruction ∷ []))

head_long : (c head : List Instruction) (p : ℕ) → length c ≡ p → length (c ++ head) ≡ p + length head
head_long c head p long = omega (arith, long, length-append c head)

-- marks, a value and further marks
three_marks : (r : Run) (p : ℕ) (front : List Mark) (value : List Instruction) (others : List Mark)
    → with_marks (with_marks (with_marks r p front) (p + length front) (fixed value)) (p + length front + length value) others ≡ with_marks r p (front ++ (fixed value ++ others))
three_marks r p front value others =
    let r1 = with_marks r p front in
    let q = p + length front in
    ap (λ (n : ℕ). with_marks (with_marks r1 q (fixed value)) n others) (ap (λ (n : ℕ). q + n) (sym (fixed_long value)))
    ∙ more_marks r1 q (fixed value) others
    ∙ more_marks r p front (fixed value ++ others)

mutual
  pub emits_expr : (s : ℕ) (e : Expr) (c : List Instruction) (p : ℕ) → length c ≡ p → emit_expr s c e ≡ c ++ expr_code s p e
  emits_expr s (Number value) c p long = refl
  emits_expr s (Truth value) c p long = refl
  emits_expr s (Character code) c p long = refl
  emits_expr s (Local local) c p long = refl
  emits_expr s (Negate range operand) c p long = one_more c (expr_code s p operand) _ _ (emits_expr s operand c p long)
  emits_expr s (Not operand) c p long = one_more c (expr_code s p operand) _ _ (emits_expr s operand c p long)
  emits_expr s (Sum range first rest) c p long =
      let head = expr_code s p first in
      ap (λ (l : List Instruction). emit_addends s l range rest) (emits_expr s first c p long)
      ∙ emits_addends s range rest (c ++ head) (p + length head) (head_long c head p long)
      ∙ append_assoc c head (addends_code s (p + length head) range rest)
  emits_expr s (Product range first rest) c p long =
      let head = expr_code s p first in
      ap (λ (l : List Instruction). emit_factors s l range rest) (emits_expr s first c p long)
      ∙ emits_factors s range rest (c ++ head) (p + length head) (head_long c head p long)
      ∙ append_assoc c head (factors_code s (p + length head) range rest)
  emits_expr s (Junction junction first rest) c p long =
      let head = expr_code s p first in
      let q = p + length head in
      let far = head_long c head p long in
      ap (λ (l : List Instruction). landed (emit_junction s (begun l) junction rest)) (emits_expr s first c p long)
      ∙ ap (λ (x : Run). landed x) (emits_junction s junction rest (begun (c ++ head)) q far)
      ∙ lands (c ++ head) q (junction_marks s q junction rest) far
      ∙ append_assoc c head (run_code q (junction_marks s q junction rest))
  emits_expr s (Implies first rest) c p long =
      let head = expr_code s p first in
      let q = p + length head in
      let far = head_long c head p long in
      ap (λ (l : List Instruction). landed (emit_implications s (begun l) rest)) (emits_expr s first c p long)
      ∙ ap (λ (x : Run). landed x) (emits_implications s rest (begun (c ++ head)) q far)
      ∙ lands (c ++ head) q (implication_marks s q rest) far
      ∙ append_assoc c head (run_code q (implication_marks s q rest))
  emits_expr s (Iff first rest) c p long =
      let head = expr_code s p first in
      ap (λ (l : List Instruction). emit_equivalences s l rest) (emits_expr s first c p long)
      ∙ emits_equivalences s rest (c ++ head) (p + length head) (head_long c head p long)
      ∙ append_assoc c head (equivalences_code s (p + length head) rest)
  emits_expr s (Chain first rest) c p long =
      let head = expr_code s p first in
      let q = p + length head in
      let far = head_long c head p long in
      let front = opening rest in
      let r = begun (c ++ head) in
      let z = q + length front in
      let others = links_marks s z rest in
      ap (λ (l : List Instruction). landed (emit_links s (opened (begun l) rest) rest)) (emits_expr s first c p long)
      ∙ ap (λ (x : Run). landed (emit_links s x rest)) (opened_is r q rest)
      ∙ ap (λ (x : Run). landed x) (emits_links s rest (with_marks r q front) z (marks_long r q front far) ∙ more_marks r q front others)
      ∙ lands (c ++ head) q (front ++ others) far
      ∙ append_assoc c head (run_code q (front ++ others))
  emits_expr s (As source target operand) c p long =
      let value = expr_code s p operand in
      ap (λ (l : List Instruction). (l ++ from_kind source) ++ to_kind target) (emits_expr s operand c p long)
      ∙ append_assoc (c ++ value) (from_kind source) (to_kind target)
      ∙ append_assoc c value (from_kind source ++ to_kind target)

  emits_addends : (s : ℕ) (range : kinds.Range) (rest : Addends) (c : List Instruction) (p : ℕ) → length c ≡ p → emit_addends s c range rest ≡ c ++ addends_code s p range rest
  emits_addends s range no_addend c p long = sym (append-nil c)
  emits_addends s range (addend operator operand rest) c p long =
      let value = expr_code s p operand in
      let instruction = adds operator range in
      let c1 = c ++ (value ++ instruction ∷ []) in
      let q = p + length value + 1 in
      ap (λ (l : List Instruction). emit_addends s l range rest) (one_more c value instruction _ (emits_expr s operand c p long))
      ∙ emits_addends s range rest c1 q (row_long c value instruction p long)
      ∙ row_on c value (addends_code s q range rest) instruction

  emits_factors : (s : ℕ) (range : kinds.Range) (rest : Factors) (c : List Instruction) (p : ℕ) → length c ≡ p → emit_factors s c range rest ≡ c ++ factors_code s p range rest
  emits_factors s range no_factor c p long = sym (append-nil c)
  emits_factors s range (factor operator operand rest) c p long =
      let value = expr_code s p operand in
      let instruction = multiplies operator range in
      let c1 = c ++ (value ++ instruction ∷ []) in
      let q = p + length value + 1 in
      ap (λ (l : List Instruction). emit_factors s l range rest) (one_more c value instruction _ (emits_expr s operand c p long))
      ∙ emits_factors s range rest c1 q (row_long c value instruction p long)
      ∙ row_on c value (factors_code s q range rest) instruction

  emits_equivalences : (s : ℕ) (rest : Members) (c : List Instruction) (p : ℕ) → length c ≡ p → emit_equivalences s c rest ≡ c ++ equivalences_code s p rest
  emits_equivalences s no_member c p long = sym (append-nil c)
  emits_equivalences s (member operand rest) c p long =
      let value = expr_code s p operand in
      let instruction = i.Binary binary.Same in
      let c1 = c ++ (value ++ instruction ∷ []) in
      let q = p + length value + 1 in
      ap (λ (l : List Instruction). emit_equivalences s l rest) (one_more c value instruction _ (emits_expr s operand c p long))
      ∙ emits_equivalences s rest c1 q (row_long c value instruction p long)
      ∙ row_on c value (equivalences_code s q rest) instruction

  emits_junction : (s : ℕ) (junction : JunctionKind) (rest : Members) (r : Run) (p : ℕ) → length r.code ≡ p → emit_junction s r junction rest ≡ with_marks r p (junction_marks s p junction rest)
  emits_junction s junction no_member r p long = no_marks r p
  emits_junction s junction (member operand rest) r p long =
      let front = between junction p in
      let q = p + length front in
      let r1 = with_marks r p front in
      let far1 = marks_long r p front long in
      let value = expr_code s q operand in
      let r2 = with_marks r1 q (fixed value) in
      let z = q + length value in
      let far2 : length r2.code ≡ z = marks_long r1 q (fixed value) far1 ∙ ap (λ (n : ℕ). q + n) (fixed_long value) in
      let others = junction_marks s z junction rest in
      ap (λ (x : Run). emit_junction s (with_code x (emit_expr s x.code operand)) junction rest) (between_is r p junction long)
      ∙ ap (λ (x : Run). emit_junction s x junction rest) (value_is s r1 q operand far1 (emits_expr s operand r1.code q far1))
      ∙ emits_junction s junction rest r2 z far2
      ∙ three_marks r p front value others

  emits_implications : (s : ℕ) (rest : Members) (r : Run) (p : ℕ) → length r.code ≡ p → emit_implications s r rest ≡ with_marks r p (implication_marks s p rest)
  emits_implications s no_member r p long = no_marks r p
  emits_implications s (member operand rest) r p long =
      let front = decide_unless p true in
      let q = p + length front in
      let r1 = with_marks r p front in
      let far1 = marks_long r p front long in
      let value = expr_code s q operand in
      let r2 = with_marks r1 q (fixed value) in
      let z = q + length value in
      let far2 : length r2.code ≡ z = marks_long r1 q (fixed value) far1 ∙ ap (λ (n : ℕ). q + n) (fixed_long value) in
      let others = implication_marks s z rest in
      ap (λ (x : Run). emit_implications s (with_code x (emit_expr s x.code operand)) rest) (decided_unless_is r p true long)
      ∙ ap (λ (x : Run). emit_implications s x rest) (value_is s r1 q operand far1 (emits_expr s operand r1.code q far1))
      ∙ emits_implications s rest r2 z far2
      ∙ three_marks r p front value others

  emits_links : (s : ℕ) (rest : Links) (r : Run) (p : ℕ) → length r.code ≡ p → emit_links s r rest ≡ with_marks r p (links_marks s p rest)
  emits_links s no_link r p long = no_marks r p
  emits_links s (link c operand rest) r p long =
      let value = expr_code s p operand in
      let q = p + length value in
      let r1 = with_marks r p (fixed value) in
      let far1 : length r1.code ≡ q = marks_long r p (fixed value) long ∙ ap (λ (n : ℕ). p + n) (fixed_long value) in
      let test = joint s q c rest in
      let r2 = with_marks r1 q test in
      let z = q + length test in
      let others = links_marks s z rest in
      ap (λ (x : Run). emit_links s (joined s x c rest) rest) (value_is s r p operand long (emits_expr s operand r.code p long))
      ∙ ap (λ (x : Run). emit_links s x rest) (joined_is s r1 q c rest far1)
      ∙ emits_links s rest r2 z (marks_long r1 q test far1)
      ∙ more_marks r1 q test others
      ∙ ap (λ (n : ℕ). with_marks r1 n (test ++ others)) (ap (λ (n : ℕ). p + n) (sym (fixed_long value)))
      ∙ more_marks r p (fixed value) (test ++ others)

pub emits_exprs : (s : ℕ) (es : List Expr) (c : List Instruction) (p : ℕ) → length c ≡ p → emit_exprs s c es ≡ c ++ exprs_code s p es
emits_exprs s [] c p long = sym (append-nil c)
emits_exprs s (e ∷ es) c p long =
    let head = expr_code s p e in
    ap (λ (l : List Instruction). emit_exprs s l es) (emits_expr s e c p long)
    ∙ emits_exprs s es (c ++ head) (p + length head) (head_long c head p long)
    ∙ append_assoc c head (exprs_code s (p + length head) es)
