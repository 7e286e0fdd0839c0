-- What the emitter makes of statements and methods is their code.
use Rattle.std.proofs.Common.{◌≡◌, ℕ, suc, ◌+◌, ◌-◌, ◌≤◌, List, [], ◌∷◌, ◌++◌, length, map, max, replicate, Option, Some, None, refl, sym, ap, ◌∙◌, arith, append_assoc, length-append}
use Rattle.std.specs.Prelude.{slice_set}
use Rattle.std.proofs.lemmas.List.{append-nil, map-append}
use Rattle.std.proofs.Math.Seq.{set-append_seam}
use Rattle.df_nplain.specs.Expr.{Expr}
use Rattle.df_nplain.specs.Stmt.{Operand, Text, Value, Call, Source, Single, Results, Update, Stmt, Block, Var, Assign, CallOf, If, While, Break, Return, Print, Stmts, done, next, Branches, no_branch, branch}
use Rattle.df_nplain.specs.Plain as plain
use Rattle.df_nmach.specs.declared.instruction.Instruction.{Instruction}
use Rattle.df_nmach.specs.declared.instruction.Instruction.TheVariants as i
use Rattle.df_nmach.specs.State.{Method}
use Rattle.df_nplain.specs.Plain.{results_at}
use Rattle.df_nemit.specs.Code.{Exit, Behind, Outside, Ending, Mark, Fixed, To, instruction_of, unknown, with_outside, ending_at, leaving_at, fixed, expr_code, exprs_code, call_code, source_code, sources_code, sets_code, update_code, optional_code, shape_of, operand_code, operands_code, stmt_marks, stmts_marks, branches_marks, gets, scratch_of, body_code, highest, method_code}
use Rattle.df_nemit.specs.mirror.Emitting.{fill, emit_call, emit_source, emit_sources, emit_update, emit_optional, emit_operand, emit_operands, Draft, coded, put_return, guarded, passing, entered, left, Choice, closed, chosen, emit_stmt, emit_stmts, emit_branches, give, emit_body, emit_method}
use Rattle.df_nemit.proofs.Fills.{places, places_append, places_fixed, instructions_of, instructions_fixed, instructions_long, fixed_long, fills, ending_behind, ending_outside, ending_ending, ending_filled, leaving_long, leaving_behind, leaving_outside, leaving_ending, leaving_filled}
use Rattle.df_nemit.proofs.ExpressionsEmitted.{emits_expr, emits_exprs}

-- ---- code that makes no jumps to exits

far : (c head : List Instruction) (p : ℕ) → length c ≡ p → length (c ++ head) ≡ p + length head
far c head p long = omega (arith, long, length-append c head)

emits_call : (s : ℕ) (call : Call) (c : List Instruction) (p : ℕ) → length c ≡ p → emit_call s c call ≡ c ++ call_code s p call
emits_call s call c p long =
    ap (λ (l : List Instruction). l ++ i.Call call.callee ∷ []) (emits_exprs s call.arguments c p long)
    ∙ append_assoc c (exprs_code s p call.arguments) (i.Call call.callee ∷ [])

emits_source : (s : ℕ) (source : Source) (c : List Instruction) (p : ℕ) → length c ≡ p → emit_source s c source ≡ c ++ source_code s p source
emits_source s (Single value) c p long = emits_expr s value c p long
emits_source s (Results call) c p long = emits_call s call c p long

emits_sources : (s : ℕ) (sources : List Source) (c : List Instruction) (p : ℕ) → length c ≡ p → emit_sources s c sources ≡ c ++ sources_code s p sources
emits_sources s [] c p long = sym (append-nil c)
emits_sources s (source ∷ others) c p long =
    let head = source_code s p source in
    ap (λ (l : List Instruction). emit_sources s l others) (emits_source s source c p long)
    ∙ emits_sources s others (c ++ head) (p + length head) (far c head p long)
    ∙ append_assoc c head (sources_code s (p + length head) others)

emits_update : (s : ℕ) (update : Update) (c : List Instruction) (p : ℕ) → length c ≡ p → emit_update s c update ≡ c ++ update_code s p update
emits_update s update c p long =
    ap (λ (l : List Instruction). l ++ sets_code s update.targets) (emits_sources s update.sources c p long)
    ∙ append_assoc c (sources_code s p update.sources) (sets_code s update.targets)

emits_optional : (s : ℕ) (update : Option Update) (c : List Instruction) (p : ℕ) → length c ≡ p → emit_optional s c update ≡ c ++ optional_code s p update
emits_optional s None c p long = sym (append-nil c)
emits_optional s (Some update) c p long = emits_update s update c p long

emits_operand : (s : ℕ) (operand : Operand) (c : List Instruction) (p : ℕ) → length c ≡ p → emit_operand s c operand ≡ c ++ operand_code s p operand
emits_operand s (Text characters) c p long = refl
emits_operand s (Value kind value) c p long =
    ap (λ (l : List Instruction). l ++ i.Print (shape_of kind) ∷ []) (emits_expr s value c p long)
    ∙ append_assoc c (expr_code s p value) (i.Print (shape_of kind) ∷ [])

emits_operands : (s : ℕ) (operands : List Operand) (c : List Instruction) (p : ℕ) → length c ≡ p → emit_operands s c operands ≡ c ++ operands_code s p operands
emits_operands s [] c p long = sym (append-nil c)
emits_operands s (operand ∷ others) c p long =
    let head = operand_code s p operand in
    ap (λ (l : List Instruction). emit_operands s l others) (emits_operand s operand c p long)
    ∙ emits_operands s others (c ++ head) (p + length head) (far c head p long)
    ∙ append_assoc c head (operands_code s (p + length head) others)

-- ---- drafts that go on by marks

abbrev draft : List Instruction → List ℕ → List ℕ → Draft
draft code breaks returns = record { code = code; breaks = breaks; returns = returns }

same_draft : (a b : List Instruction) (xs ys us vs : List ℕ) → a ≡ b → xs ≡ ys → us ≡ vs → draft a xs us ≡ draft b ys vs
same_draft a b xs ys us vs e f g = λ j. record { code = e j; breaks = f j; returns = g j }

-- the draft with these marks behind it, the first of them at the place
abbrev pub draft_with : Draft → ℕ → List Mark → Draft
draft_with d p ms = record { code = d.code ++ instructions_of unknown ms; breaks = d.breaks ++ places Outside p ms; returns = d.returns ++ places Ending p ms }

none_more : (xs : List ℕ) (e : Exit) (code : List Instruction) (p : ℕ) → xs ≡ xs ++ places e p (fixed code)
none_more xs e code p = sym (append-nil xs) ∙ ap (λ (l : List ℕ). xs ++ l) (sym (places_fixed e code p))

no_more : (d : Draft) (p : ℕ) → d ≡ draft_with d p []
no_more d p = same_draft _ _ _ _ _ _ (sym (append-nil d.code)) (sym (append-nil d.breaks)) (sym (append-nil d.returns))

append_more : (e : Exit) (xs : List ℕ) (p : ℕ) (a b : List Mark) → (xs ++ places e p a) ++ places e (p + length a) b ≡ xs ++ places e p (a ++ b)
append_more e xs p a b = append_assoc xs (places e p a) (places e (p + length a) b) ∙ ap (λ (l : List ℕ). xs ++ l) (sym (places_append e a b p))

code_more : (c : List Instruction) (a b : List Mark) → (c ++ instructions_of unknown a) ++ instructions_of unknown b ≡ c ++ instructions_of unknown (a ++ b)
code_more c a b = append_assoc c (instructions_of unknown a) (instructions_of unknown b) ∙ ap (λ (l : List Instruction). c ++ l) (sym (map-append (instruction_of unknown) a b))

more : (d : Draft) (p : ℕ) (a b : List Mark) → draft_with (draft_with d p a) (p + length a) b ≡ draft_with d p (a ++ b)
more d p a b = same_draft _ _ _ _ _ _ (code_more d.code a b) (append_more Outside d.breaks p a b) (append_more Ending d.returns p a b)

draft_long : (d : Draft) (p : ℕ) (ms : List Mark) → length d.code ≡ p → length (draft_with d p ms).code ≡ p + length ms
draft_long d p ms long = length-append d.code (instructions_of unknown ms) ∙ (omega (arith, long, instructions_long unknown ms))

-- code alone
coded_is : (d : Draft) (p : ℕ) (code made : List Instruction) → made ≡ d.code ++ code → coded d made ≡ draft_with d p (fixed code)
coded_is d p code made is =
    same_draft _ _ _ _ _ _
    (is ∙ ap (λ (l : List Instruction). d.code ++ l) (sym (instructions_fixed unknown code)))
    (none_more d.breaks Outside code p)
    (none_more d.returns Ending code p)

-- ---- no statement jumps behind a choice that it does not end

mutual
  stmt_stays : (program : plain.Plain) (s : ℕ) (stmt : Stmt) (p q : ℕ) → places Behind q (stmt_marks program s p stmt) ≡ []
  stmt_stays program s (Block body) p q = stmts_stay program s body p q
  stmt_stays program s (Var variables update) p q = places_fixed Behind (optional_code s p update) q
  stmt_stays program s (Assign update) p q = places_fixed Behind (update_code s p update) q
  stmt_stays program s (CallOf call) p q = places_fixed Behind (call_code s p call ++ replicate (results_at program call.callee) i.Drop) q
  stmt_stays program s (If branches otherwise) p q =
      let choices = branches_marks program s p branches in
      let others = stmts_marks program s (p + length choices) otherwise in
      ending_behind (p + length choices + length others) (choices ++ others) q
  stmt_stays program s (While guard body) p q =
      let test = expr_code s p guard in
      let inside = stmts_marks program s (p + length test + 1) body in
      let after = p + length test + 1 + length inside + 1 in
      let front = test ++ i.Unless after ∷ [] in
      let rest = map (leaving_at after) inside in
      places_append Behind (fixed front) (rest ++ Fixed (i.Jump p) ∷ []) q
      ∙ ap (λ (l : List ℕ). l ++ places Behind (q + length (fixed front)) (rest ++ Fixed (i.Jump p) ∷ [])) (places_fixed Behind front q)
      ∙ places_append Behind rest (Fixed (i.Jump p) ∷ []) (q + length (fixed front))
      ∙ append-nil (places Behind (q + length (fixed front)) rest)
      ∙ leaving_behind after inside (q + length (fixed front))
      ∙ stmts_stay program s body (p + length test + 1) (q + length (fixed front))
  stmt_stays program s Break p q = refl
  stmt_stays program s (Return update) p q =
      let code = optional_code s p update in
      places_append Behind (fixed code) (To Ending ∷ []) q ∙ append-nil (places Behind q (fixed code)) ∙ places_fixed Behind code q
  stmt_stays program s (Print operands) p q = places_fixed Behind (operands_code s p operands) q

  stmts_stay : (program : plain.Plain) (s : ℕ) (stmts : Stmts) (p q : ℕ) → places Behind q (stmts_marks program s p stmts) ≡ []
  stmts_stay program s done p q = refl
  stmts_stay program s (next stmt others) p q =
      let head = stmt_marks program s p stmt in
      let rest = stmts_marks program s (p + length head) others in
      places_append Behind head rest q
      ∙ ap (λ (l : List ℕ). l ++ places Behind (q + length head) rest) (stmt_stays program s stmt p q)
      ∙ stmts_stay program s others (p + length head) (q + length head)

-- ---- statements

-- where a guard's jump is, its target is written
passes : (c inner : List Instruction) (jump : Instruction) (t : ℕ) → passing (length (c ++ jump ∷ [])) t ((c ++ jump ∷ []) ++ inner) ≡ c ++ i.Unless t ∷ inner
passes c inner jump t =
    let place : length (c ++ jump ∷ []) - 1 ≡ length c = omega (arith, length-append c (jump ∷ [])) in
    ap (λ (n : ℕ). slice_set ((c ++ jump ∷ []) ++ inner) n (i.Unless t)) place
    ∙ ap (λ (l : List Instruction). slice_set l (length c) (i.Unless t)) (append_assoc c (jump ∷ []) inner)
    ∙ set-append_seam c jump inner (i.Unless t)

guarded_is : (s : ℕ) (c : List Instruction) (p : ℕ) (guard : Expr) → length c ≡ p → guarded s c guard ≡ (c ++ expr_code s p guard) ++ i.Unless 0 ∷ []
guarded_is s c p guard long = ap (λ (l : List Instruction). l ++ i.Unless 0 ∷ []) (emits_expr s guard c p long)

guarded_long : (c test : List Instruction) (p : ℕ) → length c ≡ p → length ((c ++ test) ++ i.Unless 0 ∷ []) ≡ p + length test + 1
guarded_long c test p long = omega (arith, long, length-append (c ++ test) (i.Unless 0 ∷ []), length-append c test)

-- the draft behind a guard
abbrev behind : Draft → List Instruction → Draft
behind d test = coded d ((d.code ++ test) ++ i.Unless 0 ∷ [])

abbrev choice : Draft → List ℕ → Choice
choice d exits = record { draft = d; exits = exits }

same_choice : (a b : Draft) (xs ys : List ℕ) → a ≡ b → xs ≡ ys → choice a xs ≡ choice b ys
same_choice a b xs ys e f = λ j. record { draft = e j; exits = f j }

abbrev choice_with : Choice → ℕ → List Mark → Choice
choice_with c p ms = record { draft = draft_with c.draft p ms; exits = c.exits ++ places Behind p ms }

-- a branch by its marks
abbrev branch_marks : List Instruction → List Mark → ℕ → List Mark
branch_marks test inside after = fixed (test ++ i.Unless after ∷ []) ++ (inside ++ To Behind ∷ [])

flat_code : (c test inner : List Instruction) (x y : Instruction) → (c ++ test) ++ x ∷ (inner ++ y ∷ []) ≡ c ++ ((test ++ x ∷ []) ++ (inner ++ y ∷ []))
flat_code c test inner x y = simp append_assoc

branch_code : (c test : List Instruction) (inside : List Mark) (after : ℕ) (last : Mark)
    → (c ++ test) ++ i.Unless after ∷ (instructions_of unknown inside ++ instruction_of unknown last ∷ []) ≡ c ++ instructions_of unknown (fixed (test ++ i.Unless after ∷ []) ++ (inside ++ last ∷ []))
branch_code c test inside after last =
    flat_code c test (instructions_of unknown inside) (i.Unless after) (instruction_of unknown last)
    ∙ ap (λ (l : List Instruction). c ++ ((test ++ i.Unless after ∷ []) ++ l)) (sym (map-append (instruction_of unknown) inside (last ∷ [])))
    ∙ ap (λ (l : List Instruction). c ++ (l ++ instructions_of unknown (inside ++ last ∷ []))) (sym (instructions_fixed unknown (test ++ i.Unless after ∷ [])))
    ∙ ap (λ (l : List Instruction). c ++ l) (sym (map-append (instruction_of unknown) (fixed (test ++ i.Unless after ∷ [])) (inside ++ last ∷ [])))

-- the jumps to an exit in a guard, what it guards, and a last mark
branch_places : (e : Exit) (test : List Instruction) (inside : List Mark) (after p q : ℕ) (last : Mark) → p + length test + 1 ≡ q
    → places e p (fixed (test ++ i.Unless after ∷ []) ++ (inside ++ last ∷ [])) ≡ places e q inside ++ places e (q + length inside) (last ∷ [])
branch_places e test inside after p q last is =
    let front = test ++ i.Unless after ∷ [] in
    let place : p + length (fixed front) ≡ q = omega (arith, is, fixed_long front, length-append test (i.Unless after ∷ [])) in
    places_append e (fixed front) (inside ++ last ∷ []) p
    ∙ ap (λ (l : List ℕ). l ++ places e (p + length (fixed front)) (inside ++ last ∷ [])) (places_fixed e front p)
    ∙ ap (λ (n : ℕ). places e n (inside ++ last ∷ [])) place
    ∙ places_append e inside (last ∷ []) q

closes : (c : Choice) (test : List Instruction) (inside : List Mark) (p q after : ℕ) → length c.draft.code ≡ p → p + length test + 1 ≡ q → q + length inside + 1 ≡ after → places Behind q inside ≡ []
    → closed c.exits (length (behind c.draft test).code) (draft_with (behind c.draft test) q inside) ≡ choice_with c p (branch_marks test inside after)
closes c test inside p q after long is ends stays =
    let opened = (c.draft.code ++ test) ++ i.Unless 0 ∷ [] in
    let inner = instructions_of unknown inside in
    let all = opened ++ inner in
    let begin : length opened ≡ q = guarded_long c.draft.code test p long ∙ is in
    let size : length all ≡ q + length inside = omega (arith, begin, length-append opened inner, instructions_long unknown inside) in
    let whole : length (all ++ i.Jump 0 ∷ []) ≡ after = omega (arith, size, ends, length-append all (i.Jump 0 ∷ [])) in
    let ms = branch_marks test inside after in
    let none = branch_places Outside test inside after p q (To Behind) is in
    let none2 = branch_places Ending test inside after p q (To Behind) is in
    let exits = branch_places Behind test inside after p q (To Behind) is in
    same_choice _ _ _ _
    (same_draft _ _ _ _ _ _
    (ap (λ (n : ℕ). passing (length opened) n (all ++ i.Jump 0 ∷ [])) whole
    ∙ ap (λ (l : List Instruction). passing (length opened) after l) (append_assoc opened inner (i.Jump 0 ∷ []))
    ∙ passes (c.draft.code ++ test) (inner ++ i.Jump 0 ∷ []) (i.Unless 0) after
    ∙ branch_code c.draft.code test inside after (To Behind))
    (ap (λ (l : List ℕ). c.draft.breaks ++ l) (sym (none ∙ append-nil (places Outside q inside))))
    (ap (λ (l : List ℕ). c.draft.returns ++ l) (sym (none2 ∙ append-nil (places Ending q inside)))))
    (ap (λ (n : ℕ). c.exits ++ n ∷ []) size ∙ ap (λ (l : List ℕ). c.exits ++ l) (sym (exits ∙ ap (λ (l : List ℕ). l ++ (q + length inside) ∷ []) stays)))

-- a loop by its marks
abbrev loop_marks : List Instruction → List Mark → ℕ → ℕ → List Mark
loop_marks test inside p after = fixed (test ++ i.Unless after ∷ []) ++ (map (leaving_at after) inside ++ Fixed (i.Jump p) ∷ [])

leaves : (d : Draft) (test : List Instruction) (inside : List Mark) (p q after : ℕ) → length d.code ≡ p → p + length test + 1 ≡ q → q + length inside + 1 ≡ after
    → left (length d.code) (behind d test) (draft_with (entered (behind d test)) q inside) ≡ draft_with d p (loop_marks test inside p after)
leaves d test inside p q after long is ends =
    let opened = (d.code ++ test) ++ i.Unless 0 ∷ [] in
    let inner = instructions_of unknown inside in
    let all = opened ++ inner in
    let begin : length opened ≡ q = guarded_long d.code test p long ∙ is in
    let size : length all + 1 ≡ after = omega (arith, begin, ends, length-append opened inner, instructions_long unknown inside) in
    let rest = map (leaving_at after) inside in
    let many = leaving_long after inside in
    let out = branch_places Outside test rest after p q (Fixed (i.Jump p)) is in
    let back = branch_places Ending test rest after p q (Fixed (i.Jump p)) is in
    same_draft _ _ _ _ _ _
    (ap (λ (n : ℕ). passing (length opened) n (fill (i.Jump n) (places Outside q inside) all) ++ i.Jump (length d.code) ∷ []) size
    ∙ ap (λ (n : ℕ). passing (length opened) after (fill (i.Jump after) (places Outside q inside) all) ++ i.Jump n ∷ []) long
    ∙ ap (λ (l : List Instruction). passing (length opened) after l ++ i.Jump p ∷ []) (fills Outside unknown after inside opened q begin ∙ ap (λ (l : List Instruction). opened ++ l) (leaving_filled after unknown inside))
    ∙ ap (λ (l : List Instruction). l ++ i.Jump p ∷ []) (passes (d.code ++ test) (instructions_of unknown rest) (i.Unless 0) after)
    ∙ append_assoc (d.code ++ test) (i.Unless after ∷ instructions_of unknown rest) (i.Jump p ∷ [])
    ∙ branch_code d.code test rest after (Fixed (i.Jump p)))
    (sym (append-nil d.breaks) ∙ ap (λ (l : List ℕ). d.breaks ++ l) (sym (out ∙ append-nil (places Outside q rest) ∙ leaving_outside after inside q)))
    (ap (λ (l : List ℕ). d.returns ++ l) (sym (back ∙ append-nil (places Ending q rest) ∙ leaving_ending after inside q)))

-- the jumps of a choice land behind it
choice_lands : (d : Draft) (ms : List Mark) (p t : ℕ) → length d.code ≡ p → p + length ms ≡ t → chosen (places Behind p ms) (draft_with d p ms) ≡ draft_with d p (map (ending_at t) ms)
choice_lands d ms p t long is =
    same_draft _ _ _ _ _ _
    (ap (λ (n : ℕ). fill (i.Jump n) (places Behind p ms) (d.code ++ instructions_of unknown ms)) (draft_long d p ms long ∙ is)
    ∙ fills Behind unknown t ms d.code p long
    ∙ ap (λ (l : List Instruction). d.code ++ l) (ending_filled t unknown ms))
    (ap (λ (l : List ℕ). d.breaks ++ l) (sym (ending_outside t ms p)))
    (ap (λ (l : List ℕ). d.returns ++ l) (sym (ending_ending t ms p)))

choice_more : (c : Choice) (p : ℕ) (a b : List Mark) → choice_with (choice_with c p a) (p + length a) b ≡ choice_with c p (a ++ b)
choice_more c p a b = same_choice _ _ _ _ (more c.draft p a b) (append_more Behind c.exits p a b)

branch_long : (test : List Instruction) (inside : List Mark) (p q after : ℕ) → p + length test + 1 ≡ q → q + length inside + 1 ≡ after → p + length (branch_marks test inside after) ≡ after
branch_long test inside p q after is ends =
    let front = test ++ i.Unless after ∷ [] in
    omega (arith, is, ends, length-append (fixed front) (inside ++ To Behind ∷ []), length-append inside (To Behind ∷ []), fixed_long front, length-append test (i.Unless after ∷ []))

branch_flat : (front inside rest : List Mark) (last : Mark) → (front ++ (inside ++ last ∷ [])) ++ rest ≡ front ++ (inside ++ last ∷ rest)
branch_flat front inside rest last = simp append_assoc

mutual
  emits_stmt : (program : plain.Plain) (s : ℕ) (stmt : Stmt) (d : Draft) (p : ℕ) → length d.code ≡ p → emit_stmt program s d stmt ≡ draft_with d p (stmt_marks program s p stmt)
  emits_stmt program s (Block body) d p long = emits_stmts program s body d p long
  emits_stmt program s (Var variables update) d p long = coded_is d p _ _ (emits_optional s update d.code p long)
  emits_stmt program s (Assign update) d p long = coded_is d p _ _ (emits_update s update d.code p long)
  emits_stmt program s (CallOf call) d p long =
      let drops = replicate (results_at program call.callee) i.Drop in
      coded_is d p _ _ (ap (λ (l : List Instruction). l ++ drops) (emits_call s call d.code p long) ∙ append_assoc d.code (call_code s p call) drops)
  emits_stmt program s (If branches otherwise) d p long =
      let choices = branches_marks program s p branches in
      let q = p + length choices in
      let others = stmts_marks program s q otherwise in
      let none : Choice = record { draft = d; exits = [] } in
      let d1 = draft_with d p choices in
      let d2 = draft_with d p (choices ++ others) in
      let jumps : places Behind p choices ≡ places Behind p (choices ++ others) =
      sym (append-nil (places Behind p choices)) ∙ ap (λ (l : List ℕ). places Behind p choices ++ l) (sym (stmts_stay program s otherwise q q)) ∙ sym (places_append Behind choices others p) in
      let size : p + length (choices ++ others) ≡ q + length others = omega (arith, length-append choices others) in
      ap (λ (c : Choice). chosen c.exits (emit_stmts program s c.draft otherwise)) (emits_branches program s branches none p long)
      ∙ ap (λ (x : Draft). chosen (places Behind p choices) x) (emits_stmts program s otherwise d1 q (draft_long d p choices long) ∙ more d p choices others)
      ∙ ap (λ (l : List ℕ). chosen l d2) jumps
      ∙ choice_lands d (choices ++ others) p (q + length others) long size
  emits_stmt program s (While guard body) d p long =
      let test = expr_code s p guard in
      let q = p + length test + 1 in
      let inside = stmts_marks program s q body in
      ap (λ (l : List Instruction). left (length d.code) (coded d l) (emit_stmts program s (entered (coded d l)) body)) (guarded_is s d.code p guard long)
      ∙ ap (λ (x : Draft). left (length d.code) (behind d test) x) (emits_stmts program s body (entered (behind d test)) q (guarded_long d.code test p long))
      ∙ leaves d test inside p q (q + length inside + 1) long refl refl
  emits_stmt program s Break d p long =
      same_draft _ _ _ _ _ _ refl (ap (λ (n : ℕ). d.breaks ++ n ∷ []) long) (sym (append-nil d.returns))
  emits_stmt program s (Return update) d p long =
      let code = optional_code s p update in
      let d1 = draft_with d p (fixed code) in
      ap (λ (x : Draft). put_return x) (coded_is d p code _ (emits_optional s update d.code p long))
      ∙ same_draft _ _ _ _ _ _ refl (sym (append-nil d1.breaks)) (ap (λ (n : ℕ). d1.returns ++ n ∷ []) (draft_long d p (fixed code) long))
      ∙ more d p (fixed code) (To Ending ∷ [])
  emits_stmt program s (Print operands) d p long = coded_is d p _ _ (emits_operands s operands d.code p long)

  emits_stmts : (program : plain.Plain) (s : ℕ) (stmts : Stmts) (d : Draft) (p : ℕ) → length d.code ≡ p → emit_stmts program s d stmts ≡ draft_with d p (stmts_marks program s p stmts)
  emits_stmts program s done d p long = no_more d p
  emits_stmts program s (next stmt others) d p long =
      let head = stmt_marks program s p stmt in
      let d1 = draft_with d p head in
      ap (λ (x : Draft). emit_stmts program s x others) (emits_stmt program s stmt d p long)
      ∙ emits_stmts program s others d1 (p + length head) (draft_long d p head long)
      ∙ more d p head (stmts_marks program s (p + length head) others)

  emits_branches : (program : plain.Plain) (s : ℕ) (branches : Branches) (c : Choice) (p : ℕ) → length c.draft.code ≡ p → emit_branches program s c branches ≡ choice_with c p (branches_marks program s p branches)
  emits_branches program s no_branch c p long = same_choice _ _ _ _ (no_more c.draft p) (sym (append-nil c.exits))
  emits_branches program s (branch guard body rest) c p long =
      let test = expr_code s p guard in
      let q = p + length test + 1 in
      let inside = stmts_marks program s q body in
      let after = q + length inside + 1 in
      let one = branch_marks test inside after in
      let opened = (c.draft.code ++ test) ++ i.Unless 0 ∷ [] in
      let ends = branch_long test inside p q after refl refl in
      let others = branches_marks program s after rest in
      ap (λ (l : List Instruction). emit_branches program s (closed c.exits (length l) (emit_stmts program s (coded c.draft l) body)) rest) (guarded_is s c.draft.code p guard long)
      ∙ ap (λ (x : Draft). emit_branches program s (closed c.exits (length opened) x) rest) (emits_stmts program s body (behind c.draft test) q (guarded_long c.draft.code test p long))
      ∙ ap (λ (x : Choice). emit_branches program s x rest) (closes c test inside p q after long refl refl (stmts_stay program s body q q))
      ∙ emits_branches program s rest (choice_with c p one) after (draft_long c.draft p one long ∙ ends)
      ∙ ap (λ (n : ℕ). choice_with (choice_with c p one) n others) (sym ends)
      ∙ choice_more c p one others
      ∙ ap (λ (ms : List Mark). choice_with c p ms) (branch_flat (fixed (test ++ i.Unless after ∷ [])) inside others (To Behind))

-- ---- methods

emits_body : (program : plain.Plain) (m : plain.Method) → emit_body program m ≡ body_code program m
emits_body program m =
    let s = scratch_of m in
    let marks = stmts_marks program s 0 m.body in
    let r = length marks in
    let nothing : Draft = record { code = []; breaks = []; returns = [] } in
    let tail = gets (length m.parameters) (length m.results) ++ give (length m.results) in
    let size : length (instructions_of unknown marks) ≡ r = instructions_long unknown marks in
    ap (λ (d : Draft). fill (i.Jump (length d.code)) d.returns (fill (i.Jump (length d.code)) d.breaks d.code) ++ tail) (emits_stmts program s m.body nothing 0 refl)
    ∙ ap (λ (n : ℕ). fill (i.Jump n) (places Ending 0 marks) (fill (i.Jump n) (places Outside 0 marks) (instructions_of unknown marks)) ++ tail) size
    ∙ ap (λ (l : List Instruction). fill (i.Jump r) (places Ending 0 marks) l ++ tail) (fills Outside unknown r marks [] 0 refl)
    ∙ ap (λ (l : List Instruction). l ++ tail) (fills Ending (with_outside r unknown) r marks [] 0 refl)

pub highest_least : (code : List Instruction) (n : ℕ) → n ≤ highest n code
highest_least [] n = omega arith
highest_least (i.Number k ∷ code) n = highest_least code n
highest_least (i.Truth b ∷ code) n = highest_least code n
highest_least (i.Char c ∷ code) n = highest_least code n
highest_least (i.Get k ∷ code) n = highest_least code n
highest_least (i.Set k ∷ code) n = let rest = highest_least code (max n k) in omega arith
highest_least (i.Drop ∷ code) n = highest_least code n
highest_least (i.Unary operator ∷ code) n = highest_least code n
highest_least (i.Binary operator ∷ code) n = highest_least code n
highest_least (i.Jump k ∷ code) n = highest_least code n
highest_least (i.Unless k ∷ code) n = highest_least code n
highest_least (i.Call k ∷ code) n = highest_least code n
highest_least (i.Return k ∷ code) n = highest_least code n
highest_least (i.Sequence k ∷ code) n = highest_least code n
highest_least (i.Print k ∷ code) n = highest_least code n

abbrev method_from : plain.Method → List Instruction → ℕ → Method
method_from m code locals = record { name = m.text; parameters = length m.parameters; results = length m.results; locals = locals; instructions = code }

pub emits_method : (program : plain.Plain) (m : plain.Method) → emit_method program m ≡ method_code program m
emits_method program m =
    let body = emits_body program m in
    let k = highest (scratch_of m) (body_code program m) in
    let least = highest_least (body_code program m) (scratch_of m) in
    let count : k - length m.parameters + 1 ≡ suc k - length m.parameters = omega (arith, least) in
    ap (λ (l : List Instruction). method_from m l (highest (scratch_of m) l - length m.parameters + 1)) body
    ∙ ap (λ (n : ℕ). method_from m (body_code program m) n) count
