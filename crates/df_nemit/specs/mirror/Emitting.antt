-- What the emitter makes of the code so far, as its functions go: what private contracts cite.
use Rattle.std.specs.Prelude.{ℕ, ◌+◌, ◌-◌, Bool, true, false, List, [], ◌∷◌, ◌++◌, length, replicate, slice_set, Option, None, Some}
use Rattle.df_lang.specs.declared.expr.Junction.{Junction as JunctionKind}
use Rattle.df_lang.specs.declared.expr.Junction.TheVariants as junctions
use Rattle.df_lang.specs.declared.expr.Comparison.{Comparison}
use Rattle.df_nplain.specs.Kind as kinds
use Rattle.df_nplain.specs.Expr.{Expr, Number, Truth, Character, Local, Negate, Not, Sum, Product, Junction, Implies, Iff, Chain, As, Addends, no_addend, addend, Factors, no_factor, factor, Members, no_member, member, Links, no_link, link}
use Rattle.df_nplain.specs.Stmt.{Operand, Text, Value, Call, Source, Single, Results, Update, Stmt, Block, Var, Assign, CallOf, If, While, Break, Return, Print, Stmts, done, next, Branches, no_branch, branch}
use Rattle.df_nplain.specs.Plain as plain
use Rattle.df_nplain.specs.Plain.{results_at}
use Rattle.df_nmach.specs.declared.instruction.UnaryOperator.TheVariants as unary
use Rattle.df_nmach.specs.declared.instruction.BinaryOperator.{BinaryOperator}
use Rattle.df_nmach.specs.declared.instruction.BinaryOperator.TheVariants as binary
use Rattle.df_nmach.specs.declared.instruction.Instruction.{Instruction}
use Rattle.df_nmach.specs.declared.instruction.Instruction.TheVariants as i
use Rattle.df_nmach.specs.State.{Method}
use Rattle.df_nemit.specs.Code.{slot, range_of, adds, multiplies, compare, from_kind, to_kind, sets_code, shape_of, text_code, gets, scratch_of, highest}

-- a comparison by an operator, or by its opposite
abbrev pub compare_by : BinaryOperator → Bool → List Instruction
compare_by operator false = i.Binary operator ∷ []
compare_by operator true = i.Binary operator ∷ i.Unary unary.Not ∷ []

-- ---- Runs of operands, and the places of the jumps out of them.

pub record Run : Type 0 where
  pub code : List Instruction
  pub exits : List ℕ

-- the instruction at these places
abbrev pub fill : Instruction → List ℕ → List Instruction → List Instruction
fill instruction [] code = code
fill instruction (place ∷ places) code = fill instruction places (slice_set code place instruction)

abbrev pub begun : List Instruction → Run
begun code = record { code = code; exits = [] }

abbrev pub put : Run → Instruction → Run
put r instruction = record { code = r.code ++ instruction ∷ []; exits = r.exits }

abbrev pub put_all : Run → List Instruction → Run
put_all r instructions = record { code = r.code ++ instructions; exits = r.exits }

-- a jump to the end, which comes later
abbrev pub leave : Run → Run
leave r = record { code = r.code ++ i.Jump 0 ∷ []; exits = r.exits ++ length r.code ∷ [] }

-- the jumps go to the end
abbrev pub landed : Run → List Instruction
landed r = fill (i.Jump (length r.code)) r.exits r.code

abbrev pub decided : Run → Bool → Run
decided r truth = leave (put (put r (i.Unless (length r.code + 3))) (i.Truth truth))

abbrev pub decided_unless : Run → Bool → Run
decided_unless r truth = decided (put r (i.Unary unary.Not)) truth

abbrev pub put_between : Run → JunctionKind → Run
put_between r junctions.And = decided_unless r false
put_between r junctions.Or = decided r true

abbrev pub kept : ℕ → Run → Comparison → Run
kept scratch r comparison = put (decided_unless (put_all (put (put r (i.Set scratch)) (i.Get scratch)) (compare comparison)) false) (i.Get scratch)

-- behind the first operand of a chain of these comparisons
abbrev pub opened : Run → Links → Run
opened r no_link = put (put r i.Drop) (i.Truth true)
opened r (link comparison operand rest) = r

-- behind the right operand of a comparison, which is the last one or is not
abbrev pub joined : ℕ → Run → Comparison → Links → Run
joined scratch r comparison no_link = put_all r (compare comparison)
joined scratch r comparison (link second operand rest) = kept scratch r comparison

abbrev pub with_code : Run → List Instruction → Run
with_code r code = record { code = code; exits = r.exits }

abbrev mutual
  pub emit_expr : ℕ → List Instruction → Expr → List Instruction
  emit_expr scratch code (Number value) = code ++ i.Number value ∷ []
  emit_expr scratch code (Truth value) = code ++ i.Truth value ∷ []
  emit_expr scratch code (Character character) = code ++ i.Char character ∷ []
  emit_expr scratch code (Local local) = code ++ i.Get (slot scratch local) ∷ []
  emit_expr scratch code (Negate range operand) = emit_expr scratch code operand ++ i.Unary (unary.Negate (range_of range)) ∷ []
  emit_expr scratch code (Not operand) = emit_expr scratch code operand ++ i.Unary unary.Not ∷ []
  emit_expr scratch code (Sum range first rest) = emit_addends scratch (emit_expr scratch code first) range rest
  emit_expr scratch code (Product range first rest) = emit_factors scratch (emit_expr scratch code first) range rest
  emit_expr scratch code (Junction junction first rest) = landed (emit_junction scratch (begun (emit_expr scratch code first)) junction rest)
  emit_expr scratch code (Implies first rest) = landed (emit_implications scratch (begun (emit_expr scratch code first)) rest)
  emit_expr scratch code (Iff first rest) = emit_equivalences scratch (emit_expr scratch code first) rest
  emit_expr scratch code (Chain first rest) = landed (emit_links scratch (opened (begun (emit_expr scratch code first)) rest) rest)
  emit_expr scratch code (As source target operand) = (emit_expr scratch code operand ++ from_kind source) ++ to_kind target

  pub emit_addends : ℕ → List Instruction → kinds.Range → Addends → List Instruction
  emit_addends scratch code range no_addend = code
  emit_addends scratch code range (addend operator operand rest) = emit_addends scratch (emit_expr scratch code operand ++ adds operator range ∷ []) range rest

  pub emit_factors : ℕ → List Instruction → kinds.Range → Factors → List Instruction
  emit_factors scratch code range no_factor = code
  emit_factors scratch code range (factor operator operand rest) = emit_factors scratch (emit_expr scratch code operand ++ multiplies operator range ∷ []) range rest

  pub emit_junction : ℕ → Run → JunctionKind → Members → Run
  emit_junction scratch r junction no_member = r
  emit_junction scratch r junction (member operand rest) =
      let front = put_between r junction in
      emit_junction scratch (with_code front (emit_expr scratch front.code operand)) junction rest

  pub emit_implications : ℕ → Run → Members → Run
  emit_implications scratch r no_member = r
  emit_implications scratch r (member operand rest) =
      let front = decided_unless r true in
      emit_implications scratch (with_code front (emit_expr scratch front.code operand)) rest

  pub emit_equivalences : ℕ → List Instruction → Members → List Instruction
  emit_equivalences scratch code no_member = code
  emit_equivalences scratch code (member operand rest) = emit_equivalences scratch (emit_expr scratch code operand ++ i.Binary binary.Same ∷ []) rest

  pub emit_links : ℕ → Run → Links → Run
  emit_links scratch r no_link = r
  emit_links scratch r (link comparison operand rest) = emit_links scratch (joined scratch (with_code r (emit_expr scratch r.code operand)) comparison rest) rest

-- ---- Statements.

abbrev pub emit_exprs : ℕ → List Instruction → List Expr → List Instruction
emit_exprs scratch code [] = code
emit_exprs scratch code (e ∷ others) = emit_exprs scratch (emit_expr scratch code e) others

abbrev pub emit_call : ℕ → List Instruction → Call → List Instruction
emit_call scratch code call = emit_exprs scratch code call.arguments ++ i.Call call.callee ∷ []

abbrev pub emit_source : ℕ → List Instruction → Source → List Instruction
emit_source scratch code (Single value) = emit_expr scratch code value
emit_source scratch code (Results call) = emit_call scratch code call

abbrev pub emit_sources : ℕ → List Instruction → List Source → List Instruction
emit_sources scratch code [] = code
emit_sources scratch code (source ∷ others) = emit_sources scratch (emit_source scratch code source) others

abbrev pub emit_update : ℕ → List Instruction → Update → List Instruction
emit_update scratch code update = emit_sources scratch code update.sources ++ sets_code scratch update.targets

abbrev pub emit_optional : ℕ → List Instruction → Option Update → List Instruction
emit_optional scratch code None = code
emit_optional scratch code (Some update) = emit_update scratch code update

abbrev pub emit_operand : ℕ → List Instruction → Operand → List Instruction
emit_operand scratch code (Text characters) = code ++ text_code characters
emit_operand scratch code (Value kind value) = emit_expr scratch code value ++ i.Print (shape_of kind) ∷ []

abbrev pub emit_operands : ℕ → List Instruction → List Operand → List Instruction
emit_operands scratch code [] = code
emit_operands scratch code (operand ∷ others) = emit_operands scratch (emit_operand scratch code operand) others

-- the code so far, and the places of the jumps out of the loop and to the method's end
pub record Draft : Type 0 where
  pub code : List Instruction
  pub breaks : List ℕ
  pub returns : List ℕ

abbrev pub coded : Draft → List Instruction → Draft
coded d code = record { code = code; breaks = d.breaks; returns = d.returns }

abbrev pub put_break : Draft → Draft
put_break d = record { code = d.code ++ i.Jump 0 ∷ []; breaks = d.breaks ++ length d.code ∷ []; returns = d.returns }

abbrev pub put_return : Draft → Draft
put_return d = record { code = d.code ++ i.Jump 0 ∷ []; breaks = d.breaks; returns = d.returns ++ length d.code ∷ [] }

-- a guard, and the jump over what it guards, which is filled in later
abbrev pub guarded : ℕ → List Instruction → Expr → List Instruction
guarded scratch code guard = emit_expr scratch code guard ++ i.Unless 0 ∷ []

-- the last instruction so far goes to this place
abbrev pub passing : ℕ → ℕ → List Instruction → List Instruction
passing opened place code = slice_set code (opened - 1) (i.Unless place)

-- in a loop
abbrev pub entered : Draft → Draft
entered d = record { code = d.code; breaks = []; returns = d.returns }

-- Out of a loop that began at the place, and behind whose guard the first draft was. The breaks are those before.
abbrev pub left : ℕ → Draft → Draft → Draft
left start d inside =
    let after = length inside.code + 1 in
    record {
      code = passing (length d.code) after (fill (i.Jump after) inside.breaks inside.code) ++ i.Jump start ∷ [];
      breaks = d.breaks;
      returns = inside.returns;
    }

-- a draft, and the places of the jumps behind the choice
pub record Choice : Type 0 where
  pub draft : Draft
  pub exits : List ℕ

-- behind the statements of a branch
abbrev pub closed : List ℕ → ℕ → Draft → Choice
closed exits opened inside =
    let code = inside.code ++ i.Jump 0 ∷ [] in
    record { draft = coded inside (passing opened (length code) code); exits = exits ++ length inside.code ∷ [] }

abbrev pub chosen : List ℕ → Draft → Draft
chosen exits d = coded d (fill (i.Jump (length d.code)) exits d.code)

abbrev mutual
  pub emit_stmt : plain.Plain → ℕ → Draft → Stmt → Draft
  emit_stmt program scratch d (Block body) = emit_stmts program scratch d body
  emit_stmt program scratch d (Var variables update) = coded d (emit_optional scratch d.code update)
  emit_stmt program scratch d (Assign update) = coded d (emit_update scratch d.code update)
  emit_stmt program scratch d (CallOf call) = coded d (emit_call scratch d.code call ++ replicate (results_at program call.callee) i.Drop)
  emit_stmt program scratch d (If branches otherwise) =
      let choice = emit_branches program scratch (record { draft = d; exits = [] }) branches in
      chosen choice.exits (emit_stmts program scratch choice.draft otherwise)
  emit_stmt program scratch d (While guard body) =
      let opened = coded d (guarded scratch d.code guard) in
      left (length d.code) opened (emit_stmts program scratch (entered opened) body)
  emit_stmt program scratch d Break = put_break d
  emit_stmt program scratch d (Return update) = put_return (coded d (emit_optional scratch d.code update))
  emit_stmt program scratch d (Print operands) = coded d (emit_operands scratch d.code operands)

  pub emit_stmts : plain.Plain → ℕ → Draft → Stmts → Draft
  emit_stmts program scratch d done = d
  emit_stmts program scratch d (next stmt others) = emit_stmts program scratch (emit_stmt program scratch d stmt) others

  pub emit_branches : plain.Plain → ℕ → Choice → Branches → Choice
  emit_branches program scratch c no_branch = c
  emit_branches program scratch c (branch guard body rest) =
      let opened = guarded scratch c.draft.code guard in
      emit_branches program scratch (closed c.exits (length opened) (emit_stmts program scratch (coded c.draft opened) body)) rest

abbrev pub emit_branch : plain.Plain → ℕ → Choice → Expr → Stmts → Choice
emit_branch program scratch c guard body =
    let opened = guarded scratch c.draft.code guard in
    closed c.exits (length opened) (emit_stmts program scratch (coded c.draft opened) body)

abbrev pub emit_turns : plain.Plain → ℕ → ℕ → Draft → Stmts → Draft
emit_turns program scratch start d body = left start d (emit_stmts program scratch (entered d) body)

-- ---- Methods.

-- returns so many
abbrev pub give : ℕ → List Instruction
give count = i.Return count ∷ []

abbrev pub emit_body : plain.Plain → plain.Method → List Instruction
emit_body program m =
    let d = emit_stmts program (scratch_of m) (record { code = []; breaks = []; returns = [] }) m.body in
    fill (i.Jump (length d.code)) d.returns (fill (i.Jump (length d.code)) d.breaks d.code) ++ (gets (length m.parameters) (length m.results) ++ i.Return (length m.results) ∷ [])

abbrev pub emit_method : plain.Plain → plain.Method → Method
emit_method program m =
    let code = emit_body program m in
    record {
      name = m.text;
      parameters = length m.parameters;
      results = length m.results;
      locals = highest (scratch_of m) code - length m.parameters + 1;
      instructions = code;
    }
