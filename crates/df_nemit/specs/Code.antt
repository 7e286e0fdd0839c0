-- The instructions of a program. Places of instructions count from the method's first.
use Rattle.std.specs.Prelude.{ℕ, zero, suc, ◌+◌, ◌-◌, ◌^◌, pos, neg_ℤ, Bool, true, false, cond, nat_lt, List, [], ◌∷◌, ◌++◌, length, map, max, replicate, Option, None, Some}
use Rattle.df_lang.specs.declared.expr.AddendOperator.{AddendOperator}
use Rattle.df_lang.specs.declared.expr.AddendOperator.TheVariants as addends
use Rattle.df_lang.specs.declared.expr.FactorOperator.{FactorOperator}
use Rattle.df_lang.specs.declared.expr.FactorOperator.TheVariants as factors
use Rattle.df_lang.specs.declared.expr.Junction.{Junction as JunctionKind}
use Rattle.df_lang.specs.declared.expr.Junction.TheVariants as junctions
use Rattle.df_lang.specs.declared.expr.Comparison.{Comparison}
use Rattle.df_lang.specs.declared.expr.Comparison.TheVariants as comparisons
use Rattle.df_nplain.specs.Kind as kinds
use Rattle.df_nplain.specs.Expr.{Expr, Number, Truth, Character, Local, Negate, Not, Sum, Product, Junction, Implies, Iff, Chain, As, Addends, no_addend, addend, Factors, no_factor, factor, Members, no_member, member, Links, no_link, link}
use Rattle.df_nplain.specs.Stmt.{Operand, Text, Value, Call, Source, Single, Results, Update, Stmt, Block, Var, Assign, CallOf, If, While, Break, Return, Print, Stmts, done, next, Branches, no_branch, branch}
use Rattle.df_nplain.specs.Plain as plain
use Rattle.df_nplain.specs.Plain.{results_at}
use Rattle.df_nmach.specs.declared.instruction.Range.{Range}
use Rattle.df_nmach.specs.declared.instruction.UnaryOperator.TheVariants as unary
use Rattle.df_nmach.specs.declared.instruction.BinaryOperator.TheVariants as binary
use Rattle.df_nmach.specs.declared.instruction.Instruction.{Instruction}
use Rattle.df_nmach.specs.declared.instruction.Instruction.TheVariants as i
use Rattle.df_nmach.specs.declared.code.Shape.TheVariants as shapes
use Rattle.df_nmach.specs.State.{Method, Code}

-- ---- Jumps to places that come later.

-- Where such a jump goes: behind the run of operands or the choice in which it stands, behind the loop around it, or
-- to where the method returns its results.
pub data Exit : Type 0 where
  Behind : Exit
  Outside : Exit
  Ending : Exit

-- an instruction, or a jump to an exit
pub data Mark : Type 0 where
  Fixed : Instruction → Mark
  To : Exit → Mark

-- the place of each exit
pub record Exits : Type 0 where
  pub behind : ℕ
  pub outside : ℕ
  pub ending : ℕ

abbrev pub place_of : Exits → Exit → ℕ
place_of x Behind = x.behind
place_of x Outside = x.outside
place_of x Ending = x.ending

abbrev pub instruction_of : Exits → Mark → Instruction
instruction_of x (Fixed instruction) = instruction
instruction_of x (To exit) = i.Jump (place_of x exit)

-- places that are not known yet
abbrev pub unknown : Exits
unknown = record { behind = 0; outside = 0; ending = 0 }

abbrev pub with_behind : ℕ → Exits → Exits
with_behind place x = record { behind = place; outside = x.outside; ending = x.ending }

abbrev pub with_outside : ℕ → Exits → Exits
with_outside place x = record { behind = x.behind; outside = place; ending = x.ending }

abbrev pub with_ending : ℕ → Exits → Exits
with_ending place x = record { behind = x.behind; outside = x.outside; ending = place }

-- the run or the choice ends at the place
abbrev pub ending_at : ℕ → Mark → Mark
ending_at place (Fixed instruction) = Fixed instruction
ending_at place (To Behind) = Fixed (i.Jump place)
ending_at place (To Outside) = To Outside
ending_at place (To Ending) = To Ending

-- the loop ends at the place
abbrev pub leaving_at : ℕ → Mark → Mark
leaving_at place (Fixed instruction) = Fixed instruction
leaving_at place (To Behind) = To Behind
leaving_at place (To Outside) = Fixed (i.Jump place)
leaving_at place (To Ending) = To Ending

abbrev pub fixed : List Instruction → List Mark
fixed code = map Fixed code

-- ---- Expressions.

-- The frame's number of a local. The scratch local stands behind the parameters and the results, and the other locals
-- behind it.
abbrev pub slot : ℕ → ℕ → ℕ
slot scratch local = cond (nat_lt local scratch) local (local + 1)

-- what has no interval does not compile
abbrev pub range_of : kinds.Range → Range
range_of (kinds.Between low high) = record { low = low; high = high }
range_of kinds.Unbounded = record { low = neg_ℤ (pos (2 ^ 127)); high = pos (2 ^ 127 - 1) }

-- Pops a truth, and if it is true leaves the run with a truth. The first stands at the place.
abbrev pub decide : ℕ → Bool → List Mark
decide place truth = Fixed (i.Unless (place + 3)) ∷ Fixed (i.Truth truth) ∷ To Behind ∷ []

-- the same, if it is false
abbrev pub decide_unless : ℕ → Bool → List Mark
decide_unless place truth = Fixed (i.Unary unary.Not) ∷ decide (place + 1) truth

-- between two members of a junction: leaves the run where the left one decides it
abbrev pub between : JunctionKind → ℕ → List Mark
between junctions.And place = decide_unless place false
between junctions.Or place = decide place true

abbrev pub adds : AddendOperator → kinds.Range → Instruction
adds addends.Plus range = i.Binary (binary.Add (range_of range))
adds addends.Minus range = i.Binary (binary.Subtract (range_of range))

abbrev pub multiplies : FactorOperator → kinds.Range → Instruction
multiplies factors.Times range = i.Binary (binary.Multiply (range_of range))
multiplies factors.Divide range = i.Binary (binary.Divide (range_of range))
multiplies factors.Modulo range = i.Binary (binary.Modulo (range_of range))

-- compares the two on top
abbrev pub compare : Comparison → List Instruction
compare comparisons.Equal = i.Binary binary.Same ∷ []
compare comparisons.NotEqual = i.Binary binary.Same ∷ i.Unary unary.Not ∷ []
compare comparisons.Less = i.Binary binary.Less ∷ []
compare comparisons.AtMost = i.Binary binary.AtMost ∷ []
compare comparisons.Greater = i.Binary binary.AtMost ∷ i.Unary unary.Not ∷ []
compare comparisons.AtLeast = i.Binary binary.Less ∷ i.Unary unary.Not ∷ []

-- compares the two on top, leaves the chain if that is false, and has the right one on top again
abbrev pub keep : ℕ → ℕ → Comparison → List Mark
keep scratch place comparison =
    Fixed (i.Set scratch) ∷ Fixed (i.Get scratch) ∷ (fixed (compare comparison) ++ (decide_unless (place + (2 + length (compare comparison))) false ++ Fixed (i.Get scratch) ∷ []))

-- what stands behind the first operand of a chain of these comparisons: without one it is true
abbrev pub opening : Links → List Mark
opening no_link = Fixed i.Drop ∷ Fixed (i.Truth true) ∷ []
opening (link comparison operand rest) = []

-- what stands behind the right operand of a comparison, before these others
abbrev pub joint : ℕ → ℕ → Comparison → Links → List Mark
joint scratch place comparison no_link = fixed (compare comparison)
joint scratch place comparison (link second operand rest) = keep scratch place comparison

-- the number of a value of the kind
abbrev pub from_kind : kinds.Kind → List Instruction
from_kind kinds.Character = i.Unary unary.Code ∷ []
from_kind kind = []

-- the value of the kind of a number
abbrev pub to_kind : kinds.Kind → List Instruction
to_kind (kinds.Number (kinds.Between low high)) = i.Unary (unary.Fit (range_of (kinds.Between low high))) ∷ []
to_kind kinds.Character = i.Unary unary.Character ∷ []
to_kind kind = []

-- a run of operands that starts at the place
abbrev pub run_code : ℕ → List Mark → List Instruction
run_code place marks = map (instruction_of (with_behind (place + length marks) unknown)) marks

abbrev mutual
  -- Pushes the value of an expression. The first instruction stands at the place.
  pub expr_code : ℕ → ℕ → Expr → List Instruction
  expr_code scratch place (Number value) = i.Number value ∷ []
  expr_code scratch place (Truth value) = i.Truth value ∷ []
  expr_code scratch place (Character code) = i.Char code ∷ []
  expr_code scratch place (Local local) = i.Get (slot scratch local) ∷ []
  expr_code scratch place (Negate range operand) = expr_code scratch place operand ++ i.Unary (unary.Negate (range_of range)) ∷ []
  expr_code scratch place (Not operand) = expr_code scratch place operand ++ i.Unary unary.Not ∷ []
  expr_code scratch place (Sum range first rest) =
      let head = expr_code scratch place first in head ++ addends_code scratch (place + length head) range rest
  expr_code scratch place (Product range first rest) =
      let head = expr_code scratch place first in head ++ factors_code scratch (place + length head) range rest
  expr_code scratch place (Junction junction first rest) =
      let head = expr_code scratch place first in
      let start = place + length head in
      head ++ run_code start (junction_marks scratch start junction rest)
  expr_code scratch place (Implies first rest) =
      let head = expr_code scratch place first in
      let start = place + length head in
      head ++ run_code start (implication_marks scratch start rest)
  expr_code scratch place (Iff first rest) =
      let head = expr_code scratch place first in head ++ equivalences_code scratch (place + length head) rest
  expr_code scratch place (Chain first rest) =
      let head = expr_code scratch place first in
      let start = place + length head in
      head ++ run_code start (opening rest ++ links_marks scratch (start + length (opening rest)) rest)
  expr_code scratch place (As source target operand) = expr_code scratch place operand ++ (from_kind source ++ to_kind target)

  -- goes on from a left operand
  pub addends_code : ℕ → ℕ → kinds.Range → Addends → List Instruction
  addends_code scratch place range no_addend = []
  addends_code scratch place range (addend operator operand rest) =
      let value = expr_code scratch place operand in
      value ++ (adds operator range ∷ addends_code scratch (place + length value + 1) range rest)

  pub factors_code : ℕ → ℕ → kinds.Range → Factors → List Instruction
  factors_code scratch place range no_factor = []
  factors_code scratch place range (factor operator operand rest) =
      let value = expr_code scratch place operand in
      value ++ (multiplies operator range ∷ factors_code scratch (place + length value + 1) range rest)

  pub junction_marks : ℕ → ℕ → JunctionKind → Members → List Mark
  junction_marks scratch place junction no_member = []
  junction_marks scratch place junction (member operand rest) =
      let front = between junction place in
      let value = expr_code scratch (place + length front) operand in
      front ++ (fixed value ++ junction_marks scratch (place + length front + length value) junction rest)

  pub implication_marks : ℕ → ℕ → Members → List Mark
  implication_marks scratch place no_member = []
  implication_marks scratch place (member operand rest) =
      let front = decide_unless place true in
      let value = expr_code scratch (place + length front) operand in
      front ++ (fixed value ++ implication_marks scratch (place + length front + length value) rest)

  pub equivalences_code : ℕ → ℕ → Members → List Instruction
  equivalences_code scratch place no_member = []
  equivalences_code scratch place (member operand rest) =
      let value = expr_code scratch place operand in
      value ++ (i.Binary binary.Same ∷ equivalences_code scratch (place + length value + 1) rest)

  pub links_marks : ℕ → ℕ → Links → List Mark
  links_marks scratch place no_link = []
  links_marks scratch place (link comparison operand rest) =
      let value = expr_code scratch place operand in
      let test = joint scratch (place + length value) comparison rest in
      fixed value ++ (test ++ links_marks scratch (place + length value + length test) rest)

-- expressions in order
abbrev pub exprs_code : ℕ → ℕ → List Expr → List Instruction
exprs_code scratch place [] = []
exprs_code scratch place (e ∷ others) =
    let head = expr_code scratch place e in head ++ exprs_code scratch (place + length head) others

-- ---- Statements.

-- pushes the arguments, and then the results
abbrev pub call_code : ℕ → ℕ → Call → List Instruction
call_code scratch place call = exprs_code scratch place call.arguments ++ i.Call call.callee ∷ []

abbrev pub source_code : ℕ → ℕ → Source → List Instruction
source_code scratch place (Single value) = expr_code scratch place value
source_code scratch place (Results call) = call_code scratch place call

abbrev pub sources_code : ℕ → ℕ → List Source → List Instruction
sources_code scratch place [] = []
sources_code scratch place (source ∷ others) =
    let head = source_code scratch place source in head ++ sources_code scratch (place + length head) others

-- pops values into their places: the last one is on top
abbrev pub sets_code : ℕ → List ℕ → List Instruction
sets_code scratch [] = []
sets_code scratch (target ∷ targets) = sets_code scratch targets ++ i.Set (slot scratch target) ∷ []

-- all values are pushed before any is popped into its place
abbrev pub update_code : ℕ → ℕ → Update → List Instruction
update_code scratch place update = sources_code scratch place update.sources ++ sets_code scratch update.targets

abbrev pub optional_code : ℕ → ℕ → Option Update → List Instruction
optional_code scratch place None = []
optional_code scratch place (Some update) = update_code scratch place update

-- the shapes of the code by their numbers
abbrev pub shape_of : kinds.Kind → ℕ
shape_of (kinds.Number range) = 0
shape_of kinds.Truth = 1
shape_of kinds.Character = 2

-- prints a text that is not empty
abbrev pub text_code : List ℕ → List Instruction
text_code [] = []
text_code (c ∷ cs) = map i.Char (c ∷ cs) ++ i.Sequence (length (c ∷ cs)) ∷ i.Print 3 ∷ []

abbrev pub operand_code : ℕ → ℕ → Operand → List Instruction
operand_code scratch place (Text characters) = text_code characters
operand_code scratch place (Value kind value) = expr_code scratch place value ++ i.Print (shape_of kind) ∷ []

abbrev pub operands_code : ℕ → ℕ → List Operand → List Instruction
operands_code scratch place [] = []
operands_code scratch place (operand ∷ others) =
    let head = operand_code scratch place operand in head ++ operands_code scratch (place + length head) others

abbrev mutual
  -- a statement in a method of the program; the first instruction stands at the place
  pub stmt_marks : plain.Plain → ℕ → ℕ → Stmt → List Mark
  stmt_marks program scratch place (Block body) = stmts_marks program scratch place body
  stmt_marks program scratch place (Var variables update) = fixed (optional_code scratch place update)
  stmt_marks program scratch place (Assign update) = fixed (update_code scratch place update)
  stmt_marks program scratch place (CallOf call) = fixed (call_code scratch place call ++ replicate (results_at program call.callee) i.Drop)
  stmt_marks program scratch place (If branches otherwise) =
      let choices = branches_marks program scratch place branches in
      let others = stmts_marks program scratch (place + length choices) otherwise in
      map (ending_at (place + length choices + length others)) (choices ++ others)
  stmt_marks program scratch place (While guard body) =
      let test = expr_code scratch place guard in
      let inside = stmts_marks program scratch (place + length test + 1) body in
      let after = place + length test + 1 + length inside + 1 in
      fixed (test ++ i.Unless after ∷ []) ++ (map (leaving_at after) inside ++ Fixed (i.Jump place) ∷ [])
  stmt_marks program scratch place Break = To Outside ∷ []
  stmt_marks program scratch place (Return update) = fixed (optional_code scratch place update) ++ To Ending ∷ []
  stmt_marks program scratch place (Print operands) = fixed (operands_code scratch place operands)

  -- statements in order
  pub stmts_marks : plain.Plain → ℕ → ℕ → Stmts → List Mark
  stmts_marks program scratch place done = []
  stmts_marks program scratch place (next stmt others) =
      let head = stmt_marks program scratch place stmt in head ++ stmts_marks program scratch (place + length head) others

  -- each guard that is false jumps behind its statements and the jump behind the choice
  pub branches_marks : plain.Plain → ℕ → ℕ → Branches → List Mark
  branches_marks program scratch place no_branch = []
  branches_marks program scratch place (branch guard body rest) =
      let test = expr_code scratch place guard in
      let inside = stmts_marks program scratch (place + length test + 1) body in
      let after = place + length test + 1 + length inside + 1 in
      fixed (test ++ i.Unless after ∷ []) ++ (inside ++ (To Behind ∷ branches_marks program scratch after rest))

-- ---- Methods.

-- pushes so many locals from one on
abbrev pub gets : ℕ → ℕ → List Instruction
gets first zero = []
gets first (suc count) = i.Get first ∷ gets (suc first) count

-- the parameters and the results, behind which the scratch local stands
abbrev pub scratch_of : plain.Method → ℕ
scratch_of m = length m.parameters + length m.results

-- The body, and then the results are returned. No break is out of no loop.
abbrev pub body_code : plain.Plain → plain.Method → List Instruction
body_code program m =
    let marks = stmts_marks program (scratch_of m) 0 m.body in
    map (instruction_of (with_ending (length marks) (with_outside (length marks) unknown))) marks ++ (gets (length m.parameters) (length m.results) ++ i.Return (length m.results) ∷ [])

-- the highest local that an instruction pops into, or this one
abbrev pub highest : ℕ → List Instruction → ℕ
highest local [] = local
highest local (i.Set other ∷ instructions) = highest (max local other) instructions
highest local (instruction ∷ instructions) = highest local instructions

abbrev pub method_code : plain.Plain → plain.Method → Method
method_code program m = record {
  name = m.text;
  parameters = length m.parameters;
  results = length m.results;
  locals = suc (highest (scratch_of m) (body_code program m)) - length m.parameters;
  instructions = body_code program m;
}

abbrev pub plain_code : plain.Plain → Code
plain_code program = record {
  methods = map (method_code program) program.methods;
  shapes = shapes.Number ∷ shapes.Truth ∷ shapes.Char ∷ shapes.Text ∷ [];
}
