-- The walk over clauses and over what is printed.
use Rattle.std.proofs.Common.{◌≡◌, ℕ, suc, ◌+◌, ◌≤◌, Bool, true, false, List, [], ◌∷◌, ◌++◌, length, Option, Some, Ok, refl, sym, subst, inr, arith, append-nil}
use Rattle.std.specs.List.{AllByRecursion, flat_map, list_all, list_any}
use Rattle.df_base.specs.declared.pos.Pos.{Pos}
use Rattle.df_lang.specs.Expr as typed_expr
use Rattle.df_lang.specs.Stmt as typed
use Rattle.df_ntree.specs.Spelling.{separated}
use Rattle.df_ntree.specs.declared.file.ConditionKind.{ConditionKind}
use Rattle.df_ntree.specs.declared.file.ConditionKind.TheVariants as conditions
use Rattle.df_ntree.specs.Expr.{Expr}
use Rattle.df_ntree.specs.ExprSpelling.{spell, IsExpr}
use Rattle.df_ntree.specs.File.{Clause, Condition, Decreases, PrintOperand, Text, Value}
use Rattle.df_ntree.specs.FileSpelling.{spell_clause, spell_operand, IsClause, IsOperand}
use Rattle.df_ntyping.specs.Literals.{AreInRange}
use Rattle.df_ntyping.specs.Environment.{Environment}
use Rattle.df_ntyping.specs.Places.{beginning_of}
use Rattle.df_ntyping.specs.Node as nodes
use Rattle.df_ntyping.specs.Node.{Occurrence, Owner}
use Rattle.df_ntyping.specs.ExprNodes.{width, occurrence, expr_nodes, condition_nodes, exprs_nodes}
use Rattle.df_ntyping.specs.StatementNodes.{widths, clause_nodes, clause_widths, operand_nodes}
use Rattle.df_ntyping.specs.Rule.{Rule, Typing}
use Rattle.df_ntyping.specs.Rule as rules
use Rattle.df_ntyping.specs.Breaks.{breaks}
use Rattle.df_ntyping.specs.LocalTypes.{names_in, used_in_clause, used_in_operand}
use Rattle.df_ntyping.specs.ExprElaboration.{ElaboratesTruth}
use Rattle.df_ntyping.specs.StatementElaboration.{conditions_of, AreConditions, measures_in, AreMeasures, MayDecrease, IsDecreases, AreOperands}
use Rattle.df_ntyping.specs.StatementElaboration as elaboration
use Rattle.df_ntyping.specs.rules.Loops.{belongs, is_decreases}
use Rattle.df_ntyping.specs.Wanted as wanteds
use Rattle.df_ntyping.specs.mirror.Parts.{Typed, or_start}
use Rattle.df_ntyping.proofs.AllNodes.{only}
use Rattle.df_ntyping.proofs.ExprOrder.{expr_order}
use Rattle.df_ntyping.proofs.FirstFault.{NoNames, named_left, named_right}
use Rattle.df_ntyping.proofs.Found.{AllBeyond, beyond_one, beyond_segment}
use Rattle.df_ntyping.proofs.SideOrder.{condition_order, exprs_order, separated_widths}
use Rattle.df_ntyping.proofs.Order.{Segment, no_nodes}
use Rattle.df_ntyping.proofs.PartOrder as parts
use Rattle.df_ntyping.proofs.PartOrder.{later, clause_order, operands_order}
use Rattle.df_ntyping.proofs.Ranges.{separated_parts}
use Rattle.df_ntyping.proofs.SoundNodes as kinds
use Rattle.df_ntyping.proofs.SoundNodes.{sound}
use Rattle.df_ntyping.proofs.Standing.{begins_there}
use Rattle.df_ntyping.proofs.Verdict.{HaveTypes, types_left, types_right}
use Rattle.df_ntstmt.specs.mirror.Steps.{and_then, broken, unless, typed_in}
use Rattle.df_ntstmt.specs.mirror.Clauses as mirror
use Rattle.df_ntstmt.specs.mirror.Clauses.{Clauses, no_clauses, a_condition, a_measure, both_measures, both, condition_in, clause_in, over_kind, clauses_in, operand_in, operands_in}
use Rattle.df_ntstmt.proofs.Judging.{met_typing, Judged, judged_then, judged_map, judged_none, silent_sound}
use Rattle.df_ntstmt.proofs.ExprsTold.{IsTyped, expr_told}
use Rattle.df_ntstmt.proofs.SourcesTold.{AreRead}

-- ---- measures

more_measures : (env : Environment) (e : Expr) (others : List Expr) (t : Typed) (rest : List typed.Measure) → IsTyped env wanteds.Nothing e t → AreMeasures env others rest → AreMeasures env (e ∷ others) (record { ty = t.ty; value = t.expr } ∷ rest)
more_measures env e others t rest h k = (t.ty, t.expr, rest, h, k, refl)

measures_told : (env : Environment) (start : ℕ) (es : List Expr) → AllByRecursion IsExpr es → AreRead es → HaveTypes env (flat_map names_in es) → NoNames (exprs_nodes env start es) → Judged (exprs_nodes env start es) (AreMeasures env es) (mirror.measures_in env es)
measures_told env start [] x r t n = judged_none (AreMeasures env []) [] refl
measures_told env start (e ∷ others) x r t n =
    let here = expr_nodes env start e in
    let behind = exprs_nodes env (start + width e + 1) others in
    judged_then start start (start + width e) here behind (IsTyped env wanteds.Nothing e) (AreMeasures env (e ∷ others)) (typed_in env wanteds.Nothing e)
    (λ (one : Typed). and_then (mirror.measures_in env others) (λ (rest : List typed.Measure). Ok (record { ty = one.ty; value = one.expr } ∷ rest)))
    (expr_order env start e x.0)
    (beyond_segment start (start + width e) (start + width e + 1) (start + width e + 1) (start + width e + 1 + widths others) behind (exprs_order env (start + width e + 1) others x.1) (omega arith))
    (expr_told env start wanteds.Nothing e x.0 r.0 (types_left env (names_in e) (flat_map names_in others) t) (named_left here behind n))
    (λ one h.
    judged_map behind (AreMeasures env others) (AreMeasures env (e ∷ others)) (mirror.measures_in env others) (λ (rest : List typed.Measure). record { ty = one.ty; value = one.expr } ∷ rest)
    (measures_told env (start + width e + 1) others x.1 r.1 (types_right env (names_in e) (flat_map names_in others) t) (named_right here behind n)) (λ rest k. more_measures env e others one rest h k))

measures_joined : (env : Environment) (es others : List Expr) (ms rest : List typed.Measure) → AreMeasures env es ms → AreMeasures env others rest → AreMeasures env (es ++ others) (ms ++ rest)
measures_joined env [] others ms rest h k = rw h k
measures_joined env (e ∷ es) others ms rest (ty, value, more, h, hs, q) k = (ty, value, more ++ rest, h, measures_joined env es others more rest hs k, rw q refl)

-- without `decreases` no measure is given
none_measured : (clauses : List Clause) → list_any is_decreases clauses ≡ false → measures_in clauses ≡ []
none_measured [] p = refl
none_measured (Condition kind pos e ∷ others) p = none_measured others p
none_measured (Decreases pos values ∷ others) p = absurd cc

-- ---- one clause

abbrev IsSaidBy : Environment → Clause → Clauses → Type 0
IsSaidBy env (Condition kind pos e) said = (t : typed_expr.Expr) × ElaboratesTruth env e t × (said ≡ a_condition kind (record { pos = or_start (beginning_of e); condition = t }))
IsSaidBy env (Decreases pos values) said = (measures : List typed.Measure) × AreMeasures env values measures × (said ≡ a_measure measures)

abbrev pub IsSaid : Environment → Owner → Clause → Clauses → Type 0
IsSaid env owner clause said = (belongs owner clause ≡ true) × IsSaidBy env clause said

clause_only : (env : Environment) (owner : Owner) (clause : Clause) (rule : Rule) → breaks env (nodes.ClauseOf owner clause) rule ≡ true → rule ≡ Typing rules.Clauses
clause_only env owner clause (Typing rules.Clauses) h = refl
clause_only env owner clause rule h = absurd cc

abbrev clause_at : Environment → Owner → ℕ → Clause → Occurrence
clause_at env owner start clause = occurrence env (nodes.ClauseOf owner clause) start (start + length (spell_clause clause))

belongs_told : (env : Environment) (owner : Owner) (start : ℕ) (clause : Clause) (said : Clauses) → NoNames (clause_at env owner start clause ∷ []) → IsSaidBy env clause said
    → Judged (clause_at env owner start clause ∷ []) (IsSaid env owner clause) (and_then (unless (belongs owner clause) (broken rules.Clauses (nodes.clause_pos clause))) (λ (held : Unit {0}). Ok said))
belongs_told env owner start clause said n h = by_owner (belongs owner clause) refl where
  one : Occurrence
  one = clause_at env owner start clause

  by_owner : (b : Bool) → belongs owner clause ≡ b → Judged (one ∷ []) (IsSaid env owner clause) (and_then (unless b (broken rules.Clauses (nodes.clause_pos clause))) (λ (held : Unit {0}). Ok said))
  by_owner true p = (silent_sound (one ∷ []) (only (sound (kinds.clause_of env owner clause p))) n, (p, h))
  by_owner false p = met_typing one rules.Clauses (nodes.clause_pos clause) (rw p refl) (clause_only env owner clause) refl

-- the clause begins before what stands in it
clause_beyond : (env : Environment) (owner : Owner) (start high : ℕ) (clause : Clause) → high ≤ start + length (spell_clause clause) → AllBeyond (suc start) high (clause_at env owner start clause ∷ [])
clause_beyond env owner start high clause p = beyond_one (suc start) high (clause_at env owner start clause) (inr (p, omega arith))

condition_told : (env : Environment) (start : ℕ) (kind : ConditionKind) (pos : Pos) (e : Expr) → IsExpr e → AreInRange (spell e) → HaveTypes env (names_in e) → NoNames (condition_nodes env start e)
    → Judged (condition_nodes env start e) (IsSaidBy env (Condition kind pos e)) (condition_in env kind e)
condition_told env start kind pos e x r t n =
    judged_map (condition_nodes env start e) (IsTyped env wanteds.Truth e) (IsSaidBy env (Condition kind pos e)) (typed_in env wanteds.Truth e) (λ (one : Typed). a_condition kind (record { pos = or_start (beginning_of e); condition = one.expr }))
    (expr_told env start wanteds.Truth e x r t n) (λ one h. (one.expr, h.0, refl))

clause_told : (env : Environment) (owner : Owner) (start : ℕ) (clause : Clause) → IsClause clause → AreInRange (spell_clause clause) → HaveTypes env (used_in_clause clause) → NoNames (clause_nodes env owner start clause)
    → Judged (clause_nodes env owner start clause) (IsSaid env owner clause) (clause_in env owner clause)
clause_told env owner start (Condition kind pos e) x r t n =
    let clause = Condition kind pos e in
    let here = condition_nodes env (suc start) e in
    let one = clause_at env owner start clause in
    judged_then (suc start) (suc start) (suc start + width e) here (one ∷ []) (IsSaidBy env clause) (IsSaid env owner clause) (condition_in env kind e)
    (λ (said : Clauses). and_then (unless (belongs owner clause) (broken rules.Clauses pos)) (λ (held : Unit {0}). Ok said))
    (condition_order env (suc start) e x) (clause_beyond env owner start (suc start + width e) clause (omega arith))
    (condition_told env (suc start) kind pos e x r t (named_left here (one ∷ []) n)) (λ said h. belongs_told env owner start clause said (named_right here (one ∷ []) n) h)
clause_told env owner start (Decreases pos values) x r t n =
    let clause = Decreases pos values in
    let here = exprs_nodes env (suc start) values in
    let one = clause_at env owner start clause in
    judged_then (suc start) (suc start) (suc start + widths values) here (one ∷ []) (AreMeasures env values) (IsSaid env owner clause) (mirror.measures_in env values)
    (λ (measures : List typed.Measure). and_then (unless (belongs owner clause) (broken rules.Clauses pos)) (λ (held : Unit {0}). Ok (a_measure measures)))
    (exprs_order env (suc start) values x.1) (clause_beyond env owner start (suc start + widths values) clause (omega (arith, separated_widths values)))
    (measures_told env (suc start) values x.1 (separated_parts spell values r) t (named_left here (one ∷ []) n))
    (λ measures h. belongs_told env owner start clause (a_measure measures) (named_right here (one ∷ []) n) (measures, h, refl))

-- ---- all clauses

pub record AreSaid (parameters results : Environment) (owner : Owner) (clauses : List Clause) (all : Clauses) : Type 0 where
  pub belong : list_all (belongs owner) clauses ≡ true
  pub preconditions : AreConditions parameters (conditions_of conditions.Requires clauses) all.preconditions
  pub postconditions : AreConditions results (conditions_of conditions.Ensures clauses) all.postconditions
  pub invariants : AreConditions parameters (conditions_of conditions.Invariant clauses) all.invariants
  pub decreases : IsDecreases parameters clauses all.decreases

none_said : (parameters results : Environment) (owner : Owner) → AreSaid parameters results owner [] no_clauses
none_said parameters results owner = record { belong = refl; preconditions = refl; postconditions = refl; invariants = refl; decreases = refl }

one_condition : (env : Environment) (e : Expr) (es : List Expr) (t : typed_expr.Expr) (rest : List typed.Clause) → IsExpr e → ElaboratesTruth env e t → AreConditions env es rest
    → AreConditions env (e ∷ es) (record { pos = or_start (beginning_of e); condition = t } ∷ rest)
one_condition env e es t rest x h k = (or_start (beginning_of e), t, rest, begins_there e x, h, k, refl)

measures_may : (env : Environment) (values : List Expr) (others : List Clause) (ms : List typed.Measure) (rest : Option (List typed.Measure)) (b : Bool) → list_any is_decreases others ≡ b → AreMeasures env values ms → MayDecrease b env others rest
    → (measures : List typed.Measure) × AreMeasures env (values ++ measures_in others) measures × (both_measures (Some ms) rest ≡ Some measures)
measures_may env values others ms rest false p h k =
    (ms, subst (λ (es : List Expr). AreMeasures env (values ++ es) ms) (sym (none_measured others p)) (subst (λ (es : List Expr). AreMeasures env es ms) (sym (append-nil values)) h), rw k refl)
measures_may env values others ms rest true p h (more, are, q) = (ms ++ more, measures_joined env values (measures_in others) ms more h are, rw q refl)

-- a condition is no measure
kept_measures : (env : Environment) (kind : ConditionKind) (pos : Pos) (e : Expr) (others : List Clause) (decreases : Option (List typed.Measure)) (b : Bool) → MayDecrease b env others decreases → MayDecrease b env (Condition kind pos e ∷ others) decreases
kept_measures env kind pos e others decreases false k = k
kept_measures env kind pos e others decreases true k = k

more_said : (parameters results : Environment) (owner : Owner) (clause : Clause) (others : List Clause) (one rest : Clauses) → IsClause clause → IsSaid (over_kind parameters results clause) owner clause one → AreSaid parameters results owner others rest
    → AreSaid parameters results owner (clause ∷ others) (both one rest)
more_said parameters results owner (Condition conditions.Requires pos e) others one rest x (p, (t, h, q)) k = rw q (record {
  belong = rw p k.belong;
  preconditions = one_condition parameters e (conditions_of conditions.Requires others) t rest.preconditions x h k.preconditions;
  postconditions = k.postconditions;
  invariants = k.invariants;
  decreases = kept_measures parameters conditions.Requires pos e others rest.decreases (list_any is_decreases others) k.decreases;
})
more_said parameters results owner (Condition conditions.Ensures pos e) others one rest x (p, (t, h, q)) k = rw q (record {
  belong = rw p k.belong;
  preconditions = k.preconditions;
  postconditions = one_condition results e (conditions_of conditions.Ensures others) t rest.postconditions x h k.postconditions;
  invariants = k.invariants;
  decreases = kept_measures parameters conditions.Ensures pos e others rest.decreases (list_any is_decreases others) k.decreases;
})
more_said parameters results owner (Condition conditions.Invariant pos e) others one rest x (p, (t, h, q)) k = rw q (record {
  belong = rw p k.belong;
  preconditions = k.preconditions;
  postconditions = k.postconditions;
  invariants = one_condition parameters e (conditions_of conditions.Invariant others) t rest.invariants x h k.invariants;
  decreases = kept_measures parameters conditions.Invariant pos e others rest.decreases (list_any is_decreases others) k.decreases;
})
more_said parameters results owner (Decreases pos values) others one rest x (p, (ms, h, q)) k = rw q (record {
  belong = rw p k.belong;
  preconditions = k.preconditions;
  postconditions = k.postconditions;
  invariants = k.invariants;
  decreases = measures_may parameters values others ms rest.decreases (list_any is_decreases others) refl h k.decreases;
})

-- the clauses from a token on, each in its environment
abbrev pub kinds_nodes : Environment → Environment → Owner → ℕ → List Clause → List Occurrence
kinds_nodes parameters results owner start [] = []
kinds_nodes parameters results owner start (clause ∷ others) = clause_nodes (over_kind parameters results clause) owner start clause ++ kinds_nodes parameters results owner (start + length (spell_clause clause)) others

pub kinds_order : (parameters results : Environment) (owner : Owner) (start : ℕ) (clauses : List Clause) → AllByRecursion IsClause clauses → Segment start start (start + clause_widths clauses) (kinds_nodes parameters results owner start clauses)
kinds_order parameters results owner start [] g = no_nodes start start (start + 0)
kinds_order parameters results owner start (clause ∷ others) g =
    let one = length (spell_clause clause) in
    parts.and_then start (start + one) (start + one) (start + (one + clause_widths others)) (clause_nodes (over_kind parameters results clause) owner start clause) _ (clause_order (over_kind parameters results clause) owner start clause g.0)
    (later (start + one) (start + one) (start + one + clause_widths others) (start + (one + clause_widths others)) _ (kinds_order parameters results owner (start + one) others g.1) (omega arith) (omega arith)) (omega arith) (omega arith) (omega arith)

-- names of clauses have types where they stand
abbrev pub ClauseTypes : Environment → Environment → List Clause → Type 0
ClauseTypes parameters results clauses = AllByRecursion (λ (clause : Clause). HaveTypes (over_kind parameters results clause) (used_in_clause clause)) clauses

pub clauses_told : (parameters results : Environment) (owner : Owner) (start : ℕ) (clauses : List Clause) → AllByRecursion IsClause clauses → AllByRecursion (λ (clause : Clause). AreInRange (spell_clause clause)) clauses → ClauseTypes parameters results clauses
    → NoNames (kinds_nodes parameters results owner start clauses) → Judged (kinds_nodes parameters results owner start clauses) (AreSaid parameters results owner clauses) (clauses_in parameters results owner clauses)
clauses_told parameters results owner start [] x r t n = judged_none (AreSaid parameters results owner []) no_clauses (none_said parameters results owner)
clauses_told parameters results owner start (clause ∷ others) x r t n =
    let env = over_kind parameters results clause in
    let here = clause_nodes env owner start clause in
    let later_start = start + length (spell_clause clause) in
    let behind = kinds_nodes parameters results owner later_start others in
    judged_then start start later_start here behind (IsSaid env owner clause) (AreSaid parameters results owner (clause ∷ others)) (clause_in env owner clause)
    (λ (one : Clauses). and_then (clauses_in parameters results owner others) (λ (rest : Clauses). Ok (both one rest)))
    (clause_order env owner start clause x.0)
    (beyond_segment start later_start later_start later_start (later_start + clause_widths others) behind (kinds_order parameters results owner later_start others x.1) (omega arith))
    (clause_told env owner start clause x.0 r.0 t.0 (named_left here behind n))
    (λ one h.
    judged_map behind (AreSaid parameters results owner others) (AreSaid parameters results owner (clause ∷ others)) (clauses_in parameters results owner others) (λ (rest : Clauses). both one rest)
    (clauses_told parameters results owner later_start others x.1 r.1 t.1 (named_right here behind n)) (λ rest k. more_said parameters results owner clause others one rest x.0 h k))

-- ---- what is printed

pub operands_told : (env : Environment) (start : ℕ) (operands : List PrintOperand) → AllByRecursion IsOperand operands → AllByRecursion (λ (operand : PrintOperand). AreInRange (spell_operand operand)) operands → HaveTypes env (flat_map used_in_operand operands)
    → NoNames (operand_nodes env start operands) → Judged (operand_nodes env start operands) (AreOperands env operands) (operands_in env operands)
operands_told env start [] x r t n = judged_none (AreOperands env []) [] refl
operands_told env start (Text characters ∷ others) x r t n =
    judged_map (operand_nodes env (start + 2) others) (AreOperands env others) (AreOperands env (Text characters ∷ others)) (operands_in env others) (λ (rest : List typed.Operand). typed.Text characters ∷ rest)
    (operands_told env (start + 2) others x.1 r.1 t n) (λ rest k. (typed.Text characters, rest, refl, k, refl))
operands_told env start (Value e ∷ others) x r t n =
    let here = expr_nodes env start e in
    let behind = operand_nodes env (start + width e + 1) others in
    judged_then start start (start + width e) here behind (elaboration.IsOperand env (Value e)) (AreOperands env (Value e ∷ others)) (operand_in env (Value e))
    (λ (one : typed.Operand). and_then (operands_in env others) (λ (rest : List typed.Operand). Ok (one ∷ rest)))
    (expr_order env start e x.0)
    (beyond_segment start (start + width e) (start + width e + 1) (start + width e + 1) (start + width e + 1 + length (separated spell_operand others)) behind (operands_order env (start + width e + 1) others x.1) (omega arith))
    (judged_map here (IsTyped env wanteds.Nothing e) (elaboration.IsOperand env (Value e)) (typed_in env wanteds.Nothing e) (λ (one : Typed). typed.Value one.ty one.expr)
    (expr_told env start wanteds.Nothing e x.0 r.0 (types_left env (names_in e) (flat_map used_in_operand others) t) (named_left here behind n)) (λ one h. (one.ty, one.expr, h, refl)))
    (λ one h.
    judged_map behind (AreOperands env others) (AreOperands env (Value e ∷ others)) (operands_in env others) (λ (rest : List typed.Operand). one ∷ rest)
    (operands_told env (start + width e + 1) others x.1 r.1 (types_right env (names_in e) (flat_map used_in_operand others) t) (named_right here behind n))
    (λ rest k. (one, rest, h, k, refl)))
