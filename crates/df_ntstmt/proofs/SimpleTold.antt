-- The walk over statements that hold no others.
use Rattle.std.proofs.Common.{◌≡◌, ◌≢◌, ℕ, suc, ◌+◌, ◌≤◌, Bool, true, false, List, [], ◌∷◌, ◌++◌, length, map, Option, Some, Ok, refl, sym, ap, subst, ◌∙◌, arith, length-append}
use Rattle.std.specs.List.{AllByRecursion, flat_map}
use Rattle.df_base.specs.declared.pos.Pos.{Pos}
use Rattle.df_lang.specs.declared.ty.Ty.{Ty}
use Rattle.df_lang.specs.Stmt as typed
use Rattle.df_tok.specs.declared.sign.Sign.TheVariants as signs
use Rattle.df_ntree.specs.declared.file.Local as declared_local
use Rattle.df_ntree.specs.Spelling.{Piece, a_sign, separated}
use Rattle.df_ntree.specs.Expr.{Expr, Number, Character, Truth, Name, Parentheses, Call, Unary, Cast, Operations, Leading, Arguments}
use Rattle.df_ntree.specs.ExprSpelling.{spell, IsExpr}
use Rattle.df_ntree.specs.File.{Statement, Var, Assign, Expression, Return, Break}
use Rattle.df_ntree.specs.FileSpelling as grammar
use Rattle.df_ntree.specs.FileSpelling.{spell_local, spell_values, spell_clause, spell_operand, spell_statement, spell_statements, spell_branches, spell_otherwise, braces}
use Rattle.df_ntyping.specs.Literals.{AreInRange}
use Rattle.df_ntyping.specs.Environment.{Environment, locals_in}
use Rattle.df_ntyping.specs.Places.{beginning_of, beginning_of_first}
use Rattle.df_ntyping.specs.Node as nodes
use Rattle.df_ntyping.specs.Node.{Occurrence, Owner, OfLoop}
use Rattle.df_ntyping.specs.ExprNodes.{occurrence, expr_nodes}
use Rattle.df_ntyping.specs.StatementNodes.{widths, local_widths, all_places, variable_nodes, declared_by, update_nodes, whole_nodes, statement_nodes}
use Rattle.df_ntyping.specs.Rule.{Rule, Typing}
use Rattle.df_ntyping.specs.Rule as rules
use Rattle.df_ntyping.specs.Breaks.{breaks}
use Rattle.df_ntyping.specs.LocalTypes.{names_in, used_inside, place_types, types_of_locals}
use Rattle.df_ntyping.specs.SideElaboration.{types_of_targets}
use Rattle.df_ntyping.specs.StatementElaboration.{MayUpdate, IsStatement}
use Rattle.df_ntyping.specs.Wanted as wanteds
use Rattle.df_ntyping.specs.mirror.Parts.{or_start}
use Rattle.df_ntyping.proofs.AllNodes.{only}
use Rattle.df_ntyping.proofs.DeclaredLocals.{declared_are}
use Rattle.df_ntyping.proofs.ElaboratedSides.{IsReady}
use Rattle.df_ntyping.proofs.FirstFault.{NoNames, named_left, named_right}
use Rattle.df_ntyping.proofs.Found.{beyond_segment}
use Rattle.df_ntyping.proofs.KnownTypes.{known}
use Rattle.df_ntyping.proofs.PartOrder.{later, variable_order, locals_width}
use Rattle.df_ntyping.proofs.Ranges.{separated_parts, values_parts}
use Rattle.df_ntyping.proofs.SideOrder.{separated_widths, all_places_order, update_order}
use Rattle.df_ntyping.proofs.SoundNodes as kinds
use Rattle.df_ntyping.proofs.SoundNodes.{sound}
use Rattle.df_ntyping.proofs.SoundSides.{targets_types}
use Rattle.df_ntyping.proofs.SoundStatements as sounds
use Rattle.df_ntyping.proofs.SoundStatements.{variables_types}
use Rattle.df_ntyping.proofs.StatementOrder.{some_values_width, update_fits}
use Rattle.df_ntyping.proofs.StatementStands.{first_begins}
use Rattle.df_ntyping.proofs.Standing.{begins_there}
use Rattle.df_ntyping.proofs.TypedIsWellTyped.{all_left, all_right}
use Rattle.df_ntyping.proofs.Verdict.{HaveTypes, types_left, types_right}
use Rattle.df_ntstmt.specs.declared.places.Place.{Place}
use Rattle.df_ntstmt.specs.mirror.Steps.{and_then, broken, unless, typed_in}
use Rattle.df_ntstmt.specs.mirror.Sides.{call_in, update_in, may_update_in, places_in, returned_places, variables_in, variable_from, target_from, types_of_places}
use Rattle.df_ntstmt.specs.mirror.Statements.{no_call_in, whole_in, statement_in}
use Rattle.df_ntstmt.proofs.Judging.{met_typing, Judged, judged_then, judged_map, silent_sound}
use Rattle.df_ntstmt.proofs.ExprsTold.{IsTyped, expr_told}
use Rattle.df_ntstmt.proofs.CallsTold.{IsMade, call_told}
use Rattle.df_ntstmt.proofs.Aspects.{judged_refused, no_call_only, no_call_at, no_call_beside}
use Rattle.df_ntstmt.proofs.UpdatesTold as updates
use Rattle.df_ntstmt.proofs.PlacesTold.{AreOnLeft, places_told, AreKnown, IsUpdate}
use Rattle.df_ntstmt.proofs.UpdatesTold.{IsMay, assigned_told, may_told, returned_made, return_told}
use Rattle.df_ntstmt.proofs.VariablesTold.{AreDeclared, variables_told, targets_declared}

abbrev pub semicolon : List Piece
semicolon = a_sign signs.Semicolon ∷ []

-- ---- what is made elaborates, where all locals have types

abbrev pub IsRight : Environment → Statement → typed.Stmt → Type 0
IsRight env s stmt = IsReady env → env.next + locals_in s ≤ length env.types → IsStatement env s stmt

-- ---- statements that hold no others

declared_types : (env : Environment) (locals : List declared_local.Local) (places : List Place) → AreDeclared env env.next locals places → types_of_places places ≡ types_of_locals env (declared_by env locals)
declared_types env locals places h = h.0 ∙ sym (ap (types_of_locals env) (declared_are env locals))

var_made : (env : Environment) (pos : Pos) (locals : List declared_local.Local) (values : List Expr) (places : List Place) (update : Option typed.Update) → AreDeclared env env.next locals places → IsMay env places values update
    → IsRight env (Var pos locals values) (typed.Var pos (map variable_from places) update)
var_made env pos locals values places update h k ready room =
    let variables = map variable_from places in
    let are = h.1 ready room in
    let known_places : AreKnown places = declared_types env locals places h ∙ variables_types env locals variables are ∙ ap (λ (targets : List typed.Target). known (types_of_targets targets)) (targets_declared places) in
    (variables, update, are, subst (λ (targets : List typed.Target). MayUpdate env targets values update) (sym (targets_declared places)) (k ready.table known_places), refl)

pub var_told : (env : Environment) (start : ℕ) (pos : Pos) (locals : List declared_local.Local) (values : List Expr) → AllByRecursion IsExpr values → AreInRange (spell_statement (Var pos locals values)) → HaveTypes env (flat_map names_in values)
    → NoNames (statement_nodes env start (Var pos locals values)) → Judged (statement_nodes env start (Var pos locals values)) (IsRight env (Var pos locals values)) (statement_in env (Var pos locals values))
var_told env start pos locals values x r t n =
    let after = start + length (spell_statement (Var pos locals values)) in
    let sign = start + 1 + local_widths locals in
    let size = length-append (separated spell_local locals) (spell_values values ++ semicolon) in
    let finish = length-append (spell_values values) semicolon in
    let given = types_of_locals env (declared_by env locals) in
    let here = variable_nodes env (suc start) values locals in
    let behind_it = update_nodes env start sign after (Some pos) given values in
    let fits = update_fits sign after values (omega (arith, size, finish, locals_width locals)) in
    let ranges = values_parts values (all_left (spell_values values) _ (all_right (separated spell_local locals) _ r)) in
    judged_then start start sign here behind_it (AreDeclared env env.next locals) (IsRight env (Var pos locals values)) (variables_in env env.next values locals)
    (λ (places : List Place). and_then (may_update_in env rules.Assigned pos places values) (λ (update : Option typed.Update). Ok (typed.Var pos (map variable_from places) update)))
    (later start (suc start) (suc start + local_widths locals) sign here (variable_order env (suc start) values locals) (omega arith) (omega arith))
    (beyond_segment start sign start sign after behind_it (update_order env start sign after (Some pos) given values x (omega arith) fits (omega arith)) (omega arith))
    (variables_told env env env.next (suc start) values locals refl refl (named_left here behind_it n))
    (λ places h.
    let same = declared_types env locals places h in
    subst (λ (tys : List (Option Ty)). Judged (update_nodes env start sign after (Some pos) tys values) (IsRight env (Var pos locals values)) (and_then (may_update_in env rules.Assigned pos places values) (λ (update : Option typed.Update). Ok (typed.Var pos (map variable_from places) update)))) same
    (judged_map (update_nodes env start sign after (Some pos) (types_of_places places) values) (IsMay env places values) (IsRight env (Var pos locals values)) (may_update_in env rules.Assigned pos places values) (λ (update : Option typed.Update). typed.Var pos (map variable_from places) update)
    (may_told env start sign after pos places values x ranges t (subst (λ (tys : List (Option Ty)). NoNames (update_nodes env start sign after (Some pos) tys values)) (sym same) (named_right here behind_it n)) (omega (arith, size, finish, locals_width locals)))
    (λ update k. var_made env pos locals values places update h k)))

begins_first : (es : List Expr) → es ≢ [] → AllByRecursion grammar.IsPrimary es → beginning_of_first es ≡ Some (or_start (beginning_of_first es))
begins_first es some g = let (at, p) = first_begins es some g in rw p refl

assign_made : (env : Environment) (targets values : List Expr) (places : List Place) (update : typed.Update) → targets ≢ [] → AllByRecursion grammar.IsPrimary targets → AreOnLeft env targets places → IsUpdate env places values update
    → IsRight env (Assign targets values) (typed.Assign (or_start (beginning_of_first targets)) update)
assign_made env targets values places update some g h k ready room =
    let all = map target_from places in
    let are = h.1 ready in
    let known_places : AreKnown places = h.0 ∙ targets_types env targets all are in
    let (sources, sides, is) = k ready.table known_places in
    (or_start (beginning_of_first targets), all, sources, begins_first targets some g, are, sides, ap (typed.Assign (or_start (beginning_of_first targets))) is)

pub assign_told : (env : Environment) (start : ℕ) (targets : List Expr) (value : Expr) (values : List Expr) → targets ≢ [] → AllByRecursion grammar.IsPrimary targets → AllByRecursion IsExpr (value ∷ values) → AreInRange (spell_statement (Assign targets (value ∷ values)))
    → HaveTypes env (flat_map used_inside targets ++ flat_map names_in (value ∷ values)) → NoNames (statement_nodes env start (Assign targets (value ∷ values)))
    → Judged (statement_nodes env start (Assign targets (value ∷ values))) (IsRight env (Assign targets (value ∷ values))) (statement_in env (Assign targets (value ∷ values)))
assign_told env start targets value values some g x r t n =
    let all = value ∷ values in
    let statement = Assign targets all in
    let after = start + length (spell_statement statement) in
    let sign = start + widths targets in
    let pos = or_start (beginning_of_first targets) in
    let size = length-append (separated spell targets) (spell_values all ++ semicolon) in
    let finish = length-append (spell_values all) semicolon in
    let given = place_types env targets in
    let here = all_places env start targets in
    let behind_it = update_nodes env start sign after (beginning_of_first targets) given all in
    let fits = update_fits sign after all (omega (arith, size, finish, separated_widths targets)) in
    let target_ranges = separated_parts spell targets (all_left (separated spell targets) _ r) in
    let ranges = values_parts all (all_left (spell_values all) _ (all_right (separated spell targets) _ r)) in
    judged_then start start sign here behind_it (AreOnLeft env targets) (IsRight env statement) (places_in env targets)
    (λ (places : List Place). and_then (update_in env rules.Assigned pos places all) (λ (update : typed.Update). Ok (typed.Assign pos update)))
    (all_places_order env start targets g)
    (beyond_segment start sign start sign after behind_it (update_order env start sign after (beginning_of_first targets) given all x (omega arith) fits (omega (arith, size, finish))) (omega arith))
    (places_told env start targets g target_ranges (types_left env (flat_map used_inside targets) (flat_map names_in all) t) (named_left here behind_it n))
    (λ places h.
    let same : update_nodes env start sign after (Some pos) (types_of_places places) all ≡ behind_it = λ i. update_nodes env start sign after (sym (begins_first targets some g) i) (h.0 i) all in
    subst (λ (xs : List Occurrence). Judged xs (IsRight env statement) (and_then (update_in env rules.Assigned pos places all) (λ (update : typed.Update). Ok (typed.Assign pos update)))) same
    (judged_map (update_nodes env start sign after (Some pos) (types_of_places places) all) (IsUpdate env places all) (IsRight env statement) (update_in env rules.Assigned pos places all) (λ (update : typed.Update). typed.Assign pos update)
    (assigned_told env start sign after pos places value values x ranges (types_right env (flat_map used_inside targets) (flat_map names_in all) t) (subst NoNames (sym same) (named_right here behind_it n)) (omega (arith, size, finish, separated_widths targets, some_values_width value values)))
    (λ update k. assign_made env targets all places update some g h k)))

call_made : (env : Environment) (callee : Expr) (arguments : Arguments) (call : typed.Call) → IsMade true env callee arguments call → IsRight env (Expression (Call callee arguments)) (typed.CallOf call)
call_made env callee arguments call h ready room = let (signature, is) = h.1 ready.table in (signature, call, is, refl)

no_call_told : (env : Environment) (start : ℕ) (e : Expr) → grammar.IsPrimary e → AreInRange (spell e) → HaveTypes env (names_in e) → ((callee : Expr) (arguments : Arguments) → e ≡ Call callee arguments → ⊥) → NoNames (expr_nodes env start e ++ no_call_at env start e ∷ [])
    → Judged (expr_nodes env start e ++ no_call_at env start e ∷ []) (IsRight env (Expression e)) (no_call_in env e)
no_call_told env start e g r t unlike n =
    judged_refused (expr_nodes env start e) (no_call_at env start e) (IsTyped env wanteds.Nothing e) (IsRight env (Expression e)) (typed_in env wanteds.Nothing e) (broken rules.Calls (or_start (beginning_of e))) (no_call_beside env start e g unlike)
    (expr_told env start wanteds.Nothing e g.0 r t (named_left (expr_nodes env start e) _ n))
    (met_typing (no_call_at env start e) rules.Calls (or_start (beginning_of e)) refl (no_call_only env e) (begins_there e g.0))

pub whole_told : (env : Environment) (start : ℕ) (e : Expr) → grammar.IsPrimary e → AreInRange (spell e) → HaveTypes env (names_in e) → NoNames (whole_nodes env start e) → Judged (whole_nodes env start e) (IsRight env (Expression e)) (whole_in env e)
whole_told env start (Call callee arguments) g r t n =
    judged_map (whole_nodes env start (Call callee arguments)) (IsMade true env callee arguments) (IsRight env (Expression (Call callee arguments))) (call_in env true callee arguments) (λ (call : typed.Call). typed.CallOf call) (call_told env start callee arguments g.0 r t n)
    (λ call h. call_made env callee arguments call h)
whole_told env start (Number literal) g r t n = no_call_told env start (Number literal) g r t (λ callee arguments p. cc) n
whole_told env start (Character code at) g r t n = no_call_told env start (Character code at) g r t (λ callee arguments p. cc) n
whole_told env start (Truth b at) g r t n = no_call_told env start (Truth b at) g r t (λ callee arguments p. cc) n
whole_told env start (Name ident) g r t n = no_call_told env start (Name ident) g r t (λ callee arguments p. cc) n
whole_told env start (Parentheses at inner) g r t n = no_call_told env start (Parentheses at inner) g r t (λ callee arguments p. cc) n
whole_told env start (Unary operator at operand) g r t n = no_call_told env start (Unary operator at operand) g r t (λ callee arguments p. cc) n
whole_told env start (Cast operand all) g r t n = no_call_told env start (Cast operand all) g r t (λ callee arguments p. cc) n
whole_told env start (Operations first rest) g r t n = no_call_told env start (Operations first rest) g r t (λ callee arguments p. cc) n
whole_told env start (Leading operations) g r t n = no_call_told env start (Leading operations) g r t (λ callee arguments p. cc) n

return_made : (env : Environment) (pos : Pos) (values : List Expr) (update : Option typed.Update) → IsMay env (returned_places env pos env.results) values update → IsRight env (Return pos values) (typed.Return pos update)
return_made env pos values update k ready room =
    let places = returned_places env pos env.results in
    let targets = map target_from places in
    let are = returned_made env pos env.results ready ready.result_locals in
    (targets, update, are, k ready.table (updates.returned_types env pos env.results ∙ sounds.returned_types env pos env.results targets are), refl)

pub give_back_told : (env : Environment) (start : ℕ) (pos : Pos) (values : List Expr) → AllByRecursion IsExpr values → AreInRange (spell_statement (Return pos values)) → HaveTypes env (flat_map names_in values) → NoNames (statement_nodes env start (Return pos values))
    → Judged (statement_nodes env start (Return pos values)) (IsRight env (Return pos values)) (statement_in env (Return pos values))
give_back_told env start pos values x r t n =
    let after = start + length (spell_statement (Return pos values)) in
    let size = length-append (separated spell values) semicolon in
    judged_map (statement_nodes env start (Return pos values)) (IsMay env (returned_places env pos env.results) values) (IsRight env (Return pos values)) (may_update_in env rules.Returned pos (returned_places env pos env.results) values) (λ (update : Option typed.Update). typed.Return pos update)
    (return_told env start after pos values x (separated_parts spell values (all_left (separated spell values) _ r)) t n (omega (arith, size, separated_widths values)))
    (λ update k. return_made env pos values update k)

break_only : (env : Environment) (pos : Pos) (rule : Rule) → breaks env (nodes.Break pos) rule ≡ true → rule ≡ Typing rules.Broken
break_only env pos (Typing rules.Broken) h = refl
break_only env pos rule h = absurd cc

pub break_told : (env : Environment) (start : ℕ) (pos : Pos) → NoNames (statement_nodes env start (Break pos)) → Judged (statement_nodes env start (Break pos)) (IsRight env (Break pos)) (statement_in env (Break pos))
break_told env start pos n = by_loop env.in_loop refl where
  one : Occurrence
  one = occurrence env (nodes.Break pos) start (start + 2)

  by_loop : (b : Bool) → env.in_loop ≡ b → Judged (one ∷ []) (IsRight env (Break pos)) (and_then (unless b (broken rules.Broken pos)) (λ (held : Unit {0}). Ok (typed.Break pos)))
  by_loop true p = (silent_sound (one ∷ []) (only (sound (kinds.broken env pos p))) n, λ ready room. (p, refl))
  by_loop false p = met_typing one rules.Broken pos (rw p refl) (break_only env pos) refl
