-- Behind a statement the program has as many locals more as the source declares, of the types that are fixed.
use Rattle.std.proofs.Common.{◌≡◌, ℕ, suc, ◌+◌, List, [], ◌∷◌, ◌++◌, length, Some, sym, ap, subst, ◌∙◌, ◌⊎◌, inl, inr, arith, length-append, append_assoc}
use Rattle.std.specs.Prelude.{slice_get}
use Rattle.df_lemmas.proofs.Lists.{get_pushed}
use Rattle.std.proofs.lemmas.List.{append-nil}
use Rattle.df_lang.specs.declared.ty.Ty.{Ty}
use Rattle.df_lang.specs.Stmt as typed
use Rattle.df_lang.specs.Typing.{variable_types, locals_after, locals_after_all, locals_after_branches}
use Rattle.df_ntree.specs.declared.file.Local as declared_local
use Rattle.df_ntree.specs.Expr.{Expr, Call}
use Rattle.df_ntree.specs.File as file
use Rattle.df_ntree.specs.File.{Statement, Nested, Var, Assign, Expression, If, While, Return, Break, Assert, Print, Statements, done, next, Branches, Otherwise, without, otherwise}
use Rattle.df_ntyping.specs.Environment.{Inferred, Environment, fixed_type, enter, inside_loop, past, behind, locals_in, locals_in_all, locals_in_branches, locals_in_otherwise}
use Rattle.df_ntyping.specs.StatementElaboration.{AreVariables, IsWhole, IsStatement, AreStatements, AreBranches, IsOtherwise}
use Rattle.df_ntyping.proofs.Fits.{HaveTypes}
use Rattle.df_ntyping.proofs.SameBehind.{same_behind, next_behind}

pub record Covered (all : List Inferred) (before after : List Ty) (count : ℕ) : Type 0 where
  pub size : length after ≡ length before + count
  pub same : HaveTypes all after

none_more : {all : List Inferred} {locals : List Ty} → HaveTypes all locals → Covered all locals locals 0
none_more h = record { size = omega arith; same = h }

-- one more, of the type that is fixed at its number
one_more : (all : List Inferred) (locals : List Ty) (ty : Ty) (number : ℕ) → HaveTypes all locals → number ≡ length locals → fixed_type (slice_get all number) ≡ Some ty → HaveTypes all (locals ++ ty ∷ [])
one_more all locals ty number h p q = record { same = same } where
  by_place : (k : ℕ) (other : Ty) → (slice_get locals k ≡ Some other) ⊎ ((k ≡ length locals) × (ty ≡ other)) → fixed_type (slice_get all k) ≡ Some other
  by_place k other (inl r) = h.same k other r
  by_place k other (inr r) =
      let there : number ≡ k = p ∙ sym r.0 in
      subst (λ (n : ℕ). fixed_type (slice_get all n) ≡ Some other) there (q ∙ ap (λ (x : Ty). Some x) r.1)

  same : (k : ℕ) (other : Ty) → slice_get (locals ++ ty ∷ []) k ≡ Some other → fixed_type (slice_get all k) ≡ Some other
  same k other r = by_place k other (get_pushed locals ty k other r)

pub variables_covered : (env : Environment) (number : ℕ) (declared : List declared_local.Local) (variables : List typed.Variable) (locals : List Ty) → AreVariables env number declared variables → number ≡ length locals → HaveTypes env.types locals
    → Covered env.types locals (locals ++ variable_types variables) (length declared)
variables_covered env number [] variables locals h p k =
    subst (λ (vs : List typed.Variable). Covered env.types locals (locals ++ variable_types vs) 0) (sym h) (record { size = omega (arith, length-append locals []); same = rw (append-nil locals) k })
variables_covered env number (local ∷ others) variables locals (ty, rest, known, hs, q) p k =
    let more = locals ++ ty ∷ [] in
    let behind_one = variables_covered env (suc number) others rest more hs (omega (arith, p, length-append locals (ty ∷ []))) (one_more env.types locals ty number k p known) in
    let all : Covered env.types locals (more ++ variable_types rest) (suc (length others)) = record { size = omega (arith, behind_one.size, length-append locals (ty ∷ [])); same = behind_one.same } in
    subst (λ (vs : List typed.Variable). Covered env.types locals (locals ++ variable_types vs) (suc (length others))) (sym q)
    (subst (λ (tys : List Ty). Covered env.types locals tys (suc (length others))) (append_assoc locals (ty ∷ []) (variable_types rest)) all)

then_more : {all : List Inferred} {one two three : List Ty} {m n : ℕ} → Covered all one two m → Covered all two three n → Covered all one three (m + n)
then_more h k = record { size = omega (arith, h.size, k.size); same = k.same }

whole_covered : (env : Environment) (e : Expr) (stmt : typed.Stmt) (locals : List Ty) → IsWhole env e stmt → HaveTypes env.types locals → Covered env.types locals (locals_after locals stmt) 0
whole_covered env (Call callee arguments) stmt locals (signature, call, h, q) k = subst (λ (x : typed.Stmt). Covered env.types locals (locals_after locals x) 0) (sym q) (none_more k)
whole_covered env e stmt locals h k = absurd h

mutual
  pub statement_covered : (env : Environment) (s : Statement) (stmt : typed.Stmt) (locals : List Ty) → IsStatement env s stmt → env.next ≡ length locals → HaveTypes env.types locals → Covered env.types locals (locals_after locals stmt) (locals_in s)
  statement_covered env (Nested pos body) stmt locals (inner, h, q) p k =
      subst (λ (x : typed.Stmt). Covered env.types locals (locals_after locals x) (locals_in_all body)) (sym q) (statements_covered (enter env) body inner locals h p k)
  statement_covered env (Var pos declared values) stmt locals (variables, update, h, u, q) p k =
      subst (λ (x : typed.Stmt). Covered env.types locals (locals_after locals x) (length declared)) (sym q) (variables_covered env env.next declared variables locals h p k)
  statement_covered env (Assign targets values) stmt locals (pos, all, sources, begins, h, hs, q) p k = subst (λ (x : typed.Stmt). Covered env.types locals (locals_after locals x) 0) (sym q) (none_more k)
  statement_covered env (Expression value) stmt locals h p k = whole_covered env value stmt locals h k
  statement_covered env (If pos guard opens body others last) stmt locals (condition, inner, rest, final, h, b, bs, o, q) p k =
      let count = locals_in_all body in
      let inside = statements_covered (enter env) body inner locals b p k in
      let first = past env count in
      let more = branches_covered first others rest (locals_after_all locals inner) bs (omega (arith, p, inside.size)) inside.same in
      let end = otherwise_covered (past first (locals_in_branches others)) last final (locals_after_branches (locals_after_all locals inner) rest) o (omega (arith, p, inside.size, more.size)) more.same in
      subst (λ (x : typed.Stmt). Covered env.types locals (locals_after locals x) (count + locals_in_branches others + locals_in_otherwise last)) (sym q) (then_more (then_more inside more) end)
  statement_covered env (While pos guard clauses opens body) stmt locals (condition, invariants, decreases, inner, h, belong, i, d, measured, b, q) p k =
      subst (λ (x : typed.Stmt). Covered env.types locals (locals_after locals x) (locals_in_all body)) (sym q) (statements_covered (inside_loop (enter env)) body inner locals b p k)
  statement_covered env (Return pos values) stmt locals (targets, update, h, u, q) p k = subst (λ (x : typed.Stmt). Covered env.types locals (locals_after locals x) 0) (sym q) (none_more k)
  statement_covered env (Break pos) stmt locals (loop, q) p k = subst (λ (x : typed.Stmt). Covered env.types locals (locals_after locals x) 0) (sym q) (none_more k)
  statement_covered env (Assert pos condition) stmt locals (e, h, q) p k = subst (λ (x : typed.Stmt). Covered env.types locals (locals_after locals x) 0) (sym q) (none_more k)
  statement_covered env (Print pos operands) stmt locals (all, h, q) p k = subst (λ (x : typed.Stmt). Covered env.types locals (locals_after locals x) 0) (sym q) (none_more k)

  pub statements_covered : (env : Environment) (s : Statements) (stmts : typed.Stmts) (locals : List Ty) → AreStatements env s stmts → env.next ≡ length locals → HaveTypes env.types locals
      → Covered env.types locals (locals_after_all locals stmts) (locals_in_all s)
  statements_covered env done stmts locals h p k = subst (λ (x : typed.Stmts). Covered env.types locals (locals_after_all locals x) 0) (sym h) (none_more k)
  statements_covered env (next statement others) stmts locals (one, rest, h, hs, q) p k =
      let first = statement_covered env statement one locals h p k in
      let same = (same_behind env statement).types in
      let more = statements_covered (behind env statement) others rest (locals_after locals one) hs (omega (arith, p, next_behind env statement, first.size))
      (subst (λ (all : List Inferred). HaveTypes all (locals_after locals one)) (sym same) first.same) in
      subst (λ (x : typed.Stmts). Covered env.types locals (locals_after_all locals x) (locals_in statement + locals_in_all others)) (sym q)
      (then_more first (subst (λ (all : List Inferred). Covered all (locals_after locals one) (locals_after_all (locals_after locals one) rest) (locals_in_all others)) same more))

  pub branches_covered : (env : Environment) (branches : Branches) (all : typed.Branches) (locals : List Ty) → AreBranches env branches all → env.next ≡ length locals → HaveTypes env.types locals
      → Covered env.types locals (locals_after_branches locals all) (locals_in_branches branches)
  branches_covered env file.end all locals h p k = subst (λ (x : typed.Branches). Covered env.types locals (locals_after_branches locals x) 0) (sym h) (none_more k)
  branches_covered env (file.more pos guard opens body others) all locals (condition, inner, rest, h, b, bs, q) p k =
      let inside = statements_covered (enter env) body inner locals b p k in
      let more = branches_covered (past env (locals_in_all body)) others rest (locals_after_all locals inner) bs (omega (arith, p, inside.size)) inside.same in
      subst (λ (x : typed.Branches). Covered env.types locals (locals_after_branches locals x) (locals_in_all body + locals_in_branches others)) (sym q) (then_more inside more)

  otherwise_covered : (env : Environment) (last : Otherwise) (stmts : typed.Stmts) (locals : List Ty) → IsOtherwise env last stmts → env.next ≡ length locals → HaveTypes env.types locals
      → Covered env.types locals (locals_after_all locals stmts) (locals_in_otherwise last)
  otherwise_covered env without stmts locals h p k = subst (λ (x : typed.Stmts). Covered env.types locals (locals_after_all locals x) 0) (sym h) (none_more k)
  otherwise_covered env (otherwise opens body) stmts locals h p k = statements_covered (enter env) body stmts locals h p k
