-- What the kernel takes makes no free term, and tests for types of the program alone.
use Rattle.std.proofs.Common.{◌≡◌, ℕ, zero, suc, Bool, true, false, not, ◌&&◌, List, [], ◌∷◌, ◌++◌, map, length, nat_lt, slice_get, Option, None, Some, refl, sym, subst, true≢false}
use Rattle.std.specs.List.{AllByRecursion, list_all}
use Rattle.std.specs.Option.{option_and_then, option_map_or}
use Rattle.std.proofs.lemmas.Bool.{and_parts, not-true}
use Rattle.df_lemmas.proofs.Options.{then_some, map_some, test_some}
use Rattle.df_lang.specs.declared.ty.Ty.{Ty}
use Rattle.df_lang.specs.declared.ty.Ty.TheVariants as types
use Rattle.df_lang.specs.Newtype.{Newtype}
use Rattle.df_lang.specs.Program.{Decl, NewtypeDecl, MethodDecl, Program, as_newtype}
use Rattle.df_form.specs.declared.node.Sort.{Sort}
use Rattle.df_form.specs.declared.symbol.Symbol.{Symbol}
use Rattle.df_form.specs.declared.symbol.Payload.{Payload}
use Rattle.df_form.specs.declared.symbol.Payload.TheVariants as payloads
use Rattle.df_form.specs.declared.symbol.PayloadKind.{PayloadKind}
use Rattle.df_form.specs.declared.symbol.PayloadKind.TheVariants as kinds
use Rattle.df_form.specs.Symbol.{Entry, row_of, accepts, type_in, filled}
use Rattle.df_form.specs.declared.node.Op.{Op}
use Rattle.df_form.specs.declared.node.Op.TheVariants as ops
use Rattle.df_form.specs.Log.{Step, Hypothesis, Goal, Connective, Schema, Propagation, Congruence, Linear, Split, Make}
use Rattle.df_form.specs.Node.{Node, number_of}
use Rattle.df_form.specs.Sequent.{Sequent}
use Rattle.df_form.specs.Sorting.{are_each, takes_by, takes, sort_at, is_well_sorted}
use Rattle.df_form.specs.World.{World, Ends, ends_at, ends_of_decl, of_program}
use Rattle.df_rules.specs.Derivation.{State, begin, is_unknown, is_foreign, is_new, made_line, after, after_all}
use Rattle.df_logtext.specs.HasText.{HasName, kind_of, HasPayload, HasNamedOp, HasNames, HaveNames}
use Rattle.df_logtext.proofs.TwoHalves.{have_text}
use Rattle.df_npass.specs.Methods.{Obligation}
use Rattle.df_nproof.specs.Names.{names_in, HaveTypeNames}
use Rattle.df_nproof.specs.Derived.{AreDerived}
use Rattle.df_nproof.specs.Laws.{DerivedHaveText}

-- the newtype of which a world knows the ends
newtype_there : (decls : List Decl) (number : ℕ) (ends : Ends) → option_and_then (λ (found : Option Ends). found) (slice_get (map ends_of_decl decls) number) ≡ Some ends
    → (newtype : Newtype) × (option_and_then as_newtype (slice_get decls number) ≡ Some newtype)
newtype_there [] zero ends e = absurd cc
newtype_there [] (suc k) ends e = absurd cc
newtype_there (NewtypeDecl newtype ∷ others) zero ends e = (newtype, refl)
newtype_there (MethodDecl method ∷ others) zero ends e = absurd cc
newtype_there (NewtypeDecl newtype ∷ others) (suc k) ends e = newtype_there others k ends e
newtype_there (MethodDecl method ∷ others) (suc k) ends e = newtype_there others k ends e

ends_there : (found : Option Ends) → option_map_or (λ (ends : Ends). false) found true ≡ false → (ends : Ends) × (found ≡ Some ends)
ends_there None known = absurd cc
ends_there (Some ends) known = (ends, refl)

module _ (program : Program) (named : HaveTypeNames program) where
  type_named : (world : World) (ty : Ty) → world ≡ of_program program → is_unknown world ty ≡ false → HasName (names_in program) ty
  type_named world (types.Newtype number) same known =
      let ends = ends_there (ends_at world number) known in
      let there = newtype_there program.decls number ends.0 (subst (λ (w : World). ends_at w number ≡ Some ends.0) same ends.1) in
      named number there.0 there.1
  type_named world types.Int same known = tt
  type_named world types.Nat same known = tt
  type_named world types.Bool same known = tt
  type_named world types.Char same known = tt

  symbol_named : (world : World) (symbol : Symbol) (payload : Payload) (parts : List Sort) → world ≡ of_program program → is_unknown world (type_in payload) ≡ false → takes (ops.Of symbol payload) parts ≡ true → HasPayload (names_in program) (kind_of symbol) payload
  symbol_named world symbol payload parts same own taken = by (row_of symbol) taken
    where
      by_kind : (kind : PayloadKind) (payload : Payload) → is_unknown world (type_in payload) ≡ false → accepts kind payload ≡ true → HasPayload (names_in program) kind payload
      by_kind kinds.Nothing payloads.Nothing own e = tt
      by_kind kinds.Type (payloads.Type ty) own e = type_named world ty same own
      by_kind kinds.Nothing (payloads.Type ty) own e = absurd (true≢false (sym e))
      by_kind kinds.Type payloads.Nothing own e = absurd (true≢false (sym e))

      by : (o : Option Entry) → takes_by o payload parts ≡ true → HasPayload (names_in program) (option_map_or (λ (row : Entry). row.payload) o kinds.Nothing) payload
      by None e = absurd (true≢false (sym e))
      by (Some row) e = by_kind row.payload payload own (and_parts (accepts row.payload payload) (are_each (map (filled payload) row.taken) parts) e).0

  op_named : (world : World) (op : Op) (parts : List Sort) → world ≡ of_program program → is_foreign world op ≡ false → takes op parts ≡ true → HasNamedOp (names_in program) op
  op_named world (ops.Number n) parts same own taken = tt
  op_named world (ops.Free free) parts same own taken = absurd cc
  op_named world ops.Plus parts same own taken = tt
  op_named world ops.Times parts same own taken = tt
  op_named world (ops.Of symbol payload) parts same own taken = symbol_named world symbol payload parts same own taken
  op_named world ops.Equal parts same own taken = tt
  op_named world ops.AtMost parts same own taken = tt
  op_named world ops.Not parts same own taken = tt
  op_named world ops.And parts same own taken = tt
  op_named world ops.Or parts same own taken = tt
  op_named world ops.Implies parts same own taken = tt
  op_named world ops.Iff parts same own taken = tt

  make_named : (s : Sequent) (state next : State) (node : Node) → s.world ≡ of_program program → after s state (Make node) ≡ Some next → HasNamedOp (names_in program) node.op
  make_named s state next node same e =
      let found = map_some (λ (nodes : List Node). record { nodes = nodes; clauses = state.clauses }) (made_line s.world state.nodes node) next e in
      let tested = test_some (not (is_foreign s.world node.op) && is_well_sorted state.nodes node && is_new (number_of state.nodes node)) (Some (state.nodes ++ node ∷ [])) found.0 found.1 in
      let first = and_parts (not (is_foreign s.world node.op) && is_well_sorted state.nodes node) (is_new (number_of state.nodes node)) tested.0 in
      let second = and_parts (not (is_foreign s.world node.op)) (is_well_sorted state.nodes node) first.0 in
      let sorted = and_parts (list_all (λ part. nat_lt part (length state.nodes)) node.parts) (takes node.op (map (sort_at state.nodes) node.parts)) second.1 in
      op_named s.world node.op (map (sort_at state.nodes) node.parts) same (not-true (is_foreign s.world node.op) second.0) sorted.1

  step_named : (s : Sequent) (state next : State) (step : Step) → s.world ≡ of_program program → after s state step ≡ Some next → HasNames (names_in program) step
  step_named s state next (Hypothesis n) same e = tt
  step_named s state next Goal same e = tt
  step_named s state next (Connective n k) same e = tt
  step_named s state next (Schema schema k terms) same e = tt
  step_named s state next (Propagation clauses conclusion) same e = tt
  step_named s state next (Congruence conclusion pairs) same e = tt
  step_named s state next (Linear conclusion combinations) same e = tt
  step_named s state next (Split n k) same e = tt
  step_named s state next (Make node) same e = make_named s state next node same e

  steps_named : (s : Sequent) (state last : State) (log : List Step) → s.world ≡ of_program program → after_all s state log ≡ Some last → AllByRecursion (HasNames (names_in program)) log
  steps_named s state last [] same e = tt
  steps_named s state last (step ∷ log) same e =
      let found = then_some (λ next. after_all s next log) (after s state step) last e in
      (step_named s state found.0 step same found.1, steps_named s found.0 last log same found.2)

  derived_named : (os : List Obligation) (logs : List (List Step)) → AreDerived program os logs → HaveNames (names_in program) logs
  derived_named [] [] are = tt
  derived_named [] (log ∷ logs) are = absurd are
  derived_named (o ∷ os) [] are = absurd are
  derived_named (o ∷ os) (log ∷ logs) are =
      let s = are.0.sequent in
      (steps_named s (begin s) are.0.derives.0 log are.0.is_of.world are.0.derives.1, derived_named os logs are.1)

pub derived_have_text : DerivedHaveText
derived_have_text program os logs named are numbers = have_text (names_in program) logs numbers (derived_named program named os logs are)
