-- Methods come to an end: by groups, and inside a group by their measures.
use Rattle.std.proofs.Common.{◌≡◌, ◌≤◌, ◌<◌, ℕ, zero, suc, max, true, inl, inr, List, [], ◌∷◌, length, slice_get, Some, None, refl, sym, subst, ◌∙◌, arith}
use mathlib.Core.WellFounded.{Acc}
use Rattle.std.specs.Option.{option_and_then}
use Rattle.df_base.specs.declared.pos.Pos.{Pos}
use Rattle.df_lang.specs.Program.{Method, Decl, NewtypeDecl, MethodDecl, Program, as_method, method_at, types_of}
use Rattle.df_lang.specs.Typing.{is_well_typed}
use Rattle.df_lang.specs.Groups.{group_at, AreGroups}
use Rattle.df_meaning.specs.declared.kind.Kind.{Kind}
use Rattle.df_meaning.specs.Value.{Value}
use Rattle.df_meaning.specs.Types.{have_types}
use Rattle.df_meaning.specs.Outcome.{Gives, Wrong}
use Rattle.df_meaning.specs.State.{Store, begin}
use Rattle.df_meaning.specs.Meaning.{Meaning}
use Rattle.df_meaning.specs.Execution.{evaluate_all}
use Rattle.df_meaning.specs.Whole.{run_method, whole}
use Rattle.df_meaning.specs.Modular.{Running, plain_meaning, AreModularlySafe}
use Rattle.df_meaning.specs.Correct.{MeetsPreconditions, Completes, AreCorrect}
use Rattle.df_meaning.proofs.Executing.{method_grows, wholes_grow}
use Rattle.df_meaning.proofs.Wholes.{program_of_whole}
use Rattle.df_hoare.specs.Total.{SafeIsCorrect}
use Rattle.df_hoare.proofs.Running.{stays, stays_wrong}
use Rattle.df_hoare.proofs.Clauses.{IsMet, seen_alike, met_by_call}
use Rattle.df_hoare.proofs.Order.{FallsBelow, lists_end}
use Rattle.df_hoare.proofs.Measuring.{whole_gives}
use Rattle.df_hoare.proofs.Counted.{EachCounts, each_counts}
use Rattle.df_hoare.proofs.Loops.{values_length}
use Rattle.df_hoare.proofs.Calls.{measure_of, Comes, CalleesCome}
use Rattle.df_hoare.proofs.Bodies.{with_entry, body_comes}

-- ---- the longest measure of a program

abbrev longest : List Decl → ℕ
longest [] = 0
longest (NewtypeDecl newtype ∷ others) = longest others
longest (MethodDecl method ∷ others) = max (length (measure_of method)) (longest others)

no_longer : (decls : List Decl) (id : ℕ) (method : Method) → option_and_then as_method (slice_get decls id) ≡ Some method → length (measure_of method) ≤ longest decls
no_longer [] id method e = absurd (let f : None ≡ Some method = e in cc)
no_longer (NewtypeDecl newtype ∷ others) zero method e = absurd (let f : None ≡ Some method = e in cc)
no_longer (NewtypeDecl newtype ∷ others) (suc id) method e = no_longer others id method e
no_longer (MethodDecl own ∷ others) zero method e =
    let same : own ≡ method = let f : Some own ≡ Some method = e in cc in
    subst (λ (x : Method). length (measure_of x) ≤ max (length (measure_of own)) (longest others)) same (omega arith)
no_longer (MethodDecl own ∷ others) (suc id) method e = let le = no_longer others id method e in omega arith

module _ (program : Program) (groups : List ℕ) (well : is_well_typed program ≡ true) (groups_are : AreGroups program groups) (counts : EachCounts program) (safe : AreModularlySafe program groups) where
  -- it is no longer than the longest
  short : (number : ℕ) (method : Method) (arguments : List Value) (store : Store) (now : List Value) → method_at program number ≡ Some method
      → evaluate_all (plain_meaning program) (begin arguments store) (measure_of method) ≡ Gives now → length now ≤ longest program.decls
  short number method arguments store now there e =
      let long : length now ≡ length (measure_of method) = values_length (plain_meaning program) (begin arguments store) (measure_of method) now e in
      let le : length (measure_of method) ≤ longest program.decls = no_longer program.decls number method there in
      omega arith

  -- methods of groups before this come to an end
  abbrev Earlier : ℕ → Type 0
  Earlier bound = (number : ℕ) (method : Method) (arguments : List Value) (store : Store) → method_at program number ≡ Some method → have_types program (types_of method.parameters) arguments ≡ true
      → IsMet program (begin arguments store) method.preconditions → group_at groups number < bound → Comes program method arguments store

  by_measure : (bound : ℕ) → Earlier bound → (entry : List Value) → Acc (FallsBelow (longest program.decls)) entry
      → (number : ℕ) (method : Method) (arguments : List Value) (store : Store) → method_at program number ≡ Some method → have_types program (types_of method.parameters) arguments ≡ true
      → IsMet program (begin arguments store) method.preconditions → group_at groups number ≤ bound → evaluate_all (plain_meaning program) (begin arguments store) (measure_of method) ≡ Gives entry
      → Comes program method arguments store
  by_measure bound earlier entry (Acc.intro here falls) number method arguments store there typed met le entry_is =
      let run : Running = record { program = program; groups = groups; number = number; entry = entry } in
      let known : CalleesCome run = record {
        comes = λ callee other values at other_there other_typed other_met may. elim may [
          | inl less ↦ earlier callee other values at other_there other_typed other_met (omega (arith, less, le))
          | inr both ↦
              let same : group_at groups callee ≡ group_at groups number = both.0 in
              by_measure bound earlier both.1.now (falls both.1.now (record { short = short callee other values at both.1.now other_there both.1.is_now; below = both.1.below }))
              callee other values at other_there other_typed other_met (omega (arith, same, le)) both.1.is_now
        ];
      } in
      body_comes run well groups_are known counts method there (safe number method there) arguments store typed met entry_is

  by_group : (bound : ℕ) → Earlier bound
  by_group zero number method arguments store there typed met less = absurd (omega (arith, less))
  by_group (suc bound) number method arguments store there typed met less =
      with_entry program method arguments store met groups number there typed counts (safe number method there) (λ entry e.
      by_measure bound (by_group bound) entry (lists_end (longest program.decls) entry (short number method arguments store entry there e)) number method arguments store there typed met (omega (arith, less)) e)

  comes : (number : ℕ) (method : Method) (arguments : List Value) (store : Store) → method_at program number ≡ Some method → have_types program (types_of method.parameters) arguments ≡ true
      → MeetsPreconditions program method arguments store → Comes program method arguments store
  comes number method arguments store there typed meets =
      let s = begin arguments store in
      let m : Meaning = whole program meets.depth in
      let met : IsMet program s method.preconditions =
      met_by_call m (plain_meaning program) s s s method.declared.pos method.preconditions (seen_alike m (plain_meaning program) s s (record { program = program_of_whole program meets.depth; locals = λ local. refl }) method.preconditions) meets.met in
      by_group (suc (group_at groups number)) number method arguments store there typed met (omega arith)

  completes : (number : ℕ) (method : Method) (arguments : List Value) (store : Store) → method_at program number ≡ Some method → have_types program (types_of method.parameters) arguments ≡ true
      → MeetsPreconditions program method arguments store → Completes program method arguments store
  completes number method arguments store there typed meets =
      let c = comes number method arguments store there typed meets in
      record { depth = c.depth; returned = c.returned; ends = whole_gives program c.depth method.declared.pos method arguments store c.returned (c.ends method.declared.pos) }

  -- what comes to an end is wrong at no depth
  never_wrong : (method : Method) (arguments : List Value) (store : Store) → Completes program method arguments store → (depth : ℕ) (at : Pos) (kind : Kind)
      → run_method (whole program depth) method.declared.pos method arguments store ≡ Wrong at kind → ⊥
  never_wrong method arguments store c depth at kind e =
      let both = max depth c.depth in
      let grown = λ (n : ℕ) (le : n ≤ both). method_grows (whole program n) (whole program both) (wholes_grow program n both le) method.declared.pos method arguments store in
      let wrong = stays_wrong (run_method (whole program depth) method.declared.pos method arguments store) (run_method (whole program both) method.declared.pos method arguments store) at kind (grown depth (omega arith)) e in
      let good = stays (run_method (whole program c.depth) method.declared.pos method arguments store) (run_method (whole program both) method.declared.pos method arguments store) c.returned (grown c.depth (omega arith)) c.ends in
      let clash : Gives c.returned ≡ Wrong at kind = sym good ∙ wrong in cc

  are_correct : AreCorrect program
  are_correct number method there = record {
    never_wrong = λ arguments store typed meets. never_wrong method arguments store (completes number method arguments store there typed meets);
    completes = λ arguments store typed meets. completes number method arguments store there typed meets;
  }

pub safe_is_correct : SafeIsCorrect
safe_is_correct program well definite safe = are_correct program safe.groups well safe.are_groups (each_counts program well definite) safe.methods
