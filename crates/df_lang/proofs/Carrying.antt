-- The flow of definite assignment in well-typed statements: what has a value keeps it, and only declared locals have one.
use Rattle.std.proofs.Common.{◌≡◌, ◌≤◌, ◌<◌, ℕ, suc, ◌==◌, nat_le, Bool, true, false, if◌then◌else◌, List, [], ◌∷◌, ◌++◌, map, length, slice_get, Option, Some, None, refl, length-append, arith}
use Rattle.std.proofs.lemmas.Bool.{eqb-true, and_parts, and_from}
use Rattle.std.proofs.lemmas.Option.{slice_get_within}
use Rattle.std.specs.Option.{option_map_or}
use Rattle.std.specs.List.{list_all, flat_map}
use Rattle.df_lemmas.proofs.Truths.{three, four}
use Rattle.df_lang.specs.declared.ty.Ty.{Ty}
use Rattle.df_lang.specs.declared.ty.Ty.TheVariants as types
use Rattle.df_lang.specs.Stmt.{Target, Update, Variable, Stmt, Block, Var, Assign, CallOf, If, While, Break, Return, Assert, Print, Stmts, done, next, Branches, no_branch, branch}
use Rattle.df_lang.specs.Program.{Method, Program}
use Rattle.df_lang.specs.Newtype.{same_type}
use Rattle.df_lang.specs.Typing.{are_same_types, is_type, is_expr, are_clauses, Setting, is_source, source_types, is_target, may_update, are_numbered, variable_numbers, variable_types, locals_after, locals_after_all, locals_after_branches, is_measured, is_stmt, are_stmts, are_branches}
use Rattle.df_lang.specs.Assignment.{Use, Assigned, Unreached, Reached, has_value, join, mark, declare, assign, assign_all, Flowing, goes_to, flow, flow_all, flow_branches}
use Rattle.df_lang.specs.Flow.{AreDeclared}

-- ---- what is assigned

-- the first locals that have a value in the one have one in the other
abbrev pub Retains : ℕ → Assigned → Assigned → Type 0
Retains size a b = (local : ℕ) → local < size → has_value a local ≡ true → has_value b local ≡ true

pub declared_more : (size more : ℕ) (a : Assigned) → size ≤ more → AreDeclared size a → AreDeclared more a
declared_more size more Unreached le h = tt
declared_more size more (Reached set) le h = λ local e. let less = h local e in omega (arith, less, le)

pub join_declared : (size : ℕ) (a b : Assigned) → AreDeclared size a → AreDeclared size b → AreDeclared size (join a b)
join_declared size Unreached b h k = k
join_declared size (Reached set) Unreached h k = h
join_declared size (Reached set) (Reached other) h k = λ local e. h local (and_parts (set local) (other local) e).0

join_has : (a b : Assigned) (local : ℕ) → has_value a local ≡ true → has_value b local ≡ true → has_value (join a b) local ≡ true
join_has Unreached b local h k = k
join_has (Reached set) Unreached local h k = h
join_has (Reached set) (Reached other) local h k = and_from (set local) (other local) h k

-- ---- marked locals

if_marked : (size local : ℕ) (set : ℕ → Bool) (b : Bool) (k : ℕ) → (k == local) ≡ b → (if b then true else set k) ≡ true → local < size → (set k ≡ true → k < size) → k < size
if_marked size local set true k same e less h = let is : k ≡ local = eqb-true k local same in omega (arith, is, less)
if_marked size local set false k same e less h = h e

mark_declared : (size local : ℕ) (a : Assigned) → local < size → AreDeclared size a → AreDeclared size (mark true a local)
mark_declared size local Unreached less h = tt
mark_declared size local (Reached set) less h = λ k e. if_marked size local set (k == local) k refl e less (h k)

if_unmarked : (set : ℕ → Bool) (b : Bool) (k : ℕ) → (if b then false else set k) ≡ true → set k ≡ true
if_unmarked set true k e = absurd (let f : false ≡ true = e in cc)
if_unmarked set false k e = e

unmark_declared : (size local : ℕ) (a : Assigned) → AreDeclared size a → AreDeclared size (mark false a local)
unmark_declared size local Unreached h = tt
unmark_declared size local (Reached set) h = λ k e. h k (if_unmarked set (k == local) k e)

if_has_marked : (b : Bool) (has : Bool) → has ≡ true → (if b then true else has) ≡ true
if_has_marked true has h = refl
if_has_marked false has h = h

mark_has : (local : ℕ) (a : Assigned) (k : ℕ) → has_value a k ≡ true → has_value (mark true a local) k ≡ true
mark_has local Unreached k h = refl
mark_has local (Reached set) k h = if_has_marked (k == local) (set k) h

if_has_unmarked : (local k : ℕ) (b : Bool) (has : Bool) → (k == local) ≡ b → k < local → has ≡ true → (if b then false else has) ≡ true
if_has_unmarked local k true has same less h = let is : k ≡ local = eqb-true k local same in absurd (omega (arith, is, less))
if_has_unmarked local k false has same less h = h

unmark_has : (local : ℕ) (a : Assigned) (k : ℕ) → k < local → has_value a k ≡ true → has_value (mark false a local) k ≡ true
unmark_has local Unreached k less h = refl
unmark_has local (Reached set) k less h = if_has_unmarked local k (k == local) (set k) refl less h

pub declare_declared : (size : ℕ) (variables : List Variable) (a : Assigned) → AreDeclared size a → AreDeclared size (declare a variables)
declare_declared size [] a h = h
declare_declared size (v ∷ vs) a h = declare_declared size vs (mark false a v.local) (unmark_declared size v.local a h)

-- variables are declared behind all others
declare_has : (from : ℕ) (variables : List Variable) (a : Assigned) (k : ℕ) → are_numbered from (variable_numbers variables) ≡ true → k < from → has_value a k ≡ true → has_value (declare a variables) k ≡ true
declare_has from [] a k are less h = h
declare_has from (v ∷ vs) a k are less h =
    let are = and_parts (v.local == from) (are_numbered (suc from) (variable_numbers vs)) are in
    let same : v.local ≡ from = eqb-true v.local from are.0 in
    declare_has (suc from) vs (mark false a v.local) k are.1 (omega (arith, less)) (unmark_has v.local a k (omega (arith, same, less)) h)

assign_has : (targets : List Target) (a : Assigned) (k : ℕ) → has_value a k ≡ true → has_value (assign a targets) k ≡ true
assign_has [] a k h = h
assign_has (t ∷ ts) a k h = assign_has ts (mark true a t.local) k (mark_has t.local a k h)

assign_all_has : (update : Option Update) (a : Assigned) (k : ℕ) → has_value a k ≡ true → has_value (assign_all a update) k ≡ true
assign_all_has None a k h = h
assign_all_has (Some update) a k h = assign_has update.targets a k h

-- ---- statements

-- where a statement of a method stands
abbrev pub place : Program → List Ty → Method → Bool → Setting
place program locals own in_loop = record { program = program; method = own; locals = locals; in_loop = in_loop }

-- the first locals have values where they had them, and none behind the declared ones has one
pub record Carries (size more : ℕ) (before : Assigned) (flowing : Flowing) : Type 0 where
  pub behind : AreDeclared more flowing.behind
  pub breaks : AreDeclared more flowing.breaks
  pub kept : Retains size before flowing.behind
  pub carried : Retains size before flowing.breaks

mutual
  pub grows : (locals : List Ty) (stmt : Stmt) → length locals ≤ length (locals_after locals stmt)
  grows locals (Block at body) = all_grow locals body
  grows locals (Var at variables update) = omega (arith, length-append locals (variable_types variables))
  grows locals (Assign at update) = omega arith
  grows locals (CallOf call) = omega arith
  grows locals (If branches otherwise) = omega (arith, branches_grow locals branches, all_grow (locals_after_branches locals branches) otherwise)
  grows locals (While at guard invariants decreases body) = all_grow locals body
  grows locals (Break at) = omega arith
  grows locals (Return at update) = omega arith
  grows locals (Assert at condition) = omega arith
  grows locals (Print at operands) = omega arith

  pub all_grow : (locals : List Ty) (stmts : Stmts) → length locals ≤ length (locals_after_all locals stmts)
  all_grow locals done = omega arith
  all_grow locals (next stmt others) = omega (arith, grows locals stmt, all_grow (locals_after locals stmt) others)

  pub branches_grow : (locals : List Ty) (branches : Branches) → length locals ≤ length (locals_after_branches locals branches)
  branches_grow locals no_branch = omega arith
  branches_grow locals (branch at guard body rest) = omega (arith, all_grow locals body, branches_grow (locals_after_all locals body) rest)

-- nothing is carried by a `break`
carries_on : (size more : ℕ) (before a : Assigned) (missing : List Use) → AreDeclared more a → Retains size before a → Carries size more before (goes_to a missing)
carries_on size more before a missing h k = record { behind = h; breaks = tt; kept = k; carried = λ local less e. refl }

carries_same : (size : ℕ) (before : Assigned) (missing : List Use) → AreDeclared size before → Carries size size before (goes_to before missing)
carries_same size before missing h = carries_on size size before before missing h (λ local less e. e)

-- of fewer locals that have values, among more that are declared
carries_less : (fewer size more most : ℕ) (before : Assigned) (flowing : Flowing) → fewer ≤ size → more ≤ most → Carries size more before flowing → Carries fewer most before flowing
carries_less fewer size more most before flowing less_size less_more c = record {
  behind = declared_more more most flowing.behind less_more c.behind;
  breaks = declared_more more most flowing.breaks less_more c.breaks;
  kept = λ local less e. c.kept local (omega (arith, less, less_size)) e;
  carried = λ local less e. c.carried local (omega (arith, less, less_size)) e;
}

module _ (program : Program) (own : Method) where
  targets_declared : (locals : List Ty) (in_loop : Bool) (targets : List Target) (a : Assigned) → list_all (is_target (place program locals own in_loop)) targets ≡ true → AreDeclared (length locals) a
      → AreDeclared (length locals) (assign a targets)
  targets_declared locals in_loop [] a are h = h
  targets_declared locals in_loop (t ∷ ts) a are h =
      let are = and_parts (is_target (place program locals own in_loop) t) (list_all (is_target (place program locals own in_loop)) ts) are in
      targets_declared locals in_loop ts (mark true a t.local) are.1
      (mark_declared (length locals) t.local a (by_type (slice_get locals t.local) refl (and_parts (nat_le (length own.parameters) t.local) (option_map_or (same_type t.ty) (slice_get locals t.local) false) are.0).1) h)
    where
      by_type : (o : Option Ty) → slice_get locals t.local ≡ o → option_map_or (same_type t.ty) o false ≡ true → t.local < length locals
      by_type None there same = absurd (let f : false ≡ true = same in cc)
      by_type (Some ty) there same = slice_get_within locals t.local ty there

  pub update_declared : (locals : List Ty) (in_loop : Bool) (update : Option Update) (a : Assigned) → may_update (place program locals own in_loop) update ≡ true → AreDeclared (length locals) a
      → AreDeclared (length locals) (assign_all a update)
  update_declared locals in_loop None a is h = h
  update_declared locals in_loop (Some update) a is h =
      targets_declared locals in_loop update.targets a (three (list_all (is_target (place program locals own in_loop)) update.targets) (list_all (is_source (place program locals own in_loop)) update.sources)
      (are_same_types (flat_map source_types update.sources) (map (λ (t : Target). t.ty) update.targets)) is).0 h

  mutual
    pub carries : (stmt : Stmt) (locals : List Ty) (in_loop : Bool) (before : Assigned) → is_stmt (place program locals own in_loop) stmt ≡ true → AreDeclared (length locals) before
        → Carries (length locals) (length (locals_after locals stmt)) before (flow own before stmt)
    carries (Block at body) locals in_loop before is h = all_carry body locals in_loop before is h
    carries (Var at variables update) locals in_loop before is h =
        let is = three (are_numbered (length locals) (variable_numbers variables)) (list_all (is_type program) (variable_types variables)) (may_update (place program (locals ++ variable_types variables) own in_loop) update) is in
        let more : List Ty = locals ++ variable_types variables in
        carries_on (length locals) (length more) before (assign_all (declare before variables) update) _
        (update_declared more in_loop update (declare before variables) is.2
        (declared_more (length locals) (length more) (declare before variables) (omega (arith, length-append locals (variable_types variables))) (declare_declared (length locals) variables before h)))
        (λ local less e. assign_all_has update (declare before variables) local (declare_has (length locals) variables before local is.0 less e))
    carries (Assign at update) locals in_loop before is h =
        carries_on (length locals) (length locals) before (assign before update.targets) _ (update_declared locals in_loop (Some update) before is h) (λ local less e. assign_has update.targets before local e)
    carries (CallOf call) locals in_loop before is h = carries_same (length locals) before _ h
    carries (If branches otherwise) locals in_loop before is h =
        let is = and_parts (are_branches (place program locals own in_loop) branches) (are_stmts (place program (locals_after_branches locals branches) own in_loop) otherwise) is in
        let more : List Ty = locals_after_branches locals branches in
        let le = branches_grow locals branches in
        let most : ℕ = length (locals_after_all more otherwise) in
        branches_carry branches locals in_loop before is.0 h (length locals) most (omega arith) (all_grow more otherwise) (flow_all own before otherwise)
        (carries_less (length locals) (length more) most most before (flow_all own before otherwise) le (omega arith) (all_carry otherwise more in_loop before is.1 (declared_more (length locals) (length more) before le h)))
    carries (While at guard invariants decreases body) locals in_loop before is h =
        let is = four (is_expr program locals types.Bool guard) (are_clauses program locals invariants) (is_measured (place program locals own in_loop) guard decreases) (are_stmts (place program locals own true) body) is in
        let c = all_carry body locals true before is.3 h in
        let turn : Flowing = flow_all own before body in
        let more : ℕ = length (locals_after_all locals body) in
        carries_on (length locals) more before (join before turn.breaks) _ (join_declared more before turn.breaks (declared_more (length locals) more before (all_grow locals body) h) c.breaks)
        (λ local less e. join_has before turn.breaks local e (c.carried local less e))
    carries (Break at) locals in_loop before is h = record { behind = tt; breaks = h; kept = λ local less e. refl; carried = λ local less e. e }
    carries (Return at update) locals in_loop before is h = carries_on (length locals) (length locals) before Unreached _ tt (λ local less e. refl)
    carries (Assert at condition) locals in_loop before is h = carries_same (length locals) before _ h
    carries (Print at operands) locals in_loop before is h = carries_same (length locals) before _ h

    pub all_carry : (stmts : Stmts) (locals : List Ty) (in_loop : Bool) (before : Assigned) → are_stmts (place program locals own in_loop) stmts ≡ true → AreDeclared (length locals) before
        → Carries (length locals) (length (locals_after_all locals stmts)) before (flow_all own before stmts)
    all_carry done locals in_loop before is h = carries_same (length locals) before _ h
    all_carry (next stmt others) locals in_loop before is h =
        let is = and_parts (is_stmt (place program locals own in_loop) stmt) (are_stmts (place program (locals_after locals stmt) own in_loop) others) is in
        let more : List Ty = locals_after locals stmt in
        let most : ℕ = length (locals_after_all more others) in
        let le = grows locals stmt in
        let first : Flowing = flow own before stmt in
        let rest : Flowing = flow_all own first.behind others in
        let a = carries stmt locals in_loop before is.0 h in
        let b = all_carry others more in_loop first.behind is.1 a.behind in
        record {
          behind = b.behind;
          breaks = join_declared most first.breaks rest.breaks (declared_more (length more) most first.breaks (all_grow more others) a.breaks) b.breaks;
          kept = λ local less e. b.kept local (omega (arith, less, le)) (a.kept local less e);
          carried = λ local less e. join_has first.breaks rest.breaks local (a.carried local less e) (b.carried local (omega (arith, less, le)) (a.kept local less e));
        }

    branches_carry : (branches : Branches) (locals : List Ty) (in_loop : Bool) (before : Assigned) → are_branches (place program locals own in_loop) branches ≡ true → AreDeclared (length locals) before
        → (size most : ℕ) → size ≤ length locals → length (locals_after_branches locals branches) ≤ most → (otherwise : Flowing) → Carries size most before otherwise
        → Carries size most before (flow_branches own before branches otherwise)
    branches_carry no_branch locals in_loop before is h size most few many otherwise c = c
    branches_carry (branch at guard body rest) locals in_loop before is h size most few many otherwise c =
        let is = three (is_expr program locals types.Bool guard) (are_stmts (place program locals own in_loop) body) (are_branches (place program (locals_after_all locals body) own in_loop) rest) is in
        let more : List Ty = locals_after_all locals body in
        let le = all_grow locals body in
        let next_le = branches_grow more rest in
        let taken : Flowing = flow_all own before body in
        let others : Flowing = flow_branches own before rest otherwise in
        let a = carries_less size (length locals) (length more) most before taken few (omega (arith, next_le, many)) (all_carry body locals in_loop before is.1 h) in
        let b = branches_carry rest more in_loop before is.2 (declared_more (length locals) (length more) before le h) size most (omega (arith, few, le)) many otherwise c in
        record {
          behind = join_declared most taken.behind others.behind a.behind b.behind;
          breaks = join_declared most taken.breaks others.breaks a.breaks b.breaks;
          kept = λ local less e. join_has taken.behind others.behind local (a.kept local less e) (b.kept local less e);
          carried = λ local less e. join_has taken.breaks others.breaks local (a.carried local less e) (b.carried local less e);
        }
