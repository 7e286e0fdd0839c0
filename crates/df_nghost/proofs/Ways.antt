-- The way through statements is the flow, where statements are well typed: a declaration takes no value away, and no `break`
-- carries more behind a loop than was before it.
use Rattle.std.proofs.Common.{◌≡◌, ◌≤◌, ◌<◌, ℕ, suc, ◌==◌, Bool, true, false, if◌then◌else◌, List, [], ◌∷◌, ◌++◌, length, Option, Some, None, refl, sym, ap, ◌∙◌, arith}
use Rattle.std.proofs.lemmas.Bool.{eqb-true, and_parts}
use Rattle.std.specs.List.{list_all, flat_map}
use Rattle.df_lemmas.proofs.Truths.{three, four}
use Rattle.df_lang.specs.declared.ty.Ty.{Ty}
use Rattle.df_lang.specs.declared.ty.Ty.TheVariants as types
use Rattle.df_lang.specs.Stmt.{Update, Target, Variable, Stmt, Block, Var, Assign, CallOf, If, While, Break, Return, Assert, Print, Stmts, done, next, Branches, no_branch, branch}
use Rattle.df_lang.specs.Program.{Method, Program}
use Rattle.df_lang.specs.Typing.{is_type, is_expr, are_clauses, may_update, are_numbered, variable_numbers, variable_types, locals_after, locals_after_all, locals_after_branches, is_measured, is_stmt, are_stmts, are_branches}
use Rattle.df_lang.specs.Assignment as pure
use Rattle.df_lang.specs.Assignment.{Assigned, Unreached, Reached, has_value, join, mark, declare, assign, assign_all, unassigned, reads, reads_of_operand, reads_of_call, reads_of_update, reads_of_clauses, reads_of_measures, results_at, Flowing, flow, flow_all, flow_branches}
use Rattle.df_nghost.specs.declared.reads.Use.{Use}
use Rattle.df_nghost.specs.mirror.Uses.{least, pick}
use Rattle.df_nghost.specs.mirror.Way.{Known, look, way_of, begun, go, go_all, go_branches}
use Rattle.df_nghost.proofs.Uses.{least_append, pick_least}
use Rattle.df_nghost.proofs.Sets.{join_assoc, join_kept}
use Rattle.df_lang.specs.Flow.{AreDeclared}
use Rattle.df_lang.proofs.Carrying.{declared_more, place, all_grow, branches_grow, carries, all_carry}

abbrev pub with_first : Assigned → Option Use → Known
with_first at first = record { at = at; first = first }

-- what is known behind statements of the flow
abbrev pub behind : Option Use → Flowing → Known
behind first flowing = with_first flowing.behind (least first flowing.missing)

-- ---- declarations

if_none : (set : ℕ → Bool) (local k : ℕ) (b : Bool) → (k == local) ≡ b → set local ≡ false → (if b then false else set k) ≡ set k
if_none set local k true same none = let is : k ≡ local = eqb-true k local same in rw is (sym none)
if_none set local k false same none = refl

no_value : (size local : ℕ) (b : Bool) → size ≤ local → (b ≡ true → local < size) → b ≡ false
no_value size local true le h = absurd (let less = h refl in omega (arith, le, less))
no_value size local false le h = refl

unmarked : (size local : ℕ) (a : Assigned) → size ≤ local → AreDeclared size a → mark false a local ≡ a
unmarked size local Unreached le h = refl
unmarked size local (Reached set) le h = λ i. Reached (λ k. if_none set local k (k == local) refl (no_value size local (set local) le (h local)) i)

-- variables that are numbered behind all others take no value away
undeclared : (size from : ℕ) (variables : List Variable) (a : Assigned) → size ≤ from → are_numbered from (variable_numbers variables) ≡ true → AreDeclared size a → declare a variables ≡ a
undeclared size from [] a le are h = refl
undeclared size from (v ∷ vs) a le are h =
    let are = and_parts (v.local == from) (are_numbered (suc from) (variable_numbers vs)) are in
    let same : v.local ≡ from = eqb-true v.local from are.0 in
    ap (λ (b : Assigned). declare b vs) (unmarked size v.local a (omega (arith, le, same)) h) ∙ undeclared size (suc from) vs a (omega (arith, le)) are.1 h

-- ---- what no path comes to

none_assigned : (update : Option Update) → assign_all Unreached update ≡ Unreached
none_assigned None = refl
none_assigned (Some update) = none_given update.targets
  where
    none_given : (targets : List Target) → assign Unreached targets ≡ Unreached
    none_given [] = refl
    none_given (t ∷ ts) = none_given ts

none_declared : (variables : List Variable) → declare Unreached variables ≡ Unreached
none_declared [] = refl
none_declared (v ∷ vs) = none_declared vs

record IsUnreached (flowing : Flowing) : Type 0 where
  behind : flowing.behind ≡ Unreached
  breaks : flowing.breaks ≡ Unreached

both_unreached : (a b : Assigned) → a ≡ Unreached → b ≡ Unreached → join a b ≡ Unreached
both_unreached a b p q = rw (p, q) refl

module _ (own : Method) where
  mutual
    unreached : (stmt : Stmt) (a : Assigned) → a ≡ Unreached → IsUnreached (flow own a stmt)
    unreached (Block at body) a e = all_unreached body a e
    unreached (Var at variables update) a e = record {
      behind = ap (λ (b : Assigned). assign_all (declare b variables) update) e ∙ ap (λ (b : Assigned). assign_all b update) (none_declared variables) ∙ none_assigned update;
      breaks = refl;
    }
    unreached (Assign at update) a e = record { behind = ap (λ (b : Assigned). assign b update.targets) e ∙ none_assigned (Some update); breaks = refl }
    unreached (CallOf call) a e = record { behind = e; breaks = refl }
    unreached (If branches otherwise) a e = branches_unreached branches a e (flow_all own a otherwise) (all_unreached otherwise a e)
    unreached (While at guard invariants decreases body) a e = record { behind = both_unreached a (flow_all own a body).breaks e (all_unreached body a e).breaks; breaks = refl }
    unreached (Break at) a e = record { behind = refl; breaks = e }
    unreached (Return at update) a e = record { behind = refl; breaks = refl }
    unreached (Assert at condition) a e = record { behind = e; breaks = refl }
    unreached (Print at operands) a e = record { behind = e; breaks = refl }

    all_unreached : (stmts : Stmts) (a : Assigned) → a ≡ Unreached → IsUnreached (flow_all own a stmts)
    all_unreached done a e = record { behind = e; breaks = refl }
    all_unreached (next stmt others) a e =
        let first = unreached stmt a e in
        let rest = all_unreached others (flow own a stmt).behind first.behind in
        record { behind = rest.behind; breaks = both_unreached (flow own a stmt).breaks (flow_all own (flow own a stmt).behind others).breaks first.breaks rest.breaks }

    branches_unreached : (branches : Branches) (a : Assigned) → a ≡ Unreached → (otherwise : Flowing) → IsUnreached otherwise → IsUnreached (flow_branches own a branches otherwise)
    branches_unreached no_branch a e otherwise o = o
    branches_unreached (branch at guard body rest) a e otherwise o =
        let taken = all_unreached body a e in
        let others = branches_unreached rest a e otherwise o in
        record {
          behind = both_unreached (flow_all own a body).behind (flow_branches own a rest otherwise).behind taken.behind others.behind;
          breaks = both_unreached (flow_all own a body).breaks (flow_branches own a rest otherwise).breaks taken.breaks others.breaks;
        }

-- no other locals have a value than those that are declared
in_all : (size : ℕ) (before other : Assigned) → (before ≡ Unreached → other ≡ Unreached) → AreDeclared size before → ((k : ℕ) → k < size → has_value before k ≡ true → has_value other k ≡ true)
    → (k : ℕ) → has_value before k ≡ true → has_value other k ≡ true
in_all size Unreached other none h carried k e = rw (none refl) refl
in_all size (Reached set) other none h carried k e = carried k (h k e) e

-- ---- statements

module _ (program : Program) (own : Method) where
  mutual
    pub goes : (stmt : Stmt) (locals : List Ty) (in_loop : Bool) (before : Assigned) (first : Option Use) → is_stmt (place program locals own in_loop) stmt ≡ true → AreDeclared (length locals) before
        → go own (with_first before first) stmt ≡ behind first (flow own before stmt)
    goes (Block at body) locals in_loop before first is h = all_go body locals in_loop before first is h
    goes (Var at variables update) locals in_loop before first is h =
        let is = three (are_numbered (length locals) (variable_numbers variables)) (list_all (is_type program) (variable_types variables)) (may_update (place program (locals ++ variable_types variables) own in_loop) update) is in
        let same = sym (undeclared (length locals) (length locals) variables before (omega arith) is.0 h) in
        ap (λ (a : Assigned). with_first (assign_all a update) (pick a first (reads_of_update update))) same
        ∙ ap (λ (f : Option Use). with_first (assign_all (declare before variables) update) f) (pick_least (declare before variables) first (reads_of_update update))
    goes (Assign at update) locals in_loop before first is h = ap (λ (f : Option Use). with_first (assign before update.targets) f) (pick_least before first (reads_of_update (Some update)))
    goes (CallOf call) locals in_loop before first is h = ap (λ (f : Option Use). with_first before f) (pick_least before first (reads_of_call call))
    goes (If branches otherwise) locals in_loop before first is h =
        let is = and_parts (are_branches (place program locals own in_loop) branches) (are_stmts (place program (locals_after_branches locals branches) own in_loop) otherwise) is in
        let more : List Ty = locals_after_branches locals branches in
        let ways : Known = go_branches own before (with_first Unreached first) branches in
        ap (way_of ways) (all_go otherwise more in_loop before ways.first is.1 (declared_more (length locals) (length more) before (branches_grow locals branches) h))
        ∙ branches_go branches locals in_loop before (with_first Unreached first) (flow_all own before otherwise) is.0 h
    goes (While at guard invariants decreases body) locals in_loop before first is h =
        let is = four (is_expr program locals types.Bool guard) (are_clauses program locals invariants) (is_measured (place program locals own in_loop) guard decreases) (are_stmts (place program locals own true) body) is in
        let uses : List pure.Use = reads guard ++ reads_of_clauses invariants ++ reads_of_measures decreases in
        let turn : Flowing = flow_all own before body in
        let c = all_carry program own body locals true before is.3 h in
        let kept = join_kept before turn.breaks (λ e. (all_unreached own body before e).breaks) (in_all (length locals) before turn.breaks (λ e. (all_unreached own body before e).breaks) h c.carried) in
        let told =
        ap (λ (k : Known). k.first) (all_go body locals true before (pick before first uses) is.3 h)
        ∙ ap (λ (f : Option Use). least f turn.missing) (pick_least before first uses) ∙ sym (least_append first (unassigned before uses) turn.missing) in
        λ i. with_first (kept i) (told i)
    goes (Break at) locals in_loop before first is h = refl
    goes (Return at update) locals in_loop before first is h =
        let behind_update : Assigned = assign_all before update in
        ap (λ (f : Option Use). with_first Unreached f)
        (pick_least behind_update (pick before first (reads_of_update update)) (results_at own at)
        ∙ ap (λ (f : Option Use). least f (unassigned behind_update (results_at own at))) (pick_least before first (reads_of_update update))
        ∙ sym (least_append first (unassigned before (reads_of_update update)) (unassigned behind_update (results_at own at))))
    goes (Assert at condition) locals in_loop before first is h = ap (λ (f : Option Use). with_first before f) (pick_least before first (reads condition))
    goes (Print at operands) locals in_loop before first is h = ap (λ (f : Option Use). with_first before f) (pick_least before first (flat_map reads_of_operand operands))

    pub all_go : (stmts : Stmts) (locals : List Ty) (in_loop : Bool) (before : Assigned) (first : Option Use) → are_stmts (place program locals own in_loop) stmts ≡ true → AreDeclared (length locals) before
        → go_all own (with_first before first) stmts ≡ behind first (flow_all own before stmts)
    all_go done locals in_loop before first is h = refl
    all_go (next stmt others) locals in_loop before first is h =
        let is = and_parts (is_stmt (place program locals own in_loop) stmt) (are_stmts (place program (locals_after locals stmt) own in_loop) others) is in
        let one : Flowing = flow own before stmt in
        let rest : Flowing = flow_all own one.behind others in
        ap (λ (k : Known). go_all own k others) (goes stmt locals in_loop before first is.0 h)
        ∙ all_go others (locals_after locals stmt) in_loop one.behind (least first one.missing) is.1 (carries program own stmt locals in_loop before is.0 h).behind
        ∙ ap (λ (f : Option Use). with_first rest.behind f) (sym (least_append first one.missing rest.missing))

    branches_go : (branches : Branches) (locals : List Ty) (in_loop : Bool) (before : Assigned) (ways : Known) (otherwise : Flowing) → are_branches (place program locals own in_loop) branches ≡ true → AreDeclared (length locals) before
        → way_of (go_branches own before ways branches) (behind (go_branches own before ways branches).first otherwise)
        ≡ way_of ways (behind ways.first (flow_branches own before branches otherwise))
    branches_go no_branch locals in_loop before ways otherwise is h = refl
    branches_go (branch at guard body rest) locals in_loop before ways otherwise is h =
        let is = three (is_expr program locals types.Bool guard) (are_stmts (place program locals own in_loop) body) (are_branches (place program (locals_after_all locals body) own in_loop) rest) is in
        let more : List Ty = locals_after_all locals body in
        let looked : Option Use = pick before ways.first (reads guard) in
        let taken : Flowing = flow_all own before body in
        let others : Flowing = flow_branches own before rest otherwise in
        let one : Known = way_of ways (go_all own (look (begun before ways) (reads guard)) body) in
        let missed : List pure.Use = unassigned before (reads guard) in
        let first_is : least (least looked taken.missing) others.missing ≡ least ways.first (missed ++ taken.missing ++ others.missing) =
        ap (λ (f : Option Use). least (least f taken.missing) others.missing) (pick_least before ways.first (reads guard))
        ∙ ap (λ (f : Option Use). least f others.missing) (sym (least_append ways.first missed taken.missing))
        ∙ sym (least_append ways.first (missed ++ taken.missing) others.missing) in
        branches_go rest more in_loop before one otherwise is.2 (declared_more (length locals) (length more) before (all_grow locals body) h)
        ∙ ap (λ (k : Known). way_of (way_of ways k) (behind k.first others)) (all_go body locals in_loop before looked is.1 h)
        ∙ (λ i. with_first (join_assoc ways.at taken.behind others.behind i) (first_is i))
