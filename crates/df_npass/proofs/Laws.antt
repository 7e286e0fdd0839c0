-- The laws of obligations and modular runs.
use Rattle.df_npass.proofs.Words.{◌≡◌, ℕ, pos, true, [], ◌++◌, Contains, None, Some, ◌+◌, arith, refl, sym, ◌∙◌, subst, le_refl, Pos, Program, method_at, types_of, Kind, Value, State, Truth, Character, Number, have_types, Wrong, store_with, modular_run, IsModularlyWrong, method_typed, Sort, Numbers, Truths, Characters, Free, Interpretation, has_sort, truth, any_values, pass_method, obligations_of_method, handed_in, WrongIsRefuted, RefutedIsWrong, ValidIsSafe, SafeIsValid, AllValidIsSafe, RefutedMemberIsWrong, ValidMembersAreSafe, true_is_not_false, true≢false}
use Rattle.df_npass.proofs.Runs.{Following, Taking, Play, ahead_taking, ahead_following, all_same, FirstFalse, first_behind, first_rest, known_first, by_bool, any_giving, values_at, values_move, nesting_all, AllSorted, take_all, any_known, any_sorted, any_typed, any_set, params_of}
use Rattle.df_npass.proofs.Obligations.{first_refuted, refuted_first, of_declaration, of_method_there, there_of_method}
use Rattle.df_npass.proofs.Beginning.{behind_arguments, method_play}

-- a value of each sort
any_value : Sort → Value
any_value Numbers = Number (pos 0)
any_value Truths = Truth true
any_value Characters = Character 0

any_value_sorted : (sort : Sort) → has_sort sort (any_value sort) ≡ true
unfolding any_value
any_value_sorted Numbers = refl
any_value_sorted Truths = refl
any_value_sorted Characters = refl

-- some interpretation
some_interpretation : Program → Interpretation
some_interpretation program = record { program = program; value = λ (free : Free). any_value free.sort; sorted = λ (free : Free). any_value_sorted free.sort }

some_program : (program : Program) → (some_interpretation program).program ≡ program
unfolding some_interpretation
some_program program = refl

pub wrong_is_refuted : WrongIsRefuted
wrong_is_refuted program groups number method at kind well definite found wrong =
    let is = method_typed program number method well found in
    let arguments = any_values None method.parameters 0 in
    let giving = any_giving None method.parameters 0 tt in
    let start = some_interpretation program in
    let took = take_all start None method.parameters 0 wrong.arguments (subst (λ (p : Program). have_types p (types_of method.parameters) wrong.arguments ≡ true) (sym (some_program program)) wrong.typed) in
    let program_is = sym took.same.program ∙ some_program program in
    let of = params_of took.to method.parameters arguments.terms (subst (λ vs. AllSorted method.parameters vs) (sym took.are) took.sorted) (any_set None method.parameters 0) in
    let behind = behind_arguments program well groups number method is (definite number method found) in
    let play = subst (λ mode. Play State mode took.to arguments.fresh behind (λ handed. modular_run program groups wrong.depth number method (values_at took.to arguments.terms) (store_with wrong.store.text handed)))
    (ahead_taking (handed_in took.to program groups number method) wrong.store.handed)
    (method_play program well groups number method is (definite number method found) (Taking wrong.store.handed) took.to wrong.depth wrong.store.text program_is of (λ e. absurd (true≢false e))) in
    let first = play.blames at kind (subst (λ vs. modular_run program groups wrong.depth number method vs wrong.store ≡ Wrong at kind) (sym took.are) wrong.wrong) in
    let true_there = all_same arguments.fresh took.to play.to play.same arguments.said giving.made.said.below took.all in
    let refuted = first_refuted play.to number at kind (pass_method program groups number method) [] (first_behind play.to at kind arguments.said behind true_there first) tt in (
      refuted.obligation,
      record { owed = refuted.among_them; place = refuted.place; kind_is = refuted.kind_is },
      record { interpretation = play.to; program_is = sym play.same.program ∙ program_is; hypotheses = refuted.hypotheses; goal = refuted.goal },
      sym (values_move arguments.fresh took.to play.to play.same arguments.terms giving.terms) ∙ took.are,
    )

pub refuted_is_wrong : RefutedIsWrong
refuted_is_wrong program groups number method at kind obligation well definite found owed refuted =
    let is = method_typed program number method well found in
    let i = refuted.interpretation in
    let arguments = any_values None method.parameters 0 in
    let behind = behind_arguments program well groups number method is (definite number method found) in
    let both = refuted_first i number (pass_method program groups number method) [] obligation owed.owed refuted.hypotheses refuted.goal in
    let first : FirstFalse i (arguments.said ++ behind) at kind = subst (λ (k : Kind). FirstFalse i (arguments.said ++ behind) at k) owed.kind_is (subst (λ (p : Pos). FirstFalse i (arguments.said ++ behind) p obligation.kind) owed.place both.1) in
    let true_there = known_first i at kind arguments.said behind (any_known None method.parameters 0) first in
    let of = params_of i method.parameters arguments.terms (any_sorted i None method.parameters 0) (any_set None method.parameters 0) in
    let ones = handed_in i program groups number method in
    let play = subst (λ mode. Play State mode i arguments.fresh behind (λ handed. modular_run program groups (nesting_all method.body) number method (values_at i arguments.terms) (store_with [] handed))) (ahead_following ones)
    (method_play program well groups number method is (definite number method found) (Following []) i (nesting_all method.body) [] refuted.program_is of (λ e. le_refl (nesting_all method.body))) in
    let wrong : IsModularlyWrong program groups number method at kind = record {
      depth = nesting_all method.body;
      arguments = values_at i arguments.terms;
      store = store_with [] ones;
      typed = subst (λ (p : Program). have_types p (types_of method.parameters) (values_at i arguments.terms) ≡ true) refuted.program_is (any_typed i None method.parameters 0 refl true_there);
      wrong = play.tells at kind (first_rest i at kind arguments.said behind true_there first);
    } in
    (wrong, refl, refl)

pub valid_is_safe : ValidIsSafe
valid_is_safe program groups number method well definite found valid at kind wrong =
    let r = wrong_is_refuted program groups number method at kind well definite found wrong in
    true_is_not_false (truth r.2.interpretation r.0.goal) (valid r.0 r.1.owed r.2.interpretation r.2.program_is r.2.hypotheses) r.2.goal

pub safe_is_valid : SafeIsValid
safe_is_valid program groups number method obligation well definite found safe there i program_is hypotheses = by_bool (truth i obligation.goal) (λ e. e) (λ e.
    absurd (safe obligation.pos obligation.kind ((refuted_is_wrong program groups number method obligation.pos obligation.kind obligation well definite found
    (record { owed = there; place = refl; kind_is = refl }) (record { interpretation = i; program_is = program_is; hypotheses = hypotheses; goal = e })).0)))

from_none : (k : ℕ) → 0 + k ≡ k
from_none k = omega arith

pub valid_members_are_safe : ValidMembersAreSafe
valid_members_are_safe program groups number method well definite found valid =
    valid_is_safe program groups number method well definite found (λ obligation there.
    valid obligation (of_method_there program groups obligation program.decls 0 number method found (subst (λ (k : ℕ). Contains (obligations_of_method program groups k method) obligation) (sym (from_none number)) there))
    (of_declaration number (pass_method program groups number method) [] obligation there))

pub all_valid_is_safe : AllValidIsSafe
all_valid_is_safe program groups well definite are_groups valid = record {
  groups = groups;
  are_groups = are_groups;
  methods = λ number method found. valid_is_safe program groups number method well definite found (λ obligation there. valid obligation (of_method_there program groups obligation program.decls 0 number method found
      (subst (λ (k : ℕ). Contains (obligations_of_method program groups k method) obligation) (sym (from_none number)) there)));
}

pub refuted_member_is_wrong : RefutedMemberIsWrong
refuted_member_is_wrong program groups obligation well definite there refuted =
    let of = there_of_method program groups obligation program.decls 0 there in
    let there = subst (λ (k : ℕ). Contains (obligations_of_method program groups k of.method) obligation) (from_none of.k) of.there in
    let number = of_declaration of.k (pass_method program groups of.k of.method) [] obligation there in (
      of.method,
      subst (λ (k : ℕ). method_at program k ≡ Some of.method) (sym number) of.found,
      subst (λ (k : ℕ). IsModularlyWrong program groups k of.method obligation.pos obligation.kind) (sym number)
          ((refuted_is_wrong program groups of.k of.method obligation.pos obligation.kind obligation well definite of.found (record { owed = there; place = refl; kind_is = refl }) refuted).0),
    )
