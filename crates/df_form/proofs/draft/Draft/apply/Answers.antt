use Rattle.std.proofs.Common.{◌≡◌, ℕ, ◌-◌, List, [], ◌∷◌, ◌++◌, length, take, drop, true, cond, refl, sym, ap, ◌∙◌, subst, arith}
use Rattle.std.proofs.Math.Logic.{∥∥₁_map}
use Rattle.std.proofs.lemmas.List.{take-append-drop}
use Rattle.std.specs.Result.{is_ok}
use Rattle.df_form.specs.Node.{Node}
use Rattle.df_form.specs.Made.{Made, made}
use Rattle.df_form.proofs.Drafts.{IsApplied, IsWalked, are_known, last_is, made_on, sorted_parts, ready, applied, sorts_then}
use Rattle.df_form.proofs.draft.Draft.apply.Goals as goal

pub add-requires : goal.add-requires
add-requires c =
    let k = length c.args.self.now.stack.items - c.args.count in
    let start : c.len.result - c.args.count ≡ k = omega arith in
    let seen = c.deref.ensures.value ∙ c.in_ok-reserve.ensures.items in
    let parts = last_is c.args.self.now.stack.items c.deref.result.now _ (c.len.result - c.args.count) k refl seen start in
    sorted_parts c.args.self.now.nodes c.args.op c.args.self.now.stack.items _ k c.args.self.now.known parts c.requires.takes

-- where the parts begin
abbrev begin : goal.After-push → ℕ
begin c = length c.args.self.now.stack.items - c.args.count

abbrev front : goal.After-push → List ℕ
front c = take (begin c) c.args.self.now.stack.items

abbrev node : goal.After-push → Node
node c = record { op = c.args.op; parts = drop (begin c) c.args.self.now.stack.items }

begins : (c : goal.After-push) → c.len.result - c.args.count ≡ begin c
begins c = omega arith

made_is : (c : goal.After-push) → made c.args.self.now.nodes (node c) ≡ record { nodes = c.add.new.self; number = c.in_ok-number.number }
made_is c = made_on c.args.self.now.nodes c.args.op c.args.self.now.stack.items c.deref.result.now _ (c.len.result - c.args.count) (begin c) _ refl (c.deref.ensures.value ∙ c.in_ok-reserve.ensures.items) (begins c) c.in_ok-number.ensures.made

is_pushed : (c : goal.After-push) → is_ok c.push.result ≡ true
is_pushed c = c.push.ensures.succeeds (omega (arith, c.in_ok-reserve.ensures.ok))

stack_is : (c : goal.After-push) → c.push.new.self.items ≡ front c ++ c.in_ok-number.number ∷ []
stack_is c =
    let cut : c.truncate.new.self.items ≡ front c = c.truncate.ensures.items ∙ (λ i. take (begins c i) (c.reserve.ensures.items i)) in
    c.push.ensures.items ∙ ap (λ b. cond b (c.truncate.new.self.items ++ c.in_ok-number.number ∷ []) c.truncate.new.self.items) (is_pushed c) ∙ ap (λ xs. xs ++ c.in_ok-number.number ∷ []) cut

now : (c : goal.After-push) → IsApplied c.args.self.now.nodes (node c) c.args.self.now.hypotheses.items (front c) (record { nodes = c.add.new.self; number = c.in_ok-number.number })
now c = applied _ _ _ _ _ (ready c.args.self.now.nodes c.args.op c.args.self.now.hypotheses.items c.args.self.now.stack.items (begin c) c.args.self.now.table c.args.self.now.formulas c.args.self.now.known c.requires.takes) (made_is c)

pub invariant_of-self-2-clause-table : goal.invariant_of-self-2-clause-table
invariant_of-self-2-clause-table c = (now c).table

pub invariant_of-self-2-clause-formulas : goal.invariant_of-self-2-clause-formulas
invariant_of-self-2-clause-formulas c = (now c).formulas

pub invariant_of-self-2-clause-known : goal.invariant_of-self-2-clause-known
invariant_of-self-2-clause-known c = ap (are_known c.add.new.self) (stack_is c) ∙ (now c).known

pub invariant_of-self-2-clause-walked : goal.invariant_of-self-2-clause-walked
invariant_of-self-2-clause-walked c =
    ∥∥₁_map c.args.self.now.walked (λ (walk : IsWalked c.args.self.now.nodes c.args.self.now.hypotheses.items c.args.self.now.stack.items).
    let whole = subst (IsWalked c.args.self.now.nodes c.args.self.now.hypotheses.items) (sym (take-append-drop (begin c) c.args.self.now.stack.items)) walk in
    subst (IsWalked c.add.new.self c.args.self.now.hypotheses.items) (sym (stack_is c)) ((now c).walked whole))

made_at_end : (c : goal.In_ok-push) → made c.args.self.now.nodes (record { op = c.args.op; parts = drop (length c.args.self.now.stack.items - c.args.count) c.args.self.now.stack.items }) ≡ record { nodes = c.add.new.self; number = c.in_ok-number.number }
made_at_end c = made_on c.args.self.now.nodes c.args.op c.args.self.now.stack.items c.deref.result.now _ (c.len.result - c.args.count) _ _ refl (c.deref.ensures.value ∙ c.in_ok-reserve.ensures.items) (omega arith) c.in_ok-number.ensures.made

abbrev front_at_end : goal.In_ok-push → List ℕ
front_at_end c = take (length c.args.self.now.stack.items - c.args.count) c.args.self.now.stack.items

stack_at_end : (c : goal.In_ok-push) → c.push.new.self.items ≡ front_at_end c ++ c.in_ok-number.number ∷ []
stack_at_end c =
    let begins_here : c.len.result - c.args.count ≡ length c.args.self.now.stack.items - c.args.count = omega arith in
    let cut : c.truncate.new.self.items ≡ front_at_end c = c.truncate.ensures.items ∙ (λ i. take (begins_here i) (c.reserve.ensures.items i)) in
    c.in_ok-push.ensures.items ∙ ap (λ xs. xs ++ c.in_ok-number.number ∷ []) cut

now_at_end : (c : goal.In_ok-push) → IsApplied c.args.self.now.nodes (record { op = c.args.op; parts = drop (length c.args.self.now.stack.items - c.args.count) c.args.self.now.stack.items }) c.args.self.now.hypotheses.items (front_at_end c) (record { nodes = c.add.new.self; number = c.in_ok-number.number })
now_at_end c = applied _ _ _ _ _ (ready c.args.self.now.nodes c.args.op c.args.self.now.hypotheses.items c.args.self.now.stack.items (length c.args.self.now.stack.items - c.args.count) c.args.self.now.table c.args.self.now.formulas c.args.self.now.known c.requires.takes) (made_at_end c)

pub returns-clause-nodes : goal.returns-clause-nodes
returns-clause-nodes c = ap (λ (m : Made). m.nodes) (sym (made_at_end c))

pub returns-clause-stack : goal.returns-clause-stack
returns-clause-stack c = stack_at_end c ∙ (λ i. front_at_end c ++ (sym (made_at_end c) i).number ∷ [])

pub returns-clause-sorts : goal.returns-clause-sorts
returns-clause-sorts c = sorts_then _ _ _ _ _ _ _ (now_at_end c) (stack_at_end c)
