-- Whole and modular meanings side by side, and what expressions and clauses do over them.
use Rattle.std.proofs.Common.{◌≡◌, ◌≤◌, ℕ, if◌then◌else◌, List, [], ◌∷◌, refl, sym, ap, ◌∙◌}
use Rattle.df_base.specs.declared.pos.Pos.{Pos}
use Rattle.df_lang.specs.Expr.{Expr}
use Rattle.df_lang.specs.Stmt.{Operand, Text, Value, Conversion, Clause}
use Rattle.df_lang.specs.Program.{Program}
use Rattle.df_meaning.specs.declared.kind.Kind.{Kind}
use Rattle.df_meaning.specs.declared.kind.Kind.TheVariants as kinds
use Rattle.df_meaning.specs.Value.{truth_of}
use Rattle.df_meaning.specs.Value as values
use Rattle.df_meaning.specs.Outcome.{Wrong}
use Rattle.df_meaning.specs.State.{Handed, Store, State, with_store, printed}
use Rattle.df_meaning.specs.Meaning.{Meaning, Flow, Returned}
use Rattle.df_meaning.specs.Meaning as flows
use Rattle.df_meaning.specs.Evaluation.{evaluate, converted}
use Rattle.df_meaning.specs.Execution.{Values, evaluate_all, check_all, convert_all, evaluate_operand, print_all}
use Rattle.df_meaning.specs.Whole.{check_call}
use Rattle.df_meaning.specs.Growing.{Below}
use Rattle.df_meaning.proofs.Outcomes.{choice_grows}
use Rattle.df_meaning.proofs.Executing.{checks_grow, owed_grows, prints_grow}
use Rattle.df_meaning.proofs.Same.{after_same, SeesSame, evaluate_same}
use Rattle.df_meaning.proofs.Shallow.{IsShallow, evaluate_shallow, all_shallow, conversions_shallow}
use Rattle.df_hoare.proofs.Simulating.{Simulates, keep, simulates_gives, simulates_wrong, simulates_constant, simulates_choice, simulates_read}

-- ---- what is still to be handed in, put into stores, states and what runs give

abbrev pub hand_store : List Handed → Store → Store
hand_store handed store = record { text = store.text; handed = handed }

abbrev pub hand_state : List Handed → State → State
hand_state handed s = with_store s (hand_store handed s.store)

abbrev pub hand_flow : List Handed → Flow → Flow
hand_flow handed (flows.Next s) = flows.Next (hand_state handed s)
hand_flow handed (flows.Return s) = flows.Return (hand_state handed s)
hand_flow handed (flows.Break s) = flows.Break (hand_state handed s)

abbrev pub hand_returned : List Handed → Returned → Returned
hand_returned handed r = record { values = r.values; store = hand_store handed r.store }

abbrev pub hand_values : List Handed → Values → Values
hand_values handed given = record { values = given.values; state = hand_state handed given.state }

-- ---- the same values

-- locals alone are seen
pub seen : (m n : Meaning) (s : State) (h : List Handed) → m.program ≡ n.program → SeesSame m n (hand_state h s) s
seen m n s h e = record { program = e; locals = λ local. refl }

pub all_same : (m n : Meaning) (s t : State) → SeesSame m n s t → (es : List Expr) → evaluate_all m s es ≡ evaluate_all n t es
all_same m n s t h [] = refl
all_same m n s t h (e ∷ others) = after_same (evaluate m s e) (evaluate n t e) _ _ (evaluate_same m n s t h e) (λ v. after_same (evaluate_all m s others) (evaluate_all n t others) _ _ (all_same m n s t h others) (λ vs. refl))

pub conversions_same : (m n : Meaning) → m.program ≡ n.program → (at : Pos) (cs : List Conversion) (vs : List values.Value) → convert_all m at cs vs ≡ convert_all n at cs vs
conversions_same m n e at [] vs = refl
conversions_same m n e at (c ∷ cs) [] = refl
conversions_same m n e at (c ∷ cs) (v ∷ vs) =
    after_same (converted m.program c.source c.target at v) (converted n.program c.source c.target at v) _ _ (ap (λ p. converted p c.source c.target at v) e) (λ w.
    after_same (convert_all m at cs vs) (convert_all n at cs vs) _ _ (conversions_same m n e at cs vs) (λ ws. refl))

operand_same : (m n : Meaning) (s t : State) → SeesSame m n s t → (operand : Operand) → evaluate_operand m s operand ≡ evaluate_operand n t operand
operand_same m n s t h (Text characters) = refl
operand_same m n s t h (Value ty value) = evaluate_same m n s t h value

operand_shallow : (m : Meaning) (s : State) (operand : Operand) → IsShallow (evaluate_operand m s operand)
operand_shallow m s (Text characters) = tt
operand_shallow m s (Value ty value) = evaluate_shallow m s value

-- ---- whole and modular meanings of one program, by depth

pub record AreSides (program : Program) (W M : ℕ → Meaning) : Type 0 where
  pub wholes : (n : ℕ) → (W n).program ≡ program
  pub modulars : (d : ℕ) → (M d).program ≡ program
  pub wholes_grow : (n m : ℕ) → n ≤ m → Below (W n) (W m)
  pub modulars_grow : (d e : ℕ) → d ≤ e → Below (M d) (M e)

module _ (program : Program) (W M : ℕ → Meaning) (sides : AreSides program W M) where
  whole_seen : (n : ℕ) (s : State) → SeesSame (W n) (W 0) s s
  whole_seen n s = record { program = sides.wholes n ∙ sym (sides.wholes 0); locals = λ local. refl }

  modular_seen : (d : ℕ) (h : List Handed) (s : State) → SeesSame (M d) (W 0) (hand_state h s) s
  modular_seen d h s = seen (M d) (W 0) s h (sides.modulars d ∙ sym (sides.wholes 0))

  handed_seen : (d : ℕ) (h : List Handed) (s : State) → SeesSame (M d) (M d) (hand_state h s) (hand_state [] s)
  handed_seen d h s = record { program = refl; locals = λ local. refl }

  pub value_simulates : (s : State) (e : Expr) → Simulates keep (λ n. evaluate (W n) s e) (λ d h. evaluate (M d) (hand_state h s) e)
  value_simulates s e = simulates_constant (evaluate (W 0) s e) (λ n. evaluate (W n) s e) (λ d h. evaluate (M d) (hand_state h s) e) (evaluate_shallow (W 0) s e)
      (λ n. evaluate_same (W n) (W 0) s s (whole_seen n s) e) (λ d h. evaluate_same (M d) (W 0) (hand_state h s) s (modular_seen d h s) e)

  pub value_free : (s : State) (e : Expr) (d : ℕ) (h : List Handed) → evaluate (M d) (hand_state h s) e ≡ evaluate (M d) (hand_state [] s) e
  value_free s e d h = evaluate_same (M d) (M d) (hand_state h s) (hand_state [] s) (handed_seen d h s) e

  pub values_simulate : (s : State) (es : List Expr) → Simulates keep (λ n. evaluate_all (W n) s es) (λ d h. evaluate_all (M d) (hand_state h s) es)
  values_simulate s es = simulates_constant (evaluate_all (W 0) s es) (λ n. evaluate_all (W n) s es) (λ d h. evaluate_all (M d) (hand_state h s) es) (all_shallow (W 0) s es)
      (λ n. all_same (W n) (W 0) s s (whole_seen n s) es) (λ d h. all_same (M d) (W 0) (hand_state h s) s (modular_seen d h s) es)

  pub values_free : (s : State) (es : List Expr) (d : ℕ) (h : List Handed) → evaluate_all (M d) (hand_state h s) es ≡ evaluate_all (M d) (hand_state [] s) es
  values_free s es d h = all_same (M d) (M d) (hand_state h s) (hand_state [] s) (handed_seen d h s) es

  pub conversions_simulate : (at : Pos) (cs : List Conversion) (vs : List values.Value) → Simulates keep (λ n. convert_all (W n) at cs vs) (λ d h. convert_all (M d) at cs vs)
  conversions_simulate at cs vs = simulates_constant (convert_all (W 0) at cs vs) (λ n. convert_all (W n) at cs vs) (λ d h. convert_all (M d) at cs vs) (conversions_shallow (W 0) at cs vs)
      (λ n. conversions_same (W n) (W 0) (sides.wholes n ∙ sym (sides.wholes 0)) at cs vs) (λ d h. conversions_same (M d) (W 0) (sides.modulars d ∙ sym (sides.wholes 0)) at cs vs)

  -- ---- clauses

  pub checks_simulate : (s : State) (kind : Kind) (clauses : List Clause) → Simulates hand_state (λ n. check_all (W n) s kind clauses) (λ d h. check_all (M d) (hand_state h s) kind clauses)
  checks_simulate s kind [] = simulates_gives hand_state s
  checks_simulate s kind (clause ∷ others) =
      simulates_read hand_state (λ d h. evaluate (M d) (hand_state h s) clause.condition) (λ d h v. if truth_of v then check_all (M d) (hand_state h s) kind others else Wrong clause.pos kind) (value_free s clause.condition)
      (λ d e h v le. choice_grows (truth_of v) _ _ _ _ (checks_grow (M d) (M e) (sides.modulars_grow d e le) (hand_state h s) kind others) refl)
      (λ n. evaluate (W n) s clause.condition) (λ n v. if truth_of v then check_all (W n) s kind others else Wrong clause.pos kind) (value_simulates s clause.condition)
      (λ v c. simulates_choice hand_state (truth_of v) _ _ _ _ (checks_simulate s kind others) (simulates_wrong hand_state clause.pos kind))

  pub owed_simulate : (s : State) (at : Pos) (clauses : List Clause) → Simulates hand_state (λ n. check_call (W n) s at clauses) (λ d h. check_call (M d) (hand_state h s) at clauses)
  owed_simulate s at [] = simulates_gives hand_state s
  owed_simulate s at (clause ∷ others) =
      simulates_read hand_state (λ d h. evaluate (M d) (hand_state h s) clause.condition) (λ d h v. if truth_of v then check_call (M d) (hand_state h s) at others else Wrong at kinds.Requires) (value_free s clause.condition)
      (λ d e h v le. choice_grows (truth_of v) _ _ _ _ (owed_grows (M d) (M e) (sides.modulars_grow d e le) (hand_state h s) at others) refl)
      (λ n. evaluate (W n) s clause.condition) (λ n v. if truth_of v then check_call (W n) s at others else Wrong at kinds.Requires) (value_simulates s clause.condition)
      (λ v c. simulates_choice hand_state (truth_of v) _ _ _ _ (owed_simulate s at others) (simulates_wrong hand_state at kinds.Requires))

  -- ---- printing

  pub prints_simulate : (operands : List Operand) (s : State) → Simulates hand_state (λ n. print_all (W n) s operands) (λ d h. print_all (M d) (hand_state h s) operands)
  prints_simulate [] s = simulates_gives hand_state s
  prints_simulate (operand ∷ others) s =
      simulates_read hand_state (λ d h. evaluate_operand (M d) (hand_state h s) operand) (λ d h v. print_all (M d) (printed (hand_state h s) v) others)
      (λ d h. operand_same (M d) (M d) (hand_state h s) (hand_state [] s) (handed_seen d h s) operand)
      (λ d e h v le. prints_grow (M d) (M e) (sides.modulars_grow d e le) (printed (hand_state h s) v) others)
      (λ n. evaluate_operand (W n) s operand) (λ n v. print_all (W n) (printed s v) others)
      (simulates_constant (evaluate_operand (W 0) s operand) (λ n. evaluate_operand (W n) s operand) (λ d h. evaluate_operand (M d) (hand_state h s) operand) (operand_shallow (W 0) s operand)
      (λ n. operand_same (W n) (W 0) s s (whole_seen n s) operand) (λ d h. operand_same (M d) (W 0) (hand_state h s) s (modular_seen d h s) operand))
      (λ v c. prints_simulate others (printed s v))
