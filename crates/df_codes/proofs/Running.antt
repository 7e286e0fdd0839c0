-- Runs, one after another, and what never faults.
use Rattle.std.proofs.Common.{◌≡◌, ℕ, ◌+◌, List, [], ◌≤◌, pos, nat_le, true, cond, Bool, Some, None, refl, sym, ap, subst, ◌∙◌, ◌-ℤ◌, ℤ, arith}
use Rattle.std.proofs.lemmas.Bool.{le-leb}
use Rattle.std.proofs.lemmas.Int.{ints}
use Rattle.df_nmach.specs.declared.instruction.BinaryOperator.TheVariants.{Add, Subtract}
use Rattle.df_nmach.specs.Value.{Value, Number}
use Rattle.df_nmach.specs.State.{Code, Heap, State, Final}
use Rattle.df_nmach.specs.Step.{Stepped, On, Ended, Fault, Huge, within, binary, machine_step}
use Rattle.df_nmach.specs.Run.{and_then, machine_run, start_of, NeverFaults}
use Rattle.df_nmach.proofs.Runs.{run_add, ends_for_good}
use Rattle.df_codes.specs.Ranges.{bits}

-- a run that ends does not fault before
pub ends_never_faults : (code : Code) (start : Stepped) (n : ℕ) (final : Final) → and_then start (machine_run code n) ≡ Ended final → NeverFaults code start
ends_never_faults code (On s) n final e = record {
  never = λ k faults.
      let ended : machine_run code (k + n) s ≡ Ended final = ends_for_good code n (k + n) s final e (omega arith) in
      let faulted : machine_run code (k + n) s ≡ Fault = run_add code k n s ∙ ap (λ o. and_then o (machine_run code n)) faults in
      cc;
}
ends_never_faults code (Ended f) n final e = record { never = λ k faults. cc }
ends_never_faults code Fault n final e = cc
ends_never_faults code Huge n final e = cc

-- so does a code that is the same, from the same arguments
pub starts : (one : Code) (number : ℕ) (given : List Value) → NeverFaults one (start_of one number [] given) → (code : Code) (heap : Heap) (arguments : List Value) → code ≡ one → heap ≡ [] → arguments ≡ given
    → NeverFaults code (start_of code number heap arguments)
starts one number given never code heap arguments same none equal =
    subst (λ (c : Code). NeverFaults c (start_of c number heap arguments)) (sym same)
    (subst (λ (h : Heap). NeverFaults one (start_of one number h arguments)) (sym none)
    (subst (λ (a : List Value). NeverFaults one (start_of one number [] a)) (sym equal) never))

-- some number of steps leads there
pub record Reaches (code : Code) (s : State) (o : Stepped) : Type 0 where
  pub steps : ℕ
  pub runs : machine_run code steps s ≡ o

pub after_steps : (code : Code) (k : ℕ) (s : State) (o : Stepped) → machine_run code k s ≡ o → Reaches code s o
after_steps code k s o e = record { steps = k; runs = e }

pub after_step : (code : Code) (s : State) (o : Stepped) → machine_step code s ≡ o → Reaches code s o
after_step code s o e = record { steps = 1; runs = ap (λ (x : Stepped). and_then x (machine_run code 0)) e ∙ stays code o }
  where
    stays : (code : Code) (o : Stepped) → and_then o (machine_run code 0) ≡ o
    stays code (On t) = refl
    stays code (Ended f) = refl
    stays code Fault = refl
    stays code Huge = refl

pub and_on : (code : Code) (s t : State) (o : Stepped) → Reaches code s (On t) → Reaches code t o → Reaches code s o
and_on code s t o first rest = record {
  steps = first.steps + rest.steps;
  runs = run_add code first.steps rest.steps s ∙ ap (λ (x : Stepped). and_then x (machine_run code rest.steps)) first.runs ∙ rest.runs;
}

-- some number of steps leads to an end
pub record Finishes (code : Code) (s : State) : Type 0 where
  pub final : Final
  pub reaches : Reaches code s (Ended final)

pub finishes : (code : Code) (s : State) (final : Final) → Reaches code s (Ended final) → Finishes code s
finishes code s final reaches = record { final = final; reaches = reaches }

pub and_finishes : (code : Code) (s t : State) → Reaches code s (On t) → Finishes code t → Finishes code s
and_finishes code s t first rest = record { final = rest.final; reaches = and_on code s t (Ended rest.final) first rest.reaches }

pub finish_never_faults : (code : Code) (s : State) → Finishes code s → NeverFaults code (On s)
finish_never_faults code s f = ends_never_faults code (On s) f.reaches.steps f.final f.reaches.runs

-- a number of 32 bits lies in their range
pub in_bits : (n : ℕ) → n ≤ 2147483647 → within bits (pos n) ≡ Some (Number (pos n))
in_bits n le = let e : nat_le n 2147483647 ≡ true = le-leb n 2147483647 le in ap (λ (b : Bool). cond b (Some (Number (pos n))) None) e

pub less_some : (k m n : ℕ) → n ≡ k + m → n ≤ 2147483647 → binary (Subtract bits) (Number (pos n)) (Number (pos k)) ≡ Some (Number (pos m))
less_some k m n e le =
    let rest : pos n -ℤ pos k ≡ pos m = omega (arith, ints, e) in
    let fits : m ≤ 2147483647 = omega (arith, e, le) in
    ap (λ (z : ℤ). within bits z) rest ∙ in_bits m fits

pub one_more : (n : ℕ) → n + 1 ≤ 2147483647 → binary (Add bits) (Number (pos n)) (Number (pos 1)) ≡ Some (Number (pos (n + 1)))
one_more n le = in_bits (n + 1) le
