-- What the code answers, as a walk has it that tells the first rule that it finds broken.
use Rattle.std.specs.Prelude.{◌≡◌, Result, Ok, Err}
use Rattle.df_base.specs.declared.refusal.Refusal.{Refusal}
use Rattle.df_base.specs.declared.refusal.Stop.{Stop}
use Rattle.df_base.specs.declared.refusal.Stop.TheVariants as stops
use Rattle.df_ntyping.specs.mirror.Parts.{Answer, refusal_of}

abbrev pub Reply : Type 0 → Type 0
Reply A = Result A Refusal

-- what is broken is told
abbrev pub told : {A : Type 0} → Answer A → Reply A
told (Ok a) = Ok a
told (Err broken) = Err (refusal_of broken)

-- the code's answer is this one, through a view; of want of memory nothing is said
abbrev pub Replies : {X Y : Type 0} → (X → Y) → Result X Stop → Reply Y → Type 0
Replies view (Ok x) reply = reply ≡ Ok (view x)
Replies view (Err (stops.Refused refusal)) reply = reply ≡ Err refusal
Replies view (Err stops.Memory) reply = Unit {0}
