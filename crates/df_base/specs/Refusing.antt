-- What the refusal of a call of the front says.
use Rattle.df_base.specs.declared.refusal.Refusal.{Refusal}
use Rattle.df_base.specs.declared.refusal.Stop.{Stop}
use Rattle.df_base.specs.declared.refusal.Stop.TheVariants as stops

-- a refusal is one of these; want of memory says nothing
abbrev pub IfRefused : (Refusal → Type 0) → Stop → Type 0
IfRefused Told stops.Memory = Unit {0}
IfRefused Told (stops.Refused refusal) = Told refusal
