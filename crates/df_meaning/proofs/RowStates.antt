-- Programs of two methods, states, values and what is handed in, for the rows.
use Rattle.std.proofs.Common.{ℕ, ℤ, pos, negsuc, Bool, false, List, [], ◌∷◌, Some}
use Rattle.std.specs.Ordering.{int_eq}
use Rattle.df_lang.specs.Expr.{Expr}
use Rattle.df_lang.specs.Program.{Method, MethodDecl, Program}
use Rattle.df_lang.proofs.Samples.{small, alone, counting}
use Rattle.df_meaning.specs.Value as values
use Rattle.df_meaning.specs.Outcome.{Outcome, Gives, after}
use Rattle.df_meaning.specs.State.{Handed, Turned, Store, State, begin}
use Rattle.df_meaning.specs.Meaning.{Returned}
use Rattle.df_meaning.specs.Evaluation.{evaluate}
use Rattle.df_meaning.specs.Whole.{whole}

-- a method before another one that may call it
abbrev pub beside : Method → Method → Program
beside callee m = record { decls = small ∷ MethodDecl callee ∷ MethodDecl m ∷ [] }

abbrev pub empty : Store
empty = record { text = []; handed = [] }

-- what is handed to a modular run
abbrev pub handing : List Handed → Store
handing h = record { text = []; handed = h }

-- values
abbrev pub n : ℤ → values.Value
n z = values.Number z

abbrev pub t : Bool → values.Value
t b = values.Truth b

-- handed in: the counter before some turn
abbrev pub counter : ℤ → Handed
counter z = Turned (λ k. Some (n z)) []

-- locals with the values -7, 2, -2, 0, 100, and the value of an expression over them
abbrev pub here : State
here = begin (n (negsuc 6) ∷ n (pos 2) ∷ n (negsuc 1) ∷ n (pos 0) ∷ n (pos 100) ∷ []) empty

abbrev pub worth : Expr → Outcome values.Value
worth e = evaluate (whole (alone counting) 0) here e

-- the text that a run ends with
abbrev pub text_then : Outcome State → Outcome (List ℕ)
text_then o = after o (λ s. Gives s.store.text)

-- the text that a run of a method leaves
abbrev pub text_left : Outcome Returned → Outcome (List ℕ)
text_left o = after o (λ r. Gives r.store.text)

-- that it gives the number, as a test, so that another value refutes it
abbrev pub gives_number : ℤ → Outcome values.Value → Bool
gives_number z (Gives (values.Number w)) = int_eq z w
gives_number z o = false
