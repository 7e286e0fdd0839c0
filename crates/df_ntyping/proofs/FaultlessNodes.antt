-- Nodes that break nothing: what is known of those that elaborate.
use Rattle.std.proofs.Common.{◌≡◌, ℕ, Bool, true, false, not, List, Option, Some, None, refl, subst, ◌∙◌}
use Rattle.std.specs.Prelude.{option_map, is_some}
use Rattle.std.proofs.lemmas.Option.{same_Some}
use Rattle.df_lang.specs.declared.ty.Ty.{Ty}
use Rattle.df_lang.specs.Expr as typed_expr
use Rattle.df_ntree.specs.Expr.{Expr, Name}
use Rattle.df_ntree.specs.ExprSpelling.{IsExpr}
use Rattle.df_ntyping.specs.Table.{Signature, NamedMethod, Table, method_of}
use Rattle.df_ntyping.specs.Environment.{Environment}
use Rattle.df_ntyping.specs.Meaning.{Meaning, TheLocal, TheMethod, meaning_of, as_method, called_signature}
use Rattle.df_ntyping.specs.Node.{Node, Occurrence}
use Rattle.df_ntyping.specs.Rule.{Rule}
use Rattle.df_ntyping.specs.Breaks.{breaks}
use Rattle.df_ntyping.specs.Least.{Fault, IsFault}
use Rattle.df_ntyping.specs.ExprNodes.{expr_nodes}
use Rattle.df_ntyping.specs.ExprElaboration.{Elaborates}
use Rattle.df_ntyping.specs.Laws.{HasTypes}
use Rattle.df_ntyping.proofs.KnownTypes.{known, meant}
use Rattle.df_ntyping.proofs.WantedTold.{faultless_is_typed}
use Rattle.df_ntyping.proofs.AllNodes.{Alls, each_in, there}
use Rattle.df_ntyping.proofs.MovedNodes.{Of, expr_moved}

abbrev pub IsFaultless : Environment → Node → Type 0
IsFaultless env node = (rule : Rule) → breaks env node rule ≡ true → ⊥

abbrev pub AllFaultless : List Occurrence → Type 0
AllFaultless nodes = Alls (Of IsFaultless) nodes

pub faultless_of : (all : List Occurrence) → ((fault : Fault) → IsFault all fault → ⊥) → AllFaultless all
faultless_of all h = each_in all (λ one c. record { holds = λ rule b. h (record { at = one; rule = rule }) (c, b) })

pub no_fault : (env : Environment) (start : ℕ) (e : Expr) → AllFaultless (expr_nodes env start e) → (fault : Fault) → IsFault (expr_nodes env 0 e) fault → ⊥
no_fault env start e h fault (c, b) = (there (expr_nodes env 0 e) fault.at (expr_moved env start 0 e h) c).holds fault.rule b

pub typed_there : (env : Environment) (expected : Option Ty) (start : ℕ) (e : Expr) → IsExpr e → HasTypes env e → AllFaultless (expr_nodes env start e) → (ty : Ty) × (t : typed_expr.Expr) × Elaborates env expected e ty t
typed_there env expected start e g types h = faultless_is_typed env expected e g types (no_fault env start e h)

-- what is not broken
pub holds_of : (b : Bool) → (not b ≡ true → ⊥) → b ≡ true
holds_of true h = refl
holds_of false h = absurd (h refl)

pub some_there : {X : Type 0} (o : Option X) → is_some o ≡ true → (x : X) × (o ≡ Some x)
some_there (Some x) p = (x, refl)
some_there None p = absurd cc

-- the types of all signatures are known
pub record HasKnown (signature : Signature) : Type 0 where
  pub parameter_types : List Ty
  pub result_types : List Ty
  pub parameters : signature.parameters ≡ known parameter_types
  pub results : signature.results ≡ known result_types

pub record TableKnown (table : Table) : Type 0 where
  pub methods : (name : ℕ) (named : NamedMethod) → method_of table.methods name ≡ Some named → HasKnown named.signature

pub signature_known : (env : Environment) (callee : Expr) (signature : Signature) → TableKnown env.table → called_signature env callee ≡ Some signature → HasKnown signature
signature_known env (Name ident) signature t h = by_meaning (meaning_of env ident.name) refl h where
  by_meaning : (o : Option Meaning) → meaning_of env ident.name ≡ o → option_map (λ (callee : ℕ × Signature). callee.1) (as_method o) ≡ Some signature → HasKnown signature
  by_meaning (Some (TheMethod id other)) p q =
      let (named, found, i, s) = meant env ident.name id other p in
      subst (λ (x : Signature). HasKnown x) (s ∙ same_Some other signature q) (t.methods ident.name named found)
  by_meaning (Some (TheLocal local)) p q = absurd cc
  by_meaning None p q = absurd cc
signature_known env callee signature t h = absurd cc
