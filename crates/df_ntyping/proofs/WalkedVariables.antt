-- A walk over declared locals that break nothing.
use Rattle.std.proofs.Common.{◌≡◌, ℕ, suc, ◌+◌, ◌<◌, ◌≤◌, true, List, [], ◌∷◌, ◌++◌, length, Option, Some, None, refl, sym, ap, subst, ◌∙◌, ◌⊎◌, inl, inr, arith, length-append, append_assoc}
use Rattle.std.specs.Prelude.{slice_get, is_some, option_map}
use Rattle.std.proofs.lemmas.Bool.{cases_lt}
use Rattle.df_lemmas.proofs.Lists.{get_below, get_grown, get_last}
use Rattle.df_lang.specs.declared.ty.Ty.{Ty}
use Rattle.df_lang.specs.declared.ty.Ty.TheVariants as types
use Rattle.df_ntree.specs.declared.expr.TreeType.{TreeType}
use Rattle.df_ntree.specs.declared.expr.TreeType.TheVariants as trees
use Rattle.df_ntree.specs.declared.file.Local as declared_local
use Rattle.df_ntree.specs.Expr.{Expr}
use Rattle.df_ntree.specs.FileSpelling.{spell_local}
use Rattle.df_ntyping.specs.Types.{basic_type}
use Rattle.df_ntyping.specs.Table.{Table, newtype_of, type_of}
use Rattle.df_ntyping.specs.Environment.{Inferred, Open, Used, Fixed, Environment, Variable_role, declare}
use Rattle.df_ntyping.specs.LocalTypes.{next_type, other_types, inferred_of, inferred_all}
use Rattle.df_ntyping.specs.Rule.{Unknown, Uninferred}
use Rattle.df_ntyping.specs.ExprNodes.{type_nodes}
use Rattle.df_ntyping.specs.StatementNodes.{typed_nodes, untyped_nodes, variable_nodes}
use Rattle.df_ntyping.specs.rules.Names.{is_unfixed}
use Rattle.df_ntyping.proofs.KnownTypes.{known}
use Rattle.df_ntyping.proofs.KeptTypes.{Kept}
use Rattle.df_ntyping.proofs.WholeTypes.{IsWhole, AreWhole, no_type, one_type}
use Rattle.df_ntyping.proofs.AllNodes.{head, tail, left, right}
use Rattle.df_ntyping.proofs.FaultlessNodes.{AllFaultless, holds_of, some_there}

-- ---- written types

pub type_there : (env : Environment) (start : ℕ) (ty : TreeType) → AllFaultless (type_nodes env start ty) → (known_type : Ty) × (type_of env.table.newtypes ty ≡ Some known_type)
type_there env start (trees.Basic basic pos) h = (basic_type basic, refl)
type_there env start (trees.Named ident) h =
    let found = newtype_of env.table.newtypes ident.name in
    let (id, p) = some_there found (holds_of (is_some found) (λ b. (head h).holds Unknown b)) in
    (types.Newtype id, ap (λ (o : Option ℕ). option_map types.Newtype o) p)

written_whole : (one whole : Environment) (start : ℕ) (ty : TreeType) (values : List Expr) (value : Option Ty) → one.table ≡ whole.table → AllFaultless (type_nodes whole start ty) → IsWhole (inferred_of one (Some ty) values value)
written_whole one whole start ty values value p h =
    let (t, q) = type_there whole start ty h in
    let same : type_of one.table.newtypes ty ≡ Some t = ap (λ (table : Table). type_of table.newtypes ty) p ∙ q in
    rw same tt

-- the parts of a declared local's nodes
rest_of : (env : Environment) (start : ℕ) (values : List Expr) (local : declared_local.Local) (others : List declared_local.Local) → AllFaultless (variable_nodes env start values (local ∷ others))
    → AllFaultless (variable_nodes (declare env Variable_role local.name.name) (start + length (spell_local local) + 1) values others)
rest_of env start values local others h = right (untyped_nodes env start local values ++ typed_nodes env (start + 2) local.ty) _ (tail h)

typed_of : (env : Environment) (start : ℕ) (values : List Expr) (local : declared_local.Local) (others : List declared_local.Local) → AllFaultless (variable_nodes env start values (local ∷ others)) → AllFaultless (typed_nodes env (start + 2) local.ty)
typed_of env start values local others h = right (untyped_nodes env start local values) _ (left (untyped_nodes env start local values ++ typed_nodes env (start + 2) local.ty) _ (tail h))

untyped_of : (env : Environment) (start : ℕ) (values : List Expr) (local : declared_local.Local) (others : List declared_local.Local) → AllFaultless (variable_nodes env start values (local ∷ others)) → AllFaultless (untyped_nodes env start local values)
untyped_of env start values local others h = left (untyped_nodes env start local values) _ (left (untyped_nodes env start local values ++ typed_nodes env (start + 2) local.ty) _ (tail h))

-- ---- no type is missing

open_whole : (one whole : Environment) (start : ℕ) (ty : Option TreeType) (value : Option Ty) → one.table ≡ whole.table → AllFaultless (typed_nodes whole start ty) → IsWhole (inferred_of one ty [] value)
open_whole one whole start (Some ty) value p h = written_whole one whole start ty [] value p h
open_whole one whole start None value p h = tt

-- without values
pub opens_whole : (one whole : Environment) (start : ℕ) (locals : List declared_local.Local) (values : List (Option Ty)) → one.table ≡ whole.table → AllFaultless (variable_nodes whole start [] locals) → AreWhole (inferred_all one locals [] values)
opens_whole one whole start [] values p h = no_type
opens_whole one whole start (local ∷ others) values p h =
    one_type (open_whole one whole (start + 2) local.ty (next_type values) p (typed_of whole start [] local others h))
    (opens_whole one (declare whole Variable_role local.name.name) (start + length (spell_local local) + 1) others (other_types values) p (rest_of whole start [] local others h))

valued_whole : (one whole : Environment) (start : ℕ) (ty : Option TreeType) (e : Expr) (es : List Expr) (value : Ty) → one.table ≡ whole.table → AllFaultless (typed_nodes whole start ty) → IsWhole (inferred_of one ty (e ∷ es) (Some value))
valued_whole one whole start (Some ty) e es value p h = written_whole one whole start ty (e ∷ es) (Some value) p h
valued_whole one whole start None e es value p h = tt

-- with values of known types
pub values_whole : (one whole : Environment) (start : ℕ) (locals : List declared_local.Local) (e : Expr) (es : List Expr) (tys : List Ty) → one.table ≡ whole.table → length tys ≡ length locals
    → AllFaultless (variable_nodes whole start (e ∷ es) locals) → AreWhole (inferred_all one locals (e ∷ es) (known tys))
values_whole one whole start [] e es tys p q h = no_type
values_whole one whole start (local ∷ others) e es [] p q h = absurd (omega (arith, q))
values_whole one whole start (local ∷ others) e es (ty ∷ tys) p q h =
    one_type (valued_whole one whole (start + 2) local.ty e es ty p (typed_of whole start (e ∷ es) local others h))
    (values_whole one (declare whole Variable_role local.name.name) (start + length (spell_local local) + 1) others e es tys p (omega (arith, q)) (rest_of whole start (e ∷ es) local others h))

-- ---- all types are fixed

IsFixedAt : List Inferred → ℕ → Type 0
IsFixedAt all k = (x : Option Ty) × (slice_get all k ≡ Some (Fixed x))

fixed_node : (found : Option Inferred) (one : Inferred) → found ≡ Some one → (is_unfixed found ≡ true → ⊥) → (x : Option Ty) × (found ≡ Some (Fixed x))
fixed_node found Open p h = absurd (h (rw p refl))
fixed_node found Used p h = absurd (h (rw p refl))
fixed_node found (Fixed x) p h = (x, p)

fixed_first : (one whole : Environment) (start : ℕ) (local : declared_local.Local) (values : List Expr) (ty : Option TreeType) (value : Option Ty) → local.ty ≡ ty
    → ((inferred : Inferred) → inferred_of one ty values value ≡ inferred → (inferred ≡ Open → ⊥) → slice_get whole.types whole.next ≡ Some inferred) → whole.next < length whole.types → AllFaultless (untyped_nodes whole start local values)
    → IsFixedAt whole.types whole.next
unfolding IsFixedAt
fixed_first one whole start local values (Some ty) value p kept room h = (type_of one.table.newtypes ty, kept (Fixed (type_of one.table.newtypes ty)) refl (λ e. cc))
fixed_first one whole start local (e ∷ es) None value p kept room h = (value, kept (Fixed value) refl (λ q. cc))
fixed_first one whole start local [] None value p kept room h =
    let (there, q) = get_below whole.types whole.next room in
    fixed_node (slice_get whole.types whole.next) there q (λ b. (head (rw p at h)).holds Uninferred b)

pub fixed_ahead : (one whole : Environment) (start : ℕ) (locals : List declared_local.Local) (values : List Expr) (types_of : List (Option Ty)) (before : List Inferred) → length before ≡ whole.next
    → Kept (before ++ inferred_all one locals values types_of) whole.types → whole.next + length locals ≤ length whole.types → AllFaultless (variable_nodes whole start values locals)
    → (k : ℕ) → whole.next ≤ k → k < whole.next + length locals → (x : Option Ty) × (slice_get whole.types k ≡ Some (Fixed x))
unfolding IsFixedAt
fixed_ahead one whole start [] values types_of before p kept room h k low high = absurd (omega arith)
fixed_ahead one whole start (local ∷ others) values types_of before p kept room h k low high = by_place (cases_lt whole.next k) moved (λ q. fixed_ahead one (declare whole Variable_role local.name.name) (start + length (spell_local local) + 1) others values (other_types types_of)
    (before ++ inferred_of one local.ty values (next_type types_of) ∷ []) (omega (arith, p, length-append before (inferred_of one local.ty values (next_type types_of) ∷ []))) moved (omega arith) (rest_of whole start values local others h) k q (omega arith)) where
      moved : Kept ((before ++ inferred_of one local.ty values (next_type types_of) ∷ []) ++ inferred_all one others values (other_types types_of)) whole.types
      moved = subst (λ (all : List Inferred). Kept all whole.types) (sym (append_assoc before (inferred_of one local.ty values (next_type types_of) ∷ []) (inferred_all one others values (other_types types_of)))) kept

      this : Kept ((before ++ inferred_of one local.ty values (next_type types_of) ∷ []) ++ inferred_all one others values (other_types types_of)) whole.types → (inferred : Inferred) → inferred_of one local.ty values (next_type types_of) ≡ inferred
          → (inferred ≡ Open → ⊥) → slice_get whole.types whole.next ≡ Some inferred
      this kept_here inferred same n =
          let own = inferred_of one local.ty values (next_type types_of) in
          let here = get_grown (before ++ own ∷ []) (inferred_all one others values (other_types types_of)) (length before) own (get_last before own) in
          subst (λ (m : ℕ). slice_get whole.types m ≡ Some inferred) p (kept_here.keeps (length before) inferred (here ∙ ap (λ (x : Inferred). Some x) same) n)

      by_place : (whole.next < k) ⊎ (k ≤ whole.next) → Kept ((before ++ inferred_of one local.ty values (next_type types_of) ∷ []) ++ inferred_all one others values (other_types types_of)) whole.types
          → (suc whole.next ≤ k → (x : Option Ty) × (slice_get whole.types k ≡ Some (Fixed x))) → (x : Option Ty) × (slice_get whole.types k ≡ Some (Fixed x))
      by_place (inl q) kept_here rest = rest q
      by_place (inr q) kept_here rest =
          let same : whole.next ≡ k = omega arith in
          subst (λ (m : ℕ). (x : Option Ty) × (slice_get whole.types m ≡ Some (Fixed x))) same
          (fixed_first one whole start local values local.ty (next_type types_of) refl (this kept_here) (omega arith) (untyped_of whole start values local others h))
