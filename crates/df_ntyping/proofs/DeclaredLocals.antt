-- The locals that a statement declares, by their numbers.
use Rattle.std.proofs.Common.{◌≡◌, ℕ, suc, List, [], ◌∷◌, ◌++◌, length, drop, refl, sym, ap, ◌∙◌, append_assoc}
use Rattle.std.proofs.lemmas.List.{append-nil, drop_at}
use Rattle.df_ntree.specs.declared.file.Local as declared_local
use Rattle.df_ntyping.specs.Environment.{Local, Environment, Variable_role, declare, declare_variables}
use Rattle.df_ntyping.specs.StatementNodes.{declared_by}

abbrev pub declared_from : ℕ → List declared_local.Local → List Local
declared_from number [] = []
declared_from number (local ∷ others) = record { name = local.name.name; number = number; role = Variable_role } ∷ declared_from (suc number) others

pub declared_count : (number : ℕ) (locals : List declared_local.Local) → length (declared_from number locals) ≡ length locals
declared_count number [] = refl
declared_count number (local ∷ others) = ap suc (declared_count (suc number) others)

declared_inner : (env : Environment) (locals : List declared_local.Local) → (declare_variables env locals).inner ≡ env.inner ++ declared_from env.next locals
declared_inner env [] = sym (append-nil env.inner)
declared_inner env (local ∷ others) =
    declared_inner (declare env Variable_role local.name.name) others ∙ append_assoc env.inner (record { name = local.name.name; number = env.next; role = Variable_role } ∷ []) (declared_from (suc env.next) others)

pub declared_are : (env : Environment) (locals : List declared_local.Local) → declared_by env locals ≡ declared_from env.next locals
declared_are env locals = ap (λ (xs : List Local). drop (length env.inner) xs) (declared_inner env locals) ∙ drop_at env.inner (declared_from env.next locals) (length env.inner) refl
