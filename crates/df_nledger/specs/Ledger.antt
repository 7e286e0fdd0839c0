-- What is known and owed so far, as trees.
use Rattle.std.specs.Prelude.{ℕ, suc, List, ◌++◌, length, Option}
use Rattle.df_lang.specs.declared.ty.Ty.{Ty}
use Rattle.df_nterm.specs.Term.{Term}
use Rattle.df_nenc.specs.Tree.{path_in, trees_in}
use Rattle.df_npass.specs.Rules.{Said, Way, assume_type, free_of}
use Rattle.df_nledger.specs.Said.{said_in}
use Rattle.df_nledger.specs.declared.ledger.Ledger as declared
use Rattle.df_form.specs.Node.{Node}

-- what was said, the number of the next free term, and the formula of the place
pub record Ledger : Type 0 where
  pub said : List Said
  pub fresh : ℕ
  pub path : Option Term

abbrev pub ledger_of : declared.Ledger → Ledger
ledger_of l = record { said = said_in l.nodes l.said.items; fresh = length l.frees.items; path = path_in l.nodes l.path }

-- a way over terms of locals
abbrev pub way_over : List Node → Option ℕ → List ℕ → Way
way_over nodes path terms = record { env = trees_in nodes terms; path = path_in nodes path }

-- the place over terms of locals
abbrev pub way_of : declared.Ledger → List ℕ → Way
way_of l terms = way_over l.nodes l.path terms

-- with this said too, and free terms from this number on left
abbrev pub with_fresh : List Said → ℕ → Ledger → Ledger
with_fresh said fresh l = record { said = l.said ++ said; fresh = fresh; path = l.path }

-- with this said too
abbrev pub saying : List Said → Ledger → Ledger
saying said l = with_fresh said l.fresh l

-- any value of a type is the next free term
abbrev pub with_any : Ty → Ledger → Ledger
with_any ty l = with_fresh (assume_type l.path ty (free_of l.fresh ty)) (suc l.fresh) l
