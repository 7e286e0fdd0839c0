-- What is made of operands of one level.
use Rattle.std.specs.Prelude.{◌≡◌, ℕ, true, List, [], ◌∷◌, ◌++◌, Option, None, Some}
use Rattle.df_base.specs.declared.pos.Pos.{Pos}
use Rattle.df_lang.specs.declared.ty.Ty.{Ty}
use Rattle.df_lang.specs.declared.expr.FactorOperator.{FactorOperator}
use Rattle.df_lang.specs.Expr.{Addends, Factors, Members, Links}
use Rattle.df_lang.specs.Program.{Program}
use Rattle.df_lang.specs.Typing.{is_arithmetic, are_addends, are_factors, are_members, are_links}
use Rattle.df_form.specs.Node.{Node}
use Rattle.df_nterm.specs.Term.{Term, implies}
use Rattle.df_nterm.specs.Expressions.{Condition, under, divides, in_range, multiplied, narrowed_path}
use Rattle.df_nenc.specs.Standing.{AreLocals}

-- ---- well typed over locals that have terms

pub record AreAddendsOver (nodes : List Node) (terms : List ℕ) (rest : Addends) : Type 0 where
  pub program : Program
  pub types : List Ty
  pub ty : Ty
  pub arithmetic : is_arithmetic program ty ≡ true
  pub typed : are_addends program types ty rest ≡ true
  pub locals : AreLocals nodes types terms

pub record AreFactorsOver (nodes : List Node) (terms : List ℕ) (rest : Factors) : Type 0 where
  pub program : Program
  pub types : List Ty
  pub ty : Ty
  pub arithmetic : is_arithmetic program ty ≡ true
  pub typed : are_factors program types ty rest ≡ true
  pub locals : AreLocals nodes types terms

pub record AreMembersOver (nodes : List Node) (terms : List ℕ) (rest : Members) : Type 0 where
  pub program : Program
  pub types : List Ty
  pub typed : are_members program types rest ≡ true
  pub locals : AreLocals nodes types terms

pub record AreLinksOver (nodes : List Node) (terms : List ℕ) (ty : Ty) (rest : Links) : Type 0 where
  pub program : Program
  pub types : List Ty
  pub typed : are_links program types ty rest ≡ true
  pub locals : AreLocals nodes types terms

-- ---- steps

-- what a member of a product adds
abbrev pub conditions_of_factor : Option Term → Ty → FactorOperator → Pos → Term → Term → List Condition
conditions_of_factor path ty operator pos a b = under path (divides operator pos b ++ in_range ty pos (multiplied operator a b))

-- from the right
abbrev pub implied_by : List Term → Term → Term
implied_by [] a = a
implied_by (premise ∷ others) a = implies premise (implied_by others a)

-- further on, where the last comparison is true too, if there was one
abbrev pub further : Option Term → Option Term → Option Term
further path None = path
further path (Some formula) = Some (narrowed_path path formula)
