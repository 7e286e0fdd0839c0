-- What is known of the type of a run of arithmetic, operand by operand.
use Rattle.std.proofs.Common.{◌≡◌, Bool, true, false, ◌&&◌, List, [], ◌∷◌, ◌++◌, Option, Some, None, refl, sym, ◌∙◌}
use Rattle.std.specs.Prelude.{if◌then◌else◌}
use Rattle.df_lang.specs.declared.ty.Ty.{Ty}
use Rattle.df_lang.specs.declared.ty.Ty.TheVariants as types
use Rattle.df_ntree.specs.Expr.{Expr, Number, Parentheses, Operations, Members, end, more}
use Rattle.df_ntree.specs.ExprSpelling.{first_group}
use Rattle.df_ntyping.specs.Types.{arithmetic}
use Rattle.df_ntyping.specs.Environment.{Environment}
use Rattle.df_ntyping.specs.ExprTypes.{is_arithmetic, is_open, are_open, open_type, own_type, own_types, arithmetic_all, common_type, type_in}
use Rattle.df_nenv.specs.declared.outlook.Outlook.TheVariants as outlooks
use Rattle.df_nenv.specs.Outlooks.{outlook_of, joined, joined_all}

-- the operands that are left
abbrev others_of : Environment → Bool → Expr → Members → List (Option Ty)
others_of env b e rest = (if b then [] else own_type env e ∷ []) ++ own_types env rest

-- ---- a run

own_more : (env : Environment) (left : Option Ty) (e : Expr) (rest : Members) (b : Bool) → is_open e ≡ b → ((l : Option Ty) → joined_all env (outlooks.Own l) rest ≡ outlooks.Own (arithmetic_all l (own_types env rest)))
    → joined_all env (joined (outlooks.Own left) (outlook_of env e)) rest ≡ outlooks.Own (arithmetic_all left (others_of env (is_open e) e rest))
own_more env left e rest true p rec = rw p (rec left)
own_more env left e rest false p rec = rw p (rec (arithmetic left (own_type env e)))

own_run : (env : Environment) (rest : Members) (left : Option Ty) → joined_all env (outlooks.Own left) rest ≡ outlooks.Own (arithmetic_all left (own_types env rest))
own_run env end left = refl
own_run env (more operator at e rest) left = own_more env left e rest (is_open e) refl (own_run env rest)

-- where all operands so far are made of literals
abbrev IsRun : Environment → Members → Type 0
IsRun env rest = joined_all env outlooks.Open rest ≡ (if are_open rest then outlooks.Open else outlooks.Own (common_type (own_types env rest)))

open_more : (env : Environment) (e : Expr) (rest : Members) (b : Bool) → is_open e ≡ b → IsRun env rest
    → joined_all env (joined outlooks.Open (outlook_of env e)) rest ≡ (if is_open e && are_open rest then outlooks.Open else outlooks.Own (common_type (others_of env (is_open e) e rest)))
open_more env e rest true p rec = rw p rec
open_more env e rest false p rec = rw p (own_run env rest (arithmetic (own_type env e) (own_type env e)))

open_run : (env : Environment) (rest : Members) → IsRun env rest
open_run env end = refl
open_run env (more operator at e rest) = open_more env e rest (is_open e) refl (open_run env rest)

-- the run from its first operand on
pub run_foreseen : (env : Environment) (first : Expr) (rest : Members) → is_arithmetic (first_group rest) ≡ true → joined_all env (joined outlooks.Open (outlook_of env first)) rest ≡ outlook_of env (Operations first rest)
run_foreseen env first rest p = rw p (open_more env first rest (is_open first) refl (open_run env rest))

-- ---- where no type is expected

pub open_int : (e : Expr) → open_type None e ≡ types.Int
open_int (Number literal) = refl
open_int (Parentheses at inner) = open_int inner
open_int e = refl

pub type_foreseen : (env : Environment) (e : Expr) (b : Bool) → is_open e ≡ b → type_in env None e ≡ (if b then Some types.Int else own_type env e)
type_foreseen env e true p = rw (p, open_int e) refl
type_foreseen env e false p = rw p refl

not_own : (ty : Option Ty) → outlooks.Open ≡ outlooks.Own ty → ⊥
not_own ty p = cc

by_outlook : (env : Environment) (e : Expr) (b : Bool) → is_open e ≡ b → outlooks.Open ≡ outlook_of env e → Some types.Int ≡ type_in env None e
by_outlook env e true p h = sym (type_foreseen env e true p)
by_outlook env e false p h = let own : outlook_of env e ≡ outlooks.Own (own_type env e) = rw p refl in absurd (not_own (own_type env e) (h ∙ own))

pub open_foreseen : (env : Environment) (e : Expr) → outlooks.Open ≡ outlook_of env e → Some types.Int ≡ type_in env None e
open_foreseen env e h = by_outlook env e (is_open e) refl h
