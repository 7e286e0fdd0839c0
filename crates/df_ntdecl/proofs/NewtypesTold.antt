-- The walk over newtypes.
use Rattle.std.proofs.Common.{◌≡◌, ℕ, ◌+◌, true, List, [], ◌∷◌, ◌++◌, length, Option, Some, None, refl, sym, subst}
use Rattle.df_lemmas.proofs.Lists.{get_below}
use Rattle.df_lang.specs.Newtype as newtypes
use Rattle.df_ntree.specs.declared.tree.Ident.{Ident}
use Rattle.df_ntree.specs.File.{NewtypeDeclaration, Newtype}
use Rattle.df_ntree.specs.FileSpelling.{spell_typed, spell_newtype, spell_declaration}
use Rattle.df_ntyping.specs.Literals.{AreInRange}
use Rattle.df_ntyping.specs.Environment.{Environment, Variable_role, declare}
use Rattle.df_ntyping.specs.Node as nodes
use Rattle.df_ntyping.specs.Node.{Occurrence, OfMethod}
use Rattle.df_ntyping.specs.ExprNodes.{width, occurrence, expr_nodes}
use Rattle.df_ntyping.specs.FileNodes.{use_nodes, witness_nodes, newtype_nodes}
use Rattle.df_ntyping.specs.FileElaboration.{IsDeclared, IsNewtype}
use Rattle.df_ntyping.specs.Laws.{HasText}
use Rattle.df_ntyping.specs.Rule.{Rule, Range, Typing, Given}
use Rattle.df_ntyping.specs.Breaks.{breaks}
use Rattle.df_ntyping.specs.rules.Newtypes.{Bounds, bounds_of}
use Rattle.df_ntyping.proofs.AllNodes.{only, both}
use Rattle.df_ntyping.proofs.FirstFault.{NoNames, named_left, named_right}
use Rattle.df_ntyping.proofs.SoundFiles.{some_sound, witness_sound}
use Rattle.df_ntyping.proofs.SoundNodes as kinds
use Rattle.df_ntyping.proofs.SoundNodes.{sound}
use Rattle.df_ntdecl.specs.mirror.Declarations.{declared_in, newtype_with, newtype_in}
use Rattle.df_ntstmt.proofs.Judging.{first_rule, Judged, judged_behind, silent_sound}
use Rattle.df_ntdecl.proofs.Bounding.{bounds_same}

-- ---- names

pub declared_made : (names : List (List ℕ)) (ident : Ident) → HasText names ident → IsDeclared names ident (declared_in names ident)
declared_made names ident lt = let (text, p) = get_below names ident.name lt in (text, p, rw p refl)

pub same_declared : (names : List (List ℕ)) (ident : Ident) (declared : newtypes.Declared) → IsDeclared names ident declared → declared_in names ident ≡ declared
same_declared names ident declared (text, p, q) = rw (p, q) refl

-- ---- newtypes

range_only : (env : Environment) (x : NewtypeDeclaration) (rule : Rule) → breaks env (nodes.Newtype x) rule ≡ true → rule ≡ Range
range_only env x Range h = refl
range_only env x (Typing Given) h = absurd cc
range_only env x rule h = absurd cc

pub newtype_told : (names : List (List ℕ)) (env : Environment) (start : ℕ) (x : NewtypeDeclaration) → HasText names x.name → AreInRange (spell_newtype x) → NoNames (newtype_nodes env start x) → Judged (newtype_nodes env start x) (IsNewtype names x) (newtype_in names x)
newtype_told names env start x text r n =
    judged_behind uses (one ∷ []) (IsNewtype names x) (newtype_in names x)
    (silent_sound uses (both (some_sound (expr_nodes inner_env predicate x.predicate)) (witness_sound env (predicate + width x.predicate) x.witness)) (named_left uses (one ∷ []) n))
    (subst (λ (b : Option Bounds). Judged (one ∷ []) (IsNewtype names x) (newtype_with names x b)) (sym (bounds_same x r)) (by_bounds (bounds_of x) refl)) where
      inner_env : Environment
      inner_env = declare env Variable_role x.variable.name

      predicate : ℕ
      predicate = start + 5 + length (spell_typed x.is_typed)

      uses : List Occurrence
      uses = use_nodes inner_env predicate x.predicate ++ witness_nodes env (predicate + width x.predicate) x.witness

      one : Occurrence
      one = occurrence env (nodes.Newtype x) start (start + length (spell_declaration (Newtype x)))

      by_bounds : (b : Option Bounds) → bounds_of x ≡ b → Judged (one ∷ []) (IsNewtype names x) (newtype_with names x b)
      by_bounds None p = record { fault = record { at = one; rule = Range }; first = first_rule one Range (rw p refl) refl (range_only env x); tells = record { code = refl; pos = refl; detail = refl } }
      by_bounds (Some bounds) p =
          (silent_sound (one ∷ []) (only (sound (kinds.newtype env x (rw p refl)))) (named_right uses (one ∷ []) n), record { declared = declared_made names x.name text; bounds = p })
