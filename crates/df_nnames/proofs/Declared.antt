-- Declarations one after another: what is told of them, and their table.
use Rattle.std.proofs.Common.{◌≡◌, ℕ, suc, ◌+◌, ◌<◌, ◌≤◌, Bool, true, false, List, [], ◌∷◌, ◌++◌, map, length, get_or, drop, refl, sym, ap, subst, ◌∙◌, arith}
use Rattle.std.proofs.lemmas.List.{drop_all, drop_more}
use Rattle.df_base.specs.declared.refusal.Refusal.{Refusal}
use Rattle.df_base.specs.declared.refusal.Stop.{Stop}
use Rattle.df_base.specs.declared.refusal.Stop.TheVariants as stops
use Rattle.df_ntree.specs.declared.file.Declaration.{Declaration}
use Rattle.df_ntree.specs.declared.tree.Ident.{Ident}
use Rattle.df_ntree.specs.File.{declaration_of}
use Rattle.df_ntyping.specs.FileNodes.{declared_name}
use Rattle.df_ntyping.specs.Table.{Table}
use Rattle.df_nnames.specs.Globals.{Globals}
use Rattle.df_nnames.specs.Faults.{twice, told_if, declaration_faults, declarations_faults}
use Rattle.df_nnames.specs.Listing.{is_declared, with_declaration, with_declarations}
use Rattle.df_nnames.specs.Telling.{IsTold}
use Rattle.df_nnames.proofs.Telling.{told_left}

module _ (g : Globals) (table : Table) (id : ℕ) (x : Declaration) (all : List Declaration) (lt : id < length all) (is : x ≡ get_or all id x) where
  abbrev others : List Declaration
  others = drop (id + 1) all

  abbrev later : List Refusal
  later = declarations_faults g (with_declaration g table id (declaration_of x)) (suc id) (map declaration_of others)

  parts : drop id all ≡ x ∷ others
  parts = drop_more all id x lt ∙ ap (λ (y : Declaration). y ∷ others) (sym is)

  -- what is told of the declarations that are left, by whether the name of the first is declared
  told_by : (declared : Bool) → is_declared table (declared_name (declaration_of x)).name ≡ declared
      → told_if declared (twice (declared_name (declaration_of x))) ++ (declaration_faults g (declaration_of x) ++ later) ≡ declarations_faults g table id (map declaration_of (drop id all))
  told_by declared e =
      ap (λ (b : Bool). told_if b (twice (declared_name (declaration_of x))) ++ (declaration_faults g (declaration_of x) ++ later)) (sym e)
      ∙ sym (ap (λ (ds : List Declaration). declarations_faults g table id (map declaration_of ds)) parts)

  pub faults_more : (next : Table) (total : List Refusal) → is_declared table (declared_name (declaration_of x)).name ≡ false → declaration_faults g (declaration_of x) ≡ [] → next ≡ with_declaration g table id (declaration_of x)
      → declarations_faults g table id (map declaration_of (drop id all)) ≡ total → declarations_faults g next (id + 1) (map declaration_of (drop (id + 1) all)) ≡ total
  faults_more next total new clear made so_far =
      let after : id + 1 ≡ suc id = omega arith in
      (λ i. declarations_faults g (made i) (after i) (map declaration_of others))
      ∙ ap (λ (l : List Refusal). l ++ later) (sym clear)
      ∙ told_by false new
      ∙ so_far

  pub table_more : (next total : Table) → next ≡ with_declaration g table id (declaration_of x)
      → with_declarations g table id (map declaration_of (drop id all)) ≡ total → with_declarations g next (id + 1) (map declaration_of (drop (id + 1) all)) ≡ total
  table_more next total made so_far =
      let after : id + 1 ≡ suc id = omega arith in
      (λ i. with_declarations g (made i) (after i) (map declaration_of others))
      ∙ sym (ap (λ (ds : List Declaration). with_declarations g table id (map declaration_of ds)) parts)
      ∙ so_far

  pub declaration_told : (stop : Stop) (total : List Refusal) → is_declared table (declared_name (declaration_of x)).name ≡ false → IsTold stop (declaration_faults g (declaration_of x))
      → declarations_faults g table id (map declaration_of (drop id all)) ≡ total → IsTold stop total
  declaration_told stop total new told so_far = subst (IsTold stop) (told_by false new ∙ so_far) (told_left stop (declaration_faults g (declaration_of x)) later told)

  pub twice_told : (stop : Stop) (ident : Ident) (total : List Refusal) → is_declared table (declared_name (declaration_of x)).name ≡ true → ident ≡ declared_name (declaration_of x) → stop ≡ stops.Refused (twice ident)
      → declarations_faults g table id (map declaration_of (drop id all)) ≡ total → IsTold stop total
  twice_told stop ident total old names refused so_far =
      subst (λ (s : Stop). IsTold s total) (sym (refused ∙ ap (λ (i : Ident). stops.Refused (twice i)) names))
      (subst (IsTold (stops.Refused (twice (declared_name (declaration_of x))))) (told_by true old ∙ so_far) refl)

pub faults_done : (g : Globals) (table : Table) (id : ℕ) (all : List Declaration) (total : List Refusal) → length all ≤ id → declarations_faults g table id (map declaration_of (drop id all)) ≡ total → total ≡ []
faults_done g table id all total le so_far = sym so_far ∙ ap (λ (ds : List Declaration). declarations_faults g table id (map declaration_of ds)) (drop_all id all le)

pub table_done : (g : Globals) (table : Table) (id : ℕ) (all : List Declaration) (total : Table) → length all ≤ id → with_declarations g table id (map declaration_of (drop id all)) ≡ total → table ≡ total
table_done g table id all total le so_far = sym (ap (λ (ds : List Declaration). with_declarations g table id (map declaration_of ds)) (drop_all id all le)) ∙ so_far

-- whether the name is declared, as it was looked up
pub looked_up : (table : Table) (x : Declaration) (ident : Ident) (answer declared : Bool) → ident ≡ declared_name (declaration_of x) → answer ≡ is_declared table ident.name → answer ≡ declared → is_declared table (declared_name (declaration_of x)).name ≡ declared
looked_up table x ident answer declared names answers is = sym (ap (λ (i : Ident). is_declared table i.name) names) ∙ sym answers ∙ is
