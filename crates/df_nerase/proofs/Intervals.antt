-- The range of a type is that of the newtype that its number finds.
use Rattle.std.proofs.Common.{◌≡◌, ◌<◌, ◌≤◌, ◌∙◌, sym, ℕ, List, length, get_or, Option, None, Some, refl, ap, slice_get}
use Rattle.std.specs.Option.{option_map, option_map_or, option_and_then}
use Rattle.std.proofs.lemmas.Option.{slice_get-map, slice_get_read, slice_get_past}
use Rattle.df_lang.specs.Newtype.{Newtype}
use Rattle.df_lang.specs.Program.{Decl as SpecDecl, as_newtype}
use Rattle.df_lang.specs.DeclView.{decl_of, program_with}
use Rattle.df_lang.specs.declared.decl.Decl.{Decl}
use Rattle.df_lang.specs.declared.decl.Decl.TheVariants as decls
use Rattle.df_lang.specs.declared.ty.Ty.TheVariants as types
use Rattle.df_nplain.specs.Kind.{Range, Between, Unbounded}
use Rattle.df_nerase.specs.Erasing.{range_of}

abbrev pub range_in : Option Decl → Range
range_in None = Unbounded
range_in (Some (decls.Newtype newtype)) = Between newtype.interval.low newtype.interval.high
range_in (Some (decls.Method method)) = Unbounded

abbrev seen : Option SpecDecl → Range
seen found = option_map_or (λ (newtype : Newtype). Between newtype.low newtype.high) (option_and_then as_newtype found) Unbounded

same : (found : Option Decl) → seen (option_map decl_of found) ≡ range_in found
same None = refl
same (Some (decls.Newtype newtype)) = refl
same (Some (decls.Method method)) = refl

range_found : (all : List Decl) (id : ℕ) (found : Option Decl) → slice_get all id ≡ found → range_of (program_with all) (types.Newtype id) ≡ range_in found
range_found all id found e = ap seen (slice_get-map decl_of all id ∙ ap (option_map decl_of) e) ∙ same found

module _ (all seen_as : List Decl) (is : seen_as ≡ all) (id : ℕ) where
  pub range_there : (decl form : Decl) → decl ≡ form → id < length seen_as → decl ≡ get_or seen_as id decl → range_of (program_with all) (types.Newtype id) ≡ range_in (Some form)
  range_there decl form e less at =
      range_found all id (Some decl) (ap (λ (ds : List Decl). slice_get ds id) (sym is) ∙ slice_get_read seen_as (length seen_as) id decl refl less at) ∙ ap (λ (d : Decl). range_in (Some d)) e

  pub range_past : length seen_as ≤ id → range_of (program_with all) (types.Newtype id) ≡ Unbounded
  range_past more = range_found all id None (ap (λ (ds : List Decl). slice_get ds id) (sym is) ∙ slice_get_past seen_as id more)
