-- What a node has where a type is expected of it: where it is told, the types of its parts, and the places that they go to.
use Rattle.std.specs.Prelude.{ℕ, zero, suc, ◌-◌, List, [], ◌∷◌, map, length, Option, Some, None}
use Rattle.std.specs.Option.{option_map_or}
use Rattle.df_typing.specs.declared.form.Places.TheVariants as places
use Rattle.df_typing.specs.declared.form.Head.TheVariants as heads
use Rattle.df_typing.specs.Tree.{Label, Span, Mark, Signed, signs_in}
use Rattle.df_typing.specs.Types.{Ty}
use Rattle.df_typing.specs.Form.{form_of, Head, Places}
use Rattle.df_typing.specs.Table.{Signature, Global, TheNewtype, TheCallable}
use Rattle.df_typing.specs.Scope.{Inferred, Meaning, Unknown, TheKnown, TheGlobal, Facts, type_at}
use Rattle.df_typing.specs.Sights.{Sight, settle, part_demands, indices, Notes, NoNote, Note}

-- the text of a construct, and the token at which it is told
pub record Text : Type 0 where
  pub span : Span
  pub place : ℕ

abbrev pub first_sign : ℕ → List Signed → ℕ
first_sign otherwise [] = otherwise
first_sign otherwise (one ∷ rest) = one.place

abbrev pub last_sign : ℕ → List Signed → ℕ
last_sign otherwise [] = otherwise
last_sign otherwise (one ∷ rest) = last_sign one.place rest

abbrev pub head_at : Head → Span → List Mark → ℕ
head_at heads.First span tokens = span.start
head_at heads.FirstSign span tokens = first_sign span.start (signs_in tokens)
head_at heads.LastSign span tokens = last_sign span.start (signs_in tokens)

abbrev pub text_of : Label → Span → Facts → Text
text_of label span facts = record { span = span; place = head_at (form_of label).head span facts.marks }

-- of each part
abbrev pub texts : Notes → List Text
texts NoNote = []
texts (Note label span facts parts inside rest) = text_of label span facts ∷ texts rest

-- ---- what a node has, where a type is expected of it

pub record Here : Type 0 where
  pub label : Label
  pub text : Text
  pub facts : Facts
  pub parts : List Sight
  -- the types of the parts where they stand, and of the places that they go to
  pub types : List (Option Ty)
  pub places : List (Option Ty)
  pub inside : Notes

abbrev pub signature_in : Meaning → Option Signature
signature_in Unknown = None
signature_in (TheKnown known ty) = None
signature_in (TheGlobal entry) = by entry.is where
  by : Global → Option Signature
  by TheNewtype = None
  by (TheCallable signature) = Some signature

-- ---- places

abbrev pub type_of_index : List Inferred → Option ℕ → Option Ty
type_of_index types None = None
type_of_index types (Some index) = type_at types index

abbrev pub target_types : List Inferred → Facts → Notes → List (Option Ty)
target_types types facts inside = map (type_of_index types) (indices facts.before inside)

abbrev pub nothing_before : ℕ → List (Option Ty) → List (Option Ty)
nothing_before zero types = types
nothing_before (suc k) types = None ∷ nothing_before k types

-- the types of the places that the parts go to, where so many parts stand there, and the declaration around has these results
abbrev pub places_of : Places → List Inferred → List (Option Ty) → Facts → (parts : ℕ) → Notes → List (Option Ty)
places_of places.Nowhere types results facts parts inside = []
places_of places.Parameters types results facts parts inside = option_map_or (λ (signature : Signature). signature.parameters) (signature_in facts.meaning) []
places_of places.Targets types results facts parts inside = nothing_before facts.before (target_types types facts inside)
places_of places.Results types results facts parts inside = results
places_of places.Body types results facts parts inside = nothing_before (parts - 1) results

-- what the folds know of the declaration around: the types of all that it declares, and those of its results
pub record Enclosing : Type 0 where
  pub types : List Inferred
  pub results : List (Option Ty)

abbrev pub here_of : Enclosing → Label → Span → Facts → List Sight → (expected : Option Ty) → Notes → Here
here_of around label span facts parts expected inside =
    let places = places_of (form_of label).places around.types around.results facts (length parts) inside in
    record {
      label = label;
      text = text_of label span facts;
      facts = facts;
      parts = parts;
      types = settle parts (part_demands (form_of label) expected places parts);
      places = places;
      inside = inside;
    }

abbrev pub demands_at : Enclosing → Label → Facts → List Sight → (expected : Option Ty) → Notes → List (Option Ty)
demands_at around label facts parts expected inside = part_demands (form_of label) expected (places_of (form_of label).places around.types around.results facts (length parts) inside) parts
