-- The names that a source's tokens spell stand for identifiers.
use Rattle.std.proofs.Common.{◌≡◌, ◌≢◌, ℕ, ◌<◌, List, [], ◌∷◌, ◌++◌, length, get_or, slice_get, Option, Some, None, sym, ap, subst, ◌∙◌}
use Rattle.std.specs.Prelude.{codes}
use Rattle.std.specs.List.{AllByRecursion, flat_map}
use Rattle.std.proofs.lemmas.List.Quantifiers.{position-Some}
use Rattle.std.proofs.lemmas.Option.{slice_get-get_or, slice_get_within}
use Rattle.df_lemmas.proofs.Alls.{all_front, all_back}
use Rattle.df_base.specs.Names.{same_text}
use Rattle.df_base.proofs.NamesLemmas.{same_text-equal}
use Rattle.df_tok.specs.Lexeme.{IsIdentifier, IsWord}
use Rattle.df_tok.specs.declared.token.Kind.{Kind}
use Rattle.df_tok.specs.declared.token.Kind.TheVariants as kinds
use Rattle.df_tok.specs.Token.{Token, HasKind, IsNamed}
use Rattle.df_ntree.specs.declared.file.Parameter.{Parameter}
use Rattle.df_ntree.specs.Spelling.{Piece, Plain, Characters, IsPiece, spell_more, separated, optional}
use Rattle.df_ntree.specs.File.{MethodDeclaration, Declaration, Newtype, Method, File}
use Rattle.df_ntree.specs.FileSpelling.{spell_parameter, spell_parameters, spell_results, spell_declaration, spell_file}
use Rattle.df_ntyping.specs.Table.{results_in}
use Rattle.df_ntyping.specs.Laws.{HaveTexts, IsDeclaredByText, AreTexts}
use Rattle.df_ntyping.specs.FileNodes.{declared_name}
use Rattle.df_nfront.specs.Source.{IsRead}
use Rattle.df_nfront.proofs.TokenKinds.{HasItsKind, pieces_all}

-- the name stands for an identifier, and neither for `_` nor for a word of the language
pub record IsOwn (names : List (List ℕ)) (name : ℕ) : Type 0 where
  pub text : List ℕ
  pub at : slice_get names name ≡ Some text
  pub identifier : IsIdentifier text
  pub differs : text ≢ codes "_"
  pub no_word : IsWord text → ⊥

-- ---- tokens

-- the text that a name was found by
named_text : (before : List (List ℕ)) (text : List ℕ) (name : ℕ) (after : List (List ℕ)) → IsNamed before text name after → slice_get after name ≡ Some text
named_text before text name after named =
    let found = position-Some (same_text text) after name [] named.1 in
    slice_get-get_or after name [] found.0 ∙ ap Some (sym (same_text-equal text (get_or after name []) found.1))

abbrev IsOwnKind : List (List ℕ) → Kind → Type 0
IsOwnKind names (kinds.Name name) = IsOwn names name
IsOwnKind names kind = Unit {0}

abbrev pub IsOwnPiece : List (List ℕ) → Piece → Type 0
IsOwnPiece names (Plain kind place) = IsOwnKind names kind
IsOwnPiece names (Characters characters) = Unit {0}

own_kind : (before : List (List ℕ)) (text : List ℕ) (kind : Kind) (after last : List (List ℕ)) → HasKind before text kind after
    → ((n : ℕ) (one : List ℕ) → slice_get after n ≡ Some one → slice_get last n ≡ Some one) → IsOwnKind last kind
own_kind before text (kinds.Name name) after last h stay =
    record { text = text; at = stay name text (named_text before text name after h.4); identifier = h.0; differs = h.1; no_word = h.2 }
own_kind before text (kinds.Outside name) after last h stay = tt
own_kind before text kinds.Wildcard after last h stay = tt
own_kind before text (kinds.Word word) after last h stay = tt
own_kind before text (kinds.Number n) after last h stay = tt
own_kind before text (kinds.Character c) after last h stay = tt
own_kind before text kinds.Text after last h stay = tt
own_kind before text (kinds.Sign sign) after last h stay = tt

own_piece : (last : List (List ℕ)) (piece : Piece) (token : Token) → IsPiece piece token → HasItsKind last token → IsOwnPiece last piece
own_piece last (Plain kind place) token is it = subst (IsOwnKind last) is.0 (own_kind it.before token.text token.kind it.after last it.has it.stay)
own_piece last (Characters characters) token is it = tt

-- ---- files

module _ (names : List (List ℕ)) where
  abbrev AreOwn : List Piece → Type 0
  AreOwn pieces = AllByRecursion (IsOwnPiece names) pieces

  within : (name : ℕ) → IsOwn names name → name < length names
  within name own = slice_get_within names name own.text own.at

  front : (xs ys : List Piece) → AreOwn (xs ++ ys) → AreOwn xs
  front xs ys h = all_front (IsOwnPiece names) xs ys h

  behind : (xs ys : List Piece) → AreOwn (xs ++ ys) → AreOwn ys
  behind xs ys h = all_back (IsOwnPiece names) xs ys h

  more_have : (all : List Parameter) → AreOwn (flat_map (spell_more spell_parameter) all) → HaveTexts names all
  more_have [] h = tt
  more_have (parameter ∷ others) h = (within parameter.name.name h.1.0, more_have others (behind (spell_more spell_parameter parameter) _ h))

  separated_have : (all : List Parameter) → AreOwn (separated spell_parameter all) → HaveTexts names all
  separated_have [] h = tt
  separated_have (parameter ∷ others) h = (within parameter.name.name h.0, more_have others (behind (spell_parameter parameter) _ h))

  parameters_have : (all : List Parameter) → AreOwn (spell_parameters all) → HaveTexts names all
  parameters_have all h = separated_have all (front (separated spell_parameter all) _ h.1)

  results_have : (results : Option (List Parameter)) → AreOwn (optional spell_results results) → HaveTexts names (results_in results)
  results_have None h = tt
  results_have (Some results) h = parameters_have results h.1

  method_has : (method : MethodDeclaration) → AreOwn (spell_declaration (Method method)) → IsDeclaredByText names (Method method)
  method_has method h =
      let after = behind (spell_parameters method.parameters) _ h.1.1 in (
        within method.name.name h.1.0,
        parameters_have method.parameters (front (spell_parameters method.parameters) _ h.1.1),
        results_have method.results (front (optional spell_results method.results) _ after),
      )

  declaration_has : (declaration : Declaration) → AreOwn (spell_declaration declaration) → IsDeclaredByText names declaration
  declaration_has (Newtype newtype) h = within newtype.name.name h.1.0
  declaration_has (Method method) h = method_has method h

  declarations_have : (all : List Declaration) → AreOwn (flat_map spell_declaration all) → AllByRecursion (IsDeclaredByText names) all
  declarations_have [] h = tt
  declarations_have (declaration ∷ others) h =
      (declaration_has declaration (front (spell_declaration declaration) _ h), declarations_have others (behind (spell_declaration declaration) _ h))

  -- what is declared has an identifier as its name
  abbrev pub IsDeclaredByOwn : Declaration → Type 0
  IsDeclaredByOwn declaration = IsOwn names (declared_name declaration).name

  declared_own : (declaration : Declaration) → AreOwn (spell_declaration declaration) → IsDeclaredByOwn declaration
  declared_own (Newtype newtype) h = h.1.0
  declared_own (Method method) h = h.1.0

  declarations_own : (all : List Declaration) → AreOwn (flat_map spell_declaration all) → AllByRecursion IsDeclaredByOwn all
  declarations_own [] h = tt
  declarations_own (declaration ∷ others) h =
      (declared_own declaration (front (spell_declaration declaration) _ h), declarations_own others (behind (spell_declaration declaration) _ h))

  all_own : (source : List ℕ) (file : File) → IsRead source names file → AreOwn (spell_file file)
  all_own source file read = pieces_all names (IsOwnPiece names) (own_piece names) source read.tokens (spell_file file) read.divided.divided read.spelled.1

  -- the names of what is declared, with parameters and results, have texts
  pub read_have : (source : List ℕ) (file : File) → IsRead source names file → AreTexts names file
  read_have source file read = declarations_have file.declarations (all_own source file read)

  pub read_own : (source : List ℕ) (file : File) → IsRead source names file → AllByRecursion IsDeclaredByOwn file.declarations
  read_own source file read = declarations_own file.declarations (all_own source file read)
