-- The names of newtypes are words of logs.
use Rattle.std.proofs.Common.{◌≡◌, ◌≢◌, ℕ, ◌<◌, Bool, true, false, List, [], ◌∷◌, slice_get, Some, sym, ap, subst, ◌∙◌, refl, arith}
use Rattle.std.specs.Prelude.{codes}
use Rattle.std.specs.List.{AllByRecursion}
use Rattle.std.specs.Option.{option_map}
use Rattle.std.proofs.lemmas.Bool.{false≢true}
use Rattle.std.proofs.lemmas.Option.{same_Some, slice_get-map}
use Rattle.df_lemmas.proofs.Options.{then_some, map_some}
use Rattle.df_lang.specs.Newtype.{Newtype}
use Rattle.df_lang.specs.Program.{Decl, NewtypeDecl, MethodDecl, Program, as_newtype}
use Rattle.df_tok.specs.Byte.{begins_identifier, continues_identifier}
use Rattle.df_tok.specs.Lexeme.{IsIdentifier, IsWord}
use Rattle.df_tok.specs.declared.word.Word.TheVariants as words
use Rattle.df_logtext.specs.HasText as texts
use Rattle.df_nfront.specs.Naming.{AreNamed}
use Rattle.df_nproof.specs.Names.{name_in, names_in, HaveTypeNames}

-- ---- words

-- a byte of which a test holds is none of which it does not hold
differs : (test : ℕ → Bool) (b other : ℕ) → test other ≡ false → test b ≡ true → b ≢ other
differs test b other fails holds = λ same. false≢true (sym fails ∙ ap test (sym same) ∙ holds)

are_plain : (bytes : List ℕ) → AllByRecursion (λ (b : ℕ). continues_identifier b ≡ true) bytes → texts.IsWord bytes
are_plain [] all = tt
are_plain (b ∷ bytes) all = ((differs continues_identifier b 32 refl all.0, differs continues_identifier b 10 refl all.0), are_plain bytes all.1)

-- an identifier has neither a blank nor a line feed
is_word : (text : List ℕ) → IsIdentifier text → texts.IsWord text
is_word [] is = absurd is
is_word (b ∷ bytes) is = ((differs begins_identifier b 32 refl is.0, differs begins_identifier b 10 refl is.0), are_plain bytes is.1)

-- and it is no blank
no_blank : (text : List ℕ) → IsIdentifier text → codes " " ≢ text
no_blank text is = λ same. let blank : IsIdentifier (codes " ") = subst IsIdentifier (sym same) is in false≢true blank.0

-- ---- programs

newtype_is : (decl : Decl) (newtype : Newtype) → as_newtype decl ≡ Some newtype → decl ≡ NewtypeDecl newtype
newtype_is (NewtypeDecl one) newtype e = ap NewtypeDecl (same_Some one newtype e)
newtype_is (MethodDecl method) newtype e = absurd cc

module _ (program : Program) (are : AreNamed program) (number : ℕ) (newtype : Newtype) (there : slice_get program.decls number ≡ Some (NewtypeDecl newtype)) where
  abbrev text : List ℕ
  text = newtype.declared.text

  -- none before it has its name
  not_before : (other : ℕ) (decl : Decl) → other < number → slice_get program.decls other ≡ Some decl → name_in decl ≡ text → ⊥
  not_before other (NewtypeDecl one) less at same = let e = are.own other number (NewtypeDecl one) (NewtypeDecl newtype) at there same in omega (arith, e, less)
  not_before other (MethodDecl method) less at same = no_blank text (are.identifier number (NewtypeDecl newtype) there) same

  is_first : (other : ℕ) → other < number → slice_get (names_in program) other ≢ Some text
  is_first other less = λ named.
      let found = map_some name_in (slice_get program.decls other) text (sym (slice_get-map name_in program.decls other) ∙ named) in
      not_before other found.0 less found.1 found.2

  no_word : IsWord text → ⊥
  no_word = are.no_word number (NewtypeDecl newtype) there

  is_named : texts.IsNamed (names_in program) number
  is_named = record {
    name = text;
    here = slice_get-map name_in program.decls number ∙ ap (option_map name_in) there;
    first = is_first;
    apart = (λ same. no_word (words.Int, sym same), (λ same. no_word (words.Nat, sym same), (λ same. no_word (words.Bool, sym same), (λ same. no_word (words.Char, sym same), tt))));
    word = is_word text (are.identifier number (NewtypeDecl newtype) there);
  }

pub have_type_names : (program : Program) → AreNamed program → HaveTypeNames program
have_type_names program are number newtype at =
    let found = then_some as_newtype (slice_get program.decls number) newtype at in
    is_named program are number newtype (found.1 ∙ ap Some (newtype_is found.0 newtype found.2))
