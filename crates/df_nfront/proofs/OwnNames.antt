-- What a lawful source declares has names of its own.
use Rattle.std.proofs.Common.{◌≡◌, ℕ, zero, suc, List, [], ◌∷◌, Some, slice_get, refl, sym, ap, subst, ◌∙◌}
use Rattle.std.specs.List.{AllByRecursion}
use Rattle.std.proofs.lemmas.Option.{same_Some}
use Rattle.df_base.specs.Names.{IsDistinct}
use Rattle.df_lang.specs.Newtype as types
use Rattle.df_lang.specs.Program as program
use Rattle.df_tok.specs.Lexeme.{IsIdentifier, IsWord}
use Rattle.df_ntree.specs.declared.tree.Ident.{Ident}
use Rattle.df_ntree.specs.File.{Declaration, Newtype, Method}
use Rattle.df_ntyping.specs.Table.{Table, table_of}
use Rattle.df_ntyping.specs.FileElaboration.{IsDeclared, IsDeclaration, AreDeclarations}
use Rattle.df_ntyping.specs.FileNodes.{declared_name}
use Rattle.df_nfront.specs.Source.{IsLawful}
use Rattle.df_nfront.specs.Naming.{name_of, AreNamed}
use Rattle.df_nfront.proofs.Named.{IsOwn, IsDeclaredByOwn, read_own}
use Rattle.df_nfront.proofs.DistinctNames.{names_distinct}
use Rattle.df_nfront.proofs.DeclaredOnce.{declared_once}

module _ (names : List (List ℕ)) (table : Table) where
  -- the name of a declaration stands for that of its tree
  abbrev IsNameOf : Declaration → program.Decl → Type 0
  IsNameOf tree decl = slice_get names (declared_name tree).name ≡ Some (name_of decl)

  declared_text : (ident : Ident) (declared : types.Declared) → IsDeclared names ident declared → slice_get names ident.name ≡ Some declared.text
  declared_text ident declared (text, at, is) = at ∙ ap (λ (d : types.Declared). Some d.text) (sym is)

  is_name_of : (tree : Declaration) (decl : program.Decl) → IsDeclaration names table tree decl → IsNameOf tree decl
  is_name_of (Newtype tree) decl (newtype, is, same) = declared_text tree.name newtype.declared is.declared ∙ ap (λ (d : program.Decl). Some (name_of d)) (sym same)
  is_name_of (Method tree) decl (method, is, same) = declared_text tree.name method.declared is.declared ∙ ap (λ (d : program.Decl). Some (name_of d)) (sym same)

  -- the tree of a declaration
  pub record HasTree (trees : List Declaration) (n : ℕ) (decl : program.Decl) : Type 0 where
    pub tree : Declaration
    pub there : slice_get trees n ≡ Some tree
    pub name : IsNameOf tree decl

  first_or_later : (tree : Declaration) (trees : List Declaration) (one decl : program.Decl) (rest : List program.Decl) → IsDeclaration names table tree one → ((k : ℕ) → slice_get rest k ≡ Some decl → HasTree trees k decl)
      → (n : ℕ) → slice_get (one ∷ rest) n ≡ Some decl → HasTree (tree ∷ trees) n decl
  first_or_later tree trees one decl rest is later zero at = record { tree = tree; there = refl; name = subst (IsNameOf tree) (same_Some one decl at) (is_name_of tree one is) }
  first_or_later tree trees one decl rest is later (suc k) at = let found = later k at in record { tree = found.tree; there = found.there; name = found.name }

  no_tree : (decls : List program.Decl) (n : ℕ) (decl : program.Decl) → decls ≡ [] → slice_get decls n ≡ Some decl → ⊥
  no_tree [] n decl none at = cc
  no_tree (d ∷ ds) n decl none at = cc

  tree_at : (trees : List Declaration) (decls : List program.Decl) (n : ℕ) (decl : program.Decl) → AreDeclarations names table trees decls → slice_get decls n ≡ Some decl → HasTree trees n decl
  tree_at [] decls n decl none at = absurd (no_tree decls n decl none at)
  tree_at (tree ∷ trees) decls n decl (one, rest, is, are, same) at =
      first_or_later tree trees one decl rest is (λ k there. tree_at trees rest k decl are there) n (subst (λ (ds : List program.Decl). slice_get ds n ≡ Some decl) same at)

  own_at : (trees : List Declaration) (n : ℕ) (tree : Declaration) → AllByRecursion (IsDeclaredByOwn names) trees → slice_get trees n ≡ Some tree → IsOwn names (declared_name tree).name
  own_at [] n tree own at = absurd cc
  own_at (first ∷ trees) zero tree own at = subst (IsDeclaredByOwn names) (same_Some first tree at) own.0
  own_at (first ∷ trees) (suc n) tree own at = own_at trees n tree own.1 at

  own_name : (name : ℕ) (text : List ℕ) → IsOwn names name → slice_get names name ≡ Some text → IsIdentifier text × (IsWord text → ⊥)
  own_name name text own at =
      let same : own.text ≡ text = same_Some own.text text (sym own.at ∙ at) in
      (subst IsIdentifier same own.identifier, subst (λ (t : List ℕ). IsWord t → ⊥) same own.no_word)

pub lawful_names : (source : List ℕ) (one : program.Program) → IsLawful source one → AreNamed one
lawful_names source one lawful = record {
  identifier = λ number decl at. (named number decl at).0;
  no_word = λ number decl at. (named number decl at).1;
  own = λ number other decl same at also alike.
      let here = tree number decl at in
      let there = tree other same also in
      let name : (declared_name here.tree).name ≡ (declared_name there.tree).name =
      distinct (declared_name here.tree).name (declared_name there.tree).name (name_of same) (here.name ∙ ap Some alike) there.name in
      declared_once lawful.file lawful.elaborates.named number other here.tree there.tree here.there there.there name;
}
  where
    distinct : IsDistinct lawful.names
    distinct = names_distinct source lawful.read.tokens lawful.names lawful.read.divided.divided

    tree : (number : ℕ) (decl : program.Decl) → slice_get one.decls number ≡ Some decl → HasTree lawful.names (table_of lawful.file) lawful.file.declarations number decl
    tree number decl at = tree_at lawful.names (table_of lawful.file) lawful.file.declarations one.decls number decl lawful.elaborates.declarations at

    named : (number : ℕ) (decl : program.Decl) → slice_get one.decls number ≡ Some decl → IsIdentifier (name_of decl) × (IsWord (name_of decl) → ⊥)
    named number decl at =
        let found = tree number decl at in
        own_name lawful.names (table_of lawful.file) (declared_name found.tree).name (name_of decl)
        (own_at lawful.names (table_of lawful.file) lawful.file.declarations number found.tree (read_own lawful.names source lawful.file lawful.read) found.there) found.name
