-- The methods of a lawful source have names that the machine takes.
use Rattle.std.proofs.Common.{◌≡◌, ℕ, zero, suc, true, List, [], ◌∷◌, slice_get, Some, sym, ap, subst, ◌∙◌}
use Rattle.std.specs.Option.{option_and_then}
use Rattle.std.specs.List.{AllByRecursion}
use Rattle.std.proofs.lemmas.Option.{same_Some, none-some}
use Rattle.df_lang.specs.Newtype as types
use Rattle.df_lang.specs.Program as program
use Rattle.df_lang.specs.Program.{as_method}
use Rattle.df_nmach.specs.Name.{is_name}
use Rattle.df_ntree.specs.declared.tree.Ident.{Ident}
use Rattle.df_ntree.specs.File.{Declaration, Newtype, Method}
use Rattle.df_ntyping.specs.Table.{Table, table_of}
use Rattle.df_ntyping.specs.FileElaboration.{IsDeclared, IsDeclaration, AreDeclarations}
use Rattle.df_nfront.specs.Source.{IsLawful, HasNames}
use Rattle.df_nfront.proofs.MachineNames.{identifier_is_name}
use Rattle.df_nfront.proofs.Named.{IsOwn, IsDeclaredByOwn, read_own}

declared_name : (names : List (List ℕ)) (ident : Ident) (declared : types.Declared) → IsDeclared names ident declared → IsOwn names ident.name → is_name declared.text ≡ true
declared_name names ident declared (text, at, is) own =
    let same : own.text ≡ text = same_Some own.text text (sym own.at ∙ at) in
    let named : is_name text ≡ true = subst (λ (t : List ℕ). is_name t ≡ true) same (identifier_is_name own.text own.identifier own.differs) in
    ap (λ (d : types.Declared). is_name d.text) is ∙ named

declaration_name : (names : List (List ℕ)) (table : Table) (tree : Declaration) (one : program.Decl) (method : program.Method)
    → IsDeclaration names table tree one → IsDeclaredByOwn names tree → as_method one ≡ Some method → is_name method.declared.text ≡ true
declaration_name names table (Newtype tree) one method (newtype, is, same) own at = absurd (none-some method (ap as_method (sym same) ∙ at))
declaration_name names table (Method tree) one method (its, is, same) own at =
    let e : its ≡ method = same_Some its method (ap as_method (sym same) ∙ at) in
    subst (λ (m : program.Method). is_name m.declared.text ≡ true) e (declared_name names tree.name its.declared is.declared own)

abbrev AreNamed : List program.Decl → Type 0
AreNamed decls = (number : ℕ) (method : program.Method) → option_and_then as_method (slice_get decls number) ≡ Some method → is_name method.declared.text ≡ true

none_named : AreNamed []
none_named zero method at = absurd (none-some method at)
none_named (suc number) method at = absurd (none-some method at)

one_more : (one : program.Decl) (rest : List program.Decl) → ((method : program.Method) → as_method one ≡ Some method → is_name method.declared.text ≡ true) → AreNamed rest → AreNamed (one ∷ rest)
one_more one rest first others zero method at = first method at
one_more one rest first others (suc number) method at = others number method at

declarations_named : (names : List (List ℕ)) (table : Table) (trees : List Declaration) (decls : List program.Decl) → AreDeclarations names table trees decls → AllByRecursion (IsDeclaredByOwn names) trees → AreNamed decls
declarations_named names table [] decls none own = subst AreNamed (sym none) none_named
declarations_named names table (tree ∷ others) decls (one, rest, is, are, same) own =
    subst AreNamed (sym same)
    (one_more one rest (λ method at. declaration_name names table tree one method is own.0 at) (declarations_named names table others rest are own.1))

pub lawful_named : (source : List ℕ) (one : program.Program) → IsLawful source one → HasNames one
lawful_named source one lawful number method at =
    declarations_named lawful.names (table_of lawful.file) lawful.file.declarations one.decls lawful.elaborates.declarations (read_own lawful.names source lawful.file lawful.read) number method at
