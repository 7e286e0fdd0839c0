-- The walk over files: it tells the least rule that is broken, or what it makes elaborates.
use Rattle.std.proofs.Common.{◌≡◌, ℕ, suc, ◌+◌, List, [], ◌∷◌, ◌++◌, length, Ok, Err, refl, sym, ap, subst, ◌∙◌, arith}
use Rattle.std.specs.List.{AllByRecursion, flat_map}
use Rattle.df_base.specs.declared.refusal.Refusal.{Refusal}
use Rattle.df_lang.specs.Newtype as newtypes
use Rattle.df_lang.specs.Program as program
use Rattle.df_lang.specs.Program.{types_of}
use Rattle.df_ntree.specs.File.{NewtypeDeclaration, MethodDeclaration, Declaration, Newtype, Method, File}
use Rattle.df_ntree.specs.FileSpelling as grammar
use Rattle.df_ntree.specs.FileSpelling.{spell_parameters, spell_results, spell_typed, spell_clause, spell_block, spell_statements, spell_newtype, spell_method, spell_declaration, spell_file, IsFile}
use Rattle.df_ntyping.specs.Literals.{AreInRange, IsReadFile}
use Rattle.df_ntyping.specs.Table.{Table, table_of}
use Rattle.df_ntyping.specs.Node as nodes
use Rattle.df_ntyping.specs.Node.{Occurrence, OfMethod}
use Rattle.df_ntyping.specs.ExprNodes.{token_at}
use Rattle.df_ntyping.specs.FileNodes.{empty_environment, newtype_nodes, method_nodes, declared_name, declaration_nodes, declarations_nodes, file_nodes}
use Rattle.df_ntyping.specs.FileElaboration.{IsNewtype, IsMethod, IsDeclaration, AreDeclarations, HasNames, ElaboratesFile}
use Rattle.df_ntyping.specs.Laws.{IsDeclaredByText, AreTexts}
use Rattle.df_ntyping.specs.Least.{IsToldIn}
use Rattle.df_ntyping.proofs.AllNodes.{only}
use Rattle.df_ntyping.proofs.FaultlessNodes.{TableKnown}
use Rattle.df_ntyping.proofs.FileOrder.{declaration_order, declarations_order}
use Rattle.df_ntyping.proofs.FirstFault.{NoNames, named_left}
use Rattle.df_ntyping.proofs.Found.{beyond_segment}
use Rattle.df_ntyping.proofs.SoundNodes as kinds
use Rattle.df_ntyping.proofs.SoundNodes.{sound}
use Rattle.df_ntyping.proofs.TypedIsWellTyped.{all_left, all_right}
use Rattle.df_ntyping.proofs.NamedFiles.{named_breaks_none}
use Rattle.df_ntexpr.specs.Replies.{Reply}
use Rattle.df_ntstmt.specs.mirror.Steps.{and_then}
use Rattle.df_ntdecl.specs.mirror.Declarations.{newtype_in, method_in, declaration_in, declarations_in}
use Rattle.df_ntstmt.proofs.Judging.{met_told, Judged, judged_behind, judged_then, judged_map, judged_none, silent_sound}
use Rattle.df_ntdecl.proofs.NewtypesTold.{newtype_told}
use Rattle.df_ntdecl.proofs.SignaturesTold.{inside_declarations, behind_declaration, methods_known}
use Rattle.df_ntdecl.proofs.MethodsTold.{method_told}

-- ---- declarations

newtype_decl : (names : List (List ℕ)) (table : Table) (x : NewtypeDeclaration) (newtype : newtypes.Newtype) → IsNewtype names x newtype → IsDeclaration names table (Newtype x) (program.NewtypeDecl newtype)
newtype_decl names table x newtype h = (newtype, h, refl)

method_decl : (names : List (List ℕ)) (table : Table) (x : MethodDeclaration) (method : program.Method) → IsMethod names table x method → IsDeclaration names table (Method x) (program.MethodDecl method)
method_decl names table x method h = (method, h, refl)

declaration_told : (names : List (List ℕ)) (table : Table) (start : ℕ) (x : Declaration) → TableKnown table → IsDeclaredByText names x → grammar.IsDeclaration x → AreInRange (spell_declaration x) → NoNames (declaration_nodes table start x)
    → Judged (declaration_nodes table start x) (IsDeclaration names table x) (declaration_in names table x)
declaration_told names table start (Newtype x) t texts g r n =
    judged_map (newtype_nodes (empty_environment table) start x) (IsNewtype names x) (IsDeclaration names table (Newtype x)) (newtype_in names x) (λ (newtype : newtypes.Newtype). program.NewtypeDecl newtype)
    (newtype_told names (empty_environment table) start x texts r n) (λ newtype h. newtype_decl names table x newtype h)
declaration_told names table start (Method x) t texts g r n =
    judged_map (method_nodes table start x) (IsMethod names table x) (IsDeclaration names table (Method x)) (method_in names table x) (λ (method : program.Method). program.MethodDecl method)
    (method_told names table start x t texts g r n) (λ method h. method_decl names table x method h)

pub declarations_told : (names : List (List ℕ)) (table : Table) (before : List ℕ) (start : ℕ) (trees : List Declaration) → TableKnown table → AllByRecursion (IsDeclaredByText names) trees → AllByRecursion grammar.IsDeclaration trees
    → AreInRange (flat_map spell_declaration trees) → NoNames (declarations_nodes table before start trees) → Judged (declarations_nodes table before start trees) (AreDeclarations names table trees) (declarations_in names table trees)
declarations_told names table before start [] t texts g r n = judged_none (AreDeclarations names table []) [] refl
declarations_told names table before start (x ∷ others) t texts g r n =
    let new = token_at (empty_environment table) (nodes.NewName before (declared_name x)) (suc start) in
    let here = declaration_nodes table start x in
    let later_start = start + length (spell_declaration x) in
    let behind_here = declarations_nodes table (before ++ (declared_name x).name ∷ []) later_start others in
    judged_behind (new ∷ []) (here ++ behind_here) (AreDeclarations names table (x ∷ others)) (declarations_in names table (x ∷ others))
    (silent_sound (new ∷ []) (only (sound (kinds.new_name (empty_environment table) before (declared_name x)))) (named_left (new ∷ []) (here ++ behind_here) n))
    (judged_then start (start + 2) later_start here behind_here (IsDeclaration names table x) (AreDeclarations names table (x ∷ others)) (declaration_in names table x)
    (λ (one : program.Decl). and_then (declarations_in names table others) (λ (rest : List program.Decl). Ok (one ∷ rest)))
    (declaration_order table start x g.0)
    (beyond_segment start later_start later_start later_start (later_start + length (flat_map spell_declaration others)) behind_here (declarations_order table _ later_start others g.1) (omega arith))
    (declaration_told names table start x t texts.0 g.0 (all_left (spell_declaration x) _ r) (inside_declarations table before start x others n))
    (λ one h.
    judged_map behind_here (AreDeclarations names table others) (AreDeclarations names table (x ∷ others)) (declarations_in names table others) (λ (rest : List program.Decl). one ∷ rest)
    (declarations_told names table (before ++ (declared_name x).name ∷ []) later_start others t texts.1 g.1 (all_right (spell_declaration x) _ r) (behind_declaration table before start x others n))
    (λ rest hs. (one, rest, h, hs, refl))))

-- ---- files

file_told : (names : List (List ℕ)) (file : File) → IsReadFile file → HasNames file → AreTexts names file → Judged (file_nodes file) (AreDeclarations names (table_of file) file.declarations) (declarations_in names (table_of file) file.declarations)
file_told names file g named texts =
    let n : NoNames (file_nodes file) = record { none = λ fault h. named_breaks_none file named fault h.0 h.1 } in
    let t : TableKnown (table_of file) = record { methods = methods_known names (table_of file) [] 0 0 file.declarations texts n } in
    declarations_told names (table_of file) [] 0 file.declarations t texts g.0 g.1 n

pub made_elaborates : (names : List (List ℕ)) (file : File) (table : Table) (decls : List program.Decl) → IsReadFile file → table ≡ table_of file → HasNames file → AreTexts names file → declarations_in names table file.declarations ≡ Ok decls
    → ElaboratesFile names file (record { decls = decls })
made_elaborates names file table decls g e named texts p =
    let answer : declarations_in names (table_of file) file.declarations ≡ Ok decls = ap (λ (t : Table). declarations_in names t file.declarations) (sym e) ∙ p in
    let judged = subst (λ (reply : Reply (List program.Decl)). Judged (file_nodes file) (AreDeclarations names (table_of file) file.declarations) reply) answer (file_told names file g named texts) in
    record { grammar = g.0; named = named; declarations = judged.1 }

pub refused_told : (names : List (List ℕ)) (file : File) (table : Table) (refusal : Refusal) → IsReadFile file → table ≡ table_of file → HasNames file → AreTexts names file → declarations_in names table file.declarations ≡ Err refusal
    → IsToldIn 1 (file_nodes file) refusal
refused_told names file table refusal g e named texts p =
    let answer : declarations_in names (table_of file) file.declarations ≡ Err refusal = ap (λ (t : Table). declarations_in names t file.declarations) (sym e) ∙ p in
    let judged = subst (λ (reply : Reply (List program.Decl)). Judged (file_nodes file) (AreDeclarations names (table_of file) file.declarations) reply) answer (file_told names file g named texts) in
    met_told (file_nodes file) refusal (record { none = λ fault h. named_breaks_none file named fault h.0 h.1 }) judged
