-- Where no name is declared twice in a file, each declaration has its name alone.
use Rattle.std.proofs.Common.{◌≡◌, ℕ, zero, suc, ◌+◌, true, List, [], ◌∷◌, ◌++◌, length, Contains, Some, slice_get, refl, sym, ap, subst, ◌∙◌}
use Rattle.std.proofs.lemmas.Bool.{eq-eqb, or_left, or_right}
use Rattle.std.proofs.lemmas.List.Folds.{list_any-append}
use Rattle.std.proofs.lemmas.Option.{same_Some}
use Rattle.std.specs.Prelude.{nat_eq}
use Rattle.df_ntree.specs.File.{Declaration, File}
use Rattle.df_ntree.specs.FileSpelling.{spell_declaration}
use Rattle.df_ntyping.specs.Breaks.{Breaks}
use Rattle.df_ntyping.specs.FileElaboration.{HasNames}
use Rattle.df_ntyping.specs.FileNodes.{declared_name, declaration_nodes, declarations_nodes, empty_environment}
use Rattle.df_ntyping.specs.ExprNodes.{token_at}
use Rattle.df_ntyping.specs.Node as nodes
use Rattle.df_ntyping.specs.Node.{Occurrence}
use Rattle.df_ntyping.specs.Rule.{Twice}
use Rattle.df_ntyping.specs.Table.{Table, table_of}
use Rattle.df_ntyping.specs.rules.Names.{is_among}
use Rattle.df_ntyping.proofs.NamedFiles.{named_breaks_none}
use Rattle.df_ntyping.proofs.LeastExists.{is_first, is_later}

behind : {X : Type 0} (front xs : List X) (y : X) → Contains xs y → Contains (front ++ xs) y
behind [] xs y there = there
behind (x ∷ front) xs y there = is_later x (front ++ xs) y (behind front xs y there)

abbrev name_number : Declaration → ℕ
name_number declaration = (declared_name declaration).name

-- none of them has a name that is among these, or that one before it has
abbrev AreOnce : List ℕ → List Declaration → Type 0
AreOnce before [] = Unit {0}
AreOnce before (declaration ∷ others) = (is_among before (name_number declaration) ≡ true → ⊥) × AreOnce (before ++ name_number declaration ∷ []) others

are_once : (table : Table) (before : List ℕ) (start : ℕ) (all : List Declaration) → ((at : Occurrence) → Contains (declarations_nodes table before start all) at → Breaks at.env at.node Twice → ⊥) → AreOnce before all
are_once table before start [] none = tt
are_once table before start (declaration ∷ others) none =
    let token : Occurrence = token_at (empty_environment table) (nodes.NewName before (declared_name declaration)) (suc start) in
    let its = declaration_nodes table start declaration in
    let more = before ++ name_number declaration ∷ [] in
    let next = start + length (spell_declaration declaration) in
    let rest = declarations_nodes table more next others in
    (none token (is_first token (its ++ rest)), are_once table more next others (λ at there. none at (is_later token (its ++ rest) at (behind its rest at there))))

-- ---- names that are among others

among_grown : (before : List ℕ) (more name : ℕ) → is_among before name ≡ true → is_among (before ++ more ∷ []) name ≡ true
among_grown before more name is = list_any-append (nat_eq name) before (more ∷ []) ∙ or_left (is_among before name) (is_among (more ∷ []) name) is

among_last : (before : List ℕ) (name : ℕ) → is_among (before ++ name ∷ []) name ≡ true
among_last before name =
    list_any-append (nat_eq name) before (name ∷ [])
    ∙ or_right (is_among before name) (is_among (name ∷ []) name) (or_left (nat_eq name name) (is_among [] name) (eq-eqb name name refl))

-- none has such a name
never_again : (before : List ℕ) (all : List Declaration) (n : ℕ) (declaration : Declaration) → AreOnce before all → slice_get all n ≡ Some declaration → is_among before (name_number declaration) ≡ true → ⊥
never_again before [] n declaration once at is = absurd cc
never_again before (first ∷ others) zero declaration once at is = once.0 (subst (λ (d : Declaration). is_among before (name_number d) ≡ true) (sym (same_Some first declaration at)) is)
never_again before (first ∷ others) (suc n) declaration once at is =
    never_again (before ++ name_number first ∷ []) others n declaration once.1 at (among_grown before (name_number first) (name_number declaration) is)

-- behind the first none has its name
not_first : (before : List ℕ) (first : Declaration) (others : List Declaration) (n : ℕ) (one other : Declaration) → AreOnce before (first ∷ others) → first ≡ one → slice_get others n ≡ Some other → name_number one ≡ name_number other → ⊥
not_first before first others n one other once is at same =
    let alike : name_number first ≡ name_number other = ap name_number is ∙ same in
    never_again (before ++ name_number first ∷ []) others n other once.1 at (subst (λ (k : ℕ). is_among (before ++ name_number first ∷ []) k ≡ true) alike (among_last before (name_number first)))

one_place : (before : List ℕ) (all : List Declaration) (i j : ℕ) (one other : Declaration) → AreOnce before all → slice_get all i ≡ Some one → slice_get all j ≡ Some other → name_number one ≡ name_number other → i ≡ j
one_place before [] i j one other once at also same = absurd cc
one_place before (first ∷ others) zero zero one other once at also same = refl
one_place before (first ∷ others) zero (suc j) one other once at also same = absurd (not_first before first others j one other once (same_Some first one at) also same)
one_place before (first ∷ others) (suc i) zero one other once at also same = absurd (not_first before first others i other one once (same_Some first other also) at (sym same))
one_place before (first ∷ others) (suc i) (suc j) one other once at also same = ap suc (one_place (before ++ name_number first ∷ []) others i j one other once.1 at also same)

-- two declarations of one name are one
pub declared_once : (file : File) → HasNames file → (i j : ℕ) (one other : Declaration) → slice_get file.declarations i ≡ Some one → slice_get file.declarations j ≡ Some other
    → (declared_name one).name ≡ (declared_name other).name → i ≡ j
declared_once file named i j one other at also same =
    one_place [] file.declarations i j one other
    (are_once (table_of file) [] 0 file.declarations (λ at there broken. named_breaks_none file named (record { at = at; rule = Twice }) (there, broken) refl)) at also same
