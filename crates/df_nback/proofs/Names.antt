-- Methods have names, and keep them.
use Rattle.std.proofs.Common.{◌≡◌, ℕ, suc, true, List, [], ◌∷◌, map, slice_get, Some, refl, ap}
use Rattle.std.specs.Option.{option_and_then}
use Rattle.std.specs.List.{list_all}
use Rattle.df_lang.specs.Program.{Method, Decl, NewtypeDecl, MethodDecl, Program, as_method}
use Rattle.df_meaning.proofs.Cases.{both, joined}
use Rattle.df_nplain.specs.Plain as plain
use Rattle.df_nerase.specs.Erasing.{methods_among, erase_method}
use Rattle.df_nmach.specs.Name.{is_name}

pub texts_stay : (p : Program) (ms : List Method) → map (λ (m : plain.Method). m.text) (map (erase_method p) ms) ≡ map (λ (m : Method). m.declared.text) ms
texts_stay p [] = refl
texts_stay p (m ∷ ms) = ap (λ (l : List (List ℕ)). m.declared.text ∷ l) (texts_stay p ms)

pub names_stay : (p : Program) (ms : List Method) → list_all (λ (m : Method). is_name m.declared.text) ms ≡ true → list_all (λ (m : plain.Method). is_name m.text) (map (erase_method p) ms) ≡ true
names_stay p [] named = refl
names_stay p (m ∷ ms) named =
    let named = both (is_name m.declared.text) (list_all (λ (m : Method). is_name m.declared.text) ms) named in joined _ _ named.0 (names_stay p ms named.1)

-- those among declarations have names where that of each number has one
pub named_by_number : (decls : List Decl) → ((number : ℕ) (method : Method) → option_and_then as_method (slice_get decls number) ≡ Some method → is_name method.declared.text ≡ true)
    → list_all (λ (m : Method). is_name m.declared.text) (methods_among decls) ≡ true
named_by_number [] named = refl
named_by_number (NewtypeDecl newtype ∷ others) named = named_by_number others (λ number method at. named (suc number) method at)
named_by_number (MethodDecl method ∷ others) named = joined _ _ (named 0 method refl) (named_by_number others (λ number one at. named (suc number) one at))
