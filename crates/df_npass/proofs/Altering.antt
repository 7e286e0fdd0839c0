-- Which locals loops and branches change, and their types.
use Rattle.df_npass.proofs.Words.{◌≡◌, ℕ, zero, suc, ◌<◌, true, false, List, [], ◌∷◌, ◌++◌, slice_get, Some, refl, ◌∙◌, subst, list_all, option_map_or, Ty, Stmts, Branches, no_branch, branch, Program, same_type, is_type, Assigned, Unreached, Reached, has_value, AreDeclared, Changed, changed_by_all, changed_by_branches, both, joined, are_there, declared_by_all, changed_outside, changed_in_branches, changed_outside_if, list_all-append}
use Rattle.df_npass.proofs.Lemmas.{list_once, IsReached}
use Rattle.df_npass.proofs.Turns.{type_there}
use Rattle.df_lemmas.proofs.Lists.{all_parts}

there_join : (all : List Ty) (cs ds : List Changed) → are_there all cs ≡ true → are_there all ds ≡ true → are_there all (cs ++ ds) ≡ true
there_join all cs ds h g = list_all-append (λ (c : Changed). option_map_or (same_type c.ty) (slice_get all c.local) false) cs ds ∙ joined (are_there all cs) (are_there all ds) h g

pub outside_there : (all : List Ty) (body : Stmts) → are_there all (changed_by_all body) ≡ true → are_there all (changed_outside body) ≡ true
outside_there all body h = list_once (λ (c : Changed). option_map_or (same_type c.ty) (slice_get all c.local) false) (declared_by_all body) (changed_by_all body) h

in_branches_there : (all : List Ty) (branches : Branches) → are_there all (changed_by_branches branches) ≡ true → are_there all (changed_in_branches branches) ≡ true
in_branches_there all no_branch h = refl
in_branches_there all (branch at guard body rest) h =
    let parts = all_parts _ (changed_by_all body) (changed_by_branches rest) h in
    there_join all (changed_outside body) (changed_in_branches rest) (outside_there all body parts.0) (in_branches_there all rest parts.1)

pub if_there : (all : List Ty) (branches : Branches) (otherwise : Stmts) → are_there all (changed_by_branches branches ++ changed_by_all otherwise) ≡ true → are_there all (changed_outside_if branches otherwise) ≡ true
if_there all branches otherwise h =
    let parts = all_parts _ (changed_by_branches branches) (changed_by_all otherwise) h in
    list_once (λ (c : Changed). option_map_or (same_type c.ty) (slice_get all c.local) false) [] (changed_in_branches branches ++ changed_outside otherwise)
    (there_join all (changed_in_branches branches) (changed_outside otherwise) (in_branches_there all branches parts.0) (outside_there all otherwise parts.1))

type_in_all : (program : Program) (all : List Ty) (k : ℕ) (ty : Ty) → list_all (is_type program) all ≡ true → slice_get all k ≡ Some ty → is_type program ty ≡ true
type_in_all program [] k ty are e = cc
type_in_all program (t ∷ all) zero ty are e = let same : t ≡ ty = cc in subst (λ (x : Ty). is_type program x ≡ true) same (both (is_type program t) (list_all (is_type program) all) are).0
type_in_all program (t ∷ all) (suc k) ty are e = type_in_all program all k ty (both (is_type program t) (list_all (is_type program) all) are).1 e

pub types_there : (program : Program) (all : List Ty) (changed : List Changed) → list_all (is_type program) all ≡ true → are_there all changed ≡ true → list_all (λ (c : Changed). is_type program c.ty) changed ≡ true
types_there program all [] are h = refl
types_there program all (c ∷ cs) are h =
    let h = both (option_map_or (same_type c.ty) (slice_get all c.local) false) (are_there all cs) h in
    joined (is_type program c.ty) (list_all (λ (d : Changed). is_type program d.ty) cs) (type_in_all program all c.local c.ty are (type_there all c h.0)) (types_there program all cs are h.1)

pub declared_less : (before : Assigned) (size k : ℕ) → AreDeclared size before → IsReached before → has_value before k ≡ true → k < size
declared_less Unreached size k d r h = absurd r
declared_less (Reached set) size k d r h = d k h
