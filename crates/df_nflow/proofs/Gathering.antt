-- The paths of ways one after another.
use Rattle.df_nflow.proofs.Words.{◌≡◌, List, [], ◌∷◌, ◌++◌, Option, Some, None, option_map, append_assoc, refl, sym, ap, ◌∙◌, Term}
use Rattle.df_npass.specs.Rules.{either_path}

-- a path more in front of those that are left
more_front : {A : Type 0} (made : List A) (one : A) (rest : Option (List A)) → option_map (λ (more : List A). (made ++ one ∷ []) ++ more) rest ≡ option_map (λ (more : List A). made ++ more) (option_map (λ (more : List A). one ∷ more) rest)
more_front made one None = refl
more_front made one (Some more) = ap Some (append_assoc made (one ∷ []) more)

either_some : (path : Term) (rest : Option (List Term)) → either_path (Some path) rest ≡ option_map (λ (more : List Term). path ∷ more) rest
either_some path None = refl
either_some path (Some more) = refl

pub path_gathered : (made after : List Term) (path : Term) (one : Option Term) (left rest total : Option (List Term)) → after ≡ made ++ path ∷ [] → one ≡ Some path → left ≡ either_path one rest → option_map (λ (more : List Term). made ++ more) left ≡ total
    → option_map (λ (more : List Term). after ++ more) rest ≡ total
path_gathered made after path one left rest total added is split so_far =
    ap (λ (ts : List Term). option_map (λ (more : List Term). ts ++ more) rest) added
    ∙ more_front made path rest
    ∙ ap (option_map (λ (more : List Term). made ++ more)) (sym (either_some path rest) ∙ ap (λ (o : Option Term). either_path o rest) (sym is) ∙ sym split) ∙ so_far
