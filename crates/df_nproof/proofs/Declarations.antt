-- Names and outcomes of declarations, one after another.
use Rattle.std.proofs.Common.{◌≡◌, ℕ, ◌+◌, ◌<◌, ◌≤◌, List, [], ◌∷◌, ◌++◌, map, take, length, get_or, sym, ap, ◌∙◌, append-nil}
use Rattle.std.proofs.lemmas.Grind.{flat_map-append}
use Rattle.std.proofs.lemmas.List.{take_more, take_all, map-append}
use Rattle.df_lang.specs.DeclView.{decl_of}
use Rattle.df_lang.specs.declared.decl.Decl as declared
use Rattle.df_report.specs.Report.{Outcome}
use Rattle.df_nproof.specs.Names.{name_in}
use Rattle.df_nproof.specs.Verified.{verified_outcome, verified_outcomes}

decls_more : (ds : List declared.Decl) (i : ℕ) (d : declared.Decl) → i < length ds → d ≡ get_or ds i d → map decl_of (take (i + 1) ds) ≡ map decl_of (take i ds) ++ decl_of d ∷ []
decls_more ds i d less is = ap (map decl_of) (take_more ds i d less) ∙ map-append decl_of (take i ds) (get_or ds i d ∷ []) ∙ ap (λ (x : declared.Decl). map decl_of (take i ds) ++ decl_of x ∷ []) (sym is)

-- one name more
pub names_more : (ds : List declared.Decl) (i : ℕ) (d : declared.Decl) (old new : List (List ℕ)) (name : List ℕ) → i < length ds → d ≡ get_or ds i d → old ≡ map name_in (map decl_of (take i ds)) → name ≡ name_in (decl_of d) → new ≡ old ++ name ∷ [] → new ≡ map name_in (map decl_of (take (i + 1) ds))
names_more ds i d old new name less is so_far named added =
    added ∙ (λ k. so_far k ++ named k ∷ []) ∙ sym (ap (map name_in) (decls_more ds i d less is) ∙ map-append name_in (map decl_of (take i ds)) (decl_of d ∷ []))

pub names_all : (ds : List declared.Decl) (i : ℕ) (names : List (List ℕ)) → length ds ≤ i → names ≡ map name_in (map decl_of (take i ds)) → names ≡ map name_in (map decl_of ds)
names_all ds i names past so_far = so_far ∙ ap (λ (xs : List declared.Decl). map name_in (map decl_of xs)) (take_all i ds past)

-- one outcome more
pub outcomes_more : (ds : List declared.Decl) (i : ℕ) (d : declared.Decl) (old new : List Outcome) → i < length ds → d ≡ get_or ds i d → old ≡ verified_outcomes (map decl_of (take i ds)) → new ≡ old ++ verified_outcome (decl_of d) → new ≡ verified_outcomes (map decl_of (take (i + 1) ds))
outcomes_more ds i d old new less is so_far added =
    added ∙ (λ k. so_far k ++ verified_outcome (decl_of d)) ∙ ap (λ (os : List Outcome). verified_outcomes (map decl_of (take i ds)) ++ os) (sym (append-nil (verified_outcome (decl_of d))))
    ∙ sym (ap verified_outcomes (decls_more ds i d less is) ∙ flat_map-append verified_outcome (map decl_of (take i ds)) (decl_of d ∷ []))

pub outcomes_all : (ds : List declared.Decl) (i : ℕ) (outcomes : List Outcome) → length ds ≤ i → outcomes ≡ verified_outcomes (map decl_of (take i ds)) → outcomes ≡ verified_outcomes (map decl_of ds)
outcomes_all ds i outcomes past so_far = so_far ∙ ap (λ (xs : List declared.Decl). verified_outcomes (map decl_of xs)) (take_all i ds past)
