-- What the tokens of names are, the machine takes as names.
use Rattle.std.proofs.Common.{◌≡◌, ◌≢◌, ℕ, Bool, true, false, List, [], ◌∷◌, refl, sym, ap, ◌∙◌}
use Rattle.std.specs.Prelude.{nat_eq, not, codes}
use Rattle.std.specs.List.{list_all, AllByRecursion}
use Rattle.std.proofs.lemmas.Bool.{eqb-true, false_from_ne_true, and_from, false≢true}
use Rattle.df_tok.specs.Byte as byte
use Rattle.df_tok.specs.Lexeme.{IsIdentifier}
use Rattle.df_nmach.specs.Name.{begins_identifier, continues_identifier, is_wildcard, is_identifier, dotted, is_name}

-- identifiers begin and go on alike
begins_alike : (b : ℕ) → byte.begins_identifier b ≡ begins_identifier b
begins_alike b = refl

continues_alike : (b : ℕ) → byte.continues_identifier b ≡ continues_identifier b
continues_alike b = refl

all_continue : (bs : List ℕ) → AllByRecursion (λ (b : ℕ). byte.continues_identifier b ≡ true) bs → list_all continues_identifier bs ≡ true
all_continue [] h = refl
all_continue (b ∷ bs) h = and_from _ _ (sym (continues_alike b) ∙ h.0) (all_continue bs h.1)

-- ---- dots

-- a byte of which a test holds that does not hold of a dot is none
no_dot : (test : ℕ → Bool) (b : ℕ) → test 46 ≡ false → test b ≡ true → nat_eq b 46 ≡ false
no_dot test b not_dot holds = false_from_ne_true (nat_eq b 46) (λ same. false≢true (sym not_dot ∙ sym (ap test (eqb-true b 46 same)) ∙ holds))

undotted : (b : ℕ) (bs : List ℕ) → nat_eq b 46 ≡ false → dotted bs ≡ bs ∷ [] → dotted (b ∷ bs) ≡ (b ∷ bs) ∷ []
undotted b bs other rest = rw (other, rest) refl

all_undotted : (bs : List ℕ) → AllByRecursion (λ (b : ℕ). byte.continues_identifier b ≡ true) bs → dotted bs ≡ bs ∷ []
all_undotted [] h = refl
all_undotted (b ∷ bs) h = undotted b bs (no_dot byte.continues_identifier b refl h.0) (all_undotted bs h.1)

-- ---- names

no_wildcard : (b : ℕ) (bs : List ℕ) → b ∷ bs ≢ codes "_" → is_wildcard (b ∷ bs) ≡ false
no_wildcard b [] differs = false_from_ne_true (nat_eq b 95) (λ same. differs (ap (λ (c : ℕ). c ∷ []) (eqb-true b 95 same)))
no_wildcard b (c ∷ bs) differs = refl

one_name : (text : List ℕ) → dotted text ≡ text ∷ [] → is_identifier text ≡ true → is_name text ≡ true
one_name text whole is = rw (whole, is) refl

-- an identifier that is not `_` alone
pub identifier_is_name : (text : List ℕ) → IsIdentifier text → text ≢ codes "_" → is_name text ≡ true
identifier_is_name [] is differs = absurd is
identifier_is_name (b ∷ bs) is differs =
    let first = sym (begins_alike b) ∙ is.0 in
    let wildcard = ap not (no_wildcard b bs differs) in
    one_name (b ∷ bs) (undotted b bs (no_dot byte.begins_identifier b refl is.0) (all_undotted bs is.1))
    (and_from _ _ (and_from _ _ first (all_continue bs is.1)) wildcard)
