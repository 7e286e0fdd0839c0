-- Conditions of the runs that come to a place: of those that come they are as without its path, of others all are true.
use Rattle.std.proofs.Common.{◌≡◌, ◌∙◌, Bool, true, false, ◌&&◌, if◌then◌else◌, List, [], ◌∷◌, ◌++◌, Option, None, Some, refl, ap}
use Rattle.std.specs.List.{AllByRecursion}
use Rattle.df_lang.specs.declared.ty.Ty.{Ty}
use Rattle.df_lang.specs.declared.expr.Junction.{Junction as JunctionKind}
use Rattle.df_lang.specs.Expr.{Expr, Number, Truth, Character, Local, Negate, Not, Sum, Product, Junction, Implies, Iff, Chain, As, Convert, Addends, no_addend, addend, Factors, no_factor, factor, Members, no_member, member, Links, no_link, link}
use Rattle.df_meaning.specs.Outcome.{Outcome, Wrong}
use Rattle.df_nterm.specs.Term.{Term, literal, negative}
use Rattle.df_nterm.specs.Meaning.{Interpretation, truth}
use Rattle.df_nterm.specs.Expressions.{Environment, Condition, on_path, narrowed_path, under, term_of, summed, multiplied, number_in, compared, goes_on, in_range, divides, narrowing, conditions_under, conditions_of_addends, conditions_of_factors, conditions_of_junction, conditions_of_implication, conditions_of_members, conditions_of_links}
use Rattle.df_nterm.specs.Laws.{told}

-- runs come there
abbrev pub path_true : Interpretation → Option Term → Bool
path_true i None = true
path_true i (Some path) = truth i path

-- nothing is said of runs that do not come there
pub off_path : (i : Interpretation) (path : Option Term) (formula : Term) → path_true i path ≡ false → truth i (on_path path formula) ≡ true
off_path i None formula e = cc
off_path i (Some path) formula e = rw (e) refl

pub on_it : (i : Interpretation) (path : Option Term) (formula : Term) → path_true i path ≡ true → truth i (on_path path formula) ≡ truth i formula
on_it i None formula e = refl
on_it i (Some path) formula e = rw (e) refl

pub narrowed_true : (i : Interpretation) (path : Option Term) (formula : Term) → path_true i path ≡ true → truth i (narrowed_path path formula) ≡ truth i formula
narrowed_true i None formula e = refl
narrowed_true i (Some path) formula e = rw (e) (alone (truth i formula))
  where
    alone : (b : Bool) → (b && true) ≡ b
    alone true = refl
    alone false = refl

pub narrowed_false : (i : Interpretation) (path : Option Term) (formula : Term) → path_true i path ≡ false → truth i (narrowed_path path formula) ≡ false
narrowed_false i None formula e = cc
narrowed_false i (Some path) formula e = rw (e) refl

-- ---- a path that runs come by

pub told_on : {A : Type 0} (i : Interpretation) (path : Option Term) (cs : List Condition) (o : Outcome A) → path_true i path ≡ true → told i (under path cs) o ≡ told i cs o
told_on i path [] o e = refl
told_on i path (c ∷ cs) o e =
    ap (λ b. if b then told i (under path cs) o else Wrong c.pos c.kind) (on_it i path c.formula e) ∙ ap (λ x. if truth i c.formula then x else Wrong c.pos c.kind) (told_on i path cs o e)

-- ---- one that they do not come by

abbrev pub AreTrue : Interpretation → List Condition → Type 0
AreTrue i cs = AllByRecursion (λ (c : Condition). truth i c.formula ≡ true) cs

-- then nothing is told
pub told_true : {A : Type 0} (i : Interpretation) (cs : List Condition) (o : Outcome A) → AreTrue i cs → told i cs o ≡ o
told_true i [] o h = refl
told_true i (c ∷ cs) o h = ap (λ b. if b then told i cs o else Wrong c.pos c.kind) h.0 ∙ told_true i cs o h.1

pub true_append : (i : Interpretation) (cs ds : List Condition) → AreTrue i cs → AreTrue i ds → AreTrue i (cs ++ ds)
true_append i [] ds h g = g
true_append i (c ∷ cs) ds h g = (h.0, true_append i cs ds h.1 g)

under_off : (i : Interpretation) (path : Option Term) (cs : List Condition) → path_true i path ≡ false → AreTrue i (under path cs)
under_off i path [] p = tt
under_off i path (c ∷ cs) p = (off_path i path c.formula p, under_off i path cs p)

module _ (i : Interpretation) (env : Environment) where
  mutual
    pub conditions_off : (e : Expr) (path : Option Term) → path_true i path ≡ false → AreTrue i (conditions_under env path e)
    conditions_off (Number ty z at) path p = under_off i path (in_range ty at (literal z)) p
    conditions_off (Truth b at) path p = tt
    conditions_off (Character code at) path p = tt
    conditions_off (Local local name at) path p = tt
    conditions_off (Negate ty at operand) path p = true_append i (conditions_under env path operand) _ (conditions_off operand path p) (under_off i path (in_range ty at (negative (term_of env operand))) p)
    conditions_off (Not at operand) path p = conditions_off operand path p
    conditions_off (Sum ty first rest) path p = true_append i (conditions_under env path first) _ (conditions_off first path p) (addends_off ty (term_of env first) rest path p)
    conditions_off (Product ty first rest) path p = true_append i (conditions_under env path first) _ (conditions_off first path p) (factors_off ty (term_of env first) rest path p)
    conditions_off (Junction junction first rest) path p = true_append i (conditions_under env path first) _ (conditions_off first path p) (junction_off junction (term_of env first) rest path p)
    conditions_off (Implies arrow first rest) path p = true_append i (conditions_under env path first) _ (conditions_off first path p) (implication_off (term_of env first) rest path p)
    conditions_off (Iff first rest) path p = true_append i (conditions_under env path first) _ (conditions_off first path p) (members_off rest path p)
    conditions_off (Chain ty first rest) path p = true_append i (conditions_under env path first) _ (conditions_off first path p) (links_off ty (term_of env first) rest path p)
    conditions_off (As source target at operand) path p = true_append i (conditions_under env path operand) _ (conditions_off operand path p) (under_off i path (in_range target at (number_in source (term_of env operand))) p)
    conditions_off (Convert source target at operand) path p = true_append i (conditions_under env path operand) _ (conditions_off operand path p) (under_off i path (narrowing source target at (term_of env operand)) p)

    addends_off : (ty : Ty) (a : Term) (rest : Addends) (path : Option Term) → path_true i path ≡ false → AreTrue i (conditions_of_addends env path ty a rest)
    addends_off ty a no_addend path p = tt
    addends_off ty a (addend o at operand rest) path p =
        true_append i (conditions_under env path operand) _ (conditions_off operand path p)
        (true_append i (under path (in_range ty at (summed o a (term_of env operand)))) _ (under_off i path (in_range ty at (summed o a (term_of env operand))) p) (addends_off ty (summed o a (term_of env operand)) rest path p))

    factors_off : (ty : Ty) (a : Term) (rest : Factors) (path : Option Term) → path_true i path ≡ false → AreTrue i (conditions_of_factors env path ty a rest)
    factors_off ty a no_factor path p = tt
    factors_off ty a (factor o at operand rest) path p =
        let asked = divides o at (term_of env operand) ++ in_range ty at (multiplied o a (term_of env operand)) in
        true_append i (conditions_under env path operand) _ (conditions_off operand path p)
        (true_append i (under path asked) _ (under_off i path asked p) (factors_off ty (multiplied o a (term_of env operand)) rest path p))

    -- farther on no run comes either
    pub junction_off : (j : JunctionKind) (a : Term) (rest : Members) (path : Option Term) → path_true i path ≡ false → AreTrue i (conditions_of_junction env path j a rest)
    junction_off j a no_member path p = tt
    junction_off j a (member at operand rest) path p =
        let on : Option Term = Some (narrowed_path path (goes_on j a)) in
        let off = narrowed_false i path (goes_on j a) p in
        true_append i (conditions_under env on operand) _ (conditions_off operand on off) (junction_off j (term_of env operand) rest on off)

    pub implication_off : (a : Term) (rest : Members) (path : Option Term) → path_true i path ≡ false → AreTrue i (conditions_of_implication env path a rest)
    implication_off a no_member path p = tt
    implication_off a (member at operand rest) path p =
        let on : Option Term = Some (narrowed_path path a) in
        let off = narrowed_false i path a p in
        true_append i (conditions_under env on operand) _ (conditions_off operand on off) (implication_off (term_of env operand) rest on off)

    members_off : (rest : Members) (path : Option Term) → path_true i path ≡ false → AreTrue i (conditions_of_members env path rest)
    members_off no_member path p = tt
    members_off (member at operand rest) path p = true_append i (conditions_under env path operand) _ (conditions_off operand path p) (members_off rest path p)

    pub links_off : (ty : Ty) (a : Term) (rest : Links) (path : Option Term) → path_true i path ≡ false → AreTrue i (conditions_of_links env path ty a rest)
    links_off ty a no_link path p = tt
    links_off ty a (link c at operand rest) path p =
        true_append i (conditions_under env path operand) _ (conditions_off operand path p)
        (links_off ty (term_of env operand) rest (Some (narrowed_path path (compared ty c a (term_of env operand)))) (narrowed_false i path (compared ty c a (term_of env operand)) p))
