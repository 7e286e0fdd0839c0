-- The locals of a method have terms where it begins.
use Rattle.df_nflow.proofs.Words.{◌&&◌, ◌≡◌, ◌⊎◌, inl, inr, ◌+◌, ◌<◌, ◌≤◌, ℕ, true, false, zero, suc, pos, List, [], ◌∷◌, ◌++◌, map, drop, length, slice_get, slice_index_or, Option, None, Some, refl, sym, ap, ◌∙◌, subst, arith, list_all, AllByRecursion, option_map_or, and_from, and_parts, cases_lt, length-append, length-drop, length-map, map-append, same_Some, slice_get_within, get_below, Ty, Param, Method, Program, types_of, same_type, is_type, are_clauses, are_measures, are_stmts, is_method, Changed, same_self, Within, before_all, within_front, Node, Sort, Numbers, Truths, Characters, Term, literal, sort_of_type, Environment, AreLocals, path_in, sort_of_term, tree_at, tree_among, trees_at, trees_in, local_tree, IsMethodOver, Given, any_values, locals_from, locals_of, some_term, unset, way_in, Gives, AreClauses, ledger_of, DeclaredLedger, IsTypedMethod, is_at, are_at, are_over, HaveTerms, method_parts, any_long}
use Rattle.df_nflow.proofs.Beginning.{begins}
use Rattle.df_nflow.proofs.Terms.{locals_are}
use Rattle.df_nflow.proofs.Placing.{all_lift}

some_sorted : (sort : Sort) → sort_of_term (some_term sort) ≡ sort
some_sorted Numbers = refl
some_sorted Truths = refl
some_sorted Characters = refl

unset_sorted : (all : List Ty) (k : ℕ) (ty : Ty) → slice_get all k ≡ Some ty → sort_of_term (unset all k) ≡ sort_of_type ty
unset_sorted all k ty e = ap (λ (o : Option Ty). sort_of_term (option_map_or (λ (t : Ty). some_term (sort_of_type t)) o (literal (pos 0)))) e ∙ some_sorted (sort_of_type ty)

-- any values of parameters have the sorts of their types
any_sorted : (params : List Param) (fresh : ℕ) (at : ℕ → Option Ty) (env : Environment) → ((k : ℕ) (ty : Ty) → slice_get (types_of params) k ≡ Some ty → at k ≡ Some ty)
    → ((k : ℕ) (ty : Ty) → at k ≡ Some ty → sort_of_term (env k) ≡ sort_of_type ty) → (k : ℕ) (ty : Ty) → at k ≡ Some ty → sort_of_term (slice_index_or (any_values None params fresh).terms k (env k)) ≡ sort_of_type ty
any_sorted [] fresh at env within h k ty e = h k ty e
any_sorted (p ∷ params) fresh at env within h zero ty e = ap sort_of_type (same_Some p.ty ty (sym (within 0 p.ty refl) ∙ e))
any_sorted (p ∷ params) fresh at env within h (suc k) ty e = any_sorted params (suc fresh) (λ x. at (suc x)) (λ x. env (suc x)) (λ x u f. within (suc x) u f) (λ x u f. h (suc x) u f) k ty e

module _ (m : Method) where
  abbrev params : List Ty
  params = types_of m.parameters

  abbrev all : List Ty
  all = locals_of m

  both_within : Within (params ++ types_of m.results) all
  both_within = before_all (params ++ types_of m.results) all m.body (record { at = λ k ty e. e })

  within : Within params all
  within = within_front params (types_of m.results) all both_within

  fits : length params ≤ length all
  fits = by (cases_lt (length all) (length params))
    where
      by : (length all < length params) ⊎ (length params ≤ length all) → length params ≤ length all
      by (inl less) = let there = get_below params (length all) less in absurd (omega (arith, slice_get_within all (length all) there.0 (within.at (length all) there.0 there.1)))
      by (inr fits) = fits

  way_sorted : (k : ℕ) (ty : Ty) → slice_get all k ≡ Some ty → sort_of_term ((way_in m).env k) ≡ sort_of_type ty
  way_sorted k ty e = any_sorted m.parameters 0 (slice_get all) (unset all) (λ x u f. within.at x u f) (unset_sorted all) k ty e

  module _ (nodes : List Node) (terms : List ℕ) where
    module _ (k : ℕ) (long : k ≡ length params) (e : trees_at nodes terms ≡ (any_values None m.parameters 0).terms ++ map (λ (ty : Ty). some_term (sort_of_type ty)) (drop k all)) where
      env_is : trees_in nodes terms ≡ (way_in m).env
      env_is =
          ap (λ (ts : List Term). tree_among ts) e
          ∙ ap (λ (n : ℕ). tree_among ((any_values None m.parameters 0).terms ++ map (λ (ty : Ty). some_term (sort_of_type ty)) (drop n all))) (long ∙ sym (any_long None m.parameters 0))
          ∙ begins (any_values None m.parameters 0).terms all

      entered : AllByRecursion (λ n. n < length nodes) terms → HaveTerms nodes all terms
      entered below = record {
        many = omega (
          arith,
          fits,
          ap (λ (ts : List Term). length ts) e,
          length-map terms (tree_at nodes),
          any_long None m.parameters 0,
          length-append (any_values None m.parameters 0).terms (map (λ (ty : Ty). some_term (sort_of_type ty)) (drop k all)),
          length-map (drop k all) (λ (ty : Ty). some_term (sort_of_type ty)),
          length-drop k all,
        );
        below = below;
        sorted = λ local n ty there is. ap sort_of_term (sym (local_tree nodes terms local n is) ∙ ap (λ (env : Environment). env local) env_is) ∙ way_sorted local ty there;
      }

    module _ (terms_are : HaveTerms nodes all terms) where
      first_are : AreLocals nodes params terms
      first_are = let h = locals_are nodes all terms terms_are in record { below = h.below; sorted = λ local ty e. h.sorted local ty (within.at local ty e) }

      pub requires_over : IsTypedMethod m → AreClauses nodes terms m.preconditions
      requires_over is = record { program = is.program; types = params; typed = (method_parts is.program m is.typed).preconditions; locals = first_are }

      pub measures_over : IsTypedMethod m → IsMethodOver nodes terms m
      measures_over is = record { program = is.program; typed = (method_parts is.program m is.typed).measure; locals = first_are }

-- its body is well typed over them
pub body_over : (program : Program) (m : Method) → is_method program m ≡ true → are_over program (locals_of m) m.body ≡ true
body_over program m is =
    let parameters = types_of m.parameters in
    let tys = parameters ++ types_of m.results in
    let contract = list_all (is_type program) tys && are_clauses program parameters m.preconditions && are_clauses program tys m.postconditions && are_measures program parameters m.decreases in
    all_lift program m (locals_of m) m.body tys false (record { at = λ k ty e. e }) (and_parts contract (are_stmts (record { program = program; method = m; locals = tys; in_loop = false }) m.body) is).1

from_at : (all : List Ty) (ps : List Param) (k : ℕ) → ((i at : ℕ) (ty : Ty) → at ≡ k + i → slice_get (types_of ps) i ≡ Some ty → slice_get all at ≡ Some ty) → are_at all (locals_from k ps) ≡ true
from_at all [] k h = refl
from_at all (p ∷ ps) k h =
    let here = ap (λ (o : Option Ty). option_map_or (same_type p.ty) o false) (h 0 k p.ty (omega arith) refl) ∙ same_self p.ty in
    let rest = from_at all ps (suc k) (λ i at ty e. h (suc i) at ty (omega arith)) in
    and_from (is_at all k p.ty) (are_at all (locals_from (suc k) ps)) here rest

-- parameters and results are locals
pub exits_at : (m : Method) (types : List Ty) (changed : List Changed) → types ≡ locals_of m → changed ≡ locals_from 0 (m.parameters ++ m.results) → are_at types changed ≡ true
exits_at m types changed e f =
    let both : types_of (m.parameters ++ m.results) ≡ types_of m.parameters ++ types_of m.results = map-append (λ (p : Param). p.ty) m.parameters m.results in
    (λ i. are_at (e i) (f i))
    ∙ from_at (locals_of m) (m.parameters ++ m.results) 0 (λ i at ty same there. ap (slice_get (locals_of m)) (let plain : at ≡ i = omega arith in plain) ∙ (both_within m).at i ty (ap (λ (tys : List Ty). slice_get tys i) (sym both) ∙ there))

-- its first locals are there, whatever terms they have
pub ensures_over : (m : Method) (nodes : List Node) (terms : List ℕ) (types : List Ty) → types ≡ locals_of m → HaveTerms nodes types terms → IsTypedMethod m → AreClauses nodes terms m.postconditions
ensures_over m nodes terms types e h is =
    let all = subst (λ (tys : List Ty). HaveTerms nodes tys terms) e h in
    let locals = locals_are nodes (locals_of m) terms all in
    record {
      program = is.program;
      types = types_of m.parameters ++ types_of m.results;
      typed = (method_parts is.program m is.typed).postconditions;
      locals = record { below = locals.below; sorted = λ local ty there. locals.sorted local ty ((both_within m).at local ty there) };
    }

-- the terms are those that a method begins with
pub record Enters (m : Method) (nodes : List Node) (terms : List ℕ) : Type 0 where
  pub env : trees_in nodes terms ≡ (way_in m).env
  pub terms_are : HaveTerms nodes (locals_of m) terms

module _ (m : Method) (l0 l1 : DeclaredLedger) (ps : List Param) (new : ledger_of l0 ≡ record { said = []; fresh = 0; path = None }) (parameters : ps ≡ m.parameters) where
  same_given : any_values (path_in l0.nodes l0.path) ps (length l0.frees.items) ≡ any_values None m.parameters 0
  same_given = λ i. any_values (new i).path (parameters i) (new i).fresh

  module _ (first : List ℕ) (given : Gives (any_values (path_in l0.nodes l0.path) ps (length l0.frees.items)) (types_of ps) l0 l1 first) where
    pub ledger_in : ledger_of l1 ≡ record { said = (any_values None m.parameters 0).said; fresh = (any_values None m.parameters 0).fresh; path = None }
    ledger_in = given.ledger ∙ (λ i. record { said = (new i).said ++ (same_given i).said; fresh = (same_given i).fresh; path = (new i).path })

    pub enters : (nodes : List Node) (terms : List ℕ) (tys : List Ty) → tys ≡ locals_of m → trees_at nodes terms ≡ trees_at l1.nodes first ++ map (λ (ty : Ty). some_term (sort_of_type ty)) (drop (length first) tys)
        → AllByRecursion (λ n. n < length nodes) terms → Enters m nodes terms
    enters nodes terms tys types e below =
        let long = given.many ∙ ap (λ (qs : List Param). length (types_of qs)) parameters in
        let front = given.terms_are ∙ ap (λ (g : Given). g.terms) same_given in
        let trees : trees_at nodes terms ≡ (any_values None m.parameters 0).terms ++ map (λ (ty : Ty). some_term (sort_of_type ty)) (drop (length first) (locals_of m)) =
        e ∙ (λ i. front i ++ map (λ (ty : Ty). some_term (sort_of_type ty)) (drop (length first) (types i))) in
        record { env = env_is m nodes terms (length first) long trees; terms_are = entered m nodes terms (length first) long trees below }
