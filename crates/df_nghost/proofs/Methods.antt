-- What the way through a body says of its method.
use Rattle.std.proofs.Common.{◌≡◌, ◌⊎◌, inl, inr, ℕ, suc, ◌<◌, Bool, true, false, ◌&&◌, List, [], ◌∷◌, ◌++◌, length, Option, Some, None, Contains, nat_lt, refl, sym, ap, ◌∙◌, length-append, arith, ltb-true}
use Rattle.df_base.specs.declared.refusal.Refusal.{Refusal}
use Rattle.df_base.specs.declared.refusal.Code.TheVariants as codes
use Rattle.df_base.specs.declared.refusal.Detail.TheVariants as details
use Rattle.std.proofs.lemmas.Bool.{and_parts}
use Rattle.std.proofs.lemmas.List.{length-map}
use Rattle.std.specs.List.{list_all}
use Rattle.df_lang.specs.declared.ty.Ty.{Ty}
use Rattle.df_lang.specs.declared.decl.Method as declared_method
use Rattle.df_lang.specs.DeclView.{param_of, method_of}
use Rattle.df_lang.specs.Program.{Param, Method, types_of}
use Rattle.df_lang.specs.Typing.{is_type, are_clauses, are_measures, are_stmts}
use Rattle.df_lang.specs.Assignment as pure
use Rattle.df_lang.specs.Assignment.{Assigned, Reached, unassigned, results_at, Flowing, flow_all, at_entry, unassigned_in}
use Rattle.df_ntyping.specs.Unassigned.{uses_missing, end_number}
use Rattle.df_ntyping.specs.Least.{by_number}
use Rattle.df_nghost.specs.declared.reads.Use.{Use}
use Rattle.df_nghost.specs.mirror.Uses.{precedes, shown, use_of, least, pick}
use Rattle.df_nghost.specs.declared.flow.Flow.{Flow}
use Rattle.df_nghost.specs.mirror.Parts.{stmts_in}
use Rattle.df_nghost.specs.mirror.Way.{Known, known, look, go_all}
use Rattle.df_nghost.specs.mirror.Refusals.{IsTyped, TellsOf}
use Rattle.df_nghost.proofs.Firsts.{none_contained, none_missing, IsFirst, first_is}
use Rattle.df_nghost.proofs.Uses.{pick_least}
use Rattle.df_lang.proofs.Carrying.{place}
use Rattle.df_nghost.proofs.Ways.{with_first, behind, all_go}

parameter_count : (params : List Param) → length (types_of params) ≡ length params
parameter_count [] = refl
parameter_count (p ∷ ps) = ap suc (parameter_count ps)

-- the body of a method
abbrev pub body_flow : Method → Flowing
body_flow m = flow_all m (at_entry m) m.body

abbrev end_uses : Method → List pure.Use
end_uses m = unassigned (body_flow m).behind (results_at m m.pos)

pub body_goes : (m : Method) → IsTyped m → go_all m (with_first (at_entry m) None) m.body ≡ behind None (body_flow m)
body_goes m (program, is) =
    let locals : List Ty = types_of m.parameters ++ types_of m.results in
    let first_four = list_all (is_type program) locals && are_clauses program (types_of m.parameters) m.preconditions && are_clauses program locals m.postconditions && are_measures program (types_of m.parameters) m.decreases in
    let typed = (and_parts first_four (are_stmts (place program locals m false) m.body) is).1 in
    all_go program m m.body locals false (at_entry m) None typed
    (λ local e. let less : local < length m.parameters = ltb-true local (length m.parameters) e in
    omega (arith, less, length-append (types_of m.parameters) (types_of m.results), parameter_count m.parameters))

-- ---- what is told

pub tells_inside : (m : Method) (r : Use) → least None (body_flow m).missing ≡ Some r → TellsOf m (record { code = codes.Unassigned; pos = r.pos; detail = details.Word r.name })
tells_inside m r e =
    let f = first_is (body_flow m).missing r e in
    record { at_end = false; of = use_of r; there = f.there; least = each f; code = refl; pos = refl; detail = refl }
  where
    each : IsFirst (body_flow m).missing r → (end : Bool) (other : pure.Use) → Contains (uses_missing m end) other → by_number (end_number end) 0 (precedes (shown other) r) ≡ false
    each f false other c = f.least other c
    each f true other c = refl

pub tells_end : (m : Method) (r : Use) → (body_flow m).missing ≡ [] → least None (end_uses m) ≡ Some r → TellsOf m (record { code = codes.Unassigned; pos = r.pos; detail = details.Word r.name })
tells_end m r none e =
    let f = first_is (end_uses m) r e in
    record { at_end = true; of = use_of r; there = f.there; least = each f; code = refl; pos = refl; detail = refl }
  where
    each : IsFirst (end_uses m) r → (end : Bool) (other : pure.Use) → Contains (uses_missing m end) other → by_number (end_number end) 1 (precedes (shown other) r) ≡ false
    each f false other c = absurd (none_contained (body_flow m).missing other none c)
    each f true other c = f.least other c

pub nothing_missing : (m : Method) → (body_flow m).missing ≡ [] → least None (end_uses m) ≡ None → unassigned_in m ≡ []
nothing_missing m none e = ap (λ (xs : List pure.Use). xs ++ end_uses m) none ∙ none_missing (end_uses m) e

-- ---- what is followed

-- behind the statements of a body, which opens where its parameters have values
pub followed : (m : declared_method.Method) (mid : Flow) (opened : Assigned) (count : ℕ) → IsTyped (method_of m) → opened ≡ Reached (λ local. nat_lt local count) → count ≡ length m.parameters.items
    → known mid ≡ go_all (method_of m) (with_first opened None) (stmts_in m.body.items) → known mid ≡ behind None (body_flow (method_of m))
followed m mid opened count typed opens is goes =
    let entry : opened ≡ at_entry (method_of m) = opens ∙ ap (λ (n : ℕ). Reached (λ local. nat_lt local n)) (is ∙ sym (length-map m.parameters.items param_of)) in
    goes ∙ ap (λ (a : Assigned). go_all (method_of m) (with_first a None) (stmts_in m.body.items)) entry ∙ body_goes (method_of m) typed

-- the first so far is of the body
pub first_inside : (m : Method) (mid : Flow) → known mid ≡ behind None (body_flow m) → least None (body_flow m).missing ≡ mid.first
first_inside m mid is = sym (ap (λ (k : Known). k.first) is)

-- and then of the results, where it has none
pub first_at_end : (m : Method) (mid end : Flow) → known mid ≡ behind None (body_flow m) → mid.first ≡ None → known end ≡ look (known mid) (results_at m m.pos) → least None (end_uses m) ≡ end.first
first_at_end m mid end is none looks =
    sym (ap (λ (k : Known). k.first) looks
    ∙ ap (λ (f : Option Use). pick (known mid).at f (results_at m m.pos)) none
    ∙ ap (λ (k : Known). pick k.at None (results_at m m.pos)) is
    ∙ pick_least (body_flow m).behind None (results_at m m.pos))

-- each method is definite, or a first use is told
pub method_told : (m : Method) → (unassigned_in m ≡ []) ⊎ ((refusal : Refusal) × TellsOf m refusal)
method_told m = by_body (least None (body_flow m).missing) refl
  where
    by_end : (o : Option Use) → (body_flow m).missing ≡ [] → least None (end_uses m) ≡ o → (unassigned_in m ≡ []) ⊎ ((refusal : Refusal) × TellsOf m refusal)
    by_end (Some r) none e = inr (record { code = codes.Unassigned; pos = r.pos; detail = details.Word r.name }, tells_end m r none e)
    by_end None none e = inl (nothing_missing m none e)

    by_body : (o : Option Use) → least None (body_flow m).missing ≡ o → (unassigned_in m ≡ []) ⊎ ((refusal : Refusal) × TellsOf m refusal)
    by_body (Some r) e = inr (record { code = codes.Unassigned; pos = r.pos; detail = details.Word r.name }, tells_inside m r e)
    by_body None e = by_end (least None (end_uses m)) (none_missing (body_flow m).missing e) refl
