-- Templates name one term or two.
use Rattle.std.proofs.Common.{◌≡◌, ◌⊎◌, inl, inr, ℕ, zero, suc, ◌==◌, Bool, true, false, ◌&&◌, ◌||◌, List, [], ◌∷◌, Some, refl, sym, ap, ◌∙◌, subst, eqb-true}
use Rattle.std.specs.List.{find, list_all, list_any, AllByRecursion}
use Rattle.std.proofs.lemmas.Bool.{and_parts, or_cases}
use Rattle.std.proofs.lemmas.Option.{same_Some}
use Rattle.df_lemmas.proofs.Options.{then_some, map_some, test_some}
use Rattle.df_lemmas.proofs.Truths.{choice}
use Rattle.df_lang.specs.declared.ty.Ty.{Ty}
use Rattle.df_lang.specs.declared.ty.Ty.TheVariants as types
use Rattle.df_form.specs.World.{World, Ends, ends_at}
use Rattle.df_form.specs.declared.node.Op.{Op}
use Rattle.df_form.specs.declared.node.Op.TheVariants as ops
use Rattle.df_form.specs.declared.symbol.Symbol.TheVariants as symbols
use Rattle.df_form.specs.declared.symbol.Payload.TheVariants as payloads
use Rattle.df_form.specs.Node.{test_of, same_op}
use Rattle.df_axiom.specs.declared.templates.Piece.{Piece}
use Rattle.df_axiom.specs.declared.templates.Source.{Source}
use Rattle.df_axiom.specs.declared.templates.Source.TheVariants as sources
use Rattle.df_axiom.specs.declared.table.TheConstants.{PRODUCTS_COMPARE}
use Rattle.df_axiom.specs.Template.{Template, Entry, entry}
use Rattle.df_axiom.specs.Types.{interval_template, natural_template, always_template, type_template, types_template}
use Rattle.df_axiom.specs.Schemas.{written, is_entry, written_template, template}
use Rattle.df_axiom.proofs.Chosen.{all_get, is_written}
use Rattle.df_trig.specs.Rounds.{of_products}

-- ---- one term, or two of which the second is a piece

abbrev pub is_named : ℕ → Source → Bool
is_named n (sources.Named term) = term == n
is_named n (sources.Part place part) = false

abbrev pub names : ℕ → List Piece → Bool
names n pieces = list_any (λ (piece : Piece). is_named n piece.source) pieces

abbrev pub IsFew : Template → Type 0
IsFew t = (t.terms ≡ 1) ⊎ ((t.terms ≡ 2) × (names 1 t.pieces ≡ true))

abbrev are_few : Template → Bool
are_few t = (t.terms == 1) || ((t.terms == 2) && names 1 t.pieces)

is_few : (t : Template) → are_few t ≡ true → IsFew t
is_few t e =
    elim (or_cases (t.terms == 1) ((t.terms == 2) && names 1 t.pieces) e) [
      | inl one ↦ inl (eqb-true t.terms 1 one)
      | inr two ↦ (let both = and_parts (t.terms == 2) (names 1 t.pieces) two in inr (eqb-true t.terms 2 both.0, both.1))
    ]

abbrev EntryIsFew : Entry → Type 0
EntryIsFew e = are_few e.template ≡ true

-- all rows are computed
rows_few : (entries : List Entry) → list_all (λ (e : Entry). are_few e.template) entries ≡ true → AllByRecursion EntryIsFew entries
rows_few [] e = tt
rows_few (one ∷ others) e =
    let both = and_parts (are_few one.template) (list_all (λ (e : Entry). are_few e.template) others) e in
    (both.0, rows_few others both.1)

all_few : list_all (λ (e : Entry). are_few e.template) written ≡ true
unfolding written
all_few = refl

written_few : AllByRecursion EntryIsFew written
written_few = rows_few written all_few

-- ---- the templates of types

of_one_term : (t found : Template) → t.terms ≡ 1 → Some t ≡ Some found → found.terms ≡ 1
of_one_term t found one e = ap (λ (x : Template). x.terms) (sym (same_Some t found e)) ∙ one

interval_one : (op : Op) (ends : Ends) (k : ℕ) (t : Template) → interval_template op ends.low ends.high k ≡ Some t → t.terms ≡ 1
interval_one op ends zero t e = of_one_term _ t refl e
interval_one op ends (suc zero) t e = of_one_term _ t refl e
interval_one op ends (suc (suc zero)) t e = of_one_term _ t refl e
interval_one op ends (suc (suc (suc k))) t e = absurd cc

natural_one : (op : Op) (k : ℕ) (t : Template) → natural_template op k ≡ Some t → t.terms ≡ 1
natural_one op zero t e = of_one_term _ t refl e
natural_one op (suc zero) t e = of_one_term _ t refl e
natural_one op (suc (suc k)) t e = absurd cc

always_one : (op : Op) (k : ℕ) (t : Template) → always_template op k ≡ Some t → t.terms ≡ 1
always_one op zero t e = of_one_term _ t refl e
always_one op (suc k) t e = absurd cc

type_one : (world : World) (ty : Ty) (k : ℕ) (t : Template) → type_template world ty k ≡ Some t → t.terms ≡ 1
type_one world (types.Newtype number) k t e =
    let found = then_some (λ (newtype : Ends). interval_template (test_of (types.Newtype number)) newtype.low newtype.high k) (ends_at world number) t e in
    interval_one (test_of (types.Newtype number)) found.0 k t found.2
type_one world types.Int k t e = always_one (test_of types.Int) k t e
type_one world types.Nat k t e = natural_one (test_of types.Nat) k t e
type_one world types.Bool k t e = always_one (test_of types.Bool) k t e
type_one world types.Char k t e = always_one (test_of types.Char) k t e

types_one : (world : World) (op : Op) (k : ℕ) (t : Template) → types_template world op k ≡ Some t → t.terms ≡ 1
types_one world (ops.Of symbols.Is (payloads.Type ty)) k t e = type_one world ty k t e
types_one world op k t e = absurd cc

-- ---- all

pub few_terms : (world : World) (op : Op) (schema k : ℕ) (t : Template) → template world op schema k ≡ Some t → IsFew t
few_terms world op schema k t e =
    elim (choice (schema == 74) (types_template world op k) (written_template op schema k) (Some t) e) [
      | inl p ↦ inl (types_one world op k t p.1)
      | inr p ↦ (let row = is_written op schema k t p.1 in is_few t (subst (λ (x : Template). are_few x ≡ true) row.is (all_get EntryIsFew written row.place row.e written_few row.at)))
    ]

-- the schema that compares products has one template
only_row : (op : Op) (k : ℕ) (t : Template) → written_template op 10 k ≡ Some t → t ≡ of_products
unfolding written
only_row op k t some =
    let one = map_some (λ (e : Entry). e.template) (find (is_entry op 10 k) written) t some in
    let is = test_some ((0 == k) && same_op ops.Times op) (Some (entry PRODUCTS_COMPARE)) one.0 one.1 in
    sym one.2 ∙ ap (λ (e : Entry). e.template) (sym (same_Some (entry PRODUCTS_COMPARE) one.0 is.1))

pub only_products : (world : World) (op : Op) (schema k : ℕ) (t : Template) → schema ≡ 10 → template world op schema k ≡ Some t → t ≡ of_products
only_products world op schema k t ten e = only_row op k t (sym (ap (λ (n : ℕ). template world op n k) ten) ∙ e)
