-- What symbols take.
use Rattle.std.proofs.Common.{◌≡◌, ℕ, zero, suc, Bool, true, false, ◌&&◌, if◌then◌else◌, List, [], ◌∷◌, map, slice_get, Option, None, Some, refl, ap, ◌∙◌, sym, subst, true≢false}
use Rattle.std.specs.List.{find, AllByRecursion}
use Rattle.std.proofs.lemmas.Bool.{and_parts, and_from}
use Rattle.std.proofs.lemmas.Option.{same_Some}
use Rattle.df_lang.specs.declared.ty.Ty.{Ty}
use Rattle.df_lang.specs.declared.ty.Ty.TheVariants as types
use Rattle.df_form.specs.declared.node.Sort.{Sort}
use Rattle.df_form.specs.declared.node.Sort.TheVariants as sorts
use Rattle.df_form.specs.declared.node.Op.TheVariants as ops
use Rattle.df_form.specs.declared.symbol.Symbol.{Symbol}
use Rattle.df_form.specs.declared.symbol.Symbol.TheVariants as symbols
use Rattle.df_form.specs.declared.symbol.Payload.{Payload}
use Rattle.df_form.specs.declared.symbol.Payload.TheVariants as payloads
use Rattle.df_form.specs.declared.symbol.PayloadKind.TheVariants as kinds
use Rattle.df_form.specs.declared.symbol.Pattern.{Pattern}
use Rattle.df_form.specs.Types.{sort_of_type}
use Rattle.df_form.specs.Symbol.{Entry, symbols as table, same_symbol, is_row, row_of, is_testable, accepts, type_in, filled}
use Rattle.df_form.specs.Node.{same_sort, symbol, test_of}
use Rattle.df_form.specs.Sorting.{is_one, are_two, are_each, takes_by, takes}
use Rattle.df_form.proofs.Same.{same_sort_equal}

-- one part, of this sort
pub each_one : (sort : Sort) (parts : List Sort) → are_each (sort ∷ []) parts ≡ true → is_one sort parts ≡ true
each_one sort (part ∷ []) e = (and_parts (same_sort part sort) true e).0
each_one sort (part ∷ other ∷ others) e = absurd (true≢false (sym (and_parts (same_sort part sort) false e).1))
each_one sort [] e = absurd (true≢false (sym e))

pub one_each : (sort : Sort) (parts : List Sort) → is_one sort parts ≡ true → are_each (sort ∷ []) parts ≡ true
one_each sort (part ∷ []) e = and_from (same_sort part sort) true e refl
one_each sort (part ∷ other ∷ others) e = absurd (true≢false (sym e))
one_each sort [] e = absurd (true≢false (sym e))

-- two parts, of this sort
pub each_two : (sort : Sort) (parts : List Sort) → are_each (sort ∷ sort ∷ []) parts ≡ true → are_two sort parts ≡ true
each_two sort (left ∷ right ∷ []) e =
    let first = and_parts (same_sort left sort) (same_sort right sort && true) e in
    and_from (same_sort left sort) (same_sort right sort) first.0 (and_parts (same_sort right sort) true first.1).0
each_two sort (left ∷ right ∷ other ∷ others) e =
    let first = and_parts (same_sort left sort) (same_sort right sort && false) e in
    absurd (true≢false (sym (and_parts (same_sort right sort) false first.1).1))
each_two sort (left ∷ []) e = absurd (true≢false (sym (and_parts (same_sort left sort) false e).1))
each_two sort [] e = absurd (true≢false (sym e))

pub two_each : (sort : Sort) (parts : List Sort) → are_two sort parts ≡ true → are_each (sort ∷ sort ∷ []) parts ≡ true
two_each sort (left ∷ right ∷ []) e =
    let both = and_parts (same_sort left sort) (same_sort right sort) e in
    and_from (same_sort left sort) (same_sort right sort && true) both.0 (and_from (same_sort right sort) true both.1 refl)
two_each sort (left ∷ right ∷ other ∷ others) e = absurd (true≢false (sym e))
two_each sort (left ∷ []) e = absurd (true≢false (sym e))
two_each sort [] e = absurd (true≢false (sym e))

-- what symbols take, by the table

pub of_character : (parts : List Sort) → takes (symbol symbols.Code) parts ≡ true → is_one sorts.Character parts ≡ true
unfolding table same_symbol
of_character parts e = each_one sorts.Character parts e

pub of_number : (parts : List Sort) → takes (symbol symbols.Chr) parts ≡ true → is_one sorts.Number parts ≡ true
unfolding table same_symbol
of_number parts e = each_one sorts.Number parts e

pub of_quotient : (parts : List Sort) → takes (symbol symbols.Div) parts ≡ true → are_two sorts.Number parts ≡ true
unfolding table same_symbol
of_quotient parts e = each_two sorts.Number parts e

pub of_remainder : (parts : List Sort) → takes (symbol symbols.Mod) parts ≡ true → are_two sorts.Number parts ≡ true
unfolding table same_symbol
of_remainder parts e = each_two sorts.Number parts e

pub of_test : (ty : Ty) (parts : List Sort) → takes (test_of ty) parts ≡ true → (is_testable ty ≡ true) × (is_one (sort_of_type ty) parts ≡ true)
unfolding table same_symbol
of_test ty parts e =
    let both = and_parts (is_testable ty) (are_each (sort_of_type ty ∷ []) parts) e in
    (both.0, each_one (sort_of_type ty) parts both.1)

-- ---- no symbol takes a truth, and each takes one sort at a place

abbrev IsTruthless : Payload → Entry → Type 0
IsTruthless payload row = accepts row.payload payload ≡ true → AllByRecursion (λ (pattern : Pattern). filled payload pattern ≡ sorts.Truth → ⊥) row.taken

number_is_none : sorts.Number ≡ sorts.Truth → ⊥
number_is_none e = cc

character_is_none : sorts.Character ≡ sorts.Truth → ⊥
character_is_none e = cc

tested_is_none : (payload : Payload) → accepts kinds.Type payload ≡ true → sort_of_type (type_in payload) ≡ sorts.Truth → ⊥
tested_is_none (payloads.Type (types.Newtype number)) e is = cc
tested_is_none (payloads.Type types.Int) e is = cc
tested_is_none (payloads.Type types.Nat) e is = cc
tested_is_none (payloads.Type types.Char) e is = cc
tested_is_none (payloads.Type types.Bool) e is = cc
tested_is_none payloads.Nothing e is = cc

-- a line for each row
rows_truthless : (payload : Payload) → AllByRecursion (IsTruthless payload) table
unfolding table
rows_truthless payload =
    ((λ e. (number_is_none, (number_is_none, tt))), ((λ e. (number_is_none, (number_is_none, tt))), ((λ e. (character_is_none, tt)), ((λ e. (number_is_none, tt)), ((λ e. (tested_is_none payload e, tt)), tt)))))

found_has : {A : Type 0} (P : A → Type 0) (test : A → Bool) (xs : List A) (x : A) → AllByRecursion P xs → find test xs ≡ Some x → P x
found_has P test [] x all e = absurd cc
found_has P test (y ∷ ys) x all e = by (test y) e (found_has P test ys x all.1)
  where
    by : (b : Bool) → (if b then Some y else find test ys) ≡ Some x → (find test ys ≡ Some x → P x) → P x
    by true e rest = subst P (same_Some y x e) all.0
    by false e rest = rest e

-- the pattern of a part
record HasPattern (payload : Payload) (patterns : List Pattern) (place : ℕ) (sort : Sort) : Type 0 where
  pattern : Pattern
  at : slice_get patterns place ≡ Some pattern
  is : sort ≡ filled payload pattern
  truthless : filled payload pattern ≡ sorts.Truth → ⊥

pattern_of : (f : ℕ → Sort) (payload : Payload) (patterns : List Pattern) (xs : List ℕ) (place x : ℕ) → AllByRecursion (λ (pattern : Pattern). filled payload pattern ≡ sorts.Truth → ⊥) patterns
    → are_each (map (filled payload) patterns) (map f xs) ≡ true → slice_get xs place ≡ Some x → HasPattern payload patterns place (f x)
pattern_of f payload [] [] place x all each at = absurd cc
pattern_of f payload [] (y ∷ ys) place x all each at = absurd (true≢false (sym each))
pattern_of f payload (pattern ∷ patterns) [] place x all each at = absurd (true≢false (sym each))
pattern_of f payload (pattern ∷ patterns) (y ∷ ys) zero x all each at =
    let both = and_parts (same_sort (f y) (filled payload pattern)) (are_each (map (filled payload) patterns) (map f ys)) each in
    record { pattern = pattern; at = refl; is = ap f (sym (same_Some y x at)) ∙ same_sort_equal (f y) (filled payload pattern) both.0; truthless = all.0 }
pattern_of f payload (pattern ∷ patterns) (y ∷ ys) (suc place) x all each at =
    let both = and_parts (same_sort (f y) (filled payload pattern)) (are_each (map (filled payload) patterns) (map f ys)) each in
    let rest = pattern_of f payload patterns ys place x all.1 both.1 at in
    record { pattern = rest.pattern; at = rest.at; is = rest.is; truthless = rest.truthless }

pub parts_alike : (f : ℕ → Sort) (symbol : Symbol) (payload : Payload) (xs ys : List ℕ) (place x y : ℕ) → takes (ops.Of symbol payload) (map f xs) ≡ true → takes (ops.Of symbol payload) (map f ys) ≡ true
    → slice_get xs place ≡ Some x → slice_get ys place ≡ Some y → (f x ≡ f y) × (f x ≡ sorts.Truth → ⊥)
parts_alike f symbol payload xs ys place x y first second at other = by (row_of symbol) refl first second
  where
    by : (o : Option Entry) → row_of symbol ≡ o → takes_by o payload (map f xs) ≡ true → takes_by o payload (map f ys) ≡ true → (f x ≡ f y) × (f x ≡ sorts.Truth → ⊥)
    by None is first second = absurd (true≢false (sym first))
    by (Some row) is first second =
        let one = and_parts (accepts row.payload payload) (are_each (map (filled payload) row.taken) (map f xs)) first in
        let two = and_parts (accepts row.payload payload) (are_each (map (filled payload) row.taken) (map f ys)) second in
        let none = found_has (IsTruthless payload) (is_row symbol) table row (rows_truthless payload) is one.0 in
        let left = pattern_of f payload row.taken xs place x none one.1 at in
        let right = pattern_of f payload row.taken ys place y none two.1 other in
        let same : left.pattern ≡ right.pattern = same_Some left.pattern right.pattern (sym left.at ∙ right.at) in
        (left.is ∙ ap (filled payload) same ∙ sym right.is, λ e. left.truthless (sym left.is ∙ e))
