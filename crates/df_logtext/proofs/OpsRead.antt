-- What the word of an operation is read as, it is the word of.
use Rattle.std.proofs.Common.{◌≡◌, ℕ, zero, suc, ◌<◌, Bool, true, false, cond, List, [], ◌∷◌, ◌++◌, take, drop, length, Some, None, Option, refl, sym, ap, subst, ◌∙◌, inl, inr, codes, arith, append-nil, if◌then◌else◌}
use Rattle.std.specs.Prelude.{nat_eq, ◌≢◌, slice_get, unwrap_or}
use Rattle.std.specs.Option.{option_map, option_map_or}
use Rattle.std.specs.List.{AllByRecursion, starts_with, find}
use Rattle.std.proofs.lemmas.Bool.{and_parts}
use Rattle.std.proofs.lemmas.Option.{same_Some}
use Rattle.std.proofs.lemmas.List.{take-append-drop}
use Rattle.df_lemmas.proofs.Options.{map_some, test_some}
use Rattle.df_lemmas.proofs.Truths.{choice, true_is_not_false}
use Rattle.df_lemmas.proofs.Alls.{all_back}
use Rattle.df_base.specs.Names.{same_text}
use Rattle.df_base.proofs.NamesLemmas.{same_text-equal, same_text-refl}
use Rattle.df_lang.specs.declared.ty.Ty.{Ty}
use Rattle.df_lang.specs.declared.ty.Ty.TheVariants as types
use Rattle.df_form.specs.declared.node.Op.{Op}
use Rattle.df_form.specs.declared.node.Op.TheVariants as ops
use Rattle.df_form.specs.declared.symbol.Payload.TheVariants as payloads
use Rattle.df_form.specs.declared.symbol.PayloadKind.{PayloadKind}
use Rattle.df_form.specs.declared.symbol.PayloadKind.TheVariants as kinds
use Rattle.df_form.specs.Symbol.{Entry, symbols as table, same_symbol, row_of}
use Rattle.df_form.specs.Node.{symbol, test_of}
use Rattle.df_logtext.specs.Words.{place_from, known_type_of, newtype_of, type_of, term_op_of, formula_op_of, plain_op_of, is_bare, is_bare_row, bare_op_of, typed_op_of, op_of, found_or}
use Rattle.df_logtext.specs.StepText.{type_words, type_name, word_of, op_word, op_number}
use Rattle.df_logtext.specs.HasText.{IsWord, IsNamed, HasName, kind_of, HasPayload, HasWord}
use Rattle.df_logtext.proofs.Placed.{placed}

-- the word is that of the operation, behind which no number stands
pub record IsWordOf (names : List (List ℕ)) (word : List ℕ) (op : Op) : Type 0 where
  pub text : word ≡ op_word names op
  pub alone : op_number op ≡ []
  pub has : HasWord names op

-- a word, or what else
either : (names : List (List ℕ)) (word text : List ℕ) (made op : Op) (other : Option Op) → (op_word names made ≡ text) → (op_number made ≡ []) → HasWord names made → (other ≡ Some op → IsWordOf names word op)
    → cond (same_text word text) (Some made) other ≡ Some op → IsWordOf names word op
either names word text made op other is alone has go e =
    elim (choice (same_text word text) (Some made) other (Some op) e) [
      | inl p ↦
          let P : Op → Type 0 = λ o. IsWordOf names word o in
          subst P (same_Some made op p.1) (record { text = same_text-equal word text p.0 ∙ sym is; alone = alone; has = has })
      | inr p ↦ go p.1
    ]

term_read : (names : List (List ℕ)) (word : List ℕ) (op : Op) → term_op_of word ≡ Some op → IsWordOf names word op
unfolding term_op_of
term_read names word op e =
    either names word (codes "plus") ops.Plus op _ refl refl tt
    (either names word (codes "times") ops.Times op _ refl refl tt
    (λ n. absurd cc)) e

formula_read : (names : List (List ℕ)) (word : List ℕ) (op : Op) → formula_op_of word ≡ Some op → IsWordOf names word op
unfolding formula_op_of
formula_read names word op e =
    either names word (codes "eq") ops.Equal op _ refl refl tt
    (either names word (codes "le") ops.AtMost op _ refl refl tt
    (either names word (codes "not") ops.Not op _ refl refl tt
    (either names word (codes "and") ops.And op _ refl refl tt
    (either names word (codes "or") ops.Or op _ refl refl tt
    (either names word (codes "imp") ops.Implies op _ refl refl tt
    (either names word (codes "iff") ops.Iff op _ refl refl tt
    (λ n. absurd cc))))))) e

either_op : (names : List (List ℕ)) (word : List ℕ) (op : Op) (plain other : Option Op) → (plain ≡ Some op → IsWordOf names word op) → (other ≡ Some op → IsWordOf names word op) → found_or plain (λ o. Some o) other ≡ Some op → IsWordOf names word op
either_op names word op None other a b e = b e
either_op names word op (Some o) other a b e = a e

plain_read : (names : List (List ℕ)) (word : List ℕ) (op : Op) → plain_op_of word ≡ Some op → IsWordOf names word op
unfolding plain_op_of
plain_read names word op e = either_op names word op (term_op_of word) (formula_op_of word) (term_read names word op) (formula_read names word op) e

-- ---- symbols with which nothing stands

-- each row is found by its symbol
rows_found : AllByRecursion (λ (row : Entry). row_of row.symbol ≡ Some row) table
unfolding table same_symbol
rows_found = (refl, (refl, (refl, (refl, (refl, tt)))))

-- what is found passes the test
found_has : {A : Type 0} (P : A → Type 0) (test : A → Bool) (xs : List A) (x : A) → AllByRecursion P xs → find test xs ≡ Some x → (test x ≡ true) × P x
found_has P test [] x all e = absurd cc
found_has P test (y ∷ ys) x all e = by (test y) refl e (found_has P test ys x all.1)
  where
    by : (b : Bool) → test y ≡ b → (if b then Some y else find test ys) ≡ Some x → (find test ys ≡ Some x → (test x ≡ true) × P x) → (test x ≡ true) × P x
    by true passed e rest = let same = same_Some y x e in (ap test (sym same) ∙ passed, subst P same all.0)
    by false passed e rest = rest e

bare_kind : (kind : PayloadKind) → is_bare kind ≡ true → kind ≡ kinds.Nothing
bare_kind kinds.Nothing e = refl
bare_kind kinds.Type e = absurd cc

bare_read : (names : List (List ℕ)) (word : List ℕ) (op : Op) → bare_op_of word ≡ Some op → IsWordOf names word op
bare_read names word op e =
    let found = map_some (λ (row : Entry). symbol row.symbol) (find (is_bare_row word) table) op e in
    let row = found.0 in
    let has = found_has (λ (row : Entry). row_of row.symbol ≡ Some row) (is_bare_row word) table row rows_found found.1 in
    let passed = and_parts (is_bare row.payload) (same_text word row.word) has.0 in
    let own : word_of row.symbol ≡ row.word = ap (λ (o : Option Entry). option_map_or (λ (r : Entry). r.word) o []) has.1 in
    let kind : kind_of row.symbol ≡ kinds.Nothing = ap (λ (o : Option Entry). option_map_or (λ (r : Entry). r.payload) o kinds.Nothing) has.1 ∙ bare_kind row.payload passed.0 in
    let text : word ≡ op_word names (symbol row.symbol) = same_text-equal word row.word passed.1 ∙ sym own ∙ sym (append-nil (word_of row.symbol)) in
    subst (λ (o : Op). IsWordOf names word o) found.2 (record { text = text; alone = refl; has = subst (λ (k : PayloadKind). HasPayload names k payloads.Nothing) (sym kind) tt })

-- what stands at a place of a list that is known in parts
get_front : {A : Type 0} (test : A → Bool) (front : List A) (x : A) (back : List A) (n : ℕ) (y : A) → n < length front → AllByRecursion (λ z. test z ≡ false) front → slice_get (front ++ x ∷ back) n ≡ Some y → test y ≡ false
get_front test [] x back n y lt fail e = absurd (omega arith)
get_front test (z ∷ zs) x back zero y lt fail e = subst (λ a. test a ≡ false) (same_Some z y e) fail.0
get_front test (z ∷ zs) x back (suc n) y lt fail e = get_front test zs x back n y (omega arith) fail.1 e

get_seam : {A : Type 0} (front : List A) (x : A) (back : List A) → slice_get (front ++ x ∷ back) (length front) ≡ Some x
get_seam [] x back = refl
get_seam (y ∷ ys) x back = get_seam ys x back

-- a word of a type that no program declares is read as that type
apart_from : (known name : List ℕ) (ty : Ty) → known_type_of known ≡ Some ty → known_type_of name ≡ None → known ≢ name
apart_from known name ty a e is = let f : Some ty ≡ None = sym a ∙ ap known_type_of is ∙ e in absurd cc

none_apart : (name : List ℕ) → known_type_of name ≡ None → AllByRecursion (λ known. known ≢ name) type_words
unfolding known_type_of
none_apart name e = (apart_from (codes "int") name types.Int refl e, (apart_from (codes "nat") name types.Nat refl e, (apart_from (codes "bool") name types.Bool refl e, (apart_from (codes "char") name types.Char refl e, tt))))

named : (names : List (List ℕ)) (name : List ℕ) (n : ℕ) → IsWord name → known_type_of name ≡ None → place_from (λ other. same_text other name) 0 names ≡ Some n → IsNamed names n
named names name n plain new e =
    let p = placed (λ other. same_text other name) 0 names n e in
    let is : p.x ≡ name = same_text-equal p.x name p.passes in
    let at : n ≡ length p.front = omega (arith, p.place) in
    record {
      name = name;
      here = ap (λ xs. slice_get xs n) p.list ∙ ap (slice_get (p.front ++ p.x ∷ p.back)) at ∙ get_seam p.front p.x p.back ∙ ap (λ x. Some x) is;
      first = λ other lt there.
          let fails = get_front (λ o. same_text o name) p.front p.x p.back other name (omega (arith, at, lt)) p.fail (sym (ap (λ xs. slice_get xs other) p.list) ∙ there) in
          true_is_not_false _ (same_text-refl name) fails;
      apart = none_apart name new;
      word = plain;
    }

-- the name is that of the type
record IsNameOf (names : List (List ℕ)) (name : List ℕ) (ty : Ty) : Type 0 where
  text : name ≡ type_name names ty
  has : HasName names ty

-- a name that is known, or what else
either_type : (names : List (List ℕ)) (name text : List ℕ) (known ty : Ty) (other : Option Ty) → (type_name names known ≡ text) → HasName names known → (other ≡ Some ty → IsNameOf names name ty)
    → cond (same_text name text) (Some known) other ≡ Some ty → IsNameOf names name ty
either_type names name text known ty other is has go e =
    elim (choice (same_text name text) (Some known) other (Some ty) e) [
      | inl p ↦
          let P : Ty → Type 0 = λ t. IsNameOf names name t in
          subst P (same_Some known ty p.1) (record { text = same_text-equal name text p.0 ∙ sym is; has = has })
      | inr p ↦ go p.1
    ]

known_read : (names : List (List ℕ)) (name : List ℕ) (ty : Ty) → known_type_of name ≡ Some ty → IsNameOf names name ty
unfolding known_type_of
known_read names name ty e =
    either_type names name (codes "int") types.Int ty _ refl tt
    (either_type names name (codes "nat") types.Nat ty _ refl tt
    (either_type names name (codes "bool") types.Bool ty _ refl tt
    (either_type names name (codes "char") types.Char ty _ refl tt
    (λ n. absurd cc)))) e

newtype_read : (names : List (List ℕ)) (name : List ℕ) (ty : Ty) → IsWord name → known_type_of name ≡ None → newtype_of names name ≡ Some ty → IsNameOf names name ty
unfolding named
newtype_read names name ty plain new e =
    let t = map_some (λ n. types.Newtype n) (place_from (λ other. same_text other name) 0 names) ty e in
    let is = named names name t.0 plain new t.1 in
    let P : Ty → Type 0 = λ x. IsNameOf names name x in
    subst P t.2 (record { text = sym (ap (λ o. unwrap_or o []) is.here); has = is })

type_read_from : (names : List (List ℕ)) (name : List ℕ) (ty : Ty) (known : Option Ty) → known_type_of name ≡ known → IsWord name → found_or known (λ t. Some t) (newtype_of names name) ≡ Some ty → IsNameOf names name ty
type_read_from names name ty None known plain e = newtype_read names name ty plain known e
type_read_from names name ty (Some t) known plain e = known_read names name ty (known ∙ e)

type_read : (names : List (List ℕ)) (name : List ℕ) (ty : Ty) → IsWord name → type_of names name ≡ Some ty → IsNameOf names name ty
unfolding type_of
type_read names name ty plain e = type_read_from names name ty (known_type_of name) refl plain e

test_word : (names : List (List ℕ)) (name : List ℕ) (ty : Ty) → name ≡ type_name names ty → HasName names ty → IsWordOf names (codes "is:" ++ name) (test_of ty)
unfolding table same_symbol
test_word names name ty text has = record { text = ap (λ x. codes "is:" ++ x) text; alone = refl; has = has }

test_read : (names : List (List ℕ)) (name : List ℕ) (op : Op) → IsWord name → option_map (λ ty. test_of ty) (type_of names name) ≡ Some op → IsWordOf names (codes "is:" ++ name) op
test_read names name op plain e =
    let t = map_some (λ ty. test_of ty) (type_of names name) op e in
    let is = type_read names name t.0 plain t.1 in
    let P : Op → Type 0 = λ o. IsWordOf names (codes "is:" ++ name) o in
    subst P t.2 (test_word names name t.0 is.text is.has)

begins_is : (word : List ℕ) → starts_with nat_eq word (codes "is:") ≡ true → word ≡ codes "is:" ++ drop 3 word
begins_is word e = sym (take-append-drop 3 word) ∙ ap (λ x. x ++ drop 3 word) (sym (same_text-equal (codes "is:") (take 3 word) e))

typed_read : (names : List (List ℕ)) (word : List ℕ) (op : Op) → IsWord word → typed_op_of names word ≡ Some op → IsWordOf names word op
unfolding typed_op_of
typed_read names word op plain e =
    let t = test_some (starts_with nat_eq word (codes "is:")) (option_map (λ ty. test_of ty) (type_of names (drop 3 word))) op e in
    let is = begins_is word t.0 in
    let W : List ℕ → Type 0 = λ w. IsWord w in
    let tail : IsWord (drop 3 word) = all_back _ (codes "is:") (drop 3 word) (subst W is plain) in
    let P : List ℕ → Type 0 = λ w. IsWordOf names w op in
    subst P (sym is) (test_read names (drop 3 word) op tail t.1)

pub op_read : (names : List (List ℕ)) (word : List ℕ) (op : Op) → IsWord word → op_of names word ≡ Some op → IsWordOf names word op
unfolding op_of
op_read names word op plain e =
    either_op names word op (plain_op_of word) (found_or (bare_op_of word) (λ o. Some o) (typed_op_of names word)) (plain_read names word op)
    (either_op names word op (bare_op_of word) (typed_op_of names word) (bare_read names word op) (typed_read names word op plain)) e
