-- The tests of operations and nodes tell whether they are equal.
use Rattle.std.proofs.Common.{◌≡◌, true, ◌&&◌, nat_eq, [], ◌∷◌, refl, ap, subst, rules}
use Rattle.std.proofs.lemmas.Bool.Decides.{Decides-int_eq}
use Rattle.std.proofs.lemmas.Slice.Eq.{bytes_eq-Decides}
use Rattle.std.specs.Cmp.Lexicographic.{pointwise}
use Rattle.std.proofs.lemmas.Bool.{and_parts, eqb-true, and_from}
use Rattle.df_lemmas.proofs.Numbers.{equal_self}
use Rattle.df_form.specs.declared.node.Op.{Op}
use Rattle.df_form.specs.declared.node.Op.TheVariants as ops
use Rattle.df_lang.specs.declared.ty.Ty.{Ty}
use Rattle.df_lang.specs.declared.ty.Ty.TheVariants as types
use Rattle.df_lang.specs.Newtype.{same_type}
use Rattle.df_form.specs.declared.node.Sort.{Sort}
use Rattle.df_form.specs.declared.node.Sort.TheVariants as sorts
use Rattle.df_form.specs.declared.node.Free.{Free}
use Rattle.df_form.specs.declared.symbol.Symbol.{Symbol}
use Rattle.df_form.specs.declared.symbol.Payload.{Payload}
use Rattle.df_form.specs.declared.symbol.Payload.TheVariants as payloads
use Rattle.df_form.specs.Symbol.{same_symbol, same_payload}
use Rattle.df_form.specs.Node.{Node, same_sort, same_op, same_node}
use Rattle.df_form.specs.Sorting.{are_two_values}
pub use Rattle.std.proofs.lemmas.Bool.{and_from as both_true}
pub use Rattle.std.proofs.lemmas.Bool.{and_parts as and_true}

pub same_sort_equal : (a b : Sort) → same_sort a b ≡ true → a ≡ b
same_sort_equal sorts.Number sorts.Number e = refl
same_sort_equal sorts.Number sorts.Truth e = cc
same_sort_equal sorts.Truth sorts.Number e = cc
same_sort_equal sorts.Truth sorts.Truth e = refl
same_sort_equal sorts.Character sorts.Character e = refl
same_sort_equal sorts.Number sorts.Character e = cc
same_sort_equal sorts.Truth sorts.Character e = cc
same_sort_equal sorts.Character sorts.Number e = cc
same_sort_equal sorts.Character sorts.Truth e = cc

pub same_sort-refl : (a : Sort) → same_sort a a ≡ true
same_sort-refl sorts.Number = refl
same_sort-refl sorts.Truth = refl
same_sort-refl sorts.Character = refl

-- an equality takes two values of one sort, and not truths
pub values_alike : (a b : Sort) → are_two_values (a ∷ b ∷ []) ≡ true → a ≡ b
values_alike sorts.Number sorts.Number e = refl
values_alike sorts.Number sorts.Truth e = cc
values_alike sorts.Truth sorts.Number e = cc
values_alike sorts.Truth sorts.Truth e = refl
values_alike sorts.Character sorts.Character e = refl
values_alike sorts.Number sorts.Character e = cc
values_alike sorts.Truth sorts.Character e = cc
values_alike sorts.Character sorts.Number e = cc
values_alike sorts.Character sorts.Truth e = cc

pub no_truths : (a b : Sort) → are_two_values (a ∷ b ∷ []) ≡ true → a ≡ sorts.Truth → ⊥
no_truths sorts.Number b e same = cc
no_truths sorts.Character b e same = cc
no_truths sorts.Truth sorts.Number e same = cc
no_truths sorts.Truth sorts.Truth e same = cc
no_truths sorts.Truth sorts.Character e same = cc

pub values_from : (a b : Sort) → a ≡ b → (a ≡ sorts.Truth → ⊥) → are_two_values (a ∷ b ∷ []) ≡ true
values_from a b same other = subst (λ (s : Sort). are_two_values (a ∷ s ∷ []) ≡ true) same (by a other)
  where
    by : (s : Sort) → (s ≡ sorts.Truth → ⊥) → are_two_values (s ∷ s ∷ []) ≡ true
    by sorts.Number other = refl
    by sorts.Character other = refl
    by sorts.Truth other = absurd (other refl)

same_type_equal : (a b : Ty) → same_type a b ≡ true → a ≡ b
same_type_equal (types.Newtype a) (types.Newtype b) e = ap types.Newtype (eqb-true a b e)
same_type_equal types.Int types.Int e = refl
same_type_equal types.Nat types.Nat e = refl
same_type_equal types.Bool types.Bool e = refl
same_type_equal types.Char types.Char e = refl
same_type_equal a b e = cc

same_type-refl : (a : Ty) → same_type a a ≡ true
same_type-refl (types.Newtype a) = equal_self a
same_type-refl ty = refl

same_free_equal : (a b : Free) → (nat_eq a.number b.number && same_sort a.sort b.sort) ≡ true → a ≡ b
same_free_equal a b e =
    let both = and_parts (nat_eq a.number b.number) (same_sort a.sort b.sort) e in
    let n : a.number ≡ b.number = eqb-true a.number b.number both.0 in
    let s : a.sort ≡ b.sort = same_sort_equal a.sort b.sort both.1 in
    λ i. record { number = n i; sort = s i }

symbol_is : (a b : Symbol) → same_symbol a b ≡ true → a ≡ b
unfolding same_symbol
symbol_is a b e = search rules

symbol_same : (a b : Symbol) → a ≡ b → same_symbol a b ≡ true
unfolding same_symbol
symbol_same a b e = search rules

payload_is : (a b : Payload) → same_payload a b ≡ true → a ≡ b
payload_is payloads.Nothing payloads.Nothing e = refl
payload_is payloads.Nothing (payloads.Type b) e = cc
payload_is (payloads.Type a) payloads.Nothing e = cc
payload_is (payloads.Type a) (payloads.Type b) e = ap payloads.Type (same_type_equal a b e)

payload_self : (a : Payload) → same_payload a a ≡ true
payload_self payloads.Nothing = refl
payload_self (payloads.Type ty) = same_type-refl ty

pub same_op_equal : (a b : Op) → same_op a b ≡ true → a ≡ b
same_op_equal (ops.Number a) (ops.Number b) e = ap ops.Number ((Decides-int_eq a b).0 e)
same_op_equal (ops.Free a) (ops.Free b) e = ap ops.Free (same_free_equal a b e)
same_op_equal ops.Plus ops.Plus e = refl
same_op_equal ops.Times ops.Times e = refl
same_op_equal ops.Equal ops.Equal e = refl
same_op_equal ops.AtMost ops.AtMost e = refl
same_op_equal ops.Not ops.Not e = refl
same_op_equal ops.And ops.And e = refl
same_op_equal ops.Or ops.Or e = refl
same_op_equal ops.Implies ops.Implies e = refl
same_op_equal ops.Iff ops.Iff e = refl
same_op_equal (ops.Of a stands) (ops.Of b other) e =
    let both = and_parts (same_symbol a b) (same_payload stands other) e in
    let s = symbol_is a b both.0 in
    let p = payload_is stands other both.1 in
    λ i. ops.Of (s i) (p i)
same_op_equal a b e = cc

pub same_op-refl : (a : Op) → same_op a a ≡ true
same_op-refl (ops.Number a) = (Decides-int_eq a a).1 refl
same_op-refl (ops.Free a) = and_from (nat_eq a.number a.number) (same_sort a.sort a.sort) (equal_self a.number) (same_sort-refl a.sort)
same_op-refl (ops.Of a stands) = and_from (same_symbol a a) (same_payload stands stands) (symbol_same a a refl) (payload_self stands)
same_op-refl op = refl

pub same_node_equal : (a b : Node) → same_node a b ≡ true → a ≡ b
same_node_equal a b e =
    let both = and_parts (same_op a.op b.op) (pointwise nat_eq a.parts b.parts) e in
    let o : a.op ≡ b.op = same_op_equal a.op b.op both.0 in
    let p : a.parts ≡ b.parts = (bytes_eq-Decides a.parts b.parts).0 both.1 in
    λ i. record { op = o i; parts = p i }

pub same_node-refl : (a : Node) → same_node a a ≡ true
same_node-refl a = and_from (same_op a.op a.op) (pointwise nat_eq a.parts a.parts) (same_op-refl a.op) ((bytes_eq-Decides a.parts a.parts).1 refl)
