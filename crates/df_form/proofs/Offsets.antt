-- What nodes are as sums of another node and a number: more nodes change none, and no base comes later than its node.
use Rattle.std.proofs.Common.{◌≡◌, ⊎_elim, ℕ, zero, suc, ◌-◌, ◌<◌, ◌≤◌, ◌+ℤ◌, Bool, true, false, cond, nat_lt, List, [], ◌∷◌, ◌++◌, take, drop, length, slice_get, Option, None, Some, refl, sym, ap, subst, ◌∙◌, arith, append-nil, append_assoc, length-take}
use Rattle.std.specs.List.{list_all}
use Rattle.std.specs.Option.{unwrap_or}
use Rattle.std.proofs.lemmas.Bool.{and_parts, cases_lt, ltb-true}
use Rattle.std.proofs.lemmas.List.{length-take-le, take-append-drop, take_at, take_all}
use Rattle.std.proofs.lemmas.Option.{slice_get_within, slice_get_past, same_Some, none-some}
use Rattle.df_lemmas.proofs.Lists.{get_grown, get_last, get_below, get_split}
use Rattle.df_form.specs.declared.node.Op.{Op}
use Rattle.df_form.specs.declared.node.Op.TheVariants as ops
use Rattle.df_form.specs.declared.offset.Offset.{Offset}
use Rattle.df_form.specs.Node.{Node}
use Rattle.df_form.specs.Offset.{fits, itself, on_base, of_sum, of_parts, offset_at, offsets_after, offsets, offset_of}
use Rattle.df_form.proofs.Fronts.{get_ahead, get_past, get_taken, take_both}
use Rattle.df_form.proofs.Values.{AreSorted, parts_below}

onto : (known : List Offset) (nodes : List Node) → (rest : List Offset) × (offsets_after known nodes ≡ known ++ rest) × (length rest ≡ length nodes)
onto known [] = ([], sym (append-nil known), refl)
onto known (node ∷ nodes) =
    let next = of_parts (offset_at known) (length known) node.op node.parts in
    let others = onto (known ++ next ∷ []) nodes in
    (next ∷ others.0, others.1 ∙ append_assoc known (next ∷ []) others.0, ap suc others.2)

after_append : (known : List Offset) (first second : List Node) → offsets_after known (first ++ second) ≡ offsets_after (offsets_after known first) second
after_append known [] second = refl
after_append known (node ∷ first) second = after_append (known ++ of_parts (offset_at known) (length known) node.op node.parts ∷ []) first second

pub no_offsets : offsets [] ≡ []
unfolding offsets
no_offsets = refl

pub length-offsets : (nodes : List Node) → length (offsets nodes) ≡ length nodes
unfolding offsets
length-offsets nodes = let all = onto [] nodes in ap (λ z. length z) all.1 ∙ all.2

offsets_append : (first second : List Node) → offsets (first ++ second) ≡ offsets_after (offsets first) second
unfolding offsets
offsets_append first second = after_append [] first second

-- what one more node is
pub offsets_pushed : (nodes : List Node) (node : Node) → offsets (nodes ++ node ∷ []) ≡ offsets nodes ++ of_parts (offset_of nodes) (length nodes) node.op node.parts ∷ []
offsets_pushed nodes node = offsets_append nodes (node ∷ []) ∙ ap (λ k. offsets nodes ++ of_parts (offset_of nodes) k node.op node.parts ∷ []) (length-offsets nodes)

pub offsets_take : (nodes : List Node) (k : ℕ) → offsets (take k nodes) ≡ take k (offsets nodes)
offsets_take nodes k = ⊎_elim within past (cases_lt k (length nodes))
  where
    within : k < length nodes → offsets (take k nodes) ≡ take k (offsets nodes)
    within less =
        let front = take k nodes in
        let all = onto (offsets front) (drop k nodes) in
        let long : length (offsets front) ≡ k = length-offsets front ∙ length-take-le k nodes (omega arith) in
        let whole : offsets nodes ≡ offsets front ++ all.0 = ap offsets (sym (take-append-drop k nodes)) ∙ offsets_append front (drop k nodes) ∙ all.1 in
        sym (ap (take k) whole ∙ take_at (offsets front) all.0 k long)

    past : length nodes ≤ k → offsets (take k nodes) ≡ take k (offsets nodes)
    past h = ap offsets (take_all k nodes h) ∙ sym (take_all k (offsets nodes) (omega (arith, length-offsets nodes)))

-- a read in the front of a table, and behind one
pub read-front : (nodes now : List Node) (items : List Offset) (count n : ℕ) → offsets nodes ≡ items → take count nodes ≡ now → n < count → slice_get items n ≡ slice_get (offsets now) n
read-front nodes now items count n known is less =
    ap (λ z. slice_get z n) (sym known) ∙ sym (get_taken count (offsets nodes) n less) ∙ ap (λ z. slice_get z n) (sym (offsets_take nodes count) ∙ ap offsets is)

pub read-past : (nodes now : List Node) (count n : ℕ) → take count nodes ≡ now → count ≤ n → None ≡ slice_get (offsets now) n
read-past nodes now count n is past = sym (slice_get_past (offsets now) n (omega (arith, length-offsets now, ap length is, length-take count nodes)))

-- nodes behind those of a front, and what they are
abbrev pub AreBehind : List Node → List Node → List Offset → Type 0
AreBehind front own items = offsets (front ++ own) ≡ offsets front ++ items

pub none_behind : (front own : List Node) (items : List Offset) → own ≡ [] → items ≡ [] → AreBehind front own items
none_behind front own items no_own no_items = ap (λ z. offsets (front ++ z)) no_own ∙ ap offsets (append-nil front) ∙ sym (append-nil (offsets front)) ∙ ap (λ z. offsets front ++ z) (sym no_items)

pub ahead-read : (front own now : List Node) (items : List Offset) (n : ℕ) → AreBehind front own items → front ++ own ≡ now → n < length front → slice_get (offsets front) n ≡ slice_get (offsets now) n
ahead-read front own now items n behind is less = sym (get_ahead (offsets front) items n (omega (arith, length-offsets front))) ∙ ap (λ z. slice_get z n) (sym behind ∙ ap offsets is)

pub behind-read : (front own now : List Node) (items : List Offset) (n : ℕ) → AreBehind front own items → front ++ own ≡ now → length front ≤ n → slice_get items (n - length front) ≡ slice_get (offsets now) n
behind-read front own now items n behind is past =
    ap (λ k. slice_get items (n - k)) (sym (length-offsets front)) ∙ sym (get_past (offsets front) items n (omega (arith, length-offsets front))) ∙ ap (λ z. slice_get z n) (sym behind ∙ ap offsets is)

pub fewer-behind : (front own : List Node) (items : List Offset) (k : ℕ) → AreBehind front own items → AreBehind (take k front) (take (k - length front) own) (take (k - length front) items)
fewer-behind front own items k behind =
    ap offsets (sym (take_both front own k)) ∙ offsets_take (front ++ own) k ∙ ap (take k) behind ∙ take_both (offsets front) items k
    ∙ (λ i. sym (offsets_take front k) i ++ take (k - length-offsets front i) items)

-- what a node is, by its parts
pub two_below : (a b n : ℕ) → list_all (λ part. nat_lt part n) (a ∷ b ∷ []) ≡ true → (a < n) × (b < n)
two_below a b n e =
    let outer = and_parts (nat_lt a n) (list_all (λ part. nat_lt part n) (b ∷ [])) e in
    let inner = and_parts (nat_lt b n) true outer.1 in
    (ltb-true a n outer.0, ltb-true b n inner.0)

parts_same : (f g : ℕ → Offset) (n : ℕ) (op : Op) (parts : List ℕ) → ((part : ℕ) → part < n → f part ≡ g part) → list_all (λ part. nat_lt part n) parts ≡ true → of_parts f n op parts ≡ of_parts g n op parts
parts_same f g n ops.Plus (a ∷ b ∷ []) same below = let both = two_below a b n below in λ i. of_sum n (same a both.0 i) (same b both.1 i)
parts_same f g n op parts same below = refl

pub offset_past : (nodes : List Node) (n : ℕ) → length nodes ≤ n → offset_of nodes n ≡ itself n
offset_past nodes n past = ap (λ o. unwrap_or o (itself n)) (slice_get_past (offsets nodes) n (omega (arith, length-offsets nodes)))

pub past_end : (nodes : List Node) (n : ℕ) → slice_get nodes n ≡ None → length nodes ≤ n
past_end nodes n none = ⊎_elim (λ less. absurd (none-some _ (sym none ∙ (get_below nodes n less).1))) (λ past. past) (cases_lt n (length nodes))

pub offset_is : (nodes : List Node) (n : ℕ) (node : Node) → AreSorted nodes → slice_get nodes n ≡ Some node → offset_of nodes n ≡ of_parts (offset_of nodes) n node.op node.parts
offset_is nodes n node sorted e =
    let less = slice_get_within nodes n node e in
    let front = take n nodes in
    let long : length front ≡ n = length-take-le n nodes (omega arith) in
    let next = of_parts (offset_of front) (length front) node.op node.parts in
    let rest = drop (suc n) nodes in
    let all = onto (offsets (front ++ node ∷ [])) rest in
    let split : nodes ≡ (front ++ node ∷ []) ++ rest = get_split nodes n node e ∙ sym (append_assoc front (node ∷ []) rest) in
    let is : offsets nodes ≡ (offsets front ++ next ∷ []) ++ all.0 = ap offsets split ∙ offsets_append (front ++ node ∷ []) rest ∙ all.1 ∙ ap (λ z. z ++ all.0) (offsets_pushed front node) in
    let place : length (offsets front) ≡ n = length-offsets front ∙ long in
    let last = get_grown (offsets front ++ next ∷ []) all.0 (length (offsets front)) next (get_last (offsets front) next) in
    let at : slice_get (offsets nodes) n ≡ Some next = ap (λ z. slice_get z n) is ∙ ap (slice_get ((offsets front ++ next ∷ []) ++ all.0)) (sym place) ∙ last in
    let here : offset_of nodes n ≡ next = ap (λ o. unwrap_or o (itself n)) at in
    let ahead : (part : ℕ) → part < n → offset_of front part ≡ offset_of nodes part = λ part less. ap (λ o. unwrap_or o (itself part)) (ap (λ z. slice_get z part) (offsets_take nodes n) ∙ get_taken n (offsets nodes) part less) in
    here ∙ ap (λ k. of_parts (offset_of front) k node.op node.parts) long ∙ parts_same (offset_of front) (offset_of nodes) n node.op node.parts ahead (parts_below nodes n node sorted e)

-- its base does not come later
abbrev pub IsWithin : ℕ → Offset → Type 0
IsWithin n offset = (base : ℕ) → offset.base ≡ Some base → base ≤ n

itself_within : (n : ℕ) → IsWithin n (itself n)
itself_within n base e = omega (arith, same_Some n base e)

sum_within : (n : ℕ) (left right : Offset) → IsWithin n left → IsWithin n right → IsWithin n (of_sum n left right)
sum_within n left right l r = by (fits (left.constant +ℤ right.constant)) left.base right.base l r
  where
    by : (b : Bool) (one other : Option ℕ) → ((base : ℕ) → one ≡ Some base → base ≤ n) → ((base : ℕ) → other ≡ Some base → base ≤ n) → IsWithin n (cond b (on_base n one other (left.constant +ℤ right.constant)) (itself n))
    by false one other p q base e = itself_within n base e
    by true one None p q base e = p base e
    by true None (Some x) p q base e = q base e
    by true (Some x) (Some y) p q base e = itself_within n base e

parts_within : (part : ℕ → Offset) (n : ℕ) (op : Op) (parts : List ℕ) → ((k : ℕ) → k < n → IsWithin n (part k)) → list_all (λ part. nat_lt part n) parts ≡ true → IsWithin n (of_parts part n op parts)
parts_within part n (ops.Number k) parts inside below = λ base e. absurd (none-some base e)
parts_within part n ops.Plus (a ∷ b ∷ []) inside below = let both = two_below a b n below in sum_within n (part a) (part b) (inside a both.0) (inside b both.1)
parts_within part n op parts inside below = itself_within n

node_within : (nodes : List Node) → AreSorted nodes → (n : ℕ) (found : Option Node) → slice_get nodes n ≡ found → ((k : ℕ) → k < n → IsWithin n (offset_of nodes k)) → IsWithin n (offset_of nodes n)
node_within nodes sorted n None none inside = subst (IsWithin n) (sym (offset_past nodes n (past_end nodes n none))) (itself_within n)
node_within nodes sorted n (Some node) at inside = subst (IsWithin n) (sym (offset_is nodes n node sorted at)) (parts_within (offset_of nodes) n node.op node.parts inside (parts_below nodes n node sorted at))

within_below : (nodes : List Node) → AreSorted nodes → (bound n : ℕ) → n < bound → IsWithin n (offset_of nodes n)
within_below nodes sorted zero n less = absurd (omega arith)
within_below nodes sorted (suc bound) n less = node_within nodes sorted n (slice_get nodes n) refl (λ k low base e. let le = within_below nodes sorted bound k (omega (arith, low, less)) base e in omega (arith, le, low))

pub base_within : (nodes : List Node) → AreSorted nodes → (n : ℕ) → IsWithin n (offset_of nodes n)
base_within nodes sorted n = within_below nodes sorted (suc n) n (omega arith)
