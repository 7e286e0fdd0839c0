-- A tree begins as the columns of its production say, or has no tokens.
use Rattle.std.proofs.Common.{◌≡◌, ℕ, zero, suc, ◌==◌, ◌⊎◌, inl, inr, Bool, true, false, not, ◌&&◌, ◌||◌, List, [], ◌∷◌, ◌++◌, length, drop, Some, slice_get, if◌then◌else◌, refl, ap, ◌∙◌, subst, append_assoc, arith}
use Rattle.std.specs.List.{list_all}
use Rattle.std.proofs.lemmas.Bool.{cases_Bool, and_parts, and_from, or_left}
use Rattle.std.proofs.lemmas.Option.{same_Some}
use Rattle.df_tok.specs.Token.{Token}
use Rattle.df_tree.specs.declared.production.Form.{Form}
use Rattle.df_tree.specs.declared.production.Form.TheVariants.{All, One, Many}
use Rattle.df_tree.specs.declared.production.Part.{Part}
use Rattle.df_tree.specs.declared.production.Part.TheVariants.{Terminal, Nonterminal}
use Rattle.df_tree.specs.Terminal.{terminal}
use Rattle.df_tree.specs.Tree.{Tree, Leaf, Node, Trees, none, more, leaves, leaves_all}
use Rattle.df_tree.specs.Row.{Row}
use Rattle.df_tree.specs.Grammar.{row, kinds_of, part_of, IsAmong, May, MayEnd, IsTree, Are, first_in, second_in, is_nil, begins, begins_part, IsSettled, AreSettled}
use Rattle.df_tree.proofs.Classes.{subset, apart, first_subset, first_left, first_right, MayCome}
use Rattle.df_tree.proofs.Fine.{first_of, empty_of, follows, first_of_all, wide, all_fine, choice_fine, stops, fine_by, row_fine}

-- ---- parts and classes

pub begins_first : (p : Part) (tokens : List Token) → begins_part p tokens ≡ true → first_in (first_of p) tokens ≡ true
begins_first (Terminal kind) tokens e = e
begins_first (Nonterminal n) tokens e = (and_parts (first_in (kinds_of (row n).first) tokens) (second_in (kinds_of (row n).second) tokens) e).0

wide_begins : (r : Row) (tokens : List Token) → wide r ≡ true → first_in (kinds_of r.first) tokens ≡ true → begins r tokens ≡ true
wide_begins r tokens w e =
    and_from (first_in (kinds_of r.first) tokens) (second_in (kinds_of r.second) tokens) e
    (or_left (is_nil (kinds_of r.second)) (first_in (kinds_of r.second) (drop 1 tokens)) (and_parts (not r.narrow) (is_nil (kinds_of r.second)) w).1)

-- what a choice says of one of its parts
pub record Choice (behind first : List ℕ) (p : Part) : Type 0 where
  pub nonempty : not (empty_of p) ≡ true
  pub begin : subset (first_of p) first ≡ true
  pub follow : follows behind p ≡ true

pub among_fine : (behind first : List ℕ) (parts : List Part) (p : Part) → choice_fine behind first parts ≡ true → IsAmong p parts → Choice behind first p
among_fine behind first [] p f among = elim among [ ]
among_fine behind first (q ∷ qs) p f among =
    let one = and_parts (not (empty_of q)) (subset (first_of q) first && (follows behind q && (list_all (λ s. apart (first_of q) (first_of s)) qs && choice_fine behind first qs))) f in
    let two = and_parts (subset (first_of q) first) (follows behind q && (list_all (λ s. apart (first_of q) (first_of s)) qs && choice_fine behind first qs)) one.1 in
    let three = and_parts (follows behind q) (list_all (λ s. apart (first_of q) (first_of s)) qs && choice_fine behind first qs) two.1 in
    let four = and_parts (list_all (λ s. apart (first_of q) (first_of s)) qs) (choice_fine behind first qs) three.1 in
    elim among [
      | inl same ↦ subst (Choice behind first) same (record { nonempty = one.0; begin = two.0; follow = three.0 })
      | inr later ↦ among_fine behind first qs p four.1 later
    ]

-- ---- trees one after another

-- The tree begins as its part does, or has no tokens.
abbrev pub Begun : Part → List Token → List Token → Type 0
Begun p own behind = ((own ≡ []) × (empty_of p ≡ true)) ⊎ (begins_part p (own ++ behind) ≡ true)

abbrev pub EachBegun : Trees → List Token → Type 0
EachBegun none behind = Unit {0}
EachBegun (more t ts) behind = Begun (part_of t) (leaves t) (leaves_all ts ++ behind) × EachBegun ts behind

-- The trees are of these parts.
abbrev pub AreOf : List Part → Trees → Type 0
AreOf [] none = Unit {0}
AreOf [] (more t ts) = ⊥
AreOf (p ∷ ps) none = ⊥
AreOf (p ∷ ps) (more t ts) = (p ≡ part_of t) × AreOf ps ts

drop_get : (parts : List Part) (k : ℕ) (p : Part) → slice_get parts k ≡ Some p → drop k parts ≡ p ∷ drop (suc k) parts
drop_get [] k p e = absurd cc
drop_get (q ∷ qs) zero p e = ap (λ x. x ∷ qs) (same_Some q p e)
drop_get (q ∷ qs) (suc k) p e = drop_get qs k p e

drop_whole : (parts : List Part) (k : ℕ) → length parts ≡ k → drop k parts ≡ []
drop_whole [] zero e = refl
drop_whole [] (suc k) e = refl
drop_whole (q ∷ qs) zero e = absurd (omega (arith, e))
drop_whole (q ∷ qs) (suc k) e = drop_whole qs k (omega (arith, e))

pub are_of : (r : Row) (k : ℕ) (ts : Trees) → r.form ≡ All → Are r k ts → AreOf (drop k r.parts) ts
are_of r k none form right =
    let e : length r.parts ≡ k = rw form at right in
    rw (drop_whole r.parts k e) tt
are_of r k (more t ts) form right =
    let e : slice_get r.parts k ≡ Some (part_of t) = rw form at right.0 in
    rw (drop_get r.parts k (part_of t) e) (refl, are_of r (suc k) ts form right.2)

if_true : (b : Bool) (c d : List ℕ) → b ≡ true → (if b then c else d) ≡ c
if_true true c d e = refl
if_true false c d e = absurd (let f : false ≡ true = e in cc)

nil_append : (own others : List Token) → own ≡ [] → own ++ others ≡ others
nil_append [] others e = refl
nil_append (x ∷ xs) others e = absurd cc

pub all_begun : (ps : List Part) (kinds : List ℕ) (ts : Trees) (behind : List Token) → AreOf ps ts → EachBegun ts behind
    → ((leaves_all ts ≡ []) × (list_all empty_of ps ≡ true)) ⊎ (first_in (first_of_all ps kinds) (leaves_all ts ++ behind) ≡ true)
all_begun [] kinds none behind of begun = inl (refl, refl)
all_begun [] kinds (more t ts) behind of begun = absurd of
all_begun (p ∷ ps) kinds none behind of begun = absurd of
all_begun (p ∷ ps) kinds (more t ts) behind of begun =
    let later : List ℕ = if empty_of p then first_of_all ps kinds else [] in
    elim begun.0 [
      | inr e ↦
          (let f : begins_part p (leaves t ++ (leaves_all ts ++ behind)) ≡ true = rw of.0 e in
          inr (rw (append_assoc (leaves t) (leaves_all ts) behind) (first_left (first_of p) later _ (begins_first p _ f))))
      | inl (own, empty) ↦
          (let f : empty_of p ≡ true = rw of.0 empty in
          let s : leaves t ++ leaves_all ts ≡ leaves_all ts = nil_append (leaves t) (leaves_all ts) own in
          elim (all_begun ps kinds ts behind of.1 begun.1) [
            | inl (all_own, all_empty) ↦ inl (s ∙ all_own, and_from (empty_of p) (list_all empty_of ps) f all_empty)
            | inr e ↦ inr (rw s (rw (if_true (empty_of p) (first_of_all ps kinds) [] f) (first_right (first_of p) (first_of_all ps kinds) (leaves_all ts ++ behind) e)))
          ])
    ]

come_empty : (ps : List Part) (kinds : List ℕ) (tokens : List Token) → list_all empty_of ps ≡ true → first_in kinds tokens ≡ true → first_in (first_of_all ps kinds) tokens ≡ true
come_empty [] kinds tokens all e = e
come_empty (p ∷ ps) kinds tokens all e =
    let parts = and_parts (empty_of p) (list_all empty_of ps) all in
    rw (if_true (empty_of p) (first_of_all ps kinds) [] parts.0) (first_right (first_of p) (first_of_all ps kinds) tokens (come_empty ps kinds tokens parts.1 e))

-- what comes before the trees may come before what is behind them
pub all_come : (ps : List Part) (kinds : List ℕ) (ts : Trees) (behind : List Token) → AreOf ps ts → EachBegun ts behind
    → MayCome kinds behind → MayCome (first_of_all ps kinds) (leaves_all ts ++ behind)
all_come ps kinds ts behind of begun come = elim (all_begun ps kinds ts behind of begun) [
  | inr e ↦ inr e
  | inl (own, empty) ↦ rw (nil_append (leaves_all ts) behind own) (elim come [
    | inl e ↦ inl e
    | inr e ↦ inr (come_empty ps kinds behind empty e)
  ])
]

-- ---- a node

pub other_side : (b c : Bool) → b ≡ false → (b || c) ≡ true → c ≡ true
other_side true c e f = absurd cc
other_side false c e f = f

wide_or_narrow : (r : Row) (c : Bool) → r.narrow ≡ false → (r.narrow || (wide r && c)) ≡ true → (wide r ≡ true) × (c ≡ true)
wide_or_narrow r c e f = and_parts (wide r) c (other_side r.narrow (wide r && c) e f)

pub choice_of : (form : Form) (r : Row) → (form ≡ All → ⊥) → fine_by form r ≡ true → (behind : List ℕ) × (wide r ≡ true) × (choice_fine behind (kinds_of r.first) r.parts ≡ true)
choice_of All r not_all f = absurd (not_all refl)
choice_of One r not_all f =
    let one = and_parts (wide r) (stops r && choice_fine (kinds_of r.follow) (kinds_of r.first) r.parts) f in
    (kinds_of r.follow, one.0, (and_parts (stops r) (choice_fine (kinds_of r.follow) (kinds_of r.first) r.parts) one.1).1)
choice_of Many r not_all f =
    let behind : List ℕ = kinds_of r.first ++ kinds_of r.follow in
    let one = and_parts (wide r) (stops r && (r.empty && choice_fine behind (kinds_of r.first) r.parts)) f in
    let two = and_parts (stops r) (r.empty && choice_fine behind (kinds_of r.first) r.parts) one.1 in
    (behind, one.0, (and_parts r.empty (choice_fine behind (kinds_of r.first) r.parts) two.1).1)

pub among_of : (form : Form) (r : Row) (k : ℕ) (p : Part) → (form ≡ All → ⊥) → May form r.parts k p → IsAmong p r.parts
among_of All r k p not_all may = absurd (not_all refl)
among_of One r k p not_all may = may.1
among_of Many r k p not_all may = may

pub empty_choice : (form : Form) (r : Row) → (form ≡ All → ⊥) → fine_by form r ≡ true → MayEnd form r 0 → r.empty ≡ true
empty_choice All r not_all f end = absurd (not_all refl)
empty_choice One r not_all f end = end refl
empty_choice Many r not_all f end =
    let behind : List ℕ = kinds_of r.first ++ kinds_of r.follow in
    let one = and_parts (wide r) (stops r && (r.empty && choice_fine behind (kinds_of r.first) r.parts)) f in
    let two = and_parts (stops r) (r.empty && choice_fine behind (kinds_of r.first) r.parts) one.1 in
    (and_parts r.empty (choice_fine behind (kinds_of r.first) r.parts) two.1).0

pub not_empty : (b : Bool) → not b ≡ true → b ≡ true → ⊥
not_empty true e f = let g : false ≡ true = e in cc
not_empty false e f = cc

choice_begun : (r : Row) (ts : Trees) (behind : List Token) → (r.form ≡ All → ⊥) → fine_by r.form r ≡ true → Are r 0 ts → EachBegun ts behind
    → ((leaves_all ts ≡ []) × (r.empty ≡ true)) ⊎ (begins r (leaves_all ts ++ behind) ≡ true)
choice_begun r none behind not_all f right begun = inl (refl, empty_choice r.form r not_all f right)
choice_begun r (more t ts) behind not_all f right begun =
    let choice = choice_of r.form r not_all f in
    let one = among_fine choice.0 (kinds_of r.first) r.parts (part_of t) choice.2 (among_of r.form r 0 (part_of t) not_all right.0) in
    elim begun.0 [
      | inl (own, empty) ↦ absurd (not_empty (empty_of (part_of t)) one.nonempty empty)
      | inr e ↦ inr (rw (append_assoc (leaves t) (leaves_all ts) behind)
          (wide_begins r _ choice.1 (first_subset (first_of (part_of t)) (kinds_of r.first) _ one.begin (begins_first (part_of t) _ e))))
    ]

pub empty_or : (b c : Bool) → (b || not c) ≡ true → c ≡ true → b ≡ true
empty_or true c e f = refl
empty_or false true e f = e
empty_or false false e f = f

list_begun : (r : Row) (ts : Trees) (behind : List Token) → r.form ≡ All → r.narrow ≡ false → fine_by r.form r ≡ true → Are r 0 ts → EachBegun ts behind
    → ((leaves_all ts ≡ []) × (r.empty ≡ true)) ⊎ (begins r (leaves_all ts ++ behind) ≡ true)
list_begun r ts behind form narrow f right begun =
    let g : fine_by All r ≡ true = rw form at f in
    let one = and_parts (r.narrow || (wide r && subset (first_of_all r.parts []) (kinds_of r.first))) ((r.empty || not (list_all empty_of r.parts)) && all_fine (kinds_of r.follow) r.parts) g in
    let two = and_parts (r.empty || not (list_all empty_of r.parts)) (all_fine (kinds_of r.follow) r.parts) one.1 in
    let broad = wide_or_narrow r (subset (first_of_all r.parts []) (kinds_of r.first)) narrow one.0 in
    elim (all_begun r.parts [] ts behind (are_of r 0 ts form right) begun) [
      | inl (own, empty) ↦ inl (own, empty_or r.empty (list_all empty_of r.parts) two.0 empty)
      | inr e ↦ inr (wide_begins r _ broad.0 (first_subset (first_of_all r.parts []) (kinds_of r.first) _ broad.1 e))
    ]

pub form_cases : (form : Form) → (form ≡ All) ⊎ (form ≡ All → ⊥)
form_cases All = inl refl
form_cases One = inr (λ e. cc)
form_cases Many = inr (λ e. cc)

node_begun : (n : ℕ) (ts : Trees) (behind : List Token) → Are (row n) 0 ts → ((row n).narrow ≡ true → begins (row n) (leaves_all ts ++ behind) ≡ true) → EachBegun ts behind
    → Begun (Nonterminal n) (leaves_all ts) behind
node_begun n ts behind right narrow begun = elim (cases_Bool (row n).narrow) [
  | inl e ↦ inr (narrow e)
  | inr e ↦ elim (form_cases (row n).form) [
    | inl form ↦ list_begun (row n) ts behind form e (row_fine n) right begun
    | inr other ↦ choice_begun (row n) ts behind other (row_fine n) right begun
  ]
]

pub same_kind : (k : ℕ) → (k == k) ≡ true
same_kind k = grind arith

mutual
  pub begun : (mark : Row → Bool) (t : Tree) (behind : List Token) → IsTree t → IsSettled mark t behind → Begun (part_of t) (leaves t) behind
  begun mark (Leaf x) behind right settled = inr (or_left (terminal x == terminal x) false (same_kind (terminal x)))
  begun mark (Node n ts) behind right settled = node_begun n ts behind right settled.0 (each_begun mark (row n) 0 ts behind right settled.1)

  pub each_begun : (mark : Row → Bool) (r : Row) (k : ℕ) (ts : Trees) (behind : List Token) → Are r k ts → AreSettled mark r k ts behind → EachBegun ts behind
  each_begun mark r k none behind right settled = tt
  each_begun mark r k (more t ts) behind right settled = (begun mark t (leaves_all ts ++ behind) right.1 settled.0, each_begun mark r (suc k) ts behind right.2 settled.1)
