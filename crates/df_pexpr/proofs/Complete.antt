-- The reader finds the tree where all productions stop.
use Rattle.std.proofs.Common.{◌≡◌, ℕ, zero, suc, ◌<◌, ◌≤◌, ◌==◌, inl, inr, Bool, true, false, not, ◌&&◌, ◌||◌, cond, List, [], ◌∷◌, ◌++◌, length, Option, Some, None, slice_get, if◌then◌else◌, refl, sym, ap, ◌∙◌, subst, append_assoc, length-append, eqb-true, arith}
use Rattle.std.specs.List.{list_all}
use Rattle.std.specs.Option.{option_and_then}
use Rattle.std.proofs.lemmas.Bool.{cases_Bool, and_parts, and_from}
use Rattle.df_tok.specs.Token.{Token}
use Rattle.df_tree.specs.declared.production.Form.{Form}
use Rattle.df_tree.specs.declared.production.Form.TheVariants.{All, One, Many}
use Rattle.df_tree.specs.declared.production.Part.{Part}
use Rattle.df_pexpr.specs.declared.reader.Step.{Step}
use Rattle.df_pexpr.specs.declared.reader.Step.TheVariants.{Read, Done}
use Rattle.df_tree.specs.Terminal.{terminal}
use Rattle.df_tree.specs.Tree.{Tree, Leaf, Node, Trees, none, more, trees_of, leaves, leaves_all}
use Rattle.df_tree.specs.Row.{Row}
use Rattle.df_tree.specs.Grammar.{row, kinds_of, part_of, IsAmong, May, MayEnd, IsTree, Are, begins, begins_part, chosen, is_open, IsSettled, AreSettled}
use Rattle.df_pexpr.specs.mirror.Reading.{Reading, Reader, chosen_step, placed_step, step, by_step, children, turn_limit, reader}
use Rattle.df_tree.proofs.Classes.{subset, apart, first_apart}
use Rattle.df_tree.proofs.Fine.{first_of, empty_of, follows, first_of_all, wide, all_fine, choice_fine, stops, fine_by, row_fine, row_short}
use Rattle.df_tree.proofs.Begun.{begins_first, among_fine, Begun, EachBegun, AreOf, are_of, begun, each_begun, empty_or, form_cases, choice_of, among_of, empty_choice, not_empty, same_kind}
use Rattle.df_tree.proofs.Chosen.{begins_choice, get_past}
use Rattle.df_tree.proofs.Deep.{depth, depth_all}
use Rattle.df_tree.proofs.Followed.{any_row}

-- ---- the step

step_reads : (form : Form) (r : Row) (k : ℕ) (p : Part) (own behind : List Token) → fine_by form r ≡ true → May form r.parts k p → Begun p own behind → step form r k (own ++ behind) ≡ Read p
step_reads All r k p own behind f may b = ap placed_step may
step_reads One r k p own behind f may b =
    let e : (k == 0) ≡ true = rw may.0 refl in
    rw e (ap (chosen_step r.empty) (begins_choice r One k p own behind (λ h. cc) f may b))
step_reads Many r k p own behind f may b = ap (chosen_step r.empty) (begins_choice r Many k p own behind (λ h. cc) f may b)

ends_choice : (empty : Bool) (o : Option Part) → empty ≡ true → o ≡ None → chosen_step empty o ≡ Done
ends_choice empty o e f = rw f (rw e refl)

many_empty : (r : Row) → fine_by Many r ≡ true → r.empty ≡ true
many_empty r f = empty_choice Many r (λ h. cc) f tt

step_ends : (form : Form) (r : Row) (k : ℕ) (tokens : List Token) → fine_by form r ≡ true → MayEnd form r k → (is_open form k ≡ true → chosen r.parts tokens ≡ None) → step form r k tokens ≡ Done
step_ends All r k tokens f may stops = ap placed_step (get_past r.parts k may)
step_ends One r k tokens f may stops = elim (cases_Bool (k == 0)) [
  | inl e ↦ rw e (ends_choice r.empty (chosen r.parts tokens) (may (eqb-true k 0 e)) (stops e))
  | inr e ↦ rw e refl
]
step_ends Many r k tokens f may stops = ends_choice r.empty (chosen r.parts tokens) (many_empty r f) (stops refl)

-- ---- the trees of a production

-- trees behind others
abbrev pub joined : List Tree → Trees → Trees
joined [] ts = ts
joined (t ∷ before) ts = more t (joined before ts)

pub joined_none : (before : List Tree) → joined before none ≡ trees_of before
joined_none [] = refl
joined_none (t ∷ before) = ap (more t) (joined_none before)

pub joined_more : (before : List Tree) (t : Tree) (ts : Trees) → joined (before ++ t ∷ []) ts ≡ joined before (more t ts)
joined_more [] t ts = refl
joined_more (u ∷ before) t ts = ap (more u) (joined_more before t ts)

pub length_pushed : (before : List Tree) (t : Tree) → length (before ++ t ∷ []) ≡ suc (length before)
length_pushed [] t = refl
length_pushed (u ∷ before) t = ap suc (length_pushed before t)

abbrev pub count : Trees → ℕ
count none = 0
count (more t ts) = suc (count ts)

abbrev pub EachRead : Reader → Trees → List Token → Type 0
EachRead read none behind = Unit {0}
EachRead read (more t ts) behind =
    (read (part_of t) (leaves t ++ (leaves_all ts ++ behind)) ≡ Some (record { tree = t; behind = leaves_all ts ++ behind })) × EachRead read ts behind

stepped : {A : Type 0} (f : Step → A) (s t : Step) (y : A) → s ≡ t → f t ≡ y → f s ≡ y
stepped f s t y e g = ap f e ∙ g

children_complete : (read : Reader) (turns n k : ℕ) (before : List Tree) (ts : Trees) (behind : List Token) → length before ≡ k → Are (row n) k ts → AreSettled any_row (row n) k ts behind
    → EachBegun ts behind → EachRead read ts behind → count ts < turns → children read turns n before (leaves_all ts ++ behind) ≡ Some (record { tree = Node n (joined before ts); behind = behind })
unfolding children
children_complete read zero n k before ts behind at right settled begun reads lt = absurd (omega (arith, lt))
children_complete read (suc turns) n k before none behind at right settled begun reads lt =
    stepped (by_step (Some (record { tree = Node n (trees_of before); behind = behind })) _) (step (row n).form (row n) (length before) behind) Done _
    (rw at (step_ends (row n).form (row n) k behind (row_fine n) right (settled refl)))
    (ap (λ ts. Some (record { tree = Node n ts; behind = behind })) (sym (joined_none before)))
children_complete read (suc turns) n k before (more t ts) behind at right settled begun reads lt =
    let rest : List Token = leaves_all ts ++ behind in
    let later : children read turns n (before ++ t ∷ []) rest ≡ Some (record { tree = Node n (joined (before ++ t ∷ []) ts); behind = behind }) =
    children_complete read turns n (suc k) (before ++ t ∷ []) ts behind (length_pushed before t ∙ ap suc at) right.2 settled.1 begun.1 reads.1 (omega (arith, lt)) in
    rw (append_assoc (leaves t) (leaves_all ts) behind)
    (stepped (by_step (Some (record { tree = Node n (trees_of before); behind = leaves t ++ rest })) _) (step (row n).form (row n) (length before) (leaves t ++ rest)) (Read (part_of t)) _
    (rw at (step_reads (row n).form (row n) k (part_of t) (leaves t) rest (row_fine n) right.0 begun.0))
    (ap (option_and_then (λ (x : Reading). children read turns n (before ++ x.tree ∷ []) x.behind)) reads.0
    ∙ later ∙ ap (λ ts. Some (record { tree = Node n ts; behind = behind })) (joined_more before t ts)))

-- ---- there is room

append_nothing : (xs ys : List Token) → xs ++ ys ≡ [] → (xs ≡ []) × (ys ≡ [])
append_nothing [] ys e = (refl, e)
append_nothing (x ∷ xs) ys e = absurd cc

abbrev pub EachEmpty : Trees → Type 0
EachEmpty none = Unit {0}
EachEmpty (more t ts) = (leaves t ≡ [] → empty_of (part_of t) ≡ true) × EachEmpty ts

all_empty : (ps : List Part) (ts : Trees) → AreOf ps ts → EachEmpty ts → leaves_all ts ≡ [] → list_all empty_of ps ≡ true
all_empty [] ts of each e = refl
all_empty (p ∷ ps) none of each e = absurd of
all_empty (p ∷ ps) (more t ts) of each e =
    let parts = append_nothing (leaves t) (leaves_all ts) e in
    and_from (empty_of p) (list_all empty_of ps) (rw of.0 (each.0 parts.0)) (all_empty ps ts of.1 each.1 parts.1)

choice_empty : (r : Row) (ts : Trees) → (r.form ≡ All → ⊥) → fine_by r.form r ≡ true → Are r 0 ts → EachEmpty ts → leaves_all ts ≡ [] → r.empty ≡ true
choice_empty r none not_all f right each e = empty_choice r.form r not_all f right
choice_empty r (more t ts) not_all f right each e =
    let choice = choice_of r.form r not_all f in
    let one = among_fine choice.0 (kinds_of r.first) r.parts (part_of t) choice.2 (among_of r.form r 0 (part_of t) not_all right.0) in
    absurd (not_empty (empty_of (part_of t)) one.nonempty (each.0 (append_nothing (leaves t) (leaves_all ts) e).0))

list_empty : (r : Row) (ts : Trees) → r.form ≡ All → fine_by r.form r ≡ true → Are r 0 ts → EachEmpty ts → leaves_all ts ≡ [] → r.empty ≡ true
list_empty r ts form f right each e =
    let g : fine_by All r ≡ true = rw form at f in
    let one = and_parts (r.narrow || (wide r && subset (first_of_all r.parts []) (kinds_of r.first))) ((r.empty || not (list_all empty_of r.parts)) && all_fine (kinds_of r.follow) r.parts) g in
    let two = and_parts (r.empty || not (list_all empty_of r.parts)) (all_fine (kinds_of r.follow) r.parts) one.1 in
    empty_or r.empty (list_all empty_of r.parts) two.0 (all_empty r.parts ts (are_of r 0 ts form right) each e)

mutual
  no_tokens : (t : Tree) → IsTree t → leaves t ≡ [] → empty_of (part_of t) ≡ true
  no_tokens (Leaf x) right e = absurd cc
  no_tokens (Node n ts) right e = elim (form_cases (row n).form) [
    | inl form ↦ list_empty (row n) ts form (row_fine n) right (each_empty (row n) 0 ts right) e
    | inr other ↦ choice_empty (row n) ts other (row_fine n) right (each_empty (row n) 0 ts right) e
  ]

  each_empty : (r : Row) (k : ℕ) (ts : Trees) → Are r k ts → EachEmpty ts
  each_empty r k none right = tt
  each_empty r k (more t ts) right = (λ e. no_tokens t right.1 e, each_empty r (suc k) ts right.2)

count_all : (ps : List Part) (ts : Trees) → AreOf ps ts → count ts ≡ length ps
count_all [] none of = refl
count_all [] (more t ts) of = absurd of
count_all (p ∷ ps) none of = absurd of
count_all (p ∷ ps) (more t ts) of = ap suc (count_all ps ts of.1)

one_or_more : (xs : List Token) → (xs ≡ [] → ⊥) → 1 ≤ length xs
one_or_more [] h = absurd (h refl)
one_or_more (x ∷ xs) h = omega arith

count_many : (r : Row) (k : ℕ) (ts : Trees) → r.form ≡ Many → fine_by Many r ≡ true → Are r k ts → EachEmpty ts → count ts ≤ length (leaves_all ts)
count_many r k none form f right each = omega arith
count_many r k (more t ts) form f right each =
    let may : IsAmong (part_of t) r.parts = rw form at right.0 in
    let choice = choice_of Many r (λ h. cc) f in
    let one = among_fine choice.0 (kinds_of r.first) r.parts (part_of t) choice.2 may in
    let some : 1 ≤ length (leaves t) = one_or_more (leaves t) (λ e. not_empty (empty_of (part_of t)) one.nonempty (each.0 e)) in
    let others : count ts ≤ length (leaves_all ts) = count_many r (suc k) ts form f right.2 each.1 in
    omega (arith, some, others, length-append (leaves t) (leaves_all ts))

count_one : (r : Row) (ts : Trees) → r.form ≡ One → Are r 0 ts → count ts ≤ 1
count_one r none form right = omega arith
count_one r (more t none) form right = omega arith
count_one r (more t (more u ts)) form right =
    let may : May One r.parts 1 (part_of u) = rw form at right.2.0 in
    absurd (omega (arith, may.0))

-- how many tokens a text has at most
abbrev pub token_limit : ℕ
token_limit = 9223372036854775808

has_room : (form : Form) (n : ℕ) (ts : Trees) → (row n).form ≡ form → fine_by form (row n) ≡ true → Are (row n) 0 ts → length (leaves_all ts) < token_limit → count ts < turn_limit
has_room All n ts form f right lt = omega (arith, count_all (row n).parts ts (are_of (row n) 0 ts form right), row_short n)
has_room One n ts form f right lt = omega (arith, count_one (row n) ts form right)
has_room Many n ts form f right lt = omega (arith, count_many (row n) 0 ts form f right (each_empty (row n) 0 ts right), lt)

-- ---- the whole

passes : {A : Type 0} (b c : Bool) (x y : A) → (b ≡ true → c ≡ true) → (if b && not c then x else y) ≡ y
passes true true x y h = refl
passes true false x y h = absurd (let e : false ≡ true = h refl in cc)
passes false c x y h = refl

mutual
  pub complete : (left : ℕ) (t : Tree) (behind : List Token) → IsTree t → IsSettled any_row t behind → depth t ≤ left → length (leaves t) < token_limit
      → reader left (part_of t) (leaves t ++ behind) ≡ Some (record { tree = t; behind = behind })
  complete left (Leaf x) behind right settled low few = ap (λ b. if b then Some (record { tree = Leaf x; behind = behind }) else None) (same_kind (terminal x))
  complete zero (Node n ts) behind right settled low few = absurd (omega (arith, low))
  complete (suc left) (Node n ts) behind right settled low few =
      let tokens : List Token = leaves_all ts ++ behind in
      passes (row n).narrow (begins (row n) tokens) None (children (reader left) turn_limit n [] tokens) settled.0
      ∙ children_complete (reader left) turn_limit n 0 [] ts behind refl right settled.1 (each_begun any_row (row n) 0 ts behind right settled.1)
      (each_complete left (row n) 0 ts behind right settled.1 (omega (arith, low)) few) (has_room (row n).form n ts refl (row_fine n) right few)

  each_complete : (left : ℕ) (r : Row) (k : ℕ) (ts : Trees) (behind : List Token) → Are r k ts → AreSettled any_row r k ts behind → depth_all ts ≤ left → length (leaves_all ts) < token_limit → EachRead (reader left) ts behind
  each_complete left r k none behind right settled low few = tt
  each_complete left r k (more t ts) behind right settled low few = (
    complete left t (leaves_all ts ++ behind) right.1 settled.0 (omega (arith, low)) (omega (arith, few, length-append (leaves t) (leaves_all ts))),
    each_complete left r (suc k) ts behind right.2 settled.1 (omega (arith, low)) (omega (arith, few, length-append (leaves t) (leaves_all ts))),
  )
