-- Where the greedy productions stop, all do.
use Rattle.std.proofs.Common.{◌≡◌, ℕ, suc, inl, inr, Bool, true, false, not, ◌&&◌, ◌||◌, List, [], ◌∷◌, ◌++◌, Some, None, refl, subst, ◌∙◌, append_assoc, eqb-true, cond, arith}
use Rattle.std.specs.List.{list_all}
use Rattle.std.proofs.lemmas.Bool.{cases_Bool, and_parts}
use Rattle.df_tok.specs.Token.{Token}
use Rattle.df_tree.specs.declared.production.Form.{Form}
use Rattle.df_tree.specs.declared.production.Form.TheVariants.{All, One, Many}
use Rattle.df_tree.specs.declared.production.Part.{Part}
use Rattle.df_tree.specs.declared.production.Part.TheVariants.{Terminal, Nonterminal}
use Rattle.df_tree.specs.Tree.{Tree, Leaf, Node, Trees, none, more, leaves, leaves_all}
use Rattle.df_tree.specs.Row.{Row}
use Rattle.df_tree.specs.Grammar.{row, kinds_of, part_of, IsAmong, May, MayEnd, IsTree, Are, first_in, begins_part, chosen, is_open, Stops, IsSettled, AreSettled}
use Rattle.df_tree.proofs.Classes.{subset, apart, first_subset, first_left, first_right, MayCome, come_subset, come_apart}
use Rattle.df_tree.proofs.Fine.{first_of, empty_of, follows, first_of_all, wide, all_fine, choice_fine, stops, fine_by, row_fine}
use Rattle.df_tree.proofs.Begun.{begins_first, among_fine, EachBegun, AreOf, are_of, all_come, each_begun, other_side, not_empty}
use Rattle.df_tree.proofs.Chosen.{passed_over}

-- what comes behind a tree of the part
abbrev pub Follows : Part → List Token → Type 0
Follows (Terminal kind) behind = Unit {0}
Follows (Nonterminal n) behind = MayCome (kinds_of (row n).follow) behind

abbrev pub EachFollowed : Trees → List Token → Type 0
EachFollowed none behind = Unit {0}
EachFollowed (more t ts) behind = Follows (part_of t) (leaves_all ts ++ behind) × EachFollowed ts behind

follows_come : (p : Part) (kinds : List ℕ) (behind : List Token) → follows kinds p ≡ true → MayCome kinds behind → Follows p behind
follows_come (Terminal kind) kinds behind f come = tt
follows_come (Nonterminal n) kinds behind f come = come_subset kinds (kinds_of (row n).follow) behind f come

all_followed : (ps : List Part) (kinds : List ℕ) (ts : Trees) (behind : List Token) → all_fine kinds ps ≡ true → AreOf ps ts → EachBegun ts behind → MayCome kinds behind → EachFollowed ts behind
all_followed [] kinds none behind f of begun come = tt
all_followed [] kinds (more t ts) behind f of begun come = absurd of
all_followed (p ∷ ps) kinds none behind f of begun come = absurd of
all_followed (p ∷ ps) kinds (more t ts) behind f of begun come =
    let parts = and_parts (follows (first_of_all ps kinds) p) (all_fine kinds ps) f in (
      subst (λ q. Follows q (leaves_all ts ++ behind)) of.0 (follows_come p (first_of_all ps kinds) (leaves_all ts ++ behind) parts.0 (all_come ps kinds ts behind of.1 begun.1 come)),
      all_followed ps kinds ts behind parts.1 of.1 begun.1 come,
    )

one_followed : (r : Row) (ts : Trees) (behind : List Token) → fine_by One r ≡ true → r.form ≡ One → Are r 0 ts → MayCome (kinds_of r.follow) behind → EachFollowed ts behind
one_followed r none behind f form right come = tt
one_followed r (more t none) behind f form right come =
    let may : May One r.parts 0 (part_of t) = rw form at right.0 in
    let one = and_parts (wide r) (stops r && choice_fine (kinds_of r.follow) (kinds_of r.first) r.parts) f in
    let two = and_parts (stops r) (choice_fine (kinds_of r.follow) (kinds_of r.first) r.parts) one.1 in
    let choice = among_fine (kinds_of r.follow) (kinds_of r.first) r.parts (part_of t) two.1 may.1 in
    (follows_come (part_of t) (kinds_of r.follow) behind choice.follow come, tt)
one_followed r (more t (more u ts)) behind f form right come =
    let may : May One r.parts 1 (part_of u) = rw form at right.2.0 in
    absurd (omega (arith, may.0))

many_come : (r : Row) (choices : List ℕ) (k : ℕ) (ts : Trees) (behind : List Token) → choice_fine choices (kinds_of r.first) r.parts ≡ true → r.form ≡ Many → Are r k ts → EachBegun ts behind
    → MayCome (kinds_of r.follow) behind → MayCome (kinds_of r.first ++ kinds_of r.follow) (leaves_all ts ++ behind)
many_come r choices k none behind f form right begun come = elim come [
  | inl e ↦ inl e
  | inr e ↦ inr (first_right (kinds_of r.first) (kinds_of r.follow) behind e)
]
many_come r choices k (more t ts) behind f form right begun come =
    let may : IsAmong (part_of t) r.parts = rw form at right.0 in
    let choice = among_fine choices (kinds_of r.first) r.parts (part_of t) f may in
    elim begun.0 [
      | inl (own, empty) ↦ absurd (not_empty (empty_of (part_of t)) choice.nonempty empty)
      | inr e ↦ inr (rw (append_assoc (leaves t) (leaves_all ts) behind)
          (first_left (kinds_of r.first) (kinds_of r.follow) _ (first_subset (first_of (part_of t)) (kinds_of r.first) _ choice.begin (begins_first (part_of t) _ e))))
    ]

many_followed : (r : Row) (k : ℕ) (ts : Trees) (behind : List Token) → choice_fine (kinds_of r.first ++ kinds_of r.follow) (kinds_of r.first) r.parts ≡ true → r.form ≡ Many → Are r k ts → EachBegun ts behind
    → MayCome (kinds_of r.follow) behind → EachFollowed ts behind
many_followed r k none behind f form right begun come = tt
many_followed r k (more t ts) behind f form right begun come =
    let may : IsAmong (part_of t) r.parts = rw form at right.0 in
    let behind_it : List ℕ = kinds_of r.first ++ kinds_of r.follow in
    let choice = among_fine behind_it (kinds_of r.first) r.parts (part_of t) f may in (
      follows_come (part_of t) behind_it (leaves_all ts ++ behind) choice.follow (many_come r behind_it (suc k) ts behind f form right.2 begun.1 come),
      many_followed r (suc k) ts behind f form right.2 begun.1 come,
    )

followed_by : (form : Form) (r : Row) (ts : Trees) (behind : List Token) → r.form ≡ form → fine_by form r ≡ true → Are r 0 ts → EachBegun ts behind → MayCome (kinds_of r.follow) behind → EachFollowed ts behind
followed_by All r ts behind form f right begun come =
    let one = and_parts (r.narrow || (wide r && subset (first_of_all r.parts []) (kinds_of r.first))) ((r.empty || not (list_all empty_of r.parts)) && all_fine (kinds_of r.follow) r.parts) f in
    let two = and_parts (r.empty || not (list_all empty_of r.parts)) (all_fine (kinds_of r.follow) r.parts) one.1 in
    all_followed r.parts (kinds_of r.follow) ts behind two.1 (are_of r 0 ts form right) begun come
followed_by One r ts behind form f right begun come = one_followed r ts behind f form right come
followed_by Many r ts behind form f right begun come =
    let behind_it : List ℕ = kinds_of r.first ++ kinds_of r.follow in
    let one = and_parts (wide r) (stops r && (r.empty && choice_fine behind_it (kinds_of r.first) r.parts)) f in
    let two = and_parts (stops r) (r.empty && choice_fine behind_it (kinds_of r.first) r.parts) one.1 in
    let three = and_parts r.empty (choice_fine behind_it (kinds_of r.first) r.parts) two.1 in
    many_followed r 0 ts behind three.1 form right begun come

-- ---- where a production stops

none_begins : (behind first : List ℕ) (parts : List Part) (tokens : List Token) → choice_fine behind first parts ≡ true → (first_in first tokens ≡ true → ⊥) → chosen parts tokens ≡ None
none_begins behind first [] tokens f never = refl
none_begins behind first (p ∷ ps) tokens f never =
    let one = and_parts (not (empty_of p)) (subset (first_of p) first && (follows behind p && (list_all (λ s. apart (first_of p) (first_of s)) ps && choice_fine behind first ps))) f in
    let two = and_parts (subset (first_of p) first) (follows behind p && (list_all (λ s. apart (first_of p) (first_of s)) ps && choice_fine behind first ps)) one.1 in
    let three = and_parts (follows behind p) (list_all (λ s. apart (first_of p) (first_of s)) ps && choice_fine behind first ps) two.1 in
    let four = and_parts (list_all (λ s. apart (first_of p) (first_of s)) ps) (choice_fine behind first ps) three.1 in
    passed_over p ps tokens (λ e. never (first_subset (first_of p) first tokens two.0 (begins_first p tokens e))) ∙ none_begins behind first ps tokens four.1 never

-- the two sides where a production that is not greedy may end
stops_apart : (r : Row) → r.greedy ≡ false → r.empty ≡ true → stops r ≡ true → apart (kinds_of r.first) (kinds_of r.follow) ≡ true
stops_apart r lazy empty s = other_side (not r.empty) (apart (kinds_of r.first) (kinds_of r.follow)) (rw empty refl) (other_side r.greedy (not r.empty || apart (kinds_of r.first) (kinds_of r.follow)) lazy s)

stop_by : (form : Form) (r : Row) (k : ℕ) (behind : List Token) → r.greedy ≡ false → fine_by form r ≡ true → MayEnd form r k → is_open form k ≡ true → MayCome (kinds_of r.follow) behind → chosen r.parts behind ≡ None
stop_by All r k behind lazy f end still come = absurd (let g : false ≡ true = still in cc)
stop_by One r k behind lazy f end still come =
    let one = and_parts (wide r) (stops r && choice_fine (kinds_of r.follow) (kinds_of r.first) r.parts) f in
    let two = and_parts (stops r) (choice_fine (kinds_of r.follow) (kinds_of r.first) r.parts) one.1 in
    none_begins (kinds_of r.follow) (kinds_of r.first) r.parts behind two.1
    (come_apart (kinds_of r.first) (kinds_of r.follow) behind (stops_apart r lazy (end (eqb-true k 0 still)) two.0) come)
stop_by Many r k behind lazy f end still come =
    let behind_it : List ℕ = kinds_of r.first ++ kinds_of r.follow in
    let one = and_parts (wide r) (stops r && (r.empty && choice_fine behind_it (kinds_of r.first) r.parts)) f in
    let two = and_parts (stops r) (r.empty && choice_fine behind_it (kinds_of r.first) r.parts) one.1 in
    let three = and_parts r.empty (choice_fine behind_it (kinds_of r.first) r.parts) two.1 in
    none_begins behind_it (kinds_of r.first) r.parts behind three.1
    (come_apart (kinds_of r.first) (kinds_of r.follow) behind (stops_apart r lazy three.0 two.0) come)

stop_all : (r : Row) (k : ℕ) (behind : List Token) → fine_by r.form r ≡ true → MayEnd r.form r k → (r.greedy ≡ true → Stops r k behind) → MayCome (kinds_of r.follow) behind → Stops r k behind
stop_all r k behind f end greedy come = λ still. elim (cases_Bool r.greedy) [
  | inl e ↦ greedy e still
  | inr e ↦ stop_by r.form r k behind e f end still come
]

-- ---- the whole

abbrev pub greedy_row : Row → Bool
greedy_row r = r.greedy

abbrev pub any_row : Row → Bool
any_row r = true

mutual
  pub settled_all : (t : Tree) (behind : List Token) → IsTree t → IsSettled greedy_row t behind → Follows (part_of t) behind → IsSettled any_row t behind
  settled_all (Leaf x) behind right settled come = tt
  settled_all (Node n ts) behind right settled come = (
    settled.0,
    each_settled (row n) 0 ts behind (row_fine n) right settled.1 come
        (followed_by (row n).form (row n) ts behind refl (row_fine n) right (each_begun greedy_row (row n) 0 ts behind right settled.1) come),
  )

  each_settled : (r : Row) (k : ℕ) (ts : Trees) (behind : List Token) → fine_by r.form r ≡ true → Are r k ts → AreSettled greedy_row r k ts behind → MayCome (kinds_of r.follow) behind → EachFollowed ts behind
      → AreSettled any_row r k ts behind
  each_settled r k none behind f right settled come followed = λ marked. stop_all r k behind f right settled come
  each_settled r k (more t ts) behind f right settled come followed =
      (settled_all t (leaves_all ts ++ behind) right.1 settled.0 followed.0, each_settled r (suc k) ts behind f right.2 settled.1 come followed.1)

-- a whole text ends where its production may
pub nothing_follows : (n : ℕ) (p : Part) → p ≡ Nonterminal n → Follows p []
nothing_follows n p e = rw e (inl refl)

mutual
  pub settled_greedy : (t : Tree) (behind : List Token) → IsSettled any_row t behind → IsSettled greedy_row t behind
  settled_greedy (Leaf x) behind settled = tt
  settled_greedy (Node n ts) behind settled = (settled.0, each_greedy (row n) 0 ts behind settled.1)

  each_greedy : (r : Row) (k : ℕ) (ts : Trees) (behind : List Token) → AreSettled any_row r k ts behind → AreSettled greedy_row r k ts behind
  each_greedy r k none behind settled = λ marked. settled refl
  each_greedy r k (more t ts) behind settled = (settled_greedy t (leaves_all ts ++ behind) settled.0, each_greedy r (suc k) ts behind settled.1)
