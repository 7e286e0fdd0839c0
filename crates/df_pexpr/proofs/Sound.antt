-- What is read is a tree of the grammar, and stops where it can go no further.
use Rattle.std.proofs.Common.{◌≡◌, ℕ, zero, suc, ◌≤◌, ◌==◌, ◌⊎◌, inl, inr, Bool, true, false, not, ◌&&◌, cond, List, [], ◌∷◌, ◌++◌, length, Option, Some, None, slice_get, if◌then◌else◌, refl, sym, ap, ◌∙◌, subst, append_assoc, eqb-true, arith}
use Rattle.std.specs.Option.{option_and_then}
use Rattle.std.proofs.lemmas.Option.{same_Some}
use Rattle.df_tok.specs.Token.{Token}
use Rattle.df_tree.specs.declared.production.Form.{Form}
use Rattle.df_tree.specs.declared.production.Form.TheVariants.{All, One, Many}
use Rattle.df_tree.specs.declared.production.Part.{Part}
use Rattle.df_tree.specs.declared.production.Part.TheVariants.{Terminal, Nonterminal}
use Rattle.df_pexpr.specs.declared.reader.Step.{Step}
use Rattle.df_pexpr.specs.declared.reader.Step.TheVariants.{Read, Done, Fail}
use Rattle.df_tree.specs.Terminal.{terminal}
use Rattle.df_tree.specs.Tree.{Tree, Leaf, Node, Trees, none, more, trees_of, leaves, leaves_all}
use Rattle.df_tree.specs.Row.{Row}
use Rattle.df_tree.specs.Grammar.{row, part_of, IsAmong, May, MayEnd, IsTree, Are, begins, begins_part, chosen, is_open, Stops, IsSettled, AreSettled}
use Rattle.df_pexpr.specs.mirror.Reading.{Reading, Reader, chosen_step, placed_step, step, by_step, children, turn_limit, node, leaf, reader}
use Rattle.df_tree.proofs.Single.{if_cases}
use Rattle.df_tree.proofs.Followed.{any_row}
use Rattle.df_pexpr.proofs.Complete.{joined, joined_none, joined_more, length_pushed}

-- ---- the step

find_among : (parts : List Part) (p : Part) (tokens : List Token) → chosen parts tokens ≡ Some p → IsAmong p parts
find_among [] p tokens e = absurd cc
find_among (q ∷ qs) p tokens e = pick (begins_part q tokens) e (λ h. find_among qs p tokens h)
  where
    pick : (b : Bool) → cond b (Some q) (chosen qs tokens) ≡ Some p → (chosen qs tokens ≡ Some p → IsAmong p qs) → (q ≡ p) ⊎ IsAmong p qs
    pick true e h = inl (same_Some q p e)
    pick false e h = inr (h e)

placed_some : (o : Option Part) (p : Part) → placed_step o ≡ Read p → o ≡ Some p
placed_some (Some q) p e = cc
placed_some None p e = absurd cc

chosen_some : (empty : Bool) (o : Option Part) (p : Part) → chosen_step empty o ≡ Read p → o ≡ Some p
chosen_some empty (Some q) p e = cc
chosen_some true None p e = absurd cc
chosen_some false None p e = absurd cc

placed_done : (o : Option Part) → placed_step o ≡ Done → o ≡ None
placed_done (Some q) e = absurd cc
placed_done None e = refl

chosen_done : (empty : Bool) (o : Option Part) → chosen_step empty o ≡ Done → (empty ≡ true) × (o ≡ None)
chosen_done empty (Some q) e = absurd cc
chosen_done true None e = (refl, refl)
chosen_done false None e = absurd cc

read_means : (form : Form) (r : Row) (k : ℕ) (tokens : List Token) (p : Part) → step form r k tokens ≡ Read p → May form r.parts k p
read_means All r k tokens p e = placed_some (slice_get r.parts k) p e
read_means One r k tokens p e = elim (if_cases (k == 0) (chosen_step r.empty (chosen r.parts tokens)) Done (Read p) e) [
  | inl (first, f) ↦ (eqb-true k 0 first, find_among r.parts p tokens (chosen_some r.empty (chosen r.parts tokens) p f))
  | inr (later, f) ↦ absurd cc
]
read_means Many r k tokens p e = find_among r.parts p tokens (chosen_some r.empty (chosen r.parts tokens) p e)

past_get : (parts : List Part) (k : ℕ) (j : ℕ) → slice_get parts k ≡ None → k ≤ length parts → length parts ≡ k
past_get [] k j e le = omega (arith, le)
past_get (q ∷ qs) zero j e le = absurd cc
past_get (q ∷ qs) (suc k) j e le = ap suc (past_get qs k j e (omega (arith, le)))

-- no more trees than parts
abbrev pub Within : Form → Row → ℕ → Type 0
Within All r k = k ≤ length r.parts
Within One r k = Unit {0}
Within Many r k = Unit {0}

get_within : (parts : List Part) (k : ℕ) (p : Part) → slice_get parts k ≡ Some p → suc k ≤ length parts
get_within [] k p e = absurd cc
get_within (q ∷ qs) zero p e = omega arith
get_within (q ∷ qs) (suc k) p e = omega (arith, get_within qs k p e)

goes_within : (form : Form) (r : Row) (k : ℕ) (p : Part) → May form r.parts k p → Within form r (suc k)
goes_within All r k p may = get_within r.parts k p may
goes_within One r k p may = tt
goes_within Many r k p may = tt

begins_within : (form : Form) (r : Row) → Within form r 0
begins_within All r = omega arith
begins_within One r = tt
begins_within Many r = tt

end_means : (form : Form) (r : Row) (k : ℕ) (tokens : List Token) → step form r k tokens ≡ Done → Within form r k → MayEnd form r k × (is_open form k ≡ true → chosen r.parts tokens ≡ None)
end_means All r k tokens e within = (past_get r.parts k 0 (placed_done (slice_get r.parts k) e) within, λ f. absurd (let g : false ≡ true = f in cc))
end_means One r k tokens e within = elim (if_cases (k == 0) (chosen_step r.empty (chosen r.parts tokens)) Done Done e) [
  | inl (first, f) ↦ (let d = chosen_done r.empty (chosen r.parts tokens) f in (λ z. d.0, λ o. d.1))
  | inr (later, f) ↦ (λ z. absurd (let g : (k == 0) ≡ true = rw z refl in cc), λ o. absurd cc)
]
end_means Many r k tokens e within = let d = chosen_done r.empty (chosen r.parts tokens) e in (tt, λ o. d.1)

-- ---- the trees of a production

-- what was read at these tokens
pub record IsReading (p : Part) (tokens : List Token) (x : Reading) : Type 0 where
  pub part : part_of x.tree ≡ p
  pub right : IsTree x.tree
  pub spelled : leaves x.tree ++ x.behind ≡ tokens
  pub settled : IsSettled any_row x.tree x.behind

-- what was read behind the trees before
record IsRest (n k : ℕ) (before : List Tree) (tokens : List Token) (x : Reading) : Type 0 where
  pub trees : Trees
  pub is : x.tree ≡ Node n (joined before trees)
  pub right : Are (row n) k trees
  pub spelled : leaves_all trees ++ x.behind ≡ tokens
  pub settled : AreSettled any_row (row n) k trees x.behind

pub then_some : {A B : Type 0} (f : A → Option B) (o : Option A) (y : B) → option_and_then f o ≡ Some y → (x : A) × (o ≡ Some x) × (f x ≡ Some y)
then_some f (Some x) y e = (x, refl, e)
then_some f None y e = absurd cc

abbrev Sound : Reader → Type 0
Sound read = (p : Part) (tokens : List Token) (x : Reading) → read p tokens ≡ Some x → IsReading p tokens x

in_front : (n k : ℕ) (before : List Tree) (tokens : List Token) (p : Part) (y x : Reading) → May (row n).form (row n).parts k p → IsReading p tokens y → IsRest n (suc k) (before ++ y.tree ∷ []) y.behind x
    → IsRest n k before tokens x
in_front n k before tokens p y x may one others = record {
  trees = more y.tree others.trees;
  is = others.is ∙ ap (Node n) (joined_more before y.tree others.trees);
  right = (rw one.part may, one.right, others.right);
  spelled = append_assoc (leaves y.tree) (leaves_all others.trees) x.behind ∙ ap (λ ts. leaves y.tree ++ ts) others.spelled ∙ one.spelled;
  settled = (subst (IsSettled any_row y.tree) (sym others.spelled) one.settled, others.settled);
}

at_end : (n k : ℕ) (before : List Tree) (tokens : List Token) (x : Reading) → MayEnd (row n).form (row n) k → Stops (row n) k tokens → record { tree = Node n (trees_of before); behind = tokens } ≡ x → IsRest n k before tokens x
at_end n k before tokens x end stops same = subst (IsRest n k before tokens) same (record {
  trees = none;
  is = ap (Node n) (sym (joined_none before));
  right = end;
  spelled = refl;
  settled = λ marked. stops;
})

by_step_sound : (n k : ℕ) (before : List Tree) (tokens : List Token) (x : Reading) (reads : Part → Option Reading) (s : Step) → step (row n).form (row n) k tokens ≡ s → Within (row n).form (row n) k
    → by_step (Some (record { tree = Node n (trees_of before); behind = tokens })) reads s ≡ Some x
    → ((p : Part) → May (row n).form (row n).parts k p → reads p ≡ Some x → IsRest n k before tokens x)
    → IsRest n k before tokens x
by_step_sound n k before tokens x reads Fail e within f goes_on = absurd cc
by_step_sound n k before tokens x reads Done e within f goes_on =
    let means = end_means (row n).form (row n) k tokens e within in
    at_end n k before tokens x means.0 means.1 (same_Some _ x f)
by_step_sound n k before tokens x reads (Read p) e within f goes_on = goes_on p (read_means (row n).form (row n) k tokens p e) f

children_sound : (read : Reader) → Sound read → (room n k : ℕ) (before : List Tree) (tokens : List Token) (x : Reading) → length before ≡ k → Within (row n).form (row n) k
    → children read room n before tokens ≡ Some x → IsRest n k before tokens x
unfolding children
children_sound read sound zero n k before tokens x at within e = absurd cc
children_sound read sound (suc room) n k before tokens x at within e =
    by_step_sound n k before tokens x _ (step (row n).form (row n) (length before) tokens) (rw at refl) within e
    (λ p may f.
    let done = then_some (λ (y : Reading). children read room n (before ++ y.tree ∷ []) y.behind) (read p tokens) x f in
    in_front n k before tokens p done.0 x may (sound p tokens done.0 done.1)
    (children_sound read sound room n (suc k) (before ++ done.0.tree ∷ []) done.0.behind x (length_pushed before done.0.tree ∙ ap suc at)
    (goes_within (row n).form (row n) k p may) done.2))

-- ---- the whole

leaf_sound : (kind : ℕ) (tokens : List Token) (x : Reading) → leaf kind tokens ≡ Some x → IsReading (Terminal kind) tokens x
leaf_sound kind [] x e = absurd cc
leaf_sound kind (t ∷ ts) x e = elim (if_cases ((terminal t) == kind) (Some (record { tree = Leaf t; behind = ts })) None (Some x) e) [
  | inl (same, f) ↦ subst (IsReading (Terminal kind) (t ∷ ts)) (same_Some _ x f)
      (record { part = ap Terminal (eqb-true (terminal t) kind same); right = tt; spelled = refl; settled = tt })
  | inr (other, f) ↦ absurd cc
]

not_refused : (b c : Bool) → (b && not c) ≡ false → b ≡ true → c ≡ true
not_refused true true e f = refl
not_refused true false e f = sym e
not_refused false c e f = absurd cc

node_sound : (left n : ℕ) (tokens : List Token) (x : Reading) → Sound (reader left) → node (reader left) n tokens ≡ Some x → IsReading (Nonterminal n) tokens x
node_sound left n tokens x sound e = elim (if_cases ((row n).narrow && not (begins (row n) tokens)) None (children (reader left) turn_limit n [] tokens) (Some x) e) [
  | inl (narrow, f) ↦ absurd cc
  | inr (narrow, f) ↦
      (let rest = children_sound (reader left) sound turn_limit n 0 [] tokens x refl (begins_within (row n).form (row n)) f in
      record {
        part = ap part_of rest.is;
        right = subst IsTree (sym rest.is) rest.right;
        spelled = ap (λ t. leaves t ++ x.behind) rest.is ∙ rest.spelled;
        settled = subst (λ t. IsSettled any_row t x.behind) (sym rest.is) ((λ h. rw rest.spelled (not_refused (row n).narrow (begins (row n) tokens) narrow h)), rest.settled);
      })
]

pub sound : (left : ℕ) (p : Part) (tokens : List Token) (x : Reading) → reader left p tokens ≡ Some x → IsReading p tokens x
sound left (Terminal kind) tokens x e = leaf_sound kind tokens x e
sound zero (Nonterminal n) tokens x e = absurd cc
sound (suc left) (Nonterminal n) tokens x e = node_sound left n tokens x (λ q others y f. sound left q others y f) e
