-- From each tree of some productions just one syntax tree is built.
use Rattle.std.proofs.Common.{◌≡◌, ℕ, zero, suc, ◌+◌, Bool, true, false, not, ◌&&◌, List, [], ◌∷◌, ◌++◌, length, if◌then◌else◌, ◌⊎◌, inl, inr, Option, None, refl, sym, subst, ap, ◌∙◌, arith}
use Rattle.std.specs.List.{list_all}
use Rattle.std.proofs.lemmas.Bool.{and_parts}
use Rattle.df_tree.specs.declared.label.Way.{Way}
use Rattle.df_tree.specs.declared.label.Way.TheVariants.{Pass, Title, Wrap, Make, Close}
use Rattle.df_tree.specs.declared.production.Form.{Form}
use Rattle.df_tree.specs.declared.production.Form.TheVariants.{All, One, Many}
use Rattle.df_tree.specs.declared.production.Part.{Part}
use Rattle.df_tree.specs.declared.production.Part.TheVariants.{Terminal, Nonterminal}
use Rattle.df_tree.specs.declared.table.TheConstants.{FILE, EXPRESSION, TYPE, PATTERN}
use Rattle.df_tree.specs.Tree.{Tree, Leaf, Node, Trees, none, more, leaves, leaves_all}
use Rattle.df_tree.specs.Row.{Row}
use Rattle.df_tree.specs.Ast.{Ast, Kept, asts_of}
use Rattle.df_tree.specs.Grammar.{declarations, statements, expressions, row, part_of, May, MayEnd, IsTree, Are}
use Rattle.df_tree.specs.Building.{Frame, opened, added, mark_at, matters, closed, enter, leave, built, built_all, ast_from}
use Rattle.df_tree.specs.Spelling.{IsOne, MakesOne}
use Rattle.df_tree.proofs.Fine.{is_silent, keeps_by, keeps, run_gives, form_gives, gives_by, gives, closes_by, row_closes}
use Rattle.df_tree.proofs.Begun.{AreOf, are_of}
use Rattle.df_tree.proofs.Deep.{may_pass}

-- ---- what is built

record IsSingle (items : List Ast) : Type 0 where
  ast : Ast
  is : items ≡ ast ∷ []

abbrev Closes : Frame → Type 0
Closes frame = (after : ℕ) → IsSingle (closed frame.title after frame)

never : false ≡ true → ⊥
never e = cc

still_by : (way : Way) (k : ℕ) (r : Row) (frame : Frame) (at after : ℕ) (inner : Frame) → keeps_by (keeps k) way r ≡ true → (list_all (keeps k) r.parts ≡ true → Closes (enter way at frame) → Closes inner)
    → Closes frame → Closes (leave way frame after inner)
still_by Pass k r frame at after inner h inside c = inside h c
still_by (Title label) k r frame at after inner h inside c = λ end. record { ast = _; is = refl }
still_by (Wrap label) k r frame at after inner h inside c = λ end. record { ast = _; is = refl }
still_by (Make label) k r frame at after inner h inside c = absurd (never h)
still_by Close k r frame at after inner h inside c = absurd (never h)

silent_adds_none : (at : ℕ) (frame : Frame) (t : Tree) → is_silent (part_of t) ≡ true → built at frame t ≡ frame
silent_adds_none at frame (Leaf x) h = pick (matters x) h
  where
    pick : (b : Bool) → not b ≡ true → (if b then added frame (Kept (mark_at at x) ∷ []) else frame) ≡ frame
    pick true e = absurd (never e)
    pick false e = refl
silent_adds_none at frame (Node n ts) h = absurd (never h)

-- The trees are of parts that keep a frame so.
abbrev EachKeeps : ℕ → Trees → Type 0
EachKeeps k none = Unit {0}
EachKeeps k (more t ts) = (keeps k (part_of t) ≡ true) × EachKeeps k ts

each_keeps : (k : ℕ) (r : Row) (j : ℕ) (ts : Trees) → list_all (keeps k) r.parts ≡ true → Are r j ts → EachKeeps k ts
each_keeps k r j none all right = tt
each_keeps k r j (more t ts) all right = (may_pass (keeps k) r.form r.parts j (part_of t) all right.0, each_keeps k r (suc j) ts all right.2)

each_of : (k : ℕ) (ps : List Part) (ts : Trees) → AreOf ps ts → list_all (keeps k) ps ≡ true → EachKeeps k ts
each_of k [] none of all = tt
each_of k [] (more t ts) of all = absurd of
each_of k (p ∷ ps) none of all = absurd of
each_of k (p ∷ ps) (more t ts) of all =
    let both = and_parts (keeps k p) (list_all (keeps k) ps) all in
    (subst (λ q. keeps k q ≡ true) of.0 both.0, each_of k ps ts of.1 both.1)

mutual
  still_closes : (t : Tree) (k at : ℕ) (frame : Frame) → keeps k (part_of t) ≡ true → IsTree t → Closes frame → Closes (built at frame t)
  still_closes (Leaf x) zero at frame h right c = absurd (never h)
  still_closes (Leaf x) (suc k) at frame h right c = subst Closes (sym (silent_adds_none at frame (Leaf x) h)) c
  still_closes (Node n ts) zero at frame h right c = absurd (never h)
  still_closes (Node n ts) (suc k) at frame h right c =
      still_by (row n).way k (row n) frame at (at + length (leaves_all ts)) (built_all at (enter (row n).way at frame) ts) h
      (λ all d. all_close ts k at (enter (row n).way at frame) (row n) 0 (each_keeps k (row n) 0 ts all right) right d) c

  all_close : (ts : Trees) (k at : ℕ) (frame : Frame) (r : Row) (j : ℕ) → EachKeeps k ts → Are r j ts → Closes frame → Closes (built_all at frame ts)
  all_close none k at frame r j each right c = c
  all_close (more t ts) k at frame r j each right c = all_close ts k (at + length (leaves t)) (built at frame t) r (suc j) each.1 right.2 (still_closes t k at frame each.0 right.1 c)

pub if_cases : {A : Type 0} (b : Bool) (x y z : A) → (if b then x else y) ≡ z → ((b ≡ true) × (x ≡ z)) ⊎ ((b ≡ false) × (y ≡ z))
if_cases true x y z e = inl (refl, e)
if_cases false x y z e = inr (refl, e)

by_form : (form : Form) (k at : ℕ) (r : Row) (ts : Trees) → r.form ≡ form → form_gives (gives k) (keeps k) form r ≡ true
    → (r.form ≡ All → run_gives (gives k) (keeps k) r.parts ≡ true → (start : ℕ) → Closes (built_all at (opened start) ts))
    → (r.form ≡ One → (not r.empty ≡ true) × (list_all (gives k) r.parts ≡ true) → (start : ℕ) → Closes (built_all at (opened start) ts)) → (start : ℕ) → Closes (built_all at (opened start) ts)
by_form All k at r ts e h run one = run e h
by_form One k at r ts e h run one = one e (and_parts (not r.empty) (list_all (gives k) r.parts) h)
by_form Many k at r ts e h run one = absurd (never h)

by_way : (way : Way) (k at start after : ℕ) (r : Row) (ts : Trees) → closes_by way r ≡ true → gives_by (gives k) (keeps k) way r ≡ true
    → ((j : ℕ) → form_gives (gives j) (keeps j) r.form r ≡ true → (s : ℕ) → Closes (built_all at (opened s) ts)) → Closes (leave way (opened start) after (built_all at (enter way at (opened start)) ts))
by_way Pass k at start after r ts closes h inside = inside k h start
by_way (Title label) k at start after r ts closes h inside = λ end. record { ast = _; is = refl }
by_way (Wrap label) k at start after r ts closes h inside = λ end. record { ast = _; is = refl }
by_way (Make label) k at start after r ts closes h inside = λ end. record { ast = _; is = refl }
by_way Close k at start after r ts closes h inside = λ end. record { ast = (inside 9 closes at after).ast; is = (inside 9 closes at after).is }

mutual
  gives_one : (t : Tree) (k at start : ℕ) → gives k (part_of t) ≡ true → IsTree t → Closes (built at (opened start) t)
  gives_one (Leaf x) zero at start h right = absurd (never h)
  gives_one (Leaf x) (suc k) at start h right = absurd (never h)
  gives_one (Node n ts) zero at start h right = absurd (never h)
  gives_one (Node n ts) (suc k) at start h right =
      by_way (row n).way k at start (at + length (leaves_all ts)) (row n) ts (row_closes n) h (λ j g. by_form (row n).form j at (row n) ts refl g
      (λ e run s. run_closes ts j at s (row n) 0 (row n).parts (are_of (row n) 0 ts e right) right run) (λ e one s. one_closes ts j at s (row n) e one right))

  one_closes : (ts : Trees) (k at start : ℕ) (r : Row) → r.form ≡ One → (not r.empty ≡ true) × (list_all (gives k) r.parts ≡ true) → Are r 0 ts → Closes (built_all at (opened start) ts)
  one_closes none k at start r e one right = absurd (let empty : r.empty ≡ true = (subst (λ f. MayEnd f r 0) e right) refl in never (subst (λ b. not b ≡ true) empty one.0))
  one_closes (more t none) k at start r e one right = gives_one t k at start (may_pass (gives k) r.form r.parts 0 (part_of t) one.1 right.0) right.1
  one_closes (more t (more u us)) k at start r e one right = absurd (let may : May One r.parts 1 (part_of u) = subst (λ f. May f r.parts 1 (part_of u)) e right.2.0 in omega (arith, may.0))

  run_closes : (ts : Trees) (k at start : ℕ) (r : Row) (j : ℕ) (ps : List Part) → AreOf ps ts → Are r j ts → run_gives (gives k) (keeps k) ps ≡ true → Closes (built_all at (opened start) ts)
  run_closes none k at start r j [] of right h = absurd (never h)
  run_closes none k at start r j (p ∷ ps) of right h = absurd of
  run_closes (more t ts) k at start r j [] of right h = absurd of
  run_closes (more t ts) k at start r j (p ∷ ps) of right h = elim (if_cases (is_silent p) (run_gives (gives k) (keeps k) ps) (gives k p && list_all (keeps k) ps) true h) [
    | inl (silent, later) ↦ subst (λ f. Closes (built_all (at + length (leaves t)) f ts)) (sym (silent_adds_none at (opened start) t (subst (λ q. is_silent q ≡ true) of.0 silent)))
        (run_closes ts k (at + length (leaves t)) start r (suc j) ps of.1 right.2 later)
    | inr (loud, here) ↦ (let both = and_parts (gives k p) (list_all (keeps k) ps) here in
        all_close ts k (at + length (leaves t)) (built at (opened start) t) r (suc j) (each_of k ps ts of.1 both.1) right.2
        (gives_one t k at start (subst (λ q. gives k q ≡ true) of.0 both.0) right.1))
  ]

-- ---- the whole

abbrev has_frame : Way → Bool
has_frame Pass = false
has_frame (Title label) = false
has_frame (Wrap label) = false
has_frame (Make label) = true
has_frame Close = true

abbrev is_framed : Part → Bool
is_framed (Terminal kind) = false
is_framed (Nonterminal n) = has_frame (row n).way && gives 1 (Nonterminal n)

same_title : (way : Way) (frame : Frame) (after : ℕ) (inner : Frame) → has_frame way ≡ true → (leave way frame after inner).title ≡ frame.title
same_title Pass frame after inner h = absurd (never h)
same_title (Title label) frame after inner h = absurd (never h)
same_title (Wrap label) frame after inner h = absurd (never h)
same_title (Make label) frame after inner h = refl
same_title Close frame after inner h = refl

makes_one : (n : ℕ) → is_framed (Nonterminal n) ≡ true → MakesOne n
makes_one n h at t part right = by t right (subst (λ p. is_framed p ≡ true) (sym part) h)
  where
    by : (t : Tree) → IsTree t → is_framed (part_of t) ≡ true → IsOne (ast_from at t)
    by (Leaf x) right h = absurd (never h)
    by (Node m ts) right h =
        let both = and_parts (has_frame (row m).way) (gives 1 (Nonterminal m)) h in
        let one = gives_one (Node m ts) 1 at at both.1 right 0 in
        let untitled : (built at (opened at) (Node m ts)).title ≡ None = same_title (row m).way (opened at) (at + length (leaves_all ts)) (built_all at (enter (row m).way at (opened at)) ts) both.0 in
        record { ast = one.ast; is = ap asts_of (ap (λ title. closed title 0 (built at (opened at) (Node m ts))) (sym untitled) ∙ one.is) }

pub file_makes_one : MakesOne FILE
unfolding row declarations statements expressions
file_makes_one = makes_one FILE refl

pub expression_makes_one : MakesOne EXPRESSION
unfolding row declarations statements expressions
expression_makes_one = makes_one EXPRESSION refl

pub type_makes_one : MakesOne TYPE
unfolding row declarations statements expressions
type_makes_one = makes_one TYPE refl

pub pattern_makes_one : MakesOne PATTERN
unfolding row declarations statements expressions
pattern_makes_one = makes_one PATTERN refl
