-- A run so far, and fronts of lists.
use Rattle.df_nenc.proofs.Words.{◌≡◌, ℕ, List, [], ◌++◌, refl, sym, ap, ◌∙◌, append_assoc, ◌≤◌, length, take, arith, append-nil, take_all, take-take, length-take, Node, Term, Condition, Grows, Stands, Adds, Gives, Extends, DeclaredCondition}
use Rattle.std.proofs.Math.Seq.{take-append_seam}
use Rattle.df_nenc.specs.Growing.{IsFront}
use Rattle.df_nenc.proofs.Growing.{grows_not, grows_then}
use Rattle.df_nenc.proofs.Adding.{adds_none, adds_as, adds_then, adds_stay}

-- the tree and the conditions of all, by those of the rest
pub record Reached (tree : Term) (conditions : List Condition) (old now : List Node) (before after : List DeclaredCondition) (rest_tree : Term) (rest_conditions : List Condition) : Type 0 where
  pub grows : Grows old now
  pub added : List Condition
  pub adds : Adds now added before after
  pub tree_is : rest_tree ≡ tree
  pub conditions_are : added ++ rest_conditions ≡ conditions

pub reached_first : (tree : Term) (conditions : List Condition) (nodes : List Node) (cs : List DeclaredCondition) → Reached tree conditions nodes nodes cs cs tree conditions
reached_first tree conditions nodes cs = record { grows = grows_not nodes; added = []; adds = adds_none nodes cs; tree_is = refl; conditions_are = refl }

-- some more conditions, and a table that may have grown
pub reached_next : (tree : Term) (conditions : List Condition) (old now next : List Node) (before after then : List DeclaredCondition) (rest_tree next_tree : Term) (C rest_conditions next_conditions : List Condition)
    → Reached tree conditions old now before after rest_tree rest_conditions → Grows now next → Adds next C after then → next_tree ≡ rest_tree → rest_conditions ≡ C ++ next_conditions
    → Reached tree conditions old next before then next_tree next_conditions
reached_next tree conditions old now next before after then rest_tree next_tree C rest_conditions next_conditions r g a same is = record {
  grows = grows_then old now next r.grows g;
  added = r.added ++ C;
  adds = adds_then now next r.added C before after then g r.adds a;
  tree_is = same ∙ r.tree_is;
  conditions_are = append_assoc r.added C next_conditions ∙ ap (λ z. r.added ++ z) (sym is) ∙ r.conditions_are;
}

-- the table has grown alone
pub reached_grown : (tree : Term) (conditions : List Condition) (old now next : List Node) (before after : List DeclaredCondition) (rest_tree next_tree : Term) (rest_conditions next_conditions : List Condition)
    → Reached tree conditions old now before after rest_tree rest_conditions → Grows now next → next_tree ≡ rest_tree → rest_conditions ≡ next_conditions
    → Reached tree conditions old next before after next_tree next_conditions
reached_grown tree conditions old now next before after rest_tree next_tree rest_conditions next_conditions r g same is = record {
  grows = grows_then old now next r.grows g;
  added = r.added;
  adds = adds_stay now next r.added before after g r.adds;
  tree_is = same ∙ r.tree_is;
  conditions_are = ap (λ z. r.added ++ z) (sym is) ∙ r.conditions_are;
}

-- nothing is left
pub reached_last : (tree : Term) (conditions : List Condition) (old now : List Node) (before after : List DeclaredCondition) (rest_tree : Term) (n : ℕ)
    → Reached tree conditions old now before after rest_tree [] → Stands now rest_tree n → Gives tree conditions old now n before after
reached_last tree conditions old now before after rest_tree n r s = record {
  grows = r.grows;
  stands = record { below = s.below; tree_is = s.tree_is ∙ r.tree_is };
  adds = adds_as now r.added conditions before after (sym (append-nil r.added) ∙ r.conditions_are) r.adds;
}

pub front_not : {A : Type 0} (xs : List A) → IsFront xs xs
unfolding IsFront
front_not xs = take_all (length xs) xs (omega arith)

pub front_then : {A : Type 0} (a b c : List A) → IsFront a b → IsFront b c → IsFront a c
unfolding IsFront
front_then a b c f g =
    let short : length a ≤ length b = omega (arith, ap length f, length-take (length a) b) in
    sym (take-take (length a) (length b) c short) ∙ ap (take (length a)) g ∙ f

pub front_more : {A : Type 0} (front more all : List A) → all ≡ front ++ more → IsFront front all
unfolding IsFront
front_more front more all is = ap (take (length front)) is ∙ take-append_seam front more

pub adds_front : (nodes : List Node) (C : List Condition) (before after : List DeclaredCondition) → Adds nodes C before after → IsFront before after
adds_front nodes C before after a = front_more before a.more after a.is

-- ---- both

pub extends_not : (nodes : List Node) (cs : List DeclaredCondition) → Extends nodes nodes cs cs
extends_not nodes cs = record { grows = grows_not nodes; begins = front_not cs }

pub extends_then : {a b c : List Node} {before between after : List DeclaredCondition} → Extends a b before between → Extends b c between after → Extends a c before after
extends_then {a = a} {b = b} {c = c} {before = before} {between = between} {after = after} e f = record { grows = grows_then a b c e.grows f.grows; begins = front_then before between after e.begins f.begins }

-- nodes alone were made
pub extends_nodes : (old new : List Node) (cs : List DeclaredCondition) → Grows old new → Extends old new cs cs
extends_nodes old new cs g = record { grows = g; begins = front_not cs }

pub extends_by : {tree : Term} {conditions : List Condition} {old new : List Node} {n : ℕ} {before after : List DeclaredCondition} → Gives tree conditions old new n before after → Extends old new before after
extends_by {before = before} {after = after} g = record { grows = g.grows; begins = adds_front _ _ before after g.adds }
