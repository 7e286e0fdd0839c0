-- Tables that grow keep what numbers stand for.
use Rattle.df_nenc.proofs.Words.{◌≡◌, ℕ, ◌<◌, List, [], ◌∷◌, ◌++◌, length, Option, None, Some, refl, sym, ap, ◌∙◌, arith, append_assoc, AllByRecursion, length-append, append-nil, Ty, Node, Term, Sort, Truths, sort_of_type, sort_of_term, tree_at, trees_at, trees_in, path_in, tree_among, Grows, IsTerm, Stands, IsPath, HasTerm, AreLocals}
use Rattle.df_nenc.proofs.Trees.{grown_tree}

pub grows_not : (nodes : List Node) → Grows nodes nodes
grows_not nodes = record { more = []; is = sym (append-nil nodes) }

pub grows_then : (a b c : List Node) → Grows a b → Grows b c → Grows a c
grows_then a b c g h = record { more = g.more ++ h.more; is = h.is ∙ ap (λ z. z ++ h.more) g.is ∙ append_assoc a g.more h.more }

pub grows_same : (a b : List Node) → b ≡ a → Grows a b
grows_same a b e = record { more = []; is = e ∙ sym (append-nil a) }

pub grown_below : (before now : List Node) → Grows before now → (n : ℕ) → n < length before → n < length now
grown_below before now g n lt = let e = ap (λ z. length z) g.is ∙ length-append before g.more in omega arith

-- ---- one number

pub term_stays : (sort : Sort) (before now : List Node) (n : ℕ) → Grows before now → IsTerm sort before n → IsTerm sort now n
term_stays sort before now n g t = record { below = grown_below before now g n t.below; sort_is = ap sort_of_term (grown_tree before now g n t.below) ∙ t.sort_is }

pub stays : (before now : List Node) (tree : Term) (n : ℕ) → Grows before now → Stands before tree n → Stands now tree n
stays before now tree n g s = record { below = grown_below before now g n s.below; tree_is = grown_tree before now g n s.below ∙ s.tree_is }

pub is_term : (nodes : List Node) (sort : Sort) (tree : Term) (n : ℕ) → Stands nodes tree n → sort_of_term tree ≡ sort → IsTerm sort nodes n
is_term nodes sort tree n s e = record { below = s.below; sort_is = ap sort_of_term s.tree_is ∙ e }

pub tree_stays : (sort : Sort) (before now : List Node) (n : ℕ) → Grows before now → IsTerm sort before n → tree_at now n ≡ tree_at before n
tree_stays sort before now n g t = grown_tree before now g n t.below

-- it stands for its own tree
pub stands : (sort : Sort) (nodes : List Node) (n : ℕ) → IsTerm sort nodes n → Stands nodes (tree_at nodes n) n
stands sort nodes n t = record { below = t.below; tree_is = refl }

-- ---- paths

pub path_stays : (before now : List Node) (path : Option ℕ) → Grows before now → IsPath before path → IsPath now path
path_stays before now None g t = tt
path_stays before now (Some n) g t = term_stays Truths before now n g t

pub path_same : (before now : List Node) (path : Option ℕ) → Grows before now → IsPath before path → path_in now path ≡ path_in before path
path_same before now None g t = refl
path_same before now (Some n) g t = ap Some (grown_tree before now g n t.below)

-- ---- lists of numbers

pub all_stay : (sort : Sort) (before now : List Node) (ns : List ℕ) → Grows before now → AllByRecursion (IsTerm sort before) ns → AllByRecursion (IsTerm sort now) ns
all_stay sort before now [] g all = tt
all_stay sort before now (n ∷ ns) g all = (term_stays sort before now n g all.0, all_stay sort before now ns g all.1)

pub all_same : (before now : List Node) (ns : List ℕ) → Grows before now → AllByRecursion (λ n. n < length before) ns → trees_at now ns ≡ trees_at before ns
all_same before now [] g all = refl
all_same before now (n ∷ ns) g all = let head = grown_tree before now g n all.0 in let others = all_same before now ns g all.1 in λ i. head i ∷ others i

pub all_below : (before now : List Node) (ns : List ℕ) → Grows before now → AllByRecursion (λ n. n < length before) ns → AllByRecursion (λ n. n < length now) ns
all_below before now [] g all = tt
all_below before now (n ∷ ns) g all = (grown_below before now g n all.0, all_below before now ns g all.1)

pub terms_below : (sort : Sort) (nodes : List Node) (ns : List ℕ) → AllByRecursion (IsTerm sort nodes) ns → AllByRecursion (λ n. n < length nodes) ns
terms_below sort nodes [] all = tt
terms_below sort nodes (n ∷ ns) all = (all.0.below, terms_below sort nodes ns all.1)

-- ---- locals

pub local_stays : (sort : Sort) (before now : List Node) (terms : List ℕ) (local : ℕ) → Grows before now → HasTerm sort before terms local → HasTerm sort now terms local
local_stays sort before now terms local g t = record { number = t.number; at = t.at; is_term = term_stays sort before now t.number g t.is_term }

pub locals_stay : (before now : List Node) (types : List Ty) (terms : List ℕ) → Grows before now → AreLocals before types terms → AreLocals now types terms
locals_stay before now types terms g all = record {
  below = all_below before now terms g all.below;
  sorted = λ local ty e. local_stays (sort_of_type ty) before now terms local g (all.sorted local ty e);
}

pub locals_same : (before now : List Node) (types : List Ty) (terms : List ℕ) → Grows before now → AreLocals before types terms → trees_in now terms ≡ trees_in before terms
locals_same before now types terms g all = let e = all_same before now terms g all.below in λ i place. tree_among (e i) place
