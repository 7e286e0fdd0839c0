-- Sums and products: one more member, and loops over the members.
use Rattle.df_nenc.proofs.Words.{◌≡◌, ℕ, List, Option, ◌<◌, ◌≤◌, ◌+◌, length, drop, get_or, Ty, Addends, Factors, expr_of, DeclaredAddend, DeclaredFactor, Node, Numbers, sum_of, product_of, summed, multiplied, under, in_range, conditions_of_addends, conditions_of_factors, tree_at, trees_in, path_in, IsTerm, IsPath, Gives, Encodes, conditions_of_factor, AreAddendsOver, AreFactorsOver, DeclaredCondition, addends_in, factors_in}
use Rattle.df_nenc.proofs.Folding.{Folding, fold_steps, fold_stops}
use Rattle.df_nenc.proofs.Lemmas.{grows_then, is_term, locals_same, path_same, reached_first, extends_not, summed_is, multiplied_is, addends_left, factors_left, addend_part, factor_part, addends_next, factors_next, addends_done, factors_done, Part}

-- so far, with the members that are left
pub record Summing (old now : List Node) (terms : List ℕ) (path : Option ℕ) (ty : Ty) (first total : ℕ) (before after : List DeclaredCondition) (all rest : Addends) : Type 0 where
  pub so_far : Folding (AreAddendsOver now terms rest) Numbers (sum_of (trees_in old terms) (tree_at old first) all) (conditions_of_addends (trees_in old terms) (path_in old path) ty (tree_at old first) all) (λ a. sum_of (trees_in old terms) a rest) (λ a. conditions_of_addends (trees_in old terms) (path_in old path) ty a rest) old now total before after

pub record Multiplying (old now : List Node) (terms : List ℕ) (path : Option ℕ) (ty : Ty) (first total : ℕ) (before after : List DeclaredCondition) (all rest : Factors) : Type 0 where
  pub so_far : Folding (AreFactorsOver now terms rest) Numbers (product_of (trees_in old terms) (tree_at old first) all) (conditions_of_factors (trees_in old terms) (path_in old path) ty (tree_at old first) all) (λ a. product_of (trees_in old terms) a rest) (λ a. conditions_of_factors (trees_in old terms) (path_in old path) ty a rest) old now total before after

-- ---- a sum

pub sum_starts : {old : List Node} {terms : List ℕ} {path : Option ℕ} {ty : Ty} {first : ℕ} {before : List DeclaredCondition} (all xs : List DeclaredAddend)
    → xs ≡ all → AreAddendsOver old terms (addends_in all) → IsTerm Numbers old first → Summing old old terms path ty first first before before (addends_in all) (addends_in xs)
sum_starts {old = old} {before = before} all xs same over is = rw same (record { so_far = record { extends = extends_not old before; over = over; total_is = is; reached = reached_first _ _ old before } })

pub sum_operand : {old now : List Node} {terms : List ℕ} {path : Option ℕ} {ty : Ty} {first total : ℕ} {before after : List DeclaredCondition} {all : Addends} (xs : List DeclaredAddend) (i : ℕ) (x : DeclaredAddend)
    → x ≡ get_or xs i x → i < length xs → Summing old now terms path ty first total before after all (addends_in (drop i xs)) → Part Numbers now terms (expr_of x.operand)
sum_operand xs i x is less s = let rest = rw (addends_next xs i x is less) at s in addend_part _ _ _ _ _ _ rest.so_far.over

pub sum_steps : {old now middle next : List Node} {terms : List ℕ} {path : Option ℕ} {ty : Ty} {first total operand n : ℕ} {before after between then : List DeclaredCondition} {all : Addends} (xs : List DeclaredAddend) (i : ℕ) (x : DeclaredAddend)
    → x ≡ get_or xs i x → i < length xs → AreAddendsOver old terms all → IsPath old path → Summing old now terms path ty first total before after all (addends_in (drop i xs))
    → Encodes now middle terms path (expr_of x.operand) operand after between
    → Gives (summed x.operator (tree_at middle total) (tree_at middle operand)) (under (path_in middle path) (in_range ty x.pos (summed x.operator (tree_at middle total) (tree_at middle operand)))) middle next n between then
    → Summing old next terms path ty first n before then all (addends_in (drop (i + 1) xs))
sum_steps {old = old} {now = now} {middle = middle} {next = next} {terms = terms} {path = path} {ty = ty} {total = total} {operand = operand} {n = n} {before = before} {after = after} {between = between} {then = then} xs i x is less over is_path s g h =
    let here = rw (addends_next xs i x is less) at s in
    let to = grows_then now middle next g.grows h.grows in
    let rest = addends_in (drop (i + 1) xs) in
    let one = summed x.operator in
    let folded = fold_steps _ _ Numbers _ _ old now middle next terms path (trees_in old terms) (path_in old path) (expr_of x.operand) total operand n before after between then one (λ on a b. under on (in_range ty x.pos (summed x.operator a b))) (λ a. sum_of (trees_in old terms) a rest) (λ a. conditions_of_addends (trees_in old terms) (path_in old path) ty a rest)
    (locals_same old now over.types terms s.so_far.extends.grows over.locals) (path_same old now path s.so_far.extends.grows is_path) (path_same old middle path (grows_then old now middle s.so_far.extends.grows g.grows) is_path)
    (addends_left now next terms to x.operator x.pos (expr_of x.operand) rest here.so_far.over) (is_term next Numbers (one (tree_at middle total) (tree_at middle operand)) n h.stands (summed_is x.operator (tree_at middle total) (tree_at middle operand))) here.so_far g h in
    record { so_far = folded }

pub sum_stops : {old now : List Node} {terms : List ℕ} {path : Option ℕ} {ty : Ty} {first total : ℕ} {before after : List DeclaredCondition} {all : Addends} (xs : List DeclaredAddend) (i : ℕ)
    → length xs ≤ i → Summing old now terms path ty first total before after all (addends_in (drop i xs))
    → Gives (sum_of (trees_in old terms) (tree_at old first) all) (conditions_of_addends (trees_in old terms) (path_in old path) ty (tree_at old first) all) old now total before after
sum_stops xs i none s = let here = rw (addends_done xs i none) at s in fold_stops here.so_far

-- ---- a product

pub product_starts : {old : List Node} {terms : List ℕ} {path : Option ℕ} {ty : Ty} {first : ℕ} {before : List DeclaredCondition} (all xs : List DeclaredFactor)
    → xs ≡ all → AreFactorsOver old terms (factors_in all) → IsTerm Numbers old first → Multiplying old old terms path ty first first before before (factors_in all) (factors_in xs)
product_starts {old = old} {before = before} all xs same over is = rw same (record { so_far = record { extends = extends_not old before; over = over; total_is = is; reached = reached_first _ _ old before } })

pub product_operand : {old now : List Node} {terms : List ℕ} {path : Option ℕ} {ty : Ty} {first total : ℕ} {before after : List DeclaredCondition} {all : Factors} (xs : List DeclaredFactor) (i : ℕ) (x : DeclaredFactor)
    → x ≡ get_or xs i x → i < length xs → Multiplying old now terms path ty first total before after all (factors_in (drop i xs)) → Part Numbers now terms (expr_of x.operand)
product_operand xs i x is less s = let rest = rw (factors_next xs i x is less) at s in factor_part _ _ _ _ _ _ rest.so_far.over

pub product_steps : {old now middle next : List Node} {terms : List ℕ} {path : Option ℕ} {ty : Ty} {first total operand n : ℕ} {before after between then : List DeclaredCondition} {all : Factors} (xs : List DeclaredFactor) (i : ℕ) (x : DeclaredFactor)
    → x ≡ get_or xs i x → i < length xs → AreFactorsOver old terms all → IsPath old path → Multiplying old now terms path ty first total before after all (factors_in (drop i xs))
    → Encodes now middle terms path (expr_of x.operand) operand after between
    → Gives (multiplied x.operator (tree_at middle total) (tree_at middle operand)) (conditions_of_factor (path_in middle path) ty x.operator x.pos (tree_at middle total) (tree_at middle operand)) middle next n between then
    → Multiplying old next terms path ty first n before then all (factors_in (drop (i + 1) xs))
product_steps {old = old} {now = now} {middle = middle} {next = next} {terms = terms} {path = path} {ty = ty} {total = total} {operand = operand} {n = n} {before = before} {after = after} {between = between} {then = then} xs i x is less over is_path s g h =
    let here = rw (factors_next xs i x is less) at s in
    let to = grows_then now middle next g.grows h.grows in
    let rest = factors_in (drop (i + 1) xs) in
    let one = multiplied x.operator in
    let folded = fold_steps _ _ Numbers _ _ old now middle next terms path (trees_in old terms) (path_in old path) (expr_of x.operand) total operand n before after between then one (λ on a b. conditions_of_factor on ty x.operator x.pos a b) (λ a. product_of (trees_in old terms) a rest) (λ a. conditions_of_factors (trees_in old terms) (path_in old path) ty a rest)
    (locals_same old now over.types terms s.so_far.extends.grows over.locals) (path_same old now path s.so_far.extends.grows is_path) (path_same old middle path (grows_then old now middle s.so_far.extends.grows g.grows) is_path)
    (factors_left now next terms to x.operator x.pos (expr_of x.operand) rest here.so_far.over) (is_term next Numbers (one (tree_at middle total) (tree_at middle operand)) n h.stands (multiplied_is x.operator (tree_at middle total) (tree_at middle operand))) here.so_far g h in
    record { so_far = folded }

pub product_stops : {old now : List Node} {terms : List ℕ} {path : Option ℕ} {ty : Ty} {first total : ℕ} {before after : List DeclaredCondition} {all : Factors} (xs : List DeclaredFactor) (i : ℕ)
    → length xs ≤ i → Multiplying old now terms path ty first total before after all (factors_in (drop i xs))
    → Gives (product_of (trees_in old terms) (tree_at old first) all) (conditions_of_factors (trees_in old terms) (path_in old path) ty (tree_at old first) all) old now total before after
product_stops xs i none s = let here = rw (factors_done xs i none) at s in fold_stops here.so_far
