-- Environments as their scopes begin, grow and end.
use Rattle.std.proofs.Common.{◌≡◌, ℕ, zero, suc, ◌+◌, ◌<◌, ◌≤◌, Bool, List, [], ◌∷◌, ◌++◌, length, map, take, drop, get_or, Some, refl, sym, ap, ◌∙◌, arith}
use Rattle.std.specs.Prelude.{set}
use Rattle.std.proofs.lemmas.List.{take-append-le, length-append, length-take, length-map, map-append, take-append-drop}
use Rattle.df_ntyping.specs.Table.{Table}
use Rattle.df_ntyping.specs.Environment as pure
use Rattle.df_ntyping.specs.Environment.{Environment}
use Rattle.df_ntyping.specs.LocalTypes.{if_open, at_number}
use Rattle.df_nnames.specs.Scope.{Scope, all_locals}
use Rattle.df_nnames.specs.Scope as scopes
use Rattle.df_nenv.specs.declared.environment.Role.{Role}
use Rattle.df_nenv.specs.declared.environment.Local.{Local}
use Rattle.df_nenv.specs.declared.environment.Inferred.{Inferred}
use Rattle.df_nenv.specs.Environments.{role_of, local_of, inferred_of, names_of, left}
use Rattle.df_nenv.proofs.Latest.{all_of}

-- what contracts see of the parts
abbrev pub seen : Table → Scope → List Local → ℕ → List pure.Inferred → List pure.Local → Bool → Environment
seen table scope items next types results in_loop = record {
  table = table;
  outer = map local_of (take (length scope.outer) items);
  inner = map local_of (drop (length scope.outer) items);
  next = next;
  types = types;
  results = results;
  in_loop = in_loop;
}

-- ---- lists

drop_more : {X : Type 0} (n : ℕ) (xs : List X) (x : X) → n ≤ length xs → drop n (xs ++ x ∷ []) ≡ drop n xs ++ x ∷ []
drop_more zero xs x le = refl
drop_more (suc n) [] x le = absurd (omega arith)
drop_more (suc n) (y ∷ xs) x le = let less : n ≤ length xs = omega arith in drop_more n xs x less

take_whole : {X : Type 0} (n : ℕ) (xs : List X) → n ≡ length xs → take n xs ≡ xs
take_whole zero [] e = refl
take_whole zero (x ∷ xs) e = absurd (omega (arith, e))
take_whole (suc n) [] e = absurd (omega (arith, e))
take_whole (suc n) (x ∷ xs) e = ap (λ (all : List _). x ∷ all) (take_whole n xs (omega (arith, e)))

drop_whole : {X : Type 0} (n : ℕ) (xs : List X) → n ≡ length xs → drop n xs ≡ []
drop_whole zero [] e = refl
drop_whole zero (x ∷ xs) e = absurd (omega (arith, e))
drop_whole (suc n) [] e = absurd (omega (arith, e))
drop_whole (suc n) (x ∷ xs) e = drop_whole n xs (omega (arith, e))

map_take : {X Y : Type 0} (f : X → Y) (n : ℕ) (xs : List X) → map f (take n xs) ≡ take n (map f xs)
map_take f zero xs = refl
map_take f (suc n) [] = refl
map_take f (suc n) (x ∷ xs) = ap (λ (all : List _). f x ∷ all) (map_take f n xs)

map_drop : {X Y : Type 0} (f : X → Y) (n : ℕ) (xs : List X) → map f (drop n xs) ≡ drop n (map f xs)
map_drop f zero xs = refl
map_drop f (suc n) [] = refl
map_drop f (suc n) (x ∷ xs) = map_drop f n xs

take_front : {X : Type 0} (xs ys : List X) → take (length xs) (xs ++ ys) ≡ xs
take_front [] ys = refl
take_front (x ∷ xs) ys = ap (λ (all : List _). x ∷ all) (take_front xs ys)

-- ---- as many locals as names

counts : (scope : Scope) (items : List Local) → all_locals scope ≡ names_of items → length scope.outer + length scope.inner ≡ length items
counts scope items names = sym (length-append scope.outer scope.inner) ∙ ap (λ (xs : List ℕ). length xs) names ∙ length-map items (λ (local : Local). local.name)

module _ (table : Table) (scope : Scope) (items : List Local) (next : ℕ) (types : List pure.Inferred) (results : List pure.Local) (in_loop : Bool) (now : Environment) where
  pub declared_so : (later : Scope) (all : List Local) (number count name : ℕ) (role : Role) → seen table scope items next types results in_loop ≡ now → all_locals scope ≡ names_of items → later ≡ scopes.declare scope name
      → all ≡ items ++ record { name = name; number = number; role = role } ∷ [] → number ≡ next → count ≡ suc next → seen table later all count types results in_loop ≡ pure.declare now (role_of role) name
  declared_so later all number count name role is names e f p q =
      let n = length scope.outer in
      let within : n ≤ length items = omega (arith, counts scope items names) in
      let one : Local = record { name = name; number = next; role = role } in
      rw (e, f, ← is, p, q, ← take-append-le n items (one ∷ []) within, drop_more n items one within, map-append local_of (drop n items) (one ∷ [])) refl

  pub entered_so : (later : Scope) → seen table scope items next types results in_loop ≡ now → all_locals scope ≡ names_of items → later ≡ scopes.enter scope → seen table later items next types results in_loop ≡ pure.enter now
  entered_so later is names e =
      let n = length (scope.outer ++ scope.inner) in
      let whole : n ≡ length items = ap (λ (xs : List ℕ). length xs) names ∙ length-map items (λ (local : Local). local.name) in
      rw (e, ← is, take_whole n items whole, drop_whole n items whole, all_of (length scope.outer) items) refl

  pub outer_so : seen table scope items next types results in_loop ≡ now → all_locals scope ≡ names_of items → length now.outer ≡ length scope.outer
  outer_so is names =
      let n = length scope.outer in
      let within : n ≤ length items = omega (arith, counts scope items names) in
      ap (λ (env : Environment). length env.outer) (sym is) ∙ length-map (take n items) local_of ∙ simp length-take (omega arith)

  pub left_so : (later : Scope) (all : List Local) (count outer : ℕ) → seen table scope items next types results in_loop ≡ now → later ≡ scopes.leave scope count → all ≡ take outer items → outer ≡ length scope.outer → count ≤ length scope.outer
      → seen table later all next types results in_loop ≡ left now count
  left_so later all count outer is e f p le =
      let n = length scope.outer in
      let same : length (take count scope.outer) ≡ count = simp length-take (omega arith) in
      rw (e, f, p, ← is, same, map_take local_of count (take n items), map_drop local_of count (take n items)) refl

-- ---- as a scope ends

pub left_names : (scope later : Scope) (items all : List Local) (count outer : ℕ) → all_locals scope ≡ names_of items → later ≡ scopes.leave scope count → all ≡ take outer items → outer ≡ length scope.outer → count ≤ length scope.outer
    → (all_locals later ≡ names_of all) × (count ≡ length later.outer)
left_names scope later items all count outer names e f p le =
    let n = length scope.outer in
    let same : length (take count scope.outer) ≡ count = simp length-take (omega arith) in
    let front : names_of (take n items) ≡ scope.outer =
    map_take (λ (local : Local). local.name) n items ∙ ap (λ (xs : List ℕ). take n xs) (sym names) ∙ take_front scope.outer scope.inner in
    (rw (e, f, p, front) (take-append-drop count scope.outer), rw e (sym same))

-- ---- one local's type

pub fixed_there : (items : List Inferred) (n : ℕ) (one made fixing : Inferred) → n < length items → one ≡ get_or items n one → inferred_of made ≡ if_open (Some (inferred_of one)) (inferred_of fixing)
    → map inferred_of (set items n made) ≡ at_number n (inferred_of fixing) (map inferred_of items)
fixed_there [] n one made fixing lt is p = absurd (omega arith)
fixed_there (x ∷ items) zero one made fixing lt is p = rw (p, is) refl
fixed_there (x ∷ items) (suc n) one made fixing lt is p = let less : n < length items = omega arith in ap (λ (all : List pure.Inferred). inferred_of x ∷ all) (fixed_there items n one made fixing less is p)

pub not_there : (items : List Inferred) (n : ℕ) (fixing : Inferred) → length items ≤ n → map inferred_of items ≡ at_number n (inferred_of fixing) (map inferred_of items)
not_there [] n fixing le = refl
not_there (x ∷ items) zero fixing le = absurd (omega arith)
not_there (x ∷ items) (suc n) fixing le = let less : length items ≤ n = omega arith in ap (λ (all : List pure.Inferred). inferred_of x ∷ all) (not_there items n fixing less)

-- with another type, and otherwise as it was
pub types_fixed : (one now : Environment) (items made : List Inferred) (n : ℕ) (fixing : Inferred) → pure.with_types one (map inferred_of items) ≡ now → map inferred_of made ≡ at_number n (inferred_of fixing) (map inferred_of items)
    → pure.with_types one (map inferred_of made) ≡ pure.with_types now (at_number n (inferred_of fixing) now.types)
types_fixed one now items made n fixing is p = rw (← is) (ap (λ (types : List pure.Inferred). pure.with_types one types) p)

pub types_there : (now : Environment) (items : List Inferred) (n : ℕ) (fixing : Inferred) → now.types ≡ map inferred_of items → map inferred_of items ≡ at_number n (inferred_of fixing) (map inferred_of items)
    → now ≡ pure.with_types now (at_number n (inferred_of fixing) now.types)
types_there now items n fixing is p =
    let same : now.types ≡ at_number n (inferred_of fixing) now.types = is ∙ p ∙ ap (at_number n (inferred_of fixing)) (sym is) in
    ap (λ (types : List pure.Inferred). pure.with_types now types) same
