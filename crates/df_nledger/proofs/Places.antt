-- Places and locals over tables of nodes.
use Rattle.df_nledger.proofs.Words.{◌≡◌, ℕ, zero, suc, ◌<◌, List, [], ◌∷◌, slice_get, Option, None, Some, subst, AllByRecursion, same_Some, Node, Grows, IsPath, path_stays, HasPath}

pub path_is : (nodes : List Node) (path : Option ℕ) → HasPath nodes path → IsPath nodes path
path_is nodes None h = tt
path_is nodes (Some n) h = h

pub has_path : (nodes : List Node) (path : Option ℕ) → IsPath nodes path → HasPath nodes path
has_path nodes None h = tt
has_path nodes (Some n) h = h

pub has_path_stays : (before now : List Node) (path : Option ℕ) → Grows before now → HasPath before path → HasPath now path
has_path_stays before now path g h = has_path now path (path_stays before now path g (path_is before path h))

pub below_at : (k : ℕ) (terms : List ℕ) (local n : ℕ) → AllByRecursion (λ m. m < k) terms → slice_get terms local ≡ Some n → n < k
below_at k [] local n all e = absurd cc
below_at k (m ∷ terms) zero n all e = subst (λ z. z < k) (same_Some m n e) all.0
below_at k (m ∷ terms) (suc i) n all e = below_at k terms i n all.1 e
