-- Paths in graphs.
use Rattle.std.proofs.Common.{ℕ, List, Contains}
use Rattle.df_groups2.specs.Graph.{targets_in, Path, stay, along}
use Rattle.df_groups2.specs.Reversed.{IsReversed}

pub path_join : (targets : ℕ → List ℕ) (a b c : ℕ) → Path targets a b → Path targets b c → Path targets a c
path_join targets a b c stay q = q
path_join targets a b c (along {target = m} e p) q = along e (path_join targets m b c p q)

-- and one edge more
pub path_then : (targets : ℕ → List ℕ) (a b c : ℕ) → Path targets a b → Contains (targets b) c → Path targets a c
path_then targets a b c p e = path_join targets a b c p (along e stay)

pub path_turned : (graph back : List (List ℕ)) → IsReversed graph back → (a b : ℕ) → Path (targets_in back) a b → Path (targets_in graph) b a
path_turned graph back turned a b stay = stay
path_turned graph back turned a b (along {target = m} e p) = path_then (targets_in graph) b m a (path_turned graph back turned m b p) (turned.only m a e)
