-- How a concrete tree is read.
use Rattle.std.specs.Prelude.{ℕ, zero, suc, ◌+◌, ◌==◌, Bool, ◌&&◌, not, List, [], ◌∷◌, ◌++◌, length, Option, Some, None, slice_get, if◌then◌else◌}
use Rattle.std.specs.Option.{option_and_then}
use Rattle.df_tok.specs.Token.{Token}
use Rattle.df_tree.specs.declared.production.Form.{Form}
use Rattle.df_tree.specs.declared.production.Form.TheVariants.{All, One, Many}
use Rattle.df_tree.specs.declared.production.Part.{Part}
use Rattle.df_tree.specs.declared.production.Part.TheVariants.{Terminal, Nonterminal}
use Rattle.df_pexpr.specs.declared.reader.Step.{Step}
use Rattle.df_pexpr.specs.declared.reader.Step.TheVariants.{Read, Done, Fail}
use Rattle.df_tree.specs.Terminal.{terminal}
use Rattle.df_tree.specs.Tree.{Tree, Leaf, Node, trees_of}
use Rattle.df_tree.specs.Row.{Row}
use Rattle.df_tree.specs.Grammar.{row, begins, chosen}

-- what was read, and the tokens behind it
pub record Reading : Type 0 where
  pub tree : Tree
  pub behind : List Token

abbrev pub Reader : Type 0
Reader = Part → List Token → Option Reading

abbrev pub chosen_step : Bool → Option Part → Step
chosen_step empty (Some p) = Read p
chosen_step empty None = if empty then Done else Fail

abbrev pub placed_step : Option Part → Step
placed_step (Some p) = Read p
placed_step None = Done

-- what comes behind k trees of the production
abbrev pub step : Form → Row → ℕ → List Token → Step
step All r k tokens = placed_step (slice_get r.parts k)
step One r k tokens = if k == 0 then chosen_step r.empty (chosen r.parts tokens) else Done
step Many r k tokens = chosen_step r.empty (chosen r.parts tokens)

abbrev pub by_step : Option Reading → (Part → Option Reading) → Step → Option Reading
by_step ended reads Fail = None
by_step ended reads Done = ended
by_step ended reads (Read p) = reads p

-- the trees of a production, behind those that were read before
unfoldable pub children : Reader → ℕ → ℕ → List Tree → List Token → Option Reading
children read zero n before tokens = None
children read (suc turns) n before tokens = by_step
    (Some (record { tree = Node n (trees_of before); behind = tokens }))
    (λ p. option_and_then (λ (x : Reading). children read turns n (before ++ x.tree ∷ []) x.behind) (read p tokens))
    (step (row n).form (row n) (length before) tokens)

-- more than a production can have trees
abbrev pub turn_limit : ℕ
turn_limit = 18446744073709551615

abbrev pub node : Reader → ℕ → List Token → Option Reading
node read n tokens = if (row n).narrow && not (begins (row n) tokens) then None else children read turn_limit n [] tokens

abbrev pub leaf : ℕ → List Token → Option Reading
leaf kind [] = None
leaf kind (x ∷ xs) = if terminal x == kind then Some (record { tree = Leaf x; behind = xs }) else None

-- to this height
abbrev pub reader : ℕ → Reader
reader left (Terminal kind) tokens = leaf kind tokens
reader zero (Nonterminal n) tokens = None
reader (suc left) (Nonterminal n) tokens = node (reader left) n tokens

-- how many nodes may stand inside one another
abbrev pub depth_limit : ℕ
depth_limit = 10251
