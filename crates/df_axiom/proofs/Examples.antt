-- An instance of each schema, computed, and terms that are not what a pattern says.
use Rattle.std.proofs.Common.{◌≡◌, ℕ, pos, List, [], ◌∷◌, Option, None, Some, refl}
use Rattle.std.specs.Option.{option_map}
use Rattle.df_lang.specs.declared.ty.Ty.TheVariants as types
use Rattle.df_form.specs.World.{World}
use Rattle.df_form.specs.declared.log.Lit.{Lit}
use Rattle.df_form.specs.declared.node.Sort.{Sort}
use Rattle.df_form.specs.declared.node.Sort.TheVariants as sorts
use Rattle.df_form.specs.declared.node.Op.{Op}
use Rattle.df_form.specs.declared.node.Op.TheVariants as ops
use Rattle.df_form.specs.declared.symbol.Symbol.TheVariants as symbols
use Rattle.df_form.specs.Symbol.{symbols as table, same_symbol}
use Rattle.df_form.specs.Node.{Node, symbol, test_of}
use Rattle.df_form.specs.Clause.{yes, no}
use Rattle.df_axiom.specs.Instance.{Added}
use Rattle.df_axiom.specs.Schemas.{written}
use Rattle.df_axiom.specs.Line.{instance_line}

abbrev node : Op → List ℕ → Node
node op parts = record { op = op; parts = parts }

abbrev free : ℕ → Sort → Node
free number sort = node (ops.Free (record { number = number; sort = sort })) []

-- x, y, z, the character c, x * y, x mod y, x div y, the code of c, the character of x, (x * y) * z, y + z,
-- x * (y + z), 7, x * 7, x * z, y * z
abbrev nodes : List Node
nodes =
    free 0 sorts.Number ∷ free 1 sorts.Number ∷ free 2 sorts.Number ∷ free 3 sorts.Character ∷ node ops.Times (0 ∷ 1 ∷ []) ∷ node (symbol symbols.Mod) (0 ∷ 1 ∷ []) ∷ node (symbol symbols.Div) (0 ∷ 1 ∷ []) ∷ node (symbol symbols.Code) (3 ∷ []) ∷ node (symbol symbols.Chr) (0 ∷ [])
    ∷ node ops.Times (4 ∷ 2 ∷ []) ∷ node ops.Plus (1 ∷ 2 ∷ []) ∷ node ops.Times (0 ∷ 10 ∷ []) ∷ node (ops.Number (pos 7)) [] ∷ node ops.Times (0 ∷ 12 ∷ []) ∷ node ops.Times (0 ∷ 2 ∷ []) ∷ node ops.Times (1 ∷ 2 ∷ []) ∷ []

-- the clause that is added
abbrev clause : World → ℕ → ℕ → List ℕ → Option (List Lit)
clause world schema k terms = option_map (λ (added : Added). added.clause) (instance_line world nodes schema k terms)

pub parts_of_quotient : (world : World) → clause world 1 0 (6 ∷ []) ≡ Some (yes 17 ∷ yes 20 ∷ [])
unfolding written table same_symbol
parts_of_quotient world = refl

pub parts_of_remainder : (world : World) → clause world 1 0 (5 ∷ []) ≡ Some (yes 17 ∷ yes 20 ∷ [])
unfolding written table same_symbol
parts_of_remainder world = refl

pub remainder_at_least : (world : World) → clause world 2 0 (5 ∷ []) ≡ Some (yes 17 ∷ yes 18 ∷ [])
unfolding written table same_symbol
remainder_at_least world = refl

pub remainder_below : (world : World) → clause world 3 0 (5 ∷ []) ≡ Some (no 17 ∷ yes 19 ∷ [])
unfolding written table same_symbol
remainder_below world = refl

pub remainder_below_opposite : (world : World) → clause world 4 0 (5 ∷ []) ≡ Some (no 17 ∷ yes 21 ∷ [])
unfolding written table same_symbol
remainder_below_opposite world = refl

pub factors_change : (world : World) → clause world 5 0 (4 ∷ []) ≡ Some (yes 17 ∷ [])
unfolding written table same_symbol
factors_change world = refl

pub factors_join : (world : World) → clause world 6 0 (9 ∷ []) ≡ Some (yes 17 ∷ [])
unfolding written table same_symbol
factors_join world = refl

pub factor_goes_in : (world : World) → clause world 7 0 (11 ∷ []) ≡ Some (yes 17 ∷ [])
unfolding written table same_symbol
factor_goes_in world = refl

pub literal_comes_first : (world : World) → clause world 8 0 (13 ∷ []) ≡ Some (yes 17 ∷ [])
unfolding written table same_symbol
literal_comes_first world = refl

pub product_at_least : (world : World) → clause world 9 0 (4 ∷ []) ≡ Some (no 17 ∷ no 18 ∷ yes 19 ∷ [])
unfolding written table same_symbol
product_at_least world = refl

pub products_compare : (world : World) → clause world 10 0 (14 ∷ 15 ∷ []) ≡ Some (no 16 ∷ no 18 ∷ yes 19 ∷ [])
unfolding written table same_symbol
products_compare world = refl

pub code_at_least : (world : World) → clause world 109 0 (7 ∷ []) ≡ Some (yes 17 ∷ [])
unfolding written table same_symbol
code_at_least world = refl

pub code_at_most : (world : World) → clause world 109 1 (7 ∷ []) ≡ Some (yes 17 ∷ [])
unfolding written table same_symbol
code_at_most world = refl

pub code_again : (world : World) → clause world 109 2 (7 ∷ []) ≡ Some (yes 17 ∷ [])
unfolding written table same_symbol
code_again world = refl

pub character_has_code : (world : World) → clause world 110 0 (8 ∷ []) ≡ Some (no 17 ∷ no 19 ∷ yes 21 ∷ [])
unfolding written table same_symbol
character_has_code world = refl

pub no_product : (world : World) → clause world 5 0 (5 ∷ []) ≡ None
unfolding written table same_symbol
no_product world = refl

pub no_literal : (world : World) → clause world 8 0 (4 ∷ []) ≡ None
unfolding written table same_symbol
no_literal world = refl

pub no_inner_product : (world : World) → clause world 6 0 (4 ∷ []) ≡ None
unfolding written table same_symbol
no_inner_product world = refl

pub two_second_factors : (world : World) → clause world 10 0 (4 ∷ 15 ∷ []) ≡ None
unfolding written table same_symbol
two_second_factors world = refl

pub one_term : (world : World) → clause world 10 0 (14 ∷ []) ≡ None
unfolding written table same_symbol
one_term world = refl

pub two_terms : (world : World) → clause world 5 0 (4 ∷ 4 ∷ []) ≡ None
unfolding written table same_symbol
two_terms world = refl

pub no_clause : (world : World) → clause world 5 1 (4 ∷ []) ≡ None
unfolding written table same_symbol
no_clause world = refl

pub no_code : (world : World) → clause world 109 3 (7 ∷ []) ≡ None
unfolding written table same_symbol
no_code world = refl

pub no_schema : (world : World) → clause world 11 0 (4 ∷ []) ≡ None
unfolding written table same_symbol
no_schema world = refl

pub no_node : (world : World) → clause world 5 0 (40 ∷ []) ≡ None
unfolding written table same_symbol
no_node world = refl

pub no_character : (world : World) → clause world 110 0 (7 ∷ []) ≡ None
unfolding written table same_symbol
no_character world = refl

-- x, a truth, a character, "x is a `nat`", "x is an `int`", "the truth is a `bool`", "the character is a `char`",
-- "x is of newtype 0", "x is of newtype 1"
abbrev typed : List Node
typed =
    free 0 sorts.Number ∷ free 1 sorts.Truth ∷ free 2 sorts.Character ∷ node (test_of types.Nat) (0 ∷ []) ∷ node (test_of types.Int) (0 ∷ []) ∷ node (test_of types.Bool) (1 ∷ []) ∷ node (test_of types.Char) (2 ∷ [])
    ∷ node (test_of (types.Newtype 0)) (0 ∷ []) ∷ node (test_of (types.Newtype 1)) (0 ∷ []) ∷ []

-- declaration 1 is the only newtype
abbrev world : World
world = record { newtypes = None ∷ Some (record { low = pos 1; high = pos 2 }) ∷ [] }

abbrev type_clause : ℕ → List ℕ → Option (List Lit)
type_clause k terms = option_map (λ (added : Added). added.clause) (instance_line world typed 74 k terms)

pub natural_from_zero : type_clause 0 (3 ∷ []) ≡ Some (no 3 ∷ yes 10 ∷ [])
unfolding table same_symbol
natural_from_zero = refl

pub natural_where : type_clause 1 (3 ∷ []) ≡ Some (yes 3 ∷ no 10 ∷ [])
unfolding table same_symbol
natural_where = refl

pub no_third_natural : type_clause 2 (3 ∷ []) ≡ None
unfolding table same_symbol
no_third_natural = refl

pub integer_always : type_clause 0 (4 ∷ []) ≡ Some (yes 4 ∷ [])
unfolding table same_symbol
integer_always = refl

pub truth_always : type_clause 0 (5 ∷ []) ≡ Some (yes 5 ∷ [])
unfolding table same_symbol
truth_always = refl

pub character_always : type_clause 0 (6 ∷ []) ≡ Some (yes 6 ∷ [])
unfolding table same_symbol
character_always = refl

pub no_newtype : type_clause 0 (7 ∷ []) ≡ None
unfolding table same_symbol
no_newtype = refl

pub newtype_where : type_clause 2 (8 ∷ []) ≡ Some (yes 8 ∷ no 10 ∷ no 12 ∷ [])
unfolding table same_symbol
newtype_where = refl
