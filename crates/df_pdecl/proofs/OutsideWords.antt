-- No tree of the grammar spells a word outside the language.
use Rattle.std.proofs.Common.{◌≡◌, ℕ, zero, suc, ◌==◌, Bool, true, false, not, ◌&&◌, List, [], ◌∷◌, ◌++◌, Option, Some, None, if◌then◌else◌, refl, sym, subst, ap, ◌∙◌}
use Rattle.std.specs.List.{AllByRecursion, list_all}
use Rattle.std.proofs.lemmas.Bool.{and_parts}
use Rattle.df_lemmas.proofs.Alls.{all_joined}
use Rattle.df_base.specs.declared.pos.Pos.{Pos}
use Rattle.df_base.specs.declared.refusal.Refusal.{Refusal}
use Rattle.df_tok.specs.declared.token.Kind.{Kind}
use Rattle.df_tok.specs.declared.token.Kind.TheVariants as kinds
use Rattle.df_tok.specs.declared.sign.Sign.TheVariants as signs
use Rattle.df_tok.specs.Token.{Token}
use Rattle.df_tree.specs.declared.production.Part.{Part}
use Rattle.df_tree.specs.declared.production.Part.TheVariants.{Terminal, Nonterminal}
use Rattle.df_tree.specs.Terminal.{terminal, terminal_of, of_sign}
use Rattle.df_tree.specs.Tree.{Tree, Leaf, Node, Trees, none, more, leaves, leaves_all}
use Rattle.df_tree.specs.Row.{Row}
use Rattle.df_tree.specs.Grammar.{declarations, statements, expressions, row, part_of, May, IsTree, Are, IsTreeOf}
use Rattle.df_tree.proofs.Fine.{row_has}
use Rattle.df_tree.proofs.Deep.{may_pass}
use Rattle.df_pdecl.specs.Refusing.{outside_of, or_else, begins_attribute, named_outside, first_outside}

-- neither a word outside the language nor the sign of an attribute
abbrev is_inside : ℕ → Bool
is_inside kind = not (kind == 1) && not (kind == of_sign signs.OpenAttribute)

abbrev part_inside : Part → Bool
part_inside (Terminal kind) = is_inside kind
part_inside (Nonterminal n) = true

abbrev row_inside : Row → Bool
row_inside r = list_all part_inside r.parts

declarations_inside : list_all row_inside declarations ≡ true
unfolding declarations
declarations_inside = refl

statements_inside : list_all row_inside statements ≡ true
unfolding statements
statements_inside = refl

expressions_inside : list_all row_inside expressions ≡ true
unfolding expressions
expressions_inside = refl

each_row_inside : (n : ℕ) → row_inside (row n) ≡ true
each_row_inside n = row_has row_inside n refl declarations_inside statements_inside expressions_inside

abbrev Inside : Token → Type 0
Inside x = is_inside (terminal x) ≡ true

mutual
  tree_inside : (t : Tree) → IsTree t → part_inside (part_of t) ≡ true → AllByRecursion Inside (leaves t)
  tree_inside (Leaf x) right inside = (inside, tt)
  tree_inside (Node n ts) right inside = trees_inside (row n) 0 ts right (each_row_inside n)

  trees_inside : (r : Row) (k : ℕ) (ts : Trees) → Are r k ts → row_inside r ≡ true → AllByRecursion Inside (leaves_all ts)
  trees_inside r k none right all = tt
  trees_inside r k (more t ts) right all = all_joined Inside (leaves t) (leaves_all ts) (tree_inside t right.1 (may_pass part_inside r.form r.parts k (part_of t) all right.0)) (trees_inside r (suc k) ts right.2 all)

kind_inside : (kind : Kind) (text : List ℕ) (pos : Pos) → is_inside (terminal_of kind) ≡ true → outside_of (record { kind = kind; text = text; pos = pos }) ≡ None
kind_inside (kinds.Outside name) text pos h = absurd (let f : false ≡ true = h in cc)
kind_inside _ text pos h = refl

kind_quiet : (kind : Kind) → is_inside (terminal_of kind) ≡ true → begins_attribute kind ≡ false
kind_quiet (kinds.Sign signs.OpenAttribute) h = absurd (let f : false ≡ true = h in cc)
kind_quiet _ h = refl

all_inside : (tokens : List Token) → AllByRecursion Inside tokens → first_outside tokens ≡ None
unfolding terminal
all_inside [] h = refl
all_inside (t ∷ tokens) h =
    ap (λ (o : Option Refusal). or_else (or_else o (if begins_attribute t.kind then named_outside tokens else None)) (first_outside tokens)) (kind_inside t.kind t.text t.pos h.0)
    ∙ ap (λ (b : Bool). or_else (if b then named_outside tokens else None) (first_outside tokens)) (kind_quiet t.kind h.0) ∙ all_inside tokens h.1

pub none_outside : (n : ℕ) (tokens : List Token) (t : Tree) → IsTreeOf n tokens t → first_outside tokens ≡ None
none_outside n tokens t of =
    let inside : part_inside (part_of t) ≡ true = rw of.starts refl in
    all_inside tokens (subst (AllByRecursion Inside) of.spelled (tree_inside t of.right inside))

pub outside_spells_none : (n : ℕ) (tokens : List Token) (r : Refusal) (t : Tree) → first_outside tokens ≡ Some r → IsTreeOf n tokens t → ⊥
outside_spells_none n tokens r t e of = let none_there : first_outside tokens ≡ None = none_outside n tokens t of in cc
