-- The rows of literals, one literal after another.
use Rattle.std.proofs.Common.{◌≡◌, ℕ, suc, ◌+◌, ◌<◌, Bool, true, false, List, [], ◌∷◌, ◌++◌, length, drop, get_or, slice_get, Option, Some, None, refl, sym, ap, ◌∙◌, add-one, append_assoc}
use Rattle.std.proofs.Math.Seq.{drop-cons}
use Rattle.std.proofs.lemmas.Option.{none-some, same_Some}
use Rattle.std.specs.Option.{option_and_then, option_map}
use Rattle.df_form.specs.declared.log.Lit.{Lit}
use Rattle.df_form.specs.declared.node.Sort.{Sort}
use Rattle.df_form.specs.declared.node.Sort.TheVariants as sorts
use Rattle.df_form.specs.declared.node.Op.{Op}
use Rattle.df_form.specs.declared.node.Op.TheVariants as ops
use Rattle.df_form.specs.Node.{Node}
use Rattle.df_form.specs.Sorting.{sort_at}
use Rattle.df_row.specs.declared.linear.Comparison.{Comparison}
use Rattle.df_row.specs.declared.row.RowFault.{RowFault}
use Rattle.df_row.specs.declared.row.RowFault.TheVariants as faults
use Rattle.df_row.specs.Row.{Row}
use Rattle.df_row.specs.RowView.{Fails}
use Rattle.df_row.specs.Linear.{comparison_rows, rows_by_sort, rows_of_parts, rows_of_node, rows_of}
use Rattle.df_row.specs.LinearView.{compared, compared_by_sort, compared_parts, comparison_of, rows_of_comparison}

-- the rows of a literal are those of what it compares
compared_rows : (nodes : List Node) (positive : Bool) (op : Op) (a b : ℕ) → comparison_rows nodes positive op a b ≡ rows_of_comparison nodes (length nodes) (compared positive op a b)
compared_rows nodes true ops.AtMost a b = refl
compared_rows nodes false ops.AtMost a b = refl
compared_rows nodes true ops.Equal a b = refl
compared_rows nodes false ops.Equal a b = refl
compared_rows nodes true op a b = refl
compared_rows nodes false op a b = refl

sort_rows : (nodes : List Node) (sort : Sort) (positive : Bool) (op : Op) (a b : ℕ) → rows_by_sort sort nodes positive op a b ≡ rows_of_comparison nodes (length nodes) (compared_by_sort sort positive op a b)
sort_rows nodes sorts.Number positive op a b = compared_rows nodes positive op a b
sort_rows nodes sorts.Truth positive op a b = refl
sort_rows nodes sorts.Character positive op a b = refl

parts_rows : (nodes : List Node) (positive : Bool) (op : Op) (parts : List ℕ) → rows_of_parts nodes positive op parts ≡ rows_of_comparison nodes (length nodes) (compared_parts nodes positive op parts)
parts_rows nodes positive op [] = refl
parts_rows nodes positive op (a ∷ []) = refl
parts_rows nodes positive op (a ∷ b ∷ []) = sort_rows nodes (sort_at nodes a) positive op a b
parts_rows nodes positive op (a ∷ b ∷ d ∷ others) = refl

pub node_rows : (nodes : List Node) (positive : Bool) (node : Option Node) → rows_of_node nodes positive node ≡ rows_of_comparison nodes (length nodes) (comparison_of nodes positive node)
node_rows nodes positive None = refl
node_rows nodes positive (Some node) = parts_rows nodes positive node.op node.parts

-- rows, in front of those of the literals that are left
abbrev pub gathered : List Node → List Row → List Lit → Option (List Row)
gathered nodes rows left = option_map (λ more. rows ++ more) (rows_of nodes left)

pub record IsGathering (nodes : List Node) (all : List Lit) (i : ℕ) (rows : List Row) : Type 0 where
  pub same : gathered nodes rows (drop i all) ≡ rows_of nodes all

map_none : {A B : Type 0} (f : A → B) (o : Option A) → option_map f o ≡ None → o ≡ None
map_none f None e = refl
map_none f (Some x) e = absurd (none-some (f x) (sym e))

front : (rows x : List Row) (rest : Option (List Row)) → option_map (λ more. rows ++ more) (option_map (λ more. x ++ more) rest) ≡ option_map (λ more. (rows ++ x) ++ more) rest
front rows x None = refl
front rows x (Some more) = ap Some (sym (append_assoc rows x more))

pub map_some : {A B P : Type 0} (f : A → B) (o : Option A) (y : B) → option_map f o ≡ Some y → ((x : A) → o ≡ Some x → f x ≡ y → P) → P
map_some f None y e go = absurd (none-some y e)
map_some f (Some x) y e go = go x refl (same_Some (f x) y e)

-- what a read past the end would give
abbrev pub no_literal : Lit
no_literal = record { positive = false; node = 0 }

module _ (nodes : List Node) (all : List Lit) (i : ℕ) (rows : List Row) (comparison : Comparison) (less : i < length all) (so_far : IsGathering nodes all i rows) (is : let l = get_or all i no_literal in comparison ≡ comparison_of nodes l.positive (slice_get nodes l.node)) where
  abbrev here : Lit
  here = get_or all i no_literal

  abbrev goes : List Lit → Option (List Row) → Option (List Row)
  goes left own = option_map (λ more. rows ++ more) (option_and_then (λ first. option_map (λ more. first ++ more) (rows_of nodes left)) own)

  opened : rows_of nodes all ≡ goes (drop (suc i) all) (rows_of_comparison nodes (length nodes) comparison)
  opened = sym so_far.same ∙ ap (gathered nodes rows) (drop-cons all i no_literal less) ∙ ap (goes (drop (suc i) all)) (node_rows nodes here.positive (slice_get nodes here.node) ∙ ap (rows_of_comparison nodes (length nodes)) (sym is))

  pub gathers : (new : List Row) → option_map (λ more. rows ++ more) (rows_of_comparison nodes (length nodes) comparison) ≡ Some new → IsGathering nodes all (i + 1) new
  gathers new e = map_some (λ more. rows ++ more) (rows_of_comparison nodes (length nodes) comparison) new e (λ own at join. record { same = sym (opened ∙ ap (goes (drop (suc i) all)) at ∙ front rows own (rows_of nodes (drop (suc i) all)) ∙ ap (λ r. gathered nodes r (drop (suc i) all)) join ∙ ap (λ k. gathered nodes new (drop k all)) (sym (add-one i))) })

  pub gathering_fails : (fault : RowFault) → Fails fault (option_map (λ more. rows ++ more) (rows_of_comparison nodes (length nodes) comparison)) → Fails fault (rows_of nodes all)
  gathering_fails faults.Memory none = tt
  gathering_fails faults.Refused none = opened ∙ ap (goes (drop (suc i) all)) (map_none (λ more. rows ++ more) (rows_of_comparison nodes (length nodes) comparison) none)
