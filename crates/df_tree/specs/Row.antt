-- Productions.
use Rattle.std.specs.Prelude.{ℕ, Bool, List}
use Rattle.std.specs.Borrow.{Bor}
use Rattle.df_tree.specs.declared.production.Counting.{Counting}
use Rattle.df_tree.specs.declared.label.Way.{Way}
use Rattle.df_tree.specs.declared.production.Form.{Form}
use Rattle.df_tree.specs.declared.production.Part.{Part}
use Rattle.df_tree.specs.declared.production.Production.{Production}

-- a production, with the numbers of its classes
pub record Row : Type 0 where
  pub form : Form
  pub way : Way
  pub parts : List Part
  pub empty : Bool
  pub greedy : Bool
  pub narrow : Bool
  pub first : ℕ
  pub second : ℕ
  pub follow : ℕ
  pub counting : Counting
  pub rank : ℕ

-- a production of the code, of which this is the list
abbrev pub entry_by : {P : Type 0} → (P → List Part) → Production P → Row
entry_by parts r = record {
  form = r.form;
  way = r.way;
  parts = parts r.parts;
  empty = r.empty;
  greedy = r.greedy;
  narrow = r.narrow;
  first = r.first;
  second = r.second;
  follow = r.follow;
  counting = r.counting;
  rank = r.rank;
}

-- a constant
abbrev pub entry : Production (record { now : List Part }) → Row
entry r = entry_by (λ l. l.now) r

-- where its list is borrowed
abbrev pub entry_of : Production (Bor (List Part)) → Row
entry_of r = entry_by (λ l. l.now) r
