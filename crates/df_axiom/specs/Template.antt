-- Templates of clauses.
use Rattle.std.specs.Prelude.{ℕ, List, [], ◌∷◌, map}
use Rattle.std.specs.Borrow.{Bor}
use Rattle.df_form.specs.declared.log.Lit.{Lit}
use Rattle.df_form.specs.declared.log.Pair.{Pair}
use Rattle.df_form.specs.declared.node.Op.TheVariants as ops
use Rattle.df_form.specs.Node.{Node}
use Rattle.df_axiom.specs.declared.templates.Need.{Need}
use Rattle.df_axiom.specs.declared.templates.Need.TheVariants as needs
use Rattle.df_axiom.specs.declared.templates.Piece.{Piece}
use Rattle.df_axiom.specs.declared.templates.Row.{Row}
use Rattle.df_axiom.specs.declared.templates.Template as declared

-- The nodes of an instance have places: first those of the pieces that it finds, and then those of the
-- nodes that its clause needs, in postorder of first occurrence.
pub record Template : Type 0 where
  -- how many terms an instance names
  pub terms : ℕ
  pub pieces : List Piece
  -- the places of pieces that are to be one node
  pub same : List Pair
  -- with places for their parts
  pub needed : List Node
  -- with places for its nodes
  pub clause : List Lit

-- a node that is needed, with places for its parts
abbrev pub need_of : Need → Node
need_of (needs.Number k) = record { op = ops.Number k; parts = [] }
need_of (needs.One op part) = record { op = op; parts = part ∷ [] }
need_of (needs.Two op left right) = record { op = op; parts = left ∷ right ∷ [] }

-- the code's template, without where it lies in memory
abbrev pub template_of : declared.Template → Template
template_of t = record { terms = t.terms; pieces = t.pieces.items; same = t.same.items; needed = map need_of t.needed.items; clause = t.clause.items }

-- a clause of a schema, by their numbers, with its template
pub record Entry : Type 0 where
  pub schema : ℕ
  pub clause : ℕ
  pub template : Template

-- a row of the code, of which these are the lists
abbrev pub entry_by : {P S N L : Type 0} → (P → List Piece) → (S → List Pair) → (N → List Need) → (L → List Lit) → Row P S N L → Entry
entry_by pieces same needed clause row = record {
  schema = row.schema;
  clause = row.clause;
  template = record { terms = row.terms; pieces = pieces row.pieces; same = same row.same; needed = map need_of (needed row.needed); clause = clause row.literals };
}

-- a constant
abbrev pub entry : Row (record { now : List Piece }) (record { now : List Pair }) (record { now : List Need }) (record { now : List Lit }) → Entry
entry row = entry_by (λ l. l.now) (λ l. l.now) (λ l. l.now) (λ l. l.now) row

-- where its lists are borrowed
abbrev pub entry_of : Row (Bor (List Piece)) (Bor (List Pair)) (Bor (List Need)) (Bor (List Lit)) → Entry
entry_of row = entry_by (λ l. l.now) (λ l. l.now) (λ l. l.now) (λ l. l.now) row
