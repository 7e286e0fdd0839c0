-- Clauses that are bound are those that equalities mean.
use Rattle.std.proofs.Common.{◌≡◌, ◌⊎◌, inl, inr, ℕ, List, [], ◌∷◌, ◌++◌, length, Some, slice_get, refl, sym, ap, ◌∙◌, subst}
use Rattle.std.specs.Option.{option_and_then}
use Rattle.std.proofs.lemmas.Option.{same_Some}
use Rattle.df_lemmas.proofs.Lists.{get_pushed}
use Rattle.df_lemmas.proofs.Options.{then_some}
use Rattle.df_form.specs.declared.node.Op.{Op}
use Rattle.df_form.specs.declared.node.Op.TheVariants as ops
use Rattle.df_form.specs.declared.log.Lit.{Lit}
use Rattle.df_form.specs.Node.{Node}
use Rattle.df_form.specs.Sorting.{IsTable}
use Rattle.df_form.specs.Log.{Step, Hypothesis, Goal, Connective, Schema, Propagation, Congruence, Linear, Split, Make}
use Rattle.df_form.specs.Sequent.{Sequent, IsSequent}
use Rattle.df_form.proofs.Values.{Grows, grows_not, grows_twice, grown_get, AreSorted}
use Rattle.df_rules.specs.Connective.{Added, connective_clause, connective_line}
use Rattle.df_clause.specs.Among.{Among}
use Rattle.df_clause.specs.GroundClause.{GroundClause}
use Rattle.df_clause.specs.Lines.{lines_at, bound_by, bound_of}
use Rattle.df_clause.specs.Adding.{added_by}
use Rattle.df_clause.specs.GroundSet.{GroundSet, no_clauses, ground_clause, with_line, with_lines, with_meaning, with_meanings}
use Rattle.df_clause.specs.GroundView.{IsBoundTo}
use Rattle.df_clause.proofs.Running.{is_addition}
use Rattle.df_clause.proofs.SameClauses.{connective_again}
use Rattle.df_clause.proofs.Meanings.{alike}
use Rattle.df_clause.proofs.Sets.{Stands, line_either, line_stands, lines_stand}

-- among nodes on the way a line of the equality added the clause
pub record HasBound (now : List Node) (n : ℕ) (clause : GroundClause) : Type 0 where
  pub mid : List Node
  pub sorted : AreSorted mid
  pub of : Node
  pub there : slice_get mid n ≡ Some of
  pub equality : of.op ≡ ops.Equal
  pub number : ℕ
  pub added : Added
  pub by : connective_line mid n number ≡ Some added
  pub literals : added.clause ≡ clause.literals
  pub before : Grows mid added.nodes
  pub after : Grows added.nodes now

abbrev pub Bounds : GroundSet → Type 0
Bounds set = (n : ℕ) (clause : GroundClause) → Among set.clauses clause → clause.bound ≡ Some n → HasBound set.nodes n clause

bound_later : (now later : List Node) (n : ℕ) (clause : GroundClause) → Grows now later → HasBound now n clause → HasBound later n clause
bound_later now later n clause g h = record {
  mid = h.mid;
  sorted = h.sorted;
  of = h.of;
  there = h.there;
  equality = h.equality;
  number = h.number;
  added = h.added;
  by = h.by;
  literals = h.literals;
  before = h.before;
  after = grows_twice h.added.nodes now later h.after g;
}

bound_equal : (m n : ℕ) (op : Op) → bound_by m op ≡ Some n → (op ≡ ops.Equal) × (m ≡ n)
bound_equal m n ops.Equal e = (refl, same_Some m n e)
bound_equal m n op e = absurd cc

module _ (s : Sequent) (valid : IsSequent s) where
  new_bound : (set : GroundSet) (line : Step) (added : Added) (n : ℕ) → Stands s set → added_by s set.nodes line ≡ Some added → bound_of set.nodes line ≡ Some n → HasBound added.nodes n (ground_clause (bound_of set.nodes line) added)
  new_bound set (Connective m k) added n st e bound =
      let found = then_some (λ (node : Node). bound_by m node.op) (slice_get set.nodes m) n bound in
      let is = bound_equal m n found.0.op found.2 in
      record {
        mid = set.nodes;
        sorted = st.sorted;
        of = found.0;
        there = ap (slice_get set.nodes) (sym is.1) ∙ found.1;
        equality = is.0;
        number = k;
        added = added;
        by = ap (λ (x : ℕ). connective_line set.nodes x k) (sym is.1) ∙ e;
        literals = refl;
        before = (is_addition s set.nodes (Connective m k) added st.sorted e).grows;
        after = grows_not added.nodes;
      }
  new_bound set (Hypothesis i) added n st e bound = absurd cc
  new_bound set Goal added n st e bound = absurd cc
  new_bound set (Schema schema k terms) added n st e bound = absurd cc
  new_bound set (Propagation numbers conclusion) added n st e bound = absurd cc
  new_bound set (Congruence conclusion pairs) added n st e bound = absurd cc
  new_bound set (Linear conclusion combinations) added n st e bound = absurd cc
  new_bound set (Split m k) added n st e bound = absurd cc
  new_bound set (Make node) added n st e bound = absurd cc

  line_bounds : (set : GroundSet) (line : Step) → Stands s set → Bounds set → Bounds (with_line s set line)
  line_bounds set line st all = line_either s set line Bounds all made
    where
      made : (added : Added) → added_by s set.nodes line ≡ Some added → Bounds (record { nodes = added.nodes; clauses = set.clauses ++ ground_clause (bound_of set.nodes line) added ∷ []; lines = set.lines ++ line ∷ [] })
      made added e n clause among bound = by (get_pushed set.clauses (ground_clause (bound_of set.nodes line) added) among.0 clause among.1)
        where
          by : (slice_get set.clauses among.0 ≡ Some clause) ⊎ ((among.0 ≡ length set.clauses) × (ground_clause (bound_of set.nodes line) added ≡ clause)) → HasBound added.nodes n clause
          by (inl old) = bound_later set.nodes added.nodes n clause (is_addition s set.nodes line added st.sorted e).grows (all n clause (among.0, old) bound)
          by (inr new) = subst (HasBound added.nodes n) new.1 (new_bound set line added n st e (ap (λ (c : GroundClause). c.bound) new.1 ∙ bound))

  pub lines_bounds : (lines : List Step) (set : GroundSet) → Stands s set → Bounds set → Bounds (with_lines s set lines)
  lines_bounds [] set st all = all
  lines_bounds (line ∷ lines) set st all = lines_bounds lines (with_line s set line) (line_stands s set line valid st) (line_bounds set line st all)

  pub meanings_bounds : (numbers : List ℕ) (set : GroundSet) → Stands s set → Bounds set → Bounds (with_meanings s set numbers)
  meanings_bounds [] set st all = all
  meanings_bounds (n ∷ numbers) set st all = meanings_bounds numbers (with_meaning s set n) (lines_stand s valid (lines_at set.nodes n) set st) (lines_bounds (lines_at set.nodes n) set st all)

pub none_bound : (s : Sequent) → Bounds (no_clauses s)
none_bound s n clause among bound = absurd (none among.0 among.1)
  where
    none : (i : ℕ) → slice_get [] i ≡ Some clause → ⊥
    none i e = cc

-- among all nodes it is what the equality means
pub bound_to : (nodes : List Node) (n : ℕ) (clause : GroundClause) → IsTable nodes → HasBound nodes n clause → IsBoundTo nodes n clause
bound_to nodes n clause table h =
    let grown = grows_twice h.mid h.added.nodes nodes h.before h.after in
    let there = grown_get h.mid nodes grown n h.of h.there in
    let read = ap (option_and_then (λ (node : Node). connective_clause h.mid n h.number node.op node.parts)) h.there in
    let now = connective_again nodes table h.mid n h.number h.of.op h.of.parts h.added (alike h.mid nodes h.sorted grown n h.of h.there) (sym read ∙ h.by) h.after in
    record {
      of = h.of;
      there = there;
      equality = h.equality;
      number = h.number;
      line = ap (option_and_then (λ (node : Node). connective_clause nodes n h.number node.op node.parts)) there ∙ now ∙ ap (λ (ls : List Lit). Some (record { nodes = nodes; clause = ls })) h.literals;
    }
