-- What the connective of a node means is there, once its lines were gone through.
use Rattle.std.proofs.Common.{◌≡◌, ℕ, zero, suc, Bool, true, false, List, [], ◌∷◌, ◌++◌, take, length, Option, None, Some, slice_get, if◌then◌else◌, refl, sym, ap, ◌∙◌, subst, arith}
use Rattle.std.specs.Option.{option_and_then, option_map_or}
use Rattle.std.specs.List.{list_all}
use Rattle.std.proofs.lemmas.Option.{same_Some, slice_get_within}
use Rattle.std.proofs.lemmas.Bool.{and_parts}
use Rattle.df_lemmas.proofs.Lists.{get_below}
use Rattle.df_form.specs.Node.{Node}
use Rattle.df_form.specs.Sorting.{IsTable, sort_at}
use Rattle.df_form.specs.Clause.{are_literals}
use Rattle.df_form.specs.Log.{Connective}
use Rattle.df_form.specs.Sequent.{Sequent, IsSequent}
use Rattle.df_form.proofs.Values.{Grows, grown_get, grown_sort, AreSorted, parts_below}
use Rattle.df_rules.specs.Connective.{Added, connective_clause, connective_line}
use Rattle.df_clause.specs.Among.{Among}
use Rattle.df_clause.specs.GroundClause.{GroundClause}
use Rattle.df_clause.specs.Counting.{stands}
use Rattle.df_clause.specs.Lines.{lines_at, bound_by, bound_of}
use Rattle.df_clause.specs.GroundSet.{GroundSet, ground_clause, with_added, with_line, with_meaning, IsFrontOf}
use Rattle.df_clause.proofs.Complete.{connective_among, in_right}
use Rattle.df_clause.proofs.Parts.{first_below}
use Rattle.df_clause.proofs.Running.{grown_from}
use Rattle.df_clause.proofs.SameClauses.{again, connective_again, connective_too}
use Rattle.df_clause.proofs.Inside.{clause_inside}
use Rattle.df_clause.proofs.Sets.{Stands, front_twice, line_front}
use Rattle.df_clause.proofs.Passing.{stands_among, among_front, passed, Means}

-- the first part of a node has its sort among more nodes
pub alike : (before now : List Node) → AreSorted before → Grows before now → (n : ℕ) (node : Node) → slice_get before n ≡ Some node → (a : ℕ) (others : List ℕ) → node.parts ≡ a ∷ others → sort_at now a ≡ sort_at before a
alike before now sorted g n node at a others e =
    let less = first_below n node.parts a others (parts_below before n node sorted at) e in
    let within = slice_get_within before n node at in
    grown_sort before now g a (omega (arith, less, within))

tests_at : (test : GroundClause → Bool) (xs : List GroundClause) (i : ℕ) (x : GroundClause) → list_all test xs ≡ true → slice_get xs i ≡ Some x → test x ≡ true
tests_at test [] i x all at = absurd cc
tests_at test (y ∷ xs) zero x all at = subst (λ (z : GroundClause). test z ≡ true) (same_Some y x at) (and_parts (test y) (list_all test xs) all).0
tests_at test (y ∷ xs) (suc i) x all at = tests_at test xs i x (and_parts (test y) (list_all test xs) all).1 at

-- where all literals of standing clauses are of formulas, so are those of one that stands
literals_at : (nodes : List Node) (clauses : List GroundClause) (clause : GroundClause) → list_all (λ (c : GroundClause). are_literals nodes c.literals) clauses ≡ true → Among clauses clause → are_literals nodes clause.literals ≡ true
literals_at nodes clauses clause all there = tests_at (λ (c : GroundClause). are_literals nodes c.literals) clauses there.0 clause all there.1

-- the clause of a connective's line is there, and makes nothing any more
abbrev pub IsThere : GroundSet → ℕ → Node → Added → Type 0
IsThere all n node added = (added.nodes ≡ all.nodes) × Among all.clauses (record { literals = added.clause; bound = bound_by n node.op })

module _ (s : Sequent) (valid : IsSequent s) (all : GroundSet) (table : IsTable all.nodes) where
  module _ (n k : ℕ) (node : Node) (added : Added) (at : slice_get all.nodes n ≡ Some node) (line : connective_line all.nodes n k ≡ Some added) (mid : GroundSet) (st : Stands s mid) (here : slice_get mid.nodes n ≡ Some node)
      (goes_on : IsFrontOf (with_line s mid (Connective n k)) all) where
    now : Grows mid.nodes all.nodes
    now = grown_from mid.nodes all.nodes (front_twice mid (with_line s mid (Connective n k)) all (line_front s mid (Connective n k) st.sorted) goes_on).nodes

    own : connective_clause all.nodes n k node.op node.parts ≡ Some added
    own = sym (ap (option_and_then (λ (node : Node). connective_clause all.nodes n k node.op node.parts)) at) ∙ line

    bound : bound_of mid.nodes (Connective n k) ≡ bound_by n node.op
    bound = ap (option_and_then (λ (node : Node). bound_by n node.op)) here

    -- what it added there it adds here
    same : (old : Added) → connective_line mid.nodes n k ≡ Some old → Grows old.nodes all.nodes → added ≡ again all.nodes table old
    same old e after =
        let read = ap (option_and_then (λ (node : Node). connective_clause mid.nodes n k node.op node.parts)) here in
        let once_more = connective_again all.nodes table mid.nodes n k node.op node.parts old (alike mid.nodes all.nodes st.sorted now n node here) (sym read ∙ e) after in
        same_Some added (again all.nodes table old) (sym own ∙ once_more)

    pub there : IsThere all n node added
    there = by (connective_line mid.nodes n k) refl
      where
        read : (o : Option Added) → connective_line mid.nodes n k ≡ o → connective_clause mid.nodes n k node.op node.parts ≡ o
        read o e = sym (ap (option_and_then (λ (node : Node). connective_clause mid.nodes n k node.op node.parts)) here) ∙ e

        result : (old : Added) → connective_line mid.nodes n k ≡ Some old → Grows old.nodes all.nodes → Among all.clauses (ground_clause (bound_of mid.nodes (Connective n k)) old) → IsThere all n node added
        result old e after among =
            let is = same old e after in
            (ap (λ (x : Added). x.nodes) is, subst (Among all.clauses) (λ i. record { literals = (sym is i).clause; bound = bound i }) among)

        -- whether its clause stood already
        chosen : (old : Added) → connective_line mid.nodes n k ≡ Some old → (b : Bool) → stands mid.clauses (ground_clause (bound_of mid.nodes (Connective n k)) old) ≡ b → IsThere all n node added
        chosen old e true stood =
            let among = stands_among mid.clauses (ground_clause (bound_of mid.nodes (Connective n k)) old) stood in
            let literals = literals_at mid.nodes mid.clauses (ground_clause (bound_of mid.nodes (Connective n k)) old) st.literals among in
            let kept = clause_inside mid.nodes n k node.op node.parts old (read (Some old) e) literals in
            let front = front_twice mid (with_line s mid (Connective n k)) all (line_front s mid (Connective n k) st.sorted) goes_on in
            result old e (subst (λ (ns : List Node). Grows ns all.nodes) (sym kept) now) (among_front mid.clauses all.clauses _ front.clauses among)
        chosen old e false new =
            let made = made_set old e new in
            let after = grown_from old.nodes all.nodes (subst (λ (to : GroundSet). take (length to.nodes) all.nodes ≡ to.nodes) made goes_on.nodes) in
            let first = subst (λ (to : GroundSet). take (length to.clauses) all.clauses ≡ to.clauses) made goes_on.clauses in
            result old e after (among_front (mid.clauses ++ ground_clause (bound_of mid.nodes (Connective n k)) old ∷ []) all.clauses _ first (in_right mid.clauses (ground_clause (bound_of mid.nodes (Connective n k)) old ∷ []) _ (0, refl)))
          where
            made_set : (old : Added) → connective_line mid.nodes n k ≡ Some old → stands mid.clauses (ground_clause (bound_of mid.nodes (Connective n k)) old) ≡ false
                → with_line s mid (Connective n k) ≡ record { nodes = old.nodes; clauses = mid.clauses ++ ground_clause (bound_of mid.nodes (Connective n k)) old ∷ []; lines = mid.lines ++ Connective n k ∷ [] }
            made_set old e new =
                ap (λ (o : Option Added). option_map_or (with_added mid (Connective n k) (bound_of mid.nodes (Connective n k))) o mid) e
                ∙ ap (λ (b : Bool). if b then mid else (record { nodes = old.nodes; clauses = mid.clauses ++ ground_clause (bound_of mid.nodes (Connective n k)) old ∷ []; lines = mid.lines ++ Connective n k ∷ [] })) new

        by : (o : Option Added) → connective_line mid.nodes n k ≡ o → IsThere all n node added
        by None none = absurd (connective_too all.nodes mid.nodes n k node.op node.parts added (alike mid.nodes all.nodes st.sorted now n node here) own (read None none))
        by (Some old) e = chosen old e (stands mid.clauses (ground_clause (bound_of mid.nodes (Connective n k)) old)) refl

  -- where the node's lines were gone through
  pub meaning_there : (n k : ℕ) (node : Node) (added : Added) → slice_get all.nodes n ≡ Some node → connective_line all.nodes n k ≡ Some added → Means s all n → IsThere all n node added
  meaning_there n k node added at line m =
      let grown = grown_from m.mid.nodes all.nodes m.begins.nodes in
      let found = get_below m.mid.nodes n m.inside in
      let same_node : found.0 ≡ node = same_Some found.0 node (sym (grown_get m.mid.nodes all.nodes grown n found.0 found.1) ∙ at) in
      let here = found.1 ∙ ap (λ (x : Node). Some x) same_node in
      let own = sym (ap (option_and_then (λ (node : Node). connective_clause all.nodes n k node.op node.parts)) at) ∙ line in
      let read = ap (option_and_then (λ (node : Node). connective_clause m.mid.nodes n k node.op node.parts)) here in
      let among = connective_among m.mid.nodes n k (λ none. connective_too all.nodes m.mid.nodes n k node.op node.parts added (alike m.mid.nodes all.nodes m.stands.sorted grown n node here) own (sym read ∙ none)) in
      let p = passed s valid (lines_at m.mid.nodes n) m.mid among.0 (Connective n k) m.stands among.1 in
      let from = grown_from m.mid.nodes p.mid.nodes p.begins.nodes in
      there n k node added at line p.mid p.stands (grown_get m.mid.nodes p.mid.nodes from n node here) (front_twice (with_line s p.mid (Connective n k)) (with_meaning s m.mid n) all p.goes_on m.goes_on)
