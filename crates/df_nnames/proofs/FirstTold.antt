-- The first refusal of the rules of names tells the least that they find.
use Rattle.std.proofs.Common.{◌≡◌, ℕ, Bool, true, false, not, List, [], ◌∷◌, ◌++◌, Option, Some, None, is_some, refl, sym, ap, subst, ◌∙◌, ◌⊎◌, inl, inr, ◌≤◌, arith}
use Rattle.std.specs.Prelude.{Contains}
use Rattle.std.specs.List.{AllByRecursion}
use Rattle.df_base.specs.declared.refusal.Refusal.{Refusal}
use Rattle.df_base.specs.declared.refusal.Stop.{Stop}
use Rattle.df_base.specs.declared.refusal.Stop.TheVariants as stops
use Rattle.df_base.specs.Refusing.{IfRefused}
use Rattle.df_ntree.specs.declared.tree.Ident.{Ident}
use Rattle.df_ntree.specs.File.{File}
use Rattle.df_ntree.specs.FileSpelling.{IsFile}
use Rattle.df_ntyping.specs.Table.{newtype_of}
use Rattle.df_ntyping.specs.Environment.{Environment}
use Rattle.df_ntyping.specs.Meaning.{meaning_of}
use Rattle.df_ntyping.specs.Node as nodes
use Rattle.df_ntyping.specs.Node.{Node, Occurrence, node_name}
use Rattle.df_ntyping.specs.Rule.{Rule, Unknown, Twice, Typing, Uninferred, Range, stage_of}
use Rattle.df_ntyping.specs.Breaks.{breaks, Breaks}
use Rattle.df_ntyping.specs.rules.Names.{is_among}
use Rattle.df_ntyping.specs.FileNodes.{file_nodes}
use Rattle.df_ntyping.specs.FileElaboration.{HasNames}
use Rattle.df_ntyping.specs.Least.{Fault, Tells, IsToldIn, IsFaultIn, BreaksNoneIn, comes_before}
use Rattle.df_ntyping.specs.Laws.{AreInOrder}
use Rattle.df_ntyping.proofs.NamedFiles.{none_broken_is_named}
use Rattle.df_ntyping.proofs.LeastExists.{irreflexive}
use Rattle.df_ntyping.proofs.Order.{AreApart}
use Rattle.df_ntyping.proofs.FileOrder.{nodes_are_in_order, names_are_apart}
use Rattle.df_ntyping.proofs.First.{IsLeastIn, AreAtOnePlace, each_of, none_in_none, none_in_both, none_in_right, least_behind, least_before, least_at, told_in}
use Rattle.df_nnames.specs.Faults.{unknown, twice, else_told, told_if, IsFirst, file_faults}
use Rattle.df_nnames.specs.Telling.{IsTold}
use Rattle.df_nnames.proofs.ExprNodes.{told_at, told}
use Rattle.df_nnames.proofs.FileNodes.{file_same}

-- ---- one node

-- the rules of names
is_name_rule : (rule : Rule) → stage_of rule ≡ 0 → (rule ≡ Unknown) ⊎ (rule ≡ Twice)
is_name_rule Unknown p = inl refl
is_name_rule Twice p = inr refl
is_name_rule (Typing rule) p = absurd cc
is_name_rule Uninferred p = absurd cc
is_name_rule Range p = absurd cc

-- a node without a name breaks none of them
no_unknown : (env : Environment) (node : Node) → node_name node ≡ None → breaks env node Unknown ≡ true → ⊥
no_unknown env (nodes.NewName before ident) n p = cc
no_unknown env (nodes.UsedName ident) n p = cc
no_unknown env (nodes.UsedType ident) n p = cc
no_unknown env node n p = cc

no_twice : (env : Environment) (node : Node) → node_name node ≡ None → breaks env node Twice ≡ true → ⊥
no_twice env (nodes.NewName before ident) n p = cc
no_twice env node n p = cc

nameless : (env : Environment) (node : Node) (rule : Rule) → node_name node ≡ None → Breaks env node rule → stage_of rule ≡ 0 → ⊥
nameless env node rule n p s = by (is_name_rule rule s) where
  by : (rule ≡ Unknown) ⊎ (rule ≡ Twice) → ⊥
  by (inl is) = no_unknown env node n (subst (λ (r : Rule). breaks env node r ≡ true) is p)
  by (inr is) = no_twice env node n (subst (λ (r : Rule). breaks env node r ≡ true) is p)

-- it is told what the node breaks, and no other rule of names is broken there
record IsToldAt (env : Environment) (node : Node) (rule : Rule) (refusal : Refusal) : Type 0 where
  is : told_at true env node ≡ refusal ∷ []
  broken : breaks env node rule ≡ true
  of_stage : stage_of rule ≡ 0
  tells : (start after : ℕ) → Tells (record { at = record { env = env; node = node; start = start; after = after }; rule = rule }) refusal
  only : (other : Rule) → breaks env node other ≡ true → stage_of other ≡ 0 → other ≡ rule

-- nothing is told, and nothing is broken
record IsClear (env : Environment) (node : Node) : Type 0 where
  is : told_at true env node ≡ []
  whole : (rule : Rule) → breaks env node rule ≡ true → stage_of rule ≡ 0 → ⊥

Outcome : Environment → Node → Type 0
Outcome env node = IsClear env node ⊎ ((rule : Rule) × (refusal : Refusal) × IsToldAt env node rule refusal)

new_name : (env : Environment) (before : List ℕ) (ident : Ident) (b : Bool) → is_among before ident.name ≡ b → Outcome env (nodes.NewName before ident)
unfolding Outcome
new_name env before ident true p = inr (
  Twice,
  twice ident,
  record {
    is = rw p refl;
    broken = p;
    of_stage = refl;
    tells = λ start after. record { code = refl; pos = refl; detail = refl };
    only = only;
  },
) where
  only : (other : Rule) → breaks env (nodes.NewName before ident) other ≡ true → stage_of other ≡ 0 → other ≡ Twice
  only other q s = by (is_name_rule other s) where
    by : (other ≡ Unknown) ⊎ (other ≡ Twice) → other ≡ Twice
    by (inl is) = let r : false ≡ true = subst (λ (r : Rule). breaks env (nodes.NewName before ident) r ≡ true) is q in absurd cc
    by (inr is) = is
new_name env before ident false p = inl (record { is = rw p refl; whole = whole }) where
  whole : (rule : Rule) → breaks env (nodes.NewName before ident) rule ≡ true → stage_of rule ≡ 0 → ⊥
  whole rule q s = by (is_name_rule rule s) where
    by : (rule ≡ Unknown) ⊎ (rule ≡ Twice) → ⊥
    by (inl is) = let r : false ≡ true = subst (λ (r : Rule). breaks env (nodes.NewName before ident) r ≡ true) is q in cc
    by (inr is) = let r : is_among before ident.name ≡ true = subst (λ (r : Rule). breaks env (nodes.NewName before ident) r ≡ true) is q in cc

-- a use, whose test says whether it has a meaning
module _ (env : Environment) (node : Node) (ident : Ident) (test : Bool) (told_so : told_at true env node ≡ else_told test (unknown ident)) (unknown_so : breaks env node Unknown ≡ not test) (not_twice : breaks env node Twice ≡ false)
    (named : (start after : ℕ) → Tells (record { at = record { env = env; node = node; start = start; after = after }; rule = Unknown }) (unknown ident)) where
  only_unknown : (other : Rule) → breaks env node other ≡ true → stage_of other ≡ 0 → other ≡ Unknown
  only_unknown other q s = by (is_name_rule other s) where
    by : (other ≡ Unknown) ⊎ (other ≡ Twice) → other ≡ Unknown
    by (inl is) = is
    by (inr is) = let r : breaks env node Twice ≡ true = subst (λ (r : Rule). breaks env node r ≡ true) is q in absurd cc

  clear : test ≡ true → (rule : Rule) → breaks env node rule ≡ true → stage_of rule ≡ 0 → ⊥
  clear p rule q s =
      let is = only_unknown rule q s in
      let r : not test ≡ true = sym unknown_so ∙ subst (λ (r : Rule). breaks env node r ≡ true) is q in
      let n : false ≡ true = sym (ap not p) ∙ r in
      cc

  looked_up : (b : Bool) → test ≡ b → Outcome env node
  unfolding Outcome
  looked_up true p = inl (record { is = told_so ∙ ap (λ (t : Bool). else_told t (unknown ident)) p; whole = clear p })
  looked_up false p = inr (Unknown, unknown ident, record { is = told_so ∙ ap (λ (t : Bool). else_told t (unknown ident)) p; broken = unknown_so ∙ ap not p; of_stage = refl; tells = named; only = only_unknown })

outcome : (env : Environment) (node : Node) → Outcome env node
unfolding Outcome
outcome env (nodes.NewName before ident) = new_name env before ident (is_among before ident.name) refl
outcome env (nodes.UsedName ident) =
    looked_up env (nodes.UsedName ident) ident (is_some (meaning_of env ident.name)) refl refl refl (λ start after. record { code = refl; pos = refl; detail = refl }) (is_some (meaning_of env ident.name)) refl
outcome env (nodes.UsedType ident) =
    looked_up env (nodes.UsedType ident) ident (is_some (newtype_of env.table.newtypes ident.name)) refl refl refl (λ start after. record { code = refl; pos = refl; detail = refl }) (is_some (newtype_of env.table.newtypes ident.name)) refl
outcome env node = inl (record { is = refl; whole = λ rule p s. nameless env node rule refl p s })

-- ---- all nodes

none_at : (one : Occurrence) → ((rule : Rule) → breaks one.env one.node rule ≡ true → stage_of rule ≡ 0 → ⊥) → BreaksNoneIn 0 (one ∷ [])
none_at one none fault ((c, b), s) = by c where
  by : Contains (one ∷ []) fault.at → ⊥
  by c =
      let same = each_of (λ (o : Occurrence). o ≡ one) (one ∷ []) fault.at (refl, tt) c in
      none fault.rule (subst (λ (o : Occurrence). Breaks o.env o.node fault.rule) same b) s

pub none_told : (all : List Occurrence) → told true all ≡ [] → BreaksNoneIn 0 all
unfolding Outcome
none_told [] e = none_in_none 0
none_told (one ∷ others) e = by (outcome one.env one.node) (λ h. none_told others h) where
  by : Outcome one.env one.node → (told true others ≡ [] → BreaksNoneIn 0 others) → BreaksNoneIn 0 (one ∷ others)
  by (inl clear) rest = none_in_both 0 (one ∷ []) others (none_at one clear.whole) (rest (sym (ap (λ (all : List Refusal). all ++ told true others) clear.is) ∙ e))
  by (inr (rule, refusal, h)) rest = let f : refusal ∷ told true others ≡ [] = sym (ap (λ (all : List Refusal). all ++ told true others) h.is) ∙ e in absurd cc

pub none_is_told : (all : List Occurrence) → BreaksNoneIn 0 all → told true all ≡ []
unfolding Outcome
none_is_told [] h = refl
none_is_told (one ∷ others) h = by (outcome one.env one.node) (none_is_told others (none_in_right 0 (one ∷ []) others h)) where
  by : Outcome one.env one.node → told true others ≡ [] → told true (one ∷ others) ≡ []
  by (inl clear) rest = ap (λ (all : List Refusal). all ++ told true others) clear.is ∙ rest
  by (inr (rule, refusal, t)) rest = absurd (h (record { at = one; rule = rule }) (((0, omega arith, refl), t.broken), t.of_stage))

pub first_told : (all : List Occurrence) (refusal : Refusal) → AreInOrder all → AreApart all → IsFirst (told true all) refusal → (fault : Fault) × IsLeastIn 0 all fault × Tells fault refusal
unfolding AreApart Outcome
first_told [] refusal ordered apart h = absurd h
first_told (one ∷ others) refusal ordered apart h = by (outcome one.env one.node) (λ k. first_told others refusal ordered.1 apart.1 k) where
  by : Outcome one.env one.node → (IsFirst (told true others) refusal → (fault : Fault) × IsLeastIn 0 others fault × Tells fault refusal) → (fault : Fault) × IsLeastIn 0 (one ∷ others) fault × Tells fault refusal
  by (inl clear) rest =
      let (fault, least, tells) = rest (subst (λ (all : List Refusal). IsFirst (all ++ told true others) refusal) clear.is h) in
      (fault, least_behind 0 (one ∷ []) others fault (none_at one clear.whole) least, tells)
  by (inr (rule, first, t)) rest =
      let same : refusal ≡ first = subst (λ (all : List Refusal). IsFirst (all ++ told true others) refusal) t.is h in
      let fault : Fault = record { at = one; rule = rule } in (
        fault,
        least_before 0 (one ∷ []) others fault ordered
            (least_at 0 one rule t.broken t.of_stage (λ other b s. subst (λ (r : Rule). comes_before (record { at = one; rule = r }) fault ≡ false) (sym (t.only other b s)) (irreflexive fault)))
            (beside fault refl),
        subst (λ (r : Refusal). Tells fault r) (sym same) (t.tells one.start one.after),
      )
    where
      beside : (fault : Fault) → fault.at ≡ one → (other : Fault) → IsFaultIn 0 others other → AreAtOnePlace other fault → comes_before other fault ≡ false
      beside fault is other ((c, b), s) place =
          let ends : other.at.after ≡ one.after = place.0 ∙ ap (λ (o : Occurrence). o.after) is in
          absurd (nameless other.at.env other.at.node other.rule (each_of _ others other.at apart.0 c (omega (arith, ends))) b s)

-- ---- files

pub file_is_named : (file : File) → file_faults file ≡ [] → HasNames file
file_is_named file none = none_broken_is_named file (λ fault broken of_stage. none_told (file_nodes file) (file_same file ∙ none) fault (broken, of_stage))

pub file_is_told : (file : File) (refusal : Refusal) → IsFile file → IsFirst (file_faults file) refusal → IsToldIn 0 (file_nodes file) refusal
file_is_told file refusal g h =
    let (fault, least, tells) = first_told (file_nodes file) refusal (nodes_are_in_order file g) (names_are_apart file g) (subst (λ (all : List Refusal). IsFirst all refusal) (sym (file_same file)) h) in
    told_in 0 (file_nodes file) fault refusal least (λ other broken. omega arith) tells

pub stop_is_told : (file : File) (stop : Stop) → IsFile file → IsTold stop (file_faults file) → IfRefused (IsToldIn 0 (file_nodes file)) stop
stop_is_told file stops.Memory g h = tt
stop_is_told file (stops.Refused refusal) g h = file_is_told file refusal g h
