-- Nodes at one place that break one rule of types are told at one position.
use Rattle.std.proofs.Common.{◌≡◌, ℕ, true, not, List, Option, Some, None}
use Rattle.df_lang.specs.declared.ty.Ty.{Ty}
use Rattle.df_lang.specs.declared.ty.Ty.TheVariants as types
use Rattle.df_ntree.specs.Expr.{Expr}
use Rattle.df_ntyping.specs.Environment.{Environment}
use Rattle.df_ntyping.specs.ExprTypes.{type_in}
use Rattle.df_ntyping.specs.Node as nodes
use Rattle.df_ntyping.specs.Node.{Node, Occurrence, node_pos}
use Rattle.df_ntyping.specs.Places.{beginning_of}
use Rattle.df_ntyping.specs.Rule.{Rule, Typing, Given, Truths, Calls, Assigned, stage_of}
use Rattle.df_ntyping.specs.Breaks.{breaks}
use Rattle.df_ntyping.specs.rules.Truths.{is_truth}
use Rattle.df_ntyping.specs.Types.{if_type_known}
use Rattle.df_ntyping.proofs.AllNodes.{Alls, weaker}
use Rattle.df_ntyping.proofs.SoundNodes.{IsSound}

-- where both break a rule of types they are told at one position
pub record AreToldAlike (one other : Occurrence) : Type 0 where
  pub same : (rule : Rule) → (stage_of rule ≡ 0 → ⊥) → breaks one.env one.node rule ≡ true → breaks other.env other.node rule ≡ true → node_pos one.node ≡ node_pos other.node

-- it stands elsewhere, or they are told alike
pub record IsApart (whole one : Occurrence) : Type 0 where
  pub alike : one.start ≡ whole.start → one.after ≡ whole.after → AreToldAlike one whole

-- a node that breaks no rule of types
pub quiet_apart : {whole one : Occurrence} → IsSound one.env one.node → IsApart whole one
quiet_apart h = record { alike = λ p q. record { same = λ rule n b c. absurd (h rule n b) } }

-- ---- the nodes of an expression that are as long as it

-- what such a node breaks: no rule of values or of places, that of truths only where the type is known to be one, and that
-- of calls at the beginning
abbrev pub RootRule : Environment → Expr → Node → Rule → Type 0
RootRule env e node (Typing Given) = ⊥
RootRule env e node (Typing Assigned) = ⊥
RootRule env e node (Typing Truths) = type_in env None e ≡ Some types.Bool
RootRule env e node (Typing Calls) = node_pos node ≡ beginning_of e
RootRule env e node rule = Unit {0}

pub record IsRoot (env : Environment) (e : Expr) (start after : ℕ) (one : Occurrence) : Type 0 where
  pub breaks_so : one.start ≡ start → one.after ≡ after → (rule : Rule) → (stage_of rule ≡ 0 → ⊥) → breaks one.env one.node rule ≡ true → RootRule env e one.node rule

pub quiet_root : {env : Environment} {e : Expr} {start after : ℕ} {one : Occurrence} → IsSound one.env one.node → IsRoot env e start after one
quiet_root h = record { breaks_so = λ p q rule n b. absurd (h rule n b) }

-- one more node as long as the expression
pub record IsAspect (env : Environment) (e : Expr) (node : Node) : Type 0 where
  pub alike : (other : Node) (rule : Rule) → RootRule env e other rule → breaks env node rule ≡ true → node_pos other ≡ node_pos node

pub aspect_apart : {env : Environment} {e : Expr} {node : Node} {start after : ℕ} (all : List Occurrence) → IsAspect env e node → Alls (IsRoot env e start after) all → Alls (IsApart (record { env = env; node = node; start = start; after = after })) all
aspect_apart all aspect h =
    weaker all (λ one root. record { alike = λ p q. record { same = λ rule n b c. aspect.alike one.node rule (root.breaks_so p q rule n b) c } }) h

pub value_aspect : (env : Environment) (place : Option Ty) (e : Expr) → IsAspect env e (nodes.Value place e)
value_aspect env place e = record { alike = alike } where
  alike : (other : Node) (rule : Rule) → RootRule env e other rule → breaks env (nodes.Value place e) rule ≡ true → node_pos other ≡ node_pos (nodes.Value place e)
  alike other (Typing Given) r b = absurd r
  alike other rule r b = absurd cc

pub place_aspect : (env : Environment) (e : Expr) → IsAspect env e (nodes.Place e)
place_aspect env e = record { alike = alike } where
  alike : (other : Node) (rule : Rule) → RootRule env e other rule → breaks env (nodes.Place e) rule ≡ true → node_pos other ≡ node_pos (nodes.Place e)
  alike other (Typing Assigned) r b = absurd r
  alike other rule r b = absurd cc

pub no_call_aspect : (env : Environment) (e : Expr) → IsAspect env e (nodes.NoCall e)
no_call_aspect env e = record { alike = alike } where
  alike : (other : Node) (rule : Rule) → RootRule env e other rule → breaks env (nodes.NoCall e) rule ≡ true → node_pos other ≡ node_pos (nodes.NoCall e)
  alike other (Typing Calls) r b = r
  alike other rule r b = absurd cc

pub condition_aspect : (env : Environment) (e : Expr) → IsAspect env e (nodes.Condition e)
condition_aspect env e = record { alike = alike } where
  alike : (other : Node) (rule : Rule) → RootRule env e other rule → breaks env (nodes.Condition e) rule ≡ true → node_pos other ≡ node_pos (nodes.Condition e)
  alike other (Typing Truths) r b = absurd (let no : not (if_type_known is_truth (Some types.Bool)) ≡ true = rw r at b in cc)
  alike other rule r b = absurd cc
