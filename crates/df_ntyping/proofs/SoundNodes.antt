-- Nodes that break no rule of types, kind by kind.
use Rattle.std.proofs.Common.{◌≡◌, ℕ, Bool, true, false, not, List, Option, refl}
use Rattle.std.specs.Prelude.{is_some, slice_get}
use Rattle.df_base.specs.declared.pos.Pos.{Pos}
use Rattle.df_lang.specs.declared.ty.Ty.{Ty}
use Rattle.df_ntree.specs.declared.tree.Ident.{Ident}
use Rattle.df_ntree.specs.Expr.{Expr}
use Rattle.df_ntree.specs.File.{Clause, NewtypeDeclaration}
use Rattle.df_ntyping.specs.Environment.{Environment}
use Rattle.df_ntyping.specs.Meaning.{called_signature}
use Rattle.df_ntyping.specs.LocalTypes.{are_enough}
use Rattle.df_ntyping.specs.Node as nodes
use Rattle.df_ntyping.specs.Node.{Node, Occurrence, Owner}
use Rattle.df_ntyping.specs.Rule.{Rule, Unknown, Twice, Typing, Uninferred, Range, Given, Truths, ArgumentCount, Calls, Assigned, Returned, Broken, Clauses, stage_of}
use Rattle.df_ntyping.specs.Breaks.{breaks}
use Rattle.df_ntyping.specs.Least.{Fault, IsFault}
use Rattle.df_ntyping.specs.rules.Names.{is_unfixed}
use Rattle.df_ntyping.specs.rules.Values.{breaks_given, are_given}
use Rattle.df_ntyping.specs.rules.Truths.{breaks_truths}
use Rattle.df_ntyping.specs.rules.Calls.{takes}
use Rattle.df_ntyping.specs.rules.Assignments.{is_place, gives_all}
use Rattle.df_ntyping.specs.rules.Loops.{belongs, breaks_clauses}
use Rattle.df_ntyping.specs.rules.Newtypes.{bounds_of}
use Rattle.df_ntyping.proofs.LeastExists.{true_not_false}
use Rattle.df_ntyping.proofs.AllNodes.{Alls, each_in}
use Rattle.df_ntyping.proofs.MovedNodes.{Of}

-- a rule of types that is broken is none
abbrev pub IsSound : Environment → Node → Type 0
IsSound env node = (rule : Rule) → (stage_of rule ≡ 0 → ⊥) → breaks env node rule ≡ true → ⊥

abbrev pub AllSound : List Occurrence → Type 0
AllSound nodes = Alls (Of IsSound) nodes

pub sound : {env : Environment} {node : Node} {start after : ℕ} → IsSound env node → Of IsSound (record { env = env; node = node; start = start; after = after })
sound h = record { holds = h }

not_broken : (b : Bool) → b ≡ true → not b ≡ true → ⊥
not_broken b p q = cc

pub new_name : (env : Environment) (before : List ℕ) (ident : Ident) → IsSound env (nodes.NewName before ident)
new_name env before ident Twice n h = n refl
new_name env before ident (Typing Given) n h = cc
new_name env before ident rule n h = cc

pub used_name : (env : Environment) (ident : Ident) → IsSound env (nodes.UsedName ident)
used_name env ident Unknown n h = n refl
used_name env ident (Typing Given) n h = cc
used_name env ident rule n h = cc

pub used_type : (env : Environment) (ident : Ident) → IsSound env (nodes.UsedType ident)
used_type env ident Unknown n h = n refl
used_type env ident (Typing Given) n h = cc
used_type env ident rule n h = cc

pub value : (env : Environment) (place : Option Ty) (e : Expr) → breaks_given env (nodes.Value place e) ≡ false → IsSound env (nodes.Value place e)
value env place e p (Typing Given) n h = true_not_false (breaks_given env (nodes.Value place e)) h p
value env place e p rule n h = cc

pub condition : (env : Environment) (e : Expr) → breaks_truths env (nodes.Condition e) ≡ false → IsSound env (nodes.Condition e)
condition env e p (Typing Truths) n h = true_not_false (breaks_truths env (nodes.Condition e)) h p
condition env e p rule n h = cc

pub results : (env : Environment) (places given : List (Option Ty)) (call : Expr) → are_given places given ≡ true → IsSound env (nodes.Results places given call)
results env places given call p (Typing Given) n h = not_broken (are_given places given) p h
results env places given call p rule n h = cc

pub whole_call : (env : Environment) (callee : Expr) (count : ℕ) → takes (called_signature env callee) count ≡ true → is_some (called_signature env callee) ≡ true → IsSound env (nodes.Call true callee count)
whole_call env callee count p q (Typing ArgumentCount) n h = not_broken (takes (called_signature env callee) count) p h
whole_call env callee count p q (Typing Calls) n h = not_broken (is_some (called_signature env callee)) q h
whole_call env callee count p q rule n h = cc

pub place : (env : Environment) (e : Expr) → is_place env e ≡ true → IsSound env (nodes.Place e)
place env e p (Typing Assigned) n h = not_broken (is_place env e) p h
place env e p rule n h = cc

pub assignment : (env : Environment) (count : ℕ) (values : List Expr) (pos : Option Pos) → are_enough env count values ≡ true → IsSound env (nodes.Assignment count values pos)
assignment env count values pos p (Typing Assigned) n h = not_broken (are_enough env count values) p h
assignment env count values pos p rule n h = cc

pub untyped : (env : Environment) (number : ℕ) (ident : Ident) → is_unfixed (slice_get env.types number) ≡ false → IsSound env (nodes.Untyped number ident)
untyped env number ident p Uninferred n h = true_not_false (is_unfixed (slice_get env.types number)) h p
untyped env number ident p (Typing Given) n h = cc
untyped env number ident p rule n h = cc

pub returned : (env : Environment) (values : List Expr) (pos : Pos) → gives_all env values ≡ true → IsSound env (nodes.Return values pos)
returned env values pos p (Typing Returned) n h = not_broken (gives_all env values) p h
returned env values pos p rule n h = cc

pub broken : (env : Environment) (pos : Pos) → env.in_loop ≡ true → IsSound env (nodes.Break pos)
broken env pos p (Typing Broken) n h = not_broken env.in_loop p h
broken env pos p rule n h = cc

pub clause_of : (env : Environment) (owner : Owner) (clause : Clause) → belongs owner clause ≡ true → IsSound env (nodes.ClauseOf owner clause)
clause_of env owner clause p (Typing Clauses) n h = not_broken (belongs owner clause) p h
clause_of env owner clause p rule n h = cc

pub loop : (env : Environment) (guard : Expr) (clauses : List Clause) (pos : Pos) → breaks_clauses env (nodes.Loop guard clauses pos) ≡ false → IsSound env (nodes.Loop guard clauses pos)
loop env guard clauses pos p (Typing Clauses) n h = true_not_false (breaks_clauses env (nodes.Loop guard clauses pos)) h p
loop env guard clauses pos p rule n h = cc

pub newtype : (env : Environment) (declaration : NewtypeDeclaration) → is_some (bounds_of declaration) ≡ true → IsSound env (nodes.Newtype declaration)
newtype env declaration p Range n h = not_broken (is_some (bounds_of declaration)) p h
newtype env declaration p (Typing Given) n h = cc
newtype env declaration p rule n h = cc

-- nodes that break nothing
pub sound_of : (all : List Occurrence) → ((fault : Fault) → IsFault all fault → ⊥) → AllSound all
sound_of all h = each_in all (λ one c. record { holds = λ rule n b. h (record { at = one; rule = rule }) (c, b) })
