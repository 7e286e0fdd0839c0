use Rattle.df_nenc.proofs.Words.{sym, ap, subst, OnOk, sort_of_type, Is, of_one, condition, in_range, under, tree_at, path_in, IsTerm, counts_as_number, Adds}
use Rattle.df_nenc.proofs.Lemmas.{adds_none, extends_not}
use Rattle.df_meaning.specs.declared.kind.Kind.TheVariants as kinds
use Rattle.df_nenc.proofs.condition.owe_range.Goals as goal

pub owe_type-requires : goal.owe_type-requires
owe_type-requires c = record { typed = ap counts_as_number c.in-Newtype.is; path = c.requires.path; value = subst (λ v. IsTerm (sort_of_type v) c.args.nodes.now c.args.number) (sym c.in-Newtype.is) c.requires.number }

pub owe_type-requires-in-Nat : goal.owe_type-requires-in-Nat
owe_type-requires-in-Nat c = record { typed = ap counts_as_number c.in-Nat.is; path = c.requires.path; value = subst (λ v. IsTerm (sort_of_type v) c.args.nodes.now c.args.number) (sym c.in-Nat.is) c.requires.number }

pub returns-in-Newtype : goal.returns-in-Newtype
returns-in-Newtype c = record { adds = subst (λ v. OnOk c.owe_type.result (Adds c.owe_type.new.nodes (under (path_in c.args.nodes.now c.args.path) (in_range v c.args.pos (tree_at c.args.nodes.now c.args.number))) c.args.out.now.items c.owe_type.new.out.items)) (sym c.in-Newtype.is) (subst (λ v. OnOk c.owe_type.result (Adds c.owe_type.new.nodes (under (path_in c.args.nodes.now c.args.path) (condition c.args.pos kinds.Range (of_one (Is v) (tree_at c.args.nodes.now c.args.number)))) c.args.out.now.items c.owe_type.new.out.items)) c.in-Newtype.is c.owe_type.ensures.adds); extends = c.owe_type.ensures.extends }

pub returns-in-Nat : goal.returns-in-Nat
returns-in-Nat c = record { adds = subst (λ v. OnOk c.owe_type-in-Nat.result (Adds c.owe_type-in-Nat.new.nodes (under (path_in c.args.nodes.now c.args.path) (in_range v c.args.pos (tree_at c.args.nodes.now c.args.number))) c.args.out.now.items c.owe_type-in-Nat.new.out.items)) (sym c.in-Nat.is) (subst (λ v. OnOk c.owe_type-in-Nat.result (Adds c.owe_type-in-Nat.new.nodes (under (path_in c.args.nodes.now c.args.path) (condition c.args.pos kinds.Range (of_one (Is v) (tree_at c.args.nodes.now c.args.number)))) c.args.out.now.items c.owe_type-in-Nat.new.out.items)) c.in-Nat.is c.owe_type-in-Nat.ensures.adds); extends = c.owe_type-in-Nat.ensures.extends }

pub returns-in-Char : goal.returns-in-Char
returns-in-Char c = record { adds = subst (λ v. OnOk c.owe_code.result (Adds c.owe_code.new.nodes (under (path_in c.args.nodes.now c.args.path) (in_range v c.args.pos (tree_at c.args.nodes.now c.args.number))) c.args.out.now.items c.owe_code.new.out.items)) (sym c.in-Char.is) c.owe_code.ensures.adds; extends = c.owe_code.ensures.extends }

pub returns-in-Int : goal.returns-in-Int
returns-in-Int c = record { adds = subst (λ v. Adds c.args.nodes.now (under (path_in c.args.nodes.now c.args.path) (in_range v c.args.pos (tree_at c.args.nodes.now c.args.number))) c.args.out.now.items c.args.out.now.items) (sym c.in-Int.is) (adds_none c.args.nodes.now c.args.out.now.items); extends = extends_not c.args.nodes.now c.args.out.now.items }

pub returns-in-Bool : goal.returns-in-Bool
returns-in-Bool c = record { adds = subst (λ v. Adds c.args.nodes.now (under (path_in c.args.nodes.now c.args.path) (in_range v c.args.pos (tree_at c.args.nodes.now c.args.number))) c.args.out.now.items c.args.out.now.items) (sym c.in-Bool.is) (adds_none c.args.nodes.now c.args.out.now.items); extends = extends_not c.args.nodes.now c.args.out.now.items }
