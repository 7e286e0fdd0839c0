use Rattle.df_nenc.proofs.Words.{sym, subst, OnOk, tree_at, path_in, Adds, divides, under}
use Rattle.df_nenc.proofs.Lemmas.{adds_none, extends_not}
use Rattle.df_nenc.proofs.condition.owe_divisor.Goals as goal

pub returns-in-Times : goal.returns-in-Times
returns-in-Times c = record { adds = subst (λ v. Adds c.args.nodes.now (under (path_in c.args.nodes.now c.args.path) (divides v c.args.pos (tree_at c.args.nodes.now c.args.number))) c.args.out.now.items c.args.out.now.items) (sym c.in-Times.is) (adds_none c.args.nodes.now c.args.out.now.items); extends = extends_not c.args.nodes.now c.args.out.now.items }

pub returns-in-Divide : goal.returns-in-Divide
returns-in-Divide c = record { adds = subst (λ v. OnOk c.owe_nonzero.result (Adds c.owe_nonzero.new.nodes (under (path_in c.args.nodes.now c.args.path) (divides v c.args.pos (tree_at c.args.nodes.now c.args.number))) c.args.out.now.items c.owe_nonzero.new.out.items)) (sym c.in-Divide.is) c.owe_nonzero.ensures.adds; extends = c.owe_nonzero.ensures.extends }

pub returns-in-Modulo : goal.returns-in-Modulo
returns-in-Modulo c = record { adds = subst (λ v. OnOk c.owe_nonzero-in-Modulo.result (Adds c.owe_nonzero-in-Modulo.new.nodes (under (path_in c.args.nodes.now c.args.path) (divides v c.args.pos (tree_at c.args.nodes.now c.args.number))) c.args.out.now.items c.owe_nonzero-in-Modulo.new.out.items)) (sym c.in-Modulo.is) c.owe_nonzero-in-Modulo.ensures.adds; extends = c.owe_nonzero-in-Modulo.ensures.extends }
