use Rattle.std.proofs.Common.{◌≡◌, ◌≤◌, ◌<◌, rules, [], length, map, sym, ap, subst}
use Rattle.std.specs.Prelude.{set}
use Rattle.df_ntyping.specs.Environment.{Environment}
use Rattle.df_nenv.specs.Environments.{local_of}
use Rattle.df_nenv.proofs.Scoping.{seen, types_fixed, types_there, fixed_there, not_there}
use Rattle.df_nenv.proofs.environment.Environment.fix_local.Goals as goal

pub returns-then-number-len : goal.returns-then-number-len
returns-then-number-len c =
    let items = c.self.inside.types.items in
    let count : c.len.result ≡ length items = search rules in
    let lt : c.args.number < length items = subst (λ n. c.args.number < n) count c.if-number-len.true in
    types_fixed (seen c.self.inside.table.now c.self.inside.scope c.self.inside.locals.items (length c.self.inside.names.items) [] (map local_of c.self.inside.results.items) c.self.inside.in_loop) c.args.self.now items (set items c.args.number c.fixed.result) c.args.number c.args.fixing c.self.view_is
    (fixed_there items c.args.number c.index.result.now c.fixed.result c.args.fixing lt c.index.ensures c.fixed.ensures)

pub returns-else-number-len : goal.returns-else-number-len
returns-else-number-len c =
    let items = c.self.inside.types.items in
    let count : c.len.result ≡ length items = search rules in
    let le : length items ≤ c.args.number = subst (λ n. n ≤ c.args.number) count c.if-number-len.false in
    types_there c.args.self.now items c.args.number c.args.fixing (ap (λ (env : Environment). env.types) (sym c.self.view_is)) (not_there items c.args.number c.args.fixing le)
