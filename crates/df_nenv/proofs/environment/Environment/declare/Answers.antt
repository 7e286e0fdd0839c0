use Rattle.std.proofs.Common.{rules, ◌≡◌, ◌++◌, ◌∷◌, [], List, length, map, suc, ap, ◌∙◌, arith, length-append}
use Rattle.df_nenv.specs.declared.environment.Local.{Local}
use Rattle.df_nenv.specs.Environments.{local_of, inferred_of}
use Rattle.df_nenv.proofs.Scoping.{declared_so}
use Rattle.df_nenv.proofs.environment.Environment.declare.Goals as goal

pub returns : goal.returns
returns c =
    let one : Local = record { name = c.args.name; number = c.len-number.result; role = c.args.role } in
    let names = c.self.inside.names.items in
    let made : c.push-2.new.self.items ≡ c.self.inside.locals.items ++ one ∷ [] = c.in_ok-push-2.ensures.items ∙ ap (λ (xs : List Local). xs ++ one ∷ []) c.reserve.ensures.items in
    let count : length c.push.new.self.items ≡ suc (length names) = ap (λ xs. length xs) c.in_ok-push.ensures.items ∙ length-append names (c.args.name ∷ []) ∙ omega arith in
    let number : c.len-number.result ≡ length names = search rules in
    declared_so c.self.inside.table.now c.self.inside.scope c.self.inside.locals.items (length names) (map inferred_of c.self.inside.types.items) (map local_of c.self.inside.results.items) c.self.inside.in_loop c.args.self.now
    c.declare.new.self c.push-2.new.self.items c.len-number.result (length c.push.new.self.items) c.args.name c.args.role c.self.view_is c.self.invariant.0 c.in_ok-declare.ensures.ok made number count
