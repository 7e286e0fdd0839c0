use Rattle.std.proofs.Common.{◌≡◌, ◌++◌, [], ◌∷◌, true, subst, rules, ℤ, to_z, of_z}
use Rattle.std.specs.Int.{w128}
use Rattle.std.proofs.lemmas.Int.{to_z-of_z}
use Rattle.df_row.specs.Row.{fits}
use Rattle.df_row.proofs.Rows.{fits_from}
use Rattle.df_level.proofs.Multiples.{narrow_more}
use Rattle.df_level.proofs.entries.push_entry.Goals as goal

pub returns-in_ok-push-clause-narrow : goal.returns-in_ok-push-clause-narrow
returns-in_ok-push-clause-narrow c =
    let fitting : fits c.args.coefficient ≡ true = search (rules, fits_from) in
    let same : to_z w128 (of_z w128 c.args.coefficient) ≡ c.args.coefficient = search (rules, to_z-of_z) in
    let P : ℤ → Type 0 = λ z. c.push.new.self.items ≡ c.args.entries.now.items ++ (c.args.node, z) ∷ [] in
    narrow_more c.args.entries.now.items c.push.new.self.items c.args.node c.args.coefficient fitting (subst P same c.in_ok-push.ensures.items)
