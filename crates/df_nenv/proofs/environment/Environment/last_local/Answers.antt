use Rattle.std.proofs.Common.{◌≡◌, length, map, slice_get, Some, sym, ap, ◌∙◌, arith}
use Rattle.std.proofs.lemmas.Option.{slice_get-get_or}
use Rattle.df_ntyping.specs.Environment as pure
use Rattle.df_nnames.specs.Scope.{all_locals}
use Rattle.df_nenv.specs.Environments.{local_of}
use Rattle.df_nenv.proofs.Latest.{all_of, not_there, there, within}
use Rattle.df_nenv.proofs.environment.Environment.last_local.Goals as goal

pub returns-in_err-place : goal.returns-in_err-place
returns-in_err-place c =
    let items = c.self.inside.locals.items in
    let all : pure.locals_of c.args.self.now ≡ map local_of items = ap (λ (e : pure.Environment). pure.locals_of e) (sym c.self.view_is) ∙ all_of (length c.self.inside.scope.outer) items in
    rw (c.from_residual.ensures, all) (sym (not_there items (all_locals c.self.inside.scope) c.args.name c.self.invariant.0 (sym c.in_err-place.ensures.number)))

pub index-requires : goal.index-requires
index-requires c =
    let lt = within c.self.inside.locals.items (all_locals c.self.inside.scope) c.args.name c.in_ok-place.place c.self.invariant.0 (sym c.in_ok-place.ensures.number) in
    omega arith

pub returns : goal.returns
returns c =
    let items = c.self.inside.locals.items in
    let lt = within items (all_locals c.self.inside.scope) c.args.name c.in_ok-place.place c.self.invariant.0 (sym c.in_ok-place.ensures.number) in
    let at : slice_get items c.in_ok-place.place ≡ Some c.index.result.now = slice_get-get_or items c.in_ok-place.place c.index.result.now lt ∙ ap Some (sym c.index.ensures) in
    let all : pure.locals_of c.args.self.now ≡ map local_of items = ap (λ (e : pure.Environment). pure.locals_of e) (sym c.self.view_is) ∙ all_of (length c.self.inside.scope.outer) items in
    rw all (sym (there items (all_locals c.self.inside.scope) c.args.name c.in_ok-place.place c.index.result.now c.self.invariant.0 (sym c.in_ok-place.ensures.number) at))
