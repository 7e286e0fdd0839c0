use Rattle.df_nlocals.proofs.Words.{◌+◌, ◌∷◌, [], List, map, ap, drop, drop_all, drop_next, param_of, types_of}
use Rattle.df_lang.specs.declared.decl.Param.{Param}
use Rattle.df_nlocals.proofs.Gathering.{gathered, all_gathered}
use Rattle.df_nlocals.proofs.method.after_params.Goals as goal

pub loop-param-preserved : goal.loop-param-preserved
loop-param-preserved c =
    let l = c.loop-param in
    let items = c.args.params.now in
    let x = c.param-item.result in
    let i = l.param-index in
    gathered (c.loop-param.types.items) (c.push.new.self.items) (c.param-item.result.ty ∷ []) (types_of (map param_of (drop i items))) (types_of (map param_of (drop (i + 1) items))) _ c.in_ok-push.ensures.items (ap (λ (xs : List Param). types_of (map param_of xs)) (drop_next items i x c.param-item.is c.loop-param-test.true)) l.invariant

pub returns : goal.returns
returns c =
    let l = c.loop-param in
    let items = c.args.params.now in
    all_gathered (c.loop-param.types.items) (types_of (map param_of (drop l.param-index items))) _ (ap (λ (xs : List Param). types_of (map param_of xs)) (drop_all l.param-index items c.loop-param-test.false)) l.invariant
