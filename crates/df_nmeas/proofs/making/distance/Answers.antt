use Rattle.df_nenc.proofs.Reaching.{front_then}
use Rattle.df_nmeas.proofs.Words.{rules, [], ◌∷◌, ◌++◌, sym, ap, ◌∙◌, subst, expr_of, conditions_of, trees_in, Measures, distance_in, grows_then}
use Rattle.df_lang.specs.declared.ty.Ty.TheVariants as types
use Rattle.df_nmeas.proofs.Guards.{low_over, high_term, low_term, distance_made}
use Rattle.df_nmeas.proofs.making.distance.Goals as goal

pub defined-requires-2 : goal.defined-requires-2
defined-requires-2 c = low_over c.args.terms.now (expr_of c.args.low.now) (expr_of c.args.high.now) c.args.nodes.now c.defined.new.nodes c.defined.new.nodes c.in_ok-high.high c.in_ok-high.high c.args.out.now.items c.defined.new.out.items c.defined.new.out.items c.requires.low c.defined.ensures.grows

pub summed-requires : goal.summed-requires
summed-requires c = record { left = high_term c.args.terms.now (expr_of c.args.low.now) (expr_of c.args.high.now) c.args.nodes.now c.defined.new.nodes c.defined-2.new.nodes c.in_ok-high.high c.in_ok-low.low c.args.out.now.items c.defined.new.out.items c.defined-2.new.out.items c.requires.high c.in_ok-high.ensures.gives c.defined-2.ensures.grows; right = low_term c.args.terms.now (expr_of c.args.low.now) (expr_of c.args.high.now) c.args.nodes.now c.defined.new.nodes c.defined-2.new.nodes c.in_ok-high.high c.in_ok-low.low c.args.out.now.items c.defined.new.out.items c.defined-2.new.out.items c.requires.low c.defined.ensures.grows c.in_ok-low.ensures.gives }

pub returns : goal.returns
returns c =
    let env = trees_in c.args.nodes.now c.args.terms.now in
    record {
      measures = subst (λ made. Measures (distance_in env (expr_of c.args.low.now) (expr_of c.args.high.now)) (conditions_of env (expr_of c.args.high.now) ++ conditions_of env (expr_of c.args.low.now)) c.args.nodes.now c.summed.new.nodes made c.args.out.now.items c.defined-2.new.out.items)
          (sym (c.in_ok-push.ensures.items ∙ ap (λ before. before ++ record { ty = types.Int; value = c.in_ok-value.value } ∷ []) c.new-members.ensures.items))
          (distance_made c.args.terms.now (expr_of c.args.low.now) (expr_of c.args.high.now) c.args.nodes.now c.defined.new.nodes c.defined-2.new.nodes c.in_ok-high.high c.in_ok-low.low c.args.out.now.items c.defined.new.out.items c.defined-2.new.out.items c.summed.new.nodes c.in_ok-value.value c.requires.low
          c.in_ok-high.ensures.gives c.in_ok-low.ensures.gives c.summed.ensures.grows c.in_ok-value.ensures.stands);
      grows = grows_then _ _ _ (grows_then _ _ _ c.defined.ensures.grows c.defined-2.ensures.grows) c.summed.ensures.grows;
      begins = front_then c.args.out.now.items c.defined.new.out.items c.defined-2.new.out.items c.defined.ensures.begins c.defined-2.ensures.begins;
    }

pub returns-in_err-low : goal.returns-in_err-low
returns-in_err-low c = record { measures = search rules; grows = grows_then _ _ _ c.defined.ensures.grows c.defined-2.ensures.grows; begins = front_then c.args.out.now.items c.defined.new.out.items c.defined-2.new.out.items c.defined.ensures.begins c.defined-2.ensures.begins }

pub returns-in_err-value : goal.returns-in_err-value
returns-in_err-value c = record { measures = search rules; grows = grows_then _ _ _ (grows_then _ _ _ c.defined.ensures.grows c.defined-2.ensures.grows) c.summed.ensures.grows; begins = front_then c.args.out.now.items c.defined.new.out.items c.defined-2.new.out.items c.defined.ensures.begins c.defined-2.ensures.begins }

pub returns-in_err-push : goal.returns-in_err-push
returns-in_err-push c = record { measures = search rules; grows = grows_then _ _ _ (grows_then _ _ _ c.defined.ensures.grows c.defined-2.ensures.grows) c.summed.ensures.grows; begins = front_then c.args.out.now.items c.defined.new.out.items c.defined-2.new.out.items c.defined.ensures.begins c.defined-2.ensures.begins }
