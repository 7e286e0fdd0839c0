use Rattle.df_nenc.proofs.Reaching.{front_not}
use Rattle.df_nmeas.proofs.Words.{◌≡◌, ◌≤◌, List, length, map, ap, ◌∙◌, arith, param_of, method_of, method_measure, parameters_from, DeclaredParam, if_ok, decreases_in, members_from, grows_not}
use Rattle.std.specs.Option.{unwrap_or}
use Rattle.df_nmeas.proofs.Parameters.{parameters_long, parameters_make}
use Rattle.df_nmeas.proofs.making.method_measure.Goals as goal

pub of_parameters-requires : goal.of_parameters-requires
of_parameters-requires c =
    let long : length c.args.method.now.parameters.items ≤ length c.args.terms.now = parameters_long c.args.nodes.now c.args.terms.now c.args.method.now.parameters.items c.requires.locals in
    omega (arith, ap (λ (ps : List DeclaredParam). length ps) c.deref-in-None.ensures.value)

pub returns-in-None : goal.returns-in-None
returns-in-None c =
    let of_all : method_measure (method_of c.args.method.now) ≡ parameters_from 0 (map param_of c.args.method.now.parameters.items) = ap (λ d. unwrap_or (decreases_in d) (parameters_from 0 (map param_of c.args.method.now.parameters.items))) c.in-None.is in
    record {
      measures = if_ok c.of_parameters.result _ _ c.of_parameters.ensures
          (λ members is. parameters_make c.args.nodes.now c.args.terms.now c.args.method.now.parameters.items members.items _ c.args.out.now.items of_all (is ∙ ap (λ (ps : List DeclaredParam). members_from 0 (map param_of ps) c.args.terms.now) c.deref-in-None.ensures.value) c.requires.locals);
      grows = grows_not c.args.nodes.now;
      begins = front_not c.args.out.now.items;
    }
