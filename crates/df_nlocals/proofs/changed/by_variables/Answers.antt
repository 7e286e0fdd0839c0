use Rattle.df_nlocals.proofs.Words.{◌≡◌, get_or, get_or_default, false, ◌+◌, ◌∷◌, [], List, map, ap, ◌∙◌, drop, drop_all, drop_next, variable_of, changed_by_variables, changed_in, changed_of, map-append, DeclaredChanged}
use Rattle.df_lang.specs.declared.stmt.Variable.{Variable}
use Rattle.df_lang.specs.declared.ty.Ty.TheVariants as tys
use Rattle.df_nlocals.proofs.Gathering.{gathered, all_gathered}
use Rattle.df_nlocals.proofs.changed.by_variables.Goals as goal

pub loop-variable-preserved : goal.loop-variable-preserved
loop-variable-preserved c =
    let l = c.loop-variable in
    let items = c.args.variables.now in
    let i = l.variable-index in
    let nothing : Variable = record { local = 0; name = 0; pos = record { line = 0; col = 0 }; ty = tys.Newtype 0; is_ghost = false } in
    let x = get_or items i nothing in
    let is : x ≡ get_or items i x = get_or_default items i nothing x c.loop-variable-test.true in
    gathered (changed_in c.loop-variable.changed.items) (changed_in c.push.new.self.items) (record { local = x.local; ty = x.ty } ∷ []) (changed_by_variables (map variable_of (drop i items))) (changed_by_variables (map variable_of (drop (i + 1) items))) _ (ap (λ (cs : List DeclaredChanged). changed_in cs) c.in_ok-push.ensures.items ∙ map-append changed_of l.changed.items _) (ap (λ (xs : List Variable). changed_by_variables (map variable_of xs)) (drop_next items i x is c.loop-variable-test.true)) l.invariant

pub returns : goal.returns
returns c =
    let l = c.loop-variable in
    let items = c.args.variables.now in
    all_gathered (changed_in c.loop-variable.changed.items) (changed_by_variables (map variable_of (drop l.variable-index items))) _ (ap (λ (xs : List Variable). changed_by_variables (map variable_of xs)) (drop_all l.variable-index items c.loop-variable-test.false)) l.invariant
