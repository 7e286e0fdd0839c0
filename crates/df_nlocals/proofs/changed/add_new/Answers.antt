use Rattle.df_nlocals.proofs.Words.{◌≡◌, ◌+◌, List, ◌∷◌, ◌++◌, drop, drop_all, get_or, sym, ap, ◌∙◌, get_or_default, drop_next, each_once, changed_of, changed_in, DeclaredChanged}
use Rattle.df_lang.specs.declared.ty.Ty.TheVariants as tys
use Rattle.df_nlocals.proofs.Gathering.{all_gathered}
use Rattle.df_nlocals.proofs.Once.{is_met, Meets, is_new, is_old, goes_new, goes_met}
use Rattle.df_nlocals.proofs.changed.add_new.Goals.{then-branch+in_ok-push, else-branch}
use Rattle.df_nlocals.proofs.changed.add_new.Goals as goal

pub loop-one-preserved : goal.loop-one-preserved
loop-one-preserved c =
    let l = c.loop-one in
    let xs = c.args.changed.now in
    let nothing : DeclaredChanged = record { local = 0; ty = tys.Newtype 0 } in
    let x = get_or xs l.one-index nothing in
    let e : x ≡ get_or xs l.one-index x = get_or_default xs l.one-index nothing x c.loop-one-test.true in
    let rest = changed_in (drop (l.one-index + 1) xs) in
    let whole = changed_in c.args.all.now.items ++ each_once c.args.met.now.keys (changed_in xs) in
    let so : changed_in l.all.items ++ each_once l.met.keys (changed_of x ∷ rest) ≡ whole = ap (λ (ds : List DeclaredChanged). changed_in l.all.items ++ each_once l.met.keys (changed_in ds)) (sym (drop_next xs l.one-index x e c.loop-one-test.true)) ∙ l.invariant in
    let meets : Meets l.met.keys x.local c.insert.new.self.keys = c.in_ok-insert.ensures.updates.0 in
    elim c.if-branch.branch [
      | then-branch+in_ok-push w ↦ goes_new l.all.items x l.met.keys c.insert.new.self.keys rest whole meets so c.if-branch.all.items (ap (λ v. v.items) w.all-is ∙ w.in_ok-push.ensures.items) (is_new (is_met l.met.keys x.local) c.in_ok-insert.field-0 c.in_ok-insert.ensures.added w.if-branch.true)
      | else-branch w ↦ goes_met l.all.items x l.met.keys c.insert.new.self.keys rest whole meets so c.if-branch.all.items (ap (λ v. v.items) w.all-is) (is_old (is_met l.met.keys x.local) c.in_ok-insert.field-0 c.in_ok-insert.ensures.added w.if-branch.false)
    ]

pub returns : goal.returns
returns c =
    let l = c.loop-one in
    let xs = c.args.changed.now in
    all_gathered (changed_in l.all.items) (each_once l.met.keys (changed_in (drop l.one-index xs))) _ (ap (λ (cs : List DeclaredChanged). each_once l.met.keys (changed_in cs)) (drop_all l.one-index xs c.loop-one-test.false)) l.invariant
