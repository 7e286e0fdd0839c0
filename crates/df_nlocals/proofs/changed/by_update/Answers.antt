use Rattle.df_nlocals.proofs.Words.{◌≡◌, get_or, get_or_default, List, [], ◌∷◌, ◌+◌, ◌++◌, map, map-append, sym, ap, ◌∙◌, drop, drop_all, drop_next, target_of, DeclaredTarget, changed_in, changed_of, DeclaredChanged}
use Rattle.std.proofs.lemmas.List.{append-nil}
use Rattle.df_nlocals.proofs.changed.by_update.Invariants.{changed_by}
use Rattle.df_lang.specs.declared.ty.Ty.TheVariants as tys
use Rattle.df_nlocals.proofs.Gathering.{gathered}
use Rattle.df_nlocals.proofs.changed.by_update.Goals as goal

pub returns : goal.returns
returns c =
    let l = c.loop-target in
    let targets = c.deref-target-items.result.now in
    sym (append-nil (changed_in l.changed.items)) ∙ ap (λ (ts : List DeclaredTarget). changed_in l.changed.items ++ map changed_by (map target_of ts)) (sym (drop_all l.target-index targets c.loop-target-test.false)) ∙ l.invariant
    ∙ ap (λ (ts : List DeclaredTarget). changed_in c.args.changed.now.items ++ map changed_by (map target_of ts)) c.deref-target-items.ensures.value

pub loop-target-preserved : goal.loop-target-preserved
loop-target-preserved c =
    let l = c.loop-target in
    let items = c.deref-target-items.result.now in
    let i = l.target-index in
    let nothing : DeclaredTarget = record { local = 0; name = 0; pos = record { line = 0; col = 0 }; ty = tys.Newtype 0 } in
    let x = get_or items i nothing in
    let is : x ≡ get_or items i x = get_or_default items i nothing x c.loop-target-test.true in
    gathered (changed_in l.changed.items) (changed_in c.push.new.self.items) (record { local = x.local; ty = x.ty } ∷ []) (map changed_by (map target_of (drop i items))) (map changed_by (map target_of (drop (i + 1) items))) _
    (ap (λ (cs : List DeclaredChanged). changed_in cs) c.in_ok-push.ensures.items ∙ map-append changed_of l.changed.items _) (ap (λ (ts : List DeclaredTarget). map changed_by (map target_of ts)) (drop_next items i x is c.loop-target-test.true)) l.invariant
