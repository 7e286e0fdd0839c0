use Rattle.df_nowed.proofs.Words.{rules, ◌≡◌, ◌+◌, ℕ, List, [], length, drop, slice_get, refl, sym, ap, ◌∙◌, subst, obligations_of}
use Rattle.std.proofs.lemmas.List.{drop_all}
use Rattle.df_nledger.specs.Said.{said_in, AreSaid}
use Rattle.df_nledger.specs.declared.said.Said.{Said}
use Rattle.df_nledger.specs.declared.said.Said.TheVariants as said
use Rattle.df_nowed.specs.declared.obligation.Obligation.{Obligation}
use Rattle.df_nowed.proofs.Knowing.{IsListed, next_said, nothing_listed, known_listed, owed_listed, all_listed}
use Rattle.df_nowed.proofs.listing.list.Goals as goal
use Rattle.df_nowed.proofs.listing.list.Goals.{in-Known+in_ok-add-in-Known, in-Owed+in_ok-place-in-Owed+in_ok-push-in-Owed}

pub loop-said-init : goal.loop-said-init
loop-said-init c =
    let nodes = c.args.passage.now.nodes in
    let items = c.deref-said-items.result.now in
    let are = subst (AreSaid nodes) (sym c.deref-said-items.ensures.value) c.args.passage.now.are_said in
    record {
      listed = subst (λ (known : List ℕ). IsListed nodes items known c.args.obligations.now.items items) (sym c.requires.none_known) (subst (λ (owed : List Obligation). IsListed nodes items [] owed items) (sym c.requires.none_owed) (nothing_listed nodes items are));
      long = c.requires.long;
    }

pub loop-said-preserved : goal.loop-said-preserved
loop-said-preserved c =
    let nodes = c.args.passage.now.nodes in
    let items = c.deref-said-items.result.now in
    let known = c.loop-said.known.formulas.items in
    let after = c.match-said.known.formulas.items in
    let owed = c.loop-said.obligations.items in
    let more = c.match-said.obligations.items in
    let i = c.loop-said.said-index in
    let others = drop (i + 1) items in
    elim c.match-said.branch [
      | in-Known+in_ok-add-in-Known w ↦
          let left = subst (IsListed nodes items known owed) (next_said items i _ (said.Known w.in-Known.formula) c.loop-said-test.true w.in-Known.is) c.loop-said.invariant.listed in
          let once = (λ j. (w.known-is j).formulas.items) ∙ w.in_ok-add-in-Known.ensures.formulas in
          record {
            listed = subst (λ (os : List Obligation). IsListed nodes items after os others) (sym (λ j. (w.obligations-is j).items)) (known_listed nodes c.requires.table items known after owed w.in-Known.formula once others left);
            long = (λ j. length (w.known-is j).places.items) ∙ w.in_ok-add-in-Known.ensures.long ∙ c.loop-said.invariant.long;
          }
      | in-Owed+in_ok-place-in-Owed+in_ok-push-in-Owed w ↦
          let left = subst (IsListed nodes items known owed) (next_said items i _ (said.Owed w.in-Owed.pos w.in-Owed.kind w.in-Owed.formula) c.loop-said-test.true w.in-Owed.is) c.loop-said.invariant.listed in
          let once = (λ j. (w.known-is j).formulas.items) ∙ w.in_ok-place-in-Owed.ensures.formulas in
          let there = (λ j. slice_get (w.known-is j).formulas.items w.in_ok-place-in-Owed.place) ∙ w.in_ok-place-in-Owed.ensures.place in
          let size : w.len-hypothesis_count.result ≡ length c.loop-said.known.formulas.items = search rules in
          let one : Obligation = record { pos = w.in-Owed.pos; kind = w.in-Owed.kind; hypothesis_count = w.len-hypothesis_count.result; goal = w.in-Owed.formula; place = w.in_ok-place-in-Owed.place } in
          record {
            listed = owed_listed nodes c.requires.table items known after owed w.in-Owed.formula once others w.in-Owed.pos w.in-Owed.kind one more refl refl size refl w.in_ok-place-in-Owed.ensures.within there ((λ j. (w.obligations-is j).items) ∙ w.in_ok-push-in-Owed.ensures.items) left;
            long = (λ j. length (w.known-is j).places.items) ∙ w.in_ok-place-in-Owed.ensures.long ∙ c.loop-said.invariant.long;
          }
    ]

pub returns-clause-are_known : goal.returns-clause-are_known
returns-clause-are_known c = c.loop-said.invariant.listed.are_known

pub returns-clause-are_owed : goal.returns-clause-are_owed
returns-clause-are_owed c = c.loop-said.invariant.listed.are_owed

pub returns-clause-owed : goal.returns-clause-owed
returns-clause-owed c declaration =
    let nodes = c.args.passage.now.nodes in
    let items = c.deref-said-items.result.now in
    let left = subst (IsListed nodes items c.loop-said.known.formulas.items c.loop-said.obligations.items) (drop_all c.loop-said.said-index items c.loop-said-test.false) c.loop-said.invariant.listed in
    all_listed nodes items c.loop-said.known.formulas.items c.loop-said.obligations.items left declaration
    ∙ ap (λ (all : List Said). obligations_of declaration [] (said_in nodes all)) c.deref-said-items.ensures.value
