-- Where passing stands, over ledgers in which more is said.
use Rattle.df_nflow.proofs.Words.{◌≡◌, ℕ, List, [], ◌++◌, length, refl, sym, ap, ◌∙◌, subst, append-nil, append_assoc, Ty, Grows, locals_same, measured_in, DeclaredMeasured, Said, saying, ledger_of, with_fresh, way_over, DeclaredLedger, Standing, also, Moves, IsPassed, all_kept_in, arrivals_in, DeclaredKept, DeclaredArrived, measured_same}
use Rattle.df_nledger.specs.Ledger as ledgers
use Rattle.df_nledger.specs.Said.{said_in}
use Rattle.df_nflow.proofs.Flowing.{passes_also}
use Rattle.df_nflow.proofs.Waiting.{all_kept_same, arrivals_same}
use Rattle.df_nflow.proofs.Terms.{locals_are}

-- over a ledger, with these locals
abbrev pub standing : DeclaredLedger → List Ty → List ℕ → List DeclaredMeasured → List DeclaredKept → List DeclaredArrived → List DeclaredArrived → Standing
standing l types terms entry trail breaks returns = record {
  types = types;
  entry = measured_in l.nodes entry;
  said = said_in l.nodes l.said.items;
  fresh = length l.frees.items;
  way = way_over l.nodes l.path terms;
  trail = all_kept_in l.nodes trail;
  breaks = arrivals_in l.nodes breaks;
  returns = arrivals_in l.nodes returns;
}

-- with this said too, and free terms from this number on left
abbrev pub also_fresh : List Said → ℕ → Standing → Standing
also_fresh said fresh s = record { types = s.types; entry = s.entry; said = s.said ++ said; fresh = fresh; way = s.way; trail = s.trail; breaks = s.breaks; returns = s.returns }

module _ (before now : DeclaredLedger) (types : List Ty) (terms : List ℕ) (entry : List DeclaredMeasured) (trail : List DeclaredKept) (breaks returns : List DeclaredArrived) (grows : Grows before.nodes now.nodes)
    (is : IsPassed before.nodes types terms entry trail breaks returns) where
  pub standing_with : (said : List Said) (fresh : ℕ) → ledger_of now ≡ with_fresh said fresh (ledger_of before) → standing now types terms entry trail breaks returns ≡ also_fresh said fresh (standing before types terms entry trail breaks returns)
  standing_with said fresh step =
      let env = locals_same before.nodes now.nodes types terms grows (locals_are before.nodes types terms is.have_terms) in
      let entries = measured_same before.nodes now.nodes grows entry is.are_measured in
      let trails = all_kept_same before.nodes now.nodes grows types trail is.are_kept in
      let outs = arrivals_same before.nodes now.nodes grows types breaks is.are_breaks in
      let ends = arrivals_same before.nodes now.nodes grows types returns is.are_returns in
      λ i. record {
        types = types;
        entry = entries i;
        said = (step i).said;
        fresh = (step i).fresh;
        way = record { env = env i; path = (step i).path };
        trail = trails i;
        breaks = outs i;
        returns = ends i;
      }

  pub standing_also : (said : List Said) → ledger_of now ≡ ledgers.saying said (ledger_of before) → standing now types terms entry trail breaks returns ≡ also said (standing before types terms entry trail breaks returns)
  standing_also said step = standing_with said (length before.frees.items) step

  pub standing_keeps : ledger_of now ≡ ledger_of before → standing now types terms entry trail breaks returns ≡ standing before types terms entry trail breaks returns
  standing_keeps step =
      let old = standing before types terms entry trail breaks returns in
      standing_with [] (length before.frees.items) (step ∙ (λ i. record { said = sym (append-nil (said_in before.nodes before.said.items)) i; fresh = length before.frees.items; path = (ledger_of before).path }))
      ∙ (λ i. record { types = old.types; entry = old.entry; said = append-nil old.said i; fresh = old.fresh; way = old.way; trail = old.trail; breaks = old.breaks; returns = old.returns })

-- the way stays
pub moves_with : (s : Standing) (said : List Said) (fresh : ℕ) → Moves s (saying said fresh s.way) (also_fresh said fresh s)
moves_with s said fresh = record {
  types = refl;
  entry = refl;
  said = refl;
  fresh = refl;
  way = refl;
  loses = refl;
  kept = [];
  trail = sym (append-nil s.trail);
  back = refl;
  breaks = sym (append-nil s.breaks);
  returns = sym (append-nil s.returns);
  sorted_breaks = tt;
  sorted_returns = tt;
}

-- ---- one thing said after the other

pub also_none : (s : Standing) → also [] s ≡ s
also_none s = λ i. record { types = s.types; entry = s.entry; said = append-nil s.said i; fresh = s.fresh; way = s.way; trail = s.trail; breaks = s.breaks; returns = s.returns }

pub also_both : (first second : List Said) (s : Standing) → also second (also first s) ≡ also (first ++ second) s
also_both first second s = λ i. record { types = s.types; entry = s.entry; said = append_assoc s.said first second i; fresh = s.fresh; way = s.way; trail = s.trail; breaks = s.breaks; returns = s.returns }

pub also_next : (old here next : Standing) (whole said rest : List Said) → also (said ++ rest) here ≡ also whole old → next ≡ also said here → also rest next ≡ also whole old
also_next old here next whole said rest so step = ap (also rest) step ∙ also_both said rest here ∙ so

pub also_last : (old here : Standing) (whole : List Said) → also [] here ≡ also whole old → here ≡ also whole old
also_last old here whole so = sym (also_none here) ∙ so

-- what is said moves
pub also_moves : (old next : Standing) (said : List Said) → next ≡ also said old → Moves old (saying said old.fresh old.way) next
also_moves old next said e = subst (λ (s : Standing). Moves old (saying said old.fresh old.way) s) (sym e) (passes_also old said)
