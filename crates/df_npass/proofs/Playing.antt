-- A run and what is said of it: what is false first tells where the run is wrong. Either the interpretation is given,
-- and hands in what the run takes; or what is handed in is given, and the interpretation takes it.
use Rattle.df_npass.proofs.Words.{◌≡◌, ◌⊎◌, inl, inr, ℕ, ◌≤◌, Bool, true, false, List, [], ◌∷◌, ◌++◌, refl, sym, ap, ◌∙◌, subst, arith, Pos, Kind, truth_of, Outcome, Wrong, TooDeep, Dismissed, Handed, Term, Interpretation, truth, IsBelow, SameBelow, value_same, Said, Known, Owed, true_is_not_false, true≢false}
use Rattle.df_npass.proofs.Saying.{formula_of, AllTrue, AllBelow}

-- what is still to be handed in: by the interpretation, or to it
pub data Mode : Type 0 where
  Following : List Handed → Mode
  Taking : List Handed → Mode

abbrev pub is_taking : Mode → Bool
is_taking (Following handed) = false
is_taking (Taking handed) = true

-- where the interpretation hands in, this comes first
abbrev pub handing : Handed → Mode → Mode
handing one (Following handed) = Following (one ∷ handed)
handing one (Taking handed) = Taking handed

abbrev pub ahead : List Handed → Mode → Mode
ahead [] mode = mode
ahead (one ∷ others) mode = handing one (ahead others mode)

handing_is : (one : Handed) (mode : Mode) → is_taking (handing one mode) ≡ is_taking mode
handing_is one (Following handed) = refl
handing_is one (Taking handed) = refl

pub ahead_is : (ones : List Handed) (mode : Mode) → is_taking (ahead ones mode) ≡ is_taking mode
ahead_is [] mode = refl
ahead_is (one ∷ others) mode = handing_is one (ahead others mode) ∙ ahead_is others mode

pub ahead_append : (ones more : List Handed) (mode : Mode) → ahead (ones ++ more) mode ≡ ahead ones (ahead more mode)
ahead_append [] more mode = refl
ahead_append (one ∷ others) more mode = ap (handing one) (ahead_append others more mode)

pub ahead_taking : (ones handed : List Handed) → ahead ones (Taking handed) ≡ Taking handed
ahead_taking [] handed = refl
ahead_taking (one ∷ others) handed = ap (handing one) (ahead_taking others handed)

pub ahead_following : (ones : List Handed) → ahead ones (Following []) ≡ Following ones
ahead_following [] = refl
ahead_following (one ∷ others) = ap (handing one) (ahead_following others)

-- ---- choices

pub by_bool : {P : Type 0} (b : Bool) → (b ≡ true → P) → (b ≡ false → P) → P
by_bool true f g = f refl
by_bool false f g = g refl

-- ---- interpretations that agree below a number

pub same_itself : (n : ℕ) (i : Interpretation) → SameBelow n i i
same_itself n i = record { program = refl; free = λ free e. refl }

pub same_then : (n m : ℕ) (i j k : Interpretation) → n ≤ m → SameBelow n i j → SameBelow m j k → SameBelow n i k
same_then n m i j k more h g = record { program = h.program ∙ g.program; free = λ free e. h.free free e ∙ g.free free (grind (arith, more, e)) }

-- formulas below a number have the truth that they had
pub truth_same : (n : ℕ) (i j : Interpretation) → SameBelow n i j → (formula : Term) → IsBelow n formula → truth i formula ≡ truth j formula
truth_same n i j same formula h = ap truth_of (value_same n i j same formula h)

pub all_same : (n : ℕ) (i j : Interpretation) → SameBelow n i j → (said : List Said) → AllBelow n said → AllTrue i said → AllTrue j said
all_same n i j same [] h all = tt
all_same n i j same (x ∷ said) h all = (sym (truth_same n i j same (formula_of x) h.0) ∙ all.0, all_same n i j same said h.1 all.1)

-- to another interpretation that takes what is handed in; one that hands in stays
pub record Moves (a : Mode) (i : Interpretation) (n : ℕ) (b : Mode) (j : Interpretation) : Type 0 where
  pub same : SameBelow n i j
  pub mode : is_taking a ≡ is_taking b
  pub stays : is_taking a ≡ false → (a ≡ b) × (i ≡ j)

pub moves_here : (a : Mode) (i : Interpretation) (n : ℕ) → Moves a i n a i
moves_here a i n = record { same = same_itself n i; mode = refl; stays = λ following. (refl, refl) }

pub moves_taking : (given left : List Handed) (i j : Interpretation) (n : ℕ) → SameBelow n i j → Moves (Taking given) i n (Taking left) j
moves_taking given left i j n same = record { same = same; mode = refl; stays = λ following. absurd (true≢false following) }

pub moves_then : (a b c : Mode) (i j k : Interpretation) (n m : ℕ) → n ≤ m → Moves a i n b j → Moves b j m c k → Moves a i n c k
moves_then a b c i j k n m le h g = record {
  same = same_then n m i j k le h.same g.same;
  mode = h.mode ∙ g.mode;
  stays = λ following. let one = h.stays following in let two = g.stays (sym h.mode ∙ following) in (one.0 ∙ two.0, one.1 ∙ two.1);
}

-- a run comes to where all that was ahead is handed in
pub resume : (P : Mode → Type 0) (ones : Interpretation → List Handed) (mode : Mode) (i : Interpretation) (n : ℕ) (k : Mode) (j : Interpretation) → Moves (ahead (ones i) mode) i n k j
    → ((from : Mode) → Moves mode i n from j → is_taking k ≡ is_taking from → P (ahead (ones j) from)) → P k
resume P ones (Following handed) i n k j moves go =
    let stays = moves.stays (ahead_is (ones i) (Following handed)) in
    subst P (ap (λ u. ahead (ones u) (Following handed)) (sym stays.1) ∙ stays.0)
    (go (Following handed) (record { same = moves.same; mode = refl; stays = λ following. (refl, stays.1) }) (sym moves.mode ∙ ahead_is (ones i) (Following handed)))
resume P ones (Taking handed) i n (Following left) j moves go = absurd (true≢false (sym (ahead_is (ones i) (Taking handed)) ∙ moves.mode))
resume P ones (Taking handed) i n (Taking left) j moves go = subst P (ahead_taking (ones j) left) (go (Taking left) (moves_taking handed left i j n moves.same) refl)

-- ---- what is false first

-- the formula is owed there by the kind
abbrev pub IsOwedAt : Said → Pos → Kind → Type 0
IsOwedAt (Known formula) at kind = ⊥
IsOwedAt (Owed own what formula) at kind = (own ≡ at) × (what ≡ kind)

-- the first formula that is false is owed there by the kind
abbrev pub FirstFalse : Interpretation → List Said → Pos → Kind → Type 0
FirstFalse i [] at kind = ⊥
FirstFalse i (x ∷ others) at kind = ((truth i (formula_of x) ≡ true) × FirstFalse i others at kind) ⊎ ((truth i (formula_of x) ≡ false) × IsOwedAt x at kind)

module _ (i : Interpretation) (at : Pos) (kind : Kind) where
  pub first_tail : (x : Said) (more : List Said) → truth i (formula_of x) ≡ true → FirstFalse i (x ∷ more) at kind → FirstFalse i more at kind
  first_tail x more e f = elim f [ inl g ↦ g.1 | inr g ↦ absurd (true_is_not_false (truth i (formula_of x)) e g.0) ]

  pub first_head : (x : Said) (more : List Said) → truth i (formula_of x) ≡ false → FirstFalse i (x ∷ more) at kind → IsOwedAt x at kind
  first_head x more e f = elim f [ inl g ↦ absurd (true_is_not_false (truth i (formula_of x)) g.0 e) | inr g ↦ g.1 ]

  pub first_behind : (said more : List Said) → AllTrue i said → FirstFalse i more at kind → FirstFalse i (said ++ more) at kind
  first_behind [] more all f = f
  first_behind (x ∷ said) more all f = inl (all.0, first_behind said more all.1 f)

  pub first_rest : (said more : List Said) → AllTrue i said → FirstFalse i (said ++ more) at kind → FirstFalse i more at kind
  first_rest [] more all f = f
  first_rest (x ∷ said) more all f = first_rest said more all.1 (first_tail x (said ++ more) all.0 f)

  pub none_false : (said : List Said) → AllTrue i said → FirstFalse i said at kind → ⊥
  none_false [] all f = f
  none_false (x ∷ said) all f = none_false said all.1 (first_tail x said all.0 f)

-- ---- runs

pub record Followed (B : Type 0) (i : Interpretation) (handed : List Handed) (said : List Said) (run : List Handed → Outcome B) : Type 0 where
  pub tells : (at : Pos) (kind : Kind) → FirstFalse i said at kind → run handed ≡ Wrong at kind

pub record Blamed (B : Type 0) (i : Interpretation) (n : ℕ) (said : List Said) (run : Outcome B) : Type 0 where
  pub to : Interpretation
  pub same : SameBelow n i to
  pub blames : (at : Pos) (kind : Kind) → run ≡ Wrong at kind → FirstFalse to said at kind

abbrev pub Play : (B : Type 0) → Mode → Interpretation → ℕ → List Said → (List Handed → Outcome B) → Type 0
Play B (Following handed) i n said run = Followed B i handed said run
Play B (Taking handed) i n said run = Blamed B i n said (run handed)

pub not_wrong : {A : Type 0} {o : Outcome A} (at : Pos) (kind : Kind) → o ≡ Dismissed → o ≡ Wrong at kind → ⊥
not_wrong at kind e f = cc

pub not_deep : {A : Type 0} {o : Outcome A} (at : Pos) (kind : Kind) → o ≡ TooDeep → o ≡ Wrong at kind → ⊥
not_deep at kind e f = cc

abbrev pub Ends : {B : Type 0} → Said → Outcome B → Type 0
Ends (Known formula) o = o ≡ Dismissed
Ends (Owed at kind formula) o = o ≡ Wrong at kind

ends_wrong : {B : Type 0} (x : Said) (o : Outcome B) (at : Pos) (kind : Kind) → IsOwedAt x at kind → Ends x o → o ≡ Wrong at kind
ends_wrong (Known formula) o at kind h e = absurd h
ends_wrong (Owed own what formula) o at kind h e = e ∙ (λ k. Wrong (h.0 k) (h.1 k))

wrong_owed : {B : Type 0} (x : Said) (o : Outcome B) (at : Pos) (kind : Kind) → Ends x o → o ≡ Wrong at kind → IsOwedAt x at kind
wrong_owed (Known formula) o at kind e w = absurd (not_wrong at kind e w)
wrong_owed (Owed own what formula) o at kind e w = let a : own ≡ at = cc in let k : what ≡ kind = cc in (a, k)

-- the run is another one
pub play_as : (B : Type 0) (mode : Mode) (i : Interpretation) (n : ℕ) (said : List Said) (run other : List Handed → Outcome B) → ((handed : List Handed) → run handed ≡ other handed) → Play B mode i n said other → Play B mode i n said run
play_as B (Following handed) i n said run other e h = record { tells = λ at kind f. e handed ∙ h.tells at kind f }
play_as B (Taking handed) i n said run other e h = record { to = h.to; same = h.same; blames = λ at kind w. h.blames at kind (sym (e handed) ∙ w) }

-- a run that is not wrong blames nothing
pub play_silent : (B : Type 0) (i : Interpretation) (n : ℕ) (said : List Said) (o : Outcome B) → ((at : Pos) (kind : Kind) → o ≡ Wrong at kind → ⊥) → Blamed B i n said o
play_silent B i n said o h = record { to = i; same = same_itself n i; blames = λ at kind w. absurd (h at kind w) }

-- where all is true nothing is told
pub play_over : (B : Type 0) (handed : List Handed) (i : Interpretation) (n : ℕ) (said : List Said) (run : List Handed → Outcome B) → AllTrue i said → Play B (Following handed) i n said run
play_over B handed i n said run all = record { tells = λ at kind f. absurd (none_false i at kind said all f) }

-- what is handed in first
pub play_handed : (B : Type 0) (i : Interpretation) (n : ℕ) (said : List Said) (run other : List Handed → Outcome B) (first : Handed) (handed : List Handed) → run (first ∷ handed) ≡ other handed → Play B (Following handed) i n said other → Play B (Following (first ∷ handed)) i n said run
play_handed B i n said run other first handed e h = record { tells = λ at kind f. e ∙ h.tells at kind f }

pub play_took : (B : Type 0) (i : Interpretation) (n : ℕ) (said : List Said) (run other : List Handed → Outcome B) (first : Handed) (handed : List Handed) → run (first ∷ handed) ≡ other handed → Play B (Taking handed) i n said other → Play B (Taking (first ∷ handed)) i n said run
play_took B i n said run other first handed e h = record { to = h.to; same = h.same; blames = λ at kind w. h.blames at kind (sym e ∙ w) }

-- behind what is true of all interpretations that agree
pub play_behind : (B : Type 0) (mode : Mode) (i : Interpretation) (n : ℕ) (said more : List Said) (run : List Handed → Outcome B) → ((j : Interpretation) → SameBelow n i j → AllTrue j said) → Play B mode i n more run → Play B mode i n (said ++ more) run
play_behind B (Following handed) i n said more run all h = record { tells = λ at kind f. h.tells at kind (first_rest i at kind said more (all i (same_itself n i)) f) }
play_behind B (Taking handed) i n said more run all h = record { to = h.to; same = h.same; blames = λ at kind w. first_behind h.to at kind said more (all h.to h.same) (h.blames at kind w) }

-- from a later number on
pub play_later : (B : Type 0) (mode : Mode) (i : Interpretation) (n m : ℕ) (said : List Said) (run : List Handed → Outcome B) → n ≤ m → Play B mode i m said run → Play B mode i n said run
play_later B (Following handed) i n m said run le h = h
play_later B (Taking handed) i n m said run le h = record { to = h.to; same = same_then n m i i h.to le (same_itself n i) h.same; blames = h.blames }

-- the interpretation takes something
pub play_taking : (B : Type 0) (handed : List Handed) (i j : Interpretation) (n m : ℕ) (said : List Said) (run : List Handed → Outcome B) → n ≤ m → SameBelow n i j → Play B (Taking handed) j m said run → Play B (Taking handed) i n said run
play_taking B handed i j n m said run le same h = record { to = h.to; same = same_then n m i j h.to le same h.same; blames = h.blames }

-- one formula more: it is true, or it tells how the run ends
pub said_then : (B : Type 0) (mode : Mode) (i : Interpretation) (n : ℕ) (x : Said) (more : List Said) (run : List Handed → Outcome B) → IsBelow n (formula_of x) → (truth i (formula_of x) ≡ true → Play B mode i n more run)
    → (truth i (formula_of x) ≡ false → (handed : List Handed) → Ends x (run handed)) → Play B mode i n (x ∷ more) run
said_then B (Following handed) i n x more run below h g = by_bool (truth i (formula_of x))
    (λ e. let p = h e in record { tells = λ at kind f. p.tells at kind (first_tail i at kind x more e f) })
    (λ e. record { tells = λ at kind f. ends_wrong x (run handed) at kind (first_head i at kind x more e f) (g e handed) })
said_then B (Taking handed) i n x more run below h g = by_bool (truth i (formula_of x))
    (λ e. let p = h e in record { to = p.to; same = p.same; blames = λ at kind w. inl (sym (truth_same n i p.to p.same (formula_of x) below) ∙ e, p.blames at kind w) })
    (λ e. record { to = i; same = same_itself n i; blames = λ at kind w. inr (e, wrong_owed x (run handed) at kind (g e handed) w) })

-- ---- what is only known

abbrev pub AreKnown : List Said → Type 0
AreKnown [] = Unit {0}
AreKnown (Known formula ∷ others) = AreKnown others
AreKnown (x ∷ others) = ⊥

pub known_append : (said more : List Said) → AreKnown said → AreKnown more → AreKnown (said ++ more)
known_append [] more h g = g
known_append (Known formula ∷ others) more h g = known_append others more h g
known_append (Owed at kind formula ∷ others) more h g = absurd h

pub known_first : (i : Interpretation) (at : Pos) (kind : Kind) (said more : List Said) → AreKnown said → FirstFalse i (said ++ more) at kind → AllTrue i said
known_first i at kind [] more known f = tt
known_first i at kind (Known formula ∷ said) more known f = elim f [ inl g ↦ (g.0, known_first i at kind said more known g.1) | inr g ↦ absurd g.1 ]
known_first i at kind (Owed own what formula ∷ said) more known f = absurd known

-- where it is not all true the run is left open
pub known_then_follow : (B : Type 0) (handed : List Handed) (i : Interpretation) (n : ℕ) (said more : List Said) (run : List Handed → Outcome B) → AreKnown said → (AllTrue i said → Play B (Following handed) i n more run) → Play B (Following handed) i n (said ++ more) run
known_then_follow B handed i n [] more run known h = h tt
known_then_follow B handed i n (Known formula ∷ said) more run known h = by_bool (truth i formula)
    (λ e. let p = known_then_follow B handed i n said more run known (λ all. h (e, all)) in record { tells = λ at kind f. p.tells at kind (first_tail i at kind (Known formula) (said ++ more) e f) })
    (λ e. record { tells = λ at kind f. absurd (first_head i at kind (Known formula) (said ++ more) e f) })
known_then_follow B handed i n (Owed at kind formula ∷ said) more run known h = absurd known
