-- Readers: what is read is spelled so, and what is spelled so is read.
use Rattle.std.proofs.Common.{◌≡◌, ℕ, ◌<◌, Bool, true, false, cond, List, [], ◌∷◌, ◌++◌, length, Option, Some, None, refl, sym, ap, subst, ◌∙◌, arith}
use Rattle.std.specs.List.{AllByRecursion, flat_map}
use Rattle.std.proofs.lemmas.List.Concat.{flat_map-cons}
use Rattle.std.proofs.lemmas.Option.{cond_some}
use Rattle.df_base.specs.declared.pos.Pos.{Pos}
use Rattle.df_tok.specs.declared.word.Word.{Word}
use Rattle.df_tok.specs.declared.sign.Sign.{Sign}
use Rattle.df_tok.specs.declared.sign.Sign.TheVariants as signs
use Rattle.df_tok.specs.declared.token.Kind.{Kind}
use Rattle.df_tok.specs.declared.token.Kind.TheVariants as kinds
use Rattle.df_tok.specs.Token.{Token}
use Rattle.df_ntree.specs.declared.tree.Ident.{Ident}
use Rattle.df_ntree.specs.Spelling.{Piece, Plain, Characters, Begins, a_word, a_sign, word_there, sign_there, a_name, spell_more, separated, optional, IsOption, AreSome}
use Rattle.df_ntree.specs.mirror.Reading.{◌>>=◌, Reader, is_word, is_sign, word_at, sign_at, pos_of_word, pos_of_sign, name_at, text_at, characters_of, kind_is_word, kind_is_sign, word_stands, sign_stands, both, made, made_if, after_word, after_sign, before_sign, optionally, many, one_or_more, where_stands}
use Rattle.df_ntree.proofs.Repeat.{Shrinks, Run, sound, complete, bind_some, found, nothing, pair, got, finish, finish_some, no_end, no_find, some_is}
use Rattle.df_ntree.proofs.Tokens.{Begins-then, Begins-parts, Begins-length, kind_there, word_true, word_is, sign_true, sign_is, word_sound, word_complete, sign_sound, sign_complete, name_sound, name_complete}
use Rattle.df_ntree.proofs.Text.{characters_sound, characters_complete}

-- A reader finds what the tokens begin with, where what comes after lets it.
pub record ReadsAs {X : Type 0} (read : Reader X) (spell : X → List Piece) (Is : X → Type 0) (After : List Token → Type 0) : Type 0 where
  pub sound : (x : X) (tokens rest : List Token) → read tokens ≡ Some (x, rest) → Begins (spell x) tokens rest × Is x
  pub complete : (x : X) (tokens rest : List Token) → Begins (spell x) tokens rest → Is x → After rest → read tokens ≡ Some (x, rest)

-- what is read lets come before it what wants this
abbrev pub Joins : {X : Type 0} → (X → List Piece) → (X → Type 0) → (List Token → Type 0) → (List Token → Type 0) → Type 0
Joins {X = X} spell Is After Before = (x : X) (tokens rest : List Token) → Begins (spell x) tokens rest → Is x → After rest → Before tokens

abbrev pub Anything : {X : Type 0} → X → Type 0
Anything x = Unit {0}

abbrev pub Any : List Token → Type 0
Any = Anything {X = List Token}

-- ---- one after the other

pub both_reads : {X Y : Type 0} (first : Reader X) (second : Reader Y) (a : X → List Piece) (b : Y → List Piece) (A : X → Type 0) (B : Y → Type 0) (F G : List Token → Type 0)
    → ReadsAs first a A F → ReadsAs second b B G → Joins b B G F → ReadsAs (both first second) (λ (x : X × Y). a x.0 ++ b x.1) (λ (x : X × Y). A x.0 × B x.1) G
both_reads {X = X} {Y = Y} first second a b A B F G r s joins = record {
  sound = λ x tokens rest e.
      let p = bind_some (first tokens) (λ y. second y.1 >>= λ z. got (pair y.0 z.0) z.1) (x, rest) e in
      let q = bind_some (second p.0.1) (λ z. got (pair p.0.0 z.0) z.1) (x, rest) p.2 in
      let one = r.sound p.0.0 tokens p.0.1 p.1 in
      let two = s.sound q.0.0 p.0.1 q.0.1 q.1 in
      finish (λ (z : X × Y) (ts : List Token). Begins (a z.0 ++ b z.1) tokens ts × (A z.0 × B z.1)) (pair p.0.0 q.0.0) x q.0.1 rest q.2
      (Begins-then (a p.0.0) (b q.0.0) tokens p.0.1 q.0.1 one.0 two.0, (one.1, two.1));
  complete = λ x tokens rest starts is after.
      let p = Begins-parts (a x.0) (b x.1) tokens rest starts in
      let one = r.complete x.0 tokens p.between p.first is.0 (joins x.1 p.between rest p.second is.1 after) in
      let two = s.complete x.1 p.between rest p.second is.1 after in
      ap (λ (o : Option (X × List Token)). o >>= λ y. second y.1 >>= λ z. got (pair y.0 z.0) z.1) one
      ∙ ap (λ (o : Option (Y × List Token)). o >>= λ z. got (pair x.0 z.0) z.1) two;
}

-- a second reader that may follow anything
pub pair_reads : {X Y : Type 0} (first : Reader X) (second : Reader Y) (a : X → List Piece) (b : Y → List Piece) (A : X → Type 0) (B : Y → Type 0) (G : List Token → Type 0)
    → ReadsAs first a A Any → ReadsAs second b B G → ReadsAs (both first second) (λ (x : X × Y). a x.0 ++ b x.1) (λ (x : X × Y). A x.0 × B x.1) G
pair_reads first second a b A B G r s = both_reads first second a b A B Any G r s (λ _ _ _ _ _ _. tt)

pub word_reads : {X : Type 0} (word : Word) (read : Reader X) (a : X → List Piece) (A : X → Type 0) (F : List Token → Type 0) → ReadsAs read a A F → ReadsAs (after_word word read) (λ (x : X). a_word word ∷ a x) A F
word_reads {X = X} word read a A F r = record {
  sound = λ x tokens rest e.
      let p = bind_some (word_at word tokens) read (x, rest) e in
      let one = r.sound x p.0 rest p.2 in
      (Begins-then (a_word word ∷ []) (a x) tokens p.0 rest (word_sound word tokens p.0 p.1) one.0, one.1);
  complete = λ x tokens rest starts is after.
      let p = Begins-parts (a_word word ∷ []) (a x) tokens rest starts in
      ap (λ (o : Option (List Token)). o >>= read) (word_complete word tokens p.between p.first) ∙ r.complete x p.between rest p.second is after;
}

pub sign_reads : {X : Type 0} (sign : Sign) (read : Reader X) (a : X → List Piece) (A : X → Type 0) (F : List Token → Type 0) → ReadsAs read a A F → ReadsAs (after_sign sign read) (λ (x : X). a_sign sign ∷ a x) A F
sign_reads {X = X} sign read a A F r = record {
  sound = λ x tokens rest e.
      let p = bind_some (sign_at sign tokens) read (x, rest) e in
      let one = r.sound x p.0 rest p.2 in
      (Begins-then (a_sign sign ∷ []) (a x) tokens p.0 rest (sign_sound sign tokens p.0 p.1) one.0, one.1);
  complete = λ x tokens rest starts is after.
      let p = Begins-parts (a_sign sign ∷ []) (a x) tokens rest starts in
      ap (λ (o : Option (List Token)). o >>= read) (sign_complete sign tokens p.between p.first) ∙ r.complete x p.between rest p.second is after;
}

pub before_reads : {X : Type 0} (sign : Sign) (read : Reader X) (a : X → List Piece) (A : X → Type 0) (F : List Token → Type 0) → ReadsAs read a A F
    → ((tokens rest : List Token) → Begins (a_sign sign ∷ []) tokens rest → F tokens) → ReadsAs (before_sign read sign) (λ (x : X). a x ++ a_sign sign ∷ []) A Any
before_reads {X = X} sign read a A F r joins = record {
  sound = λ x tokens rest e.
      let p = bind_some (read tokens) (λ y. sign_at sign y.1 >>= λ after. got y.0 after) (x, rest) e in
      let q = bind_some (sign_at sign p.0.1) (λ after. got p.0.0 after) (x, rest) p.2 in
      let one = r.sound p.0.0 tokens p.0.1 p.1 in
      finish (λ (y : X) (ts : List Token). Begins (a y ++ a_sign sign ∷ []) tokens ts × A y) p.0.0 x q.0 rest q.2
      (Begins-then (a p.0.0) (a_sign sign ∷ []) tokens p.0.1 q.0 one.0 (sign_sound sign p.0.1 q.0 q.1), one.1);
  complete = λ x tokens rest starts is after.
      let p = Begins-parts (a x) (a_sign sign ∷ []) tokens rest starts in
      let one = r.complete x tokens p.between p.first is (joins p.between rest p.second) in
      let two = sign_complete sign p.between rest p.second in
      ap (λ (o : Option (X × List Token)). o >>= λ y. sign_at sign y.1 >>= λ ts. got y.0 ts) one
      ∙ ap (λ (o : Option (List Token)). o >>= λ ts. got x ts) two;
}

-- ---- what is made of what is read

pub record IsMade {X Y : Type 0} (f : X → Y) (a : X → List Piece) (A : X → Type 0) (y : Y) (tokens rest : List Token) : Type 0 where
  pub of : X
  pub starts : Begins (a of) tokens rest
  pub is : A of
  pub same : f of ≡ y

pub made_sound : {X Y : Type 0} (f : X → Y) (read : Reader X) (a : X → List Piece) (A : X → Type 0) (F : List Token → Type 0) → ReadsAs read a A F → (y : Y) (tokens rest : List Token) → made f read tokens ≡ Some (y, rest) → IsMade f a A y tokens rest
made_sound {X = X} {Y = Y} f read a A F r y tokens rest e =
    let p = bind_some (read tokens) (λ x. got (f x.0) x.1) (y, rest) e in
    let one = r.sound p.0.0 tokens p.0.1 p.1 in
    let q = some_is (f p.0.0, p.0.1) (y, rest) p.2 in
    record {
      of = p.0.0;
      starts = subst (λ (ts : List Token). Begins (a p.0.0) tokens ts) (ap (λ (z : Y × List Token). z.1) q) one.0;
      is = one.1;
      same = ap (λ (z : Y × List Token). z.0) q;
    }

pub made_complete : {X Y : Type 0} (f : X → Y) (read : Reader X) (a : X → List Piece) (A : X → Type 0) (F : List Token → Type 0) → ReadsAs read a A F → (x : X) (tokens rest : List Token) → Begins (a x) tokens rest → A x → F rest
    → made f read tokens ≡ Some (f x, rest)
made_complete {X = X} f read a A F r x tokens rest starts is after =
    ap (λ (o : Option (X × List Token)). o >>= λ y. got (f y.0) y.1) (r.complete x tokens rest starts is after)

-- one view made of another, and back
pub made_reads : {X Y : Type 0} (f : X → Y) (back : Y → X) (read : Reader X) (a : X → List Piece) (A : X → Type 0) (F : List Token → Type 0) (b : Y → List Piece) (B : Y → Type 0) → ReadsAs read a A F
    → ((x : X) (tokens rest : List Token) → Begins (a x) tokens rest → A x → Begins (b (f x)) tokens rest × B (f x))
    → ((y : Y) (tokens rest : List Token) → Begins (b y) tokens rest → B y → Begins (a (back y)) tokens rest × A (back y))
    → ((y : Y) → B y → f (back y) ≡ y) → ReadsAs (made f read) b B F
made_reads {X = X} {Y = Y} f back read a A F b B r to from same = record {
  sound = λ y tokens rest e.
      let m = made_sound f read a A F r y tokens rest e in
      subst (λ (z : Y). Begins (b z) tokens rest × B z) m.same (to m.of tokens rest m.starts m.is);
  complete = λ y tokens rest starts is after.
      let p = from y tokens rest starts is in
      made_complete f read a A F r (back y) tokens rest p.0 p.1 after ∙ ap (λ (z : Y). got z rest) (same y is);
}

-- what can be made of what is read
pub made_if_sound : {X Y : Type 0} (f : X → Option Y) (read : Reader X) (y : Y) (tokens rest : List Token) → made_if f read tokens ≡ Some (y, rest) → (x : X) × (read tokens ≡ Some (x, rest)) × (f x ≡ Some y)
made_if_sound {X = X} {Y = Y} f read y tokens rest e =
    let p = bind_some (read tokens) (λ x. f x.0 >>= λ z. got z x.1) (y, rest) e in
    let q = bind_some (f p.0.0) (λ z. got z p.0.1) (y, rest) p.2 in
    let same = some_is (pair q.0 p.0.1) (pair y rest) q.2 in
    (p.0.0, p.1 ∙ ap (λ (z : Y × List Token). got p.0.0 z.1) same, q.1 ∙ ap (λ (z : Y × List Token). found z.0) same)

pub made_if_complete : {X Y : Type 0} (f : X → Option Y) (read : Reader X) (x : X) (y : Y) (tokens rest : List Token) → read tokens ≡ Some (x, rest) → f x ≡ Some y → made_if f read tokens ≡ Some (y, rest)
made_if_complete {X = X} {Y = Y} f read x y tokens rest h k =
    ap (λ (o : Option (X × List Token)). o >>= λ z. f z.0 >>= λ u. got u z.1) h ∙ ap (λ (o : Option Y). o >>= λ u. got u rest) k

-- ---- the same reader, said otherwise

pub respelled : {X : Type 0} (read : Reader X) (a b : X → List Piece) (A : X → Type 0) (F : List Token → Type 0) → ReadsAs read a A F → ((x : X) → A x → a x ≡ b x) → ReadsAs read b A F
respelled read a b A F r same = record {
  sound = λ x tokens rest e. let s = r.sound x tokens rest e in (subst (λ (ps : List Piece). Begins ps tokens rest) (same x s.1) s.0, s.1);
  complete = λ x tokens rest starts is after. r.complete x tokens rest (subst (λ (ps : List Piece). Begins ps tokens rest) (sym (same x is)) starts) is after;
}

pub retold : {X : Type 0} (read : Reader X) (a : X → List Piece) (A B : X → Type 0) (F : List Token → Type 0) → ReadsAs read a A F → ((x : X) → A x → B x) → ((x : X) → B x → A x) → ReadsAs read a B F
retold read a A B F r to from = record {
  sound = λ x tokens rest e. let s = r.sound x tokens rest e in (s.0, to x s.1);
  complete = λ x tokens rest starts is after. r.complete x tokens rest starts (from x is) after;
}

-- before less than what it may stand before
pub narrowed : {X : Type 0} (read : Reader X) (a : X → List Piece) (A : X → Type 0) (F G : List Token → Type 0) → ReadsAs read a A F → ((tokens : List Token) → G tokens → F tokens) → ReadsAs read a A G
narrowed read a A F G r less = record {
  sound = r.sound;
  complete = λ x tokens rest starts is after. r.complete x tokens rest starts is (less rest after);
}

-- ---- what may stand there

option_by : {X : Type 0} (b : Bool) (o : Option (X × List Token)) (x : X) (tokens rest : List Token) → cond b (o >>= λ y. got (found y.0) y.1) (got (nothing X) tokens) ≡ Some (Some x, rest) → (b ≡ true) × (o ≡ Some (x, rest))
option_by {X = X} true o x tokens rest e =
    let p = bind_some o (λ y. got (found y.0) y.1) (Some x, rest) e in
    (refl, p.1 ∙ finish_some (λ (y : X) (ts : List Token). got p.0.0 p.0.1 ≡ got y ts) p.0.0 x p.0.1 rest p.2 refl)
option_by false o x tokens rest e = absurd (no_end x tokens rest e)

no_option_by : {X : Type 0} (b : Bool) (o : Option (X × List Token)) (tokens rest : List Token) → cond b (o >>= λ y. got (found y.0) y.1) (got (nothing X) tokens) ≡ Some (None, rest) → (tokens ≡ rest) × (b ≡ false)
no_option_by {X = X} true o tokens rest e =
    let p = bind_some o (λ y. got (found y.0) y.1) (nothing X, rest) e in absurd (no_find p.0.0 p.0.1 rest p.2)
no_option_by {X = X} false o tokens rest e = (ap (λ (z : Option X × List Token). z.1) (some_is (nothing X, tokens) (nothing X, rest) e), refl)

pub option_some : {X : Type 0} (stands : List Token → Bool) (read : Reader X) (x : X) (tokens rest : List Token) → optionally stands read tokens ≡ Some (Some x, rest) → read tokens ≡ Some (x, rest)
option_some stands read x tokens rest e = (option_by (stands tokens) (read tokens) x tokens rest e).1

pub option_none : {X : Type 0} (stands : List Token → Bool) (read : Reader X) (tokens rest : List Token) → optionally stands read tokens ≡ Some (None, rest) → (tokens ≡ rest) × (stands tokens ≡ false)
option_none stands read tokens rest e = no_option_by (stands tokens) (read tokens) tokens rest e

pub option_is_some : {X : Type 0} (stands : List Token → Bool) (read : Reader X) (x : X) (tokens rest : List Token) → stands tokens ≡ true → read tokens ≡ Some (x, rest) → optionally stands read tokens ≡ Some (Some x, rest)
option_is_some {X = X} stands read x tokens rest h e =
    ap (λ (b : Bool). cond b (read tokens >>= λ y. got (found y.0) y.1) (got (nothing X) tokens)) h
    ∙ ap (λ (o : Option (X × List Token)). o >>= λ y. got (found y.0) y.1) e

pub option_is_none : {X : Type 0} (stands : List Token → Bool) (read : Reader X) (tokens : List Token) → stands tokens ≡ false → optionally stands read tokens ≡ Some (None, tokens)
option_is_none {X = X} stands read tokens h = ap (λ (b : Bool). cond b (read tokens >>= λ y. got (found y.0) y.1) (got (nothing X) tokens)) h

-- what is spelled is told by the test
abbrev pub Shows : {X : Type 0} → (X → List Piece) → (X → Type 0) → (List Token → Bool) → Type 0
Shows {X = X} spell Is stands = (x : X) (tokens rest : List Token) → Begins (spell x) tokens rest → Is x → stands tokens ≡ true

abbrev pub NotThen : (List Token → Bool) → (List Token → Type 0) → List Token → Type 0
NotThen stands After tokens = (stands tokens ≡ false) × After tokens

pub option_reads : {X : Type 0} (stands : List Token → Bool) (read : Reader X) (a : X → List Piece) (A : X → Type 0) (F : List Token → Type 0) → ReadsAs read a A F → Shows a A stands
    → ReadsAs (optionally stands read) (optional a) (IsOption A) (NotThen stands F)
option_reads {X = X} stands read a A F r shows = record {
  sound = λ x tokens rest e. reads x tokens rest e;
  complete = λ x tokens rest starts is after. finds x tokens rest starts is after;
}
  where
    reads : (x : Option X) (tokens rest : List Token) → optionally stands read tokens ≡ Some (x, rest) → Begins (optional a x) tokens rest × IsOption A x
    reads None tokens rest e = ((option_none stands read tokens rest e).0, tt)
    reads (Some x) tokens rest e = r.sound x tokens rest (option_some stands read x tokens rest e)

    finds : (x : Option X) (tokens rest : List Token) → Begins (optional a x) tokens rest → IsOption A x → NotThen stands F rest → optionally stands read tokens ≡ Some (x, rest)
    finds None tokens rest starts is after = subst (λ (ts : List Token). optionally stands read tokens ≡ Some (None, ts)) starts (option_is_none stands read tokens (subst (λ (ts : List Token). stands ts ≡ false) (sym starts) after.0))
    finds (Some x) tokens rest starts is after = option_is_some stands read x tokens rest (shows x tokens rest starts is) (r.complete x tokens rest starts is after.1)

-- ---- siblings

abbrev One : {X : Type 0} → (X → List Piece) → (X → Type 0) → (List Token → Type 0) → X → List Token → List Token → Type 0
One a A F x tokens rest = (Begins (a x) tokens rest × A x) × F rest

abbrev Stop : (List Token → Bool) → List Token → List Token → Type 0
Stop stands tokens rest = (tokens ≡ rest) × (stands tokens ≡ false)

from_run : {X : Type 0} (a : X → List Piece) (A : X → Type 0) (stands : List Token → Bool) (xs : List X) (tokens rest : List Token)
    → Run (One a A Any) (Stop stands) xs tokens rest → Begins (flat_map a xs) tokens rest × AllByRecursion A xs
from_run a A stands [] tokens rest run = (run.0, tt)
from_run a A stands (x ∷ xs) tokens rest run =
    let more = from_run a A stands xs run.0 rest run.2 in
    (rw flat_map-cons (Begins-then (a x) (flat_map a xs) tokens run.0 rest run.1.0.0 more.0), (run.1.0.1, more.1))

-- what comes before the end, or before a next one
pub follow : {X : Type 0} (a : X → List Piece) (A : X → Type 0) (F : List Token → Type 0) → ((x : X) (tokens rest : List Token) → Begins (a x) tokens rest → A x → F tokens)
    → (xs : List X) (tokens rest : List Token) → F rest → Begins (flat_map a xs) tokens rest → AllByRecursion A xs → F tokens
follow a A F begins [] tokens rest after starts are = subst F (sym starts) after
follow a A F begins (x ∷ xs) tokens rest after starts are =
    let p = Begins-parts (a x) (flat_map a xs) tokens rest (rw flat_map-cons at starts) in
    begins x tokens p.between p.first are.0

to_run : {X : Type 0} (a : X → List Piece) (A : X → Type 0) (F : List Token → Type 0) (stands : List Token → Bool) → ((x : X) (tokens rest : List Token) → Begins (a x) tokens rest → A x → F tokens)
    → (xs : List X) (tokens rest : List Token) → NotThen stands F rest → Begins (flat_map a xs) tokens rest → AllByRecursion A xs → Run (One a A F) (Stop stands) xs tokens rest
to_run a A F stands begins [] tokens rest after starts are = (starts, subst (λ (ts : List Token). stands ts ≡ false) (sym starts) after.0)
to_run a A F stands begins (x ∷ xs) tokens rest after starts are =
    let p = Begins-parts (a x) (flat_map a xs) tokens rest (rw flat_map-cons at starts) in
    (p.between, ((p.first, are.0), follow a A F begins xs p.between rest after.1 p.second are.1), to_run a A F stands begins xs p.between rest after p.second are.1)

-- what each sibling has
pub record Sibling {X : Type 0} (a : X → List Piece) (A : X → Type 0) (F : List Token → Type 0) (stands : List Token → Bool) : Type 0 where
  pub shows : (x : X) (tokens rest : List Token) → Begins (a x) tokens rest → A x → stands tokens ≡ true
  pub begins : (x : X) (tokens rest : List Token) → Begins (a x) tokens rest → A x → F tokens
  pub long : (x : X) → A x → 0 < length (a x)

pub option_shrinks : {X : Type 0} (stands : List Token → Bool) (read : Reader X) (a : X → List Piece) (A : X → Type 0) (F : List Token → Type 0) → ReadsAs read a A F → ((x : X) → A x → 0 < length (a x)) → Shrinks (optionally stands read)
option_shrinks {X = X} stands read a A F r long = record {
  falls = λ tokens rest x e.
      let s = r.sound x tokens rest (option_some stands read x tokens rest e) in
      let h = Begins-length (a x) tokens rest s.0 in
      let l = long x s.1 in omega arith;
}

pub many_reads : {X : Type 0} (stands : List Token → Bool) (read : Reader X) (a : X → List Piece) (A : X → Type 0) (F : List Token → Type 0) → ReadsAs read a A F → Sibling a A F stands
    → ReadsAs (many stands read) (flat_map a) (AllByRecursion A) (NotThen stands F)
unfolding many
many_reads {X = X} stands read a A F r s = record {
  sound = λ xs tokens rest e.
      from_run a A stands xs tokens rest
      (sound (optionally stands read) (One a A Any) (Stop stands)
      (λ x ts after h. (r.sound x ts after (option_some stands read x ts after h), tt))
      (λ ts after h. option_none stands read ts after h) tokens xs rest e);
  complete = λ xs tokens rest starts are after.
      complete (optionally stands read) (option_shrinks stands read a A F r s.long) (One a A F) (Stop stands)
      (λ x ts rest' one. option_is_some stands read x ts rest' (s.shows x ts rest' one.0.0 one.0.1) (r.complete x ts rest' one.0.0 one.0.1 one.1))
      (λ ts rest' stop. subst (λ (us : List Token). optionally stands read ts ≡ Some (None, us)) stop.0 (option_is_none stands read ts stop.1))
      xs tokens rest (to_run a A F stands s.begins xs tokens rest after starts are);
}

run_stops : {X : Type 0} (stands : List Token → Bool) (xs : List X) (tokens rest : List Token) → Run (λ (x : X) (ts us : List Token). Unit {0}) (Stop stands) xs tokens rest → stands rest ≡ false
run_stops stands [] tokens rest run = subst (λ (ts : List Token). stands ts ≡ false) run.0 run.1
run_stops stands (x ∷ xs) tokens rest run = run_stops stands xs run.0 rest run.2

-- none stands where reading ends
pub many_stops : {X : Type 0} (stands : List Token → Bool) (read : Reader X) (xs : List X) (tokens rest : List Token) → many stands read tokens ≡ Some (xs, rest) → stands rest ≡ false
unfolding many
many_stops {X = X} stands read xs tokens rest e =
    run_stops stands xs tokens rest
    (sound (optionally stands read) (λ (x : X) (ts us : List Token). Unit {0}) (Stop stands) (λ _ _ _ _. tt) (λ ts after h. option_none stands read ts after h) tokens xs rest e)

-- ---- the next token

pub word_shows : (word : Word) (kind : Kind) (place : Option Pos) (others : List Piece) (tokens rest : List Token) (b : Bool) → is_word word kind ≡ b → Begins (Plain kind place ∷ others) tokens rest → word_stands word tokens ≡ b
word_shows word kind place others tokens rest b h starts = ap (kind_is_word word) (kind_there kind place others tokens rest starts) ∙ h

pub sign_shows : (sign : Sign) (kind : Kind) (place : Option Pos) (others : List Piece) (tokens rest : List Token) (b : Bool) → is_sign sign kind ≡ b → Begins (Plain kind place ∷ others) tokens rest → sign_stands sign tokens ≡ b
sign_shows sign kind place others tokens rest b h starts = ap (kind_is_sign sign) (kind_there kind place others tokens rest starts) ∙ h

-- ---- one, and more after commas

-- what may come before a comma
abbrev pub BeforeComma : (List Token → Type 0) → Type 0
BeforeComma F = (others : List Piece) (tokens rest : List Token) → Begins (a_sign signs.Comma ∷ others) tokens rest → F tokens

abbrev Spelled : {X : Type 0} → (X → List Piece) → X × List X → List Piece
Spelled a x = a x.0 ++ flat_map (spell_more a) x.1

comma_sibling : {X : Type 0} (a : X → List Piece) (A : X → Type 0) (F : List Token → Type 0) → BeforeComma F → Sibling (spell_more a) A F (sign_stands signs.Comma)
comma_sibling a A F comma = record {
  shows = λ x tokens rest starts is. sign_shows signs.Comma (kinds.Sign signs.Comma) None (a x) tokens rest true refl starts;
  begins = λ x tokens rest starts is. comma (a x) tokens rest starts;
  long = λ x is. omega arith;
}

further_reads : {X : Type 0} (read : Reader X) (a : X → List Piece) (A : X → Type 0) (F : List Token → Type 0) → ReadsAs read a A F → BeforeComma F
    → ReadsAs (many (sign_stands signs.Comma) (after_sign signs.Comma read)) (flat_map (spell_more a)) (AllByRecursion A) (NotThen (sign_stands signs.Comma) F)
further_reads read a A F r comma =
    many_reads (sign_stands signs.Comma) (after_sign signs.Comma read) (spell_more a) A F (sign_reads signs.Comma read a A F r) (comma_sibling a A F comma)

first_reads : {X : Type 0} (read : Reader X) (a : X → List Piece) (A : X → Type 0) (F : List Token → Type 0) → ReadsAs read a A F → BeforeComma F
    → ReadsAs (both read (many (sign_stands signs.Comma) (after_sign signs.Comma read))) (Spelled a) (λ (x : X × List X). A x.0 × AllByRecursion A x.1) (NotThen (sign_stands signs.Comma) F)
first_reads read a A F r comma =
    both_reads read (many (sign_stands signs.Comma) (after_sign signs.Comma read)) a (flat_map (spell_more a)) A (AllByRecursion A) F (NotThen (sign_stands signs.Comma) F) r (further_reads read a A F r comma)
    (λ xs tokens rest starts are after. follow (spell_more a) A F (λ x ts us s is. comma (a x) ts us s) xs tokens rest after.1 starts are)

pub one_or_more_reads : {X : Type 0} (read : Reader X) (a : X → List Piece) (A : X → Type 0) (F : List Token → Type 0) → ReadsAs read a A F → BeforeComma F
    → ReadsAs (one_or_more read) (separated a) (AreSome A) (NotThen (sign_stands signs.Comma) F)
unfolding one_or_more
one_or_more_reads {X = X} read a A F r comma = record { sound = reads; complete = finds }
  where
    reads : (xs : List X) (tokens rest : List Token) → one_or_more read tokens ≡ Some (xs, rest) → Begins (separated a xs) tokens rest × AreSome A xs
    reads xs tokens rest e =
        let m = made_sound (λ (x : X × List X). x.0 ∷ x.1) (both read (many (sign_stands signs.Comma) (after_sign signs.Comma read))) (Spelled a) (λ (x : X × List X). A x.0 × AllByRecursion A x.1) (NotThen (sign_stands signs.Comma) F) (first_reads read a A F r comma) xs tokens rest e in
        subst (λ (ys : List X). Begins (separated a ys) tokens rest × AreSome A ys) m.same (m.starts, ((λ h. cc), m.is))

    finds : (xs : List X) (tokens rest : List Token) → Begins (separated a xs) tokens rest → AreSome A xs → NotThen (sign_stands signs.Comma) F rest → one_or_more read tokens ≡ Some (xs, rest)
    finds [] tokens rest starts is after = absurd (is.0 refl)
    finds (x ∷ xs) tokens rest starts is after =
        made_complete (λ (y : X × List X). y.0 ∷ y.1) (both read (many (sign_stands signs.Comma) (after_sign signs.Comma read))) (Spelled a) (λ (y : X × List X). A y.0 × AllByRecursion A y.1) (NotThen (sign_stands signs.Comma) F) (first_reads read a A F r comma) (x, xs) tokens rest starts is.1 after

-- the next one takes something
pub comma_shrinks : {X : Type 0} (read : Reader X) (a : X → List Piece) (A : X → Type 0) (F : List Token → Type 0) → ReadsAs read a A F → Shrinks (optionally (sign_stands signs.Comma) (after_sign signs.Comma read))
comma_shrinks read a A F r = option_shrinks (sign_stands signs.Comma) (after_sign signs.Comma read) (spell_more a) A F (sign_reads signs.Comma read a A F r) (λ x is. omega arith)

-- a list that the first token tells, or the empty one
pub where_reads : {X : Type 0} (stands : List Token → Bool) (read : Reader (List X)) (a : List X → List Piece) (A : X → Type 0) (F : List Token → Type 0) → ReadsAs read a (AreSome A) F → a [] ≡ []
    → ((x : X) (xs : List X) (tokens rest : List Token) → Begins (a (x ∷ xs)) tokens rest → AllByRecursion A (x ∷ xs) → stands tokens ≡ true)
    → ReadsAs (where_stands stands read) a (AllByRecursion A) (NotThen stands F)
where_reads {X = X} stands read a A F r empty shows = record {
  sound = λ xs tokens rest e. reads (stands tokens) xs tokens rest e;
  complete = λ xs tokens rest starts are after. finds xs tokens rest starts are after;
}
  where
    reads : (b : Bool) (xs : List X) (tokens rest : List Token) → cond b (read tokens) (got [] tokens) ≡ Some (xs, rest) → Begins (a xs) tokens rest × AllByRecursion A xs
    reads true xs tokens rest e = let s = r.sound xs tokens rest e in (s.0, s.1.1)
    reads false xs tokens rest e =
        finish (λ (ys : List X) (ts : List Token). Begins (a ys) tokens ts × AllByRecursion A ys) [] xs tokens rest e
        (subst (λ (ps : List Piece). Begins ps tokens tokens) (sym empty) refl, tt)

    finds : (xs : List X) (tokens rest : List Token) → Begins (a xs) tokens rest → AllByRecursion A xs → NotThen stands F rest → where_stands stands read tokens ≡ Some (xs, rest)
    finds [] tokens rest starts are after =
        let here : tokens ≡ rest = subst (λ (ps : List Piece). Begins ps tokens rest) empty starts in
        ap (λ (b : Bool). cond b (read tokens) (got [] tokens)) (subst (λ (ts : List Token). stands ts ≡ false) (sym here) after.0) ∙ ap (λ (ts : List Token). got {X = List X} [] ts) here
    finds (x ∷ xs) tokens rest starts are after =
        ap (λ (b : Bool). cond b (read tokens) (got [] tokens)) (shows x xs tokens rest starts are) ∙ r.complete (x ∷ xs) tokens rest starts ((λ h. cc), are) after.1

-- ---- names, places and string literals

pub name_reads : ReadsAs name_at (λ (x : Ident). a_name x ∷ []) (Anything {X = Ident}) Any
name_reads = record {
  sound = λ x tokens rest e. (name_sound tokens rest x e, tt);
  complete = λ x tokens rest starts is after. name_complete x tokens rest starts;
}

pub word_pos_reads : (word : Word) → ReadsAs (pos_of_word word) (λ (pos : Pos). word_there word pos ∷ []) (Anything {X = Pos}) Any
unfolding pos_of_word
word_pos_reads word = record { sound = reads; complete = finds }
  where
    reads : (x : Pos) (tokens rest : List Token) → pos_of_word word tokens ≡ Some (x, rest) → Begins (word_there word x ∷ []) tokens rest × Anything x
    reads x [] rest e = absurd cc
    reads x (t ∷ tokens) rest e =
        let g = cond_some (is_word word t.kind) (pair t.pos tokens) (pair x rest) e in
        (((word_true word t.kind g.0, ap (λ (z : Pos × List Token). z.0) g.1), ap (λ (z : Pos × List Token). z.1) g.1), tt)

    finds : (x : Pos) (tokens rest : List Token) → Begins (word_there word x ∷ []) tokens rest → Anything x → Any rest → pos_of_word word tokens ≡ Some (x, rest)
    finds x [] rest starts is after = absurd starts
    finds x (t ∷ tokens) rest starts is after = rw (word_is word t.kind starts.0.0, starts.0.1, starts.1) refl

pub sign_pos_reads : (sign : Sign) → ReadsAs (pos_of_sign sign) (λ (pos : Pos). sign_there sign pos ∷ []) (Anything {X = Pos}) Any
unfolding pos_of_sign
sign_pos_reads sign = record { sound = reads; complete = finds }
  where
    reads : (x : Pos) (tokens rest : List Token) → pos_of_sign sign tokens ≡ Some (x, rest) → Begins (sign_there sign x ∷ []) tokens rest × Anything x
    reads x [] rest e = absurd cc
    reads x (t ∷ tokens) rest e =
        let g = cond_some (is_sign sign t.kind) (pair t.pos tokens) (pair x rest) e in
        (((sign_true sign t.kind g.0, ap (λ (z : Pos × List Token). z.0) g.1), ap (λ (z : Pos × List Token). z.1) g.1), tt)

    finds : (x : Pos) (tokens rest : List Token) → Begins (sign_there sign x ∷ []) tokens rest → Anything x → Any rest → pos_of_sign sign tokens ≡ Some (x, rest)
    finds x [] rest starts is after = absurd starts
    finds x (t ∷ tokens) rest starts is after = rw (sign_is sign t.kind starts.0.0, starts.0.1, starts.1) refl

text_by : (kind : Kind) (text : List ℕ) (tokens : List Token) (x : List ℕ) (rest : List Token)
    → elim kind as (λ _. Option (List ℕ × List Token)) [ kinds.Text ↦ characters_of text >>= λ cs. Some (cs, tokens) | _ ↦ None ] ≡ got x rest → (kind ≡ kinds.Text) × (characters_of text ≡ Some x) × (tokens ≡ rest)
text_by kinds.Text text tokens x rest e =
    let p = bind_some (characters_of text) (λ cs. got cs tokens) (x, rest) e in
    finish (λ (y : List ℕ) (ts : List Token). (kinds.Text ≡ kinds.Text) × (characters_of text ≡ Some y) × (tokens ≡ ts)) p.0 x tokens rest p.2 (refl, p.1, refl)
text_by _ text tokens x rest e = absurd cc

pub text_reads : ReadsAs text_at (λ (cs : List ℕ). Characters cs ∷ []) (Anything {X = List ℕ}) Any
unfolding text_at
text_reads = record { sound = reads; complete = finds }
  where
    reads : (x : List ℕ) (tokens rest : List Token) → text_at tokens ≡ Some (x, rest) → Begins (Characters x ∷ []) tokens rest × Anything x
    reads x [] rest e = absurd cc
    reads x (t ∷ tokens) rest e = let g = text_by t.kind t.text tokens x rest e in (((g.0, characters_sound t.text x g.1), g.2), tt)

    finds : (x : List ℕ) (tokens rest : List Token) → Begins (Characters x ∷ []) tokens rest → Anything x → Any rest → text_at tokens ≡ Some (x, rest)
    finds x [] rest starts is after = absurd starts
    finds x (t ∷ tokens) rest starts is after = rw (starts.0.0, characters_complete t.text x starts.0.1, starts.1) refl
