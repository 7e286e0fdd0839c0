-- What is read is the one tree that spells the tokens, where there is one.
use Rattle.std.proofs.Common.{◌≡◌, ℕ, ◌+◌, ◌<◌, ◌≤◌, nat_lt, Bool, true, false, inl, List, [], ◌∷◌, ◌++◌, length, drop, map, Option, Some, None, if◌then◌else◌, refl, sym, ap, ◌∙◌, subst, length-append, length-drop, arith}
use Rattle.std.proofs.lemmas.Bool.{ltb-false, le-ltb}
use Rattle.std.proofs.lemmas.Option.{same_Some}
use Rattle.std.proofs.lemmas.List.{append-nil, drop_all, length-map}
use Rattle.df_tok.specs.Token.{Token, view}
use Rattle.df_tok.specs.declared.token.Token as declared
use Rattle.df_tree.specs.declared.ast.Ast as declared_ast
use Rattle.df_tree.specs.declared.production.Part.{Part}
use Rattle.df_tree.specs.declared.production.Part.TheVariants.{Nonterminal}
use Rattle.df_tree.specs.Tree.{Tree, leaves}
use Rattle.df_tree.specs.Ast.{Ast, Asts, Nil, Next, asts_of, ast_of}
use Rattle.df_tree.specs.Grammar.{part_of, height_limit, height, IsSettled, IsTreeOf, IsPartAt}
use Rattle.df_tree.specs.Building.{Frame, opened}
use Rattle.df_tree.specs.Spelling.{IsAstOf, IsAstAt, IsOne, MakesOne}
use Rattle.df_tree.proofs.Deep.{low_is_shallow}
use Rattle.df_tree.proofs.Followed.{greedy_row, any_row, nothing_follows, settled_all, settled_greedy}
use Rattle.df_pexpr.specs.mirror.Reading.{Reading, reader, depth_limit}
use Rattle.df_pexpr.specs.mirror.Construction.{Construction, Attempt, Success, Failure, builder, attempt_from}
use Rattle.df_pexpr.proofs.Complete.{complete, token_limit}
use Rattle.df_pexpr.proofs.Sound.{sound}
use Rattle.df_pexpr.proofs.Built.{construction, made, fit, Fitting, builds, dropped_whole}

-- what reading from one token on comes to
pub record IsAttempt (n : ℕ) (tokens : List Token) (start : ℕ) (a : Attempt) : Type 0 where
  pub is : a ≡ attempt_from n tokens start
  pub few : length tokens < token_limit

pub few_tokens : (tokens : List declared.Token) → length tokens < token_limit → length (map view tokens) < token_limit
few_tokens tokens lt = omega (arith, lt, length-map tokens view)

-- begun in a frame of its own
pub from_here : (n : ℕ) (tokens : List Token) (start left : ℕ) (frame : Frame) → left ≡ depth_limit → frame ≡ opened start → attempt_from n tokens start ≡ builder tokens left height_limit 0 frame start (Nonterminal n)
unfolding attempt_from
from_here n tokens start left frame e f = λ i. builder tokens (sym e i) height_limit 0 (sym f i) start (Nonterminal n)

made_from : (n : ℕ) (tokens : List Token) (start : ℕ) → made (attempt_from n tokens start) ≡ Fitting height_limit 0 (opened start) start (reader depth_limit (Nonterminal n) (drop start tokens))
unfolding attempt_from
made_from n tokens start = builds tokens depth_limit height_limit 0 (opened start) start (Nonterminal n) (omega arith) (omega arith)

-- what a part of the text is read as
record IsRead (n : ℕ) (tokens : List Token) (start : ℕ) (found : Construction) : Type 0 where
  reading : Reading
  read : reader depth_limit (Nonterminal n) (drop start tokens) ≡ Some reading
  is : found ≡ construction 0 (opened start) start reading.tree
  low : height reading.tree ≤ height_limit

some_fits : (n : ℕ) (tokens : List Token) (start : ℕ) (found : Construction) (o : Option Reading) → reader depth_limit (Nonterminal n) (drop start tokens) ≡ o → Some found ≡ Fitting height_limit 0 (opened start) start o → IsRead n tokens start found
some_fits n tokens start found None r e = absurd cc
some_fits n tokens start found (Some x) r e = by (nat_lt height_limit (height x.tree)) (λ f. ltb-false height_limit (height x.tree) f) e
  where
    by : (b : Bool) → (b ≡ false → height x.tree ≤ height_limit) → Some found ≡ (if b then None else Some (construction 0 (opened start) start x.tree)) → IsRead n tokens start found
    by true h e = absurd cc
    by false h e = record { reading = x; read = r; is = same_Some _ _ e; low = h refl }

is_read : (n : ℕ) (tokens : List Token) (start : ℕ) (found : Construction) → IsAttempt n tokens start (Success found) → IsRead n tokens start found
is_read n tokens start found a =
    some_fits n tokens start found (reader depth_limit (Nonterminal n) (drop start tokens)) refl (ap made a.is ∙ made_from n tokens start)

-- what spells a part of the text is read
reads : (n : ℕ) (tokens : List Token) (start after : ℕ) (u : Tree) → length tokens < token_limit → IsPartAt n tokens start after u → reader depth_limit (Nonterminal n) (drop start tokens) ≡ Some (record { tree = u; behind = drop after tokens })
reads n tokens start after u few of =
    let all : length (leaves u ++ drop after tokens) ≡ length (drop start tokens) = ap length of.spelled in
    ap (λ p. reader depth_limit p (drop start tokens)) (sym of.starts) ∙ ap (reader depth_limit (part_of u)) (sym of.spelled)
    ∙ complete depth_limit u (drop after tokens) of.right of.settled (low_is_shallow u of.right of.low) (omega (arith, few, all, length-append (leaves u) (drop after tokens), length-drop start tokens))

-- a whole text is a part of itself
as_part : (n : ℕ) (tokens : List Token) (u : Tree) → IsTreeOf n tokens u → IsPartAt n tokens 0 (length tokens) u
as_part n tokens u of = record {
  starts = of.starts;
  right = of.right;
  place = (let e : length (leaves u) ≡ length tokens = ap length of.spelled in omega (arith, e));
  spelled = ap (λ ts. leaves u ++ ts) (drop_all (length tokens) tokens (omega arith)) ∙ append-nil (leaves u) ∙ of.spelled;
  settled = subst (IsSettled any_row u) (sym (drop_all (length tokens) tokens (omega arith))) (settled_all u [] of.right of.settled (nothing_follows n (part_of u) of.starts));
  low = of.low;
}

-- ---- parts

part_of_it : (n : ℕ) (tokens : List Token) (start : ℕ) (found : Construction) (it : IsRead n tokens start found) → IsPartAt n tokens start found.behind it.reading.tree
part_of_it n tokens start found it =
    let r = sound depth_limit (Nonterminal n) (drop start tokens) it.reading it.read in
    let place : found.behind ≡ start + length (leaves it.reading.tree) = ap (λ (c : Construction). c.behind) it.is in
    let rest : it.reading.behind ≡ drop found.behind tokens = dropped_whole (leaves it.reading.tree) it.reading.behind tokens start r.spelled ∙ ap (λ m. drop m tokens) (sym place) in
    record {
      starts = r.part;
      right = r.right;
      place = place;
      spelled = ap (λ ts. leaves it.reading.tree ++ ts) (sym rest) ∙ r.spelled;
      settled = subst (IsSettled any_row it.reading.tree) rest r.settled;
      low = it.low;
    }

only_it : (n : ℕ) (tokens : List Token) (start : ℕ) (found : Construction) (it : IsRead n tokens start found) → length tokens < token_limit → (after : ℕ) (u : Tree) → IsPartAt n tokens start after u → u ≡ it.reading.tree
only_it n tokens start found it few after u of = ap (λ (x : Reading). x.tree) (same_Some _ _ (sym (reads n tokens start after u few of) ∙ it.read))

pub part_found : (n : ℕ) (tokens : List Token) (start : ℕ) (found : Construction) (ast : Ast) → IsAttempt n tokens start (Success found) → asts_of found.frame.items ≡ Next ast Nil → IsAstAt n tokens start found.behind ast
part_found n tokens start found ast a e =
    let it = is_read n tokens start found a in
    let here = part_of_it n tokens start found it in
    record {
      tree = it.reading.tree;
      spells = here;
      only = λ after u of. (
          let same : u ≡ it.reading.tree = only_it n tokens start found it a.few after u of in
          (of.place ∙ ap (λ t. start + length (leaves t)) same ∙ sym here.place, same));
      is = sym (ap (λ (c : Construction). asts_of c.frame.items) it.is) ∙ e;
    }

pub one_found : (n : ℕ) (tokens : List Token) (start : ℕ) (found : Construction) → MakesOne n → IsAttempt n tokens start (Success found) → IsOne (asts_of found.frame.items)
one_found n tokens start found one a =
    let it = is_read n tokens start found a in
    let r = sound depth_limit (Nonterminal n) (drop start tokens) it.reading it.read in
    subst IsOne (sym (ap (λ (c : Construction). asts_of c.frame.items) it.is)) (one start it.reading.tree r.part r.right)

-- the one of a list
pub last_is : (items front : List declared_ast.Ast) (last : declared_ast.Ast) → items ≡ front ++ last ∷ [] → IsOne (asts_of (map ast_of items)) → asts_of (map ast_of items) ≡ Next (ast_of last) Nil
last_is items [] last e one = ap (λ xs. asts_of (map ast_of xs)) e
last_is items (x ∷ []) last e one = absurd (let two : Next (ast_of x) (Next (ast_of last) Nil) ≡ Next one.ast Nil = sym (ap (λ xs. asts_of (map ast_of xs)) e) ∙ one.is in cc)
last_is items (x ∷ y ∷ front) last e one = absurd (let two : Next (ast_of x) (Next (ast_of y) (asts_of (map ast_of (front ++ last ∷ [])))) ≡ Next one.ast Nil = sym (ap (λ xs. asts_of (map ast_of xs)) e) ∙ one.is in cc)

never_fits : (x : Construction) → x.height ≤ height_limit → None ≡ fit height_limit x → ⊥
never_fits x le e = by (nat_lt height_limit x.height) (le-ltb height_limit x.height le) e
  where
    by : (b : Bool) → b ≡ false → None ≡ (if b then None else Some x) → ⊥
    by true f e = cc
    by false f e = cc

pub no_part : (n : ℕ) (tokens : List Token) (start stop : ℕ) → IsAttempt n tokens start (Failure stop) → (after : ℕ) (u : Tree) → IsPartAt n tokens start after u → ⊥
no_part n tokens start stop a after u of =
    never_fits (construction 0 (opened start) start u) of.low
    (ap made a.is ∙ made_from n tokens start ∙ ap (Fitting height_limit 0 (opened start) start) (reads n tokens start after u a.few of))

-- ---- whole texts

no_more : (xs ys : List Token) → length (xs ++ ys) ≤ length xs → ys ≡ []
no_more [] [] le = refl
no_more [] (y ∷ ys) le = absurd (omega arith)
no_more (x ∷ xs) ys le = no_more xs ys (omega (arith, le))

pub text_found : (n : ℕ) (tokens : List Token) (found : Construction) (ast : Ast) → IsAttempt n tokens 0 (Success found) → asts_of found.frame.items ≡ Next ast Nil → length tokens ≤ found.behind → IsAstOf n tokens ast
text_found n tokens found ast a e le =
    let it = is_read n tokens 0 found a in
    let r = sound depth_limit (Nonterminal n) tokens it.reading it.read in
    let place : found.behind ≡ 0 + length (leaves it.reading.tree) = ap (λ (c : Construction). c.behind) it.is in
    let nil : it.reading.behind ≡ [] = no_more (leaves it.reading.tree) it.reading.behind (subst (λ ts. length ts ≤ length (leaves it.reading.tree)) (sym r.spelled) (omega (arith, le, place))) in
    record {
      tree = it.reading.tree;
      spells = record {
        starts = r.part;
        right = r.right;
        spelled = sym (append-nil (leaves it.reading.tree)) ∙ ap (λ ts. leaves it.reading.tree ++ ts) (sym nil) ∙ r.spelled;
        settled = subst (IsSettled greedy_row it.reading.tree) nil (settled_greedy it.reading.tree it.reading.behind r.settled);
        low = it.low;
      };
      only = λ u of. only_it n tokens 0 found it a.few (length tokens) u (as_part n tokens u of);
      is = sym (ap (λ (c : Construction). asts_of c.frame.items) it.is) ∙ e;
    }

pub text_too_long : (n : ℕ) (tokens : List Token) (found : Construction) → IsAttempt n tokens 0 (Success found) → found.behind < length tokens → (u : Tree) → IsTreeOf n tokens u → ⊥
text_too_long n tokens found a lt u of =
    let it = is_read n tokens 0 found a in
    let place : found.behind ≡ 0 + length (leaves it.reading.tree) = ap (λ (c : Construction). c.behind) it.is in
    let same : u ≡ it.reading.tree = only_it n tokens 0 found it a.few (length tokens) u (as_part n tokens u of) in
    let all : length (leaves u) ≡ length tokens = ap length of.spelled in
    let here : length (leaves u) ≡ length (leaves it.reading.tree) = ap (λ t. length (leaves t)) same in
    omega (arith, lt, place, all, here)

pub no_text : (n : ℕ) (tokens : List Token) (stop : ℕ) → IsAttempt n tokens 0 (Failure stop) → (u : Tree) → IsTreeOf n tokens u → ⊥
no_text n tokens stop a u of = no_part n tokens 0 stop a (length tokens) u (as_part n tokens u of)
