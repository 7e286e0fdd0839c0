-- The tokens of expressions: operators, and what goes on from an expression.
use Rattle.std.proofs.Common.{◌≡◌, ℕ, zero, suc, ◌<◌, ◌≤◌, nat_lt, Bool, true, false, cond, List, [], ◌∷◌, Option, Some, None, inl, inr, ◌⊎◌, refl, sym, ap, ◌∙◌, arith}
use Rattle.std.proofs.lemmas.Bool.{ltb-true, ltb-false}
use denote.Enum.Bare.{same_true, true_same}
use Rattle.df_base.specs.declared.pos.Pos.{Pos}
use Rattle.df_tok.specs.declared.word.Word.TheVariants as words
use Rattle.df_tok.specs.declared.sign.Sign.{Sign}
use Rattle.df_tok.specs.declared.sign.Sign.TheVariants as signs
use Rattle.df_tok.specs.declared.token.Kind.{Kind}
use Rattle.df_tok.specs.declared.token.Kind.TheVariants as kinds
use Rattle.df_tok.specs.Token.{Token}
use Rattle.df_ntree.specs.contracts.expr.Group as declared_group
use Rattle.df_ntree.specs.contracts.expr.Level as declared_level
use Rattle.df_ntree.specs.declared.expr.BinaryOperator.{BinaryOperator}
use Rattle.df_ntree.specs.declared.expr.BinaryOperator.TheVariants as binary
use Rattle.df_ntree.specs.declared.expr.UnaryOperator.{UnaryOperator}
use Rattle.df_ntree.specs.declared.expr.UnaryOperator.TheVariants as unary
use Rattle.df_ntree.specs.declared.expr.Group.{Group}
use Rattle.df_ntree.specs.declared.expr.Group.TheVariants as groups
use Rattle.df_ntree.specs.declared.expr.Level.{Level}
use Rattle.df_ntree.specs.declared.expr.Level.TheVariants as levels
use Rattle.df_ntree.specs.Operator.{sign_of, unary_sign_of, group_of, level_of, rank}
use Rattle.df_ntree.specs.Spelling.{Piece, Begins, sign_there}
use Rattle.df_ntree.specs.Expr.{Expr, Cast, Operations, Leading, Members, end, more}
use Rattle.df_ntree.specs.ExprSpelling.{rank_of_group, first_group, rank_of, IsExpr, BeginsWith, AreOf, Continuation, WithOperator, WithType, WithArguments, kind_of, continued_level, Bars, AtEnd, IsBarred, IsBarredAfter, IsEnd}
use Rattle.df_ntree.specs.mirror.Reading.{kind_at}
use Rattle.df_ntree.specs.mirror.ExprReading.{operator_of, operator_by, operator_at, same_level, same_group, if_of_level, operator_in, if_of_group, optional_operator, unary_by, if_unary, optional_unary}
use Rattle.df_ntree.proofs.Repeat.{found, pair, some_is, differ, unwrapped}

-- ---- the operators

pub operator_sound : (sign : Sign) (o : BinaryOperator) → operator_of sign ≡ Some o → sign ≡ sign_of o
unfolding operator_of
operator_sound signs.Iff o e = ap sign_of (some_is binary.Iff o e)
operator_sound signs.Implies o e = ap sign_of (some_is binary.Implies o e)
operator_sound signs.Explies o e = ap sign_of (some_is binary.Explies o e)
operator_sound signs.And o e = ap sign_of (some_is binary.And o e)
operator_sound signs.Or o e = ap sign_of (some_is binary.Or o e)
operator_sound signs.Equal o e = ap sign_of (some_is binary.Equal o e)
operator_sound signs.NotEqual o e = ap sign_of (some_is binary.NotEqual o e)
operator_sound signs.Less o e = ap sign_of (some_is binary.Less o e)
operator_sound signs.AtMost o e = ap sign_of (some_is binary.AtMost o e)
operator_sound signs.Greater o e = ap sign_of (some_is binary.Greater o e)
operator_sound signs.AtLeast o e = ap sign_of (some_is binary.AtLeast o e)
operator_sound signs.Plus o e = ap sign_of (some_is binary.Add o e)
operator_sound signs.Minus o e = ap sign_of (some_is binary.Subtract o e)
operator_sound signs.Times o e = ap sign_of (some_is binary.Multiply o e)
operator_sound signs.Divide o e = ap sign_of (some_is binary.Divide o e)
operator_sound signs.Modulo o e = ap sign_of (some_is binary.Modulo o e)
operator_sound _ o e = absurd (differ o e)

pub operator_complete : (o : BinaryOperator) → operator_of (sign_of o) ≡ Some o
unfolding operator_of
operator_complete binary.Iff = refl
operator_complete _ = refl

pub by_sound : (kind : Kind) (o : BinaryOperator) → operator_by kind ≡ Some o → kind ≡ kinds.Sign (sign_of o)
by_sound (kinds.Sign sign) o e = ap kinds.Sign (operator_sound sign o e)
by_sound _ o e = absurd (differ o e)

pub by_complete : (kind : Kind) (o : BinaryOperator) → kind ≡ kinds.Sign (sign_of o) → operator_by kind ≡ Some o
by_complete kind o e = ap operator_by e ∙ operator_complete o

pub at_sound : (tokens : List Token) (o : BinaryOperator) → operator_at tokens ≡ Some o → kind_at tokens ≡ Some (kinds.Sign (sign_of o))
unfolding operator_at
at_sound [] o e = absurd (differ o e)
at_sound (t ∷ tokens) o e = ap (λ (k : Kind). found k) (by_sound t.kind o e)

pub at_complete : (tokens : List Token) (o : BinaryOperator) → kind_at tokens ≡ Some (kinds.Sign (sign_of o)) → operator_at tokens ≡ Some o
unfolding operator_at
at_complete [] o e = absurd (differ (kinds.Sign (sign_of o)) e)
at_complete (t ∷ tokens) o e = by_complete t.kind o (some_is t.kind (kinds.Sign (sign_of o)) e)

-- the sign of an operator at the front
pub operator_there : (o : BinaryOperator) (p : Pos) (others : List Piece) (tokens rest : List Token) → Begins (sign_there (sign_of o) p ∷ others) tokens rest → operator_at tokens ≡ Some o
unfolding operator_at
operator_there o p others [] rest b = absurd b
operator_there o p others (t ∷ tokens) rest b = by_complete t.kind o b.0.0

-- ---- ranks

pub low_group : (group : Group) → rank (level_of group) < 6
low_group groups.Equivalence = omega arith
low_group _ = omega arith

from_rank : ℕ → Level
from_rank zero = levels.Equivalence
from_rank (suc zero) = levels.Implication
from_rank (suc (suc zero)) = levels.Junction
from_rank (suc (suc (suc zero))) = levels.Comparison
from_rank (suc (suc (suc (suc zero)))) = levels.Sum
from_rank (suc (suc (suc (suc (suc zero))))) = levels.Product
from_rank (suc (suc (suc (suc (suc (suc zero)))))) = levels.Cast
from_rank (suc (suc (suc (suc (suc (suc (suc zero))))))) = levels.Unary
from_rank (suc (suc (suc (suc (suc (suc (suc (suc n)))))))) = levels.Primary

rank_back : (a : Level) → from_rank (rank a) ≡ a
unfolding from_rank
rank_back levels.Equivalence = refl
rank_back _ = refl

pub rank_one : (a b : Level) → rank a ≡ rank b → a ≡ b
rank_one a b e = sym (rank_back a) ∙ ap from_rank e ∙ rank_back b

by_test : (t : Bool) (a b : ℕ) → a ≤ b → nat_lt a b ≡ t → (a ≡ b) ⊎ (a < b)
by_test true a b l e = inr (ltb-true a b e)
by_test false a b l e = let m = ltb-false a b e in inl (omega arith)

pub same_or_less : (a b : ℕ) → a ≤ b → (a ≡ b) ⊎ (a < b)
same_or_less a b l = by_test (nat_lt a b) a b l refl

pub rank_begins : (group : Group) (m : Members) → BeginsWith group m → rank_of_group (first_group m) ≡ rank (level_of group)
rank_begins group m h = ap rank_of_group h

-- ---- what goes on from an expression

-- what a token that is no operator goes on with
abbrev suffix_by : Kind → Option Continuation
suffix_by (kinds.Sign signs.OpenParenthesis) = Some WithArguments
suffix_by (kinds.Word words.As) = Some WithType
suffix_by _ = None

abbrev or_suffix : Option BinaryOperator → Option Continuation → Option Continuation
or_suffix (Some o) suffix = Some (WithOperator o)
or_suffix None suffix = suffix

-- how a token goes on
abbrev pub continuation_by : Kind → Option Continuation
continuation_by kind = or_suffix (operator_by kind) (suffix_by kind)

suffix_sound : (kind : Kind) (c : Continuation) → suffix_by kind ≡ Some c → kind ≡ kind_of c
suffix_sound (kinds.Sign signs.OpenParenthesis) c e = ap kind_of (some_is WithArguments c e)
suffix_sound (kinds.Word words.As) c e = ap kind_of (some_is WithType c e)
suffix_sound _ c e = absurd (differ c e)

sound_by : (kind : Kind) (o : Option BinaryOperator) (c : Continuation) → operator_by kind ≡ o → or_suffix o (suffix_by kind) ≡ Some c → kind ≡ kind_of c
sound_by kind None c h e = suffix_sound kind c e
sound_by kind (Some o) c h e = by_sound kind o h ∙ ap kind_of (some_is (WithOperator o) c e)

pub continuation_sound : (kind : Kind) (c : Continuation) → continuation_by kind ≡ Some c → kind ≡ kind_of c
continuation_sound kind c e = sound_by kind (operator_by kind) c refl e

continuation_of : (c : Continuation) → continuation_by (kind_of c) ≡ Some c
unfolding operator_of
continuation_of (WithOperator o) = ap (λ (x : Option BinaryOperator). or_suffix x (suffix_by (kinds.Sign (sign_of o)))) (operator_complete o)
continuation_of WithType = refl
continuation_of WithArguments = refl

pub continuation_complete : (kind : Kind) (c : Continuation) → kind ≡ kind_of c → continuation_by kind ≡ Some c
continuation_complete kind c e = ap continuation_by e ∙ continuation_of c

-- the token at the front goes on so
abbrev pub Continues : Continuation → List Token → Type 0
Continues c tokens = kind_at tokens ≡ Some (kind_of c)

-- a token goes on in one way
pub one_way : (c d : Continuation) (tokens : List Token) → Continues c tokens → Continues d tokens → c ≡ d
one_way c d tokens h k =
    let same : kind_of c ≡ kind_of d = some_is (kind_of c) (kind_of d) (sym h ∙ k) in
    some_is c d (sym (continuation_of c) ∙ ap continuation_by same ∙ continuation_of d)

-- no token that goes on from an expression stands there
pub record NoneContinues (tokens : List Token) : Type 0 where
  pub stops : (c : Continuation) → Continues c tokens → ⊥

pub none_by : (kind : Kind) (tokens : List Token) → continuation_by kind ≡ None → kind_at tokens ≡ Some kind → NoneContinues tokens
none_by kind tokens h k = record { stops = λ c e. differ c (sym h ∙ continuation_complete kind c (some_is kind (kind_of c) (sym k ∙ e))) }

pub none_at_end : NoneContinues []
none_at_end = record { stops = λ c e. differ (kind_of c) e }

-- ---- what ends an expression

-- each way to go on from the front at this rank or above is barred by what stands before it
pub record Ends (n : ℕ) (e : Expr) (tokens : List Token) : Type 0 where
  pub stops : (c : Continuation) → Continues c tokens → n ≤ rank (continued_level c) → IsBarred c e

pub none_ends : (n : ℕ) (e : Expr) (tokens : List Token) → NoneContinues tokens → Ends n e tokens
none_ends n e tokens h = record { stops = λ c k l. absurd (h.stops c k) }

pub ends_more : (m n : ℕ) (e : Expr) (tokens : List Token) → m ≤ n → Ends m e tokens → Ends n e tokens
ends_more m n e tokens h s = record { stops = λ c k l. s.stops c k (omega arith) }

pub end_ends : (e : Expr) (tokens : List Token) → IsEnd e tokens → Ends 0 e tokens
end_ends e [] h = record { stops = λ c k l. absurd (differ (kind_of c) k) }
end_ends e (t ∷ tokens) h = record { stops = λ c k l. h c (some_is t.kind (kind_of c) k) }

pub ends_end : (e : Expr) (tokens : List Token) → Ends 0 e tokens → IsEnd e tokens
ends_end e [] h = tt
ends_end e (t ∷ tokens) h = λ c k. h.stops c (ap (λ (x : Kind). found x) k) (omega arith)

at_end : (m : Members) (A B : Type 0) → AtEnd m A B → A ⊎ B
at_end end A B h = inl h
at_end (more o p e m) A B h = inr h

-- ---- what bars a way to go on is looser than it, or of its level

barred_last : (c : Continuation) (x : BinaryOperator) (e : Expr) (m : Members) (group : Group) → group_of x ≡ group → rank (level_of group) < rank_of e → (IsBarred c e → rank_of e ≤ rank (continued_level c)) → (IsBarredAfter c m → rank (level_of group) ≤ rank (continued_level c))
    → AtEnd m (Bars (group_of x) c ⊎ IsBarred c e) (IsBarredAfter c m) → rank (level_of group) ≤ rank (continued_level c)
barred_last c x e m group same tight one others b = elim (at_end m (Bars (group_of x) c ⊎ IsBarred c e) (IsBarredAfter c m) b) [
  | inl h ↦ elim h [
    | inl k ↦ let r : rank (continued_level c) ≡ rank (level_of group) = ap rank k.0 ∙ ap (λ (g : Group). rank (level_of g)) same in omega arith
    | inr k ↦ let r = one k in omega arith
  ]
  | inr h ↦ others h
]

mutual
  pub barred_rank : (c : Continuation) (e : Expr) → IsExpr e → IsBarred c e → rank_of e ≤ rank (continued_level c)
  barred_rank c (Operations first m) is b =
      let l = barred_row c m is.0 is.4 b in
      let same : rank_of_group (first_group m) ≡ rank (level_of is.0) = ap rank_of_group is.1 in
      omega arith
  barred_rank c (Leading m) is b =
      let l = barred_row c m is.0 is.3 b in
      let same : rank (level_of is.0) ≡ 2 = ap rank is.2 in
      omega arith
  barred_rank c (Cast operand all) is b = let same : rank (continued_level c) ≡ 8 = ap (λ (d : Continuation). rank (continued_level d)) b in omega arith
  barred_rank c _ is b = absurd b

  pub barred_row : (c : Continuation) (m : Members) (group : Group) → AreOf m group → IsBarredAfter c m → rank (level_of group) ≤ rank (continued_level c)
  barred_row c end group are b = absurd b
  barred_row c (more x p e m) group are b = barred_last c x e m group are.0 are.2 (λ h. barred_rank c e are.1 h) (λ h. barred_row c m group are.3 h) b

-- an operator of the row's own group is not barred
pub not_barred : (o : BinaryOperator) (m : Members) (group : Group) → AreOf m group → group_of o ≡ group → IsBarredAfter (WithOperator o) m → ⊥
not_barred o end group are own b = b
not_barred o (more x p e m) group are own b = elim (at_end m (Bars (group_of x) (WithOperator o) ⊎ IsBarred (WithOperator o) e) (IsBarredAfter (WithOperator o) m) b) [
  | inl h ↦ elim h [
    | inl k ↦ k.1 (own ∙ sym are.0)
    | inr k ↦
        let r = barred_rank (WithOperator o) e are.1 k in
        let same : rank (level_of (group_of o)) ≡ rank (level_of group) = ap (λ (g : Group). rank (level_of g)) own in
        let tight = are.2 in
        absurd (omega arith)
  ]
  | inr h ↦ not_barred o m group are.3 own h
]

-- the rank of what has operators between its operands
pub operations_rank : (first : Expr) (m : Members) → IsExpr (Operations first m) → rank_of (Operations first m) < 6
operations_rank first m is = let l = low_group is.0 in let same = rank_begins is.0 m is.1 in omega arith

-- nothing is barred by an operand that no type follows
pub tight_bars_none : (c : Continuation) (e : Expr) → IsExpr e → 7 ≤ rank_of e → IsBarred c e → ⊥
tight_bars_none c (Operations first m) is t b = let l = operations_rank first m is in omega arith
tight_bars_none c (Leading m) is t b = omega arith
tight_bars_none c (Cast operand all) is t b = omega arith
tight_bars_none c _ is t b = b

-- of two operands that no type follows, both end or none does
pub tight_ends : (n : ℕ) (e other : Expr) (tokens : List Token) → IsExpr e → 7 ≤ rank_of e → Ends n e tokens → Ends n other tokens
tight_ends n e other tokens is t h = record { stops = λ c k l. absurd (tight_bars_none c e is t (h.stops c k l)) }

-- ---- signs before an operand

pub unary_sound : (kind : Kind) (o : UnaryOperator) → unary_by kind ≡ Some o → kind ≡ kinds.Sign (unary_sign_of o)
unary_sound (kinds.Sign signs.Minus) o e = ap (λ (x : UnaryOperator). kinds.Sign (unary_sign_of x)) (some_is unary.Negate o e)
unary_sound (kinds.Sign signs.Not) o e = ap (λ (x : UnaryOperator). kinds.Sign (unary_sign_of x)) (some_is unary.Not o e)
unary_sound _ o e = absurd (differ o e)

pub unary_complete : (o : UnaryOperator) → unary_by (kinds.Sign (unary_sign_of o)) ≡ Some o
unary_complete unary.Negate = refl
unary_complete unary.Not = refl

abbrev Signed : Type 0
Signed = Option (UnaryOperator × Pos) × List Token

unary_there : (k : Option UnaryOperator) (t : Token) (tokens : List Token) (o : UnaryOperator) (p : Pos) (rest : List Token) → unary_by t.kind ≡ k → if_unary k t tokens ≡ (Some (o, p), rest) → Begins (sign_there (unary_sign_of o) p ∷ []) (t ∷ tokens) rest
unary_there None t tokens o p rest h e = absurd (differ (pair o p) (ap (λ (z : Signed). z.0) e))
unary_there (Some x) t tokens o p rest h e =
    let same = unwrapped (pair x t.pos) (pair o p) (ap (λ (z : Signed). z.0) e) in
    ((unary_sound t.kind x h ∙ ap (λ (z : UnaryOperator × Pos). kinds.Sign (unary_sign_of z.0)) same, ap (λ (z : UnaryOperator × Pos). z.1) same), ap (λ (z : Signed). z.1) e)

pub optional_unary_sound : (tokens : List Token) (o : UnaryOperator) (p : Pos) (rest : List Token) → optional_unary tokens ≡ (Some (o, p), rest) → Begins (sign_there (unary_sign_of o) p ∷ []) tokens rest
unfolding optional_unary
optional_unary_sound [] o p rest e = absurd (differ (pair o p) (ap (λ (z : Signed). z.0) e))
optional_unary_sound (t ∷ tokens) o p rest e = unary_there (unary_by t.kind) t tokens o p rest refl e

no_unary_by : (k : Option UnaryOperator) (t : Token) (tokens rest : List Token) → if_unary k t tokens ≡ (None, rest) → t ∷ tokens ≡ rest
no_unary_by None t tokens rest e = ap (λ (z : Signed). z.1) e
no_unary_by (Some x) t tokens rest e = absurd (differ (pair x t.pos) (sym (ap (λ (z : Signed). z.0) e)))

pub optional_unary_none : (tokens rest : List Token) → optional_unary tokens ≡ (None, rest) → tokens ≡ rest
unfolding optional_unary
optional_unary_none [] rest e = ap (λ (z : Signed). z.1) e
optional_unary_none (t ∷ tokens) rest e = no_unary_by (unary_by t.kind) t tokens rest e

pub optional_unary_complete : (o : UnaryOperator) (p : Pos) (tokens rest : List Token) → Begins (sign_there (unary_sign_of o) p ∷ []) tokens rest → optional_unary tokens ≡ (Some (o, p), rest)
unfolding optional_unary
optional_unary_complete o p [] rest b = absurd b
optional_unary_complete o p (t ∷ tokens) rest b =
    ap (λ (k : Option UnaryOperator). if_unary k t tokens) (ap unary_by b.0.0 ∙ unary_complete o)
    ∙ ap (λ (q : Pos). pair (found (pair o q)) tokens) b.0.1
    ∙ ap (λ (ts : List Token). pair (found (pair o p)) ts) b.1

pub optional_unary_stays : (kind : Kind) (tokens : List Token) → kind_at tokens ≡ Some kind → unary_by kind ≡ None → optional_unary tokens ≡ (None, tokens)
unfolding optional_unary
optional_unary_stays kind [] k h = absurd (differ kind k)
optional_unary_stays kind (t ∷ tokens) k h = ap (λ (x : Option UnaryOperator). if_unary x t tokens) (ap unary_by (some_is t.kind kind k) ∙ h)

-- ---- levels and groups

pub level_true : (a b : Level) → same_level a b ≡ true → a ≡ b
level_true a b e = same_true declared_level.the_type tt a b e

pub level_is : (a b : Level) → a ≡ b → same_level a b ≡ true
level_is a b e = true_same declared_level.the_type a b e

pub group_true : (a b : Group) → same_group a b ≡ true → a ≡ b
group_true a b e = same_true declared_group.the_type tt a b e

pub group_is : (a b : Group) → a ≡ b → same_group a b ≡ true
group_is a b e = true_same declared_group.the_type a b e

of_level : (b : Bool) (o x : BinaryOperator) → cond b (found o) None ≡ Some x → (b ≡ true) × (o ≡ x)
of_level true o x e = (refl, some_is o x e)
of_level false o x e = absurd (differ x e)

in_by : (level : Level) (o : Option BinaryOperator) (x : BinaryOperator) → if_of_level level o ≡ Some x → (o ≡ Some x) × (level_of (group_of x) ≡ level)
in_by level None x e = absurd (differ x e)
in_by level (Some o) x e =
    let p = of_level (same_level (level_of (group_of o)) level) o x e in
    (ap found p.1, ap (λ (y : BinaryOperator). level_of (group_of y)) (sym p.1) ∙ level_true (level_of (group_of o)) level p.0)

pub in_sound : (level : Level) (tokens : List Token) (o : BinaryOperator) → operator_in level tokens ≡ Some o → (operator_at tokens ≡ Some o) × (level_of (group_of o) ≡ level)
unfolding operator_in
in_sound level tokens o e = in_by level (operator_at tokens) o e

pub in_complete : (level : Level) (tokens : List Token) (o : BinaryOperator) → operator_at tokens ≡ Some o → level_of (group_of o) ≡ level → operator_in level tokens ≡ Some o
unfolding operator_in
in_complete level tokens o e h = ap (if_of_level level) e ∙ ap (λ (b : Bool). cond b (found o) None) (level_is (level_of (group_of o)) level h)

not_level : (level : Level) (o : BinaryOperator) → (same_level (level_of (group_of o)) level ≡ true → ⊥) → cond (same_level (level_of (group_of o)) level) (found o) None ≡ None
not_level level o h = rest_false (same_level (level_of (group_of o)) level) o h
  where
    rest_false : (b : Bool) (o : BinaryOperator) → (b ≡ true → ⊥) → cond b (found o) None ≡ None
    rest_false true o h = absurd (h refl)
    rest_false false o h = refl

none_in_by : (level : Level) (o : Option BinaryOperator) → ((x : BinaryOperator) → o ≡ Some x → level_of (group_of x) ≡ level → ⊥) → if_of_level level o ≡ None
none_in_by level None h = refl
none_in_by level (Some o) h = not_level level o (λ e. h o refl (level_true (level_of (group_of o)) level e))

pub none_in : (level : Level) (tokens : List Token) → ((x : BinaryOperator) → operator_at tokens ≡ Some x → level_of (group_of x) ≡ level → ⊥) → operator_in level tokens ≡ None
unfolding operator_in
none_in level tokens h = none_in_by level (operator_at tokens) h

-- ---- an operator of a group

abbrev Taken : Type 0
Taken = Option (BinaryOperator × Pos) × List Token

taken : (b : Bool) (o x : BinaryOperator) (p q : Pos) (here rest after : List Token) → cond b (pair (found (pair o p)) rest) (pair None here) ≡ pair (found (pair x q)) after → (b ≡ true) × (o ≡ x) × (p ≡ q) × (rest ≡ after)
taken true o x p q here rest after e =
    let h = unwrapped (pair o p) (pair x q) (ap (λ (z : Taken). z.0) e) in
    (refl, ap (λ (z : BinaryOperator × Pos). z.0) h, ap (λ (z : BinaryOperator × Pos). z.1) h, ap (λ (z : Taken). z.1) e)
taken false o x p q here rest after e = absurd (differ (pair x q) (ap (λ (z : Taken). z.0) e))

left : (b : Bool) (o : BinaryOperator) (p : Pos) (here rest after : List Token) → cond b (pair (found (pair o p)) rest) (pair None here) ≡ pair None after → here ≡ after
left true o p here rest after e = absurd (differ (pair o p) (sym (ap (λ (z : Taken). z.0) e)))
left false o p here rest after e = ap (λ (z : Taken). z.1) e

group_by : (group : Group) (k : Option BinaryOperator) (t : Token) (tokens : List Token) (o : BinaryOperator) (p : Pos) (rest : List Token) → operator_by t.kind ≡ k
    → if_of_group group k t tokens ≡ (Some (o, p), rest) → (group_of o ≡ group) × Begins (sign_there (sign_of o) p ∷ []) (t ∷ tokens) rest
group_by group None t tokens o p rest k e = absurd (differ (pair o p) (ap (λ (z : Taken). z.0) e))
group_by group (Some x) t tokens o p rest k e =
    let h = taken (same_group (group_of x) group) x o t.pos p (t ∷ tokens) tokens rest e in
    (ap group_of (sym h.1) ∙ group_true (group_of x) group h.0, ((by_sound t.kind x k ∙ ap (λ (y : BinaryOperator). kinds.Sign (sign_of y)) h.1, h.2), h.3))

pub optional_sound : (group : Group) (tokens : List Token) (o : BinaryOperator) (p : Pos) (rest : List Token) → optional_operator group tokens ≡ (Some (o, p), rest)
    → (group_of o ≡ group) × Begins (sign_there (sign_of o) p ∷ []) tokens rest
unfolding optional_operator
optional_sound group [] o p rest e = absurd (differ (pair o p) (ap (λ (z : Taken). z.0) e))
optional_sound group (t ∷ tokens) o p rest e = group_by group (operator_by t.kind) t tokens o p rest refl e

none_group_by : (group : Group) (k : Option BinaryOperator) (t : Token) (tokens rest : List Token) → if_of_group group k t tokens ≡ (None, rest) → t ∷ tokens ≡ rest
none_group_by group None t tokens rest e = ap (λ (z : Taken). z.1) e
none_group_by group (Some x) t tokens rest e = left (same_group (group_of x) group) x t.pos (t ∷ tokens) tokens rest e

pub optional_none : (group : Group) (tokens rest : List Token) → optional_operator group tokens ≡ (None, rest) → tokens ≡ rest
unfolding optional_operator
optional_none group [] rest e = ap (λ (z : Taken). z.1) e
optional_none group (t ∷ tokens) rest e = none_group_by group (operator_by t.kind) t tokens rest e

pub optional_complete : (group : Group) (o : BinaryOperator) (p : Pos) (tokens rest : List Token) → group_of o ≡ group → Begins (sign_there (sign_of o) p ∷ []) tokens rest
    → optional_operator group tokens ≡ (Some (o, p), rest)
unfolding optional_operator
optional_complete group o p [] rest h b = absurd b
optional_complete group o p (t ∷ tokens) rest h b =
    ap (λ (k : Option BinaryOperator). if_of_group group k t tokens) (by_complete t.kind o b.0.0)
    ∙ ap (λ (c : Bool). cond c (pair (found (pair o t.pos)) tokens) (pair None (t ∷ tokens))) (group_is (group_of o) group h)
    ∙ ap (λ (q : Pos). pair (found (pair o q)) tokens) b.0.1
    ∙ ap (λ (ts : List Token). pair (found (pair o p)) ts) b.1

stays : (b : Bool) (o : BinaryOperator) (p : Pos) (here rest : List Token) → (b ≡ true → ⊥) → cond b (pair (found (pair o p)) rest) (pair None here) ≡ pair None here
stays true o p here rest h = absurd (h refl)
stays false o p here rest h = refl

none_here : (group : Group) (k : Option BinaryOperator) (t : Token) (tokens : List Token) → ((x : BinaryOperator) → k ≡ Some x → group_of x ≡ group → ⊥) → if_of_group group k t tokens ≡ (None, t ∷ tokens)
none_here group None t tokens h = refl
none_here group (Some x) t tokens h = stays (same_group (group_of x) group) x t.pos (t ∷ tokens) tokens (λ e. h x refl (group_true (group_of x) group e))

pub optional_stays : (group : Group) (tokens : List Token) → ((x : BinaryOperator) → operator_at tokens ≡ Some x → group_of x ≡ group → ⊥) → optional_operator group tokens ≡ (None, tokens)
unfolding optional_operator operator_at
optional_stays group [] h = refl
optional_stays group (t ∷ tokens) h = none_here group (operator_by t.kind) t tokens h
