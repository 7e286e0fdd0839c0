-- Expressions of each level, and whole ones: what is read is spelled so, and what is spelled so is read.
use Rattle.std.proofs.Common.{◌≡◌, ℕ, zero, suc, ◌≤◌, Bool, true, false, List, [], ◌∷◌, drop, Option, Some, refl, ap, subst, arith}
use Rattle.std.specs.List.{AllByRecursion}
use Rattle.df_tok.specs.Token.{Token}
use Rattle.df_ntree.specs.declared.expr.Level.{Level}
use Rattle.df_ntree.specs.declared.expr.Level.TheVariants as levels
use Rattle.df_ntree.specs.Operator.{rows, rank}
use Rattle.df_ntree.specs.Spelling.{Begins, separated, AreSome}
use Rattle.df_ntree.specs.Expr.{Expr, Number, Character}
use Rattle.df_ntree.specs.ExprSpelling.{spell, IsExpr, height, deepest_of, if_negative, IsEnd, height_limit}
use Rattle.df_ntree.specs.mirror.Reading.{◌>>=◌, Reader}
use Rattle.df_ntree.specs.mirror.ExprReading.{Part, Parts, cast_by, primary_by, expressions_by, operand_by, level_at, expr_at, expression_at, expressions_at}
use Rattle.df_ntree.proofs.Repeat.{bind_some, got, finish, pair, differ}
use Rattle.df_ntree.proofs.Readers.{ReadsAs, made_reads, retold}
use Rattle.df_ntree.proofs.ExprTokens.{NoneContinues, end_ends, ends_end}
use Rattle.df_ntree.proofs.ExprRows.{Exact, AreLinked, rows_exact}
use Rattle.df_ntree.proofs.ExprTight.{cast_exact, unary_exact}
use Rattle.df_ntree.proofs.ExprLists.{IsPart, spell_part, part_reads, IsLow, AreLow, AfterParts, spell_parts, parts_read}
use Rattle.df_ntree.proofs.ExprPrimary.{primary_exact}

-- ---- heights

tall_number : (negative : Bool) → 1 ≤ if_negative negative
tall_number true = omega arith
tall_number false = omega arith

pub tall : (e : Expr) → 1 ≤ height e
tall (Number literal) = tall_number literal.negative
tall (Character code pos) = omega arith
tall _ = omega arith

-- ---- levels

-- readers of what stands inside read each level
abbrev AreExact : ℕ → (Level → Reader Part) → Type 0
AreExact r inner = (level : Level) → Exact r (inner level) (rank level)

operand_exact : (r : ℕ) (inner : Level → Reader Part) → AreExact r inner → Exact (suc r) (operand_by (suc r) inner) 7
operand_exact r inner x = unary_exact r (inner levels.Unary) (primary_by (suc r) (inner levels.Equivalence)) (x levels.Unary) (primary_exact r (inner levels.Equivalence) (x levels.Equivalence))

drop_linked : (n : ℕ) (all : List Level) → AreLinked all → AreLinked (drop n all)
drop_linked zero all h = h
drop_linked (suc n) [] h = tt
drop_linked (suc n) (level ∷ all) h = drop_linked n all h.1

level_exact : (r : ℕ) (inner : Level → Reader Part) → AreExact r inner → (level : Level) → Exact (suc r) (level_at (suc r) inner level) (rank level)
level_exact r inner x levels.Primary = primary_exact r (inner levels.Equivalence) (x levels.Equivalence)
level_exact r inner x levels.Unary = operand_exact r inner x
level_exact r inner x level =
    rows_exact (suc r) (cast_by (suc r) (operand_by (suc r) inner)) (cast_exact (suc r) (operand_by (suc r) inner) (operand_exact r inner x)) (drop (rank level) rows) (drop_linked (rank level) rows (refl, (refl, (refl, (refl, (refl, (refl, tt)))))))

-- an expression of a level and of a height
pub exact : (room : ℕ) (level : Level) → Exact room (expr_at room level) (rank level)
unfolding expr_at
exact zero level = record {
  sound = record { reads = λ tokens x rest e. absurd (differ (pair x rest) e) };
  complete = record { finds = λ e tokens rest b is t low h. let l = tall e in absurd (omega arith) };
}
exact (suc room) level = level_exact room (expr_at room) (exact room) level

-- ---- expressions of a file

-- an expression of at most this height
abbrev pub IsLowExpr : ℕ → Expr → Type 0
IsLowExpr room e = IsExpr e × (height e ≤ room)

pub expression_reads : (room : ℕ) → ReadsAs (expression_at room) spell (IsLowExpr room) NoneContinues
unfolding expression_at
expression_reads room =
    made_reads (λ (x : Part). x.0) (λ (e : Expr). pair e (height e)) (expr_at room levels.Equivalence) spell_part (IsPart 0 room) NoneContinues spell (IsLowExpr room) (part_reads 0 room (expr_at room levels.Equivalence) (exact room levels.Equivalence))
    (λ x tokens rest starts is. (starts, (is.0, subst (λ (h : ℕ). h ≤ room) is.2 is.3)))
    (λ e tokens rest starts is. (starts, (is.0, omega arith, refl, is.1)))
    (λ e is. refl)

pub expressions_read : (room : ℕ) (level : Level) → ReadsAs (expressions_at room level) (separated spell) (AreSome (IsLow (rank level) room)) AfterParts
unfolding expressions_at
expressions_read room level =
    made_reads (λ (y : Parts). y.0) (λ (es : List Expr). pair es (deepest_of height es)) (expressions_by (expr_at room level)) spell_parts (AreLow (rank level) room) AfterParts (separated spell) (AreSome (IsLow (rank level) room)) (parts_read (rank level) room (expr_at room level) (exact room level))
    (λ y tokens rest starts are. (starts, are.0))
    (λ es tokens rest starts are. (starts, (are, refl)))
    (λ es are. refl)

lows_exprs : (room : ℕ) (es : List Expr) → AllByRecursion (IsLow 0 room) es → AllByRecursion (IsLowExpr room) es
lows_exprs room [] are = tt
lows_exprs room (e ∷ es) are = ((are.0.0.0, are.0.1), lows_exprs room es are.1)

exprs_lows : (room : ℕ) (es : List Expr) → AllByRecursion (IsLowExpr room) es → AllByRecursion (IsLow 0 room) es
exprs_lows room [] are = tt
exprs_lows room (e ∷ es) are = (((are.0.0, omega arith), are.0.1), exprs_lows room es are.1)

-- any expressions
pub values_read : (room : ℕ) → ReadsAs (expressions_at room levels.Equivalence) (separated spell) (AreSome (IsLowExpr room)) AfterParts
values_read room =
    retold (expressions_at room levels.Equivalence) (separated spell) (AreSome (IsLow 0 room)) (AreSome (IsLowExpr room)) AfterParts (expressions_read room levels.Equivalence)
    (λ es are. (are.0, lows_exprs room es are.1)) (λ es are. (are.0, exprs_lows room es are.1))

-- ---- whole expressions

pub record IsWhole (e : Expr) (tokens rest : List Token) : Type 0 where
  pub eats : Begins (spell e) tokens rest
  pub is : IsExpr e
  pub low : height e ≤ height_limit
  pub ends : IsEnd e rest

pub expression_sound : (tokens : List Token) (e : Expr) (rest : List Token) → expression_at height_limit tokens ≡ Some (e, rest) → IsWhole e tokens rest
unfolding expression_at
expression_sound tokens e rest q =
    let a = bind_some (expr_at height_limit levels.Equivalence tokens) (λ y. got y.0.0 y.1) (e, rest) q in
    let r = (exact height_limit levels.Equivalence).sound.reads tokens a.0.0 a.0.1 a.1 in
    finish (λ (y : Expr) (ts : List Token). IsWhole y tokens ts) a.0.0.0 e a.0.1 rest a.2
    (record { eats = r.eats; is = r.is; low = subst (λ (n : ℕ). n ≤ height_limit) r.tall r.low; ends = ends_end a.0.0.0 a.0.1 r.ends })

pub expression_complete : (e : Expr) (tokens rest : List Token) → IsWhole e tokens rest → expression_at height_limit tokens ≡ Some (e, rest)
unfolding expression_at
expression_complete e tokens rest w =
    ap (λ (z : Option (Part × List Token)). z >>= λ y. got y.0.0 y.1) ((exact height_limit levels.Equivalence).complete.finds e tokens rest w.eats w.is (omega arith) w.low (end_ends e rest w.ends))
