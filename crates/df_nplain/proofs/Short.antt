-- Texts of the code's programs are short: a `Vec` has fewer than 2^63 elements.
use Rattle.std.proofs.Common.{◌≡◌, ◌<◌, ◌^◌, ℕ, true, List, [], ◌∷◌, map, length, Vec, refl, ap, subst, ◌∙◌, arith}
use Rattle.std.specs.List.{list_all}
use Rattle.std.specs.declared.alloc.Global.{Global}
use Rattle.std.proofs.lemmas.Bool.{lt-ltb}
use Rattle.df_meaning.proofs.Cases.{joined}
use Rattle.df_nplain.specs.declared.stmt.Operand as declared_operand
use Rattle.df_nplain.specs.declared.stmt.Operand.TheVariants as operands
use Rattle.df_nplain.specs.declared.stmt.Stmt as declared
use Rattle.df_nplain.specs.declared.stmt.Stmt.TheOpen.{Stmt-F, Branch-F}
use Rattle.df_nplain.specs.declared.stmt.Stmt.TheFolds.{map-Stmt, fold-roll-Stmt, fold-roll-Branch, ind-Stmt}
use Rattle.df_nplain.specs.declared.stmt.Branch as declared_branch
use Rattle.df_nplain.specs.declared.plain.Method as declared_method
use Rattle.df_nplain.specs.declared.plain.Plain as declared_plain
use Rattle.df_nplain.specs.Stmt.{Stmt}
use Rattle.df_nplain.specs.Plain.{Method}
use Rattle.df_nplain.specs.StmtView.{operand_of, stmt_of, branch_of, stmts_of, branches_of, Branch, stmt_step, branch_step}
use Rattle.df_nplain.specs.MethodView.{method_of}
use Rattle.df_nplain.specs.View.{plain_of}
use Rattle.df_nplain.specs.Short.{is_short_operand, is_short_stmt, are_short_stmts, are_short_branches, has_short_texts}

vec_short : (v : Vec ℕ Global) → length v.items < 2 ^ 63
vec_short v = omega (arith, v.ok.0, v.ok.1, v.small)

operand_short : (x : declared_operand.Operand) → is_short_operand (operand_of x) ≡ true
operand_short (operands.Text characters) = lt-ltb (length characters.items) (2 ^ 63) (vec_short characters)
operand_short (operands.Value kind value) = refl

operands_short : (xs : List declared_operand.Operand) → list_all is_short_operand (map operand_of xs) ≡ true
operands_short [] = refl
operands_short (x ∷ xs) = joined _ _ (operand_short x) (operands_short xs)

abbrev IsShort : declared.Stmt → Type 0
IsShort s = is_short_stmt (stmt_of s) ≡ true

abbrev IsShortBranch : declared_branch.Branch → Type 0
IsShortBranch b = are_short_stmts (branch_of b).body ≡ true

-- a statement with what is known of it, and a branch
abbrev Known : Type 0
Known = (s : declared.Stmt) × IsShort s

abbrev KnownBranch : Type 0
KnownBranch = (b : declared_branch.Branch) × IsShortBranch b

all_short : (xs : List Known) → are_short_stmts (stmts_of (map stmt_of (map (λ (e : Known). e.0) xs))) ≡ true
all_short [] = refl
all_short (e ∷ xs) = joined _ _ e.1 (all_short xs)

branches_short : (xs : List KnownBranch) → are_short_branches (branches_of (map branch_of (map (λ (e : KnownBranch). e.0) xs))) ≡ true
branches_short [] = refl
branches_short (e ∷ xs) = joined _ _ e.1 (branches_short xs)

-- one layer, over parts of which it is known
abbrev parts : Stmt-F Known KnownBranch → Stmt-F declared.Stmt declared_branch.Branch
parts y = map-Stmt Known KnownBranch declared.Stmt declared_branch.Branch (λ e. e.0) (λ e. e.0) y

abbrev seen : Stmt-F declared.Stmt declared_branch.Branch → Stmt
seen x = stmt_step (map-Stmt declared.Stmt declared_branch.Branch Stmt Branch stmt_of branch_of x)

layer_short : (y : Stmt-F Known KnownBranch) → is_short_stmt (seen (parts y)) ≡ true
layer_short (Stmt-F.Block body) = all_short body.items
layer_short (Stmt-F.Var variables update) = refl
layer_short (Stmt-F.Assign update) = refl
layer_short (Stmt-F.Call call) = refl
layer_short (Stmt-F.If branches otherwise) = joined _ _ (branches_short branches.items) (all_short otherwise.items)
layer_short (Stmt-F.While guard body) = all_short body.items
layer_short Stmt-F.Break = refl
layer_short (Stmt-F.Return update) = refl
layer_short (Stmt-F.Print all) = operands_short all.items

stmt_short : (s : declared.Stmt) → IsShort s
stmt_short =
    ind-Stmt IsShort IsShortBranch
    (λ x y is. ap is_short_stmt (fold-roll-Stmt Stmt Branch stmt_step branch_step x) ∙ subst (λ (z : Stmt-F declared.Stmt declared_branch.Branch). is_short_stmt (seen z) ≡ true) is (layer_short y))
    (λ x y is. ap (λ (b : Branch). are_short_stmts b.body) (fold-roll-Branch Stmt Branch stmt_step branch_step x) ∙ subst (λ (z : Branch-F declared.Stmt declared_branch.Branch). are_short_stmts (stmts_of (map stmt_of z.body.items)) ≡ true) is (all_short y.body.items))

stmts_short : (xs : List declared.Stmt) → are_short_stmts (stmts_of (map stmt_of xs)) ≡ true
stmts_short [] = refl
stmts_short (x ∷ xs) = joined _ _ (stmt_short x) (stmts_short xs)

methods_short : (ms : List declared_method.Method) → list_all (λ (m : Method). are_short_stmts m.body) (map method_of ms) ≡ true
methods_short [] = refl
methods_short (m ∷ ms) = joined _ _ (stmts_short m.body.items) (methods_short ms)

pub texts_are_short : (plain : declared_plain.Plain) → has_short_texts (plain_of plain) ≡ true
texts_are_short plain = methods_short plain.methods.items
