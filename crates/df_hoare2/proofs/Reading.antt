-- Which locals an expression reads, and which functions it calls.
use Rattle.std.proofs.Common.{◌≡◌, ℕ, Bool, true, false, ◌&&◌, List, [], ◌∷◌, ◌++◌, Option, None, Some, refl, ◌∙◌}
use Rattle.std.specs.Option.{is_some, option_map_or}
use Rattle.std.specs.List.{list_all}
use Rattle.std.proofs.lemmas.Bool.{and_parts, and_from}
use Rattle.std.proofs.lemmas.List.Folds.{list_all-append}
use Rattle.df_lemmas.proofs.Lists.{all_parts}
use Rattle.df_types.specs.Ty.{Ty, Boolean, same_type, instance_of}
use Rattle.df_types.specs.Expr.{Expr, Local, Bound, Apply, Junction, Chain, If, Let, Call, Quantify, Old, Exprs, no_expr, expr, Links, no_link, link, Arms, no_arm, arm, Extent, Between, Among}
use Rattle.df_types.specs.Program.{Program, Function, function_at, result_type}
use Rattle.df_types.specs.Types.{is_type, is_ordered, converts}
use Rattle.df_types.specs.Rows.{operands, result, allowed, compares}
use Rattle.df_types.specs.ExprTyping.{Scope, with_type, is_at, parameters_at, signature_of, are_types_for, holds_members, is_expr, are_exprs, are_truths, are_links, are_arms, is_range, are_triggers}
use Rattle.df_types.specs.Gathering.{gather, gather_all, gather_links, gather_arms, gather_extent}
use Rattle.df_types.specs.Calls.{called}

abbrev pub read_by : Expr → List ℕ
read_by (Local local name at) = local ∷ []
read_by (Bound index name at) = []
read_by (Apply op at es) = []
read_by (Junction connective first rest) = []
read_by (Chain ty first rest) = []
read_by (If ty arms otherwise) = []
read_by (Let variable is_ghost value body) = []
read_by (Call callee types at es) = []
read_by (Quantify site at quantifier variable extent triggers body) = []
read_by (Old at e) = []

-- what is called may be, and what is read is there
pub record Fit (may reads : ℕ → Bool) (callees uses : List ℕ) : Type 0 where
  pub calls : list_all may callees ≡ true
  pub locals : list_all reads uses ≡ true

abbrev pub Fits : (ℕ → Bool) → (ℕ → Bool) → Expr → Type 0
Fits may reads e = Fit may reads (gather called e) (gather read_by e)

pub fit_parts : (may reads : ℕ → Bool) (a b c d : List ℕ) → Fit may reads (a ++ b) (c ++ d) → Fit may reads a c × Fit may reads b d
fit_parts may reads a b c d h =
    let calls = all_parts may a b h.calls in
    let locals = all_parts reads c d h.locals in
    (record { calls = calls.0; locals = locals.0 }, record { calls = calls.1; locals = locals.1 })

pub fit_from : (may reads : ℕ → Bool) (a b c d : List ℕ) → Fit may reads a c → Fit may reads b d → Fit may reads (a ++ b) (c ++ d)
fit_from may reads a b c d h k = record {
  calls = list_all-append may a b ∙ and_from (list_all may a) (list_all may b) h.calls k.calls;
  locals = list_all-append reads c d ∙ and_from (list_all reads c) (list_all reads d) h.locals k.locals;
}

-- ---- a well-typed expression reads only what its scope has

abbrev pub is_there : Scope → ℕ → Bool
is_there g n = is_some (g.locals n)

pub at_there : (o : Option Ty) (t : Ty) → is_at o t ≡ true → is_some o ≡ true
at_there None t h = cc
at_there (Some u) t h = refl

all_of : (reads : ℕ → Bool) (xs ys : List ℕ) → list_all reads xs ≡ true → list_all reads ys ≡ true → list_all reads (xs ++ ys) ≡ true
all_of reads xs ys h k = list_all-append reads xs ys ∙ and_from (list_all reads xs) (list_all reads ys) h k

module _ (p : Program) where
  mutual
    pub typed_reads : (e : Expr) (g : Scope) (t : Ty) → is_expr p g t e ≡ true → list_all (is_there g) (gather read_by e) ≡ true
    typed_reads (Local local name at) g t is = and_from (is_there g local) true (at_there (g.locals local) t is) refl
    typed_reads (Bound index name at) g t is = refl
    typed_reads (Apply op at es) g t is =
        let same = and_parts (same_type t (result op)) _ is in
        let known = and_parts (is_type p g.type_parameters t) (allowed p op && are_exprs p g (operands p op) es) same.1 in
        all_typed_read es g (operands p op) (and_parts (allowed p op) (are_exprs p g (operands p op) es) known.1).1
    typed_reads (Junction connective first rest) g t is =
        let are = and_parts (is_expr p g Boolean first) (are_truths p g rest) (and_parts (same_type t Boolean) (is_expr p g Boolean first && are_truths p g rest) is).1 in
        all_of (is_there g) (gather read_by first) (gather_all read_by rest) (typed_reads first g Boolean are.0) (truths_read rest g are.1)
    typed_reads (Chain own first rest) g t is =
        let are = and_parts (is_expr p g own first) (are_links p g own rest) (and_parts (same_type t Boolean) (is_expr p g own first && are_links p g own rest) is).1 in
        all_of (is_there g) (gather read_by first) (gather_links read_by rest) (typed_reads first g own are.0) (links_read rest g own are.1)
    typed_reads (If own arms otherwise) g t is =
        let are = and_parts (are_arms p g t arms) (is_expr p g t otherwise) (and_parts (same_type t own) (are_arms p g t arms && is_expr p g t otherwise) is).1 in
        all_of (is_there g) (gather_arms read_by arms) (gather read_by otherwise) (arms_read arms g t are.0) (typed_reads otherwise g t are.1)
    typed_reads (Let variable is_ghost value body) g t is =
        let are = and_parts (is_expr p g variable.ty value) (is_expr p (with_type g variable.ty) t body) is in
        all_of (is_there g) (gather read_by value) (gather read_by body) (typed_reads value g variable.ty are.0) (typed_reads body (with_type g variable.ty) t are.1)
    typed_reads (Call callee types at es) g t is = by_function (function_at p callee) is (λ ts are. all_typed_read es g ts are)
      where
        by_function : (o : Option Function) → option_map_or (λ (f : Function). same_type t (signature_of f.head types).result && (are_types_for p g f.head types && are_exprs p g (signature_of f.head types).parameters es)) o false ≡ true
            → ((ts : List Ty) → are_exprs p g ts es ≡ true → list_all (is_there g) (gather_all read_by es) ≡ true) → list_all (is_there g) (gather_all read_by es) ≡ true
        by_function None is rest = cc
        by_function (Some f) is rest =
            let same = and_parts (same_type t (instance_of types (result_type f.head.results))) _ is in
            rest (parameters_at f.head types) (and_parts (are_types_for p g f.head types) (are_exprs p g (parameters_at f.head types) es) same.1).1
    typed_reads (Quantify site at quantifier variable extent triggers body) g t is =
        let inner = with_type g variable.ty in
        let same = and_parts (same_type t Boolean) _ is in
        let known = and_parts (is_type p g.type_parameters variable.ty) (is_range p g variable.ty extent && (are_triggers p inner triggers && is_expr p inner Boolean body)) same.1 in
        let are = and_parts (is_range p g variable.ty extent) (are_triggers p inner triggers && is_expr p inner Boolean body) known.1 in
        let others = and_parts (are_triggers p inner triggers) (is_expr p inner Boolean body) are.1 in
        all_of (is_there g) (gather_extent read_by extent) (gather read_by body) (range_reads extent g variable.ty are.0) (typed_reads body inner Boolean others.1)
    typed_reads (Old at e) g t is = typed_reads e g t is

    pub all_typed_read : (es : Exprs) (g : Scope) (ts : List Ty) → are_exprs p g ts es ≡ true → list_all (is_there g) (gather_all read_by es) ≡ true
    all_typed_read no_expr g ts is = refl
    all_typed_read (expr e es) g [] is = cc
    all_typed_read (expr e es) g (t ∷ ts) is =
        let are = and_parts (is_expr p g t e) (are_exprs p g ts es) is in
        all_of (is_there g) (gather read_by e) (gather_all read_by es) (typed_reads e g t are.0) (all_typed_read es g ts are.1)

    truths_read : (es : Exprs) (g : Scope) → are_truths p g es ≡ true → list_all (is_there g) (gather_all read_by es) ≡ true
    truths_read no_expr g is = refl
    truths_read (expr e es) g is =
        let are = and_parts (is_expr p g Boolean e) (are_truths p g es) is in
        all_of (is_there g) (gather read_by e) (gather_all read_by es) (typed_reads e g Boolean are.0) (truths_read es g are.1)

    links_read : (links : Links) (g : Scope) (t : Ty) → are_links p g t links ≡ true → list_all (is_there g) (gather_links read_by links) ≡ true
    links_read no_link g t is = refl
    links_read (link comparison at e rest) g t is =
        let are = and_parts (is_expr p g t e) (are_links p g t rest) (and_parts (compares comparison t) (is_expr p g t e && are_links p g t rest) is).1 in
        all_of (is_there g) (gather read_by e) (gather_links read_by rest) (typed_reads e g t are.0) (links_read rest g t are.1)

    arms_read : (arms : Arms) (g : Scope) (t : Ty) → are_arms p g t arms ≡ true → list_all (is_there g) (gather_arms read_by arms) ≡ true
    arms_read no_arm g t is = refl
    arms_read (arm guard value rest) g t is =
        let are = and_parts (is_expr p g Boolean guard) (is_expr p g t value && are_arms p g t rest) is in
        let others = and_parts (is_expr p g t value) (are_arms p g t rest) are.1 in
        all_of (is_there g) (gather read_by guard) (gather read_by value ++ gather_arms read_by rest) (typed_reads guard g Boolean are.0)
        (all_of (is_there g) (gather read_by value) (gather_arms read_by rest) (typed_reads value g t others.0) (arms_read rest g t others.1))

    range_reads : (extent : Extent) (g : Scope) (t : Ty) → is_range p g t extent ≡ true → list_all (is_there g) (gather_extent read_by extent) ≡ true
    range_reads (Between own low a high b) g t is =
        let known = and_parts (is_ordered own) (converts own t && (is_expr p g own low && is_expr p g own high)) is in
        let are = and_parts (is_expr p g own low) (is_expr p g own high) (and_parts (converts own t) (is_expr p g own low && is_expr p g own high) known.1).1 in
        all_of (is_there g) (gather read_by low) (gather read_by high) (typed_reads low g own are.0) (typed_reads high g own are.1)
    range_reads (Among own e) g t is = typed_reads e g own (and_parts (holds_members own t) (is_expr p g own e) is).1
