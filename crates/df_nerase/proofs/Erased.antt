-- Siblings without ghosts, one by one.
use Rattle.std.proofs.Common.{◌≡◌, ℕ, zero, suc, ◌≤◌, ◌<◌, ◌+◌, List, [], ◌∷◌, ◌++◌, map, length, take, get_or, Option, Some, None, refl, sym, ap, ◌∙◌, arith}
use Rattle.std.proofs.lemmas.List.{take_all, take_more, map-append, append-nil}
use Rattle.std.proofs.lemmas.List.Elements.{filter_map-append}
use Rattle.std.specs.List.{filter_map, cons_option}
use Rattle.std.specs.Prelude.{option_map}
use Rattle.df_lang.specs.ExprView as source
use Rattle.df_lang.specs.StmtView as source_stmt
use Rattle.df_lang.specs.Stmt.{Stmt}
use Rattle.df_lang.specs.Program.{Decl, NewtypeDecl, MethodDecl, Program, as_method}
use Rattle.df_nplain.specs.Expr as plain
use Rattle.df_nplain.specs.ExprView as plain_view
use Rattle.df_nplain.specs.Stmt as plain_stmt
use Rattle.df_nplain.specs.StmtView as plain_stmt_view
use Rattle.df_nplain.specs.Plain as plain_program
use Rattle.df_nerase.specs.Erasing.{methods_among, erase_expr, erase_addends, erase_factors, erase_members, erase_links, erase_stmt, erase_stmts, erase_branches, kept, erase_method}
use Rattle.df_nerase.specs.mirror.Numbers.{numbers_from}

-- ---- parts

abbrev pub erase_addend : Program → source.Addend → plain_view.Addend
erase_addend p x = record { operator = x.operator; operand = erase_expr p x.operand }

abbrev pub erase_factor : Program → source.Factor → plain_view.Factor
erase_factor p x = record { operator = x.operator; operand = erase_expr p x.operand }

abbrev pub erase_member : Program → source.Member → plain.Expr
erase_member p x = erase_expr p x.operand

abbrev pub erase_link : Program → source.Link → plain_view.Link
erase_link p x = record { comparison = x.comparison; operand = erase_expr p x.operand }

abbrev pub erase_branch : Program → source_stmt.Branch → plain_stmt_view.Branch
erase_branch p x = record { guard = erase_expr p x.guard; body = erase_stmts p x.body }

abbrev pub erase_decl : Program → Decl → Option plain_program.Method
erase_decl p decl = option_map (erase_method p) (as_method decl)

addends_erased : (p : Program) (xs : List source.Addend) → plain_view.addends_of (map (erase_addend p) xs) ≡ erase_addends p (source.addends_of xs)
addends_erased p [] = refl
addends_erased p (x ∷ xs) = ap (λ m. plain.addend x.operator (erase_expr p x.operand) m) (addends_erased p xs)

factors_erased : (p : Program) (xs : List source.Factor) → plain_view.factors_of (map (erase_factor p) xs) ≡ erase_factors p (source.factors_of xs)
factors_erased p [] = refl
factors_erased p (x ∷ xs) = ap (λ m. plain.factor x.operator (erase_expr p x.operand) m) (factors_erased p xs)

members_erased : (p : Program) (xs : List source.Member) → plain_view.members_of (map (erase_member p) xs) ≡ erase_members p (source.members_of xs)
members_erased p [] = refl
members_erased p (x ∷ xs) = ap (λ m. plain.member (erase_expr p x.operand) m) (members_erased p xs)

links_erased : (p : Program) (xs : List source.Link) → plain_view.links_of (map (erase_link p) xs) ≡ erase_links p (source.links_of xs)
links_erased p [] = refl
links_erased p (x ∷ xs) = ap (λ m. plain.link x.comparison (erase_expr p x.operand) m) (links_erased p xs)

branches_erased : (p : Program) (xs : List source_stmt.Branch) → plain_stmt_view.branches_of (map (erase_branch p) xs) ≡ erase_branches p (source_stmt.branches_of xs)
branches_erased p [] = refl
branches_erased p (x ∷ xs) = ap (λ m. plain_stmt.branch (erase_expr p x.guard) (erase_stmts p x.body) m) (branches_erased p xs)

kept_first : (o : Option plain_stmt.Stmt) (xs : List plain_stmt.Stmt) → plain_stmt_view.stmts_of (cons_option o xs) ≡ kept o (plain_stmt_view.stmts_of xs)
kept_first None xs = refl
kept_first (Some s) xs = refl

stmts_erased : (p : Program) (xs : List Stmt) → plain_stmt_view.stmts_of (filter_map (erase_stmt p) xs) ≡ erase_stmts p (source_stmt.stmts_of xs)
stmts_erased p [] = refl
stmts_erased p (x ∷ xs) = kept_first (erase_stmt p x) (filter_map (erase_stmt p) xs) ∙ ap (λ m. kept (erase_stmt p x) m) (stmts_erased p xs)

decls_erased : (p : Program) (xs : List Decl) → filter_map (erase_decl p) xs ≡ map (erase_method p) (methods_among xs)
decls_erased p [] = refl
decls_erased p (NewtypeDecl newtype ∷ xs) = decls_erased p xs
decls_erased p (MethodDecl method ∷ xs) = ap (λ m. erase_method p method ∷ m) (decls_erased p xs)

-- ---- a loop is done with all of them

-- the view of what is made, and what is made of all
all_of : {A B C : Type 0} (view : A → B) (xs : List A) (k : ℕ) (f : List B → C) → length xs ≤ k → f (map view (take k xs)) ≡ f (map view xs)
all_of view xs k f past = ap (λ (ys : List _). f (map view ys)) (take_all k xs past)

pub all_addends : {A : Type 0} (view : A → source.Addend) (p : Program) (xs : List A) (k : ℕ) (made : List plain_view.Addend) → made ≡ map (erase_addend p) (map view (take k xs)) → length xs ≤ k
    → plain_view.addends_of made ≡ erase_addends p (source.addends_of (map view xs))
all_addends view p xs k made e past = ap plain_view.addends_of e ∙ addends_erased p (map view (take k xs)) ∙ all_of view xs k (λ ys. erase_addends p (source.addends_of ys)) past

pub all_factors : {A : Type 0} (view : A → source.Factor) (p : Program) (xs : List A) (k : ℕ) (made : List plain_view.Factor) → made ≡ map (erase_factor p) (map view (take k xs)) → length xs ≤ k
    → plain_view.factors_of made ≡ erase_factors p (source.factors_of (map view xs))
all_factors view p xs k made e past = ap plain_view.factors_of e ∙ factors_erased p (map view (take k xs)) ∙ all_of view xs k (λ ys. erase_factors p (source.factors_of ys)) past

pub all_members : {A : Type 0} (view : A → source.Member) (p : Program) (xs : List A) (k : ℕ) (made : List plain.Expr) → made ≡ map (erase_member p) (map view (take k xs)) → length xs ≤ k
    → plain_view.members_of made ≡ erase_members p (source.members_of (map view xs))
all_members view p xs k made e past = ap plain_view.members_of e ∙ members_erased p (map view (take k xs)) ∙ all_of view xs k (λ ys. erase_members p (source.members_of ys)) past

pub all_links : {A : Type 0} (view : A → source.Link) (p : Program) (xs : List A) (k : ℕ) (made : List plain_view.Link) → made ≡ map (erase_link p) (map view (take k xs)) → length xs ≤ k
    → plain_view.links_of made ≡ erase_links p (source.links_of (map view xs))
all_links view p xs k made e past = ap plain_view.links_of e ∙ links_erased p (map view (take k xs)) ∙ all_of view xs k (λ ys. erase_links p (source.links_of ys)) past

pub all_branches : {A : Type 0} (view : A → source_stmt.Branch) (p : Program) (xs : List A) (k : ℕ) (made : List plain_stmt_view.Branch) → made ≡ map (erase_branch p) (map view (take k xs)) → length xs ≤ k
    → plain_stmt_view.branches_of made ≡ erase_branches p (source_stmt.branches_of (map view xs))
all_branches view p xs k made e past = ap plain_stmt_view.branches_of e ∙ branches_erased p (map view (take k xs)) ∙ all_of view xs k (λ ys. erase_branches p (source_stmt.branches_of ys)) past

pub all_stmts : {A : Type 0} (view : A → Stmt) (p : Program) (xs : List A) (k : ℕ) (made : List plain_stmt.Stmt) → made ≡ filter_map (erase_stmt p) (map view (take k xs)) → length xs ≤ k
    → plain_stmt_view.stmts_of made ≡ erase_stmts p (source_stmt.stmts_of (map view xs))
all_stmts view p xs k made e past = ap plain_stmt_view.stmts_of e ∙ stmts_erased p (map view (take k xs)) ∙ all_of view xs k (λ ys. erase_stmts p (source_stmt.stmts_of ys)) past

pub all_methods : {A : Type 0} (view : A → Decl) (p : Program) (xs : List A) (k : ℕ) (made : List plain_program.Method) → made ≡ filter_map (erase_decl p) (map view (take k xs)) → length xs ≤ k
    → made ≡ map (erase_method p) (methods_among (map view xs))
all_methods view p xs k made e past = e ∙ decls_erased p (map view (take k xs)) ∙ all_of view xs k (λ ys. map (erase_method p) (methods_among ys)) past

-- ---- one more, if it is kept

module _ {A B C D : Type 0} (view : A → B) (seen : C → D) (erase : B → Option D) where
  taken_more : (xs : List A) (i : ℕ) (x : A) → i < length xs → x ≡ get_or xs i x
      → filter_map erase (map view (take (i + 1) xs)) ≡ filter_map erase (map view (take i xs)) ++ cons_option (erase (view x)) []
  taken_more xs i x lt is =
      ap (λ (l : List A). filter_map erase (map view l)) (take_more xs i x lt ∙ ap (λ (y : A). take i xs ++ y ∷ []) (sym is))
      ∙ ap (λ (l : List B). filter_map erase l) (map-append view (take i xs) (x ∷ []))
      ∙ filter_map-append erase (map view (take i xs)) (view x ∷ [])

  map_option : (o : Option C) → map seen (cons_option o []) ≡ cons_option (option_map seen o) []
  map_option None = refl
  map_option (Some s) = refl

  map_kept : (made : List C) (o : Option C) → map seen (made ++ cons_option o []) ≡ map seen made ++ cons_option (option_map seen o) []
  map_kept made o = map-append seen made (cons_option o []) ∙ ap (λ (l : List D). map seen made ++ l) (map_option o)

  pub one_erased : (xs : List A) (i : ℕ) (x : A) (made new : List C) (o : Option C) → i < length xs → x ≡ get_or xs i x
      → option_map seen o ≡ erase (view x) → new ≡ made ++ cons_option o [] → map seen made ≡ filter_map erase (map view (take i xs))
      → map seen new ≡ filter_map erase (map view (take (i + 1) xs))
  one_erased xs i x made new o lt is e f so_far =
      ap (λ (l : List C). map seen l) f
      ∙ map_kept made o
      ∙ ap (λ (l : List D). l ++ cons_option (option_map seen o) []) so_far
      ∙ ap (λ (p : Option D). filter_map erase (map view (take i xs)) ++ cons_option p []) e
      ∙ sym (taken_more xs i x lt is)

-- nothing more
pub none_more : {C : Type 0} (made new : List C) (o : Option C) → o ≡ None → new ≡ made → new ≡ made ++ cons_option o []
none_more made new o none e = e ∙ sym (append-nil made) ∙ ap (λ (p : Option _). made ++ cons_option p []) (sym none)

-- ---- numbers

numbers_length : (count : ℕ) (ds : List Decl) → length (numbers_from count ds) ≡ length ds
numbers_length count [] = refl
numbers_length count (NewtypeDecl x ∷ ds) = ap suc (numbers_length count ds)
numbers_length count (MethodDecl x ∷ ds) = ap suc (numbers_length (suc count) ds)

counted : (count : ℕ) (ds : List Decl) (id n : ℕ) → id < length ds → n ≡ get_or (numbers_from count ds) id n → n ≡ count + length (methods_among (take id ds))
counted count [] id n lt e = absurd (omega (arith, lt))
counted count (NewtypeDecl x ∷ ds) zero n lt e = let same : n ≡ count = e in omega (arith, same)
counted count (MethodDecl x ∷ ds) zero n lt e = let same : n ≡ count = e in omega (arith, same)
counted count (NewtypeDecl x ∷ ds) (suc id) n lt e = counted count ds id n (omega (arith, lt)) e
counted count (MethodDecl x ∷ ds) (suc id) n lt e = omega (arith, counted (suc count) ds id n (omega (arith, lt)) e)

pub number_there : (ds : List Decl) (id n : ℕ) → id < length (numbers_from 0 ds) → n ≡ get_or (numbers_from 0 ds) id n → n ≡ length (methods_among (take id ds))
number_there ds id n lt e = let short : id < length ds = omega (arith, lt, numbers_length 0 ds) in omega (arith, counted 0 ds id n short e)

pub number_past : (ds : List Decl) (id : ℕ) → length (numbers_from 0 ds) ≤ id → length (methods_among ds) ≡ length (methods_among (take id ds))
number_past ds id past = let long : length ds ≤ id = omega (arith, past, numbers_length 0 ds) in ap (λ (xs : List Decl). length (methods_among xs)) (sym (take_all id ds long))
