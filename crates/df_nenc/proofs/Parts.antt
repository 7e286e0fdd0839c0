-- Parts of a well-typed expression are well typed, and their terms have the sorts that are asked for.
use Rattle.df_nenc.proofs.Words.{◌≡◌, ℕ, zero, suc, Bool, true, false, ◌&&◌, List, [], ◌∷◌, slice_get, Option, None, Some, refl, sym, ap, ◌∙◌, option_map_or, same_Some, Pos, Ty, Expr, Local, Negate, Not, Sum, Product, Chain, As, Convert, Addends, Factors, Members, Links, Program, same_type, is_arithmetic, casts, converts, is_expr, are_addends, are_factors, are_members, are_links, Node, both, three, four, Sort, Numbers, Truths, Term, sort_of_type, term_of, integer_sort, arithmetic_integer, tree_at, trees_in, Grows, HasTerm, AreLocals, counts_as_number, IsOver, AreAddendsOver, AreFactorsOver, AreMembersOver, AreLinksOver}
use Rattle.df_lang.specs.declared.ty.Ty.TheVariants as types
use Rattle.df_nenc.proofs.Growing.{locals_stay}
use Rattle.df_nenc.proofs.Typed.{Is, AreSorted, term_is}

-- ---- locals

pub local_tree : (nodes : List Node) (terms : List ℕ) (local n : ℕ) → slice_get terms local ≡ Some n → trees_in nodes terms local ≡ tree_at nodes n
local_tree nodes [] local n e = absurd cc
local_tree nodes (m ∷ terms) zero n e = ap (tree_at nodes) (same_Some m n e)
local_tree nodes (m ∷ terms) (suc k) n e = local_tree nodes terms k n e

pub env_sorted : (nodes : List Node) (locals : List Ty) (terms : List ℕ) → AreLocals nodes locals terms → AreSorted locals (trees_in nodes terms)
env_sorted nodes locals terms all = record { sorted = λ local ty e. let t = all.sorted local ty e in let is = local_tree nodes terms local t.number t.at in of_tree (sort_of_type ty) _ _ is t.is_term.sort_is }
  where
    of_tree : (sort : Sort) (a b : Term) → a ≡ b → Is sort b → Is sort a
    of_tree sort a b e is = rw e is

pub there : (nodes : List Node) (locals : List Ty) (terms : List ℕ) (local : ℕ) → AreLocals nodes locals terms → (test : Ty → Bool) (o : Option Ty) → slice_get locals local ≡ o → option_map_or test o false ≡ true → (ty : Ty) × HasTerm (sort_of_type ty) nodes terms local
there nodes locals terms local all test None at e = absurd cc
there nodes locals terms local all test (Some ty) at e = (ty, all.sorted local ty at)

-- ---- parts

pub record Part (sort : Sort) (nodes : List Node) (terms : List ℕ) (e : Expr) : Type 0 where
  pub over : IsOver nodes terms e
  pub is : Is sort (term_of (trees_in nodes terms) e)

pub part : (p : Program) (locals : List Ty) (ty : Ty) (sort : Sort) (nodes : List Node) (terms : List ℕ) (e : Expr) → is_expr p locals ty e ≡ true → sort_of_type ty ≡ sort → AreLocals nodes locals terms → Part sort nodes terms e
part p locals ty sort nodes terms e typed is all = record {
  over = record { program = p; types = locals; ty = ty; typed = typed; locals = all };
  is = term_is p locals (trees_in nodes terms) (env_sorted nodes locals terms all) e ty typed ∙ is;
}

pub over_stays : (before now : List Node) (terms : List ℕ) (e : Expr) → Grows before now → IsOver before terms e → IsOver now terms e
over_stays before now terms e g h = record { program = h.program; types = h.types; ty = h.ty; typed = h.typed; locals = locals_stay before now h.types terms g h.locals }

module _ (nodes : List Node) (terms : List ℕ) where
  pub local_term : (local name : ℕ) (at : Pos) → IsOver nodes terms (Local local name at) → (ty : Ty) × HasTerm (sort_of_type ty) nodes terms local
  local_term local name at h = there nodes h.types terms local h.locals (same_type h.ty) (slice_get h.types local) refl h.typed

  pub negate_part : (own : Ty) (at : Pos) (e : Expr) → IsOver nodes terms (Negate own at e) → Part Numbers nodes terms e
  negate_part own at e h =
      let is = three (same_type own h.ty) (is_arithmetic h.program h.ty) (is_expr h.program h.types h.ty e) h.typed in
      part h.program h.types h.ty Numbers nodes terms e is.2 (integer_sort h.program h.ty (arithmetic_integer h.program h.ty is.1)) h.locals

  pub not_part : (at : Pos) (e : Expr) → IsOver nodes terms (Not at e) → Part Truths nodes terms e
  not_part at e h = part h.program h.types types.Bool Truths nodes terms e (both (same_type h.ty types.Bool) (is_expr h.program h.types types.Bool e) h.typed).1 refl h.locals

  pub sum_parts : (own : Ty) (first : Expr) (rest : Addends) → IsOver nodes terms (Sum own first rest) → (Part Numbers nodes terms first) × (AreAddendsOver nodes terms rest)
  sum_parts own first rest h =
      let is = four (same_type own h.ty) (is_arithmetic h.program h.ty) (is_expr h.program h.types h.ty first) (are_addends h.program h.types h.ty rest) h.typed in
      (part h.program h.types h.ty Numbers nodes terms first is.2 (integer_sort h.program h.ty (arithmetic_integer h.program h.ty is.1)) h.locals, record { program = h.program; types = h.types; ty = h.ty; arithmetic = is.1; typed = is.3; locals = h.locals })

  pub product_parts : (own : Ty) (first : Expr) (rest : Factors) → IsOver nodes terms (Product own first rest) → (Part Numbers nodes terms first) × (AreFactorsOver nodes terms rest)
  product_parts own first rest h =
      let is = four (same_type own h.ty) (is_arithmetic h.program h.ty) (is_expr h.program h.types h.ty first) (are_factors h.program h.types h.ty rest) h.typed in
      (part h.program h.types h.ty Numbers nodes terms first is.2 (integer_sort h.program h.ty (arithmetic_integer h.program h.ty is.1)) h.locals, record { program = h.program; types = h.types; ty = h.ty; arithmetic = is.1; typed = is.3; locals = h.locals })

  -- a level of members: it is a truth, and so is each of them
  abbrev IsLevel : Expr → Expr → Members → Type 0
  IsLevel whole first rest = (p : Program) (locals : List Ty) (ty : Ty) → is_expr p locals ty whole ≡ (same_type ty types.Bool && is_expr p locals types.Bool first && are_members p locals rest)

  pub level_parts : (whole first : Expr) (rest : Members) → IsOver nodes terms whole → IsLevel whole first rest → (Part Truths nodes terms first) × (AreMembersOver nodes terms rest)
  level_parts whole first rest h level =
      let is = three (same_type h.ty types.Bool) (is_expr h.program h.types types.Bool first) (are_members h.program h.types rest) (sym (level h.program h.types h.ty) ∙ h.typed) in
      (part h.program h.types types.Bool Truths nodes terms first is.1 refl h.locals, record { program = h.program; types = h.types; typed = is.2; locals = h.locals })

  pub chain_parts : (own : Ty) (first : Expr) (rest : Links) → IsOver nodes terms (Chain own first rest) → (Part (sort_of_type own) nodes terms first) × (AreLinksOver nodes terms own rest)
  chain_parts own first rest h =
      let is = three (same_type h.ty types.Bool) (is_expr h.program h.types own first) (are_links h.program h.types own rest) h.typed in
      (part h.program h.types own (sort_of_type own) nodes terms first is.1 refl h.locals, record { program = h.program; types = h.types; typed = is.2; locals = h.locals })

  pub as_part : (source target : Ty) (at : Pos) (e : Expr) → IsOver nodes terms (As source target at e) → Part (sort_of_type source) nodes terms e
  as_part source target at e h =
      let is = three (same_type target h.ty) (casts h.program source target) (is_expr h.program h.types source e) h.typed in
      part h.program h.types source (sort_of_type source) nodes terms e is.2 refl h.locals

  pub as_counts : (source target : Ty) (at : Pos) (e : Expr) → IsOver nodes terms (As source target at e) → counts_as_number source ≡ true
  as_counts source target at e h = counts h.program source target (three (same_type target h.ty) (casts h.program source target) (is_expr h.program h.types source e) h.typed).1
    where
      counts : (p : Program) (source target : Ty) → casts p source target ≡ true → counts_as_number source ≡ true
      counts p types.Bool (types.Newtype id) c = cc
      counts p types.Bool target c = cc
      counts p source target c = refl

  pub convert_part : (source target : Ty) (at : Pos) (e : Expr) → IsOver nodes terms (Convert source target at e) → Part (sort_of_type source) nodes terms e
  convert_part source target at e h =
      let is = three (same_type target h.ty) (converts source target) (is_expr h.program h.types source e) h.typed in
      part h.program h.types source (sort_of_type source) nodes terms e is.2 refl h.locals
