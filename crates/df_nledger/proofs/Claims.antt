-- Clauses of a place, one after another.
use Rattle.df_nledger.proofs.Words.{◌≡◌, ℕ, true, ◌&&◌, List, [], ◌∷◌, ◌++◌, Option, None, Some, refl, sym, ap, ◌∙◌, list_all, unwrap_or, and_parts, append-nil, Pos, Ty, Clause, Program, is_expr, are_clauses, Kind, Node, Term, Truths, term_of, Grows, IsTerm, Stands, AreLocals, trees_in, locals_stay, locals_same, is_term, Part, part, Said, Way, assume, assert, place_at, AreClauses, Ledger, saying}
use Rattle.df_lang.specs.declared.ty.Ty.TheVariants as tys
use Rattle.df_nledger.proofs.Sayings.{say_both}

module _ (nodes : List Node) (terms : List ℕ) where
  first_clause : (clause : Clause) (rest : List Clause) (p : Program) (types : List Ty) → are_clauses p types (clause ∷ rest) ≡ true → (is_expr p types tys.Bool clause.condition ≡ true) × (are_clauses p types rest ≡ true)
  first_clause clause rest p types h = and_parts (is_expr p types tys.Bool clause.condition) (list_all (λ (c : Clause). is_expr p types tys.Bool c.condition) rest) h

  pub clause_part : (clause : Clause) (rest : List Clause) → AreClauses nodes terms (clause ∷ rest) → Part Truths nodes terms clause.condition
  clause_part clause rest h = part h.program h.types tys.Bool Truths nodes terms clause.condition (first_clause clause rest h.program h.types h.typed).0 refl h.locals

  pub clause_first : (clause : Clause) (rest : List Clause) → AreClauses nodes terms (clause ∷ rest) → AreClauses nodes terms (clause ∷ [])
  clause_first clause rest h = record { program = h.program; types = h.types; typed = ap (λ b. b && true) (first_clause clause rest h.program h.types h.typed).0; locals = h.locals }

  pub clauses_rest : (now : List Node) (clause : Clause) (rest : List Clause) → Grows nodes now → AreClauses nodes terms (clause ∷ rest) → AreClauses now terms rest
  clauses_rest now clause rest g h = record { program = h.program; types = h.types; typed = (first_clause clause rest h.program h.types h.typed).1; locals = locals_stay nodes now h.types terms g h.locals }

  abbrev way : List Node → Option Term → Way
  way nodes path = record { env = trees_in nodes terms; path = path }

  -- the place stays where the table grows
  pub way_same : (now : List Node) (types : List Ty) (path before : Option Term) → Grows nodes now → AreLocals nodes types terms → path ≡ before
      → way now path ≡ way nodes before
  way_same now types path before g h e = let env = locals_same nodes now types terms g h in λ i. record { env = env i; path = e i }

  -- a clause's formula
  pub clause_formula : (now : List Node) (clause : Clause) (rest : List Clause) (n : ℕ) → AreClauses nodes terms (clause ∷ rest) → Stands now (term_of (trees_in nodes terms) clause.condition) n → IsTerm Truths now n
  clause_formula now clause rest n h s = is_term now Truths (term_of (trees_in nodes terms) clause.condition) n s (clause_part clause rest h).is

module _ (old middle new : Ledger) (said : List Said) (tree formula : Term) where
  pub clause_owed : (at : Pos) (kind : Kind) → middle ≡ saying said old → new ≡ saying (assert middle.path at kind tree) middle → tree ≡ formula → new ≡ saying ((said ++ assert old.path at kind formula) ++ []) old
  clause_owed at kind first then same =
      let path = ap (λ (l : Ledger). l.path) first in
      then ∙ (λ i. saying (assert (path i) at kind (same i)) (first i)) ∙ say_both said (assert old.path at kind formula) old ∙ ap (λ (s : List Said). saying s old) (sym (append-nil (said ++ assert old.path at kind formula)))

  pub clause_known : middle ≡ saying said old → new ≡ saying (assume middle.path tree) middle → tree ≡ formula → new ≡ saying ((said ++ assume old.path formula) ++ []) old
  clause_known first then same =
      let path = ap (λ (l : Ledger). l.path) first in
      then ∙ (λ i. saying (assume (path i) (same i)) (first i)) ∙ say_both said (assume old.path formula) old ∙ ap (λ (s : List Said). saying s old) (sym (append-nil (said ++ assume old.path formula)))

pub place_same : (place : Option Pos) (clause : Clause) → unwrap_or place clause.pos ≡ place_at place clause
place_same None clause = refl
place_same (Some at) clause = refl
