-- The entry is found where there is one.
use Rattle.std.proofs.Common.{◌≡◌, ℕ, ◌≤◌, Bool, true, false, ◌&&◌, nat_eq, nat_lt, cond, List, [], ◌∷◌, length, map, get_or, slice_get, position, Option, Some, None, option_map, codes, IfSome, refl, sym, ap, subst, ◌∙◌, arith}
use Rattle.std.specs.List.{position_or_len}
use Rattle.std.specs.Option.{option_and_then}
use Rattle.std.proofs.lemmas.Bool.{eqb-true, and_parts}
use Rattle.std.proofs.lemmas.List.Quantifiers.{position-Some}
use Rattle.std.proofs.lemmas.List.Sums.{fails_before_first}
use Rattle.std.proofs.lemmas.Option.{slice_get-map, slice_get_within, get_or_from_slice_get, slice_get-get_or}
use Rattle.df_base.specs.Names.{same_text}
use Rattle.df_base.proofs.NamesLemmas.{same_text-equal}
use Rattle.df_lang.specs.Program.{Method, Decl, NewtypeDecl, MethodDecl, Program, as_method, method_at}
use Rattle.df_lang.specs.DeclView.{decl_of, program_with}
use Rattle.df_lang.specs.declared.decl.Decl as declared
use Rattle.df_meaning.specs.Correct.{IsEntry}
use Rattle.df_ntop.specs.Entry.{IsEntryAt, HasNoEntry, is_main, declares_main, declares_main_of}

all_four : (a b c d : Bool) → a ≡ true → b ≡ true → c ≡ true → d ≡ true → (a && (b && (c && d))) ≡ true
all_four true true true true p q r s = refl
all_four true true true false p q r s = s
all_four true true false d p q r s = r
all_four true false c d p q r s = q
all_four false b c d p q r s = p

no_items : {A : Type 0} (xs : List A) → nat_eq (length xs) 0 ≡ true → xs ≡ []
no_items [] e = refl
no_items (x ∷ xs) e = absurd (omega (arith, eqb-true (length (x ∷ xs)) 0 e))

no_length : {A : Type 0} (xs : List A) → xs ≡ [] → nat_eq (length xs) 0 ≡ true
no_length xs e = subst (λ (ys : List _). nat_eq (length ys) 0 ≡ true) (sym e) refl

-- what the test finds
is_entry : (program : Program) (n : ℕ) (m : Method) → method_at program n ≡ Some m → is_main m ≡ true → IsEntry program n m
is_entry program n m declared e =
    let named = and_parts (same_text m.declared.text (codes "Main")) _ e in
    let first = and_parts (nat_eq (length m.parameters) 0) _ named.1 in
    let second = and_parts (nat_eq (length m.results) 0) _ first.1 in
    record {
      declared = declared;
      text = same_text-equal m.declared.text (codes "Main") named.0;
      parameters = no_items m.parameters first.0;
      results = no_items m.results second.0;
      preconditions = no_items m.preconditions second.1;
    }

is_found : (program : Program) (n : ℕ) (m : Method) → IsEntry program n m → is_main m ≡ true
is_found program n m entry =
    let named : same_text m.declared.text (codes "Main") ≡ true = subst (λ (text : List ℕ). same_text text (codes "Main") ≡ true) (sym entry.text) refl in
    all_four (same_text m.declared.text (codes "Main")) (nat_eq (length m.parameters) 0) (nat_eq (length m.results) 0) (nat_eq (length m.preconditions) 0)
    named (no_length m.parameters entry.parameters) (no_length m.results entry.results) (no_length m.preconditions entry.preconditions)

entry_at : (program : Program) (n : ℕ) (decl : Decl) → slice_get program.decls n ≡ Some decl → declares_main decl ≡ true → IsEntryAt program n
entry_at program n (NewtypeDecl t) there e = absurd cc
entry_at program n (MethodDecl m) there e = record { method = m; entry = is_entry program n m (ap (option_and_then as_method) there) e }

finds : (ds : List declared.Decl) (n : ℕ) → position declares_main_of ds ≡ Some n → IsEntryAt (program_with ds) n
finds [] n e = absurd cc
finds (d ∷ ds) n e =
    let found = position-Some declares_main_of (d ∷ ds) n d e in
    let x = get_or (d ∷ ds) n d in
    let there : slice_get (map decl_of (d ∷ ds)) n ≡ Some (decl_of x) = slice_get-map decl_of (d ∷ ds) n ∙ rw (slice_get-get_or (d ∷ ds) n d found.0) refl in
    entry_at (program_with (d ∷ ds)) n (decl_of x) there found.1

pub finds_if : (ds : List declared.Decl) (r : Option ℕ) → r ≡ position declares_main_of ds → IfSome r (IsEntryAt (program_with ds))
finds_if ds None e = tt
finds_if ds (Some n) e = finds ds n (sym e)

-- no declaration passes a test that none is found by
none_passes : (p : declared.Decl → Bool) (ds : List declared.Decl) (k : ℕ) (d : declared.Decl) → position p ds ≡ None → slice_get ds k ≡ Some d → p d ≡ false
none_passes p ds k d e at =
    let within = slice_get_within ds k d at in
    let all : length ds ≤ position_or_len p ds = past (nat_lt (position_or_len p ds) (length ds)) refl e in
    subst (λ (x : declared.Decl). p x ≡ false) (get_or_from_slice_get ds k d d at) (fails_before_first p ds k d (omega (arith, all, within)))
  where
    past : (b : Bool) → nat_lt (position_or_len p ds) (length ds) ≡ b → cond b (Some (position_or_len p ds)) None ≡ None → length ds ≤ position_or_len p ds
    past true same none = absurd cc
    past false same none = grind arith

is_none : (d : Decl) (m : Method) → declares_main d ≡ false → as_method d ≡ Some m → is_main m ≡ true → ⊥
is_none (NewtypeDecl t) m fails is passes = cc
is_none (MethodDecl k) m fails is passes = let same : k ≡ m = cc in cc

none_there : (ds : List declared.Decl) (k : ℕ) (o : Option declared.Decl) (m : Method) → position declares_main_of ds ≡ None → slice_get ds k ≡ o → option_and_then as_method (option_map decl_of o) ≡ Some m → is_main m ≡ true → ⊥
none_there ds k None m e same is passes = cc
none_there ds k (Some x) m e same is passes = is_none (decl_of x) m (none_passes declares_main_of ds k x e same) is passes

pub finds_none : (ds : List declared.Decl) → position declares_main_of ds ≡ None → HasNoEntry (program_with ds)
finds_none ds e n m entry =
    none_there ds n (slice_get ds n) m e refl (ap (option_and_then as_method) (sym (slice_get-map decl_of ds n)) ∙ entry.declared) (is_found (program_with ds) n m entry)
