-- What names mean, one declaration after another.
use Rattle.std.proofs.Common.{◌≡◌, ℕ, suc, ◌+◌, ◌<◌, ◌≤◌, Bool, true, false, ◌||◌, cond, List, [], ◌∷◌, map, length, drop, get_or, Option, Some, None, is_some, refl, sym, ap, ◌∙◌, arith}
use Rattle.std.specs.Prelude.{◌==◌, find, option_map, if◌then◌else◌}
use Rattle.std.proofs.lemmas.List.{drop_all, drop_more}
use Rattle.df_ntree.specs.declared.file.Declaration as declared
use Rattle.df_ntree.specs.File.{Declaration, Newtype, Method, declaration_of}
use Rattle.df_ntyping.specs.Table.{NamedType, NamedMethod, newtype_of, method_of, signature_of, newtypes_from, methods_from}
use Rattle.df_nnames.specs.Globals.{Globals, globals_of, table_from, globals_from, or_else, with_declaration}

-- those of the one, and then of the other
abbrev pub joined : Globals → Globals → Globals
joined one other = record { newtype = λ (name : ℕ). or_else (one.newtype name) (other.newtype name); is_method = λ (name : ℕ). one.is_method name || other.is_method name }

or_else_none : (o : Option ℕ) → or_else o None ≡ o
or_else_none (Some x) = refl
or_else_none None = refl

or_else_assoc : (a b c : Option ℕ) → or_else (or_else a b) c ≡ or_else a (or_else b c)
or_else_assoc (Some x) b c = refl
or_else_assoc None b c = refl

or_assoc : (a b c : Bool) → (a || b) || c ≡ (a || (b || c))
or_assoc true b c = refl
or_assoc false b c = refl

or_false : (a : Bool) → (a || false) ≡ a
or_false true = refl
or_false false = refl

pub joined_none : (one : Globals) → joined one (globals_of (table_from 0 [])) ≡ one
joined_none one = λ i. record { newtype = λ (name : ℕ). or_else_none (one.newtype name) i; is_method = λ (name : ℕ). or_false (one.is_method name) i }

-- ---- the first of some declarations

newtype_first : (added id name : ℕ) (others : List NamedType) → newtype_of (record { name = added; id = id } ∷ others) name ≡ or_else (if added == name then Some id else None) (newtype_of others name)
newtype_first added id name others = by (added == name) where
  by : (b : Bool) → option_map (λ (newtype : NamedType). newtype.id) (cond b (Some (record { name = added; id = id })) (find (λ (newtype : NamedType). newtype.name == name) others)) ≡ or_else (if b then Some id else None) (newtype_of others name)
  by true = refl
  by false = refl

method_first : (added : NamedMethod) (name : ℕ) (others : List NamedMethod) → is_some (method_of (added ∷ others) name) ≡ ((added.name == name) || is_some (method_of others name))
method_first added name others = by (added.name == name) where
  by : (b : Bool) → is_some (cond b (Some added) (find (λ (method : NamedMethod). method.name == name) others)) ≡ (b || is_some (method_of others name))
  by true = refl
  by false = refl

-- the names of methods do not tell of signatures
is_method_from : (newtypes other : List NamedType) (id : ℕ) (all : List Declaration) (name : ℕ) → is_some (method_of (methods_from newtypes id all) name) ≡ is_some (method_of (methods_from other id all) name)
is_method_from newtypes other id [] name = refl
is_method_from newtypes other id (Newtype x ∷ others) name = is_method_from newtypes other (suc id) others name
is_method_from newtypes other id (Method x ∷ others) name =
    method_first _ name (methods_from newtypes (suc id) others) ∙ ap (λ (b : Bool). (x.name.name == name) || b) (is_method_from newtypes other (suc id) others name)
    ∙ sym (method_first _ name (methods_from other (suc id) others))

pub joined_first : (one : Globals) (id : ℕ) (x : Declaration) (others : List Declaration) → joined (with_declaration one id x) (globals_from (suc id) others) ≡ joined one (globals_from id (x ∷ others))
joined_first one id (Newtype x) others = λ i. record {
  newtype = λ (name : ℕ).
      (or_else_assoc (one.newtype name) (if x.name.name == name then Some id else None) (newtype_of (newtypes_from (suc id) others) name)
      ∙ ap (or_else (one.newtype name)) (sym (newtype_first x.name.name id name (newtypes_from (suc id) others)))) i;
  is_method = λ (name : ℕ). ap (λ (b : Bool). one.is_method name || b) (is_method_from (newtypes_from (suc id) others) (newtypes_from id (Newtype x ∷ others)) (suc id) others name) i;
}
joined_first one id (Method x) others = λ i. record {
  newtype = λ (name : ℕ). or_else (one.newtype name) (newtype_of (newtypes_from (suc id) others) name);
  is_method = λ (name : ℕ).
      (or_assoc (one.is_method name) (x.name.name == name) (is_some (method_of (methods_from (newtypes_from (suc id) others) (suc id) others) name))
      ∙ ap (λ (b : Bool). one.is_method name || b) (sym (method_first (record { name = x.name.name; id = id; signature = signature_of (newtypes_from (suc id) others) x }) name (methods_from (newtypes_from (suc id) others) (suc id) others)))) i;
}

-- ---- along a list

pub joined_more : (one next : Globals) (id : ℕ) (x : declared.Declaration) (all : List declared.Declaration) (total : Globals) → id < length all → x ≡ get_or all id x → next ≡ with_declaration one id (declaration_of x)
    → joined one (globals_from id (map declaration_of (drop id all))) ≡ total → joined next (globals_from (id + 1) (map declaration_of (drop (id + 1) all))) ≡ total
joined_more one next id x all total lt is made so_far =
    let others = map declaration_of (drop (id + 1) all) in
    let after : id + 1 ≡ suc id = omega arith in
    let parts : drop id all ≡ x ∷ drop (id + 1) all = drop_more all id x lt ∙ ap (λ (y : declared.Declaration). y ∷ drop (id + 1) all) (sym is) in
    (λ i. joined (made i) (globals_from (after i) others)) ∙ joined_first one id (declaration_of x) others ∙ ap (λ (ds : List declared.Declaration). joined one (globals_from id (map declaration_of ds))) (sym parts) ∙ so_far

pub joined_all : (one : Globals) (id : ℕ) (all : List declared.Declaration) (total : Globals) → length all ≤ id → joined one (globals_from id (map declaration_of (drop id all))) ≡ total → one ≡ total
joined_all one id all total le so_far =
    sym (joined_none one) ∙ ap (λ (ds : List declared.Declaration). joined one (globals_from id (map declaration_of ds))) (sym (drop_all id all le)) ∙ so_far
