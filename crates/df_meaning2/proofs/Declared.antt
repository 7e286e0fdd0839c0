-- What a well-typed program declares is well typed.
use Rattle.std.proofs.Common.{◌≡◌, ℕ, zero, suc, Bool, true, List, [], ◌∷◌, slice_get, Option, None, Some, refl, subst}
use Rattle.std.specs.Option.{option_and_then}
use Rattle.std.proofs.lemmas.Bool.{and_parts}
use Rattle.df_types.specs.Program.{Function, Method, Decl, NewtypeDecl, DatatypeDecl, ClassDecl, FunctionDecl, MethodDecl, Program, as_function, as_method, function_at, method_at}
use Rattle.df_types.specs.Sites.{have_sites}
use Rattle.df_types.specs.Typing.{is_function, is_method, is_decl, are_decls, is_program}

-- at some number
record IsDeclared (p : Program) (x : Decl) : Type 0 where
  number : ℕ
  is : is_decl p number x ≡ true

declared_at : (p : Program) (xs : List Decl) (d n : ℕ) (x : Decl) → are_decls p d xs ≡ true → slice_get xs n ≡ Some x → IsDeclared p x
declared_at p [] d n x h e = cc
declared_at p (y ∷ ys) d zero x h e = record { number = d; is = subst (λ o. declared_as o ≡ true) e (and_parts (is_decl p d y) (are_decls p (suc d) ys) h).0 }
  where
    declared_as : Option Decl → Bool
    declared_as None = true
    declared_as (Some z) = is_decl p d z
declared_at p (y ∷ ys) d (suc n) x h e = declared_at p ys (suc d) n x (and_parts (is_decl p d y) (are_decls p (suc d) ys) h).1 e

module _ (p : Program) (typed : is_program p ≡ true) where
  function_in : (n : ℕ) (o : Option Decl) (f : Function) → slice_get p.decls n ≡ o → option_and_then as_function o ≡ Some f → is_function p f ≡ true
  function_in n None f e h = cc
  function_in n (Some (NewtypeDecl x)) f e h = cc
  function_in n (Some (DatatypeDecl x)) f e h = cc
  function_in n (Some (ClassDecl x)) f e h = cc
  function_in n (Some (FunctionDecl x)) f e h =
      let it = declared_at p p.decls 0 n (FunctionDecl x) typed e in
      subst (λ o. of_function o ≡ true) h (and_parts (is_function p x) (have_sites (FunctionDecl x)) it.is).0
    where
      of_function : Option Function → Bool
      of_function None = true
      of_function (Some y) = is_function p y
  function_in n (Some (MethodDecl x)) f e h = cc

  pub function_is : (n : ℕ) (f : Function) → function_at p n ≡ Some f → is_function p f ≡ true
  function_is n f h = function_in n (slice_get p.decls n) f refl h

  method_in : (n : ℕ) (o : Option Decl) (x : Method) → slice_get p.decls n ≡ o → option_and_then as_method o ≡ Some x → is_method p x ≡ true
  method_in n None x e h = cc
  method_in n (Some (NewtypeDecl y)) x e h = cc
  method_in n (Some (DatatypeDecl y)) x e h = cc
  method_in n (Some (ClassDecl y)) x e h = cc
  method_in n (Some (FunctionDecl y)) x e h = cc
  method_in n (Some (MethodDecl y)) x e h =
      let it = declared_at p p.decls 0 n (MethodDecl y) typed e in
      subst (λ o. of_method o ≡ true) h (and_parts (is_method p y) (have_sites (MethodDecl y)) it.is).0
    where
      of_method : Option Method → Bool
      of_method None = true
      of_method (Some z) = is_method p z

  pub method_is : (n : ℕ) (x : Method) → method_at p n ≡ Some x → is_method p x ≡ true
  method_is n x h = method_in n (slice_get p.decls n) x refl h
