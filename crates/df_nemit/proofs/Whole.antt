-- The code of all methods.
use Rattle.std.proofs.Common.{◌≡◌, ℕ, ◌≤◌, true, List, [], ◌∷◌, length, map, take, refl, sym, ap, ◌∙◌, subst}
use Rattle.std.proofs.lemmas.List.{take_all}
use Rattle.df_nplain.specs.Plain as plain
use Rattle.df_nplain.specs.MethodView as view
use Rattle.df_nplain.specs.declared.plain.Method as declared
use Rattle.df_nmach.specs.declared.code.Shape.{Shape}
use Rattle.df_nmach.specs.declared.code.Shape.TheVariants as shapes
use Rattle.df_nmach.specs.State.{Method, Code}
use Rattle.df_nemit.specs.Code.{method_code, plain_code}
use Rattle.df_nemit.specs.mirror.Emitting.{emit_method}
use Rattle.df_nplain.specs.Bounded.{is_bounded_program}
use Rattle.df_nplain.specs.Counts.{has_counts}
use Rattle.df_nplain.specs.Short.{has_short_texts}
use Rattle.df_nemit.specs.Correct.{DoesWhat}
use Rattle.df_nemit.proofs.StatementsEmitted.{emits_method}
use Rattle.df_nemit.proofs.MethodRuns.{does_what}

methods_are : (p : plain.Plain) (ms : List plain.Method) → map (emit_method p) ms ≡ map (method_code p) ms
methods_are p [] = refl
methods_are p (m ∷ ms) = ap (λ (x : Method). x ∷ map (emit_method p) ms) (emits_method p m) ∙ ap (λ (xs : List Method). method_code p m ∷ xs) (methods_are p ms)

-- all are done
all_made : (p : plain.Plain) (ms : List declared.Method) (n : ℕ) (made : List Method) → length ms ≤ n → made ≡ map (emit_method p) (map view.method_of (take n ms)) → made ≡ map (method_code p) (map view.method_of ms)
all_made p ms n made le e = e ∙ ap (λ (l : List declared.Method). map (emit_method p) (map view.method_of l)) (take_all n ms le) ∙ methods_are p (map view.method_of ms)

-- what is made is the code of the program
pub code_is : (ms : List declared.Method) (n : ℕ) (made : List Method) (all : List Shape) → length ms ≤ n → made ≡ map (emit_method (record { methods = map view.method_of ms })) (map view.method_of (take n ms))
    → all ≡ shapes.Number ∷ shapes.Truth ∷ shapes.Char ∷ shapes.Text ∷ [] → record { methods = made; shapes = all } ≡ plain_code (record { methods = map view.method_of ms })
code_is ms n made all le e f = λ j. record { methods = all_made (record { methods = map view.method_of ms }) ms n made le e j; shapes = f j }

-- it does what the program does
pub does : (ms : List declared.Method) (n : ℕ) (made : List Method) (all : List Shape) → length ms ≤ n → made ≡ map (emit_method (record { methods = map view.method_of ms })) (map view.method_of (take n ms))
    → all ≡ shapes.Number ∷ shapes.Truth ∷ shapes.Char ∷ shapes.Text ∷ [] → is_bounded_program (record { methods = map view.method_of ms }) ≡ true → has_counts (record { methods = map view.method_of ms }) ≡ true
    → has_short_texts (record { methods = map view.method_of ms }) ≡ true
    → DoesWhat (record { methods = map view.method_of ms }) (record { methods = made; shapes = all })
does ms n made all le e f bounded counted short =
    let p : plain.Plain = record { methods = map view.method_of ms } in
    subst (λ (c : Code). DoesWhat p c) (sym (code_is ms n made all le e f)) (does_what p bounded counted short)

names_stay : (p : plain.Plain) (ms : List plain.Method) → map (λ (m : Method). m.name) (map (method_code p) ms) ≡ map (λ (m : plain.Method). m.text) ms
names_stay p [] = refl
names_stay p (m ∷ ms) = ap (λ (l : List (List ℕ)). m.text ∷ l) (names_stay p ms)

-- methods keep their names
pub names : (ms : List declared.Method) (n : ℕ) (made : List Method) → length ms ≤ n → made ≡ map (emit_method (record { methods = map view.method_of ms })) (map view.method_of (take n ms))
    → map (λ (m : Method). m.name) made ≡ map (λ (m : plain.Method). m.text) (map view.method_of ms)
names ms n made le e =
    let p : plain.Plain = record { methods = map view.method_of ms } in
    ap (λ (l : List Method). map (λ (m : Method). m.name) l) (all_made p ms n made le e) ∙ names_stay p (map view.method_of ms)
