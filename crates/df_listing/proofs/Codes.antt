-- No two codes have one text.
use Rattle.std.proofs.Common.{◌≡◌, ℕ, suc, ◌&&◌, true, List, [], ◌∷◌, ◌++◌, length, codes, refl, sym, ap, ◌∙◌, append_assoc, arith}
use Rattle.std.specs.List.{flat_map, AllByRecursion}
use Rattle.std.specs.Fmt.{decimal}
use Rattle.std.proofs.lemmas.Bool.{and_from}
use Rattle.df_lemmas.proofs.Lists.{head_same, tail_same}
use Rattle.df_nmach.specs.declared.instruction.Instruction.{Instruction}
use Rattle.df_nmach.specs.declared.code.Shape.{Shape}
use Rattle.df_nmach.specs.State.{Method, Code}
use Rattle.df_listing.specs.Listing.{line_text, instruction_line, shape_line, method_words, method_text, listing_text}
use Rattle.df_listing.specs.Ordinary.{Fitting, HasHeader, IsOrdinaryMethod, IsOrdinary}
use Rattle.df_listing.proofs.Spelling.{is_word, name_word, decimal_word, decimal_same}
use Rattle.df_listing.proofs.Reading.{are_words, line_read}
use Rattle.df_listing.proofs.Instructions.{instruction_read, shape_read, first, shape_first}

-- as many instructions, and what follows them
instructions_read : (us vs : List Instruction) (x y : List ℕ) → length us ≡ length vs → AllByRecursion Fitting us → AllByRecursion Fitting vs
    → flat_map instruction_line us ++ x ≡ flat_map instruction_line vs ++ y → (us ≡ vs) × (x ≡ y)
instructions_read [] [] x y l p q e = (refl, e)
instructions_read [] (b ∷ vs) x y l p q e = absurd (omega (arith, l))
instructions_read (a ∷ us) [] x y l p q e = absurd (omega (arith, l))
instructions_read (a ∷ us) (b ∷ vs) x y l p q e =
    let apart : instruction_line a ++ (flat_map instruction_line us ++ x) ≡ instruction_line b ++ (flat_map instruction_line vs ++ y) =
    sym (append_assoc (instruction_line a) (flat_map instruction_line us) x) ∙ e ∙ append_assoc (instruction_line b) (flat_map instruction_line vs) y in
    let one = instruction_read a b (flat_map instruction_line us ++ x) (flat_map instruction_line vs ++ y) p.0 q.0 apart in
    let rest = instructions_read us vs x y (omega (arith, l)) p.1 q.1 one.1 in
    ((λ i. one.0 i ∷ rest.0 i), rest.1)

method_are : (m : Method) → HasHeader m → are_words (method_words m) ≡ true
method_are m is =
    let four = and_from (is_word (decimal (length m.instructions))) true (decimal_word (length m.instructions) is.count) refl in
    let three = and_from (is_word (decimal m.locals)) _ (decimal_word m.locals is.locals) four in
    let two = and_from (is_word (decimal m.results)) _ (decimal_word m.results is.results) three in
    let one = and_from (is_word (decimal m.parameters)) _ (decimal_word m.parameters is.parameters) two in
    and_from (is_word m.name) _ (name_word m.name is.name) one

-- the words of a method's line
abbrev header : List ℕ → List ℕ → List ℕ → List ℕ → List ℕ → List (List ℕ)
header a b c d e = codes "method" ∷ a ∷ b ∷ c ∷ d ∷ e ∷ []

pub record Words (a b c d e a' b' c' d' e' : List ℕ) : Type 0 where
  pub name : a ≡ a'
  pub parameters : b ≡ b'
  pub results : c ≡ c'
  pub locals : d ≡ d'
  pub count : e ≡ e'

header_same : (a b c d e a' b' c' d' e' : List ℕ) → header a b c d e ≡ header a' b' c' d' e' → Words a b c d e a' b' c' d' e'
header_same a b c d e a' b' c' d' e' h =
    let s1 = tail_same (codes "method") (codes "method") (a ∷ b ∷ c ∷ d ∷ e ∷ []) (a' ∷ b' ∷ c' ∷ d' ∷ e' ∷ []) h in
    let s2 = tail_same a a' (b ∷ c ∷ d ∷ e ∷ []) (b' ∷ c' ∷ d' ∷ e' ∷ []) s1 in
    let s3 = tail_same b b' (c ∷ d ∷ e ∷ []) (c' ∷ d' ∷ e' ∷ []) s2 in
    let s4 = tail_same c c' (d ∷ e ∷ []) (d' ∷ e' ∷ []) s3 in
    let s5 = tail_same d d' (e ∷ []) (e' ∷ []) s4 in
    record { name = head_same a a' _ _ s1; parameters = head_same b b' _ _ s2; results = head_same c c' _ _ s3; locals = head_same d d' _ _ s4; count = head_same e e' [] [] s5 }

-- a method, and what follows it
method_read : (m n : Method) (x y : List ℕ) → IsOrdinaryMethod m → IsOrdinaryMethod n → method_text m ++ x ≡ method_text n ++ y → (m ≡ n) × (x ≡ y)
method_read m n x y p q e =
    let apart : line_text (method_words m) ++ (flat_map instruction_line m.instructions ++ x) ≡ line_text (method_words n) ++ (flat_map instruction_line n.instructions ++ y) =
    sym (append_assoc (line_text (method_words m)) (flat_map instruction_line m.instructions) x) ∙ e ∙ append_assoc (line_text (method_words n)) (flat_map instruction_line n.instructions) y in
    let line = line_read (method_words m) (method_words n) (flat_map instruction_line m.instructions ++ x) (flat_map instruction_line n.instructions ++ y) refl refl (method_are m p.header) (method_are n q.header) apart in
    let words = header_same m.name (decimal m.parameters) (decimal m.results) (decimal m.locals) (decimal (length m.instructions)) n.name (decimal n.parameters) (decimal n.results) (decimal n.locals) (decimal (length n.instructions)) line.0 in
    let parameters = decimal_same m.parameters n.parameters p.header.parameters q.header.parameters words.parameters in
    let results = decimal_same m.results n.results p.header.results q.header.results words.results in
    let locals = decimal_same m.locals n.locals p.header.locals q.header.locals words.locals in
    let count = decimal_same (length m.instructions) (length n.instructions) p.header.count q.header.count words.count in
    let rest = instructions_read m.instructions n.instructions x y count p.instructions q.instructions line.1 in
    ((λ i. record { name = words.name i; parameters = parameters i; results = results i; locals = locals i; instructions = rest.0 i }), rest.1)

abbrev end_line : List ℕ
end_line = line_text (codes "end" ∷ [])

-- methods up to the end
methods_read : (ms ns : List Method) → AllByRecursion IsOrdinaryMethod ms → AllByRecursion IsOrdinaryMethod ns → flat_map method_text ms ++ end_line ≡ flat_map method_text ns ++ end_line → ms ≡ ns
methods_read [] [] p q e = refl
methods_read [] (n ∷ ns) p q e = absurd (let h : 101 ≡ 109 = ap first e in omega (arith, h))
methods_read (m ∷ ms) [] p q e = absurd (let h : 109 ≡ 101 = ap first e in omega (arith, h))
methods_read (m ∷ ms) (n ∷ ns) p q e =
    let apart : method_text m ++ (flat_map method_text ms ++ end_line) ≡ method_text n ++ (flat_map method_text ns ++ end_line) =
    sym (append_assoc (method_text m) (flat_map method_text ms) end_line) ∙ e ∙ append_assoc (method_text n) (flat_map method_text ns) end_line in
    let one = method_read m n (flat_map method_text ms ++ end_line) (flat_map method_text ns ++ end_line) p.0 q.0 apart in
    let rest = methods_read ms ns p.1 q.1 one.1 in
    λ i. one.0 i ∷ rest i

-- what follows the shapes
abbrev rest_of : List Method → List ℕ
rest_of ms = flat_map method_text ms ++ end_line

-- no shape is left
no_shape : (ms : List Method) (s : Shape) (x : List ℕ) → rest_of ms ≡ shape_line s ++ x → ⊥
no_shape [] s x e = let h : 101 ≡ 115 = ap first e ∙ shape_first s x in omega (arith, h)
no_shape (m ∷ ms) s x e = let h : 109 ≡ 115 = ap first e ∙ shape_first s x in omega (arith, h)

-- the shapes, and what follows them
shapes_read : (ss ts : List Shape) (ms ns : List Method) → flat_map shape_line ss ++ rest_of ms ≡ flat_map shape_line ts ++ rest_of ns → (ss ≡ ts) × (rest_of ms ≡ rest_of ns)
shapes_read [] [] ms ns e = (refl, e)
shapes_read [] (t ∷ ts) ms ns e = absurd (no_shape ms t (flat_map shape_line ts ++ rest_of ns) (e ∙ append_assoc (shape_line t) (flat_map shape_line ts) (rest_of ns)))
shapes_read (s ∷ ss) [] ms ns e = absurd (no_shape ns s (flat_map shape_line ss ++ rest_of ms) (sym e ∙ append_assoc (shape_line s) (flat_map shape_line ss) (rest_of ms)))
shapes_read (s ∷ ss) (t ∷ ts) ms ns e =
    let apart : shape_line s ++ (flat_map shape_line ss ++ rest_of ms) ≡ shape_line t ++ (flat_map shape_line ts ++ rest_of ns) =
    sym (append_assoc (shape_line s) (flat_map shape_line ss) (rest_of ms)) ∙ e ∙ append_assoc (shape_line t) (flat_map shape_line ts) (rest_of ns) in
    let one = shape_read s t (flat_map shape_line ss ++ rest_of ms) (flat_map shape_line ts ++ rest_of ns) apart in
    let rest = shapes_read ss ts ms ns one.1 in
    ((λ i. one.0 i ∷ rest.0 i), rest.1)

-- the first line
abbrev head_line : List ℕ
head_line = line_text (codes "dfycode" ∷ codes "1" ∷ [])

parted : (a : Code) → listing_text a ≡ head_line ++ (flat_map shape_line a.shapes ++ rest_of a.methods)
parted a =
    append_assoc (head_line ++ flat_map shape_line a.shapes) (flat_map method_text a.methods) end_line
    ∙ append_assoc head_line (flat_map shape_line a.shapes) (rest_of a.methods)

pub codes_same : (a b : Code) → IsOrdinary a → IsOrdinary b → listing_text a ≡ listing_text b → a ≡ b
codes_same a b p q e =
    let whole = sym (parted a) ∙ e ∙ parted b in
    let past = line_read (codes "dfycode" ∷ codes "1" ∷ []) (codes "dfycode" ∷ codes "1" ∷ []) _ _ refl refl refl refl whole in
    let shapes = shapes_read a.shapes b.shapes a.methods b.methods past.1 in
    let methods = methods_read a.methods b.methods p q shapes.1 in
    λ i. record { methods = methods i; shapes = shapes.0 i }
