-- Parts of a run become its operations.
use Rattle.std.proofs.Common.{◌≡◌, List, [], ◌∷◌, length, map, reverse, refl, sym, ap, arith}
use Rattle.std.proofs.lemmas.List.{map-append}
use Rattle.std.proofs.lemmas.Grind.{reverse_onto}
use Rattle.df_lang.specs.Expr as pure
use Rattle.df_lang.specs.ExprView as typed
use Rattle.df_ntyping.specs.ExprElaboration as elaboration
use Rattle.df_ntexpr.specs.Parts.{part_of}
use Rattle.df_ntexpr.specs.declared.part.Part.{Part}

abbrev pub addend_from : Part → typed.Addend
addend_from part = record { operator = elaboration.addend_operator part.operator; pos = part.pos; operand = typed.expr_of part.operand }

abbrev pub factor_from : Part → typed.Factor
factor_from part = record { operator = elaboration.factor_operator part.operator; pos = part.pos; operand = typed.expr_of part.operand }

abbrev pub member_from : Part → typed.Member
member_from part = record { pos = part.pos; operand = typed.expr_of part.operand }

abbrev pub link_from : Part → typed.Link
link_from part = record { comparison = elaboration.comparison_of part.operator; pos = part.pos; operand = typed.expr_of part.operand }

pub addends_from : (parts : List Part) → typed.addends_of (map addend_from parts) ≡ elaboration.addends_of (map part_of parts)
addends_from [] = refl
addends_from (part ∷ parts) = ap (λ (rest : pure.Addends). pure.addend (elaboration.addend_operator part.operator) part.pos (typed.expr_of part.operand) rest) (addends_from parts)

pub factors_from : (parts : List Part) → typed.factors_of (map factor_from parts) ≡ elaboration.factors_of (map part_of parts)
factors_from [] = refl
factors_from (part ∷ parts) = ap (λ (rest : pure.Factors). pure.factor (elaboration.factor_operator part.operator) part.pos (typed.expr_of part.operand) rest) (factors_from parts)

pub members_from : (parts : List Part) → typed.members_of (map member_from parts) ≡ elaboration.members_of (map part_of parts)
members_from [] = refl
members_from (part ∷ parts) = ap (λ (rest : pure.Members). pure.member part.pos (typed.expr_of part.operand) rest) (members_from parts)

pub links_from : (parts : List Part) → typed.links_of (map link_from parts) ≡ elaboration.links_of (map part_of parts)
links_from [] = refl
links_from (part ∷ parts) = ap (λ (rest : pure.Links). pure.link (elaboration.comparison_of part.operator) part.pos (typed.expr_of part.operand) rest) (links_from parts)

pub nothing_left : {A : Type 0} (xs : List A) → length xs ≡ 0 → xs ≡ []
nothing_left [] h = refl
nothing_left (x ∷ xs) h = absurd (omega arith)

pub map-reverse : {A B : Type 0} (f : A → B) (xs : List A) → map f (reverse xs) ≡ reverse (map f xs)
map-reverse f [] = refl
map-reverse f (x ∷ xs) = rw (reverse_onto xs x [], map-append f (reverse xs) (x ∷ []), map-reverse f xs) (sym (reverse_onto (map f xs) (f x) []))
