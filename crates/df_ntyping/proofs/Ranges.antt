-- Literals in range: the parts of what is in range are.
use Rattle.std.proofs.Common.{Bool, true, false, List, [], ◌∷◌, ◌++◌}
use Rattle.std.specs.List.{AllByRecursion, flat_map}
use Rattle.df_base.specs.declared.pos.Pos.{Pos}
use Rattle.df_tok.specs.declared.sign.Sign.TheVariants as signs
use Rattle.df_ntree.specs.Spelling.{Piece, a_sign, separated, spell_more}
use Rattle.df_ntree.specs.Expr.{Expr, Call, Arguments, no_more, argument}
use Rattle.df_ntree.specs.ExprSpelling.{spell, spell_arguments, spell_further}
use Rattle.df_ntree.specs.File.{Clause, Condition, Decreases}
use Rattle.df_ntree.specs.FileSpelling.{braces, spell_values, spell_clause}
use Rattle.df_ntree.specs.declared.file.ConditionKind.{ConditionKind}
use Rattle.df_ntyping.specs.Literals.{AreInRange}
use Rattle.df_ntyping.specs.StatementElaboration.{is_of_kind, conditions_of, measures_in}
use Rattle.df_lemmas.proofs.Alls.{all_joined}
use Rattle.std.specs.Prelude.{if◌then◌else◌}
use Rattle.df_ntyping.proofs.TypedIsWellTyped.{all_left, all_right}

abbrev pub InRange : Expr → Type 0
InRange e = AreInRange (spell e)

abbrev pub AllInRange : List Expr → Type 0
AllInRange es = AllByRecursion InRange es

pub inside_braces : (pos : Pos) (inside : List Piece) → AreInRange (braces pos inside) → AreInRange inside
inside_braces pos inside h = all_left inside (a_sign signs.CloseBrace ∷ []) h

more_parts : {X : Type 0} (f : X → List Piece) (xs : List X) → AreInRange (flat_map (spell_more f) xs) → AllByRecursion (λ x. AreInRange (f x)) xs
more_parts f [] h = tt
more_parts f (x ∷ xs) h = (all_left (spell_more f x) (flat_map (spell_more f) xs) h, more_parts f xs (all_right (spell_more f x) (flat_map (spell_more f) xs) h))

pub separated_parts : {X : Type 0} (f : X → List Piece) (xs : List X) → AreInRange (separated f xs) → AllByRecursion (λ x. AreInRange (f x)) xs
separated_parts f [] h = tt
separated_parts f (x ∷ xs) h = (all_left (f x) (flat_map (spell_more f) xs) h, more_parts f xs (all_right (f x) (flat_map (spell_more f) xs) h))

pub each_part : {X : Type 0} (f : X → List Piece) (xs : List X) → AreInRange (flat_map f xs) → AllByRecursion (λ x. AreInRange (f x)) xs
each_part f [] h = tt
each_part f (x ∷ xs) h = (all_left (f x) (flat_map f xs) h, each_part f xs (all_right (f x) (flat_map f xs) h))

pub values_parts : (values : List Expr) → AreInRange (spell_values values) → AllInRange values
values_parts [] h = tt
values_parts (value ∷ values) h = separated_parts spell (value ∷ values) h

-- ---- calls

abbrev pub ArgumentsInRange : Arguments → Type 0
ArgumentsInRange no_more = Unit {0}
ArgumentsInRange (argument e rest) = InRange e × ArgumentsInRange rest

further_parts : (arguments : Arguments) → AreInRange (spell_further arguments) → ArgumentsInRange arguments
further_parts no_more h = tt
further_parts (argument e rest) h = (all_left (a_sign signs.Comma ∷ spell e) (spell_further rest) h, further_parts rest (all_right (a_sign signs.Comma ∷ spell e) (spell_further rest) h))

arguments_parts : (arguments : Arguments) → AreInRange (spell_arguments arguments) → ArgumentsInRange arguments
arguments_parts no_more h = tt
arguments_parts (argument e rest) h = (all_left (spell e) (spell_further rest) h, further_parts rest (all_right (spell e) (spell_further rest) h))

pub call_parts : (callee : Expr) (arguments : Arguments) → InRange (Call callee arguments) → ArgumentsInRange arguments
call_parts callee arguments h =
    arguments_parts arguments (all_left (spell_arguments arguments) (a_sign signs.CloseParenthesis ∷ []) (all_right (spell callee) (a_sign signs.OpenParenthesis ∷ (spell_arguments arguments ++ a_sign signs.CloseParenthesis ∷ [])) h))

-- ---- clauses

ClausesInRange : List Clause → Type 0
ClausesInRange clauses = AllByRecursion (λ (clause : Clause). AreInRange (spell_clause clause)) clauses

chosen : (b : Bool) (e : Expr) (es : List Expr) → InRange e → AllInRange es → AllInRange (if b then e ∷ es else es)
chosen true e es h k = (h, k)
chosen false e es h k = k

conditions_in_range : (kind : ConditionKind) (clauses : List Clause) → ClausesInRange clauses → AllInRange (conditions_of kind clauses)
unfolding ClausesInRange
conditions_in_range kind [] h = tt
conditions_in_range kind (Condition own pos e ∷ others) h = chosen (is_of_kind own kind) e (conditions_of kind others) h.0 (conditions_in_range kind others h.1)
conditions_in_range kind (Decreases pos values ∷ others) h = conditions_in_range kind others h.1

measures_in_range : (clauses : List Clause) → ClausesInRange clauses → AllInRange (measures_in clauses)
unfolding ClausesInRange
measures_in_range [] h = tt
measures_in_range (Condition kind pos e ∷ others) h = measures_in_range others h.1
measures_in_range (Decreases pos values ∷ others) h = all_joined InRange values (measures_in others) (separated_parts spell values h.0) (measures_in_range others h.1)

pub conditions_parts : (kind : ConditionKind) (clauses : List Clause) → AreInRange (flat_map spell_clause clauses) → AllInRange (conditions_of kind clauses)
unfolding ClausesInRange
conditions_parts kind clauses h = conditions_in_range kind clauses (each_part spell_clause clauses h)

pub measures_parts : (clauses : List Clause) → AreInRange (flat_map spell_clause clauses) → AllInRange (measures_in clauses)
unfolding ClausesInRange
measures_parts clauses h = measures_in_range clauses (each_part spell_clause clauses h)
