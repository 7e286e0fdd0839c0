-- What binds tighter than any operator: what is read is spelled so, and what is spelled so is read.
use Rattle.std.proofs.Common.{◌≡◌, ℕ, suc, ◌+◌, ◌≤◌, Bool, true, false, List, [], ◌∷◌, ◌++◌, Option, Some, None, refl, sym, ap, subst, ◌∙◌, arith}
use Rattle.std.specs.List.{AllByRecursion, flat_map}
use Rattle.df_base.specs.declared.pos.Pos.{Pos}
use Rattle.df_tok.specs.declared.word.Word.TheVariants as words
use Rattle.df_tok.specs.declared.sign.Sign.TheVariants as signs
use Rattle.df_tok.specs.declared.token.Kind.{Kind}
use Rattle.df_tok.specs.declared.token.Kind.TheVariants as kinds
use Rattle.df_tok.specs.Token.{Token}
use Rattle.df_ntree.specs.declared.expr.UnaryOperator.{UnaryOperator}
use Rattle.df_ntree.specs.declared.expr.UnaryOperator.TheVariants as unary
use Rattle.df_ntree.specs.declared.expr.TreeType.{TreeType}
use Rattle.df_ntree.specs.Operator.{unary_sign_of, group_of, rank}
use Rattle.df_ntree.specs.Spelling.{Plain, Begins, sign_there}
use Rattle.df_ntree.specs.Expr.{Expr, Number, Unary, Cast, Operations, Leading}
use Rattle.df_ntree.specs.ExprSpelling.{spell, spell_cast, spell_type, rank_of, IsOperandOf, IsCastTarget, IsExpr, height, Continuation, WithOperator, WithType, WithArguments, continued_level, IsBarred}
use Rattle.df_ntree.specs.mirror.Reading.{◌>>=◌, Reader, kind_is_word, word_stands}
use Rattle.df_ntree.specs.mirror.ExprReading.{Part, casts_at, deeper, cast_of, negated, signed, signed_of, cast_by, signed_from, signed_by, optional_unary}
use Rattle.df_ntree.proofs.Repeat.{bind_some, got, finish, found, pair, some_is}
use Rattle.df_ntree.proofs.Tokens.{Begins-then, Begins-parts, kind_there, word_true}
use Rattle.df_ntree.proofs.Readers.{made_if_sound, made_if_complete}
use Rattle.df_ntree.proofs.ExprTokens.{low_group, Continues, one_way, Ends, ends_more, operations_rank, tight_bars_none, tight_ends, optional_unary_sound, optional_unary_none, optional_unary_complete}
use Rattle.df_ntree.proofs.ExprFirst.{no_unary}
use Rattle.df_ntree.proofs.ExprTypes.{casts_reads, casts_stop}
use Rattle.df_ntree.proofs.ExprRows.{node_sound, node_complete, number_rank, IsRead, Sound, Complete, Exact}

-- ---- types after an operand

no_type : (tokens : List Token) → word_stands words.As tokens ≡ false → Continues WithType tokens → ⊥
no_type tokens h k = let e : true ≡ false = sym (ap (kind_is_word words.As) k) ∙ h in cc

stops_by : (t : Token) (b : Bool) → kind_is_word words.As (Some t.kind) ≡ b → (t.kind ≡ kinds.Word words.As → ⊥) → b ≡ false
stops_by t true e h = absurd (h (word_true words.As t.kind e))
stops_by t false e h = refl

type_stops : (tokens : List Token) → (Continues WithType tokens → ⊥) → word_stands words.As tokens ≡ false
type_stops [] h = refl
type_stops (t ∷ tokens) h = stops_by t (word_stands words.As (t ∷ tokens)) refl (λ e. h (ap (λ (k : Kind). found k) e))

-- what ends an operand ends it as a cast without types
cast_ends : (e : Expr) (rest : List Token) → word_stands words.As rest ≡ false → Ends 7 e rest → Ends 6 e rest
cast_ends e rest stop h = record { stops = stops }
  where
    stops : (c : Continuation) → Continues c rest → 6 ≤ rank (continued_level c) → IsBarred c e
    stops (WithOperator o) k l = let low = low_group (group_of o) in absurd (omega arith)
    stops WithType k l = absurd (no_type rest stop k)
    stops WithArguments k l = h.stops WithArguments k (omega arith)

-- types bar arguments
types_end : (operand : Expr) (all : List TreeType) (rest : List Token) → word_stands words.As rest ≡ false → Ends 6 (Cast operand all) rest
types_end operand all rest stop = record { stops = stops }
  where
    stops : (c : Continuation) → Continues c rest → 6 ≤ rank (continued_level c) → IsBarred c (Cast operand all)
    stops (WithOperator o) k l = let low = low_group (group_of o) in absurd (omega arith)
    stops WithType k l = absurd (no_type rest stop k)
    stops WithArguments k l = refl

cast_made : (room : ℕ) (first : Part) (tokens between after : List Token) → IsRead 7 room first tokens between → (all : List TreeType) → Begins (flat_map spell_cast all) between after → AllByRecursion IsCastTarget all
    → word_stands words.As after ≡ false → (y : Part) → cast_of room first all ≡ Some y → IsRead 6 room y tokens after
unfolding cast_of
cast_made room first tokens between after r [] b are stop y e =
    let t = r.tight in
    subst (λ (z : Part). IsRead 6 room z tokens after) (some_is first y e)
    (record { eats = subst (λ (ts : List Token). Begins (spell first.0) tokens ts) b r.eats; is = r.is; tight = omega arith; tall = r.tall; low = r.low; ends = cast_ends first.0 after stop (subst (λ (ts : List Token). Ends 7 first.0 ts) b r.ends) })
cast_made room first tokens between after r (ty ∷ all) b are stop y e =
    let n = node_sound room first.1 (Cast first.0 (ty ∷ all)) y e in
    subst (λ (z : Expr). IsRead 6 room (z, y.1) tokens after) n.tree
    (record {
      eats = Begins-then (spell first.0) (flat_map spell_cast (ty ∷ all)) tokens between after r.eats b;
      is = (r.is, r.tight, ((λ h. cc), are));
      tight = omega arith;
      tall = n.tall ∙ ap (λ (h : ℕ). h + 1) r.tall;
      low = n.low;
      ends = types_end first.0 (ty ∷ all) after stop;
    })

cast_reads : (room : ℕ) (operand : Reader Part) → Sound room operand 7 → (tokens : List Token) (x : Part) (rest : List Token) → cast_by room operand tokens ≡ Some (x, rest) → IsRead 6 room x tokens rest
unfolding cast_by
cast_reads room operand s tokens x rest e =
    let a = bind_some (operand tokens) (λ first. casts_at first.1 >>= λ all. cast_of room first.0 all.0 >>= λ y. got y all.1) (x, rest) e in
    let b = bind_some (casts_at a.0.1) (λ all. cast_of room a.0.0 all.0 >>= λ y. got y all.1) (x, rest) a.2 in
    let c = bind_some (cast_of room a.0.0 b.0.0) (λ y. got y b.0.1) (x, rest) b.2 in
    let r = s.reads tokens a.0.0 a.0.1 a.1 in
    let t = casts_reads.sound b.0.0 a.0.1 b.0.1 b.1 in
    finish (λ (y : Part) (ts : List Token). IsRead 6 room y tokens ts) c.0 x b.0.1 rest c.2 (cast_made room a.0.0 tokens a.0.1 b.0.1 r b.0.0 t.0 t.1 (casts_stop b.0.0 a.0.1 b.0.1 b.1) c.0 c.1)

-- an operand that no type follows
bare_finds : (room : ℕ) (operand : Reader Part) → Complete room operand 7 → (e : Expr) (tokens rest : List Token) → Begins (spell e) tokens rest → IsExpr e → 7 ≤ rank_of e → height e ≤ room → Ends 6 e rest → cast_by room operand tokens ≡ Some ((e, height e), rest)
unfolding cast_by cast_of
bare_finds room operand c e tokens rest b is t low h =
    let one = c.finds e tokens rest b is t low (ends_more 6 7 e rest (omega arith) h) in
    let stop = type_stops rest (λ k. tight_bars_none WithType e is t (h.stops WithType k (omega arith))) in
    let two = casts_reads.complete [] rest rest refl tt (stop, tt) in
    ap (λ (o : Option (Part × List Token)). o >>= λ first. casts_at first.1 >>= λ all. cast_of room first.0 all.0 >>= λ y. got y all.1) one
    ∙ ap (λ (o : Option (List TreeType × List Token)). o >>= λ all. cast_of room (e, height e) all.0 >>= λ y. got y all.1) two

types_find : (room : ℕ) (operand : Reader Part) → Complete room operand 7 → (e : Expr) (all : List TreeType) (tokens rest : List Token) → Begins (spell (Cast e all)) tokens rest → IsExpr (Cast e all) → height (Cast e all) ≤ room → Ends 6 (Cast e all) rest → cast_by room operand tokens ≡ Some ((Cast e all, height (Cast e all)), rest)
unfolding cast_by cast_of
types_find room operand c e [] tokens rest b is low h = absurd (is.2.0 refl)
types_find room operand c e (ty ∷ all) tokens rest b is low h =
    let p = Begins-parts (spell e) (flat_map spell_cast (ty ∷ all)) tokens rest b in
    let there : Continues WithType p.between = kind_there (kinds.Word words.As) None (spell_type ty ++ flat_map spell_cast all) p.between rest p.second in
    let one = c.finds e tokens p.between p.first is.0 is.1 (omega arith) (record { stops = λ d k l. absurd (let same : rank (continued_level d) ≡ 6 = ap (λ (z : Continuation). rank (continued_level z)) (one_way d WithType p.between k there) in omega arith) }) in
    let stop = type_stops rest (λ k. let bar : WithType ≡ WithArguments = h.stops WithType k (omega arith) in cc) in
    let two = casts_reads.complete (ty ∷ all) p.between rest p.second is.2.1 (stop, tt) in
    ap (λ (o : Option (Part × List Token)). o >>= λ first. casts_at first.1 >>= λ found_types. cast_of room first.0 found_types.0 >>= λ y. got y found_types.1) one
    ∙ ap (λ (o : Option (List TreeType × List Token)). o >>= λ found_types. cast_of room (e, height e) found_types.0 >>= λ y. got y found_types.1) two
    ∙ ap (λ (o : Option Part). o >>= λ y. got y rest) (node_complete room (height e) (Cast e (ty ∷ all)) low)

cast_finds : (room : ℕ) (operand : Reader Part) → Complete room operand 7 → (e : Expr) (tokens rest : List Token) → Begins (spell e) tokens rest → IsExpr e → 6 ≤ rank_of e → height e ≤ room → Ends 6 e rest → cast_by room operand tokens ≡ Some ((e, height e), rest)
cast_finds room operand c (Cast e all) tokens rest b is t low h = types_find room operand c e all tokens rest b is low h
cast_finds room operand c (Number literal) tokens rest b is t low h = bare_finds room operand c (Number literal) tokens rest b is (number_rank literal.negative) low h
cast_finds room operand c (Operations first m) tokens rest b is t low h = let l = operations_rank first m is in absurd (omega arith)
cast_finds room operand c (Leading m) tokens rest b is t low h = absurd (omega arith)
cast_finds room operand c e tokens rest b is t low h = bare_finds room operand c e tokens rest b is (omega arith) low h

pub cast_exact : (room : ℕ) (operand : Reader Part) → Exact room operand 7 → Exact room (cast_by room operand) 6
cast_exact room operand x = record {
  sound = record { reads = cast_reads room operand x.sound };
  complete = record { finds = cast_finds room operand x.complete };
}

-- ---- signs before an operand

-- a sign before an operand, as it is read
record IsSigned (e : Expr) (h : ℕ) (tokens rest : List Token) : Type 0 where
  eats : Begins (spell e) tokens rest
  is : IsExpr e
  tight : 7 ≤ rank_of e
  tall : height e ≡ h + 1

-- a number where its place does not matter
unplaced : (n : ℕ) (pos : Pos) (tokens rest : List Token) → Begins (Plain (kinds.Number n) (Some pos) ∷ []) tokens rest → Begins (Plain (kinds.Number n) None ∷ []) tokens rest
unplaced n pos [] rest b = b
unplaced n pos (t ∷ tokens) rest b = ((b.0.0, tt), b.1)

negated_is : (negative : Bool) (n : ℕ) (place pos : Pos) (tokens between rest : List Token) → Begins (sign_there signs.Minus pos ∷ []) tokens between → Begins (spell (Number (record { negative = negative; magnitude = n; pos = place }))) between rest
    → IsSigned (negated negative (record { negative = negative; magnitude = n; pos = place }) pos) (height (Number (record { negative = negative; magnitude = n; pos = place }))) tokens rest
negated_is true n place pos tokens between rest s b = record {
  eats = Begins-then (sign_there signs.Minus pos ∷ []) (spell (Number (record { negative = true; magnitude = n; pos = place }))) tokens between rest s b;
  is = (tt, (omega arith, λ h. cc));
  tight = omega arith;
  tall = refl;
}
negated_is false n place pos tokens between rest s b = record {
  eats = Begins-then (sign_there signs.Minus pos ∷ []) (Plain (kinds.Number n) None ∷ []) tokens between rest s (unplaced n place between rest b);
  is = tt;
  tight = omega arith;
  tall = refl;
}

signed_is : (o : UnaryOperator) (pos : Pos) (e : Expr) (tokens between rest : List Token) → Begins (sign_there (unary_sign_of o) pos ∷ []) tokens between → Begins (spell e) between rest → IsExpr e → 7 ≤ rank_of e → IsSigned (signed o pos e) (height e) tokens rest
signed_is unary.Not pos e tokens between rest s b is t =
    record { eats = Begins-then (sign_there signs.Not pos ∷ []) (spell e) tokens between rest s b; is = (is, t); tight = omega arith; tall = refl }
signed_is unary.Negate pos (Number literal) tokens between rest s b is t = negated_is literal.negative literal.magnitude literal.pos pos tokens between rest s b
signed_is unary.Negate pos e tokens between rest s b is t =
    record { eats = Begins-then (sign_there signs.Minus pos ∷ []) (spell e) tokens between rest s b; is = (is, (t, λ h. h)); tight = omega arith; tall = refl }

-- only arguments go on at the rank of an operand with signs
unary_ends : (e : Expr) (rest : List Token) → Ends 8 e rest → Ends 7 e rest
unary_ends e rest h = record { stops = stops }
  where
    stops : (c : Continuation) → Continues c rest → 7 ≤ rank (continued_level c) → IsBarred c e
    stops (WithOperator o) k l = let low = low_group (group_of o) in absurd (omega arith)
    stops WithType k l = absurd (omega arith)
    stops WithArguments k l = h.stops WithArguments k (omega arith)

sign_reads : (r : ℕ) (inner operand : Reader Part) → Sound r inner 7 → Sound (suc r) operand 8 → (o : Option (UnaryOperator × Pos) × List Token) (tokens : List Token) → optional_unary tokens ≡ o → (x : Part) (rest : List Token)
    → signed_from (suc r) inner operand o ≡ Some (x, rest) → IsRead 7 (suc r) x tokens rest
unfolding signed_of
sign_reads r inner operand s p (None, after) tokens h x rest e =
    let q = p.reads after x rest e in
    let t = q.tight in
    subst (λ (ts : List Token). IsRead 7 (suc r) x ts rest) (sym (optional_unary_none tokens after h))
    (record { eats = q.eats; is = q.is; tight = omega arith; tall = q.tall; low = q.low; ends = unary_ends x.0 rest q.ends })
sign_reads r inner operand s p (Some sign, after) tokens h x rest e =
    let a = made_if_sound (signed_of (suc r) sign.0 sign.1) inner x after rest e in
    let n = node_sound (suc r) a.0.1 (signed sign.0 sign.1 a.0.0) x a.2 in
    let q = s.reads after a.0 rest a.1 in
    let i = signed_is sign.0 sign.1 a.0.0 tokens after rest (optional_unary_sound tokens sign.0 sign.1 after h) q.eats q.is q.tight in
    subst (λ (z : Expr). IsRead 7 (suc r) (z, x.1) tokens rest) n.tree
    (record { eats = i.eats; is = i.is; tight = i.tight; tall = n.tall ∙ ap (λ (h : ℕ). h + 1) q.tall ∙ sym i.tall; low = n.low; ends = tight_ends 7 a.0.0 (signed sign.0 sign.1 a.0.0) rest q.is q.tight q.ends })

unary_reads : (r : ℕ) (inner operand : Reader Part) → Sound r inner 7 → Sound (suc r) operand 8 → (tokens : List Token) (x : Part) (rest : List Token) → signed_by (suc r) inner operand tokens ≡ Some (x, rest) → IsRead 7 (suc r) x tokens rest
unfolding signed_by
unary_reads r inner operand s p tokens x rest e = sign_reads r inner operand s p (optional_unary tokens) tokens refl x rest e

-- a sign and what it stands before
sign_finds : (r : ℕ) (inner operand : Reader Part) → Complete r inner 7 → (o : UnaryOperator) (pos : Pos) (e whole : Expr) (tokens between rest : List Token) → Begins (sign_there (unary_sign_of o) pos ∷ []) tokens between → Begins (spell e) between rest → IsExpr e → 7 ≤ rank_of e → Ends 7 e rest
    → height e + 1 ≤ suc r → signed o pos e ≡ whole → signed_by (suc r) inner operand tokens ≡ Some ((whole, height e + 1), rest)
unfolding signed_by signed_of
sign_finds r inner operand c o pos e whole tokens between rest s b is t h low same =
    ap (λ (z : Option (UnaryOperator × Pos) × List Token). signed_from (suc r) inner operand z) (optional_unary_complete o pos tokens between s)
    ∙ made_if_complete (signed_of (suc r) o pos) inner (e, height e) (whole, height e + 1) between rest (c.finds e between rest b is t (omega arith) h)
    (ap (λ (z : Expr). deeper (suc r) (height e) >>= λ k. found (pair z k)) same ∙ node_complete (suc r) (height e) whole low)

negated_unary : (negative : Bool) (n : ℕ) (place pos : Pos) → (negative ≡ false → ⊥) → negated negative (record { negative = negative; magnitude = n; pos = place }) pos ≡ Unary unary.Negate pos (Number (record { negative = negative; magnitude = n; pos = place }))
negated_unary true n place pos h = refl
negated_unary false n place pos h = absurd (h refl)

signed_unary : (o : UnaryOperator) (pos : Pos) (e : Expr) → IsOperandOf o e → signed o pos e ≡ Unary o pos e
signed_unary unary.Not pos e h = refl
signed_unary unary.Negate pos (Number literal) h = negated_unary literal.negative literal.magnitude literal.pos pos h.1
signed_unary unary.Negate pos e h = refl

operand_tight : (o : UnaryOperator) (e : Expr) → IsOperandOf o e → 7 ≤ rank_of e
operand_tight unary.Not e h = h
operand_tight unary.Negate e h = h.0

-- an operand without a sign
primary_finds : (r : ℕ) (inner operand : Reader Part) → Complete (suc r) operand 8 → (e : Expr) (tokens rest : List Token) → Begins (spell e) tokens rest → IsExpr e → 8 ≤ rank_of e → height e ≤ suc r → Ends 7 e rest → signed_by (suc r) inner operand tokens ≡ Some ((e, height e), rest)
unfolding signed_by
primary_finds r inner operand c e tokens rest b is t low h =
    ap (λ (z : Option (UnaryOperator × Pos) × List Token). signed_from (suc r) inner operand z) (no_unary e tokens rest is t b)
    ∙ c.finds e tokens rest b is t low (ends_more 7 8 e rest (omega arith) h)

-- the number behind a minus
placed : (n : ℕ) (tokens rest : List Token) → Begins (Plain (kinds.Number n) None ∷ []) tokens rest → (pos : Pos) × Begins (Plain (kinds.Number n) (Some pos) ∷ []) tokens rest
placed n [] rest b = absurd b
placed n (t ∷ tokens) rest b = (t.pos, ((b.0.0, refl), b.1))

number_finds : (r : ℕ) (inner operand : Reader Part) → Complete r inner 7 → Complete (suc r) operand 8 → (negative : Bool) (n : ℕ) (pos : Pos) (tokens rest : List Token) → Begins (spell (Number (record { negative = negative; magnitude = n; pos = pos }))) tokens rest
    → height (Number (record { negative = negative; magnitude = n; pos = pos })) ≤ suc r → Ends 7 (Number (record { negative = negative; magnitude = n; pos = pos })) rest
    → signed_by (suc r) inner operand tokens ≡ Some ((Number (record { negative = negative; magnitude = n; pos = pos }), height (Number (record { negative = negative; magnitude = n; pos = pos }))), rest)
number_finds r inner operand c d true n pos tokens rest b low h =
    let p = Begins-parts (sign_there signs.Minus pos ∷ []) (Plain (kinds.Number n) None ∷ []) tokens rest b in
    let q = placed n p.between rest p.second in
    sign_finds r inner operand c unary.Negate pos (Number (record { negative = false; magnitude = n; pos = q.0 })) (Number (record { negative = true; magnitude = n; pos = pos })) tokens p.between rest p.first q.1 tt (omega arith)
    (tight_ends 7 (Number (record { negative = true; magnitude = n; pos = pos })) (Number (record { negative = false; magnitude = n; pos = q.0 })) rest tt (omega arith) h) (omega arith) refl
number_finds r inner operand c d false n pos tokens rest b low h = primary_finds r inner operand d (Number (record { negative = false; magnitude = n; pos = pos })) tokens rest b tt (omega arith) low h

unary_finds : (r : ℕ) (inner operand : Reader Part) → Complete r inner 7 → Complete (suc r) operand 8 → (e : Expr) (tokens rest : List Token) → Begins (spell e) tokens rest → IsExpr e → 7 ≤ rank_of e → height e ≤ suc r → Ends 7 e rest → signed_by (suc r) inner operand tokens ≡ Some ((e, height e), rest)
unary_finds r inner operand c d (Number literal) tokens rest b is t low h = number_finds r inner operand c d literal.negative literal.magnitude literal.pos tokens rest b low h
unary_finds r inner operand c d (Unary o pos e) tokens rest b is t low h =
    let p = Begins-parts (sign_there (unary_sign_of o) pos ∷ []) (spell e) tokens rest b in
    sign_finds r inner operand c o pos e (Unary o pos e) tokens p.between rest p.first p.second is.0 (operand_tight o e is.1) (tight_ends 7 (Unary o pos e) e rest is (omega arith) h) low (signed_unary o pos e is.1)
unary_finds r inner operand c d (Cast e all) tokens rest b is t low h = absurd (omega arith)
unary_finds r inner operand c d (Operations first m) tokens rest b is t low h = let l = operations_rank first m is in absurd (omega arith)
unary_finds r inner operand c d (Leading m) tokens rest b is t low h = absurd (omega arith)
unary_finds r inner operand c d e tokens rest b is t low h = primary_finds r inner operand d e tokens rest b is (omega arith) low h

pub unary_exact : (r : ℕ) (inner operand : Reader Part) → Exact r inner 7 → Exact (suc r) operand 8 → Exact (suc r) (signed_by (suc r) inner operand) 7
unary_exact r inner operand x y = record {
  sound = record { reads = unary_reads r inner operand x.sound y.sound };
  complete = record { finds = unary_finds r inner operand x.complete y.complete };
}
