use Rattle.std.proofs.Common.{sym, map, get_or, refl, arith}
use Rattle.df_rules.proofs.Learning.{misses, stops, learns}
use Rattle.df_kern.proofs.propagation.learn.Goals as goal

pub returns-in_default : goal.returns-in_default
returns-in_default c =
    let numbers = c.args.numbers.now in
    let i = c.loop-number.number-index in
    misses c.args.known.now c.loop-number.known (map (λ clause. clause.items) c.args.clauses.now) numbers i (get_or numbers i 0) c.loop-number.invariant (omega arith) refl (sym c.in_default.ensures)

pub returns-in_default-only_left : goal.returns-in_default-only_left
returns-in_default-only_left c =
    let numbers = c.args.numbers.now in
    let i = c.loop-number.number-index in
    stops c.args.known.now c.loop-number.known (map (λ clause. clause.items) c.args.clauses.now) numbers i (get_or numbers i 0) c.loop-number.invariant (omega arith) refl
    c.in-Some.clause.now (sym c.in-Some.ensures) (λ literals is. sym (c.in_default-only_left.ensures literals is))

pub loop-number-preserved : goal.loop-number-preserved
loop-number-preserved c =
    let numbers = c.args.numbers.now in
    let i = c.loop-number.number-index in
    learns c.args.known.now c.loop-number.known (map (λ clause. clause.items) c.args.clauses.now) numbers i (get_or numbers i 0) c.loop-number.invariant (omega arith) refl
    c.in-Some.clause.now c.in-Some-only_left.literal c.insert.new.self (sym c.in-Some.ensures) (λ literals is. sym (c.in-Some-only_left.ensures literals is)) c.in_ok-insert.ensures
