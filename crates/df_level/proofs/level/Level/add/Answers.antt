use Rattle.df_level.proofs.Sets.{inserted}
use Rattle.df_level.proofs.Ways.{way_added, known_length, new_length, few_rows, full_rows, same_few}
use Rattle.df_level.proofs.level.Level.add.Goals as goal

pub returns-then-not-is_new-clause-row : goal.returns-then-not-is_new-clause-row
returns-then-not-is_new-clause-row c =
    let keys = c.args.self.now.rows.keys in
    let after = c.insert_full.new.self.keys in
    let same = known_length c.args.row keys after c.args.self.now.ways.items c.in_ok-is_new.is_new c.in_ok-is_new.ensures.added c.in_ok-is_new.ensures.keys c.if-not-is_new.true in
    (inserted c.args.row keys after c.in_ok-is_new.ensures.keys, same_few keys after same c.requires)

pub returns-then-len-ge-ROW_LIMIT-clause-row : goal.returns-then-len-ge-ROW_LIMIT-clause-row
returns-then-len-ge-ROW_LIMIT-clause-row c =
    let keys = c.args.self.now.rows.keys in
    let after = c.insert_full.new.self.keys in
    let grown = new_length c.args.row keys after c.args.self.now.ways.items c.in_ok-is_new.is_new c.in_ok-is_new.ensures.added c.in_ok-is_new.ensures.keys c.if-not-is_new.false in
    (inserted c.args.row keys after c.in_ok-is_new.ensures.keys, full_rows keys after c.len.result c.requires grown c.len.ensures.len c.if-len-ge-ROW_LIMIT.true)

pub returns-clause-row : goal.returns-clause-row
returns-clause-row c =
    let keys = c.args.self.now.rows.keys in
    let after = c.insert_full.new.self.keys in
    (inserted c.args.row keys after c.in_ok-is_new.ensures.keys, few_rows after c.len.result c.len.ensures.len c.if-len-ge-ROW_LIMIT.false)

pub returns-clause-way : goal.returns-clause-way
returns-clause-way c = way_added c.args.row c.args.self.now.rows.keys c.insert_full.new.self.keys c.args.self.now.ways.items c.in_ok-is_new.is_new c.in_ok-is_new.ensures.added c.in_ok-is_new.ensures.keys c.push.new.self.items c.args.way c.if-not-is_new.false c.in_ok-push.ensures.items
