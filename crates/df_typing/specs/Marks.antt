-- Ghost code: which statements of a translated body are not compiled. Each that is ghost is marked where it stands in compiled code; in
-- ghost code all variables are ghosts.
use Rattle.std.specs.Prelude.{ℕ, suc, Bool, true, false, not, ◌&&◌, ◌||◌, if◌then◌else◌, List, [], ◌∷◌}
use Rattle.df_types.specs.Stmt.{Stmt, Declare, Assign, Choose, Branch, While, Break, Return, Check, Prove, Print, Publish, Ghost, Stmts, done, next, Branches, no_branch, branch}
use Rattle.df_types.specs.Program.{Program, Variable, Method}
use Rattle.df_types.specs.Faults.{Watch, ghostly, mentions_ghost}
use Rattle.df_types.specs.Ghosts.{watch_of, is_ghost_stmt, proof_watch}
use Rattle.df_types.specs.Sites.{is_in}
use Rattle.df_typing.specs.Statements.{in_front}

-- statements, and which locals are ghosts behind them
pub record Marked : Type 0 where
  pub stmts : Stmts
  pub locals : List Bool

abbrev pub marked_locals : ℕ → List ℕ → List Bool → List Bool
marked_locals n ghosts [] = []
marked_locals n ghosts (mark ∷ marks) = (mark || is_in n ghosts) ∷ marked_locals (suc n) ghosts marks

abbrev pub over : Watch → List Bool → Watch
over w locals = record w { locals = locals }

-- in compiled code what is ghost is marked
abbrev pub mark : Watch → Stmt → Stmts → Stmts
mark w stmt others = if is_ghost_stmt w stmt && not w.is_ghost then next (Ghost (next stmt done)) others else next stmt others

abbrev pub inside : Watch → Stmt → Watch
inside w stmt = ghostly w (is_ghost_stmt w stmt)

pub record MarkedBranches : Type 0 where
  pub branches : Branches
  pub locals : List Bool
  -- a guard mentions a ghost, or all stands in ghost code
  pub is_ghost : Bool

-- the next guard mentions a ghost
abbrev pub next_is_ghost : Watch → Branches → Bool
next_is_ghost w no_branch = false
next_is_ghost w (branch guard body rest) = mentions_ghost w guard

-- branches, and what is done otherwise
pub record Parted : Type 0 where
  pub branches : Branches
  pub otherwise : Stmts

-- in compiled code, from the first ghost guard behind the first one on, all is ghost code that is done otherwise
abbrev pub parted : Watch → Branches → Stmts → Parted
parted w no_branch otherwise = record { branches = no_branch; otherwise = otherwise }
parted w (branch guard body rest) otherwise =
    if next_is_ghost w rest
    then record { branches = branch guard body no_branch; otherwise = next (Ghost (next (Branch rest otherwise) done)) done }
    else (let others = parted w rest otherwise in record { branches = branch guard body others.branches; otherwise = others.otherwise })

abbrev pub as_branch : Parted → Stmt
as_branch parts = Branch parts.branches parts.otherwise

abbrev pub mark_branch : Watch → Branches → Stmts → Stmts
mark_branch w branches otherwise =
    if w.is_ghost || next_is_ghost w branches then mark w (Branch branches otherwise) done else next (as_branch (parted w branches otherwise)) done

abbrev mutual
  pub marked : Watch → Stmts → Marked
  marked w done = record { stmts = done; locals = w.locals }
  marked w (next stmt others) =
      let first = marked_stmt w stmt in
      let rest = marked (over w first.locals) others in
      record { stmts = in_front first.stmts rest.stmts; locals = rest.locals }

  pub marked_stmt : Watch → Stmt → Marked
  marked_stmt w (Declare locals) =
      let marks = if w.is_ghost then marked_locals 0 locals w.locals else w.locals in
      record { stmts = mark (over w marks) (Declare locals) done; locals = marks }
  marked_stmt w (Assign update) = record { stmts = mark w (Assign update) done; locals = w.locals }
  marked_stmt w (Choose site at targets ranges condition) = record { stmts = mark w (Choose site at targets ranges condition) done; locals = w.locals }
  marked_stmt w (Branch branches otherwise) =
      let taken = marked_branches w branches in
      let last = marked (ghostly (over w taken.locals) taken.is_ghost) otherwise in
      record { stmts = mark_branch w taken.branches last.stmts; locals = last.locals }
  marked_stmt w (While site at guard invariants decreases body) =
      let turn = marked (inside w (While site at guard invariants decreases body)) body in
      record { stmts = mark w (While site at guard invariants decreases turn.stmts) done; locals = turn.locals }
  marked_stmt w (Break at) = record { stmts = next (Break at) done; locals = w.locals }
  marked_stmt w (Return at update) = record { stmts = next (Return at update) done; locals = w.locals }
  marked_stmt w (Check demand) = record { stmts = mark w (Check demand) done; locals = w.locals }
  marked_stmt w (Prove site at aim body) =
      let proof = marked (proof_watch (ghostly w true) aim.ranges) body in
      record { stmts = mark w (Prove site at aim proof.stmts) done; locals = proof.locals }
  marked_stmt w (Print at operands) = record { stmts = next (Print at operands) done; locals = w.locals }
  marked_stmt w (Publish site at class fields this) = record { stmts = next (Publish site at class fields this) done; locals = w.locals }
  marked_stmt w (Ghost body) = marked (ghostly w true) body

  pub marked_branches : Watch → Branches → MarkedBranches
  marked_branches w no_branch = record { branches = no_branch; locals = w.locals; is_ghost = w.is_ghost }
  marked_branches w (branch guard body rest) =
      let g = ghostly w (mentions_ghost w guard) in
      let taken = marked g body in
      let others = marked_branches (over g taken.locals) rest in
      record { branches = branch guard taken.stmts others.branches; locals = others.locals; is_ghost = others.is_ghost }

-- with the marks of its locals
abbrev pub with_marks : List Bool → List Variable → List Variable
with_marks marks [] = []
with_marks [] (x ∷ xs) = x ∷ xs
with_marks (mark ∷ marks) (x ∷ xs) = record x { is_ghost = mark } ∷ with_marks marks xs

-- a method or a lemma whose ghost code is marked; the program gives what its calls mean
abbrev pub marked_method : Program → Method → Method
marked_method p m =
    let body = marked (watch_of p m.head) m.body in
    record m { head = record m.head { locals = with_marks body.locals m.head.locals }; body = body.stmts }
