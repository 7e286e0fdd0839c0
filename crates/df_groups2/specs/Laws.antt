-- What groups are whatever they are numbered by.
use Rattle.std.specs.Prelude.{◌≡◌, ◌<◌, ℕ, List, length}
use Rattle.df_types.specs.Program.{Program}
use Rattle.df_types.specs.Calls.{group_at, AreGroups}

-- declarations that have one group have one in any other groups of the program
abbrev pub OnePartition : Type 0
OnePartition =
    (program : Program) (groups others : List ℕ) → AreGroups program groups → AreGroups program others → (one other : ℕ) → one < length program.decls → other < length program.decls
    → group_at groups one ≡ group_at groups other → group_at others one ≡ group_at others other
