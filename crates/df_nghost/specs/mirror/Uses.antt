-- The use that is told first, of those that are found one after another.
use Rattle.std.specs.Prelude.{nat_lt, Bool, false, List, [], ◌∷◌, Option, Some, None, if◌then◌else◌}
use Rattle.std.specs.List.{flat_map}
use Rattle.df_base.specs.declared.pos.Pos.{Pos}
use Rattle.df_lang.specs.Stmt.{Measure}
use Rattle.df_lang.specs.Assignment as pure
use Rattle.df_lang.specs.Assignment.{Assigned, has_value, reads}
use Rattle.df_ntyping.specs.Least.{by_number}
use Rattle.df_nghost.specs.declared.reads.Use.{Use}

-- the one is told before the other
abbrev pub precedes : Use → Use → Bool
precedes one other =
    by_number one.pos.line other.pos.line
    (by_number one.pos.col other.pos.col
    (by_number one.local other.local
    (nat_lt one.name other.name)))

abbrev pub shown : pure.Use → Use
shown u = record { local = u.local; name = u.name; pos = u.pos }

abbrev pub use_of : Use → pure.Use
use_of u = record { local = u.local; name = u.name; pos = u.pos }

-- the earlier one, or the first that was found
abbrev pub earlier : Option Use → Use → Option Use
earlier None used = Some used
earlier (Some first) used = if precedes used first then Some used else Some first

-- the first of what was found and these
abbrev pub least : Option Use → List pure.Use → Option Use
least first [] = first
least first (u ∷ others) = least (earlier first (shown u)) others

-- a use was found at an earlier place
abbrev pub is_found_before : Option Use → Pos → Bool
is_found_before None pos = false
is_found_before (Some first) pos = by_number first.pos.line pos.line (nat_lt first.pos.col pos.col)

-- whether it has a value, or else is told
abbrev pub first_with : Bool → Option Use → Use → Option Use
first_with has first used = if has then first else earlier first used

-- the first of what was found and those of these that have no value
abbrev pub pick : Assigned → Option Use → List pure.Use → Option Use
pick before first [] = first
pick before first (u ∷ others) = pick before (first_with (has_value before u.local) first (shown u)) others

abbrev pub reads_of_all : List Measure → List pure.Use
reads_of_all measures = flat_map (λ (measure : Measure). reads measure.value) measures
