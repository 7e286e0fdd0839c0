-- Whether the names of a small file have meanings, by computation.
use Rattle.std.proofs.Common.{◌≡◌, ℕ, false, true≢false, [], ◌∷◌, None, refl}
use Rattle.df_ntree.specs.File.{File, Declaration, Method, done}
use Rattle.df_ntyping.specs.FileElaboration.{HasNames}
use Rattle.df_ntyping.specs.FileNodes.{file_nodes}
use Rattle.df_ntyping.specs.Node.{Occurrence}
use Rattle.df_ntyping.specs.rules.Names.{breaks_unknown, breaks_twice}
use Rattle.df_ntyping.proofs.AllNodes.{each_in, there}
use Rattle.df_ntyping.proofs.Told.{at, ident}

abbrev KeepsNames : Occurrence → Type 0
KeepsNames one = (breaks_unknown one.env one.node ≡ false) × (breaks_twice one.env one.node ≡ false)

-- `method M() { }`
abbrev method_on : ℕ → Declaration
method_on line = Method (record { name = ident 0 line 8; parameters = []; results = None; clauses = []; body = record { pos = at line 12; statements = done } })

abbrev once : File
once = record { declarations = method_on 1 ∷ [] }

abbrev twice : File
twice = record { declarations = method_on 1 ∷ method_on 2 ∷ [] }

pub once_has_names : HasNames once
once_has_names = λ one here. there {P = KeepsNames} (file_nodes once) one (record { each = ((refl, refl), tt) }) here

-- the second one has the name of the first: S7
pub twice_has_none : HasNames twice → ⊥
twice_has_none named = let all = each_in {P = KeepsNames} (file_nodes twice) named in true≢false (all.each.1.0.1)
