-- What the functions on instances answer.
use Rattle.std.specs.Prelude.{◌≡◌, ℕ, Bool, true, false, List, length, take, Option, None, Some, Result, Ok, Err, Vec}
use Rattle.std.specs.declared.alloc.Global.{Global}
use Rattle.std.specs.declared.alloc.AllocError.{AllocError}
use Rattle.df_form.specs.declared.log.Lit.{Lit}
use Rattle.df_form.specs.Node.{Node}
use Rattle.df_form.specs.Made.{Made}
use Rattle.df_axiom.specs.declared.instances.AxiomFault.{AxiomFault}
use Rattle.df_axiom.specs.declared.instances.AxiomFault.TheVariants.{NoSuch, Memory}
use Rattle.df_axiom.specs.Instance.{Built, Added}

-- a node that was made where it did not stand
abbrev pub Makes : List Node → Result (Option ℕ) AllocError → Option Made → Type 0
Makes new (Ok (Some number)) made = made ≡ Some (record { nodes = new; number = number })
Makes new (Ok None) made = made ≡ None
Makes new (Err e) made = Unit {0}

-- all nodes that were needed, or that one could not be made
abbrev pub Builds : List Node → List ℕ → Result Bool AllocError → Option Built → Type 0
Builds new places (Ok true) built = built ≡ Some (record { nodes = new; places = places })
Builds new places (Ok false) built = built ≡ None
Builds new places (Err e) built = Unit {0}

-- the clause and the nodes with those that it made, or that there is none
abbrev pub Gives : List Node → Result (Option (Vec Lit Global)) AllocError → Option Added → Type 0
Gives new (Ok (Some clause)) line = line ≡ Some (record { nodes = new; clause = clause.items })
Gives new (Ok None) line = line ≡ None
Gives new (Err e) line = Unit {0}

-- a clause, and the nodes with those that it made; nothing is made where there is none
abbrev pub Adds : List Node → List Node → Result (Option (Vec Lit Global)) AllocError → Option Added → Type 0
Adds old new (Ok (Some clause)) line = line ≡ Some (record { nodes = new; clause = clause.items })
Adds old new (Ok None) line = (line ≡ None) × (new ≡ old)
Adds old new (Err e) line = take (length old) new ≡ old

-- the same, but nothing is made where there is none or memory is refused
abbrev pub Instantiates : List Node → List Node → Result (Vec Lit Global) AxiomFault → Option Added → Type 0
Instantiates old new (Ok clause) line = line ≡ Some (record { nodes = new; clause = clause.items })
Instantiates old new (Err NoSuch) line = (line ≡ None) × (new ≡ old)
Instantiates old new (Err Memory) line = new ≡ old
