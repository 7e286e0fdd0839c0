use Rattle.df_nledger.proofs.Words.{grows_not}
use Rattle.std.proofs.Common.{ap}
use Rattle.df_nenc.specs.Standing.{counts_as_number}
use Rattle.df_nledger.proofs.ledger.Ledger.assume_type.Goals as goal

pub assume_is-requires-clause-typed : goal.assume_is-requires-clause-typed
assume_is-requires-clause-typed c = ap counts_as_number c.in-Newtype.is

pub assume_is-requires-in-Nat-clause-typed : goal.assume_is-requires-in-Nat-clause-typed
assume_is-requires-in-Nat-clause-typed c = ap counts_as_number c.in-Nat.is

-- ---- on every way out

pub returns-in-Int-clause-grows : goal.returns-in-Int-clause-grows
returns-in-Int-clause-grows c = grows_not c.args.self.now.nodes

pub returns-in-Bool-clause-grows : goal.returns-in-Bool-clause-grows
returns-in-Bool-clause-grows c = grows_not c.args.self.now.nodes

pub returns-in-Char-clause-grows : goal.returns-in-Char-clause-grows
returns-in-Char-clause-grows c = grows_not c.args.self.now.nodes
