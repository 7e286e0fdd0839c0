-- Where the code stands, as trees.
use Rattle.std.specs.Prelude.{length}
use Rattle.df_nmeas.specs.Measuring.{measured_in}
use Rattle.df_nledger.specs.Said.{said_in}
use Rattle.df_nledger.specs.Ledger.{way_over}
use Rattle.df_nflow.specs.Views.{all_kept_in, arrivals_in}
use Rattle.df_nflow.specs.Standing.{Standing}
use Rattle.df_nflow.specs.declared.passed.Passed as declared

abbrev pub standing_of : declared.Passed → Standing
standing_of p = record {
  types = p.types.items;
  entry = measured_in p.ledger.nodes p.entry.items;
  said = said_in p.ledger.nodes p.ledger.said.items;
  fresh = length p.ledger.frees.items;
  way = way_over p.ledger.nodes p.ledger.path p.terms.items;
  trail = all_kept_in p.ledger.nodes p.trail.items;
  breaks = arrivals_in p.ledger.nodes p.breaks.items;
  returns = arrivals_in p.ledger.nodes p.returns.items;
}
