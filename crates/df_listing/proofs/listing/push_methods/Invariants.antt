use Rattle.std.proofs.Common.{◌≡◌, ◌++◌, map, take}
use Rattle.std.specs.List.{flat_map, AllByRecursion}
use Rattle.df_nmach.specs.View.{method_of}
use Rattle.df_listing.specs.Listing.{method_text}
use Rattle.df_listing.specs.Ordinary.{IsOrdinaryMethod}
use Rattle.df_listing.proofs.listing.push_methods.Given as goal

abbrev pub invariant-loop-method : goal.invariant-loop-method
invariant-loop-method l = record {
  text : l.text.items ≡ l.initial.text.items ++ flat_map method_text (map method_of (take l.method-index l.methods));
  fits : AllByRecursion IsOrdinaryMethod (map method_of (take l.method-index l.methods));
}
