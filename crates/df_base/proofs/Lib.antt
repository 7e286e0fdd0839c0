pub mod FakesLemmas
pub mod NamesLemmas
pub mod WriteLemmas
