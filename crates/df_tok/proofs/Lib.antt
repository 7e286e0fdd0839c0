mod Lists
mod Values
mod Words
mod Signs
mod Outsides
mod Literals
mod Comments
mod Identifiers
mod Lexemes
mod OneKind
mod Pieces
mod Divisions
mod Results
mod Begins
mod Faults
mod OneFault
mod Ordered
pub mod Examples
