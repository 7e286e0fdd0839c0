pub mod LinesRead
pub mod Mapped
pub mod Numbered
pub mod Numerals
pub mod OneText
pub mod Parts
pub mod Partings
pub mod OpsRead
pub mod Placed
pub mod ReadBytes
pub mod StepsRead
pub mod StepsWritten
pub mod SumsRead
pub mod TextRead
pub mod TextWritten
pub mod TwoHalves
pub mod WordsRead
pub mod WordsWritten
mod EachWritten
mod PairsLeft
