pub mod Connectives
pub mod Growth
pub mod Sound
pub mod SoundBounds
pub mod SoundClauses
pub mod SoundConnectives
pub mod SoundIntegers
pub mod SoundLinear
pub mod SoundNodes
pub mod SoundRows
pub mod Learning
pub mod Scans
pub mod OneClass
pub mod Congruences
mod CongruenceRows
pub mod SoundCongruence
pub mod Logs
pub mod Results
