mod Told
mod Elaborated
mod Assigned
mod Complete
mod CompleteStatements
pub mod Types
pub mod Order
pub mod LeastExists
mod OneMissing
pub mod ExprOrder
pub mod SideOrder
pub mod PartOrder
pub mod StatementOrder
pub mod FileOrder
pub mod First
mod WellTyped
pub mod TypedIsWellTyped
mod Elaborations
mod Rows
pub mod FirstFault
pub mod Breaking
mod MeetingTypes
pub mod OpenExprs
mod Fitting
pub mod Silent
pub mod Standing
pub mod Found
pub mod Verdict
mod Giving
mod Runs
mod RunRows
mod Implications
mod Wholes
mod Judged
pub mod WantedTold
pub mod AllNodes
pub mod ExprStands
pub mod StatementStands
mod FileStands
pub mod KnownTypes
pub mod SameBehind
mod KnownBehind
pub mod KeptTypes
pub mod ScopedLocals
pub mod Ranges
pub mod ClauseExprs
mod GuardMeasures
mod Fits
mod CoveredLocals
mod SidesWellTyped
mod StatementsWellTyped
mod Unmarked
pub mod FirstLocals
pub mod ProgramWellTyped
pub mod MovedNodes
pub mod SoundNodes
pub mod SoundSides
pub mod SoundStatements
pub mod SoundFiles
pub mod LikeEnvironments
pub mod WholeTypes
pub mod DeclaredLocals
pub mod BehindLengths
pub mod FaultlessNodes
pub mod WalkedTypes
mod WalkedVariables
pub mod WalkedStatements
pub mod ElaboratedSides
pub mod ElaboratedStatements
pub mod ReadyMethods
pub mod ElaboratedFiles
pub mod NamedFiles
mod Alike
mod OneRefusal
pub mod ArgumentPlaces
mod NamedExamples
