mod Turning
mod TypedParts
mod Opening
mod LastWrong
mod ArgumentsSoFar
mod PartsSoFar
mod RowsSoFar
mod Told
