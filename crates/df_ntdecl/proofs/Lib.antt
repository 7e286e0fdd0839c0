mod BoundEnds
mod Bounding
mod NewtypesTold
mod SignaturesTold
mod MethodsTold
mod FilesTold
mod Elaborating
mod Declaring
