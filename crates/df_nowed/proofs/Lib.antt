pub mod Words
mod Values
mod Meaning
mod Visits
mod Stacks
mod Parameters
mod Fronts
mod Places
mod Knowing
mod Anew
mod Cutting
