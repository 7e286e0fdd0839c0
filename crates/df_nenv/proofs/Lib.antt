mod Latest
mod Scoping
mod Foreseen
mod Casting
