mod Sampled
mod Faults
