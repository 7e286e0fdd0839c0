pub mod Running
mod Straight
mod Parity
mod Counting
mod Fibonacci
mod Wide
