mod KindsOfValues
mod Runs
mod Names
mod Entry
mod Refusals
mod Numbers
