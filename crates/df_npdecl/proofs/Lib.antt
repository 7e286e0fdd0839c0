mod Rows
mod Refusals
