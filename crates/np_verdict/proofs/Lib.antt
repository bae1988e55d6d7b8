pub mod Verdicts
mod Totals
mod Resolving
