mod Outcomes
mod Sources
mod Histories
