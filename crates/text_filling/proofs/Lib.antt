mod Nths
mod Wholes
