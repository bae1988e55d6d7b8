mod Lines
mod Shown
