mod Answered
mod Headlines
