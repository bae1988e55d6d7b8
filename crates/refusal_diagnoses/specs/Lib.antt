pub mod Diagnoses
pub mod Judged
pub mod Marks
