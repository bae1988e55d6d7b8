pub mod LowText
