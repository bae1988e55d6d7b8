pub mod Later
mod Loading
