pub mod Decided
pub mod Facts
pub mod Ends
pub mod States
pub mod Rules
