pub mod Modulo
pub mod Loops
pub mod BlockLaws
pub mod Unions
