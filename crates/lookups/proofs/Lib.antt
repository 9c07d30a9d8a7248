pub mod Ready
pub mod Lookups
pub mod Inside
