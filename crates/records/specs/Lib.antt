pub mod Records
pub mod NameSets
pub mod Places
pub mod Ops
