pub mod Left
pub mod Exposed
