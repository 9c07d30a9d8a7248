pub mod Members
pub mod Tests
pub mod Each
