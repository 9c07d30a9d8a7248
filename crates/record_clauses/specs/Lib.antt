pub mod Found
pub mod Known
