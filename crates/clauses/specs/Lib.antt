pub mod Known
pub mod Each
