pub mod Digits
pub mod Rows
pub mod Lines
pub mod TypeLaws
