pub mod Fold
pub mod RunLaws
