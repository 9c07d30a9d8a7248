pub mod Sites
pub mod Boxes
