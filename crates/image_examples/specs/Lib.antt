pub mod Encode
pub mod Images
