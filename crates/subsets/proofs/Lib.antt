pub mod Lacking
pub mod Walk
