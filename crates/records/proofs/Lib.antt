pub mod NameSetLaws
pub mod PlaceLaws
