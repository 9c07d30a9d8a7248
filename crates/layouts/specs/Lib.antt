pub mod LayoutOf
pub mod Layouts
pub mod Owners
