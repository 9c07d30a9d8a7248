pub mod LayoutOf
