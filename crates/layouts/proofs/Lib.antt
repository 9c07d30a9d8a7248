pub mod BoundLaws
pub mod FrameLaws
pub mod LayoutLaws
pub mod OwnerLaws
pub mod Before
