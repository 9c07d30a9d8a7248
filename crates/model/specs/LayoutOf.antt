-- What a layout says of the image that it is of. Assumes nothing.
pub use Rattle.layouts.specs.LayoutOf.{FrameOf, LayoutOf, OfKind}
