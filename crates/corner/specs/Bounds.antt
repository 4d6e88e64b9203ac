-- The bounds that the inner functions ask of offsets, radii and sides stand beside those of edges.
-- Assumes nothing.
pub use Rattle.corner.specs.EdgeBounds.{wide_offset, wide_radius, wide_stroke_side}
