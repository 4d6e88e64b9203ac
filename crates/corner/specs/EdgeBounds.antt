-- What the inner functions ask of corners and edges. The bounds are wider than the limits, so that raising those moves no
-- inner contract: radii of 4096 grown by an offset of 256, and sides of 4096 grown by twice that. The sum of two such radii
-- times such a side fits 32 bits.
-- Assumes nothing.
use Rattle.std.specs.Prelude.{ℕ, ◌*◌, ◌≤◌}
use Rattle.corner.specs.declared.edge.Edge.{Edge}
use Rattle.corner.specs.declared.edge.Edges.{Edges}

-- an offset
abbrev pub wide_offset : ℕ
wide_offset = 256

-- a radius number of a stroke area's corner: 4096 + 256
abbrev pub wide_radius : ℕ
wide_radius = 4352

-- a side of a stroke area: 4096 + 2 × 256
abbrev pub wide_stroke_side : ℕ
wide_stroke_side = 4608

-- an edge of a box within these bounds
pub record BoundedEdge (e : Edge) : Type 0 where
  pub sum : e.sum ≤ 2 * wide_radius
  pub length : e.length ≤ wide_stroke_side

pub record BoundedEdges (e : Edges) : Type 0 where
  pub top : BoundedEdge e.top
  pub right : BoundedEdge e.right
  pub bottom : BoundedEdge e.bottom
  pub left : BoundedEdge e.left
