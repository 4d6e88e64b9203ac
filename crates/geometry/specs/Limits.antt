-- The limits of document 01, 'The records', each once: everything else cites them by name. In the code each is a constant beside
-- what it limits.
-- Assumes nothing.
use Rattle.std.specs.Prelude.{ℕ}

-- a rectangle's width and height (refusal 1)
abbrev pub max_side : ℕ
max_side = 1024

-- a corner radius's width and height (refusal 2)
abbrev pub max_radius : ℕ
max_radius = 1024

-- a rectangle's x and y, on either side of 0 (refusal 3)
abbrev pub max_position : ℕ
max_position = 4096

-- an asked point's x and y and an asked row, on either side of 0 (refusal 4)
abbrev pub max_asked : ℕ
max_asked = 8192

-- an offset, on either side of 0 (refusal 5)
abbrev pub max_offset : ℕ
max_offset = 256

-- a stroke width (refusal 5)
abbrev pub max_stroke_width : ℕ
max_stroke_width = 256

-- a canvas's width and height, which are at least 1 (refusal 6)
abbrev pub max_canvas_side : ℕ
max_canvas_side = 1024

-- the layers of a sheet (refusals 7 and 9)
abbrev pub max_layers : ℕ
max_layers = 16
