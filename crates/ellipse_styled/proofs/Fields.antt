-- Two styled scanlines are equal by their ends.
-- Assumes nothing.
use mathlib.Core.Path.{◌≡◌}
use Rattle.scanline.specs.declared.StyledRuns.{StyledRuns}

pub scanline_by_ends : {a b : StyledRuns} → a.stroke_left.start ≡ b.stroke_left.start → a.stroke_left.end
    ≡ b.stroke_left.end
    → a.fill.start ≡ b.fill.start → a.fill.end ≡ b.fill.end
    → a.stroke_right.start ≡ b.stroke_right.start → a.stroke_right.end ≡ b.stroke_right.end → a ≡ b
scanline_by_ends p q r s t u i =
    record {
      stroke_left = record { start = p i; end = q i };
      fill = record { start = r i; end = s i };
      stroke_right = record { start = t i; end = u i };
    }
