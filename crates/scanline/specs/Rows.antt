-- What a row of a figure is where its y is known: its run, or nothing where the figure lacks the row.
-- Assumes nothing.
use Rattle.std.specs.Prelude.{Option}
use Rattle.geometry_range.specs.declared.Range.{Range}
use Rattle.scanline.specs.declared.StyledRuns.{StyledRuns}

abbrev pub Row : Type 0
Row = Option Range

-- of a styled figure: three runs, or nothing where the stroke area lacks the row
abbrev pub StyledRow : Type 0
StyledRow = Option StyledRuns
