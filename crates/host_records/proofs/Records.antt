-- Numbers that are a figure or a style have its length.
-- Assumes nothing.
use mathlib.Core.Path.{◌≡◌, refl}
use mathlib.Core.Bool.{Bool, true, false, ◌&&◌}
use mathlib.Core.List.{List}
use borrow.Author.Tests.{eqb-true}
use lib.IntN.{ℤ}
use lib.ListN.{length}
use Rattle.host_records.specs.RecordNumbers.{figure_length, style_length, is_figure, is_style}

pub first_true : (a b : Bool) → (a && b) ≡ true → a ≡ true
first_true true b both = refl
first_true false b both = both

pub figure_length_lem : (numbers : List ℤ) → is_figure numbers ≡ true → length numbers ≡ figure_length
unfolding is_figure
figure_length_lem numbers is = eqb-true (length numbers) figure_length (first_true _ _ is)

pub style_length_lem : (numbers : List ℤ) → is_style numbers ≡ true → length numbers ≡ style_length
unfolding is_style
style_length_lem numbers is = eqb-true (length numbers) style_length (first_true _ _ is)
