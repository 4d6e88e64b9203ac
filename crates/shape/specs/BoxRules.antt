-- Document 01, 'Corners' and 'Rectangle and offset', of a whole box: its confined radii and its offset; document 02, 'Four': how a W3C
-- box grows.
-- Assumes nothing.
use Rattle.std.specs.Prelude.{ℤ}
use Rattle.rectangle.specs.Rectangle.{offset as rectangle_offset}
use Rattle.corner_radii.specs.CornerRadii.{offset as corner_radii_offset, spread as corner_radii_spread, confine, confine_w3c}
use Rattle.rounded_rectangle.specs.declared.RoundedRectangle.{RoundedRectangle}
use Rattle.rounded_rectangle.specs.declared.ConfinedBox.{ConfinedBox}
use Rattle.rounded_rectangle.specs.ConfinedBox.{plain_box}

-- a box with its radii confined to its size, by the crate rule and by the W3C rule
unfoldable pub confined : RoundedRectangle → ConfinedBox
confined b = record { rectangle = b.rectangle; corners = confine b.corners b.rectangle.size }

unfoldable pub confined_w3c : RoundedRectangle → ConfinedBox
confined_w3c b = record { rectangle = b.rectangle; corners = confine_w3c b.corners b.rectangle.size }

-- a crate box offset: the rectangle about its centre, the radii by k, not confined
unfoldable pub offset_box : RoundedRectangle → ℤ → RoundedRectangle
offset_box b k = record { rectangle = rectangle_offset b.rectangle k; corners = corner_radii_offset b.corners k }

-- a W3C box's second step of three: the rectangle about its centre, the radii outward by Level 3's rule and inward like a crate box's
unfoldable pub spread_box : RoundedRectangle → ℤ → RoundedRectangle
spread_box b k = record { rectangle = rectangle_offset b.rectangle k; corners = corner_radii_spread b.corners k }

-- a W3C box offset: confined, offset by that step, confined again
abbrev pub offset_w3c_box : RoundedRectangle → ℤ → ConfinedBox
offset_w3c_box b k = confined_w3c (spread_box (plain_box (confined_w3c b)) k)

-- the box by which the rows of an area go, where the area is a crate box or a W3C box offset by k
abbrev pub crate_area : RoundedRectangle → ℤ → RoundedRectangle
crate_area b k = plain_box (confined (offset_box b k))

abbrev pub w3c_area : RoundedRectangle → ℤ → RoundedRectangle
w3c_area b k = plain_box (offset_w3c_box b k)
