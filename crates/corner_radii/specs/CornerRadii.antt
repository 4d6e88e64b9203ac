-- Document 01: the corner radii of a box as 'The records' limits them, 'Rectangle and offset' offsets them and 'Corners'
-- confines them (`corner_radii.rs`); document 02, 'Two': confined radii have their fraction, and 'Four': those of a W3C box grow by a
-- rule of their own.
-- Assumes nothing.
use Rattle.std.specs.Prelude.{cond, ℕ, ◌+◌, ℤ, pos, negsuc}
use Rattle.geometry.specs.declared.Size.{Size}
use Rattle.refusal.specs.declared.Refusal.TheVariants.{Radius}
use Rattle.refusal.specs.Refusal.{refuse_if, or_else, above, Checked}
use Rattle.geometry.specs.Limits.{max_radius}
use Rattle.corner.specs.declared.edge.Edge.{Edge}
use Rattle.corner.specs.declared.edge.Edges.{Edges}
use Rattle.corner.specs.Edge.{S, L, over, most_over, tightest, some_over}
use Rattle.corner.specs.Corner.{offset_corner, scaled_corner}
use Rattle.corner.specs.Growth.{grown_corner}
use Rattle.corner_radii.specs.declared.CornerRadii.{CornerRadii}
use Rattle.corner_radii.specs.declared.ConfinedRadii.{ConfinedRadii}

-- one change made at each corner
abbrev pub each_corner : (Size → Size) → CornerRadii → CornerRadii
each_corner f r =
    record {
      top_left = f r.top_left;
      top_right = f r.top_right;
      bottom_right = f r.bottom_right;
      bottom_left = f r.bottom_left;
    }

-- all corners equal (`CornerRadii::new`)
abbrev pub equal_radii : Size → CornerRadii
equal_radii r = record { top_left = r; top_right = r; bottom_right = r; bottom_left = r }

-- ---- 'The records'
-- 2, at one corner: its width or its height above the limit
unfoldable pub radius_check : Size → Checked
radius_check r = or_else (refuse_if (above max_radius r.width) Radius) (refuse_if (above max_radius r.height) Radius)

-- 2: some radius number above the limit
unfoldable pub radii_check : CornerRadii → Checked
radii_check r =
    or_else (or_else (radius_check r.top_left) (radius_check r.top_right))
    (or_else (radius_check r.bottom_right) (radius_check r.bottom_left))

-- ---- 'Rectangle and offset'
-- a crate box's radii offset by k (`OffsetOutline::offset`)
unfoldable pub offset : CornerRadii → ℤ → CornerRadii
offset r k = each_corner (offset_corner k) r

-- a W3C box's radii grown by k, by Level 3's rule
unfoldable pub grown : CornerRadii → ℕ → CornerRadii
grown r k = each_corner (grown_corner k) r

-- a W3C box's radii offset by k, after they were confined: outward they grow, inward they change like a crate box's
unfoldable pub spread : CornerRadii → ℤ → CornerRadii
spread r (pos k) = grown r k
spread r (negsuc k) = offset r (negsuc k)

-- ---- 'Corners'
-- the edges of a box, in the order top, right, bottom, left
abbrev pub edges : CornerRadii → Size → Edges
edges r size =
    record {
      top = record { sum = r.top_left.width + r.top_right.width; length = size.width };
      right = record { sum = r.top_right.height + r.bottom_right.height; length = size.height };
      bottom = record { sum = r.bottom_left.width + r.bottom_right.width; length = size.width };
      left = record { sum = r.top_left.height + r.bottom_left.height; length = size.height };
    }

-- every radius r becomes floor(r × L / S)
unfoldable pub scaled : ℕ → ℕ → CornerRadii → CornerRadii
scaled l s r = each_corner (scaled_corner l s) r

-- the radii reduced by L over S, and L and S with them, not cancelled
unfoldable pub reduced_by : ℕ → ℕ → CornerRadii → ConfinedRadii
reduced_by l s r = record { radii = scaled l s r; length = l; sum = s }

-- nothing is reduced
abbrev pub one_over_one : CornerRadii → ConfinedRadii
one_over_one r = reduced_by 1 1 r

-- an edge with S > L reduces every radius, any other none
unfoldable pub reduced : Edge → CornerRadii → ConfinedRadii
reduced e r = cond (over e) (reduced_by (L e) (S e) r) (one_over_one r)

-- the crate rule (`confine`): the first edge with the largest S − L above 0 reduces every radius
unfoldable pub confine : CornerRadii → Size → ConfinedRadii
confine r size = reduced (most_over (edges r size)) r

-- the W3C rule (CSS Backgrounds and Borders Module Level 3, overlapping curves; rounding down is ours): if some S > L,
-- the first edge with the smallest L / S reduces every radius
unfoldable pub confine_w3c : CornerRadii → Size → ConfinedRadii
confine_w3c r size =
    let e = tightest (edges r size) in
    cond (some_over (edges r size)) (reduced_by (L e) (S e) r) (one_over_one r)
