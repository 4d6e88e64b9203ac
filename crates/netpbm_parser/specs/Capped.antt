-- What the code keeps of a header: places for bytes that are left, and numbers up to a bound. `proofs/Capped.antt` has the laws.
-- Assumes nothing.
use Rattle.std.specs.Prelude.{◌≡◌, false, List, ℕ, min, ◌≤◌, ◌<◌, length, drop, Some, None, Option}
use Prim.{Unit}
use Rattle.netpbm_parser.specs.declared.Header.{Header}
use Rattle.netpbm_parser.specs.Parser.{Parsed, malformed, parsed, number, digits, after_gap, Rest, none, rest, ReadHeader, no_header, headed}

-- the largest number that is kept: any larger one is above every limit, and no maximum
abbrev pub most_kept : ℕ
most_kept = 65536

abbrev pub capped : Parsed → Parsed
capped malformed = malformed
capped (parsed n bytes) = parsed (min n most_kept) bytes

abbrev pub capped_header : ReadHeader → ReadHeader
capped_header no_header = no_header
capped_header (headed format W H raster) = headed format (min W most_kept) (min H most_kept) raster

-- what the code's answers say of a file
abbrev pub number_in : List ℕ → Option (ℕ × ℕ) → Parsed
number_in file None = malformed
number_in file (Some (n, behind)) = parsed n (drop behind file)

abbrev pub place_in : List ℕ → Option ℕ → Rest
place_in file None = none
place_in file (Some at) = rest (drop at file)

abbrev pub header_in : List ℕ → Option Header → ReadHeader
header_in file None = no_header
header_in file (Some header) = headed header.format header.width header.height (drop header.raster file)

-- the places lie in the file, and numbers are kept
abbrev pub NumberWithin : List ℕ → Option (ℕ × ℕ) → Type 0
NumberWithin file None = Unit {0}
NumberWithin file (Some (n, behind)) = (n ≤ most_kept) × (behind ≤ length file)

abbrev pub PlaceWithin : List ℕ → Option ℕ → Type 0
PlaceWithin file None = Unit {0}
PlaceWithin file (Some at) = at ≤ length file

abbrev pub HeaderWithin : List ℕ → Option Header → Type 0
HeaderWithin file None = Unit {0}
HeaderWithin file (Some header) =
    (header.width ≤ most_kept) × (header.height ≤ most_kept) × (header.raster ≤ length file)

-- r is the place behind one piece of a gap at a place of the file, a whitespace byte or a comment; or that place where there is none
pub record Piece (file : List ℕ) (at r : ℕ) : Type 0 where
  pub from : at ≤ r
  pub to : r ≤ length file
  pub past : after_gap false (drop at file) ≡ after_gap false (drop r file)
  pub some : at < r → number (drop at file) ≡ after_gap false (drop r file)
  pub none : r ≤ at → (number (drop at file) ≡ malformed) × (after_gap false (drop at file) ≡ digits (drop at file))
