-- Packing and unpacking, one the other's way back, for rows of any width: a row that was packed unpacks to the bits of its pixels, and
-- bytes that were unpacked pack to themselves where their filling bits are 0.
-- Assumes nothing.
use mathlib.Core.Path.{◌≡◌, refl, sym, ap, ap₂, ◌∙◌}
use mathlib.Core.Bool.{Bool, true, false}
use mathlib.Core.List.{List, [], ◌∷◌, ◌++◌, append_assoc, map, map-append}
use Prim.Native.Nat.{ℕ, zero, suc, ◌+◌, ◌*◌, ◌≤◌, ◌<◌}
use native.Mathlib.Nat.{suc-mul}
use native.Mathlib.Omega.{arith}
use borrow.Author.Tests.{ltb-true, ltb-false}
use lib.Dec.{ltb}
use lib.ListN.{length, take, drop, get_or, length-take, length-drop, length-map, take-append-drop, get_or-map, get_or-eq_default}
use lib.Seq.{ext_get_or, get_or-take, get_or-drop, take_at, drop_at, length-take-le}
use Rattle.netpbm_raster.specs.Raster.{bit, packed_byte, packed_bytes, row_bytes, packed_row, packed_rows, pixels_of, unpacked, unpacked_row, unpacked_rows}
use Rattle.netpbm_raster.specs.RoundTrip.{RowUnpacks, RowRepacks}
use Rattle.netpbm_raster.proofs.Bits.{bit_of_zero, eight_bits, pixels_of_packed, pixels_packed}
use Rattle.netpbm_raster.proofs.Rows.{length_packed_bytes, length_unpacked_row}

-- the pixel at each place of packed bytes is the bit of the row's pixel there
pixel_packed : (n : ℕ) (row : List ℕ) (i : ℕ) → i < 8 * n → get_or (unpacked (packed_bytes n row)) i 0 ≡ bit (get_or row i 0)
unfolding packed_bytes unpacked
pixel_packed zero row i h = absurd (omega arith)
pixel_packed (suc n) row i h = rw (pixels_of_packed row) (by_place i (pixel_packed n (drop 8 row)) h)
  where
    by_place : (i : ℕ) → ((k : ℕ) → k < 8 * n → get_or (unpacked (packed_bytes n (drop 8 row))) k 0 ≡ bit (get_or (drop 8 row) k 0))
        → i < 8 * suc n
        → get_or (eight_bits row ++ unpacked (packed_bytes n (drop 8 row))) i 0 ≡ bit (get_or row i 0)
    by_place zero others h = refl
    by_place (suc zero) others h = refl
    by_place (suc (suc zero)) others h = refl
    by_place (suc (suc (suc zero))) others h = refl
    by_place (suc (suc (suc (suc zero)))) others h = refl
    by_place (suc (suc (suc (suc (suc zero))))) others h = refl
    by_place (suc (suc (suc (suc (suc (suc zero)))))) others h = refl
    by_place (suc (suc (suc (suc (suc (suc (suc zero))))))) others h = refl
    by_place (suc (suc (suc (suc (suc (suc (suc (suc k)))))))) others h =
        let place : 8 + k ≡ suc (suc (suc (suc (suc (suc (suc (suc k))))))) = omega arith in
        others k (omega arith) ∙ ap bit (get_or-drop 8 row k 0 ∙ ap (λ (i : ℕ). get_or row i 0) place)

-- a packed row unpacks to the bits of its pixels
pub row_unpacks : RowUnpacks
row_unpacks W row long =
    let bytes = packed_row W row in
    let wide : length (unpacked_row W bytes) ≡ W = length_unpacked_row W bytes (rw (length_packed_bytes (row_bytes W) row) (omega arith)) in
    ext_get_or 0 (unpacked_row W bytes) (map bit row) (wide ∙ sym long ∙ sym (length-map row bit))
    (λ (i : ℕ) (h : i < length (unpacked_row W bytes)).
    get_or-take W (unpacked bytes) i 0 (omega arith)
    ∙ pixel_packed (row_bytes W) row i (omega arith)
    ∙ sym (get_or-map bit row i 0)
    ∙ zero_read (map bit row) i)
  where
    zero_read : (l : List ℕ) (i : ℕ) → get_or l i (bit 0) ≡ get_or l i 0
    zero_read l i = ap (λ (d : ℕ). get_or l i d) (bit_of_zero 0 refl)

-- packed rows unpack to the bits of a canvas, whatever stands behind them
pub rows_unpack : (W H : ℕ) (canvas behind : List ℕ) → length canvas ≡ H * W
    → unpacked_rows W H (packed_rows W H canvas ++ behind) ≡ map bit canvas
unfolding packed_rows unpacked_rows
rows_unpack W zero [] behind long = refl
rows_unpack W zero (a ∷ canvas) behind long = absurd (omega arith)
rows_unpack W (suc H) canvas behind long =
    let more = suc-mul H W in
    let row = take W canvas in
    let bytes = packed_row W row in
    let rest = packed_rows W H (drop W canvas) ++ behind in
    let wide : length row ≡ W = length-take-le W canvas (omega arith) in
    let left : length (drop W canvas) ≡ H * W = simp length-drop (omega arith) in
    let first = take_at bytes rest (row_bytes W) (length_packed_bytes (row_bytes W) row) in
    let others = drop_at bytes rest (row_bytes W) (length_packed_bytes (row_bytes W) row) in
    rw (append_assoc, first, others, row_unpacks W row wide, rows_unpack W H (drop W canvas) behind left)
    (sym (map-append bit row (drop W canvas)) ∙ ap (λ (l : List ℕ). map bit l) (take-append-drop W canvas))

-- rows that read the same pixel at every place pack to the same bytes
same_pixels : (n : ℕ) (row other : List ℕ) → ((i : ℕ) → get_or row i 0 ≡ get_or other i 0) → packed_bytes n row ≡ packed_bytes n other
unfolding packed_bytes packed_byte
same_pixels zero row other same = refl
same_pixels (suc n) row other same =
    rw (same 0, same 1, same 2, same 3, same 4, same 5, same 6, same 7)
    (ap (λ (l : List ℕ). packed_byte other ∷ l)
    (same_pixels n (drop 8 row) (drop 8 other) (λ (i : ℕ). get_or-drop 8 row i 0 ∙ same (8 + i) ∙ sym (get_or-drop 8 other i 0))))

-- bytes that were unpacked whole pack to themselves
bytes_repack : (bytes : List ℕ) → ((i : ℕ) → get_or bytes i 0 < 256) → packed_bytes (length bytes) (unpacked bytes) ≡ bytes
unfolding packed_bytes packed_byte unpacked pixels_of
bytes_repack [] small = refl
bytes_repack (byte ∷ bytes) small =
    ap₂ (λ (b : ℕ) (l : List ℕ). b ∷ l) (pixels_packed byte (small 0)) (bytes_repack bytes (λ (i : ℕ). small (suc i)))

-- bytes of which the bits behind a row are 0 are what that row packs to
pub row_repacks : RowRepacks
row_repacks W bytes long small filled =
    same_pixels (row_bytes W) (unpacked_row W bytes) (unpacked bytes) agree
    ∙ ap (λ (n : ℕ). packed_bytes n (unpacked bytes)) (sym long)
    ∙ bytes_repack bytes small
  where
    by_test : (t : Bool) (i : ℕ) → ltb i W ≡ t → get_or (take W (unpacked bytes)) i 0 ≡ get_or (unpacked bytes) i 0
    by_test true i below = get_or-take W (unpacked bytes) i 0 (ltb-true i W below)
    by_test false i above =
        let past : length (take W (unpacked bytes)) ≤ i = omega (arith, ltb-false i W above, length-take W (unpacked bytes)) in
        get_or-eq_default (take W (unpacked bytes)) 0 past ∙ sym (filled i (ltb-false i W above))

    agree : (i : ℕ) → get_or (unpacked_row W bytes) i 0 ≡ get_or (unpacked bytes) i 0
    agree i = by_test (ltb i W) i refl
