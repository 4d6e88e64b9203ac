-- What a host is told of a call that put its values, refused or had nothing to give.
-- Assumes nothing.
use mathlib.Core.Path.{◌≡◌, refl, sym, ap, ap₂, subst, ◌∙◌}
use mathlib.Core.Bool.{true}
use mathlib.Core.List.{List, [], ◌∷◌, map}
use Prim.Native.Nat.{ℕ, suc}
use native.Mathlib.Omega.{arith}
use lib.IntN.{ℤ, pos}
use lib.ListN.{length, length-map}
use lib.Seq.{sets}
use lib.Signed.{lt_z}
use mir.Syntax.{w32}
use mir.Val.{SFits, to_z, of_z}
use mir.Facts.{to_z-of_z}
use Rattle.signed.proofs.Laws.{int, range}
use Rattle.signed.specs.Signed.{max_i32, Is}
use Rattle.refusal.specs.Refusal.{answer_number, Outcome, refused, answered, keeping, room_check, Checked}
use Rattle.host_answers.specs.HostAnswers.{nothing_there, told, held_by32, out_after, Tells}

-- a number that 32 bits with a sign hold comes out as it is
pub held_signed : (z : ℤ) → SFits w32 z → held_by32 z ≡ z
unfolding held_by32
held_signed z fits =
    let test : lt_z z (pos (suc max_i32)) ≡ true = omega (arith, int, range {w = w32} {z = z} fits) in
    rw test

-- the same of one that was read from its 32 bits
pub read_held : (z : ℤ) → SFits w32 z → to_z w32 (of_z w32 z) ≡ held_by32 z
read_held z fits = to_z-of_z fits ∙ sym (held_signed z fits)

-- and of an unsigned one that was made to fit them
pub held_read : (n : ℕ) {r : ℤ} → Is (held_by32 (pos n)) r → to_z w32 (of_z w32 r) ≡ held_by32 (pos n)
held_read n is = to_z-of_z is.fits ∙ is.is

-- refused
pub tells_refused : (n : ℕ) (out : List ℤ) → Tells (refused n) out n out
unfolding told out_after
tells_refused n out = record { answer = refl; values = refl }

-- an outcome that is another one's equal, and a refusal that was told by its number
pub tells_as : {o o' : Outcome} {out : List ℤ} {r : ℕ} {out' : List ℤ} → o ≡ o' → Tells o out r out' → Tells o' out r out'
tells_as {out = out} {r = r} {out' = out'} same tells = subst (λ (o : Outcome). Tells o out r out') same tells

pub tells_refusal : {o : Outcome} {n r : ℕ} (out : List ℤ) → refused n ≡ o → r ≡ n → Tells o out r out
tells_refusal {o} {n} {r} out same number_is =
    subst (λ (m : ℕ). Tells o out m out) (sym number_is) (tells_as same (tells_refused n out))

-- nothing to give
pub tells_nothing : (out : List ℤ) → Tells (answered []) out nothing_there out
unfolding told out_after
tells_nothing out = record { answer = refl; values = refl }

-- values put, where there is room
module _ (v : ℤ) (rest out : List ℤ) where
  -- as many as there are
  abbrev room : List ℤ → Checked
  room values = room_check (length values) (length out)

  same_room : room (map held_by32 (v ∷ rest)) ≡ room (v ∷ rest)
  same_room = ap (λ (n : ℕ). room_check n (length out)) (length-map (v ∷ rest) held_by32)

  pub tells_put : (values : List ℤ) → values ≡ map held_by32 (v ∷ rest) → (r : ℕ) (out' : List ℤ)
      → r ≡ answer_number (room values) → out' ≡ keeping (room values) out (sets out 0 values) → Tells (answered (v ∷ rest)) out r out'
  unfolding told out_after
  tells_put values same r out' answer put =
      let roomy = ap room same ∙ same_room in
      record {
        answer = answer ∙ ap answer_number roomy;
        values = put ∙ ap₂ (λ (c : Checked) (vs : List ℤ). keeping c out (sets out 0 vs)) roomy same;
      }
