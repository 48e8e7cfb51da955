-- Four bytes stored at once, and the four bytes that come next. Assumes nothing.
use Rattle.std.specs.Int.{w32, to_le_bytes}
use Prim.Native.Nat.{ℕ, ◌+◌, ◌<◌, ◌≤◌}
use native.Mathlib.Numerals.{add-one}
use native.Mathlib.Omega.{arith}
use mathlib.Core.Path.{◌≡◌, refl, ◌∙◌}
use mathlib.Core.List.{List, ◌++◌, append_assoc}
use lib.ListN.{length, get_or, drop}
use lib.Seq.{drop-cons}
use lib.Ieee.{Float, binary32, to_bits}
use borrow.Rule.Slice.PartMut.{put_mid}
use Rattle.std.proofs.lemmas.Slice.{take-put_mid}
use Rattle.stage.proofs.Filling.{Filling}
use Rattle.receiver.specs.Bytes.{little_endian}

-- a part of the slice, stored at once
pub filling_put : {X : Type 0} {goal : List X} {i k : ℕ} {rest out : List X} (part : List X) → Filling goal i (part ++ rest) out → length part ≡ k
    → i + k ≤ length out → length (put_mid i k out part) ≡ length out
    → Filling goal (i + k) rest (put_mid i k out part)
filling_put {goal = goal} {i = i} {k = k} {rest = rest} {out = out} part f e room same =
    let h : i ≤ length out = omega arith in
    let n : i + k ≡ i + length part = omega arith in
    record {
      within = rw same room;
      same = same ∙ f.same;
      so_far = rw (take-put_mid i k out part (i + k) n h, append_assoc) f.so_far;
    }

pub next_four : (xs : List Float) (k : ℕ) (d : Float) → k < length xs
    → little_endian (drop k xs) ≡ to_le_bytes w32 (to_bits binary32 (get_or xs k d)) ++ little_endian (drop (k + 1) xs)
unfolding little_endian
next_four xs k d h = rw (add-one, drop-cons xs k d h) refl
