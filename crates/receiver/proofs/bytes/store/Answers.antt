-- `receiver::bytes::store` meets its contract: each turn stores the four bytes that come next. Assumes nothing.
use Prim.Native.Nat.{◌+◌, ◌*◌, ◌-◌, ◌≤◌, ◌<◌}
use native.Mathlib.Omega.{arith}
use mathlib.Core.Path.{◌≡◌, refl, sym, ◌∙◌}
use mathlib.Core.List.{◌++◌}
use lib.ListN.{length, get_or, drop, drop_of_length-le}
use lib.Ieee.{nan, binary32, to_bits}
use borrow.Rule.Slice.PartMut.{put_mid, same_len_mid}
use Rattle.std.specs.Int.{w32, to_le_bytes}
use Rattle.stage.proofs.Filling.{Filling, filling_begins, filling_ends}
use Rattle.receiver.specs.Bytes.{little_endian}
use Rattle.receiver.proofs.Lengths.{length_bytes}
use Rattle.receiver.proofs.bytes.Fours.{filling_put, next_four}
use Rattle.receiver.proofs.bytes.store.Goals as goal

pub loop-k-init : goal.loop-k-init
loop-k-init c =
    let a = c.args in
    (refl, filling_begins (little_endian a.xs.now) a.output.now (omega (arith, length_bytes a.xs.now)))

pub loop-k-preserved : goal.loop-k-preserved
loop-k-preserved c =
    let l = c.loop-k in
    let xs = c.args.xs.now in
    let here : l.k < length xs = omega arith in
    let part = c.copy_from_slice.new.self in
    let k = 4 * l.k + 4 - 4 * l.k in
    let four : k ≡ 4 = omega arith in
    let is : part ≡ to_le_bytes w32 (to_bits binary32 (get_or xs l.k nan)) = rw (c.copy_from_slice.ensures.after, c.to_le_bytes-bytes.ensures, c.f32_to_bits_with_nan.ensures) refl in
    let long : length (put_mid (4 * l.k) k l.output part) ≡ length l.output = same_len_mid (4 * l.k) k l.output part c.copy_from_slice.ensures.len in
    let room : 4 * l.k + k ≤ length l.output = omega (arith, l.invariant.0) in
    let next : 4 * (l.k + 1) ≡ 4 * l.k + k = omega arith in
    let to-come : Filling (little_endian xs) (4 * l.k) (part ++ little_endian (drop (l.k + 1) xs)) l.output = rw (is, ← next_four xs l.k nan here) l.invariant.1 in
    (long ∙ l.invariant.0, rw next (filling_put part to-come (rw is (sym four)) room long))

pub returns : goal.returns
unfolding little_endian
returns c =
    let l = c.loop-k in
    let xs = c.args.xs.now in
    let past : length xs ≤ l.k = omega arith in
    filling_ends (rw (drop_of_length-le xs past) at l.invariant.1)
