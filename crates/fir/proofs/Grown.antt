-- A slice that is filled from its start with values known beforehand: one more, or a part at a time. Assumes nothing.
use mathlib.Core.Path.{◌≡◌, sym, ap, ◌∙◌}
use mathlib.Core.List.{List, [], ◌++◌, append-nil}
use Prim.Native.Nat.{ℕ, min, ◌+◌, ◌-◌, ◌≤◌, ◌<◌}
use mathlib.Core.Logic.{⊎_elim}
use native.Mathlib.Nat.{zero-add}
use native.Mathlib.Numerals.{add-one}
use native.Mathlib.Omega.{arith}
use lib.ListN.{length, get_or, take, drop, set, length-drop, drop_of_length-le}
use lib.Seq.{take_all, take-suc-set, length-take-le, get_or-take, ext_get_or}
use lib.Ieee.{Float, nan}
use borrow.Rule.Slice.PartMut.{put_mid, mid_of, mid_len, same_len_mid}
use Rattle.std.proofs.lemmas.Slice.{take-put_mid}
use Rattle.stage.specs.Counted.{counted, counted_from}
use Rattle.stage.specs.Layout.{over}
use Rattle.stage.proofs.Counted.{counted_cut, counted_last, counted_at}
use Rattle.stage.proofs.Filling.{length_counted}
use Rattle.fir.proofs.Counting.{lt_or_ge}

-- a slice, once its end `&mut xs[m..]` is ys
pub put_tail : (m : ℕ) (xs ys : List Float) → put_mid m (length xs - m) xs ys ≡ take m xs ++ ys
put_tail m xs ys =
    let none : drop (length xs - m) (drop m xs) ≡ [] = drop_of_length-le (drop m xs) {i = length xs - m} (rw length-drop (omega arith)) in
    ap (λ (l : List Float). take m xs ++ (ys ++ l)) none ∙ ap (λ (l : List Float). take m xs ++ l) (append-nil ys)

-- the part from j on is filled with the next m values
pub grows : (v : ℕ → Float) (out ys : List Float) (j k m : ℕ) → take j out ≡ counted v j → j ≤ length out → ys ≡ counted_from v j m
    → take (j + m) (put_mid j k out ys) ≡ counted v (j + m)
grows v out ys j k m so_far room is =
    let long : j + m ≡ j + length ys = rw (is, length_counted v j m) in
    take-put_mid j k out ys (j + m) long room ∙ rw (so_far, is) (sym (rw zero-add at (counted_cut v 0 j m)))

-- all of them
pub grown : (v : ℕ → Float) (out : List Float) (g n : ℕ) → take n out ≡ counted_from v g n → length out ≤ n → out ≡ counted_from v g n
grown v out g n so_far all = sym (take_all n out all) ∙ so_far

-- n places that are filled s at a time, or what is left of them: the first j are
module _ (v : ℕ → Float) (out : List Float) (n j : ℕ) (all : length out ≡ n) (so_far : take j out ≡ counted v (min j n)) where
  pub grows_to : (ys : List Float) (s end next : ℕ) → j < n → end ≡ min n (j + s) → next ≡ j + s → ys ≡ counted_from v j (end - j)
      → take next (put_mid j (end - j) out ys) ≡ counted v (min next n)
  grows_to ys s end next lt stop on is =
      let new = put_mid j (end - j) out ys in
      let first : min j n ≡ j = omega arith in
      let last : min next n ≡ end = omega arith in
      let to : j + (end - j) ≡ end = omega arith in
      let part : length (mid_of j (end - j) out) ≡ end - j = mid_len j end out (omega arith) in
      let same : length new ≡ n = same_len_mid j (end - j) out ys (ap length is ∙ length_counted v j (end - j) ∙ sym part) ∙ all in
      let more : take end new ≡ counted v end =
      ap (λ (k : ℕ). take k new) (sym to) ∙ grows v out ys j (end - j) (end - j) (so_far ∙ ap (counted v) first) (omega arith) is ∙ ap (counted v) to in
      let reach : take next new ≡ take end new =
      ⊎_elim
      (λ short. ap (λ (k : ℕ). take k new) (omega arith))
      (λ past. take_all next new (omega arith) ∙ sym (take_all end new (omega arith)))
      (lt_or_ge next n) in
      reach ∙ more ∙ ap (counted v) (sym last)

  pub all_grown : n ≤ j → out ≡ counted v n
  all_grown past =
      let e : min j n ≡ n = omega arith in
      sym (take_all j out (omega arith)) ∙ so_far ∙ ap (counted v) e

-- the part as it is called with: as many as it has places
pub part_is : (v : ℕ → Float) (out ys : List Float) (j end : ℕ) → end ≤ length out
    → ys ≡ counted_from v j (length (mid_of j (end - j) out)) → ys ≡ counted_from v j (end - j)
part_is v out ys j end le is = is ∙ ap (counted_from v j) (mid_len j end out le)

-- one more, of values that begin with that of g
pub grows_by_one : (v : ℕ → Float) (out : List Float) (g j : ℕ) → take j out ≡ counted_from v g j → j < length out
    → take (j + 1) (set out j (v (g + j))) ≡ counted_from v g (j + 1)
grows_by_one v out g j so_far room =
    rw (add-one, take-suc-set out j (v (g + j)) room, so_far) (sym (counted_last v g j))

-- the first n lanes are values in a row
pub first_lanes : (v : ℕ → Float) (acc : List Float) (g n : ℕ) → n ≤ length acc → ((l : ℕ) → l < n → get_or acc l nan ≡ v (g + l))
    → take n acc ≡ counted_from v g n
first_lanes v acc g n room is =
    let long : length (take n acc) ≡ n = length-take-le n acc room in
    ext_get_or nan (take n acc) (counted_from v g n) (long ∙ sym (length_counted v g n))
    (λ l lt. get_or-take n acc l nan (omega arith) ∙ is l (omega arith) ∙ sym (counted_at v g n l nan (omega arith)))

-- the start of a slice, once it holds the first n values
pub over_part : (v : ℕ → Float) (o ys : List Float) (n : ℕ) → ys ≡ counted v n → put_mid 0 n o ys ≡ over (counted v n) o
over_part v o ys n is = rw (is, length_counted v 0 n)
