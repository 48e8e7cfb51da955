-- The root of what a format holds is a value of that format. Assumes nothing.
use Prim.Native.Nat.{ℕ, zero, suc, ◌+◌, ◌-◌, ◌*◌, ◌/◌, ◌^◌, compare}
use native.Mathlib.Nat.{le_trans}
use mathlib.Core.Bool.{true, false}
use lib.Dec.{T}
use lib.Ieee.{Float, nan, inf, fin, Format, prec, low, up, down, size, nearest, fits}
use lib.Ieee.Fits.{nearest-le, kept-lt, nan-fits, inf-fits}
use Rattle.number.proofs.Pack.{units_fits}
use Rattle.root.specs.Root.{rooted, nearest_root, root}

nearest_root_fits : (f : Format) (n : ℕ) → T (fits f (nearest_root f n))
unfolding nearest_root
nearest_root_fits f n =
    let k = size (root n) - prec f in
    let q = root n / 2 ^ k in
    let middle = (2 * q + 1) * 2 ^ k in
    let side = compare (4 * n) (middle * middle) in
    units_fits f false (nearest q side) k (le_trans (nearest-le q side) (kept-lt (prec f) (root n)))

pub rooted_fits : (f : Format) (x : Float) → T (fits f x) → T (fits f (rooted f x))
unfolding rooted
rooted_fits f nan h = nan-fits f
rooted_fits f (inf true) h = nan-fits f
rooted_fits f (inf false) h = inf-fits f false
rooted_fits f (fin s zero e) h = h
rooted_fits f (fin true (suc m) e) h = nan-fits f
rooted_fits f (fin false (suc m) e) h = nearest_root_fits f (suc m * up e * (2 ^ low f * 2 ^ low f) / down e)
