-- Where the windows of outputs begin: in the block, and far enough before its end. Assumes nothing.
use mathlib.Core.Path.{◌≡◌, ap}
use Prim.Native.Nat.{ℕ, ◌+◌, ◌-◌, ◌*◌, ◌≤◌, ◌<◌}
use native.Mathlib.Nat.{add-mul, one-mul, mul-le-mul_right}
use native.Mathlib.Omega.{arith}
use Rattle.fir.specs.Filter.{count_of}
use Rattle.fir.proofs.Counting.{count_in}

pub pred_mul : (m f : ℕ) → 0 < m → (m - 1) * f + f ≡ m * f
pred_mul m f h =
    let e : m - 1 + 1 ≡ m = omega arith in
    omega (arith, add-mul (m - 1) 1 f, one-mul f, ap (λ (k : ℕ). k * f) e)

-- the window of output i, of m that fit, is in the samples
pub window_fits : (f i m t n : ℕ) → i < m → m * f + t ≤ n + f → i * f + t ≤ n
window_fits f i m t n lt fit =
    let more : (i + 1) * f ≤ m * f = mul-le-mul_right f (omega arith) in
    omega (arith, add-mul i 1 f, one-mul f)

-- output j of the block does
pub place_in : (f q n count j at : ℕ) → 0 < f → count ≡ count_of f q n → j < count → at ≡ q + j * f → at < n
place_in f q n count j at pos is lt e = omega (arith, count_in f pos q n j (omega arith))

-- and so does the last of m from it on
pub row_inside : (f q n count j m at : ℕ) → 0 < f → count ≡ count_of f q n → 0 < m → j + m ≤ count → at ≡ q + j * f → at + m * f < n + f
row_inside f q n count j m at pos is some fit at_j =
    omega (arith, count_in f pos q n (j + m - 1) (omega arith), pred_mul (j + m) f (omega arith), add-mul j m f)
