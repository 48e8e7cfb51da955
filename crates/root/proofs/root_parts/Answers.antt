-- `root::root_parts` meets its contract: each way out is a pattern of `Scale.antt`. Assumes nothing.
use mathlib.Core.Path.{◌≡◌, subst}
use Prim.Native.Nat.{ℕ, ◌+◌, ◌-◌, ◌*◌, ◌/◌, ◌%◌, ◌^◌, ◌≤◌, ◌<◌}
use native.Mathlib.Nat.{mod-eq_of_lt, lt_of_lt_of_le}
use native.Mathlib.Omega.{arith}
use lib.Dec.{lit≤}
use Rattle.root.specs.Inside.{IsRoot, Scaled}
use Rattle.root.proofs.Scale.{down_pattern, up_pattern, pattern_lt}
use Rattle.root.proofs.root_parts.Goals as goal
use Rattle.root.proofs.root_parts.Goals.{After-whole_root-q}

-- the shift loses nothing at 64 bits
n-is : (m e j : ℕ) → Scaled m e j → m * 2 ^ j % 2 ^ 64 ≡ m * 2 ^ j
n-is m e j S = mod-eq_of_lt (lt_of_lt_of_le S.most (lit≤ tt))

over : (n s q : ℕ) → q < n - s → s + q < n
over n s q h = omega arith

not-over : (n s q : ℕ) → n - s ≤ q → n ≤ s + q
not-over n s q h = omega arith

-- what `whole_root` ensures, of m * 2 ^ j itself
is-root : (c : After-whole_root-q) → IsRoot (c.args.m * 2 ^ c.places-j.result) c.whole_root-q.result
is-root c =
    subst (λ (x : ℕ). IsRoot x c.whole_root-q.result) (n-is c.args.m c.args.e c.places-j.result c.places-j.ensures) c.whole_root-q.ensures

pub returns-then-n-q : goal.returns-then-n-q
returns-then-n-q c =
    let a = c.args in
    let j = c.places-j.result in
    let q = c.whole_root-q.result in
    let S = c.places-j.ensures in
    let E = c.requires.2 in (
      pattern_lt a.m a.e j q S E (is-root c.before),
      up_pattern a.m a.e j q S E (is-root c.before)
          (over (a.m * 2 ^ j) (q * q) q (subst (λ (x : ℕ). q < x - q * q) (n-is a.m a.e j S) c.if-n-q.true)),
    )

less : (a b c : ℕ) → a + (b + 1) < c → a + b < c
less a b c h = omega arith

pub returns : goal.returns
returns c =
    let a = c.args in
    let j = c.places-j.result in
    let q = c.whole_root-q.result in
    let S = c.places-j.ensures in
    let E = c.requires.2 in (
      less ((a.e + 149 - j) / 2 * 8388608) q 2139095040 (pattern_lt a.m a.e j q S E (is-root c.before)),
      down_pattern a.m a.e j q S E (is-root c.before)
          (not-over (a.m * 2 ^ j) (q * q) q (subst (λ (x : ℕ). x - q * q ≤ q) (n-is a.m a.e j S) c.if-n-q.false)),
    )
