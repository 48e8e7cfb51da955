-- `angle::rest::doubled` meets its contract: a doubling of what is left leaves what a doubling leaves. Assumes nothing.
use Rattle.std.proofs.Common.{◌≡◌, ℕ, ◌+◌, ◌*◌, ◌%◌, ◌^◌, ap, ◌∙◌, add-one, mul_assoc, mul_comm}
use Rattle.std.proofs.Math.Nat.{pow-suc}
use Rattle.std.proofs.lemmas.Nat.{mul-mod_second}
use Rattle.angle.proofs.rest.doubled.Goals as goal

twice : (m k : ℕ) → 2 * (m * 2 ^ k) ≡ m * 2 ^ (k + 1)
twice m k = rw (add-one, pow-suc) (mul_comm 2 (m * 2 ^ k) ∙ mul_assoc m (2 ^ k) 2)

pub loop-preserved : goal.loop-preserved
loop-preserved c =
    let k = c.loop.counter in
    let m = c.args.m in
    ap (λ (x : ℕ). 2 * x % 7074237752028440) c.loop.invariant ∙ mul-mod_second 2 (m * 2 ^ k) 7074237752028440 ∙ ap (λ (x : ℕ). x % 7074237752028440) (twice m k)
