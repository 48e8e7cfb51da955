-- `fir::work::Work::place` meets its contract: each window of the block begins in it. Assumes nothing.
use mathlib.Core.Path.{refl}
use Prim.Native.Nat.{ℕ, ◌+◌, ◌*◌, ◌<◌}
use native.Mathlib.Omega.{arith}
use lib.ListN.{length}
use Rattle.fir.proofs.Counting.{count_in}
use Rattle.fir.proofs.work.Work.place.Goals as goal
use Rattle.fir.specs.declared.work.Work.{Work}

-- output j's window begins in the block
begins : (w : Work) (j : ℕ) → j < w.count → w.phase + j * w.factor < length w.input.now
begins w j h = count_in w.factor w.some w.phase (length w.input.now) j (omega (arith, w.is))

pub overflow_mul-result : goal.overflow_mul-result
overflow_mul-result c = let h = begins c.args.self.now c.args.j c.requires in omega (arith, c.args.self.now.short)

pub overflow_add-result : goal.overflow_add-result
overflow_add-result c = let h = begins c.args.self.now c.args.j c.requires in omega (arith, c.args.self.now.short)

pub returns : goal.returns
returns c = (refl, begins c.args.self.now c.args.j c.requires)
