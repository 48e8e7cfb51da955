-- `fir::odd::block_odd` meets its contract. Assumes nothing.
use Rattle.fir.specs.Written.{odd_at}
use Rattle.fir.proofs.odd.block_odd.Goals as goal

pub returns : goal.returns
returns c = c.by_32.ensures (odd_at c.args.taps.now c.args.x.now) (λ g r lt post. (post.0, λ i h below. post.1 i h))
