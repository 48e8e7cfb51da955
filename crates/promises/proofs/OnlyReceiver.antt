-- No second answer meets the contract of either call of the receiver, the demo's work. Assumes nothing.
use Rattle.receiver.proofs.Receiver as receiver
use Rattle.receiver.specs.contracts.Receiver as receiver-says
use Rattle.promises.specs.Contract.{NoSecond}
use Rattle.promises.proofs.OneAnswer.{one_answer}

pub receiver_new : NoSecond receiver-says.new.ended receiver.new.Reads.Learnt
receiver_new h x y = one_answer (λ g. (g.0, (g.1, (g.2, (g.3, tt)))))

-- its second clause, that the count is within the output, follows from the first
pub receiver_receive : NoSecond receiver-says.receive.ended receiver.receive.Reads.Learnt
receiver_receive h x y e e' = one_answer (λ g. (g.0, (tt, (tt, (g.1, (g.2, (tt, (g.3, tt)))))))) e.0 e'.0
