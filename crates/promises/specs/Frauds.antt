-- An answer that meets the contract of a call at a marked case: the terms in which the frauds of document 01 are shut out. Definitions only.
use Rattle.std.specs.Prelude.{ℕ, ◌≡◌, List, [], ◌∷◌, take, Float}
use Rattle.std.specs.Float.{nan}
use Rattle.stage.specs.Named.{half}
use Rattle.dc_remover.specs.State.{fresh}
use Rattle.dc_remover.specs.contracts.DcRemover.process_mono as remover
use Rattle.dc_remover.proofs.DcRemover.process_mono.Reads as remover-says
use Rattle.decimator.specs.contracts.Decimator.process_into as decimator
use Rattle.decimator.proofs.Decimator.process_into.Reads as decimator-says
use Rattle.promises.specs.Contract.{Entry, Answer, Meets}
use Rattle.promises.specs.Marked.{whole, taps}

-- to `DcRemover::process_mono` on a fresh remover of alpha 0.5 and these samples
pub record RemoverAnswer (samples : List Float) : Type 0 where
  pub handed : Entry remover.ended
  pub state_is : handed.1.0 ≡ fresh half
  pub samples_are : handed.1.1.0.now ≡ samples
  pub answer : Answer remover.ended handed
  pub meets : Meets remover.ended remover-says.Learnt handed answer

-- what it leaves in the slice
abbrev pub left_by : {samples : List Float} → RemoverAnswer samples → List Float
left_by r = r.answer.1.1.0

-- to `Decimator::process_into` at factor 2 with the marked cases' taps, this phase, history and input, and an output slice that held `output`
pub record DecimatorAnswer (phase : ℕ) (history input output : List Float) : Type 0 where
  pub handed : Entry decimator.ended
  pub state_is : handed.1.0 ≡ record { factor = 2; phase = phase }
  pub taps_are : handed.1.1.0.now ≡ taps
  pub history_is : handed.1.1.1.0.now ≡ history
  pub input_is : handed.1.1.1.1.0.now ≡ input
  pub output_was : handed.1.1.1.1.1.0.now ≡ output
  pub answer : Answer decimator.ended handed
  pub meets : Meets decimator.ended decimator-says.Learnt handed answer

-- the outputs: as many as it counts, from the start of the slice
abbrev pub outputs_of : {phase : ℕ} {history input output : List Float} → DecimatorAnswer phase history input output → List Float
outputs_of d = take d.answer.0.count d.answer.1.1.1.1.1.0

-- marked case 5, and marked case 7, which is the third block, after those of cases 5 and 6
abbrev pub FirstBlock : Type 0
FirstBlock = DecimatorAnswer 0 (whole 0 ∷ whole 0 ∷ []) (whole 1 ∷ whole 2 ∷ whole 3 ∷ whole 4 ∷ whole 5 ∷ []) (nan ∷ nan ∷ nan ∷ nan ∷ [])

abbrev pub ThirdBlock : Type 0
ThirdBlock = DecimatorAnswer 0 (whole 5 ∷ whole 6 ∷ []) (whole 7 ∷ whole 8 ∷ []) (nan ∷ [])
