-- The frauds of document 01 meet no contract: what a marked case hands in has one answer, and it is not theirs. Assumes nothing.
use Prim.Native.Nat.{ℕ}
use native.Mathlib.Omega.{arith}
use mathlib.Core.Path.{◌≡◌, refl, sym, ap, ◌∙◌}
use mathlib.Core.List.{List, [], ◌∷◌}
use lib.ListN.{get_or, take}
use lib.Ieee.{Float, nan, binary32, of_bits, to_bits, of_int}
use denote.Ref.{Bor}
use denote.MutBor.{MutBor}
use Rattle.stage.specs.Floats.{plus_zero, one}
use Rattle.stage.specs.Named.{quarter, half}
use Rattle.stage.specs.Call.{Given}
use Rattle.dc_remover.specs.declared.DcRemover.{DcRemover}
use Rattle.dc_remover.specs.State.{fresh}
use Rattle.dc_remover.specs.Process.{given, process_mono}
use Rattle.dc_remover.specs.Cases.{case_8, case_9}
use Rattle.decimator.specs.declared.Decimated.{Decimated}
use Rattle.decimator.specs.Process.{processed}
use Rattle.decimator.specs.Cases.{case_5, case_7}
use Rattle.promises.specs.Marked.{whole, taps}
use Rattle.promises.specs.Frauds.{RemoverAnswer, left_by, DecimatorAnswer, outputs_of, FirstBlock, ThirdBlock}

-- a slice that holds these, wherever it stands, lent to be read and lent to be written
abbrev lend : List Float → Bor (List Float)
lend xs = record { ref_ptr = (0, 0); now = xs }

abbrev lend_mut : List Float → MutBor (List Float)
lend_mut xs = record { ref_ptr = (0, 0); ghost_name = 0; now = xs }

-- ---- whatever meets the contract gives what the definition gives

removed : {samples : List Float} (r : RemoverAnswer samples) → given r.answer.0 (left_by r) ≡ process_mono (fresh half) samples
removed r = rw (r.state_is, r.samples_are) at r.meets

decimated : {phase : ℕ} {history input output : List Float} (d : DecimatorAnswer phase history input output)
    → (d.answer.0, d.answer.1.1.1.0, d.answer.1.1.1.1.1.0) ≡ processed (record { factor = 2; phase = phase }) taps history input output
decimated d = rw (d.state_is, d.taps_are, d.history_is, d.input_is, d.output_was) at d.meets

-- and there is one that does
pub honest_removed : (samples : List Float) → RemoverAnswer samples
honest_removed samples =
    let g = process_mono (fresh half) samples in
    record {
      handed = (([], tt), (fresh half, (lend_mut samples, tt)));
      state_is = refl;
      samples_are = refl;
      answer = (record { refusal = g.refusal; state = g.state; struck = g.struck }, (tt, (g.left, tt)));
      meets = refl;
    }

pub honest_decimated : (phase : ℕ) (history input output : List Float) → DecimatorAnswer phase history input output
honest_decimated phase history input output =
    let g = processed (record { factor = 2; phase = phase }) taps history input output in
    record {
      handed =
          (([], ([], ([], ([], tt)))), (record { factor = 2; phase = phase }, (lend taps, (lend_mut history, (lend input, (lend_mut output, tt))))));
      state_is = refl;
      taps_are = refl;
      history_is = refl;
      input_is = refl;
      output_was = refl;
      answer = (g.0, (tt, (tt, (g.1, (tt, (g.2, tt))))));
      meets = refl;
    }

-- case 8 leaves 0.5, 0.25, and cases 5 and 7 put out 0.25, 2, 4 and 6
left_8 : (r : RemoverAnswer (one ∷ one ∷ [])) → left_by r ≡ half ∷ quarter ∷ []
left_8 r = ap (λ (g : Given DcRemover (List Float)). g.left) (removed r ∙ case_8)

abbrev outputs : Decimated × List Float × List Float → List Float
outputs g = take g.0.count g.2

outputs_5 : (d : FirstBlock) → outputs_of d ≡ quarter ∷ whole 2 ∷ whole 4 ∷ []
unfolding of_bits
outputs_5 d = ap outputs (decimated d ∙ case_5)

outputs_7 : (d : ThirdBlock) → outputs_of d ≡ whole 6 ∷ []
unfolding of_bits
outputs_7 d = ap outputs (decimated d ∙ case_7)

-- lists are told apart by the bits of their first floats
first : List Float → ℕ
first xs = to_bits binary32 (get_or xs 0 nan)

-- ---- 1. a path that refuses all blocks

pub not_refused : (r : RemoverAnswer (one ∷ one ∷ [])) → r.answer.0.refusal ≡ 0
not_refused r = ap (λ (g : Given DcRemover (List Float)). g.refusal) (removed r ∙ case_8)

pub block_not_refused : (d : FirstBlock) → d.answer.0.refusal ≡ 0
unfolding of_bits
block_not_refused d = ap (λ (g : Decimated × List Float × List Float). g.0.refusal) (decimated d ∙ case_5)

-- ---- 2. one that outputs only 0.0

pub not_only_zeros : (r : RemoverAnswer (one ∷ one ∷ [])) → left_by r ≡ plus_zero ∷ plus_zero ∷ [] → ⊥
unfolding first of_bits to_bits
not_only_zeros r e = let d = ap first (sym (left_8 r) ∙ e) in omega arith

pub block_not_only_zeros : (d : FirstBlock) → outputs_of d ≡ plus_zero ∷ plus_zero ∷ plus_zero ∷ [] → ⊥
unfolding first of_bits to_bits
block_not_only_zeros d e = let c = ap first (sym (outputs_5 d) ∙ e) in omega arith

-- ---- 3. a DC remover that touches nothing

pub not_untouched : (r : RemoverAnswer (one ∷ one ∷ [])) → left_by r ≡ r.handed.1.1.0.now → ⊥
unfolding first of_bits to_bits
not_untouched r e = let d = ap first (sym (left_8 r) ∙ e ∙ r.samples_are) in omega arith

-- ---- 4. a decimator that filters the first block and repeats it later: the third block does not begin as the first

pub block_not_repeated : (First-Block : FirstBlock) (third-block : ThirdBlock) → take 1 (outputs_of third-block) ≡ take 1 (outputs_of First-Block) → ⊥
unfolding first of_bits of_int to_bits
block_not_repeated d d' e =
    let c = ap first (ap {B = List Float} (take 1) (sym (outputs_7 d')) ∙ e ∙ ap {B = List Float} (take 1) (outputs_5 d)) in
    omega arith

-- ---- 5. a struck count invented per call

pub count_is_the_struck : (r : RemoverAnswer (one ∷ nan ∷ one ∷ [])) → r.answer.0.struck ≡ 1
count_is_the_struck r = ap (λ (g : Given DcRemover (List Float)). g.struck) (removed r ∙ case_9)
