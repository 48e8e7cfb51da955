-- `Receiver::play` meets its contract: what each stage leaves is a part of the definition. Assumes nothing.
use Prim.Native.Nat.{◌+◌, ◌/◌, ◌*◌, ◌≤◌}
use native.Mathlib.Omega.{arith}
use mathlib.Core.Path.{◌≡◌, sym, ap, ◌∙◌}
use lib.ListN.{length}
use lib.Seq.{length-take-le}
use Rattle.stage.specs.Layout.{pairs, zip}
use Rattle.stage.proofs.Layouts.{pairs_flat}
use Rattle.halves.proofs.Lengths.{apart_gives, together_gives}
use Rattle.fir.specs.Filter.{count_of}
use Rattle.receiver.specs.Sound.{sound, after, heard, left, tenth}
use Rattle.receiver.proofs.Lengths.{twice}
use Rattle.receiver.proofs.Stages.{all_converted, half_thinned, demodulated}
use Rattle.receiver.proofs.Receiver.play.Goals as goal

pub returns : goal.returns
unfolding sound after heard left tenth
returns c =
    let a = c.args in
    let ready = c.requires.ready in
    let n = length a.input.now in
    let m = length a.output.now / 4 in
    let half : n / 2 ≤ 4096 = omega (arith, ready.short) in
    let few : m ≤ 410 = omega (arith, c.requires.room.1) in
    let is-m : m ≡ count_of 10 a.self.phase (n / 2) = omega (arith, c.requires.room.0) in
    let samples = c.convert.new.dst in
    let i = c.split.new.i in
    let q = c.split.new.q in
    let i-as : length i ≡ n / 2 = c.split.auto.i ∙ length-take-le (n / 2) _ half in
    let q-as : length q ≡ n / 2 = c.split.auto.q ∙ length-take-le (n / 2) _ half in
    let pairs-as : n ≡ n / 2 + n / 2 = omega (arith, ready.whole) in
    let convert-is =
    all_converted a.input.now _ (length-take-le n _ ready.short) ready.whole (omega arith) c.convert.result samples c.convert.ensures in
    let split-is =
    apart_gives samples _ _ i q (twice (c.convert.auto.dst ∙ length-take-le n _ ready.short ∙ pairs-as) (length-take-le (n / 2) _ half)) (length-take-le (n / 2) _ half ∙ sym (length-take-le (n / 2) _ half)) c.split.ensures in
    let i-tenth = c.process_into-thinned.new.output in
    let q-tenth = c.process_into.new.output in
    let i-is =
    half_thinned a.self.phase a.taps.now a.i_history.now i _ ready.phase ready.taps_long ready.i_long (omega (arith, i-as)) (length-take-le m _ few ∙ is-m ∙ ap (count_of 10 a.self.phase) (sym i-as)) c.process_into-thinned.result c.process_into-thinned.new.history i-tenth c.process_into-thinned.ensures in
    let q-is =
    half_thinned a.self.phase a.taps.now a.q_history.now q _ ready.phase ready.taps_long ready.q_long (omega (arith, q-as)) (length-take-le m _ few ∙ is-m ∙ ap (count_of 10 a.self.phase) (sym q-as)) c.process_into.result c.process_into.new.history q-tenth c.process_into.ensures in
    let i-tenth-as : length i-tenth ≡ m = c.process_into-thinned.auto.output ∙ length-take-le m _ few in
    let q-tenth-as : length q-tenth ≡ m = c.process_into.auto.output ∙ length-take-le m _ few in
    let ps = c.join.new.output in
    let fits : 2 * m ≤ 820 = omega (arith, few) in
    let ps-as : length ps ≡ 2 * m = c.join.auto.output ∙ length-take-le (2 * m) _ fits in
    let both : 2 * m ≡ m + m = omega arith in
    let join-is = together_gives i-tenth q-tenth _ ps (twice (length-take-le (2 * m) _ fits ∙ both) i-tenth-as) (q-tenth-as ∙ sym i-tenth-as) c.join.ensures in
    let halved : m ≡ length ps / 2 = omega (arith, ps-as) in
    let fm-is =
    demodulated a.self.fm ps _ ready.setting ready.state (omega (arith, ps-as)) (omega (arith, ps-as, few)) (length-take-le m _ few ∙ halved) c.process_into-done.result c.process_into-done.new.output c.process_into-done.ensures in
    let ps-is = ap pairs join-is ∙ pairs_flat (zip i-tenth q-tenth) in
    record {
      outputs = c.store.ensures ∙ rw (fm-is.1, ps-is, i-is.2, q-is.2, split-is.0, split-is.1, convert-is);
      memory_after = rw (fm-is.0, ps-is, i-is.2, q-is.2, i-is.0, i-is.1, q-is.1, split-is.0, split-is.1, convert-is);
    }
