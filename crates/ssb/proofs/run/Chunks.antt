-- A block worked off chunk by chunk: what the loop knows, that a chunk keeps it, and what it says at the end. Assumes nothing.
use Prim.Native.Nat.{ℕ, ◌+◌, ◌-◌, ◌*◌, ◌%◌, ◌≤◌}
use native.Mathlib.Omega.{arith}
use mathlib.Core.Path.{◌≡◌, refl, sym, ap, ◌∙◌}
use mathlib.Core.Bool.{Bool}
use mathlib.Core.List.{List, [], ◌++◌, append_assoc, append-nil}
use lib.ListN.{length, take, drop, length-append, length-drop, take-append-drop, drop_of_length-le}
use lib.Seq.{drop-drop, take_at, length-take-le}
use borrow.Rule.Slice.PartMut.{put_mid, post_of, same_len_mid, mid_len, drop_put}
use borrow.Author.Tests.{eq-eqb}
use lib.Ieee.{Float}
use Rattle.stage.specs.Layout.{pairs, over}
use Rattle.stage.proofs.Layouts.{pairs_append, length_pairs}
use Rattle.stage.proofs.Written.{Written, written_begins, written_over}
use Rattle.ssb.specs.Sideband.{Histories, ssb_outs, ssb_end}
use Rattle.ssb.specs.Ready.{Ready, Block}
use Rattle.ssb.proofs.Cutting.{Fits, outs_length, ssb_cuts}

-- the pairs of m pairs from place a on, and of what follows them
cut_at : (x : List Float) (a m : ℕ) → a + 2 * m ≤ length x
    → pairs (drop a x) ≡ pairs (take (2 * m) (drop a x)) ++ pairs (drop (a + 2 * m) x)
cut_at x a m le =
    let long : length (take (2 * m) (drop a x)) ≡ 2 * m = length-take-le (2 * m) (drop a x) (rw length-drop (omega arith)) in
    let even : length (take (2 * m) (drop a x)) % 2 ≡ 0 = rw long (omega arith) in
    ap pairs (sym (take-append-drop (2 * m) (drop a x)))
    ∙ pairs_append (take (2 * m) (drop a x)) (drop (2 * m) (drop a x)) (eq-eqb _ _ even)
    ∙ rw (drop-drop (2 * m) a x)

module _ (usb : Bool) (taps : List Float) where
  -- from the histories h₀, the input x and the output out₀, after a elements and j outputs
  pub record Chunks (h₀ : Histories) (x out₀ : List Float) (h : Histories) (out : List Float) (a j : ℕ) : Type 0 where
    pub block : Block (length x) (length out₀)
    pub ready : Ready (length taps) (length h.q) (length h.i)
    pub within : a ≤ length x
    pub twice : a ≡ 2 * j
    pub written : Written out₀ j out
    pub outs : take j out ++ ssb_outs usb taps h (pairs (drop a x)) ≡ ssb_outs usb taps h₀ (pairs x)
    pub end : ssb_end h (pairs (drop a x)) ≡ ssb_end h₀ (pairs x)

  pub chunks_begin : (h : Histories) (x out : List Float) → Block (length x) (length out) → Ready (length taps) (length h.q) (length h.i)
      → Chunks h x out h out 0 0
  chunks_begin h x out block ready =
      record {
        block = block;
        ready = ready;
        within = omega arith;
        twice = refl;
        written = written_begins out;
        outs = refl;
        end = refl;
      }

  -- m pairs more, whose outputs `new` are put behind the first j
  pub chunks_go_on : {h₀ : Histories} {x out₀ : List Float} {h : Histories} {out : List Float} {a j : ℕ} (m : ℕ) (h' : Histories) (new : List Float)
      → Chunks h₀ x out₀ h out a j → a + 2 * m ≤ length x
      → new ≡ ssb_outs usb taps h (pairs (take (2 * m) (drop a x)))
      → h' ≡ ssb_end h (pairs (take (2 * m) (drop a x)))
      → Ready (length taps) (length h'.q) (length h'.i)
      → Chunks h₀ x out₀ h' (put_mid j (j + m - j) out new) (a + 2 * m) (j + m)
  chunks_go_on {h₀} {x} {out₀} {h} {out} {a} {j} m h' new l le is-new is-h' ready =
      let part = take (2 * m) (drop a x) in
      let rest = pairs (drop (a + 2 * m) x) in
      let k = j + m - j in
      let here : j + m ≤ length out = omega arith in
      let short : 2 * m ≤ length (drop a x) = rw length-drop (omega arith) in
      let half : length (pairs part) ≡ m = omega (arith, length_pairs part, length-take-le (2 * m) (drop a x) short) in
      let many : length new ≡ k = ap length is-new ∙ outs_length usb taps h (pairs part) ∙ omega arith in
      let front : length (take j out ++ new) ≡ j + m = rw (length-append (take j out) new, length-take-le j out (omega arith), many) (omega arith) in
      let first : take (j + m) (put_mid j k out new) ≡ take j out ++ new =
      ap (take (j + m)) (sym (append_assoc (take j out) new (post_of j k out))) ∙ take_at (take j out ++ new) (post_of j k out) (j + m) front in
      let fit : Fits taps h = record { q = omega (arith, l.ready); i = omega (arith, l.ready) } in
      record {
        block = l.block;
        ready = ready;
        within = le;
        twice = omega (arith, l.twice);
        written = record {
          same = same_len_mid j k out new (many ∙ sym (mid_len j (j + m) out here)) ∙ l.written.same;
          rest = drop_put j (j + m) out new (omega arith) here many ∙ sym (drop-drop m j out) ∙ ap (drop m) l.written.rest ∙ drop-drop m j out₀;
        };
        outs = rw (first, append_assoc, is-new, is-h')
            (ap {B = List Float} (λ r. take j out ++ r) (sym ((ssb_cuts usb taps).cut_out h (pairs part) rest fit) ∙ ap (ssb_outs usb taps h) (sym (cut_at x a m le)))
            ∙ l.outs);
        end = rw is-h' (sym ((ssb_cuts usb taps).cut_end h (pairs part) rest fit) ∙ ap (ssb_end h) (sym (cut_at x a m le)) ∙ l.end);
      }

  pub chunks_end : {h₀ : Histories} {x out₀ : List Float} {h : Histories} {out : List Float} {a j : ℕ} → Chunks h₀ x out₀ h out a j → length x ≤ a
      → (out ≡ over (ssb_outs usb taps h₀ (pairs x)) out₀) × (h ≡ ssb_end h₀ (pairs x))
  chunks_end {h₀} {x} {out₀} {h} {out} {a} {j} l past =
      let none : drop a x ≡ [] = drop_of_length-le x past in
      let all : take j out ≡ ssb_outs usb taps h₀ (pairs x) =
      sym (append-nil (take j out)) ∙ ap {B = List Float} (λ r. take j out ++ r) (sym ((ssb_cuts usb taps).none_out h)) ∙ rw none at l.outs in
      (written_over _ l.written (omega (arith, l)) all, sym ((ssb_cuts usb taps).none_end h) ∙ rw none at l.end)
