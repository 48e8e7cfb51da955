-- However a stream is cut into blocks, a stage that runs block after block gives what one run over the whole stream gives. Assumes nothing.
use Prim.Native.Nat.{ℕ, ◌+◌}
use mathlib.Core.Path.{◌≡◌, refl, sym, ap, ◌∙◌}
use mathlib.Core.List.{List, [], ◌∷◌, ◌++◌, map}
use Rattle.stage.specs.Run.{Answer, outs, end, strikes}
use Rattle.stage.specs.Blocks.{stream, WholePairs, block_outs, block_end, block_strikes}
use Rattle.stage.specs.Layout.{pairs, flat}
use Rattle.stage.proofs.Cut.{outs_cut, end_cut, strikes_cut}
use Rattle.stage.proofs.Layouts.{pairs_append, flat_append}

module _ {A B S : Type 0} (step : S → A → Answer B S) where
  -- the blocks' outputs in a row are the stream's
  pub blocks_outs : (silence : B) (s : S) (bs : List (List A)) → block_outs step silence s bs ≡ outs step silence s (stream bs)
  blocks_outs silence s [] = refl
  blocks_outs silence s (b ∷ bs) =
      ap {B = List B} (λ os. outs step silence s b ++ os) (blocks_outs silence (end step s b) bs) ∙ sym (outs_cut step silence s b (stream bs))

  -- the state after the last block is the state at the stream's end
  pub blocks_end : (s : S) (bs : List (List A)) → block_end step s bs ≡ end step s (stream bs)
  blocks_end s [] = refl
  blocks_end s (b ∷ bs) = blocks_end (end step s b) bs ∙ sym (end_cut step s b (stream bs))

  -- and the blocks' struck counts add up to the stream's
  pub blocks_strikes : (s : S) (bs : List (List A)) → block_strikes step s bs ≡ strikes step s (stream bs)
  blocks_strikes s [] = refl
  blocks_strikes s (b ∷ bs) =
      ap (λ (n : ℕ). strikes step s b + n) (blocks_strikes (end step s b) bs) ∙ sym (strikes_cut step s b (stream bs))

  -- so two ways to cut one stream give the same outputs, state and count
  pub any_cut : (silence : B) (s : S) (bs cs : List (List A)) → stream bs ≡ stream cs
      → (block_outs step silence s bs ≡ block_outs step silence s cs)
      × (block_end step s bs ≡ block_end step s cs)
      × (block_strikes step s bs ≡ block_strikes step s cs)
  any_cut silence s bs cs e = (
    blocks_outs silence s bs ∙ ap (outs step silence s) e ∙ sym (blocks_outs silence s cs),
    blocks_end s bs ∙ ap (end step s) e ∙ sym (blocks_end s cs),
    blocks_strikes s bs ∙ ap (strikes step s) e ∙ sym (blocks_strikes s cs),
  )

module _ {X : Type 0} where
  -- an interleaved stream cut between pairs: its pairs are the blocks' pairs in a row
  pub pairs_stream : (bs : List (List X)) → WholePairs bs → pairs (stream bs) ≡ stream (map pairs bs)
  pairs_stream [] w = refl
  pairs_stream (b ∷ bs) w = pairs_append b (stream bs) w.0 ∙ ap {B = List (X × X)} (λ ps. pairs b ++ ps) (pairs_stream bs w.1)

  -- and outputs written interleaved stand in a row too
  pub flat_stream : (ps : List (List (X × X))) → flat (stream ps) ≡ stream (map flat ps)
  flat_stream [] = refl
  flat_stream (p ∷ ps) = flat_append p (stream ps) ∙ ap {B = List X} (λ xs. flat p ++ xs) (flat_stream ps)
