-- Calls that are accepted, however a stream is cut into them, give what one run over the whole stream gives.
-- It is enough that an accepted call is a run over its input, and that a run can be cut in two. Assumes nothing.
use mathlib.Core.Path.{◌≡◌, sym, ap, ◌∙◌}
use mathlib.Core.List.{List, [], ◌∷◌, ◌++◌}
use Rattle.stage.specs.Refusal.{NONE}
use Rattle.stage.specs.InTurn.{Given, inputs, call_outs, call_end, Accepted}

-- a run from s over samples: what it puts out, and where it ends; `Good` is what an accepted call knows of s
pub record Cuttable {S X Y : Type 0} (Good : S → Type 0) (out : S → List X → List Y) (end : S → List X → S) : Type 0 where
  pub none_out : (s : S) → out s [] ≡ []
  pub none_end : (s : S) → end s [] ≡ s
  pub cut_out : (s : S) (a b : List X) → Good s → out s (a ++ b) ≡ out s a ++ out (end s a) b
  pub cut_end : (s : S) (a b : List X) → Good s → end s (a ++ b) ≡ end (end s a) b

-- an accepted call is that run over its input
pub record Runs {C S X Y : Type 0} (gives : S → C → Given S Y) (input : C → List X) (Good : S → Type 0) (out : S → List X → List Y) (end : S → List X → S) : Type 0 where
  pub good : (s : S) (c : C) → (gives s c).refusal ≡ NONE → Good s
  pub gives_out : (s : S) (c : C) → (gives s c).refusal ≡ NONE → (gives s c).out ≡ out s (input c)
  pub gives_end : (s : S) (c : C) → (gives s c).refusal ≡ NONE → (gives s c).end ≡ end s (input c)

module _ {C S X Y : Type 0} {gives : S → C → Given S Y} {input : C → List X} {Good : S → Type 0} {out : S → List X → List Y} {end : S → List X → S}
    (cuts : Cuttable Good out end) (runs : Runs gives input Good out end) where
  -- the outputs of the calls in a row are the stream's
  pub calls_outs : (s : S) (cs : List C) → Accepted gives s cs → call_outs gives s cs ≡ out s (inputs input cs)
  calls_outs s [] ok = sym (cuts.none_out s)
  calls_outs s (c ∷ cs) ok =
      let rest : Accepted gives (end s (input c)) cs = rw (runs.gives_end s c ok.0) at ok.1 in
      rw (runs.gives_out s c ok.0, runs.gives_end s c ok.0)
      (ap {B = List Y} (λ os. out s (input c) ++ os) (calls_outs (end s (input c)) cs rest)
      ∙ sym (cuts.cut_out s (input c) (inputs input cs) (runs.good s c ok.0)))

  -- and the last call hands on what the stream ends with
  pub calls_end : (s : S) (cs : List C) → Accepted gives s cs → call_end gives s cs ≡ end s (inputs input cs)
  calls_end s [] ok = sym (cuts.none_end s)
  calls_end s (c ∷ cs) ok =
      let rest : Accepted gives (end s (input c)) cs = rw (runs.gives_end s c ok.0) at ok.1 in
      rw (runs.gives_end s c ok.0)
      (calls_end (end s (input c)) cs rest ∙ sym (cuts.cut_end s (input c) (inputs input cs) (runs.good s c ok.0)))

  -- so two ways to cut one stream give the same
  pub any_calls : (s : S) (cs ds : List C) → inputs input cs ≡ inputs input ds → Accepted gives s cs → Accepted gives s ds
      → (call_outs gives s cs ≡ call_outs gives s ds) × (call_end gives s cs ≡ call_end gives s ds)
  any_calls s cs ds e okc okd = (
    calls_outs s cs okc ∙ ap (out s) e ∙ sym (calls_outs s ds okd),
    calls_end s cs okc ∙ ap (end s) e ∙ sym (calls_end s ds okd),
  )
