-- Worked values of the halves, by computation. Assumes nothing.
use Rattle.std.specs.Prelude.{◌≡◌, refl, [], ◌∷◌}
use Rattle.std.specs.Float.{nan}
use Rattle.stage.specs.Floats.{one, two}
use Rattle.halves.specs.Halves.{apart, together}

pub taken_apart : apart (one ∷ two ∷ two ∷ one ∷ []) (nan ∷ nan ∷ []) (nan ∷ nan ∷ []) ≡ (one ∷ two ∷ [], two ∷ one ∷ [])
taken_apart = refl

pub put_together : together (one ∷ two ∷ []) (two ∷ one ∷ []) (nan ∷ nan ∷ nan ∷ nan ∷ []) ≡ one ∷ two ∷ two ∷ one ∷ []
put_together = refl

-- an odd slice, and halves that are not as long: all stays
pub unfit_stays : (apart (one ∷ []) [] [] ≡ ([], [])) × (together (one ∷ []) [] (nan ∷ nan ∷ []) ≡ nan ∷ nan ∷ [])
unfit_stays = (refl, refl)
