-- The first touch of a line or of a later one, from a place on.
use Rattle.std.proofs.Common.{◌≡◌, ◌<◌, ◌≤◌, ◌+◌, ◌∙◌, ℕ, zero, suc, add-one, List, [], ◌∷◌, drop, length, slice_get, Some, sym, ap, arith}
use Rattle.er_batch.proofs.TouchLemmas.{nothing, passed, stands}
use Rattle.er_batch.specs.Touching.{of_line, touch_on}
use Rattle.er_lines.specs.declared.ready.Touch.{Touch}

-- by places
pub passed-at : (touches : List Touch) (place : ℕ) (touch : Touch) (line : ℕ) → slice_get touches place ≡ Some touch → touch.line < line → touch_on (drop (place + 1) touches) line ≡ touch_on (drop place touches) line
passed-at touches place touch line is earlier = ap (λ (n : ℕ). touch_on (drop n touches) line) (add-one place) ∙ by touches place is
  where
    by : (touches : List Touch) (place : ℕ) → slice_get touches place ≡ Some touch → touch_on (drop (suc place) touches) line ≡ touch_on (drop place touches) line
    by [] place is = cc
    by (t ∷ rest) zero is = let same : t ≡ touch = cc in rw same (sym (passed touch rest line earlier))
    by (t ∷ rest) (suc place) is = by rest place is

pub found-at : (touches : List Touch) (place : ℕ) (touch : Touch) (line : ℕ) → slice_get touches place ≡ Some touch → line ≤ touch.line → touch_on (drop place touches) line ≡ of_line line (Some touch)
found-at touches place touch line is here = by touches place is
  where
    by : (touches : List Touch) (place : ℕ) → slice_get touches place ≡ Some touch → touch_on (drop place touches) line ≡ of_line line (Some touch)
    by [] place is = cc
    by (t ∷ rest) zero is = let same : t ≡ touch = cc in rw same (stands touch rest line here)
    by (t ∷ rest) (suc place) is = by rest place is

pub none-at : (touches : List Touch) (place line : ℕ) → length touches ≤ place → touch_on (drop place touches) line ≡ of_line line (slice_get touches place)
none-at [] zero line out = nothing line
none-at [] (suc place) line out = nothing line
none-at (t ∷ rest) zero line out = absurd (omega arith)
none-at (t ∷ rest) (suc place) line out = none-at rest place line (omega arith)
