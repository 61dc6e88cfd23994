-- A block has no less-than sign, byte by byte.
use Rattle.std.proofs.Common.{◌≡◌, ◌≢◌, ◌==◌, ℕ, Bool, true, false, cond, List, [], ◌∷◌, codes, refl}
use Rattle.std.proofs.lemmas.List.Elements.{All-append, All-cons, All-from_recursion, All-nil}
use Rattle.std.proofs.lemmas.Bool.{eqb-false}
use Rattle.er_forms.specs.Page.{IsInert, block_text, inert}

abbrev pub Other : ℕ → Type 0
Other byte = byte ≢ 60

-- the escape of the sign has none itself
pub inert_escape : IsInert (codes "\\u003c")
inert_escape = All-from_recursion Other (codes "\\u003c") ((λ same. cc), ((λ same. cc), ((λ same. cc), ((λ same. cc), ((λ same. cc), ((λ same. cc), tt))))))

pub inert_byte : (byte : ℕ) → IsInert (inert byte)
inert_byte byte = by (byte == 60) refl
  where
    by : (b : Bool) → byte == 60 ≡ b → IsInert (cond b (codes "\\u003c") (byte ∷ []))
    by true is = inert_escape
    by false is = All-cons Other byte [] (λ same. eqb-false byte 60 is same) (All-nil Other)

-- and so a block of any JSON
pub inert_block : (json : List ℕ) → IsInert (block_text json)
unfolding block_text
inert_block [] = All-nil Other
inert_block (byte ∷ json) = All-append Other _ _ (inert_byte byte) (inert_block json)
