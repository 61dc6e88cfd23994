-- A text put behind another.
use Rattle.std.proofs.Common.{◌≡◌, ◌≢◌, ◌≤◌, ◌<◌, ◌-◌, ◌∙◌, ℕ, zero, suc, cond, List, ◌++◌, append_assoc, codes, decimal, flat_map, length, take, Result, Ok, Err, OnOk, is_ok, refl, sym, ap, arith}
use Rattle.std.proofs.lemmas.List.{append-nil, take_all}
use Rattle.er_places.specs.Places.{PlaceTable}
use Rattle.er_sites.specs.Text.{call_text, called_text, more_calls}

-- what `extend_from_slice` did, where its answer is the answer of the whole
pub appended : {T E : Type 0} (r : Result T E) (old new more : List ℕ) → new ≡ cond (is_ok r) (old ++ more) old → OnOk r (new ≡ old ++ more)
appended (Ok v) old new more is = is
appended (Err e) old new more is = tt

-- the calls of a short list are all shown
pub called_few : (table : PlaceTable) (calls : List ℕ) → length calls ≤ 8 → called_text table calls ≡ flat_map (call_text table) calls
unfolding called_text
called_few table calls few =
    let none : length calls - 8 ≡ 0 = omega arith in
    ap (λ (n : ℕ). flat_map (call_text table) (take 8 calls) ++ more_calls n) none ∙ append-nil (flat_map (call_text table) (take 8 calls))
    ∙ ap (flat_map (call_text table)) (take_all 8 calls few)

-- and of a longer one the first, and how many more there are
more_some : (n : ℕ) → n ≢ 0 → more_calls n ≡ codes "    .. and " ++ decimal n ++ codes " more\n"
more_some zero some = absurd (some refl)
more_some (suc n) some = refl

pub called_many : (table : PlaceTable) (calls old front new : List ℕ) (n : ℕ) → 8 < length calls → n ≡ length calls - 8 → front ≡ old ++ flat_map (call_text table) (take 8 calls)
    → new ≡ front ++ (codes "    .. and " ++ decimal n ++ codes " more\n") → new ≡ old ++ called_text table calls
unfolding called_text
called_many table calls old front new n many is one two =
    two ∙ ap (λ (text : List ℕ). text ++ (codes "    .. and " ++ decimal n ++ codes " more\n")) one
    ∙ append_assoc old (flat_map (call_text table) (take 8 calls)) (codes "    .. and " ++ decimal n ++ codes " more\n")
    ∙ ap (λ (text : List ℕ). old ++ (flat_map (call_text table) (take 8 calls) ++ text)) (sym (more_some n (λ e. absurd (omega arith))))
    ∙ ap (λ (m : ℕ). old ++ (flat_map (call_text table) (take 8 calls) ++ more_calls m)) is
