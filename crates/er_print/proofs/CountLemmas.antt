-- The lines of rules, one by one.
use Rattle.std.proofs.Common.{◌≡◌, ◌<◌, ◌+◌, ℕ, List, ◌∷◌, ◌++◌, length, drop, slice_index, sym, ap, ◌∙◌, add-one}
use Rattle.std.proofs.lemmas.List.{append_assoc}
use Rattle.std.proofs.Math.Seq.{drop-cons}
use Rattle.er_print.specs.Printed.{count_text, counts_text}

-- the line of the rule in place k is put, and those after it are still to come
pub counts_more : (old new whole counts : List ℕ) (k : ℕ) → k < length counts → new ≡ old ++ count_text (k + 1) (slice_index counts k)
    → old ++ counts_text (k + 1) (drop k counts) ≡ whole → new ++ counts_text (k + 1 + 1) (drop (k + 1) counts) ≡ whole
counts_more old new whole counts k within put before =
    let line : List ℕ = count_text (k + 1) (slice_index counts k) in
    let next : drop k counts ≡ slice_index counts k ∷ drop (k + 1) counts = rw (add-one k) (drop-cons counts k 0 within) in
    rw put
    (append_assoc old line (counts_text (k + 1 + 1) (drop (k + 1) counts))
    ∙ sym (ap (λ (rest : List ℕ). old ++ counts_text (k + 1) rest) next)
    ∙ before)
