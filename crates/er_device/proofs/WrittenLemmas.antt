-- The bytes that were written so far, one write after another.
use Rattle.std.proofs.Common.{◌≡◌, ℕ, ◌+◌, List, ◌++◌, take, drop, Option, Some, None, ap, sym, ◌∙◌, append_assoc}
use Rattle.std.specs.Io.KnownBytes.{Appends}
use Rattle.std.proofs.Math.Seq.{take-add}

-- one more write takes the first bytes of what was left
pub written_more : (a b c : Option (List ℕ)) (xs part : List ℕ) (at n : ℕ) → part ≡ drop at xs
    → Appends a b (take at xs) → Appends b c (take n part) → Appends a c (take (at + n) xs)
written_more None b c xs part at n same before after = tt
written_more (Some front) None c xs part at n same before after = absurd before
written_more (Some front) (Some ys) None xs part at n same before after = absurd after
written_more (Some front) (Some ys) (Some zs) xs part at n same before after =
    after ∙ ap (λ (t : List ℕ). t ++ take n part) before ∙ append_assoc front (take at xs) (take n part)
    ∙ ap (λ (t : List ℕ). front ++ (take at xs ++ take n t)) same ∙ ap (λ (t : List ℕ). front ++ t) (sym (take-add at n xs))
