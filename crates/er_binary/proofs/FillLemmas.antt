-- Bytes that are read behind others.
use Rattle.std.proofs.Common.{◌≡◌, ℕ, ◌+◌, ◌≤◌, List, ◌++◌, Option, Some, None, length, take, refl, sym, ap, ◌∙◌, append_assoc}
use Rattle.std.proofs.lemmas.List.{take_at, drop_at, take-append-le, length-take-le}
use Rattle.std.proofs.Math.Seq.{take-add}
use Rattle.std.specs.Io.KnownBytes.{Consumes, Keeps, prepend_known}

pub filled : (xs buffer tail : List ℕ) (held n : ℕ) → held ≤ length xs → n ≤ length buffer → take (held + n) (take held xs ++ (buffer ++ tail)) ≡ take held xs ++ take n buffer
filled xs buffer tail held n fits room =
    let front = length-take-le held xs fits in
    take-add held n (take held xs ++ (buffer ++ tail))
    ∙ (rw (take_at (take held xs) (buffer ++ tail) held front, drop_at (take held xs) (buffer ++ tail) held front, take-append-le n buffer tail room) refl)

-- what stays the same while some bytes are moved from the reader to the buffer
pub kept_more : (first old new : Option (List ℕ)) (begin held more now : List ℕ) → Keeps (prepend_known begin first) (prepend_known held old) → Consumes old new more → now ≡ held ++ more
    → Keeps (prepend_known begin first) (prepend_known now new)
kept_more None old new begin held more now same read is = tt
kept_more (Some xs) None new begin held more now same read is = absurd same
kept_more (Some xs) (Some ys) None begin held more now same read is = absurd read
kept_more (Some xs) (Some ys) (Some zs) begin held more now same read is = rw is (append_assoc held more zs ∙ ap (λ (t : List ℕ). held ++ t) (sym read) ∙ same)
