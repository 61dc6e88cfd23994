-- Names that lie one behind another in a run of bytes.
use Rattle.std.proofs.Common.{◌≡◌, ℕ, zero, suc, ◌+◌, ◌-◌, ◌<◌, ◌≤◌, List, [], ◌∷◌, ◌++◌, length, get_or, take, drop, slice_range, refl, sym, ap, ◌∙◌, arith, length-append, length-drop}
use Rattle.std.proofs.lemmas.List.{drop-append-le, drop_at, take_all, take-append-le}
use Rattle.er_binary.specs.Inner.Spans.{cut_all, AreWithin}
use Rattle.er_binary.specs.Numbers.{name_at}
use Rattle.er_binary.specs.declared.names.Span.{Span}

pub length_cut : (bytes : List ℕ) (spans : List Span) → length (cut_all bytes spans) ≡ length spans
length_cut bytes [] = refl
length_cut bytes (span ∷ spans) = ap suc (length_cut bytes spans)

-- a span's name lies within the bytes, and is the name of its number
pub record Found (bytes : List ℕ) (spans : List Span) (n : ℕ) (span : Span) : Type 0 where
  pub ordered : span.start ≤ span.end
  pub within : span.end ≤ length bytes
  pub name : slice_range bytes span.start span.end ≡ name_at (cut_all bytes spans) n

pub found : (bytes : List ℕ) (spans : List Span) (n : ℕ) (span : Span) → AreWithin bytes spans → n < length spans → span ≡ get_or spans n span → Found bytes spans n span
found bytes [] n span within less is = absurd (omega arith)
found bytes (first ∷ spans) zero span within less is = record {
  ordered = rw is (within.0);
  within = rw is (within.1);
  name = ap (λ (s : Span). slice_range bytes s.start s.end) is;
}
found bytes (first ∷ spans) (suc n) span within less is = let more = found bytes spans n span within.2 (omega arith) is in record { ordered = more.ordered; within = more.within; name = more.name }

pub no_name : (bytes : List ℕ) (spans : List Span) (n : ℕ) → length spans ≤ n → [] ≡ name_at (cut_all bytes spans) n
no_name bytes [] n more = refl
no_name bytes (first ∷ spans) zero more = absurd (omega arith)
no_name bytes (first ∷ spans) (suc n) more = no_name bytes spans n (omega arith)

-- more bytes behind them change no name
same_cut : (bytes more : List ℕ) (span : Span) → span.start ≤ span.end → span.end ≤ length bytes → slice_range (bytes ++ more) span.start span.end ≡ slice_range bytes span.start span.end
same_cut bytes more span ordered within =
    let start : span.start ≤ length bytes = omega arith in
    let rest : span.end - span.start ≤ length (drop span.start bytes) = omega (arith, length-drop span.start bytes) in
    ap (λ (xs : List ℕ). take (span.end - span.start) xs) (drop-append-le span.start bytes more start) ∙ take-append-le (span.end - span.start) (drop span.start bytes) more rest

pub more_bytes : (bytes more : List ℕ) (spans : List Span) → AreWithin bytes spans → cut_all (bytes ++ more) spans ≡ cut_all bytes spans
more_bytes bytes more [] within = refl
more_bytes bytes more (span ∷ spans) within = rw (same_cut bytes more span within.0 within.1, more_bytes bytes more spans within.2) refl

pub still_within : (bytes more : List ℕ) (spans : List Span) → AreWithin bytes spans → AreWithin (bytes ++ more) spans
still_within bytes more [] within = tt
still_within bytes more (span ∷ spans) within = (within.0, omega (arith, within.1, length-append bytes more), still_within bytes more spans within.2)

pub within_more : (bytes : List ℕ) (spans : List Span) (span : Span) → AreWithin bytes spans → span.start ≤ span.end → span.end ≤ length bytes → AreWithin bytes (spans ++ span ∷ [])
within_more bytes [] span within ordered fits = (ordered, fits, tt)
within_more bytes (first ∷ spans) span within ordered fits = (within.0, within.1, within_more bytes spans span within.2 ordered fits)

cut_more : (bytes : List ℕ) (spans : List Span) (span : Span) → cut_all bytes (spans ++ span ∷ []) ≡ cut_all bytes spans ++ slice_range bytes span.start span.end ∷ []
cut_more bytes [] span = refl
cut_more bytes (first ∷ spans) span = ap (λ (names : List (List ℕ)). slice_range bytes first.start first.end ∷ names) (cut_more bytes spans span)

-- a name that was put behind the bytes, with its span behind the spans
pub pushed : (bytes name : List ℕ) (spans : List Span) (span : Span) → AreWithin bytes spans → span.start ≡ length bytes → span.end ≡ length bytes + length name
    → cut_all (bytes ++ name) (spans ++ span ∷ []) ≡ cut_all bytes spans ++ name ∷ []
pushed bytes name spans span within start end =
    let len : span.end - span.start ≡ length name = omega arith in
    let last : slice_range (bytes ++ name) span.start span.end ≡ name = rw (len, drop_at bytes name span.start (sym start)) (take_all (length name) name (omega arith)) in
    cut_more (bytes ++ name) spans span ∙ rw (last, more_bytes bytes name spans within) refl
