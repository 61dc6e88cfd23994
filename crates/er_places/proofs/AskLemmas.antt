-- One line more of a report that may ask.
use Rattle.std.proofs.Common.{◌≡◌, ℕ, nat_eq, ◌+◌, ◌<◌, ◌||◌, ◌&&◌, not, Bool, true, false, List, [], ◌∷◌, ◌++◌, length, take, get_or, slice_get, Option, Some, refl, ap, sym, ◌∙◌, add-one}
use Rattle.std.specs.List.{list_any}
use Rattle.std.proofs.lemmas.List.{take_more}
use Rattle.std.proofs.lemmas.List.Folds.{list_any-append}
use Rattle.std.proofs.lemmas.Option.{slice_get_read}
use Rattle.er_event.specs.declared.steps.Kind.{Kind}
use Rattle.er_places.specs.Wanted.{asked_below, asks_of, asks_unless, is_race_at, name_line}
use Rattle.er_report.specs.Lines.{reasons_in}
use Rattle.er_report.specs.declared.report.Line.{Line}
use Rattle.er_report.specs.declared.report.Line.TheVariants.{Race, Reused, Refused, Shown}

-- sites that agree ask alike
same-asks : (one other : ℕ → Kind → Bool) (number : ℕ) (line : Line) → ((s : ℕ) (k : Kind) → one s k ≡ other s k) → asks_unless one number line ≡ asks_unless other number line
same-asks one other number (Race kind thread site n word details) same = ap (λ (b : Bool). not b && (nat_eq n number || name_line (reasons_in details) number)) (same site kind)
same-asks one other number (Reused thread site n range details) same = refl
same-asks one other number (Refused refusal step n) same = refl
same-asks one other number (Shown n word state) same = refl

or-false : (b : Bool) → (b || false) ≡ b
or-false true = refl
or-false false = refl

or-assoc : (a b c : Bool) → ((a || b) || c) ≡ (a || (b || c))
or-assoc true b c = refl
or-assoc false b c = refl

module _ (lines : List Line) (n : ℕ) (line : Line) (within : n < length lines) (is : line ≡ get_or lines n line) where
  pub sites-next : (before after : ℕ → Kind → Bool) → ((s : ℕ) (k : Kind) → before s k ≡ list_any (is_race_at s k) (take n lines))
      → ((s : ℕ) (k : Kind) → after s k ≡ (before s k || is_race_at s k line)) → (s : ℕ) (k : Kind) → after s k ≡ list_any (is_race_at s k) (take (n + 1) lines)
  sites-next before after known goes s k =
      goes s k ∙ ap (λ (b : Bool). b || is_race_at s k line) (known s k)
      ∙ ap (λ (b : Bool). list_any (is_race_at s k) (take n lines) || b) (sym (or-false (is_race_at s k line)))
      ∙ sym (list_any-append (is_race_at s k) (take n lines) (line ∷ []))
      ∙ ap (λ (x : Line). list_any (is_race_at s k) (take n lines ++ x ∷ [])) is
      ∙ ap (list_any (is_race_at s k)) (sym (take_more lines n line within))

  there : slice_get lines n ≡ Some line
  there = slice_get_read lines (length lines) n line refl within is

  pub lines-next : (before : ℕ → Kind → Bool) (number : ℕ) (first old new : Bool) → ((s : ℕ) (k : Kind) → before s k ≡ list_any (is_race_at s k) (take n lines))
      → old ≡ (first || asked_below lines number n) → new ≡ (old || asks_unless before number line) → new ≡ (first || asked_below lines number (n + 1))
  unfolding asked_below
  lines-next before number first old new known so_far goes =
      goes ∙ ap (λ (b : Bool). b || asks_unless before number line) so_far
      ∙ or-assoc first (asked_below lines number n) (asks_unless before number line)
      ∙ ap (λ (b : Bool). first || (asked_below lines number n || b)) (same-asks before (λ (s : ℕ) (k : Kind). list_any (is_race_at s k) (take n lines)) number line known)
      ∙ ap (λ (o : Option Line). first || (asked_below lines number n || asks_of (take n lines) number o)) (sym there)
      ∙ ap (λ (m : ℕ). first || asked_below lines number m) (sym (add-one n))

pub none-asked : (lines : List Line) (number : ℕ) (b : Bool) → b ≡ (b || asked_below lines number 0)
unfolding asked_below
none-asked lines number true = refl
none-asked lines number false = refl
