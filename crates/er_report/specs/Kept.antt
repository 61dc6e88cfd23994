-- What is kept of the steps so far for the reasons of races.
use Rattle.std.specs.Prelude.{◌≡◌, ◌++◌, ℕ, zero, suc, cond, flat_map, List, [], ◌∷◌, slice_get, slice_index, Option, Some, None}
use Rattle.er_event.specs.declared.steps.Kind.TheVariants.{Read}
use Rattle.er_event.specs.declared.steps.Step.{Step}
use Rattle.er_explain.specs.Book.{Book, access_named, access_of}
use Rattle.er_explain.specs.Books.{book_at}
use Rattle.er_explain.specs.Joined.{Joining}
use Rattle.er_explain.specs.Naming.{named_book}
use Rattle.er_explain.specs.WordBooks.{Blocks, book_in, joining_in}
use Rattle.er_explain.specs.declared.book.Access.{Access}
use Rattle.er_model.specs.Answers.{reading_of}
use Rattle.er_model.specs.Explanations.{word_of}
use Rattle.er_report.specs.Report.{is_printed}
use Rattle.er_report.specs.declared.report.Because.{Because}
use Rattle.er_report.specs.declared.report.Label.{Label}
use Rattle.er_report.specs.declared.report.Label.TheVariants as label
use Rattle.er_rules.specs.Rules.{Target}
use Rattle.er_trace.specs.Trace.{Recording}

-- an access, as a report tells it: by its line in the text
abbrev pub LineAccess : Type 0
LineAccess = Access ℕ

-- a step on this line
abbrev pub line_access : ℕ → Option Step → LineAccess
line_access number None = access_named number 0 Read
line_access number (Some step) = access_of number step

-- the step at position i, so
unfoldable pub access_at : Recording → ℕ → LineAccess
access_at r i = line_access (slice_index r.lines i) (slice_get r.steps i)

-- an access with its label
abbrev pub told_access : Label → LineAccess → Because
told_access name a = record { label = name; line = a.at; thread = a.thread; kind = a.kind }

-- and where none was found nothing
abbrev pub told_found : Label → Option LineAccess → List Because
told_found name None = []
told_found name (Some a) = told_access name a ∷ []

-- the accesses that a word's joining names
unfoldable pub joining_reasons : Joining LineAccess → List Because
joining_reasons j =
    told_access label.First j.first ∷ told_access label.Joined j.join ∷ told_found label.Write j.write
    ++ flat_map (λ pair. told_found (label.Uncovered pair.lock) pair.at) j.pairs

-- without a joining there are none
abbrev pub found_reasons : Option (Joining LineAccess) → List Because
found_reasons None = []
found_reasons (Some j) = joining_reasons j

-- what the book of the word says, if there is a word
abbrev pub word_reasons : (ℕ → Book LineAccess) → Option ℕ → List Because
word_reasons books None = []
word_reasons books (Some w) = found_reasons (joining_in (books w))

-- the book of word w after the first n steps
abbrev pub line_book : Recording → ℕ → ℕ → Book LineAccess
line_book r n w = named_book (access_at r) (book_at (reading_of r.steps) w n)

-- the reasons of the printed races among the first n steps, in order, as the books tell them
unfoldable pub told_below : Recording → List Target → ℕ → List (List Because)
told_below r rules zero = []
told_below r rules (suc n) = told_below r rules n ++ cond (is_printed r rules n) (word_reasons (line_book r (suc n)) (word_of (slice_get r.steps n)) ∷ []) []

-- the books of all words, and the reasons so far
pub record Kept : Type 0 where
  pub books : Blocks LineAccess
  pub told : List (List Because)

-- this is kept of the recording's first n steps under these rules
pub record Follows (kept : Kept) (r : Recording) (rules : List Target) (n : ℕ) : Type 0 where
  pub books : (w : ℕ) → book_in kept.books w ≡ line_book r n w
  pub told : kept.told ≡ told_below r rules n
