-- What the words of a line say, as the code finds it out: a value, or the first fault.
use Rattle.std.specs.Prelude.{◌≡◌, ℕ, List, Option, Some, None, Result, Ok, Err}
use denote.Ref.{Bor}
use Rattle.er_lines.specs.declared.faults.TextKind.{TextKind}
use Rattle.er_lines.specs.declared.faults.TextKind.TheVariants.{BadNumber}
use Rattle.er_lines.specs.declared.words.Words.{Words}
use Rattle.er_lines.specs.Lines.{word_at}
use Rattle.er_lines.specs.Number.{number_of}

abbrev pub and_then : {A B : Type 0} → Result A TextKind → (A → Result B TextKind) → Result B TextKind
and_then (Ok x) f = f x
and_then (Err k) f = Err k

abbrev pub map_ok : {A B : Type 0} → (A → B) → Result A TextKind → Result B TextKind
map_ok f (Ok x) = Ok (f x)
map_ok f (Err k) = Err k

abbrev pub or_fault : {A : Type 0} → TextKind → Option A → Result A TextKind
or_fault k None = Err k
or_fault k (Some x) = Ok x

abbrev pub number_in : List ℕ → Result ℕ TextKind
number_in word = or_fault BadNumber (number_of word)

-- the code's values, without where they lie in memory
abbrev pub seen_name : Option (Bor (List ℕ)) → Option (List ℕ)
seen_name None = None
seen_name (Some name) = Some name.now

-- what a call returned, seen by view, is what the definition gives
abbrev pub GivesBy : {X Y E : Type 0} → (X → Y) → Result X E → Result Y E → Type 0
GivesBy view (Ok x) gives = gives ≡ Ok (view x)
GivesBy view (Err e) gives = gives ≡ Err e

abbrev pub GivesSite : Result (Option (Bor (List ℕ))) TextKind → Result (Option (List ℕ)) TextKind → Type 0
GivesSite = GivesBy seen_name

-- the first six words
pub record AreWords (words : List (List ℕ)) (w : Words) : Type 0 where
  pub first : w.first.now ≡ word_at 0 words
  pub second : w.second.now ≡ word_at 1 words
  pub third : w.third.now ≡ word_at 2 words
  pub fourth : w.fourth.now ≡ word_at 3 words
  pub fifth : w.fifth.now ≡ word_at 4 words
  pub sixth : w.sixth.now ≡ word_at 5 words
