-- What one pass over a list of steps keeps of a word. An access is named by its position, or by what is reported of it.
use Rattle.std.specs.Prelude.{ℕ, Bool, ◌==◌, not, cond, List, map, Option, Some, None}
use Rattle.er_event.specs.declared.steps.Kind.{Kind}
use Rattle.er_event.specs.Lockset.{has}
use Rattle.er_model.specs.Explanations.{Explanation, first_write, first_uncovered}
use Rattle.er_model.specs.Words.{Mark, Counted, Reused, Shown, Nothing, Reading, thread_of, is_writing, is_within, cover_of, first, join}
use Rattle.er_explain.specs.declared.book.Pair.{Pair}
use Rattle.er_explain.specs.Joined.{Joining}
use Rattle.er_explain.specs.Book.{Book, Untouched, Owned, Joined}

-- what was found, or else this one where it passes
abbrev pub or_this : {A : Type 0} → Option A → Bool → A → Option A
or_this (Some found) test a = Some found
or_this None test a = cond test (Some a) None

-- after the access by which a second thread joins
abbrev pub begun : {A : Type 0} → A → A → Kind → List ℕ → Joining A
begun f a kind cover = record { first = f; join = a; write = or_this None (is_writing kind) a; pairs = map (λ l. record { lock = l; at = None }) cover }

-- the pair after a later access
abbrev pub pair_after : {A : Type 0} → A → List ℕ → Pair A → Pair A
pair_after a cover pair = record { lock = pair.lock; at = or_this pair.at (not (has cover pair.lock)) a }

-- after an access that comes later than the joining
abbrev pub gone_on : {A : Type 0} → Joining A → A → Kind → List ℕ → Joining A
gone_on j a kind cover = record { first = j.first; join = j.join; write = or_this j.write (is_writing kind) a; pairs = map (pair_after a cover) j.pairs }

-- after a counted access that is named so
abbrev pub book_accessed : {A : Type 0} → Book A → A → ℕ → Kind → List ℕ → Book A
book_accessed Untouched a t kind cover = Owned t a
book_accessed (Owned u f) a t kind cover = cond (u == t) (Owned u f) (Joined (begun f a kind cover))
book_accessed (Joined j) a t kind cover = Joined (gone_on j a kind cover)

-- after a position that is this to the words, and named so
abbrev pub book_after : {A : Type 0} → Book A → ℕ → A → Mark → Book A
book_after b w a (Counted t kind word cover) = cond (word == w) (book_accessed b a t kind cover) b
book_after b w a (Reused range) = cond (is_within w range) Untouched b
book_after b w a (Shown word) = b
book_after b w a Nothing = b

-- by the searches of the model, where they found a joining
abbrev pub joining_at : Reading → ℕ → ℕ → ℕ → ℕ → Joining ℕ
joining_at r w n f j = record { first = f; join = j; write = first_write r w n j; pairs = map (λ l. record { lock = l; at = first_uncovered r w n j l }) (cover_of (r j)) }

-- by the first access and the joining, where they exist
abbrev pub book_by : Reading → ℕ → ℕ → Option ℕ → Option ℕ → Book ℕ
book_by r w n None joined = Untouched
book_by r w n (Some f) None = Owned (thread_of (r f)) f
book_by r w n (Some f) (Some j) = Joined (joining_at r w n f j)

-- the word's book at point n
unfoldable pub book_at : Reading → ℕ → ℕ → Book ℕ
book_at r w n = book_by r w n (first r w n) (join r w n)

-- the joining of which this explanation says all
abbrev pub joining_of : Explanation → Joining ℕ
joining_of e = record { first = e.first; join = e.join; write = Some e.write; pairs = map (λ pair. record { lock = pair.0; at = Some pair.1 }) e.uncovered }
