-- The lists of steps that what is kept of all words stands for.
use Rattle.std.specs.Prelude.{ℕ, ◌≡◌, ◌==◌, cond, List, [], length, map}
use Rattle.std.specs.Bool.{MatchBool}
use Rattle.er_event.specs.declared.steps.Kind.{Kind}
use Rattle.er_event.specs.declared.steps.Kind.TheVariants.{Read as reading, Write as writing}
use Rattle.er_event.specs.declared.steps.Step.{Step}
use Rattle.er_model.specs.Words.{Mark, Counted, Reused, Shown, Nothing, Reading, thread_of, writes, is_within}
use Rattle.er_model.specs.Answers.{reading_of}
use Rattle.er_order.specs.ByBytes.{Touched, by_bytes, accesses}
use Rattle.er_order.specs.Order.{Acts, acts_of, happens_before}
use Rattle.er_order.specs.Clocks.{own_count}
use Rattle.er_order.specs.Parts.{ArePartsAlike}
use Rattle.er_order.specs.Races.{had_race}
use Rattle.er_order.specs.declared.bytes.Bytes.{Bytes}
use Rattle.er_epochs.specs.declared.reads.Tagged.{Tagged}
use Rattle.er_epochs.specs.declared.byte_accesses.ByteAccess.{ByteAccess}
use Rattle.er_epochs.specs.Epochs.{tagged}
use Rattle.er_epochs.specs.Known.{Known, Since, Raced, IsKnownBy, part_of}
use Rattle.er_epochs.specs.Words.{AllWords, known_among}

-- the access at position k, with its tag
abbrev pub access_at : {A : Type 0} → Acts → Reading → (ℕ → A) → ℕ → Tagged A
access_at acts r tags k = tagged (thread_of (r k)) (own_count acts k (thread_of (r k))) (tags k)

-- a write, or else a read
abbrev pub kind_of : Mark → Kind
kind_of mark = cond (writes mark) writing reading

-- the access at position k, with its tag, its kind and its bytes
abbrev pub byte_access_at : {A : Type 0} → Acts → Reading → (ℕ → A) → Touched → ℕ → ByteAccess A
byte_access_at acts r tags touched k = record { access = access_at acts r tags k; kind = kind_of (r k); bytes = touched k }

-- what a list, read so, says at point n of word w: the accesses of its era, or that the era had a race
unfoldable pub known : {A : Type 0} → Acts → Reading → (ℕ → A) → Touched → ℕ → ℕ → Known A
known acts r tags touched w n = cond (had_race (by_bytes touched (happens_before acts)) r w n) Raced (Since (map (byte_access_at acts r tags touched) (accesses r w n)))

-- what a list of steps says of word w after its first n steps
abbrev pub known_at : {A : Type 0} → (ℕ → A) → Touched → List Step → ℕ → ℕ → Known A
known_at tags touched steps w n = known (acts_of steps) (reading_of steps) tags touched w n

-- what is known serves as that which is wanted: whoever asks from now on finds the same
abbrev pub ServesAs : {A : Type 0} → List Step → Known A → Known A → Type 0
ServesAs steps Raced wanted = wanted ≡ Raced
ServesAs {A} steps (Since stored) wanted = (all : List (ByteAccess A)) × (wanted ≡ Since all) × ArePartsAlike part_of steps stored all

-- what is known of each word serves as what the list says, where these are the tags and bytes of its positions
abbrev pub FollowsBytes : {A : Type 0} → (ℕ → A) → Touched → AllWords A → List Step → Type 0
FollowsBytes tags touched words steps = (w : ℕ) → ServesAs steps (known_among words w) (known_at tags touched steps w (length steps))

-- what may be known of word w after a position that is this to the words, by a thread whose clock this is, with this tag and these bytes
abbrev pub IsKnownMoved : {A : Type 0} → (ℕ → ℕ) → A → Bytes → Known A → ℕ → Mark → Known A → Type 0
IsKnownMoved clock a bytes before w (Counted t kind word cover) after = MatchBool (word == w) (IsKnownBy clock before (record { access = tagged t (clock t) a; kind = kind; bytes = bytes }) after) (after ≡ before)
IsKnownMoved clock a bytes before w (Reused range) after = after ≡ cond (is_within w range) (Since []) before
IsKnownMoved clock a bytes before w (Shown word) after = after ≡ before
IsKnownMoved clock a bytes before w Nothing after = after ≡ before
