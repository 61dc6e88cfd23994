-- What a step does to a worker whose machine has the states of its own shards' words alone.
use Rattle.std.proofs.Common.{◌≡◌, ℕ, ◌%◌, ◌==◌, nat_lt, Bool, true, false, cond, List, refl, ap, ◌∙◌}
use Rattle.std.proofs.lemmas.Bool.{eqb-true}
use Rattle.er_event.specs.declared.steps.Event.{Event}
use Rattle.er_event.specs.declared.steps.Event.TheVariants.{Acquire, Release, Access, Reuse, IgnoreOn, IgnoreOff, Show, Level, Sync}
use Rattle.er_event.specs.declared.addresses.PageRange.{PageRange}
use Rattle.er_event.specs.declared.steps.Kind.{Kind}
use Rattle.er_event.specs.declared.steps.Reply.TheVariants.{State}
use Rattle.er_event.specs.declared.steps.WordState.{WordState}
use Rattle.er_event.specs.declared.steps.WordState.TheVariants.{Virgin}
use Rattle.er_model.specs.Following.{marked, replied, locks_for}
use Rattle.er_model.specs.Holdings.{Holdings}
use Rattle.er_model.specs.Locality.{touches}
use Rattle.er_journal.specs.Merges.{shard_of}
use Rattle.er_model.specs.Table.{moved, advanced}
use Rattle.er_model.specs.Words.{Counted, Reused, Nothing, reuses, counts, is_within}
use Rattle.er_journal.proofs.Merges.{touch_shard}
use Rattle.er_parallel.specs.Tasks.{worker_for}
use Rattle.er_replay.specs.Wants.{asks_by}

-- a step on words of other shards leaves a word as it was
module _ (shards workers worker w t : ℕ) (h : Holdings) (before : WordState) (mine : shard_of shards w % workers ≡ worker) where
  apart_access : (kind : Kind) (word : ℕ) (cover : List ℕ) (b : Bool) → (word == w) ≡ b → (shard_of shards word % workers ≡ worker → ⊥) → cond b (advanced before t kind cover) before ≡ before
  apart_access kind word cover true same other = absurd (other (ap (λ (v : ℕ). shard_of shards v % workers) (eqb-true word w same) ∙ mine))
  apart_access kind word cover false same other = refl

  apart_counted : (kind : Kind) (word : ℕ) (cover : List ℕ) (ignores : Bool) → (shard_of shards word % workers ≡ worker → ⊥) → moved before w (cond ignores Nothing (Counted t kind word cover)) ≡ before
  apart_counted kind word cover true other = refl
  apart_counted kind word cover false other = apart_access kind word cover (word == w) refl other

  within_touches : (range : PageRange) → is_within w range ≡ true → touches (Reused range) w ≡ true
  unfolding reuses counts
  within_touches range within = rw within refl

  apart_reuse : (range : PageRange) (b : Bool) → is_within w range ≡ b → (shard_of shards range.lo % workers ≡ worker → ⊥) → cond b Virgin before ≡ before
  apart_reuse range true within other =
      let same : shard_of shards range.lo ≡ shard_of shards w = eqb-true (shard_of shards range.lo) (shard_of shards w) (touch_shard shards w (Reused range) (within_touches range within)) in
      absurd (other (ap (λ (s : ℕ). s % workers) same ∙ mine))
  apart_reuse range false within other = refl

  pub apart : (e : Event) → (worker_for shards workers e ≡ worker → ⊥) → moved before w (marked h t e) ≡ before
  apart (Access kind word site) other = apart_counted kind word (locks_for h kind) (nat_lt 0 h.depth) other
  apart (Reuse range) other = apart_reuse range (is_within w range) refl other
  apart (Show word) other = refl
  apart (Acquire l m) other = refl
  apart (Release l m) other = refl
  apart IgnoreOn other = refl
  apart IgnoreOff other = refl
  apart (Level n) other = refl
  apart (Sync sync) other = refl

-- a step's reply depends on the states of its own shard's words alone
module _ (shards workers worker t : ℕ) (h : Holdings) (states others : ℕ → WordState) (same : (w : ℕ) → shard_of shards w % workers ≡ worker → states w ≡ others w) where
  pub replied-same : (e : Event) → worker_for shards workers e ≡ worker → replied h states t e ≡ replied h others t e
  replied-same (Access kind w site) mine = rw (same w mine) refl
  replied-same (Show w) mine = ap State (same w mine)
  replied-same (Reuse range) mine = refl
  replied-same (Acquire l m) mine = refl
  replied-same (Release l m) mine = refl
  replied-same IgnoreOn mine = refl
  replied-same IgnoreOff mine = refl
  replied-same (Level n) mine = refl
  replied-same (Sync sync) mine = refl

  -- and so does whether it asks for a set
  pub asks-same : (e : Event) → worker_for shards workers e ≡ worker → asks_by h states t e ≡ asks_by h others t e
  asks-same (Access kind w site) mine = rw (same w mine) refl
  asks-same (Show w) mine = refl
  asks-same (Reuse range) mine = refl
  asks-same (Acquire l m) mine = refl
  asks-same (Release l m) mine = refl
  asks-same IgnoreOn mine = refl
  asks-same IgnoreOff mine = refl
  asks-same (Level n) mine = refl
  asks-same (Sync sync) mine = refl
