-- How many of the lines so far pass a test, and the counts by site.
use Rattle.std.proofs.Common.{◌≡◌, ◌∙◌, ◌+◌, ◌<◌, ◌≤◌, ◌^◌, ℕ, Bool, true, false, cond, List, length, take, get_or, slice_index, count_by, refl, sym, ap, arith}
use Rattle.std.proofs.lemmas.List.{length-take-le}
use Rattle.er_report.specs.declared.report.Line.{Line}
use Rattle.er_sites.specs.Counted.{AreCounts, HasRoom}
use Rattle.er_sites.specs.Table.{reads_at, reuses_at, writes_at}
use Rattle.er_sites.specs.declared.counts.Counts.{Counts}
use Rattle.std.proofs.lemmas.List.Sums.{count_by-le-length, count_by_more_no, count_by_more_yes}

module _ {X : Type 0} (p : X → Bool) (xs : List X) (k : ℕ) where
  -- they are not more than there are
  pub count_within : k < length xs → count_by p (take k xs) + 1 ≤ length xs
  count_within within = omega (arith, count_by-le-length p (take k xs), length-take-le k xs (omega arith))

  -- one line more
  pub count_next : (x : X) → k < length xs → x ≡ get_or xs k x → (before after : ℕ) → before ≡ count_by p (take k xs) → after ≡ before + cond (p x) 1 0 → after ≡ count_by p (take (k + 1) xs)
  count_next x within is before after so_far goes = goes ∙ ap (λ n. n + cond (p x) 1 0) so_far ∙ sym (by (p x) refl)
    where
      by : (b : Bool) → p x ≡ b → count_by p (take (k + 1) xs) ≡ count_by p (take k xs) + cond b 1 0
      by true e = count_by_more_yes p xs k x within (ap p (sym is) ∙ e)
      by false e = let same = count_by_more_no p xs k x within (ap p (sym is) ∙ e) in omega arith

-- the counts of the lines so far have room for the next one
pub counts_room : (lines : List Line) (k : ℕ) (counts : Counts) → k < length lines → length lines < 2 ^ 64 → AreCounts (take k lines) counts → HasRoom counts
counts_room lines k counts within few known = record {
  reads = λ s. omega (arith, known.reads s, count_within (reads_at s) lines k within);
  writes = λ s. omega (arith, known.writes s, count_within (writes_at s) lines k within);
  reuses = λ s. omega (arith, known.reuses s, count_within (reuses_at s) lines k within);
}

-- and once it was counted they are those of one line more
pub counts_next : (lines : List Line) (k : ℕ) (line : Line) (before after : Counts) → k < length lines → line ≡ get_or lines k line → AreCounts (take k lines) before
    → ((s : ℕ) → slice_index after.reads.items s ≡ slice_index before.reads.items s + cond (reads_at s line) 1 0)
    → ((s : ℕ) → slice_index after.writes.items s ≡ slice_index before.writes.items s + cond (writes_at s line) 1 0)
    → ((s : ℕ) → slice_index after.reuses.items s ≡ slice_index before.reuses.items s + cond (reuses_at s line) 1 0)
    → length after.reads.items ≤ 2 ^ 32 → length after.writes.items ≤ 2 ^ 32 → length after.reuses.items ≤ 2 ^ 32 → AreCounts (take (k + 1) lines) after
counts_next lines k line before after within is known reads writes reuses few_reads few_writes few_reuses = record {
  reads = λ s. count_next (reads_at s) lines k line within is (slice_index before.reads.items s) (slice_index after.reads.items s) (known.reads s) (reads s);
  writes = λ s. count_next (writes_at s) lines k line within is (slice_index before.writes.items s) (slice_index after.writes.items s) (known.writes s) (writes s);
  reuses = λ s. count_next (reuses_at s) lines k line within is (slice_index before.reuses.items s) (slice_index after.reuses.items s) (known.reuses s) (reuses s);
  few_reads = few_reads;
  few_writes = few_writes;
  few_reuses = few_reuses;
}
