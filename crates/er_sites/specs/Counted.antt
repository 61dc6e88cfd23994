-- Counts of races by site.
use Rattle.std.specs.Prelude.{◌≡◌, ◌≤◌, ◌<◌, ◌+◌, ◌^◌, ℕ, zero, suc, List, length, slice_index, count_by}
use Rattle.er_event.specs.declared.steps.Kind.TheVariants as kind
use Rattle.er_report.specs.declared.report.Line.{Line}
pub use Rattle.er_report.specs.declared.report.Line.{Line as LineOf}
use Rattle.er_report.specs.declared.report.Line.TheVariants.{Race, Reused, Refused, Shown}
pub use Rattle.er_sites.specs.Table.{reads_at, writes_at, reuses_at}
use Rattle.er_sites.specs.declared.counts.Counts.{Counts}

-- the counts are those of the races of the lines, and their lists are no longer than there are sites
pub record AreCounts (lines : List Line) (counts : Counts) : Type 0 where
  pub reads : (s : ℕ) → slice_index counts.reads.items s ≡ count_by (reads_at s) lines
  pub writes : (s : ℕ) → slice_index counts.writes.items s ≡ count_by (writes_at s) lines
  pub reuses : (s : ℕ) → slice_index counts.reuses.items s ≡ count_by (reuses_at s) lines
  pub few_reads : length counts.reads.items ≤ 2 ^ 32
  pub few_writes : length counts.writes.items ≤ 2 ^ 32
  pub few_reuses : length counts.reuses.items ≤ 2 ^ 32

-- there is room to count one race more
pub record HasRoom (counts : Counts) : Type 0 where
  pub reads : (s : ℕ) → slice_index counts.reads.items s + 1 < 2 ^ 64
  pub writes : (s : ℕ) → slice_index counts.writes.items s + 1 < 2 ^ 64
  pub reuses : (s : ℕ) → slice_index counts.reuses.items s + 1 < 2 ^ 64

-- how many races of its site and kind were counted
abbrev pub count_like : Counts → Line → ℕ
count_like counts (Race kind.Read thread site number word details) = slice_index counts.reads.items site
count_like counts (Race kind.Write thread site number word details) = slice_index counts.writes.items site
count_like counts (Reused thread zero number range details) = 0
count_like counts (Reused thread (suc site) number range details) = slice_index counts.reuses.items (suc site)
count_like counts (Refused refusal step number) = 0
count_like counts (Shown number word state) = 0
