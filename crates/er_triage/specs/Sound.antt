-- Names as a trace may write them, and races of which a text can be written that is read again.
use Rattle.std.specs.Prelude.{◌≡◌, ℕ, ◌^◌, ◌<◌, true, false, List, All, codes}
use Rattle.std.specs.Str.{bytes_eq}
use Rattle.er_lines.specs.Naming.{is_name, is_site_name}
use Rattle.er_report.specs.declared.report.Deed.{Deed}
use Rattle.er_report.specs.declared.report.Deed.TheVariants.{Access, Reuse}
use Rattle.er_trace.specs.Names.{NameTable}
use Rattle.er_triage.specs.Known.{IsNamed}
use Rattle.er_triage.specs.declared.known.KnownRace.{KnownRace}
pub use Rattle.er_triage.specs.declared.known.KnownRace.{KnownRace as KnownRaceOf}

-- the bytes name a site, and are not the dash of the missing one
abbrev pub NamesSite : List ℕ → Type 0
NamesSite name = (is_site_name name ≡ true) × (bytes_eq name (codes "-") ≡ false)

-- the names of threads and of sites are such as a trace writes
pub record AreSound (names : NameTable) : Type 0 where
  pub threads : All (λ name. is_name name ≡ true) names.threads
  pub sites : All NamesSite names.sites

-- its words are words of memory
abbrev pub IsInMemory : Deed → Type 0
IsInMemory (Access kind word) = word < 2 ^ 46
IsInMemory (Reuse range) = range.hi < 2 ^ 46

-- the race has names, and its numbers are those of words of memory and of 64 bits
pub record IsSound (names : NameTable) (race : KnownRace) : Type 0 where
  pub named : IsNamed names race
  pub line : race.line < 2 ^ 64
  pub races : race.races < 2 ^ 64
  pub memory : IsInMemory race.deed
