-- What the words of a command line ask for.
use Rattle.std.specs.Prelude.{ℕ, ◌≡◌, ◌&&◌, ◌⊎◌, Bool, false, true, List, [], ◌∷◌, None, codes, String, string_bytes}
use Rattle.std.specs.List.{list_any}
use Rattle.std.specs.Str.{bytes_eq}
use Rattle.er_report.specs.declared.reports.Analysis.TheVariants.{Lockset}
use Rattle.er_report.specs.declared.reports.Form.TheVariants.{Text}
use Rattle.er_request.specs.declared.request.Replay.{Replay as Replaying}
use Rattle.er_request.specs.declared.request.Request.{Request}
use Rattle.er_request.specs.declared.request.Request.TheVariants.{Replay, Explain, Print, Merge, Demo}

-- one of the words is this option
abbrev pub names : {A : Type 0} → List ℕ → List (String A) → Bool
names option words = list_any (λ word. bytes_eq (string_bytes word) option) words

-- one of the words is `--until-fault`
abbrev pub names_until_fault : {A : Type 0} → List (String A) → Bool
names_until_fault words = names (codes "--until-fault") words

-- the steps before a fault are to be reported
abbrev pub asks_until_fault : Request → Bool
asks_until_fault (Replay replay) = replay.until_fault
asks_until_fault (Explain explain) = false
asks_until_fault (Print trace) = false
asks_until_fault (Merge reports) = false
asks_until_fault (Demo demo) = false

-- one of the words is `--progress`
abbrev pub names_progress : {A : Type 0} → List (String A) → Bool
names_progress words = names (codes "--progress") words

-- how far the replay has come is to be shown
abbrev pub asks_progress : Request → Bool
asks_progress (Replay replay) = replay.progress
asks_progress (Explain explain) = false
asks_progress (Print trace) = false
asks_progress (Merge reports) = false
asks_progress (Demo demo) = false

-- one of the words is `--hints`
abbrev pub names_hints : {A : Type 0} → List (String A) → Bool
names_hints words = names (codes "--hints") words

-- what helps people is to follow a fault's line
abbrev pub asks_hints : Request → Bool
asks_hints (Replay replay) = replay.hints
asks_hints (Explain explain) = false
asks_hints (Print trace) = false
asks_hints (Merge reports) = false
asks_hints (Demo demo) = false

-- it is a replay with hints, or no replay
abbrev pub gives_hints : Request → Bool
gives_hints (Replay replay) = replay.hints
gives_hints (Explain explain) = true
gives_hints (Print trace) = true
gives_hints (Merge reports) = true
gives_hints (Demo demo) = true

-- reports of parts are merged by the lockset rule alone
abbrev pub merges_by_locks : Request → Type 0
merges_by_locks (Replay replay) = (replay.reports.items ≡ []) ⊎ (replay.analysis ≡ Lockset)
merges_by_locks (Explain explain) = Unit {0}
merges_by_locks (Print trace) = Unit {0}
merges_by_locks (Merge reports) = Unit {0}
merges_by_locks (Demo demo) = Unit {0}

-- behind the program's name stand this command and `-` alone
abbrev pub takes_input : {A : Type 0} → List ℕ → List (String A) → Bool
takes_input command (program ∷ first ∷ trace ∷ []) = bytes_eq (string_bytes first) command && bytes_eq (string_bytes trace) (codes "-")
takes_input command words = false

-- they are `replay` and `-`
abbrev pub replays_input : {A : Type 0} → List (String A) → Bool
replays_input words = takes_input (codes "replay") words

-- they are `print` and `-`
abbrev pub prints_input : {A : Type 0} → List (String A) → Bool
prints_input words = takes_input (codes "print") words

-- a trace of at most so many bytes is replayed, if no other limit is given: 256 MiB
abbrev pub usual_limit : ℕ
usual_limit = 268435456

-- the standard input by locks and by one worker, its report as text, and nothing more
pub record IsUsual (replay : Replaying) : Type 0 where
  pub input : replay.trace.now ≡ codes "-"
  pub limit : replay.byte_limit ≡ usual_limit
  pub part : replay.part ≡ None
  pub reports : replay.reports.items ≡ []
  pub counts : replay.counts ≡ None
  pub analysis : replay.analysis ≡ Lockset
  pub form : replay.form ≡ Text
  pub source : replay.source ≡ None
  pub suppressions : replay.suppressions.items ≡ []
  pub write_rules : replay.write_rules ≡ None
  pub unused_rules : replay.unused_rules ≡ false
  pub max_races : replay.max_races ≡ None
  pub explain : replay.explain ≡ false
  pub strict : replay.strict ≡ false
  pub until_fault : replay.until_fault ≡ false
  pub progress : replay.progress ≡ false
  pub workers : replay.workers ≡ 1

-- it is such a replay, with hints or without them
abbrev pub asks_usual : Bool → Request → Type 0
asks_usual hints (Replay replay) = IsUsual replay × (replay.hints ≡ hints)
asks_usual hints (Explain explain) = ⊥
asks_usual hints (Print trace) = ⊥
asks_usual hints (Merge reports) = ⊥
asks_usual hints (Demo demo) = ⊥

-- the text that the standard input means is to be written
abbrev pub asks_print : Request → Type 0
asks_print (Replay replay) = ⊥
asks_print (Explain explain) = ⊥
asks_print (Print trace) = trace.now ≡ codes "-"
asks_print (Merge reports) = ⊥
asks_print (Demo demo) = ⊥
