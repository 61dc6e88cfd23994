-- A report that grows by one step after another.
use Rattle.std.specs.Prelude.{◌≡◌, ◌≤◌, ◌<◌, ◌+◌, ◌++◌, ℕ, suc, All, Bool, true, false, is_some, List, length, slice_get, slice_index, IsTrue, Option, IfSome, Some, None, Result, Ok, Err}
use Rattle.er_trace.specs.Names.{NameTable}
use Rattle.er_trace.specs.Trace.{Recording, IsNamed, HasSiteName as IsSite}
use Rattle.er_event.specs.declared.refusals.Refusal.{Refusal}
use Rattle.er_event.specs.declared.steps.Reply.{Reply}
use Rattle.er_event.specs.declared.steps.Reply.TheVariants.{Done, Quiet, Race, Ignored, State}
use Rattle.er_event.specs.declared.steps.Step.{Step}
use Rattle.er_explain.specs.Racing.{is_race, places_below}
use Rattle.er_model.specs.Answers.{answer, state_at}
use Rattle.er_model.specs.Threads.{accepted, held}
use Rattle.er_report.specs.Kept.{Kept, Follows}
use Rattle.er_report.specs.Report.{Answering, Summary, matching_rule_by, lines_by, no_reasons, count_below, rule_counts, is_printed_by, is_refused}
use Rattle.er_rules.specs.Rules.{Target}

-- what a builder holds: a report without reasons, the positions of the races that have lines, the rules, and what is kept for reasons, if
-- they are wanted
pub record Built : Type 0 where
  pub report : Summary
  pub races : List ℕ
  pub rules : List Target
  pub kept : Option Kept

-- the report of a recording's first n steps with these answers, without reasons
unfoldable pub report_below_by : Answering → Recording → List Target → ℕ → Summary
report_below_by answers r rules n =
    record {
      lines = lines_by answers no_reasons r rules n;
      stop = None;
      rule_counts = rule_counts answers r rules n;
      steps = n;
      races = count_below (is_printed_by answers r rules) n;
      suppressed = count_below (λ k. is_some (matching_rule_by answers r rules k)) n;
      refused = count_below (λ k. is_refused (answers k)) n;
      lost = None;
    }

-- and with those of the lockset rule
abbrev pub report_below : Recording → List Target → ℕ → Summary
report_below r rules n = report_below_by (answer r.steps) r rules n

-- the report that it holds is that of the recording's first n steps with these answers
pub record IsBuiltBy (answers : Answering) (builder : Built) (r : Recording) (n : ℕ) : Type 0 where
  pub report : builder.report ≡ report_below_by answers r builder.rules n
  pub races : builder.races ≡ places_below (is_printed_by answers r builder.rules) n

-- and with those of the lockset rule
unfoldable pub IsBuilt : Built → Recording → ℕ → Type 0
IsBuilt builder r n = IsBuiltBy (answer r.steps) builder r n

-- what is kept for reasons is that of the recording's first n steps
abbrev pub IsExplained : Built → Recording → ℕ → Type 0
IsExplained builder r n = IfSome builder.kept (λ kept. Follows kept r builder.rules n)

-- both
pub record IsReported (builder : Built) (r : Recording) (n : ℕ) : Type 0 where
  pub built : IsBuilt builder r n
  pub explained : IsExplained builder r n

-- this is the recording's step at position k, with its line and the site of this, its names and its answer, and with the locks that its
-- thread holds, if it is a race
pub record IsStepBy (answers : Answering) (r : Recording) (k : ℕ) (names : NameTable) (number line_site : ℕ) (step : Step) (given : Result Reply Refusal) (locks : List ℕ) : Type 0 where
  pub here : slice_get r.steps k ≡ Some step
  pub line : number ≡ slice_index r.lines k
  pub site : line_site ≡ slice_index r.sites k
  pub named : names ≡ r.names
  pub answered : given ≡ answers k
  pub locked : IsTrue (is_race given) → locks ≡ held (accepted r.steps k) step.thread

-- and its answer is the lockset rule's
abbrev pub IsStepAt : Recording → ℕ → NameTable → ℕ → ℕ → Step → Result Reply Refusal → List ℕ → Type 0
IsStepAt r k names number line_site step given locks = IsStepBy (answer r.steps) r k names number line_site step given locks

-- the answer is no race, no refusal and no shown state: a report counts its step and says nothing else of it
abbrev pub is_plain : Result Reply Refusal → Bool
is_plain (Ok Done) = true
is_plain (Ok Quiet) = true
is_plain (Ok Ignored) = true
is_plain (Ok Race) = false
is_plain (Ok (State state)) = false
is_plain (Err refusal) = false

-- the n answers from position k on are plain
abbrev pub ArePlainBy : Answering → ℕ → ℕ → Type 0
ArePlainBy answers k n = (i : ℕ) → k ≤ i → i < k + n → is_plain (answers i) ≡ true

-- and those of the lockset rule are
abbrev pub ArePlain : List Step → ℕ → ℕ → Type 0
ArePlain steps k n = ArePlainBy (answer steps) k n

-- the step at position k leaves the state of every word as it was
abbrev pub KeepsState : List Step → ℕ → Type 0
KeepsState steps k = (w : ℕ) → state_at steps w (suc k) ≡ state_at steps w k

-- each of the n steps from position k on is one
abbrev pub KeepStates : List Step → ℕ → ℕ → Type 0
KeepStates steps k n = (i : ℕ) → k ≤ i → i < k + n → KeepsState steps i

-- the second recording goes on from the first: it has more steps, lines and sites, and perhaps more names, and each site keeps its name
pub record GoesOn (before after : Recording) : Type 0 where
  pub named : All (IsNamed before.names) before.steps
  pub long : length before.lines ≡ length before.steps
  pub one_each : length before.sites ≡ length before.steps
  pub known : All (IsSite before.names) before.sites
  pub more : List Step
  pub others : List ℕ
  pub other_sites : List ℕ
  pub steps : after.steps ≡ before.steps ++ more
  pub lines : after.lines ≡ before.lines ++ others
  pub places : after.sites ≡ before.sites ++ other_sites
  pub sites : (n : ℕ) (name : List ℕ) → slice_get before.names.sites n ≡ Some name → slice_get after.names.sites n ≡ Some name
