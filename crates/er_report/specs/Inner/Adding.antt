-- What one step more adds to a report.
use Rattle.std.specs.Prelude.{◌≡◌, ◌≤◌, ◌<◌, ◌^◌, ℕ, ◌+◌, cond, List, [], ◌++◌, length, replicate, slice_index, slice_set, Option, Some, None, Result}
use Rattle.er_event.specs.declared.refusals.Refusal.{Refusal}
use Rattle.er_event.specs.declared.steps.Reply.{Reply}
use Rattle.er_event.specs.declared.steps.Step.{Step}
use Rattle.er_explain.specs.Racing.{is_race}
use Rattle.er_report.specs.Report.{Summary, answer_line, is_refused}

-- the report before any step, with so many rules
abbrev pub empty_report : ℕ → Summary
empty_report rules = record { lines = []; stop = None; rule_counts = replicate rules 0; steps = 0; races = 0; suppressed = 0; refused = 0; lost = None }

-- one more race for the rule that takes it
abbrev pub one_more : List ℕ → ℕ → List ℕ
one_more counts i = slice_set counts i (slice_index counts i + 1)

-- the report with one more step, whose thread holds these locks and which is answered so, unless a rule takes its race
abbrev pub with_answer : Summary → ℕ → ℕ → List ℕ → Step → Result Reply Refusal → Option ℕ → Summary
with_answer s number line_site locks step answer None =
    record {
      lines = s.lines ++ answer_line number line_site locks [] step answer;
      stop = s.stop;
      rule_counts = s.rule_counts;
      steps = s.steps + 1;
      races = s.races + cond (is_race answer) 1 0;
      suppressed = s.suppressed;
      refused = s.refused + cond (is_refused answer) 1 0;
      lost = s.lost;
    }
with_answer s number line_site locks step answer (Some i) =
    record {
      lines = s.lines;
      stop = s.stop;
      rule_counts = one_more s.rule_counts i;
      steps = s.steps + 1;
      races = s.races;
      suppressed = s.suppressed + 1;
      refused = s.refused;
      lost = s.lost;
    }

-- no count is above that of the steps, and each of so many rules has one
pub record IsCounted (s : Summary) (rules : ℕ) : Type 0 where
  pub races : s.races ≤ s.steps
  pub suppressed : s.suppressed ≤ s.steps
  pub refused : s.refused ≤ s.steps
  pub rule_counts : (i : ℕ) → slice_index s.rule_counts i ≤ s.steps
  pub one_each : length s.rule_counts ≡ rules

-- there is room to count one more step
pub record HasRoom (s : Summary) : Type 0 where
  pub steps : s.steps + 1 < 2 ^ 64
  pub races : s.races ≤ s.steps
  pub suppressed : s.suppressed ≤ s.steps
  pub refused : s.refused ≤ s.steps
  pub rule_counts : (i : ℕ) → slice_index s.rule_counts i ≤ s.steps
