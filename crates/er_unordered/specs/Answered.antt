-- How far happens-before has come in the steps of a recording.
use Rattle.std.specs.Prelude.{◌≡◌, ℕ, All, Bool, true, false, List, length, take, Option}
pub use Rattle.er_batch.specs.Runs.{recorded}
use Rattle.er_event.specs.declared.steps.Step.{Step}
use Rattle.er_order.specs.ByBytes.{Touched, answer_by_bytes}
use Rattle.er_report.specs.Builder.{Built, IsBuiltBy}
use Rattle.er_report.specs.declared.report.Because.{Because}
use Rattle.er_trace.specs.Trace.{Recording, IsNamed, HasSiteName}
use Rattle.er_unordered.specs.Standing.{Ordered, Stands}
use Rattle.er_unordered.specs.Tags.{line_reason, one_told, no_tag, none_told, tag_at, told_at}
use Rattle.er_unordered.specs.declared.ordering.Machines.{Machines}
use Rattle.er_unordered.specs.declared.ordering.Machines.TheVariants.{Plain, Telling}

-- the machine stands for the recording's first n steps, which touch these bytes, and the report and what is told are theirs
pub record HasComeTo {A : Type 0} (touched : Touched) (tag_of : ℕ → Option Step → A) (told_of : Option A → List (List Because)) (machine : Ordered A) (builder : Built) (told : List (List Because)) (r : Recording) (n : ℕ) : Type 0 where
  pub stands : Stands (tag_at tag_of r) touched machine (take n r.steps)
  pub built : IsBuiltBy (answer_by_bytes touched r.steps) builder r n
  pub reasons : told ≡ told_at tag_of told_of touched r builder.races

-- all of the recording's steps were answered
pub record HasAnswered {A : Type 0} (touched : Touched) (tag_of : ℕ → Option Step → A) (told_of : Option A → List (List Because)) (machine : Ordered A) (builder : Built) (told : List (List Because)) (r : Recording) : Type 0 where
  pub come : HasComeTo touched tag_of told_of machine builder told r (length r.steps)
  pub named : All (IsNamed r.names) r.steps
  pub long : length r.lines ≡ length r.steps
  pub seen : All (HasSiteName r.names) r.sites
  pub one_each : length r.sites ≡ length r.steps

-- all of the recording's steps were answered, by a machine that keeps what reasons want or by one that doesn't
abbrev pub HasGathered : Touched → Machines → Built → List (List Because) → Recording → Type 0
HasGathered touched (Plain machine) builder told r = HasAnswered touched no_tag none_told machine builder told r
HasGathered touched (Telling machine) builder told r = HasAnswered touched line_reason one_told machine builder told r

-- the machine keeps what reasons want
abbrev pub tells : Machines → Bool
tells (Plain machine) = false
tells (Telling machine) = true
