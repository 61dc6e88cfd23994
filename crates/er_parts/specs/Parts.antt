-- Parts of a recording. Pages are dealt out to so many parts, and each part answers the accesses, reuses and shows of its own pages. Every part
-- follows the other events; the first part answers these too. A part may want some of its pages alone.
use Rattle.std.specs.Prelude.{ℕ, ◌+◌, ◌%◌, ◌==◌, Bool, true, false, ◌&&◌, cond, List, [], ◌∷◌, filter, Option, Some, None, is_some, slice_index_or}
use Rattle.er_event.specs.Span.{page_of}
use Rattle.er_event.specs.declared.steps.Event.{Event}
use Rattle.er_event.specs.declared.steps.Event.TheVariants.{Access, Reuse, Show}
use Rattle.er_event.specs.declared.steps.Step.{Step}
use Rattle.er_trace.specs.Trace.{Recording}

-- which part it is, counted from 1, and of how many; and the remainders of the pages that it wants, if it doesn't want all
pub record PartView : Type 0 where
  pub index : ℕ
  pub count : ℕ
  pub wanted : Option (List Bool)

-- of so many parts the one of this number, which wants all of its pages
abbrev pub part_at : ℕ → ℕ → PartView
part_at n i = record { index = i; count = n; wanted = None }

-- the page is wanted
abbrev pub is_wanted : Option (List Bool) → ℕ → Bool
is_wanted None page = true
is_wanted (Some remainders) page = slice_index_or remainders (page % 4096) false

-- the page is one of the part's
abbrev pub has_page : PartView → ℕ → Bool
has_page part page = is_wanted part.wanted page && (page % part.count + 1 == part.index)

-- the page of an access, a reuse or a show; another event is of none
abbrev pub page_in : Event → Option ℕ
page_in (Access kind word site) = Some (page_of word)
page_in (Reuse range) = Some (page_of range.lo)
page_in (Show word) = Some (page_of word)
page_in event = None

-- an event of this page is of use to the part
abbrev pub takes_page : PartView → Option ℕ → Bool
takes_page part None = true
takes_page part (Some page) = has_page part page

-- the step is of use to the part
unfoldable pub takes : PartView → Step → Bool
takes part step = takes_page part (page_in step.event)

-- of what stands beside steps, what stands beside those that are of use to the part
unfoldable pub kept_beside : {A : Type 0} → PartView → List Step → List A → List A
kept_beside part (step ∷ steps) (a ∷ others) = cond (takes part step) (a ∷ kept_beside part steps others) (kept_beside part steps others)
kept_beside part _ _ = []

-- the recording with the steps alone that are of use to the part, each with its line and site; without a part the recording itself
abbrev pub kept : Option PartView → Recording → Recording
kept None r = r
kept (Some part) r = record r { steps = filter (takes part) r.steps; lines = kept_beside part r.steps r.lines; sites = kept_beside part r.steps r.sites }

-- the step is an access, a reuse or a show
unfoldable pub is_of_page : Step → Bool
is_of_page step = is_some (page_in step.event)
