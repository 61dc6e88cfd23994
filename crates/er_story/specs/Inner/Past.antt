-- What a pass keeps of a word, and how it goes on.
use Rattle.std.specs.Prelude.{ℕ, ◌+◌, ◌==◌, nat_lt, not, cond, List, [], ◌∷◌, ◌++◌}
use Rattle.er_event.specs.declared.steps.Event.{Event}
use Rattle.er_event.specs.declared.steps.Event.TheVariants.{Acquire, Release, Access, Reuse, IgnoreOn, IgnoreOff, Show, Level, Sync}
use Rattle.er_event.specs.declared.steps.Kind.{Kind}
use Rattle.er_event.specs.declared.steps.WordState.{WordState}
use Rattle.er_event.specs.declared.steps.WordState.TheVariants.{Virgin}
use Rattle.er_model.specs.Answers.{reading_of, state_at}
use Rattle.er_model.specs.Following.{locks_for}
use Rattle.er_model.specs.Holdings.{Holdings}
use Rattle.er_model.specs.Table.{advanced}
use Rattle.er_model.specs.Words.{era, is_within}
use Rattle.er_places.specs.Places.{stood_at}
use Rattle.er_story.specs.Story.{counted_since, turns_since, same_state, empties}
use Rattle.er_story.specs.declared.story.Turn.{Turn}
use Rattle.er_trace.specs.Trace.{Recording}

-- the state, how many accesses count since the word's last reuse, and those that changed the state
pub record PastView : Type 0 where
  pub state : WordState
  pub accesses : ℕ
  pub turns : List Turn

-- what is known of a word before any access
abbrev pub fresh : PastView
fresh = record { state = Virgin; accesses = 0; turns = [] }

-- after an access that makes the state this one
abbrev pub gone_to : PastView → WordState → Holdings → ℕ → ℕ → Kind → ℕ → PastView
gone_to p after h line t kind site =
    record {
      state = after;
      accesses = p.accesses + 1;
      turns = p.turns
          ++ cond (not (same_state p.state after))
          (record { number = p.accesses + 1; place = stood_at h line t kind site; state = after; emptied = empties p.state after } ∷ []) [];
    }

-- what is known of it after an access that counts
abbrev pub accessed : PastView → Holdings → ℕ → ℕ → Kind → ℕ → PastView
accessed p h line t kind site = gone_to p (advanced p.state t kind (locks_for h kind)) h line t kind site

-- after an event of thread t, which holds these
abbrev pub past_after : PastView → ℕ → ℕ → Holdings → ℕ → Event → PastView
past_after p w line h t (Access kind word site) = cond (nat_lt 0 h.depth) p (cond (word == w) (accessed p h line t kind site) p)
past_after p w line h t (Reuse range) = cond (is_within w range) fresh p
past_after p w line h t (Acquire l m) = p
past_after p w line h t (Release l m) = p
past_after p w line h t IgnoreOn = p
past_after p w line h t IgnoreOff = p
past_after p w line h t (Show word) = p
past_after p w line h t (Level n) = p
past_after p w line h t (Sync sync) = p

-- what is known of the word at point n
unfoldable pub past_at : Recording → ℕ → ℕ → PastView
past_at r w n =
    record {
      state = state_at r.steps w n;
      accesses = counted_since r.steps w (era (reading_of r.steps) w n) n;
      turns = turns_since r w (era (reading_of r.steps) w n) n;
    }
