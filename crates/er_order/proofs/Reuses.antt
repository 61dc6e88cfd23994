-- A reuse is reported where a write in its place would be, so that whether a word is in use follows from what is kept of it.
use Rattle.std.proofs.Common.{◌≡◌, ℕ, true, false, not, is_some, List, slice_get, Some, ap, sym, ◌∙◌}
use Rattle.std.proofs.lemmas.Bool.{and_parts, not-true}
use Rattle.er_event.specs.declared.addresses.PageRange.{PageRange}
use Rattle.er_event.specs.declared.steps.Event.{Event}
use Rattle.er_event.specs.declared.steps.Event.TheVariants.{Reuse}
use Rattle.er_event.specs.declared.steps.Step.{Step}
use Rattle.er_model.specs.Words.{is_within}
use Rattle.er_model.specs.Holdings.{refused_by, holdings_at}
use Rattle.er_model.specs.Answers.{reading_of}
use Rattle.er_order.specs.Order.{Local, act_unless, acts_of, happens_before}
use Rattle.er_order.specs.Races.{had_race, last_use, is_in_use, word_in_use}
use Rattle.er_order.specs.Reasons.{word_raced}
use Rattle.er_order.proofs.StepLemmas.{act-step}
use Rattle.er_order.proofs.ReasonLemmas.{used-parts, word-raced-reuse}

-- a reuse of a list of steps
module _ (steps : List Step) (k : ℕ) (s : Step) (is : slice_get steps k ≡ Some s) (range : PageRange) (event : s.event ≡ Reuse range) where
  pub reuse-acts : acts_of steps k ≡ Some (record { thread = s.thread; sync = Local })
  reuse-acts =
      act-step steps k s is
      ∙ ap (λ (e : Event). act_unless (refused_by (holdings_at steps s.thread k) e) (record { thread = s.thread; event = e })) event

  -- at the word that is in use
  module _ (w : ℕ) (word : word_raced steps k ≡ Some w) where
    used : word_in_use (happens_before (acts_of steps)) (reading_of steps) k range ≡ Some w
    used = sym (word-raced-reuse steps k s range is event) ∙ word

    parts : (is_within w range ≡ true) × (is_in_use (happens_before (acts_of steps)) (reading_of steps) w k ≡ true)
    parts = used-parts steps k s range w is event used

    pub reuse-parts : (is_within w range ≡ true) × (had_race (happens_before (acts_of steps)) (reading_of steps) w k ≡ false)
    unfolding is_in_use
    reuse-parts = (
      parts.0,
      not-true (had_race (happens_before (acts_of steps)) (reading_of steps) w k)
          (and_parts (is_some (last_use (happens_before (acts_of steps)) (reading_of steps) w k)) (not (had_race (happens_before (acts_of steps)) (reading_of steps) w k)) parts.1).1,
    )
