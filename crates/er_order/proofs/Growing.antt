-- A list grows by a step, and the latest reads are of distinct threads.
use Rattle.std.proofs.Common.{◌≡◌, ℕ, zero, suc, ◌<◌, Bool, true, false, ◌&&◌, not, cond, List, [], ◌∷◌, ◌++◌, filter, length, refl, ap, sym, ◌∙◌, arith, ⊎_elim, inl, inr, ◌⊎◌}
use Rattle.std.proofs.lemmas.Bool.{and_parts, both_ways, not-true}
use Rattle.er_event.specs.Lockset.{has}
use Rattle.er_event.proofs.LocksetLemmas.{has-filtered}
use Rattle.er_event.specs.declared.steps.Event.TheVariants.{Access}
use Rattle.er_event.specs.declared.steps.Kind.{Kind}
use Rattle.er_model.specs.Words.{Reading, writes, counted_from}
use Rattle.er_event.specs.declared.steps.Step.{Step}
use Rattle.er_model.specs.Holdings.{holdings_at}
use Rattle.er_order.specs.Order.{acts_of}
use Rattle.er_order.specs.Clocks.{Keeper, clocks_after, clocks_at}
use Rattle.er_order.specs.Races.{Order, latest_from}
use Rattle.er_order.specs.Following.{act_by}
use Rattle.er_order.proofs.Order.{next-cases}
use Rattle.er_order.proofs.ClockSteps.{local}
use Rattle.er_order.proofs.StepLemmas.{clocks-grow}
use Rattle.er_order.proofs.RaceLemmas.{latest-in}

module _ (steps : List Step) (s : Step) where
  -- an access moves no clock
  pub clocks-access : (w site : ℕ) (kind : Kind) → s.event ≡ Access kind w site → (c : Keeper) (u : ℕ) →
      clocks_at (acts_of (steps ++ s ∷ [])) (suc (length steps)) c u ≡ clocks_at (acts_of steps) (length steps) c u
  clocks-access w site kind event c u =
      clocks-grow steps s c u
      ∙ ap (λ e. clocks_after (clocks_at (acts_of steps) (length steps)) (act_by (holdings_at steps s.thread (length steps)) (record { thread = s.thread; event = e })) c u) event
      ∙ local (clocks_at (acts_of steps) (length steps)) s.thread u c

-- two of the latest reads aren't in order
module _ (order : Order) (r : Reading) (w start : ℕ) where
  apart_cases : (n i : ℕ) → has (latest_from order r w start (suc n)) i ≡ true → ((n ≡ i) ⊎ (order i n ≡ false)) ⊎ ((counted_from r w start n && not (writes (r n))) ≡ false)
  unfolding latest_from
  apart_cases n i e = by (counted_from r w start n && not (writes (r n))) refl e
    where
      by : (b : Bool) → (counted_from r w start n && not (writes (r n))) ≡ b →
          has (cond b (n ∷ filter (λ j. not (order j n)) (latest_from order r w start n)) (latest_from order r w start n)) i ≡ true →
          ((n ≡ i) ⊎ (order i n ≡ false)) ⊎ ((counted_from r w start n && not (writes (r n))) ≡ false)
      by true is member =
          ⊎_elim
          (λ here. inl (inl here.0))
          (λ there. inl (inr (not-true (order i n) (and_parts (not (order i n)) (has (latest_from order r w start n) i) (sym (has-filtered (λ j. not (order j n)) (latest_from order r w start n) i) ∙ there)).0)))
          (next-cases true n i (filter (λ j. not (order j n)) (latest_from order r w start n)) member)
      by false is member = inr is

  pub latest-apart : (n i j : ℕ) → i < j → has (latest_from order r w start n) i ≡ true → has (latest_from order r w start n) j ≡ true → order i j ≡ false
  unfolding latest_from
  latest-apart zero i j below one two = cc
  latest-apart (suc n) i j below one two =
      ⊎_elim
      (λ here.
      ⊎_elim
      (λ either. ⊎_elim (λ same. absurd (omega (arith, here.0))) (λ apart. rw (← here.0) apart) either)
      (λ other. absurd (both_ways (counted_from r w start n && not (writes (r n))) other here.1))
      (apart_cases n i one))
      (λ there.
      ⊎_elim
      (λ last. absurd (let low = (latest-in order r w start n j there).0 in omega (arith, last.0)))
      (λ first. latest-apart n i j below first there)
      (Rattle.er_order.proofs.RaceLemmas.latest_cases order r w start n i one))
      (Rattle.er_order.proofs.RaceLemmas.latest_cases order r w start n j two)
