-- Either the next 16 places have it, or none of them is it.
use Rattle.std.proofs.Common.{◌≡◌, ◌+◌, ◌%◌, ℕ, arith, rules}
use Rattle.er_explain.specs.Inner.Places.{number_at}
use Rattle.er_explain.proofs.PlaceLemmas.{in_lanes, past_lanes}
use Rattle.er_explain.proofs.block.number_at.Goals as goal

-- a number of whole turns
next_turn : (n : ℕ) → n % 16 ≡ 0 → (n + 16) % 16 ≡ 0
next_turn n whole = omega (arith, whole)

-- the place stands ahead
ahead : (c : goal.Then-ahead-lt-LANES) → c.loop-start.start + c.places_ahead-ahead.result ≡ number_at c.args.places.now c.args.place
ahead c =
    in_lanes c.args.places.now c.args.place c.loop-start.start c.places_ahead-ahead.result (search rules) c.loop-start.invariant.none c.places_ahead-ahead.ensures
    (omega (arith, c.if-ahead-lt-LANES.true))

pub returns-then-ahead-lt-LANES-clause-found : goal.returns-then-ahead-lt-LANES-clause-found
returns-then-ahead-lt-LANES-clause-found c = λ _. ahead c

pub returns-then-ahead-lt-LANES-clause-none : goal.returns-then-ahead-lt-LANES-clause-none
returns-then-ahead-lt-LANES-clause-none c = λ past. let is = ahead c in omega (arith, past, is)

pub loop-start-preserved : goal.loop-start-preserved
loop-start-preserved c = record {
  none =
      past_lanes c.args.places.now c.args.place c.loop-start.start c.places_ahead-ahead.result (search rules) c.loop-start.invariant.none c.places_ahead-ahead.ensures
      (omega (arith, c.if-ahead-lt-LANES.false));
  whole = next_turn c.loop-start.start c.loop-start.invariant.whole;
}
