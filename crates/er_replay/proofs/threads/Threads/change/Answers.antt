use Rattle.std.proofs.Common.{◌≡◌, ℕ, nat_eq, cond, Some, slice_get, ap, ◌∙◌, sym}
use Rattle.std.specs.Map.{lookup}
use Rattle.indexmap.specs.IndexMap.{keys, values, with_value_at}
use Rattle.er_held.specs.ThreadLocks.{holding_among}
use Rattle.er_held.specs.Held.{nothing_held}
use Rattle.er_model.specs.Holdings.{Holdings}
use Rattle.er_replay.proofs.ThreadsLemmas.{holding_rewritten, no_memory}
use Rattle.er_replay.proofs.threads.Threads.change.Goals as goal
use Rattle.er_held.proofs.MapLemmas.{holding_found, holding_absent, holding_written}
use Rattle.er_keys.proofs.MapLemmas.{entry_found, entry_put}
use Rattle.er_event.proofs.Results.{on_ok, on_err}
use Rattle.er_replay.proofs.threads.Threads.change.Goals.{In-Some, In-None}

module _ (c : In-Some) (was : Holdings) (is : slice_get (values c.self.inside.held) c.in-Some.index ≡ Some was) where
  key : slice_get (keys c.self.inside.held) c.in-Some.index ≡ Some c.args.thread
  key = c.in-Some.ensures.key ∙ ap Some (c.from-key.ensures ∙ c.number.ensures.value)

  -- the holdings that stand there are the thread's
  here : was ≡ holding_among c.self.inside.held.entries c.args.thread
  here = holding_found c.self.inside.held.entries c.args.thread was (entry_found c.self.inside.held c.in-Some.index c.args.thread was c.in-Some.ensures.unique key is)

  found : was ≡ holding_among c.args.self.now c.args.thread
  found = here ∙ ap (λ threads. holding_among threads c.args.thread) c.self.view_is

  put : (w : Holdings) (q : ℕ) → lookup (nat_eq q) (with_value_at c.self.inside.held c.in-Some.index w).entries ≡ cond (nat_eq c.args.thread q) (Some w) (lookup (nat_eq q) c.self.inside.held.entries)
  put = entry_put c.self.inside.held c.in-Some.index c.args.thread was c.in-Some.ensures.unique key is

pub returns-in-Some-clause-accepted : goal.returns-in-Some-clause-accepted
returns-in-Some-clause-accepted c = rw (← found (goal.at.returns-in-Some-clause-accepted c).In-Some c.index_mut-held.result.now c.index_mut-held.ensures.value) c.change.ensures.accepted

pub returns-in-Some-clause-refused : goal.returns-in-Some-clause-refused
returns-in-Some-clause-refused c = rw (← found (goal.at.returns-in-Some-clause-refused c).In-Some c.index_mut-held.result.now c.index_mut-held.ensures.value) c.change.ensures.refused

pub returns-in-Some-clause-memory : goal.returns-in-Some-clause-memory
returns-in-Some-clause-memory c = rw (← found (goal.at.returns-in-Some-clause-memory c).In-Some c.index_mut-held.result.now c.index_mut-held.ensures.value)
    (λ so. no_memory c.args.event c.change.result c.requires (c.change.ensures.memory so) (c.change.ensures.free so))

pub returns-in-Some-clause-ok : goal.returns-in-Some-clause-ok
returns-in-Some-clause-ok c =
    let some = (goal.at.returns-in-Some-clause-ok c).In-Some in
    let was = c.index_mut-held.result.now in
    let is = c.index_mut-held.ensures.value in
    rw (← found some was is, ← c.self.view_is)
    (on_ok c.change.result _ _ c.change.ensures.ok (λ new t. rw (← new) (holding_written c.self.inside.held.entries _ c.args.thread c.change.new.self (put some was is c.change.new.self) t)))

pub returns-in-Some-clause-err : goal.returns-in-Some-clause-err
returns-in-Some-clause-err c =
    let some = (goal.at.returns-in-Some-clause-err c).In-Some in
    let was = c.index_mut-held.result.now in
    let is = c.index_mut-held.ensures.value in
    on_err c.change.result _ _ c.change.ensures.err (λ new t. ap (λ w. holding_among (with_value_at c.self.inside.held c.in-Some.index w).entries t) new
    ∙ (holding_rewritten c.self.inside.held.entries _ c.args.thread was (here some was is) (put some was is was) t ∙ ap (λ threads. holding_among threads t) c.self.view_is))

absent : (c : In-None) → nothing_held ≡ holding_among c.args.self.now c.args.thread
absent c =
    let key = c.from-key.ensures ∙ c.number.ensures.value in
    holding_absent c.self.inside.held.entries c.args.thread (rw key at (sym c.in-None.ensures.none))
    ∙ ap (λ threads. holding_among threads c.args.thread) c.self.view_is

pub returns-in-None-clause-accepted : goal.returns-in-None-clause-accepted
returns-in-None-clause-accepted c = rw (← absent (goal.at.returns-in-None-clause-accepted c).In-None) c.change_first.ensures.accepted

pub returns-in-None-clause-ok : goal.returns-in-None-clause-ok
returns-in-None-clause-ok c = rw (← absent (goal.at.returns-in-None-clause-ok c).In-None) c.change_first.ensures.ok

pub returns-in-None-clause-refused : goal.returns-in-None-clause-refused
returns-in-None-clause-refused c = rw (← absent (goal.at.returns-in-None-clause-refused c).In-None) c.change_first.ensures.refused

pub returns-in-None-clause-memory : goal.returns-in-None-clause-memory
returns-in-None-clause-memory c = rw (← absent (goal.at.returns-in-None-clause-memory c).In-None) c.change_first.ensures.memory

pub change_first-requires-clause-none : goal.change_first-requires-clause-none
change_first-requires-clause-none c = sym (absent (goal.at.change_first-requires-clause-none c).In-None)
