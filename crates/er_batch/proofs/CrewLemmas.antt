-- Workers go on with each batch, and its items say what is to be said of each of its steps.
use Rattle.std.proofs.Common.{◌≡◌, ◌⊎◌, ◌<◌, ◌≤◌, ◌+◌, ◌-◌, ◌==◌, ℕ, suc, add-one, nat_lt, Bool, true, false, cond, List, [], ◌∷◌, ◌++◌, append-nil, append_assoc, length, length-append, slice_get, slice_index, get_or, map, None, Some, Result, Ok, Err, IfErr, IsErrAnd, OnOk, Vec, Global, is_some, refl, sym, ap, subst, ◌∙◌, inl, inr, arith}
use Rattle.std.proofs.lemmas.Bool.{cases_lt, eqb-true}
use Rattle.std.proofs.lemmas.List.{map-append}
use Rattle.std.proofs.lemmas.Option.{slice_get_cases, slice_get_within}
use Rattle.er_batch.proofs.BatchLemmas.{goes-on, grown}
use Rattle.er_batch.specs.Analysts.{Asked, CrewRan, HasCrewRun, IsCrewReady}
use Rattle.er_batch.specs.Inner.Items.{AreItems, AreListItems, HaveTaken, Holds, IsNext, is_reuse}
use Rattle.er_batch.specs.Runs.{IsWellFormed, all_of, recorded}
use Rattle.er_event.proofs.Lists.{get_behind, get_still}
use Rattle.er_event.specs.declared.steps.Event.{Event}
use Rattle.er_event.specs.declared.steps.Event.TheVariants.{Acquire, Release, Access, Reuse, IgnoreOn, IgnoreOff, Show, Level, Sync}
use Rattle.er_event.specs.declared.steps.Kind.{Kind}
use Rattle.er_event.specs.declared.steps.Step.{Step}
use Rattle.er_event.specs.declared.steps.WordState.{WordState}
use Rattle.er_explain.proofs.RaceLemmas.{race-is}
use Rattle.er_explain.specs.Racing.{is_race}
use Rattle.er_model.proofs.AnswersLemmas.{state-step}
use Rattle.er_model.proofs.Prefixes.{holdings-front, state-front}
use Rattle.er_model.proofs.Threads.{holdings-step}
use Rattle.er_model.specs.Answers.{answer, state_at}
use Rattle.er_model.specs.Following.{locks_for, marked}
use Rattle.er_model.specs.Holdings.{Holdings, after_step, holdings_at}
use Rattle.er_model.specs.Table.{moved}
use Rattle.er_model.specs.Words.{Counted, Nothing}
use Rattle.er_model.specs.Threads.{accepted, held}
use Rattle.er_parallel.specs.Crews.{Crewed, AreNoted, AreUnusual, HaveAnswered, LeavesWord, IsAmong, IsAnswered}
use Rattle.er_parallel.specs.Faults.{AsksForSet, MayFail}
use Rattle.er_parallel.specs.Usual.{usual}
use Rattle.er_parallel.specs.declared.config.ReplayFault.{ReplayFault}
use Rattle.er_parallel.specs.declared.config.ReplayFault.TheVariants as replaying
use Rattle.er_parallel.specs.declared.worker.Unusual.{Unusual}
use Rattle.er_reading.specs.Chunks.{step_lists}
use Rattle.er_reading.specs.declared.chunks.Chunk.{Chunk}
use Rattle.er_replay.specs.Standing.{Replayed, holding}
use Rattle.er_replay.specs.Wants.{asks_by}
use Rattle.er_report.proofs.GrowthLemmas.{reported-on}
use Rattle.er_report.specs.Builder.{ArePlain, Built, IsReported, IsStepAt, KeepStates, KeepsState, is_plain}
use Rattle.er_text.specs.Batches.{joined}
use Rattle.er_text.specs.Named.{KeepsNames}
use Rattle.er_trace.specs.Names.{NameTable}
use Rattle.er_trace.specs.Trace.{Recording}

-- the usual answer is no race
usual-quiet : (event : Event) → is_race (usual event) ≡ false
usual-quiet (Access kind w site) = refl
usual-quiet (Acquire l m) = refl
usual-quiet (Release l m) = refl
usual-quiet (Reuse range) = refl
usual-quiet IgnoreOn = refl
usual-quiet IgnoreOff = refl
usual-quiet (Show w) = refl
usual-quiet (Level n) = refl
usual-quiet (Sync sync) = refl

plain-usual : (event : Event) → is_plain (usual event) ≡ true
plain-usual (Access kind w site) = refl
plain-usual (Acquire l m) = refl
plain-usual (Release l m) = refl
plain-usual (Reuse range) = refl
plain-usual IgnoreOn = refl
plain-usual IgnoreOff = refl
plain-usual (Show w) = refl
plain-usual (Level n) = refl
plain-usual (Sync sync) = refl

-- an access leaves other words, and a step that reuses nothing and leaves its word leaves every word
access-other : (b : Bool) (s : WordState) (t word w : ℕ) (kind : Kind) (cover : List ℕ) → (word == w) ≡ false → moved s w (cond b Nothing (Counted t kind word cover)) ≡ s
access-other true s t word w kind cover differs = refl
access-other false s t word w kind cover differs = rw differs refl

leaves-states : (steps : List Step) (k : ℕ) (h : Holdings) (t : ℕ) (event : Event) → is_reuse event ≡ false → LeavesWord steps k event → (w : ℕ)
    → state_at steps w (suc k) ≡ moved (state_at steps w k) w (marked h t event) → state_at steps w (suc k) ≡ state_at steps w k
leaves-states steps k h t (Access kind word site) still same w goes = by (word == w) refl
  where
    by : (b : Bool) → (word == w) ≡ b → state_at steps w (suc k) ≡ state_at steps w k
    by true is = rw (eqb-true word w is) at (ap (state_at steps word) (sym (add-one k)) ∙ same)
    by false differs = goes ∙ access-other (nat_lt 0 h.depth) (state_at steps w k) t word w kind (locks_for h kind) differs
leaves-states steps k h t (Reuse range) still same w goes = cc
leaves-states steps k h t (Acquire l m) still same w goes = goes
leaves-states steps k h t (Release l m) still same w goes = goes
leaves-states steps k h t IgnoreOn still same w goes = goes
leaves-states steps k h t IgnoreOff still same w goes = goes
leaves-states steps k h t (Show word) still same w goes = goes
leaves-states steps k h t (Level n) still same w goes = goes
leaves-states steps k h t (Sync sync) still same w goes = goes

same-step : (one other : Step) → Some one ≡ Some other → one ≡ other
same-step one other is = cc

-- the step at position k of a batch
module _ (past batch : List Step) (lines sites : List ℕ) (names : NameTable) (items : List Unusual) (unusual : AreUnusual past batch items) (k number site : ℕ) (step : Step)
    (here : slice_get batch k ≡ Some step) (is : number ≡ slice_index lines (length past + k)) (stood : site ≡ slice_index sites (length past + k)) where
  there : slice_get (past ++ batch) (length past + k) ≡ Some step
  there = get_behind past batch k (length past + k) refl ∙ here

  -- its unusual answer
  pub with-item : (next : ℕ) (item : Unusual) → slice_get items next ≡ Some item → item.at ≡ k
      → IsStepAt (recorded (past ++ batch) lines sites names) (length past + k) names number site step item.answer item.held
  with-item next item found at =
      let known : IsAnswered past batch item = unusual.right next item found in
      let same : known.step ≡ step = same-step known.step step (sym known.there ∙ ap (slice_get batch) at ∙ here) in
      record {
        here = there;
        line = is;
        site = stood;
        named = refl;
        answered = known.answered ∙ ap (λ (n : ℕ). answer (past ++ batch) (length past + n)) at;
        locked = λ race.
            known.locked (race-is item.answer race)
            ∙ ap (λ (n : ℕ). held (accepted (past ++ batch) (length past + n)) known.step.thread) at
            ∙ ap (λ (s : Step). held (accepted (past ++ batch) (length past + k)) s.thread) same;
      }

  among-none : (next : ℕ) → IsNext items next k → IsNext items next (k + 1) → IsAmong items k → ⊥
  among-none next before after among =
      by (cases_lt among.index next)
    where
      by : (among.index < next) ⊎ (next ≤ among.index) → ⊥
      by (inl low) = (let small : among.item.at < k = before.below among.index among.item among.there low in let at : among.item.at ≡ k = among.at in omega arith)
      by (inr high) = (let great : k + 1 ≤ among.item.at = after.above among.index among.item among.there high in let at : among.item.at ≡ k = among.at in omega arith)

  -- or its usual one
  pub as-usual : (next : ℕ) → IsNext items next k → IsNext items next (k + 1)
      → (locks : List ℕ) → IsStepAt (recorded (past ++ batch) lines sites names) (length past + k) names number site step (usual step.event) locks
  as-usual next before after locks =
      record {
        here = there;
        line = is;
        site = stood;
        named = refl;
        answered = by (unusual.others k step here);
        locked = λ race. absurd (let none = usual-quiet step.event in cc);
      }
    where
      by : (answer (past ++ batch) (length past + k) ≡ usual step.event) ⊎ IsAmong items k → usual step.event ≡ answer (past ++ batch) (length past + k)
      by (inl same) = sym same
      by (inr among) = absurd (among-none next before after among)

  -- which is no race, no refusal and no state
  pub usual-plain : (next : ℕ) → IsNext items next k → IsNext items next (k + 1) → is_plain (answer (past ++ batch) (length past + k)) ≡ true
  usual-plain next before after = ap is_plain (sym (as-usual next before after []).answered) ∙ plain-usual step.event

  -- and if it is no reuse and isn't noted, every word has the state that it had
  pub unnoted : AreNoted past batch items → is_reuse step.event ≡ false → (next : ℕ) → IsNext items next k → IsNext items next (k + 1) → KeepsState (past ++ batch) (length past + k)
  unnoted noted still next before after w = by (noted k step here)
    where
      by : LeavesWord (past ++ batch) (length past + k) step.event ⊎ IsAmong items k → state_at (past ++ batch) w (suc (length past + k)) ≡ state_at (past ++ batch) w (length past + k)
      by (inl same) =
          leaves-states (past ++ batch) (length past + k) (holdings_at (past ++ batch) step.thread (length past + k)) step.thread step.event still same w
          (state-step (past ++ batch) (length past + k) step w there)
      by (inr among) = absurd (among-none next before after among)

-- the items from an index on stand behind the next one's position, and so behind each before that
next-within : (items : List Unusual) (next from told k : ℕ) → IsNext items next from → IsNext items next told → from ≤ k → k ≤ told → IsNext items next k
next-within items next from told k before after low high = record {
  below = λ j item there under. (let behind : item.at < from = before.below j item there under in omega (arith, low));
  above = λ j item there over. (let ahead : told ≤ item.at = after.above j item there over in omega (arith, high));
}

-- of the steps from one position to another, between which no item stands, each is plain; and if changes are noted and none is a reuse, each leaves
-- every word as it was
module _ (past batch : List Step) (names : NameTable) (items : List Unusual) (unusual : AreUnusual past batch items) (next from told : ℕ)
    (before : IsNext items next from) (after : IsNext items next told) (within : told ≤ length batch) where
  abbrev Here : ℕ → Type 0
  Here k = ((x : Step) × (k < length batch) × (slice_get batch k ≡ Some x) × (get_or batch k x ≡ x)) ⊎ ((length batch ≤ k) × (slice_get batch k ≡ None))

  one-plain : (k : ℕ) → from ≤ k → k < told → Here k → is_plain (answer (past ++ batch) (length past + k)) ≡ true
  one-plain k low high (inl found) =
      usual-plain past batch [] [] names items unusual k _ _ found.0 found.2 refl refl next
      (next-within items next from told k before after low (omega (arith, high))) (next-within items next from told (k + 1) before after (omega (arith, low)) (omega (arith, high)))
  one-plain k low high (inr past_end) = absurd (omega (arith, past_end.0, high, within))

  pub run-plain : (plain : ℕ) → from + plain ≡ told → ArePlain (past ++ batch) (length past + from) plain
  run-plain plain behind i low high =
      let k : ℕ = i - length past in
      let place : length past + k ≡ i = omega (arith, low) in
      subst (λ (n : ℕ). is_plain (answer (past ++ batch) n) ≡ true) place (one-plain k (omega (arith, low)) (omega (arith, low, high, behind)) (slice_get_cases batch k).1)

  module _ (noted : AreNoted past batch items) (still : (k : ℕ) (step : Step) → from ≤ k → k < told → slice_get batch k ≡ Some step → is_reuse step.event ≡ false) where
    one-keeps : (k : ℕ) → from ≤ k → k < told → Here k → KeepsState (past ++ batch) (length past + k)
    one-keeps k low high (inl found) =
        unnoted past batch [] [] names items unusual k _ _ found.0 found.2 refl refl noted (still k found.0 low high found.2) next
        (next-within items next from told k before after low (omega (arith, high))) (next-within items next from told (k + 1) before after (omega (arith, low)) (omega (arith, high)))
    one-keeps k low high (inr past_end) = absurd (omega (arith, past_end.0, high, within))

    pub run-keeps : (plain : ℕ) → from + plain ≡ told → KeepStates (past ++ batch) (length past + from) plain
    run-keeps plain behind i low high =
        let k : ℕ = i - length past in
        let place : length past + k ≡ i = omega (arith, low) in
        subst (KeepsState (past ++ batch)) place (one-keeps k (omega (arith, low)) (omega (arith, low, high, behind)) (slice_get_cases batch k).1)

-- a step that asks for a set does so in every list that goes on from its own
asks-still : (h other : Holdings) (states others : ℕ → WordState) (t : ℕ) (event : Event) → other ≡ h → ((w : ℕ) → others w ≡ states w)
    → asks_by other others t event ≡ asks_by h states t event
asks-still h other states others t (Access kind w site) same words = rw (same, words w) refl
asks-still h other states others t (Acquire l m) same words = refl
asks-still h other states others t (Release l m) same words = refl
asks-still h other states others t (Reuse range) same words = refl
asks-still h other states others t IgnoreOn same words = refl
asks-still h other states others t IgnoreOff same words = refl
asks-still h other states others t (Show w) same words = refl
asks-still h other states others t (Level n) same words = refl
asks-still h other states others t (Sync sync) same words = refl

asks-front : (steps more : List Step) → AsksForSet steps → AsksForSet (steps ++ more)
asks-front steps more asks =
    let within : asks.at < length steps = slice_get_within steps asks.at asks.step asks.there in
    record {
      at = asks.at;
      step = asks.step;
      there = get_still steps more asks.at asks.step asks.there;
      asks = asks-still (holdings_at steps asks.step.thread asks.at) (holdings_at (steps ++ more) asks.step.thread asks.at)
          (λ w. state_at steps w asks.at) (λ w. state_at (steps ++ more) w asks.at) asks.step.thread asks.step.event
          (holdings-front steps more asks.step.thread asks.at (omega (arith, within))) (λ w. state-front steps more w asks.at (omega (arith, within)))
          ∙ asks.asks;
    }

may-front : (steps more : List Step) (why : ReplayFault) → MayFail steps why → MayFail (steps ++ more) why
may-front steps more replaying.Memory may = tt
may-front steps more replaying.TableFull may = asks-front steps more may
may-front steps more replaying.WorkerNotStarted may = tt
may-front steps more replaying.WorkerLost may = may

-- what threads hold goes on by a step
pub holds-next : (wanted : Bool) (before after : Replayed) (steps : List Step) (n : ℕ) (step : Step) → slice_get steps n ≡ Some step
    → ((t : ℕ) → holding after t ≡ after_step (holding before t) t step) → Holds wanted before steps n → Holds wanted after steps (n + 1)
holds-next wanted before after steps n step here goes holds is t =
    goes t
    ∙ ap (λ (h : Holdings). after_step h t step) (holds is t)
    ∙ sym (holdings-step steps n step t here)
    ∙ ap (holdings_at steps t) (sym (add-one n))

-- the workers have answered a list of steps in front of others
pub taken-next : (noting : Bool) (past batch : List Step) (more : List (List Step)) (crew : Crewed) (old new : List (List Unusual)) (items : List Unusual) → AreItems noting past batch items
    → HaveTaken noting (past ++ batch) more crew (old ++ items ∷ []) new → HaveTaken noting past (batch ∷ more) crew old new
taken-next noting past batch more crew old new items are taken = record {
  goes_on = subst (HaveAnswered crew) (append_assoc past batch (all_of more)) taken.goes_on;
  found = items ∷ taken.found;
  new_is = taken.new_is ∙ append_assoc old (items ∷ []) taken.found;
  are = (are, taken.are);
}

-- a fault in the first list of steps, or in the others
pub may-first : (past batch : List Step) (more : List (List Step)) (why : ReplayFault) → MayFail (past ++ batch) why → MayFail (past ++ all_of (batch ∷ more)) why
may-first past batch more why may = subst (λ (steps : List Step). MayFail steps why) (append_assoc past batch (all_of more)) (may-front (past ++ batch) (all_of more) why may)

pub may-later : (past batch : List Step) (more : List (List Step)) (why : ReplayFault) → MayFail ((past ++ batch) ++ all_of more) why → MayFail (past ++ all_of (batch ∷ more)) why
may-later past batch more why may = subst (λ (steps : List Step). MayFail steps why) (append_assoc past batch (all_of more)) may

-- the same of chunks, of which the first was answered by these items, and then the others
abbrev items_of : Vec Unusual Global → List Unusual
items_of items = items.items

pub taken-first : {E : Type 0} (result : Result (Unit {0}) E) (noting : Bool) (past : List Step) (chunks : List Chunk) (first : Chunk) (others : List Chunk) (crew : Crewed) (old middle new : List (Vec Unusual Global)) (items : Vec Unusual Global)
    → chunks ≡ first ∷ others → middle ≡ old ++ items ∷ [] → AreItems noting past first.steps.items items.items
    → OnOk result (HaveTaken noting (past ++ first.steps.items) (step_lists others) crew (map items_of middle) (map items_of new))
    → OnOk result (HaveTaken noting past (step_lists chunks) crew (map items_of old) (map items_of new))
taken-first (Ok done) noting past chunks first others crew old middle new items front behind are taken =
    rw front (taken-next noting past first.steps.items (step_lists others) crew (map items_of old) (map items_of new) items.items are
    (subst (λ (xs : List (List Unusual)). HaveTaken noting (past ++ first.steps.items) (step_lists others) crew xs (map items_of new))
    (ap (map items_of) behind ∙ map-append items_of old (items ∷ [])) taken))
taken-first (Err why) noting past chunks first others crew old middle new items front behind are taken = tt

pub fault-first : {T : Type 0} (result : Result T ReplayFault) (past : List Step) (chunks : List Chunk) (first : Chunk) (others : List Chunk) (why : ReplayFault)
    → chunks ≡ first ∷ others → MayFail (past ++ first.steps.items) why → IsErrAnd result (λ fault. fault ≡ why) → IfErr result (λ fault. MayFail (past ++ all_of (step_lists chunks)) fault)
fault-first (Ok x) past chunks first others why front may is = tt
fault-first (Err fault) past chunks first others why front may is = rw (front, is) (may-first past first.steps.items (step_lists others) why may)

pub fault-later : {T : Type 0} (result : Result T ReplayFault) (past : List Step) (chunks : List Chunk) (first : Chunk) (others : List Chunk)
    → chunks ≡ first ∷ others → IfErr result (λ why. MayFail ((past ++ first.steps.items) ++ all_of (step_lists others)) why) → IfErr result (λ why. MayFail (past ++ all_of (step_lists chunks)) why)
fault-later (Ok x) past chunks first others front may = tt
fault-later (Err why) past chunks first others front may = rw front (may-later past first.steps.items (step_lists others) why may)

-- workers that stand for a recording and get ready for more steps
module _ (old : CrewRan) (asked : Asked) (r : Recording) (lists : List (List Step)) (run : HasCrewRun old asked r) where
  -- those that have stopped have a fault of the recording's steps, and stay so
  pub stopped-may : (why : ReplayFault) → old.crew ≡ Err why → MayFail r.steps why
  stopped-may why is = subst (λ (steps : List Step). MayFail steps why) (append-nil r.steps) (rw is at run.answered)

  pub ready-stopped : (why : ReplayFault) → old.crew ≡ Err why → IsCrewReady old asked r lists
  ready-stopped why is = record {
    answered = rw is (may-front r.steps (all_of lists) why (stopped-may why is));
    rules = run.rules;
    explain = run.explain;
    formed = run.formed;
  }

  -- others have answered what is past
  pub answered : (crew : Crewed) → old.crew ≡ Ok crew → HaveAnswered crew r.steps
  answered crew is = subst (HaveAnswered crew) (append-nil r.steps) (rw is at run.answered).0

  -- and go on to the end of the steps, or stop in them
  pub ready-on : (crew before : Crewed) → old.crew ≡ Ok before → (items : List (List Unusual)) → HaveTaken (is_some old.builder.kept) r.steps lists crew [] items
      → IsCrewReady (record { holder = old.holder; crew = Ok crew; items = items; builder = old.builder }) asked r lists
  ready-on crew before is items taken = record {
    answered = (
      taken.goes_on,
      (rw is at run.answered).1,
      subst (AreListItems (is_some old.builder.kept) r.steps lists) (sym taken.new_is) taken.are,
      (rw is at run.answered).3,
    );
    rules = run.rules;
    explain = run.explain;
    formed = run.formed;
  }

-- the steps of a batch behind those that are past, which they are ready for, as for more behind it
module _ (past : List Step) (lines sites : List ℕ) (names : NameTable) (trace : Recording) (more : List (List Step)) (kept : KeepsNames names trace.names) (fits : IsWellFormed trace)
    (old : CrewRan) (asked : Asked) (run : IsCrewReady old asked (recorded past lines sites names) (trace.steps ∷ more)) where
  abbrev after : Recording
  after = joined past lines sites trace

  formed : IsWellFormed after
  formed = grown past lines sites names trace kept run.formed fits

  -- workers that have stopped stay so
  pub stays : (why : ReplayFault) → old.crew ≡ Err why → IsCrewReady old asked after more
  stays why is = record {
    answered = rw is (subst (λ (steps : List Step). MayFail steps why) (sym (append_assoc past trace.steps (all_of more))) (rw is at run.answered));
    rules = run.rules;
    explain = run.explain;
    formed = formed;
  }

  -- others have the items of the batch and of the lists behind it, and the report is that of what is past
  pub all-items : (crew : Crewed) → old.crew ≡ Ok crew → AreListItems (is_some old.builder.kept) past (trace.steps ∷ more) old.items
  all-items crew is = (rw is at run.answered).2

  pub items-of : (crew : Crewed) → old.crew ≡ Ok crew → (items : List Unusual) (others : List (List Unusual)) → old.items ≡ items ∷ others
      → AreItems (is_some old.builder.kept) past trace.steps items
  items-of crew is items others first = (subst (AreListItems (is_some old.builder.kept) past (trace.steps ∷ more)) first (all-items crew is)).0

  other-items : (crew : Crewed) → old.crew ≡ Ok crew → (items : List Unusual) (others : List (List Unusual)) → old.items ≡ items ∷ others
      → AreListItems (is_some old.builder.kept) (past ++ trace.steps) more others
  other-items crew is items others first = (subst (AreListItems (is_some old.builder.kept) past (trace.steps ∷ more)) first (all-items crew is)).1

  pub reported : (crew : Crewed) → old.crew ≡ Ok crew → IsReported old.builder after (length past)
  reported crew is = reported-on old.builder _ after (length past) (goes-on past lines sites names trace kept run.formed) (omega arith) (rw is at run.answered).1

  -- what is past is the front of what is there then
  pub holds : (crew : Crewed) → old.crew ≡ Ok crew → Holds (is_some old.builder.kept) old.holder (past ++ trace.steps) (length past)
  holds crew is wanted t = (rw is at run.answered).3 wanted t ∙ sym (holdings-front past trace.steps t (length past) (omega arith))

  pub goes : (crew : Crewed) → old.crew ≡ Ok crew → (items : List Unusual) (others : List (List Unusual)) → old.items ≡ items ∷ others
      → (added : Built) (holder : Replayed) → added.rules ≡ old.builder.rules → is_some added.kept ≡ is_some old.builder.kept
      → IsReported added after (length past + length trace.steps) → Holds (is_some old.builder.kept) holder (past ++ trace.steps) (length past + length trace.steps)
      → IsCrewReady (record { holder = holder; crew = old.crew; items = others; builder = added }) asked after more
  goes crew is items others first added holder rules explains reported holds = record {
    answered = rw is (
      subst (HaveAnswered crew) (sym (append_assoc past trace.steps (all_of more))) (rw is at run.answered).0,
      subst (IsReported added after) (sym (length-append past trace.steps)) reported,
      subst (λ (noting : Bool). AreListItems noting (past ++ trace.steps) more others) (sym explains) (other-items crew is items others first),
      subst (λ (n : ℕ). Holds (is_some added.kept) holder (past ++ trace.steps) n) (sym (length-append past trace.steps)) (λ wanted. holds (sym explains ∙ wanted)),
    );
    rules = rules ∙ run.rules;
    explain = explains ∙ run.explain;
    formed = formed;
  }

-- what holds of a batch that was added
pub on-done : (X E : Type 0) (result : Result X E) (P Q S U T : Type 0) → OnOk result P → OnOk result Q → OnOk result S → OnOk result U → (P → Q → S → U → T) → OnOk result T
on-done X E (Ok x) P Q S U T p q s u then = then p q s u
on-done X E (Err e) P Q S U T p q s u then = tt
