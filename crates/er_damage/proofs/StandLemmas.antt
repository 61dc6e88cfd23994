-- An inspector that stands for a recording stands for the longer one after a step.
use Rattle.std.proofs.Common.{◌≡◌, ℕ, suc, ◌+◌, append_assoc, get_or, take, ◌<◌, Bool, true, false, List, [], ◌∷◌, ◌++◌, length, Option, Some, None, Result, Ok, refl, ap, ap₂, sym, ◌∙◌, subst, arith}
use Rattle.std.proofs.lemmas.List.{length-append, length-take-le, take_more}
use Rattle.std.specs.Prelude.{slice_index, is_some, IsErr}
use Rattle.er_event.specs.Lockset.{has, is_level_lock}
use Rattle.er_event.specs.declared.refusals.Refusal.{Refusal}
use Rattle.er_event.specs.declared.steps.Event.{Event}
use Rattle.er_event.specs.declared.steps.Event.TheVariants.{Acquire, Release, Access, Reuse, IgnoreOn, IgnoreOff, Show, Level, Sync}
use Rattle.er_event.specs.declared.steps.Mode.{Mode}
use Rattle.er_event.specs.declared.steps.Mode.TheVariants.{Read, Write}
use Rattle.er_event.specs.declared.steps.Reply.{Reply}
use Rattle.er_event.specs.declared.steps.Reply.TheVariants.{Done}
use Rattle.er_event.specs.declared.steps.Step.{Step}
use Rattle.er_event.proofs.Lists.{get_front, get_last, length_push}
use Rattle.er_held.specs.ThreadLocks.{held_by}
use Rattle.er_model.specs.Answers.{answer_unless, state_end}
use Rattle.er_model.specs.Following.{replied}
use Rattle.er_model.specs.Holdings.{refused_by, after_step, holdings_at, holdings_end}
use Rattle.er_model.proofs.Changes.{write-held}
use Rattle.er_model.proofs.Prefixes.{holdings-front, answer-front, holdings-grow, holdings-empty, answer-grow}
use Rattle.er_damage.specs.Damage.{IsRefusedAt, IsHeldTwiceAt, IsFirstLine, kept_from}
use Rattle.er_damage.specs.Standing.{Inspected, StandsFor}
use Rattle.er_damage.specs.Counts.{IsCount}
use Rattle.er_damage.specs.Inner.Steps.{Follows, holders_after, writers_after, unless_refused, doubles, doubles_unless, found_line}
use Rattle.er_damage.proofs.CountLemmas.{count_same, count_found, count_none, count_nobody}
use Rattle.er_damage.proofs.HoldLemmas.{plain_lock, free_lock, holders_step, writers_step}
use Rattle.er_damage.proofs.LineLemmas.{first_on}

-- an answer is a refusal exactly where there is one
refused_answer : (o : Option Refusal) (reply : Reply) → is_some o ≡ true → IsErr (answer_unless o reply)
refused_answer None reply is = cc
refused_answer (Some why) reply is = refl

accepted_answer : (o : Option Refusal) (reply : Reply) → is_some o ≡ false → IsErr (answer_unless o reply) → ⊥
accepted_answer None reply is err = cc
accepted_answer (Some why) reply is err = cc

done_accepted : (o : Option Refusal) (reply : Reply) → answer_unless o reply ≡ Ok Done → o ≡ None
done_accepted None reply done = refl
done_accepted (Some why) reply done = cc

never : (o : Option Refusal) → doubles_unless o false ≡ true → ⊥
never None is = cc
never (Some why) is = cc

-- a step behind a list
module _ (past : List Step) (step : Step) where
  abbrev longer : List Step
  longer = past ++ step ∷ []

  abbrev mine : Option Refusal
  mine = refused_by (holdings_end past step.thread) step.event

  refused_here : is_some mine ≡ true → IsRefusedAt longer (length past)
  refused_here is =
      let P : Result Reply Refusal → Type 0 = λ r. IsErr r in
      subst P (sym (answer-grow past step)) (refused_answer mine (replied (holdings_end past step.thread) (state_end past) step.thread step.event) is)

  not_refused_here : is_some mine ≡ false → IsRefusedAt longer (length past) → ⊥
  not_refused_here is err =
      let P : Result Reply Refusal → Type 0 = λ r. IsErr r in
      accepted_answer mine (replied (holdings_end past step.thread) (state_end past) step.thread step.event) is (subst P (answer-grow past step) err)

  refused_still : (k : ℕ) → k < length past → IsRefusedAt past k → IsRefusedAt longer k
  refused_still k below err = let P : Result Reply Refusal → Type 0 = λ r. IsErr r in subst P (sym (answer-front past (step ∷ []) k below)) err

  refused_before : (k : ℕ) → k < length past → IsRefusedAt longer k → IsRefusedAt past k
  refused_before k below err = let P : Result Reply Refusal → Type 0 = λ r. IsErr r in subst P (answer-front past (step ∷ []) k below) err

  twice_still : (k : ℕ) → k < length past → IsHeldTwiceAt past k → IsHeldTwiceAt longer k
  twice_still k below twice =
      record {
        thread = twice.thread;
        lock = twice.lock;
        mode = twice.mode;
        other = twice.other;
        takes = get_front past (step ∷ []) k below ∙ twice.takes;
        done = answer-front past (step ∷ []) k below ∙ twice.done;
        apart = twice.apart;
        holds = ap (λ h. has (kept_from twice.mode h) twice.lock) (holdings-front past (step ∷ []) twice.other k (omega arith)) ∙ twice.holds;
      }

  twice_before : (k : ℕ) → k < length past → IsHeldTwiceAt longer k → IsHeldTwiceAt past k
  twice_before k below twice =
      record {
        thread = twice.thread;
        lock = twice.lock;
        mode = twice.mode;
        other = twice.other;
        takes = sym (get_front past (step ∷ []) k below) ∙ twice.takes;
        done = sym (answer-front past (step ∷ []) k below) ∙ twice.done;
        apart = twice.apart;
        holds = sym (ap (λ h. has (kept_from twice.mode h) twice.lock) (holdings-front past (step ∷ []) twice.other k (omega arith))) ∙ twice.holds;
      }

  -- what is held at the moment of the step
  held_then : (m : Mode) (u l : ℕ) → has (kept_from m (holdings_at longer u (length past))) l ≡ has (kept_from m (holdings_end past u)) l
  held_then m u l = ap (λ h. has (kept_from m h) l) (holdings-front past (step ∷ []) u (length past) (omega arith))

  module _ (holders writers : List ℕ)
      (held : (l : ℕ) → is_level_lock l ≡ false → IsCount (λ t. has (holdings_end past t).held l) (slice_index holders l))
      (written : (l : ℕ) → is_level_lock l ≡ false → IsCount (λ t. has (holdings_end past t).write_held l) (slice_index writers l)) where
    -- somebody holds the lock, or nobody does
    somebody : (l : ℕ) (m : Mode) → is_level_lock l ≡ false → doubles holders writers (Acquire l m) ≡ true → (u : ℕ) × (has (kept_from m (holdings_end past u)) l ≡ true)
    somebody l Read plain some = count_found (λ t. has (holdings_end past t).write_held l) (λ t. true) (slice_index writers l) (written l plain) some
    somebody l Write plain some = count_found (λ t. has (holdings_end past t).held l) (λ t. true) (slice_index holders l) (held l plain) some

    nobody : (l : ℕ) (m : Mode) → is_level_lock l ≡ false → doubles holders writers (Acquire l m) ≡ false → (u : ℕ) → has (kept_from m (holdings_end past u)) l ≡ false
    nobody l Read plain none = count_none (λ t. has (holdings_end past t).write_held l) (λ t. true) (slice_index writers l) (written l plain) none
    nobody l Write plain none = count_none (λ t. has (holdings_end past t).held l) (λ t. true) (slice_index holders l) (held l plain) none

    -- whoever takes a lock doesn't hold it
    not_mine : (l : ℕ) (m : Mode) (t u : ℕ) → refused_by (holdings_end past t) (Acquire l m) ≡ None → has (kept_from m (holdings_end past u)) l ≡ true → u ≡ t → ⊥
    not_mine l m t u accepted there same =
        let free = free_lock (holdings_end past t) l m (is_level_lock l) (has (holdings_end past t).held l) refl refl accepted in
        let P : ℕ → Type 0 = λ v. has (kept_from m (holdings_end past v)) l ≡ true in
        let clash = sym (in_any m (subst P same there)) ∙ free in
        cc
      where
        in_any : (m : Mode) → has (kept_from m (holdings_end past t)) l ≡ true → has (holdings_end past t).held l ≡ true
        in_any Read there = write-held past t (length past) l there
        in_any Write there = there

    twice_acquire : (l : ℕ) (m : Mode) (o : Option Refusal) → step.event ≡ Acquire l m → mine ≡ o →
        doubles_unless o (doubles holders writers (Acquire l m)) ≡ true → IsHeldTwiceAt longer (length past)
    twice_acquire l m (Some why) takes refused some = cc
    twice_acquire l m None takes accepted some =
        let so : refused_by (holdings_end past step.thread) (Acquire l m) ≡ None = ap (λ e. refused_by (holdings_end past step.thread) e) (sym takes) ∙ accepted in
        let plain = plain_lock (holdings_end past step.thread) l m (is_level_lock l) refl so in
        let who = somebody l m plain some in
        record {
          thread = step.thread;
          lock = l;
          mode = m;
          other = who.0;
          takes = get_last past step ∙ ap (λ e. Some (record { thread = step.thread; event = e })) takes;
          done = answer-grow past step
              ∙ ap (λ o. answer_unless o (replied (holdings_end past step.thread) (state_end past) step.thread step.event)) accepted
              ∙ ap (λ e. Ok (replied (holdings_end past step.thread) (state_end past) step.thread e)) takes;
          apart = not_mine l m step.thread who.0 so who.1;
          holds = held_then m who.0 l ∙ who.1;
        }

    twice_here : (e : Event) → step.event ≡ e → doubles_unless mine (doubles holders writers e) ≡ true → IsHeldTwiceAt longer (length past)
    twice_here (Acquire l m) is some = twice_acquire l m mine is refl some
    twice_here (Release l m) is some = absurd (never mine some)
    twice_here (Access kind w site) is some = absurd (never mine some)
    twice_here (Reuse range) is some = absurd (never mine some)
    twice_here IgnoreOn is some = absurd (never mine some)
    twice_here IgnoreOff is some = absurd (never mine some)
    twice_here (Show w) is some = absurd (never mine some)
    twice_here (Level n) is some = absurd (never mine some)
    twice_here (Sync sync) is some = absurd (never mine some)

    not_twice_here : doubles_unless mine (doubles holders writers step.event) ≡ false → IsHeldTwiceAt longer (length past) → ⊥
    not_twice_here none twice =
        let same : Some step ≡ Some (record { thread = twice.thread; event = Acquire twice.lock twice.mode }) = sym (get_last past step) ∙ twice.takes in
        let event : step.event ≡ Acquire twice.lock twice.mode = cc in
        let accepted : mine ≡ None = done_accepted mine (replied (holdings_end past step.thread) (state_end past) step.thread step.event) (sym (answer-grow past step) ∙ twice.done) in
        let so : refused_by (holdings_end past step.thread) (Acquire twice.lock twice.mode) ≡ None = ap (λ e. refused_by (holdings_end past step.thread) e) (sym event) ∙ accepted in
        let plain = plain_lock (holdings_end past step.thread) twice.lock twice.mode (is_level_lock twice.lock) refl so in
        let clear : doubles holders writers (Acquire twice.lock twice.mode) ≡ false =
        sym (ap₂ (λ o e. doubles_unless o (doubles holders writers e)) accepted event) ∙ none in
        let clash = sym (nobody twice.lock twice.mode plain clear twice.other) ∙ (sym (held_then twice.mode twice.other twice.lock) ∙ twice.holds) in
        cc

-- the whole of what it has
module _ (before after : Inspected) (past : List Step) (lines : List ℕ) (step : Step) (line : ℕ)
    (level : length lines ≡ length past) (stands : StandsFor before past lines) (follows : Follows before step line after) where
  mine_is : refused_by (held_by before.threads step.thread) step.event ≡ refused_by (holdings_end past step.thread) step.event
  mine_is = ap (λ h. refused_by h step.event) (stands.threads step.thread)

  within : (k : ℕ) → has (holdings_end past step.thread).write_held k ≡ true → has (holdings_end past step.thread).held k ≡ true
  within k = write-held past step.thread (length past) k

  holders_on : (l : ℕ) → is_level_lock l ≡ false → IsCount (λ t. has (holdings_end (past ++ step ∷ []) t).held l) (slice_index after.holders l)
  holders_on l plain =
      let n : ℕ = slice_index before.holders l in
      let o : Option Refusal = refused_by (holdings_end past step.thread) step.event in
      let now : ℕ = unless_refused o (holders_after step.event l n) n in
      let counts : IsCount (λ t. has (after_step (holdings_end past t) t step).held l) now =
      holders_step (holdings_end past) step.thread l plain within step.event n (stands.holders l plain) o refl in
      let is : now ≡ slice_index after.holders l = sym (follows.holders l ∙ ap (λ o. unless_refused o (holders_after step.event l n) n) mine_is) in
      subst (λ k. IsCount (λ t. has (holdings_end (past ++ step ∷ []) t).held l) k) is
      (count_same (λ t. has (after_step (holdings_end past t) t step).held l) (λ t. has (holdings_end (past ++ step ∷ []) t).held l) now counts
      (λ t. ap (λ h. has h.held l) (holdings-grow past step t)))

  writers_on : (l : ℕ) → is_level_lock l ≡ false → IsCount (λ t. has (holdings_end (past ++ step ∷ []) t).write_held l) (slice_index after.writers l)
  writers_on l plain =
      let n : ℕ = slice_index before.writers l in
      let o : Option Refusal = refused_by (holdings_end past step.thread) step.event in
      let now : ℕ = unless_refused o (writers_after step.event l n) n in
      let counts : IsCount (λ t. has (after_step (holdings_end past t) t step).write_held l) now =
      writers_step (holdings_end past) step.thread l plain within step.event n (stands.writers l plain) o refl in
      let is : now ≡ slice_index after.writers l = sym (follows.writers l ∙ ap (λ o. unless_refused o (writers_after step.event l n) n) mine_is) in
      subst (λ k. IsCount (λ t. has (holdings_end (past ++ step ∷ []) t).write_held l) k) is
      (count_same (λ t. has (after_step (holdings_end past t) t step).write_held l) (λ t. has (holdings_end (past ++ step ∷ []) t).write_held l) now counts
      (λ t. ap (λ h. has h.write_held l) (holdings-grow past step t)))

  refused_on : IsFirstLine (IsRefusedAt (past ++ step ∷ [])) (lines ++ line ∷ []) (suc (length past)) after.refused
  refused_on =
      let test : Bool = is_some (refused_by (holdings_end past step.thread) step.event) in
      let is : found_line before.refused test line ≡ after.refused = sym (follows.refused ∙ ap (λ o. found_line before.refused (is_some o) line) mine_is) in
      subst (λ o. IsFirstLine (IsRefusedAt (past ++ step ∷ [])) (lines ++ line ∷ []) (suc (length past)) o) is
      (first_on (IsRefusedAt past) (IsRefusedAt (past ++ step ∷ [])) lines (length past) line level (refused_still past step) (refused_before past step)
      before.refused test (refused_here past step) (not_refused_here past step) stands.refused)

  held_twice_on : IsFirstLine (IsHeldTwiceAt (past ++ step ∷ [])) (lines ++ line ∷ []) (suc (length past)) after.held_twice
  held_twice_on =
      let test : Bool = doubles_unless (refused_by (holdings_end past step.thread) step.event) (doubles before.holders before.writers step.event) in
      let is : found_line before.held_twice test line ≡ after.held_twice =
      sym (follows.held_twice ∙ ap (λ o. found_line before.held_twice (doubles_unless o (doubles before.holders before.writers step.event)) line) mine_is) in
      subst (λ o. IsFirstLine (IsHeldTwiceAt (past ++ step ∷ [])) (lines ++ line ∷ []) (suc (length past)) o) is
      (first_on (IsHeldTwiceAt past) (IsHeldTwiceAt (past ++ step ∷ [])) lines (length past) line level (twice_still past step) (twice_before past step)
      before.held_twice test (twice_here past step before.holders before.writers stands.holders stands.writers step.event refl)
      (not_twice_here past step before.holders before.writers stands.holders stands.writers) stands.held_twice)

  pub stands-on : StandsFor after (past ++ step ∷ []) (lines ++ line ∷ [])
  stands-on =
      record {
        threads = λ t. follows.threads t ∙ ap (λ h. after_step h t step) (stands.threads t) ∙ sym (holdings-grow past step t);
        holders = holders_on;
        writers = writers_on;
        refused = subst (λ n. IsFirstLine (IsRefusedAt (past ++ step ∷ [])) (lines ++ line ∷ []) n after.refused) (sym (length_push past step)) refused_on;
        held_twice = subst (λ n. IsFirstLine (IsHeldTwiceAt (past ++ step ∷ [])) (lines ++ line ∷ []) n after.held_twice) (sym (length_push past step)) held_twice_on;
      }

-- before any step
pub stands-start : (seen : Inspected) → seen.threads ≡ [] → seen.holders ≡ [] → seen.writers ≡ [] → seen.refused ≡ None → seen.held_twice ≡ None → StandsFor seen [] []
stands-start seen threads holders writers refused twice =
    record {
      threads = λ t. rw threads (sym (holdings-empty t));
      holders = λ l plain. rw holders (count_nobody (λ t. has (holdings_end [] t).held l) (λ t. rw (holdings-empty t) refl));
      writers = λ l plain. rw writers (count_nobody (λ t. has (holdings_end [] t).write_held l) (λ t. rw (holdings-empty t) refl));
      refused = rw refused (λ k below. absurd (omega arith));
      held_twice = rw twice (λ k below. absurd (omega arith));
    }

-- one step more of a batch
pub stands-more : (before after : Inspected) (past steps : List Step) (numbers lines : List ℕ) (k : ℕ) (step : Step) → length numbers ≡ length past → length lines ≡ length steps
    → k < length steps → step ≡ get_or steps k step → StandsFor before (past ++ take k steps) (numbers ++ take k lines) → Follows before step (get_or lines k 0) after
    → StandsFor after (past ++ take (k + 1) steps) (numbers ++ take (k + 1) lines)
stands-more before after past steps numbers lines k step even level below is stands follows =
    let line : ℕ = get_or lines k 0 in
    let in_lines : k < length lines = omega arith in
    let steps_are : (past ++ take k steps) ++ step ∷ [] ≡ past ++ take (k + 1) steps =
    append_assoc past (take k steps) (step ∷ []) ∙ ap (λ xs. past ++ xs) (sym (take_more steps k step below ∙ ap (λ x. take k steps ++ x ∷ []) (sym is))) in
    let lines_are : (numbers ++ take k lines) ++ line ∷ [] ≡ numbers ++ take (k + 1) lines =
    append_assoc numbers (take k lines) (line ∷ []) ∙ ap (λ xs. numbers ++ xs) (sym (take_more lines k 0 in_lines)) in
    let long : length (past ++ take k steps) ≡ length past + k = omega (arith, length-append past (take k steps), length-take-le k steps (omega arith)) in
    let many : length (numbers ++ take k lines) ≡ length numbers + k = omega (arith, length-append numbers (take k lines), length-take-le k lines (omega arith)) in
    subst (λ xs. StandsFor after xs (numbers ++ take (k + 1) lines)) steps_are
    (subst (λ xs. StandsFor after ((past ++ take k steps) ++ step ∷ []) xs) lines_are
    (stands-on before after (past ++ take k steps) (numbers ++ take k lines) step line (omega arith) stands follows))
