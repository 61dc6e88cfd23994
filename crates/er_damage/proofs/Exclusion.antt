-- Where no lock is held twice, no two threads hold one at once, one of them to write.
use Rattle.std.proofs.Common.{◌≡◌, ℕ, zero, suc, ◌<◌, Bool, true, false, List, [], Option, Some, None, Ok, refl, ap, sym, ◌∙◌, arith}
use Rattle.std.proofs.lemmas.Bool.{false_from_ne_true}
use Rattle.er_event.specs.declared.steps.Event.TheVariants.{Acquire}
use Rattle.er_event.specs.declared.steps.Mode.{Mode}
use Rattle.er_event.specs.declared.steps.Mode.TheVariants.{Read, Write}
use Rattle.er_event.specs.declared.steps.Reply.TheVariants.{Done}
use Rattle.er_event.specs.declared.steps.Step.{Step}
use Rattle.er_event.specs.Lockset.{has, is_level_lock}
use Rattle.er_model.specs.Answers.{answer, reply}
use Rattle.er_model.specs.Holdings.{holdings_at, holdings_end}
use Rattle.er_model.specs.Threads.{accepted}
use Rattle.er_model.proofs.Changes.{Accepts, write-held, gained, gained-write}
use Rattle.er_model.proofs.Parts.{in_range}
use Rattle.er_model.proofs.Prefixes.{holdings-empty}
use Rattle.er_model.proofs.Threads.{refusal_at}
use Rattle.er_text.specs.Trace.{IsTrace}
use Rattle.er_trace.specs.Trace.{Recording}
use Rattle.er_damage.specs.Damage.{IsHeldTwiceAt, kept_from}
use Rattle.er_damage.specs.Damaged.{IsDamageOf, no_damage}

-- an acquire that is accepted is done
done : (steps : List Step) (k t l : ℕ) (m : Mode) → Accepts steps k t (Acquire l m) → answer steps k ≡ Ok Done
unfolding answer reply
done steps k t l m it = rw (it.here, refusal_at steps k t (Acquire l m), it.free) refl

kept : (steps : List Step) (k u l : ℕ) (m : Mode) → has (holdings_at steps u k).write_held l ≡ true → has (kept_from m (holdings_at steps u k)) l ≡ true
kept steps k u l Read is = is
kept steps k u l Write is = write-held steps u k l is

module _ (steps : List Step) (l : ℕ) (plain : is_level_lock l ≡ false) where
  abbrev IsApart : ℕ → Type 0
  IsApart n = (t u : ℕ) → (t ≡ u → ⊥) → has (holdings_at steps t n).held l ≡ true → has (holdings_at steps u n).write_held l ≡ true → ⊥

  -- the step by which both come to hold it
  module _ (n : ℕ) (once : IsHeldTwiceAt steps n → ⊥) (before : IsApart n) (t u : ℕ) (apart : t ≡ u → ⊥)
      (one : has (holdings_at steps t (suc n)).held l ≡ true) (two : has (holdings_at steps u (suc n)).write_held l ≡ true) where
    by : (b c : Bool) → has (holdings_at steps t n).held l ≡ b → has (holdings_at steps u n).write_held l ≡ c → ⊥
    by true true mine yours = before t u apart mine yours
    by true false mine yours =
        let took = gained-write steps u l n plain yours two in
        once (record { thread = u; lock = l; mode = Write; other = t; takes = took.here; done = done steps n u l Write took; apart = apart; holds = mine })
    by false true mine yours =
        let took = gained steps t l n plain mine one in
        once (record {
          thread = t;
          lock = l;
          mode = took.0;
          other = u;
          takes = took.1.here;
          done = done steps n t l took.0 took.1;
          apart = λ same. apart (sym same);
          holds = kept steps n u l took.0 yours;
        })
    by false false mine yours =
        let one' = gained steps t l n plain mine one in
        let two' = gained-write steps u l n plain yours two in
        apart (ap thread_in (sym one'.1.here ∙ two'.here))
      where
        thread_in : Option Step → ℕ
        thread_in None = 0
        thread_in (Some s) = s.thread

  at_start : (t : ℕ) → holdings_at steps t 0 ≡ holdings_end [] t
  unfolding accepted
  at_start t = refl

  pub never-both : (n : ℕ) → ((k : ℕ) → k < n → IsHeldTwiceAt steps k → ⊥) → IsApart n
  never-both zero once t u apart one two = let never : has (holdings_at steps t 0).held l ≡ false = rw (at_start t, holdings-empty t) refl in let clash : true ≡ false = sym one ∙ never in cc
  never-both (suc n) once t u apart one two =
      by n (once n (omega arith)) (never-both n (λ k below. once k (omega arith))) t u apart one two
      (has (holdings_at steps t n).held l) (has (holdings_at steps u n).write_held l) refl refl

pub excluded : (steps : List Step) (l n : ℕ) → is_level_lock l ≡ false → ((k : ℕ) → k < n → IsHeldTwiceAt steps k → ⊥) → (t u : ℕ) → (t ≡ u → ⊥) →
    has (holdings_at steps t n).held l ≡ true → has (holdings_at steps u n).write_held l ≡ false
excluded steps l n plain once t u apart mine =
    false_from_ne_true (has (holdings_at steps u n).write_held l) (λ yours. never-both steps l plain n once t u apart mine yours)

pub text-excludes : (text : List ℕ) (limit : ℕ) → IsDamageOf text limit no_damage → (recording : Recording) × IsTrace text limit recording ×
    ((l n t u : ℕ) → is_level_lock l ≡ false → (t ≡ u → ⊥) → has (holdings_at recording.steps t n).held l ≡ true → has (holdings_at recording.steps u n).write_held l ≡ false)
text-excludes text limit is = (
  is.recording,
  is.trace,
  λ l n t u plain apart mine.
      excluded is.recording.steps l n plain (λ k below twice. is.held_twice k (in_range is.recording.steps k _ twice.takes) twice) t u apart mine,
)
