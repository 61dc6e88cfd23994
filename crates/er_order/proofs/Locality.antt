-- What is kept of a word depends on the marks that touch it and on the clocks of their threads alone.
use Rattle.std.proofs.Common.{◌≡◌, ℕ, zero, suc, Bool, true, false, cond, ◌==◌, List, [], ◌∷◌, ◌++◌, append-nil, refl, sym, ◌∙◌}
use Rattle.std.proofs.lemmas.Bool.{or_parts}
use Rattle.er_model.specs.Words.{Mark, Counted, Reused, Shown, Nothing, Reading, reuses, counts, thread_of, is_within}
use Rattle.er_model.specs.Locality.{touches}
use Rattle.er_event.specs.declared.steps.Step.{Step}
use Rattle.er_model.specs.Answers.{reading_of}
use Rattle.er_order.specs.Order.{Acts, acts_of}
use Rattle.er_order.specs.Clocks.{OfThread, clocks_at}
use Rattle.er_order.specs.Following.{Kept, fresh, kept, kept_at, kept_moved}
use Rattle.er_order.specs.Locality.{clocked_on}
use Rattle.er_order.proofs.StepLemmas.{Agree, agree-steps}
use Rattle.er_order.proofs.Following.{kept-none, kept-follows}

replay : ℕ → Kept → List (Mark × (ℕ → ℕ)) → Kept
replay w before [] = before
replay w before (p ∷ ps) = replay w (kept_moved p.1 before w p.0) ps

replay-append : (w : ℕ) (before : Kept) (xs ys : List (Mark × (ℕ → ℕ))) → replay w before (xs ++ ys) ≡ replay w (replay w before xs) ys
unfolding replay
replay-append w before [] ys = refl
replay-append w before (x ∷ xs) ys = replay-append w (kept_moved x.1 before w x.0) xs ys

-- a mark that doesn't touch the word leaves it
kept-apart : (clock : ℕ → ℕ) (before : Kept) (w : ℕ) (mark : Mark) → touches mark w ≡ false → kept_moved clock before w mark ≡ before
unfolding reuses counts
kept-apart clock before w (Counted t kind word cover) apart = rw (or_parts false (word == w) apart).1 refl
kept-apart clock before w (Reused range) apart = rw (or_parts (is_within w range) false apart).0 refl
kept-apart clock before w (Shown word) apart = refl
kept-apart clock before w Nothing apart = refl

module _ (acts : Acts) (r : Reading) (agree : Agree acts r) (w : ℕ) where
  abbrev clock_at : ℕ → ℕ → ℕ
  clock_at n = clocks_at acts n (OfThread (thread_of (r n)))

  kept_replayed : (n : ℕ) (b : Bool) → touches (r n) w ≡ b → kept acts r w n ≡ replay w fresh (clocked_on acts r w n) →
      kept acts r w (suc n) ≡ replay w fresh (clocked_on acts r w n ++ cond b ((r n, clock_at n) ∷ []) [])
  unfolding replay
  kept_replayed n true touched before =
      kept-follows acts r agree w n
      ∙ rw (replay-append w fresh (clocked_on acts r w n) ((r n, clock_at n) ∷ []), before) refl
  kept_replayed n false apart before =
      kept-follows acts r agree w n
      ∙ rw (append-nil (clocked_on acts r w n), kept-apart (clock_at n) (kept acts r w n) w (r n) apart) before

  kept-replay : (n : ℕ) → kept acts r w n ≡ replay w fresh (clocked_on acts r w n)
  unfolding clocked_on replay
  kept-replay zero = kept-none acts r w
  kept-replay (suc n) = kept_replayed n (touches (r n) w) refl (kept-replay n)

pub kept-local : (steps others : List Step) (w m n : ℕ) → clocked_on (acts_of steps) (reading_of steps) w m ≡ clocked_on (acts_of others) (reading_of others) w n →
    kept_at steps w m ≡ kept_at others w n
kept-local steps others w m n same =
    kept-replay (acts_of steps) (reading_of steps) (agree-steps steps) w m
    ∙ rw same (sym (kept-replay (acts_of others) (reading_of others) (agree-steps others) w n))
