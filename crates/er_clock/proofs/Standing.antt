-- What one act makes of the counts.
use Rattle.std.proofs.Common.{◌≡◌, ℕ, ◌+◌, max, Bool, true, false, ◌&&◌, ◌||◌, cond, ◌==◌, List, [], ◌∷◌, ◌++◌, length, Option, Some, None, refl, ap, ap₂, sym, ◌∙◌, arith}
use Rattle.std.proofs.Math.Path.{fun_ext}
use Rattle.std.proofs.lemmas.Bool.{eq-eqb}
use Rattle.std.specs.Option.{is_none}
use Rattle.er_event.specs.declared.steps.Mode.TheVariants.{Read, Write}
use Rattle.er_event.specs.declared.refusals.Refusal.{Refusal}
use Rattle.er_event.proofs.Lists.{length_push}
use Rattle.er_model.specs.Holdings.{refused_by, holdings_at}
use Rattle.er_event.specs.declared.steps.Step.{Step}
use Rattle.er_order.specs.Order.{Act, Effect, Released, Signalled, Joined, act_unless, acts_of}
use Rattle.er_order.specs.Clocks.{Keeper, OfThread, OfReleases, OfObject, is_own, publishes, flows, clocks_after, clocks_at}
use Rattle.er_order.specs.Following.{act_by}
use Rattle.er_order.proofs.ClockSteps.{and_none, and_all, released, signalled}
use Rattle.er_order.proofs.StepLemmas.{clocks-grow}
use Rattle.er_clock.specs.Table.{known_by}
use Rattle.er_clock.specs.Counts.{ClockMap, known_to}
use Rattle.er_clock.specs.Standing.{ClockMaps, counts, Moves, act_if, StandsForClocksOf, is_accepted}

plus_none : (x : ℕ) → x ≡ x + 0
plus_none x = omega arith

module _ (m : ClockMaps) (threads : ClockMap) (t : ℕ) (a : Effect) where
  abbrev act : Option Act
  act = Some (record { thread = t; sync = a })

  abbrev after : ClockMaps
  after = record { threads = threads; written = m.written; read = m.read; objects = m.objects }

  -- a thread's clock takes what it finds
  pub takes-found : (f : ℕ → ℕ) →
      ((k : Keeper) (u : ℕ) → clocks_after (counts m) act k u ≡ cond (is_own k t) (max (counts m k u) (f u)) (counts m k u)) →
      ((n u : ℕ) → known_to threads n u ≡ cond (n == t) (max (known_to m.threads n u) (f u)) (known_to m.threads n u)) → Moves m act after
  takes-found f law taken (OfThread n) u = taken n u ∙ sym (law (OfThread n) u)
  takes-found f law taken (OfReleases l Write) u = sym (law (OfReleases l Write) u)
  takes-found f law taken (OfReleases l Read) u = sym (law (OfReleases l Read) u)
  takes-found f law taken (OfObject x) u = sym (law (OfObject x) u)

  -- one thread's clock goes into another one's
  pub hands-on : (from to : ℕ) →
      ((k : Keeper) (u : ℕ) → clocks_after (counts m) act k u ≡
      cond (is_own k to) (max (counts m k u) (counts m (OfThread from) u)) (counts m k u) + cond (is_own k from && from == u) 1 0) →
      ((n u : ℕ) → known_to threads n u ≡ cond (n == to) (max (known_to m.threads n u) (known_to m.threads from u)) (known_to m.threads n u) + cond (n == from && from == u) 1 0) →
      Moves m act after
  hands-on from to law handed (OfThread n) u = handed n u ∙ sym (law (OfThread n) u)
  hands-on from to law handed (OfReleases l Write) u = plus_none (known_by m.written l u) ∙ sym (law (OfReleases l Write) u)
  hands-on from to law handed (OfReleases l Read) u = plus_none (known_by m.read l u) ∙ sym (law (OfReleases l Read) u)
  hands-on from to law handed (OfObject x) u = plus_none (known_by m.objects x u) ∙ sym (law (OfObject x) u)

-- what a table has after a thread gave it what it knows
abbrev pub Given : ClockMap → ClockMap → ClockMap → ℕ → ℕ → Type 0
Given threads old new t number = (n u : ℕ) → known_by new n u ≡ cond (number == n) (max (known_by old n u) (known_to threads t u)) (known_by old n u)

-- and what the threads have
abbrev pub Ticked : ClockMap → ClockMap → ℕ → Type 0
Ticked old new t = (n u : ℕ) → known_to new n u ≡ known_to old n u + cond (n == t && t == u) 1 0

module _ (m : ClockMaps) (threads : ClockMap) (t : ℕ) (ticked : Ticked m.threads threads t) where
  other_lock : (l n x y : ℕ) → x ≡ cond (l == n && false) y x + 0
  other_lock l n x y = rw (and_none (l == n)) (plus_none x)

  this_lock : (l n x y : ℕ) → cond (l == n) y x ≡ cond (l == n && true) y x + 0
  this_lock l n x y = rw (and_all (l == n)) (plus_none (cond (l == n) y x))

  pub gives-read : (l : ℕ) (read : ClockMap) → Given m.threads m.read read t l →
      Moves m (Some (record { thread = t; sync = Released l Read })) (record { threads = threads; written = m.written; read = read; objects = m.objects })
  gives-read l read given (OfThread n) u = ticked n u ∙ sym (released (counts m) t u l Read (OfThread n))
  gives-read l read given (OfReleases n Write) u =
      other_lock l n (known_by m.written n u) (max (known_by m.written n u) (known_to m.threads t u)) ∙ sym (released (counts m) t u l Read (OfReleases n Write))
  gives-read l read given (OfReleases n Read) u =
      given n u ∙ this_lock l n (known_by m.read n u) (max (known_by m.read n u) (known_to m.threads t u)) ∙ sym (released (counts m) t u l Read (OfReleases n Read))
  gives-read l read given (OfObject x) u = plus_none (known_by m.objects x u) ∙ sym (released (counts m) t u l Read (OfObject x))

  pub gives-written : (l : ℕ) (written : ClockMap) → Given m.threads m.written written t l →
      Moves m (Some (record { thread = t; sync = Released l Write })) (record { threads = threads; written = written; read = m.read; objects = m.objects })
  gives-written l written given (OfThread n) u = ticked n u ∙ sym (released (counts m) t u l Write (OfThread n))
  gives-written l written given (OfReleases n Write) u =
      given n u ∙ this_lock l n (known_by m.written n u) (max (known_by m.written n u) (known_to m.threads t u)) ∙ sym (released (counts m) t u l Write (OfReleases n Write))
  gives-written l written given (OfReleases n Read) u =
      other_lock l n (known_by m.read n u) (max (known_by m.read n u) (known_to m.threads t u)) ∙ sym (released (counts m) t u l Write (OfReleases n Read))
  gives-written l written given (OfObject x) u = plus_none (known_by m.objects x u) ∙ sym (released (counts m) t u l Write (OfObject x))

  pub gives-object : (x : ℕ) (objects : ClockMap) → Given m.threads m.objects objects t x →
      Moves m (Some (record { thread = t; sync = Signalled x })) (record { threads = threads; written = m.written; read = m.read; objects = objects })
  gives-object x objects given (OfThread n) u = ticked n u ∙ sym (signalled (counts m) t u x (OfThread n))
  gives-object x objects given (OfReleases n Write) u = plus_none (known_by m.written n u) ∙ sym (signalled (counts m) t u x (OfReleases n Write))
  gives-object x objects given (OfReleases n Read) u = plus_none (known_by m.read n u) ∙ sym (signalled (counts m) t u x (OfReleases n Read))
  gives-object x objects given (OfObject n) u =
      given n u ∙ plus_none (cond (x == n) (max (known_by m.objects n u) (known_to m.threads t u)) (known_by m.objects n u)) ∙ sym (signalled (counts m) t u x (OfObject n))

-- the thread whose clock an act hands on
pub flows-own : (a : Act) → publishes a.sync ≡ true → flows a a.thread ≡ true
unfolding flows
flows-own a gives = rw (eq-eqb a.thread a.thread refl, gives) refl

pub flows-joined : (t v : ℕ) → flows (record { thread = t; sync = Joined v }) v ≡ true
unfolding flows
flows-joined t v = rw (eq-eqb v v refl) (or_true (t == v && false))
  where
    or_true : (b : Bool) → (b || true) ≡ true
    or_true true = refl
    or_true false = refl

-- clocks that stand for a list stand for the longer one
act-accepted : (o : Option Refusal) (step : Step) → act_if (is_none o) step ≡ act_unless o step
act-accepted None step = refl
act-accepted (Some why) step = refl

pub stands-on : (before after : ClockMaps) (steps : List Step) (step : Step) (accepted : Bool) → StandsForClocksOf before steps →
    accepted ≡ is_accepted steps step → Moves before (act_if accepted step) after → StandsForClocksOf after (steps ++ step ∷ [])
stands-on before after steps step accepted stands is moves k u =
    let same : counts before ≡ clocks_at (acts_of steps) (length steps) = fun_ext (λ k. fun_ext (λ u. stands k u)) in
    let act : act_if accepted step ≡ act_by (holdings_at steps step.thread (length steps)) step =
    ap (λ b. act_if b step) is ∙ act-accepted (refused_by (holdings_at steps step.thread (length steps)) step.event) step in
    moves k u ∙ ap₂ (λ clocks o. clocks_after clocks o k u) same act ∙ sym (clocks-grow steps step k u)
    ∙ ap (λ n. clocks_at (acts_of (steps ++ step ∷ [])) n k u) (sym (length_push steps step))
