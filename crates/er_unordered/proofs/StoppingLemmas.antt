-- A step that may be beyond a limit is so whatever steps come behind it, and an analyst goes on by a batch or stops in it.
use Rattle.std.proofs.Common.{◌≡◌, ◌<◌, ◌≤◌, ◌+◌, ◌-◌, ◌∙◌, ◌++◌, ◌||◌, ◌∷◌, [], ℕ, nat_lt, Bool, true, false, cond, List, length, slice_get, length-append, take, drop, is_some, Option, Some, None, IfSome, refl, sym, ap, ap₂, subst, arith}
use Rattle.std.proofs.lemmas.Bool.{lt-ltb, ltb-true}
use Rattle.std.proofs.lemmas.Bool.Decides.{nat_tests}
use Rattle.std.proofs.lemmas.List.{get_or_append_left, take-append-drop}
use Rattle.std.proofs.lemmas.List.Folds.{list_any-append}
use Rattle.std.proofs.lemmas.List.Elements.{All-nil}
use Rattle.er_batch.proofs.BatchLemmas.{number-behind}
use Rattle.er_batch.proofs.StepLemmas.{past-next}
use Rattle.er_batch.specs.Touching.{AgreeOn, touch_on}
use Rattle.er_lines.specs.declared.ready.Touch.{Touch}
use Rattle.er_batch.specs.Analysts.{Asked}
use Rattle.er_unordered.specs.Standing.{IsBeyondAfter, Ordered, Stands}
use Rattle.er_clock.specs.declared.clock.NoTick.{NoTick}
use Rattle.er_clock.specs.declared.clock.NoTick.TheVariants.{Beyond, OutOfMemory}
use Rattle.er_clock.specs.declared.clock.Limit.{Limit}
use Rattle.er_event.specs.declared.steps.Step.{Step}
use Rattle.er_clock.specs.Crowding.{BeyondIn, IsBeyond}
use Rattle.er_unordered.proofs.Later.{beyond_at}
use Rattle.er_order.proofs.StepLemmas.{acts-front, clocks-front}
use Rattle.er_order.specs.Clocks.{Clocks, clocks_at}
use Rattle.er_order.specs.Order.{Act, acts_of}
use Rattle.er_explain.specs.Racing.{places_below}
use Rattle.er_order.specs.ByBytes.{Touched, whole, answer_by_bytes}
use Rattle.er_report.specs.declared.report.Because.{Because}
use Rattle.er_report.specs.Builder.{Built, IsBuiltBy}
use Rattle.er_report.specs.Report.{told as summary}
use Rattle.er_report.specs.declared.report.Report.{Report}
use Rattle.er_rules.specs.Rules.{Target}
use Rattle.er_text.specs.Batches.{joined}
use Rattle.er_trace.specs.Names.{NameTable, no_names}
use Rattle.er_trace.specs.Trace.{IsNamed, HasSiteName, Recording, no_steps}
use Rattle.er_unordered.specs.Answered.{HasAnswered, HasGathered, tells, recorded}
use Rattle.er_unordered.specs.Tags.{tag_at, told_at}
use Rattle.er_unordered.specs.Ordered.{HasGatheredFor, HasOrdered, OrderRan}
use Rattle.er_unordered.specs.Reports.{TouchAs, bytes_by, has_order, is_order, touched_by, unordered_report}
use Rattle.er_unordered.specs.declared.ordering.Machines.{Machines}
use Rattle.er_unordered.specs.Stops.{IsStopIn}

-- more steps come behind
pub beyond-on : (limit : Limit) (steps more : List Step) → BeyondIn limit steps → BeyondIn limit (steps ++ more)
beyond-on limit steps more is =
    let low : is.at < length steps = is.within in
    beyond_at limit (steps ++ more) is.at (omega (arith, low, length-append steps more))
    (subst (λ (o : Option Act). IsBeyond limit (clocks_at (acts_of (steps ++ more)) is.at) o) (sym (acts-front steps more is.at low))
    (subst (λ (clocks : Clocks). IsBeyond limit clocks (acts_of steps is.at)) (sym (clocks-front steps more is.at (omega (arith, low)))) is.beyond))

-- a step that may be beyond a limit behind the first n steps
pub beyond-here : (limit : Limit) (steps : List Step) (n : ℕ) (step : Step) → slice_get steps n ≡ Some step → IsBeyondAfter (take n steps) step limit → BeyondIn limit steps
beyond-here limit steps n step here is =
    subst (λ (s : List Step). BeyondIn limit s) (take-append-drop (n + 1) steps)
    (beyond-on limit (take (n + 1) steps) (drop (n + 1) steps) (subst (λ (s : List Step). BeyondIn limit s) (past-next steps n step here) (next (take n steps) is)))
  where
    next : (past : List Step) → IsBeyondAfter past step limit → BeyondIn limit (past ++ step ∷ [])
    next past is =
        beyond_at limit (past ++ step ∷ []) (length past) (omega (arith, length-append past (step ∷ [])))
        (subst (λ (clocks : Clocks). IsBeyond limit clocks (acts_of (past ++ step ∷ []) (length past))) (sym (clocks-front past (step ∷ []) (length past) (omega arith))) is)

-- why a step isn't answered
pub stop-by : (steps : List Step) (why : NoTick) → ((limit : Limit) → why ≡ Beyond limit → BeyondIn limit steps) → IsStopIn steps why
stop-by steps (Beyond limit) beyond = beyond limit refl
stop-by steps OutOfMemory beyond = tt

-- why one of the steps can't be answered stays so
pub stop-on : (steps more : List Step) (why : NoTick) → IsStopIn steps why → IsStopIn (steps ++ more) why
stop-on steps more (Beyond limit) is = beyond-on limit steps more is
stop-on steps more OutOfMemory is = tt

-- before any step
pub started : {A : Type 0} (tag_of : ℕ → Option Step → A) (told_of : Option A → List (List Because)) (machine : Ordered A) → ((tags : ℕ → A) (touched : Touched) → Stands tags touched machine [])
    → (touched : Touched) (builder : Built) → IsBuiltBy (answer_by_bytes touched []) builder no_steps 0 → HasAnswered touched tag_of told_of machine builder [] no_steps
unfolding places_below
started tag_of told_of machine stands touched builder built = record {
  come = record { stands = stands (tag_at tag_of no_steps) touched; built = built; reasons = sym (ap (told_at tag_of told_of touched no_steps) built.races) };
  named = All-nil (IsNamed no_names);
  long = refl;
  seen = All-nil (HasSiteName no_names);
  one_each = refl;
}

pub begun : (machine : Machines) (built : Built) (asked : Asked) → ((touched : Touched) → HasGathered touched machine built [] no_steps) → built.rules ≡ asked.rules → tells machine ≡ asked.explain
    → HasOrdered (record { machine = machine; built = built; told = []; stop = None; has_order = false }) asked no_steps
begun machine built asked gathered rules explain = record {
  all = λ none. record { touched = λ k. whole; says = by asked.touches; long = refl; gathered = λ others same. gathered others; rules = rules; explain = explain };
  stopped = tt;
  order = refl;
}
  where
    by : (o : Option (List Touch)) → IfSome o (λ all. (k : ℕ) → k < length no_steps.steps → whole ≡ touched_by all no_steps.lines k)
    by None = tt
    by (Some all) = λ k below. absurd (omega (arith, below))

-- an order event of a batch, or one before it
order-on : (old new : OrderRan) (past : List Step) (trace : Recording) → new.has_order ≡ (old.has_order || has_order trace.steps) → old.has_order ≡ has_order past
    → new.has_order ≡ has_order (past ++ trace.steps)
order-on old new past trace said before =
    said ∙ ap (λ (b : Bool). b || has_order trace.steps) before ∙ sym (list_any-append is_order past trace.steps)

-- what has stopped stands for whatever comes behind
pub stopped-on : (old new : OrderRan) (asked : Asked) (past : List Step) (lines sites : List ℕ) (names : NameTable) (trace : Recording) → is_some old.stop ≡ true → new.stop ≡ old.stop
    → new.has_order ≡ (old.has_order || has_order trace.steps) → HasOrdered old asked (recorded past lines sites names) → HasOrdered new asked (joined past lines sites trace)
stopped-on old new asked past lines sites names trace some same said ordered = record {
  all = λ none. absurd (let clash = ap (λ (o : Option NoTick). is_some o) (sym same ∙ none) in cc);
  stopped = rw same (on old.stop ordered.stopped);
  order = order-on old new past trace said ordered.order;
}
  where
    on : (o : Option NoTick) → IfSome o (λ why. IsStopIn past why) → IfSome o (λ why. IsStopIn (past ++ trace.steps) why)
    on None is = tt
    on (Some why) is = stop-on past trace.steps why is

none-by : (o : Option NoTick) → is_some o ≡ false → o ≡ None
none-by None going = refl
none-by (Some why) going = absurd (cc)

-- what a batch's lines touch, by these, behind so many positions
abbrev behind : Touched → List Touch → List ℕ → ℕ → Touched
behind touched touches lines n k = cond (nat_lt k n) (touched k) (touched_by touches lines (k - n))

behind-before : (touched : Touched) (touches : List Touch) (lines : List ℕ) (n k : ℕ) → k < n → behind touched touches lines n k ≡ touched k
behind-before touched touches lines n k below = rw (lt-ltb k n below) refl

behind-after : (touched : Touched) (touches : List Touch) (lines : List ℕ) (n k : ℕ) → behind touched touches lines n (n + k) ≡ touched_by touches lines k
behind-after touched touches lines n k =
    let past : nat_lt (n + k) n ≡ false = grind (arith, nat_tests) in
    let same : n + k - n ≡ k = omega arith in
    rw past (ap (touched_by touches lines) same)

-- a batch behind steps that were answered
module _ (ran : OrderRan) (asked : Asked) (past : List Step) (lines sites : List ℕ) (names : NameTable) (trace : Recording) (touches : List Touch)
    (even : length trace.lines ≡ length trace.steps) (agree : AgreeOn asked.touches touches trace.lines) (all : HasGatheredFor ran asked (recorded past lines sites names)) where
  abbrev now : Touched
  now = behind all.touched touches trace.lines (length past)

  gathered-now : HasGathered now ran.machine ran.built ran.told (recorded past lines sites names)
  gathered-now = all.gathered now (λ k below. behind-before all.touched touches trace.lines (length past) k below)

  touch-now : TouchAs now touches trace.lines (length past)
  touch-now k below = behind-after all.touched touches trace.lines (length past) k

  long-on : length (lines ++ trace.lines) ≡ length (past ++ trace.steps)
  long-on = let a : length lines ≡ length past = all.long in omega (arith, length-append lines trace.lines, length-append past trace.steps, even)

  says-on : (o : Option (List Touch)) → IfSome o (λ known. (k : ℕ) → k < length past → all.touched k ≡ touched_by known lines k) → AgreeOn o touches trace.lines
      → IfSome o (λ known. (k : ℕ) → k < length (past ++ trace.steps) → now k ≡ touched_by known (lines ++ trace.lines) k)
  says-on None says agree = tt
  says-on (Some known) says agree = λ k below. by k below (nat_lt k (length past)) refl
    where
      front : (k : ℕ) → k < length past → now k ≡ touched_by known (lines ++ trace.lines) k
      front k low =
          behind-before all.touched touches trace.lines (length past) k low ∙ says k low
          ∙ ap (λ (line : ℕ). bytes_by (touch_on known line)) (sym (get_or_append_left lines trace.lines 0 k (let a : length lines ≡ length past = all.long in omega arith)))

      back : (j : ℕ) → j < length trace.lines → now (length past + j) ≡ touched_by known (lines ++ trace.lines) (length past + j)
      back j low =
          touch-now j low
          ∙ ap bytes_by (agree j 0 low)
          ∙ ap (λ (line : ℕ). bytes_by (touch_on known line)) (number-behind lines trace.lines (length past) j all.long)

      by : (k : ℕ) → k < length (past ++ trace.steps) → (b : Bool) → nat_lt k (length past) ≡ b → now k ≡ touched_by known (lines ++ trace.lines) k
      by k below true is = front k (ltb-true k (length past) is)
      by k below false is =
          let high : length past ≤ k = grind (arith, nat_tests, is) in
          let sum : length past + (k - length past) ≡ k = omega (arith, high) in
          subst (λ (n : ℕ). now n ≡ touched_by known (lines ++ trace.lines) n) sum
          (back (k - length past) (omega (arith, high, even, below, length-append past trace.steps)))

  gathered-on : (new : OrderRan) → ((touched : Touched) → HasGathered touched ran.machine ran.built ran.told (recorded past lines sites names) → TouchAs touched touches trace.lines (length past)
      → HasGathered touched new.machine new.built new.told (joined past lines sites trace))
      → (others : Touched) → ((k : ℕ) → k < length (past ++ trace.steps) → others k ≡ now k) → HasGathered others new.machine new.built new.told (joined past lines sites trace)
  gathered-on new gathers others same =
      gathers others
      (all.gathered others (λ k below. same k (omega (arith, below, length-append past trace.steps)) ∙ behind-before all.touched touches trace.lines (length past) k below))
      (λ k below. same (length past + k) (omega (arith, below, even, length-append past trace.steps)) ∙ touch-now k below)

-- what hasn't stopped goes on
pub goes-on : (old new : OrderRan) (asked : Asked) (past : List Step) (lines sites : List ℕ) (names : NameTable) (trace : Recording) (touches : List Touch)
    → length trace.lines ≡ length trace.steps → AgreeOn asked.touches touches trace.lines → is_some old.stop ≡ false → new.stop ≡ old.stop
    → new.has_order ≡ (old.has_order || has_order trace.steps) → HasOrdered old asked (recorded past lines sites names)
    → ((touched : Touched) → HasGathered touched old.machine old.built old.told (recorded past lines sites names) → TouchAs touched touches trace.lines (length past)
    → HasGathered touched new.machine new.built new.told (joined past lines sites trace))
    → new.built.rules ≡ old.built.rules → tells new.machine ≡ tells old.machine → HasOrdered new asked (joined past lines sites trace)
goes-on old new asked past lines sites names trace touches even agree going same said ordered gathers rules explain =
    let none : old.stop ≡ None = none-by old.stop going in
    let all : HasGatheredFor old asked (recorded past lines sites names) = ordered.all none in
    record {
      all = λ still. record {
        touched = now old asked past lines sites names trace touches even agree all;
        says = says-on old asked past lines sites names trace touches even agree all asked.touches all.says agree;
        long = long-on old asked past lines sites names trace touches even agree all;
        gathered = gathered-on old asked past lines sites names trace touches even agree all new gathers;
        rules = rules ∙ all.rules;
        explain = explain ∙ all.explain;
      };
      stopped = rw (same ∙ none) tt;
      order = order-on old new past trace said ordered.order;
    }

-- or stops in a batch
pub stops : (old new : OrderRan) (asked : Asked) (past : List Step) (lines sites : List ℕ) (names : NameTable) (trace : Recording) (touches : List Touch)
    → length trace.lines ≡ length trace.steps → AgreeOn asked.touches touches trace.lines → (why : NoTick) → is_some old.stop ≡ false → new.stop ≡ Some why
    → new.has_order ≡ (old.has_order || has_order trace.steps) → HasOrdered old asked (recorded past lines sites names)
    → ((touched : Touched) → HasGathered touched old.machine old.built old.told (recorded past lines sites names) → TouchAs touched touches trace.lines (length past) → IsStopIn (past ++ trace.steps) why)
    → HasOrdered new asked (joined past lines sites trace)
stops old new asked past lines sites names trace touches even agree why going some said ordered full =
    let all : HasGatheredFor old asked (recorded past lines sites names) = ordered.all (none-by old.stop going) in
    record {
      all = λ none. absurd (let clash = sym none ∙ some in cc);
      stopped = rw some (full (now old asked past lines sites names trace touches even agree all) (gathered-now old asked past lines sites names trace touches even agree all)
          (touch-now old asked past lines sites names trace touches even agree all));
      order = order-on old new past trace said ordered.order;
    }

-- the report is that by the bytes that are known
pub report-by : (ran : OrderRan) (asked : Asked) (r : Recording) (report : Report) → HasGatheredFor ran asked r
    → ((touched : Touched) → HasGathered touched ran.machine ran.built ran.told r → summary report ≡ unordered_report r touched ran.built.rules (tells ran.machine))
    → IfSome asked.touches (λ all. summary report ≡ unordered_report r (touched_by all r.lines) asked.rules asked.explain)
report-by ran asked r report all says = by asked.touches all.says
  where
    by : (o : Option (List Touch)) → IfSome o (λ known. (k : ℕ) → k < length r.steps → all.touched k ≡ touched_by known r.lines k)
        → IfSome o (λ known. summary report ≡ unordered_report r (touched_by known r.lines) asked.rules asked.explain)
    by None is = tt
    by (Some known) is =
        says (touched_by known r.lines) (all.gathered (touched_by known r.lines) (λ k below. sym (is k below)))
        ∙ ap₂ (λ (rules : List Target) (explain : Bool). unordered_report r (touched_by known r.lines) rules explain) all.rules all.explain

-- and it has the names of whatever its accesses touch
pub gathered-some : (ran : OrderRan) (asked : Asked) (r : Recording) (all : HasGatheredFor ran asked r) → HasGathered all.touched ran.machine ran.built ran.told r
gathered-some ran asked r all = all.gathered all.touched (λ k below. refl)
