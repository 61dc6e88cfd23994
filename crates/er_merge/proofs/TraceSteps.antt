-- The steps of a trace, by its lines: which numbers they have, and which steps are of one line.
use Rattle.std.proofs.Common.{◌≡◌, ◌⊎◌, ℕ, zero, suc, ◌+◌, ◌-◌, ◌*◌, ◌/◌, ◌^◌, ◌<◌, ◌≤◌, Bool, true, false, cond, List, [], ◌∷◌, ◌++◌, filter, length, length-append, get_or, slice_get, slice_index, Some, Ok, refl, sym, ap, subst, ◌∙◌, inl, inr, ⊎_elim, arith}
use Rattle.std.specs.List.{All, Contains}
use Rattle.std.proofs.lemmas.List.Elements.{All-contains, All-filter, All-tail}
use Rattle.std.proofs.lemmas.List.{get_or_append_left}
use Rattle.std.proofs.lemmas.Option.{same_Some, slice_get-get_or, slice_get_within}
use Rattle.er_event.specs.declared.addresses.PageRange.{PageRange}
use Rattle.er_event.specs.declared.steps.Event.{Event}
use Rattle.er_event.specs.declared.steps.Event.TheVariants as event
use Rattle.er_event.specs.declared.steps.Step.{Step}
use Rattle.er_lines.specs.Lines.{Line, Placed, has_content, is_end, lines_of, onto_line, placed, placed_from, width, words}
use Rattle.er_parts.specs.Ordered.{event_word}
use Rattle.er_parts.proofs.TextOrder.{trace-ordered}
use Rattle.er_text.specs.Events.{EventLine, Operation, Acquires, Releases, Accesses, Reuses, IgnoresOn, IgnoresOff, Shows, Levels, Starts, Joins, Signals, Awaits}
use Rattle.er_text.specs.Named.{AreNamed, Does, IsToldBy}
use Rattle.er_text.specs.Trace.{IsOperation, IsTrace}
use Rattle.er_text.specs.Inner.Parsing.{parsed_of}
use Rattle.er_text.specs.declared.verbs.Version.{Version}
use Rattle.er_text.proofs.NamedLaws.{trace_named}
use Rattle.er_text.proofs.ParsingAgain.{says_parsed}
use Rattle.er_trace.specs.Names.{NameTable}
use Rattle.er_trace.specs.Trace.{Recording}
use Rattle.er_merge.specs.Texts.{Fits}
use Rattle.er_merge.proofs.TraceNames.{few_locks}

-- a text has no more lines than bytes

long_onto : (byte : ℕ) (lines : List Line) → length (onto_line byte lines) ≤ length lines + 1
long_onto byte [] = omega arith
long_onto byte (line ∷ lines) = omega arith

long_step : (byte : ℕ) (lines : List Line) (b : Bool) → length (cond b (record { bytes = []; ended = true } ∷ lines) (onto_line byte lines)) ≤ length lines + 1
long_step byte lines true = omega arith
long_step byte lines false = long_onto byte lines

few_lines : (text : List ℕ) → length (lines_of text) ≤ length text
few_lines [] = omega arith
few_lines (byte ∷ text) = omega (arith, long_step byte (lines_of text) (is_end byte), few_lines text)

few_placed : (number start : ℕ) (lines : List Line) → length (placed_from number start lines) ≡ length lines
few_placed number start [] = refl
few_placed number start (line ∷ lines) = ap suc (few_placed (number + 1) (start + width line) lines)

pub few_kept : {X : Type 0} (test : X → Bool) (xs : List X) → length (filter test xs) ≤ length xs
few_kept test [] = omega arith
few_kept {X = X} test (x ∷ xs) =
    let more = few_kept test xs in
    elim (test x) as (λ b. length (cond b (x ∷ filter test xs) (filter test xs)) ≤ suc (length xs)) [ true ↦ omega (arith, more) | false ↦ omega (arith, more) ]

-- each line stands at the place of its number

number_at : (number start : ℕ) (lines : List Line) (k : ℕ) (p : Placed) → slice_get (placed_from number start lines) k ≡ Some p → p.number ≡ number + k
number_at number start [] k p is = cc
number_at number start (line ∷ lines) zero p is =
    let same : record { number = number; start = start; line = line } ≡ p = same_Some _ p is in sym (ap (λ (q : Placed). q.number) same) ∙ omega arith
number_at number start (line ∷ lines) (suc k) p is = number_at (number + 1) (start + width line) lines k p is ∙ omega arith

abbrev IsInPlace : List Placed → Placed → Type 0
IsInPlace ps p = (1 ≤ p.number) × (slice_get ps (p.number - 1) ≡ Some p)

in_place : (text : List ℕ) → All (IsInPlace (placed text)) (placed text)
in_place text = λ k d within.
    let p : Placed = get_or (placed text) k d in
    let at = slice_get-get_or (placed text) k d within in
    let number = number_at 1 0 (lines_of text) k p at in
    let place : p.number - 1 ≡ k = omega (arith, number) in
    (omega (arith, number), ap (slice_get (placed text)) place ∙ at)

pub All-front : {X : Type 0} (P : X → Type 0) (xs ys : List X) → All P (xs ++ ys) → All P xs
All-front P xs ys all = λ k d within. subst P (get_or_append_left xs ys d k within) (all k d (omega (arith, within, length-append xs ys)))

module _ (text : List ℕ) (limit : ℕ) (t : Recording) (is : IsTrace text limit t) where
  pub few_events : length is.events ≤ length text
  few_events =
      let whole : length (filter has_content (placed text)) ≡ suc (length (is.events ++ is.closing)) = ap length is.content in
      omega (arith, whole, length-append is.events is.closing, few_kept has_content (placed text), few_placed 1 0 (lines_of text), few_lines text)

  events_in_place : All (IsInPlace (placed text)) is.events
  events_in_place =
      let content : All (IsInPlace (placed text)) (is.header ∷ is.events ++ is.closing) =
      subst (All (IsInPlace (placed text))) is.content (All-filter has_content (IsInPlace (placed text)) (placed text) (in_place text)) in
      All-front (IsInPlace (placed text)) is.events is.closing (All-tail (IsInPlace (placed text)) is.header (is.events ++ is.closing) content)

  event_in_place : (p : Placed) → Contains is.events p → IsInPlace (placed text) p
  event_in_place p there = All-contains (IsInPlace (placed text)) is.events p events_in_place there

  small_number : (p : Placed) → Contains is.events p → p.number ≤ length text
  small_number p there =
      let place = event_in_place p there in
      let some = place.0 in
      let within = slice_get_within (placed text) (p.number - 1) p place.1 in
      omega (arith, some, within, few_placed 1 0 (lines_of text), few_lines text)

  one_place : (p q : Placed) → Contains is.events p → Contains is.events q → p.number ≡ q.number → p ≡ q
  one_place p q first second same =
      same_Some p q (sym (event_in_place p first).1 ∙ ap (λ (n : ℕ). slice_get (placed text) (n - 1)) same ∙ (event_in_place q second).1)

-- the line of a step

pub record IsTold (v : Version) (events : List Placed) (names : NameTable) (step : Step) (line : ℕ) : Type 0 where
  at : Placed
  there : Contains events at
  number : line ≡ at.number
  site : ℕ
  pub told : IsToldBy v names step site at

told_at : (v : Version) (events : List Placed) (names : NameTable) (steps : List Step) (lines sites : List ℕ) (k : ℕ) (step : Step) → AreNamed v events names steps lines sites → slice_get steps k ≡ Some step
    → IsTold v events names step (slice_index lines k)
told_at v events names [] lines sites k step are is = cc
told_at v events names (s ∷ steps) [] sites k step are is = absurd are
told_at v events names (s ∷ steps) (line ∷ lines) [] k step are is = absurd are
told_at v events names (s ∷ steps) (line ∷ lines) (site ∷ sites) zero step are is =
    let same : s ≡ step = same_Some s step is in
    record { at = are.0.0; there = are.0.1; number = are.0.2; site = site; told = subst (λ (x : Step). IsToldBy v names x site are.0.0) same are.0.3 }
told_at v events names (s ∷ steps) (line ∷ lines) (site ∷ sites) (suc k) step are is = told_at v events names steps lines sites k step are.1 is

-- the numbers of an event fit

abbrev pub StepFits : Event → Type 0
StepFits (event.Acquire lock m) = Fits lock
StepFits (event.Release lock m) = Fits lock
StepFits (event.Access k w site) = w < 2 ^ 46
StepFits (event.Reuse range) = Unit {0}
StepFits event.IgnoreOn = Unit {0}
StepFits event.IgnoreOff = Unit {0}
StepFits (event.Show w) = w < 2 ^ 46
StepFits (event.Level n) = n ≤ 31
StepFits (event.Sync sync) = Unit {0}

word_fits : (w n : ℕ) → n < 2 ^ 48 → w ≡ n / 4 → w < 2 ^ 46
word_fits w n small is = let four : 2 ^ 48 ≡ 2 ^ 46 * 4 = refl in omega (arith, small, is, four)

done_fits : (v : Version) (names : NameTable) (ws : List (List ℕ)) (thread : List ℕ) (op : Operation) (e : Event) → Fits (length names.locks) → IsOperation v ws thread op → Does names op e → StepFits e
done_fits v names ws thread (Acquires lock m) e few says does = subst StepFits (sym does.1) (let within = slice_get_within names.locks does.0 lock does.2 in omega (arith, few, within))
done_fits v names ws thread (Releases lock m) e few says does = subst StepFits (sym does.1) (let within = slice_get_within names.locks does.0 lock does.2 in omega (arith, few, within))
done_fits v names ws thread (Accesses k w site) e few says does = subst StepFits (sym does.1) (word_fits w says.1 says.5 says.6)
done_fits v names ws thread (Reuses run site) e few says does = subst StepFits (sym does.1) tt
done_fits v names ws thread IgnoresOn e few says does = subst StepFits (sym does) tt
done_fits v names ws thread IgnoresOff e few says does = subst StepFits (sym does) tt
done_fits v names ws thread (Shows w) e few says does = subst StepFits (sym does) (word_fits w says.1 says.4 says.5)
done_fits v names ws thread (Levels n) e few says does = subst StepFits (sym does) says.3
done_fits v names ws thread (Starts other) e few says does = subst StepFits (sym does.1) tt
done_fits v names ws thread (Joins other) e few says does = subst StepFits (sym does.1) tt
done_fits v names ws thread (Signals object) e few says does = subst StepFits (sym does.1) tt
done_fits v names ws thread (Awaits object) e few says does = subst StepFits (sym does.1) tt

-- steps of one line are of one word, or reuses

abbrev pub IsReuse : Event → Type 0
IsReuse e = (range : PageRange) × (e ≡ event.Reuse range)

abbrev AreAlike : Event → Event → Type 0
AreAlike e f = (event_word e ≡ event_word f) ⊎ (IsReuse e × IsReuse f)

alike : (e f g h : Event) → e ≡ g → f ≡ h → event_word g ≡ event_word h → AreAlike e f
alike e f g h first second same = inl (ap event_word first ∙ same ∙ sym (ap event_word second))

done_alike : (names : NameTable) (op : Operation) (e f : Event) → Does names op e → Does names op f → AreAlike e f
done_alike names (Acquires lock m) e f first second = alike e f _ _ first.1 second.1 refl
done_alike names (Releases lock m) e f first second = alike e f _ _ first.1 second.1 refl
done_alike names (Accesses k w site) e f first second = alike e f _ _ first.1 second.1 refl
done_alike names (Reuses run site) e f first second = inr ((first.0, first.1), (second.0, second.1))
done_alike names IgnoresOn e f first second = alike e f _ _ first second refl
done_alike names IgnoresOff e f first second = alike e f _ _ first second refl
done_alike names (Shows w) e f first second = alike e f _ _ first second refl
done_alike names (Levels n) e f first second = alike e f _ _ first second refl
done_alike names (Starts other) e f first second = alike e f _ _ first.1 second.1 refl
done_alike names (Joins other) e f first second = alike e f _ _ first.1 second.1 refl
done_alike names (Signals object) e f first second = alike e f _ _ first.1 second.1 refl
done_alike names (Awaits object) e f first second = alike e f _ _ first.1 second.1 refl

same_said : (v : Version) (p q : Placed) (s r : EventLine) → p ≡ q → parsed_of v (words p.line.bytes) ≡ Ok s → parsed_of v (words q.line.bytes) ≡ Ok r → s ≡ r
same_said v p q s r same first second =
    let both : Ok s ≡ Ok r = sym first ∙ ap (λ (x : Placed). parsed_of v (words x.line.bytes)) same ∙ second in cc

module _ (text : List ℕ) (limit : ℕ) (t : Recording) (is : IsTrace text limit t) where
  pub told : (k : ℕ) (step : Step) → slice_get t.steps k ≡ Some step → IsTold is.version is.events t.names step (slice_index t.lines k)
  told k step there = told_at is.version is.events t.names t.steps t.lines t.sites k step (trace_named text limit t is) there

  pub step_fits : Fits (length text) → (k : ℕ) (step : Step) → slice_get t.steps k ≡ Some step → StepFits step.event
  step_fits short k step there =
      let line = told k step there in
      let few : Fits (length t.names.locks) = omega (arith, short, few_locks text limit t is, few_events text limit t is) in
      done_fits is.version t.names (words line.at.line.bytes) line.told.event_line.thread line.told.event_line.operation step.event few line.told.says.1 line.told.does

  pub line_fits : Fits (length text) → (k : ℕ) (step : Step) → slice_get t.steps k ≡ Some step → Fits (slice_index t.lines k)
  line_fits short k step there =
      let line = told k step there in
      let same = line.number in
      omega (arith, short, same, small_number text limit t is line.at line.there)

  -- two steps of one line are reuses
  pub steps_alone : (j k : ℕ) (a b : Step) → j < k → slice_get t.steps j ≡ Some a → slice_get t.steps k ≡ Some b → slice_index t.lines j ≡ slice_index t.lines k → IsReuse a.event × IsReuse b.event
  steps_alone j k a b before first second same =
      let one = told j a first in
      let two = told k b second in
      let place : one.at ≡ two.at = one_place text limit t is one.at two.at one.there two.there (sym one.number ∙ same ∙ two.number) in
      let s = one.told.event_line in
      let r = two.told.event_line in
      let lines : s ≡ r = same_said is.version one.at two.at s r place
      (says_parsed is.version (words one.at.line.bytes) s one.told.says) (says_parsed is.version (words two.at.line.bytes) r two.told.says) in
      let does : Does t.names r.operation a.event = subst (λ (x : EventLine). Does t.names x.operation a.event) lines one.told.does in
      ⊎_elim
      (λ below. absurd (omega (arith, below, same)))
      (λ both. ⊎_elim
      (λ (word : event_word a.event ≡ event_word b.event). absurd (let less = both.1 in omega (arith, less, word)))
      (λ reuses. reuses)
      (done_alike t.names r.operation a.event b.event does two.told.does))
      (trace-ordered text limit t is j k a b before first second)
