-- The recording of a text is in the order of the text.
use Rattle.std.proofs.Common.{◌≡◌, ℕ, zero, suc, ◌+◌, ◌-◌, ◌<◌, ◌≤◌, ◌⊎◌, Bool, true, false, cond, List, [], ◌∷◌, ◌++◌, filter, length, length-append, map, option_map, slice_get, slice_index, Option, Some, None, refl, sym, ap, ◌∙◌, subst, arith, inl, inr, ⊎_elim}
use Rattle.std.proofs.lemmas.List.{get_or_append_left, get_or-append_right}
use Rattle.std.proofs.lemmas.Option.{slice_get-map}
use Rattle.er_event.specs.declared.addresses.PageRange.{PageRange}
use Rattle.er_event.specs.declared.steps.Event.TheVariants as event
use Rattle.er_event.specs.declared.steps.Step.{Step}
use Rattle.er_event.specs.Span.{Span, part_lo, part_of, parts_below}
use Rattle.er_lines.specs.Lines.{Line, Placed, has_content, lines_of, placed, placed_from, width}
use Rattle.er_text.specs.Events.{EventLine, Operation, Acquires, Releases, Accesses, Reuses, IgnoresOn, IgnoresOff, Shows, Levels, Starts, Joins, Signals, Awaits, run_parts, with_line, with_operation}
use Rattle.er_text.specs.Trace.{IsTrace, with_lines}
use Rattle.er_trace.specs.Trace.{Recording, no_steps, with_thread_name}
use Rattle.er_parts.specs.Ordered.{IsOrdered, event_word}

-- what stands at a place of two lists joined
Split : {A : Type 0} → List A → List A → ℕ → A → Type 0
Split xs ys k x = ((k < length xs) × (slice_get xs k ≡ Some x)) ⊎ ((length xs ≤ k) × (slice_get ys (k - length xs) ≡ Some x))

split-next : {A : Type 0} (y : A) (xs ys : List A) (k : ℕ) (x : A) → Split xs ys k x → Split (y ∷ xs) ys (suc k) x
unfolding Split
split-next y xs ys k x before =
    ⊎_elim
    (λ first. inl ((let below = first.0 in omega (arith, below)), first.1))
    (λ second. inr (
      (let above = second.0 in omega (arith, above)),
      let same : suc k - suc (length xs) ≡ k - length xs = omega arith in ap (slice_get ys) same ∙ second.1,
    ))
    before

split : {A : Type 0} (xs ys : List A) (k : ℕ) (x : A) → slice_get (xs ++ ys) k ≡ Some x → Split xs ys k x
unfolding Split
split [] ys k x is = let same : k - 0 ≡ k = omega arith in inr (omega arith, ap (slice_get ys) same ∙ is)
split (y ∷ xs) ys zero x is = inl (omega arith, is)
split (y ∷ xs) ys (suc k) x is = split-next y xs ys k x (split xs ys k x is)

index-all : (steps : List Step) (line i : ℕ) (s : Step) → slice_get steps i ≡ Some s → slice_index (map (λ s. line) steps) i ≡ line
index-all [] line i s is = cc
index-all (x ∷ steps) line zero s is = refl
index-all (x ∷ steps) line (suc i) s is = index-all steps line i s is

-- steps and their lines, in order, with no line from n on
pub record IsBuilt (steps : List Step) (lines : List ℕ) (n : ℕ) : Type 0 where
  long : length lines ≡ length steps
  ordered : (j k : ℕ) (a b : Step) → j < k → slice_get steps j ≡ Some a → slice_get steps k ≡ Some b
      → (slice_index lines j < slice_index lines k) ⊎ ((slice_index lines j ≡ slice_index lines k) × (event_word a.event < event_word b.event))
  below : (k : ℕ) (s : Step) → slice_get steps k ≡ Some s → slice_index lines k < n

-- the words of the steps rise
pub Rises : List Step → Type 0
Rises steps = (j k : ℕ) (a b : Step) → j < k → slice_get steps j ≡ Some a → slice_get steps k ≡ Some b → event_word a.event < event_word b.event

module _ (steps new : List Step) (lines : List ℕ) (n line : ℕ) (past : n ≤ line) (built : IsBuilt steps lines n) (rises : Rises new) where
  first-line : (k : ℕ) → k < length steps → slice_index (lines ++ map (λ s. line) new) k ≡ slice_index lines k
  first-line k below = get_or_append_left lines (map (λ s. line) new) 0 k (let long = built.long in omega (arith, below, long))

  new-line : (k : ℕ) (s : Step) → length steps ≤ k → slice_get new (k - length steps) ≡ Some s → slice_index (lines ++ map (λ s. line) new) k ≡ line
  new-line k s above is =
      get_or-append_right lines (map (λ s. line) new) (length steps) k 0 built.long above ∙ index-all new line (k - length steps) s is

  order-next : (j k : ℕ) (a b : Step) → j < k → Split steps new j a → Split steps new k b
      → (slice_index (lines ++ map (λ s. line) new) j < slice_index (lines ++ map (λ s. line) new) k)
      ⊎ ((slice_index (lines ++ map (λ s. line) new) j ≡ slice_index (lines ++ map (λ s. line) new) k) × (event_word a.event < event_word b.event))
  unfolding Split Rises
  order-next j k a b before first second =
      ⊎_elim
      (λ early. ⊎_elim
      (λ also. rw (first-line j early.0, first-line k also.0) (built.ordered j k a b before early.1 also.1))
      (λ late. rw (first-line j early.0, new-line k b late.0 late.1) (inl (let low = built.below j a early.1 in omega (arith, low, past))))
      second)
      (λ late. ⊎_elim
      (λ early. absurd (let below = early.0 in let above = late.0 in omega (arith, before, below, above)))
      (λ also. rw (new-line j a late.0 late.1, new-line k b also.0 also.1)
      (inr (refl, rises (j - length steps) (k - length steps) a b (let above = late.0 in omega (arith, before, above)) late.1 also.1)))
      second)
      first

  below-next : (k : ℕ) (s : Step) → Split steps new k s → slice_index (lines ++ map (λ s. line) new) k < suc line
  unfolding Split
  below-next k s at =
      ⊎_elim
      (λ early. rw (first-line k early.0) (let low = built.below k s early.1 in omega (arith, low, past)))
      (λ late. rw (new-line k s late.0 late.1) (omega arith))
      at

  pub built-next : IsBuilt (steps ++ new) (lines ++ map (λ s. line) new) (suc line)
  built-next =
      record {
        long = length-append lines (map (λ s. line) new) ∙ ap (λ m. m + length (map (λ s. line) new)) built.long
            ∙ ap (λ m. length steps + m) (long-all new) ∙ sym (length-append steps new);
        ordered = λ j k a b before is also. order-next j k a b before (split steps new j a is) (split steps new k b also);
        below = λ k s is. below-next k s (split steps new k s is);
      }
    where
      long-all : (new : List Step) → length (map (λ s. line) new) ≡ length new
      long-all [] = refl
      long-all (s ∷ new) = ap suc (long-all new)

-- one step alone
rises-one : (s : Step) → Rises (s ∷ [])
unfolding Rises
rises-one s = λ j k a b before is also. by j k a b before also
  where
    by : (j k : ℕ) (a b : Step) → j < k → slice_get (s ∷ []) k ≡ Some b → event_word a.event < event_word b.event
    by j zero a b before also = absurd (omega (arith, before))
    by j (suc k) a b before also = cc

-- the parts of a span
long-parts : (span : Span) (n : ℕ) → length (parts_below span n) ≡ n
unfolding parts_below
long-parts span zero = refl
long-parts span (suc n) = length-append (parts_below span n) (part_of span n ∷ []) ∙ ap (λ m. m + 1) (long-parts span n) ∙ omega arith

last-part : (part p : PageRange) (i : ℕ) → slice_get (part ∷ []) i ≡ Some p → (i ≡ 0) × (part ≡ p)
last-part part p zero is = (refl, cc)
last-part part p (suc i) is = cc

part-is : (span : Span) (n i : ℕ) (p : PageRange) → slice_get (parts_below span n) i ≡ Some p → p ≡ part_of span i
unfolding parts_below Split
part-is span zero i p is = cc
part-is span (suc n) i p is =
    ⊎_elim
    (λ early. part-is span n i p early.1)
    (λ late. let last = last-part (part_of span n) p (i - length (parts_below span n)) late.1 in
    let none = last.0 in let above = late.0 in
    let same : i ≡ n = omega (arith, none, above, long-parts span n) in sym last.1 ∙ ap (part_of span) (sym same))
    (split (parts_below span n) (part_of span n ∷ []) i p is)

lo-rises : (span : Span) (j k : ℕ) → j < k → part_lo span j < part_lo span k
lo-rises span j k before = omega (arith, before)

-- a reuse of each part, by this thread
abbrev reuse_of : ℕ → PageRange → Step
reuse_of thread part = record { thread = thread; event = event.Reuse part }

map-some : (thread : ℕ) (o : Option PageRange) (a : Step) → option_map (reuse_of thread) o ≡ Some a
    → (part : PageRange) × (o ≡ Some part) × (event_word a.event ≡ part.lo)
map-some thread None a is = cc
map-some thread (Some part) a is = let same : reuse_of thread part ≡ a = cc in (part, refl, ap (λ a. event_word a.event) (sym same))

parts-rise : (span : Span) (n thread : ℕ) → Rises (map (reuse_of thread) (parts_below span n))
unfolding Rises part_of
parts-rise span n thread = λ j k a b before is also.
    let first = map-some thread (slice_get (parts_below span n) j) a (sym (slice_get-map (reuse_of thread) (parts_below span n) j) ∙ is) in
    let second = map-some thread (slice_get (parts_below span n) k) b (sym (slice_get-map (reuse_of thread) (parts_below span n) k) ∙ also) in
    let low : event_word a.event ≡ part_lo span j = first.2 ∙ ap (λ part. part.lo) (part-is span n j first.0 first.1) in
    let high : event_word b.event ≡ part_lo span k = second.2 ∙ ap (λ part. part.lo) (part-is span n k second.0 second.1) in
    rw (low, high) (lo-rises span j k before)

rises-none : Rises []
unfolding Rises
rises-none = λ j k a b before is also. cc

runs-rise : (run : Option Span) (thread : ℕ) → Rises (map (reuse_of thread) (run_parts run))
runs-rise None thread = rises-none
runs-rise (Some span) thread = parts-rise span _ thread

lines-map : (thread line : ℕ) (parts : List PageRange) → map (λ s. line) (map (reuse_of thread) parts) ≡ map (λ part. line) parts
lines-map thread line [] = refl
lines-map thread line (part ∷ parts) = ap (λ lines. line ∷ lines) (lines-map thread line parts)

one-built : (steps : List Step) (lines : List ℕ) (n line : ℕ) (s : Step) → n ≤ line → IsBuilt steps lines n → IsBuilt (steps ++ s ∷ []) (lines ++ line ∷ []) (suc line)
one-built steps lines n line s past built = built-next steps (s ∷ []) lines n line past built (rises-one s)

runs-built : (steps : List Step) (lines : List ℕ) (n line thread : ℕ) (run : Option Span) → n ≤ line → IsBuilt steps lines n
    → IsBuilt (steps ++ map (reuse_of thread) (run_parts run)) (lines ++ map (λ part. line) (run_parts run)) (suc line)
runs-built steps lines n line thread run past built =
    subst (λ more. IsBuilt (steps ++ map (reuse_of thread) (run_parts run)) (lines ++ more) (suc line)) (lines-map thread line (run_parts run))
    (built-next steps (map (reuse_of thread) (run_parts run)) lines n line past built (runs-rise run thread))

operation-built : (line thread : ℕ) (op : Operation) (r : Recording) (n : ℕ) → n ≤ line → IsBuilt r.steps r.lines n
    → let t = with_operation line thread op r in IsBuilt t.steps t.lines (suc line)
operation-built line thread (Acquires lock m) r n past built = one-built r.steps r.lines n line _ past built
operation-built line thread (Releases lock m) r n past built = one-built r.steps r.lines n line _ past built
operation-built line thread (Accesses k w None) r n past built = one-built r.steps r.lines n line _ past built
operation-built line thread (Accesses k w (Some site)) r n past built = one-built r.steps r.lines n line _ past built
operation-built line thread (Reuses run None) r n past built = runs-built r.steps r.lines n line thread run past built
operation-built line thread (Reuses run (Some site)) r n past built = runs-built r.steps r.lines n line thread run past built
operation-built line thread IgnoresOn r n past built = one-built r.steps r.lines n line _ past built
operation-built line thread IgnoresOff r n past built = one-built r.steps r.lines n line _ past built
operation-built line thread (Shows w) r n past built = one-built r.steps r.lines n line _ past built
operation-built line thread (Levels m) r n past built = one-built r.steps r.lines n line _ past built
operation-built line thread (Starts other) r n past built = one-built r.steps r.lines n line _ past built
operation-built line thread (Joins other) r n past built = one-built r.steps r.lines n line _ past built
operation-built line thread (Signals object) r n past built = one-built r.steps r.lines n line _ past built
operation-built line thread (Awaits object) r n past built = one-built r.steps r.lines n line _ past built

-- lines of the text with rising numbers, from this one on
RisesFrom : ℕ → List Placed → Type 0
RisesFrom n [] = Unit {0}
RisesFrom n (p ∷ ps) = (n ≤ p.number) × RisesFrom (suc p.number) ps

from-lower : (m n : ℕ) (ps : List Placed) → m ≤ n → RisesFrom n ps → RisesFrom m ps
unfolding RisesFrom
from-lower m n [] low rises = tt
from-lower m n (p ∷ ps) low rises = ((let above = rises.0 in omega (arith, low, above)), rises.1)

placed-rise : (number start : ℕ) (lines : List Line) → RisesFrom number (placed_from number start lines)
unfolding RisesFrom
placed-rise number start [] = tt
placed-rise number start (line ∷ lines) =
    let next : suc number ≤ number + 1 = omega arith in (
      omega arith,
      from-lower (suc number) (number + 1) (placed_from (number + 1) (start + width line) lines) next
          (placed-rise (number + 1) (start + width line) lines),
    )

filter-rise : (test : Placed → Bool) (n : ℕ) (ps : List Placed) → RisesFrom n ps → RisesFrom n (filter test ps)
unfolding RisesFrom
filter-rise test n [] rises = tt
filter-rise test n (p ∷ ps) rises = by (test p) rises.0 (filter-rise test (suc p.number) ps rises.1)
  where
    by : (b : Bool) → n ≤ p.number → RisesFrom (suc p.number) (filter test ps) → RisesFrom n (cond b (p ∷ filter test ps) (filter test ps))
    by true above rest = (above, rest)
    by false above rest = from-lower n (suc p.number) (filter test ps) (omega (arith, above)) rest

front-rises : (n : ℕ) (xs ys : List Placed) → RisesFrom n (xs ++ ys) → RisesFrom n xs
unfolding RisesFrom
front-rises n [] ys rises = tt
front-rises n (p ∷ xs) ys rises = (rises.0, front-rises (suc p.number) xs ys rises.1)

second-rises : (n : ℕ) (p : Placed) (ps : List Placed) → RisesFrom n (p ∷ ps) → RisesFrom (suc p.number) ps
unfolding RisesFrom
second-rises n p ps rises = rises.1

lines-ordered : (events : List Placed) (said : List EventLine) (r : Recording) (n : ℕ) → RisesFrom n events → IsBuilt r.steps r.lines n
    → IsOrdered (with_lines events said r)
unfolding RisesFrom
lines-ordered [] said r n rises built = built.ordered
lines-ordered (p ∷ events) [] r n rises built = built.ordered
lines-ordered (p ∷ events) (s ∷ said) r n rises built =
    lines-ordered events said (with_line p.number s r) (suc p.number) rises.1
    (operation-built p.number _ s.operation (with_thread_name r s.thread) n rises.0 built)

nothing-built : IsBuilt [] [] 0
nothing-built = record { long = refl; ordered = λ j k a b before is also. cc; below = λ k s is. cc }

pub trace-ordered : (text : List ℕ) (limit : ℕ) (r : Recording) → IsTrace text limit r → IsOrdered r
trace-ordered text limit r trace =
    let all = filter-rise has_content 1 (placed text) (placed-rise 1 0 (lines_of text)) in
    let content : RisesFrom 1 (trace.header ∷ trace.events ++ trace.closing) = subst (RisesFrom 1) trace.content all in
    let events = front-rises (suc trace.header.number) trace.events trace.closing (second-rises 1 trace.header (trace.events ++ trace.closing) content) in
    subst IsOrdered (sym trace.told)
    (lines-ordered trace.events trace.event_lines no_steps 0 (from-lower 0 (suc trace.header.number) trace.events (omega arith) events) nothing-built)
