-- What an event line says, and the steps that it adds to a trace.
use Rattle.std.specs.Prelude.{ℕ, ◌+◌, ◌==◌, List, [], map, Option, Some, None, if◌then◌else◌}
use Rattle.er_trace.specs.Names.{number_of}
use Rattle.er_event.specs.Span.{Span, span_of_bytes, parts_of}
use Rattle.er_trace.specs.Trace.{Recording, with_step, with_steps, with_thread_name, with_lock_name, with_site_name}
use Rattle.er_event.specs.declared.addresses.PageRange.{PageRange}
use Rattle.er_event.specs.declared.steps.Event.TheVariants as event
use Rattle.er_event.specs.declared.steps.Kind.{Kind}
use Rattle.er_event.specs.declared.steps.Mode.{Mode}
use Rattle.er_event.specs.declared.steps.Sync.TheVariants as order

-- what a thread does: the lock and its mode, the word and its site if there is one, the words put to a new use and the site of that if there
-- is one, the level, the other thread, the object
pub data Operation : Type 0 where
  Acquires : List ℕ → Mode → Operation
  Releases : List ℕ → Mode → Operation
  Accesses : Kind → ℕ → Option (List ℕ) → Operation
  Reuses : Option Span → Option (List ℕ) → Operation
  IgnoresOn : Operation
  IgnoresOff : Operation
  Shows : ℕ → Operation
  Levels : ℕ → Operation
  Starts : List ℕ → Operation
  Joins : List ℕ → Operation
  Signals : List ℕ → Operation
  Awaits : List ℕ → Operation

-- which thread does what
pub record EventLine : Type 0 where
  pub thread : List ℕ
  pub operation : Operation

-- the words that some bytes touch, if there is a byte
abbrev pub run_of : ℕ → ℕ → Option Span
run_of address size = if size == 0 then None else Some (span_of_bytes address size)

-- the words of a run, page by page
abbrev pub run_parts : Option Span → List PageRange
run_parts None = []
run_parts (Some span) = parts_of span

-- one step for each of these parts, by rising page, all of one line and one site
abbrev pub with_reuses : Recording → ℕ → ℕ → ℕ → List PageRange → Recording
with_reuses r line thread site parts =
    with_steps r (map (λ part. record { thread = thread; event = event.Reuse part }) parts) (map (λ part. line) parts) (map (λ part. site) parts)

-- sites are numbered from 1, and the missing site is 0
abbrev pub site_number : Recording → Option (List ℕ) → ℕ
site_number r None = 0
site_number r (Some site) = number_of r.names.sites site + 1

abbrev pub with_site_of : Recording → Option (List ℕ) → Recording
with_site_of r None = r
with_site_of r (Some site) = with_site_name r site

-- what the thread of this number does, on a line of that number
abbrev pub with_operation : ℕ → ℕ → Operation → Recording → Recording
with_operation line thread (Acquires lock m) r = with_step (with_lock_name r lock) (record { thread = thread; event = event.Acquire (number_of r.names.locks lock) m }) line 0
with_operation line thread (Releases lock m) r = with_step (with_lock_name r lock) (record { thread = thread; event = event.Release (number_of r.names.locks lock) m }) line 0
with_operation line thread (Accesses k w site) r = with_step (with_site_of r site) (record { thread = thread; event = event.Access k w (site_number r site) }) line (site_number r site)
with_operation line thread (Reuses run site) r = with_reuses (with_site_of r site) line thread (site_number r site) (run_parts run)
with_operation line thread IgnoresOn r = with_step r (record { thread = thread; event = event.IgnoreOn }) line 0
with_operation line thread IgnoresOff r = with_step r (record { thread = thread; event = event.IgnoreOff }) line 0
with_operation line thread (Shows w) r = with_step r (record { thread = thread; event = event.Show w }) line 0
with_operation line thread (Levels n) r = with_step r (record { thread = thread; event = event.Level n }) line 0
with_operation line thread (Starts other) r = with_step (with_thread_name r other) (record { thread = thread; event = event.Sync (order.Start (number_of r.names.threads other)) }) line 0
with_operation line thread (Joins other) r = with_step (with_thread_name r other) (record { thread = thread; event = event.Sync (order.Join (number_of r.names.threads other)) }) line 0
with_operation line thread (Signals object) r = with_step (with_lock_name r object) (record { thread = thread; event = event.Sync (order.Signal (number_of r.names.locks object)) }) line 0
with_operation line thread (Awaits object) r = with_step (with_lock_name r object) (record { thread = thread; event = event.Sync (order.Await (number_of r.names.locks object)) }) line 0

-- the recording after one more event line; its thread is numbered first
abbrev pub with_line : ℕ → EventLine → Recording → Recording
with_line line s r = with_operation line (number_of r.names.threads s.thread) s.operation (with_thread_name r s.thread)
