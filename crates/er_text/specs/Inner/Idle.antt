-- Threads that are named in lines before and don't act there, by number. The grammar speaks of those that act, in `Trace`.
use Rattle.std.specs.Prelude.{ℕ, zero, suc, ◌&&◌, Bool, true, false, not, List, [], ◌∷◌, Option, Some, None, if◌then◌else◌}
use Rattle.std.specs.Str.{bytes_eq}
use Rattle.er_trace.specs.Names.{is_known, number_of}
use Rattle.er_event.specs.declared.steps.Step.{Step}
use Rattle.er_lines.specs.declared.faults.TextKind.{TextKind}
use Rattle.er_lines.specs.declared.faults.TextKind.TheVariants.{OwnThread, AlreadyRunning}
use Rattle.er_text.specs.Events.{EventLine, Operation, Starts, Joins}

abbrev pub is_idle : List Bool → ℕ → Bool
is_idle [] n = false
is_idle (b ∷ bs) zero = b
is_idle (b ∷ bs) (suc n) = is_idle bs n

abbrev pub without_idle : List Bool → ℕ → List Bool
without_idle [] n = []
without_idle (b ∷ bs) zero = false ∷ bs
without_idle (b ∷ bs) (suc n) = b ∷ without_idle bs n

abbrev pub with_idle : List Bool → ℕ → List Bool
with_idle [] zero = true ∷ []
with_idle [] (suc n) = false ∷ with_idle [] n
with_idle (b ∷ bs) zero = true ∷ bs
with_idle (b ∷ bs) (suc n) = b ∷ with_idle bs n

-- the thread of the last step
abbrev pub last_actor : List Step → Option ℕ
last_actor [] = None
last_actor (s ∷ []) = Some s.thread
last_actor (s ∷ t ∷ ss) = last_actor (t ∷ ss)

-- of the threads with these names, the one of this name has acted
abbrev pub has_run : List (List ℕ) → List Bool → List ℕ → Bool
has_run threads idle name = is_known threads name && not (is_idle idle (number_of threads name))

-- the thread that a start or a join names
abbrev pub other_thread : Operation → Option (List ℕ)
other_thread (Starts other) = Some other
other_thread (Joins other) = Some other
other_thread _ = None

abbrev pub operation_fault : List (List ℕ) → List Bool → List ℕ → Operation → Option TextKind
operation_fault threads idle thread (Starts other) =
    if bytes_eq other thread then Some OwnThread else if has_run threads idle other then Some AlreadyRunning else None
operation_fault threads idle thread (Joins other) = if bytes_eq other thread then Some OwnThread else None
operation_fault threads idle thread _ = None

-- what is wrong with an event line, by the lines before it
abbrev pub order_fault : List (List ℕ) → List Bool → EventLine → Option TextKind
order_fault threads idle s = operation_fault threads idle s.thread s.operation

-- the thread that is named here, if there is one, is idle if it was not known
abbrev pub waits_for : Bool → List (List ℕ) → Option (List ℕ) → List Bool → List Bool
waits_for known threads None idle = idle
waits_for known threads (Some name) idle = if known then idle else with_idle idle (number_of threads name)

-- whether the thread was known that is named here, if there is one
abbrev pub is_known_name : List (List ℕ) → Option (List ℕ) → Bool
is_known_name threads None = true
is_known_name threads (Some name) = is_known threads name

-- once this event line is past, whose threads have the first names before and the second behind
abbrev pub idle_past : List (List ℕ) → List (List ℕ) → EventLine → List Bool → List Bool
idle_past old new s idle =
    waits_for (is_known_name old (other_thread s.operation)) new (other_thread s.operation) (without_idle idle (number_of old s.thread))
