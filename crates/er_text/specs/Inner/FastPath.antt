-- What is known of an event line in its usual form. No public clause cites this module.
use Rattle.std.specs.Prelude.{◌≡◌, ℕ, ◌+◌, ◌*◌, ◌/◌, ◌^◌, ◌<◌, ◌≤◌, Bool, true, false, List, [], ◌∷◌, ◌++◌, Option, Some, None, Result, Ok, Err, length, take, drop, codes, if◌then◌else◌}
use Rattle.std.specs.List.{list_all}
use Rattle.std.specs.Char.{is_digit}
use Rattle.std.specs.Str.Parse.{digits_value}
use Rattle.er_event.specs.Span.{Span}
use Rattle.er_event.specs.declared.steps.Event.{Event}
use Rattle.er_event.specs.declared.steps.Kind.{Kind}
use Rattle.er_event.specs.declared.steps.Mode.{Mode}
use Rattle.er_text.specs.declared.fast_path.Rare.{Rare}
use Rattle.er_text.specs.declared.fast_path.Rare.TheVariants as rare
use Rattle.er_text.specs.declared.verbs.Version.{Version}
use Rattle.er_text.specs.declared.stages.Stage.{Stage}
use Rattle.er_lines.specs.Lines.{words, word_at, has_bytes, is_ascii, is_comment}
use Rattle.er_lines.specs.Number.{number_of}
use Rattle.er_lines.specs.Naming.{is_name, is_lock_name}
use Rattle.er_lines.specs.Words.{number_in}
use Rattle.er_trace.specs.Trace.{Recording, HasNames, with_lock_name, with_step}
use Rattle.er_trace.specs.Names.{NameTable, is_known, number_of as place_of}
use Rattle.er_text.specs.Events.{Operation, Acquires, Releases, Accesses, Reuses, EventLine, site_number, with_site_of, with_operation, with_line}
use Rattle.er_text.specs.Trace.{IsSite, IsOperation, Says, acquire_word, release_word}
use Rattle.er_text.specs.Inner.Idle.{other_thread, last_actor}
use Rattle.er_text.specs.Inner.Parsing.{level_in, run_in}
use Rattle.er_text.specs.Inner.Traces.{at_line, plain_at}

-- the line ends with these bytes
abbrev pub EndsIn : List ℕ → List ℕ → Type 0
EndsIn whole bytes = (front : List ℕ) × (whole ≡ front ++ bytes)

-- a name, one space, and the rest
abbrev pub IsLeadingName : List ℕ → List ℕ → List ℕ → Type 0
IsLeadingName bytes name rest = (bytes ≡ name ++ 32 ∷ rest) × (is_name name ≡ true)

-- the same, of a thread that has this number
pub record IsLeadingThread (names : List (List ℕ)) (bytes : List ℕ) (thread : ℕ) (rest : List ℕ) : Type 0 where
  pub name : List ℕ
  pub front : IsLeadingName bytes name rest
  pub known : is_known names name ≡ true
  pub is : thread ≡ place_of names name

-- so many hexadecimal digits, as far as they were read
pub record HexSoFar (bytes : List ℕ) (value i : ℕ) : Type 0 where
  pub digits : list_all (λ digit. is_digit digit 16) (take i bytes) ≡ true
  pub value_is : digits_value 16 (take i bytes) ≡ value
  pub small : value < 2 ^ (4 * i)

-- the same, of at most 12 digits
pub record AreLeadingDigits (bytes : List ℕ) (value len : ℕ) : Type 0 where
  pub most : len ≤ 12
  pub within : len ≤ length bytes
  pub digits : list_all (λ digit. is_digit digit 16) (take len bytes) ≡ true
  pub value_is : digits_value 16 (take len bytes) ≡ value
  pub small : value < 2 ^ 48

-- `0x`, at most 12 hexadecimal digits, of which there is one, and the rest
pub record IsLeadingAddress (bytes : List ℕ) (value : ℕ) (rest : List ℕ) : Type 0 where
  pub digits : List ℕ
  pub len : ℕ
  pub is : bytes ≡ codes "0x" ++ digits
  pub front : AreLeadingDigits digits value len
  pub some : len ≡ 0 → ⊥
  pub behind : drop len digits ≡ rest

-- behind the verb of an access, in a text of this version
pub record IsFastAccess (v : Version) (k : Kind) (bytes : List ℕ) (operation : Operation) : Type 0 where
  pub ascii : list_all is_ascii bytes ≡ true
  pub address : List ℕ
  pub n : ℕ
  pub behind : List (List ℕ)
  pub site : Option (List ℕ)
  pub words_are : words bytes ≡ address ∷ behind
  pub number : number_of address ≡ Some n
  pub small : n < 2 ^ 48
  pub names : IsSite v behind site
  pub is : operation ≡ Accesses k (n / 4) site

-- the verb of an acquire in this mode, or of a release
abbrev pub lock_word : Bool → Mode → List ℕ
lock_word true m = acquire_word m
lock_word false m = release_word m

-- behind such a verb
abbrev pub IsFastLockEvent : Bool → Mode → List ℕ → Operation → Type 0
IsFastLockEvent acquires m bytes operation = (is_lock_name bytes ≡ true) × (operation ≡ (if acquires then Acquires bytes m else Releases bytes m))

-- how a rare verb is spelled
abbrev pub rare_word : Rare → List ℕ
rare_word rare.Show = codes "show"
rare_word rare.Reuse = codes "reuse"
rare_word rare.Level = codes "level"

-- behind the verb of a reuse: an address and a size, and not of nothing
pub record IsFastReuse (bytes : List ℕ) (operation : Operation) : Type 0 where
  pub size : List ℕ
  pub range : Span
  pub a : ℕ
  pub n : ℕ
  pub front : IsLeadingAddress bytes a (32 ∷ size)
  pub named : is_name size ≡ true
  pub number : number_in size ≡ Ok n
  pub run : run_in a n ≡ Ok (Some range)
  pub is : operation ≡ Reuses (Some range) None

-- behind a thread
pub record IsFastOperation (v : Version) (bytes : List ℕ) (operation : Operation) : Type 0 where
  pub ascii : list_all is_ascii bytes ≡ true
  pub says : (thread : List ℕ) → IsOperation v (thread ∷ words bytes) thread operation
  pub alone : other_thread operation ≡ None
  pub one : (line thread : ℕ) (r : Recording) → last_actor (with_operation line thread operation r).steps ≡ Some thread

-- behind the verb of a level: a word that writes it
pub record IsFastLevel (word : List ℕ) (level : ℕ) : Type 0 where
  pub count : ℕ
  pub named : is_name word ≡ true
  pub number : number_in word ≡ Ok count
  pub most : level_in count ≡ Ok level

-- behind a thread, and adds this event alone
pub record IsFastAlone (v : Version) (bytes : List ℕ) (event : Event) : Type 0 where
  pub operation : Operation
  pub fast : IsFastOperation v bytes operation
  pub adds : (line thread : ℕ) (r : Recording) → with_operation line thread operation r ≡ with_step r (record { thread = thread; event = event }) line 0
  pub named : (names : NameTable) → HasNames names event

-- a whole line
pub record IsFastLine (v : Version) (line : List ℕ) (s : EventLine) : Type 0 where
  pub ascii : list_all is_ascii line ≡ true
  pub some : has_bytes (word_at 0 (words line)) ≡ true
  pub no_comment : is_comment line ≡ false
  pub says : Says v (words line) s
  pub alone : other_thread s.operation ≡ None
  pub one : (number : ℕ) (r : Recording) → last_actor (with_line number s r).steps ≡ Some (place_of r.names.threads s.thread)

-- nothing behind an address, or one space and a word that names a site or is `-`
pub data IsSiteBehind (v : Version) (rest : List ℕ) (s : Option (List ℕ)) : Type 0 where
  Nothing : rest ≡ [] → s ≡ None → IsSiteBehind v rest s
  Named : (site : List ℕ) → rest ≡ 32 ∷ site → IsSite v (site ∷ []) s → IsSiteBehind v rest s

-- the site behind an address was numbered, or there was no site, or memory ran out
abbrev pub NumbersSite : {E : Type 0} → Version → List ℕ → Recording → Recording → Result (Option ℕ) E → Type 0
NumbersSite v rest old new (Ok (Some site)) = (s : Option (List ℕ)) × IsSiteBehind v rest s × (site ≡ site_number old s) × (new ≡ with_site_of old s)
NumbersSite v rest old new (Ok None) = new ≡ old
NumbersSite v rest old new (Err e) = Unit {0}

-- the same of a lock
abbrev pub NumbersLock : {E : Type 0} → List ℕ → Recording → Recording → Result (Option ℕ) E → Type 0
NumbersLock word old new (Ok (Some lock)) = (is_lock_name word ≡ true) × (lock ≡ place_of old.names.locks word) × (new ≡ with_lock_name old word)
NumbersLock word old new (Ok None) = new ≡ old
NumbersLock word old new (Err e) = Unit {0}

-- an operation of this kind was added to those of a thread, or nothing was, or memory ran out
abbrev pub AddsOperation : {E : Type 0} → (Operation → Type 0) → ℕ → ℕ → Recording → Recording → Result Bool E → Type 0
AddsOperation Is line thread old new (Ok true) = (operation : Operation) × Is operation × (new ≡ with_operation line thread operation old)
AddsOperation Is line thread old new (Ok false) = new ≡ old
AddsOperation Is line thread old new (Err e) = Unit {0}

-- the same of a line with its thread
abbrev pub AddsLine : {E : Type 0} → (EventLine → Type 0) → ℕ → Recording → Recording → Result Bool E → Type 0
AddsLine Is line old new (Ok true) = (s : EventLine) × Is s × (new ≡ with_line line s old)
AddsLine Is line old new (Ok false) = new ≡ old
AddsLine Is line old new (Err e) = Unit {0}

-- a line behind the header was read, or nothing was, or memory ran out; the threads are idle that the lists say, before and behind it
abbrev pub ReadsUsual : {E : Type 0} → ℕ → Stage → List ℕ → List Bool → List Bool → Recording → Recording → Result Bool E → Type 0
ReadsUsual line stage bytes idle after old new (Ok true) = plain_at (at_line line stage idle old) line bytes ≡ Ok (at_line (line + 1) stage after new)
ReadsUsual line stage bytes idle after old new (Ok false) = (after ≡ idle) × (new ≡ old)
ReadsUsual line stage bytes idle after old new (Err e) = Unit {0}
