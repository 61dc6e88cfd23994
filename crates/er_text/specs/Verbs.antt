-- The words that headers and events are spelled with.
use Rattle.std.specs.Prelude.{ℕ, ◌&&◌, not, Bool, true, false, List, Option, Some, None, codes, if◌then◌else◌}
use Rattle.std.specs.Str.{bytes_eq}
use Rattle.er_lines.specs.Lines.{has_bytes}
use Rattle.er_text.specs.declared.verbs.Verb.{Verb}
use Rattle.er_text.specs.declared.verbs.Verb.TheVariants.{Lock, Unlock, ReadLock, ReadUnlock, Read, Write, Reuse, IgnoreOn, IgnoreOff, Show, Level, Start, Join, Signal, Await}
use Rattle.er_text.specs.declared.verbs.Version.{Version}
use Rattle.er_text.specs.declared.verbs.Version.TheVariants.{One, Two, Three}

-- how a version is spelled
abbrev pub version_word : Version → List ℕ
version_word One = codes "1"
version_word Two = codes "2"
version_word Three = codes "3"

abbrev pub header_version : List ℕ → Option Version
header_version word =
    if bytes_eq word (codes "1") then Some One else if bytes_eq word (codes "2") then Some Two else if bytes_eq word (codes "3") then Some Three else None

-- the version that the first four words of a line tell, of which those that are missing are empty
abbrev pub version_of : List ℕ → List ℕ → List ℕ → List ℕ → Option Version
version_of first second third fourth =
    if bytes_eq first (codes "eraser") && bytes_eq second (codes "trace") && not (has_bytes fourth) then header_version third else None

-- `level` came with the second version
abbrev pub has_levels : Version → Bool
has_levels One = false
has_levels Two = true
has_levels Three = true

-- `start`, `join`, `signal`, `await` and `end` came with the third
abbrev pub is_third : Version → Bool
is_third One = false
is_third Two = false
is_third Three = true

abbrev pub order_verb_of : Version → List ℕ → Option Verb
order_verb_of version word =
    if not (is_third version) then None
    else if bytes_eq word (codes "start") then Some Start
    else if bytes_eq word (codes "join") then Some Join
    else if bytes_eq word (codes "signal") then Some Signal
    else if bytes_eq word (codes "await") then Some Await
    else None

abbrev pub rarer_verb_of : Version → List ℕ → Option Verb
rarer_verb_of version word =
    if bytes_eq word (codes "reuse") then Some Reuse
    else if bytes_eq word (codes "ignore-on") then Some IgnoreOn
    else if bytes_eq word (codes "ignore-off") then Some IgnoreOff
    else if bytes_eq word (codes "show") then Some Show
    else if bytes_eq word (codes "level") then (if has_levels version then Some Level else None)
    else order_verb_of version word

-- the verb that a word is
abbrev pub verb_of : Version → List ℕ → Option Verb
verb_of version word =
    if bytes_eq word (codes "read") then Some Read
    else if bytes_eq word (codes "write") then Some Write
    else if bytes_eq word (codes "lock") then Some Lock
    else if bytes_eq word (codes "unlock") then Some Unlock
    else if bytes_eq word (codes "rlock") then Some ReadLock
    else if bytes_eq word (codes "runlock") then Some ReadUnlock
    else rarer_verb_of version word

-- how many operands a verb needs
abbrev pub least_of : Verb → ℕ
least_of Lock = 1
least_of Unlock = 1
least_of ReadLock = 1
least_of ReadUnlock = 1
least_of Read = 1
least_of Write = 1
least_of Reuse = 2
least_of IgnoreOn = 0
least_of IgnoreOff = 0
least_of Show = 1
least_of Level = 1
least_of Start = 1
least_of Join = 1
least_of Signal = 1
least_of Await = 1

-- how many operands a verb allows in a text of this version
abbrev pub most_of : Version → Verb → ℕ
most_of version Lock = 1
most_of version Unlock = 1
most_of version ReadLock = 1
most_of version ReadUnlock = 1
most_of version Read = 2
most_of version Write = 2
most_of version Reuse = if is_third version then 3 else 2
most_of version IgnoreOn = 0
most_of version IgnoreOff = 0
most_of version Show = 1
most_of version Level = 1
most_of version Start = 1
most_of version Join = 1
most_of version Signal = 1
most_of version Await = 1
