-- Lines of a trace that were never made as text.
use Rattle.std.specs.Prelude.{◌≡◌, ℕ, zero, suc, ◌+◌, ◌*◌, ◌<◌, ◌≤◌, ◌%◌, ◌^◌, ◌==◌, ◌||◌, ◌&&◌, Bool, not, List, [], ◌∷◌, ◌++◌, Option, Some, None, IfSome, nat_lt, codes, length, true, if◌then◌else◌}
use Rattle.std.specs.Io.KnownBytes.{Consumes, Keeps}
use Rattle.std.specs.Str.{bytes_eq}
use Rattle.er_lines.specs.Lines.{has_bytes}
use Rattle.er_lines.specs.Naming.{is_name, is_lock_name, is_site_name}
use Rattle.er_lines.specs.Number.{hex_digits}
use Rattle.er_lines.specs.declared.ready.NameKind.{NameKind}
use Rattle.er_lines.specs.declared.ready.NameKind.TheVariants as names
use Rattle.er_lines.specs.declared.ready.ReadyLine.{ReadyLine}
use Rattle.er_lines.specs.declared.ready.ReadyVerb.{ReadyVerb}
use Rattle.er_lines.specs.declared.ready.ReadyVerb.TheVariants as does

abbrev pub verb_text : ReadyVerb → List ℕ
verb_text does.Read = codes "read"
verb_text does.Write = codes "write"
verb_text does.Lock = codes "lock"
verb_text does.Unlock = codes "unlock"
verb_text does.ReadLock = codes "rlock"
verb_text does.ReadUnlock = codes "runlock"

-- a space and a name, if there is one
abbrev pub name_word : List ℕ → List ℕ
name_word name = if has_bytes name then 32 ∷ name else []

-- the words behind the verb: an address and maybe a site, or a lock
abbrev pub operands_text : ReadyVerb → ℕ → List ℕ → List ℕ
operands_text does.Read address site = (codes " 0x" ++ hex_digits 12 address) ++ name_word site
operands_text does.Write address site = (codes " 0x" ++ hex_digits 12 address) ++ name_word site
operands_text v address lock = 32 ∷ lock

-- a line: its verb, its address, its thread, and its site or lock
unfoldable pub ready_text : ReadyVerb → ℕ → List ℕ → List ℕ → List ℕ
ready_text v address thread name = (thread ++ 32 ∷ verb_text v) ++ operands_text v address name ++ 10 ∷ []

-- no site, or one that isn't the word for none
abbrev pub is_maybe_site : List ℕ → Bool
is_maybe_site site = not (has_bytes site) || (not (bytes_eq site (codes "-")) && is_site_name site)

-- an address of a word below 2^48 and maybe a site, or a lock
abbrev pub are_operands : ReadyVerb → ℕ → List ℕ → Bool
are_operands does.Read address site = (address % 4 == 0) && nat_lt address (2 ^ 48) && is_maybe_site site
are_operands does.Write address site = (address % 4 == 0) && nat_lt address (2 ^ 48) && is_maybe_site site
are_operands v address lock = is_lock_name lock

-- a line that the text of a trace may have
unfoldable pub is_ready : ReadyVerb → ℕ → List ℕ → List ℕ → Bool
is_ready v address thread name = is_name thread && are_operands v address name

-- what stands behind a verb: a site, or a lock
abbrev pub kind_behind : ReadyVerb → NameKind
kind_behind does.Read = names.Site
kind_behind does.Write = names.Site
kind_behind v = names.Lock

-- the name of a line's thread, by those of all numbers
abbrev pub thread_name : (NameKind → ℕ → List ℕ) → ReadyLine → List ℕ
thread_name of line = of names.Thread line.thread

-- the name of a number, if there is one
abbrev pub name_by : (ℕ → List ℕ) → Option ℕ → List ℕ
name_by of None = []
name_by of (Some n) = of n

-- and that of its site or lock
abbrev pub operand_name : (NameKind → ℕ → List ℕ) → ReadyLine → List ℕ
operand_name of line = name_by (of (kind_behind line.verb)) line.name

-- the lines of so many words, each the one behind that of the line before
unfoldable pub words_text : ReadyVerb → ℕ → List ℕ → List ℕ → ℕ → List ℕ
words_text v address thread name zero = []
words_text v address thread name (suc n) = ready_text v address thread name ++ words_text v (address + 4) thread name n

-- its text
abbrev pub line_text : (NameKind → ℕ → List ℕ) → ReadyLine → List ℕ
line_text of line = words_text line.verb line.address (thread_name of line) (operand_name of line) line.count

-- each of its lines is well formed and has that width, and its number has a name
pub record IsRight (of : NameKind → ℕ → List ℕ) (line : ReadyLine) : Type 0 where
  pub some : 1 ≤ line.count
  pub few : line.count ≤ 5
  pub alone : kind_behind line.verb ≡ names.Lock → line.count ≡ 1
  pub form : (i : ℕ) → i < line.count → is_ready line.verb (line.address + 4 * i) (thread_name of line) (operand_name of line) ≡ true
  pub width : line.width ≡ length (ready_text line.verb line.address (thread_name of line) (operand_name of line))
  pub named : IfSome line.name (λ n. has_bytes (of (kind_behind line.verb) n) ≡ true)

-- a number that had a name has it still
abbrev pub KeepsNames : (NameKind → ℕ → List ℕ) → (NameKind → ℕ → List ℕ) → Type 0
KeepsNames old new = (kind : NameKind) (n : ℕ) → has_bytes (old kind n) ≡ true → new kind n ≡ old kind n

-- what is left when lines were taken, by their text: what is behind it. None changes nothing
abbrev pub HasTaken : Option (List ℕ) → Option (List ℕ) → (ReadyLine → List ℕ) → Option ReadyLine → Type 0
HasTaken old new text None = Keeps old new
HasTaken old new text (Some line) = Consumes old new (text line)
