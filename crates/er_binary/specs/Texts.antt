-- The text of a record.
use Rattle.std.specs.Prelude.{ℕ, zero, suc, ◌+◌, ◌-◌, ◌*◌, ◌/◌, ◌==◌, List, [], ◌∷◌, ◌++◌, unwrap_or, codes, decimal, if◌then◌else◌}
use Rattle.er_binary.specs.Nodes.{node_at}
use Rattle.er_binary.specs.Numbers.{number, address_word, name_at}
use Rattle.er_binary.specs.States.{address_of, node_of}
use Rattle.er_binary.specs.declared.records.Access.{Access}
use Rattle.er_binary.specs.declared.records.Kind.{Kind}
use Rattle.er_binary.specs.declared.records.Kind.TheVariants as kind
use Rattle.er_binary.specs.declared.state.State.{State}

-- a space and a word
abbrev pub word : List ℕ → List ℕ
word bytes = 32 ∷ bytes

-- the end of a line
abbrev pub feed : List ℕ
feed = 10 ∷ []

-- the thread and the verb
abbrev pub thread_does : State → List ℕ → List ℕ
thread_does s verb = name_at s.threads (unwrap_or s.thread 0) ++ word verb

-- the site of a node, if there is one
abbrev pub site : State → ℕ → List ℕ
site s node = if node == 0 then [] else word (name_at s.places (node_at s.nodes (node_at s.nodes node).shown).place)

-- the verb of an access
abbrev pub access_verb : Access → List ℕ
access_verb a = if a.writes then codes "write" else codes "read"

-- a line for each word of 4 bytes, from one on
unfoldable pub access_lines : State → List ℕ → ℕ → ℕ → ℕ → List ℕ
access_lines s verb node first zero = []
access_lines s verb node first (suc count) = (thread_does s verb ++ address_word (4 * first) ++ site s node ++ feed) ++ access_lines s verb node (first + 1) count

-- how many words an access touches
abbrev pub words_of : ℕ → ℕ → ℕ
words_of address size = (address + size - 1) / 4 + 1 - address / 4

-- an access
abbrev pub access_text : State → Access → List ℕ
access_text s a = access_lines s (access_verb a) (node_of s a) (address_of s a / 4) (words_of (address_of s a) a.size)

-- the verb of another event; other records have none
abbrev pub verb : Kind → List ℕ
verb kind.Lock = codes "lock"
verb kind.Unlock = codes "unlock"
verb kind.ReadLock = codes "rlock"
verb kind.ReadUnlock = codes "runlock"
verb kind.Signal = codes "signal"
verb kind.Await = codes "await"
verb kind.Start = codes "start"
verb kind.Join = codes "join"
verb kind.IgnoreOn = codes "ignore-on"
verb kind.IgnoreOff = codes "ignore-off"
verb kind.Reuse = codes "reuse"
verb kind.Show = codes "show"
verb kind.Level = codes "level"
verb k = []

-- the words behind the verb
abbrev pub operand : State → Kind → ℕ → List ℕ → List ℕ
operand s kind.Start n body = word (name_at s.threads n)
operand s kind.Join n body = word (name_at s.threads n)
operand s kind.IgnoreOn n body = []
operand s kind.IgnoreOff n body = []
operand s kind.Reuse n body = address_word (number body) ++ word (decimal n) ++ site s s.node
operand s kind.Show n body = address_word n
operand s kind.Level n body = word (decimal n)
operand s k n body = word (name_at s.locks n)

-- a line that says how many events are missing
abbrev pub lost_line : ℕ → ℕ → List ℕ
lost_line events lost = codes "# incomplete: " ++ (decimal events ++ codes " events, ") ++ (decimal lost ++ codes " lost\n")

-- that line, if any are
abbrev pub lost_text : State → ℕ → List ℕ
lost_text s n = if s.lost == 0 then [] else lost_line n s.lost

-- another record
abbrev pub text_of : State → Kind → ℕ → List ℕ → List ℕ
text_of s kind.Thread n body = []
text_of s kind.Node n body = []
text_of s kind.FailedTry n body = []
text_of s kind.Flow n body = []
text_of s kind.ThreadName n body = []
text_of s kind.LockName n body = []
text_of s kind.Place n body = []
text_of s kind.NewNode n body = []
text_of s kind.Fact n body = []
text_of s kind.Lost n body = []
text_of s kind.Note n body = codes "# " ++ body ++ feed
text_of s kind.End n body = lost_text s n ++ codes "end\n"
text_of s k n body = thread_does s (verb k) ++ operand s k n body ++ feed
