-- What is known behind the records so far, which record may come next, and what it changes.
use Rattle.std.specs.Prelude.{ℕ, ◌+◌, ◌%◌, ◌^◌, ◌==◌, ◌||◌, ◌&&◌, not, Bool, true, false, List, [], ◌∷◌, ◌++◌, Some, None, is_some, unwrap_or, length, nat_le, nat_lt, replicate, slice_index, slice_set, codes, if◌then◌else◌}
use Rattle.std.specs.List.{list_all}
use Rattle.std.specs.Str.{bytes_eq}
use Rattle.er_lines.specs.Naming.{is_name, is_lock_name, is_site_name}
use Rattle.er_lines.specs.declared.ready.NameKind.{NameKind}
use Rattle.er_lines.specs.declared.ready.NameKind.TheVariants as names
use Rattle.er_binary.specs.Nodes.{node_at}
use Rattle.er_binary.specs.Numbers.{name_at, number_in, plus}
use Rattle.er_binary.specs.Records.{is_event}
use Rattle.er_binary.specs.declared.nodes.Node.{Node}
use Rattle.er_binary.specs.declared.records.Access.{Access}
use Rattle.er_binary.specs.declared.records.Kind.{Kind}
use Rattle.er_binary.specs.declared.records.Kind.TheVariants as kind
use Rattle.er_binary.specs.declared.state.State.{State}

-- a trace begins with no names, no nodes and no events
abbrev pub first_state : State
first_state = record { threads = []; locks = []; places = []; nodes = []; thread = None; node = 0; last = replicate 256 0; events = 0; lost = 0; ended = false }

-- the name of a number of this kind, and no bytes if it has none
abbrev pub names_in : State → NameKind → ℕ → List ℕ
names_in s names.Thread = name_at s.threads
names_in s names.Lock = name_at s.locks
names_in s names.Site = name_at s.places

-- a block begins with no thread and no node, and all of its last addresses are 0
abbrev pub at_block : State → State
at_block s = record s { thread = None; node = 0; last = replicate 256 0 }

-- the slot of the last address
abbrev pub slot : State → ℕ
slot s = unwrap_or s.thread 0 % 256

-- the address of an access: so far behind the last one of its slot
abbrev pub address_of : State → Access → ℕ
address_of s a = (slice_index s.last (slot s) + a.distance) % 2 ^ 48

-- the node of an access: the one that it names, or the last one
abbrev pub node_of : State → Access → ℕ
node_of s a = unwrap_or a.node s.node

-- an access is of a thread, at a node that there is, of bytes below 2^48
abbrev pub is_access : State → Access → Bool
is_access s a = is_some s.thread && nat_le (node_of s a) (length s.nodes) && nat_le (address_of s a + a.size) (2 ^ 48)

-- what an access changes: the last node, the last address of its slot, and the count of events
abbrev pub after_access : State → Access → State
after_access s a = record s { node = node_of s a; last = slice_set s.last (slot s) (address_of s a); events = plus s.events 1 }

-- a byte of a note
abbrev pub is_note_byte : ℕ → Bool
is_note_byte byte = nat_le 32 byte && nat_le byte 126

-- a site, but not the word for none
abbrev pub is_place : List ℕ → Bool
is_place bytes = not (bytes_eq bytes (codes "-")) && is_site_name bytes

-- a record's number and body are those of its kind, and name what there is. `behind` is what the block has behind it
abbrev pub is_right : State → Kind → ℕ → List ℕ → List ℕ → Bool
is_right s kind.Thread n body behind = nat_lt n (length s.threads)
is_right s kind.Start n body behind = nat_lt n (length s.threads)
is_right s kind.Join n body behind = nat_lt n (length s.threads)
is_right s kind.Node n body behind = nat_le n (length s.nodes)
is_right s kind.Lock n body behind = nat_lt n (length s.locks)
is_right s kind.Unlock n body behind = nat_lt n (length s.locks)
is_right s kind.ReadLock n body behind = nat_lt n (length s.locks)
is_right s kind.ReadUnlock n body behind = nat_lt n (length s.locks)
is_right s kind.FailedTry n body behind = nat_lt n (length s.locks)
is_right s kind.Signal n body behind = nat_lt n (length s.locks)
is_right s kind.Await n body behind = nat_lt n (length s.locks)
is_right s kind.Show n body behind = nat_lt n (2 ^ 48)
is_right s kind.Level n body behind = nat_le n 31
is_right s kind.ThreadName n body behind = is_name body && nat_lt (length s.threads) (2 ^ 30)
is_right s kind.LockName n body behind = is_lock_name body && nat_lt (length s.locks) (2 ^ 30)
is_right s kind.Place n body behind = is_place body && nat_lt (length s.places) (2 ^ 30)
is_right s kind.NewNode n body behind = nat_le n (length s.nodes) && nat_lt (number_in body 0 4) (length s.places) && nat_le (slice_index body 4) 3 && nat_lt (length s.nodes) (2 ^ 30)
is_right s kind.Note n body behind = nat_le (length body) 1000 && list_all is_note_byte body
is_right s kind.End n body behind = (n == s.events) && (length behind == 0)
is_right s k n body behind = true

-- an event has a thread
abbrev pub may_come : State → Kind → ℕ → List ℕ → List ℕ → Bool
may_come s k n body behind = (not (is_event k) || is_some s.thread) && is_right s k n body behind

-- the next node: the place that it shows is its caller's, if it is in a system header and has a caller
abbrev pub node_by : State → ℕ → List ℕ → Node
node_by s caller body = record {
  caller = caller;
  shown = if (slice_index body 4 % 2 == 1) && not (caller == 0) then (node_at s.nodes caller).shown else plus (length s.nodes) 1;
  place = number_in body 0 4;
}

-- what another record changes
abbrev pub after : State → Kind → ℕ → List ℕ → State
after s kind.Thread n body = record s { thread = Some n }
after s kind.Node n body = record s { node = n }
after s kind.ThreadName n body = record s { threads = s.threads ++ body ∷ [] }
after s kind.LockName n body = record s { locks = s.locks ++ body ∷ [] }
after s kind.Place n body = record s { places = s.places ++ body ∷ [] }
after s kind.NewNode n body = record s { nodes = s.nodes ++ node_by s n body ∷ [] }
after s kind.Lost n body = record s { lost = n }
after s kind.End n body = record s { ended = true }
after s kind.Note n body = s
after s kind.Fact n body = s
after s k n body = record s { events = plus s.events 1 }
