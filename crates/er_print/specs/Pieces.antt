-- The parts of a text.
use Rattle.std.specs.Prelude.{ℕ, ◌<◌, ◌≤◌, List, [], ◌∷◌, ◌++◌, flat_map, length, decimal}
use Rattle.er_print.specs.Printed.{address_text, event_text, kind_text, state_text}
use Rattle.er_print.specs.Styles.{label_in, lock_in, locks_in, name_in, named_site, site_in, thread_in}
use Rattle.er_print.specs.declared.pieces.Piece.{Piece}
use Rattle.er_print.specs.declared.pieces.Piece.TheVariants.{Text, Number, Address, Verb, Name, Thread, Lock, Site, NamedSite, Locks, Label, Event, State}
use Rattle.er_print.specs.declared.styles.Style.{Style}
use Rattle.er_report.specs.Names.{HasEventNames, HasLabelName, HasLockName, HasLockNames, HasStateNames}
use Rattle.er_trace.specs.Names.{NameTable}

-- the text before a value
abbrev pub before_of : Piece → List ℕ
before_of (Text text) = []
before_of (NamedSite before site) = []
before_of (Number before n) = before.now
before_of (Address before word) = before.now
before_of (Verb before kind) = before.now
before_of (Name before name) = before.now
before_of (Thread before thread) = before.now
before_of (Lock before lock) = before.now
before_of (Site before site) = before.now
before_of (Locks before locks) = before.now
before_of (Label before label) = before.now
before_of (Event before event) = before.now
before_of (State before state) = before.now

-- the value; steps and states are the same in each style
abbrev pub value_text : Style → NameTable → Piece → List ℕ
value_text style names (Text text) = text.now
value_text style names (Number before n) = decimal n
value_text style names (Address before word) = address_text word
value_text style names (Verb before kind) = kind_text kind
value_text style names (Name before name) = name_in style 72 name.now
value_text style names (Thread before thread) = thread_in style names thread
value_text style names (Lock before lock) = lock_in style names lock
value_text style names (Site before site) = site_in style names site
value_text style names (NamedSite before site) = named_site style names before.now site
value_text style names (Locks before locks) = locks_in style names locks.now
value_text style names (Label before label) = label_in style names label
value_text style names (Event before event) = event_text names event.now
value_text style names (State before state) = state_text names state.now

-- the text of a part: the text before its value, and the value
abbrev pub piece_text : Style → NameTable → Piece → List ℕ
piece_text style names piece = before_of piece ++ value_text style names piece

-- the parts of a list, one behind another
abbrev pub pieces_text : Style → NameTable → List Piece → List ℕ
pieces_text style names pieces = flat_map (piece_text style names) pieces

-- what a part names has a name
abbrev pub HasPieceName : NameTable → Piece → Type 0
HasPieceName names (Text text) = Unit {0}
HasPieceName names (Number before n) = Unit {0}
HasPieceName names (Address before word) = Unit {0}
HasPieceName names (Verb before kind) = Unit {0}
HasPieceName names (Name before name) = Unit {0}
HasPieceName names (Thread before thread) = thread < length names.threads
HasPieceName names (Lock before lock) = HasLockName names lock
HasPieceName names (Site before site) = site ≤ length names.sites
HasPieceName names (NamedSite before site) = site ≤ length names.sites
HasPieceName names (Locks before locks) = HasLockNames names locks.now
HasPieceName names (Label before label) = HasLabelName names label
HasPieceName names (Event before event) = HasEventNames names event.now
HasPieceName names (State before state) = HasStateNames names state.now

-- and so has that of each part of a list
abbrev pub HavePieceNames : NameTable → List Piece → Type 0
HavePieceNames names [] = Unit {0}
HavePieceNames names (piece ∷ pieces) = HasPieceName names piece × HavePieceNames names pieces
