-- What a decoder still gives, and what is still to be noted of it.
use Rattle.std.specs.Prelude.{◌≡◌, ℕ, ◌+◌, ◌-◌, ◌≤◌, Bool, true, false, List, ◌++◌, drop, take, length, vec_items, vec_len}
use Rattle.er_binary.specs.Numbers.{plus}
use Rattle.er_binary.specs.Meaning.{Making, as_text, as_touches, blocks, content, records}
use Rattle.er_binary.specs.declared.decoder.Spot.{Spot}
use Rattle.er_binary.specs.declared.decoder.Decoder.{Decoder}
use Rattle.er_binary.specs.declared.decoder.Phase.{Phase}
use Rattle.er_binary.specs.declared.decoder.Phase.TheVariants as phase
use Rattle.er_binary.specs.declared.state.State.{State}
use Rattle.er_binary.specs.declared.touches.Notes.{Notes}
use Rattle.er_binary.specs.declared.touches.Said.{Said}
use Rattle.er_binary.specs.Touches.{passed_by, touches_said}
use Rattle.er_binary.specs.States.{names_in}
use Rattle.er_lines.specs.Ready.{IsRight, KeepsNames, line_text}
use Rattle.er_lines.specs.declared.ready.ReadyLine.{ReadyLine}
use Rattle.er_lines.specs.declared.ready.Touch.{Touch}

-- all blocks that are left
unfoldable pub all_blocks : {M : Type 0} → Making M → ℕ → ℕ → State → List ℕ → M
all_blocks made block start s bytes = blocks made (length bytes + 1) block start s bytes

-- what is left of a block behind its first 16 bytes, and the blocks behind it
unfoldable pub all_content : {M : Type 0} → Making M → Spot → ℕ → State → List ℕ → M
all_content made p len s bytes = content made (all_blocks made (plus p.block 1) (plus p.start (16 + len))) p len s bytes

-- all records that are left of a block, and the blocks behind it, which begin at a byte
unfoldable pub all_records : {M : Type 0} → Making M → ℕ → Spot → State → List ℕ → List ℕ → M
all_records made end p s bytes rest = records made (length bytes + 1) (λ t. all_blocks made (plus p.block 1) end t rest) p s bytes

-- what is made of what is not decoded yet: the block's first bytes so far, how many bytes its records have, these so far, and those that are left
abbrev pub by_phase : {M : Type 0} → Making M → Phase → State → Spot → List ℕ → ℕ → List ℕ → List ℕ → List ℕ → M
by_phase made phase.Header s p header len held more rest = all_blocks made p.block p.start s (header ++ rest)
by_phase made phase.Content s p header len held more rest = all_content made p len s (held ++ rest)
by_phase made phase.Record s p header len held more rest = all_records made (plus p.start (16 + len)) p s more rest
by_phase made phase.Nothing s p header len held more rest = made.of_end

-- the same of a decoder
abbrev pub undecoded : {M : Type 0} → Making M → Phase → Decoder → List ℕ → M
undecoded made q d rest =
    by_phase made q d.state d.spot (take d.header_held d.header) (vec_len d.bytes) (take d.held (vec_items d.bytes)) (drop d.next (vec_items d.bytes)) rest

-- the text that is still to be given
unfoldable pub still : Decoder → List ℕ → List ℕ
still d rest = drop d.given (vec_items d.text) ++ undecoded as_text d.phase d rest

-- what accesses touch that was noted and not handed out, and what is still to be noted
unfoldable pub to_note : Decoder → List ℕ → List Touch
to_note d rest = vec_items d.notes.touches ++ undecoded as_touches d.phase d rest d.notes.line

-- what accesses touch is noted by both or by none, and what is noted and to be noted stays the same
pub record NotesOn (old new : Decoder) : Type 0 where
  pub on : new.notes.is_on ≡ old.notes.is_on
  pub same : old.notes.is_on ≡ true → (rest : List ℕ) → to_note old rest ≡ to_note new rest

-- no text was given, a number that had a name has it still, and what is noted and to be noted stays the same
pub record GoesOn (old new : Decoder) : Type 0 where
  pub same : (rest : List ℕ) → still old rest ≡ still new rest
  pub kept : KeepsNames (names_in old.state) (names_in new.state)
  pub noted : NotesOn old new

-- the text of lines was given
pub record Takes (old new : Decoder) (line : ReadyLine) : Type 0 where
  pub some : (rest : List ℕ) → still old rest ≡ line_text (names_in new.state) line ++ still new rest
  pub right : IsRight (names_in new.state) line
  pub kept : KeepsNames (names_in old.state) (names_in new.state)
  pub noted : NotesOn old new

-- the text that was made is given
abbrev pub HasGiven : Decoder → Type 0
HasGiven d = vec_len d.text ≤ d.given

-- how much of the block is left to decode
abbrev pub left : Phase → Decoder → ℕ
left phase.Record d = vec_len d.bytes - d.next + 1
left p d = 0

-- what a record says of its lines is noted, if that is asked for. If there is no room, nothing is
pub record HasNoted (old new : Notes) (said : Said) (result : Bool) : Type 0 where
  pub on : new.is_on ≡ old.is_on
  pub touches : result ≡ true → old.is_on ≡ true → vec_items new.touches ≡ vec_items old.touches ++ touches_said old.line said
  pub line : result ≡ true → old.is_on ≡ true → new.line ≡ passed_by old.line said.lines
  pub refused : result ≡ false → (vec_items new.touches ≡ vec_items old.touches) × (new.line ≡ old.line)
