-- What was given, and what is still to be given, are what was to be given.
use Rattle.std.proofs.Common.{◌≡◌, ◌<◌, ◌≤◌, ◌++◌, ℕ, List, length, take}
use Rattle.er_binary.specs.Inner.Decoders.{HasGiven, NotesOn, left, still}
use Rattle.er_binary.specs.States.{names_in}
use Rattle.er_lines.specs.Ready.{KeepsNames}
use Rattle.er_binary.proofs.decoder.Decoder.give_all.Given as goal

abbrev pub invariant-loop-count : goal.invariant-loop-count
invariant-loop-count g l = record {
  within : l.count ≤ length l.buffer;
  gives : (rest : List ℕ) → still l.fn.self rest ≡ take l.count l.buffer ++ still l.self rest;
  given : l.count < length l.buffer → HasGiven l.self;
  kept : KeepsNames (names_in l.fn.self.state) (names_in l.self.state);
  noted : NotesOn l.fn.self l.self;
}

abbrev pub decreases-loop-count : goal.decreases-loop-count
decreases-loop-count g l = left l.self.phase l.self
