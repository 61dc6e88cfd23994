-- The parts of the text are the lines that are noted.
use Rattle.er_exit.proofs.faults.notes_text.Goals as goal

pub returns : goal.returns
returns c = rw (c.line_if-no_end.ensures, c.line_if-no_line_feed.ensures, c.in_ok-unordered.ensures) at c.format.ensures.ok
