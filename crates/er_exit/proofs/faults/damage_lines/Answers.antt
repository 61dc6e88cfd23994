-- The parts of the text are the lines of each kind.
use Rattle.er_exit.proofs.faults.damage_lines.Goals as goal

pub returns : goal.returns
returns c = rw (c.in_ok-refused.ensures, c.in_ok-held_twice.ensures, c.in_ok-no_line_feed.ensures, c.in_ok-no_end.ensures, c.in_ok-lost.ensures) at c.format.ensures.ok
