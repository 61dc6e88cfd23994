-- The lines so far, one behind the other.
use Rattle.std.proofs.Common.{refl, ◌∙◌, arith, rules}
use Rattle.std.proofs.lemmas.List.{length-drop}
use Rattle.er_text.proofs.PieceLemmas.{rest_is, next_then, next_comment, none_left, no_comment_left}
use Rattle.er_text.proofs.pieces.read_lines.Goals as goal

pub loop-at-init : goal.loop-at-init
loop-at-init c = record { stage = c.requires.«open».0; idle = c.requires.«open».1; within = omega arith; few = omega arith; goes_on = λ m t are. are; comments = refl }

pub read_front-requires : goal.read_front-requires
read_front-requires c = record { «open» = (c.loop-at.invariant.stage, c.loop-at.invariant.idle) }

pub overflow_add-line : goal.overflow_add-line
overflow_add-line c = let few = c.loop-at.invariant.few in let front = c.loop-at-test.true in search rules

pub loop-at-preserved : goal.loop-at-preserved
loop-at-preserved c =
    let old = c.loop-at.invariant in
    let step = c.in_ok-at.ensures in
    let fits = rw (rest_is c.loop-at.at c.args.bytes.now old.within) at step.within in
    record {
      stage = step.«open».0;
      idle = step.«open».1;
      within = omega (arith, old.within, fits, length-drop c.loop-at.at c.args.bytes.now);
      few = omega (arith, old.few, step.some);
      goes_on = λ m t are. old.goes_on m t (next_then c.args.version c.loop-at.line m c.loop-at.at c.in_ok-at.field-0 c.args.bytes.now c.loop-at.trace c.read_front.new.trace t old.within step.read are);
      comments = next_comment c.args.version c.loop-at.line c.loop-at.at c.in_ok-at.field-0 c.args.bytes.now c.loop-at.trace c.read_front.new.trace c.loop-at.header.comment c.read_front.new.header.comment
          old.within step.read (rw (rest_is c.loop-at.at c.args.bytes.now old.within) at step.comment) ∙ old.comments;
    }

pub returns-clause-read : goal.returns-clause-read
returns-clause-read c = c.loop-at.invariant.goes_on c.loop-at.line c.loop-at.trace (none_left c.args.version c.loop-at.at c.args.bytes.now c.loop-at.trace c.loop-at-test.false c.loop-at.line)

pub returns-clause-comment : goal.returns-clause-comment
returns-clause-comment c = no_comment_left c.loop-at.at c.args.bytes.now c.loop-at-test.false c.loop-at.line c.loop-at.header.comment ∙ c.loop-at.invariant.comments
