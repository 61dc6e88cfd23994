-- The first line says which part it is, and the others are its content.
use Rattle.std.proofs.Common.{◌∙◌, None, Some, ap, refl}
use Rattle.er_lines.specs.Lines.{lines_of}
use Rattle.er_merge.specs.Parts.{body_from, content_view, empty_body, headed, heading_view, part_of, report_view}
use Rattle.er_merge.proofs.PartLemmas.{by_heading, headed_fault, no_line}
use Rattle.er_merge.proofs.parts.read_part.Goals as goal

pub returns-in_default : goal.returns-in_default
returns-in_default c = (refl, no_line c.args.text.now c.in_default.ensures)

pub returns-in_default-heading_in : goal.returns-in_default-heading_in
returns-in_default-heading_in c =
    (refl, by_heading c.args.text.now c.in-Some.line.now (lines_of c.in-Some.rest.now) None c.in-Some.ensures.0 c.in_default-heading_in.ensures)

pub returns-in-Ok : goal.returns-in-Ok
returns-in-Ok c =
    let heading = heading_view c.in-Some-heading_in.heading in
    by_heading c.args.text.now c.in-Some.line.now (lines_of c.in-Some.rest.now) (Some heading) c.in-Some.ensures.0 c.in-Some-heading_in.ensures
    ∙ ap (headed heading) c.in-Ok.ensures

pub returns-in-Err : goal.returns-in-Err
returns-in-Err c =
    let heading = heading_view c.in-Some-heading_in.heading in
    headed_fault content_view report_view c.args.number (part_of c.args.text.now) heading (body_from 2 empty_body (lines_of c.in-Some.rest.now)) c.in-Err.fault
    (by_heading c.args.text.now c.in-Some.line.now (lines_of c.in-Some.rest.now) (Some heading) c.in-Some.ensures.0 c.in-Some-heading_in.ensures) c.in-Err.ensures
