-- What a reader knows at the end of a text: how many lines there were, how they end, and the stage of the text.
use Rattle.std.proofs.Common.{◌≡◌, ℕ, ◌+◌, List, [], ◌∷◌, length, Option, Some, None, IfOk, Result, Ok, Err, refl, subst, sym, ap, ◌∙◌, arith}
use Rattle.er_trace.specs.Trace.{Recording}
use Rattle.er_event.specs.declared.steps.Step.{Step}
use Rattle.er_lines.specs.declared.faults.TextKind.{TextKind}
use Rattle.er_lines.specs.declared.faults.ReadFault.{ReadFault}
use Rattle.er_text.specs.declared.reading.Batch.{Batch}
use Rattle.er_text.specs.declared.reading.Batch.TheVariants.{More, End}
use Rattle.er_text.specs.Batches.{HasRead}
use Rattle.er_text.specs.Ending.{if_any_lost, KnowsEnd}
use Rattle.er_lines.specs.FirstFault.{known_after}
use Rattle.er_lines.specs.Lines.{Placed, placed}
use Rattle.er_text.specs.Places.{Tail, Reached, no_tail}
use Rattle.er_text.specs.Trace.{Known, nothing_known, known_past}
use Rattle.er_text.specs.Inner.Endings.{tail_after, KeepsTail, BatchesTail}
use Rattle.er_lines.specs.Lending.{lines_left}
use Rattle.er_lines.specs.Reading.{read_line, go_on, read_lines, Continues}
use Rattle.er_text.specs.Inner.Traces.{Progress, at_front, progress, read_content, Batches}
use Rattle.er_text.proofs.BatchLaws.{after, mapped, lines_after}
use Rattle.er_lines.proofs.ReadingLaws.{line_passed}
use Rattle.er_text.proofs.TraceFaults.{Stands, front_stands, line_moves}

-- where a reading of lines ends
pub record EndsAt (p q : Progress) (known : Known) (lines : List Placed) : Type 0 where
  pub stands : Stands q (known_after known_past known lines)
  pub number : q.number ≡ length lines + p.number

ends_step : (limit : ℕ) (line : Placed) (lines : List Placed) (p q : Progress) (known : Known) (r : Result Progress TextKind) → Stands p known
    → ((v : Progress) (k : Known) → Stands v k → read_lines limit read_content lines v ≡ Ok q → EndsAt v q k lines)
    → read_line limit read_content p line ≡ r → go_on line (read_lines limit read_content lines) r ≡ Ok q → EndsAt p q known (line ∷ lines)
ends_step limit line lines p q known (Err k) stands more is e = absurd (cc)
ends_step limit line lines p q known (Ok v) stands more is e =
    let passed = line_passed limit read_content p v line is in
    let moved = line_moves p v known line stands passed.read in
    let rest = more v (known_past known line) moved.stands e in
    let behind = rest.number in
    let one = moved.number in
    record { stands = rest.stands; number = omega arith }

pub ends_at : (limit : ℕ) (lines : List Placed) (p q : Progress) (known : Known) → Stands p known → read_lines limit read_content lines p ≡ Ok q → EndsAt p q known lines
ends_at limit [] p q known stands e =
    let same : p ≡ q = cc in
    subst (λ (x : Progress). EndsAt p x known []) same (record { stands = stands; number = omega arith })
ends_at limit (line ∷ lines) p q known stands e =
    ends_step limit line lines p q known (read_line limit read_content p line) stands (λ v k is h. ends_at limit lines v q k is h) refl e

-- a reader at the end of a text, by what its lines come to
whole_ends : (text : List ℕ) (steps : List Step) (lines sites : List ℕ) (limit : ℕ) (new : Reached) (u : Recording)
    → read_lines limit read_content (placed text) at_front ≡ Ok (after steps lines sites (progress new u)) → tail_after no_tail (placed text) ≡ new.tail → KnowsEnd text new
whole_ends text steps lines sites limit new u read tail =
    let at = ends_at limit (placed text) at_front (after steps lines sites (progress new u)) nothing_known front_stands read in
    let number = at.number in
    record {
      lines = omega arith;
      cut = sym (ap (λ (t : Tail). t.cut) tail);
      comment = sym (ap (λ (t : Tail). if_any_lost t.comment) tail);
      stage = at.stands.stage;
    }

left_ends : (text : List ℕ) (steps : List Step) (lines sites : List ℕ) (limit : ℕ) (old new : Reached) (left rest : Option (List Placed)) (t u : Recording)
    → Continues limit read_content (Some (placed text)) left at_front (after steps lines sites (progress old t)) → KeepsTail (Some (placed text)) left no_tail old.tail
    → Batches limit left rest (progress old t) (progress new u) (Ok End) → BatchesTail left rest old.tail new.tail (Ok End) → KnowsEnd text new
left_ends text steps lines sites limit old new None rest t u on tail batch last = absurd on
left_ends text steps lines sites limit old new (Some left) rest t u on tail batch last =
    whole_ends text steps lines sites limit new u (on ∙ lines_after limit steps lines sites left (progress old t) ∙ ap (mapped (after steps lines sites)) batch.0) (tail ∙ last)

pub batch_ends : (text : List ℕ) (steps : List Step) (lines sites : List ℕ) (old new : Reached) (before after_it : Option (List ℕ)) (t u : Recording)
    (result : Result Batch ReadFault) → HasRead text steps lines sites old before t
    → Batches old.place.limit (lines_left old.place before) (lines_left new.place after_it) (progress old t) (progress new u) result
    → BatchesTail (lines_left old.place before) (lines_left new.place after_it) old.tail new.tail result
    → IfOk result (λ batch. batch ≡ End → KnowsEnd text new)
batch_ends text steps lines sites old new before after_it t u (Ok More) read batch tail = λ end. absurd (cc)
batch_ends text steps lines sites old new before after_it t u (Ok End) read batch tail = λ end.
    left_ends text steps lines sites old.place.limit old new (lines_left old.place before) (lines_left new.place after_it) t u read.0 read.1 batch tail
batch_ends text steps lines sites old new before after_it t u (Err e) read batch tail = tt
