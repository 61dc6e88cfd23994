-- The bytes around the names, and the names.
use Rattle.std.proofs.Common.{◌≡◌, ◌+◌, length, nat_eq, false, sym, ap, ◌∙◌, arith, rules}
use Rattle.er_lines.specs.Ready.{ready_text}
use Rattle.er_lines.proofs.ReadyLaws.{fixed_width, named_width, named_none, named_some, ready_size, text_short}
use Rattle.er_lines.proofs.ready.ready_width.Goals as goal
use Rattle.er_lines.proofs.ready.ready_width.Goals.{in-Read, in-Write, in-Lock, in-Unlock, in-ReadLock, in-ReadUnlock, then-is_empty, else-is_empty}

fixed_is : (c : goal.After-row_known-2-1) → c.match-verb.fixed ≡ fixed_width c.args.verb
fixed_is c = elim c.match-verb.branch [
  | in-Read w ↦ w.fixed-is ∙ ap fixed_width (sym w.in-Read.is)
  | in-Write w ↦ w.fixed-is ∙ ap fixed_width (sym w.in-Write.is)
  | in-Lock w ↦ w.fixed-is ∙ ap fixed_width (sym w.in-Lock.is)
  | in-Unlock w ↦ w.fixed-is ∙ ap fixed_width (sym w.in-Unlock.is)
  | in-ReadLock w ↦ w.fixed-is ∙ ap fixed_width (sym w.in-ReadLock.is)
  | in-ReadUnlock w ↦ w.fixed-is ∙ ap fixed_width (sym w.in-ReadUnlock.is)
]

named_is : (c : goal.After-row_known-2-1) → c.if-is_empty.named ≡ named_width c.args.name.now
named_is c = elim c.if-is_empty.branch [
  | then-is_empty w ↦ let none : length c.args.name.now ≡ 0 = search rules in w.named-is ∙ named_none c.args.name.now none
  | else-is_empty w ↦ let some : nat_eq (length c.args.name.now) 0 ≡ false = search rules in w.named-is ∙ named_some c.args.name.now some
]

whole : (c : goal.After-row_known-2-1) → length c.args.thread.now + c.match-verb.fixed + c.if-is_empty.named ≡ length (ready_text c.args.verb c.args.address c.args.thread.now c.args.name.now)
whole c = omega (arith, ready_size c.args.verb c.args.address c.args.thread.now c.args.name.now c.requires, fixed_is c, named_is c)

pub overflow_add-result-2 : goal.overflow_add-result-2
overflow_add-result-2 c = let short = text_short c.args.verb c.args.address c.args.thread.now c.args.name.now c.requires in omega (arith, whole c, short)

pub returns : goal.returns
returns c = whole c
