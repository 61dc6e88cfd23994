-- The stop, by the parts that it is put by.
use Rattle.er_json.specs.Document.{stop_member}
use Rattle.er_json.proofs.document.put_stop.Goals as goal

pub returns : goal.returns
unfolding stop_member
returns c = rw (c.in-Some.is, ← c.in-Some.line-is, ← c.in-Some.cause-is, ← c.refusal.ensures, ← c.text.ensures, ← c.as_bytes.ensures.value) c.put.ensures.joined
