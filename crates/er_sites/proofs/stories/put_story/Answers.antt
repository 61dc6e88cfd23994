-- What the access did stands behind its thread.
use Rattle.er_sites.proofs.stories.put_story.Goals as goal

pub returns-in-Uncovered : goal.returns-in-Uncovered
returns-in-Uncovered c = rw (c.in-Uncovered.is, ← c.did_text-did.ensures) c.put-in-Uncovered.ensures.joined

pub returns-in-Unordered : goal.returns-in-Unordered
returns-in-Unordered c = rw (c.in-Unordered.is, ← c.did_text-did.ensures) c.put-in-Unordered.ensures.joined
