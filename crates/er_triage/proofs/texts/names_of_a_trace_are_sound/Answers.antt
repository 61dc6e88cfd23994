use Rattle.er_triage.proofs.TraceNameLemmas.{trace_names}
use Rattle.er_triage.proofs.texts.names_of_a_trace_are_sound.Goals as goal

pub returns : goal.returns
returns c = trace_names
