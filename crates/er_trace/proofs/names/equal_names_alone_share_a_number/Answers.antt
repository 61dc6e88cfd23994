use Rattle.er_trace.proofs.NumberLemmas.{given, again, kept, still, alone}
use Rattle.er_trace.proofs.names.equal_names_alone_share_a_number.Goals as goal

pub returns : goal.returns
returns c = record { given = given; again = again; kept = kept; still_known = still; alone = alone }
