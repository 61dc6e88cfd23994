use Rattle.er_order.proofs.Locality.{kept-local}
use Rattle.er_order.proofs.races.a_word_is_local.Goals as goal

pub returns : goal.returns
returns c = record { kept = kept-local }
