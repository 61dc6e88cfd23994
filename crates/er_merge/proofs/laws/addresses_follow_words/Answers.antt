use Rattle.er_merge.proofs.AddressLemmas.{races_follow}
use Rattle.er_merge.proofs.laws.addresses_follow_words.Goals as goal

pub returns : goal.returns
returns c = races_follow
