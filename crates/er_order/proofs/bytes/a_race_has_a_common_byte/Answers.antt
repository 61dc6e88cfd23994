use Rattle.er_order.proofs.ByBytes.{bytes-race, bytes-pair, bytes-fewer, meet-byte, byte-meet, whole-answers, whole-named}
use Rattle.er_order.proofs.bytes.a_race_has_a_common_byte.Goals as goal

pub returns-clause-race : goal.returns-clause-race
returns-clause-race c = bytes-race

pub returns-clause-pair : goal.returns-clause-pair
returns-clause-pair c = λ touched order r w j k. bytes-pair touched order r w k j

pub returns-clause-common : goal.returns-clause-common
returns-clause-common c = meet-byte

pub returns-clause-meet : goal.returns-clause-meet
returns-clause-meet c = byte-meet

pub returns-clause-fewer : goal.returns-clause-fewer
returns-clause-fewer c = bytes-fewer

pub returns-clause-answers : goal.returns-clause-answers
returns-clause-answers c = λ touched steps k all. whole-answers touched all steps k

pub returns-clause-named : goal.returns-clause-named
returns-clause-named c = λ touched steps k all. whole-named touched all steps k
