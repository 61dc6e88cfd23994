use Rattle.er_binary.specs.States.{address_of}
use Rattle.er_binary.proofs.LaterLaws.{touches_fine}
use Rattle.er_binary.proofs.NumberedLaws.{touches_same}
use Rattle.er_binary.proofs.TouchLaws.{touch_bytes}
use Rattle.er_binary.proofs.laws.a_touch_says_which_bytes_of_a_word.Goals as goal

pub returns-clause-bytes : goal.returns-clause-bytes
returns-clause-bytes c = λ s a line k i one few below. touch_bytes (address_of s a) a.size line k i one few below

pub returns-clause-words : goal.returns-clause-words
returns-clause-words c = λ bytes. (touches_fine bytes).words

pub returns-clause-order : goal.returns-clause-order
returns-clause-order c = λ bytes. (touches_fine bytes).order

pub returns-clause-numbers : goal.returns-clause-numbers
returns-clause-numbers c = touches_same
