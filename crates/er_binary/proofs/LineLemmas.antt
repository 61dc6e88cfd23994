-- The lines of an access, one by one.
use Rattle.std.proofs.Common.{◌≡◌, ℕ, zero, suc, ◌+◌, ◌-◌, ◌*◌, ◌<◌, List, [], ◌++◌, refl, arith}
use Rattle.er_binary.specs.Numbers.{address_word}
use Rattle.er_binary.specs.Texts.{access_lines, feed, site, thread_does}
use Rattle.er_binary.specs.declared.state.State.{State}

pub lines_step : (s : State) (verb : List ℕ) (node word end : ℕ) → word < end
    → access_lines s verb node word (end - word) ≡ (thread_does s verb ++ address_word (4 * word) ++ site s node ++ feed) ++ access_lines s verb node (word + 1) (end - (word + 1))
unfolding access_lines
lines_step s verb node word end less = let next : end - word ≡ suc (end - (word + 1)) = omega arith in rw next refl

pub lines_none : (s : State) (verb : List ℕ) (node word count : ℕ) → count ≡ 0 → access_lines s verb node word count ≡ []
unfolding access_lines
lines_none s verb node word zero none = refl
lines_none s verb node word (suc count) none = absurd (omega arith)
