-- One thread's holdings among all, as a map of threads is read and written.
use Rattle.std.proofs.Common.{◌≡◌, ℕ, [], Bool, true, false, cond, List, Option, Some, None, unwrap_or, refl, ap, ◌∙◌, eqb}
use Rattle.std.specs.Map.{lookup}
use Rattle.er_held.specs.Held.{nothing_held}
use Rattle.er_held.specs.ThreadLocks.{holding_among}
use Rattle.er_model.specs.Holdings.{Holdings}

-- what is found is the thread's
pub holding_found : (threads : List (ℕ × Holdings)) (t : ℕ) (h : Holdings) → Some h ≡ lookup (eqb t) threads → h ≡ holding_among threads t
unfolding holding_among
holding_found threads t h found = rw (← found) refl

pub holding_absent : (threads : List (ℕ × Holdings)) (t : ℕ) → None ≡ lookup (eqb t) threads → nothing_held ≡ holding_among threads t
unfolding holding_among
holding_absent threads t absent = rw (← absent) refl

unwrap_cond : (b : Bool) (h : Holdings) (o : Option Holdings) → unwrap_or (cond b (Some h) o) nothing_held ≡ cond b h (unwrap_or o nothing_held)
unwrap_cond true h o = refl
unwrap_cond false h o = refl

-- what is written is one thread's
pub holding_written : (threads more : List (ℕ × Holdings)) (thread : ℕ) (h : Holdings) →
    ((q : ℕ) → lookup (eqb q) more ≡ cond (eqb thread q) (Some h) (lookup (eqb q) threads)) →
    (t : ℕ) → holding_among more t ≡ cond (eqb thread t) h (holding_among threads t)
unfolding holding_among
holding_written threads more thread h written t = ap (λ o. unwrap_or o nothing_held) (written t) ∙ unwrap_cond (eqb thread t) h (lookup (eqb t) threads)

-- if no thread is there
pub holding_empty : (threads : List (ℕ × Holdings)) (t : ℕ) → threads ≡ [] → holding_among threads t ≡ nothing_held
unfolding holding_among
holding_empty threads t none = rw none refl
