-- What was handed out of touches says of lines what all of them say.
use Rattle.std.proofs.Common.{◌≡◌, ◌<◌, ◌≤◌, ◌==◌, ◌∙◌, ℕ, nat_le, Bool, true, false, cond, List, [], ◌∷◌, ◌++◌, append_assoc, filter, Option, Some, None, IfSome, refl, sym, ap, subst, arith}
use Rattle.std.proofs.lemmas.Bool.{eqb-true, le-leb, leb-true}
use Rattle.std.proofs.lemmas.Bool.Decides.{nat_tests}
use Rattle.std.specs.List.{All}
use Rattle.er_batch.specs.Inner.Passes.{Tells, TellsBetween}
use Rattle.er_batch.specs.Touching.{AgreeOn, of_line, touch_on}
use Rattle.er_lines.specs.Touches.{HasHanded, StaysKnown}
use Rattle.er_lines.specs.declared.ready.Touch.{Touch}

-- one of an earlier line is passed
pub passed : (touch : Touch) (rest : List Touch) (line : ℕ) → touch.line < line → touch_on (touch ∷ rest) line ≡ touch_on rest line
unfolding touch_on
passed touch rest line earlier =
    let not_yet : nat_le line touch.line ≡ false = grind (arith, nat_tests, earlier) in
    rw not_yet refl

-- the first of the line or of a later one
pub stands : (touch : Touch) (rest : List Touch) (line : ℕ) → line ≤ touch.line → touch_on (touch ∷ rest) line ≡ of_line line (Some touch)
unfolding touch_on
stands touch rest line here = rw (le-leb line touch.line here) refl

pub nothing : (line : ℕ) → touch_on [] line ≡ None
unfolding touch_on
nothing line = refl

-- a touch is of the line or of a later one, or of an earlier one
by-line : (P : Type 0) (touch : Touch) (line : ℕ) → (line ≤ touch.line → P) → (touch.line < line → P) → P
by-line P touch line here earlier = by (nat_le line touch.line) refl
  where
    by : (b : Bool) → nat_le line touch.line ≡ b → P
    by true is = here (leb-true line touch.line is)
    by false is = earlier (grind (arith, nat_tests, is))

-- what comes later says nothing of the line
later-none : (more : List Touch) (next line : ℕ) → line < next → All (λ (touch : Touch). next ≤ touch.line) more → touch_on more line ≡ None
later-none [] next line before later = nothing line
later-none (touch ∷ rest) next line before later =
    let behind : next ≤ touch.line = later 0 touch (omega arith) in
    stands touch rest line (omega (arith, behind, before)) ∙ other (touch.line == line) refl behind
  where
    other : (b : Bool) → (touch.line == line) ≡ b → next ≤ touch.line → cond b (Some touch) None ≡ None
    other true is behind = let same : touch.line ≡ line = eqb-true touch.line line is in absurd (omega (arith, same, behind, before))
    other false is behind = refl

-- so that what comes first says all
front-says : (touches more : List Touch) (line : ℕ) → touch_on more line ≡ None → touch_on (touches ++ more) line ≡ touch_on touches line
front-says [] more line none = none ∙ sym (nothing line)
front-says (touch ∷ rest) more line none =
    by-line (touch_on (touch ∷ rest ++ more) line ≡ touch_on (touch ∷ rest) line) touch line
    (λ here. stands touch (rest ++ more) line here ∙ sym (stands touch rest line here))
    (λ earlier. passed touch (rest ++ more) line earlier ∙ front-says rest more line none ∙ sym (passed touch rest line earlier))

-- nor do touches of earlier lines
abbrev kept : ℕ → List Touch → List Touch
kept from touches = filter (λ touch. nat_le from touch.line) touches

kept-says : (touches more : List Touch) (from line : ℕ) → from ≤ line → touch_on (filter (λ touch. nat_le from touch.line) touches ++ more) line ≡ touch_on (touches ++ more) line
kept-says [] more from line within = refl
kept-says (touch ∷ rest) more from line within = by (kept-says rest more from line within) (nat_le from touch.line) refl
  where
    by : touch_on (kept from rest ++ more) line ≡ touch_on (rest ++ more) line → (b : Bool) → nat_le from touch.line ≡ b → touch_on (cond b (touch ∷ kept from rest) (kept from rest) ++ more) line ≡ touch_on (touch ∷ rest ++ more) line
    by same true is =
        by-line (touch_on (touch ∷ kept from rest ++ more) line ≡ touch_on (touch ∷ rest ++ more) line) touch line
        (λ here. stands touch (kept from rest ++ more) line here ∙ sym (stands touch (rest ++ more) line here))
        (λ earlier. passed touch (kept from rest ++ more) line earlier ∙ same ∙ sym (passed touch (rest ++ more) line earlier))
    by same false is =
        let earlier : touch.line < line = grind (arith, nat_tests, is, within) in
        same ∙ sym (passed touch (rest ++ more) line earlier)

-- before anything was handed out
tells-first : (all : List Touch) (left : Option (List Touch)) (from : ℕ) → left ≡ Some all → Tells all [] left from 0
tells-first all left from is = record { more = all; known = is; says = λ line within. refl; later = λ k d below. omega arith }

-- while it stays known
pub tells-still : (all touches : List Touch) (old new : Option (List Touch)) (from next : ℕ) → StaysKnown old new → Tells all touches old from next → Tells all touches new from next
tells-still all touches old new from next stays tells = record { more = tells.more; known = stays tells.more tells.known; says = tells.says; later = tells.later }

-- when more is handed out
pub tells-more : (all before after : List Touch) (old new : Option (List Touch)) (from line : ℕ) → IfSome old (λ known. HasHanded known new before after line) → Tells all before old from 0 → Tells all after new from line
tells-more all before after old new from line handed tells = by (subst (λ (o : Option (List Touch)). IfSome o (λ known. HasHanded known new before after line)) tells.known handed)
  where
    by : HasHanded tells.more new before after line → Tells all after new from line
    by h = record {
      more = h.left;
      known = h.known;
      says = λ l within. ap (λ (touches : List Touch). touch_on (touches ++ h.left) l) h.given ∙ ap (λ (touches : List Touch). touch_on touches l) (append_assoc before h.handed h.left ∙ ap (λ (touches : List Touch). before ++ touches) (sym h.parted)) ∙ tells.says l within;
      later = h.later;
    }

-- when those of earlier lines are forgotten
pub tells-less : (all touches : List Touch) (left : Option (List Touch)) (from later next : ℕ) → from ≤ later → Tells all touches left from next → Tells all (filter (λ touch. nat_le later touch.line) touches) left later next
tells-less all touches left from later next low tells = record {
  more = tells.more;
  known = tells.known;
  says = λ line within. kept-says touches tells.more later line within ∙ tells.says line (omega (arith, low, within));
  later = tells.later;
}

pub tells-any : (all touches : List Touch) (left : Option (List Touch)) (from next : ℕ) → Tells all touches left from next → Tells all touches left from 0
tells-any all touches left from next tells = record { more = tells.more; known = tells.known; says = tells.says; later = λ k d below. omega arith }

-- of the lines between what was handed out says all
pub tells-between : (all touches : List Touch) (left : Option (List Touch)) (from next : ℕ) → Tells all touches left from next → TellsBetween all touches from next
tells-between all touches left from next tells line low high =
    sym (front-says touches tells.more line (later-none tells.more next line high tells.later)) ∙ tells.says line low

pub agree-between : (known : Option (List Touch)) (touches : List Touch) (from next : ℕ) (lines : List ℕ) → IfSome known (λ all. TellsBetween all touches from next) → All (λ line. (from ≤ line) × (line < next)) lines → AgreeOn known touches lines
agree-between None touches from next lines tells between = tt
agree-between (Some all) touches from next lines tells between = λ k d below. let both = between k d below in tells _ both.0 both.1

-- the same of what is known, if it is known
pub known-first : (known left : Option (List Touch)) (touches : List Touch) (from : ℕ) → touches ≡ [] → known ≡ left → IfSome known (λ all. Tells all touches left from 0)
known-first None left touches from none is = tt
known-first (Some all) left touches from none is = subst (λ (t : List Touch). Tells all t left from 0) (sym none) (tells-first all left from (sym is))

on : {P Q : List Touch → Type 0} (known : Option (List Touch)) → ((all : List Touch) → P all → Q all) → IfSome known P → IfSome known Q
on None f tells = tt
on (Some all) f tells = f all tells

pub tells-on : (known : Option (List Touch)) (touches others : List Touch) (left right : Option (List Touch)) (from later : ℕ)
    → ((all : List Touch) → Tells all touches left from 0 → Tells all others right later 0) → IfSome known (λ all. Tells all touches left from 0) → IfSome known (λ all. Tells all others right later 0)
tells-on known touches others left right from later f = on known f

pub handed-on : (known : Option (List Touch)) (before after : List Touch) (old mid new : Option (List Touch)) (from line : ℕ) → StaysKnown old mid → IfSome mid (λ o. HasHanded o new before after line)
    → IfSome known (λ all. Tells all before old from 0) → IfSome known (λ all. Tells all after new from line)
handed-on known before after old mid new from line stays handed =
    on known (λ all tells. tells-more all before after mid new from line handed (tells-still all before old mid from 0 stays tells))

pub answered-on : (known : Option (List Touch)) (before after : List Touch) (left : Option (List Touch)) (from later next : ℕ) → from ≤ later → after ≡ filter (λ touch. nat_le later touch.line) before
    → IfSome known (λ all. Tells all before left from next) → IfSome known (λ all. Tells all after left later next)
answered-on known before after left from later next low is =
    on known (λ all tells. subst (λ (touches : List Touch). Tells all touches left later next) (sym is) (tells-less all before left from later next low tells))

pub between-on : (known : Option (List Touch)) (touches : List Touch) (left : Option (List Touch)) (from next : ℕ) → IfSome known (λ all. Tells all touches left from next) → IfSome known (λ all. TellsBetween all touches from next)
between-on known touches left from next = on known (λ all tells. tells-between all touches left from next tells)
