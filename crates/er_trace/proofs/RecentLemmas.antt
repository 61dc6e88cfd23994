-- Names in slots keep their numbers while names are added.
use Rattle.std.specs.List.{list_all}
use Rattle.std.proofs.Common.{◌≡◌, ℕ, ◌<◌, ◌≤◌, Bool, true, false, List, [], get_or, refl, ap, true≢false, Option, Some, None, IfSome, Result, Ok, Err, OnOk, OnErr, sym, ◌∙◌, subst, arith}
use Rattle.std.specs.declared.alloc.AllocError.{AllocError}
use Rattle.std.proofs.lemmas.List.Elements.{All-weaker}
use Rattle.std.proofs.lemmas.List.Folds.{list_all_at}
use Rattle.er_trace.specs.declared.recent.Leading.{Leading}
use Rattle.er_trace.specs.declared.recent.ShortName.{ShortName}
use Rattle.er_trace.specs.declared.recent.Slot.{Slot}
use Rattle.er_trace.specs.declared.recent.RecentNames.{RecentNames}
use Rattle.er_trace.specs.Names.{number_of, with_name, most_names, is_plain_byte, is_known, IsPlain}
use Rattle.er_trace.specs.Inner.Recent.{bytes_of, Knows, IsRight, AreRight, LeadsRight}
use Rattle.er_trace.proofs.DigitLemmas.{bytes_size}
use Rattle.er_trace.proofs.LeadingLemmas.{still_leads}
use Rattle.er_trace.proofs.NumberLemmas.{given, again, still, kept, named, within}

still_knows : (names : List (List ℕ)) (later name : List ℕ) (number : ℕ) → Knows names name number → Knows (with_name names later) name number
still_knows names later name number knows =
    record { known = still names name later knows.known; is = kept names name later knows.known ∙ knows.is; small = knows.small }

-- also once this name is there
pub still_right : (names : List (List ℕ)) (later : List ℕ) (recent : RecentNames) → AreRight names recent → AreRight (with_name names later) recent
still_right names later recent right =
    let P : Slot → Type 0 = λ slot. 0 < slot.name.len → IsRight names (bytes_of slot.name) slot.number in
    let Q : Slot → Type 0 = λ slot. 0 < slot.name.len → IsRight (with_name names later) (bytes_of slot.name) slot.number in
    All-weaker P Q (λ slot right some. record { knows = still_knows names later (bytes_of slot.name) slot.number (right some).knows; plain = (right some).plain }) recent.slots.items right

-- whatever came of it
pub right_after : (result : Result ℕ AllocError) (old new : List (List ℕ)) (name : List ℕ) (recent : RecentNames) (leading : Leading) → AreRight old recent × LeadsRight old leading
    → OnOk result (new ≡ with_name old name) → OnErr result (new ≡ old) → AreRight new recent × LeadsRight new leading
right_after (Ok n) old new name recent leading right ok err =
    let P : List (List ℕ) → Type 0 = λ names. AreRight names recent × LeadsRight names leading in
    subst P (sym ok) (still_right old name recent right.0, still_leads old name leading right.1)
right_after (Err e) old new name recent leading right ok err =
    let P : List (List ℕ) → Type 0 = λ names. AreRight names recent × LeadsRight names leading in
    subst P (sym err) right

-- the name itself is known then
pub knows_new : (old new : List (List ℕ)) (name bytes : List ℕ) (number : ℕ) → new ≡ with_name old name → bytes ≡ name → number ≡ number_of old name → number < most_names
    → list_all is_plain_byte name ≡ true → IsRight new bytes number
knows_new old new name bytes number ok same is within plain =
    let P : List (List ℕ) → Type 0 = λ names. IsRight names bytes number in
    let Q : List ℕ → Type 0 = λ word. IsRight (with_name old name) word number in
    subst P (sym ok) (subst Q (sym same) (record { knows = record { known = given old name; is = again old name ∙ sym is; small = within }; plain = plain }))

-- a short name that is found is a plain one
pub plain_found : (names : List (List ℕ)) (name : ShortName) (found : Option ℕ) → (0 < name.len) × (name.len ≤ 16) → IfSome found (λ number. IsRight names (bytes_of name) number)
    → IfSome found (λ number. IsPlain names (bytes_of name) number)
plain_found names name None some right = tt
plain_found names name (Some number) some right =
    let size = bytes_size name in
    record { known = right.knows.known; is = sym right.knows.is; some = omega (arith, size, some.0); short = omega (arith, size, some.1); plain = right.plain }

pub small_found : (names : List (List ℕ)) (name : ShortName) (found : Option ℕ) → IfSome found (λ number. IsRight names (bytes_of name) number) → IfSome found (λ number. number < most_names)
small_found names name None right = tt
small_found names name (Some number) right = right.knows.small

-- what all names are, a name among them is
one_among : (such : List ℕ → Bool) (names : List (List ℕ)) (name : List ℕ) (b : Bool) → such name ≡ b → is_known names name ≡ true → list_all such names ≡ true → b ≡ true
one_among such names name true is known all = refl
one_among such names name false is known all =
    let below = within names name known in
    let at : such (get_or names (number_of names name) []) ≡ false = ap such (sym (named names name below)) ∙ is in
    absurd (true≢false (sym all ∙ list_all_at such names (number_of names name) [] below at))

pub known_one : (such : List ℕ → Bool) (names : List (List ℕ)) (name : List ℕ) (number : ℕ) → Knows names name number → list_all such names ≡ true → such name ≡ true
known_one such names name number knows all = one_among such names name (such name) refl knows.known all
