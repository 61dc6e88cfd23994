-- What a line in its usual form adds: of an operation, of a line, and of a line behind the header.
use Rattle.std.proofs.Common.{◌≡◌, ℕ, ◌+◌, ◌-◌, ◌/◌, ◌<◌, ◌≤◌, Bool, true, false, List, [], ◌∷◌, ◌++◌, length, take, drop, Option, Some, None, not, ◌&&◌, nat_le, codes, Result, Ok, Err, refl, sym, ap, subst, ◌∙◌, append_assoc, length-append, arith}
use Rattle.std.specs.List.{list_all}
use Rattle.std.specs.Str.{bytes_eq}
use Rattle.std.proofs.Math.Seq.{drop-append_seam}
use Rattle.std.proofs.lemmas.Bool.{and_parts}
use Rattle.std.proofs.lemmas.Bool.Decides.{nat_tests}
use Rattle.er_event.specs.declared.steps.Kind.{Kind}
use Rattle.er_event.specs.declared.steps.Event.TheVariants.{Access}
use Rattle.er_lines.specs.Lines.{has_bytes}
use Rattle.er_lines.specs.Naming.{is_name_byte, is_name, is_lock_name, is_site_byte, is_site_name}
use Rattle.er_trace.specs.Trace.{Recording, with_step, with_thread_name, with_lock_name, with_site_name}
use Rattle.er_text.specs.declared.verbs.Version.{Version}
use Rattle.er_text.specs.declared.verbs.Version.TheVariants.{One, Two, Three}
use Rattle.er_text.specs.declared.stages.Stage.{Stage}
use Rattle.er_text.specs.declared.stages.Stage.TheVariants.{Events}
use Rattle.er_trace.specs.Names.{is_known, number_of, with_name, is_plain_byte, is_plain_name, is_shown_name, is_allowed_name, IsPlain}
use Rattle.er_text.specs.Naming.{is_site_word}
use Rattle.er_text.specs.Verbs.{is_third}
use Rattle.er_text.specs.Events.{Operation, Accesses, EventLine, site_number, with_site_of, with_operation, with_line}
use Rattle.er_text.specs.Inner.Idle.{last_actor, without_idle}
use Rattle.er_text.specs.Inner.Traces.{at_line, plain_at}
use Rattle.er_text.specs.Inner.FastPath.{EndsIn, IsLeadingThread, IsLeadingAddress, IsFastAccess, IsFastOperation, IsFastLine, IsSiteBehind, Nothing, Named, AddsOperation, AddsLine}
use Rattle.er_text.proofs.AddingLemmas.{number_below}
use Rattle.er_text.proofs.SiteLemmas.{name_word}
use Rattle.er_text.proofs.FastPathLaws.{addressed, access_alone, access_site, line_says, usual_reads}

pub adds_as : {E : Type 0} (Is Other : Operation → Type 0) (line thread : ℕ) (old new : Recording) (result : Result Bool E)
    → ((operation : Operation) → Is operation → Other operation) → AddsOperation Is line thread old new result → AddsOperation Other line thread old new result
adds_as Is Other line thread old new (Ok true) means adds = (adds.0, means adds.0 adds.1, adds.2)
adds_as Is Other line thread old new (Ok false) means adds = adds
adds_as Is Other line thread old new (Err e) means adds = tt

-- a known thread is as it was
thread_kept : (r : Recording) (name : List ℕ) → is_known r.names.threads name ≡ true → with_thread_name r name ≡ r
thread_kept r name known = rw known refl

lock_kept : (r : Recording) (name : List ℕ) → is_known r.names.locks name ≡ true → with_lock_name r name ≡ r
lock_kept r name known = rw known refl

site_kept : (r : Recording) (name : List ℕ) → is_known r.names.sites name ≡ true → with_site_name r name ≡ r
site_kept r name known = rw known refl

pub thread_below : (names : List (List ℕ)) (bytes : List ℕ) (thread : ℕ) (rest : List ℕ) → IsLeadingThread names bytes thread rest → thread < length names
thread_below names bytes thread rest led =
    let below = number_below names led.name in
    let kept : with_name names led.name ≡ names = rw led.known refl in
    rw led.is (subst (λ (ns : List (List ℕ)). number_of names led.name < length ns) kept below)

pub adds_line : {E : Type 0} (v : Version) (line : ℕ) (bytes : List ℕ) (thread : ℕ) (rest : List ℕ) (old new : Recording) (result : Result Bool E) → IsLeadingThread old.names.threads bytes thread rest
    → AddsOperation (IsFastOperation v rest) line thread old new result → AddsLine (IsFastLine v bytes) line old new result
adds_line v line bytes thread rest old new (Ok true) led adds = (
  record { thread = led.name; operation = adds.0 },
  line_says v bytes led.name rest adds.0 led.front adds.1,
  adds.2 ∙ ap (λ (n : ℕ). with_operation line n adds.0 old) led.is
      ∙ ap (λ (r : Recording). with_operation line (number_of old.names.threads led.name) adds.0 r) (sym (thread_kept old led.name led.known)),
)
adds_line v line bytes thread rest old new (Ok false) led adds = adds
adds_line v line bytes thread rest old new (Err e) led adds = tt

some_bytes : (name : List ℕ) → 0 < length name → has_bytes name ≡ true
some_bytes [] some = absurd (omega (arith, some))
some_bytes (byte ∷ bytes) some = refl

-- plain bytes are those of names
pub plain_name : (names : List (List ℕ)) (name : List ℕ) (n : ℕ) → IsPlain names name n → is_name name ≡ true
plain_name names name n p =
    let some = some_bytes name p.some in
    let short = p.short in
    let few : nat_le (length name) 128 ≡ true = grind (arith, nat_tests, short) in
    let plain : list_all is_name_byte name ≡ true = p.plain in
    rw (some, few, plain) refl

pub ends_more : (whole bytes front rest : List ℕ) → EndsIn whole bytes → bytes ≡ front ++ rest → EndsIn whole rest
ends_more whole bytes front rest ends is = (ends.0 ++ front, ends.1 ∙ ap (λ (b : List ℕ). ends.0 ++ b) is ∙ sym (append_assoc ends.0 front rest))

pub spaced : (bytes front rest : List ℕ) → bytes ≡ front ++ 32 ∷ rest → bytes ≡ (front ++ 32 ∷ []) ++ rest
spaced bytes front rest is = is ∙ sym (append_assoc front (32 ∷ []) rest)

end_of : (whole word : List ℕ) → EndsIn whole word → drop (length whole - length word) whole ≡ word
end_of whole word ends =
    let size = length-append ends.0 word in
    let all = ap length ends.1 in
    let place : length whole - length word ≡ length ends.0 = omega (arith, size, all) in
    ap (λ (k : ℕ). drop k whole) place ∙ ap (drop (length ends.0)) ends.1 ∙ drop-append_seam ends.0 word

-- a word at the end of a line that is found among the plain names is one
at_end : (names : List (List ℕ)) (whole word : List ℕ) (n : ℕ) → EndsIn whole word → IsPlain names (drop (length whole - length word) whole) n → IsPlain names word n
at_end names whole word n ends plain = subst (λ (w : List ℕ). IsPlain names w n) (end_of whole word ends) plain

pub lock_at_end : (r : Recording) (whole word : List ℕ) (lock : ℕ) → EndsIn whole word → IsPlain r.names.locks (drop (length whole - length word) whole) lock → bytes_eq word (codes "none") ≡ false
    → (is_lock_name word ≡ true) × (lock ≡ number_of r.names.locks word) × (r ≡ with_lock_name r word)
lock_at_end r whole word lock ends found other =
    let plain = at_end r.names.locks whole word lock ends found in
    let named = plain_name r.names.locks word lock plain in
    (rw (named, other) refl, plain.is, sym (lock_kept r word plain.known))

pub site_at_end : (v : Version) (r : Recording) (whole rest word : List ℕ) (site : ℕ) → EndsIn whole rest → rest ≡ 32 ∷ word → 0 < site
    → IsPlain r.names.sites (drop (length whole - length word) whole) (site - 1) → bytes_eq word (codes "-") ≡ false
    → (s : Option (List ℕ)) × IsSiteBehind v rest s × (site ≡ site_number r s) × (r ≡ with_site_of r s)
site_at_end v r whole rest word site ends behind some found other =
    let plain = at_end r.names.sites whole word (site - 1) (ends_more whole rest (32 ∷ []) word ends behind) found in
    let named = name_word v word (plain_name r.names.sites word (site - 1) plain) in
    let is = plain.is in
    (Some word, Named word behind (named, rw other refl), omega (arith, is, some), sym (site_kept r word plain.known))

some_plain : (word : List ℕ) → is_plain_name word ≡ true → is_name word ≡ true
some_plain [] plain = absurd (cc)
some_plain (byte ∷ bytes) plain =
    let name = byte ∷ bytes in
    let p = and_parts (not (nat_le (length name) 0) && nat_le (length name) 128) (list_all is_plain_byte name) plain in
    let few = (and_parts (not (nat_le (length name) 0)) (nat_le (length name) 128) p.0).1 in
    let all : list_all is_name_byte name ≡ true = p.1 in
    rw (few, all) refl

some_shown : (word : List ℕ) → is_shown_name word ≡ true → is_site_name word ≡ true
some_shown [] shown = absurd (cc)
some_shown (byte ∷ bytes) shown =
    let name = byte ∷ bytes in
    let p = and_parts (not (nat_le (length name) 0) && nat_le (length name) 128) (list_all is_site_byte name) shown in
    let few = (and_parts (not (nat_le (length name) 0)) (nat_le (length name) 128) p.0).1 in
    let all : list_all is_site_byte name ≡ true = p.1 in
    rw (few, all) refl

-- the version says what a site may be
allowed_word : (v : Version) (word : List ℕ) → is_allowed_name (is_third v) word ≡ true → is_site_word v word ≡ true
allowed_word One word plain = some_plain word plain
allowed_word Two word plain = some_plain word plain
allowed_word Three word shown = some_shown word shown

-- the same of a name among those that are allowed
pub site_again : (v : Version) (r : Recording) (rest word : List ℕ) (site : ℕ) → rest ≡ 32 ∷ word → site ≡ number_of r.names.sites word + 1 → is_known r.names.sites word ≡ true
    → is_allowed_name (is_third v) word ≡ true → bytes_eq word (codes "-") ≡ false → (s : Option (List ℕ)) × IsSiteBehind v rest s × (site ≡ site_number r s) × (r ≡ with_site_of r s)
site_again v r rest word site behind is known allowed other =
    (Some word, Named word behind (allowed_word v word allowed, rw other refl), is, sym (site_kept r word known))

site_below : (r : Recording) (s : Option (List ℕ)) → site_number r s ≤ length (with_site_of r s).names.sites
site_below r None = omega arith
site_below r (Some name) = let below = number_below r.names.sites name in omega (arith, below)

threads_kept : (r : Recording) (s : Option (List ℕ)) → (with_site_of r s).names.threads ≡ r.names.threads
threads_kept r None = refl
threads_kept r (Some name) = refl

-- numbers of a thread and of a site that have names
pub site_has_name : (r new : Recording) (s : Option (List ℕ)) (thread site : ℕ) → thread < length r.names.threads → site ≡ site_number r s → new ≡ with_site_of r s
    → (thread < length new.names.threads) × (site ≤ length new.names.sites)
site_has_name r new s thread site known is e = rw (e, is, threads_kept r s) (known, site_below r s)

pub lock_has_name : (r new : Recording) (name : List ℕ) (thread lock : ℕ) → thread < length r.names.threads → lock ≡ number_of r.names.locks name → new ≡ with_lock_name r name
    → (thread < length new.names.threads) × (lock < length new.names.locks)
lock_has_name r new name thread lock known is e = rw (e, is) (known, number_below r.names.locks name)

pub ends_behind : (whole bytes : List ℕ) (value : ℕ) (rest : List ℕ) → EndsIn whole bytes → IsLeadingAddress bytes value rest → EndsIn whole rest
ends_behind whole bytes value rest ends led = ends_more whole bytes (48 ∷ 120 ∷ take led.len led.digits) rest ends (addressed bytes led.digits rest led.len led.is led.behind)

pub ends_line : (names : List (List ℕ)) (bytes : List ℕ) (thread : ℕ) (rest : List ℕ) → IsLeadingThread names bytes thread rest → EndsIn bytes rest
ends_line names bytes thread rest led = (led.name ++ 32 ∷ [], led.front.0 ∙ sym (append_assoc led.name (32 ∷ []) rest))

pub access_added : (r new after : Recording) (line thread : ℕ) (k : Kind) (w : ℕ) (s : Option (List ℕ)) (site : ℕ) → site ≡ site_number r s → new ≡ with_site_of r s
    → after ≡ with_step new (record { thread = thread; event = Access k w site }) line site → after ≡ with_operation line thread (Accesses k w s) r
access_added r new after line thread k w s site is e pushed = pushed ∙ (rw (e, is) refl)

-- an access at what stands behind its address
pub access_behind : (v : Version) (k : Kind) (bytes : List ℕ) (value : ℕ) (rest : List ℕ) (s : Option (List ℕ)) → IsLeadingAddress bytes value rest → IsSiteBehind v rest s
    → IsFastAccess v k bytes (Accesses k (value / 4) s)
access_behind v k bytes value rest s led (Nothing none is) = access_alone v k bytes value rest (Accesses k (value / 4) s) led none (ap (Accesses k (value / 4)) is)
access_behind v k bytes value rest s led (Named site behind named) = access_site v k bytes value rest site s (Accesses k (value / 4) s) led behind named refl

-- a line in its usual form, after which the thread of the last step acts
pub usual_line_read : (line : ℕ) (stage : Stage) (v : Version) (bytes : List ℕ) (idle after : List Bool) (old new : Recording) → stage ≡ Events v
    → ((s : EventLine) × IsFastLine v bytes s × (new ≡ with_line line s old)) → ((thread : ℕ) → last_actor new.steps ≡ Some thread → after ≡ without_idle idle thread)
    → plain_at (at_line line stage idle old) line bytes ≡ Ok (at_line (line + 1) stage after new)
usual_line_read line stage v bytes idle after old new is adds acts =
    let last = ap (λ (r : Recording). last_actor r.steps) adds.2 ∙ adds.1.one line old in
    usual_reads (at_line line stage idle old) line bytes adds.0 v is adds.1
    ∙ ap (λ (r : Recording). Ok (at_line (line + 1) stage (without_idle idle (number_of old.names.threads adds.0.thread)) r)) (sym adds.2)
    ∙ ap (λ (x : List Bool). Ok (at_line (line + 1) stage x new)) (sym (acts (number_of old.names.threads adds.0.thread) last))
