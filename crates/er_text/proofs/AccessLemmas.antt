-- The lines of an access are its words' accesses, once the names of its thread and its site are known.
use Rattle.std.proofs.Common.{◌≡◌, ℕ, zero, suc, ◌+◌, ◌-◌, ◌/◌, ◌≤◌, ◌<◌, true, List, [], ◌∷◌, Option, Some, None, refl, sym, ap, ◌∙◌, arith}
use Rattle.er_event.specs.declared.steps.Event.TheVariants as event
use Rattle.er_event.specs.declared.steps.Kind.{Kind}
use Rattle.er_lines.specs.Lines.{has_bytes}
use Rattle.er_lines.specs.Ready.{IsRight, operand_name, thread_name}
use Rattle.er_lines.specs.declared.ready.NameKind.{NameKind}
use Rattle.er_lines.specs.declared.ready.NameKind.TheVariants as names
use Rattle.er_lines.specs.declared.ready.ReadyLine.{ReadyLine}
use Rattle.er_lines.specs.declared.ready.ReadyVerb.{ReadyVerb}
use Rattle.er_lines.specs.declared.ready.ReadyVerb.TheVariants as does
use Rattle.er_trace.specs.Names.{is_known, number_of}
use Rattle.er_trace.specs.Trace.{Recording, with_site_name, with_step, with_thread_name}
use Rattle.er_trace.proofs.NumberLemmas.{again, given}
use Rattle.er_text.specs.Events.{site_number, with_line, with_site_of}
use Rattle.er_text.proofs.KnownLemmas.{access_named}
use Rattle.er_text.specs.Inner.Ready.{access_kind, is_access, ready_event, site_if, with_accesses, with_lines}

-- names that are known change nothing
abbrev AreKnown : Recording → List ℕ → Option (List ℕ) → Type 0
AreKnown r thread None = is_known r.names.threads thread ≡ true
AreKnown r thread (Some site) = (is_known r.names.threads thread ≡ true) × (is_known r.names.sites site ≡ true)

-- a line of an access, by the names that it adds
abbrev named : Recording → List ℕ → Option (List ℕ) → Recording
named r thread site = with_site_of (with_thread_name r thread) site

line_is : (v : ReadyVerb) (line address : ℕ) (thread name : List ℕ) (r : Recording) → is_access v ≡ true
    → with_line line (ready_event v address thread name) r
    ≡ with_step (named r thread (site_if name)) (record { thread = number_of r.names.threads thread; event = event.Access (access_kind v) (address / 4) (site_number (with_thread_name r thread) (site_if name)) }) line
    (site_number (with_thread_name r thread) (site_if name))
line_is does.Read line address thread name r is = refl
line_is does.Write line address thread name r is = refl
line_is does.Lock line address thread name r is = absurd (cc is)
line_is does.Unlock line address thread name r is = absurd (cc is)
line_is does.ReadLock line address thread name r is = absurd (cc is)
line_is does.ReadUnlock line address thread name r is = absurd (cc is)

-- what is known already stays as it is
named_again : (r : Recording) (thread : List ℕ) (site : Option (List ℕ)) → AreKnown r thread site → (named r thread site ≡ r) × (site_number (with_thread_name r thread) site ≡ site_number r site)
named_again r thread None known = (rw known refl, refl)
named_again r thread (Some site) known = (rw known.0 (rw known.1 refl), refl)

known_now : (r : Recording) (thread : List ℕ) (site : Option (List ℕ)) → AreKnown (named r thread site) thread site
known_now r thread None = given r.names.threads thread
known_now r thread (Some site) = (given r.names.threads thread, given r.names.sites site)

-- their numbers too
numbers_now : (r : Recording) (thread : List ℕ) (site : Option (List ℕ))
    → (number_of (named r thread site).names.threads thread ≡ number_of r.names.threads thread) × (site_number (named r thread site) site ≡ site_number (with_thread_name r thread) site)
numbers_now r thread None = (again r.names.threads thread, refl)
numbers_now r thread (Some site) = (again r.names.threads thread, ap (λ (n : ℕ). n + 1) (again r.names.sites site))

known_step : (r s : Recording) (thread : List ℕ) (site : Option (List ℕ)) → s.names ≡ r.names → AreKnown r thread site → AreKnown s thread site
known_step r s thread None same known = rw same known
known_step r s thread (Some site) same known = (rw same known.0, rw same known.1)

-- a line whose names are known
line_known : (v : ReadyVerb) (line address : ℕ) (thread name : List ℕ) (r : Recording) (by at : ℕ) → is_access v ≡ true → AreKnown r thread (site_if name)
    → by ≡ number_of r.names.threads thread → at ≡ site_number r (site_if name)
    → with_line line (ready_event v address thread name) r ≡ with_step r (record { thread = by; event = event.Access (access_kind v) (address / 4) at }) line at
line_known v line address thread name r by at is known number place =
    let same = named_again r thread (site_if name) known in
    line_is v line address thread name r is
    ∙ ap (λ (n : ℕ). with_step (named r thread (site_if name)) (record { thread = number_of r.names.threads thread; event = event.Access (access_kind v) (address / 4) n }) line n) (same.1 ∙ sym place)
    ∙ ap (λ (n : ℕ). with_step (named r thread (site_if name)) (record { thread = n; event = event.Access (access_kind v) (address / 4) at }) line at) (sym number)
    ∙ ap (λ (q : Recording). with_step q (record { thread = by; event = event.Access (access_kind v) (address / 4) at }) line at) same.0

site_kept : (r s : Recording) (site : Option (List ℕ)) → s.names ≡ r.names → site_number s site ≡ site_number r site
site_kept r s None same = refl
site_kept r s (Some site) same = rw same refl

lines_known : (n : ℕ) (v : ReadyVerb) (line address word : ℕ) (thread name : List ℕ) (r : Recording) (by at : ℕ) → is_access v ≡ true → AreKnown r thread (site_if name)
    → by ≡ number_of r.names.threads thread → at ≡ site_number r (site_if name) → word ≡ address / 4
    → with_lines line v address thread name n r ≡ with_accesses by (access_kind v) word at line n r
lines_known zero v line address word thread name r by at is known number place first = refl
lines_known (suc n) v line address word thread name r by at is known number place first =
    let s : Recording = with_step r (record { thread = by; event = event.Access (access_kind v) (address / 4) at }) line at in
    let next : word + 1 ≡ (address + 4) / 4 = omega (arith, first) in
    ap (with_lines (line + 1) v (address + 4) thread name n) (line_known v line address thread name r by at is known number place)
    ∙ lines_known n v (line + 1) (address + 4) (word + 1) thread name s by at is (known_step r s thread (site_if name) refl known) number (place ∙ sym (site_kept r s (site_if name) refl)) next
    ∙ ap (λ (w : ℕ). with_accesses by (access_kind v) (word + 1) at (line + 1) n (with_step r (record { thread = by; event = event.Access (access_kind v) w at }) line at)) (sym first)

-- a line gives its names their numbers itself
line_named : (v : ReadyVerb) (line address : ℕ) (thread name : List ℕ) (r : Recording) → is_access v ≡ true
    → with_line line (ready_event v address thread name) r ≡ with_line line (ready_event v address thread name) (named r thread (site_if name))
line_named v line address thread name r is =
    let s = named r thread (site_if name) in
    let numbers = numbers_now r thread (site_if name) in
    line_is v line address thread name r is
    ∙ sym (line_known v line address thread name s (number_of r.names.threads thread) (site_number (with_thread_name r thread) (site_if name)) is (known_now r thread (site_if name)) (sym numbers.0) (sym numbers.1))

-- the accesses that were added, behind the names
pub lines_added : (n : ℕ) (v : ReadyVerb) (line address word : ℕ) (thread name : List ℕ) (r s : Recording) (by at : ℕ) → is_access v ≡ true → 1 ≤ n
    → by ≡ number_of r.names.threads thread → at ≡ site_number (with_thread_name r thread) (site_if name) → s ≡ with_site_of (with_thread_name r thread) (site_if name) → word ≡ address / 4
    → with_accesses by (access_kind v) word at line n s ≡ with_lines line v address thread name n r
lines_added zero v line address word thread name r s by at is some number place grown first = absurd (omega (arith, some))
lines_added (suc n) v line address word thread name r s by at is some number place grown first =
    let numbers = numbers_now r thread (site_if name) in
    let q = named r thread (site_if name) in
    ap (with_accesses by (access_kind v) word at line (suc n)) grown
    ∙ sym (lines_known (suc n) v line address word thread name q by at is (known_now r thread (site_if name)) (number ∙ sym numbers.0) (place ∙ sym numbers.1) first)
    ∙ ap (with_lines (line + 1) v (address + 4) thread name n) (sym (line_named v line address thread name r is))

site_some : (name : List ℕ) → has_bytes name ≡ true → site_if name ≡ Some name
site_some [] some = absurd (cc some)
site_some (byte ∷ bytes) some = refl

none_named : (of : NameKind → ℕ → List ℕ) (line : ReadyLine) → line.name ≡ None → operand_name of line ≡ []
none_named of line none = rw none refl

-- by the numbers of a reader's names: at no site, and at one
pub lines_at_none : (of : NameKind → ℕ → List ℕ) (line : ReadyLine) (number by : ℕ) (r t : Recording) → is_access line.verb ≡ true → IsRight of line → line.name ≡ None
    → by ≡ number_of r.names.threads (thread_name of line) → t ≡ with_thread_name r (thread_name of line)
    → with_accesses by (access_kind line.verb) (line.address / 4) 0 number line.count t ≡ with_lines number line.verb line.address (thread_name of line) (operand_name of line) line.count r
lines_at_none of line number by r t is right none numbered grown =
    let no = none_named of line none in
    rw no (lines_added line.count line.verb number line.address (line.address / 4) (thread_name of line) [] r t by 0 is right.some numbered refl grown refl)

pub lines_at_site : (of : NameKind → ℕ → List ℕ) (line : ReadyLine) (place number by at : ℕ) (r t s : Recording) → is_access line.verb ≡ true → IsRight of line → line.name ≡ Some place
    → by ≡ number_of r.names.threads (thread_name of line) → t ≡ with_thread_name r (thread_name of line)
    → at ≡ number_of t.names.sites (of names.Site place) + 1 → s ≡ with_site_name t (of names.Site place)
    → with_accesses by (access_kind line.verb) (line.address / 4) at number line.count s ≡ with_lines number line.verb line.address (thread_name of line) (operand_name of line) line.count r
lines_at_site of line place number by at r t s is right named_so numbered grown placed more =
    let site = of names.Site place in
    let is_named = access_named of line place is right named_so in
    let some = site_some site is_named.0 in
    let site_at : at ≡ site_number (with_thread_name r (thread_name of line)) (site_if site) =
    placed ∙ ap (λ (q : Recording). number_of q.names.sites site + 1) grown ∙ sym (ap (site_number (with_thread_name r (thread_name of line))) some) in
    let all : s ≡ with_site_of (with_thread_name r (thread_name of line)) (site_if site) =
    more ∙ ap (λ (q : Recording). with_site_name q site) grown ∙ sym (ap (with_site_of (with_thread_name r (thread_name of line))) some) in
    rw is_named.1 (lines_added line.count line.verb number line.address (line.address / 4) (thread_name of line) site r s by at is right.some numbered site_at all refl)

-- the first of the accesses that are left
pub accesses_next : (thread : ℕ) (k : Kind) (word site line count i : ℕ) (r s : Recording) → i < count → s ≡ with_step r (record { thread = thread; event = event.Access k word site }) line site
    → with_accesses thread k word site line (count - i) r ≡ with_accesses thread k (word + 1) site (line + 1) (count - (i + 1)) s
accesses_next thread k word site line count i r s less is =
    let next : count - i ≡ suc (count - (i + 1)) = omega (arith, less) in
    ap (λ (n : ℕ). with_accesses thread k word site line n r) next ∙ ap (with_accesses thread k (word + 1) site (line + 1) (count - (i + 1))) (sym is)
