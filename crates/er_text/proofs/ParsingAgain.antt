-- The words that the grammar allows for an event are read as what it says of them.
use Rattle.std.proofs.Common.{◌≡◌, ℕ, ◌+◌, ◌/◌, ◌^◌, ◌<◌, ◌≤◌, Bool, true, false, cond, List, [], ◌∷◌, Option, Some, None, Ok, nat_lt, nat_le, codes, refl, sym, ap, ◌∙◌, arith}
use Rattle.std.specs.Str.{bytes_eq}
use Rattle.std.proofs.lemmas.Bool.Decides.{nat_tests}
use Rattle.er_event.specs.Span.{Span}
use Rattle.er_event.specs.declared.steps.Kind.{Kind}
use Rattle.er_event.specs.declared.steps.Kind.TheVariants as kind
use Rattle.er_event.specs.declared.steps.Mode.{Mode}
use Rattle.er_event.specs.declared.steps.Mode.TheVariants as mode
use Rattle.er_text.specs.declared.verbs.Verb.TheVariants as verb
use Rattle.er_text.specs.declared.verbs.Version.{Version}
use Rattle.er_lines.specs.Lines.{has_bytes}
use Rattle.er_lines.specs.Number.{number_of}
use Rattle.er_lines.specs.Naming.{is_name, is_lock_name}
use Rattle.er_text.specs.Naming.{is_site_word}
use Rattle.er_text.specs.Verbs.{is_third, verb_of}
use Rattle.er_text.specs.Events.{Operation, Acquires, Releases, Accesses, Reuses, IgnoresOn, IgnoresOff, Shows, Levels, Starts, Joins, Signals, Awaits, EventLine, run_of}
use Rattle.er_text.specs.Inner.Parsing.{name_in, lock_in, site_in, word_in, level_in, run_in, parsed_of}
use Rattle.er_text.specs.Trace.{acquire_word, release_word, kind_word, IsSite, IsReuseSite, IsOperation, Says}
use Rattle.er_text.proofs.SpellingLaws.{spelled_verb}
use Rattle.er_text.proofs.SiteLemmas.{site_parts}
use Rattle.er_lines.proofs.SaidLemmas.{some_number}

pub some_name : (word : List ℕ) → is_name word ≡ true → has_bytes word ≡ true
some_name [] name = absurd (cc)
some_name (x ∷ xs) name = refl

some_lock : (word : List ℕ) → is_lock_name word ≡ true → has_bytes word ≡ true
some_lock [] name = absurd (cc)
some_lock (x ∷ xs) name = refl

word_again : (n : ℕ) → n < 2 ^ 48 → word_in n ≡ Ok (n / 4)
word_again n small = let test : nat_le (2 ^ 48) n ≡ false = grind (arith, nat_tests, small) in rw test refl

level_again : (n : ℕ) → n ≤ 31 → level_in n ≡ Ok n
level_again n low = let test : nat_lt 31 n ≡ false = grind (arith, nat_tests, low) in rw test refl

run_again : (a n : ℕ) → n ≤ 4194304 → a < 2 ^ 48 → a + n ≤ 2 ^ 48 → run_in a n ≡ Ok (run_of a n)
run_again a n small low within =
    let x : nat_lt 4194304 n ≡ false = grind (arith, nat_tests, small) in
    let y : nat_le (2 ^ 48) a ≡ false = grind (arith, nat_tests, low) in
    let z : nat_lt (2 ^ 48) (a + n) ≡ false = grind (arith, nat_tests, within) in
    rw (x, y, z) refl

lock_again : (l : List ℕ) → is_lock_name l ≡ true → lock_in l ≡ Ok l
lock_again l lock = rw lock refl

name_again : (w : List ℕ) → is_name w ≡ true → name_in w ≡ Ok w
name_again w name = rw name refl

locked : (version : Version) (t l : List ℕ) (m : Mode) → is_name t ≡ true → is_lock_name l ≡ true
    → parsed_of version (t ∷ acquire_word m ∷ l ∷ []) ≡ Ok (record { thread = t; operation = Acquires l m })
locked version t l mode.Write name lock = rw (name, lock_again l lock, some_lock l lock) refl
locked version t l mode.Read name lock = rw (name, lock_again l lock, some_lock l lock) refl

unlocked : (version : Version) (t l : List ℕ) (m : Mode) → is_name t ≡ true → is_lock_name l ≡ true
    → parsed_of version (t ∷ release_word m ∷ l ∷ []) ≡ Ok (record { thread = t; operation = Releases l m })
unlocked version t l mode.Write name lock = rw (name, lock_again l lock, some_lock l lock) refl
unlocked version t l mode.Read name lock = rw (name, lock_again l lock, some_lock l lock) refl

plain_access : (version : Version) (t a : List ℕ) (k : Kind) (n : ℕ) → is_name t ≡ true → number_of a ≡ Some n → n < 2 ^ 48
    → parsed_of version (t ∷ kind_word k ∷ a ∷ []) ≡ Ok (record { thread = t; operation = Accesses k (n / 4) None })
plain_access version t a kind.Read n name number small = rw (name, some_number a n number, number, word_again n small) refl
plain_access version t a kind.Write n name number small = rw (name, some_number a n number, number, word_again n small) refl

pub site_again : (v : Version) (dash : Bool) (w : List ℕ) → bytes_eq w (codes "-") ≡ dash → is_site_word v w ≡ true → site_in v w ≡ Ok (cond dash None (Some w))
site_again v true w is site = rw (is, (site_parts v w site).some) refl
site_again v false w is site = rw (is, site, (site_parts v w site).some) refl

site_access : (version : Version) (t a w : List ℕ) (k : Kind) (n : ℕ) (site : Option (List ℕ)) → is_name t ≡ true → number_of a ≡ Some n → n < 2 ^ 48 → has_bytes w ≡ true
    → site_in version w ≡ Ok site → parsed_of version (t ∷ kind_word k ∷ a ∷ w ∷ []) ≡ Ok (record { thread = t; operation = Accesses k (n / 4) site })
site_access version t a w kind.Read n site name number small some is = rw (name, some_number a n number, number, is, some, word_again n small) refl
site_access version t a w kind.Write n site name number small some is = rw (name, some_number a n number, number, is, some, word_again n small) refl

accessed : (version : Version) (t a : List ℕ) (k : Kind) (n : ℕ) (behind : List (List ℕ)) (site : Option (List ℕ)) → is_name t ≡ true → number_of a ≡ Some n → n < 2 ^ 48
    → IsSite version behind site → parsed_of version (t ∷ kind_word k ∷ a ∷ behind) ≡ Ok (record { thread = t; operation = Accesses k (n / 4) site })
accessed version t a k n [] site name number small is =
    plain_access version t a k n name number small ∙ ap (λ (s : Option (List ℕ)). Ok (record { thread = t; operation = Accesses k (n / 4) s })) (sym is)
accessed version t a k n (w ∷ []) site name number small is =
    site_access version t a w k n site name number small (site_parts version w is.0).some (site_again version (bytes_eq w (codes "-")) w refl is.0 ∙ ap Ok (sym is.1))
accessed version t a k n (w ∷ x ∷ ws) site name number small is = absurd is

three_operands : (version : Version) (b : Bool) → is_third version ≡ b → nat_lt (cond b 3 2) 2 ≡ false
three_operands version true is = refl
three_operands version false is = refl

reused : (version : Version) (t a b : List ℕ) (m n : ℕ) (behind : List (List ℕ)) (site : Option (List ℕ)) → is_name t ≡ true → number_of a ≡ Some m → number_of b ≡ Some n → n ≤ 4194304
    → m < 2 ^ 48 → m + n ≤ 2 ^ 48 → IsReuseSite version behind site
    → parsed_of version (t ∷ codes "reuse" ∷ a ∷ b ∷ behind) ≡ Ok (record { thread = t; operation = Reuses (run_of m n) site })
reused version t a b m n [] site name first second small low within is =
    (rw (name, some_number a m first, some_number b n second, three_operands version (is_third version) refl, first, second, run_again m n small low within) refl)
    ∙ ap (λ (s : Option (List ℕ)). Ok (record { thread = t; operation = Reuses (run_of m n) s })) (sym is)
reused version t a b m n (w ∷ []) site name first second small low within is =
    let known : site_in version w ≡ Ok site = site_again version (bytes_eq w (codes "-")) w refl is.1.0 ∙ ap Ok (sym is.1.1) in
    rw (name, some_number a m first, some_number b n second, first, second, known, (site_parts version w is.1.0).some, is.0, run_again m n small low within) refl
reused version t a b m n (w ∷ x ∷ ws) site name first second small low within is = absurd is.1

showed : (version : Version) (t a : List ℕ) (n : ℕ) → is_name t ≡ true → number_of a ≡ Some n → n < 2 ^ 48
    → parsed_of version (t ∷ codes "show" ∷ a ∷ []) ≡ Ok (record { thread = t; operation = Shows (n / 4) })
showed version t a n name number small = rw (name, some_number a n number, number, word_again n small) refl

leveled : (version : Version) (t a : List ℕ) (n : ℕ) → verb_of version (codes "level") ≡ Some verb.Level → is_name t ≡ true → number_of a ≡ Some n → n ≤ 31
    → parsed_of version (t ∷ codes "level" ∷ a ∷ []) ≡ Ok (record { thread = t; operation = Levels n })
leveled version t a n known name number low = rw (known, name, some_number a n number, number, level_again n low) refl

started : (version : Version) (t u : List ℕ) → verb_of version (codes "start") ≡ Some verb.Start → is_name t ≡ true → is_name u ≡ true
    → parsed_of version (t ∷ codes "start" ∷ u ∷ []) ≡ Ok (record { thread = t; operation = Starts u })
started version t u known name other = rw (known, name, name_again u other, some_name u other) refl

joined : (version : Version) (t u : List ℕ) → verb_of version (codes "join") ≡ Some verb.Join → is_name t ≡ true → is_name u ≡ true
    → parsed_of version (t ∷ codes "join" ∷ u ∷ []) ≡ Ok (record { thread = t; operation = Joins u })
joined version t u known name other = rw (known, name, name_again u other, some_name u other) refl

signaled : (version : Version) (t x : List ℕ) → verb_of version (codes "signal") ≡ Some verb.Signal → is_name t ≡ true → is_lock_name x ≡ true
    → parsed_of version (t ∷ codes "signal" ∷ x ∷ []) ≡ Ok (record { thread = t; operation = Signals x })
signaled version t x known name lock = rw (known, name, lock_again x lock, some_lock x lock) refl

awaited : (version : Version) (t x : List ℕ) → verb_of version (codes "await") ≡ Some verb.Await → is_name t ≡ true → is_lock_name x ≡ true
    → parsed_of version (t ∷ codes "await" ∷ x ∷ []) ≡ Ok (record { thread = t; operation = Awaits x })
awaited version t x known name lock = rw (known, name, lock_again x lock, some_lock x lock) refl

operation_again : (version : Version) (ws : List (List ℕ)) (t : List ℕ) (operation : Operation) → is_name t ≡ true → IsOperation version ws t operation
    → parsed_of version ws ≡ Ok (record { thread = t; operation = operation })
operation_again version ws t (Acquires l m) name is = ap (parsed_of version) is.0 ∙ locked version t l m name is.1
operation_again version ws t (Releases l m) name is = ap (parsed_of version) is.0 ∙ unlocked version t l m name is.1
operation_again version ws t (Accesses k w site) name is =
    ap (parsed_of version) is.3 ∙ accessed version t is.0 k is.1 is.2 site name is.4 is.5 is.7
    ∙ ap (λ (n : ℕ). Ok (record { thread = t; operation = Accesses k n site })) (sym is.6)
operation_again version ws t (Reuses run site) name is =
    ap (parsed_of version) is.5 ∙ reused version t is.0 is.1 is.2 is.3 is.4 site name is.6 is.7 is.8 is.9 is.10 is.12
    ∙ ap (λ (r : Option Span). Ok (record { thread = t; operation = Reuses r site })) (sym is.11)
operation_again version ws t IgnoresOn name is = ap (parsed_of version) is ∙ (rw name refl)
operation_again version ws t IgnoresOff name is = ap (parsed_of version) is ∙ (rw name refl)
operation_again version ws t (Shows w) name is =
    ap (parsed_of version) is.2 ∙ showed version t is.0 is.1 name is.3 is.4 ∙ ap (λ (n : ℕ). Ok (record { thread = t; operation = Shows n })) (sym is.5)
operation_again version ws t (Levels n) name is =
    ap (parsed_of version) is.1 ∙ leveled version t is.0 n (spelled_verb version verb.Level is.4) name is.2 is.3
operation_again version ws t (Starts other) name is = ap (parsed_of version) is.0 ∙ started version t other (spelled_verb version verb.Start is.2) name is.1
operation_again version ws t (Joins other) name is = ap (parsed_of version) is.0 ∙ joined version t other (spelled_verb version verb.Join is.2) name is.1
operation_again version ws t (Signals object) name is = ap (parsed_of version) is.0 ∙ signaled version t object (spelled_verb version verb.Signal is.2) name is.1
operation_again version ws t (Awaits object) name is = ap (parsed_of version) is.0 ∙ awaited version t object (spelled_verb version verb.Await is.2) name is.1

-- the words of an event line are read as what they say
pub says_parsed : (version : Version) (ws : List (List ℕ)) (s : EventLine) → Says version ws s → parsed_of version ws ≡ Ok s
says_parsed version ws s says = operation_again version ws s.thread s.operation says.0 says.1
