-- The names of a trace are words of its lines, and it has no more locks than event lines.
use Rattle.std.proofs.Common.{◌≡◌, ℕ, ◌+◌, ◌≤◌, Bool, true, false, cond, List, [], ◌∷◌, ◌++◌, length, length-append, codes, Option, Some, None, refl, sym, subst, ◌∙◌, arith}
use Rattle.std.specs.List.{list_all}
use Rattle.std.specs.Str.{bytes_eq}
use Rattle.std.proofs.lemmas.Bool.{and_parts}
use Rattle.std.proofs.lemmas.Bool.Decides.{nat_tests}
use Rattle.std.proofs.lemmas.List.Folds.{list_all-append}
use Rattle.er_lines.specs.Lines.{Placed, words}
use Rattle.er_lines.specs.Naming.{is_lock_name, is_name, is_site_byte}
use Rattle.er_lines.proofs.ReadyLaws.{lock_is_name}
use Rattle.er_text.specs.Events.{EventLine, Operation, Acquires, Releases, Accesses, Reuses, IgnoresOn, IgnoresOff, Shows, Levels, Starts, Joins, Signals, Awaits, with_line, with_operation}
use Rattle.er_text.specs.Naming.{is_site_word}
use Rattle.er_text.specs.Trace.{AllSay, IsOperation, IsReuseSite, IsSite, IsTrace, Says, with_lines}
use Rattle.er_text.specs.declared.verbs.Version.{Version}
use Rattle.er_text.specs.declared.verbs.Version.TheVariants.{One}
use Rattle.er_text.proofs.SiteLemmas.{site_parts}
use Rattle.er_trace.specs.Names.{NameTable, is_known, no_names, with_name}
use Rattle.er_trace.specs.Trace.{Recording, no_steps, with_thread_name}
use Rattle.er_merge.specs.Texts.{HasPlainNames}
use Rattle.er_merge.proofs.ReadLemmas.{no_feed}

abbrev Plain : List ℕ → Type 0
Plain text = list_all no_feed text ≡ true

site_feed : (b : ℕ) → is_site_byte b ≡ true → no_feed b ≡ true
site_feed b e = grind (arith, nat_tests, e)

printed_plain : (w : List ℕ) → list_all is_site_byte w ≡ true → Plain w
printed_plain [] all = refl
printed_plain (b ∷ w) all = let parts = and_parts (is_site_byte b) (list_all is_site_byte w) all in rw (site_feed b parts.0, printed_plain w parts.1) refl

site_plain : (v : Version) (w : List ℕ) → is_site_word v w ≡ true → Plain w
site_plain v w is = printed_plain w (site_parts v w is).printed

word_plain : (w : List ℕ) → is_name w ≡ true → Plain w
word_plain w is = site_plain One w is

lock_plain : (w : List ℕ) → is_lock_name w ≡ true → Plain w
lock_plain w is = word_plain w (lock_is_name w is)

-- one name more
known_plain : (names : List (List ℕ)) (name : List ℕ) (b : Bool) → list_all (list_all no_feed) names ≡ true → Plain name → list_all (list_all no_feed) (cond b names (names ++ name ∷ [])) ≡ true
known_plain names name true all plain = all
known_plain names name false all plain = list_all-append (list_all no_feed) names (name ∷ []) ∙ (rw (all, plain) refl)

name_added : (names : List (List ℕ)) (name : List ℕ) → list_all (list_all no_feed) names ≡ true → Plain name → list_all (list_all no_feed) (with_name names name) ≡ true
name_added names name all plain = known_plain names name (is_known names name) all plain

known_few : (names : List (List ℕ)) (name : List ℕ) (b : Bool) → length (cond b names (names ++ name ∷ [])) ≤ length names + 1
known_few names name true = omega arith
known_few names name false = omega (arith, length-append names (name ∷ []))

one_more : (names : List (List ℕ)) (name : List ℕ) → length (with_name names name) ≤ length names + 1
one_more names name = known_few names name (is_known names name)

-- no name has an LF, and there are so many locks at most
record Stand (names : NameTable) (n : ℕ) : Type 0 where
  threads : list_all (list_all no_feed) names.threads ≡ true
  locks : list_all (list_all no_feed) names.locks ≡ true
  sites : list_all (list_all no_feed) names.sites ≡ true
  few : length names.locks ≤ n

abbrev SitePlain : Option (List ℕ) → Type 0
SitePlain None = Unit {0}
SitePlain (Some site) = Plain site

-- the names that an operation has
abbrev HasPlain : Operation → Type 0
HasPlain (Acquires lock m) = Plain lock
HasPlain (Releases lock m) = Plain lock
HasPlain (Accesses k w site) = SitePlain site
HasPlain (Reuses run site) = SitePlain site
HasPlain IgnoresOn = Unit {0}
HasPlain IgnoresOff = Unit {0}
HasPlain (Shows w) = Unit {0}
HasPlain (Levels n) = Unit {0}
HasPlain (Starts other) = Plain other
HasPlain (Joins other) = Plain other
HasPlain (Signals object) = Plain object
HasPlain (Awaits object) = Plain object

dash_plain : (b : Bool) (word : List ℕ) → Plain word → SitePlain (cond b None (Some word))
dash_plain true word plain = tt
dash_plain false word plain = plain

named_site : (v : Version) (words : List (List ℕ)) (site : Option (List ℕ)) → IsSite v words site → SitePlain site
named_site v [] site is = subst SitePlain (sym is) tt
named_site v (word ∷ []) site is = subst SitePlain (sym is.1) (dash_plain (bytes_eq word (codes "-")) word (site_plain v word is.0))
named_site v (word ∷ more ∷ words) site is = absurd is

named_reuse : (v : Version) (words : List (List ℕ)) (site : Option (List ℕ)) → IsReuseSite v words site → SitePlain site
named_reuse v [] site is = subst SitePlain (sym is) tt
named_reuse v (word ∷ words) site is = named_site v (word ∷ words) site is.1

said_plain : (v : Version) (ws : List (List ℕ)) (thread : List ℕ) (op : Operation) → IsOperation v ws thread op → HasPlain op
said_plain v ws thread (Acquires lock m) is = lock_plain lock is.1
said_plain v ws thread (Releases lock m) is = lock_plain lock is.1
said_plain v ws thread (Accesses k w site) is = named_site v is.2 site is.7
said_plain v ws thread (Reuses run site) is = named_reuse v is.4 site is.12
said_plain v ws thread IgnoresOn is = tt
said_plain v ws thread IgnoresOff is = tt
said_plain v ws thread (Shows w) is = tt
said_plain v ws thread (Levels n) is = tt
said_plain v ws thread (Starts other) is = word_plain other is.1
said_plain v ws thread (Joins other) is = word_plain other is.1
said_plain v ws thread (Signals object) is = lock_plain object is.1
said_plain v ws thread (Awaits object) is = lock_plain object is.1

with_lock : (names : NameTable) (n : ℕ) (lock : List ℕ) → Stand names n → Plain lock → Stand (record names { locks = with_name names.locks lock }) (n + 1)
with_lock names n lock before plain = record {
  threads = before.threads;
  locks = name_added names.locks lock before.locks plain;
  sites = before.sites;
  few = (let few = before.few in omega (arith, few, one_more names.locks lock));
}

with_thread : (names : NameTable) (n : ℕ) (thread : List ℕ) → Stand names n → Plain thread → Stand (record names { threads = with_name names.threads thread }) n
with_thread names n thread before plain = record { threads = name_added names.threads thread before.threads plain; locks = before.locks; sites = before.sites; few = before.few }

with_site : (names : NameTable) (n : ℕ) (site : List ℕ) → Stand names n → Plain site → Stand (record names { sites = with_name names.sites site }) n
with_site names n site before plain = record { threads = before.threads; locks = before.locks; sites = name_added names.sites site before.sites plain; few = before.few }

-- there may be one more
later : (names : NameTable) (n : ℕ) → Stand names n → Stand names (n + 1)
later names n before = record { threads = before.threads; locks = before.locks; sites = before.sites; few = (let few = before.few in omega (arith, few)) }

operation_stands : (line thread : ℕ) (op : Operation) (r : Recording) (n : ℕ) → HasPlain op → Stand r.names n → Stand (with_operation line thread op r).names (n + 1)
operation_stands line thread (Acquires lock m) r n plain before = with_lock r.names n lock before plain
operation_stands line thread (Releases lock m) r n plain before = with_lock r.names n lock before plain
operation_stands line thread (Accesses k w None) r n plain before = later r.names n before
operation_stands line thread (Accesses k w (Some site)) r n plain before = later _ n (with_site r.names n site before plain)
operation_stands line thread (Reuses run None) r n plain before = later r.names n before
operation_stands line thread (Reuses run (Some site)) r n plain before = later _ n (with_site r.names n site before plain)
operation_stands line thread IgnoresOn r n plain before = later r.names n before
operation_stands line thread IgnoresOff r n plain before = later r.names n before
operation_stands line thread (Shows w) r n plain before = later r.names n before
operation_stands line thread (Levels m) r n plain before = later r.names n before
operation_stands line thread (Starts other) r n plain before = later _ n (with_thread r.names n other before plain)
operation_stands line thread (Joins other) r n plain before = later _ n (with_thread r.names n other before plain)
operation_stands line thread (Signals object) r n plain before = with_lock r.names n object before plain
operation_stands line thread (Awaits object) r n plain before = with_lock r.names n object before plain

line_stands : (v : Version) (p : Placed) (s : EventLine) (r : Recording) (n : ℕ) → Says v (words p.line.bytes) s → Stand r.names n → Stand (with_line p.number s r).names (n + 1)
line_stands v p s r n says before =
    operation_stands p.number _ s.operation (with_thread_name r s.thread) n (said_plain v (words p.line.bytes) s.thread s.operation says.1)
    (with_thread r.names n s.thread before (word_plain s.thread says.0))

lines_stand : (v : Version) (ps : List Placed) (ss : List EventLine) (r : Recording) (n m : ℕ) → AllSay v ps ss → n + length ps ≤ m → Stand r.names n → Stand (with_lines ps ss r).names m
lines_stand v [] [] r n m say low before = record { threads = before.threads; locks = before.locks; sites = before.sites; few = (let few = before.few in omega (arith, few, low)) }
lines_stand v [] (s ∷ ss) r n m say low before = absurd say
lines_stand v (p ∷ ps) [] r n m say low before = absurd say
lines_stand v (p ∷ ps) (s ∷ ss) r n m say low before = lines_stand v ps ss (with_line p.number s r) (n + 1) m say.1 (omega (arith, low)) (line_stands v p s r n say.0 before)

none_stand : Stand no_names 0
none_stand = record { threads = refl; locks = refl; sites = refl; few = omega arith }

trace_stands : (text : List ℕ) (limit : ℕ) (t : Recording) (is : IsTrace text limit t) → Stand t.names (length is.events)
trace_stands text limit t is =
    subst (λ (r : Recording). Stand r.names (length is.events)) (sym is.told)
    (lines_stand is.version is.events is.event_lines no_steps 0 (length is.events) is.says (omega arith) none_stand)

pub plain_names : (text : List ℕ) (limit : ℕ) (t : Recording) → IsTrace text limit t → HasPlainNames t.names
plain_names text limit t is = let stand = trace_stands text limit t is in record { threads = stand.threads; locks = stand.locks; sites = stand.sites }

pub few_locks : (text : List ℕ) (limit : ℕ) (t : Recording) (is : IsTrace text limit t) → length t.names.locks ≤ length is.events
few_locks text limit t is = (trace_stands text limit t is).few
