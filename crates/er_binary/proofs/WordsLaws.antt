-- Lines that are taken of words and of lock events.
use Rattle.std.proofs.Common.{◌≡◌, ◌==◌, ◌&&◌, ℕ, zero, suc, ◌+◌, ◌≤◌, ◌*◌, ◌%◌, ◌^◌, ◌<◌, Bool, true, false, nat_lt, List, [], ◌∷◌, ◌++◌, length, codes, Option, Some, IfSome, refl, sym, ap, subst, ◌∙◌, arith, append_assoc, append-nil, if◌then◌else◌, None, length-append}
use Rattle.std.proofs.lemmas.Bool.Decides.{nat_tests}
use Rattle.std.proofs.lemmas.List.Folds.{list_all_at}
use Rattle.std.specs.List.{list_all}
use Rattle.er_lines.specs.Naming.{is_name, is_lock_name}
use Rattle.er_lines.specs.Lines.{has_bytes}
use Rattle.er_lines.specs.Ready.{IsRight, KeepsNames, is_ready, kind_behind, line_text, name_by, name_word, ready_text, words_text as lines_text}
use Rattle.er_lines.specs.declared.ready.NameKind.{NameKind}
use Rattle.er_lines.specs.declared.ready.NameKind.TheVariants as names
use Rattle.er_lines.specs.declared.ready.ReadyVerb.{ReadyVerb}
use Rattle.er_lines.specs.declared.ready.ReadyVerb.TheVariants as does
use Rattle.er_binary.specs.Inner.Words.{AreNamed, IsSite, counted, kind_for, verb_for}
use Rattle.er_binary.specs.Meaning.{take_said}
use Rattle.er_binary.specs.Touches.{lines_alone}
use Rattle.er_binary.specs.declared.records.Record.TheVariants as said
use Rattle.er_binary.specs.Numbers.{address_word, name_at}
use Rattle.er_binary.specs.States.{after, is_place, is_right, names_in}
use Rattle.er_binary.specs.declared.records.Kind.{Kind}
use Rattle.er_binary.specs.declared.records.Kind.TheVariants as kind
use Rattle.er_binary.specs.Texts.{access_lines, feed, site, thread_does, word as word_of}
use Rattle.er_binary.specs.declared.state.State.{State}
use Rattle.er_binary.specs.declared.state.Words.{Words}

or_not : (b : Bool) → (b ≡ false → true ≡ false) → b ≡ true
or_not true f = refl
or_not false f = sym (f refl)

-- one of some names is a name of their kind
pub named_at : (p : List ℕ → Bool) (names : List (List ℕ)) (n : ℕ) → list_all p names ≡ true → n < length names → p (name_at names n) ≡ true
named_at p names n all less = or_not (p (name_at names n)) (λ other. cc (all, list_all_at p names n [] less other))

-- a line of an access, made of its parts
access_line : (s : State) (writes : Bool) (node word thread : ℕ) (name : Option ℕ) → s.thread ≡ Some thread → IsSite s node name
    → thread_does s (if writes then codes "write" else codes "read") ++ address_word (4 * word) ++ site s node ++ feed
    ≡ ready_text (verb_for writes) (word * 4) (name_at s.threads thread) (name_by (name_at s.places) name)
unfolding ready_text
access_line s true node word thread name is known =
    let order : 4 * word ≡ word * 4 = omega arith in
    rw (known.0, order, is) (ap (λ (t : List ℕ). t ++ feed) (append_assoc (name_at s.threads thread ++ word_of (codes "write")) (address_word (word * 4)) (name_word (name_by (name_at s.places) name))))
access_line s false node word thread name is known =
    let order : 4 * word ≡ word * 4 = omega arith in
    rw (known.0, order, is) (ap (λ (t : List ℕ). t ++ feed) (append_assoc (name_at s.threads thread ++ word_of (codes "read")) (address_word (word * 4)) (name_word (name_by (name_at s.places) name))))

-- the lines of so many words
lines_are : (n : ℕ) (s : State) (writes : Bool) (node word thread : ℕ) (name : Option ℕ) → s.thread ≡ Some thread → IsSite s node name
    → access_lines s (if writes then codes "write" else codes "read") node word n ≡ lines_text (verb_for writes) (word * 4) (name_at s.threads thread) (name_by (name_at s.places) name) n
unfolding access_lines lines_text
lines_are zero s writes node word thread name is known = refl
lines_are (suc n) s writes node word thread name is known =
    let next : (word + 1) * 4 ≡ word * 4 + 4 = omega arith in
    let more = access_lines s (if writes then codes "write" else codes "read") node (word + 1) n in
    ap (λ (t : List ℕ). t ++ more) (access_line s writes node word thread name is known)
    ∙ ap (λ (t : List ℕ). ready_text (verb_for writes) (word * 4) (name_at s.threads thread) (name_by (name_at s.places) name) ++ t)
    (lines_are n s writes node (word + 1) thread name is known ∙ ap (λ (a : ℕ). lines_text (verb_for writes) a (name_at s.threads thread) (name_by (name_at s.places) name) n) next)

pub access_text_is : (n : ℕ) (s : State) (writes : Bool) (node word thread width : ℕ) (name : Option ℕ) → s.thread ≡ Some thread → IsSite s node name
    → access_lines s (if writes then codes "write" else codes "read") node word n
    ≡ line_text (names_in s) (record { verb = verb_for writes; address = word * 4; thread = thread; name = name; count = n; width = width })
access_text_is n s true node word thread width name is known = lines_are n s true node word thread name is known
access_text_is n s false node word thread width name is known = lines_are n s false node word thread name is known

-- one word's lines are one line
one_line : (v : ReadyVerb) (address : ℕ) (thread name : List ℕ) → lines_text v address thread name 1 ≡ ready_text v address thread name
unfolding lines_text
one_line v address thread name = append-nil (ready_text v address thread name)

-- a test that gave words, or none
pub words_by : (b : Bool) (w v : Words) (o : Option Words) → o ≡ (if b then Some w else None) → o ≡ Some v → (b ≡ true) × (v ≡ w)
words_by true w v o is some = (refl, cc (is, some))
words_by false w v o is some = absurd (cc (is, some))

pub words_no : (b : Bool) (w : Words) (o : Option Words) → o ≡ (if b then Some w else None) → o ≡ None → b ≡ false
words_no true w o is none = absurd (cc (is, none))
words_no false w o is none = refl

-- each of them is well formed
pub access_right : (s : State) (writes : Bool) (node address thread : ℕ) (name : Option ℕ) → AreNamed s → s.thread ≡ Some thread → address % 4 ≡ 0 → address < 2 ^ 48 → IsSite s node name
    → is_ready (verb_for writes) address (name_at s.threads thread) (name_by (name_at s.places) name) ≡ true
unfolding is_ready
access_right s true node address thread name named known even below site =
    let evenly : (address % 4 == 0) ≡ true = grind (arith, nat_tests, even) in
    let test : nat_lt address (2 ^ 48) ≡ true = grind (arith, nat_tests, below) in
    rw (named_at is_name s.threads thread named.0 (named.3 thread known), evenly, test) site.1
access_right s false node address thread name named known even below site =
    let evenly : (address % 4 == 0) ≡ true = grind (arith, nat_tests, even) in
    let test : nat_lt address (2 ^ 48) ≡ true = grind (arith, nat_tests, below) in
    rw (named_at is_name s.threads thread named.0 (named.3 thread known), evenly, test) site.1

-- a lock event is taken as its line, by the tests that it passes
lock_by : (s : State) (rest : List ℕ) (lock len : ℕ) {P : Type 0} → lock < length s.locks → (nat_lt lock (length s.locks) ≡ true → nat_lt (length rest) 0 ≡ false → len + 0 ≡ len → P) → P
lock_by s rest lock len less f = f (grind (arith, nat_tests)) (grind (arith, nat_tests)) (omega arith)

by_kind : (o : Option Kind) (k : Kind) (P : Kind → Type 0) → o ≡ Some k → IfSome o P → P k
by_kind None k P is p = absurd (cc is)
by_kind (Some j) k P is p = subst P (cc is) p

abbrev IsTaken : State → ReadyVerb → ℕ → ℕ → ℕ → ℕ → List ℕ → Kind → Type 0
IsTaken s v lock thread width len rest k = take_said s len rest (said.Other k lock) ≡ Some (record { text = ready_text v 0 (name_at s.threads thread) (names_in s (kind_behind v) lock); state = counted s; len = len; says = lines_alone 1 })

verb_taken : (s : State) (v : ReadyVerb) (lock thread width len : ℕ) (rest : List ℕ) → s.thread ≡ Some thread → lock < length s.locks → IfSome (kind_for v) (IsTaken s v lock thread width len rest)
unfolding ready_text
verb_taken s does.Read lock thread width len rest is less = tt
verb_taken s does.Write lock thread width len rest is less = tt
verb_taken s does.Lock lock thread width len rest is less = lock_by s rest lock len less (λ test zero none. rw (test, zero, none, is) refl)
verb_taken s does.Unlock lock thread width len rest is less = lock_by s rest lock len less (λ test zero none. rw (test, zero, none, is) refl)
verb_taken s does.ReadLock lock thread width len rest is less = lock_by s rest lock len less (λ test zero none. rw (test, zero, none, is) refl)
verb_taken s does.ReadUnlock lock thread width len rest is less = lock_by s rest lock len less (λ test zero none. rw (test, zero, none, is) refl)

pub lock_taken : (s : State) (v : ReadyVerb) (k : Kind) (lock thread width len : ℕ) (rest : List ℕ) → kind_for v ≡ Some k → s.thread ≡ Some thread → lock < length s.locks
    → take_said s len rest (said.Other k lock) ≡ Some (record { text = line_text (names_in s) (record { verb = v; address = 0; thread = thread; name = Some lock; count = 1; width = width }); state = counted s; len = len; says = lines_alone 1 })
lock_taken s v k lock thread width len rest right is less =
    by_kind (kind_for v) k (IsTaken s v lock thread width len rest) right (verb_taken s v lock thread width len rest is less)
    ∙ ap (λ (t : List ℕ). Some (record { text = t; state = counted s; len = len; says = lines_alone 1 })) (sym (one_line v 0 (name_at s.threads thread) (names_in s (kind_behind v) lock)))

pub lock_right : (s : State) (v : ReadyVerb) (k : Kind) (lock thread : ℕ) → kind_for v ≡ Some k → AreNamed s → s.thread ≡ Some thread → lock < length s.locks
    → is_ready v 0 (name_at s.threads thread) (name_at s.locks lock) ≡ true
unfolding is_ready
lock_right s does.Read k lock thread right named known less = absurd (cc right)
lock_right s does.Write k lock thread right named known less = absurd (cc right)
lock_right s does.Lock k lock thread right named known less = rw (named_at is_name s.threads thread named.0 (named.3 thread known)) (named_at is_lock_name s.locks lock named.1 less)
lock_right s does.Unlock k lock thread right named known less = rw (named_at is_name s.threads thread named.0 (named.3 thread known)) (named_at is_lock_name s.locks lock named.1 less)
lock_right s does.ReadLock k lock thread right named known less = rw (named_at is_name s.threads thread named.0 (named.3 thread known)) (named_at is_lock_name s.locks lock named.1 less)
lock_right s does.ReadUnlock k lock thread right named known less = rw (named_at is_name s.threads thread named.0 (named.3 thread known)) (named_at is_lock_name s.locks lock named.1 less)

-- a place and a lock have bytes
place_bytes : (w : List ℕ) → is_place w ≡ true → has_bytes w ≡ true
place_bytes [] is = absurd (cc is)
place_bytes (b ∷ bs) is = refl

lock_bytes : (w : List ℕ) → is_lock_name w ≡ true → has_bytes w ≡ true
lock_bytes [] is = absurd (cc is)
lock_bytes (b ∷ bs) is = refl

pub named_site : (s : State) → AreNamed s → (name : Option ℕ) → IfSome name (λ n. n < length s.places) → IfSome name (λ n. has_bytes (name_at s.places n) ≡ true)
named_site s named None less = tt
named_site s named (Some n) less = place_bytes (name_at s.places n) (named_at is_place s.places n named.2 less)

-- all lines are right
pub lines_right : (s : State) (writes : Bool) (address thread count width : ℕ) (name : Option ℕ) → 1 ≤ count → count ≤ 5
    → ((i : ℕ) → i < count → is_ready (verb_for writes) (address + 4 * i) (name_at s.threads thread) (name_by (name_at s.places) name) ≡ true)
    → width ≡ length (ready_text (verb_for writes) address (name_at s.threads thread) (name_by (name_at s.places) name)) → IfSome name (λ n. has_bytes (name_at s.places n) ≡ true)
    → IsRight (names_in s) (record { verb = verb_for writes; address = address; thread = thread; name = name; count = count; width = width })
lines_right s true address thread count width name some few form size named = record { some = some; few = few; alone = λ lock. absurd (cc lock); form = form; width = size; named = named }
lines_right s false address thread count width name some few form size named = record { some = some; few = few; alone = λ lock. absurd (cc lock); form = form; width = size; named = named }

-- the only one
form_alone : (v : ReadyVerb) (thread name : List ℕ) → is_ready v 0 thread name ≡ true → (i : ℕ) → i < 1 → is_ready v (0 + 4 * i) thread name ≡ true
form_alone v thread name form i less = let none : 0 + 4 * i ≡ 0 = omega (arith, less) in ap (λ (a : ℕ). is_ready v a thread name) none ∙ form

pub lock_line_right : (s : State) (v : ReadyVerb) (k : Kind) (lock thread width : ℕ) → kind_for v ≡ Some k → AreNamed s → lock < length s.locks
    → is_ready v 0 (name_at s.threads thread) (name_at s.locks lock) ≡ true → width ≡ length (ready_text v 0 (name_at s.threads thread) (name_at s.locks lock))
    → IsRight (names_in s) (record { verb = v; address = 0; thread = thread; name = Some lock; count = 1; width = width })
lock_line_right s does.Read k lock thread width right named less form size = absurd (cc right)
lock_line_right s does.Write k lock thread width right named less form size = absurd (cc right)
lock_line_right s does.Lock k lock thread width right named less form size = record { some = omega arith; few = omega arith; alone = λ lock. refl; form = form_alone _ _ _ form; width = size; named = lock_bytes _ (named_at is_lock_name s.locks lock named.1 less) }
lock_line_right s does.Unlock k lock thread width right named less form size = record { some = omega arith; few = omega arith; alone = λ lock. refl; form = form_alone _ _ _ form; width = size; named = lock_bytes _ (named_at is_lock_name s.locks lock named.1 less) }
lock_line_right s does.ReadLock k lock thread width right named less form size = record { some = omega arith; few = omega arith; alone = λ lock. refl; form = form_alone _ _ _ form; width = size; named = lock_bytes _ (named_at is_lock_name s.locks lock named.1 less) }
lock_line_right s does.ReadUnlock k lock thread width right named less form size = record { some = omega arith; few = omega arith; alone = λ lock. refl; form = form_alone _ _ _ form; width = size; named = lock_bytes _ (named_at is_lock_name s.locks lock named.1 less) }

-- a right record leaves all names names of their kind
and_left : (a b : Bool) → (a && b) ≡ true → a ≡ true
and_left true b both = refl
and_left false b both = both

and_right : (a b : Bool) → (a && b) ≡ true → b ≡ true
and_right true b both = both
and_right false b both = absurd (cc both)

all_more : (p : List ℕ → Bool) (names : List (List ℕ)) (name : List ℕ) → list_all p names ≡ true → p name ≡ true → list_all p (names ++ name ∷ []) ≡ true
all_more p [] name all one = rw one refl
all_more p (first ∷ names) name all one = rw (and_left (p first) _ all) (all_more p names name (and_right (p first) _ all) one)

thread_less : (s : State) (n k : ℕ) → nat_lt n (length s.threads) ≡ true → n ≡ k → k < length s.threads
thread_less s n k right same = let less : n < length s.threads = grind (arith, nat_tests) in omega arith

pub after_named : (s : State) (k : Kind) (n : ℕ) (body behind : List ℕ) → is_right s k n body behind ≡ true → AreNamed s → AreNamed (after s k n body)
after_named s kind.Thread n body behind right named = (named.0, named.1, named.2, λ k is. thread_less s n k right (cc is))
after_named s kind.Node n body behind right named = named
after_named s kind.Lock n body behind right named = named
after_named s kind.Unlock n body behind right named = named
after_named s kind.ReadLock n body behind right named = named
after_named s kind.ReadUnlock n body behind right named = named
after_named s kind.FailedTry n body behind right named = named
after_named s kind.Signal n body behind right named = named
after_named s kind.Await n body behind right named = named
after_named s kind.Start n body behind right named = named
after_named s kind.Join n body behind right named = named
after_named s kind.IgnoreOn n body behind right named = named
after_named s kind.IgnoreOff n body behind right named = named
after_named s kind.Reuse n body behind right named = named
after_named s kind.Show n body behind right named = named
after_named s kind.Level n body behind right named = named
after_named s kind.Flow n body behind right named = named
after_named s kind.ThreadName n body behind right named = (all_more is_name s.threads body named.0 (and_left _ _ right), named.1, named.2, λ k is. omega (arith, named.3 k is, length-append s.threads (body ∷ [])))
after_named s kind.LockName n body behind right named = (named.0, all_more is_lock_name s.locks body named.1 (and_left _ _ right), named.2, named.3)
after_named s kind.Place n body behind right named = (named.0, named.1, all_more is_place s.places body named.2 (and_left _ _ right), named.3)
after_named s kind.NewNode n body behind right named = named
after_named s kind.Note n body behind right named = named
after_named s kind.Fact n body behind right named = named
after_named s kind.Lost n body behind right named = named
after_named s kind.End n body behind right named = named

-- states with the same lists of names have the same names
pub kept_all : (old new : State) → new.threads ≡ old.threads → new.locks ≡ old.locks → new.places ≡ old.places → (kind : NameKind) (n : ℕ) → names_in new kind n ≡ names_in old kind n
kept_all old new threads locks places names.Thread n = ap (λ (t : List (List ℕ)). name_at t n) threads
kept_all old new threads locks places names.Lock n = ap (λ (t : List (List ℕ)). name_at t n) locks
kept_all old new threads locks places names.Site n = ap (λ (t : List (List ℕ)). name_at t n) places

pub kept_on : (a b c : NameKind → ℕ → List ℕ) → KeepsNames a b → KeepsNames b c → KeepsNames a c
kept_on a b c first next = λ kind n some. next kind n (ap has_bytes (first kind n some) ∙ some) ∙ first kind n some

-- the same state has the same names
pub kept_alike : (old new : State) → new ≡ old → KeepsNames (names_in old) (names_in new)
kept_alike old new same = λ kind n some. ap (λ (s : State). names_in s kind n) same
