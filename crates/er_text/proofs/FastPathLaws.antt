-- Lines in their usual form say what the grammar says of their words.
use Rattle.std.proofs.Common.{◌≡◌, ◌+◌, ◌<◌, ◌==◌, ℕ, Bool, zero, suc, append-nil, ◌^◌, ◌≤◌, true, false, not, ◌&&◌, cond, List, [], ◌∷◌, ◌++◌, length, take, drop, length-drop, get_or, filter, unwrap_or, Option, Some, None, Ok, nat_lt, nat_le, ◌/◌, codes, map, refl, sym, ap, ◌∙◌, subst, arith}
use Rattle.std.specs.List.{list_all, slice_split, position_or_len, All}
use Rattle.std.specs.Char.{is_digit}
use Rattle.std.specs.Str.{bytes_eq}
use Rattle.std.specs.Str.Parse.{digits_value}
use Rattle.std.proofs.lemmas.Bool.{and_parts}
use Rattle.std.proofs.lemmas.Bool.Decides.{nat_tests}
use Rattle.std.proofs.lemmas.List.{take-append-drop, drop_more}
use Rattle.std.proofs.lemmas.List.Elements.{All-cons}
use Rattle.std.proofs.lemmas.List.Folds.{list_all-append}
use Rattle.std.proofs.lemmas.List.Splits.{slice_split_at, slice_split_none}
use Rattle.std.proofs.lemmas.List.Sums.{AllPass-from_list_all, list_all-from_AllPass, passes_at_first}
use Rattle.er_event.specs.Span.{Span, page_count, part_of, parts_below, span_of_bytes}
use Rattle.er_event.specs.declared.addresses.PageRange.{PageRange}
use Rattle.er_event.specs.declared.steps.Event.{Event}
use Rattle.er_event.specs.declared.steps.Event.TheVariants.{Reuse}
use Rattle.er_event.specs.declared.steps.Event.TheVariants as event
use Rattle.er_event.specs.declared.steps.Step.{Step}
use Rattle.er_event.specs.declared.steps.Kind.{Kind}
use Rattle.er_event.specs.declared.steps.Kind.TheVariants.{Read, Write}
use Rattle.er_event.specs.declared.steps.Mode.{Mode}
use Rattle.er_event.specs.declared.steps.Mode.TheVariants as mode
use Rattle.er_text.specs.declared.fast_path.Rare.TheVariants as rare
use Rattle.er_text.specs.declared.verbs.Version.{Version}
use Rattle.er_lines.specs.Lines.{is_gap, is_space, before_space, behind_space, is_ascii, is_comment, has_bytes, words, word_at}
use Rattle.er_lines.specs.Number.{number_of}
use Rattle.er_lines.specs.Naming.{is_name_byte, is_name, is_lock_name, is_site_byte, name_of}
use Rattle.er_text.specs.Naming.{is_site_word}
use Rattle.er_text.specs.Events.{Operation, Acquires, Releases, Accesses, IgnoresOn, IgnoresOff, Shows, Levels, EventLine, run_of, with_operation, with_line, with_reuses}
use Rattle.er_text.specs.declared.stages.Stage.{Stage}
use Rattle.er_text.specs.declared.stages.Stage.TheVariants.{Events}
use Rattle.er_trace.specs.Names.{NameTable, number_of as place_of}
use Rattle.er_trace.specs.Trace.{Recording, HasNames, with_step, with_thread_name}
use Rattle.er_text.specs.Trace.{IsOperation, acquire_word, release_word, kind_word}
use Rattle.er_text.specs.Verbs.{has_levels}
use Rattle.er_text.specs.Inner.Parsing.{parsed_of}
use Rattle.er_text.specs.Inner.Idle.{last_actor, other_thread, without_idle, order_fault, waits_for, is_known_name}
use Rattle.er_text.specs.Inner.Traces.{Progress, past_event, add_event, add_parsed, closed, read_words, plain_at}
use Rattle.er_text.specs.Inner.FastPath.{IsLeadingName, AreLeadingDigits, IsLeadingAddress, IsFastAccess, IsFastLockEvent, IsFastReuse, IsFastOperation, IsFastLevel, IsFastAlone, IsFastLine, lock_word, rare_word}
use Rattle.er_lines.proofs.ByteLemmas.{name_ascii, site_ascii}
use Rattle.er_lines.proofs.SaidLemmas.{number_found}
use Rattle.er_text.proofs.SiteLemmas.{site_parts}
use Rattle.er_text.proofs.ParsingAgain.{says_parsed}
use Rattle.er_text.proofs.IdleLemmas.{no_fault, last_added}
use Rattle.er_text.proofs.EventWords.{not_end}
use Rattle.er_text.proofs.AddingLemmas.{mapped_more}
use Rattle.er_text.proofs.ParsingLaws.{level_tested, run_found}

-- no byte of it is a gap
abbrev IsGapless : List ℕ → Type 0
IsGapless w = All (λ x. is_gap x ≡ false) w

whole_first : (w : List ℕ) (parts : List (List ℕ)) → has_bytes w ≡ true → filter has_bytes (w ∷ parts) ≡ w ∷ filter has_bytes parts
whole_first w parts some = rw some refl

-- a word, a space, and the rest
word_then : (w rest : List ℕ) → IsGapless w → has_bytes w ≡ true → words (w ++ 32 ∷ rest) ≡ w ∷ words rest
word_then w rest gapless some = ap (filter has_bytes) (slice_split_at is_gap w 32 rest gapless refl) ∙ whole_first w (slice_split is_gap rest) some

word_alone : (w : List ℕ) → IsGapless w → has_bytes w ≡ true → words w ≡ w ∷ []
word_alone w gapless some = ap (filter has_bytes) (slice_split_none is_gap w gapless) ∙ whole_first w [] some

ascii_then : (w rest : List ℕ) → list_all is_ascii w ≡ true → list_all is_ascii rest ≡ true → list_all is_ascii (w ++ 32 ∷ rest) ≡ true
ascii_then w rest front back = list_all-append is_ascii w (32 ∷ rest) ∙ (rw (front, back) refl)

name_gap : (b : ℕ) → is_name_byte b ≡ true → is_gap b ≡ false
name_gap b e = grind (arith, nat_tests, e)

record NameParts (w : List ℕ) : Type 0 where
  some : has_bytes w ≡ true
  named : list_all is_name_byte w ≡ true
  gapless : IsGapless w

name_parts : (w : List ℕ) → is_name w ≡ true → NameParts w
name_parts w name =
    let p = and_parts (has_bytes w && nat_le (length w) 128) (list_all is_name_byte w) name in
    let q = and_parts (has_bytes w) (nat_le (length w) 128) p.0 in
    record { some = q.0; named = p.1; gapless = λ i d h. name_gap (get_or w i d) (AllPass-from_list_all is_name_byte w p.1 i d h) }

site_gap : (b : ℕ) → is_site_byte b ≡ true → is_gap b ≡ false
site_gap b e = grind (arith, nat_tests, e)

site_gapless : (w : List ℕ) → list_all is_site_byte w ≡ true → IsGapless w
site_gapless w printed i d h = site_gap (get_or w i d) (AllPass-from_list_all is_site_byte w printed i d h)

hex_ascii : (b : ℕ) → is_digit b 16 ≡ true → is_ascii b ≡ true
hex_ascii b e = grind (arith, nat_tests, e)

hex_gap : (b : ℕ) → is_digit b 16 ≡ true → is_gap b ≡ false
hex_gap b e = grind (arith, nat_tests, e)

some_taken : (len : ℕ) (xs : List ℕ) → (len ≡ 0 → ⊥) → len ≤ length xs → has_bytes (take len xs) ≡ true
some_taken len [] some within = absurd (some (omega arith))
some_taken zero (x ∷ xs) some within = absurd (some refl)
some_taken (suc len) (x ∷ xs) some within = refl

record HexWord (hex : List ℕ) (value : ℕ) : Type 0 where
  some : has_bytes hex ≡ true
  ascii : list_all is_ascii (48 ∷ 120 ∷ hex) ≡ true
  gapless : IsGapless (48 ∷ 120 ∷ hex)
  number : number_of (48 ∷ 120 ∷ hex) ≡ Some value

hex_word : (digits : List ℕ) (value len : ℕ) → AreLeadingDigits digits value len → (len ≡ 0 → ⊥) → HexWord (take len digits) value
hex_word digits value len front some =
    let hex = take len digits in
    let whole = some_taken len digits some front.within in
    let all = AllPass-from_list_all (λ d. is_digit d 16) hex front.digits in
    let is_small = front.small in
    let value_is = front.value_is in
    let test : nat_lt (digits_value 16 hex) (2 ^ 64) ≡ true = rw value_is (grind (arith, nat_tests, is_small)) in
    record {
      some = whole;
      ascii = list_all-from_AllPass is_ascii hex (λ i d h. hex_ascii (get_or hex i d) (all i d h));
      gapless = All-cons (λ x. is_gap x ≡ false) 48 (120 ∷ hex) refl (All-cons (λ x. is_gap x ≡ false) 120 hex refl (λ i d h. hex_gap (get_or hex i d) (all i d h)));
      number = rw (whole, front.digits, test, value_is) refl;
    }

pub addressed : (bytes digits tail : List ℕ) (len : ℕ) → bytes ≡ codes "0x" ++ digits → drop len digits ≡ tail → bytes ≡ (48 ∷ 120 ∷ take len digits) ++ tail
addressed bytes digits tail len is rest =
    is ∙ ap (λ (d : List ℕ). 48 ∷ 120 ∷ d) (sym (take-append-drop len digits) ∙ ap (λ (d : List ℕ). take len digits ++ d) rest)

-- a word that names a site, or none
abbrev IsSiteWord : Version → List ℕ → Option (List ℕ) → Type 0
IsSiteWord v site s = (is_site_word v site ≡ true) × (s ≡ cond (bytes_eq site (codes "-")) None (Some site))

-- an address and no site
pub access_alone : (v : Version) (k : Kind) (bytes : List ℕ) (value : ℕ) (rest : List ℕ) (operation : Operation) → IsLeadingAddress bytes value rest → rest ≡ [] → operation ≡ Accesses k (value / 4) None → IsFastAccess v k bytes operation
access_alone v k bytes value rest operation led none told =
    let hex = hex_word led.digits value led.len led.front led.some in
    let address = 48 ∷ 120 ∷ take led.len led.digits in
    let whole = addressed bytes led.digits [] led.len led.is (led.behind ∙ none) ∙ append-nil address in
    record {
      ascii = ap (list_all is_ascii) whole ∙ hex.ascii;
      address = address;
      n = value;
      behind = [];
      site = None;
      words_are = ap words whole ∙ word_alone address hex.gapless refl;
      number = hex.number;
      small = led.front.small;
      names = refl;
      is = told;
    }

-- an address and the name of a site
pub access_site : (v : Version) (k : Kind) (bytes : List ℕ) (value : ℕ) (rest site : List ℕ) (s : Option (List ℕ)) (operation : Operation) → IsLeadingAddress bytes value rest → rest ≡ 32 ∷ site
    → IsSiteWord v site s → operation ≡ Accesses k (value / 4) s → IsFastAccess v k bytes operation
access_site v k bytes value rest site s operation led spaced named told =
    let hex = hex_word led.digits value led.len led.front led.some in
    let address = 48 ∷ 120 ∷ take led.len led.digits in
    let whole = addressed bytes led.digits (32 ∷ site) led.len led.is (led.behind ∙ spaced) in
    let parts = site_parts v site named.0 in
    record {
      ascii = ap (list_all is_ascii) whole ∙ ascii_then address site hex.ascii (site_ascii site parts.printed);
      address = address;
      n = value;
      behind = site ∷ [];
      site = s;
      words_are = ap words whole ∙ word_then address site hex.gapless refl ∙ ap (λ (ws : List (List ℕ)). address ∷ ws) (word_alone site (site_gapless site parts.printed) parts.some);
      number = hex.number;
      small = led.front.small;
      names = named;
      is = told;
    }

lock_is_name : (w : List ℕ) → is_lock_name w ≡ true → is_name w ≡ true
lock_is_name w e = (and_parts (is_name w) (not (bytes_eq w (codes "none"))) e).0

access_one : (line thread w : ℕ) (k : Kind) (site : Option (List ℕ)) (r : Recording) → last_actor (with_operation line thread (Accesses k w site) r).steps ≡ Some thread
access_one line thread w k None r = last_added r.steps _
access_one line thread w k (Some site) r = last_added r.steps _

pub access_tells : (v : Version) (k : Kind) (bytes rest : List ℕ) (operation : Operation) → list_all is_ascii bytes ≡ list_all is_ascii rest → words bytes ≡ kind_word k ∷ words rest
    → IsFastAccess v k rest operation → IsFastOperation v bytes operation
access_tells v k bytes rest operation ascii whole a =
    subst (IsFastOperation v bytes) (sym a.is) (record {
      ascii = ascii ∙ a.ascii;
      says = λ thread. (
        a.address,
        a.n,
        a.behind,
        ap (λ (w : List (List ℕ)). thread ∷ w) (whole ∙ ap (λ (w : List (List ℕ)). kind_word k ∷ w) a.words_are),
        a.number,
        a.small,
        refl,
        a.names,
      );
      alone = refl;
      one = λ line thread r. access_one line thread (a.n / 4) k a.site r;
    })

pub lock_tells : (v : Version) (m : Mode) (bytes rest : List ℕ) (operation : Operation) → list_all is_ascii bytes ≡ list_all is_ascii rest → words bytes ≡ acquire_word m ∷ words rest
    → is_lock_name rest ≡ true → operation ≡ Acquires rest m → IsFastOperation v bytes operation
lock_tells v m bytes rest operation ascii whole named told =
    let parts = name_parts rest (lock_is_name rest named) in
    subst (IsFastOperation v bytes) (sym told) (record {
      ascii = ascii ∙ name_ascii rest parts.named;
      says = λ thread. (
        ap (λ (w : List (List ℕ)). thread ∷ w) (whole ∙ ap (λ (w : List (List ℕ)). acquire_word m ∷ w) (word_alone rest parts.gapless parts.some)),
        named,
      );
      alone = refl;
      one = λ line thread r. last_added r.steps _;
    })

pub unlock_tells : (v : Version) (m : Mode) (bytes rest : List ℕ) (operation : Operation) → list_all is_ascii bytes ≡ list_all is_ascii rest → words bytes ≡ release_word m ∷ words rest
    → is_lock_name rest ≡ true → operation ≡ Releases rest m → IsFastOperation v bytes operation
unlock_tells v m bytes rest operation ascii whole named told =
    let parts = name_parts rest (lock_is_name rest named) in
    subst (IsFastOperation v bytes) (sym told) (record {
      ascii = ascii ∙ name_ascii rest parts.named;
      says = λ thread. (
        ap (λ (w : List (List ℕ)). thread ∷ w) (whole ∙ ap (λ (w : List (List ℕ)). release_word m ∷ w) (word_alone rest parts.gapless parts.some)),
        named,
      );
      alone = refl;
      one = λ line thread r. last_added r.steps _;
    })

show_tells : (v : Version) (bytes rest : List ℕ) (n : ℕ) → list_all is_ascii bytes ≡ list_all is_ascii rest → words bytes ≡ codes "show" ∷ words rest
    → IsLeadingAddress rest n [] → IsFastOperation v bytes (Shows (n / 4))
show_tells v bytes rest n ascii whole led =
    let hex = hex_word led.digits n led.len led.front led.some in
    let address = 48 ∷ 120 ∷ take led.len led.digits in
    let alone = addressed rest led.digits [] led.len led.is led.behind ∙ append-nil address in
    record {
      ascii = ascii ∙ ap (list_all is_ascii) alone ∙ hex.ascii;
      says = λ thread. (
        address,
        n,
        ap (λ (w : List (List ℕ)). thread ∷ w) (whole ∙ ap (λ (w : List (List ℕ)). codes "show" ∷ w) (ap words alone ∙ word_alone address hex.gapless refl)),
        hex.number,
        led.front.small,
        refl,
      );
      alone = refl;
      one = λ line thread r. last_added r.steps _;
    }

-- the step of the last page
last_part : (line thread : ℕ) (s : Span) (r : Recording) (n : ℕ) → 0 < n → last_actor (with_reuses r line thread 0 (parts_below s n)).steps ≡ Some thread
unfolding parts_below
last_part line thread s r zero some = absurd (omega (arith, some))
last_part line thread s r (suc n) some =
    let f : PageRange → Step = λ part. record { thread = thread; event = Reuse part } in
    ap last_actor (sym (mapped_more f r.steps (parts_below s n) (part_of s n))) ∙ last_added (r.steps ++ map f (parts_below s n)) (f (part_of s n))

span_pages : (a n : ℕ) → 0 < n → 0 < page_count (span_of_bytes a n)
span_pages a n some = omega (arith, some)

pages_tested : (none : Bool) (a n : ℕ) (s : Span) → (n == 0) ≡ none → Some s ≡ cond none None (Some (span_of_bytes a n)) → 0 < page_count s
pages_tested true a n s is e = absurd (cc)
pages_tested false a n s is e =
    let some : 0 < n = grind (arith, nat_tests, is) in
    let same : s ≡ span_of_bytes a n = cc in
    rw same (span_pages a n some)

some_pages : (a n : ℕ) (s : Span) → Some s ≡ run_of a n → 0 < page_count s
some_pages a n s e = pages_tested (n == 0) a n s refl e

reuse_tells : (v : Version) (bytes rest : List ℕ) (operation : Operation) → list_all is_ascii bytes ≡ list_all is_ascii rest → words bytes ≡ codes "reuse" ∷ words rest
    → IsFastReuse rest operation → IsFastOperation v bytes operation
reuse_tells v bytes rest operation ascii whole a =
    let led = a.front in
    let hex = hex_word led.digits a.a led.len led.front led.some in
    let address = 48 ∷ 120 ∷ take led.len led.digits in
    let two = addressed rest led.digits (32 ∷ a.size) led.len led.is led.behind in
    let size = name_parts a.size a.named in
    let run = run_found a.a a.n (Some a.range) a.run in
    subst (IsFastOperation v bytes) (sym a.is) (record {
      ascii = ascii ∙ ap (list_all is_ascii) two ∙ ascii_then address a.size hex.ascii (name_ascii a.size size.named);
      says = λ thread. (
        address,
        a.size,
        a.a,
        a.n,
        [],
        ap (λ (w : List (List ℕ)). thread ∷ w) (whole ∙ ap (λ (w : List (List ℕ)). codes "reuse" ∷ w) (ap words two ∙ word_then address a.size hex.gapless refl ∙ ap (λ (w : List (List ℕ)). address ∷ w) (word_alone a.size size.gapless size.some))),
        hex.number,
        number_found (number_of a.size) a.n a.number,
        run.0,
        run.1,
        run.2,
        run.3,
        refl,
      );
      alone = refl;
      one = λ line thread r. last_part line thread a.range r (page_count a.range) (some_pages a.a a.n a.range run.3);
    })

-- a level, and each bracket
pub level_alone : (v : Version) (bytes word : List ℕ) (n : ℕ) → bytes ≡ rare_word rare.Level ++ 32 ∷ word → has_levels v ≡ true → IsFastLevel word n → IsFastAlone v bytes (event.Level n)
level_alone v bytes word n is levels fast =
    let parts = name_parts word fast.named in
    let level = level_tested (nat_lt 31 fast.count) fast.count n refl fast.most in
    record {
      operation = Levels n;
      fast = record {
        ascii = ap (list_all is_ascii) is ∙ name_ascii word parts.named;
        says = λ thread. (
          word,
          ap (λ (w : List (List ℕ)). thread ∷ w) (ap words is ∙ ap (λ (w : List (List ℕ)). codes "level" ∷ w) (word_alone word parts.gapless parts.some)),
          number_found (number_of word) fast.count fast.number ∙ ap Some level.0,
          level.1,
          levels,
        );
        alone = refl;
        one = λ line thread r. last_added r.steps _;
      };
      adds = λ line thread r. refl;
      named = λ names. tt;
    }

bracket_alone : (v : Version) (bytes bracket : List ℕ) (operation : Operation) (event : Event) → bytes ≡ bracket → is_name bracket ≡ true
    → ((thread : List ℕ) → IsOperation v (thread ∷ bracket ∷ []) thread operation) → other_thread operation ≡ None
    → ((line thread : ℕ) (r : Recording) → with_operation line thread operation r ≡ with_step r (record { thread = thread; event = event }) line 0)
    → ((names : NameTable) → HasNames names event) → IsFastAlone v bytes event
bracket_alone v bytes bracket operation event is name says alone adds named =
    let parts = name_parts bracket name in
    record {
      operation = operation;
      fast = record {
        ascii = ap (list_all is_ascii) is ∙ name_ascii bracket parts.named;
        says = λ thread. subst (λ (w : List (List ℕ)). IsOperation v (thread ∷ w) thread operation) (sym (ap words is ∙ word_alone bracket parts.gapless parts.some)) (says thread);
        alone = alone;
        one = λ line thread r. rw (adds line thread r) (last_added r.steps _);
      };
      adds = adds;
      named = named;
    }

pub on_alone : (v : Version) (bytes : List ℕ) → bytes ≡ codes "ignore-on" → IsFastAlone v bytes event.IgnoreOn
on_alone v bytes is = bracket_alone v bytes (codes "ignore-on") IgnoresOn event.IgnoreOn is refl (λ thread. refl) refl (λ line thread r. refl) (λ names. tt)

pub off_alone : (v : Version) (bytes : List ℕ) → bytes ≡ codes "ignore-off" → IsFastAlone v bytes event.IgnoreOff
off_alone v bytes is = bracket_alone v bytes (codes "ignore-off") IgnoresOff event.IgnoreOff is refl (λ thread. refl) refl (λ line thread r. refl) (λ names. tt)

-- the verb of an access in front, and a space behind it
pub access_led : (v : Version) (k : Kind) (bytes rest : List ℕ) (operation : Operation) → bytes ≡ kind_word k ++ 32 ∷ rest → IsFastAccess v k rest operation → IsFastOperation v bytes operation
access_led v Read bytes rest operation is a = access_tells v Read bytes rest operation (ap (list_all is_ascii) is) (ap words is) a
access_led v Write bytes rest operation is a = access_tells v Write bytes rest operation (ap (list_all is_ascii) is) (ap words is) a

-- an address with nothing behind it
address_alone : (bytes : List ℕ) (value : ℕ) (rest : List ℕ) → IsLeadingAddress bytes value rest → length rest < 1 → IsLeadingAddress bytes value []
address_alone bytes value [] led none = led
address_alone bytes value (byte ∷ rest) led none = absurd (omega (arith, none))

-- a show, and a reuse
pub show_alone : (v : Version) (bytes rest : List ℕ) (n : ℕ) (after : List ℕ) → bytes ≡ rare_word rare.Show ++ 32 ∷ rest → IsLeadingAddress rest n after → length after < 1 → IsFastAlone v bytes (event.Show (n / 4))
show_alone v bytes rest n after is led none =
    record {
      operation = Shows (n / 4);
      fast = show_tells v bytes rest n (ap (list_all is_ascii) is) (ap words is) (address_alone rest n after led none);
      adds = λ line thread r. refl;
      named = λ names. tt;
    }

pub reuse_led : (v : Version) (bytes rest : List ℕ) (operation : Operation) → bytes ≡ rare_word rare.Reuse ++ 32 ∷ rest → IsFastReuse rest operation → IsFastOperation v bytes operation
reuse_led v bytes rest operation is a = reuse_tells v bytes rest operation (ap (list_all is_ascii) is) (ap words is) a

-- and that of a lock event
pub lock_event_led : (v : Version) (acquires : Bool) (m : Mode) (bytes rest : List ℕ) (operation : Operation) → bytes ≡ lock_word acquires m ++ 32 ∷ rest
    → IsFastLockEvent acquires m rest operation → IsFastOperation v bytes operation
lock_event_led v true mode.Write bytes rest operation is a = lock_tells v mode.Write bytes rest operation (ap (list_all is_ascii) is) (ap words is) a.0 a.1
lock_event_led v true mode.Read bytes rest operation is a = lock_tells v mode.Read bytes rest operation (ap (list_all is_ascii) is) (ap words is) a.0 a.1
lock_event_led v false mode.Write bytes rest operation is a = unlock_tells v mode.Write bytes rest operation (ap (list_all is_ascii) is) (ap words is) a.0 a.1
lock_event_led v false mode.Read bytes rest operation is a = unlock_tells v mode.Read bytes rest operation (ap (list_all is_ascii) is) (ap words is) a.0 a.1

pub missing_site : (v : Version) (site dash : List ℕ) → is_site_word v site ≡ true → true ≡ bytes_eq site dash → dash ≡ codes "-" → IsSiteWord v site None
missing_site v site dash named same is =
    let test : bytes_eq site (codes "-") ≡ true = ap (λ (w : List ℕ). bytes_eq site w) (sym is) ∙ sym same in
    (named, rw test refl)

pub named_site : (v : Version) (site dash : List ℕ) → is_site_word v site ≡ true → false ≡ bytes_eq site dash → dash ≡ codes "-" → IsSiteWord v site (Some site)
named_site v site dash named other is =
    let test : bytes_eq site (codes "-") ≡ false = ap (λ (w : List ℕ). bytes_eq site w) (sym is) ∙ sym other in
    (named, rw test refl)

is_spaced : (b : ℕ) → is_space b ≡ true → b ≡ 32
is_spaced b e = grind (arith, nat_tests, e)

-- what stands before the first space and behind it, if anything is behind it
spaced_word : (bytes : List ℕ) → (length (behind_space bytes) ≡ 0 → ⊥) → bytes ≡ before_space bytes ++ 32 ∷ behind_space bytes
spaced_word bytes some =
    let n = position_or_len is_space bytes in
    let size = length-drop (n + 1) bytes in
    let within : n < length bytes = omega (arith, size, some) in
    let space : get_or bytes n 0 ≡ 32 = is_spaced (get_or bytes n 0) (passes_at_first is_space bytes 0 within) in
    let behind : drop n bytes ≡ 32 ∷ drop (n + 1) bytes = drop_more bytes n 0 within ∙ ap (λ (b : ℕ). b ∷ drop (n + 1) bytes) space in
    sym (take-append-drop n bytes) ∙ ap (λ (b : List ℕ). take n bytes ++ b) behind

seen_cases : (word seen : List ℕ) (b : Bool) → Some seen ≡ cond b (Some word) None → (b ≡ true) × (seen ≡ word)
seen_cases word seen true e = (refl, ap (λ (o : Option (List ℕ)). unwrap_or o []) e)
seen_cases word seen false e = absurd (cc)

-- a name in front of the first space
pub front_found : (bytes word rest seen : List ℕ) → word ≡ before_space bytes → rest ≡ behind_space bytes → (length rest ≡ 0 → ⊥) → Some seen ≡ name_of word → IsLeadingName bytes seen rest
front_found bytes word rest seen front behind some named =
    let is = seen_cases word seen (is_name word) named in
    (rw (is.1, front, behind) (spaced_word bytes (rw (← behind) some)), rw is.1 is.0)

no_mark : (b : ℕ) → is_name_byte b ≡ true → (b == 35) ≡ false
no_mark b e = grind (arith, nat_tests, e)

no_comment : (name rest : List ℕ) → has_bytes name ≡ true → list_all is_name_byte name ≡ true → is_comment (name ++ 32 ∷ rest) ≡ false
no_comment [] rest some all = absurd (cc)
no_comment (x ∷ xs) rest some all = no_mark x (and_parts (is_name_byte x) (list_all is_name_byte xs) all).0

-- a thread, a space, and what it does
pub line_says : (v : Version) (line name rest : List ℕ) (operation : Operation) → IsLeadingName line name rest → IsFastOperation v rest operation → IsFastLine v line (record { thread = name; operation = operation })
line_says v line name rest operation front tells =
    let parts = name_parts name front.1 in
    let ws : words line ≡ name ∷ words rest = ap words front.0 ∙ word_then name rest parts.gapless parts.some in
    record {
      ascii = ap (list_all is_ascii) front.0 ∙ ascii_then name rest (name_ascii name parts.named) tells.ascii;
      some = ap (λ (w : List (List ℕ)). has_bytes (word_at 0 w)) ws ∙ parts.some;
      no_comment = ap is_comment front.0 ∙ no_comment name rest parts.some parts.named;
      says = (front.1, rw ws (tells.says name));
      alone = tells.alone;
      one = λ number r. tells.one number (place_of r.names.threads name) (with_thread_name r name);
    }

-- a line in its usual form, behind the header, is read as what it says
pub usual_reads : (p : Progress) (line : ℕ) (bytes : List ℕ) (s : EventLine) (v : Version) → p.stage ≡ Events v → IsFastLine v bytes s
    → plain_at p line bytes ≡ Ok (record p { number = p.number + 1; idle = without_idle p.idle (place_of p.told.names.threads s.thread); told = with_line line s p.told })
usual_reads p line bytes s v is says =
    let told = says.says in
    let fault : order_fault p.told.names.threads p.idle s ≡ None = no_fault p.told.names.threads p.idle s.thread s.operation says.alone in
    let past : past_event line p s ≡ record p { number = p.number + 1; idle = without_idle p.idle (place_of p.told.names.threads s.thread); told = with_line line s p.told } =
    ap (λ (o : Option (List ℕ)). record p {
      number = p.number + 1;
      idle = waits_for (is_known_name p.told.names.threads o) (with_line line s p.told).names.threads o (without_idle p.idle (place_of p.told.names.threads s.thread));
      told = with_line line s p.told;
    }) says.alone in
    let words_read : read_words p.stage line p (words bytes) ≡ Ok (past_event line p s) =
    ap (λ (o : Stage). read_words o line p (words bytes)) is
    ∙ ap (λ (b : Bool). cond b (Ok (closed p)) (add_parsed line p (parsed_of v (words bytes)))) (not_end v (words bytes) s.thread s.operation told.1)
    ∙ ap (add_parsed line p) (says_parsed v (words bytes) s told)
    ∙ ap (add_event line p s) fault in
    rw (says.ascii, says.some, says.no_comment) (words_read ∙ ap Ok past)
