-- The words of headers and verbs are those that the grammar spells out.
use Rattle.std.proofs.Common.{◌≡◌, ℕ, Bool, true, false, not, ◌&&◌, cond, List, [], ◌∷◌, Option, Some, None, codes, refl, subst, ap, ◌∙◌}
use Rattle.std.specs.Str.{bytes_eq}
use Rattle.std.proofs.lemmas.Bool.{and_parts}
use Rattle.er_text.specs.declared.verbs.Verb.{Verb}
use Rattle.er_text.specs.declared.verbs.Verb.TheVariants.{Lock, Unlock, ReadLock, ReadUnlock, Read, Write, Reuse, IgnoreOn, IgnoreOff, Show, Level, Start, Join, Signal, Await}
use Rattle.er_text.specs.declared.verbs.Version.{Version}
use Rattle.er_text.specs.declared.verbs.Version.TheVariants.{One, Two, Three}
use Rattle.er_lines.specs.Lines.{has_bytes, word_at}
use Rattle.er_text.specs.Verbs.{version_word, has_levels, is_third, header_version, verb_of, rarer_verb_of, order_verb_of}
use Rattle.er_text.specs.Trace.{header_words, version_in}
use Rattle.er_lines.proofs.SpelledLemmas.{equal, AreWhole}

-- how a verb is spelled, and in which versions it is one
abbrev pub spelling : Verb → List ℕ
spelling Lock = codes "lock"
spelling Unlock = codes "unlock"
spelling ReadLock = codes "rlock"
spelling ReadUnlock = codes "runlock"
spelling Read = codes "read"
spelling Write = codes "write"
spelling Reuse = codes "reuse"
spelling IgnoreOn = codes "ignore-on"
spelling IgnoreOff = codes "ignore-off"
spelling Show = codes "show"
spelling Level = codes "level"
spelling Start = codes "start"
spelling Join = codes "join"
spelling Signal = codes "signal"
spelling Await = codes "await"

abbrev pub IsKnown : Version → Verb → Type 0
IsKnown version Level = has_levels version ≡ true
IsKnown version Start = is_third version ≡ true
IsKnown version Join = is_third version ≡ true
IsKnown version Signal = is_third version ≡ true
IsKnown version Await = is_third version ≡ true
IsKnown version Lock = Unit {0}
IsKnown version Unlock = Unit {0}
IsKnown version ReadLock = Unit {0}
IsKnown version ReadUnlock = Unit {0}
IsKnown version Read = Unit {0}
IsKnown version Write = Unit {0}
IsKnown version Reuse = Unit {0}
IsKnown version IgnoreOn = Unit {0}
IsKnown version IgnoreOff = Unit {0}
IsKnown version Show = Unit {0}

abbrev IsSpelled : Version → List ℕ → Verb → Type 0
IsSpelled version w v = (w ≡ spelling v) × IsKnown version v

tested : (version : Version) (w : List ℕ) (x v : Verb) (rest : Option Verb) (b : Bool) → bytes_eq w (spelling x) ≡ b → IsKnown version x
    → (rest ≡ Some v → IsSpelled version w v) → cond b (Some x) rest ≡ Some v → IsSpelled version w v
tested version w x v rest true is known more e =
    let same : x ≡ v = cc in
    let P : Verb → Type 0 = λ y. IsSpelled version w y in
    subst P same (equal w (spelling x) is, known)
tested version w x v rest false is known more e = more e

leveled : (version : Version) (w : List ℕ) (v : Verb) (rest : Option Verb) (b has : Bool) → bytes_eq w (codes "level") ≡ b → has_levels version ≡ has
    → (rest ≡ Some v → IsSpelled version w v) → cond b (cond has (Some Level) None) rest ≡ Some v → IsSpelled version w v
leveled version w v rest true true is known more e =
    let same : Level ≡ v = cc in
    let P : Verb → Type 0 = λ y. IsSpelled version w y in
    subst P same (equal w (codes "level") is, known)
leveled version w v rest true false is known more e = absurd (cc)
leveled version w v rest false has is known more e = more e

order_spelled : (version : Version) (w : List ℕ) (v : Verb) (third : Bool) → is_third version ≡ third
    → cond (not third) None
    (cond (bytes_eq w (codes "start")) (Some Start) (cond (bytes_eq w (codes "join")) (Some Join) (cond (bytes_eq w (codes "signal")) (Some Signal) (cond (bytes_eq w (codes "await")) (Some Await) None)))) ≡ Some v
    → IsSpelled version w v
order_spelled version w v false is e = absurd (cc)
order_spelled version w v true is e =
    tested version w Start v _ (bytes_eq w (codes "start")) refl is
    (tested version w Join v _ (bytes_eq w (codes "join")) refl is
    (tested version w Signal v _ (bytes_eq w (codes "signal")) refl is
    (tested version w Await v None (bytes_eq w (codes "await")) refl is (λ h. absurd (cc))))) e

rarer_spelled : (version : Version) (w : List ℕ) (v : Verb) → rarer_verb_of version w ≡ Some v → IsSpelled version w v
rarer_spelled version w v e =
    tested version w Reuse v _ (bytes_eq w (codes "reuse")) refl tt
    (tested version w IgnoreOn v _ (bytes_eq w (codes "ignore-on")) refl tt
    (tested version w IgnoreOff v _ (bytes_eq w (codes "ignore-off")) refl tt
    (tested version w Show v _ (bytes_eq w (codes "show")) refl tt (leveled version w v (order_verb_of version w) (bytes_eq w (codes "level")) (has_levels version) refl refl (λ h. order_spelled version w v (is_third version) refl h))))) e

-- a word that is read as a verb spells it
pub verb_spelled : (version : Version) (w : List ℕ) (v : Verb) → verb_of version w ≡ Some v → (w ≡ spelling v) × IsKnown version v
verb_spelled version w v e =
    tested version w Read v _ (bytes_eq w (codes "read")) refl tt
    (tested version w Write v _ (bytes_eq w (codes "write")) refl tt
    (tested version w Lock v _ (bytes_eq w (codes "lock")) refl tt
    (tested version w Unlock v _ (bytes_eq w (codes "unlock")) refl tt
    (tested version w ReadLock v _ (bytes_eq w (codes "rlock")) refl tt
    (tested version w ReadUnlock v _ (bytes_eq w (codes "runlock")) refl tt (rarer_spelled version w v)))))) e

-- a spelling is read as its verb
pub spelled_verb : (version : Version) (v : Verb) → IsKnown version v → verb_of version (spelling v) ≡ Some v
spelled_verb version Lock known = refl
spelled_verb version Unlock known = refl
spelled_verb version ReadLock known = refl
spelled_verb version ReadUnlock known = refl
spelled_verb version Read known = refl
spelled_verb version Write known = refl
spelled_verb version Reuse known = refl
spelled_verb version IgnoreOn known = refl
spelled_verb version IgnoreOff known = refl
spelled_verb version Show known = refl
spelled_verb version Level known = rw known refl
spelled_verb version Start known = rw known refl
spelled_verb version Join known = rw known refl
spelled_verb version Signal known = rw known refl
spelled_verb version Await known = rw known refl

three_words : (ws : List (List ℕ)) (x y z : List ℕ) → AreWhole ws → has_bytes x ≡ true → has_bytes y ≡ true → has_bytes z ≡ true
    → word_at 0 ws ≡ x → word_at 1 ws ≡ y → word_at 2 ws ≡ z → has_bytes (word_at 3 ws) ≡ false → ws ≡ x ∷ y ∷ z ∷ []
three_words [] x y z whole hx hy hz ex ey ez none = let h = ap has_bytes ex in absurd (cc)
three_words (a ∷ []) x y z whole hx hy hz ex ey ez none = let h = ap has_bytes ey in absurd (cc)
three_words (a ∷ b ∷ []) x y z whole hx hy hz ex ey ez none = let h = ap has_bytes ez in absurd (cc)
three_words (a ∷ b ∷ c ∷ []) x y z whole hx hy hz ex ey ez none = cc
three_words (a ∷ b ∷ c ∷ (d ∷ ds) ∷ ws) x y z whole hx hy hz ex ey ez none = absurd (cc)
three_words (a ∷ b ∷ c ∷ [] ∷ ws) x y z whole hx hy hz ex ey ez none =
    let p = and_parts (has_bytes a) (has_bytes b && (has_bytes c && false)) whole in
    let q = and_parts (has_bytes b) (has_bytes c && false) p.1 in
    let r = and_parts (has_bytes c) false q.1 in
    absurd (cc)

not_true : (b : Bool) → not b ≡ true → b ≡ false
not_true true e = absurd (cc)
not_true false e = refl

numbered : (w : List ℕ) (v : Version) (one two three : Bool) → bytes_eq w (codes "1") ≡ one → bytes_eq w (codes "2") ≡ two → bytes_eq w (codes "3") ≡ three
    → cond one (Some One) (cond two (Some Two) (cond three (Some Three) None)) ≡ Some v → w ≡ version_word v
numbered w v true two three is also last e = let same : One ≡ v = cc in equal w (codes "1") is ∙ ap version_word same
numbered w v false true three is also last e = let same : Two ≡ v = cc in equal w (codes "2") also ∙ ap version_word same
numbered w v false false true is also last e = let same : Three ≡ v = cc in equal w (codes "3") last ∙ ap version_word same
numbered w v false false false is also last e = absurd (cc)

pub version_spelled : (w : List ℕ) (v : Version) → header_version w ≡ Some v → w ≡ version_word v
version_spelled w v e = numbered w v (bytes_eq w (codes "1")) (bytes_eq w (codes "2")) (bytes_eq w (codes "3")) refl refl refl e

whole_version : (v : Version) → has_bytes (version_word v) ≡ true
whole_version One = refl
whole_version Two = refl
whole_version Three = refl

headed : (ws : List (List ℕ)) (v : Version) (b : Bool) → AreWhole ws
    → (bytes_eq (word_at 0 ws) (codes "eraser") && bytes_eq (word_at 1 ws) (codes "trace") && not (has_bytes (word_at 3 ws))) ≡ b
    → cond b (header_version (word_at 2 ws)) None ≡ Some v → ws ≡ header_words v
headed ws v false whole is e = absurd (cc)
headed ws v true whole is e =
    let first = bytes_eq (word_at 0 ws) (codes "eraser") in
    let second = bytes_eq (word_at 1 ws) (codes "trace") in
    let last = not (has_bytes (word_at 3 ws)) in
    let p = and_parts (first && second) last is in
    let q = and_parts first second p.0 in
    three_words ws (codes "eraser") (codes "trace") (version_word v) whole refl refl (whole_version v)
    (equal (word_at 0 ws) (codes "eraser") q.0) (equal (word_at 1 ws) (codes "trace") q.1)
    (version_spelled (word_at 2 ws) v e) (not_true (has_bytes (word_at 3 ws)) p.1)

-- words that are read as a header spell it
pub header_is : (ws : List (List ℕ)) (v : Version) → AreWhole ws → version_in ws ≡ Some v → ws ≡ header_words v
header_is ws v whole e = headed ws v (bytes_eq (word_at 0 ws) (codes "eraser") && bytes_eq (word_at 1 ws) (codes "trace") && not (has_bytes (word_at 3 ws))) whole refl e

-- a header is read as its version
pub header_again : (v : Version) → version_in (header_words v) ≡ Some v
header_again One = refl
header_again Two = refl
header_again Three = refl
