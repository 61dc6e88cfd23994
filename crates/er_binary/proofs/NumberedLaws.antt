-- Lines are numbered by the line feeds of the text before them.
use Rattle.std.proofs.Common.{◌≡◌, ◌==◌, ◌⊎◌, ℕ, zero, suc, ◌+◌, ◌-◌, Bool, true, false, cond, not, List, [], ◌∷◌, ◌++◌, length, take, drop, nat_lt, Option, Some, None, IfSome, refl, sym, ap, ◌∙◌, arith, inl, inr}
use Rattle.std.specs.Str.{bytes_eq}
use Rattle.er_binary.specs.ByText.{behind_by_text, by_text, line_behind, touches_by_text}
use Rattle.er_binary.specs.Inner.Words.{AreNamed}
use Rattle.er_binary.specs.Meaning.{Taken, as_touches, blocks, checksum, content, is_bad_len, magic, past, records, spot_at, take_record, then_more, touches, touches_behind}
use Rattle.er_binary.specs.Numbers.{number_in, plus}
use Rattle.er_binary.specs.States.{at_block, first_state}
use Rattle.er_binary.specs.Touches.{passed_by, touches_said}
use Rattle.er_binary.specs.declared.decoder.Spot.{Spot}
use Rattle.er_binary.specs.declared.state.State.{State}
use Rattle.er_binary.proofs.FeedLemmas.{IsLined, feeds, feeds_two, record_lined}
use Rattle.er_lines.specs.declared.ready.Touch.{Touch}

-- what is made by numbers of lines is what is made by texts
abbrev Agree : (ℕ → List Touch) → (List ℕ → List Touch) → Type 0
Agree f g = (text : List ℕ) → f (line_behind text) ≡ g text

-- nothing is made of anything
record AreNone (f : ℕ → List Touch) (g : List ℕ → List Touch) : Type 0 where
  lines : (line : ℕ) → f line ≡ []
  texts : (text : List ℕ) → g text ≡ []

-- what follows a block: they agree if names are names, and nothing follows the end
record AreBehind (f : State → ℕ → List Touch) (g : State → List ℕ → List Touch) : Type 0 where
  named : (t : State) → AreNamed t → Agree (f t) (g t)
  ended : (t : State) → t.ended ≡ true → AreNone (f t) (g t)

none_made : AreNone (λ line. []) (λ text. [])
none_made = record { lines = λ line. refl; texts = λ text. refl }

none_agree : Agree (λ line. []) (λ text. [])
none_agree = λ text. refl

cond_agree : (b : Bool) (f f2 : ℕ → List Touch) (g g2 : List ℕ → List Touch) → Agree f g → Agree f2 g2 → Agree (cond b f f2) (cond b g g2)
cond_agree true f f2 g g2 one two = one
cond_agree false f f2 g g2 one two = two

cond_none : (b : Bool) (f f2 : ℕ → List Touch) (g g2 : List ℕ → List Touch) → AreNone f g → AreNone f2 g2 → AreNone (cond b f f2) (cond b g g2)
cond_none true f f2 g g2 one two = one
cond_none false f f2 g g2 one two = two

-- behind the text of a record
line_passed : (text more : List ℕ) (lines : ℕ) → feeds more ≡ lines → passed_by (line_behind text) lines ≡ line_behind (text ++ more)
line_passed text more lines same = omega (arith, feeds_two text more, same)

record_agree : (t : Taken) (f : ℕ → List Touch) (g : List ℕ → List Touch) (rest : List ℕ) → IsLined t rest → Agree f g → (length rest ≡ 0 → t.state.ended ≡ true → AreNone f g)
    → Agree (as_touches.of_record t f) (by_text.of_record t g)
record_agree t f g rest lined agree none = by lined.lines where
  by : (feeds t.text ≡ t.says.lines) ⊎ ((t.state.ended ≡ true) × (length rest ≡ 0)) → Agree (as_touches.of_record t f) (by_text.of_record t g)
  by (inl same) = λ text. ap (λ (xs : List Touch). touches_said (line_behind text) t.says ++ xs) (ap f (line_passed text t.text t.says.lines same) ∙ agree (text ++ t.text))
  by (inr last) = λ text. let is = none last.1 last.0 in ap (λ (xs : List Touch). touches_said (line_behind text) t.says ++ xs) (is.lines (passed_by (line_behind text) t.says.lines) ∙ sym (is.texts (text ++ t.text)))

then_agree : (at : ℕ) (more : Taken → ℕ → List Touch) (other : Taken → List ℕ → List Touch) (all : List ℕ) (o : Option Taken) → IfSome o (λ t. IsLined t (drop t.len all))
    → ((t : Taken) → AreNamed t.state → Agree (more t) (other t)) → ((t : Taken) → length (drop t.len all) ≡ 0 → t.state.ended ≡ true → AreNone (more t) (other t))
    → Agree (then_more as_touches at more o) (then_more by_text at other o)
then_agree at more other all None lined agree none = none_agree
then_agree at more other all (Some t) lined agree none = record_agree t (more t) (other t) (drop t.len all) lined (agree t lined.named) (none t)

-- records behind the end: there are none
nothing_left : (byte len : ℕ) (bytes : List ℕ) → length (drop len (byte ∷ bytes)) ≡ 0 → length (drop (len - 1) bytes) ≡ 0
nothing_left byte zero bytes none = absurd (omega arith)
nothing_left byte (suc len) bytes none = let same : suc len - 1 ≡ len = omega arith in rw same none

records_none : (n : ℕ) (f : State → ℕ → List Touch) (g : State → List ℕ → List Touch) (p : Spot) (s : State) (bytes : List ℕ) → length bytes ≡ 0 → AreNone (f s) (g s)
    → AreNone (records as_touches n f p s bytes) (records by_text n g p s bytes)
records_none zero f g p s bytes none ended = none_made
records_none (suc n) f g p s [] none ended = cond_none (p.found == p.count) (f s) _ (g s) _ ended none_made
records_none (suc n) f g p s (byte ∷ bytes) none ended = absurd (omega arith)

records_agree : (n : ℕ) (f : State → ℕ → List Touch) (g : State → List ℕ → List Touch) (p : Spot) (s : State) (bytes : List ℕ) → AreNamed s → AreBehind f g
    → Agree (records as_touches n f p s bytes) (records by_text n g p s bytes)
records_agree zero f g p s bytes named behind = none_agree
records_agree (suc n) f g p s [] named behind = cond_agree (p.found == p.count) (f s) _ (g s) _ (behind.named s named) none_agree
records_agree (suc n) f g p s (byte ∷ bytes) named behind =
    then_agree p.at _ _ (byte ∷ bytes) (take_record s (byte ∷ bytes)) (record_lined s (byte ∷ bytes) named)
    (λ t names. records_agree n f g (past p t.len) t.state (drop (t.len - 1) bytes) names behind)
    (λ t none ended. records_none n f g (past p t.len) t.state (drop (t.len - 1) bytes) (nothing_left byte t.len bytes none) (behind.ended t.state ended))

-- a block forgets its thread
block_named : (s : State) → AreNamed s → AreNamed (at_block s)
block_named s named = (named.0, named.1, named.2, λ n is. absurd (cc is))

content_agree : (f : State → List ℕ → ℕ → List Touch) (g : State → List ℕ → List ℕ → List Touch) (p : Spot) (len : ℕ) (s : State) (bytes : List ℕ) → AreNamed s
    → ((rest : List ℕ) → AreBehind (λ t. f t rest) (λ t. g t rest)) → Agree (content as_touches f p len s bytes) (content by_text g p len s bytes)
content_agree f g p len s bytes named behind =
    cond_agree (nat_lt (length bytes) len) _ _ _ _ none_agree (cond_agree (not (checksum p.block len p.count (take len bytes) == p.sum)) _ _ _ _ none_agree
    (records_agree (len + 1) (λ t. f t (drop len bytes)) (λ t. g t (drop len bytes)) p (at_block s) (take len bytes) (block_named s named) (behind (drop len bytes))))

blocks_ended : (n block start : ℕ) (s : State) (bytes : List ℕ) → s.ended ≡ true → AreNone (blocks as_touches n block start s bytes) (blocks by_text n block start s bytes)
blocks_ended zero block start s bytes ended = none_made
blocks_ended (suc n) block start s bytes ended = rw ended (cond_none (length bytes == 0) _ _ _ _ none_made none_made)

blocks_agree : (n block start : ℕ) (s : State) (bytes : List ℕ) → AreNamed s → Agree (blocks as_touches n block start s bytes) (blocks by_text n block start s bytes)
blocks_agree zero block start s bytes named = none_agree
blocks_agree (suc n) block start s bytes named =
    let len = number_in bytes 0 4 in
    cond_agree s.ended _ _ _ _ (cond_agree (length bytes == 0) _ _ _ _ none_agree none_agree) (cond_agree (nat_lt (length bytes) 16) _ _ _ _ none_agree (cond_agree (is_bad_len len) _ _ _ _ none_agree
    (content_agree (blocks as_touches n (plus block 1) (plus start (16 + len))) (blocks by_text n (plus block 1) (plus start (16 + len))) (spot_at block start (take 16 bytes)) len s (drop 16 bytes) named
    (λ rest. record {
      named = λ t names. blocks_agree n (plus block 1) (plus start (16 + len)) t rest names;
      ended = λ t ended. blocks_ended n (plus block 1) (plus start (16 + len)) t rest ended;
    }))))

first_named : AreNamed first_state
first_named = (refl, refl, refl, λ n is. absurd (cc is))

behind_same : (bytes : List ℕ) → touches_behind bytes ≡ behind_by_text bytes
behind_same bytes = blocks_agree (length bytes + 1) 0 8 first_state bytes first_named _

pub touches_same : (bytes : List ℕ) → touches bytes ≡ touches_by_text bytes
touches_same bytes = ap (λ (xs : List Touch). cond (bytes_eq (take 8 bytes) magic) xs []) (behind_same (drop 8 bytes))
