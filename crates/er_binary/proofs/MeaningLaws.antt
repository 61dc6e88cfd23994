-- Records and blocks, taken one by one: how many may come at most doesn't matter where it is more than the bytes.
use Rattle.std.proofs.Common.{◌≡◌, ℕ, zero, suc, ◌+◌, ◌-◌, ◌<◌, ◌≤◌, ◌==◌, ◌||◌, ◌^◌, not, Bool, true, false, cond, nat_lt, if◌then◌else◌, List, [], ◌∷◌, ◌++◌, length, take, drop, Option, Some, None, IfSome, refl, subst, ap, ◌∙◌, arith, add-one, length-append, length-drop, ◌≢◌}
use Rattle.std.proofs.Math.Path.{fun_ext}
use Rattle.std.proofs.Math.Seq.{drop-cons}
use Rattle.std.proofs.lemmas.Bool.Decides.{nat_tests}
use Rattle.std.proofs.lemmas.List.{drop-drop, drop_at, take_at}
use Rattle.er_binary.specs.Inner.Decoders.{all_blocks, all_content, all_records}
use Rattle.er_binary.specs.Inner.Taking.{HasTaken}
use Rattle.er_binary.specs.Meaning.{Making, Taken, blocks, checksum, content, past, records, spot_at, take_record, take_said, then_more}
use Rattle.er_binary.specs.Numbers.{number_in, plus}
use Rattle.er_binary.specs.Records.{record_at}
use Rattle.er_binary.specs.States.{at_block}
use Rattle.er_binary.specs.declared.records.Head.{Head}
use Rattle.er_binary.specs.declared.decoder.Spot.{Spot}
use Rattle.er_binary.specs.declared.state.State.{State}

then_same : {M : Type 0} (made : Making M) (at : ℕ) (f g : Taken → M) (o : Option Taken) → ((t : Taken) → f t ≡ g t) → then_more made at f o ≡ then_more made at g o
then_same made at f g None same = refl
then_same {M} made at f g (Some t) same = ap (λ (more : M). made.of_record t more) (same t)

cond_same : {M : Type 0} (b : Bool) (x y z : M) → (b ≡ false → y ≡ z) → cond b x y ≡ cond b x z
cond_same true x y z same = refl
cond_same false x y z same = same refl

pub records_same : {M : Type 0} (made : Making M) (n m : ℕ) (behind : State → M) (p : Spot) (s : State) (bytes : List ℕ) → length bytes < n → length bytes < m
    → records made n behind p s bytes ≡ records made m behind p s bytes
records_same made zero m behind p s bytes less more = absurd (omega arith)
records_same made (suc n) zero behind p s bytes less more = absurd (omega arith)
records_same made (suc n) (suc m) behind p s [] less more = refl
records_same made (suc n) (suc m) behind p s (byte ∷ bytes) less more =
    then_same made p.at _ _ (take_record s (byte ∷ bytes))
    (λ t. records_same made n m behind (past p t.len) t.state (drop (t.len - 1) bytes) (omega (arith, length-drop (t.len - 1) bytes)) (omega (arith, length-drop (t.len - 1) bytes)))

content_same : {M : Type 0} (made : Making M) (f g : State → List ℕ → M) (p : Spot) (len : ℕ) (s : State) (bytes : List ℕ) → ((t : State) → f t (drop len bytes) ≡ g t (drop len bytes))
    → content made f p len s bytes ≡ content made g p len s bytes
content_same {M} made f g p len s bytes same =
    ap (λ (behind : State → M). if nat_lt (length bytes) len then made.of_cut (plus p.start (16 + length bytes))
    else if not (checksum p.block len p.count (take len bytes) == p.sum) then made.of_damage p.start
    else records made (len + 1) behind p (at_block s) (take len bytes)) (fun_ext same)

-- the blocks from a byte on, by what follows a block
abbrev blocks_by : {M : Type 0} → Making M → (State → List ℕ → M) → ℕ → ℕ → State → List ℕ → M
blocks_by made behind block start s bytes =
    let len = number_in bytes 0 4 in
    if s.ended then (if length bytes == 0 then made.of_end else made.of_damage start)
    else if nat_lt (length bytes) 16 then made.of_cut (plus start (length bytes))
    else if (len == 0) || nat_lt (2 ^ 20) len then made.of_damage start
    else content made behind (spot_at block start (take 16 bytes)) len s (drop 16 bytes)

by_same : {M : Type 0} (made : Making M) (f g : State → List ℕ → M) (block start : ℕ) (s : State) (bytes : List ℕ)
    → (16 ≤ length bytes → (t : State) → f t (drop (number_in bytes 0 4) (drop 16 bytes)) ≡ g t (drop (number_in bytes 0 4) (drop 16 bytes)))
    → blocks_by made f block start s bytes ≡ blocks_by made g block start s bytes
by_same made f g block start s bytes same =
    let len = number_in bytes 0 4 in
    cond_same s.ended _ _ _ (λ going. cond_same (nat_lt (length bytes) 16) _ _ _ (λ whole. cond_same ((len == 0) || nat_lt (2 ^ 20) len) _ _ _ (λ right.
    content_same made f g (spot_at block start (take 16 bytes)) len s (drop 16 bytes) (same (grind (arith, nat_tests))))))

rest_less : (bytes : List ℕ) (len n : ℕ) → 16 ≤ length bytes → length bytes < suc n → length (drop len (drop 16 bytes)) < n
rest_less bytes len n whole less = omega (arith, length-drop len (drop 16 bytes), length-drop 16 bytes)

pub blocks_same : {M : Type 0} (made : Making M) (n m block start : ℕ) (s : State) (bytes : List ℕ) → length bytes < n → length bytes < m
    → blocks made n block start s bytes ≡ blocks made m block start s bytes
blocks_same made zero m block start s bytes less more = absurd (omega arith)
blocks_same made (suc n) zero block start s bytes less more = absurd (omega arith)
blocks_same made (suc n) (suc m) block start s bytes less more =
    let len = number_in bytes 0 4 in
    by_same made (blocks made n (plus block 1) (plus start (16 + len))) (blocks made m (plus block 1) (plus start (16 + len))) block start s bytes
    (λ whole t. blocks_same made n m (plus block 1) (plus start (16 + len)) t (drop len (drop 16 bytes)) (rest_less bytes len n whole less) (rest_less bytes len m whole more))

-- the blocks that are left: the first of them, and the blocks behind it
pub all_blocks_is : {M : Type 0} (made : Making M) (block start : ℕ) (s : State) (bytes : List ℕ)
    → all_blocks made block start s bytes ≡ blocks_by made (all_blocks made (plus block 1) (plus start (16 + number_in bytes 0 4))) block start s bytes
unfolding all_blocks
all_blocks_is made block start s bytes =
    let len = number_in bytes 0 4 in
    rw (add-one (length bytes))
    (by_same made (blocks made (length bytes) (plus block 1) (plus start (16 + len))) (λ t rest. blocks made (length rest + 1) (plus block 1) (plus start (16 + len)) t rest) block start s bytes
    (λ whole t. blocks_same made (length bytes) (length (drop len (drop 16 bytes)) + 1) (plus block 1) (plus start (16 + len)) t (drop len (drop 16 bytes))
    (rest_less bytes len (length bytes) whole (omega arith)) (omega arith)))

-- the records that are left: a first one that may not come, by the cells of the list
none_cells : {M : Type 0} (made : Making M) (end : ℕ) (p : Spot) (s : State) (byte : ℕ) (bytes rest : List ℕ) → take_record s (byte ∷ bytes) ≡ None
    → all_records made end p s (byte ∷ bytes) rest ≡ made.of_damage p.at
unfolding all_records
none_cells made end p s byte bytes rest none = rw (add-one (length (byte ∷ bytes)), none) refl

pub record_none : {M : Type 0} (made : Making M) (end : ℕ) (p : Spot) (s : State) (bytes rest : List ℕ) (next : ℕ) → next < length bytes → take_record s (drop next bytes) ≡ None
    → all_records made end p s (drop next bytes) rest ≡ made.of_damage p.at
record_none made end p s bytes rest next less none =
    let cells = drop-cons bytes next 0 less in
    ap (λ (xs : List ℕ). all_records made end p s xs rest) cells ∙ none_cells made end p s _ (drop (suc next) bytes) rest (rw cells at none)

-- or one that is taken, by the cells of the list
some_cells : {M : Type 0} (made : Making M) (end : ℕ) (p : Spot) (s : State) (byte : ℕ) (bytes rest : List ℕ) (t : Taken) → take_record s (byte ∷ bytes) ≡ Some t
    → all_records made end p s (byte ∷ bytes) rest ≡ made.of_record t (all_records made end (past p t.len) t.state (drop (t.len - 1) bytes) rest)
unfolding all_records
some_cells {M} made end p s byte bytes rest t some =
    let behind : State → M = λ u. all_blocks made (plus p.block 1) end u rest in
    let left = drop (t.len - 1) bytes in
    rw (add-one (length (byte ∷ bytes)), some)
    (ap (λ (more : M). made.of_record t more) (records_same made (length (byte ∷ bytes)) (length left + 1) behind (past p t.len) t.state left
    (omega (arith, length-drop (t.len - 1) bytes)) (omega arith)))

pub record_some : {M : Type 0} (made : Making M) (end : ℕ) (p : Spot) (s : State) (bytes rest : List ℕ) (next : ℕ) (t : Taken) → next < length bytes → take_record s (drop next bytes) ≡ Some t → 1 ≤ t.len
    → all_records made end p s (drop next bytes) rest ≡ made.of_record t (all_records made end (past p t.len) t.state (drop (next + t.len) bytes) rest)
record_some made end p s bytes rest next t less some len =
    let cells = drop-cons bytes next 0 less in
    let place : suc next + (t.len - 1) ≡ next + t.len = omega arith in
    let rests : drop (t.len - 1) (drop (suc next) bytes) ≡ drop (next + t.len) bytes = drop-drop (t.len - 1) (suc next) bytes ∙ ap (λ (k : ℕ). drop k bytes) place in
    ap (λ (xs : List ℕ). all_records made end p s xs rest) cells
    ∙ some_cells made end p s _ (drop (suc next) bytes) rest t (rw cells at some)
    ∙ ap (λ (xs : List ℕ). made.of_record t (all_records made end (past p t.len) t.state xs rest)) rests

-- or none, and the block ends
pub record_end : {M : Type 0} (made : Making M) (end : ℕ) (p : Spot) (s : State) (bytes rest : List ℕ) → length bytes ≡ 0
    → all_records made end p s bytes rest ≡ (if p.found == p.count then all_blocks made (plus p.block 1) end s rest else made.of_damage p.start)
unfolding all_records
record_end made end p s [] rest none = refl
record_end made end p s (byte ∷ bytes) rest none = absurd (omega arith)

-- the blocks that are left behind the end: nothing, or bytes that are too many
pub blocks_end : {M : Type 0} (made : Making M) (block start : ℕ) (s : State) (bytes : List ℕ) → s.ended ≡ true → length bytes ≡ 0 → all_blocks made block start s bytes ≡ made.of_end
blocks_end made block start s bytes ended none = let empty : (length bytes == 0) ≡ true = grind (arith, nat_tests) in all_blocks_is made block start s bytes ∙ rw (ended, empty) refl

pub blocks_more : {M : Type 0} (made : Making M) (block start : ℕ) (s : State) (bytes : List ℕ) → s.ended ≡ true → 0 < length bytes → all_blocks made block start s bytes ≡ made.of_damage start
blocks_more made block start s bytes ended some = let full : (length bytes == 0) ≡ false = grind (arith, nat_tests) in all_blocks_is made block start s bytes ∙ rw (ended, full) refl

-- less than the first bytes of a block
pub blocks_cut : {M : Type 0} (made : Making M) (block start : ℕ) (s : State) (bytes : List ℕ) → s.ended ≡ false → length bytes < 16 → all_blocks made block start s bytes ≡ made.of_cut (plus start (length bytes))
blocks_cut made block start s bytes going short = let test : nat_lt (length bytes) 16 ≡ true = grind (arith, nat_tests) in all_blocks_is made block start s bytes ∙ rw (going, test) refl

-- a block of no bytes, or of too many
pub blocks_bad : {M : Type 0} (made : Making M) (block start : ℕ) (s : State) (bytes : List ℕ) → s.ended ≡ false → 16 ≤ length bytes → ((number_in bytes 0 4 == 0) || nat_lt (2 ^ 20) (number_in bytes 0 4)) ≡ true
    → all_blocks made block start s bytes ≡ made.of_damage start
blocks_bad made block start s bytes going whole bad = let test : nat_lt (length bytes) 16 ≡ false = grind (arith, nat_tests) in all_blocks_is made block start s bytes ∙ rw (going, test, bad) refl

-- a block whose first bytes are right
pub blocks_good : {M : Type 0} (made : Making M) (block start : ℕ) (s : State) (bytes : List ℕ) → s.ended ≡ false → 16 ≤ length bytes → ((number_in bytes 0 4 == 0) || nat_lt (2 ^ 20) (number_in bytes 0 4)) ≡ false
    → all_blocks made block start s bytes ≡ all_content made (spot_at block start (take 16 bytes)) (number_in bytes 0 4) s (drop 16 bytes)
unfolding all_content
blocks_good made block start s bytes going whole good = let test : nat_lt (length bytes) 16 ≡ false = grind (arith, nat_tests) in all_blocks_is made block start s bytes ∙ rw (going, test, good) refl

-- what is left of a block that is cut off
pub content_cut : {M : Type 0} (made : Making M) (p : Spot) (len : ℕ) (s : State) (bytes : List ℕ) → length bytes < len → all_content made p len s bytes ≡ made.of_cut (plus p.start (16 + length bytes))
unfolding all_content
content_cut made p len s bytes short = let test : nat_lt (length bytes) len ≡ true = grind (arith, nat_tests) in rw test refl

-- of a block with another checksum, or with the right one
pub content_bad : {M : Type 0} (made : Making M) (p : Spot) (s : State) (front rest : List ℕ) → checksum p.block (length front) p.count front ≢ p.sum
    → all_content made p (length front) s (front ++ rest) ≡ made.of_damage p.start
unfolding all_content
content_bad made p s front rest bad =
    let test : nat_lt (length (front ++ rest)) (length front) ≡ false = grind (arith, nat_tests, length-append front rest) in
    let other : (checksum p.block (length front) p.count front == p.sum) ≡ false = grind (arith, nat_tests) in
    rw (test, take_at front rest (length front) refl, other) refl

pub content_good : {M : Type 0} (made : Making M) (p : Spot) (s : State) (front rest : List ℕ) → checksum p.block (length front) p.count front ≡ p.sum
    → all_content made p (length front) s (front ++ rest) ≡ all_records made (plus p.start (16 + length front)) p (at_block s) front rest
unfolding all_content all_records
content_good made p s front rest good =
    let test : nat_lt (length (front ++ rest)) (length front) ≡ false = grind (arith, nat_tests, length-append front rest) in
    let same : (checksum p.block (length front) p.count front == p.sum) ≡ true = grind (arith, nat_tests) in
    rw (test, take_at front rest (length front) refl, drop_at front rest (length front) refl, same) refl

-- the record in front: none, or what its head says
pub take_none : (s : State) (bytes : List ℕ) → record_at bytes ≡ None → take_record s bytes ≡ None
unfolding take_record
take_none s bytes none = rw none refl

pub take_some : (s : State) (bytes : List ℕ) (head : Head) → record_at bytes ≡ Some head → take_record s bytes ≡ take_said s head.len (drop head.len bytes) head.says
unfolding take_record
take_some s bytes head some = rw some refl

-- a call that took a record, or none
pub has_none : (o : Option Taken) (old new : List ℕ) (s t : State) → HasTaken o old new s t None → (o ≡ None) × (new ≡ old) × (t ≡ s)
has_none None old new s t has = (refl, has.1, has.2)
has_none (Some taken) old new s t has = absurd (cc has.0)

pub has_some : (o : Option Taken) (old new : List ℕ) (s t : State) (len : ℕ) → HasTaken o old new s t (Some len)
    → (taken : Taken) × (o ≡ Some taken) × (len ≡ taken.len) × (new ≡ old ++ taken.text) × (t ≡ taken.state)
has_some None old new s t len has = absurd (cc has.0)
has_some (Some taken) old new s t len has = (taken, refl, cc has.0, has.1, has.2)

-- the same where the length is known by an equation
pub none_at : (o : Option Taken) (old new : List ℕ) (s t : State) (f : Option ℕ) → f ≡ None → HasTaken o old new s t f → (o ≡ None) × (new ≡ old) × (t ≡ s)
none_at o old new s t f is has = let P : Option ℕ → Type 0 = λ g. HasTaken o old new s t g in has_none o old new s t (subst P is has)

pub some_at : (o : Option Taken) (old new : List ℕ) (s t : State) (f : Option ℕ) (len : ℕ) → f ≡ Some len → HasTaken o old new s t f
    → (taken : Taken) × (o ≡ Some taken) × (len ≡ taken.len) × (new ≡ old ++ taken.text) × (t ≡ taken.state)
some_at o old new s t f len is has = let P : Option ℕ → Type 0 = λ g. HasTaken o old new s t g in has_some o old new s t len (subst P is has)

pub within_at : (f : Option ℕ) (len most : ℕ) → f ≡ Some len → IfSome f (λ n. (1 ≤ n) × (n ≤ most)) → (1 ≤ len) × (len ≤ most)
within_at f len most is has = let P : Option ℕ → Type 0 = λ g. IfSome g (λ n. (1 ≤ n) × (n ≤ most)) in subst P is has
