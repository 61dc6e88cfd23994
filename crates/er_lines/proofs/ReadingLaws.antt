-- A reading of lines finds the fault that a table of faults names, and no other. What a line says may be of any sort.
use Rattle.std.proofs.Common.{◌≡◌, ℕ, suc, ◌+◌, ◌≤◌, Bool, true, false, not, cond, List, [], ◌∷◌, ◌++◌, Some, None, Result, Ok, Err, length, filter, nat_lt, nat_le, refl, subst, sym, ap, ◌∙◌, arith}
use Rattle.std.specs.List.{list_all, slice_split, AllByRecursion}
use Rattle.std.proofs.lemmas.Bool.Decides.{nat_tests}
use Rattle.er_lines.specs.declared.faults.TextKind.{TextKind}
use Rattle.er_lines.specs.declared.faults.TextKind.TheVariants.{LineTooLong, TextTooLong, NotAscii}
use Rattle.er_lines.specs.declared.faults.TextFault.{TextFault}
use Rattle.er_lines.specs.Lines.{Line, Placed, placed_from, has_bytes, words, width, is_gap, is_end, is_ascii, lines_of, onto_line}
use Rattle.er_lines.specs.FirstFault.{IsPlain, first_kind, line_kinds, known_after, HasNone, IsFirstFaulty}
use Rattle.er_lines.specs.Words.{and_then}
use Rattle.er_lines.specs.Reading.{read_line, go_on, read_lines, read_contents}
use Rattle.er_lines.proofs.SpelledLemmas.{AreWhole}
use Rattle.er_lines.proofs.SaidLemmas.{fault_of}

whole_parts : (parts : List (List ℕ)) → AreWhole (filter has_bytes parts)
whole_parts [] = refl
whole_parts ([] ∷ parts) = whole_parts parts
whole_parts ((x ∷ xs) ∷ parts) = whole_parts parts

pub whole_words : (bytes : List ℕ) → AreWhole (words bytes)
whole_words bytes = whole_parts (slice_split is_gap bytes)

-- how many bytes lines take
abbrev pub total : List Line → ℕ
total [] = 0
total (line ∷ lines) = width line + total lines

onto_size : (b : ℕ) (lines : List Line) → total (onto_line b lines) ≡ 1 + total lines
onto_size b [] = omega arith
onto_size b (line ∷ lines) = omega arith

size_step : (b : ℕ) (bs : List ℕ) (t : Bool) → is_end b ≡ t → total (lines_of bs) ≡ length bs → total (lines_of (b ∷ bs)) ≡ suc (length bs)
size_step b bs true e more = rw e (omega (arith, more))
size_step b bs false e more = rw e (omega (arith, more, onto_size b (lines_of bs)))

pub size_of : (text : List ℕ) → total (lines_of text) ≡ length text
size_of [] = refl
size_of (b ∷ bs) = size_step b bs (is_end b) refl (size_of bs)

-- what is read of a line agrees with the table of its faults, and with what it makes known, where what was read so far stands for what is known
pub record Agrees {T S : Type 0} (content : T → Placed → Result T TextKind) (kinds : S → Placed → List (Bool × TextKind)) (next : S → Placed → S) (Stands : T → S → Type 0) : Type 0 where
  pub faults : (t : T) (known : S) (p : Placed) → Stands t known → first_kind (kinds known p) ≡ fault_of (content t p)
  pub moves : (t u : T) (known : S) (p : Placed) → Stands t known → content t p ≡ Ok u → Stands u (next known p)

chain : {T : Type 0} (a b c : Bool) (kinds : List (Bool × TextKind)) (r : Result T TextKind) → first_kind kinds ≡ fault_of r
    → first_kind ((a, LineTooLong) ∷ (b, TextTooLong) ∷ (not c, NotAscii) ∷ kinds)
    ≡ fault_of {X = T} (cond a (Err LineTooLong) (cond b (Err TextTooLong) (cond (not c) (Err NotAscii) r)))
chain true b c kinds r e = refl
chain false true c kinds r e = refl
chain false false false kinds r e = refl
chain false false true kinds r e = e

-- the first fault of a line is the one that stops the reading
line_faults : {T S : Type 0} (limit : ℕ) (content : T → Placed → Result T TextKind) (kinds : S → Placed → List (Bool × TextKind)) (next : S → Placed → S) (Stands : T → S → Type 0)
    → Agrees content kinds next Stands → (t : T) (known : S) (p : Placed) → Stands t known → p.start ≤ limit
    → first_kind (line_kinds limit (kinds known p) p) ≡ fault_of (read_line limit content t p)
line_faults limit content kinds next Stands agrees t known p stands within =
    let test : nat_le p.start limit ≡ true = grind (arith, nat_tests, within) in
    rw test
    (chain (nat_lt 1024 (length p.line.bytes)) (nat_lt limit (p.start + width p.line)) (list_all is_ascii p.line.bytes) (kinds known p) (content t p) (agrees.faults t known p stands))

-- a line that is read
pub record Passed {T : Type 0} (limit : ℕ) (content : T → Placed → Result T TextKind) (t : T) (p : Placed) (u : T) : Type 0 where
  pub plain : IsPlain p
  pub fits : p.start + width p.line ≤ limit
  pub read : content t p ≡ Ok u

record Tests {T : Type 0} (a b c : Bool) (r : Result T TextKind) (u : T) : Type 0 where
  short : a ≡ false
  fits : b ≡ false
  ascii : c ≡ true
  read : r ≡ Ok u

tests_passed : {T : Type 0} (a b c : Bool) (r : Result T TextKind) (u : T)
    → cond a (Err LineTooLong) (cond b (Err TextTooLong) (cond (not c) (Err NotAscii) r)) ≡ Ok u → Tests a b c r u
tests_passed true b c r u e = absurd (cc)
tests_passed false true c r u e = absurd (cc)
tests_passed false false false r u e = absurd (cc)
tests_passed false false true r u e = record { short = refl; fits = refl; ascii = refl; read = e }

pub line_passed : {T : Type 0} (limit : ℕ) (content : T → Placed → Result T TextKind) (t u : T) (p : Placed) → read_line limit content t p ≡ Ok u → Passed limit content t p u
line_passed limit content t u p e =
    let h = tests_passed (nat_lt 1024 (length p.line.bytes)) (nat_lt limit (p.start + width p.line)) (list_all is_ascii p.line.bytes) (content t p) u e in
    let short = h.short in
    let fits = h.fits in
    let most : length p.line.bytes ≤ 1024 = grind (arith, nat_tests, short) in
    record { plain = (most, h.ascii); fits = grind (arith, nat_tests, fits); read = h.read }

pub line_again : {T : Type 0} (limit : ℕ) (content : T → Placed → Result T TextKind) (t u : T) (p : Placed) → Passed limit content t p u → read_line limit content t p ≡ Ok u
line_again limit content t u p h =
    let most = h.plain.0 in
    let fits = h.fits in
    let short : nat_lt 1024 (length p.line.bytes) ≡ false = grind (arith, nat_tests, most) in
    let inside : nat_lt limit (p.start + width p.line) ≡ false = grind (arith, nat_tests, fits) in
    rw (short, inside, h.plain.1) h.read

abbrev here : ℕ → ℕ → Line → Placed
here n s line = record { number = n; start = s; line = line }

-- a reading that comes to its end has read plain lines within the limit, and what they say
pub record AllPassed {T : Type 0} (limit : ℕ) (content : T → Placed → Result T TextKind) (n s : ℕ) (lines : List Line) (t u : T) : Type 0 where
  pub size : s + total lines ≤ limit
  pub plain : AllByRecursion IsPlain (placed_from n s lines)
  pub read : read_contents content (placed_from n s lines) t ≡ Ok u

passed_step : {T : Type 0} (limit : ℕ) (content : T → Placed → Result T TextKind) (n s : ℕ) (line : Line) (lines : List Line) (t u : T) (r : Result T TextKind)
    → ((v : T) → s + width line ≤ limit → read_lines limit content (placed_from (n + 1) (s + width line) lines) v ≡ Ok u → AllPassed limit content (n + 1) (s + width line) lines v u)
    → read_line limit content t (here n s line) ≡ r → go_on (here n s line) (read_lines limit content (placed_from (n + 1) (s + width line) lines)) r ≡ Ok u
    → AllPassed limit content n s (line ∷ lines) t u
passed_step limit content n s line lines t u (Err k) more is e = absurd (cc)
passed_step {T = T} limit content n s line lines t u (Ok v) more is e =
    let h = line_passed limit content t v (here n s line) is in
    let rest = more v h.fits e in
    let size = rest.size in
    record {
      size = omega (arith, size);
      plain = (h.plain, rest.plain);
      read = ap (λ (x : Result T TextKind). and_then x (read_contents content (placed_from (n + 1) (s + width line) lines))) h.read ∙ rest.read;
    }

pub all_passed : {T : Type 0} (limit : ℕ) (content : T → Placed → Result T TextKind) (n s : ℕ) (lines : List Line) (t u : T) → s ≤ limit
    → read_lines limit content (placed_from n s lines) t ≡ Ok u → AllPassed limit content n s lines t u
all_passed limit content n s [] t u within e = record { size = omega (arith, within); plain = tt; read = ap Ok (cc) }
all_passed limit content n s (line ∷ lines) t u within e =
    passed_step limit content n s line lines t u (read_line limit content t (here n s line)) (λ v w h. all_passed limit content (n + 1) (s + width line) lines v u w h) refl e

again_step : {T : Type 0} (limit : ℕ) (content : T → Placed → Result T TextKind) (n s : ℕ) (line : Line) (lines : List Line) (t u : T) (r : Result T TextKind)
    → ((v : T) → AllPassed limit content (n + 1) (s + width line) lines v u → read_lines limit content (placed_from (n + 1) (s + width line) lines) v ≡ Ok u)
    → content t (here n s line) ≡ r → s + total (line ∷ lines) ≤ limit → AllByRecursion IsPlain (here n s line ∷ placed_from (n + 1) (s + width line) lines)
    → and_then r (read_contents content (placed_from (n + 1) (s + width line) lines)) ≡ Ok u
    → read_lines limit content (placed_from n s (line ∷ lines)) t ≡ Ok u
again_step limit content n s line lines t u (Err k) more is size plain e = absurd (cc)
again_step limit content n s line lines t u (Ok v) more is size plain e =
    let read = line_again limit content t v (here n s line) (record { plain = plain.0; fits = omega (arith, size); read = is }) in
    ap (go_on (here n s line) (read_lines limit content (placed_from (n + 1) (s + width line) lines))) read
    ∙ more v (record { size = omega (arith, size); plain = plain.1; read = e })

pub all_again : {T : Type 0} (limit : ℕ) (content : T → Placed → Result T TextKind) (n s : ℕ) (lines : List Line) (t u : T)
    → AllPassed limit content n s lines t u → read_lines limit content (placed_from n s lines) t ≡ Ok u
all_again limit content n s [] t u h = ap Ok (let e = h.read in cc)
all_again limit content n s (line ∷ lines) t u h =
    again_step limit content n s line lines t u (content t (here n s line)) (λ v g. all_again limit content (n + 1) (s + width line) lines v u g) refl h.size h.plain h.read

-- a reading that comes to its end has met no fault
none_step : {T S : Type 0} (limit : ℕ) (content : T → Placed → Result T TextKind) (kinds : S → Placed → List (Bool × TextKind)) (next : S → Placed → S) (Stands : T → S → Type 0)
    (n s : ℕ) (line : Line) (lines : List Line) (t u : T) (known : S) (r : Result T TextKind) → Agrees content kinds next Stands → Stands t known → s ≤ limit
    → ((v : T) (k : S) → Stands v k → s + width line ≤ limit → read_lines limit content (placed_from (n + 1) (s + width line) lines) v ≡ Ok u
    → HasNone limit kinds next k (placed_from (n + 1) (s + width line) lines) × Stands u (known_after next k (placed_from (n + 1) (s + width line) lines)))
    → read_line limit content t (here n s line) ≡ r → go_on (here n s line) (read_lines limit content (placed_from (n + 1) (s + width line) lines)) r ≡ Ok u
    → HasNone limit kinds next known (placed_from n s (line ∷ lines)) × Stands u (known_after next known (placed_from n s (line ∷ lines)))
none_step limit content kinds next Stands n s line lines t u known (Err k) agrees stands within more is e = absurd (cc)
none_step limit content kinds next Stands n s line lines t u known (Ok v) agrees stands within more is e =
    let h = line_passed limit content t v (here n s line) is in
    let none = line_faults limit content kinds next Stands agrees t known (here n s line) stands within ∙ ap fault_of is in
    let rest = more v (next known (here n s line)) (agrees.moves t v known (here n s line) stands h.read) h.fits e in
    ((none, rest.0), rest.1)

pub none_met : {T S : Type 0} (limit : ℕ) (content : T → Placed → Result T TextKind) (kinds : S → Placed → List (Bool × TextKind)) (next : S → Placed → S) (Stands : T → S → Type 0)
    (n s : ℕ) (lines : List Line) (t u : T) (known : S) → Agrees content kinds next Stands → Stands t known → s ≤ limit
    → read_lines limit content (placed_from n s lines) t ≡ Ok u
    → HasNone limit kinds next known (placed_from n s lines) × Stands u (known_after next known (placed_from n s lines))
none_met {T = T} limit content kinds next Stands n s [] t u known agrees stands within e = let same : t ≡ u = cc in (tt, subst (λ (x : T). Stands x known) same stands)
none_met limit content kinds next Stands n s (line ∷ lines) t u known agrees stands within e =
    none_step limit content kinds next Stands n s line lines t u known (read_line limit content t (here n s line)) agrees stands within
    (λ v k is w h. none_met limit content kinds next Stands (n + 1) (s + width line) lines v u k agrees is w h) refl e

-- lines without a fault are read to their end
free_step : {T S : Type 0} (limit : ℕ) (content : T → Placed → Result T TextKind) (kinds : S → Placed → List (Bool × TextKind)) (next : S → Placed → S) (Stands : T → S → Type 0)
    (n s : ℕ) (line : Line) (lines : List Line) (t : T) (known : S) (r : Result T TextKind) → Agrees content kinds next Stands → Stands t known → s ≤ limit
    → ((v : T) (k : S) → Stands v k → s + width line ≤ limit → HasNone limit kinds next k (placed_from (n + 1) (s + width line) lines)
    → (u : T) × (read_lines limit content (placed_from (n + 1) (s + width line) lines) v ≡ Ok u))
    → read_line limit content t (here n s line) ≡ r → HasNone limit kinds next known (placed_from n s (line ∷ lines))
    → (u : T) × (go_on (here n s line) (read_lines limit content (placed_from (n + 1) (s + width line) lines)) r ≡ Ok u)
free_step limit content kinds next Stands n s line lines t known (Err k) agrees stands within more is none =
    let kind = sym (line_faults limit content kinds next Stands agrees t known (here n s line) stands within ∙ ap fault_of is) ∙ none.0 in absurd (cc)
free_step limit content kinds next Stands n s line lines t known (Ok v) agrees stands within more is none =
    let h = line_passed limit content t v (here n s line) is in
    more v (next known (here n s line)) (agrees.moves t v known (here n s line) stands h.read) h.fits none.1

pub free_read : {T S : Type 0} (limit : ℕ) (content : T → Placed → Result T TextKind) (kinds : S → Placed → List (Bool × TextKind)) (next : S → Placed → S) (Stands : T → S → Type 0)
    (n s : ℕ) (lines : List Line) (t : T) (known : S) → Agrees content kinds next Stands → Stands t known → s ≤ limit
    → HasNone limit kinds next known (placed_from n s lines) → (u : T) × (read_lines limit content (placed_from n s lines) t ≡ Ok u)
free_read limit content kinds next Stands n s [] t known agrees stands within none = (t, refl)
free_read limit content kinds next Stands n s (line ∷ lines) t known agrees stands within none =
    free_step limit content kinds next Stands n s line lines t known (read_line limit content t (here n s line)) agrees stands within
    (λ v k is w h. free_read limit content kinds next Stands (n + 1) (s + width line) lines v k agrees is w h) refl none

-- the fault that stops a reading is the first of the lines that are left
first_step : {T S : Type 0} (limit : ℕ) (content : T → Placed → Result T TextKind) (kinds : S → Placed → List (Bool × TextKind)) (next : S → Placed → S) (Stands : T → S → Type 0)
    (n s : ℕ) (line : Line) (lines : List Line) (t : T) (known : S) (f : TextFault) (r : Result T TextKind) → Agrees content kinds next Stands → Stands t known → s ≤ limit
    → ((v : T) (k : S) → Stands v k → s + width line ≤ limit → read_lines limit content (placed_from (n + 1) (s + width line) lines) v ≡ Err f
    → IsFirstFaulty limit kinds next k (placed_from (n + 1) (s + width line) lines) f)
    → read_line limit content t (here n s line) ≡ r → go_on (here n s line) (read_lines limit content (placed_from (n + 1) (s + width line) lines)) r ≡ Err f
    → IsFirstFaulty limit kinds next known (placed_from n s (line ∷ lines)) f
first_step limit content kinds next Stands n s line lines t known f (Err k) agrees stands within more is e =
    let same : record { line = n; kind = k } ≡ f = cc in
    let kind = line_faults limit content kinds next Stands agrees t known (here n s line) stands within ∙ ap fault_of is in (
      [],
      here n s line,
      placed_from (n + 1) (s + width line) lines,
      refl,
      tt,
      kind ∙ ap (λ (x : TextFault). Some x.kind) same,
      sym (ap (λ (x : TextFault). x.line) same),
    )
first_step limit content kinds next Stands n s line lines t known f (Ok v) agrees stands within more is e =
    let h = line_passed limit content t v (here n s line) is in
    let none = line_faults limit content kinds next Stands agrees t known (here n s line) stands within ∙ ap fault_of is in
    let found = more v (next known (here n s line)) (agrees.moves t v known (here n s line) stands h.read) h.fits e in
    (here n s line ∷ found.0, found.1, found.2, ap (λ (ls : List Placed). here n s line ∷ ls) found.3, (none, found.4), found.5, found.6)

pub first_found : {T S : Type 0} (limit : ℕ) (content : T → Placed → Result T TextKind) (kinds : S → Placed → List (Bool × TextKind)) (next : S → Placed → S) (Stands : T → S → Type 0)
    (n s : ℕ) (lines : List Line) (t : T) (known : S) (f : TextFault) → Agrees content kinds next Stands → Stands t known → s ≤ limit
    → read_lines limit content (placed_from n s lines) t ≡ Err f → IsFirstFaulty limit kinds next known (placed_from n s lines) f
first_found limit content kinds next Stands n s [] t known f agrees stands within e = absurd (cc)
first_found limit content kinds next Stands n s (line ∷ lines) t known f agrees stands within e =
    first_step limit content kinds next Stands n s line lines t known f (read_line limit content t (here n s line)) agrees stands within
    (λ v k is w h. first_found limit content kinds next Stands (n + 1) (s + width line) lines v k f agrees is w h) refl e

-- the first fault of the lines that are left stops the reading
no_line : (before : List Placed) (q : Placed) (after : List Placed) → [] ≡ before ++ q ∷ after → ⊥
no_line [] q after e = cc
no_line (b ∷ before) q after e = cc

stops : {S : Type 0} (limit : ℕ) (kinds : S → Placed → List (Bool × TextKind)) (next : S → Placed → S) (known : S) (p : Placed) (lines : List Placed) (f : TextFault) (k : TextKind)
    (before : List Placed) (q : Placed) (after : List Placed)
    → first_kind (line_kinds limit (kinds known p) p) ≡ Some k → p ∷ lines ≡ before ++ q ∷ after → HasNone limit kinds next known before
    → first_kind (line_kinds limit (kinds (known_after next known before) q) q) ≡ Some f.kind → f.line ≡ q.number → record { line = p.number; kind = k } ≡ f
stops limit kinds next known p lines f k [] q after is split none kind number =
    let same : p ≡ q = cc in
    let kinds_are : Some k ≡ Some f.kind = sym is ∙ ap (λ (x : Placed). first_kind (line_kinds limit (kinds known x) x)) same ∙ kind in
    let one : k ≡ f.kind = cc in
    let two : p.number ≡ f.line = ap (λ (x : Placed). x.number) same ∙ sym number in
    ap (λ n. record { line = n; kind = k }) two ∙ ap (λ (x : TextKind). record { line = f.line; kind = x }) one
stops limit kinds next known p lines f k (b ∷ before) q after is split none kind number =
    let same : p ≡ b = cc in
    let other : Some k ≡ None = sym is ∙ ap (λ (x : Placed). first_kind (line_kinds limit (kinds known x) x)) same ∙ none.0 in
    absurd (cc)

-- a line has no fault, so the first is one of the others'
passes : {S : Type 0} (limit : ℕ) (kinds : S → Placed → List (Bool × TextKind)) (next : S → Placed → S) (known : S) (p : Placed) (lines : List Placed) (f : TextFault)
    (before : List Placed) (q : Placed) (after : List Placed)
    → first_kind (line_kinds limit (kinds known p) p) ≡ None → p ∷ lines ≡ before ++ q ∷ after → HasNone limit kinds next known before
    → first_kind (line_kinds limit (kinds (known_after next known before) q) q) ≡ Some f.kind → f.line ≡ q.number → IsFirstFaulty limit kinds next (next known p) lines f
passes limit kinds next known p lines f [] q after is split none kind number =
    let same : p ≡ q = cc in
    let kinds_are : None ≡ Some f.kind = sym is ∙ ap (λ (x : Placed). first_kind (line_kinds limit (kinds known x) x)) same ∙ kind in
    absurd (cc)
passes limit kinds next known p lines f (b ∷ before) q after is split none kind number =
    let same : b ≡ p = cc in
    let others : lines ≡ before ++ q ∷ after = cc in
    let P : Placed → Type 0 = λ x. HasNone limit kinds next (next known x) before in
    let Q : Placed → Type 0 = λ x. first_kind (line_kinds limit (kinds (known_after next (next known x) before) q) q) ≡ Some f.kind in
    (before, q, after, others, subst P same none.1, subst Q same kind, number)

stop_step : {T S : Type 0} (limit : ℕ) (content : T → Placed → Result T TextKind) (kinds : S → Placed → List (Bool × TextKind)) (next : S → Placed → S) (Stands : T → S → Type 0)
    (n s : ℕ) (line : Line) (lines : List Line) (t : T) (known : S) (f : TextFault) (r : Result T TextKind) → Agrees content kinds next Stands → Stands t known → s ≤ limit
    → ((v : T) (k : S) → Stands v k → s + width line ≤ limit → IsFirstFaulty limit kinds next k (placed_from (n + 1) (s + width line) lines) f
    → read_lines limit content (placed_from (n + 1) (s + width line) lines) v ≡ Err f)
    → read_line limit content t (here n s line) ≡ r → IsFirstFaulty limit kinds next known (placed_from n s (line ∷ lines)) f
    → go_on (here n s line) (read_lines limit content (placed_from (n + 1) (s + width line) lines)) r ≡ Err f
stop_step limit content kinds next Stands n s line lines t known f (Err k) agrees stands within more is h =
    let kind = line_faults limit content kinds next Stands agrees t known (here n s line) stands within ∙ ap fault_of is in
    ap Err (stops limit kinds next known (here n s line) (placed_from (n + 1) (s + width line) lines) f k h.0 h.1 h.2 kind h.3 h.4 h.5 h.6)
stop_step limit content kinds next Stands n s line lines t known f (Ok v) agrees stands within more is h =
    let passed = line_passed limit content t v (here n s line) is in
    let kind = line_faults limit content kinds next Stands agrees t known (here n s line) stands within ∙ ap fault_of is in
    let found = passes limit kinds next known (here n s line) (placed_from (n + 1) (s + width line) lines) f h.0 h.1 h.2 kind h.3 h.4 h.5 h.6 in
    more v (next known (here n s line)) (agrees.moves t v known (here n s line) stands passed.read) passed.fits found

pub first_stops : {T S : Type 0} (limit : ℕ) (content : T → Placed → Result T TextKind) (kinds : S → Placed → List (Bool × TextKind)) (next : S → Placed → S) (Stands : T → S → Type 0)
    (n s : ℕ) (lines : List Line) (t : T) (known : S) (f : TextFault) → Agrees content kinds next Stands → Stands t known → s ≤ limit
    → IsFirstFaulty limit kinds next known (placed_from n s lines) f → read_lines limit content (placed_from n s lines) t ≡ Err f
first_stops limit content kinds next Stands n s [] t known f agrees stands within h = absurd (no_line h.0 h.1 h.2 h.3)
first_stops limit content kinds next Stands n s (line ∷ lines) t known f agrees stands within h =
    stop_step limit content kinds next Stands n s line lines t known f (read_line limit content t (here n s line)) agrees stands within
    (λ v k is w g. first_stops limit content kinds next Stands (n + 1) (s + width line) lines v k f agrees is w g) refl h
