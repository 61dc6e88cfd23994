-- The text of a line is whole lines, which make it again.
use Rattle.std.proofs.Common.{◌≡◌, ℕ, Bool, true, false, List, [], ◌∷◌, ◌++◌, map, flat_map, refl, sym, ap, ◌∙◌, subst, append_assoc, append-nil, codes, decimal, arith}
use Rattle.std.specs.List.{list_all}
use Rattle.std.proofs.lemmas.List.Concat.{flat_map-append}
use Rattle.std.proofs.lemmas.List.Folds.{flat_map-map, list_all-append}
use Rattle.er_event.specs.Refusal.{text_of}
use Rattle.er_lines.specs.Lines.{AreWhole, Line, is_end, lines_of, onto_line}
use Rattle.er_lines.proofs.WholeLemmas.{lines_append}
use Rattle.er_print.specs.Printed.{address_text, bytes_between, deed_text, event_text, kind_text, label_text, line_text, locks_text, name_at, place_text, race_label, reason_text, site_text, state_text}
use Rattle.er_print.specs.Styles.{named_site}
use Rattle.er_print.specs.declared.lines.ReportKind.TheVariants.{Lockset}
use Rattle.er_print.specs.declared.styles.Style.TheVariants as style
use Rattle.er_report.specs.Lines.{LineView, RaceView, RacedView, RefusedView, ShownView}
use Rattle.er_report.specs.declared.report.Because.{Because}
use Rattle.er_report.specs.declared.report.Deed.{Deed}
use Rattle.er_report.specs.declared.report.Deed.TheVariants as deed
use Rattle.er_trace.specs.Names.{NameTable}
use Rattle.std.proofs.lemmas.Bool.Decides.{nat_tests}
use Rattle.er_merge.specs.Merging.{entry_text}
use Rattle.er_merge.specs.Parts.{EntryView, entry_view}
use Rattle.er_merge.specs.Texts.{entries_of, place_of}
use Rattle.er_merge.specs.declared.parts.Entry.{Entry}

-- one line or more, each with its LF
abbrev EndWhole : List Line → Type 0
EndWhole [] = ⊥
EndWhole (line ∷ lines) = list_all (λ (l : Line). l.ended) (line ∷ lines) ≡ true

onto_whole : (x : ℕ) (lines : List Line) → EndWhole lines → EndWhole (onto_line x lines)
onto_whole x [] whole = absurd whole
onto_whole x (line ∷ lines) whole = whole

first_whole : (lines : List Line) → EndWhole lines → EndWhole (record { bytes = []; ended = true } ∷ lines)
first_whole [] whole = refl
first_whole (line ∷ lines) whole = whole

behind_step : (x : ℕ) (xs : List ℕ) (b : Bool) → is_end x ≡ b → EndWhole (lines_of xs) → EndWhole (lines_of (x ∷ xs))
behind_step x xs true e whole = rw e (first_whole (lines_of xs) whole)
behind_step x xs false e whole = rw e (onto_whole x (lines_of xs) whole)

-- bytes before whole lines
behind : (xs ys : List ℕ) → EndWhole (lines_of ys) → EndWhole (lines_of (xs ++ ys))
behind [] ys whole = whole
behind (x ∷ xs) ys whole = behind_step x (xs ++ ys) (is_end x) refl (behind xs ys whole)

whole_of : (lines : List Line) → EndWhole lines → list_all (λ (l : Line). l.ended) lines ≡ true
whole_of [] whole = absurd whole
whole_of (line ∷ lines) whole = whole

pub whole_append : (a b : List ℕ) → AreWhole a → AreWhole b → AreWhole (a ++ b)
whole_append a b first second =
    let ended : Line → Bool = λ (l : Line). l.ended in
    ap (list_all ended) (lines_append a b first) ∙ list_all-append ended (lines_of a) (lines_of b) ∙ (rw (first, second) refl)

one_line : EndWhole (lines_of (10 ∷ []))
one_line = refl

-- pieces, and an LF behind them
abbrev pub closed : List (List ℕ) → List ℕ
closed [] = 10 ∷ []
closed (piece ∷ pieces) = piece ++ closed pieces

closed_whole : (pieces : List (List ℕ)) → EndWhole (lines_of (closed pieces))
closed_whole [] = one_line
closed_whole (piece ∷ pieces) = behind piece (closed pieces) (closed_whole pieces)

-- the pieces of what a thread did that is a race
abbrev pub deed_pieces : NameTable → RaceView → Deed → List (List ℕ)
deed_pieces names race (deed.Access kind word) =
    name_at names.threads race.thread ∷ codes " " ∷ kind_text kind ∷ codes " " ∷ address_text word ∷ codes " at " ∷ site_text names race.site ∷ codes ", holds " ∷ locks_text names race.held ∷ []
deed_pieces names race (deed.Reuse range) =
    name_at names.threads race.thread ∷ codes " reuse " ∷ address_text range.lo ∷ codes " " ∷ decimal (bytes_between range.lo range.hi) ∷ named_site style.Plain names (codes " at ") race.site ∷ []

abbrev pub reason_pieces : NameTable → Because → List (List ℕ)
reason_pieces names because =
    codes "  " ∷ label_text names because.label ∷ codes ": line " ∷ decimal because.line ∷ codes ", " ∷ name_at names.threads because.thread ∷ codes " " ∷ kind_text because.kind ∷ []

-- the pieces of the first line of what is printed
abbrev pub head_pieces : NameTable → LineView → List (List ℕ)
head_pieces names (RacedView race) = place_text race.line ∷ race_label Lockset ∷ deed_pieces names race race.deed
head_pieces names (RefusedView number step refusal) =
    place_text number ∷ codes "refused: " ∷ name_at names.threads step.thread ∷ codes " " ∷ event_text names step.event ∷ codes ": " ∷ text_of refusal ∷ []
head_pieces names (ShownView number word state) = place_text number ∷ codes "state " ∷ address_text word ∷ codes ": " ∷ state_text names state ∷ []

abbrev pub reasons_in : LineView → List Because
reasons_in (RacedView race) = race.explained
reasons_in (RefusedView number step refusal) = []
reasons_in (ShownView number word state) = []

-- the same, put together from the left
abbrev pub closed_from : List ℕ → List (List ℕ) → List ℕ
closed_from front [] = front ++ 10 ∷ []
closed_from front (piece ∷ pieces) = closed_from (front ++ piece) pieces

pub closed_is : (front : List ℕ) (pieces : List (List ℕ)) → closed_from front pieces ≡ front ++ closed pieces
closed_is front [] = refl
closed_is front (piece ∷ pieces) = closed_is (front ++ piece) pieces ∙ append_assoc front piece (closed pieces)

deed_closed : (names : NameTable) (race : RaceView) (d : Deed) → deed_text names race d ≡ closed (deed_pieces names race d)
deed_closed names race (deed.Access kind word) =
    closed_is (name_at names.threads race.thread) (codes " " ∷ kind_text kind ∷ codes " " ∷ address_text word ∷ codes " at " ∷ site_text names race.site ∷ codes ", holds " ∷ locks_text names race.held ∷ [])
deed_closed names race (deed.Reuse range) =
    closed_is (name_at names.threads race.thread) (codes " reuse " ∷ address_text range.lo ∷ codes " " ∷ decimal (bytes_between range.lo range.hi) ∷ named_site style.Plain names (codes " at ") race.site ∷ [])

reason_closed : (names : NameTable) (because : Because) → reason_text names because ≡ closed (reason_pieces names because)
reason_closed names because =
    closed_is (codes "  ") (label_text names because.label ∷ codes ": line " ∷ decimal because.line ∷ codes ", " ∷ name_at names.threads because.thread ∷ codes " " ∷ kind_text because.kind ∷ [])

reasons_closed : (names : NameTable) (reasons : List Because) → flat_map (reason_text names) reasons ≡ flat_map (λ because. closed (reason_pieces names because)) reasons
reasons_closed names [] = refl
reasons_closed names (because ∷ reasons) =
    ap (λ t. t ++ flat_map (reason_text names) reasons) (reason_closed names because) ∙ ap (λ t. closed (reason_pieces names because) ++ t) (reasons_closed names reasons)

-- what is printed for a line is these pieces, and then its reasons
pub line_pieces : (names : NameTable) (line : LineView) → line_text Lockset names line ≡ closed (head_pieces names line) ++ flat_map (λ because. closed (reason_pieces names because)) (reasons_in line)
line_pieces names (RacedView race) =
    ap (λ t. place_text race.line ++ race_label Lockset ++ t ++ flat_map (reason_text names) race.explained) (deed_closed names race race.deed)
    ∙ ap (λ t. t ++ flat_map (reason_text names) race.explained) (append_assoc (place_text race.line) (race_label Lockset) (closed (deed_pieces names race race.deed)))
    ∙ ap (λ t. closed (head_pieces names (RacedView race)) ++ t) (reasons_closed names race.explained)
line_pieces names (RefusedView number step refusal) =
    closed_is (place_text number) (codes "refused: " ∷ name_at names.threads step.thread ∷ codes " " ∷ event_text names step.event ∷ codes ": " ∷ text_of refusal ∷ [])
    ∙ sym (append-nil (closed (head_pieces names (RefusedView number step refusal))))
line_pieces names (ShownView number word state) =
    closed_is (place_text number) (codes "state " ∷ address_text word ∷ codes ": " ∷ state_text names state ∷ []) ∙ sym (append-nil (closed (head_pieces names (ShownView number word state))))

reasons_whole : (names : NameTable) (reasons : List Because) → AreWhole (flat_map (λ because. closed (reason_pieces names because)) reasons)
reasons_whole names [] = refl
reasons_whole names (because ∷ reasons) =
    let one : AreWhole (closed (reason_pieces names because)) = whole_of (lines_of (closed (reason_pieces names because))) (closed_whole (reason_pieces names because)) in
    whole_append (closed (reason_pieces names because)) (flat_map (λ because. closed (reason_pieces names because)) reasons) one (reasons_whole names reasons)

pub line_whole : (names : NameTable) (line : LineView) → AreWhole (line_text Lockset names line)
line_whole names line =
    let one : AreWhole (closed (head_pieces names line)) = whole_of (lines_of (closed (head_pieces names line))) (closed_whole (head_pieces names line)) in
    subst AreWhole (sym (line_pieces names line))
    (whole_append (closed (head_pieces names line)) (flat_map (λ because. closed (reason_pieces names because)) (reasons_in line)) one (reasons_whole names (reasons_in line)))

-- whole lines make their text again

abbrev with_feed : Line → List ℕ
with_feed line = line.bytes ++ 10 ∷ []

onto_again : (x : ℕ) (lines : List Line) → list_all (λ (l : Line). l.ended) (onto_line x lines) ≡ true → flat_map with_feed (onto_line x lines) ≡ x ∷ flat_map with_feed lines
onto_again x [] whole = absurd (cc)
onto_again x (line ∷ lines) whole = refl

onto_ended : (x : ℕ) (lines : List Line) → list_all (λ (l : Line). l.ended) (onto_line x lines) ≡ true → list_all (λ (l : Line). l.ended) lines ≡ true
onto_ended x [] e = refl
onto_ended x (line ∷ lines) e = e

is_feed : (x : ℕ) → is_end x ≡ true → x ≡ 10
is_feed x e = grind (arith, nat_tests, e)

again_step : (x : ℕ) (xs : List ℕ) (b : Bool) → is_end x ≡ b → (AreWhole xs → flat_map with_feed (lines_of xs) ≡ xs) → AreWhole (x ∷ xs) → flat_map with_feed (lines_of (x ∷ xs)) ≡ x ∷ xs
again_step x xs true e more whole = let rest : AreWhole xs = rw e at whole in rw e (ap (λ ys. 10 ∷ ys) (more rest) ∙ ap (λ y. y ∷ xs) (sym (is_feed x e)))
again_step x xs false e more whole =
    let front : list_all (λ (l : Line). l.ended) (onto_line x (lines_of xs)) ≡ true = rw e at whole in
    rw e (onto_again x (lines_of xs) front ∙ ap (λ ys. x ∷ ys) (more (onto_ended x (lines_of xs) front)))

pub text_again : (xs : List ℕ) → AreWhole xs → flat_map with_feed (lines_of xs) ≡ xs
text_again [] whole = refl
text_again (x ∷ xs) whole = again_step x xs (is_end x) refl (text_again xs) whole

abbrev view_text : EntryView → List ℕ
view_text view = view.text ++ 10 ∷ []

entry_again : (names : NameTable) (line : LineView) → flat_map view_text (entries_of names line) ≡ line_text Lockset names line
entry_again names line =
    flat_map-map view_text (λ (part : Line). record { place = place_of names line; text = part.bytes }) (lines_of (line_text Lockset names line)) ∙ text_again (line_text Lockset names line) (line_whole names line)

views_again : (names : NameTable) (lines : List LineView) → flat_map view_text (flat_map (entries_of names) lines) ≡ flat_map (line_text Lockset names) lines
views_again names [] = refl
views_again names (line ∷ lines) =
    flat_map-append view_text (entries_of names line) (flat_map (entries_of names) lines)
    ∙ ap (λ xs. xs ++ flat_map view_text (flat_map (entries_of names) lines)) (entry_again names line)
    ∙ ap (λ xs. line_text Lockset names line ++ xs) (views_again names lines)

-- the text of the entries of lines is what is printed for these
pub entries_again : (names : NameTable) (lines : List LineView) (entries : List Entry) → map entry_view entries ≡ flat_map (entries_of names) lines
    → flat_map entry_text entries ≡ flat_map (line_text Lockset names) lines
entries_again names lines entries are =
    sym (flat_map-map view_text entry_view entries) ∙ ap (flat_map view_text) are ∙ views_again names lines
