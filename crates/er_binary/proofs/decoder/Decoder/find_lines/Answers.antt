-- An access is found, or the line of a lock event, and another record goes on.
use Rattle.std.proofs.Common.{◌≡◌, ◌<◌, ◌++◌, ℕ, List, [], length, drop, vec_items, refl, sym, ap, subst, ◌∙◌, arith, rules, length-drop}
use Rattle.er_lines.specs.Ready.{IsRight, line_text}
use Rattle.er_binary.specs.Inner.Decoders.{HasGiven, still, to_note}
use Rattle.er_binary.specs.Inner.Words.{counted, passed, words_at, words_text}
use Rattle.er_binary.specs.Meaning.{Taken, take_said}
use Rattle.er_binary.specs.Records.{record_at}
use Rattle.er_binary.specs.States.{is_access, names_in}
use Rattle.er_binary.specs.Touches.{lines_alone, passed_by, said_by, touches_said}
use Rattle.er_binary.specs.declared.decoder.Phase.TheVariants as phase
use Rattle.er_binary.specs.declared.records.Record.{Record}
use Rattle.er_binary.specs.declared.state.State.{State}
use Rattle.er_binary.specs.declared.state.Words.{Words}
use Rattle.er_lines.specs.declared.ready.NameKind.{NameKind}
use Rattle.er_binary.specs.declared.touches.Said.{Said}
use Rattle.er_binary.proofs.DecoderLaws.{emptied}
use Rattle.er_binary.proofs.NotesLaws.{passed_none, unnoted}
use Rattle.er_binary.proofs.TakingLaws.{access_taken, goes_trans, other_taken, access_noted, other_noted, takes_behind}
use Rattle.er_binary.proofs.WordsLaws.{kept_all, words_by}
use Rattle.er_binary.proofs.decoder.Decoder.find_lines.Goals.{then-goes_to, else-goes_to+else-not-makes_next, else-is_on-via-then-is_on+else-not-note, else-is_on-via-else-is_on}
use Rattle.er_binary.proofs.decoder.Decoder.find_lines.Goals as goal

pub loop-init : goal.loop-init
unfolding still to_note
loop-init c = record { goes = record { same = λ rest. refl; kept = λ kind n some. refl; noted = record { on = refl; same = λ is rest. refl } } }

pub returns-then-not-note-clause-none : goal.returns-then-not-note-clause-none
returns-then-not-note-clause-none c =
    let d = c.loop.self in
    let same = c.note.ensures.refused (search rules) in
    let given : HasGiven d = search rules in
    goes_trans _ d _ c.loop.invariant.goes (record {
      same = λ rest. emptied d _ rest given given refl refl refl refl refl refl refl refl;
      kept = λ kind n some. refl;
      noted = unnoted d _ c.note.ensures.on same.0 same.1 refl refl refl refl refl refl refl refl;
    })

pub note-requires-clause-below : goal.note-requires-clause-below
note-requires-clause-below c =
    let d = c.loop.self in
    let a = c.in-Access.access in
    let words = c.in_ok-words-in-Access.words in
    let h = words_by (is_access d.state a) (words_at d.state a) words _ c.in_ok-words-in-Access.ensures.words refl in
    let began = ap (λ (w : Words). w.at) h.1 in
    let ended = ap (λ (w : Words). w.end) h.1 in
    let address = ap (λ (s : Said). s.address) c.access.ensures.said in
    let size = ap (λ (s : Said). s.size) c.access.ensures.said in
    omega (arith, began, ended, address, size, c.in_ok-words-in-Access.ensures.end)

pub returns-in-Access-clause-takes : goal.returns-in-Access-clause-takes
returns-in-Access-clause-takes c =
    let d = c.loop.self in
    let head = c.in_ok-head.head in
    let a = c.in-Access.access in
    let words = c.in_ok-words-in-Access.words in
    let line = c.in_ok-line-in-Access.line in
    let items = vec_items d.bytes in
    let back = c.split_at.ensures.back ∙ ap (λ (t : List ℕ). drop d.next t) c.deref.ensures.value in
    let len = ap length back in
    let within = c.in_ok-head.ensures.within in
    let given : HasGiven d = search rules in
    let at : d.phase ≡ phase.Record = search rules in
    let less : d.next < length items = omega (arith, within.0, within.1, len, length-drop d.next items) in
    let is = sym (c.in_ok-head.ensures.value ∙ ap (λ (t : List ℕ). record_at t) back) in
    let h = words_by (is_access d.state a) (words_at d.state a) words _ c.in_ok-words-in-Access.ensures.words refl in
    let state = c.pass.ensures ∙ ap (λ (v : Words). passed d.state v) h.1 in
    let began = ap (λ (w : Words). w.at) h.1 in
    let text = ap (words_text d.state) (sym h.1) ∙ c.in_ok-line-in-Access.ensures.text in
    let right = subst (λ (s : State). IsRight (names_in s) line) (sym c.pass.ensures) c.in_ok-line-in-Access.ensures.right in
    takes_behind _ d _ line c.loop.invariant.goes (elim c.else-is_on.branch [
      | else-is_on-via-then-is_on+else-not-note w ↦
          let says : w.access.result ≡ said_by d.state head.says = rw (w.access.ensures.said, began, c.in-Access.is) refl in
          rw w.self-is (record {
            some = λ rest. access_taken d _ rest head a line given at is c.in-Access.is less within.0 h.0 given at state text c.pass-in-Access.ensures refl refl;
            right = right;
            kept = λ kind n some. kept_all d.state c.pass.new.self (ap (λ (s : State). s.threads) c.pass.ensures) (ap (λ (s : State). s.locks) c.pass.ensures) (ap (λ (s : State). s.places) c.pass.ensures) kind n;
            noted = access_noted d _ head a at is c.in-Access.is less within.0 h.0 at state c.pass-in-Access.ensures refl refl w.note.ensures.on
                (λ on. w.note.ensures.touches (search rules) on ∙ ap (λ (s : Said). vec_items d.notes.touches ++ touches_said d.notes.line s) says)
                (λ on. w.note.ensures.line (search rules) on ∙ ap (λ (s : Said). passed_by d.notes.line s.lines) says);
          })
      | else-is_on-via-else-is_on w ↦
          rw w.self-is (record {
            some = λ rest. access_taken d _ rest head a line given at is c.in-Access.is less within.0 h.0 given at state text c.pass-in-Access.ensures refl refl;
            right = right;
            kept = λ kind n some. kept_all d.state c.pass.new.self (ap (λ (s : State). s.threads) c.pass.ensures) (ap (λ (s : State). s.locks) c.pass.ensures) (ap (λ (s : State). s.places) c.pass.ensures) kind n;
            noted = access_noted d _ head a at is c.in-Access.is less within.0 h.0 at state c.pass-in-Access.ensures refl refl refl
                (λ on. absurd (cc (on, w.if-is_on.false))) (λ on. absurd (cc (on, w.if-is_on.false)));
          })
    ])

pub returns-in-Some-clause-takes : goal.returns-in-Some-clause-takes
returns-in-Some-clause-takes c =
    let d = c.loop.self in
    let head = c.in_ok-head.head in
    let items = vec_items d.bytes in
    let back = c.split_at.ensures.back ∙ ap (λ (t : List ℕ). drop d.next t) c.deref.ensures.value in
    let len = ap length back in
    let within = c.in_ok-head.ensures.within in
    let given : HasGiven d = search rules in
    let at : d.phase ≡ phase.Record = search rules in
    let less : d.next < length items = omega (arith, within.0, within.1, len, length-drop d.next items) in
    let is = sym (c.in_ok-head.ensures.value ∙ ap (λ (t : List ℕ). record_at t) back) in
    let said = ap (λ (r : Record). take_said d.state head.len (drop head.len (drop d.next items)) r) c.in-Other.is ∙ c.in-Some.ensures.taken head.len (drop head.len (drop d.next items)) in
    let t : Taken = record { text = line_text (names_in d.state) c.in-Some.line; state = counted d.state; len = head.len; says = lines_alone 1 } in
    takes_behind _ d _ c.in-Some.line c.loop.invariant.goes (record {
      some = λ rest. other_taken d _ rest head t given at is said less within.0 given at refl c.pass-in-Some.ensures refl refl;
      right = c.in-Some.ensures.right;
      kept = λ kind n some. refl;
      noted = other_noted d _ head t 1 at is said less within.0 at refl c.pass-in-Some.ensures refl refl refl c.pass_lines.ensures.on c.pass_lines.ensures.touches c.pass_lines.ensures.line;
    })

pub returns-then-not-makes_next-clause-none : goal.returns-then-not-makes_next-clause-none
returns-then-not-makes_next-clause-none c =
    let d = c.loop.self in
    let given : HasGiven d = search rules in
    let state = c.goes_to.ensures.other c.if-goes_to.false in
    goes_trans _ d _ c.loop.invariant.goes (goes_trans d _ _ (record {
      same = λ rest. emptied d _ rest given given refl state refl refl refl refl refl refl;
      kept = λ kind n some. kept_all d.state c.goes_to.new.self c.goes_to.ensures.same.0 c.goes_to.ensures.same.1 c.goes_to.ensures.same.2 kind n;
      noted = unnoted d _ refl refl refl refl state refl refl refl refl refl refl;
    }) c.makes_next.ensures.goes)

pub loop-preserved : goal.loop-preserved
loop-preserved c =
    let d = c.loop.self in
    let head = c.in_ok-head.head in
    let items = vec_items d.bytes in
    let back = c.split_at.ensures.back ∙ ap (λ (t : List ℕ). drop d.next t) c.deref.ensures.value in
    let len = ap length back in
    let within = c.in_ok-head.ensures.within in
    let given : HasGiven d = search rules in
    let at : d.phase ≡ phase.Record = search rules in
    let less : d.next < length items = omega (arith, within.0, within.1, len, length-drop d.next items) in
    let is = sym (c.in_ok-head.ensures.value ∙ ap (λ (t : List ℕ). record_at t) back) in
    let kept = λ (kind : NameKind) (n : ℕ). kept_all d.state c.goes_to.new.self c.goes_to.ensures.same.0 c.goes_to.ensures.same.1 c.goes_to.ensures.same.2 kind n in
    elim c.if-goes_to.branch [
      | then-goes_to w ↦
          let t : Taken = record { text = []; state = c.goes_to.new.self; len = head.len; says = lines_alone 0 } in
          let behind = drop head.len (drop d.next items) in
          let said = ap (λ (r : Record). take_said d.state head.len behind r) c.in-Other.is ∙ c.goes_to.ensures.taken w.if-goes_to.true head.len behind in
          rw w.self-is (record {
            goes = goes_trans _ d _ c.loop.invariant.goes (record {
              same = λ rest. other_taken d _ rest head t given at is said less within.0 given at refl w.pass-then-goes_to.ensures refl refl;
              kept = λ kind n some. kept kind n;
              noted = other_noted d _ head t 0 at is said less within.0 at refl w.pass-then-goes_to.ensures refl refl refl refl refl (λ on. sym (passed_none d.notes.line d.notes.counted));
            });
          })
      | else-goes_to+else-not-makes_next w ↦
          let state = c.goes_to.ensures.other w.if-goes_to.false in
          rw w.self-is (record {
            goes = goes_trans _ d _ c.loop.invariant.goes (goes_trans d _ _ (record {
              same = λ rest. emptied d _ rest given given refl state refl refl refl refl refl refl;
              kept = λ kind n some. kept kind n;
              noted = unnoted d _ refl refl refl refl state refl refl refl refl refl refl;
            }) w.makes_next.ensures.goes);
          })
    ]
