-- The lines that the shortcut took are the next ones.
use Rattle.std.proofs.Common.{◌≡◌, ◌+◌, ◌*◌, ◌≤◌, ℕ, List, [], ◌∷◌, length, refl, ap, subst, arith, rules}
use Rattle.er_device.specs.Device.{inner_of}
use Rattle.er_lines.specs.Inner.Windows.{items}
use Rattle.er_lines.specs.Places.{Place}
use Rattle.er_lines.specs.Ready.{operand_name, thread_name}
use Rattle.er_lines.specs.Taking.{TakesLines}
use Rattle.er_lines.proofs.ReadyLaws.{lines_bounds, right_width, words_taken}
use Rattle.er_lines.proofs.lines.LineReader.take.Goals as goal

no_bytes : (bytes : List ℕ) → length bytes ≡ 0 → bytes ≡ []
no_bytes [] none = refl
no_bytes (byte ∷ bytes) none = absurd (omega (arith, none))

pub overflow_mul-width : goal.overflow_mul-width
overflow_mul-width g c =
    let bounds = lines_bounds (g.S.Shortcut.names_of c.take.new.reader) c.in_ok-line.line c.in_ok-line.ensures.right in
    omega (arith, bounds.1)

pub overflow_add-self-2 : goal.overflow_add-self-2
overflow_add-self-2 g c =
    let bounds = lines_bounds (g.S.Shortcut.names_of c.take.new.reader) c.in_ok-line.line c.in_ok-line.ensures.right in
    omega (arith, bounds.1, c.if-self-lt4096.false, c.self.invariant.0, c.self.invariant.1)

pub invariant_of-self : goal.invariant_of-self
invariant_of-self g c =
    let bounds = lines_bounds (g.S.Shortcut.names_of c.take.new.reader) c.in_ok-line.line c.in_ok-line.ensures.right in
    let was = c.self.invariant in
    let empty : length (items c.self.inside.window) ≡ 0 = search rules in
    (was.0, omega (arith, bounds.1, c.if-self-lt4096.false), omega (arith, bounds.0, was.2), omega (arith, bounds.1, c.if-self-lt4096.false, empty))

pub returns-clause-taken : goal.returns-clause-taken
returns-clause-taken g c =
    let at : Place = record { limit = c.self.inside.limit; number = c.self.inside.number; start = c.self.inside.start; ahead = items c.self.inside.window } in
    let line = c.in_ok-line.line in
    let new : Place = record at { number = at.number + line.count; start = at.start + line.count * line.width } in
    let right = c.in_ok-line.ensures.right in
    let names = g.S.Shortcut.names_of c.take.new.reader in
    let few = right.few in
    let room : at.start + line.count * 281 + 1025 ≤ at.limit = omega (arith, few, c.if-self-lt4096.false, c.self.invariant.1) in
    let empty : length (items c.self.inside.window) ≡ 0 = search rules in
    let takes = words_taken line.count at new _ _ line.verb line.address (thread_name names line) (operand_name names line) line.width (no_bytes (items c.self.inside.window) empty) right.form
    (rw c.inner_mut.ensures.value at c.in_ok-line.ensures.taken) room (right_width names line right) refl in
    let P : Place → Type 0 = λ p. TakesLines p new (g.R.Read.remaining (inner_of c.args.reader.now)) (g.R.Read.remaining c.take.new.reader) line.verb line.address (thread_name names line) (operand_name names line) line.count in
    rw (ap inner_of c.count_taken.ensures) (subst P c.self.view_is takes)

pub returns-clause-within : goal.returns-clause-within
returns-clause-within g c =
    let bounds = lines_bounds (g.S.Shortcut.names_of c.take.new.reader) c.in_ok-line.line c.in_ok-line.ensures.right in
    omega (arith, bounds.1, c.if-self-lt4096.false)

pub returns-clause-most : goal.returns-clause-most
returns-clause-most g c =
    let bounds = lines_bounds (g.S.Shortcut.names_of c.take.new.reader) c.in_ok-line.line c.in_ok-line.ensures.right in
    let empty : length (items c.self.inside.window) ≡ 0 = search rules in
    omega (arith, bounds.1, c.if-self-lt4096.false, empty)
