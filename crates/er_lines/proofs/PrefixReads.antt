-- What a read of the first lines gives and leaves.
use Rattle.std.proofs.Common.{◌≡◌, ℕ, ◌<◌, ◌≤◌, Option, Some, None, option_map, List, [], ◌++◌, length, take, ap, sym, ◌∙◌, refl, arith}
use Rattle.std.proofs.Math.Seq.{take-take, length-take-le}
use Rattle.std.specs.Io.KnownBytes.{Consumes, IsAtEnd}
use Rattle.er_lines.specs.Prefix.{first_lines}
use Rattle.er_lines.specs.Inner.Prefixes.{lines_behind}
use Rattle.er_lines.proofs.PrefixLemmas.{no_lines, first_lines_append, first_lines_begin, first_lines_within, first_lines_some}

-- known bytes of no lines
pub none_left : (lines : ℕ) (known : Option (List ℕ)) → lines ≡ 0 → IsAtEnd (option_map (first_lines lines) known)
none_left lines None none = tt
none_left lines (Some bytes) none = no_lines lines bytes none

pub nothing_read : (lines : ℕ) (known : Option (List ℕ)) → Consumes (option_map (first_lines lines) known) (option_map (first_lines lines) known) []
nothing_read lines None = tt
nothing_read lines (Some bytes) = refl

-- what a read gave of known bytes, cut to the lines that were left
pub lines_read : (old new : Option (List ℕ)) (lines left count len : ℕ) (buffer : List ℕ) → Consumes old new (take count buffer) → count ≤ length buffer
    → len ≡ length (first_lines lines (take count buffer)) → left ≡ lines_behind (take count buffer) lines
    → Consumes (option_map (first_lines lines) old) (option_map (first_lines left) new) (take len buffer)
lines_read None new lines left count len buffer read fits same behind = tt
lines_read (Some before) None lines left count len buffer read fits same behind = absurd read
lines_read (Some before) (Some after) lines left count len buffer read fits same behind =
    let within : len ≤ count = omega (arith, first_lines_within lines (take count buffer), length-take-le count buffer fits) in
    let given = sym (take-take len count buffer within) ∙ ap (λ (n : ℕ). take n (take count buffer)) same ∙ first_lines_begin lines (take count buffer) in
    ap (first_lines lines) read ∙ first_lines_append lines (take count buffer) after ∙ ap (λ (n : ℕ). first_lines lines (take count buffer) ++ first_lines n after) (sym behind)
    ∙ ap (λ (bytes : List ℕ). bytes ++ first_lines left after) (sym given)

-- a read that gives no byte of a line that is left found the end
pub end_read : (new : Option (List ℕ)) (lines left count len : ℕ) (buffer : List ℕ) → 0 < lines → count ≤ length buffer → (count ≡ 0 → 0 < length buffer → IsAtEnd new)
    → len ≡ length (first_lines lines (take count buffer)) → len ≡ 0 → 0 < length buffer → IsAtEnd (option_map (first_lines left) new)
end_read None lines left count len buffer some fits found same none room = tt
end_read (Some after) lines left count len buffer some fits found same none room =
    let empty = first_lines_some lines (take count buffer) some (sym same ∙ none) in
    let zero : count ≡ 0 = sym (length-take-le count buffer fits) ∙ ap length empty in
    ap (first_lines left) (found zero room)
