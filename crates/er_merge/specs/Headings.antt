-- The first line of the report of a part.
use Rattle.std.specs.Prelude.{ℕ, ◌+◌, ◌*◌, ◌%◌, ◌^◌, Bool, true, false, List, [], ◌∷◌, ◌++◌, codes, decimal}
use Rattle.std.specs.Int.{from_le_bytes, w64}
use Rattle.er_lines.specs.Number.{hex_digits}
use Rattle.er_merge.specs.declared.headings.PartHeading.{PartHeading}

-- the digest with one number more
unfoldable pub digest_with : ℕ → ℕ → ℕ
digest_with digest number = (digest + (number + 1)) % 2 ^ 64 * 11400714819323198485 % 2 ^ 64

-- and with each of these bytes as a number
abbrev pub digest_each : ℕ → List ℕ → ℕ
digest_each digest [] = digest
digest_each digest (byte ∷ bytes) = digest_each (digest_with digest byte) bytes

-- and with these bytes: 8 at a time as one number, the lowest first, and the last few one by one
abbrev pub digest_after : ℕ → List ℕ → ℕ
digest_after digest (a ∷ b ∷ c ∷ d ∷ e ∷ f ∷ g ∷ h ∷ bytes) = digest_after (digest_with digest (from_le_bytes w64 (a ∷ b ∷ c ∷ d ∷ e ∷ f ∷ g ∷ h ∷ []))) bytes
digest_after digest bytes = digest_each digest bytes

-- whether races have reasons
abbrev pub reasons : Bool → List ℕ
reasons true = codes ", with reasons"
reasons false = codes ", without reasons"

-- what it is of
unfoldable pub about_text : PartHeading → List ℕ
about_text heading =
    codes " of a trace of " ++ decimal heading.bytes ++ codes " bytes, digest " ++ hex_digits 16 heading.digest ++ codes ", rules " ++ hex_digits 16 heading.rules
    ++ reasons heading.explained

-- and which part
abbrev pub heading_text : PartHeading → List ℕ
heading_text heading = codes "# part " ++ decimal heading.part ++ codes " of " ++ decimal heading.parts ++ about_text heading ++ 10 ∷ []
