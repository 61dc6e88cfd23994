-- What comes before the report of a part.
use Rattle.std.specs.Prelude.{◌≡◌, Bool, List, [], ℕ, Option, Some, None}
use Rattle.er_merge.specs.Headings.{heading_text}
use Rattle.er_merge.specs.declared.headings.PartHeading.{PartHeading}
use Rattle.er_parts.specs.Parts.{PartView}

-- the line that says which part it is and whether it has reasons, and nothing without a part. Of the length and the digests in that line this shows nothing
abbrev pub IsHeading : Option PartView → Bool → List ℕ → Type 0
IsHeading None explain heading = heading ≡ []
IsHeading (Some part) explain heading =
    (said : PartHeading) × (heading ≡ heading_text said) × (said.part ≡ part.index) × (said.parts ≡ part.count) × (said.explained ≡ explain)
