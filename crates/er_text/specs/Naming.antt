-- Words that name sites in a text of some version.
use Rattle.std.specs.Prelude.{ℕ, Bool, List, Option, Some, None, if◌then◌else◌}
use Rattle.er_text.specs.declared.verbs.Version.{Version}
use Rattle.er_text.specs.declared.verbs.Version.TheVariants.{One, Two, Three}
use Rattle.er_lines.specs.Naming.{is_name, is_site_name}

-- the word names a site in a text of this version, or is `-`
abbrev pub is_site_word : Version → List ℕ → Bool
is_site_word One word = is_name word
is_site_word Two word = is_name word
is_site_word Three word = is_site_name word

abbrev pub site_name_of : Version → List ℕ → Option (List ℕ)
site_name_of version word = if is_site_word version word then Some word else None
