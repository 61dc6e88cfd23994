-- Every name is the name of a site in each version, and so is `-`.
use Rattle.std.proofs.Common.{◌≡◌, ℕ, true, ◌&&◌, List, length, nat_le, codes, refl, ap, ◌∙◌}
use Rattle.std.specs.List.{list_all}
use Rattle.std.specs.Str.{bytes_eq}
use Rattle.std.proofs.lemmas.Bool.{and_parts}
use Rattle.er_text.specs.declared.verbs.Version.{Version}
use Rattle.er_text.specs.declared.verbs.Version.TheVariants.{One, Two, Three}
use Rattle.er_lines.specs.Lines.{has_bytes}
use Rattle.er_lines.specs.Naming.{is_name_byte, is_name, is_site_byte, is_site_name}
use Rattle.er_text.specs.Naming.{is_site_word}
use Rattle.er_lines.proofs.ByteLemmas.{name_printed}
use Rattle.er_lines.proofs.SpelledLemmas.{equal}

pub record SiteParts (w : List ℕ) : Type 0 where
  pub some : has_bytes w ≡ true
  pub printed : list_all is_site_byte w ≡ true

name_site : (w : List ℕ) → is_name w ≡ true → is_site_name w ≡ true
name_site w name =
    let p = and_parts (has_bytes w && nat_le (length w) 128) (list_all is_name_byte w) name in
    rw (p.0, name_printed w p.1) refl

-- a name is the name of a site in each version
pub name_word : (v : Version) (w : List ℕ) → is_name w ≡ true → is_site_word v w ≡ true
name_word One w name = name
name_word Two w name = name
name_word Three w name = name_site w name

named_parts : (w : List ℕ) → is_site_name w ≡ true → SiteParts w
named_parts w site =
    let p = and_parts (has_bytes w && nat_le (length w) 128) (list_all is_site_byte w) site in
    record { some = (and_parts (has_bytes w) (nat_le (length w) 128) p.0).0; printed = p.1 }

pub site_parts : (v : Version) (w : List ℕ) → is_site_word v w ≡ true → SiteParts w
site_parts One w site = named_parts w (name_site w site)
site_parts Two w site = named_parts w (name_site w site)
site_parts Three w site = named_parts w site

dash_site : (v : Version) → is_site_word v (codes "-") ≡ true
dash_site One = refl
dash_site Two = refl
dash_site Three = refl

pub dash_named : (v : Version) (w : List ℕ) → bytes_eq w (codes "-") ≡ true → is_site_word v w ≡ true
dash_named v w e = ap (is_site_word v) (equal w (codes "-") e) ∙ dash_site v
