-- What is known of the text that bytes mean.
use Rattle.std.proofs.Common.{◌≡◌, ◌∙◌, ℕ, zero, suc, Bool, true, false, cond, List, [], ◌∷◌, length, take, Option, Some, None, IfSome, option_map, refl, sym, ap, subst}
use Rattle.std.specs.Io.KnownBytes.{Consumes}
use Rattle.er_binary.specs.Decoded.{IsFresh, is_binary, is_noting, known_touches, source_of, to_come, to_touch}
use Rattle.er_binary.specs.Meaning.{meant, touches}
use Rattle.er_binary.specs.declared.decoded.Decoded.{Decoded}
use Rattle.er_device.specs.Device.{fresh as made, inner_of}
use Rattle.er_device.specs.declared.device.Device.{Device}
use Rattle.er_lines.specs.Touches.{StaysKnown}
use Rattle.er_lines.specs.declared.ready.Touch.{Touch}
use Rattle.er_report.specs.Reports.{asks_order}
use Rattle.er_request.specs.declared.request.Replay.{Replay}
use Rattle.eraser.specs.Files.{OfFile}
use Rattle.eraser.specs.Inner.Opened.{GivesAll, IsUnread}
use Rattle.eraser.specs.Replays.{OfTraceFile, limit_of, touched_in}

-- a reader that gives the text that its bytes mean
pub of-bytes : (known : Option (List ℕ)) (gives means : List ℕ → List ℕ) (P : List ℕ → Type 0) → ((bytes : List ℕ) → gives bytes ≡ means bytes) → IfSome (option_map gives known) P
    → IfSome known (λ bytes. P (means bytes))
of-bytes None gives means P same is = tt
of-bytes (Some bytes) gives means P same is = subst P (same bytes) is

-- and reads a file
pub of-file : {F : Type 0} (remaining : F → Option (List ℕ)) (decoded : Decoded F) (P : List ℕ → Type 0) → IsFresh decoded → IfSome (option_map (to_come decoded) (remaining (source_of decoded))) P
    → OfFile remaining (λ bytes. P (meant bytes))
of-file remaining decoded P fresh is = (source_of decoded, of-bytes (remaining (source_of decoded)) (to_come decoded) meant P fresh is)

-- a read with no room takes nothing
no_bytes : (n : ℕ) (buffer : List ℕ) → length buffer ≡ 0 → take n buffer ≡ []
no_bytes zero buffer empty = refl
no_bytes (suc n) [] empty = refl
no_bytes (suc n) (b ∷ bytes) empty = cc

same_text : (old new : Option (List ℕ)) (text : List ℕ) → Consumes old new [] → old ≡ Some text → new ≡ Some text
same_text None new text consumed is = cc
same_text (Some x) None text consumed is = absurd consumed
same_text (Some x) (Some y) text consumed is = ap Some (sym consumed) ∙ is

-- what is noted of a trace that wasn't read yet
noted : {F : Type 0} (remaining : F → Option (List ℕ)) (first asked : Decoded F) (bytes : List ℕ) (notes : Bool) → remaining (source_of asked) ≡ Some bytes → is_noting first ≡ false → is_binary first ≡ false
    → to_touch asked bytes ≡ touches bytes → is_noting asked ≡ cond notes (cond (is_binary first) (is_noting first) true) (is_noting first) → known_touches remaining asked ≡ Some (cond notes (touches bytes) [])
noted remaining first asked bytes true known unnoted unknown touch noting =
    ap (λ (on : Bool). cond on (option_map (to_touch asked) (remaining (source_of asked))) (Some [])) (noting ∙ ap (λ (b : Bool). cond b (is_noting first) true) unknown)
    ∙ (ap (option_map (to_touch asked)) known ∙ ap Some touch)
noted remaining first asked bytes false known unnoted unknown touch noting =
    ap (λ (on : Bool). cond on (option_map (to_touch asked) (remaining (source_of asked))) (Some [])) (noting ∙ unnoted)

-- a trace whose form was found gives all that it gave before
pub opened : {F : Type 0} (remaining : F → Option (List ℕ)) (notes : Bool) (n : ℕ) (buffer : List ℕ) (first asked begun : Decoded F) → IsUnread first
    → ((bytes : List ℕ) → to_come asked bytes ≡ to_come first bytes) → ((bytes : List ℕ) → to_touch asked bytes ≡ to_touch first bytes) → source_of asked ≡ source_of first
    → is_noting asked ≡ cond notes (cond (is_binary first) (is_noting first) true) (is_noting first) → length buffer ≡ 0
    → Consumes (option_map (to_come asked) (remaining (source_of asked))) (option_map (to_come begun) (remaining (source_of begun))) (take n buffer)
    → StaysKnown (known_touches remaining asked) (known_touches remaining begun) → OfFile remaining (λ bytes. GivesAll remaining notes bytes begun)
opened {F = F} remaining notes n buffer first asked begun (fresh, untouched, unnoted, unknown) text touch source noting empty consumed stays = (source_of first, by_case (remaining (source_of first)) refl)
  where
    nothing : Consumes (option_map (to_come asked) (remaining (source_of asked))) (option_map (to_come begun) (remaining (source_of begun))) []
    nothing = subst (λ (bytes : List ℕ). Consumes (option_map (to_come asked) (remaining (source_of asked))) (option_map (to_come begun) (remaining (source_of begun))) bytes) (no_bytes n buffer empty) consumed

    by_case : (known : Option (List ℕ)) → remaining (source_of first) ≡ known → IfSome known (λ bytes. GivesAll remaining notes bytes begun)
    by_case None is = tt
    by_case (Some bytes) is = (
      same_text (option_map (to_come asked) (remaining (source_of asked))) (option_map (to_come begun) (remaining (source_of begun))) (meant bytes) nothing
          (ap (option_map (to_come asked)) (ap remaining source ∙ is) ∙ ap Some (text bytes ∙ fresh bytes)),
      stays (cond notes (touches bytes) []) (noted remaining first asked bytes notes (ap remaining source ∙ is) unnoted unknown (touch bytes ∙ untouched bytes) noting),
    )

-- so what holds of all that it gives holds of what some file means
pub of-trace : {F : Type 0} (remaining : F → Option (List ℕ)) (replay : Replay) (has_own : Bool) (limit : ℕ) (decoded : Decoded F) (P : List ℕ → Option (List Touch) → ℕ → Type 0)
    → OfFile remaining (λ bytes. GivesAll remaining (asks_order replay.analysis) bytes decoded) → limit ≡ limit_of replay has_own
    → IfSome (option_map (to_come decoded) (remaining (source_of decoded))) (λ text. P text (known_touches remaining decoded) limit) → OfTraceFile remaining replay P
of-trace remaining replay has_own limit decoded P (file, gives) same holds = (file, by_case (remaining file) gives)
  where
    by_case : (known : Option (List ℕ)) → IfSome known (λ bytes. GivesAll remaining (asks_order replay.analysis) bytes decoded)
        → IfSome known (λ bytes. (own : Bool) × P (meant bytes) (touched_in replay bytes) (limit_of replay own))
    by_case None gives = tt
    by_case (Some bytes) (text, touches) = (
      has_own,
      subst (λ (n : ℕ). P (meant bytes) (touched_in replay bytes) n) same
          (subst (λ (t : Option (List Touch)). P (meant bytes) t limit) touches (subst (λ (o : Option (List ℕ)). IfSome o (λ t. P t (known_touches remaining decoded) limit)) text holds)),
    )

-- a device that was made of it wraps it
pub unread-in : {F : Type 0} (source : Device (Decoded F)) (decoded : Decoded F) → source ≡ made decoded → IsUnread decoded → IsUnread (inner_of source)
unread-in source decoded same unread = subst (λ (d : Device (Decoded _)). IsUnread (inner_of d)) (sym same) unread
