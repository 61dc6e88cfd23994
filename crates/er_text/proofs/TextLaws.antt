-- Of a text and a limit: a trace or a fault, and no two of them.
use Rattle.std.proofs.Common.{◌≡◌, ℕ, ◌⊎◌, inl, inr, List, Result, Ok, Err, refl, sym, ◌∙◌}
use Rattle.er_lines.specs.declared.faults.TextFault.{TextFault}
use Rattle.er_trace.specs.Trace.{Recording}
use Rattle.er_text.specs.Inner.Traces.{read_text}
use Rattle.er_text.specs.Trace.{IsTrace, IsFault}
use Rattle.er_text.proofs.TraceLaws.{trace_is, trace_read, fault_is, fault_read}

outcome : (text : List ℕ) (limit : ℕ) (r : Result Recording TextFault) → read_text limit text ≡ r
    → ((t : Recording) × IsTrace text limit t) ⊎ ((f : TextFault) × IsFault text limit f)
outcome text limit (Ok t) e = inl (t, trace_is limit text t e)
outcome text limit (Err f) e = inr (f, fault_is limit text f e)

pub either_one : (text : List ℕ) (limit : ℕ) → ((t : Recording) × IsTrace text limit t) ⊎ ((f : TextFault) × IsFault text limit f)
either_one text limit = outcome text limit (read_text limit text) refl

pub not_both : (text : List ℕ) (limit : ℕ) (t : Recording) (f : TextFault) → IsTrace text limit t → IsFault text limit f → ⊥
not_both text limit t f is fails = let e = sym (trace_read limit text t is) ∙ fault_read limit text f fails in cc

pub same_trace : (text : List ℕ) (limit : ℕ) (t u : Recording) → IsTrace text limit t → IsTrace text limit u → t ≡ u
same_trace text limit t u is also = let e = sym (trace_read limit text t is) ∙ trace_read limit text u also in cc

pub same_fault : (text : List ℕ) (limit : ℕ) (f g : TextFault) → IsFault text limit f → IsFault text limit g → f ≡ g
same_fault text limit f g is also = let e = sym (fault_read limit text f is) ∙ fault_read limit text g also in cc
