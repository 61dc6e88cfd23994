mod MergedLemmas
mod NoteLemmas
mod EndLemmas
mod DeliverLemmas
mod PrintLemmas
mod TextLemmas
