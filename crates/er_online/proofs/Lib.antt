mod Growing
mod SpanLemmas
mod Settled
mod LeftOut
