mod AsBox
mod SettlementLemmas
