pub mod ScriptLemmas
pub mod AcceptLemmas
pub mod CallLemmas
pub mod JoinLemmas
pub mod StartLemmas
pub mod RunLemmas
