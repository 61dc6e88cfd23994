-- What an access that the check has come to is to the words.
use Rattle.er_model.specs.Words.{Mark}
use Rattle.er_check.specs.Claims.{accessed}
use Rattle.er_check.specs.declared.checking.Access.{Access}

-- what the access is to the words, by what its thread holds then
abbrev pub access_mark : Access → Mark
access_mark a = accessed a.held.now a.thread a.kind a.word
