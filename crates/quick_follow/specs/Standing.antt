-- The rulebook's situation, read off what a session has come to.
-- Assumes nothing.
use Rattle.rulebook.specs.Situation.{Situation}
use Rattle.quick_ask.specs.Standing.{situation_in}
use Rattle.quick_follow.specs.declared.standing.Standing.{Standing}

abbrev pub situation_of : Standing → Situation
situation_of s = situation_in s.start.now s.told.now s.profile s.tvr s.tsi
