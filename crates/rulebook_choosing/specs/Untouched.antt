-- TVR and TSI are zeros while the application is chosen, at GPO, and at every record. 01, "From facts to a decision": the facts set bits
-- after the last record and not before.
-- Assumes nothing.
use Rattle.std.specs.Prelude.{◌≡◌}
use Rattle.slices.specs.Writing.{zeros}
use Rattle.sessions.specs.Rules.{asks, hears, decides}
use Rattle.rulebook.specs.Situation.{Situation}
use Rattle.rulebook.specs.Phase.{selecting, optioning, reading, first, second}
use Rattle.rulebook.specs.Later.{AskedLater, HeardLater}
use Rattle.rulebook_choosing.specs.Choosing.{ChoosingPhase}

abbrev pub Zeros : Situation → Type 0
Zeros s = (s.tvr ≡ zeros 5) × (s.tsi ≡ zeros 2)

-- at a phase before the last record's answer
abbrev pub Untouched : ChoosingPhase → Type 0
Untouched (asks (AskedLater.was (selecting s))) = Zeros s
Untouched (asks (AskedLater.was (optioning s list))) = Zeros s
Untouched (asks (AskedLater.was (reading s number file rest))) = Zeros s
Untouched (asks (AskedLater.was (first s request))) = Unit {0}
Untouched (asks (AskedLater.was (second s request code))) = Unit {0}
Untouched (asks (AskedLater.new x)) = Zeros x.situation
Untouched (hears (HeardLater.was h)) = Unit {0}
Untouched (hears (HeardLater.new x)) = Zeros x.situation
Untouched (decides outcome reason s) = Unit {0}
