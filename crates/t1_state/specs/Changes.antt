-- A state changed in one part, as a whole new state.
-- Assumes nothing.
use Rattle.std.specs.Prelude.{Bool, ℕ}
use Rattle.t1_state.specs.declared.Phase.{Phase}
use Rattle.t1_state.specs.declared.Last.{Last}
use Rattle.t1_state.specs.declared.Counts.{Counts}
use Rattle.t1_state.specs.declared.Message.{Message}
use Rattle.t1_state.specs.declared.State.{State}

abbrev pub at_phase : Phase → State → State
at_phase p s =
    record {
      role = s.role;
      phase = p;
      last = s.last;
      numbers = s.numbers;
      sizes = s.sizes;
      counts = s.counts;
      message = s.message;
      received = s.received;
    }

-- a block is the last one out
abbrev pub sending : Last → Counts → State → State
sending last counts s =
    record {
      role = s.role;
      phase = s.phase;
      last = last;
      numbers = s.numbers;
      sizes = s.sizes;
      counts = counts;
      message = s.message;
      received = s.received;
    }

abbrev pub with_numbers : Bool → Bool → State → State
with_numbers next expected s =
    record {
      role = s.role;
      phase = s.phase;
      last = s.last;
      numbers = record { next = next; expected = expected };
      sizes = s.sizes;
      counts = s.counts;
      message = s.message;
      received = s.received;
    }

abbrev pub with_sizes : ℕ → ℕ → State → State
with_sizes theirs ours s =
    record {
      role = s.role;
      phase = s.phase;
      last = s.last;
      numbers = s.numbers;
      sizes = record { theirs = theirs; ours = ours };
      counts = s.counts;
      message = s.message;
      received = s.received;
    }

abbrev pub with_message : Message → State → State
with_message m s =
    record {
      role = s.role;
      phase = s.phase;
      last = s.last;
      numbers = s.numbers;
      sizes = s.sizes;
      counts = s.counts;
      message = m;
      received = s.received;
    }

abbrev pub with_received : ℕ → State → State
with_received n s =
    record {
      role = s.role;
      phase = s.phase;
      last = s.last;
      numbers = s.numbers;
      sizes = s.sizes;
      counts = s.counts;
      message = s.message;
      received = n;
    }
