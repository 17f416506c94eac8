-- A state changed in one part, as a whole new state.
-- Assumes nothing.
use Rattle.std.specs.Prelude.{ℕ, Some}
use Rattle.apdu.specs.declared.Trailer.{Trailer}
use Rattle.t0_state.specs.declared.Sent.{Sent}
use Rattle.t0_state.specs.declared.Header.{Header}
use Rattle.t0_state.specs.declared.Counts.{Counts}
use Rattle.t0_state.specs.declared.Phase.{Phase}
use Rattle.t0_state.specs.declared.Phase.TheVariants.{Procedure}
use Rattle.t0_state.specs.declared.State.{State}

abbrev pub at_phase : Phase → State → State
at_phase p s =
    record {
      command = s.command;
      header = s.header;
      counts = s.counts;
      trailer = s.trailer;
      phase = p;
      received = s.received;
    }

abbrev pub with_header : Header → State → State
with_header h s =
    record {
      command = s.command;
      header = h;
      counts = s.counts;
      trailer = s.trailer;
      phase = s.phase;
      received = s.received;
    }

abbrev pub with_counts : Counts → State → State
with_counts k s =
    record {
      command = s.command;
      header = s.header;
      counts = k;
      trailer = s.trailer;
      phase = s.phase;
      received = s.received;
    }

abbrev pub with_received : ℕ → State → State
with_received n s =
    record {
      command = s.command;
      header = s.header;
      counts = s.counts;
      trailer = s.trailer;
      phase = s.phase;
      received = n;
    }

abbrev pub with_trailer : Trailer → State → State
with_trailer t s =
    record {
      command = s.command;
      header = s.header;
      counts = s.counts;
      trailer = Some t;
      phase = s.phase;
      received = s.received;
    }

-- a header of which all bytes are left, and a procedure byte is due
abbrev pub asking : Sent → ℕ → State → State
asking sent n s = at_phase Procedure (with_header (record { sent = sent; size = n; left = n }) s)
