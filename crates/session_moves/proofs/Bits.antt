-- A step overwrites the bits of the state that it starts from.
-- Assumes nothing.
use mathlib.Core.Path.{◌≡◌, refl, ap}
use mathlib.Core.List.{List}
use Prim.Native.Nat.{ℕ}
use lib.ListN.{length}
use Rattle.rulebook.specs.Phase.{Asked, selecting, optioning, reading, first, second, Phase, asks, hears, decides, tvr_of, tsi_of}
use Rattle.answer_afl.specs.Cursor.{stepped}
use Rattle.answer_afl.specs.declared.cursor.Cursor.{Cursor}
use Rattle.rulebook_zeros.specs.Zeros.{unsupplied_in}
use Rattle.session_records.specs.Runs.{in_run}
use Rattle.session_state.specs.Keeping.{changed}
use Rattle.session_state.specs.declared.State.{State}
use Rattle.session_phase.specs.declared.Waiting.{Waiting}
use Rattle.session_moves.specs.Moves.{kept_as, cursor_asking, cursor_after, standing, reply_in, buffer_in, moved}

same_asking : (w : Asked) (s t : State) → s.locator ≡ t.locator → s.cursor ≡ t.cursor → cursor_asking w s ≡ cursor_asking w t
unfolding cursor_asking
same_asking (selecting z) s t l e = e
same_asking (optioning z list) s t l e = e
same_asking (reading z number file rest) s t l e = λ i. stepped (in_run (l i)) (e i)
same_asking (first z request) s t l e = e
same_asking (second z request code) s t l e = e

same_cursor : (p : Phase) (s t : State) → s.locator ≡ t.locator → s.cursor ≡ t.cursor → cursor_after p s ≡ cursor_after p t
unfolding cursor_after
same_cursor (asks w) s t l e = same_asking w s t l e
same_cursor (hears h) s t l e = e
same_cursor (decides outcome reason z) s t l e = e

pub bits_moved : (p : Phase) (waiting : Waiting) (tvr tsi : List ℕ) (s : State) (buf : List ℕ)
    → moved p (changed waiting tvr tsi s.cursor s) buf ≡ moved p s buf
unfolding moved standing changed
bits_moved p waiting tvr tsi s buf =
    ap (λ (c : Cursor). record {
      state = changed (kept_as p) (tvr_of p) (tsi_of p) c s;
      reply = reply_in
          (length buf) p;
      buffer = buffer_in p buf;
      zeros = unsupplied_in p;
    })
    (same_cursor p (changed waiting tvr tsi s.cursor s) s refl refl)
