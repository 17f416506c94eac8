-- Every command of a session fits 261 bytes: its data is at most what an object list may ask for, and the AID is read off START,
-- where it has room for 16. A buffer of that many bytes therefore holds the whole command.
-- Assumes nothing.
use mathlib.Core.Path.{◌≡◌, refl, sym, ap, ◌∙◌, subst}
use mathlib.Core.List.{List}
use mathlib.Core.Option.{none, some}
use Prim.Native.Nat.{ℕ, ◌≤◌}
use native.Mathlib.Omega.{arith}
use lib.Dec.{leb}
use lib.ListN.{length, take}
use lib.Seq.{take_at}
use borrow.Author.Tests.{le-leb, leb-true, leb-false}
use Rattle.slices.specs.Writing.{laid}
use Rattle.slices.proofs.Choice.{pick_yes, either}
use Rattle.slices.proofs.Writing.{put_length, put_start, laid_fits, laid_short}
use Rattle.start_fields.specs.Reading.{Terminal}
use Rattle.dol_wanted.specs.Wanted.{most}
use Rattle.dol_fill.specs.Filled.{filling}
use Rattle.facts.specs.Facts.{Facts}
use Rattle.commands.specs.Commands.{longest, size_in}
use Rattle.commands.proofs.Sizes.{data_length, data_most_lem}
use Rattle.commands.proofs.Shapes.{aid_most, select_most, options_most, record_most, cryptogram_most}
use Rattle.decide_cryptogram.specs.Cryptograms.{p1_of}
use Rattle.rulebook.specs.Situation.{known_in, list_in}
use Rattle.rulebook.specs.Phase.{Asked, selecting, optioning, reading, first, second, Phase, asks, hears, decides, situation_of, command_of}
use Rattle.session_state.specs.Reading.{start_in}
use Rattle.session_state.specs.declared.State.{State}
use Rattle.session_phase.specs.declared.Reply.TheVariants.{Command}
use Rattle.session_moves.specs.Moves.{reply_in, buffer_in}
use Rattle.session_laws.specs.Agreeing.{StandsAt}
use Rattle.session_laws.proofs.Standing.{asked_terminal}

filling_most : (t : Terminal) (k : Facts) (list : List ℕ) → length (filling t k list) ≤ most
filling_most t k list = let size = data_length t k list in let limit = data_most_lem list in omega arith

command_fits : (w : Asked) → length (situation_of w).terminal.aid ≤ 16 → length (command_of w) ≤ longest
unfolding command_of situation_of
command_fits (selecting z) h = select_most z.terminal.aid h
command_fits (optioning z list) h = options_most _ (filling_most z.terminal (known_in z none) list)
command_fits (reading z number file rest) h = record_most number file
command_fits (first z request) h = cryptogram_most (p1_of request) _ (filling_most z.terminal (known_in z none) (list_in z 0x8C))
command_fits (second z request code) h =
    cryptogram_most (p1_of request) _ (filling_most z.terminal (known_in z (some code)) (list_in z 0x8D))

pub command_most : (s : State) (w : Asked) → StandsAt s (asks w) → length (command_of w) ≤ longest
command_most s w h = command_fits w (subst (λ (t : Terminal). length t.aid ≤ 16) (sym (asked_terminal s w h)) (aid_most (start_in s)))

-- a command in a buffer that has room for it
module _ (w : Asked) (buf : List ℕ) (room : length (command_of w) ≤ length buf) where
  pub command_reply : reply_in (length buf) (asks w) ≡ Command (length (command_of w))
  unfolding reply_in size_in
  command_reply = ap Command (pick_yes _ _ _ (le-leb (length (command_of w)) (length buf) room))

  pub command_there : take (length (command_of w)) (buffer_in (asks w) buf) ≡ command_of w
  unfolding buffer_in
  command_there =
      ap (take (length (command_of w))) (laid_fits (command_of w) 0 buf (omega arith) ∙ put_start (command_of w) buf)
      ∙ take_at (command_of w) _ (length (command_of w)) refl

-- the buffer stays as long as it was
pub laid_length : (c buf : List ℕ) → length (laid c 0 buf) ≡ length buf
laid_length c buf =
    either (leb (length c) (length buf))
    (λ y. let h = leb-true (length c) (length buf) y in ap length (laid_fits c 0 buf (omega arith)) ∙ put_length c 0 buf (omega arith))
    (λ n. let h = leb-false (length c) (length buf) n in ap length (laid_short c 0 buf (omega arith)))

pub buffer_length : (p : Phase) (buf : List ℕ) → length (buffer_in p buf) ≡ length buf
unfolding buffer_in
buffer_length (asks w) buf = laid_length (command_of w) buf
buffer_length (hears h) buf = refl
buffer_length (decides outcome reason z) buf = refl
