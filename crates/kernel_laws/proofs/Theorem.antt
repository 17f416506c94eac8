-- What holds of the kernel, in one place. The calls are any, taken and turned away, on a fresh session; what they hand in are bytes.
-- Assumes nothing.
use mathlib.Core.Path.{◌≡◌}
use mathlib.Core.Bool.{true}
use mathlib.Core.List.{List, ◌++◌}
use Prim.Native.Nat.{ℕ, ◌≤◌}
use lib.ListN.{length, get_or}
use lib.Pow.{are_bytes}
use Rattle.commands.specs.Commands.{longest}
use Rattle.tape_read.specs.Entries.{Entry}
use Rattle.rulebook.specs.Session.{Session as WholeSession, Open}
use Rattle.rulebook.specs.Roles.{begins, RightKernel}
use Rattle.rulebook_zeros.specs.Zeros.{Zeros}
use Rattle.session_laws.specs.Bits.{Keeps}
use Rattle.session_phase.specs.Waiting.{is_decided, is_closed}
use Rattle.words.specs.Words.{word_refusal}
use Rattle.words.specs.declared.Word.{Word}
use Rattle.kernel_refusals.specs.WrongWord.{WrongWord}
use Rattle.kernel_refusals.proofs.WordRefused.{word_refused}
use Rattle.kernel.specs.declared.Session.{Session}
use Rattle.session_phase.specs.declared.Reply.TheVariants.{Refused}
use Rattle.kernel_laws.specs.Log.{Call, made, plays, all_bytes}
use Rattle.kernel_laws.specs.Replay.{given_after}
use Rattle.kernel_laws.specs.Table.{table_of, numbers_of, FirstLine, NoLine}
use Rattle.kernel_laws.specs.Ending.{EndsDecided, Ended, Reproduces}
use Rattle.kernel_laws.specs.Saying.{Lawfully, Says, Replies, Unchanged}
use Rattle.kernel_laws.proofs.Lawful.{any_calls}
use Rattle.kernel_laws.proofs.Refusing.{number_of, refused_unchanged}
use Rattle.kernel_laws.proofs.Ending.{decided_ended, closed_ended, silence_is_open, silence_is_no_session}
use Rattle.kernel_laws.proofs.Counting.{plays_zeros}
use Rattle.kernel_laws.proofs.Holding.{plays_keeps}
use Rattle.kernel_laws.proofs.Telling.{plays_says, plays_replies}
use Rattle.kernel_laws.proofs.Deciding.{decision_last}
use Rattle.kernel_laws.proofs.Complete.{session_logged, right}
use Rattle.kernel_laws.proofs.Numbers.{number_line, line_number, none_taken, taken_none}

-- a call is turned away with a word's number only where that word is due and wrong: 6 for HOST, 12 for the results
word_wrong : (s : Session) (c : Call) (word : Word) → (made s c).reply ≡ Refused (word_refusal word)
    → WrongWord word s.state.waiting c.event
unfolding made
word_wrong s c word h =
    word_refused word c.event s.state.waiting c.buffer (number_of s c.event c.buffer (word_refusal word) h).0

pub record Kernel : Type 0 where
  pub lawful : (cs : List Call) → all_bytes cs ≡ true → Lawfully (plays cs).session (plays cs).log
  pub says : (cs : List Call) → all_bytes cs ≡ true → Says (plays cs).session (plays cs).log
  pub replies : (cs : List Call) (c : Call) → all_bytes cs ≡ true → are_bytes c.event.payload ≡ true → Replies (plays cs) c
  pub ends : (cs : List Call) → all_bytes cs ≡ true → EndsDecided (plays cs).session (plays cs).log
  pub complete : (buf : List ℕ) → longest ≤ length buf → (es : List Entry) → WholeSession es → begins es ≡ true → Reproduces buf es
  pub rightly : (buf : List ℕ) → longest ≤ length buf → RightKernel (given_after buf)
  pub zeros : (cs : List Call) → all_bytes cs ≡ true → Zeros (plays cs).log (plays cs).session.zeros
  pub keeps : (cs more : List Call) → all_bytes cs ≡ true → all_bytes more ≡ true
      → Keeps (plays cs).session.state (plays (cs ++ more)).session.state
  pub decided : (cs : List Call) → is_decided (plays cs).session.state.waiting ≡ true → Ended cs
  pub closed : (cs : List Call) → is_closed (plays cs).session.state.waiting ≡ true → Ended cs
  pub silent : (cs : List Call) → all_bytes cs ≡ true → is_closed (plays cs).session.state.waiting ≡ true → Open (plays cs).log
  pub no_session : (cs : List Call) → all_bytes cs ≡ true → is_closed (plays cs).session.state.waiting ≡ true
      → WholeSession (plays cs).log → ⊥
  pub unchanged : (s : Session) (c : Call) (n : ℕ) → (made s c).reply ≡ Refused n → Unchanged s c
  pub number : (s : Session) (c : Call) (n : ℕ) → (made s c).reply ≡ Refused n
      → (line : ℕ) × ((n ≡ get_or (numbers_of s c) line 0) × FirstLine (table_of s c) line)
  pub word : (s : Session) (c : Call) (word : Word) → (made s c).reply ≡ Refused (word_refusal word)
      → WrongWord word s.state.waiting c.event
  pub line : (s : Session) (c : Call) (line : ℕ) → FirstLine (table_of s c) line → (made s c).reply
      ≡ Refused (get_or (numbers_of s c) line 0)
  pub free : (s : Session) (c : Call) → NoLine (table_of s c) → (n : ℕ) → (made s c).reply ≡ Refused n → ⊥
  pub taken : (s : Session) (c : Call) → ((n : ℕ) → (made s c).reply ≡ Refused n → ⊥) → NoLine (table_of s c)

pub kernel : Kernel
kernel =
    record {
      lawful = any_calls;
      says = plays_says;
      replies = plays_replies;
      ends = decision_last;
      complete = session_logged;
      rightly = right;
      zeros = plays_zeros;
      keeps = plays_keeps;
      decided = decided_ended;
      closed = closed_ended;
      silent = silence_is_open;
      no_session = silence_is_no_session;
      unchanged = refused_unchanged;
      number = number_line;
      word = word_wrong;
      line = line_number;
      free = none_taken;
      taken = taken_none;
    }
