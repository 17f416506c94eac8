-- What is known of each word: its kind is one that a tape can hold and none of START's, the card's, the kernel's and the silence's; there
-- is something to say that a tape can hold, and nothing else is allowed; and it has a line in 01's table. A line each.
-- Assumes nothing.
use mathlib.Core.Path.{◌≡◌, refl, sym, ap, ◌∙◌}
use mathlib.Core.Bool.{true, false, false≢true}
use mathlib.Core.List.{List, [], ◌∷◌, map}
use Prim.Native.Nat.{ℕ, zero, suc, ◌≤◌}
use native.Mathlib.Omega.{arith}
use lib.Dec.{eqb}
use lib.ListN.{length}
use lib.Pow.{are_bytes}
use borrow.Author.Tests.{eqb-true, eq-eqb}
use Rattle.slices.specs.Choice.{pick}
use Rattle.slices.specs.Tests.{every}
use Rattle.slices.specs.Writing.{zeros}
use Rattle.slices.proofs.Choice.{pick_no, either}
use Rattle.slices.proofs.Tests.{held, first_held}
use Rattle.slices.proofs.Writing.{zeros_length}
use Rattle.numbers.specs.Tables.{start, results, is_kind}
use Rattle.tape_read.specs.Entries.{payload_most}
use Rattle.tape_read.proofs.Extra.{zeros_bytes}
use Rattle.decimal_dates.specs.Decimal.{zeros_only}
use Rattle.cvm.specs.Lists.{is_result, are_results}
use Rattle.decide_requests.specs.Replies.{code_in, said_by, reply_of, is_reply}
use Rattle.sessions.specs.Kept.{OtherKind}
use Rattle.words.specs.declared.Word.{Word}
use Rattle.words.specs.declared.Word.TheVariants.{Host, Results}
use Rattle.words.specs.Words.{word_kind, word_allowed, word_refusal}

pub other_kind : (w : Word) → OtherKind (word_kind w)
unfolding word_kind
other_kind Host = record { no_command = refl; no_answer = refl; no_silence = refl; no_decision = refl }
other_kind Results = record { no_command = refl; no_answer = refl; no_silence = refl; no_decision = refl }

-- a tape can hold it
pub kind_readable : (w : Word) → is_kind (word_kind w) ≡ true
unfolding word_kind is_kind
kind_readable Host = refl
kind_readable Results = refl

-- nor START's
pub no_start : (w : Word) → eqb (word_kind w) start ≡ false
unfolding word_kind
no_start Host = refl
no_start Results = refl

-- the results have a kind of their own
pub results_kind_lem : (w : Word) → word_kind w ≡ results → w ≡ Results
unfolding word_kind
results_kind_lem Host e = absurd (omega (arith, e))
results_kind_lem Results e = refl

pub some_refusal : (w : Word) → word_refusal w ≡ 0 → ⊥
unfolding word_refusal
some_refusal Host e = omega arith
some_refusal Results e = omega arith

-- ---- what can be said

-- the issuer was not reached
unable : List ℕ
unable = 0x03 ∷ 0x00 ∷ 0x00 ∷ []

unable_reply : is_reply (reply_of unable) ≡ true
unfolding is_reply reply_of said_by code_in zeros_only every pick unable
unable_reply = refl

unable_bytes : (are_bytes unable ≡ true) × (length unable ≤ payload_most)
unfolding unable
unable_bytes = (refl, omega arith)

-- every rule failed
all_failed : (n : ℕ) → every (map is_result (zeros n)) ≡ true
unfolding is_result zeros every
all_failed zero = refl
all_failed (suc n) = held refl (map is_result (zeros n)) refl ∙ all_failed n

failed_all : (n : ℕ) → are_results n (zeros n) ≡ true
unfolding are_results
failed_all n = held refl (map is_result (zeros n)) (eq-eqb (length (zeros n)) n (zeros_length n)) ∙ all_failed n

-- something that may be said, and a tape can hold
pub record Saying (w : Word) (count : ℕ) : Type 0 where
  pub payload : List ℕ
  pub allowed : word_allowed w count payload ≡ true
  pub bytes : are_bytes payload ≡ true
  pub short : length payload ≤ payload_most

pub can_say : (w : Word) (count : ℕ) → count ≤ payload_most → Saying w count
unfolding word_allowed
can_say Host count few = record { payload = unable; allowed = unable_reply; bytes = unable_bytes.0; short = unable_bytes.1 }
can_say Results count few =
    record {
      payload = zeros count;
      allowed = failed_all count;
      bytes = zeros_bytes count;
      short = omega (arith, few, zeros_length count);
    }

-- ---- and how long it is

-- one of the issuer's replies has three bytes
reply_length : (p : List ℕ) → is_reply (reply_of p) ≡ true → length p ≡ 3
unfolding is_reply reply_of
reply_length p e =
    either (eqb (length p) 3) (λ y. eqb-true (length p) 3 y) (λ n. absurd (false≢true (sym (ap is_reply (pick_no _ _ _ n)) ∙ e)))

-- there are as many results as are wanted
results_length : (count : ℕ) (p : List ℕ) → are_results count p ≡ true → length p ≡ count
unfolding are_results
results_length count p e = eqb-true (length p) count (first_held (eqb (length p) count) (map is_result p) e).0

pub said_short : (w : Word) (count : ℕ) (p : List ℕ) → count ≤ payload_most → word_allowed w count p ≡ true → length p ≤ payload_most
unfolding word_allowed
said_short Host count p few fits = let size = reply_length p fits in omega arith
said_short Results count p few fits = let size = results_length count p fits in omega arith
