-- What one block holds, as the machine reads it: its entry and those behind it, or nothing; and what is said at the ends, whatever would
-- be found of the rest.
-- Assumes nothing.
use mathlib.Core.Path.{◌≡◌, refl, sym, ap, ◌∙◌}
use mathlib.Core.Bool.{true, false}
use mathlib.Core.List.{List, [], ◌∷◌}
use Prim.Native.Nat.{ℕ, ◌+◌, ◌*◌, ◌/◌, ◌^◌, ◌<◌}
use native.Mathlib.Omega.{arith}
use lib.ListN.{length, drop}
use lib.Pow.{are_bytes}
use borrow.Author.Tests.{leb-true, leb-false}
use Rattle.slices.specs.Tests.{alike}
use Rattle.slices.proofs.Choice.{pick_yes, pick_no, either}
use Rattle.slices.proofs.Comparing.{same_alike}
use Rattle.tape_crc.proofs.Bytes.{bytes_take, bytes_drop}
use Rattle.tape_read.specs.Entries.{entry, block_size}
use Rattle.tape_read.specs.Blocks.{entry_in}
use Rattle.tape_read.specs.Tapes.{block_at}
use Rattle.dol_fill.specs.Filled.{summed}
use Rattle.sessions.specs.Session.{is_payload}
use Rattle.rulebook.specs.Machine.{Machine}
use Rattle.rulebook_zeros.specs.Summing.{new_in}
use Rattle.verdict.specs.Saying.{says, finds}
use Rattle.verdict.specs.declared.Verdict.TheVariants.{Fail, Inconclusive}
use Rattle.verdict.specs.declared.Finding.{Finding}
use Rattle.verdict_judged.specs.Progress.{Progress, reached, closed, broken, reads}
use Rattle.verdict_under.proofs.Blockwise.{block_payload}
use Rattle.quick_said.specs.Said.{entries_from, said_from}
use Rattle.quick_said.proofs.Reading.{sum_none, sum_small, said_one, closed_end, closed_more, broken_on}
use Rattle.quick_said.proofs.Blocks.{from_end, from_more}
use Rattle.std.proofs.Common.{Ok}
use Rattle.quick_meet.specs.Meeting.{Met, is_end, ends, breaks, goes_on, kind_at, payload_at}
use Rattle.quick_meet.specs.Meeting.{closed_met}

pub different : (a b : List ℕ) → alike a b ≡ false → a ≡ b → ⊥
different a b n e =
    let z : true ≡ false = sym (same_alike b) ∙ (ap (λ (x : List ℕ). alike x b) (sym e) ∙ n) in let k : ◌≡◌ {A = ℕ} 0 1 = cc in omega arith

module _ (t : List ℕ) (bytes : are_bytes t ≡ true) (k : ℕ) where
  -- no block there, or its entry and those behind it
  pub none_left_there : is_end t k ≡ true → entries_from k t ≡ []
  unfolding is_end
  none_left_there y = from_end k t (leb-true (length t / block_size) k y)

  pub one_there : is_end t k ≡ false → entries_from k t ≡ entry (kind_at k t) (payload_at k t) ∷ entries_from (k + 1) t
  unfolding is_end entry_in
  one_there n = from_more k t (leb-false (length t / block_size) k n)

  pub payload_there : is_payload (payload_at k t) ≡ true
  unfolding block_at
  payload_there = block_payload (block_at k t) (bytes_take block_size (drop (k * block_size) t) (bytes_drop (k * block_size) t bytes))

  abbrev Rest : Progress → ℕ → Finding
  Rest m z = said_from m z (entries_from (k + 1) t)

  -- one entry, by what it makes of the progress
  pub read_one : (σ : Machine) (z : ℕ) (m : Progress) → is_end t k ≡ false
      → reads (reached σ k) (entry (kind_at k t) (payload_at k t)) ≡ m
      → said_from (reached σ k) z (entries_from k t) ≡ Rest m (summed z (new_in σ))
  read_one σ z m n e =
      ap (said_from (reached σ k) z) (one_there n)
      ∙ (said_one σ k z _ _ ∙ ap (λ (x : Progress). Rest x (summed z (new_in σ))) e)

  -- the same where it breaks the rules
  pub breaks_here : (σ : Machine) (z : ℕ) → is_end t k ≡ false
      → reads (reached σ k) (entry (kind_at k t) (payload_at k t)) ≡ broken k
      → said_from (reached σ k) z (entries_from k t) ≡ finds (says Fail k 0) (summed z (new_in σ))
  breaks_here σ z n e =
      read_one σ z (broken k) n e
      ∙ (broken_on k (summed z (new_in σ)) _ ∙ ap (finds (says Fail k 0)) (sum_none _ (sum_small z (new_in σ))))

  pub as_kind : (due : ℕ) → kind_at k t ≡ due → (m : Progress)
      → reads m (entry (kind_at k t) (payload_at k t)) ≡ reads m (entry due (payload_at k t))
  as_kind due e m = ap (λ (q : ℕ). reads m (entry q (payload_at k t))) e

  -- what is said at the ends, whatever would be found of the rest
  module _ (z : ℕ) (small : z < 2 ^ 64) (rest : Finding) where
    pub same : summed z 0 ≡ z
    same = sum_none z small

    pub met : {x : Finding} {m n : Met} → m ≡ n → x ≡ goes_on n z rest → x ≡ goes_on m z rest
    met e h = h ∙ ap (λ (m : Met). goes_on m z rest) (sym e)

    pub at_ends : (n : ℕ) → goes_on (ends n) z rest ≡ finds (says Inconclusive n 0) z
    unfolding goes_on ends
    at_ends n = refl

    pub at_breaks : (n : ℕ) → goes_on (breaks n) z rest ≡ finds (says Fail n 0) z
    unfolding goes_on breaks
    at_breaks n = refl

    pub at_stands : goes_on (Ok tt) z rest ≡ rest
    unfolding goes_on
    at_stands = refl

    -- an entry that breaks the rules where nothing is counted
    pub broken_here : (σ : Machine) → new_in σ ≡ 0 → is_end t k ≡ false
        → reads (reached σ k) (entry (kind_at k t) (payload_at k t)) ≡ broken k
        → said_from (reached σ k) z (entries_from k t) ≡ goes_on (breaks k) z rest
    broken_here σ none n e =
        breaks_here σ z n e ∙ (ap (λ (x : ℕ). finds (says Fail k 0) (summed z x)) none
        ∙ (ap (finds (says Fail k 0)) same ∙ sym (at_breaks k)))

    -- nothing may follow a closing silence
    pub closed_found : said_from (closed k) z (entries_from k t) ≡ goes_on (closed_met k t) z rest
    unfolding closed_met
    closed_found =
        either (is_end t k)
        (λ y.
        met (pick_yes _ _ _ y)
        (ap (said_from (closed k) z) (none_left_there y)
        ∙ (closed_end k z ∙ (ap (finds (says Inconclusive k 0)) same ∙ sym (at_ends k)))))
        (λ n.
        met (pick_no _ _ _ n)
        (ap (said_from (closed k) z) (one_there n)
        ∙ (closed_more k z _ _ ∙ (ap (finds (says Fail k 0)) same ∙ sym (at_breaks k)))))
