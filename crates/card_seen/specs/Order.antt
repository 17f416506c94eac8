-- Answers that show the same in another order: under each name stands the same, whether none, one, or more than one. 02, R-13, asks for
-- the same order; that a session goes on alike without it is proved (`any_order` of Theorem). Nor does it matter whether GENERATE AC's
-- answer has an empty 9F10 or none (`empty_issuer_data` of Theorem), although that is seen.
-- Assumes nothing.
use Rattle.std.specs.Prelude.{◌≡◌, true, List, [], ◌∷◌, ℕ, eqb}
use Rattle.slices.specs.Choice.{pick}
use Rattle.answer_common.specs.Answer.{size_bad, outer_bad}
use Rattle.answer_common.specs.Named.{listed}
use Rattle.answer_cryptogram.specs.Cryptogram.{mandatory_names}
use Rattle.card_seen.specs.Seen.{Place, generation, expected_at, Shown, named_at, status_of}

pub data Standing : Type 0 where
  nowhere : Standing
  alone : Shown → Standing
  repeated : Standing

unfoldable pub before_others : Shown → Standing → Standing
before_others t nowhere = alone t
before_others t (alone u) = repeated
before_others t repeated = repeated

-- what stands under a name
unfoldable pub standing : ℕ → List Shown → Standing
standing name [] = nowhere
standing name (t ∷ ts) = pick (eqb t.tag name) (before_others t (standing name ts)) (standing name ts)

pub record Rearranged (p : Place) (a b : List ℕ) : Type 0 where
  pub size : size_bad a ≡ size_bad b
  pub status : status_of a ≡ status_of b
  pub form : outer_bad (expected_at p) a ≡ outer_bad (expected_at p) b
  pub objects : (name : ℕ) → standing name (named_at p a) ≡ standing name (named_at p b)

-- two answers to GENERATE AC: 9F27, 9F36 and 9F26 alike, no 9F10 in the one and an empty one in the other
pub record EmptyIssuerData (a b : List ℕ) : Type 0 where
  pub size : size_bad a ≡ size_bad b
  pub status : status_of a ≡ status_of b
  pub form : outer_bad (expected_at generation) a ≡ outer_bad (expected_at generation) b
  pub others : (name : ℕ) → listed name mandatory_names ≡ true
      → standing name (named_at generation a) ≡ standing name (named_at generation b)
  pub none : standing 0x9F10 (named_at generation a) ≡ nowhere
  pub empty : standing 0x9F10 (named_at generation b) ≡ alone (record { tag = 0x9F10; value = []; members = [] })
