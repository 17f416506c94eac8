-- Cardholder verification in a session: 003, 7.5, and 02, R-7. The list and its rules have rooms of their own; here stands when they
-- are applied, to what, and where their result goes. TVR byte 1 is not touched (house).
-- Assumes nothing.
use Rattle.std.specs.Prelude.{Bool, not, List, [], ◌∷◌, ℕ, eqb, take, get_or}
use Rattle.std.proofs.Math.Option
use Rattle.std.specs.Int.Bits.{bit_and}
use Rattle.slices.specs.Tests.{every, is_some}
use Rattle.start_fields.specs.Reading.{Terminal, bytes_of, amount_of, other_amount_of}
use Rattle.start_fields.specs.declared.fields.Field.TheVariants.{Capabilities}
use Rattle.answer_common.specs.Answer.{value_most}
use Rattle.facts.specs.Facts.{Facts}
use Rattle.cvm_rules.specs.Bits.{verification_performed}
use Rattle.cvm_rules.specs.declared.Circumstances.{Circumstances}
use Rattle.cvm.specs.Lists.{rules_in, in_application_currency}
use Rattle.cvm.specs.Verified.{verified}
use Rattle.decide_tvr.specs.Bits.{joined}

-- the card supports cardholder verification: '10' in byte 1 of the AIP (003, 7.5)
unfoldable pub verification_supported : List ℕ → Bool
verification_supported aip = not (eqb (bit_and (get_or aip 0 0) 0x10) 0)

-- results are due where START has Terminal Capabilities, the card supports verification, and its records told a list
unfoldable pub results_due : Terminal → List ℕ → Facts → Bool
results_due t aip told = every (is_some t.capabilities ∷ verification_supported aip ∷ is_some (told 0x8E) ∷ [])

-- the list; no answer has room for a longer one, so that nothing is cut off
unfoldable pub verification_list : Facts → List ℕ
verification_list told = take value_most (Option.get_or (told 0x8E) [])

-- how many results: one for each rule
unfoldable pub results_wanted : Facts → ℕ
results_wanted told = rules_in (verification_list told)

-- what the rules ask of transaction and terminal: the amounts, 9C, whether 9F42 is the transaction's currency, and byte 2 of 9F33
unfoldable pub circumstances_of : Terminal → Facts → Circumstances
circumstances_of t told =
    record {
      amount = amount_of t;
      other = other_amount_of t;
      kind = get_or t.transaction_type 0 0;
      home = in_application_currency (told 0x9F42) t.currency;
      means = get_or (bytes_of Capabilities t) 1 0;
    }

-- the list gone through with the results sets bits of byte 3
unfoldable pub tvr_after_results : Terminal → Facts → List ℕ → List ℕ → List ℕ
tvr_after_results t told results tvr =
    joined tvr (0 ∷ 0 ∷ verified (circumstances_of t told) (verification_list told) results ∷ 0 ∷ 0 ∷ [])

-- byte 1: b7, cardholder verification was performed, with success or without
unfoldable pub tsi_after_results : List ℕ → List ℕ
tsi_after_results tsi = joined tsi (verification_performed ∷ 0 ∷ [])
