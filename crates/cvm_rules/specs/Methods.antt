-- The methods of a verification list: 003, Table A-3 and 7.5.1 to 7.5.4; 02, R-7.
-- Assumes nothing.
use Rattle.std.specs.Prelude.{Bool, true, false, ◌&&◌, List, [], ◌∷◌, ℕ, ◌/◌, ◌%◌, eqb}
use Rattle.slices.specs.Choice.{pick}
use Rattle.slices.specs.Tables.{beside}
use Rattle.cvm_rules.specs.Bits.{unrecognised_method, tries_exceeded, no_pin_pad, pin_not_entered, online_pin_entered}
use Rattle.cvm_rules.specs.declared.Method.{Method}
use Rattle.cvm_rules.specs.declared.Method.TheVariants.{Fail, OfflinePin, OnlinePin, OfflinePinAndSignature}
use Rattle.cvm_rules.specs.declared.Method.TheVariants.{Signature, NoVerification, Unrecognised}

-- 003, Table A-3: b6-b1 of a rule's first byte
abbrev pub methods : List (ℕ × Method)
methods =
    (0x00, Fail)
    ∷ (0x01, OfflinePin)
    ∷ (0x02, OnlinePin)
    ∷ (0x03, OfflinePinAndSignature)
    ∷ (0x1E, Signature)
    ∷ (0x1F, NoVerification)
    ∷ []

-- a value that is not in the table, 04 and 05 of later books among them, is not recognised; b8 says nothing
unfoldable pub method_of : ℕ → Method
method_of first = beside Unrecognised (first % 64) methods

-- b7: the next rule is applied if this one fails (Table A-3)
abbrev pub goes_on : ℕ → Bool
goes_on first = eqb (first / 64 % 2) 1

-- what the terminal has for verification: 9F33 byte 2, b8, b7, b6 (02, R-7)
abbrev pub has_offline_pin : ℕ → Bool
has_offline_pin means = eqb (means / 128 % 2) 1

abbrev pub has_online_pin : ℕ → Bool
has_online_pin means = eqb (means / 64 % 2) 1

abbrev pub has_signature : ℕ → Bool
has_signature means = eqb (means / 32 % 2) 1

-- a combination needs the means of both its methods (003, 7.5.4)
unfoldable pub supported : Method → ℕ → Bool
supported Fail means = true
supported OfflinePin means = has_offline_pin means
supported OnlinePin means = has_online_pin means
supported OfflinePinAndSignature means = has_offline_pin means && has_signature means
supported Signature means = has_signature means
supported NoVerification means = true
supported Unrecognised means = false

-- the terminal has the means, and the byte handed in for the rule is 1 (02, R-7)
abbrev pub performed : Method → ℕ → ℕ → Bool
performed m means result = supported m means && eqb result 1

-- 'fail' never succeeds and 'no verification' always does, whatever the byte (02, R-7)
unfoldable pub succeeds : Method → ℕ → ℕ → Bool
succeeds Fail means result = false
succeeds OfflinePin means result = performed OfflinePin means result
succeeds OnlinePin means result = performed OnlinePin means result
succeeds OfflinePinAndSignature means result = performed OfflinePinAndSignature means result
succeeds Signature means result = performed Signature means result
succeeds NoVerification means result = true
succeeds Unrecognised means result = false

-- what a PIN's byte sets: 02, R-7, with the bits of 003, 7.5.1 and 7.5.2
abbrev pub pin_results : List (ℕ × ℕ)
pin_results = (2, no_pin_pad) ∷ (3, pin_not_entered) ∷ (4, tries_exceeded) ∷ []

-- without the means for the PIN the byte does not count
unfoldable pub pin_bits : Bool → ℕ → ℕ
pin_bits pad result = pick pad (beside 0 result pin_results) no_pin_pad

-- what a try sets in TVR byte 3
unfoldable pub tried_bits : Method → ℕ → ℕ → ℕ
tried_bits Fail means result = 0
tried_bits OfflinePin means result = pin_bits (has_offline_pin means) result
tried_bits OnlinePin means result = pick (succeeds OnlinePin means result) online_pin_entered (pin_bits (has_online_pin means) result)
tried_bits OfflinePinAndSignature means result = pin_bits (has_offline_pin means) result
tried_bits Signature means result = 0
tried_bits NoVerification means result = 0
tried_bits Unrecognised means result = unrecognised_method
