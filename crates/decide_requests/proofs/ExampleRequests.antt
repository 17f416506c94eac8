-- The requests and the issuer's reply on named cases: 01's case L, the errors seen in approved products, and every case of the
-- small tables. Everything here is computed. Assumes nothing.
use mathlib.Core.Path.{◌≡◌, refl}
use mathlib.Core.List.{List, [], ◌∷◌, map}
use mathlib.Core.Option.{Option, some, none}
use Prim.Native.Nat.{ℕ}
use Rattle.slices.specs.Choice.{pick}
use Rattle.slices.specs.Tests.{every}
use Rattle.decimal_dates.specs.Decimal.{zeros_only}
use Rattle.start_fields.specs.Bare.{bare}
use Rattle.start_fields.specs.Reading.{Terminal}
use Rattle.decide_requests.specs.declared.reply.HostReply.{HostReply}
use Rattle.decide_requests.specs.declared.reply.HostReply.TheVariants.{Approve, Decline, Unable}
use Rattle.std.specs.Prelude.{Some, None}
use Rattle.decide_cryptogram.specs.declared.Cryptogram.{Cryptogram}
use Rattle.decide_cryptogram.specs.declared.Cryptogram.TheVariants.{Aac, Tc, Arqc}
use Rattle.decide_tvr.specs.Bits.{joined, meet}
use Rattle.slices.specs.Tables.{beside}
use Rattle.facts.specs.Facts.{Facts}
use Rattle.decide_requests.specs.Requests.{issuer_code, code_match, by_type, first_request, when_unable, second_request}
use Rattle.decide_requests.specs.Replies.{HostHeard, code_in, said_by, reply_of, response_code}

-- ---- requests

abbrev none_set : List ℕ
none_set = 0 ∷ 0 ∷ 0 ∷ 0 ∷ 0 ∷ []

-- data authentication was not performed, and nothing else
abbrev first_bit : List ℕ
first_bit = 0x80 ∷ 0 ∷ 0 ∷ 0 ∷ 0 ∷ []

abbrev plain : ℕ → Terminal
plain kind = bare kind none_set none_set none_set

abbrev codes : Option (List ℕ) → Option (List ℕ) → Option (List ℕ) → Facts
codes denial online default tag = beside none tag ((0x9F0E, denial) ∷ (0x9F0F, online) ∷ (0x9F0D, default) ∷ [])

abbrev zero_codes : Facts
zero_codes = codes (some none_set) (some none_set) (some none_set)

abbrev no_codes_lem : Facts
no_codes_lem = codes none none none

-- terminal, issuer codes and TVR, and the first request
abbrev firsts : List (Terminal × Facts × List ℕ × Cryptogram)
firsts =
    -- case L: all codes zero
    (plain 0, zero_codes, first_bit, Tc) ∷ (plain 1, zero_codes, first_bit, Arqc) ∷ (plain 2, zero_codes, first_bit, Tc)
    -- absent codes: no denial, but ones for default and online
    ∷ (plain 0, no_codes_lem, first_bit, Aac) ∷ (plain 1, no_codes_lem, first_bit, Arqc) ∷ (plain 2, no_codes_lem, first_bit, Arqc)
    -- ones find nothing in a TVR of zeros
    ∷ (plain 0, no_codes_lem, none_set, Tc) ∷ (plain 2, no_codes_lem, none_set, Tc)
    -- a denial match gives AAC for every type, be it the issuer's code or the terminal's
    ∷ (plain 0, codes (some first_bit) none none, first_bit, Aac) ∷ (plain 1, codes (some first_bit) none none, first_bit, Aac)
    ∷ (plain 2, codes (some first_bit) none none, first_bit, Aac)
    ∷ (bare 1 first_bit none_set none_set, zero_codes, first_bit, Aac) ∷ (bare 2 first_bit none_set none_set, zero_codes, first_bit, Aac)
    -- type 0 looks at the default codes, type 2 at the online codes
    ∷ (bare 0 none_set first_bit none_set, zero_codes, first_bit, Tc) ∷ (bare 0 none_set none_set first_bit, zero_codes, first_bit, Aac)
    ∷ (bare 2 none_set none_set first_bit, zero_codes, first_bit, Tc) ∷ (bare 2 none_set first_bit none_set, zero_codes, first_bit, Arqc)
    ∷ (plain 2, codes (some none_set) (some (0 ∷ 0 ∷ 0 ∷ 0x10 ∷ 0 ∷ [])) (some none_set), 0x80 ∷ 0 ∷ 0 ∷ 0x10 ∷ 0 ∷ [], Arqc)
    ∷ (plain 2, codes (some none_set) (some (0 ∷ 0 ∷ 0 ∷ 0 ∷ 0x10 ∷ [])) (some none_set), 0x80 ∷ 0 ∷ 0 ∷ 0x10 ∷ 0 ∷ [], Tc)
    ∷ []

firsts_right : map (λ row. first_request row.0 row.1 row.2) firsts ≡ map (λ row. row.3) firsts
unfolding first_request by_type code_match issuer_code joined meet beside pick
firsts_right = refl

-- reply, terminal, issuer codes and TVR, and the second request
abbrev seconds : List (HostReply × Terminal × Facts × List ℕ × Cryptogram)
seconds =
    (Approve, plain 2, no_codes_lem, first_bit, Tc) ∷ (Decline, plain 2, zero_codes, first_bit, Aac)
    ∷ (Unable, plain 1, zero_codes, first_bit, Aac) ∷ (Unable, plain 1, zero_codes, none_set, Aac)
    ∷ (Unable, plain 0, zero_codes, first_bit, Tc) ∷ (Unable, plain 0, no_codes_lem, first_bit, Aac)
    ∷ (Unable, plain 2, zero_codes, first_bit, Tc) ∷ (Unable, plain 2, no_codes_lem, first_bit, Aac)
    ∷ (Unable, bare 2 none_set first_bit none_set, zero_codes, first_bit, Tc)
    ∷ (Unable, bare 2 none_set none_set first_bit, zero_codes, first_bit, Aac)
    ∷ []

seconds_right : map (λ row. second_request row.0 row.1 row.2 row.3) seconds ≡ map (λ row. row.4) seconds
unfolding second_request when_unable code_match issuer_code joined meet beside pick
seconds_right = refl

-- ---- the issuer's reply

-- bytes, and what they say
abbrev replies : List (List ℕ × HostHeard)
replies =
    (1 ∷ 0 ∷ 0 ∷ [], Some Approve) ∷ (1 ∷ 0xFF ∷ 0x30 ∷ [], Some Approve)
    ∷ (2 ∷ 0 ∷ 0 ∷ [], Some Decline) ∷ (2 ∷ 0x30 ∷ 0x35 ∷ [], Some Decline)
    ∷ (3 ∷ 0 ∷ 0 ∷ [], Some Unable) ∷ (3 ∷ 1 ∷ 0 ∷ [], None) ∷ (3 ∷ 0 ∷ 1 ∷ [], None)
    ∷ (0 ∷ 0 ∷ 0 ∷ [], None) ∷ (4 ∷ 0 ∷ 0 ∷ [], None)
    ∷ ([], None) ∷ (1 ∷ 0 ∷ [], None) ∷ (1 ∷ 0 ∷ 0 ∷ 0 ∷ [], None)
    ∷ []

replies_right : map (λ row. reply_of row.0) replies ≡ map (λ row. row.1) replies
unfolding reply_of said_by code_in zeros_only every pick
replies_right = refl

reply_code : code_in (1 ∷ 0x30 ∷ 0x35 ∷ []) ≡ 0x30 ∷ 0x35 ∷ []
unfolding code_in
reply_code = refl

-- reply and request, and the response code where the issuer's is 3035
abbrev responses : List (HostReply × Cryptogram × List ℕ)
responses =
    (Approve, Tc, 0x30 ∷ 0x35 ∷ []) ∷ (Decline, Aac, 0x30 ∷ 0x35 ∷ [])
    ∷ (Unable, Tc, 0x59 ∷ 0x33 ∷ []) ∷ (Unable, Aac, 0x5A ∷ 0x33 ∷ [])
    ∷ []

responses_right : map (λ row. response_code row.0 row.1 (0x30 ∷ 0x35 ∷ [])) responses ≡ map (λ row. row.2) responses
unfolding response_code
responses_right = refl
