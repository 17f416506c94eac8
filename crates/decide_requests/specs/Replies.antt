-- The issuer's reply HOST, three bytes, and the response code 8A: 01, "From facts to a decision".
-- Assumes nothing.
use Rattle.std.specs.Prelude.{Bool, true, false, List, [], ◌∷◌, ℕ, eqb, length, get_or, Option, Some, None}
use Rattle.slices.specs.Choice.{pick}
use Rattle.decimal_dates.specs.Decimal.{zeros_only}
use Rattle.decide_requests.specs.declared.reply.HostReply.{HostReply}
use Rattle.decide_requests.specs.declared.reply.HostReply.TheVariants.{Approve, Decline, Unable}
use Rattle.decide_cryptogram.specs.declared.Cryptogram.{Cryptogram}
use Rattle.decide_cryptogram.specs.declared.Cryptogram.TheVariants.{Aac, Tc, Arqc}

-- what three bytes say: a reply, or nothing that is one
abbrev pub HostHeard : Type 0
HostHeard = Option HostReply

-- the two bytes after the first
unfoldable pub code_in : List ℕ → List ℕ
code_in s = get_or s 1 0 ∷ get_or s 2 0 ∷ []

-- 1 approve and 2 decline, with any code; 3 unable, with a code of zeros
unfoldable pub said_by : ℕ → List ℕ → HostHeard
said_by first code =
    pick (eqb first 1) (Some Approve)
    (pick (eqb first 2) (Some Decline)
    (pick (eqb first 3) (pick (zeros_only code) (Some Unable) None) None))

unfoldable pub reply_of : List ℕ → HostHeard
reply_of s = pick (eqb (length s) 3) (said_by (get_or s 0 0) (code_in s)) None

-- whether that is a reply
unfoldable pub is_reply : HostHeard → Bool
is_reply (Some reply) = true
is_reply None = false

-- the issuer's code; when unable, 'Y3' beside a TC and 'Z3' beside any other request (house)
unfoldable pub response_code : HostReply → Cryptogram → List ℕ → List ℕ
response_code Approve asked code = code
response_code Decline asked code = code
response_code Unable Tc code = 0x59 ∷ 0x33 ∷ []
response_code Unable Aac code = 0x5A ∷ 0x33 ∷ []
response_code Unable Arqc code = 0x5A ∷ 0x33 ∷ []
