-- What the terminal asks of the card: 01, "From facts to a decision", and 003, 7.7.
-- Assumes nothing.
use Rattle.std.specs.Prelude.{Bool, List, ℕ, eqb, replicate}
use Rattle.std.proofs.Math.Option.{Option, some, none}
use Rattle.slices.specs.Choice.{pick}
use Rattle.start_fields.specs.Reading.{Terminal}
use Rattle.decide_requests.specs.declared.reply.HostReply.{HostReply}
use Rattle.decide_requests.specs.declared.reply.HostReply.TheVariants.{Approve, Decline, Unable}
use Rattle.decide_cryptogram.specs.declared.Cryptogram.{Cryptogram}
use Rattle.decide_cryptogram.specs.declared.Cryptogram.TheVariants.{Aac, Tc, Arqc}
use Rattle.decide_tvr.specs.Bits.{joined, meet}
use Rattle.facts.specs.Facts.{Facts}

-- the codes that the card gave, or five bytes of what stands for absent ones
unfoldable pub issuer_code : ℕ → Option (List ℕ) → List ℕ
issuer_code absent none = replicate 5 absent
issuer_code absent (some code) = code

-- a bit of the TVR that is set in the issuer's code or in the terminal's
unfoldable pub code_match : ℕ → Option (List ℕ) → List ℕ → List ℕ → Bool
code_match absent issuer terminal tvr = meet (joined (issuer_code absent issuer) terminal) tvr

-- 9F0E of what the records told; absent: all zeros
abbrev pub denial_match : Terminal → Facts → List ℕ → Bool
denial_match t told tvr = code_match 0x00 (told 0x9F0E) t.denial tvr

-- 9F0F; absent: all ones
abbrev pub online_match : Terminal → Facts → List ℕ → Bool
online_match t told tvr = code_match 0xFF (told 0x9F0F) t.online tvr

-- 9F0D; absent: all ones
abbrev pub default_match : Terminal → Facts → List ℕ → Bool
default_match t told tvr = code_match 0xFF (told 0x9F0D) t.default tvr

-- the first request by the terminal's type and by whether its default and its online codes match: type 0 never goes
-- online, type 1 always does, type 2 where an online code says so
unfoldable pub by_type : ℕ → Bool → Bool → Cryptogram
by_type kind default online =
    pick (eqb kind 0) (pick default Aac Tc)
    (pick (eqb kind 1) Arqc
    (pick (eqb kind 2) (pick online Arqc Tc) Tc))

-- a denial comes before all that
unfoldable pub first_request : Terminal → Facts → List ℕ → Cryptogram
first_request t told tvr = pick (denial_match t told tvr) Aac (by_type t.kind (default_match t told tvr) (online_match t told tvr))

-- the second request where the issuer could not be reached, by type and by whether a default code matches
unfoldable pub when_unable : ℕ → Bool → Cryptogram
when_unable kind default = pick (eqb kind 1) Aac (pick default Aac Tc)

unfoldable pub second_request : HostReply → Terminal → Facts → List ℕ → Cryptogram
second_request Approve t told tvr = Tc
second_request Decline t told tvr = Aac
second_request Unable t told tvr = when_unable t.kind (default_match t told tvr)
