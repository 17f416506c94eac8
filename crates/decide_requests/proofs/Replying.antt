-- Which code a reply brings. Assumes nothing.
use mathlib.Core.Path.{◌≡◌, refl}
use mathlib.Core.List.{List}
use Prim.Native.Nat.{ℕ}
use Rattle.decide_requests.specs.Replies.{response_code}
use Rattle.decide_requests.specs.declared.reply.HostReply.TheVariants.{Unable}
use Rattle.decide_cryptogram.specs.declared.Cryptogram.{Cryptogram}
use Rattle.decide_cryptogram.specs.declared.Cryptogram.TheVariants.{Aac, Tc, Arqc}

-- beside 'unable' the issuer's code does not count
pub unable_code : (request : Cryptogram) (x y : List ℕ) → response_code Unable request x ≡ response_code Unable request y
unfolding response_code
unable_code Tc x y = refl
unable_code Aac x y = refl
unable_code Arqc x y = refl
