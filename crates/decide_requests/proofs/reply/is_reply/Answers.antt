-- `decide_requests::reply::is_reply` meets its contract.
-- Assumes nothing.
use Rattle.std.proofs.Common.{◌≡◌, refl, ap, ◌∙◌}
use Rattle.std.specs.Prelude.{Some, None, is_some}
use Rattle.decide_requests.specs.Replies.{HostHeard, is_reply}
use Rattle.decide_requests.proofs.reply.is_reply.Goals as goal

there : (h : HostHeard) → is_some h ≡ is_reply h
unfolding is_reply
there (Some reply) = refl
there None = refl

pub returns : goal.returns
returns c = c.is_some.ensures ∙ (ap is_some c.reply_of.ensures ∙ there _)
