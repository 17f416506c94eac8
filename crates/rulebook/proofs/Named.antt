-- The transition at each thing heard, by its name: for readers that look at START and at the issuer's reply themselves.
-- Assumes nothing.
use mathlib.Core.Path.{◌≡◌, ap, ◌∙◌}
use mathlib.Core.Bool.{true}
use mathlib.Core.List.{List}
use mathlib.Core.Option.{some}
use Prim.Native.Nat.{ℕ}
use Rattle.start_fields.specs.Reading.{reading_of}
use Rattle.start_valid.specs.Start.{valid_start}
use Rattle.numbers.specs.Tables.{start, host}
use Rattle.tape_read.specs.Entries.{entry}
use Rattle.decide_requests.specs.Replies.{HostHeard, reply_of, is_reply}
use Rattle.decide_requests.specs.declared.reply.HostReply.{HostReply}
use Rattle.std.specs.Prelude.{Some}
use Rattle.words.specs.Words.{word_kind, word_allowed}
use Rattle.words.specs.declared.Word.TheVariants.{Host}
use Rattle.sessions.specs.Session.{is_payload}
use Rattle.sessions.specs.Machine.{next}
use Rattle.sessions.proofs.Running.{takes_heard}
use Rattle.rulebook.specs.Situation.{Situation}
use Rattle.rulebook.specs.Phase.{terminal, says, Phase, opens, hears, due_kind}
use Rattle.rulebook.specs.Turn.{opened, allowed, reply_made, issuer_replied, after}
use Rattle.rulebook.specs.Machine.{at}
use Rattle.rulebook.specs.Session.{rules}

pub takes_start : (b : List ℕ) → valid_start b ≡ true → is_payload b ≡ true
    → next rules (at opens) (entry start b) ≡ some (at (opened (reading_of b)))
unfolding allowed after due_kind
takes_start b valid ok = takes_heard rules terminal b valid ok

module _ (s : Situation) (p : List ℕ) (r : HostReply) (said : reply_of p ≡ Some r) where
  pub reply_allowed : allowed (says Host s) p ≡ true
  unfolding allowed word_allowed is_reply
  reply_allowed = ap is_reply said

  pub after_reply : after (says Host s) p ≡ issuer_replied s r p
  unfolding after reply_made
  after_reply = ap (λ (x : HostHeard). issuer_replied s (reply_made x) p) said

  pub takes_reply : is_payload p ≡ true → next rules (at (hears (says Host s))) (entry host p) ≡ some (at (issuer_replied s r p))
  unfolding due_kind word_kind
  takes_reply ok = takes_heard rules (says Host s) p reply_allowed ok ∙ ap (λ (q : Phase). some (at q)) after_reply
