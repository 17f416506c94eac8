-- The words that somebody other than the card has after START: the issuer's reply, and the attendant's results of cardholder verification.
-- 01, "The tape" and "When a call is turned away"; 02, R-7.
-- Assumes nothing.
use Rattle.std.specs.Prelude.{Bool, List, ℕ}
use Rattle.numbers.specs.Tables.{refused_host, refused_results, host, results}
use Rattle.cvm.specs.Lists.{are_results}
use Rattle.decide_requests.specs.Replies.{reply_of, is_reply}
use Rattle.words.specs.declared.Word.{Word}
use Rattle.words.specs.declared.Word.TheVariants.{Host, Results}

-- the kind of the entry that has a word
unfoldable pub word_kind : Word → ℕ
word_kind Host = host
word_kind Results = results

-- what may be said, where so many are wanted of what is counted: one of the issuer's replies; a result for each rule
unfoldable pub word_allowed : Word → ℕ → List ℕ → Bool
word_allowed Host count p = is_reply (reply_of p)
word_allowed Results count p = are_results count p

-- the line of 01's table for what may not be said: HOST not 3 bytes, or not one of the replies; not a result for each rule, or not 0 to 4
unfoldable pub word_refusal : Word → ℕ
word_refusal Host = refused_host
word_refusal Results = refused_results
