-- What a card can influence by the rules with choosing the application (02, R-13 over R-12), in one record: all of `Influence` of
-- `card_seen`, of these rules. That it holds is `theorem` of proofs/Theorem; that what is seen does count, in Theorem of
-- `card_choosing_worked`.
-- Assumes nothing.
use Rattle.std.specs.Prelude.{◌≡◌, List, ℕ}
use Rattle.rulebook.specs.Phase.{Asked}
use Rattle.rulebook.specs.Later.{AskedLater}
use Rattle.rulebook_choosing.specs.Choosing.{Choosing, searched}
use Rattle.rulebook_choosing.specs.Session.{rules}
use Rattle.card_seen.specs.Seen.{options, generation, apart_options, apart_cryptogram, seen}
use Rattle.card_seen.specs.Given as today
use Rattle.card_seen.specs.Under.{reason_in, Through, Whole}
use Rattle.card_seen.specs.Used.{used_of}
use Rattle.card_seen.specs.Order.{Rearranged, EmptyIssuerData}
use Rattle.card_seen.specs.Dressing.{Dressed, JoinedAgain, OtherForm}
use Rattle.card_choosing.specs.Places.{place_of, view, AlikeTo}
use Rattle.card_choosing.specs.Used.{Good, used_at}
use Rattle.card_choosing.specs.Order.{RearrangedAt}

pub record Influence : Type 0 where
  -- 1. Every answer, good or bad: one function of what is seen of it says how the session goes on
  pub through : Through rules view
  pub same_turn : (w : AskedLater Choosing) (a b : List ℕ) → seen (place_of w) a ≡ seen (place_of w) b → rules.turn w a ≡ rules.turn w b
  -- 2. Whole sessions, 02's sentence, and beginnings that are given the same
  pub whole : Whole rules view AlikeTo
  -- 5. Of two good answers only what the session goes on with matters: from GPO on as by the rules of 01, and in a search likewise.
  -- A search has its own good answers, since an answer that is none leads on there and to no reason
  pub good : (w : Asked) (a b : List ℕ) → used_of w a ≡ used_of w b → reason_in (rules.turn (AskedLater.was w) a) ≡ 0
      → reason_in (rules.turn (AskedLater.was w) b) ≡ 0 → rules.turn (AskedLater.was w) a ≡ rules.turn (AskedLater.was w) b
  pub good_there : (x : Choosing) (a b : List ℕ) → used_at x.search.stand.step a ≡ used_at x.search.stand.step b
      → Good x.search a → Good x.search b → searched x a ≡ searched x b
  -- 6. Nor does the order of the named objects matter, but for the entries of a directory record
  pub any_order : (w : Asked) (a b : List ℕ) → Rearranged (today.place_of w) a b
      → rules.turn (AskedLater.was w) a ≡ rules.turn (AskedLater.was w) b
  pub any_order_there : (x : Choosing) (a b : List ℕ) → RearrangedAt x.search.stand.step a b → searched x a ≡ searched x b
  pub empty_issuer_data : (w : Asked) (a b : List ℕ) → today.place_of w ≡ generation → EmptyIssuerData a b
      → rules.turn (AskedLater.was w) a ≡ rules.turn (AskedLater.was w) b
  -- The freedoms, wherever they are taken, after any command: '00' bytes, objects that are not named, length forms; and at GPO and
  -- GENERATE AC the other form
  pub dressed : (w : AskedLater Choosing) (a b : List ℕ) → Dressed (place_of w) a b → rules.turn w a ≡ rules.turn w b
  pub joined_again : (w : AskedLater Choosing) (a b : List ℕ) → JoinedAgain a b → rules.turn w a ≡ rules.turn w b
  pub options_forms : (w : AskedLater Choosing) (a b : List ℕ) → place_of w ≡ options → OtherForm options apart_options a b
      → rules.turn w a ≡ rules.turn w b
  pub cryptogram_forms : (w : AskedLater Choosing) (a b : List ℕ) → place_of w ≡ generation → OtherForm generation apart_cryptogram a b
      → rules.turn w a ≡ rules.turn w b
