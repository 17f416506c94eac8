-- What a card can influence by the rules with choosing, as Theorem of specs/ states it: each field is a law of one of the files beside this
-- one, or follows from what is seen.
-- Assumes nothing.
use mathlib.Core.Path.{◌≡◌, sym, ap, ◌∙◌}
use mathlib.Core.List.{List}
use Prim.Native.Nat.{ℕ}
use Rattle.rulebook.specs.Later.{AskedLater, as_was, turn_later}
use Rattle.rulebook_choosing.specs.Choosing.{Choosing}
use Rattle.rulebook_choosing.specs.Session.{rules}
use Rattle.card_seen.specs.Seen.{Place, seen}
use Rattle.card_seen.proofs.Sessions as sessions
use Rattle.card_seen.proofs.Order as today_order
use Rattle.card_seen.proofs.IssuerData.{as_none}
use Rattle.card_seen.proofs.Dressing.{dressed_seen, joined_again_seen, options_forms, cryptogram_forms}
use Rattle.card_choosing.specs.Places.{place_of, view}
use Rattle.card_choosing.specs.Theorem.{Influence}
use Rattle.card_choosing.proofs.Turning.{through}
use Rattle.card_choosing.proofs.Sessions.{whole_choosing}
use Rattle.card_choosing.proofs.Least.{least, least_there}
use Rattle.card_choosing.proofs.Order.{in_any_order}

settled : (w : AskedLater Choosing) (a b : List ℕ) → seen (place_of w) a ≡ seen (place_of w) b → rules.turn w a ≡ rules.turn w b
settled = sessions.settled rules view through

-- the same is seen at a place, which is that of the question
settled_at : (w : AskedLater Choosing) (p : Place) (a b : List ℕ) → place_of w ≡ p → seen p a ≡ seen p b → rules.turn w a ≡ rules.turn w b
settled_at w p a b e same =
    settled w a b (ap (λ (q : Place). seen q a) e ∙ (same ∙ sym (ap (λ (q : Place). seen q b) e)))

pub theorem : Influence
unfolding turn_later
theorem = record {
  through = through;
  same_turn = settled;
  whole = whole_choosing;
  good = least;
  good_there = least_there;
  any_order = λ w a b h. ap as_was (today_order.in_any_order w a b h);
  any_order_there = in_any_order;
  empty_issuer_data = λ w a b e h. ap as_was (as_none w a b e h);
  dressed = λ w a b d. settled w a b (dressed_seen (place_of w) a b d);
  joined_again = λ w a b j. settled w a b (joined_again_seen (place_of w) a b j);
  options_forms = λ w a b e f. settled_at w _ a b e (options_forms a b f);
  cryptogram_forms = λ w a b e f. settled_at w _ a b e (cryptogram_forms a b f);
}
