-- A selection has at most a hundred exchanges, and before each at most one choice, none before the first.
-- Assumes nothing.
use mathlib.Core.Path.{◌≡◌, refl}
use mathlib.Core.List.{List}
use Prim.Native.Nat.{ℕ, zero, suc, ◌+◌}
use native.Mathlib.Omega.{arith}
use Rattle.slices.proofs.Choice.{picked}
use Rattle.tape_read.specs.Entries.{Entry}
use Rattle.select_search.specs.Search.{most_exchanges, begun as search_begun}
use Rattle.sessions.specs.Rules.{asks}
use Rattle.sessions.specs.Session.{exchanged, heard, decided}
use Rattle.rulebook.specs.Phase.{terminal}
use Rattle.rulebook.specs.Turn.{after, opened}
use Rattle.rulebook.specs.Later.{AskedLater, HeardLater, as_was, turn_later, after_later}
use Rattle.start_choosing.specs.Start.{is_listing}
use Rattle.rulebook_choosing.specs.Choosing.{Choosing, ChoosingPhase, further, listed}
use Rattle.rulebook_choosing.specs.Session.{rules, Plays}
use Rattle.rulebook_choosing.specs.Stated.{exchanges_of, GoesOn, asked, shown, ran, ended, Takes, sent, stopped}
use Rattle.rulebook_choosing.specs.Stated.{asked_act, heard_act, acts_of, Within, done, alone, chosen, none, Hundred, unlisted, begun}
use Rattle.rulebook_choosing.proofs.Selecting.{searched_on, chose_on}

-- with n more exchanges that can be made: what a selection is made of behind one
abbrev Behind : ℕ → Type 0
Behind n =
    (x : Choosing) → exchanges_of x + n ≡ most_exchanges → (q : ChoosingPhase) → GoesOn x q → (es : List Entry) (play : Plays q es)
    → Within n (acts_of play)

-- and from a choice on, with what is behind the exchange that follows it
from_choice : (n : ℕ) → Behind n → (x : Choosing) → exchanges_of x + suc n ≡ most_exchanges → (q : ChoosingPhase) → Takes x q
    → (es : List Entry) (play : Plays q es) → Within (suc n) (heard_act (HeardLater.new x) (acts_of play))
unfolding acts_of asked_act heard_act turn_later further
from_choice n behind x e q (sent s same lt) es (exchanged {a} {es = rest} f ok play) =
    chosen (behind (further s x) (omega (arith, e, same)) _ (searched_on (further s x) a) rest play)
from_choice n behind x e q (stopped reason h) es (decided f) = none

no_more : Behind zero
unfolding acts_of asked_act
no_more x e q (asked s same lt) es play = absurd (omega (arith, e, lt))
no_more x e q (shown s same lt) es play = absurd (omega (arith, e, lt))
no_more x e q (ran list) es (exchanged f ok play) = done
no_more x e q (ended reason h) es (decided f) = done

one_more_lem : (n : ℕ) → Behind n → Behind (suc n)
unfolding acts_of asked_act turn_later after_later further
one_more_lem n behind x e q (asked s same lt) es (exchanged {a} {es = rest} f ok play) =
    alone (behind (further s x) (omega (arith, e, same)) _ (searched_on (further s x) a) rest play)
one_more_lem n behind x e q (shown s same lt) es (heard {p} {es = rest} f fits ok play) =
    from_choice n behind (further s x) (omega (arith, e, same)) _ (chose_on (further s x) p) rest play
one_more_lem n behind x e q (ran list) es (exchanged f ok play) = done
one_more_lem n behind x e q (ended reason h) es (decided f) = done

within : (n : ℕ) → Behind n
within zero = no_more
within (suc n) = one_more_lem n (within n)

-- from START on
listing_hundred : (p : List ℕ) {es : List Entry} (play : Plays (asks (AskedLater.new (listed p))) es) → Hundred (acts_of play)
unfolding acts_of asked_act turn_later listed search_begun
listing_hundred p (exchanged {a} {es = rest} f ok play) = begun (within 99 (listed p) refl _ (searched_on (listed p) a) rest play)

opened_hundred : (p : List ℕ) {es : List Entry} (play : Plays (as_was (after terminal p)) es) → Hundred (acts_of play)
unfolding acts_of asked_act as_was after opened
opened_hundred p (exchanged f ok play) = unlisted

started_hundred : (p : List ℕ) {es : List Entry} (play : Plays (rules.after (HeardLater.was terminal) p) es) → Hundred (acts_of play)
unfolding after_later
started_hundred p {es} play =
    picked (λ (q : ChoosingPhase). (r : Plays q es) → Hundred (acts_of r)) (is_listing p) (asks (AskedLater.new (listed p)))
    (as_was (after terminal p))
    (λ y r. listing_hundred p r)
    (λ n r. opened_hundred p r)
    play

pub hundred : {es : List Entry} (play : Plays rules.opens es) → Hundred (acts_of play)
unfolding acts_of heard_act
hundred (heard {p} f fits ok play) = started_hundred p play
