-- `search::by_turn` meets its contract: each arm is the definition's at that turn.
-- Assumes nothing.
use mathlib.Core.Path.{sym, ap, ◌∙◌}
use mathlib.Core.List.{List}
use Prim.Native.Nat.{ℕ, ◌%◌}
use Rattle.numbers.specs.Tables.{terminated}
use Rattle.select_list.specs.Kept.{list_in}
use Rattle.select_search.specs.Turns.{turned}
use Rattle.select_search.specs.declared.Turn.{Turn}
use Rattle.rulebook.specs.Phase.{optioning, asks}
use Rattle.session_state.specs.Reading.{early}
use Rattle.session_moves.specs.Moves.{moved}
use Rattle.session_moves.proofs.Moving.{early_decided}
use Rattle.session_choosing.specs.Turns.{found}
use Rattle.session_choosing.proofs.search.by_turn.Goals as goal

pub returns-in-Asks : goal.returns-in-Asks
unfolding turned found
returns-in-Asks c =
    let args = c.args in
    c.ask_next.ensures
    ∙ sym (ap (λ (x : Turn). found (turned x (list_in args.list.now) args.answer.now) args.s args.buf.now) c.in-Asks.is)

pub returns-in-Shows : goal.returns-in-Shows
unfolding turned found
returns-in-Shows c =
    let args = c.args in
    c.show.ensures
    ∙ sym (ap (λ (x : Turn). found (turned x (list_in args.list.now) args.answer.now) args.s args.buf.now) c.in-Shows.is)

pub returns-in-Runs : goal.returns-in-Runs
unfolding turned found
returns-in-Runs c =
    let args = c.args in
    c.options_due.ensures
    ∙ (ap (λ (l : List ℕ). moved (asks (optioning (early args.s) l)) args.s args.buf.now) c.pdol.ensures
    ∙ sym
    (ap (λ (x : Turn). found (turned x (list_in args.list.now) args.answer.now) args.s args.buf.now) c.in-Runs.is))

pub returns-in-Over : goal.returns-in-Over
unfolding turned found
returns-in-Over c =
    let args = c.args in
    early_decided args.s args.buf.now terminated (c.in-Over.reason % 256) c.end.ensures
    ∙ sym (ap (λ (x : Turn). found (turned x (list_in args.list.now) args.answer.now) args.s args.buf.now) c.in-Over.is)
