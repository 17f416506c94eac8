-- `ask` meets its contract: each arm writes the command of its step.
-- Assumes nothing.
use mathlib.Core.Path.{refl, ap, ap₂}
use mathlib.Core.List.{List}
use Prim.Native.Nat.{ℕ}
use native.Mathlib.Omega.{arith}
use lib.ListN.{length}
use Rattle.start_list.specs.Listing.{applications_in}
use Rattle.commands.specs.Commands.{record_command}
use Rattle.select_answers.specs.Files.{environment}
use Rattle.select_list.specs.Kept.{list_in}
use Rattle.select_search.specs.Search.{select_by, command_at}
use Rattle.select_search.specs.declared.Step.TheVariants.{Environment, Directory, Listed, Final}
use Rattle.select_commands.proofs.Rooms.{listed_most, kept_most}
use Rattle.select_commands.proofs.Asking.{asked_at}
use Rattle.select_commands.proofs.ask.Goals as goal

pub select_name-requires-in-Listed : goal.select_name-requires-in-Listed
select_name-requires-in-Listed c =
    let a = c.args in
    let same = ap length c.listed_aid.ensures in
    let most = listed_most a.start.now c.in-Listed.aid in
    omega (arith, same, most)

pub select_name-requires-in-Final : goal.select_name-requires-in-Final
select_name-requires-in-Final c =
    let a = c.args in
    let same = ap length c.name_at.ensures in
    let most = kept_most a.list.now c.in-Final.place in
    omega (arith, same, most)

pub returns-in-Environment : goal.returns-in-Environment
unfolding command_at
returns-in-Environment c =
    let a = c.args in
    let both = asked_at (applications_in a.start.now) (list_in a.list.now) a.step a.buf.now _ _ Environment
    (select_by 0 environment) c.in-Environment.is refl (c.select_name.ensures.size, c.select_name.ensures.buffer) in
    record { size = both.0; buffer = both.1 }

pub returns-in-Directory : goal.returns-in-Directory
unfolding command_at
returns-in-Directory c =
    let a = c.args in
    let both = asked_at (applications_in a.start.now) (list_in a.list.now) a.step a.buf.now _ _
    (Directory c.in-Directory.file c.in-Directory.record)
    (record_command c.in-Directory.record c.in-Directory.file) c.in-Directory.is refl
    (c.«record».ensures.size, c.«record».ensures.buffer) in
    record { size = both.0; buffer = both.1 }

pub returns-in-Listed : goal.returns-in-Listed
unfolding command_at
returns-in-Listed c =
    let a = c.args in
    let both = asked_at (applications_in a.start.now) (list_in a.list.now) a.step a.buf.now _ _ (Listed c.in-Listed.aid c.in-Listed.again)
    (select_by c.occurrence.result c.listed_aid.result.now) c.in-Listed.is
    (ap₂ (λ (p : ℕ) (name : List ℕ). select_by p name) c.occurrence.ensures c.listed_aid.ensures)
    (c.select_name-in-Listed.ensures.size, c.select_name-in-Listed.ensures.buffer) in
    record { size = both.0; buffer = both.1 }

pub returns-in-Final : goal.returns-in-Final
unfolding command_at
returns-in-Final c =
    let a = c.args in
    let both = asked_at (applications_in a.start.now) (list_in a.list.now) a.step a.buf.now _ _ (Final c.in-Final.place _)
    (select_by 0 c.name_at.result.now) c.in-Final.is (ap (select_by 0) c.name_at.ensures)
    (c.select_name-in-Final.ensures.size, c.select_name-in-Final.ensures.buffer) in
    record { size = both.0; buffer = both.1 }
