-- What is due at a phase is a payload: a command whose list is filled with bytes, and a DECISION of nine bytes.
-- Assumes nothing.
use mathlib.Core.Path.{◌≡◌, refl}
use mathlib.Core.Bool.{true}
use mathlib.Core.List.{List, ◌∷◌, ◌++◌}
use mathlib.Core.Option.{Option, none, some}
use Prim.Native.Nat.{ℕ, ◌≤◌, ◌<◌}
use native.Mathlib.Omega.{arith}
use lib.ListN.{length, length-append}
use lib.Pow.{are_bytes}
use Rattle.tape_crc.proofs.Bytes.{bytes_cons, bytes_append}
use Rattle.dol_wanted.specs.Wanted.{most}
use Rattle.dol_fill.specs.Filled.{filling}
use Rattle.commands.specs.Commands.{longest}
use Rattle.commands.proofs.Sizes.{data_length, data_most_lem}
use Rattle.commands.proofs.Shapes.{select_most, options_most, record_most, cryptogram_most}
use Rattle.decide_cryptogram.specs.Cryptograms.{p1_of}
use Rattle.decide_cryptogram.specs.declared.Cryptogram.{Cryptogram}
use Rattle.decide_cryptogram.specs.declared.Cryptogram.TheVariants.{Aac, Tc, Arqc}
use Rattle.sessions.specs.Session.{is_payload}
use Rattle.sessions.proofs.Payloads.{payload}
use Rattle.rulebook.specs.Situation.{Situation, known_in, list_in}
use Rattle.rulebook.specs.Phase.{Asked, selecting, optioning, reading, first, second, decides, command_of, decision_of}
use Rattle.verdict_storable.proofs.Filling.{Told, beside_bytes, unless_bytes, filling_bytes}
use Rattle.verdict_storable.proofs.Commanding.{select_bytes, options_bytes, record_bytes, cryptogram_bytes}
use Rattle.verdict_storable.proofs.Staying.{Knows, Asking, Stays}

p1_byte : (request : Cryptogram) → p1_of request < 256
p1_byte Aac = omega arith
p1_byte Tc = omega arith
p1_byte Arqc = omega arith

module _ (s : Situation) (k : Knows s) (response : Option (List ℕ)) (r : Told response) where
  known_bytes : (tag : ℕ) → Told (known_in s response tag)
  unfolding known_in
  known_bytes tag =
      beside_bytes (s.facts tag) tag _ (k.facts tag) (k.tvr.bytes, (k.tsi.bytes, (r, (unless_bytes s.profile k.profile, tt))))

  module _ (list : List ℕ) where
    abbrev pub data' : List ℕ
    data' = filling s.terminal (known_in s response) list

    pub data_bytes : are_bytes data' ≡ true
    data_bytes = filling_bytes s.terminal (known_in s response) k.terminal.own known_bytes list

    pub data_few : length data' ≤ most
    data_few = omega (arith, data_length s.terminal (known_in s response) list, data_most_lem list)

command_payload : (c : List ℕ) → length c ≤ longest → are_bytes c ≡ true → is_payload c ≡ true
command_payload c few h = payload c (omega arith) h

-- every command is a payload
pub asked_payload : (w : Asked) → Asking w → is_payload (command_of w) ≡ true
unfolding command_of
asked_payload (selecting s) k =
    let aid = s.terminal.aid in
    let t = k.terminal in
    command_payload _ (select_most aid t.few) (select_bytes aid t.few t.aid)
asked_payload (optioning s list) k =
    let few = data_few s k none refl list in
    command_payload _ (options_most _ few) (options_bytes _ few (data_bytes s k none refl list))
asked_payload (reading s number file rest) k = command_payload _ (record_most number file) (record_bytes number file k.1.0)
asked_payload (first s request) k =
    let few = data_few s k none refl (list_in s 0x8C) in
    command_payload _ (cryptogram_most (p1_of request) _ few)
    (cryptogram_bytes _ few (data_bytes s k none refl (list_in s 0x8C)) (p1_of request) (p1_byte request))
asked_payload (second s request code) k =
    let few = data_few s k.0 (some code) k.1 (list_in s 0x8D) in
    command_payload _ (cryptogram_most (p1_of request) _ few)
    (cryptogram_bytes _ few (data_bytes s k.0 (some code) k.1 (list_in s 0x8D)) (p1_of request) (p1_byte request))

-- and so is the DECISION
pub decision_payload : (outcome reason : ℕ) (s : Situation) → Stays (decides outcome reason s)
    → is_payload (decision_of outcome reason s) ≡ true
unfolding decision_of
decision_payload outcome reason s k =
    let tvr = k.0.tvr in
    let tsi = k.0.tsi in
    payload (outcome ∷ reason ∷ (s.tvr ++ s.tsi)) (omega (arith, length-append s.tvr s.tsi, tvr.size, tsi.size))
    (bytes_cons outcome (reason ∷ (s.tvr ++ s.tsi)) k.1.0
    (bytes_cons reason (s.tvr ++ s.tsi) k.1.1 (bytes_append s.tvr s.tsi tvr.bytes tsi.bytes)))
