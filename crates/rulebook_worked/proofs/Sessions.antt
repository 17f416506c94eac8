-- Named sessions: one for each outcome, by the terminal types that can have it (those approved offline are `Offline` of `rulebook`), and
-- one for each reason. Each is read to its end by computation.
-- Assumes nothing.
use mathlib.Core.Path.{refl}
use mathlib.Core.List.{List, [], ◌∷◌, ◌++◌}
use Prim.Native.Nat.{ℕ}
use Rattle.numbers.specs.Tables.{start, host, decision}
use Rattle.tape_read.specs.Entries.{Entry, entry}
use Rattle.rulebook.specs.Session.{Session}
use Rattle.rulebook.proofs.Opening.{reached}
use Rattle.rulebook.proofs.Made.{start_in, amount_of, start_of, select, selected, options}
use Rattle.rulebook.proofs.Made.{optioned, read_one, recorded_with, recorded, expiring}
use Rattle.rulebook.proofs.Made.{number, first_asked, second_asked, given, aac, tc, arqc, decides, exchange, opening_with, opening, reads}
use Rattle.rulebook.proofs.Offline.{offline}

-- ---- decided sessions

abbrev pub online : ℕ → ℕ → List ℕ → ℕ → ℕ → List Entry
online kind first reply second outcome =
    opening kind
    ++ (exchange (first_asked first) (given arqc)
    ++ (entry host reply ∷ (exchange (second_asked second) (given second) ++ decides outcome 0 0x80 0x20)))

pub declined_offline : Session (offline 2 aac 2) × Session (offline 0 aac 2)
unfolding reached
declined_offline = (reads _ refl, reads _ refl)

-- a terminal of type 1 always goes online; one of type 2 where the card asks for it
pub approved_online : Session (online 1 arqc (1 ∷ 0x30 ∷ 0x30 ∷ []) tc 1) × Session (online 2 tc (1 ∷ 0x30 ∷ 0x30 ∷ []) tc 1)
unfolding reached
approved_online = (reads _ refl, reads _ refl)

pub declined_online : Session (online 1 arqc (2 ∷ 0x30 ∷ 0x35 ∷ []) aac 2) × Session (online 2 tc (2 ∷ 0x30 ∷ 0x35 ∷ []) aac 2)
unfolding reached
declined_online = (reads _ refl, reads _ refl)

-- the issuer is not reached: type 1 declines, type 2 goes by its default code
pub unable : Session (online 1 arqc (3 ∷ 0 ∷ 0 ∷ []) aac 2) × Session (online 2 tc (3 ∷ 0 ∷ 0 ∷ []) tc 1)
unfolding reached
unable = (reads _ refl, reads _ refl)

-- ---- terminated sessions, by reason

abbrev after_select : List ℕ → ℕ → List Entry
after_select a reason = entry start (start_of 2) ∷ (exchange select a ++ decides 3 reason 0 0)

abbrev after_options : List ℕ → ℕ → List Entry
after_options a reason = entry start (start_of 2) ∷ (exchange select selected ++ (exchange options a ++ decides 3 reason 0 0))

abbrev after_record : List ℕ → ℕ → ℕ → List Entry
after_record a reason tvr =
    entry start (start_of 2) ∷ (exchange select selected
    ++ (exchange options (optioned 1 1) ++ (exchange read_one a ++ decides 3 reason tvr 0)))

-- no bytes; status 6A82; no object; 84 twice; 84 too short
pub reasons_1_to_5 :
    Session (after_select [] 1)
    × Session (after_select (0x6A ∷ 0x82 ∷ []) 2)
    × Session (after_select (0x90 ∷ 0x00 ∷ []) 3)
    × Session (after_select (0x6F ∷ 0x10 ∷ 0x84 ∷ 0x05 ∷ 0xA0 ∷ 0 ∷ 0 ∷ 0 ∷ 3 ∷ 0x84 ∷ 0x05 ∷ 0xA0 ∷ 0 ∷ 0 ∷ 0 ∷ 3 ∷ 0xA5 ∷ 0x00 ∷ 0x90
    ∷ 0x00 ∷ []) 4)
    × Session (after_select (0x6F ∷ 0x08 ∷ 0x84 ∷ 0x04 ∷ 0xA0 ∷ 0 ∷ 0 ∷ 0 ∷ 0xA5 ∷ 0x00 ∷ 0x90 ∷ 0x00 ∷ []) 5)
unfolding reached
reasons_1_to_5 = (reads _ refl, reads _ refl, reads _ refl, reads _ refl, reads _ refl)

-- a first record 0; 501 records (02, R-8), 250 in one file and 251 in the next
abbrev many : List ℕ
many = 0x77 ∷ 0x0E ∷ 0x82 ∷ 0x02 ∷ 0 ∷ 0 ∷ 0x94 ∷ 0x08 ∷ 0x08 ∷ 0x01 ∷ 0xFA ∷ 0x00 ∷ 0x10 ∷ 0x01 ∷ 0xFB ∷ 0x00 ∷ 0x90 ∷ 0x00 ∷ []

pub reasons_6_and_7 : Session (after_options (optioned 0 1) 6) × Session (after_options many 7)
unfolding reached
reasons_6_and_7 = (reads _ refl, reads _ refl)

-- nothing told; an object list that breaks off, after the facts' bits were set
pub reasons_8_and_9 : Session (after_record (0x70 ∷ 0x00 ∷ 0x90 ∷ 0x00 ∷ []) 8 0)
    × Session (after_record (recorded (0x95 ∷ 0x01 ∷ 0x9F ∷ [])) 9 0x80)
unfolding reached
reasons_8_and_9 = (reads _ refl, reads _ refl)

-- an 8D that breaks off ends a session of type 0 at the allowed ARQC and one of another type at HOST, the first answer's bit set;
-- where no second request comes it does no harm
abbrev second_broken : ℕ → ℕ → List Entry → List Entry
second_broken kind cid rest =
    opening_with kind (recorded_with 0x22 number (0x01 ∷ 0x9F ∷ [])) ++ (exchange (first_asked tc) (given cid) ++ rest)

pub reason_9_second :
    Session (second_broken 0 arqc (decides 3 9 0x80 0x20))
    × Session (second_broken 2 arqc (entry host (1 ∷ 0x30 ∷ 0x30 ∷ []) ∷ decides 3 9 0x80 0x20))
    × Session (second_broken 2 tc (decides 1 0 0x80 0x20))
unfolding reached
reason_9_second = (reads _ refl, reads _ refl, reads _ refl)

-- a TC where an ARQC was asked for
pub reason_10 : Session (opening 1 ++ (exchange (first_asked arqc) (given tc) ++ decides 3 10 0x80 0))
unfolding reached
reason_10 = reads _ refl

-- ---- a later command depends on an earlier answer

-- the same session but for the record's 8C: it asks for the amount's last two bytes
pub other_list : Session
    (entry start (start_of 2)
    ∷ (exchange select selected
    ++ (exchange options (optioned 1 1)
    ++ (exchange read_one (recorded (0x9F ∷ 0x02 ∷ 0x02 ∷ []))
    ++ (exchange (0x80 ∷ 0xAE ∷ tc ∷ 0x00 ∷ 0x02 ∷ 0x75 ∷ 0x00 ∷ 0x00 ∷ []) (given tc) ++ decides 1 0 0x80 0x20)))))
unfolding reached
other_list = reads _ refl

-- ---- dates (02, R-2)

-- a session of 30 June in a year, and a card that expires on 31 December of another: the second byte of the TVR
abbrev dated : ℕ → ℕ → ℕ → List Entry
dated year expiry restrictions =
    entry start (start_in year 2 (amount_of 0x75 0x00) 0)
    ∷ (exchange select selected
    ++ (exchange options (optioned 1 1)
    ++ (exchange read_one (expiring expiry)
    ++ (exchange (first_asked tc) (given tc)
    ++ (entry decision (1 ∷ 0 ∷ 0x80 ∷ restrictions ∷ 0 ∷ 0 ∷ 0 ∷ 0x20 ∷ 0 ∷ []) ∷ [])))))

-- in 2020 a card of 991231 is expired (byte 2 b7); in 1999 it is not, and in 1950 one of 491231 is not either
pub expired_in_1999 : Session (dated 0x20 0x99 0x40) × (Session (dated 0x99 0x99 0) × Session (dated 0x50 0x49 0))
unfolding reached
expired_in_1999 = (reads _ refl, (reads _ refl, reads _ refl))
