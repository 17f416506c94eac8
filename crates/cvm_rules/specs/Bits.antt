-- The bits that cardholder verification sets: 003, Tables A-6 and A-7.
-- Assumes nothing.
use Rattle.std.specs.Prelude.{ℕ}

-- TVR byte 3, b8: cardholder verification was not successful
abbrev pub not_successful : ℕ
not_successful = 0x80

-- b7: unrecognised method
abbrev pub unrecognised_method : ℕ
unrecognised_method = 0x40

-- b6: PIN try limit exceeded
abbrev pub tries_exceeded : ℕ
tries_exceeded = 0x20

-- b5: a PIN was required, and the pad is not there or does not work
abbrev pub no_pin_pad : ℕ
no_pin_pad = 0x10

-- b4: a PIN was required, and was not entered on the pad that is there
abbrev pub pin_not_entered : ℕ
pin_not_entered = 0x08

-- b3: online PIN entered
abbrev pub online_pin_entered : ℕ
online_pin_entered = 0x04

-- TSI byte 1, b7: cardholder verification was performed; set when it is complete, successful or not (003, 7.5)
abbrev pub verification_performed : ℕ
verification_performed = 0x40
