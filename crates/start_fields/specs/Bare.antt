-- Terminals for worked cases, of which only what a case turns on is given (their STARTs have 74 bytes); and any terminal with another AID.
-- Assumes nothing.
use Rattle.std.specs.Prelude.{List, [], ℕ}
use Rattle.std.proofs.Math.Option.{none}
use Rattle.start_fields.specs.Reading.{Terminal}

-- the type and the action codes
abbrev pub bare : ℕ → List ℕ → List ℕ → List ℕ → Terminal
bare kind denial online default =
    record {
      kind = kind;
      amount = [];
      other_amount = [];
      country = [];
      currency = [];
      date = [];
      transaction_type = [];
      unpredictable = [];
      floor_limit = [];
      random = 0;
      target = 0;
      threshold = [];
      maximum = 0;
      version = [];
      denial = denial;
      online = online;
      default = default;
      aid = [];
      capabilities = none;
    }

-- and what the floor limit and the selection at random look at: random number, target, maximum; amount, threshold, floor limit
abbrev pub weighing : Terminal → ℕ → ℕ → ℕ → List ℕ → List ℕ → List ℕ → Terminal
weighing t random target maximum amount threshold floor_limit =
    record {
      kind = t.kind;
      amount = amount;
      other_amount = t.other_amount;
      country = t.country;
      currency = t.currency;
      date = t.date;
      transaction_type = t.transaction_type;
      unpredictable = t.unpredictable;
      floor_limit = floor_limit;
      random = random;
      target = target;
      threshold = threshold;
      maximum = maximum;
      version = t.version;
      denial = t.denial;
      online = t.online;
      default = t.default;
      aid = t.aid;
      capabilities = t.capabilities;
    }

-- and the date, the version and the unpredictable number
abbrev pub telling : Terminal → List ℕ → List ℕ → List ℕ → Terminal
telling t date version unpredictable =
    record {
      kind = t.kind;
      amount = t.amount;
      other_amount = t.other_amount;
      country = t.country;
      currency = t.currency;
      date = date;
      transaction_type = t.transaction_type;
      unpredictable = unpredictable;
      floor_limit = t.floor_limit;
      random = t.random;
      target = t.target;
      threshold = t.threshold;
      maximum = t.maximum;
      version = version;
      denial = t.denial;
      online = t.online;
      default = t.default;
      aid = t.aid;
      capabilities = t.capabilities;
    }

-- a terminal with another AID and nothing else changed
unfoldable pub terminal_with : List ℕ → Terminal → Terminal
terminal_with aid t =
    record {
      kind = t.kind;
      amount = t.amount;
      other_amount = t.other_amount;
      country = t.country;
      currency = t.currency;
      date = t.date;
      transaction_type = t.transaction_type;
      unpredictable = t.unpredictable;
      floor_limit = t.floor_limit;
      random = t.random;
      target = t.target;
      threshold = t.threshold;
      maximum = t.maximum;
      version = t.version;
      denial = t.denial;
      online = t.online;
      default = t.default;
      aid = aid;
      capabilities = t.capabilities;
    }
