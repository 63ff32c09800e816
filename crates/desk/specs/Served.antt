-- What a desk has served.
use Rattle.std.specs.Prelude.{ℕ, max, Bool, false, Result, Ok, Err}
use Rattle.desk.specs.Count.{grown, one_more}
use Rattle.desk.specs.Passing.{passing}
use Rattle.desk.specs.declared.served.Served.{Served}

abbrev pub nothing : Served
nothing = record { begins = 0; misses = 0; bytes = 0; longest = 0; too_long = 0 }

-- one more miss if `begin` answered false
abbrev pub misses_after : {E : Type 0} → Result Bool E → ℕ → ℕ
misses_after (Ok false) misses = one_more misses
misses_after result misses = misses

-- after a `begin`, a new file's bytes are counted
abbrev pub after_begin : {E : Type 0} → Result Bool E → Served → Served
after_begin result served = record {
  begins = one_more served.begins;
  misses = misses_after result served.misses;
  bytes = 0;
  longest = served.longest;
  too_long = served.too_long;
}

-- after a `read`, the bytes that it gave are counted
abbrev pub after_read : {E : Type 0} → Result ℕ E → Served → Served
after_read (Ok n) served = let bytes = grown served.bytes n in record {
  begins = served.begins;
  misses = served.misses;
  bytes = bytes;
  longest = max served.longest bytes;
  too_long = passing served.bytes bytes served.too_long;
}
after_read (Err e) served = served
