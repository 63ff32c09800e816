-- What one read takes from the records that a reader has left.
use Rattle.std.proofs.Common.{inl, Bor, Bool, true, false, ℕ, zero, suc, ◌≡◌, ◌+◌, ◌-◌, ◌<◌, ◌≤◌, List, [], ◌∷◌, ◌++◌, Option, Some, None, length, refl, sym, ap, ◌∙◌, arith}
use Rattle.std.proofs.lemmas.Bool.{false≢true}
use Rattle.std.specs.Prelude.{◌==◌, if◌then◌else◌, IfSome, IsSome}
use Rattle.csv.specs.Machine.{Read, next_record, ends_at_end, in_field, start_field, start_record, step, is_end, after_end, carriage_return}
use Rattle.csv.specs.Reading.{NextIs, ReadRecord, is_flexible, took_first, ReadsNext, default_config, records_from, records_next}
use Rattle.csv.specs.declared.parser.Config.{Config}
use Rattle.csv.specs.declared.parser.State.{State}
use Rattle.csv.specs.declared.parser.State.TheVariants as st
use Rattle.csv.specs.declared.parser.Action.{Action}
use Rattle.csv.specs.declared.parser.Action.TheVariants as act
use Rattle.csv.specs.declared.parser.Terminator.{Terminator}
use Rattle.csv.specs.declared.parser.Terminator.TheVariants as term
use Rattle.csv.specs.declared.reader.Reader.{Reader}
use Rattle.csv_rows.specs.Rows.{Fields, IsBetweenRecords, bytes_left, records_after}

-- ---- where a record ends, the machine is between two records

record Stops (r : State × Action) : Type 0 where
  at : is_end r.1 ≡ true → ends_at_end r.0 ≡ false

stops_if : (b : Bool) (x y : State × Action) → Stops x → Stops y → Stops (if b then x else y)
stops_if true x y p q = p
stops_if false x y p q = q

goes_on : (s : State) (a : Action) → is_end a ≡ false → Stops (s, a)
goes_on s a e = record { at = λ h. absurd (false≢true (sym e ∙ h)) }

after_line : (t : Terminator) (c : ℕ) → ends_at_end (after_end t c) ≡ false
after_line (term.Any t) c = refl
after_line term.CRLF c = by (c == carriage_return) where
  by : (b : Bool) → ends_at_end (if b then st.AfterCr else st.StartRecord) ≡ false
  by true = refl
  by false = refl

stops-in_field : (cfg : Config) (c : ℕ) → Stops (in_field cfg c)
stops-in_field cfg c =
    stops_if _ _ _ (goes_on st.StartField act.EndField refl)
    (stops_if _ _ _ (record { at = λ h. after_line cfg.terminator c }) (goes_on st.InField act.Copy refl))

stops-start_field : (cfg : Config) (c : ℕ) → Stops (start_field cfg c)
stops-start_field cfg c = stops_if _ _ _ (goes_on st.InQuoted act.Skip refl) (stops-in_field cfg c)

stops-start_record : (cfg : Config) (c : ℕ) → Stops (start_record cfg c)
stops-start_record cfg c =
    stops_if _ _ _ (goes_on st.StartRecord act.Skip refl)
    (stops_if _ _ _ (goes_on st.InComment act.Skip refl) (stops-start_field cfg c))

stops-step : (cfg : Config) (s : State) (c : ℕ) → Stops (step cfg s c)
stops-step cfg st.StartRecord c = stops-start_record cfg c
stops-step cfg st.StartField c = stops-start_field cfg c
stops-step cfg st.InField c = stops-in_field cfg c
stops-step cfg st.InQuoted c =
    stops_if _ _ _ (goes_on st.AfterQuote act.Skip refl)
    (stops_if _ _ _ (goes_on st.InEscape act.Skip refl) (goes_on st.InQuoted act.Copy refl))
stops-step cfg st.InEscape c = goes_on st.InQuoted act.Copy refl
stops-step cfg st.AfterQuote c = stops_if _ _ _ (goes_on st.InQuoted act.Copy refl) (stops-in_field cfg c)
stops-step cfg st.InComment c = stops_if _ _ _ (goes_on st.StartRecord act.Skip refl) (goes_on st.InComment act.Skip refl)
stops-step cfg st.AfterCr c = stops_if _ _ _ (goes_on st.StartRecord act.Skip refl) (stops-start_record cfg c)

-- ---- a record takes at least one byte

-- after it the machine is between two records, and at most this many bytes are left
abbrev Leaves : ℕ → Option Read → Type 0
Leaves n o = IfSome o (λ p. (ends_at_end p.1 ≡ false) × (length p.2 ≤ n))

leaves_if : (b : Bool) (n : ℕ) (p : Read) (o : Option Read) → (b ≡ true → Leaves n (Some p)) → Leaves n o → Leaves n (if b then Some p else o)
leaves_if true n p o h k = h refl
leaves_if false n p o h k = k

leaves-le : (n m : ℕ) (o : Option Read) → n ≤ m → Leaves n o → Leaves m o
leaves-le n m None h l = tt
leaves-le n m (Some p) h l = (l.0, omega (arith, l.1))

leaves : (cfg : Config) (s : State) (fields : Fields) (field xs : List ℕ) → Leaves (length xs - 1) (next_record cfg s fields field xs)
unfolding next_record
leaves cfg s fields field [] = leaves_if (ends_at_end s) 0 (fields ++ (field ∷ []), st.StartRecord, []) None (λ e. (refl, omega arith)) tt
leaves cfg s fields field (c ∷ rest) =
    leaves_if (is_end (step cfg s c).1) (length (c ∷ rest) - 1) _ _ (λ e. ((stops-step cfg s c).at e, omega arith))
    (leaves-le (length rest - 1) (length (c ∷ rest) - 1) _ (omega arith) (leaves cfg (step cfg s c).0 _ _ rest))

none_left : (cfg : Config) (s : State) → ends_at_end s ≡ false → next_record cfg s [] [] [] ≡ None
unfolding next_record
none_left cfg s e = rw e refl

-- a record after the end of another
pub record Follows (p : Read) (xs : List ℕ) : Type 0 where
  pub between : ends_at_end p.1 ≡ false
  pub shorter : length p.2 < length xs

pub follows : (cfg : Config) (s : State) (xs : List ℕ) (p : Read) → ends_at_end s ≡ false → next_record cfg s [] [] xs ≡ Some p → Follows p xs
follows cfg s [] p e h = absurd (let n = none_left cfg s e in cc)
follows cfg s (c ∷ rest) p e h =
    let l = rw h at (leaves cfg s [] [] (c ∷ rest)) in
    record { between = l.0; shorter = omega (arith, l.1) }

-- ---- the records of a text, in order

enough : (cfg : Config) (n m : ℕ) (s : State) (xs : List ℕ) → ends_at_end s ≡ false → length xs < n → length xs < m →
    records_from cfg n s xs ≡ records_from cfg m s xs
unfolding records_from
enough cfg zero m s xs e l k = absurd (omega arith)
enough cfg (suc n) zero s xs e l k = absurd (omega arith)
enough cfg (suc n) (suc m) s xs e l k = by (next_record cfg s [] [] xs) refl (enough cfg n m) where
  by : (o : Option Read) → next_record cfg s [] [] xs ≡ o
      → ((t : State) (ys : List ℕ) → ends_at_end t ≡ false → length ys < n → length ys < m → records_from cfg n t ys ≡ records_from cfg m t ys)
      → records_next (records_from cfg n) o ≡ records_next (records_from cfg m) o
  by None h ih = refl
  by (Some p) h ih =
      let f = follows cfg s xs p e h in
      ap (λ rows. p.0 ∷ rows) (ih p.1 p.2 f.between (omega (arith, f.shorter)) (omega (arith, f.shorter)))

pub records-some : (cfg : Config) (s : State) (xs : List ℕ) (p : Read) → ends_at_end s ≡ false → next_record cfg s [] [] xs ≡ Some p
    → records_from cfg (length xs + 1) s xs ≡ p.0 ∷ records_from cfg (length p.2 + 1) p.1 p.2
unfolding records_from
records-some cfg s xs p e h =
    let f = follows cfg s xs p e h in
    ap (λ n. records_from cfg n s xs) (Rattle.std.proofs.Common.add-one (length xs)) ∙ ap (records_next (records_from cfg (length xs))) h
    ∙ ap (λ rows. p.0 ∷ rows) (enough cfg (length xs) (length p.2 + 1) p.1 p.2 f.between f.shorter (omega arith))

pub records-none : (cfg : Config) (s : State) (xs : List ℕ) → next_record cfg s [] [] xs ≡ None → records_from cfg (length xs + 1) s xs ≡ []
unfolding records_from
records-none cfg s xs h =
    ap (λ n. records_from cfg n s xs) (Rattle.std.proofs.Common.add-one (length xs)) ∙ ap (records_next (records_from cfg (length xs))) h

-- ---- a read between two records

-- what the read took off, by the bytes before it and after it
pub record TakesOff (state after : State) (bytes rest : Option (List ℕ)) (found : Bool) (fields : Fields) : Type 0 where
  pub records : records_after state bytes ≡ (if found then fields ∷ records_after after rest else [])
  pub between : found ≡ true → ends_at_end after ≡ false
  pub known : found ≡ true → IsSome rest

takes : (s t : State) (xs ys : List ℕ) (found : Bool) (f : Fields) → ends_at_end s ≡ false → NextIs (next_record default_config s [] [] xs) found f t ys
    → TakesOff s t (Some xs) (Some ys) found f
takes s t xs ys found f e h = by (next_record default_config s [] [] xs) refl h where
  by : (o : Option Read) → next_record default_config s [] [] xs ≡ o → NextIs o found f t ys → TakesOff s t (Some xs) (Some ys) found f
  by None n h = record {
    records = rw h (records-none default_config s xs n);
    between = λ g. absurd (false≢true (sym h ∙ g));
    known = λ g. refl;
  }
  by (Some p) n h = rw (h.0, h.1, h.2, h.3) (record {
    records = records-some default_config s xs p e n;
    between = λ g. (follows default_config s xs p e n).between;
    known = λ g. refl;
  })

pub takes_off : (s t : State) (bytes rest : Option (List ℕ)) (found : Bool) (f : Fields) → ends_at_end s ≡ false → IsSome bytes
    → ReadsNext default_config s bytes rest found f t → TakesOff s t bytes rest found f
takes_off s t None rest found f e k h = absurd (false≢true k)
takes_off s t (Some xs) None found f e k h = absurd h
takes_off s t (Some xs) (Some ys) found f e k h = takes s t xs ys found f e h

pub read-takes_off : (a b : Reader (Bor (List ℕ))) (found : Bool) (f : Fields) → IsBetweenRecords a →
    ReadRecord (λ (text : Bor (List ℕ)). Some text.now) a b found f
    → TakesOff a.state b.state (bytes_left a) (bytes_left b) found f
read-takes_off a b found f i r = rw r.1 (takes_off a.state b.state _ _ found f i.between i.known (rw i.config at r.0))

pub read-between : (a b : Reader (Bor (List ℕ))) (f : Fields) → IsBetweenRecords a → ReadRecord (λ (text : Bor (List ℕ)). Some text.now) a b true f
    → took_first b ≡ true → is_flexible b ≡ is_flexible a → IsBetweenRecords b
read-between a b f i r first flexible =
    let t = read-takes_off a b true f i r in
    record {
      config = r.2 ∙ i.config;
      flexible = flexible ∙ i.flexible;
      trim = r.3 ∙ i.trim;
      ready = inl first;
      between = t.between refl;
      known = t.known refl;
    }
