use Rattle.std.proofs.Common.{◌≡◌, ◌∙◌, ◌-◌, ◌<◌, ◌≤◌, ◌&&◌, ◌==◌, ℕ, zero, suc, ◌+◌, Bool, true, false, length, nat_le, refl, sym, ap, ap₂, arith, eqb-true}
use Rattle.std.specs.List.{list_all, list_any, range_with_len}
use Rattle.std.proofs.lemmas.Bool.{le-leb, true≢false}
use Rattle.std.proofs.lemmas.List.{take_all}
use Rattle.session_state.specs.Sessions.{Session, is_confirmed_at, is_signed_off, meets}
use Rattle.session_state.proofs.sign_off.signed_off.Goals as goal

some-number : (n : ℕ) → (n == 0) ≡ false → 1 ≤ n
some-number zero h = absurd (true≢false h)
some-number (suc n) h = omega arith

no-number : (n : ℕ) → (n == 0) ≡ true → nat_le 1 n ≡ false
no-number zero h = refl
no-number (suc n) h = let zero-is = eqb-true (suc n) 0 h in absurd (omega arith)

-- if there is a round, the session is signed off if each claim is within the limit at the end of some round
signed-form : (session : Session) → 1 ≤ length session.rounds →
    is_signed_off session ≡ list_all (λ claim. list_any (meets session.limit claim) session.rounds) (range_with_len 0 (length session.margins))
signed-form session some =
    ap (λ b. b && list_all (is_confirmed_at session (length session.rounds)) (range_with_len 0 (length session.margins)))
    (le-leb 1 (length session.rounds) some)
    ∙ ap (λ rounds. list_all (λ claim. list_any (meets session.limit claim) rounds) (range_with_len 0 (length session.margins)))
    (take_all (length session.rounds) session.rounds (omega arith))

-- the claims that are left begin with this one
first_left : (test : ℕ → Bool) (i n : ℕ) → i < n → list_all test (range_with_len i (n - i)) ≡ (test i && list_all test (range_with_len (i + 1) (n - (i + 1))))
first_left test i n below =
    let more : n - i ≡ suc (n - (i + 1)) = omega arith in
    rw more refl

none_left : (test : ℕ → Bool) (i n : ℕ) → n ≤ i → list_all test (range_with_len i (n - i)) ≡ true
none_left test i n past =
    let none : n - i ≡ 0 = omega arith in
    rw none refl

pub loop-claim-init : goal.loop-claim-init
loop-claim-init c =
    let session = c.args.s.now.session in
    let some = some-number (length c.rounds-rounds.result.now) (sym c.is_empty.ensures ∙ c.if-is_empty.false) in
    let same = ap length c.rounds-rounds.ensures in
    signed-form session (omega (arith, some, same))
    ∙ ap (λ n. list_all (λ claim. list_any (meets session.limit claim) session.rounds) (range_with_len 0 n)) (omega arith)

pub loop-claim-preserved : goal.loop-claim-preserved
loop-claim-preserved c =
    let session = c.args.s.now.session in
    let claim = c.loop-claim.claim in
    let test : ℕ → Bool = λ j. list_any (meets session.limit j) session.rounds in
    let confirmed : test claim ≡ true =
    ap₂ (λ limit rounds. list_any (meets limit claim) rounds) (sym c.limit-limit.ensures.same) (sym c.rounds-rounds.ensures)
    ∙ sym c.is_confirmed.ensures ∙ c.if-not-is_confirmed.false in
    let end = ap length c.margins-claim-end.ensures in
    c.loop-claim.invariant ∙ first_left test claim (length session.margins) (omega (arith, end))
    ∙ ap (λ b. b && list_all test (range_with_len (claim + 1) (length session.margins - (claim + 1)))) confirmed

pub returns-then-is_empty : goal.returns-then-is_empty
returns-then-is_empty c =
    let session = c.args.s.now.session in
    let none = no-number (length session.rounds) (ap (λ rounds. length rounds == 0) (sym c.rounds-rounds.ensures) ∙ sym c.is_empty.ensures
    ∙ c.if-is_empty.true) in
    sym (ap (λ b. b && list_all (is_confirmed_at session (length session.rounds)) (range_with_len 0 (length session.margins))) none)

pub returns-then-not-is_confirmed : goal.returns-then-not-is_confirmed
returns-then-not-is_confirmed c =
    let session = c.args.s.now.session in
    let claim = c.loop-claim.claim in
    let test : ℕ → Bool = λ j. list_any (meets session.limit j) session.rounds in
    let not-confirmed : test claim ≡ false =
    ap₂ (λ limit rounds. list_any (meets limit claim) rounds) (sym c.limit-limit.ensures.same) (sym c.rounds-rounds.ensures)
    ∙ sym c.is_confirmed.ensures ∙ c.if-not-is_confirmed.true in
    let end = ap length c.margins-claim-end.ensures in
    sym (c.loop-claim.invariant ∙ first_left test claim (length session.margins) (omega (arith, end))
    ∙ ap (λ b. b && list_all test (range_with_len (claim + 1) (length session.margins - (claim + 1)))) not-confirmed)

pub returns : goal.returns
returns c =
    let session = c.args.s.now.session in
    let test : ℕ → Bool = λ j. list_any (meets session.limit j) session.rounds in
    let end = ap length c.margins-claim-end.ensures in
    sym (c.loop-claim.invariant ∙ none_left test c.loop-claim.claim (length session.margins) (omega (arith, end)))
