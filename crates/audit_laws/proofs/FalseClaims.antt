-- In a wrong election some claim isn't true of the actual rankings, and the audit confirms that claim on few sequences.
use Rattle.std.proofs.Common.{◌≡◌, ℕ, ◌≤◌, Bool, true, false, ◌&&◌, inl, inr, List, [], ◌∷◌, length, sum_by, Contains, refl, sym, subst, ◌∙◌, arith}
use Rattle.std.specs.List.{list_all}
use Rattle.std.proofs.lemmas.Bool.{cases_Bool, ltb-false, true≢false}
use Rattle.std.proofs.lemmas.List.{same_from_push}
use Rattle.irv_base.proofs.Members.{Member, here, there, member-map, from_map, from_list_all, contains-from_member}
use Rattle.assertions.specs.declared.assertion.Assertion.{Assertion}
use Rattle.assertions.specs.Assertions.{is_proper, is_true, votes_for, votes_against}
use Rattle.assertions.specs.Assorter.{assorter_value}
use Rattle.assertions.proofs.Elections.{cover_is_sound}
use Rattle.assertions.proofs.Sums.{assorter-sum}
use Rattle.assertion_file.specs.Content.{Content, candidate_count}
use Rattle.manifest.specs.declared.recorded.Recorded.{Recorded}
use Rattle.session_state.specs.Claims.{audited, audited_claim}
use Rattle.session_state.specs.Draws.{Audited}
use Rattle.session_state.specs.RiskOfValues.{IsUntrue}
use Rattle.session_state.proofs.RiskOfValues.{values_risk_limit, counted_values_risk_limit}
use Rattle.audit_laws.specs.Claims.{claimed, AreAuditable, Cover}
use Rattle.audit_laws.specs.RiskLimit.{MayElectAnother}
use Rattle.audit_laws.specs.Laws.{ClaimsRiskLimit, CountedRiskLimit, SomeIsUntrue}

-- ---- the claim that isn't true
or_later : {X : Type 0} (p : X → Bool) (x : X) (xs : List X) → (list_all p xs ≡ false → (y : X) × Member y xs × (p y ≡ false)) →
    (b : Bool) → p x ≡ b → (b && list_all p xs) ≡ false → (y : X) × Member y (x ∷ xs) × (p y ≡ false)
or_later p x xs later true passes h = let (y, m, fails) = later h in (y, there m, fails)
or_later p x xs later false fails h = (x, here, fails)

some_fails : {X : Type 0} (p : X → Bool) (xs : List X) → list_all p xs ≡ false → (x : X) × Member x xs × (p x ≡ false)
some_fails p [] h = absurd (true≢false h)
some_fails p (x ∷ xs) h = or_later p x xs (λ rest. some_fails p xs rest) (p x) refl h

module _ (n winner cards : ℕ) (assertions : List Assertion) (actual : List (List ℕ))
    (cover : Cover n winner assertions) (wrong : MayElectAnother n winner cards actual) where
  not_all : list_all (is_true actual) assertions ≡ false
  not_all = elim (cases_Bool (list_all (is_true actual) assertions)) [
    | inr fails ↦ fails
    | inl all ↦
        let (before, ends) = cover_is_sound n winner assertions cover.winner_below cover.proper cover.covering actual all wrong.order wrong.permutation
        wrong.possible in
        let (before', ends') = wrong.elects in
        absurd (wrong.differs ((same_from_push before' before wrong.other winner (sym ends' ∙ ends)).1))
  ]

  -- the mean of its values is at most one
  pub some-untrue : (a : Assertion) × Member a assertions × (sum_by (assorter_value a) actual ≤ length actual)
  some-untrue =
      let (a, among, fails) = some_fails (is_true actual) assertions not_all in
      let proper : is_proper n a ≡ true = from_list_all (is_proper n) among cover.proper in
      let less = ltb-false (votes_against actual a) (votes_for actual a) fails in
      (a, among, omega (arith, less, assorter-sum n actual a proper))

pub some_is_untrue : SomeIsUntrue
some_is_untrue n winner cards assertions actual cover wrong =
    let (a, among, fails) = some-untrue n winner cards assertions actual cover wrong in
    (a, contains-from_member among, fails)

-- ---- what is counted

-- in a wrong election a claim of the file isn't true
untrue_claim : (file : Content) (recorded : List Recorded) (actual : List (List ℕ)) → AreAuditable file recorded →
    MayElectAnother (candidate_count file) file.winner (length recorded) actual → (claim : Audited) × Contains (audited file) claim × IsUntrue claim actual
untrue_claim file recorded actual audit wrong =
    let (a, among, fails) = some-untrue (candidate_count file) file.winner (length recorded) (claimed file) actual audit.cover wrong in
    let (claim, at, same) = from_map (λ claim. claim.assertion) a file.claims among in (
      audited_claim claim,
      contains-from_member (member-map audited_claim at),
      subst (λ b. sum_by (assorter_value b) actual ≤ length actual) (sym same) fails,
    )

pub claims_risk_limit : ClaimsRiskLimit
claims_risk_limit limit gamma k file recorded actual signed audit terms wrong off =
    let (claim, among, fails) = untrue_claim file recorded actual audit wrong in
    values_risk_limit limit gamma k (audited file) recorded actual signed claim terms audit.claims wrong.one_each among fails off

pub counted_risk_limit : CountedRiskLimit
counted_risk_limit limit gamma k file recorded actual seen audit terms wrong readings =
    let (claim, among, fails) = untrue_claim file recorded actual audit wrong in
    counted_values_risk_limit limit gamma k (audited file) recorded actual seen claim terms audit.claims wrong.one_each among fails readings
