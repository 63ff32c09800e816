-- Lists that are added after others: each begin moves up by the number of elements before them all.
use Rattle.std.proofs.Common.{◌≡◌, ◌<◌, ◌+◌, ◌-◌, ◌∙◌, ◌++◌, ◌∷◌, [], ℕ, zero, suc, List, length, map, take, drop, get_or, refl, sym, ap, ap₂, subst, arith, length-append}
use Rattle.std.proofs.Math.Seq.{drop-append-add}
use Rattle.irv_base.specs.Lists.{AreBegins, ArePlaces, end_before, lists_between}
use Rattle.irv_base.proofs.Between.{end-within, same-part}

-- ---- the begins

end-moved : (begins : List ℕ) (n m : ℕ) → end_before (map (λ b. n + b) begins) (n + m) ≡ n + end_before begins m
end-moved [] n m = refl
end-moved (b ∷ begins) n m = refl

end-joined : (begins later : List ℕ) (n m : ℕ) → end_before later m ≡ 0 →
    end_before (begins ++ map (λ b. n + b) later) (n + m) ≡ end_before begins n
end-joined [] later n m first = omega (arith, end-moved later n m, first)
end-joined (b ∷ begins) later n m first = refl

rise-moved : (begins : List ℕ) (n m : ℕ) → AreBegins begins m → AreBegins (map (λ b. n + b) begins) (n + m)
rise-moved [] n m h = tt
rise-moved (b ∷ begins) n m (low, h) = (omega (arith, low, end-moved begins n m), rise-moved begins n m h)

rise-joined : (begins later : List ℕ) (n m : ℕ) → AreBegins begins n → AreBegins later m → end_before later m ≡ 0 →
    AreBegins (begins ++ map (λ b. n + b) later) (n + m)
rise-joined [] later n m h more first = rise-moved later n m more
rise-joined (b ∷ begins) later n m (low, h) more first =
    (omega (arith, low, end-joined begins later n m first), rise-joined begins later n m h more first)

-- ---- the lists

between-moved : {X : Type 0} (elements : List X) (begins : List ℕ) (more : List X) →
    lists_between (map (λ b. length elements + b) begins) (elements ++ more) ≡ lists_between begins more
between-moved elements [] more = refl
between-moved elements (b ∷ begins) more =
    let moved = map (λ k. length elements + k) begins in
    let end : end_before moved (length (elements ++ more)) ≡ length elements + end_before begins (length more) =
    ap (end_before moved) (length-append elements more) ∙ end-moved begins (length elements) (length more) in
    let size : end_before moved (length (elements ++ more)) - (length elements + b) ≡ end_before begins (length more) - b = omega (arith, end) in
    ap (λ xs. xs ∷ lists_between moved (elements ++ more)) (ap₂ (λ n xs. take n xs) size (drop-append-add elements more b))
    ∙ ap (λ xs. take (end_before begins (length more) - b) (drop b more) ∷ xs) (between-moved elements begins more)

between-joined : {X : Type 0} (begins later : List ℕ) (elements more : List X) → AreBegins begins (length elements) →
    end_before later (length more) ≡ 0 →
    lists_between (begins ++ map (λ b. length elements + b) later) (elements ++ more) ≡ lists_between begins elements ++ lists_between later more
between-joined [] later elements more h first = between-moved elements later more
between-joined (b ∷ begins) later elements more (low, h) first =
    let all = begins ++ map (λ k. length elements + k) later in
    let end = end_before begins (length elements) in
    let same : end_before all (length (elements ++ more)) ≡ end =
    ap (end_before all) (length-append elements more) ∙ end-joined begins later (length elements) (length more) first in
    let one : take (end_before all (length (elements ++ more)) - b) (drop b (elements ++ more)) ≡ take (end - b) (drop b elements) =
    ap (λ e. take (e - b) (drop b (elements ++ more))) same ∙ same-part elements more b end low (end-within begins (length elements) h) in
    ap (λ xs. xs ∷ lists_between all (elements ++ more)) one
    ∙ ap (λ xs. take (end - b) (drop b elements) ∷ xs) (between-joined begins later elements more h first)

-- ---- as the code learns it

pub begins-fit : (begins : List ℕ) (n m most : ℕ) → AreBegins begins m → n + m < most →
    (i d : ℕ) → i < length begins → n + get_or begins i d < most
begins-fit [] n m most h fits i d less = absurd (omega (arith, less))
begins-fit (b ∷ begins) n m most (low, h) fits zero d less = omega (arith, low, end-within begins m h, fits)
begins-fit (b ∷ begins) n m most (low, h) fits (suc i) d less = begins-fit begins n m most h fits i d (omega (arith, less))

pub joined-begins : {X : Type 0} (old begins later : List ℕ) (elements all more : List X) (n : ℕ) → ArePlaces old (length elements) →
    ArePlaces later (length more) → begins ≡ old ++ map (λ b. n + b) later → all ≡ elements ++ more → n ≡ length elements →
    ArePlaces begins (length all)
joined-begins old begins later elements all more n h k e f size =
    let long : length all ≡ n + length more = omega (arith, size, ap length f, length-append elements more) in
    let before = subst (ArePlaces old) (sym size) h in
    subst (λ bs. ArePlaces bs (length all)) (sym e) (subst (ArePlaces (old ++ map (λ b. n + b) later)) (sym long) (record {
      rise = rise-joined old later n (length more) before.rise k.rise k.first;
      first = end-joined old later n (length more) k.first ∙ before.first;
    }))

pub joined-lists : {X : Type 0} (old begins later : List ℕ) (elements all more : List X) (n : ℕ) → ArePlaces old (length elements) →
    ArePlaces later (length more) → begins ≡ old ++ map (λ b. n + b) later → all ≡ elements ++ more → n ≡ length elements →
    lists_between begins all ≡ lists_between old elements ++ lists_between later more
joined-lists old begins later elements all more n h k e f size =
    ap (λ bs. lists_between bs all) (e ∙ ap (λ i. old ++ map (λ b. i + b) later) size)
    ∙ ap (lists_between (old ++ map (λ b. length elements + b) later)) f ∙ between-joined old later elements more h.rise k.first
