use Rattle.std.proofs.Common.{◌≡◌, ◌∙◌, ◌+◌, ◌++◌, ◌∷◌, [], List, Ok, length, take, sym, ap, take-append-drop, arith}
use Rattle.std.specs.Prelude.{option_copied}
use Rattle.std.proofs.lemmas.Result.{err_from_is_err_and}
use Rattle.csv_rows.specs.Rows.{Fields}
use Rattle.ballots.specs.Grammar.{Contest, asked_for, ballots_after, file_of, then_on}
use Rattle.ballot_reader.proofs.Beginning.{says-ballots, wants-audited}
use Rattle.ballot_reader.proofs.begun.begin.Goals as goal

pub returns-in_err-n-clause-refused : goal.returns-in_err-n-clause-refused
returns-in_err-n-clause-refused c =
    let p = err_from_is_err_and c.from_residual.result c.from_residual.ensures.1 in
    rw (p.1, p.2) (c.in_err-n.ensures.refused (option_copied c.args.asked))

pub returns-clause-begun : goal.returns-clause-begun
returns-clause-begun c =
    let n = c.in_ok-n.n in
    let (first, split, count) = c.in_ok-n.ensures.read in
    let rows = c.first_count.new.records.left in
    let asked = option_copied c.args.asked in
    let contests = c.in_ok-contests.contests.items in
    let listed = c.in_ok-contests.ensures in
    let numbered : c.first_ballot-at.result ≡ 2 + length contests = c.first_ballot-at.ensures ∙ ap (λ (l : List Contest). 2 + length l) c.deref-3.ensures.value in
    let (chosen, there, audited) = rw c.deref.ensures.value at c.in_ok-audited.ensures.audited in (
      first ∷ take n rows,
      split ∙ ap (λ (l : List Fields). first ∷ l) (sym (take-append-drop n rows) ∙ ap (λ (l : List Fields). take n rows ++ l) (sym listed.rest)),
      (
        chosen,
        [],
        record {
          there = there;
          up_to = record {
            is_kept = rw c.deref-2.ensures.value at c.in_ok-kept.ensures;
            sized = wants-audited contests c.in_ok-audited.audited (asked_for contests asked) chosen there audited;
            numbered = omega (arith, numbered);
          };
          says = λ more.
              says-ballots n asked first rows contests chosen count listed.read audited listed.all more
              ∙ ap (λ at. then_on (ballots_after contests [] at more) (λ ballots. Ok (file_of chosen ballots))) (sym numbered);
        },
      ),
    )
