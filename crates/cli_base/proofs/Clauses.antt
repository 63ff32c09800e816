-- What follows from how a call went: which outcome was due, and what the sinks took of it.
use Rattle.std.proofs.Common.{◌≡◌, ◌⊎◌, inl, inr, ⊎_elim, ℕ, List, Option, [], length, None, Some, IfSome, nat_le, if◌then◌else◌, refl, sym, ◌∙◌, ap, subst, arith, append-nil, Bool, true, false}
use Rattle.std.specs.Io.KnownBytes.{Appends, Keeps}
use Rattle.desk.specs.Desk.{File, held_bytes}
use Rattle.desk.specs.declared.served.Served.{Served}
use Rattle.cli_base.specs.Begun.{HasBegun, IsDueAfter}
use Rattle.cli_base.specs.Outcome.{Outcome, Verdict, Answered, Refused, outcome, status_of, out_of_memory, too_long, no_such_file}
use Rattle.cli_base.specs.Script.{Asked, Nothing, Runs, Reading, Bytes, Missing, TooLong, Fault, Readings, AsHeld, AsTold, ByDesk, MayCome, IsDue, MayComeAfter, ComesToRead, ComesToReadAs, ComesTo, AgreeOn, SameStatus, SameStatusButBudget, reading_of, stop_of, IsBudgeted, OneIsSpent, IsOfContests, SameButContests, limit}
use Rattle.cli_base.specs.Ends.{Writing, Took, HasNewFaults, IsWhole, IsWritten}
use Rattle.cli_base.specs.Statuses.{IsUndone, IsQuiet, Exactly, ExactlyInBudget, TookTexts, IsDefined, IsAnswered, IsNothing, HasFile, IsRefused, HasAnswer, IsReadFault, IsWriteFault, IsForErr, IsStatus, IsExact, Statuses, ExactlyInContests, ContestsStatuses}
use Rattle.cli_base.specs.Story.{Story}
use Rattle.cli_base.specs.declared.outcome.AnswerKind.{AnswerKind}
use Rattle.cli_base.specs.declared.outcome.AnswerKind.TheVariants.{Done, Tie, Spent, FullCount, Differs, Unconfirmed}
use Rattle.cli_base.proofs.Begun.{due_of, ended_after, told_reaches_as}
use Rattle.cli_base.proofs.Scripts.{ended, concludes_may, stops_may, told_or_fault, determined}
use Rattle.cli_base.proofs.Statuses.{status_in, differ, free, unbudgeted, of_no_kind, kind_free, refused_verdict, answer_verdict, verdict_free, verdict_out, Stop, missing, too_long_file, fault, stop, stop_status, stop_out, no_answer}

-- ---- how it came

-- the words weren't a line, a command read all its files, or a file stopped the command
data Came (readings : Readings) (asked : Asked) (due : Outcome) : Type 0 where
  no_line : IsNothing asked → due.status ≡ 1 → due.out ≡ [] → Came readings asked due
  concluded : (v : Verdict) → ComesTo readings asked v → due ≡ outcome v → Came readings asked due
  stopped : (name : List ℕ) (reading : Reading) → ComesToRead readings asked name → readings name reading → Stop name reading due → Came readings asked due

came : (readings : Readings) (asked : Asked) (due : Outcome) → MayCome readings asked due → Came readings asked due
came readings Nothing due bad = no_line tt (ap status_in bad) (ap (λ (o : Outcome). o.out) bad)
came readings (Runs script) due may = elim (ended readings script due may) [
  | inl (v, concludes, is) ↦ concluded v concludes is
  | inr (name, reading, reaches, there, stops) ↦ stopped name reading reaches there (stop name reading due stops)
]

-- the same, once this many files were begun
data CameAfter (readings : Readings) (asked : Asked) (files : ℕ) (due : Outcome) : Type 0 where
  no_line_after : IsNothing asked → due.status ≡ 1 → due.out ≡ [] → CameAfter readings asked files due
  concluded_after : (v : Verdict) → ComesTo readings asked v → due ≡ outcome v → CameAfter readings asked files due
  stopped_after : (name : List ℕ) (reading : Reading) → ComesToReadAs readings asked files name → readings name reading → Stop name reading due →
      CameAfter readings asked files due

came_after : (readings : Readings) (asked : Asked) (files : ℕ) (due : Outcome) → MayComeAfter readings asked files due → CameAfter readings asked files due
came_after readings Nothing files due (none, bad) = no_line_after tt (ap status_in bad) (ap (λ (o : Outcome). o.out) bad)
came_after readings (Runs script) files due may = elim (ended_after readings script files due may) [
  | inl (v, concludes, is) ↦ concluded_after v concludes is
  | inr (name, reading, reaches, there, stops) ↦ stopped_after name reading reaches there (stop name reading due stops)
]

abbrev out_in : Outcome → List ℕ
out_in due = due.out

-- and what comes so may come

verdict_to : (readings : Readings) (asked : Asked) (v : Verdict) → ComesTo readings asked v → (d : Outcome) × MayCome readings asked d
    × (d.status ≡ status_in (outcome v))
verdict_to readings Nothing v comes = absurd comes
verdict_to readings (Runs script) v concludes = (outcome v, concludes_may readings script v concludes, refl)

stop_to : (readings : Readings) (asked : Asked) (name : List ℕ) (reading : Reading) (due : Outcome) → ComesToRead readings asked name → readings name reading
    → stop_of name reading ≡ Some due → (d : Outcome) × MayCome readings asked d × (d.status ≡ due.status)
stop_to readings Nothing name reading due reaches there stops = absurd reaches
stop_to readings (Runs script) name reading due reaches there stops = (due, stops_may readings script name reading due reaches there stops, refl)

-- ---- one end

asked_determined : (R : Outcome → Outcome → Type 0) → ((d : Outcome) → R d d) → (files : List File) (asked : Asked) → AgreeOn R asked → (d e : Outcome) →
    MayCome (AsHeld files) asked d → MayCome (AsHeld files) asked e → R d e
asked_determined R itself files Nothing agree d e p q = subst (R d) (p ∙ sym q) (itself d)
asked_determined R itself files (Runs script) agree d e p q = determined R itself files script d e agree p q

other_budgeted : (n : ℕ) (d e : Outcome) → e.status ≡ n → OneIsSpent d e → IsBudgeted n
other_budgeted n d e is (first, other, spent) = subst IsBudgeted is other

first_spent : (n : ℕ) (d e : Outcome) → e.status ≡ n → (n ≡ 4 → ⊥) → OneIsSpent d e → d.status ≡ 4
first_spent n d e is not_four (first, other, inl four) = four
first_spent n d e is not_four (first, other, inr four) = absurd (not_four (sym is ∙ four))

-- ---- causes of a status

refused_from : (readings : Readings) (asked : Asked) (d : Outcome) → MayCome readings asked d → d.status ≡ 2 →
    (name text : List ℕ) × ComesTo readings asked (Refused name text)
refused_from readings asked d may two = elim (came readings asked d may) [
  | no_line none one out ↦ absurd (differ 1 2 (sym one ∙ two) refl)
  | concluded v comes is ↦ let (name, text, is_v) = refused_verdict v d is two in (name, text, subst (ComesTo readings asked) is_v comes)
  | stopped name reading reaches there stops ↦ absurd (omega (arith, two, stop_status name reading d stops))
]

answer_told : (readings : Readings) (asked : Asked) (kind : AnswerKind) (d : Outcome) → MayCome readings asked d → d.status ≡ status_of kind →
    (text : List ℕ) × ComesTo readings asked (Answered kind text) × (d.out ≡ text)
answer_told readings asked kind d may n = elim (came readings asked d may) [
  | no_line none one out ↦ absurd (of_no_kind 1 refl kind (sym n ∙ one))
  | concluded v comes is ↦
      let (text, is_v) = answer_verdict kind v d is n in (text, subst (ComesTo readings asked) is_v comes, ap out_in is ∙ ap (λ v. out_in (outcome v)) is_v)
  | stopped name reading reaches there stops ↦ absurd (no_answer kind d n (stop_status name reading d stops))
]

answer_from : (readings : Readings) (asked : Asked) (kind : AnswerKind) (d : Outcome) → MayCome readings asked d → d.status ≡ status_of kind →
    (text : List ℕ) × ComesTo readings asked (Answered kind text)
answer_from readings asked kind d may n = let (text, comes, shown) = answer_told readings asked kind d may n in (text, comes)

missing_from : (files : List File) (asked : Asked) (d : Outcome) → MayCome (AsHeld files) asked d → d.status ≡ 12 → HasFile asked files Missing
missing_from files asked d may n = elim (came (AsHeld files) asked d may) [
  | no_line none one out ↦ absurd (differ 1 12 (sym one ∙ n) refl)
  | concluded v comes is ↦ absurd (verdict_free 12 refl refl v d is n)
  | stopped name reading reaches there stops ↦ elim stops [
    | missing r is ↦ (name, reaches, subst (AsHeld files name) r there)
    | too_long_file r is ↦ absurd (differ 11 12 (ap status_in is ∙ n) refl)
    | fault r is ↦ absurd (differ 7 12 (ap status_in is ∙ n) refl)
  ]
]

too_long_from : (files : List File) (asked : Asked) (d : Outcome) → MayCome (AsHeld files) asked d → d.status ≡ 11 → HasFile asked files TooLong
too_long_from files asked d may n = elim (came (AsHeld files) asked d may) [
  | no_line none one out ↦ absurd (differ 1 11 (sym one ∙ n) refl)
  | concluded v comes is ↦ absurd (verdict_free 11 refl refl v d is n)
  | stopped name reading reaches there stops ↦ elim stops [
    | missing r is ↦ absurd (differ 12 11 (ap status_in is ∙ n) refl)
    | too_long_file r is ↦ (name, reaches, subst (AsHeld files name) r there)
    | fault r is ↦ absurd (differ 7 11 (ap status_in is ∙ n) refl)
  ]
]

no_fault_held : (file : Option (List ℕ)) → Fault ≡ reading_of file → ⊥
no_fault_held None is = cc is
no_fault_held (Some bytes) is = by_length (nat_le (length bytes) limit) is
  where
    by_length : (b : Bool) → Fault ≡ (if b then Bytes bytes else TooLong) → ⊥
    by_length true e = cc e
    by_length false e = cc e

fault_told : (held : Option (List File)) (failed : Type 0) (name : List ℕ) (reading : Reading) → reading ≡ Fault → ByDesk held failed name reading → failed
fault_told held failed name reading is (inr (failing, f)) = f
fault_told None failed name reading is (inl told) = absurd (told is)
fault_told (Some files) failed name reading is (inl told) = absurd (no_fault_held (held_bytes name files) (sym is ∙ told))

asked_reaches_as : (held : Option (List File)) (failed : Type 0) (asked : Asked) (n : ℕ) (name : List ℕ) → ComesToReadAs (ByDesk held failed) asked n name →
    ComesToReadAs (AsTold held) asked n name
asked_reaches_as held failed Nothing n name reaches = reaches
asked_reaches_as held failed (Runs script) n name reaches = told_reaches_as held failed script n name reaches

asked_or_fault : (held : Option (List File)) (failed : Type 0) (asked : Asked) (due : Outcome) → MayCome (ByDesk held failed) asked due →
    MayCome (AsTold held) asked due ⊎ (due.status ≡ 7)
asked_or_fault held failed Nothing due bad = inl bad
asked_or_fault held failed (Runs script) due may = told_or_fault held failed script due may

keeps : (before after : Option (List ℕ)) → Appends before after [] → Keeps before after
keeps None after took = tt
keeps (Some xs) None took = absurd took
keeps (Some xs) (Some ys) took = took ∙ append-nil xs

-- ---- the possible statuses

stop_known : (status : ℕ) → (status ≡ 7) ⊎ (status ≡ 11) ⊎ (status ≡ 12) → IsStatus status
stop_known status (inl seven) = inl (inr (inr (inl seven)))
stop_known status (inr (inl eleven)) = inl (inr (inr (inr (inr (inl eleven)))))
stop_known status (inr (inr twelve)) = inl (inr (inr (inr (inr (inr twelve)))))

verdict_known : (v : Verdict) → IsStatus (status_in (outcome v))
verdict_known (Answered kind text) = inr (inr (kind, refl))
verdict_known (Refused name text) = inl (inr (inl refl))

due_known : (readings : Readings) (asked : Asked) (due : Outcome) → IsDue readings asked due → IsStatus due.status
due_known readings asked due (inr memory) = inl (inr (inr (inr (inl (ap status_in memory)))))
due_known readings asked due (inl may) = elim (came readings asked due may) [
  | no_line none one out ↦ inl (inl one)
  | concluded v comes is ↦ subst IsStatus (sym (ap status_in is)) (verdict_known v)
  | stopped name reading reaches there stops ↦ stop_known due.status (stop_status name reading due stops)
]

due_out : (readings : Readings) (asked : Asked) (due : Outcome) → IsDue readings asked due → IsForErr due.status → due.out ≡ []
due_out readings asked due (inr memory) for_err = ap out_in memory
due_out readings asked due (inl may) for_err = elim (came readings asked due may) [
  | no_line none one out ↦ out
  | concluded v comes is ↦ ap out_in is ∙ verdict_out v (subst IsForErr (ap status_in is) for_err)
  | stopped name reading reaches there stops ↦ stop_out name reading due stops
]

not_eight : (readings : Readings) (asked : Asked) (due : Outcome) → IsDue readings asked due → due.status ≡ 8 → ⊥
not_eight readings asked due (inr memory) n = differ 9 8 (sym (ap status_in memory) ∙ n) refl
not_eight readings asked due (inl may) n = elim (came readings asked due may) [
  | no_line none one out ↦ differ 1 8 (sym one ∙ n) refl
  | concluded v comes is ↦ verdict_free 8 refl refl v due is n
  | stopped name reading reaches there stops ↦ omega (arith, n, stop_status name reading due stops)
]

nine : (readings : Readings) (asked : Asked) (due : Outcome) → IsDue readings asked due → due.status ≡ 9 → due ≡ out_of_memory
nine readings asked due (inr memory) n = memory
nine readings asked due (inl may) n = elim (came readings asked due may) [
  | no_line none one out ↦ absurd (differ 1 9 (sym one ∙ n) refl)
  | concluded v comes is ↦ absurd (verdict_free 9 refl refl v due is n)
  | stopped name reading reaches there stops ↦ absurd (omega (arith, n, stop_status name reading due stops))
]

no_line_from : (readings : Readings) (asked : Asked) (due : Outcome) → IsDue readings asked due → due.status ≡ 1 → IsNothing asked
no_line_from readings asked due (inr memory) n = absurd (differ 9 1 (sym (ap status_in memory) ∙ n) refl)
no_line_from readings asked due (inl may) n = elim (came readings asked due may) [
  | no_line none one out ↦ none
  | concluded v comes is ↦ absurd (verdict_free 1 refl refl v due is n)
  | stopped name reading reaches there stops ↦ absurd (omega (arith, n, stop_status name reading due stops))
]

no_line_to : (readings : Readings) (asked : Asked) (due : Outcome) → IsNothing asked → IsDue readings asked due → (due.status ≡ 1) ⊎ (due.status ≡ 9)
no_line_to readings Nothing due none (inl bad) = inl (ap status_in bad)
no_line_to readings Nothing due none (inr memory) = inr (ap status_in memory)
no_line_to readings (Runs script) due none is_due = absurd none

if_some : {A : Type 0} (o : Option A) (P Q : A → Type 0) → ((x : A) → P x → Q x) → IfSome o P → IfSome o Q
if_some None P Q f p = tt
if_some (Some x) P Q f p = f x p

-- ---- each from the story of a call

module _ (asked : Asked) (failed : Type 0) (status : ℕ) (out err : Writing) where
  -- undone, or what the files make it, which are the reported files or some that the desk may have given
  told : (held : Option (List File)) (due : Outcome) → IsDue (ByDesk held failed) asked due → IsWritten due status out err
      → IsUndone status ⊎ (MayCome (AsTold held) asked due × IsWhole due status out err)
  told held due is_due (inr cut) = inl (inr (inl cut.ends))
  told held due (inr memory) (inl whole) = inl (inr (inr (whole.ends ∙ ap status_in memory)))
  told held due (inl may) (inl whole) =
      ⊎_elim (λ may. inr (may, whole)) (λ seven. inl (inl (whole.ends ∙ seven))) (asked_or_fault held failed asked due may)

  defined : (held : Option (List File)) (due : Outcome) → IsDue (ByDesk held failed) asked due → IsWritten due status out err
      → IsUndone status ⊎ IsDefined asked held status out err
  defined held due is_due written = elim (told held due is_due written) [
    | inl undone ↦ inl undone
    | inr (may, whole) ↦
        let is : due ≡ record { status = status; out = due.out; err = due.err } = λ i. record { status = sym whole.ends i; out = due.out; err = due.err } in
        inr (due.out, due.err, subst (MayCome (AsTold held) asked) is may, whole.to_out, whole.to_err)
  ]

  module _ (files : List File) (due : Outcome) (is_due : IsDue (ByDesk (Some files) failed) asked due) (written : IsWritten due status out err) where
    -- a status that occurs only if something is so
    only : (n : ℕ) (cause : Type 0) → (IsUndone n → ⊥) → ((d : Outcome) → MayCome (AsHeld files) asked d → d.status ≡ n → cause) → status ≡ n → cause
    only n cause free from e = elim (told (Some files) due is_due written) [
      | inl undone ↦ absurd (free (subst IsUndone e undone))
      | inr (may, whole) ↦ from due may (sym whole.ends ∙ e)
    ]

    -- and if it is so, what else may occur, as far as the ends of the command agree
    wherever : (R : Outcome → Outcome → Type 0) → ((d : Outcome) → R d d) → AgreeOn R asked → (n : ℕ) → (d : Outcome) → MayCome (AsHeld files) asked d →
        d.status ≡ n
        → IsUndone status ⊎ (R due d × (status ≡ due.status))
    wherever R itself agree n d may_d is_d = elim (told (Some files) due is_due written) [
      | inl undone ↦ inl undone
      | inr (may, whole) ↦ inr (asked_determined R itself files asked agree due d may may_d, whole.ends)
    ]

module _ {asked : Asked} {held : Option (List File)} {failed : Type 0} {before after : Served} {status : ℕ} {out err : Writing}
    (story : Story asked held failed before after status out err) where
  pub bad_words_clause : Exactly 1 status (IsNothing asked)
  bad_words_clause = (
    λ e. elim story.written [
      | inl whole ↦ no_line_from (ByDesk held failed) asked story.due (due_of story.come) (sym whole.ends ∙ e)
      | inr cut ↦ absurd (differ 8 1 (sym cut.ends ∙ e) refl)
    ],
    λ none. elim story.written [
      | inl whole ↦
          ⊎_elim (λ one. inl (whole.ends ∙ one)) (λ nine. inr (inr (inr (whole.ends ∙ nine))))
          (no_line_to (ByDesk held failed) asked story.due none (due_of story.come))
      | inr cut ↦ inr (inr (inl cut.ends))
    ],
  )

  fault_from : (due : Outcome) (files : ℕ) → HasBegun files before after → IsDueAfter (ByDesk held failed) asked files due → IsWhole due status out err →
      due.status ≡ 7 → IsReadFault asked held failed before after out err
  fault_from due files begun (inr (memory, some)) whole n = absurd (differ 9 7 (sym (ap status_in memory) ∙ n) refl)
  fault_from due files begun (inl may) whole n = elim (came_after (ByDesk held failed) asked files due may) [
    | no_line_after none one empty ↦ absurd (differ 1 7 (sym one ∙ n) refl)
    | concluded_after v comes is ↦ absurd (verdict_free 7 refl refl v due is n)
    | stopped_after name reading reaches there stops ↦ elim stops [
      | missing r is ↦ absurd (differ 12 7 (ap status_in is ∙ n) refl)
      | too_long_file r is ↦ absurd (differ 11 7 (ap status_in is ∙ n) refl)
      | fault r is ↦ record {
        cause = fault_told held failed name reading r there;
        files = files;
        begun = begun;
        name = name;
        reached = asked_reaches_as held failed asked files name reaches;
        texts = subst (λ d. TookTexts d out err) (sym is) (whole.to_out, whole.to_err);
      }
    ]
  ]

  read_fault_clause : status ≡ 7 → IsReadFault asked held failed before after out err
  read_fault_clause e = elim story.written [
    | inl whole ↦ fault_from story.due story.come.files story.come.begun story.come.is_due whole (sym whole.ends ∙ e)
    | inr cut ↦ absurd (differ 8 7 (sym cut.ends ∙ e) refl)
  ]

  write_fault_clause : status ≡ 8 → IsWriteFault (ByDesk held failed) before after asked out err
  write_fault_clause e = elim story.written [
    | inl whole ↦ absurd (not_eight (ByDesk held failed) asked story.due (due_of story.come) (sym whole.ends ∙ e))
    | inr cut ↦ record { cause = cut.cause; due = story.due; come = story.come; to_out = cut.to_out; to_err = cut.to_err }
  ]

  write_told_clause : HasNewFaults out ⊎ HasNewFaults err → status ≡ 8
  write_told_clause faults = elim story.written [
    | inl whole ↦ elim faults [
      | inl to_out ↦ absurd (omega (arith, to_out, whole.unfailed_out))
      | inr to_err ↦ absurd (omega (arith, to_err, whole.unfailed_err))
    ]
    | inr cut ↦ cut.ends
  ]

  memory_clause : status ≡ 9 → TookTexts out_of_memory out err
  memory_clause e = elim story.written [
    | inl whole ↦ subst (λ d. TookTexts d out err) (nine (ByDesk held failed) asked story.due (due_of story.come) (sym whole.ends ∙ e)) (whole.to_out, whole.to_err)
    | inr cut ↦ absurd (differ 8 9 (sym cut.ends ∙ e) refl)
  ]

  known_clause : IsStatus status
  known_clause = elim story.written [
    | inl whole ↦ subst IsStatus (sym whole.ends) (due_known (ByDesk held failed) asked story.due (due_of story.come))
    | inr cut ↦ inr (inl cut.ends)
  ]

  -- the statuses for `err` leave `out` unchanged
  pub kept_clause : IsForErr status → Keeps out.before out.after
  kept_clause for_err = elim story.written [
    | inl whole ↦
        keeps out.before out.after (subst (Took out) (due_out (ByDesk held failed) asked story.due (due_of story.come) (subst IsForErr whole.ends for_err))
        whole.to_out)
    | inr cut ↦ absurd (omega (arith, for_err, cut.ends))
  ]

  -- ---- nothing else is left if no count rose

  not_seven : IsQuiet failed out err → status ≡ 7 → ⊥
  not_seven quiet seven = quiet.desk (read_fault_clause seven).cause

  quiet_not_eight : IsQuiet failed out err → status ≡ 8 → ⊥
  quiet_not_eight quiet eight = ⊎_elim quiet.sink_out quiet.sink_err (write_fault_clause eight).cause

  pub undone_is_nine : IsQuiet failed out err → IsUndone status → status ≡ 9
  undone_is_nine quiet (inl seven) = absurd (not_seven quiet seven)
  undone_is_nine quiet (inr (inl eight)) = absurd (quiet_not_eight quiet eight)
  undone_is_nine quiet (inr (inr nine)) = nine

  pub answered_clause : IsAnswered asked held failed status out err
  answered_clause = let answer = defined asked failed status out err held story.due (due_of story.come) story.written in record {
    quiet = λ quiet not_nine. ⊎_elim (λ undone. absurd (not_nine (undone_is_nine quiet undone))) (λ is. is) answer;
    otherwise = answer;
  }

  -- ---- if the desk reports its files

  -- what holds for the files holds if they are reported
  where_told : (P : List File → Type 0) → ((files : List File) → IsDue (ByDesk (Some files) failed) asked story.due → P files) → IfSome held P
  where_told P each = by held (due_of story.come) where
    by : (h : Option (List File)) → IsDue (ByDesk h failed) asked story.due → IfSome h P
    by None is_due = tt
    by (Some files) is_due = each files is_due

  module _ (files : List File) (is_due : IsDue (ByDesk (Some files) failed) asked story.due) where
    only_there : (n : ℕ) (cause : Type 0) → (IsUndone n → ⊥) → ((d : Outcome) → MayCome (AsHeld files) asked d → d.status ≡ n → cause) → status ≡ n → cause
    only_there = only asked failed status out err files story.due is_due story.written

    module _ (n : ℕ) (d : Outcome) (may : MayCome (AsHeld files) asked d) (is : d.status ≡ n) where
      same_there : AgreeOn SameStatus asked → (status ≡ n) ⊎ IsUndone status
      same_there agree = elim (wherever asked failed status out err files story.due is_due story.written SameStatus (λ d. refl) agree n d may is) [
        | inl undone ↦ inr undone
        | inr (same, ends) ↦ inl (ends ∙ same ∙ is)
      ]

      budget_there : (n ≡ 4 → ⊥) → AgreeOn SameStatusButBudget asked → (status ≡ n) ⊎ (status ≡ 4) ⊎ IsUndone status
      budget_there not_four agree =
          elim (wherever asked failed status out err files story.due is_due story.written SameStatusButBudget (λ d. inl refl) agree n d may is) [
            | inl undone ↦ inr (inr undone)
            | inr (inl same, ends) ↦ inl (ends ∙ same ∙ is)
            | inr (inr one, ends) ↦ inr (inl (ends ∙ first_spent n story.due d is not_four one))
          ]

      exactly_there : (IsBudgeted n → ⊥) → AgreeOn SameStatusButBudget asked → (status ≡ n) ⊎ IsUndone status
      exactly_there unbudgeted agree =
          elim (wherever asked failed status out err files story.due is_due story.written SameStatusButBudget (λ d. inl refl) agree n d may is) [
            | inl undone ↦ inr undone
            | inr (inl same, ends) ↦ inl (ends ∙ same ∙ is)
            | inr (inr one, ends) ↦ absurd (unbudgeted (other_budgeted n story.due d is one))
          ]

  -- an answer of a kind, and its text
  pub answered_with : (kind : AnswerKind) → IfSome held (λ files. status ≡ status_of kind → (text : List ℕ) × ComesTo (AsHeld files) asked (Answered kind text)
      × Took out text)
  answered_with kind =
      where_told (λ files. status ≡ status_of kind → (text : List ℕ) × ComesTo (AsHeld files) asked (Answered kind text) × Took out text) (λ files is_due e.
      elim (told asked failed status out err (Some files) story.due is_due story.written) [
        | inl undone ↦ absurd (kind_free kind (subst IsUndone e undone))
        | inr (may, whole) ↦ let (text, comes, shown) = answer_told (AsHeld files) asked kind story.due may (sym whole.ends ∙ e) in
            (text, comes, subst (Took out) shown whole.to_out)
      ])

  -- a command that no budget leaves open
  pub exact_clause : AgreeOn SameStatus asked → IsExact asked held status
  exact_clause agree = where_told (λ files. (kind : AnswerKind) → Exactly (status_of kind) status (HasAnswer asked files kind)) (λ files is_due kind. (
    only_there files is_due (status_of kind) (HasAnswer asked files kind) (kind_free kind) (answer_from (AsHeld files) asked kind),
    λ (text, comes). let (d, may, is) = verdict_to (AsHeld files) asked (Answered kind text) comes in same_there files is_due (status_of kind) d may is agree,
  ))

  module _ (agree : AgreeOn SameStatusButBudget asked) where
    -- a status that no budget keeps a command from
    exactly : (n : ℕ) (cause : List File → Type 0) → (IsUndone n → ⊥) → (IsBudgeted n → ⊥)
        → ((files : List File) (d : Outcome) → MayCome (AsHeld files) asked d → d.status ≡ n → cause files)
        → ((files : List File) → cause files → (d : Outcome) × MayCome (AsHeld files) asked d × (d.status ≡ n))
        → IfSome held (λ files. Exactly n status (cause files))
    exactly n cause is_free unbudgeted from to = where_told (λ files. Exactly n status (cause files)) (λ files is_due. (
      only_there files is_due n (cause files) is_free (from files),
      λ so. let (d, may, is) = to files so in exactly_there files is_due n d may is unbudgeted agree,
    ))

    in_budget : (kind : AnswerKind) → (status_of kind ≡ 4 → ⊥) → IfSome held (λ files. ExactlyInBudget (status_of kind) status (HasAnswer asked files kind))
    in_budget kind not_four = where_told (λ files. ExactlyInBudget (status_of kind) status (HasAnswer asked files kind)) (λ files is_due. (
      only_there files is_due (status_of kind) (HasAnswer asked files kind) (kind_free kind) (answer_from (AsHeld files) asked kind),
      λ (text, comes). let (d, may, is) = verdict_to (AsHeld files) asked (Answered kind text) comes in
          budget_there files is_due (status_of kind) d may is not_four agree,
    ))

    answer_exactly : (kind : AnswerKind) → (IsBudgeted (status_of kind) → ⊥) →
        IfSome held (λ files. Exactly (status_of kind) status (HasAnswer asked files kind))
    answer_exactly kind unbudgeted =
        exactly (status_of kind) (λ files. HasAnswer asked files kind) (kind_free kind) unbudgeted (λ files. answer_from (AsHeld files) asked kind)
        (λ files (text, comes). verdict_to (AsHeld files) asked (Answered kind text) comes)

    pub statuses_clause : Statuses asked held failed before after status out err
    statuses_clause = record {
      known = known_clause;
      done = in_budget Done (λ e. differ 0 4 e refl);
      bad_words = bad_words_clause;
      refused = exactly 2 (IsRefused asked) (free 2 refl refl refl) (unbudgeted 2 refl refl refl refl) (λ files. refused_from (AsHeld files) asked)
          (λ files (name, text, comes). verdict_to (AsHeld files) asked (Refused name text) comes);
      tie = in_budget Tie (λ e. differ 3 4 e refl);
      spent = where_told (λ files. status ≡ 4 → HasAnswer asked files Spent)
          (λ files is_due. only_there files is_due 4 (HasAnswer asked files Spent) (kind_free Spent) (answer_from (AsHeld files) asked Spent));
      full_count = in_budget FullCount (λ e. differ 5 4 e refl);
      differs = answer_exactly Differs (unbudgeted 6 refl refl refl refl);
      read_fault = read_fault_clause;
      write_fault = write_fault_clause;
      write_told = write_told_clause;
      memory = memory_clause;
      unconfirmed = answer_exactly Unconfirmed (unbudgeted 10 refl refl refl refl);
      too_long = exactly 11 (λ files. HasFile asked files TooLong) (free 11 refl refl refl) (unbudgeted 11 refl refl refl refl) (λ files. too_long_from files asked)
          (λ files (name, comes, there). stop_to (AsHeld files) asked name TooLong (too_long name) comes there refl);
      missing = exactly 12 (λ files. HasFile asked files Missing) (free 12 refl refl refl) (unbudgeted 12 refl refl refl refl) (λ files. missing_from files asked)
          (λ files (name, comes, there). stop_to (AsHeld files) asked name Missing (no_such_file name) comes there refl);
    }

  -- ---- an audit of several contests

  module _ (agree : AgreeOn SameButContests asked) where
    module _ (files : List File) (is_due : IsDue (ByDesk (Some files) failed) asked story.due) (n : ℕ) (d : Outcome) (may : MayCome (AsHeld files) asked d)
        (is : d.status ≡ n) where
      contests_there : IsOfContests n → IsOfContests status ⊎ IsUndone status
      contests_there of =
          elim (wherever asked failed status out err files story.due is_due story.written SameButContests (λ d. inl refl) agree n d may is) [
            | inl undone ↦ inr undone
            | inr (inl same, ends) ↦ inl (subst IsOfContests (sym (ends ∙ ap status_in same ∙ is)) of)
            | inr (inr (own, other), ends) ↦ inl (subst IsOfContests (sym ends) own)
          ]

      beside_contests : (IsOfContests n → ⊥) → (status ≡ n) ⊎ IsUndone status
      beside_contests not_of =
          elim (wherever asked failed status out err files story.due is_due story.written SameButContests (λ d. inl refl) agree n d may is) [
            | inl undone ↦ inr undone
            | inr (inl same, ends) ↦ inl (ends ∙ ap status_in same ∙ is)
            | inr (inr (own, other), ends) ↦ absurd (not_of (subst IsOfContests is other))
          ]

    in_contests : (n : ℕ) (cause : List File → Type 0) → (IsUndone n → ⊥) → IsOfContests n
        → ((files : List File) (d : Outcome) → MayCome (AsHeld files) asked d → d.status ≡ n → cause files)
        → ((files : List File) → cause files → (d : Outcome) × MayCome (AsHeld files) asked d × (d.status ≡ n))
        → IfSome held (λ files. ExactlyInContests n status (cause files))
    in_contests n cause is_free of from to = where_told (λ files. ExactlyInContests n status (cause files)) (λ files is_due. (
      only_there files is_due n (cause files) is_free (from files),
      λ so. let (d, may, is) = to files so in contests_there files is_due n d may is of,
    ))

    beside : (n : ℕ) (cause : List File → Type 0) → (IsUndone n → ⊥) → (IsOfContests n → ⊥)
        → ((files : List File) (d : Outcome) → MayCome (AsHeld files) asked d → d.status ≡ n → cause files)
        → ((files : List File) → cause files → (d : Outcome) × MayCome (AsHeld files) asked d × (d.status ≡ n))
        → IfSome held (λ files. Exactly n status (cause files))
    beside n cause is_free not_of from to = where_told (λ files. Exactly n status (cause files)) (λ files is_due. (
      only_there files is_due n (cause files) is_free (from files),
      λ so. let (d, may, is) = to files so in beside_contests files is_due n d may is not_of,
    ))

    pub contests_clause : ContestsStatuses asked held failed before after status out err
    contests_clause = record {
      known = known_clause;
      done = in_contests 0 (λ files. HasAnswer asked files Done) (kind_free Done) (inl refl) (λ files. answer_from (AsHeld files) asked Done)
          (λ files (text, comes). verdict_to (AsHeld files) asked (Answered Done text) comes);
      refused = in_contests 2 (IsRefused asked) (free 2 refl refl refl) (inr (inl refl)) (λ files. refused_from (AsHeld files) asked)
          (λ files (name, text, comes). verdict_to (AsHeld files) asked (Refused name text) comes);
      unconfirmed = in_contests 10 (λ files. HasAnswer asked files Unconfirmed) (kind_free Unconfirmed) (inr (inr refl))
          (λ files. answer_from (AsHeld files) asked Unconfirmed)
          (λ files (text, comes). verdict_to (AsHeld files) asked (Answered Unconfirmed text) comes);
      read_fault = read_fault_clause;
      write_fault = write_fault_clause;
      write_told = write_told_clause;
      memory = memory_clause;
      too_long = beside 11 (λ files. HasFile asked files TooLong) (free 11 refl refl refl) (λ of. omega (arith, of)) (λ files. too_long_from files asked)
          (λ files (name, comes, there). stop_to (AsHeld files) asked name TooLong (too_long name) comes there refl);
      missing = beside 12 (λ files. HasFile asked files Missing) (free 12 refl refl refl) (λ of. omega (arith, of)) (λ files. missing_from files asked)
          (λ files (name, comes, there). stop_to (AsHeld files) asked name Missing (no_such_file name) comes there refl);
    }
