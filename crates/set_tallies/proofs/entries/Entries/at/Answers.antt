use Rattle.std.proofs.Common.{◌≡◌, ◌<◌, length, get_or, ap, ap₂, sym, arith, ◌∙◌}
use Rattle.std.proofs.lemmas.List.{get_or_default}
use Rattle.set_tallies.specs.Listings.{entry_of}
use Rattle.set_tallies.specs.declared.entry.Entry.{Entry}
use Rattle.set_tallies.proofs.Paired.{entry-at, length-paired}
use Rattle.set_tallies.proofs.entries.Entries.at.Goals as goal

pub index-requires : goal.index-requires
index-requires c =
    let own = c.self.inside in
    omega (
      arith,
      c.requires,
      own.sets.ok.0,
      length-paired own.sets.items own.counts.items c.self.invariant,
      ap (λ e. length e.items) c.self.view_is,
    )

pub index-requires-2 : goal.index-requires-2
index-requires-2 c =
    let own = c.self.inside in
    omega (
      arith,
      c.requires,
      own.counts.ok.0,
      c.self.invariant,
      length-paired own.sets.items own.counts.items c.self.invariant,
      ap (λ e. length e.items) c.self.view_is,
    )

pub returns : goal.returns
returns c =
    let own = c.self.inside in
    let i = c.args.i in
    let set = c.index.result.now in
    let count = c.index-2.result.now in
    let entry : Entry = record { before = set; count = count } in
    let long = length-paired own.sets.items own.counts.items c.self.invariant in
    let there : i < length own.sets.items = omega (arith, c.requires, long, ap (λ e. length e.items) c.self.view_is) in
    let first : get_or own.sets.items i 0 ≡ set = get_or_default own.sets.items i 0 set there ∙ sym c.index.ensures in
    let second : get_or own.counts.items i 0 ≡ count =
    get_or_default own.counts.items i 0 count (omega (arith, there, c.self.invariant)) ∙ sym c.index-2.ensures in
    sym (ap (λ e. get_or e.items i entry) (sym c.self.view_is) ∙ entry-at own.sets.items own.counts.items i entry c.self.invariant there ∙ ap₂ entry_of first second)
