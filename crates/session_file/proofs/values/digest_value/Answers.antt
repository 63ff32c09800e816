use Rattle.std.proofs.lemmas.List.{get_or_default}
use Rattle.session_file.proofs.values.digest_value.Goals as goal

pub returns-clause-form : goal.returns-clause-form
returns-clause-form c = record {
  long = c.told-digest;
  bytes = λ k d within. rw (get_or_default c.args.digest.now k d 0 within) (c.fits-digest k);
}
