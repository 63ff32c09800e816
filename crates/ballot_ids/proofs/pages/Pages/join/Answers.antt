use Rattle.ballot_ids.proofs.PagesLeft.{open-put}
use Rattle.ballot_ids.proofs.pages.Pages.join.Goals as goal

pub returns : goal.returns
returns c =
    let closed = c.in_ok-put_closed.ensures in
    let opened = c.in_ok-put.ensures in
    open-put c.args.self.now c.args.other.now c.put_closed.new.self c.put.new.self closed.put closed.same opened.put opened.others
