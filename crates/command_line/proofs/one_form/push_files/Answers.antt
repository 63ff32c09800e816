use Rattle.std.proofs.Common.{◌∙◌, ap}
use Rattle.command_line.specs.Line.{file}
use Rattle.command_line.specs.Pieces.{pieces}
use Rattle.command_line.specs.Words.{texts}
use Rattle.command_line.proofs.Texts.{file_pushed}
use Rattle.command_line.proofs.one_form.push_files.Goals as goal

pub loop-i-preserved : goal.loop-i-preserved
loop-i-preserved c =
    file_pushed c.loop-i.line.items c.push.new.self.items c.in_ok-from_str.field-0 (texts c.args.line.now.items) c.loop-i.i
    (pieces c.args.options.now (texts c.args.words.now))
    c.in_ok-push.ensures.items
    (c.in_ok-from_str.ensures.ok ∙ c.file-name.ensures ∙ ap (file c.loop-i.i) c.of.ensures)
    c.loop-i.invariant
